-- Whole calls: the order of the refusals before a run, buffers short by a word or more, ceilings and limits at their bounds, with the seven numbers
-- and the words of the buffers, each of which was 7: all of them where nothing is written, else those of book and report. By computation:
-- reference/telling.py makes this file from the answers of `reference answer`. Assumes nothing.
use mathlib.Core.Path.{◌≡◌, refl}
use mathlib.Core.List.{List, [], ◌∷◌, ◌++◌}
use Prim.Native.Nat.{ℕ}
use lib.ListN.{take, drop, replicate}
use Rattle.kinds.specs.Kinds.{parts_of, row_of, find as find_row, table, begins, head_of}
use Rattle.sheet.specs.Plan.{plan_of, declarations, bindings_in, end_from, entries_end, places_of, part_line, is_plain, names, plain_entries, plain_plan, lookup, triples}
use Rattle.judgment.specs.Types.{view, occurs, is_monotype, substitute, rename, front_names, after_front, can_unify}
use Rattle.judgment.specs.Terms.{term_view, lambda_of}
use Rattle.judgment.specs.Solutions.{find, links, any_solved, write_out_by, write_out, solution_nodes}
use Rattle.judgment.specs.Board.{board_nodes, find_var, before, perform, operations}
use Rattle.judgment.specs.Rules.{instantiate_from, subtype, open_names, signature_from, insert, push_vars, check_patterns, check_arms, infer_app}
use Rattle.judgment.specs.Run.{run_from, check_type}
use Rattle.judgment.specs.Result.{numbers, Buffers, Called, limits_for, result_of, run_of, judge, padded, place_from, threes_from, node_words, book_words, report_words, call}
use Rattle.judgment.specs.Levels.{Mode, first_call, strict_call, put, lower, level_made, level_after, levels_after, none_above}
use Rattle.spelling.specs.Spelling.{field_from, line_of, line_at, lines_from, lines_of, first_misspelt}
use Rattle.spelling.specs.Text.{field_text, line_text}
use Rattle.grammar.specs.Grammar.{declared_by, arms, following, read, read_at}
use Rattle.grammar.specs.Check.{read_sheet, check}
use Rattle.nodes.specs.Nodes.{words}
use Rattle.spelling.specs.declared.Triple.{Triple}
use Rattle.judgment.proofs.Wall.{l}

abbrev text : List Triple → List ℕ
text [] = []
text (t ∷ ts) = line_text t ++ text ts

-- so many times each word
abbrev laid : List (ℕ × ℕ) → List ℕ
laid [] = []
laid (p ∷ ps) = replicate p.0 p.1 ++ laid ps

abbrev filled : List (ℕ × ℕ) → List (ℕ × ℕ) → List (ℕ × ℕ) → Buffers
filled board book report = record { board = laid board; book = laid book; report = laid report }

unfoldable pub called : Mode → List ℕ → ℕ → ℕ → ℕ → ℕ → ℕ → Called
called m s c w board book report = call m s c w (filled ((board, 7) ∷ []) ((book, 7) ∷ []) ((report, 7) ∷ []))

-- refused before a run: the seven numbers and every word of the buffers
abbrev Refused : Type 0
Refused = List ℕ × Buffers

unfoldable pub refused : Mode → List ℕ → ℕ → ℕ → ℕ → ℕ → ℕ → Refused
refused m s c w board book report = let r = called m s c w board book report in (numbers r.answer, r.after)

-- run: the seven numbers, and the words that `book-after` and `report-after` of Calls.antt say to stand in book and report
abbrev Ran : Type 0
Ran = List ℕ × List ℕ × List ℕ

unfoldable pub ran : Mode → List ℕ → ℕ → ℕ → ℕ → ℕ → ℕ → Ran
ran m s c w board book report =
    let r = judge (limits_for m w) c (triples s) in
    (numbers (called m s c w board book report).answer, book_words r.solutions r.levels r.answer.fresh, report_words w r.report)

abbrev whole : List ℕ
whole = text (l 3 0 0 ∷ l 12 1 0 ∷ l 4 0 0 ∷ l 22 7 0 ∷ [])

abbrev bool : List ℕ
bool = text (l 3 0 0 ∷ l 12 2 0 ∷ l 4 0 0 ∷ l 22 7 0 ∷ [])

abbrev unsolved : List ℕ
unsolved = text (l 3 0 0 ∷ l 12 1 0 ∷ l 4 0 0 ∷ l 27 0 1 ∷ l 22 7 0 ∷ l 41 0 0 ∷ l 21 99 0 ∷ [])

abbrev split : List ℕ
split = text (l 3 0 0 ∷ l 13 0 0 ∷ l 12 1 0 ∷ l 14 11 0 ∷ l 11 11 0 ∷ l 4 0 0 ∷ l 27 0 0 ∷ l 22 7 0 ∷ [])

abbrev length : List ℕ
length = drop 1 whole

abbrev misspelt : List ℕ
misspelt = take 29 whole ++ (replicate 29 32 ++ drop 58 whole)

abbrev unfit : List ℕ
unfit = whole ++ drop 87 whole

abbrev both : List ℕ
both = drop 58 whole ++ (whole ++ replicate 29 32)

abbrev all : List ℕ
all = 32 ∷ (drop 58 whole ++ (whole ++ replicate 29 32))

abbrev calls_refused0 : List Refused
calls_refused0 =
    refused first_call length 10000 1024 12288 11192 4096 ∷  -- sheet length
    refused first_call misspelt 10000 1024 12288 11192 4096 ∷  -- sheet misspelt
    refused first_call unfit 10000 1024 12288 11192 4096 ∷  -- sheet unfit
    refused first_call both 10000 1024 12288 11192 4096 ∷  -- sheet both
    refused first_call all 10000 1024 12288 11192 4096 ∷  -- sheet all
    refused first_call whole 10000 1024 2 3 1 ∷  -- short buffers
    refused first_call length 10000 1024 2 3 1 ∷  -- short buffers and sheet length
    refused first_call misspelt 10000 1024 2 3 1 ∷  -- short buffers and sheet misspelt
    refused first_call unfit 10000 1024 2 3 1 ∷  -- short buffers and sheet unfit
    refused first_call both 10000 1024 2 3 1 ∷  -- short buffers and sheet both
    []

pub refused0 : calls_refused0 ≡
    (3 ∷ 0 ∷ 0 ∷ 0 ∷ 0 ∷ 0 ∷ 0 ∷ [], filled ((12288, 7) ∷ []) ((11192, 7) ∷ []) ((4096, 7) ∷ [])) ∷
    (4 ∷ 2 ∷ 0 ∷ 0 ∷ 0 ∷ 0 ∷ 0 ∷ [], filled ((12288, 7) ∷ []) ((11192, 7) ∷ []) ((4096, 7) ∷ [])) ∷
    (5 ∷ 5 ∷ 0 ∷ 0 ∷ 0 ∷ 0 ∷ 0 ∷ [], filled ((12288, 7) ∷ []) ((11192, 7) ∷ []) ((4096, 7) ∷ [])) ∷
    (4 ∷ 7 ∷ 0 ∷ 0 ∷ 0 ∷ 0 ∷ 0 ∷ [], filled ((12288, 7) ∷ []) ((11192, 7) ∷ []) ((4096, 7) ∷ [])) ∷
    (3 ∷ 0 ∷ 0 ∷ 0 ∷ 0 ∷ 0 ∷ 0 ∷ [], filled ((12288, 7) ∷ []) ((11192, 7) ∷ []) ((4096, 7) ∷ [])) ∷
    (2 ∷ 0 ∷ 0 ∷ 0 ∷ 0 ∷ 0 ∷ 0 ∷ [], filled ((2, 7) ∷ []) ((3, 7) ∷ []) ((1, 7) ∷ [])) ∷
    (2 ∷ 0 ∷ 0 ∷ 0 ∷ 0 ∷ 0 ∷ 0 ∷ [], filled ((2, 7) ∷ []) ((3, 7) ∷ []) ((1, 7) ∷ [])) ∷
    (2 ∷ 0 ∷ 0 ∷ 0 ∷ 0 ∷ 0 ∷ 0 ∷ [], filled ((2, 7) ∷ []) ((3, 7) ∷ []) ((1, 7) ∷ [])) ∷
    (2 ∷ 0 ∷ 0 ∷ 0 ∷ 0 ∷ 0 ∷ 0 ∷ [], filled ((2, 7) ∷ []) ((3, 7) ∷ []) ((1, 7) ∷ [])) ∷
    (2 ∷ 0 ∷ 0 ∷ 0 ∷ 0 ∷ 0 ∷ 0 ∷ [], filled ((2, 7) ∷ []) ((3, 7) ∷ []) ((1, 7) ∷ [])) ∷
    []
unfolding refused called parts_of row_of find_row table begins head_of plan_of declarations bindings_in end_from entries_end places_of part_line is_plain names plain_entries plain_plan lookup triples view occurs is_monotype substitute rename front_names after_front can_unify term_view lambda_of find links any_solved write_out_by write_out solution_nodes board_nodes find_var before perform operations instantiate_from subtype open_names signature_from insert push_vars check_patterns check_arms infer_app run_from check_type result_of run_of judge padded place_from threes_from node_words book_words report_words call put lower level_made level_after levels_after none_above field_from line_of line_at lines_from lines_of first_misspelt field_text line_text declared_by arms following read read_at read_sheet check words
refused0 = refl

abbrev calls_refused1 : List Refused
calls_refused1 =
    refused first_call all 10000 1024 2 3 1 ∷  -- short buffers and sheet all
    refused first_call whole 10000 4097 12288 11192 4096 ∷  -- limit 4097
    refused first_call whole 10000 4097 2 3 1 ∷  -- limit 4097 and short buffers
    refused first_call length 10000 4097 2 3 1 ∷  -- limit 4097 and short buffers and sheet length
    refused first_call misspelt 10000 4097 2 3 1 ∷  -- limit 4097 and short buffers and sheet misspelt
    refused first_call unfit 10000 4097 2 3 1 ∷  -- limit 4097 and short buffers and sheet unfit
    refused first_call both 10000 4097 2 3 1 ∷  -- limit 4097 and short buffers and sheet both
    refused first_call all 10000 4097 2 3 1 ∷  -- limit 4097 and short buffers and sheet all
    refused first_call whole 10001 1024 12288 11192 4096 ∷  -- ceiling 10001
    refused first_call whole 10001 1024 2 3 1 ∷  -- ceiling 10001 and short buffers
    []

pub refused1 : calls_refused1 ≡
    (2 ∷ 0 ∷ 0 ∷ 0 ∷ 0 ∷ 0 ∷ 0 ∷ [], filled ((2, 7) ∷ []) ((3, 7) ∷ []) ((1, 7) ∷ [])) ∷
    (32 ∷ 0 ∷ 0 ∷ 0 ∷ 0 ∷ 0 ∷ 0 ∷ [], filled ((12288, 7) ∷ []) ((11192, 7) ∷ []) ((4096, 7) ∷ [])) ∷
    (32 ∷ 0 ∷ 0 ∷ 0 ∷ 0 ∷ 0 ∷ 0 ∷ [], filled ((2, 7) ∷ []) ((3, 7) ∷ []) ((1, 7) ∷ [])) ∷
    (32 ∷ 0 ∷ 0 ∷ 0 ∷ 0 ∷ 0 ∷ 0 ∷ [], filled ((2, 7) ∷ []) ((3, 7) ∷ []) ((1, 7) ∷ [])) ∷
    (32 ∷ 0 ∷ 0 ∷ 0 ∷ 0 ∷ 0 ∷ 0 ∷ [], filled ((2, 7) ∷ []) ((3, 7) ∷ []) ((1, 7) ∷ [])) ∷
    (32 ∷ 0 ∷ 0 ∷ 0 ∷ 0 ∷ 0 ∷ 0 ∷ [], filled ((2, 7) ∷ []) ((3, 7) ∷ []) ((1, 7) ∷ [])) ∷
    (32 ∷ 0 ∷ 0 ∷ 0 ∷ 0 ∷ 0 ∷ 0 ∷ [], filled ((2, 7) ∷ []) ((3, 7) ∷ []) ((1, 7) ∷ [])) ∷
    (32 ∷ 0 ∷ 0 ∷ 0 ∷ 0 ∷ 0 ∷ 0 ∷ [], filled ((2, 7) ∷ []) ((3, 7) ∷ []) ((1, 7) ∷ [])) ∷
    (1 ∷ 0 ∷ 0 ∷ 0 ∷ 0 ∷ 0 ∷ 0 ∷ [], filled ((12288, 7) ∷ []) ((11192, 7) ∷ []) ((4096, 7) ∷ [])) ∷
    (1 ∷ 0 ∷ 0 ∷ 0 ∷ 0 ∷ 0 ∷ 0 ∷ [], filled ((2, 7) ∷ []) ((3, 7) ∷ []) ((1, 7) ∷ [])) ∷
    []
unfolding refused called parts_of row_of find_row table begins head_of plan_of declarations bindings_in end_from entries_end places_of part_line is_plain names plain_entries plain_plan lookup triples view occurs is_monotype substitute rename front_names after_front can_unify term_view lambda_of find links any_solved write_out_by write_out solution_nodes board_nodes find_var before perform operations instantiate_from subtype open_names signature_from insert push_vars check_patterns check_arms infer_app run_from check_type result_of run_of judge padded place_from threes_from node_words book_words report_words call put lower level_made level_after levels_after none_above field_from line_of line_at lines_from lines_of first_misspelt field_text line_text declared_by arms following read read_at read_sheet check words
refused1 = refl

abbrev calls_refused2 : List Refused
calls_refused2 =
    refused first_call length 10001 1024 2 3 1 ∷  -- ceiling 10001 and short buffers and sheet length
    refused first_call misspelt 10001 1024 2 3 1 ∷  -- ceiling 10001 and short buffers and sheet misspelt
    refused first_call unfit 10001 1024 2 3 1 ∷  -- ceiling 10001 and short buffers and sheet unfit
    refused first_call both 10001 1024 2 3 1 ∷  -- ceiling 10001 and short buffers and sheet both
    refused first_call all 10001 1024 2 3 1 ∷  -- ceiling 10001 and short buffers and sheet all
    refused first_call whole 10001 4097 2 3 1 ∷  -- ceiling 10001 and limit 4097 and short buffers
    refused first_call length 10001 4097 2 3 1 ∷  -- ceiling 10001 and limit 4097 and short buffers and sheet length
    refused first_call misspelt 10001 4097 2 3 1 ∷  -- ceiling 10001 and limit 4097 and short buffers and sheet misspelt
    refused first_call unfit 10001 4097 2 3 1 ∷  -- ceiling 10001 and limit 4097 and short buffers and sheet unfit
    refused first_call both 10001 4097 2 3 1 ∷  -- ceiling 10001 and limit 4097 and short buffers and sheet both
    []

pub refused2 : calls_refused2 ≡
    (1 ∷ 0 ∷ 0 ∷ 0 ∷ 0 ∷ 0 ∷ 0 ∷ [], filled ((2, 7) ∷ []) ((3, 7) ∷ []) ((1, 7) ∷ [])) ∷
    (1 ∷ 0 ∷ 0 ∷ 0 ∷ 0 ∷ 0 ∷ 0 ∷ [], filled ((2, 7) ∷ []) ((3, 7) ∷ []) ((1, 7) ∷ [])) ∷
    (1 ∷ 0 ∷ 0 ∷ 0 ∷ 0 ∷ 0 ∷ 0 ∷ [], filled ((2, 7) ∷ []) ((3, 7) ∷ []) ((1, 7) ∷ [])) ∷
    (1 ∷ 0 ∷ 0 ∷ 0 ∷ 0 ∷ 0 ∷ 0 ∷ [], filled ((2, 7) ∷ []) ((3, 7) ∷ []) ((1, 7) ∷ [])) ∷
    (1 ∷ 0 ∷ 0 ∷ 0 ∷ 0 ∷ 0 ∷ 0 ∷ [], filled ((2, 7) ∷ []) ((3, 7) ∷ []) ((1, 7) ∷ [])) ∷
    (1 ∷ 0 ∷ 0 ∷ 0 ∷ 0 ∷ 0 ∷ 0 ∷ [], filled ((2, 7) ∷ []) ((3, 7) ∷ []) ((1, 7) ∷ [])) ∷
    (1 ∷ 0 ∷ 0 ∷ 0 ∷ 0 ∷ 0 ∷ 0 ∷ [], filled ((2, 7) ∷ []) ((3, 7) ∷ []) ((1, 7) ∷ [])) ∷
    (1 ∷ 0 ∷ 0 ∷ 0 ∷ 0 ∷ 0 ∷ 0 ∷ [], filled ((2, 7) ∷ []) ((3, 7) ∷ []) ((1, 7) ∷ [])) ∷
    (1 ∷ 0 ∷ 0 ∷ 0 ∷ 0 ∷ 0 ∷ 0 ∷ [], filled ((2, 7) ∷ []) ((3, 7) ∷ []) ((1, 7) ∷ [])) ∷
    (1 ∷ 0 ∷ 0 ∷ 0 ∷ 0 ∷ 0 ∷ 0 ∷ [], filled ((2, 7) ∷ []) ((3, 7) ∷ []) ((1, 7) ∷ [])) ∷
    []
unfolding refused called parts_of row_of find_row table begins head_of plan_of declarations bindings_in end_from entries_end places_of part_line is_plain names plain_entries plain_plan lookup triples view occurs is_monotype substitute rename front_names after_front can_unify term_view lambda_of find links any_solved write_out_by write_out solution_nodes board_nodes find_var before perform operations instantiate_from subtype open_names signature_from insert push_vars check_patterns check_arms infer_app run_from check_type result_of run_of judge padded place_from threes_from node_words book_words report_words call put lower level_made level_after levels_after none_above field_from line_of line_at lines_from lines_of first_misspelt field_text line_text declared_by arms following read read_at read_sheet check words
refused2 = refl

abbrev calls_refused3 : List Refused
calls_refused3 =
    refused first_call all 10001 4097 2 3 1 ∷  -- ceiling 10001 and limit 4097 and short buffers and sheet all
    refused first_call whole 10000 1024 12287 11192 4096 ∷  -- board short by 1
    refused first_call whole 10000 1024 0 11192 4096 ∷  -- board short by 12288
    refused first_call whole 10000 1024 12288 11191 4096 ∷  -- book short by 1
    refused first_call whole 10000 1024 12288 0 4096 ∷  -- book short by 11192
    refused first_call whole 10000 1024 12288 11192 4095 ∷  -- report short by 1
    refused first_call whole 10000 1024 12288 11192 0 ∷  -- report short by 4096
    refused first_call bool 10000 0 12288 11192 0 ∷  -- limit 0
    refused first_call bool 10000 4097 12288 11192 16384 ∷  -- limit 4097
    refused first_call bool 10000 4294967295 12288 11192 16384 ∷  -- limit 4294967295
    []

pub refused3 : calls_refused3 ≡
    (1 ∷ 0 ∷ 0 ∷ 0 ∷ 0 ∷ 0 ∷ 0 ∷ [], filled ((2, 7) ∷ []) ((3, 7) ∷ []) ((1, 7) ∷ [])) ∷
    (2 ∷ 0 ∷ 0 ∷ 0 ∷ 0 ∷ 0 ∷ 0 ∷ [], filled ((12287, 7) ∷ []) ((11192, 7) ∷ []) ((4096, 7) ∷ [])) ∷
    (2 ∷ 0 ∷ 0 ∷ 0 ∷ 0 ∷ 0 ∷ 0 ∷ [], filled ([]) ((11192, 7) ∷ []) ((4096, 7) ∷ [])) ∷
    (2 ∷ 0 ∷ 0 ∷ 0 ∷ 0 ∷ 0 ∷ 0 ∷ [], filled ((12288, 7) ∷ []) ((11191, 7) ∷ []) ((4096, 7) ∷ [])) ∷
    (2 ∷ 0 ∷ 0 ∷ 0 ∷ 0 ∷ 0 ∷ 0 ∷ [], filled ((12288, 7) ∷ []) ([]) ((4096, 7) ∷ [])) ∷
    (2 ∷ 0 ∷ 0 ∷ 0 ∷ 0 ∷ 0 ∷ 0 ∷ [], filled ((12288, 7) ∷ []) ((11192, 7) ∷ []) ((4095, 7) ∷ [])) ∷
    (2 ∷ 0 ∷ 0 ∷ 0 ∷ 0 ∷ 0 ∷ 0 ∷ [], filled ((12288, 7) ∷ []) ((11192, 7) ∷ []) ([])) ∷
    (32 ∷ 0 ∷ 0 ∷ 0 ∷ 0 ∷ 0 ∷ 0 ∷ [], filled ((12288, 7) ∷ []) ((11192, 7) ∷ []) ([])) ∷
    (32 ∷ 0 ∷ 0 ∷ 0 ∷ 0 ∷ 0 ∷ 0 ∷ [], filled ((12288, 7) ∷ []) ((11192, 7) ∷ []) ((16384, 7) ∷ [])) ∷
    (32 ∷ 0 ∷ 0 ∷ 0 ∷ 0 ∷ 0 ∷ 0 ∷ [], filled ((12288, 7) ∷ []) ((11192, 7) ∷ []) ((16384, 7) ∷ [])) ∷
    []
unfolding refused called parts_of row_of find_row table begins head_of plan_of declarations bindings_in end_from entries_end places_of part_line is_plain names plain_entries plain_plan lookup triples view occurs is_monotype substitute rename front_names after_front can_unify term_view lambda_of find links any_solved write_out_by write_out solution_nodes board_nodes find_var before perform operations instantiate_from subtype open_names signature_from insert push_vars check_patterns check_arms infer_app run_from check_type result_of run_of judge padded place_from threes_from node_words book_words report_words call put lower level_made level_after levels_after none_above field_from line_of line_at lines_from lines_of first_misspelt field_text line_text declared_by arms following read read_at read_sheet check words
refused3 = refl

abbrev calls_refused4 : List Refused
calls_refused4 =
    refused first_call bool 10000 1 12288 11192 3 ∷  -- limit 1, the report short by one
    refused first_call bool 10000 4096 12288 11192 16383 ∷  -- limit 4096, the report short by one
    refused first_call bool 10001 1024 12288 11192 4096 ∷  -- ceiling 10001
    refused first_call bool 4294967295 1024 12288 11192 4096 ∷  -- ceiling 4294967295
    refused strict_call split 10001 0 0 0 0 ∷  -- 1 of the strict call
    refused strict_call split 10000 0 0 0 0 ∷  -- 32 of the strict call
    refused strict_call split 10000 1 12288 11192 3 ∷  -- 2 of the strict call
    []

pub refused4 : calls_refused4 ≡
    (2 ∷ 0 ∷ 0 ∷ 0 ∷ 0 ∷ 0 ∷ 0 ∷ [], filled ((12288, 7) ∷ []) ((11192, 7) ∷ []) ((3, 7) ∷ [])) ∷
    (2 ∷ 0 ∷ 0 ∷ 0 ∷ 0 ∷ 0 ∷ 0 ∷ [], filled ((12288, 7) ∷ []) ((11192, 7) ∷ []) ((16383, 7) ∷ [])) ∷
    (1 ∷ 0 ∷ 0 ∷ 0 ∷ 0 ∷ 0 ∷ 0 ∷ [], filled ((12288, 7) ∷ []) ((11192, 7) ∷ []) ((4096, 7) ∷ [])) ∷
    (1 ∷ 0 ∷ 0 ∷ 0 ∷ 0 ∷ 0 ∷ 0 ∷ [], filled ((12288, 7) ∷ []) ((11192, 7) ∷ []) ((4096, 7) ∷ [])) ∷
    (1 ∷ 0 ∷ 0 ∷ 0 ∷ 0 ∷ 0 ∷ 0 ∷ [], filled ([]) ([]) ([])) ∷
    (32 ∷ 0 ∷ 0 ∷ 0 ∷ 0 ∷ 0 ∷ 0 ∷ [], filled ([]) ([]) ([])) ∷
    (2 ∷ 0 ∷ 0 ∷ 0 ∷ 0 ∷ 0 ∷ 0 ∷ [], filled ((12288, 7) ∷ []) ((11192, 7) ∷ []) ((3, 7) ∷ [])) ∷
    []
unfolding refused called parts_of row_of find_row table begins head_of plan_of declarations bindings_in end_from entries_end places_of part_line is_plain names plain_entries plain_plan lookup triples view occurs is_monotype substitute rename front_names after_front can_unify term_view lambda_of find links any_solved write_out_by write_out solution_nodes board_nodes find_var before perform operations instantiate_from subtype open_names signature_from insert push_vars check_patterns check_arms infer_app run_from check_type result_of run_of judge padded place_from threes_from node_words book_words report_words call put lower level_made level_after levels_after none_above field_from line_of line_at lines_from lines_of first_misspelt field_text line_text declared_by arms following read read_at read_sheet check words
refused4 = refl

abbrev calls_ran0 : List Ran
calls_ran0 =
    ran first_call bool 10000 1 12288 11192 4 ∷  -- limit 1
    ran first_call bool 10000 4096 12288 11192 16384 ∷  -- limit 4096
    ran first_call bool 0 1024 12288 11192 4096 ∷  -- ceiling 0
    []

pub ran0 : calls_ran0 ≡
    (15 ∷ 0 ∷ 4 ∷ 1 ∷ 1 ∷ 1 ∷ 1 ∷ [], laid ((1, 3000) ∷ (1, 1) ∷ (2998, 0) ∷ (1, 12) ∷ (1, 1) ∷ (8190, 0) ∷ []), laid ((1, 12) ∷ (1, 1) ∷ (1, 12) ∷ (1, 2) ∷ [])) ∷
    (15 ∷ 0 ∷ 4 ∷ 1 ∷ 1 ∷ 1 ∷ 1 ∷ [], laid ((1, 3000) ∷ (1, 1) ∷ (2998, 0) ∷ (1, 12) ∷ (1, 1) ∷ (8190, 0) ∷ []), laid ((1, 12) ∷ (1, 1) ∷ (1, 12) ∷ (1, 2) ∷ (16380, 0) ∷ [])) ∷
    (21 ∷ 0 ∷ 0 ∷ 0 ∷ 0 ∷ 0 ∷ 1 ∷ [], laid ((11192, 0) ∷ []), laid ((4096, 0) ∷ [])) ∷
    []
unfolding ran called parts_of row_of find_row table begins head_of plan_of declarations bindings_in end_from entries_end places_of part_line is_plain names plain_entries plain_plan lookup triples view occurs is_monotype substitute rename front_names after_front can_unify term_view lambda_of find links any_solved write_out_by write_out solution_nodes board_nodes find_var before perform operations instantiate_from subtype open_names signature_from insert push_vars check_patterns check_arms infer_app run_from check_type result_of run_of judge padded place_from threes_from node_words book_words report_words call put lower level_made level_after levels_after none_above field_from line_of line_at lines_from lines_of first_misspelt field_text line_text declared_by arms following read read_at read_sheet check words
ran0 = refl

abbrev calls_ran1 : List Ran
calls_ran1 =
    ran first_call bool 3 1024 12288 11192 4096 ∷  -- ceiling 3
    ran first_call bool 9999 1024 12288 11192 4096 ∷  -- ceiling 9999
    ran first_call bool 10000 1024 12288 11192 4096 ∷  -- ceiling 10000
    []

pub ran1 : calls_ran1 ≡
    (21 ∷ 0 ∷ 3 ∷ 1 ∷ 0 ∷ 0 ∷ 1 ∷ [], laid ((1, 3000) ∷ (1, 1) ∷ (2998, 0) ∷ (1, 12) ∷ (1, 1) ∷ (8190, 0) ∷ []), laid ((4096, 0) ∷ [])) ∷
    (15 ∷ 0 ∷ 4 ∷ 1 ∷ 1 ∷ 1 ∷ 1 ∷ [], laid ((1, 3000) ∷ (1, 1) ∷ (2998, 0) ∷ (1, 12) ∷ (1, 1) ∷ (8190, 0) ∷ []), laid ((1, 12) ∷ (1, 1) ∷ (1, 12) ∷ (1, 2) ∷ (4092, 0) ∷ [])) ∷
    (15 ∷ 0 ∷ 4 ∷ 1 ∷ 1 ∷ 1 ∷ 1 ∷ [], laid ((1, 3000) ∷ (1, 1) ∷ (2998, 0) ∷ (1, 12) ∷ (1, 1) ∷ (8190, 0) ∷ []), laid ((1, 12) ∷ (1, 1) ∷ (1, 12) ∷ (1, 2) ∷ (4092, 0) ∷ [])) ∷
    []
unfolding ran called parts_of row_of find_row table begins head_of plan_of declarations bindings_in end_from entries_end places_of part_line is_plain names plain_entries plain_plan lookup triples view occurs is_monotype substitute rename front_names after_front can_unify term_view lambda_of find links any_solved write_out_by write_out solution_nodes board_nodes find_var before perform operations instantiate_from subtype open_names signature_from insert push_vars check_patterns check_arms infer_app run_from check_type result_of run_of judge padded place_from threes_from node_words book_words report_words call put lower level_made level_after levels_after none_above field_from line_of line_at lines_from lines_of first_misspelt field_text line_text declared_by arms following read read_at read_sheet check words
ran1 = refl

abbrev calls_ran2 : List Ran
calls_ran2 =
    ran first_call unsolved 10000 1024 12288 11192 4096 ∷  -- unsolved by the first_call
    ran first_call split 10000 1024 12288 11192 4096 ∷  -- split by the first_call
    ran strict_call unsolved 10000 1024 12288 11192 4096 ∷  -- unsolved by the strict_call
    []

pub ran2 : calls_ran2 ≡
    (11 ∷ 0 ∷ 4 ∷ 3 ∷ 99 ∷ 0 ∷ 1 ∷ [], laid ((5, 0) ∷ (1, 1) ∷ (2, 0) ∷ (1, 2) ∷ (11183, 0) ∷ []), laid ((4096, 0) ∷ [])) ∷
    (0 ∷ 0 ∷ 16 ∷ 6 ∷ 0 ∷ 0 ∷ 0 ∷ [], laid ((1, 3004) ∷ (1, 3) ∷ (1, 0) ∷ (1, 3002) ∷ (2, 1) ∷ (1, 3000) ∷ (1, 1) ∷ (1, 2) ∷ (1, 3012) ∷ (1, 1) ∷ (1, 0) ∷ (1, 3010) ∷ (1, 1) ∷ (2986, 0) ∷ (1, 12) ∷ (1, 1) ∷ (1, 12) ∷ (1, 1) ∷ (1, 13) ∷ (1, 0) ∷ (1, 17) ∷ (1, 3) ∷ (1, 17) ∷ (1, 4) ∷ (1, 18) ∷ (1, 5) ∷ (1, 12) ∷ (1, 1) ∷ (8178, 0) ∷ []), laid ((4096, 0) ∷ [])) ∷
    (11 ∷ 0 ∷ 4 ∷ 3 ∷ 99 ∷ 0 ∷ 1 ∷ [], laid ((5, 0) ∷ (1, 1) ∷ (2, 0) ∷ (1, 2) ∷ (11183, 0) ∷ []), laid ((4096, 0) ∷ [])) ∷
    []
unfolding ran called parts_of row_of find_row table begins head_of plan_of declarations bindings_in end_from entries_end places_of part_line is_plain names plain_entries plain_plan lookup triples view occurs is_monotype substitute rename front_names after_front can_unify term_view lambda_of find links any_solved write_out_by write_out solution_nodes board_nodes find_var before perform operations instantiate_from subtype open_names signature_from insert push_vars check_patterns check_arms infer_app run_from check_type result_of run_of judge padded place_from threes_from node_words book_words report_words call put lower level_made level_after levels_after none_above field_from line_of line_at lines_from lines_of first_misspelt field_text line_text declared_by arms following read read_at read_sheet check words
ran2 = refl

abbrev calls_ran3 : List Ran
calls_ran3 =
    ran strict_call split 10000 1024 12288 11192 4096 ∷  -- split by the strict_call
    []

pub ran3 : calls_ran3 ≡
    (39 ∷ 0 ∷ 11 ∷ 6 ∷ 0 ∷ 0 ∷ 0 ∷ [], laid ((1, 3004) ∷ (1, 3) ∷ (1, 0) ∷ (1, 3002) ∷ (2, 1) ∷ (1, 3000) ∷ (1, 1) ∷ (1, 2) ∷ (2991, 0) ∷ (1, 12) ∷ (1, 1) ∷ (1, 12) ∷ (1, 1) ∷ (1, 13) ∷ (1, 0) ∷ (1, 17) ∷ (1, 3) ∷ (1, 17) ∷ (1, 4) ∷ (8182, 0) ∷ []), laid ((4096, 0) ∷ [])) ∷
    []
unfolding ran called parts_of row_of find_row table begins head_of plan_of declarations bindings_in end_from entries_end places_of part_line is_plain names plain_entries plain_plan lookup triples view occurs is_monotype substitute rename front_names after_front can_unify term_view lambda_of find links any_solved write_out_by write_out solution_nodes board_nodes find_var before perform operations instantiate_from subtype open_names signature_from insert push_vars check_patterns check_arms infer_app run_from check_type result_of run_of judge padded place_from threes_from node_words book_words report_words call put lower level_made level_after levels_after none_above field_from line_of line_at lines_from lines_of first_misspelt field_text line_text declared_by arms following read read_at read_sheet check words
ran3 = refl
