-- Calls that are refused before a run, and calls with low limits and the highest, with the answers of `reference answer`, by computation;
-- and books of several solutions, read back. Assumes nothing.
use mathlib.Core.Path.{◌≡◌, refl, sym, ap, subst, ◌∙◌}
use mathlib.Core.Bool.{cond, ◌||◌}
use mathlib.Core.List.{List, [], ◌∷◌, ◌++◌, map}
use Prim.Native.Nat.{ℕ, ◌+◌, ◌*◌, ◌≤◌}
use native.Mathlib.Nat.{zero-add}
use lib.Dec.{ltb}
use lib.ListN.{length, get_or, take, drop, replicate}
use lib.Seq.{sets-eq}
use Rattle.nodes.specs.Nodes.{Ty, words, nodes_at}
use Rattle.spelling.specs.declared.Triple.{Triple}
use Rattle.spelling.specs.Spelling.{field_from, line_of, line_at, lines_from, lines_of, first_misspelt}
use Rattle.spelling.specs.Text.{field_text, line_text}
use Rattle.kinds.specs.Kinds.{parts_of, row_of, find as find_row, table, begins, head_of}
use Rattle.grammar.specs.Grammar.{declared_by, arms, following, read, read_at}
use Rattle.grammar.specs.Check.{read_sheet, check}
use Rattle.sheet.specs.Plan.{triples, plan_of, declarations, bindings_in, end_from, entries_end, places_of, part_line, is_plain, names, plain_entries, plain_plan, lookup}
use Rattle.judgment.specs.Types.{view, occurs, is_monotype, substitute, rename, front_names, after_front, can_unify}
use Rattle.judgment.specs.Terms.{term_view, lambda_of}
use Rattle.judgment.specs.Solutions.{Solution, key, value, find, links, any_solved, write_out_by, write_out, solution_nodes}
use Rattle.judgment.specs.Board.{board_nodes, find_var, before, perform, operations}
use Rattle.judgment.specs.Rules.{instantiate_from, subtype, open_names, signature_from, insert, push_vars, check_patterns, check_arms, infer_app}
use Rattle.judgment.specs.Run.{run_from, check_type}
use Rattle.judgment.specs.Result.{Judged, numbers, Buffers, Called, padded, place_from, node_words, book_words, report_words, board_words, result_of, run_of, judge, limits_for, limits, refused_at, written, by_check, call, threes_from}
use Rattle.judgment.proofs.Words.{length-board, length-book, length-report}
use Rattle.judgment.proofs.Wall.{l, first_sheet, Row}
use Rattle.judgment.proofs.Telling.{answers}
use Rattle.judgment.specs.Levels.{own_levels, first_call}

abbrev buffers : ℕ → ℕ → ℕ → Buffers
buffers board book report = record { board = replicate board 7; book = replicate book 7; report = replicate report 7 }

abbrev pub refused_calls : List (ℕ × List ℕ)
refused_calls =
    (10000, []) ∷  -- the empty sheet
    (10000, drop 1 first_sheet) ∷  -- a byte is lacking
    (10000, take 29 first_sheet ++ (replicate 28 32 ++ (10 ∷ drop 58 first_sheet))) ∷  -- the second line is blank
    (10000, drop 29 (drop 29 first_sheet) ++ replicate 29 32) ∷  -- the first line may not stand first, and the last is misspelt
    (10000, take 29 first_sheet ++ (line_text (l 17 0 0) ++ drop 58 first_sheet)) ∷  -- kind 17, which stands in outputs only
    (10000, take 29 first_sheet ++ (line_text (l 18 0 0) ++ drop 58 first_sheet)) ∷  -- kind 18
    (10000, take 87 first_sheet) ∷  -- the term is lacking
    (10000, first_sheet ++ drop 87 first_sheet) ∷  -- a line after the term
    (10001, first_sheet) ∷  -- a ceiling of 10,001
    []

pub refused-calls : map (λ q. numbers (call first_call q.1 q.0 1024 (buffers 12288 11192 4096)).answer) refused_calls ≡
    (3 ∷ 0 ∷ 0 ∷ 0 ∷ 0 ∷ 0 ∷ 0 ∷ []) ∷
    (3 ∷ 0 ∷ 0 ∷ 0 ∷ 0 ∷ 0 ∷ 0 ∷ []) ∷
    (4 ∷ 2 ∷ 0 ∷ 0 ∷ 0 ∷ 0 ∷ 0 ∷ []) ∷
    (4 ∷ 3 ∷ 0 ∷ 0 ∷ 0 ∷ 0 ∷ 0 ∷ []) ∷
    (5 ∷ 2 ∷ 0 ∷ 0 ∷ 0 ∷ 0 ∷ 0 ∷ []) ∷
    (5 ∷ 2 ∷ 0 ∷ 0 ∷ 0 ∷ 0 ∷ 0 ∷ []) ∷
    (5 ∷ 4 ∷ 0 ∷ 0 ∷ 0 ∷ 0 ∷ 0 ∷ []) ∷
    (5 ∷ 5 ∷ 0 ∷ 0 ∷ 0 ∷ 0 ∷ 0 ∷ []) ∷
    (1 ∷ 0 ∷ 0 ∷ 0 ∷ 0 ∷ 0 ∷ 0 ∷ []) ∷
    []
unfolding call line_text field_text field_from line_of line_at lines_from lines_of first_misspelt find_row table row_of begins head_of declared_by arms following read read_at read_sheet check
refused-calls = refl

pub nothing_written : map (λ q. (call first_call q.1 q.0 1024 (buffers 12288 11192 4096)).after) refused_calls ≡ map (λ q. buffers 12288 11192 4096) refused_calls
unfolding call line_text field_text field_from line_of line_at lines_from lines_of first_misspelt find_row table row_of begins head_of declared_by arms following read read_at read_sheet check
nothing_written = refl

-- a buffer that is one word short: document 01's 2
pub short-buffers : map (λ b. numbers (call first_call first_sheet 10000 1024 b).answer) (buffers 12287 11192 4096 ∷ buffers 12288 11191 4096 ∷ buffers 12288 11192 4095 ∷ [])
    ≡ replicate 3 (2 ∷ 0 ∷ 0 ∷ 0 ∷ 0 ∷ 0 ∷ 0 ∷ [])
unfolding call line_text field_text
short-buffers = refl

-- with 1,024 the call is document 01's, and the run that under its limits
abbrev call01 : List ℕ → ℕ → Buffers → Called
call01 s c b =
    cond (ltb 10000 c) (record { answer = refused_at 1 0; after = b })
    (cond (ltb (length b.board) 12288 || (ltb (length b.book) 11192 || ltb (length b.report) 4096)) (record { answer = refused_at 2 0; after = b })
    (by_check first_call s c 1024 b (check s)))

pub usual-call : (s : List ℕ) (c : ℕ) (b : Buffers) → call first_call s c 1024 b ≡ call01 s c b
unfolding call
usual-call s c b = refl

pub usual-run : (c : ℕ) (ls : List Triple) → judge (limits_for first_call 1024) c ls ≡ judge limits c ls
usual-run c ls = refl

-- what a call asks for: ceiling, limit and buffers
abbrev asked : List (ℕ × ℕ × Buffers)
asked =
    (10001, 0, buffers 0 0 0) ∷
    (10000, 0, buffers 0 0 0) ∷
    (10000, 4097, buffers 0 0 0) ∷
    (10000, 4294967295, buffers 12288 11192 16384) ∷
    (10000, 1, buffers 12288 11192 3) ∷
    (10000, 4096, buffers 12288 11192 16383) ∷
    []

pub refused-asks : map (λ q. numbers (call first_call first_sheet q.0 q.1 q.2).answer) asked ≡
    (1 ∷ 0 ∷ 0 ∷ 0 ∷ 0 ∷ 0 ∷ 0 ∷ []) ∷
    (32 ∷ 0 ∷ 0 ∷ 0 ∷ 0 ∷ 0 ∷ 0 ∷ []) ∷
    (32 ∷ 0 ∷ 0 ∷ 0 ∷ 0 ∷ 0 ∷ 0 ∷ []) ∷
    (32 ∷ 0 ∷ 0 ∷ 0 ∷ 0 ∷ 0 ∷ 0 ∷ []) ∷
    (2 ∷ 0 ∷ 0 ∷ 0 ∷ 0 ∷ 0 ∷ 0 ∷ []) ∷
    (2 ∷ 0 ∷ 0 ∷ 0 ∷ 0 ∷ 0 ∷ 0 ∷ []) ∷
    []
unfolding call line_text field_text
refused-asks = refl

pub kept-by-asks : map (λ q. (call first_call first_sheet q.0 q.1 q.2).after) asked ≡ map (λ q. q.2) asked
unfolding call line_text field_text
kept-by-asks = refl

-- calls that come to a run with low limits and the highest: 7 as Int, as Bool and as Int → Int, with the report's words of `reference answer --words`
abbrev seven_as : List ℕ → List ℕ
seven_as t = take 29 first_sheet ++ (t ++ drop 58 first_sheet)

abbrev bool_sheet : List ℕ
bool_sheet = seven_as (line_text (l 12 2 0))

abbrev arrow_sheet : List ℕ
arrow_sheet = seven_as (line_text (l 13 0 0) ++ (line_text (l 12 1 0) ++ line_text (l 12 1 0)))

abbrev told : Called → List ℕ × List ℕ
told c = (numbers c.answer, c.after.report)

pub low-limits : told (call first_call first_sheet 10000 1 (buffers 12288 11192 6)) ∷ told (call first_call bool_sheet 10000 1 (buffers 12288 11192 6))
    ∷ told (call first_call arrow_sheet 10000 2 (buffers 12288 11192 10)) ∷ told (call first_call arrow_sheet 10000 3 (buffers 12288 11192 14)) ∷ [] ≡
    (0 ∷ 0 ∷ 5 ∷ 1 ∷ 0 ∷ 0 ∷ 1 ∷ [], 0 ∷ 0 ∷ 0 ∷ 0 ∷ 7 ∷ 7 ∷ []) ∷
    (15 ∷ 0 ∷ 4 ∷ 1 ∷ 1 ∷ 1 ∷ 1 ∷ [], 12 ∷ 1 ∷ 12 ∷ 2 ∷ 7 ∷ 7 ∷ []) ∷
    (23 ∷ 0 ∷ 4 ∷ 1 ∷ 0 ∷ 0 ∷ 1 ∷ [], 0 ∷ 0 ∷ 0 ∷ 0 ∷ 0 ∷ 0 ∷ 0 ∷ 0 ∷ 7 ∷ 7 ∷ []) ∷
    (15 ∷ 0 ∷ 4 ∷ 1 ∷ 1 ∷ 3 ∷ 1 ∷ [], 12 ∷ 1 ∷ 13 ∷ 0 ∷ 12 ∷ 1 ∷ 12 ∷ 1 ∷ 0 ∷ 0 ∷ 0 ∷ 0 ∷ 7 ∷ 7 ∷ []) ∷
    []
unfolding call line_text field_text field_from line_of line_at lines_from lines_of first_misspelt find_row table row_of begins head_of declared_by arms following read read_at read_sheet check triples judge result_of run_of check_type run_from perform operations board_nodes find_var before lookup instantiate_from subtype open_names signature_from insert push_vars check_patterns check_arms infer_app find links any_solved write_out_by write_out solution_nodes view term_view lambda_of occurs is_monotype substitute rename front_names after_front can_unify plan_of declarations bindings_in end_from entries_end places_of part_line is_plain names plain_entries plain_plan parts_of report_words padded words
low-limits = refl

pub highest-limit : numbers (call first_call first_sheet 10000 4096 (buffers 12288 11192 16384)).answer ≡ 0 ∷ 0 ∷ 5 ∷ 1 ∷ 0 ∷ 0 ∷ 1 ∷ []
unfolding call line_text field_text field_from line_of line_at lines_from lines_of first_misspelt find_row table row_of begins head_of declared_by arms following read read_at read_sheet check triples judge result_of run_of check_type run_from perform operations board_nodes find_var before lookup instantiate_from subtype open_names signature_from insert push_vars check_patterns check_arms infer_app find links any_solved write_out_by write_out solution_nodes view term_view lambda_of occurs is_monotype substitute rename front_names after_front can_unify plan_of declarations bindings_in end_from entries_end places_of part_line is_plain names plain_entries plain_plan parts_of report_words padded words
highest-limit = refl

-- a run leaves 12,288 words of the board as 0 and keeps the others
pub board-after : (w : ℕ) (b : Buffers) (r : Judged) → 12288 ≤ length b.board → (written w b r).after.board ≡ replicate 12288 0 ++ drop 12288 b.board
unfolding board_words
board-after w b r h = sets-eq board_words b.board 0 h
    ∙ ap (λ (k : ℕ). board_words ++ drop k b.board) (zero-add (length board_words) ∙ length-board)

-- and the words of the book and of the report, those that follow in a longer one being kept
pub book-after : (w : ℕ) (b : Buffers) (r : Judged) → 11192 ≤ length b.book → (written w b r).after.book ≡ book_words r.solutions r.levels r.answer.fresh ++ drop 11192 b.book
book-after w b r h =
    let ws = book_words r.solutions r.levels r.answer.fresh in
    let whole : 0 + length ws ≡ 11192 = zero-add (length ws) ∙ length-book r.solutions r.levels r.answer.fresh in
    sets-eq ws b.book 0 (subst (λ (k : ℕ). k ≤ length b.book) (sym whole) h) ∙ ap (λ (k : ℕ). ws ++ drop k b.book) whole

pub report-after : (w : ℕ) (b : Buffers) (r : Judged) → 4 * w ≤ length b.report → (written w b r).after.report ≡ report_words w r.report ++ drop (4 * w) b.report
report-after w b r h =
    let ws = report_words w r.report in
    let whole : 0 + length ws ≡ 4 * w = zero-add (length ws) ∙ length-report w r.report in
    sets-eq ws b.report 0 (subst (λ (k : ℕ). k ≤ length b.report) (sym whole) h) ∙ ap (λ (k : ℕ). ws ++ drop k b.report) whole

-- what stands where a book's three words say
abbrev stands : List ℕ → Solution → Ty
stands b x = nodes_at b (get_or b (3 * key x) 0) (get_or b (3 * key x + 1) 0)

pub books : map (λ (r : Row). map (stands (book_words r.2 own_levels 1000)) r.2) (take 3 answers) ≡ map (λ (r : Row). map value r.2) (take 3 answers)
unfolding book_words padded threes_from place_from node_words words nodes_at
books = refl
