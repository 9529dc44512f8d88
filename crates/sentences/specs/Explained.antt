-- What an answer means, in a sentence or two (document 01, "The result"). Assumes nothing: these are definitions.
use Rattle.std.specs.Prelude.{cond, List, ◌++◌, ℕ, eqb}
use Prim.Native.String.{String}
use Rattle.judgment.specs.declared.Answer.{Answer}
use Rattle.wording.specs.Texts.{bytes, number_text, name_text}
use Rattle.wording.specs.Spelt.{type_text, reported}

-- ---- forms of sentences
abbrev pub named : String → ℕ → String → List ℕ
named before x after = bytes before ++ (name_text x ++ bytes after)

abbrev pub numbered : String → ℕ → String → List ℕ
numbered before n after = bytes before ++ (number_text n ++ bytes after)

-- a number, and what is said of one or of many
abbrev pub counted : ℕ → String → String → List ℕ
counted n one many = number_text n ++ cond (eqb n 1) (bytes one) (bytes many)

-- how many should be there, and how many are
abbrev pub mismatch : String → String → String → ℕ → ℕ → List ℕ
mismatch before one many n m = bytes before ++ (counted n one many ++ (number_text m ++ bytes ".\n"))

abbrev pub counts : ℕ → ℕ → List ℕ
counts taken fresh =
    counted taken " entry was taken and " " entries were taken and "
    ++ counted fresh " fresh number was given.\n" " fresh numbers were given.\n"

-- a run's end and its counts
abbrev pub ended : String → ℕ → ℕ → List ℕ
ended before taken fresh = bytes before ++ counts taken fresh

-- ---- the sheet: 0 to 5
abbrev pub accepted : ℕ → ℕ → List ℕ
accepted = ended "The plan is accepted: all its parts fit. "

abbrev pub ceiling_too_high : List ℕ
ceiling_too_high = bytes "The plan was not checked: the ceiling is above 10,000.\n"

abbrev pub buffer_too_short : List ℕ
buffer_too_short = bytes "The plan was not checked: a buffer is too short.\n"

abbrev pub bad_length : List ℕ
bad_length =
    bytes "The sheet is refused: it is empty, has more than 2,000 lines or ends inside a line. A line is 29 bytes with its line feed.\n"

abbrev pub misspelt : ℕ → List ℕ
misspelt line =
    numbered "The sheet is refused at line " line
    ": a field is blank, misspelt or too large, or has a minus sign that is not allowed, or the line feed is missing.\n"

abbrev pub unfit : ℕ → List ℕ
unfit line = numbered "The sheet is refused at line " line ": the plan can't go on with this line, or the line is lacking.\n"

-- ---- the plan: 11 to 19
abbrev pub unbound_variable : ℕ → List ℕ
unbound_variable x = named "The plan is refused: the variable " x " is bound nowhere.\n"

abbrev pub unbound_constructor : ℕ → List ℕ
unbound_constructor x = named "The plan is refused: the data constructor " x " is not declared.\n"

abbrev pub not_function : List ℕ → ℕ → List ℕ
not_function ws n =
    bytes "The plan is refused: a term is applied to an argument, but its type is "
    ++ (type_text (reported ws 0 n) ++ bytes ", which is no function type.\n")

abbrev pub arity : ℕ → ℕ → List ℕ
arity = mismatch "The plan is refused: a pattern should have " " part and has " " parts and has "

abbrev pub subtyping : List ℕ → ℕ → ℕ → List ℕ
subtyping ws l r =
    bytes "The plan is refused: the type "
    ++ (type_text (reported ws 0 l) ++ (bytes " does not fit the type " ++ (type_text (reported ws l r) ++ bytes ".\n")))

abbrev pub unification : List ℕ
unification = bytes "The plan is refused: an unknown would have two solutions that can't be made equal.\n"

abbrev pub instantiation : List ℕ → ℕ → ℕ → List ℕ
instantiation ws k n =
    numbered "The plan is refused: the unknown ^" k " can't stand for the type " ++ (type_text (reported ws 0 n) ++ bytes ".\n")

abbrev pub intrinsic_arity : ℕ → ℕ → List ℕ
intrinsic_arity = mismatch "The plan is refused: printInt takes " " argument and has " " arguments and has "

abbrev pub unknown_intrinsic : ℕ → List ℕ
unknown_intrinsic x = named "The plan is refused: the intrinsic " x " is not known.\n"

-- ---- the ceiling and the limits: 21 to 25
abbrev pub ceiling_reached : ℕ → ℕ → List ℕ
ceiling_reached = ended "The plan is not decided: the ceiling was reached, and an entry remains. "

abbrev pub board_full : ℕ → ℕ → List ℕ
board_full = ended "The plan is not decided: the board would pass 512 entries or 4,096 type nodes. "

abbrev pub type_too_long : ℕ → ℕ → List ℕ
type_too_long = ended "The plan is not decided: a type written out would have more nodes than the limit. "

abbrev pub no_fresh_number : ℕ → ℕ → List ℕ
no_fresh_number = ended "The plan is not decided: a 1,001st fresh number would be needed. "

abbrev pub solutions_full : ℕ → ℕ → List ℕ
solutions_full = ended "The plan is not decided: the solutions would pass 4,096 nodes. "

-- ---- the strict call: 39
abbrev pub out_of_scope : ℕ → ℕ → List ℕ
out_of_scope = ended "The plan is refused by the strict call: a solution has a fresh universal that is out of its unknown's scope. "

-- ---- what a call may not ask for: 32
abbrev pub limit_out_of_range : List ℕ
limit_out_of_range = bytes "The plan was not checked: the limit for a type written out is 0 or above 4,096.\n"

abbrev pub other_number : ℕ → List ℕ
other_number n = numbered "The result " n " has no meaning here.\n"

-- ---- an answer, with the words of its report
abbrev pub of_call : ℕ → List ℕ
of_call n = cond (eqb n 32) limit_out_of_range (other_number n)

unfoldable pub of_limit : Answer → List ℕ
of_limit a =
    cond (eqb a.number 21) (ceiling_reached a.taken a.fresh)
    (cond (eqb a.number 22) (board_full a.taken a.fresh)
    (cond (eqb a.number 23) (type_too_long a.taken a.fresh)
    (cond (eqb a.number 24) (no_fresh_number a.taken a.fresh)
    (cond (eqb a.number 25) (solutions_full a.taken a.fresh)
    (cond (eqb a.number 39) (out_of_scope a.taken a.fresh) (of_call a.number))))))

unfoldable pub of_plan : Answer → List ℕ → List ℕ
of_plan a ws =
    cond (eqb a.number 11) (unbound_variable a.detail1)
    (cond (eqb a.number 12) (unbound_constructor a.detail1)
    (cond (eqb a.number 13) (not_function ws a.detail1)
    (cond (eqb a.number 14) (arity a.detail1 a.detail2)
    (cond (eqb a.number 15) (subtyping ws a.detail1 a.detail2)
    (cond (eqb a.number 16) unification
    (cond (eqb a.number 17) (instantiation ws a.detail1 a.detail2)
    (cond (eqb a.number 18) (intrinsic_arity a.detail1 a.detail2)
    (cond (eqb a.number 19) (unknown_intrinsic a.detail1) (of_limit a)))))))))

unfoldable pub explained : Answer → List ℕ → List ℕ
explained a ws =
    cond (eqb a.number 0) (accepted a.taken a.fresh)
    (cond (eqb a.number 1) ceiling_too_high
    (cond (eqb a.number 2) buffer_too_short
    (cond (eqb a.number 3) bad_length
    (cond (eqb a.number 4) (misspelt a.line) (cond (eqb a.number 5) (unfit a.line) (of_plan a ws))))))
