-- What the code of Sub cites: a type's shape, the words that it leaves in the report, and what a call asks.
-- Assumes nothing: these are definitions.
use Rattle.std.specs.Prelude.{◌≡◌, ◌≢◌, Bool, true, false, cond, List, ◌∷◌, ◌++◌, ℕ, suc, ◌+◌, ◌*◌, ◌≤◌, ◌<◌, length, take}
use Rattle.std.proofs.lemmas.List.Edits.{sets}
use Rattle.sizes.specs.Sizes.{most_nodes, most_numbers}
use Rattle.nodes.specs.Nodes.{Node, node, Ty, kind, node_parts, words, nodes_at}
use Rattle.nodes.specs.Parts.{Whole}
use Rattle.nodes.specs.Lists.{All}
use Rattle.judgment.specs.Types.{unknown, first, rest, View, is_arrow, is_app, is_forall, is_unknown, is_other, view, eq_ty, occurs, is_monotype, substitute}
use Rattle.judgment.specs.Solutions.{value, solved_unknowns}
use Rattle.judgment.specs.Board.{tvar, sub, splits, Rule, done, fresh, push, solve, ◌>>=◌, ◌>>◌}
use Rattle.judgment.specs.Rules.{Side, left, right, on_side, mismatch, unknown_right}
use Rattle.judgment.specs.Good.{Free}
use Rattle.book.specs.Book.{sols, Booked}
use Rattle.operations.specs.declared.Run.{Run}
use Rattle.subtyping.specs.declared.Shape.{Shape}
use Rattle.subtyping.specs.declared.Shape.TheVariants.{Arrow, App, Forall, Unknown, Other}
use Rattle.subtyping.specs.declared.Side.{Side as CodeSide}
use Rattle.subtyping.specs.declared.Side.TheVariants.{Left, Right}
use Rattle.operations.specs.State.{WellFormed, going, Made, Solves, zonk_run, zonk_words}

-- a view without its parts
abbrev pub shape_of : View → Shape
shape_of (is_arrow a b) = Arrow
shape_of (is_app a b) = App
shape_of (is_forall x b) = Forall
shape_of (is_unknown k) = Unknown
shape_of is_other = Other

abbrev pub side_of : CodeSide → Side
side_of Left = left
side_of Right = right

abbrev pub other_side : Side → Side
other_side left = right
other_side right = left

-- k split: solved by a pair of two fresh unknowns, and these compared with the two parts of t
abbrev pub split_by : ℕ → ℕ → Side → Side → Ty → Rule
split_by kind k d e t = do
  a ← fresh (splits k)
  b ← fresh (splits k)
  solve k (node kind 0 ∷ (unknown a ++ unknown b))
  push (tvar (node 17 a))
  push (tvar (node 17 b))
  push (on_side d (unknown a) (first t))
  push (on_side e (unknown b) (rest t))
  done

-- the right side alone
abbrev pub right_by : Ty → Ty → View → Rule
right_by l r (is_arrow a b) = mismatch l r
right_by l r (is_app a b) = mismatch l r
right_by l r (is_forall x b) = mismatch l r
right_by l r (is_unknown k) = unknown_right l r k
right_by l r is_other = mismatch l r

-- the parts of two Arrows, crossed, or of two Apps
abbrev pub parts_by : Bool → Ty → Ty → Rule
parts_by true l r = do
  push (sub (first r) (first l))
  push (sub (rest l) (rest r))
  done
parts_by false l r = do
  push (sub (first l) (first r))
  push (sub (rest l) (rest r))
  done

-- ---- every word of the report after, of which rep are those before
-- a type with u put for the name x, laid at word `at`
abbrev pub opened_at : List ℕ → ℕ → ℕ → Node → Ty → List ℕ
opened_at rep at x u t = sets rep at (words (substitute x u t))

-- a type that is no monotype is moved to the front
abbrev pub mono_report : List ℕ → Ty → List ℕ
mono_report rep t = cond (is_monotype t) rep (sets rep 0 (words t))

-- instantiation with t; none is asked for with a quantifier in front
abbrev pub inst_report : List ℕ → Ty → View → List ℕ
inst_report rep t (is_arrow a b) = rep
inst_report rep t (is_app a b) = rep
inst_report rep t (is_forall x b) = rep
inst_report rep t (is_unknown k) = rep
inst_report rep t is_other = mono_report rep t

-- the right side alone, by its view
abbrev pub right_report : List ℕ → Ty → View → List ℕ
right_report rep l (is_arrow a b) = rep
right_report rep l (is_app a b) = rep
right_report rep l (is_forall x b) = rep
right_report rep l (is_unknown k) = cond (occurs k l) rep (inst_report rep l (view l))
right_report rep l is_other = rep

-- the unknown k on the left
abbrev pub unknown_report : List ℕ → ℕ → Ty → Ty → List ℕ
unknown_report rep k l r = cond (occurs k r) (right_report rep l (view r)) (inst_report rep r (view r))

-- no quantifier on the right: by the view of the left, u being the next fresh number
abbrev pub left_report : List ℕ → ℕ → Ty → Ty → View → List ℕ
left_report rep u l r (is_arrow a b) = right_report rep l (view r)
left_report rep u l r (is_app a b) = right_report rep l (view r)
left_report rep u l r (is_forall x a) = opened_at rep 2 x (node 17 u) a
left_report rep u l r (is_unknown k) = unknown_report rep k l r
left_report rep u l r is_other = right_report rep l (view r)

-- l and r, one after the other in the report and not the same: by the view of the right
abbrev pub shapes_report : List ℕ → ℕ → Ty → Ty → View → List ℕ
shapes_report rep u l r (is_arrow a b) = left_report rep u l r (view l)
shapes_report rep u l r (is_app a b) = left_report rep u l r (view l)
shapes_report rep u l r (is_forall x b) = opened_at rep (2 * length l + 2) x (node 18 u) b
shapes_report rep u l r (is_unknown k) = left_report rep u l r (view l)
shapes_report rep u l r is_other = left_report rep u l r (view l)

-- l and r written out, one after the other, and then f of that while the run goes on
abbrev pub twice_report : List ℕ → Run → Ty → Ty → ℕ → (List ℕ → List ℕ) → List ℕ
twice_report rep c l r w f =
    let z = zonk_run c l 0 w in
    let out = zonk_words (zonk_words rep c l 0 w) z.run r z.nodes w in
    cond (going (zonk_run z.run r z.nodes w).run.halt) (f out) out

-- Sub of types that are l and r when written out, and differ
abbrev pub differ_report : List ℕ → Run → Ty → Ty → ℕ → List ℕ
differ_report rep c l r w = twice_report rep c l r w (λ out. shapes_report out c.counters.fresh l r (view r))

-- Sub of types that are l and r when written out: where no node differs, up to one more than the limit, nothing is
-- written
abbrev pub subtype_report : List ℕ → Run → Ty → Ty → ℕ → List ℕ
subtype_report rep c l r w = cond (eq_ty (take (suc w) l) (take (suc w) r)) rep (differ_report rep c l r w)

-- ---- what a call asks
-- A pair of kind 13 or 15 for the unsolved x, and a type whose parts are compared.
pub record SplitAsk (b k : List ℕ) (c : Run) (kind x : ℕ) (t : List ℕ) (at n : ℕ) : Type 0 where
  pub formed : WellFormed b k c
  pub pair : (kind ≢ 17) × (kind ≢ 18)
  pub within : at + 2 * n ≤ length t
  pub few : n ≤ most_nodes
  pub known : x < c.counters.fresh
  pub unsolved : Free (solved_unknowns (sols k)) (node 17 x)

-- A solution for x, the n nodes at word `at` of the report.
pub record MonoAsk (k rep : List ℕ) (c : Run) (x at n : ℕ) : Type 0 where
  pub book : Booked k c.book
  pub numbers : c.counters.fresh ≤ most_numbers
  pub goes : going c.halt ≡ true
  pub within : at + 2 * n ≤ length rep
  pub some : 0 < n
  pub few : n ≤ most_nodes
  pub solves : Solves k c x (nodes_at rep at n)

-- Instantiation of the unknown x with the n nodes at word `at` of the report, which have no quantifier in front: x is
-- unsolved and does not occur.
pub record InstAsk (b k rep : List ℕ) (c : Run) (x at n : ℕ) : Type 0 where
  pub formed : WellFormed b k c
  pub goes : going c.halt ≡ true
  pub within : at + 2 * n ≤ length rep
  pub some : 0 < n
  pub few : n ≤ most_nodes
  pub flat : shape_of (view (nodes_at rep at n)) ≢ Forall
  pub solves : Solves k c x (nodes_at rep at n)

-- A type of a comparison, written out.
pub record Written (k : List ℕ) (c : Run) (t : Ty) : Type 0 where
  pub some : 0 < length t
  pub few : length t ≤ most_nodes
  pub free : All (Free (solved_unknowns (sols k))) t
  pub made : All (Made c.counters.fresh) t

-- Two written-out types, one after the other in the report.
pub record SubAsk (b k rep : List ℕ) (c : Run) (l r : ℕ) : Type 0 where
  pub formed : WellFormed b k c
  pub goes : going c.halt ≡ true
  pub within : 2 * (l + r) ≤ length rep
  pub left : Written k c (nodes_at rep 0 l)
  pub right : Written k c (nodes_at rep (2 * l) r)

-- The parts of two types in one slice.
pub record PartsAsk (b : List ℕ) (c : Run) (t : List ℕ) (la ln ra rn : ℕ) : Type 0 where
  pub formed : (k : List ℕ) × WellFormed b k c
  pub left : la + 2 * ln ≤ length t
  pub right : ra + 2 * rn ≤ length t
  pub few_left : ln ≤ most_nodes
  pub few_right : rn ≤ most_nodes

-- Two types one after the other in the report, of which one is opened.
pub record OpenAsk (b rep : List ℕ) (c : Run) (l r : ℕ) : Type 0 where
  pub formed : (k : List ℕ) × WellFormed b k c
  pub goes : going c.halt ≡ true
  pub within : 2 * (l + r) ≤ length rep
  pub few_left : l ≤ most_nodes
  pub few_right : r ≤ most_nodes

-- A type that stands on the board, and a solution: one whole type, whose unknowns were made.
pub record Sound (n : ℕ) (t : Ty) : Type 0 where
  pub whole : Whole node_parts t 1
  pub made : All (Made n) t

-- Sub of the types from word `at` of the board on, with at most w nodes written out.
pub record SubtypeAsk (b k rep : List ℕ) (c : Run) (at ln rn w : ℕ) : Type 0 where
  pub formed : WellFormed b k c
  pub within : at + 2 * (ln + rn) ≤ length b
  pub limit : w ≤ most_nodes
  pub report : 4 * w ≤ length rep
  pub left : Sound c.counters.fresh (nodes_at b at ln)
  pub right : Sound c.counters.fresh (nodes_at b (at + 2 * ln) rn)
  pub solutions : All (λ x. Sound c.counters.fresh (value x)) (sols k)
