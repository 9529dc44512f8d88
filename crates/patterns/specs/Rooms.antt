-- Every word of the room that the code of a pattern is lent, line by line. Assumes nothing: these are definitions.
use Rattle.sheet.specs.declared.Extent.{Extent}
use Rattle.std.specs.Prelude.{◌≡◌, cond, List, [], ◌∷◌, ℕ, ◌+◌, ◌*◌, ◌-◌, eqb, ltb, length, take, drop, Option, Some, None}
use Rattle.std.proofs.lemmas.List.Edits.{sets}
use Rattle.spelling.specs.declared.Triple.{Triple}
use Rattle.sheet.specs.Plan.{nodes_of, find_entry}
use Rattle.judgment.specs.declared.TypeError.TheVariants.{ArityMismatch, UnboundDataConstructor}
use Rattle.nodes.specs.Nodes.{words}
use Rattle.judgment.specs.Types.{front_names}
use Rattle.operations.specs.declared.Run.{Run}
use Rattle.operations.specs.State.{going, refused_run, push_run}
use Rattle.constructors.specs.Opening.{named_run, opened_of}
use Rattle.references.specs.declared.TypeRef.{TypeRef}
use Rattle.references.specs.Signatures.{params, result}
use Rattle.references.specs.References.{type_of, instance_out}
use Rattle.tables.specs.Rows.{row, top_of, next_of, next_words, insert_words, insert_count}
use Rattle.patterns.specs.declared.Parts.{Parts}
use Rattle.patterns.specs.declared.Checked.{Checked}
use Rattle.patterns.specs.Readings.{body_of}

-- What stands between two lines: the run, the words of the frames and how many there are, those of the bindings and how
-- many, and two buffers for types.
pub record Rooms : Type 0 where
  pub run : Run
  pub frames : List ℕ
  pub depth : ℕ
  pub bindings : List ℕ
  pub bound : ℕ
  pub left : List ℕ
  pub right : List ℕ

abbrev pub rooms : Run → List ℕ → ℕ → List ℕ → ℕ → List ℕ → List ℕ → Rooms
rooms c w n v j l r = record { run = c; frames = w; depth = n; bindings = v; bound = j; left = l; right = r }

-- ---- a constructor pattern
-- refused, unless the counts agree
unfoldable pub arity_run : Run → ℕ → ℕ → Run
arity_run c arity count = cond (eqb count arity) c (refused_run c (ArityMismatch arity count))

-- what `pattern_parts` answers for a type of n lines from line `first` on: it is opened, its result pushed as a Sub,
-- the counts compared
unfoldable pub parts_answer : List Triple → ℕ → ℕ → ℕ → TypeRef → Run → Parts
parts_answer ls first n count want c =
    let t = nodes_of (take n (drop first ls)) in
    let q = length (front_names t) in
    let m = n - q in
    let u = opened_of t c.counters.fresh in
    let arity = length (params m u) in
    record {
      run = arity_run (push_run (named_run q c) (length (result m u) + length (type_of ls want))) arity count;
      nodes = m;
      arity = arity;
    }

-- the buffer to whose front the result of the opened type is written, the unknowns being those from a on
unfoldable pub result_out : List Triple → ℕ → ℕ → ℕ → List ℕ → List ℕ
result_out ls first n a l =
    let t = nodes_of (take n (drop first ls)) in
    sets l 0 (words (result (n - length (front_names t)) (opened_of t a)))

-- the frames' words and how many frames there are, after one for the parameters of r, if it has any
unfoldable pub frame_words : List ℕ → ℕ → TypeRef → ℕ → List ℕ
frame_words w n r arity = cond (ltb 0 arity) (sets w (6 * n) (row 0 r)) w

unfoldable pub frame_depth : ℕ → ℕ → ℕ
frame_depth n arity = cond (ltb 0 arity) (n + 1) n

-- by what the sheet has under the constructor's name x
unfoldable pub constructor_rooms : List Triple → ℕ → ℕ → TypeRef → Rooms → Option Extent → Rooms
constructor_rooms ls x count want s (Some e) =
    let line = e.line in
    let n = e.count in
    let p = parts_answer ls line n count want s.run in
    let w = frame_words s.frames s.depth (body_of line n p.nodes s.run.counters.fresh) p.arity in
    rooms p.run w (frame_depth s.depth p.arity) s.bindings s.bound
    (result_out ls line n s.run.counters.fresh s.left) (instance_out ls want s.right)
constructor_rooms ls x count want s None =
    rooms (refused_run s.run (UnboundDataConstructor x)) s.frames s.depth s.bindings s.bound s.left s.right

-- ---- a line
-- the type that is wanted is taken off the newest frame
abbrev pub taken_rooms : List Triple → Rooms → Rooms
taken_rooms ls s =
    let r = top_of s.frames s.depth in
    rooms s.run (next_words ls r s.depth s.frames) (next_of ls r s.depth).depth s.bindings s.bound s.left s.right

-- a name is bound to it
abbrev pub bound_rooms : ℕ → TypeRef → Rooms → Rooms
bound_rooms x want s = rooms s.run s.frames s.depth (insert_words s.bindings s.bound x want) (insert_count s.bindings s.bound x) s.left s.right

-- the line x: a variable, a constructor or a wildcard
unfoldable pub line_rooms : List Triple → Triple → Rooms → Rooms
line_rooms ls x s =
    let want = (next_of ls (top_of s.frames s.depth) s.depth).want in
    let s₁ = taken_rooms ls s in
    cond (eqb x.kind 42) (bound_rooms x.value want s₁)
    (cond (eqb x.kind 43) (constructor_rooms ls x.value x.count want s₁ (find_entry 1 x.value ls)) s₁)

-- ---- the lines of a pattern, until no frame is left or the run is refused
unfoldable pub lines_rooms : List Triple → List Triple → Rooms → Rooms
lines_rooms ls [] s = s
lines_rooms ls (x ∷ xs) s = let r = lines_rooms ls xs (line_rooms ls x s) in cond (eqb s.depth 0) s (cond (going s.run.halt) r s)

-- the reference to an unknown
abbrev pub alone_of : ℕ → TypeRef
alone_of u = record { first = 0; lines = 0; at = 0; count = 1; base = u }

-- the whole: it starts with one frame, for the unknown u, and no binding
unfoldable pub pattern_rooms : List Triple → ℕ → ℕ → ℕ → Run → List ℕ → List ℕ → List ℕ → List ℕ → Rooms
pattern_rooms ls first lines u c w v l r = lines_rooms ls (take lines (drop first ls)) (rooms c (sets w 0 (row 0 (alone_of u))) 1 v 0 l r)

-- a pattern leaves these rooms
pub record Leaves (s : Rooms) (w v l r : List ℕ) (o : Checked) : Type 0 where
  pub run : o.run ≡ s.run
  pub bound : o.bound ≡ s.bound
  pub frames : w ≡ s.frames
  pub bindings : v ≡ s.bindings
  pub left : l ≡ s.left
  pub right : r ≡ s.right
