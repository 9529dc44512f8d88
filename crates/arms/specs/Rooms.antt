-- Every word of the room that the code of a Case's arms is lent, arm by arm. Assumes nothing: these are definitions.
use Rattle.std.specs.Prelude.{cond, List, ℕ, zero, suc, ◌+◌, ◌-◌, length}
use Rattle.nodes.specs.Nodes.{Ty}
use Rattle.spelling.specs.declared.Triple.{Triple}
use Rattle.sheet.specs.Plan.{part_line}
use Rattle.operations.specs.declared.Run.{Run}
use Rattle.operations.specs.State.{going, fresh_run, push_run}
use Rattle.references.specs.References.{type_of, instance_out}
use Rattle.tables.specs.Rows.{ref_at}
use Rattle.patterns.specs.Rooms.{pattern_rooms}

-- What stands between two arms: the run, the words of the frames and of the bindings, and two buffers for types.
pub record Room : Type 0 where
  pub run : Run
  pub frames : List ℕ
  pub bindings : List ℕ
  pub left : List ℕ
  pub right : List ℕ

abbrev pub room : Run → List ℕ → List ℕ → List ℕ → List ℕ → Room
room c w v l r = record { run = c; frames = w; bindings = v; left = l; right = r }

-- the Vars of the n bindings from row i on: the run after they are pushed, and the buffer to which the types are
-- written one after the other
unfoldable pub vars_run : List Triple → List ℕ → ℕ → ℕ → Run → Run
vars_run ls v i zero c = c
vars_run ls v i (suc n) c = vars_run ls v (i + 1) n (push_run c (length (type_of ls (ref_at v i))))

-- a refused run leaves the rest
unfoldable pub vars_out : List Triple → List ℕ → ℕ → ℕ → Run → List ℕ → List ℕ
vars_out ls v i zero c l = l
vars_out ls v i (suc n) c l =
    let r = vars_out ls v (i + 1) n (push_run c (length (type_of ls (ref_at v i)))) (instance_out ls (ref_at v i) l) in
    cond (going c.halt) r l

-- the arm that starts at line `first`, against the unknown u: its pattern, its Vars, the Chk of its body, which must
-- have type t
unfoldable pub arm_room : List Triple → ℕ → Ty → ℕ → Room → Room
arm_room ls u t first s =
    let p = pattern_rooms ls first (part_line ls first 1 - first) u s.run s.frames s.bindings s.left s.right in
    room (push_run (vars_run ls p.bindings 0 p.bound p.run) (length t)) p.frames p.bindings (vars_out ls p.bindings 0 p.bound p.run p.left) p.right

-- the line after that arm
abbrev pub after_arm : List Triple → ℕ → ℕ
after_arm ls first = part_line ls (part_line ls first 1) 1

-- the n arms from that line on, until the run is refused
unfoldable pub arms_room : List Triple → ℕ → Ty → ℕ → ℕ → Room → Room
arms_room ls u t zero line s = s
arms_room ls u t (suc n) line s = let r = arms_room ls u t n (after_arm ls line) (arm_room ls u t line s) in cond (going s.run.halt) r s

-- a Case: a fresh unknown, its TVar and the scrutinee's Chk come first
abbrev pub case_room : List Triple → Ty → ℕ → ℕ → Room → Room
case_room ls t n line s = arms_room ls s.run.counters.fresh t n line (room (push_run (push_run (fresh_run s.run) 0) 1) s.frames s.bindings s.left s.right)
