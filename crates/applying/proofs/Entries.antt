-- The type that a Var's name has, on the sheet or on the board. Assumes nothing.
use Rattle.nodes.specs.declared.Place.{Place}
use Rattle.sheet.specs.declared.Extent.{Extent}
use Rattle.std.proofs.Common.{Option, Some, None, ◌≡◌, sym, ap, ◌∙◌, subst, Bool, true, false, cond, List, [], ◌∷◌, ℕ, zero, suc, ◌+◌, ◌*◌, ◌≤◌, arith, length, take, drop}
use Rattle.sizes.specs.Sizes.{board_base}
use Rattle.nodes.specs.Nodes.{node, Ty, nodes_at}
use Rattle.nodes.specs.Parts.{take_parts}
use Rattle.nodes.proofs.ListLaws.{cond_ind}
use Rattle.nodes.proofs.Laws.{length-nodes_at}
use Rattle.nodes.proofs.PartLaws.{length-take}
use Rattle.spelling.specs.declared.Triple.{Triple}
use Rattle.kinds.specs.Kinds.{a_type, parts_of}
use Rattle.sheet.specs.Plan.{is_entry, named, Declaration, declarations, find_in, find_entry, type_at, plan_of}
use Rattle.sheet.specs.Rows.{rows}
use Rattle.sheet.specs.Form.{IsPart, Typed, Formed}
use Rattle.sheet.proofs.Declarations.{find-lookup}
use Rattle.sheet.proofs.TypeLines.{type-narrow}
use Rattle.judgment.specs.Types.{is_node}
use Rattle.judgment.specs.Terms.{is_var}
use Rattle.judgment.specs.Board.{find_var}
use Rattle.judgment.specs.Board.{Board as Entries}
use Rattle.judgment.specs.Rules.{variable, infer_by}
use Rattle.judgment.specs.Result.{Way}
use Rattle.board.specs.declared.Board.{Board}
use Rattle.board.specs.Board.{word, nodes_below, entries_of, Stacked, var_place, type_in}
use Rattle.board.proofs.Finds.{var-place}
use Rattle.operations.specs.declared.Run.{Run}
use Rattle.operations.specs.State.{Does}
use Rattle.operations.proofs.Then.{look_then}
use Rattle.inference.specs.Inference.{LinesAsk}
use Rattle.applying.specs.Applying.{env_on, entry_in, VarAsk}

-- ---- entries of the sheet
-- what is found ends at most at line m; it is a type
abbrev Ends : ℕ → Option Extent → Type 0
Ends m (Some e) = e.line + e.count ≤ m
Ends m None = Unit {0}

abbrev IsType : List Triple → Option Extent → Type 0
IsType ls (Some e) = IsPart a_type (take e.count (drop e.line ls))
IsType ls None = Unit {0}

module _ (k x : ℕ) where
  found-ends : (m : ℕ) (ts : List Triple) (d at : ℕ) → at + length ts ≤ m → Ends m (find_in k x (declarations ts d at))
  unfolding find_in declarations
  found-ends m [] d at h = tt
  found-ends m (t ∷ ts) (suc d) at h = found-ends m ts (parts_of t + d) (at + 1) (omega arith)
  found-ends m (t ∷ ts) zero at h = go (is_entry t) (found-ends m ts 1 (at + 1) (omega arith))
    where
      n : ℕ
      n = length (take_parts parts_of ts 1)

      go : (b : Bool) → Ends m (find_in k x (declarations ts 1 (at + 1))) → Ends m (find_in k x (cond b (record { head = t; line = at + 1; count = n } ∷ declarations ts 1 (at + 1)) []))
      go true r = cond_ind (Ends m) (named k x t) (λ _. omega (arith, length-take parts_of ts 1)) (λ _. r)
      go false r = tt

  found-typed : (ls : List Triple) (es : List Declaration) → Typed ls es → IsType ls (find_in k x es)
  unfolding find_in
  found-typed ls [] h = tt
  found-typed ls (e ∷ es) h = cond_ind (IsType ls) (named k x e.head) (λ _. h.0) (λ _. found-typed ls es h.1)

  module _ (s : List ℕ) {r : (Option Extent)} (e : r ≡ find_entry k x (rows s)) where
    entry-lines : Formed (rows s) → {line count : ℕ} → r ≡ Some (record { line = line; count = count }) → LinesAsk s line count
    unfolding find_entry
    entry-lines f {line} {count} q = record {
      within = subst (Ends (length (rows s))) (sym e ∙ q) (found-ends (length (rows s)) (rows s) 0 0 (omega arith));
      narrow = type-narrow (take count (drop line (rows s))) (subst (IsType (rows s)) (sym e ∙ q) (found-typed (rows s) (declarations (rows s) 0 0) f.entries));
    }

    -- it may be copied and pushed
    pub entry-asks : {b : List ℕ} {c : Run} {out t : List ℕ} {tn : ℕ} → VarAsk b c s out t tn → {line count : ℕ} → r ≡ Some (record { line = line; count = count })
        → Stacked b c.counters.board × (2 * tn ≤ length t) × (2 * count ≤ length out) × LinesAsk s line count
    entry-asks a q =
        let l = entry-lines a.sheet q in
        let w = l.within in
        let m = a.lines in
        (a.board, a.type, omega arith, l)

    -- what is found is the type that the plan's entry has
    pub entry-is : {v : (Option Extent)} → r ≡ v → type_at (rows s) v ≡ entry_in k x s
    unfolding find_entry
    entry-is q = ap (type_at (rows s)) (sym q ∙ e) ∙ find-lookup k x (rows s) (declarations (rows s) 0 0)

-- ---- Vars on the board
-- what is found stands among the first m nodes
abbrev Inside : ℕ → Option Place → Type 0
Inside m (Some p) = p.start + 2 * p.count ≤ board_base + 2 * m
Inside m None = Unit {0}

inside-more : (m n : ℕ) (o : Option Place) → m ≤ n → Inside m o → Inside n o
inside-more m n (Some p) h i = omega (arith, i)
inside-more m n None h i = tt

module _ (x : ℕ) (w : List ℕ) where
  found_inside : (i : ℕ) → Inside (nodes_below w i) (var_place x w i)
  unfolding var_place nodes_below
  found_inside zero = tt
  found_inside (suc i) =
      cond_ind (Inside (nodes_below w i + (word w i 2 + word w i 3))) (is_node 2 x (node (word w i 0) (word w i 1)))
      (λ _. omega arith)
      (λ _. inside-more (nodes_below w i) (nodes_below w i + (word w i 2 + word w i 3)) (var_place x w i) (omega arith) (found_inside i))

  module _ {b : Board} (s : Stacked w b) {r : Option Place} (e : r ≡ var_place x w b.entries) where
    var-inside : {p : Place} → r ≡ Some p → p.start + 2 * p.count ≤ length w
    var-inside {p} q =
        let i : Inside (nodes_below w b.entries) (Some p) = subst (Inside (nodes_below w b.entries)) (sym e ∙ q) (found_inside b.entries) in
        let n = s.nodes in
        let m = s.few_nodes in
        let l = s.room in
        omega (arith, i)

    pub var-is : (ls : List Triple) {v : Option Place} → r ≡ v → type_in w v ≡ find_var x (entries_of ls w b.entries)
    var-is ls q = ap (type_in w) (sym q ∙ e) ∙ sym (var-place ls x w b.entries)

-- the type that is found may be copied
pub var-copies : {b : List ℕ} {c : Run} {s out t : List ℕ} {tn : ℕ} (a : VarAsk b c s out t tn) (x : ℕ) {r : Option Place} → r ≡ var_place x b c.counters.board.entries
    → {p : Place} → r ≡ Some p → (0 + 2 * p.count ≤ length out) × (p.start + 2 * p.count ≤ length b)
var-copies {b} {c} {s} {out} a x e {p} q =
    let u : Ty = nodes_at b p.start p.count in
    let v : 2 * length u ≤ length out = a.vars x u (sym (var-is x b a.board e (rows s) q)) in
    (omega (arith, v, length-nodes_at b p.start p.count), var-inside x b a.board e q)

-- ---- the rule by the three types that a name may have
pub looked : {w : Way} {b k rep : List ℕ} {c : Run} {b' k' rep' : List ℕ} {r : Run} (s : List ℕ) (x : ℕ) (t : Ty)
    → Does w (rows s) b k rep c (variable (env_on s) x t (entry_in 2 x s) (find_var x (entries_of (rows s) b c.counters.board.entries)) (entry_in 1 x s)) b' k' rep' r
    → Does w (rows s) b k rep c (infer_by (env_on s) t (is_var x)) b' k' rep' r
unfolding plan_of
looked s x t d = look_then {f = λ (Γ : Entries). variable (env_on s) x t (entry_in 2 x s) (find_var x Γ) (entry_in 1 x s)} d
