-- Where the type of a constructor stands, on a sheet that is taken. Assumes nothing.
use Rattle.sheet.specs.declared.Extent.{Extent}
use Rattle.std.proofs.Common.{Option, Some, ◌≡◌, sym, ap, Bool, true, false, cond, List, [], ◌∷◌, ℕ, zero, suc, ◌+◌, ◌≤◌, ◌<◌, arith, length, take, drop}
use Rattle.sizes.specs.Sizes.{most_nodes}
use Rattle.nodes.specs.Parts.{Whole}
use Rattle.nodes.specs.Lists.{All}
use Rattle.nodes.proofs.ListLaws.{cond_ind}
use Rattle.nodes.proofs.PartLaws.{length-take}
use Rattle.spelling.specs.declared.Triple.{Triple}
use Rattle.kinds.specs.Kinds.{a_type, parts_of}
use Rattle.sheet.specs.Plan.{Narrow, is_entry, named, Declaration, declarations, find_in, find_entry, lookup, type_at, plan_of}
use Rattle.sheet.specs.Form.{IsPart, Typed}
use Rattle.sheet.proofs.Declarations.{find-lookup}
use Rattle.sheet.proofs.TypeLines.{type-narrow}
use Rattle.references.specs.References.{Declared, TypeLine}
use Rattle.references.proofs.Arrows.{type-lines}
use Rattle.patterns.specs.Readings.{env_at, Sheet}

-- what the plan's constructors say of a name
pub env-lookup : (ls : List Triple) (x : ℕ) → lookup x (env_at ls).constructors ≡ type_at ls (find_entry 1 x ls)
unfolding plan_of find_entry
env-lookup ls x = sym (find-lookup 1 x ls (declarations ls 0 0))

Within : ℕ → Declaration → Type 0
Within n e = e.line + e.count ≤ n

declared-within : (ts : List Triple) (d at n : ℕ) → at + length ts ≤ n → All (Within n) (declarations ts d at)
unfolding declarations Within
declared-within [] d at n h = tt
declared-within (t ∷ ts) (suc d) at n h = declared-within ts (parts_of t + d) (at + 1) n (omega arith)
declared-within (t ∷ ts) zero at n h =
    cond_ind (All (Within n)) (is_entry t) (λ _. (let l = length-take parts_of ts 1 in omega arith, declared-within ts 1 (at + 1) n (omega arith))) (λ _. tt)

module _ (ls : List Triple) (k x line count : ℕ) where
  found-by : (P : ℕ → ℕ → Type 0) (b : Bool) (e : Declaration) (f : Option Extent) → cond b (Some (record { line = e.line; count = e.count })) f ≡ Some (record { line = line; count = count }) → P e.line e.count → (f ≡ Some (record { line = line; count = count }) → P line count) → P line count
  found-by P true e f q h g =
      let same : ◌≡◌ {A = Extent} (record { line = e.line; count = e.count }) (record { line = line; count = count }) = cc in
      let a : e.line ≡ line = ap (λ (z : Extent). z.line) same in
      let c : e.count ≡ count = ap (λ (z : Extent). z.count) same in
      rw (← a, ← c) h
  found-by P false e f q h g = g q

  found-typed : (es : List Declaration) → Typed ls es → find_in k x es ≡ Some (record { line = line; count = count }) → IsPart a_type (take count (drop line ls))
  unfolding find_in
  found-typed [] t q = absurd (let z : ◌≡◌ {A = ℕ} 0 1 = cc in omega arith)
  found-typed (e ∷ es) t q = found-by (λ l c. IsPart a_type (take c (drop l ls))) (named k x e.head) e (find_in k x es) q t.0 (found-typed es t.1)

  found_within : (n : ℕ) (es : List Declaration) → All (Within n) es → find_in k x es ≡ Some (record { line = line; count = count }) → line + count ≤ n
  unfolding find_in Within
  found_within n [] t q = absurd (let z : ◌≡◌ {A = ℕ} 0 1 = cc in omega arith)
  found_within n (e ∷ es) t q = found-by (λ l c. l + c ≤ n) (named k x e.head) e (find_in k x es) q t.0 (found_within n es t.1)

some-lines : (n : ℕ) (ls : List Triple) → IsPart a_type (take n ls) → 0 < n
some-lines zero ls f = absurd f
some-lines (suc n) ls f = omega arith

pub entry_at : (ls : List Triple) (x line count : ℕ) → Sheet ls → Some (record { line = line; count = count }) ≡ find_entry 1 x ls
    → (0 < count) × (count ≤ most_nodes) × (line + count ≤ length ls) × All Narrow (take count (drop line ls)) × All TypeLine (take count (drop line ls)) × Whole parts_of (take count (drop line ls)) 1 × Declared ls line count
unfolding find_entry
entry_at ls x line count h q =
    let t = found-typed ls 1 x line count (declarations ls 0 0) h.formed.entries (sym q) in
    let w : line + count ≤ length ls = found_within ls 1 x line count (length ls) (declarations ls 0 0) (declared-within ls 0 0 (length ls) (omega arith)) (sym q) in
    let f : length ls ≤ most_nodes = h.few in
    let l = type-lines (take count (drop line ls)) t in
    (some-lines count (drop line ls) t, omega arith, w, type-narrow (take count (drop line ls)) t, l.0, l.1, record { name = x; found = sym q })
