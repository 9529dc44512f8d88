-- Laws of `declarations`: one entry of a walk over them. Assumes nothing.
use Rattle.std.proofs.Common.{Option, Some, None, MatchOption, ◌≡◌, refl, sym, ap, ◌∙◌, Bool, true, false, cond, ◌&&◌, ◌||◌, List, [], ◌∷◌, map, ℕ, zero, suc, ◌+◌, ◌-◌, ◌≤◌, ◌<◌, add-zero, add-one, arith, length, get_or, take, drop, drop_of_length-le, ltb, eqb, drop-cons, eqb-true, ltb-true, ltb-false}
use Rattle.std.specs.List.{last_or}
use mathlib.Core.Bool.{false≢true}
use lib.ListN.{get_or-eq_default}
use Rattle.nodes.specs.Parts.{take_parts, drop_parts}
use Rattle.nodes.proofs.PartLaws.{length-take}
use Rattle.spelling.specs.declared.Triple.{Triple}
use Rattle.kinds.specs.Kinds.{table, find, row_of, parts_of}
use Rattle.sheet.specs.declared.Entry.{Entry}
use Rattle.sheet.specs.Rows.{entry_of, first_entry}
use Rattle.sheet.specs.Plan.{no_triple, part_line, nodes_of, is_entry, named, Declaration, declarations, find_in, end_from, entries_end, Binding, ◌∶◌, bindings_in, lookup, type_at}
use Rattle.sheet.proofs.Lines.{drop-line, line-from, line-turn}

-- what a test of a line said, of the line that it is
pub seen : (f : Triple → Bool) {t u : Triple} {r b : Bool} → t ≡ u → r ≡ f t → r ≡ b → f u ≡ b
seen f e p q = sym (ap f e) ∙ sym p ∙ q

-- a line that has a kind stands on the sheet
pub stands : (ls : List Triple) (at : ℕ) {u : Triple} → u ≡ get_or ls at no_triple → (u.kind ≡ 0 → ⊥) → at < length ls
stands ls at {u} e n = go (ltb at (length ls)) refl
  where
    go : (b : Bool) → ltb at (length ls) ≡ b → at < length ls
    go true p = ltb-true at (length ls) p
    go false p = absurd (n (ap (λ (v : Triple). v.kind) (e ∙ get_or-eq_default ls no_triple (ltb-false at (length ls) p))))

-- over the type's lines
over : (ts : List Triple) (d at : ℕ) → declarations ts d at ≡ declarations (drop_parts parts_of ts d) 0 (at + length (take_parts parts_of ts d))
unfolding declarations
over [] d at = refl
over (t ∷ ts) zero at = rw add-zero
over (t ∷ ts) (suc d) at =
    let e : at + 1 + length (take_parts parts_of ts (parts_of t + d)) ≡ at + suc (length (take_parts parts_of ts (parts_of t + d))) = omega arith in
    over ts (parts_of t + d) (at + 1) ∙ ap (declarations (drop_parts parts_of ts (parts_of t + d)) 0) e

module _ (ls : List Triple) where
  -- those from line `at` on
  abbrev pub from : ℕ → List Declaration
  from at = declarations (drop at ls) 0 at

  pub from_past : (at : ℕ) → length ls ≤ at → from at ≡ []
  unfolding declarations
  from_past at h = rw (drop_of_length-le ls h)

  module _ (at : ℕ) (h : at < length ls) where
    abbrev t : Triple
    t = get_or ls at no_triple

    abbrev pub declared : Declaration
    declared = record { head = t; line = at + 1; count = part_line ls (at + 1) 1 - (at + 1) }

    pub here : drop at ls ≡ t ∷ drop (at + 1) ls
    here = drop-cons ls at no_triple h ∙ rw add-one

    pub from-none : is_entry t ≡ false → from at ≡ []
    unfolding declarations
    from-none e = rw (here, e)

    pub from_one : is_entry t ≡ true → from at ≡ declared ∷ from (part_line ls (at + 1) 1)
    unfolding declarations part_line
    from_one e =
        let n = length (take_parts parts_of (drop (at + 1) ls) 1) in
        let k : at + 1 + n - (at + 1) ≡ n = omega arith in
        rw (here, e, k) (ap (λ (l : List Declaration). record { head = t; line = at + 1; count = n } ∷ l)
        (over (drop (at + 1) ls) 1 (at + 1) ∙ ap (λ (l : List Triple). declarations l 0 (at + 1 + n)) (sym (drop-line ls (at + 1) 1))))

    -- the next entry, if this is one
    abbrev pub next : ℕ
    next = part_line ls (at + 1) 1

    pub end_none : is_entry t ≡ false → at ≡ end_from at (from at)
    unfolding end_from
    end_none e = rw (from-none e)

    pub end-turn : is_entry t ≡ true → end_from next (from next) ≡ end_from at (from at)
    unfolding end_from
    end-turn e =
        let h = line-from ls (at + 1) 1 in
        let k : at + 1 + (next - (at + 1)) ≡ next = omega arith in
        sym (ap (end_from at) (from_one e) ∙ ap (λ (n : ℕ). end_from n (from next)) k)

    module _ (k x : ℕ) where
      pub find_none : is_entry t ≡ false → None ≡ find_in k x (from at)
      unfolding find_in
      find_none e = rw (from-none e)

      pub find-hit : is_entry t ≡ true → named k x t ≡ true → Some (record { line = (at + 1); count = (next - (at + 1)) }) ≡ find_in k x (from at)
      unfolding find_in
      find-hit e f = sym (ap (find_in k x) (from_one e) ∙ rw f)

      pub find-turn : is_entry t ≡ true → named k x t ≡ false → find_in k x (from next) ≡ find_in k x (from at)
      unfolding find_in
      find-turn e f = sym (ap (find_in k x) (from_one e) ∙ rw f)

  pub find_past : (k x at : ℕ) → length ls ≤ at → None ≡ find_in k x (from at)
  unfolding find_in
  find_past k x at h = rw (from_past at h)

-- ---- the entry at a line, as the code has it
-- one part follows its line, the type: both end at the same line
one-part : (t : Triple) → is_entry t ≡ true → parts_of t ≡ 1
unfolding row_of find table parts_of
one-part t e = go (eqb t.kind 1) refl (eqb t.kind 2) refl e
  where
    go : (a : Bool) → eqb t.kind 1 ≡ a → (b : Bool) → eqb t.kind 2 ≡ b → (a || b) ≡ true → parts_of t ≡ 1
    go true p b q e = rw (eqb-true t.kind 1 p)
    go false p true q e = rw (eqb-true t.kind 2 q)
    go false p false q e = absurd (false≢true e)

pub type-end : (ls : List Triple) (at : ℕ) → at < length ls → is_entry (get_or ls at no_triple) ≡ true → part_line ls (at + 1) 1 ≡ part_line ls at 1
type-end ls at h e =
    let k : 1 ≡ 1 - 1 + parts_of (get_or ls at no_triple) = omega (arith, one-part (get_or ls at no_triple) e) in
    ap (part_line ls (at + 1)) k ∙ line-turn ls at 1 h (λ q. omega arith)

pub record EntryAt (ls : List Triple) (at : ℕ) (e : Entry) : Type 0 where
  pub within : at < length ls
  pub entry : is_entry (get_or ls at no_triple) ≡ true
  pub same : e ≡ record { head = get_or ls at no_triple; line = at + 1; end = part_line ls (at + 1) 1 }

module _ (ls : List Triple) (at : ℕ) where
  abbrev head : Triple
  head = get_or ls at no_triple

  abbrev one : Entry
  one = record { head = head; line = at + 1; end = part_line ls (at + 1) 1 }

  first-one : at < length ls → is_entry head ≡ true → first_entry (from ls at) ≡ Some one
  first-one h e =
      let l = line-from ls (at + 1) 1 in
      let k : at + 1 + (part_line ls (at + 1) 1 - (at + 1)) ≡ part_line ls (at + 1) 1 = omega arith in
      rw (from_one ls at h e, k)

  pub entry_is : at < length ls → is_entry head ≡ true → {u : Triple} → u ≡ head → {end : ℕ} → end ≡ part_line ls at 1 → Some (record { head = u; line = at + 1; end = end }) ≡ first_entry (from ls at)
  entry_is h e p q = rw (p, q) (ap (λ (n : ℕ). Some (record { head = head; line = at + 1; end = n })) (sym (type-end ls at h e)) ∙ sym (first-one h e))

  -- past the last line none is: what a line there says is no entry
  pub none-left : is_entry head ≡ false → from ls at ≡ []
  none-left e = go (ltb at (length ls)) refl
    where
      go : (b : Bool) → ltb at (length ls) ≡ b → from ls at ≡ []
      go true p = from-none ls at (ltb-true at (length ls) p) e
      go false p = from_past ls at (ltb-false at (length ls) p)

  pub entry_within : is_entry head ≡ true → at < length ls
  entry_within e = go (ltb at (length ls)) refl
    where
      go : (b : Bool) → ltb at (length ls) ≡ b → at < length ls
      go true p = ltb-true at (length ls) p
      go false p = absurd (false≢true (ap is_entry (sym (get_or-eq_default ls no_triple (ltb-false at (length ls) p))) ∙ e))

  pub no-entry-at : from ls at ≡ [] → is_entry head ≡ false
  no-entry-at f = go (is_entry head) refl
    where
      go : (b : Bool) → is_entry head ≡ b → is_entry head ≡ false
      go true q = let g : declared ls at (entry_within q) ∷ from ls (part_line ls (at + 1) 1) ≡ [] = sym (from_one ls at (entry_within q) q) ∙ f in cc
      go false q = q

  -- what the code found, where the lines are held
  pub entry-found : {ms : List Triple} → ms ≡ ls → {e : Entry} → Some e ≡ first_entry (from ms at) → EntryAt ls at e
  entry-found {ms} s {e} f = go (is_entry head) refl
    where
      go : (b : Bool) → is_entry head ≡ b → EntryAt ls at e
      go true q =
          let h = entry_within q in
          let g : Some e ≡ Some one = f ∙ ap (λ (ts : List Triple). first_entry (from ts at)) s ∙ first-one h q in
          record { within = h; entry = q; same = cc }
      go false q = let g : Some e ≡ None = f ∙ ap (λ (ts : List Triple). first_entry (from ts at)) s ∙ ap first_entry (none-left q) in cc

  pub entry-lacking : {ms : List Triple} → ms ≡ ls → None ≡ first_entry (from ms at) → from ls at ≡ []
  entry-lacking s f = go (is_entry head) refl
    where
      go : (b : Bool) → is_entry head ≡ b → from ls at ≡ []
      go true q = let g : None ≡ Some one = f ∙ ap (λ (ts : List Triple). first_entry (from ts at)) s ∙ first-one (entry_within q) q in cc
      go false q = none-left q

  pub entries-one : {e : Entry} → EntryAt ls at e → map entry_of (from ls at) ≡ e ∷ map entry_of (from ls e.end)
  entries-one E =
      let l = line-from ls (at + 1) 1 in
      let k : at + 1 + (part_line ls (at + 1) 1 - (at + 1)) ≡ part_line ls (at + 1) 1 = omega arith in
      rw E.same (ap (map entry_of) (from_one ls at E.within E.entry) ∙ ap (λ (n : ℕ). record { head = head; line = at + 1; end = n } ∷ map entry_of (from ls (part_line ls (at + 1) 1))) k)

  -- and goes on from there
  pub entry_rises : {e : Entry} → EntryAt ls at e → at < e.end
  entry_rises E = let l = line-from ls (at + 1) 1 in rw E.same (omega arith)

-- the last one's end, by the code
abbrev end_or : Option Entry → ℕ
end_or None = 0
end_or (Some e) = e.end

last-from : (es : List Declaration) (m : ℕ) (o : Option Entry) → end_or o ≡ m → end_or (last_or o (map entry_of es)) ≡ end_from m es
unfolding end_from
last-from [] m o e = e
last-from (d ∷ es) m o e = last-from es (d.line + d.count) (Some (entry_of d)) refl

found-end : (o : Option Entry) {P : Entry → Type 0} (r : ℕ) → ((e : Entry) → P e → r ≡ e.end) → MatchOption o (r ≡ 0) P → r ≡ end_or o
found-end None r f m = m
found-end (Some e) r f m = f e m

pub last-end : (ls : List Triple) {xs : List Entry} → xs ≡ map entry_of (from ls 0) → {o : Option Entry} → o ≡ last_or None xs → {P : Entry → Type 0} (r : ℕ) → ((e : Entry) → P e → r ≡ e.end) → MatchOption o (r ≡ 0) P → r ≡ entries_end ls
unfolding entries_end
last-end ls e {o} q r f m = found-end o r f m ∙ ap end_or q ∙ ap (λ es. end_or (last_or None es)) e ∙ last-from (from ls 0) 0 None refl

-- ---- the entries end within the lines
end-bound : (ts : List Triple) (d at m : ℕ) → m ≤ at + length ts → end_from m (declarations ts d at) ≤ at + length ts
unfolding declarations end_from
end-bound [] d at m h = h
end-bound (t ∷ ts) (suc d) at m h = let r = end-bound ts (parts_of t + d) (at + 1) m (omega arith) in omega arith
end-bound (t ∷ ts) zero at m h =
    let n = length (take_parts parts_of ts 1) in
    go (is_entry t) (end-bound ts 1 (at + 1) (at + 1 + n) (omega (arith, length-take parts_of ts 1)))
  where
    go : (b : Bool) → end_from (at + 1 + length (take_parts parts_of ts 1)) (declarations ts 1 (at + 1)) ≤ at + 1 + length ts
        → end_from m (cond b (record { head = t; line = at + 1; count = length (take_parts parts_of ts 1) } ∷ declarations ts 1 (at + 1)) []) ≤ at + length (t ∷ ts)
    go true r = omega arith
    go false r = h

pub end-within : (ls : List Triple) → entries_end ls ≤ length ls
unfolding entries_end
end-within ls = let r = end-bound ls 0 0 0 (omega arith) in omega arith

-- ---- what is found is the type that the plan's entries have
pub find-lookup : (k x : ℕ) (ls : List Triple) (es : List Declaration) → type_at ls (find_in k x es) ≡ lookup x (bindings_in k ls es)
unfolding find_in bindings_in lookup
find-lookup k x ls [] = refl
find-lookup k x ls (e ∷ es) = go (eqb e.head.kind k) (eqb e.head.value x) refl (find-lookup k x ls es)
  where
    here : Binding
    here = ◌∶◌ e.head.value (nodes_of (take e.count (drop e.line ls)))

    go : (a b : Bool) → eqb e.head.value x ≡ b → type_at ls (find_in k x es) ≡ lookup x (bindings_in k ls es)
        → type_at ls (cond (a && b) (Some (record { line = e.line; count = e.count })) (find_in k x es)) ≡ lookup x (cond a (here ∷ bindings_in k ls es) (bindings_in k ls es))
    go true true q r = rw q
    go true false q r = rw q r
    go false b q r = r
