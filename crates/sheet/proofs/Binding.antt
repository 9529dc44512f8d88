-- Laws of `bind_entries`: its walk over the entries, and what `read_rows` hands it. Assumes nothing.
use Rattle.std.proofs.Common.{Ok, ◌≡◌, refl, sym, ap, ap₂, ◌∙◌, Bool, true, false, cond, ◌||◌, List, [], ◌∷◌, ◌++◌, map, ℕ, zero, suc, ◌+◌, ◌*◌, ◌-◌, ◌/◌, ◌%◌, ◌≤◌, ◌<◌, add-zero, mod-lt, arith, length, get_or, set, take, drop, length-set, length-take, length-drop, eqb, get_or-set_other, eqb-true}
use mathlib.Core.Path.{subst⁻¹}
use mathlib.Core.Bool.{false≢true}
use Rattle.std.specs.List.{list_any}
use Rattle.sizes.specs.Sizes.{most_lines}
use Rattle.nodes.specs.Lists.{All}
use Rattle.nodes.specs.Nodes.{zeros}
use Rattle.spelling.specs.declared.Triple.{Triple}
use Rattle.kinds.specs.Kinds.{a_type}
use Rattle.grammar.specs.Check.{check}
use Rattle.sheet.specs.declared.Entry.{Entry}
use Rattle.sheet.specs.Plan.{no_triple, triples, part_line, is_entry, Declaration, declarations}
use Rattle.sheet.specs.Form.{Typed}
use Rattle.sheet.specs.Rows.{packed, rows, line_count, EndsFrom, first_at, linked, in_front, link_entry, front_of, binder_at, Linked, Ended, row_words, unlinked_words, link_all, put_binders, quantified, bind_type, bind_all, sheet_words, entry_of}
use Rattle.sheet.specs.Used.{table_length}
use Rattle.sheet.specs.Binders.{put_names, TellsPlaces, UpTo, InTable, FrontFits, FrontsFit, mark_type, mark_all, any_quantified, Bindable, TypeAsk}
use Rattle.sheet.proofs.Lines.{line-from, line-inside, line-within}
use Rattle.sheet.proofs.RowLaws.{length-rows, Small, lines-small, bit-small}
use Rattle.sheet.proofs.Declarations.{from, from_one, EntryAt}
use Rattle.sheet.proofs.Formed.{formed}
use Rattle.sheet.proofs.Ranges.{InRange, part-in-range, plan-few}
use Rattle.sheet.proofs.Binders.{length-names, front-tells, front-upto, front_length}
use Rattle.sheet.proofs.Bound.{raised-rows, raised-end, type-bound, same_rows, all-ended}

-- ---- no table is made where no type begins with a quantifier
pub bind-none : (ls : List Triple) (d : List ℕ) (es : List Declaration) → any_quantified ls es ≡ false → d ≡ bind_all ls d es
unfolding any_quantified bind_all
bind-none ls d [] e = refl
bind-none ls d (x ∷ es) e = go (quantified ls x.head x.line) e (λ q. bind-none ls d es q)
  where
    put : List ℕ
    put = put_binders d x.line (front_of (take x.count (drop x.line ls))) (take x.count (drop x.line ls))

    go : (b : Bool) → (b || any_quantified ls es) ≡ false → (any_quantified ls es ≡ false → d ≡ bind_all ls d es) → d ≡ bind_all ls (cond b put d) es
    go true e again = absurd (false≢true (sym e))
    go false e again = again e

module _ (ls : List Triple) where
  pub any-entry : (es : List Declaration) → list_any (λ (e : Entry). quantified ls e.head e.line) (map entry_of es) ≡ any_quantified ls es
  unfolding any_quantified
  any-entry [] = refl
  any-entry (e ∷ es) = ap (λ (b : Bool). quantified ls e.head e.line || b) (any-entry es)

-- ---- `bind_type`
module _ {d u : List ℕ} {first end : ℕ} (ask : TypeAsk d u first end) (t : Triple) {r : Bool} (tested : r ≡ quantified (rows d) t first) where
  abbrev ts : List Triple
  ts = take (end - first) (drop first (rows d))

  pub type-names : r ≡ true → {v : List ℕ} → v ≡ put_names u first (front_of ts) → v ≡ mark_type (rows d) u t first (end - first)
  type-names e f = f ∙ ap (λ (b : Bool). cond b (put_names u first (front_of ts)) u) (sym (sym tested ∙ e))

  pub type-done : r ≡ true → {v : List ℕ} → v ≡ put_names u first (front_of ts) → {e : List ℕ} → ((xs : List ℕ) → TellsPlaces v first xs → e ≡ put_binders d first xs ts)
      → e ≡ bind_type (rows d) d t first (end - first)
  type-done e f g =
      g (front_of ts) (λ x. ap (λ (w : List ℕ). get_or w x 0 - first) f ∙ front-tells u first (front_of ts) ask.table ask.older ask.fit x) ∙ ap (λ (b : Bool). cond b (put_binders d first (front_of ts) ts) d) (sym (sym tested ∙ e))

-- ---- `bind_types`: the types before line `at` have their binders
pub record Binding (ls : List Triple) (d u : List ℕ) (at : ℕ) : Type 0 where
  pub same : rows d ≡ ls
  pub ends : EndsFrom ls d 0
  pub table : length u ≡ table_length
  pub older : UpTo u at
  pub fit : FrontsFit ls (from ls at)

pub binding-start : {d u : List ℕ} → Bindable d → length u ≡ table_length → UpTo u 0 → Binding (rows d) d u 0
binding-start a l o = record { same = refl; ends = a.linked.ends; table = l; older = o; fit = a.fit }

-- an end has 12 bits
lines-few : (ls : List Triple) (d : List ℕ) → EndsFrom ls d 0 → length ls ≤ 4096
lines-few ls d f = go (length ls) refl
  where
    go : (n : ℕ) → length ls ≡ n → length ls ≤ 4096
    go zero e = omega arith
    go (suc n) e =
        let k = f n (omega arith) (omega arith) in
        let l = line-from ls n 1 in
        let m = mod-lt (get_or d (2 * n + 1) 0 / 268435456) {m = 4096} (omega arith) in
        omega arith

module _ {ls : List Triple} {d u : List ℕ} {at : ℕ} (B : Binding ls d u at) where
  -- no entry is left
  pub binding-done : from ls at ≡ [] → (d ≡ bind_all ls d (from ls at)) × (u ≡ mark_all ls u (from ls at))
  unfolding bind_all mark_all
  binding-done e = (rw e, rw e)

  module _ (h : at < length ls) (entry : is_entry (get_or ls at no_triple) ≡ true) {end : ℕ} (ends : end ≡ part_line ls (at + 1) 1) where
    abbrev n : ℕ
    n = end - (at + 1)

    abbrev front : List ℕ
    front = front_of (take n (drop (at + 1) ls))

    fits : FrontFits ls (at + 1) n × FrontsFit ls (from ls end)
    fits = rw ends (rw (from_one ls at h entry) at B.fit)

    inside : (at + 1 + n ≡ end) × (end ≤ length ls)
    inside = let l = line-from ls (at + 1) 1 in let k = line-inside ls (at + 1) 1 (omega arith) in (omega arith, omega arith)

    asks : TypeAsk d u (at + 1) end
    asks =
        let l = inside in
        let few = lines-few ls d B.ends in
        let m = ap length B.same in
        record {
          table = B.table;
          within = omega arith;
          few = omega arith;
          older = λ x. (let o = B.older x in omega arith);
          fit = subst⁻¹ (λ (ts : List Triple). FrontFits ts (at + 1) n) B.same fits.0;
        }

    type-table : (t : Triple) → (length (mark_type ls u t (at + 1) n) ≡ table_length) × UpTo (mark_type ls u t (at + 1) n) end
    type-table t = go (quantified ls t (at + 1))
      where
        go : (b : Bool) → (length (cond b (put_names u (at + 1) front) u) ≡ table_length) × UpTo (cond b (put_names u (at + 1) front) u) end
        go true =
            let l = inside in
            let k = front_length (take n (drop (at + 1) ls)) in
            let m = length-drop (at + 1) ls in
            let j = length-take n (drop (at + 1) ls) in
            (length-names front u (at + 1) ∙ B.table, front-upto u (at + 1) front B.table (λ x. (let o = B.older x in omega arith)) end (omega arith))
        go false = (B.table, λ x. (let o = B.older x in let l = inside in omega arith))

    next : {t : Triple} → t ≡ get_or ls at no_triple → {d' u' : List ℕ} → d' ≡ bind_type (rows d) d t (at + 1) n → u' ≡ mark_type (rows d) u t (at + 1) n
        → Binding ls d' u' end × (at < end) × (bind_all ls d' (from ls end) ≡ bind_all ls d (from ls at)) × (mark_all ls u' (from ls end) ≡ mark_all ls u (from ls at))
    unfolding bind_all mark_all
    next {t} e {d'} {u'} f g =
        let l = inside in
        let c = length-rows d in
        let m = ap length B.same in
        let T = type-bound ls d t (at + 1) n (omega arith) B.same in
        let p : d' ≡ bind_type ls d t (at + 1) n = f ∙ ap (λ (ts : List Triple). bind_type ts d t (at + 1) n) B.same in
        let q : u' ≡ mark_type ls u t (at + 1) n = g ∙ ap (λ (ts : List Triple). mark_type ts u t (at + 1) n) B.same in
        let N : Binding ls (bind_type ls d t (at + 1) n) (mark_type ls u t (at + 1) n) end = record {
          same = raised-rows T.raised ∙ B.same;
          ends = λ i z k. raised-end T.raised i (omega arith) ∙ B.ends i z k;
          table = (type-table t).0;
          older = (type-table t).1;
          fit = fits.1;
        } in
        let whole : bind_all ls (bind_type ls d t (at + 1) n) (from ls end) ≡ bind_all ls d (from ls at) =
        rw (e, ends) (sym (ap (bind_all ls d) (from_one ls at h entry))) in
        let marks : mark_all ls (mark_type ls u t (at + 1) n) (from ls end) ≡ mark_all ls u (from ls at) =
        rw (e, ends) (sym (ap (mark_all ls u) (from_one ls at h entry))) in
        (subst⁻¹ (λ (x : List ℕ). Binding ls x u' end) p (subst⁻¹ (λ (y : List ℕ). Binding ls (bind_type ls d t (at + 1) n) y end) q N), omega arith, ap (λ (x : List ℕ). bind_all ls x (from ls end)) p ∙ whole, ap (λ (y : List ℕ). mark_all ls y (from ls end)) q ∙ marks)

  -- what the code has of the next one
  module _ {e : Entry} (E : EntryAt ls at e) where
    abbrev TypeDone : Entry → List ℕ → List ℕ → Type 0
    TypeDone x d' u' = (d' ≡ bind_type (rows d) d x.head x.line (x.end - x.line)) × (u' ≡ mark_type (rows d) u x.head x.line (x.end - x.line))

    abbrev Next : Entry → List ℕ → List ℕ → Type 0
    Next x d' u' = Binding ls d' u' x.end × (at < x.end) × (bind_all ls d' (from ls x.end) ≡ bind_all ls d (from ls at)) × (mark_all ls u' (from ls x.end) ≡ mark_all ls u (from ls at))

    pub binding-asks : TypeAsk d u e.line e.end
    binding-asks = subst⁻¹ (λ (x : Entry). TypeAsk d u x.line x.end) E.same (asks E.within E.entry refl)

    pub binding-next : {d' u' : List ℕ} → TypeDone e d' u' → Next e d' u'
    binding-next {d'} {u'} = subst⁻¹ (λ (x : Entry). TypeDone x d' u' → Next x d' u') E.same (λ p. next E.within E.entry refl refl p.0 p.1)

-- ---- `bind_entries`
pub bind_done : (d : List ℕ) → Bindable d → {e : List ℕ} → e ≡ bind_all (rows d) d (declarations (rows d) 0 0) → (rows e ≡ rows d) × Ended e × (e ≡ bind_all (rows d) d (declarations (rows d) 0 0))
bind_done d a f = rw f (same_rows d a.linked a.free, all-ended d a.linked a.free, refl)

-- ---- what is read has no binder yet, and every name fits
-- the second words of rows
row_word : (ls ts : List Triple) (at : ℕ) (zs : List ℕ) (i : ℕ) → i < length ts → get_or (row_words ls at ts ++ zs) (2 * i + 1) 0 ≡ packed (get_or ts i no_triple) (part_line ls (at + i) 1)
unfolding row_words
row_word ls [] at zs i h = absurd (omega arith)
row_word ls (t ∷ ts) at zs zero h = ap (λ (l : ℕ). packed t (part_line ls l 1)) (sym (add-zero at))
row_word ls (t ∷ ts) at zs (suc i) h =
    let j : 2 * suc i + 1 ≡ suc (suc (2 * i + 1)) = omega arith in
    let k : at + suc i ≡ at + 1 + i = omega arith in
    rw (j, k) (row_word ls ts (at + 1) zs i (omega arith))

words-free : (ls : List Triple) → Small ls → length ls ≤ most_lines → (i : ℕ) → i < length ls → binder_at (unlinked_words ls) i ≡ 0
unfolding unlinked_words
words-free ls small few i h =
    let t = get_or ls i no_triple in
    let w = row_word ls ls 0 (zeros (2 * length ls)) i h in
    let k = (small i).0 in
    let c = (small i).1 in
    let b = bit-small t.negative in
    let l = line-within ls (0 + i) 1 (omega arith) in
    rw w (omega arith)

-- links stand behind the rows
entry_kept : (d : List ℕ) (i : ℕ) → (length (link_entry d i) ≡ length d) × ((j : ℕ) → j < 2 * line_count d → get_or (link_entry d i) j 0 ≡ get_or d j 0)
entry_kept d i = go (eqb (linked d t.kind t.value) 0)
  where
    t : Triple
    t = get_or (rows d) i no_triple

    slot : ℕ
    slot = t.value % line_count d

    go : (b : Bool) → (length (cond b (in_front d slot i) d) ≡ length d) × ((j : ℕ) → j < 2 * line_count d → get_or (cond b (in_front d slot i) d) j 0 ≡ get_or d j 0)
    go true = (
      simp length-set,
      λ j h. get_or-set_other (set d (3 * line_count d + i) (first_at d slot)) (2 * line_count d + slot) j (i + 1) 0 (λ q. omega arith) ∙ get_or-set_other d (3 * line_count d + i) j (first_at d slot) 0 (λ q. omega arith),
    )
    go false = (refl, λ j h. refl)

links-kept : (es : List Declaration) (d : List ℕ) (j : ℕ) → j < 2 * line_count d → get_or (link_all d es) j 0 ≡ get_or d j 0
unfolding link_all
links-kept [] d j h = refl
links-kept (e ∷ es) d j h =
    let k = entry_kept d (e.line - 1) in
    let l = k.0 in
    links-kept es (link_entry d (e.line - 1)) j (omega arith) ∙ k.1 j h

-- the names at the front of a type
front_fits : (ts : List Triple) → All InRange ts → All InTable (front_of ts)
unfolding front_of
front_fits [] h = tt
front_fits (t ∷ ts) h = go (eqb t.kind 14) refl (front_fits ts h.1)
  where
    go : (b : Bool) → eqb t.kind 14 ≡ b → All InTable (front_of ts) → All InTable (cond b (t.value ∷ front_of ts) [])
    go true e again =
        let k = eqb-true t.kind 14 e in
        let v = h.0.value (λ q. omega arith) in
        (omega arith, again)
    go false e again = tt

fronts-fit : (ls : List Triple) (es : List Declaration) → Typed ls es → FrontsFit ls es
fronts-fit ls [] h = tt
fronts-fit ls (e ∷ es) h = let ts = take e.count (drop e.line ls) in (front_fits ts (part-in-range a_type ts h.0), fronts-fit ls es h.1)

-- the lines of a plan read, and then every entry linked
module _ (s : List ℕ) (plan : check s ≡ Ok tt) {d d' : List ℕ} (words : d ≡ unlinked_words (triples s)) (lines : rows d ≡ triples s) (same : rows d' ≡ rows d) (links : d' ≡ link_all d (declarations (rows d) 0 0)) where
  pub plan-bindable : Linked d' → Bindable d'
  plan-bindable l =
      let n = length-rows d in
      let n' = length-rows d' in
      let m = ap length lines in
      let m' = ap length same in
      record {
        linked = l;
        free = λ i h.
            ap (λ (x : List ℕ). binder_at x i) links
            ∙ ap (λ (w : ℕ). w / 1099511627776) (links-kept (declarations (rows d) 0 0) d (2 * i + 1) (omega arith))
            ∙ ap (λ (x : List ℕ). binder_at x i) words
            ∙ words-free (triples s) (lines-small s) (plan-few s plan) i (omega arith);
        fit = subst⁻¹ (λ (ts : List Triple). FrontsFit ts (declarations ts 0 0)) (same ∙ lines) (fronts-fit (triples s) (declarations (triples s) 0 0) (formed s plan).entries);
      }

  pub plan-words : {e : List ℕ} → e ≡ bind_all (rows d') d' (declarations (rows d') 0 0) → e ≡ sheet_words (triples s)
  unfolding sheet_words
  plan-words f =
      f
      ∙ ap₂ (λ (ts : List Triple) (x : List ℕ). bind_all ts x (declarations ts 0 0)) (same ∙ lines) (links ∙ ap₂ (λ (x : List ℕ) (ts : List Triple). link_all x (declarations ts 0 0)) words lines)
