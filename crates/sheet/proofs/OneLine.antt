-- What one line adds: to the lines of parts, to the names marked, to the binders, and as an entry to the plain mark.
-- Assumes nothing.
use Rattle.std.proofs.Common.{◌≡◌, refl, sym, ap, ◌∙◌, Bool, true, false, not, cond, ◌&&◌, ◌||◌, List, ◌∷◌, ℕ, suc, ◌+◌, ◌-◌, ◌≤◌, ◌<◌, arith, length, get_or, set, take, drop, length-drop, eqb, ne_eqb, eq-eqb, drop-cons}
use Rattle.std.proofs.Math.Seq.{set_out}
use lib.ListN.{get_or-eq_default}
use Rattle.nodes.specs.Parts.{take_parts}
use Rattle.nodes.proofs.PartLaws.{take-turn, take_all}
use Rattle.spelling.specs.declared.Triple.{Triple}
use Rattle.kinds.specs.Kinds.{parts_of}
use Rattle.kinds.proofs.Rows.{few-parts}
use Rattle.sheet.specs.Plan.{triples, no_triple, is_entry, part_line, is_plain, is_use, plain_entries}
use Rattle.sheet.specs.Rows.{place_in, binder_of}
use Rattle.sheet.specs.Binders.{binder_by}
use Rattle.sheet.specs.Used.{mark_name, is_marked, Tells}
use Rattle.sheet.proofs.Binders.{place-small}
use Rattle.sheet.proofs.Declarations.{seen, from, from-none, from_one, from_past}
use Rattle.sheet.proofs.Lines.{count_small}

-- ---- the lines of parts
pub parts-small : (s : List ℕ) (i : ℕ) → parts_of (get_or (triples s) i no_triple) ≤ 200003
parts-small s i = few-parts (get_or (triples s) i no_triple) (count_small s i)

module _ (ls : List Triple) (at n : ℕ) where
  pub line-all : at ≤ length ls → length ls - at ≤ n → length ls ≡ part_line ls at n
  unfolding part_line
  line-all h k =
      let e : length (drop at ls) ≡ length ls - at = length-drop at ls in
      rw (take_all parts_of (drop at ls) n (omega arith), e) (omega arith)

  pub line-beyond : at < length ls → (n ≡ 0 → ⊥) → at < part_line ls at n
  unfolding part_line
  line-beyond h k =
      let e : take_parts parts_of (drop at ls) n ≡ get_or ls at no_triple ∷ take_parts parts_of (drop (suc at) ls) (n - 1 + parts_of (get_or ls at no_triple)) = rw (drop-cons ls at no_triple h) (take-turn parts_of (get_or ls at no_triple) (drop (suc at) ls) n k) in
      rw e (omega arith)

-- ---- the names marked
module _ (t : Triple) (u : List ℕ) where
  pub mark-used : is_use t.kind ≡ true → set u t.value 1 ≡ mark_name t u
  mark-used e = sym (rw e)

  pub mark-out : is_use t.kind ≡ true → length u ≤ t.value → u ≡ mark_name t u
  mark-out e h = sym (set_out u t.value 1 h) ∙ mark-used e

  pub mark-unused : is_use t.kind ≡ false → u ≡ mark_name t u
  mark-unused e = sym (rw e)

-- ---- the binders
pub binder-small : (xs : List ℕ) (t : Triple) → binder_of xs t ≤ length xs
binder-small xs t = go (eqb t.kind 11)
  where
    go : (b : Bool) → cond b (place_in xs t.value) 0 ≤ length xs
    go true = place-small xs t.value
    go false = omega arith

module _ (u : List ℕ) (i : ℕ) (t : Triple) where
  pub binder-var : t.kind ≡ 11 → get_or u t.value 0 - i ≡ binder_by u i t
  binder-var e = ap (λ (b : Bool). cond b (get_or u t.value 0 - i) 0) (sym (eq-eqb t.kind 11 e))

  pub binder-older : t.kind ≡ 11 → get_or u t.value 0 ≤ i → 0 ≡ binder_by u i t
  binder-older e h = let z : 0 ≡ get_or u t.value 0 - i = omega arith in z ∙ binder-var e

  pub binder-past : t.kind ≡ 11 → length u ≤ t.value → 0 ≡ binder_by u i t
  binder-past e h = let z = get_or-eq_default u 0 h in binder-older e (omega arith)

  pub binder-not : (t.kind ≡ 11 → ⊥) → 0 ≡ binder_by u i t
  binder-not n = ap (λ (b : Bool). cond b (get_or u t.value 0 - i) 0) (sym (ne_eqb t.kind 11 n))

-- ---- an entry of the plain mark
module _ (term ls : List Triple) where
  pub entries-past : (at : ℕ) → length ls ≤ at → true ≡ plain_entries term ls (from ls at)
  unfolding plain_entries
  entries-past at h = rw (from_past ls at h)

  module _ (at : ℕ) (h : at < length ls) where
    abbrev head : Triple
    head = get_or ls at no_triple

    abbrev next : ℕ
    next = part_line ls (at + 1) 1

    pub entries_none : is_entry head ≡ false → true ≡ plain_entries term ls (from ls at)
    unfolding plain_entries
    entries_none e = rw (from-none ls at h e)

    -- by a table of the term's names, from what was read of the entry
    module _ (u : List ℕ) (tells : Tells u term) {t : Triple} (read : t ≡ head) {entry : Bool} (tested : entry ≡ is_entry t) (holds : entry ≡ true) {end : ℕ} (ends : end ≡ next)
        {plain : Bool} (looked : plain ≡ (not (is_marked u t.value) || is_plain (take (end - (at + 1)) (drop (at + 1) ls)))) where
      entries-one : plain_entries term ls (from ls at) ≡ (plain && plain_entries term ls (from ls end))
      unfolding plain_entries
      entries-one = ap (plain_entries term ls) (from_one ls at h (seen is_entry read tested holds)) ∙ rw (looked, ends, read, tells head.value)

      pub entries-not : plain ≡ false → false ≡ plain_entries term ls (from ls at)
      entries-not f = sym (entries-one ∙ ap (λ (b : Bool). b && plain_entries term ls (from ls end)) f)

      pub entries-turn : plain ≡ true → plain_entries term ls (from ls end) ≡ plain_entries term ls (from ls at)
      entries-turn f = sym (entries-one ∙ ap (λ (b : Bool). b && plain_entries term ls (from ls end)) f)
