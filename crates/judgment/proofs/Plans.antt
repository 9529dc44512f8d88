-- What the types and the term of a plan have: no unknown and, in a plain plan with those entries alone that its term names, no quantifier and
-- no type abstraction. Assumes nothing.
use Rattle.std.specs.Prelude.{Ok}
use Prim.Native.Nat.{ℕ, zero, suc, ◌+◌}
use mathlib.Core.Path.{◌≡◌, refl, ap₂}
use mathlib.Core.Logic.{◌≢◌}
use mathlib.Core.Bool.{Bool, true, false, not, cond, ◌&&◌, ◌||◌, false≢true}
use mathlib.Core.List.{List, [], ◌∷◌}
use lib.ListN.{take, drop}
use lib.Dec.{eqb}
use Rattle.nodes.specs.Nodes.{Node, kind}
use Rattle.nodes.specs.Lists.{All}
use Rattle.nodes.specs.Parts.{take_parts}
use Rattle.nodes.proofs.ListLaws.{cond_ind, all_take, all-of-take, all-of-drop}
use Rattle.spelling.specs.declared.Triple.{Triple}
use Rattle.kinds.specs.Kinds.{parts_of}
use Rattle.grammar.specs.Check.{check}
use Rattle.sheet.specs.Plan.{triples, line_node, nodes_of, is_entry, Declaration, declarations, Binding, ◌∶◌, Bindings, bindings_in, places_of, is_plain, names, plain_entries, plain_plan, Plan as PlanOf, plan_of}
use Rattle.sheet.proofs.LineKinds.{no-unknown, plain-kinds, kinds-plain}
use Rattle.judgment.specs.Board.{chk}
use Rattle.judgment.specs.Result.{env_of}
use Rattle.judgment.specs.Good.{Lines, OK, Inv}
use Rattle.judgment.specs.Restricted.{named_by, restricted}
use Rattle.judgment.proofs.TypeLaws.{both, all-nodes}
use Rattle.judgment.proofs.SolutionLaws.{no-fine}
use Rattle.judgment.proofs.RuleLaws.{BindingOK, EnvOK}

-- ---- what holds of every node of a plan's types and of every line of its term
abbrev pub BindingHas : (Node → Type 0) → Binding → Type 0
BindingHas P (◌∶◌ x t) = All P t

pub record PlanHas (P : Node → Type 0) (p : PlanOf) : Type 0 where
  pub constructors : All (BindingHas P) p.constructors
  pub context : All (BindingHas P) p.context
  pub term : Lines P p.term
  pub expected : All P p.expected

abbrev pub NoUnknown : Node → Type 0
NoUnknown x = kind x ≢ 17

-- of types no quantifier, of a term's lines no type abstraction either
abbrev pub Unquantified : Node → Type 0
Unquantified x = (kind x ≢ 14) × (kind x ≢ 25)

-- ---- where the run of a good plan starts
pub record GoodPlan (Plain : Type 0) (p : PlanOf) : Type 0 where
  pub no-unknowns : PlanHas NoUnknown p
  pub if-plain : Plain → PlanHas Unquantified p

module _ {A : Type 0} (Plain : Type 0) (f : A → Node) where
  ok_of : (xs : List A) → All (λ x. NoUnknown (f x)) xs → (Plain → All (λ x. Unquantified (f x)) xs) → All (λ x. OK Plain 0 (f x)) xs
  ok_of [] h g = tt
  ok_of (x ∷ xs) h g = ((λ e. absurd (h.0 e), λ p. (g p).0), ok_of xs h.1 (λ p. (g p).1))

bindings-ok : (Plain : Type 0) (bs : Bindings) → All (BindingHas NoUnknown) bs → (Plain → All (BindingHas Unquantified) bs) → All (BindingOK Plain 0) bs
bindings-ok Plain [] h g = tt
bindings-ok Plain (◌∶◌ x t ∷ bs) h g = (ok_of Plain (λ n. n) t h.0 (λ p. (g p).0), bindings-ok Plain bs h.1 (λ p. (g p).1))

module _ {Plain : Type 0} (p : PlanOf) (g : GoodPlan Plain p) where
  pub plan-env : EnvOK Plain (env_of p)
  plan-env = record {
    constructors = bindings-ok Plain p.constructors g.no-unknowns.constructors (λ e. (g.if-plain e).constructors);
    context = bindings-ok Plain p.context g.no-unknowns.context (λ e. (g.if-plain e).context);
  }

  pub plan-inv : Inv Plain (chk p.term p.expected ∷ []) [] 0
  plan-inv = record {
    entries = ((ok_of Plain line_node p.term.lines g.no-unknowns.term (λ e. (g.if-plain e).term), ok_of Plain (λ n. n) p.expected g.no-unknowns.expected (λ e. (g.if-plain e).expected)), tt);
    fine = no-fine;
    solutions = tt;
  }

-- ---- a sheet: what its lines have, its plan has
module _ (P : Node → Type 0) (ls : List Triple) (h : All (λ l. P (line_node l)) ls) where
  bindings-have : (k : ℕ) (es : List Declaration) → All (BindingHas P) (bindings_in k ls es)
  unfolding bindings_in
  bindings-have k [] = tt
  bindings-have k (e ∷ es) =
      cond_ind (All (BindingHas P)) (eqb e.head.kind k)
      (λ _. (all-nodes P (take e.count (drop e.line ls)) (all-of-take (λ l. P (line_node l)) e.count (drop e.line ls) (all-of-drop (λ l. P (line_node l)) e.line ls h)), bindings-have k es))
      (λ _. bindings-have k es)

  lines-have : PlanHas P (plan_of ls)
  unfolding plan_of
  lines-have = record {
    constructors = bindings-have 1 (declarations ls 0 0);
    context = bindings-have 2 (declarations ls 0 0);
    term = all-of-drop (λ l. P (line_node l)) (places_of ls).term ls h;
    expected =
        all-nodes P (take_parts parts_of (drop (places_of ls).expected ls) 1)
        (all_take parts_of (λ l. P (line_node l)) (drop (places_of ls).expected ls) 1 (all-of-drop (λ l. P (line_node l)) (places_of ls).expected ls h));
  }

-- a sheet that is taken has no unknown; of quantifiers this says nothing
pub sheet-plan : (s : List ℕ) → check s ≡ Ok tt → GoodPlan ⊥ (plan_of (triples s))
sheet-plan s e = record { no-unknowns = lines-have NoUnknown (triples s) (no-unknown s e); if-plain = λ q. absurd q }

-- ---- with those entries alone that the term names
named-have : (Q : Binding → Type 0) (ls : List Triple) (bs : Bindings) → All Q bs → All Q (named_by ls bs)
unfolding named_by
named-have Q ls [] h = tt
named-have Q ls (◌∶◌ x t ∷ bs) h = cond_ind (All Q) (names x ls) (λ _. (h.0, named-have Q ls bs h.1)) (λ _. named-have Q ls bs h.1)

restricted-has : (P : Node → Type 0) (p : PlanOf) → PlanHas P p → PlanHas P (restricted p)
restricted-has P p h = record {
  constructors = named-have (BindingHas P) p.term.lines p.constructors h.constructors;
  context = named-have (BindingHas P) p.term.lines p.context h.context;
  term = h.term;
  expected = h.expected;
}

-- ---- the plain mark
all-entries : (ts : List Triple) (d at : ℕ) → All (λ e. is_entry e.head ≡ true) (declarations ts d at)
unfolding declarations
all-entries [] d at = tt
all-entries (t ∷ ts) (suc d) at = all-entries ts (parts_of t + d) (at + 1)
all-entries (t ∷ ts) zero at = cond_ind (All (λ e. is_entry e.head ≡ true)) (is_entry t) (λ e. (e, all-entries ts 1 (at + 1))) (λ _. tt)

-- the lines whose nodes have it
nodes-all : (P : Node → Type 0) (ls : List Triple) → All P (nodes_of ls) → All (λ l. P (line_node l)) ls
nodes-all P [] h = tt
nodes-all P (l ∷ ls) h = (h.0, nodes-all P ls h.1)

used : (m b : Bool) → (not m || b) ≡ true → m ≡ true → b ≡ true
used true b e q = e
used false b e q = absurd (false≢true q)

either : {A : Type 0} (a : Bool) {b : Bool} → (a || b) ≡ true → (a ≡ true → A) → (b ≡ true → A) → A
either true e f g = f refl
either false e f g = g e

unused : (m b : Bool) → (m ≡ true → b ≡ true) → (not m || b) ≡ true
unused true b f = f refl
unused false b f = refl

module _ (term ls : List Triple) where
  abbrev type : Declaration → List Triple
  type e = take e.count (drop e.line ls)

  -- the bindings of kind k that are left
  abbrev left : ℕ → List Declaration → Bindings
  left k es = named_by term (bindings_in k ls es)

  entries-plain : (k : ℕ) (es : List Declaration) → plain_entries term ls es ≡ true → All (BindingHas Unquantified) (left k es)
  unfolding plain_entries bindings_in named_by
  entries-plain k [] h = tt
  entries-plain k (e ∷ es) h =
      let x = e.head.value in
      let b = both (not (names x term) || is_plain (type e)) (plain_entries term ls es) h in
      let others = entries-plain k es b.1 in
      cond_ind (λ bs. All (BindingHas Unquantified) (named_by term bs)) (eqb e.head.kind k)
      (λ _. cond_ind (All (BindingHas Unquantified)) (names x term)
      (λ n. (all-nodes Unquantified (type e) (plain-kinds (type e) (used (names x term) (is_plain (type e)) b.0 n)), others)) (λ _. others))
      (λ _. others)

  -- of what is left under kind k, the first and the others
  one_left : (k : ℕ) (e : Declaration) (es : List Declaration) → All (BindingHas Unquantified) (left k (e ∷ es))
      → (eqb e.head.kind k ≡ true → names e.head.value term ≡ true → is_plain (type e) ≡ true) × All (BindingHas Unquantified) (left k es)
  unfolding bindings_in named_by
  one_left k e es = go (eqb e.head.kind k)
    where
      by : (m : Bool) → All (BindingHas Unquantified) (cond m (◌∶◌ e.head.value (nodes_of (type e)) ∷ left k es) (left k es))
          → (m ≡ true → is_plain (type e) ≡ true) × All (BindingHas Unquantified) (left k es)
      by true h = (λ _. kinds-plain (type e) (nodes-all Unquantified (type e) h.0), h.1)
      by false h = (λ q. absurd (false≢true q), h)

      go : (b : Bool) → All (BindingHas Unquantified) (named_by term (cond b (◌∶◌ e.head.value (nodes_of (type e)) ∷ bindings_in k ls es) (bindings_in k ls es)))
          → (b ≡ true → names e.head.value term ≡ true → is_plain (type e) ≡ true) × All (BindingHas Unquantified) (left k es)
      go true h = let r = by (names e.head.value term) h in (λ _. r.0, r.1)
      go false h = (λ q. absurd (false≢true q), h)

  entries-unquantified : (es : List Declaration) → All (λ e. is_entry e.head ≡ true) es → All (BindingHas Unquantified) (left 1 es) → All (BindingHas Unquantified) (left 2 es)
      → plain_entries term ls es ≡ true
  unfolding plain_entries
  entries-unquantified [] k h g = refl
  entries-unquantified (e ∷ es) k h g =
      let a = one_left 1 e es h in
      let b = one_left 2 e es g in
      ap₂ ◌&&◌
      (unused (names e.head.value term) (is_plain (type e)) (λ n. either (eqb e.head.kind 1) k.0 (λ q. a.0 q n) (λ q. b.0 q n)))
      (entries-unquantified es k.1 a.1 b.1)

-- THE PLAIN MARK says exactly that no quantifier and no type abstraction is left
module _ (ls : List Triple) where
  abbrev term : List Triple
  term = drop (places_of ls).term ls

  abbrev expected : List Triple
  expected = take_parts parts_of (drop (places_of ls).expected ls) 1

  pub plain-unquantified : plain_plan ls ≡ true → PlanHas Unquantified (restricted (plan_of ls))
  unfolding plain_plan plan_of
  plain-unquantified e =
      let h = both (is_plain expected) (is_plain term && plain_entries term ls (declarations ls 0 0)) e in
      let g = both (is_plain term) (plain_entries term ls (declarations ls 0 0)) h.1 in
      record {
        constructors = entries-plain term ls 1 (declarations ls 0 0) g.1;
        context = entries-plain term ls 2 (declarations ls 0 0) g.1;
        term = plain-kinds term g.0;
        expected = all-nodes Unquantified expected (plain-kinds expected h.0);
      }

  pub unquantified-plain : PlanHas Unquantified (restricted (plan_of ls)) → plain_plan ls ≡ true
  unfolding plain_plan plan_of
  unquantified-plain h =
      ap₂ ◌&&◌ (kinds-plain expected (nodes-all Unquantified expected h.expected))
      (ap₂ ◌&&◌ (kinds-plain term h.term) (entries-unquantified term ls (declarations ls 0 0) (all-entries ls 0 0) h.constructors h.context))

pub restricted-good : (s : List ℕ) → check s ≡ Ok tt → GoodPlan ((plan_of (triples s)).plain ≡ true) (restricted (plan_of (triples s)))
unfolding plan_of
restricted-good s e = record {
  no-unknowns = restricted-has NoUnknown (plan_of (triples s)) (sheet-plan s e).no-unknowns;
  if-plain = λ q. plain-unquantified (triples s) q;
}
