-- No chain has more links than there are numbers: in solutions that lead nowhere back (`few-links`), in good states, where as many are met (`longest`), and in every state
-- of every run from a good start under any limits (`run-links`), so of every sheet's (`sheet-links`). Assumes nothing.
use Rattle.std.proofs.lemmas.Option.{none-some}
use Rattle.std.specs.Prelude.{Option, None, Some, Ok}
use Prim.Native.Nat.{ℕ, zero, suc, ◌+◌, ◌≤◌, ◌<◌}
use native.Mathlib.Decide.{ℕ_discrete}
use native.Mathlib.Nat.{not-suc-le-zero}
use native.Mathlib.Omega.{arith}
use mathlib.Core.Path.{◌≡◌, refl, sym, ◌∙◌, ap, ap₂, subst, subst⁻¹}
use mathlib.Core.Logic.{◌≢◌, inl, inr}
use mathlib.Core.Bool.{Bool, true, false, cond, ◌&&◌, ◌||◌, false≢true}
use mathlib.Core.List.{List, [], ◌∷◌, ◌++◌}
use lib.Dec.{eqb}
use lib.ListN.{length}
use borrow.Author.Tests.{ltb-true, leb-true, le-leb}
use Rattle.sizes.specs.Sizes.{most_numbers}
use Rattle.nodes.specs.Nodes.{node, Ty}
use Rattle.nodes.specs.Lists.{All, In}
use Rattle.nodes.proofs.ListLaws.{cond_ind, all_map, all_append, all_in, all_of}
use Rattle.grammar.specs.Check.{check}
use Rattle.sheet.specs.Plan.{triples, plan_of}
use Rattle.judgment.specs.Types.{unknown, con, is_node, occurs}
use Rattle.judgment.specs.Solutions.{◌≔◌, Solutions, key, find, write_out, solution_nodes, Distinct, solved_unknowns}
use Rattle.judgment.specs.Board.{Entry, chk, Board, up_to, unlimited, Limit, within, below, Limits, Rule, done, refuse, fresh, push, solve, zonk, look, State, state, Operation, Outcome, finished, refused, room_for, perform, operations}
use Rattle.judgment.specs.Chain.{counter_of}
use Rattle.judgment.specs.Levels.{Levels, own_levels, levels_after, Mode}
use Rattle.judgment.specs.Rules.{Env, rule}
use Rattle.judgment.specs.Run.{step, Run, run, steps, add_step, onward, run_from, check_type}
use Rattle.judgment.specs.Result.{limits_for, env_of, run_of}
use Rattle.judgment.specs.Promise.{Follows, solutions}
use Rattle.judgment.specs.Good.{Free, Fine, SolutionOK, Inv}
use Rattle.judgment.specs.Links.{leads_on, is_chain, LinksUpTo, Longest, risen, chained, states, counter}
use Rattle.judgment.proofs.TypeLaws.{both, is_node-true, eqb-true, eqb_same, eqb-false}
use Rattle.judgment.proofs.SolutionLaws.{find-some, find-in, other-free, low-in, rank_falls, no-fine, fine-snoc, in-append, in-last}
use Rattle.judgment.proofs.Invariant.{Kept, perform_kept}
use Rattle.judgment.proofs.RuleLaws.{EnvOK, Explains, rule-good}
use Rattle.judgment.proofs.WholeRun.{solving-ind}
use Rattle.judgment.proofs.Plans.{plan-env, plan-inv, sheet-plan}

---------------------------------------------------------------- different numbers below m are at most m
-- the one that is m taken out
unfoldable without : ℕ → List ℕ → List ℕ
without m [] = []
without m (k ∷ ks) = cond (eqb k m) ks (k ∷ without m ks)

without-length : (m : ℕ) (ks : List ℕ) → length ks ≤ suc (length (without m ks))
unfolding without
without-length m [] = omega arith
without-length m (k ∷ ks) = let h = without-length m ks in cond_ind (λ (js : List ℕ). suc (length ks) ≤ suc (length js)) (eqb k m) (λ _. omega arith) (λ _. omega arith)

without_all : (P : ℕ → Type 0) (m : ℕ) (ks : List ℕ) → All P ks → All P (without m ks)
unfolding without
without_all P m [] h = tt
without_all P m (k ∷ ks) h = cond_ind (All P) (eqb k m) (λ _. h.1) (λ _. (h.0, without_all P m ks h.1))

without-distinct : (m : ℕ) (ks : List ℕ) → Distinct ks → Distinct (without m ks)
unfolding without
without-distinct m [] d = tt
without-distinct m (k ∷ ks) d = cond_ind Distinct (eqb k m) (λ _. d.1) (λ _. (without_all (λ j. k ≢ j) m ks d.0, without-distinct m ks d.1))

without-below : (m : ℕ) (ks : List ℕ) → Distinct ks → All (λ k. k < suc m) ks → All (λ k. k < m) (without m ks)
unfolding without
without-below m [] d h = tt
without-below m (k ∷ ks) d h =
    cond_ind (All (λ j. j < m)) (eqb k m)
    (λ e. let q = eqb-true k m e in all_of (λ j. j < m) ks (λ j i.
    let n = all_in (λ j. k ≢ j) ks j i d.0 in
    let l = all_in (λ j. j < suc m) ks j i h.1 in
    omega arith))
    (λ e. ((let n : k ≢ m = λ q. false≢true (sym e ∙ ap (λ (j : ℕ). eqb j m) q ∙ eqb_same m) in let l = h.0 in omega arith), without-below m ks d.1 h.1))

at-most : (m : ℕ) (ks : List ℕ) → Distinct ks → All (λ k. k < m) ks → length ks ≤ m
at-most zero [] d h = omega arith
at-most zero (k ∷ ks) d h = absurd (not-suc-le-zero h.0)
at-most (suc m) ks d h =
    let l = at-most m (without m ks) (without-distinct m ks d) (without-below m ks d h) in
    let n = without-length m ks in
    omega arith

---------------------------------------------------------------- solutions that lead nowhere back
occurs-in : (k : ℕ) (t : Ty) → occurs k t ≡ true → In (node 17 k) t
unfolding occurs
occurs-in k [] e = absurd (false≢true e)
occurs-in k (n ∷ t) e = go (is_node 17 k n) refl e (occurs-in k t)
  where
    go : (b : Bool) → is_node 17 k n ≡ b → (b || occurs k t) ≡ true → (occurs k t ≡ true → In (node 17 k) t) → In (node 17 k) (n ∷ t)
    go true p q f = inl (sym (is_node-true 17 k n p))
    go false p q f = inr (f q)

-- the solution of a chain's first unknown
followed : (σ : Solutions) (k : ℕ) (ks : List ℕ) → is_chain σ (k ∷ ks) ≡ true → (s : Ty) × (find k σ ≡ Some s) × (leads_on (Some s) ks ≡ true) × (is_chain σ ks ≡ true)
unfolding is_chain
followed σ k ks e = let h = both (leads_on (find k σ) ks) (is_chain σ ks) e in go (find k σ) refl h.0 h.1
  where
    go : (o : Option Ty) → find k σ ≡ o → leads_on o ks ≡ true → is_chain σ ks ≡ true → (s : Ty) × (find k σ ≡ Some s) × (leads_on (Some s) ks ≡ true) × (is_chain σ ks ≡ true)
    go None q l c = absurd (false≢true l)
    go (Some s) q l c = (s, q, l, c)

-- a chain goes on where following does
pub chain-follows : (σ : Solutions) (k j : ℕ) (ks : List ℕ) → is_chain σ (k ∷ j ∷ ks) ≡ true → Follows σ j k
chain-follows σ k j ks e = let a = followed σ k (j ∷ ks) e in (a.0, find-some σ k a.0 a.1, occurs-in j a.0 a.2)

in-occurs : (k : ℕ) (t : Ty) → In (node 17 k) t → occurs k t ≡ true
unfolding occurs
in-occurs k [] i = absurd i
in-occurs k (n ∷ t) (inl e) = ap (λ (b : Bool). b || occurs k t) (ap (is_node 17 k) (sym e) ∙ eqb_same k)
in-occurs k (n ∷ t) (inr i) = rw (in-occurs k t i) (or-true (is_node 17 k n))
  where
    or-true : (b : Bool) → (b || true) ≡ true
    or-true true = refl
    or-true false = refl

pub follows-chain : (σ : Solutions) → Distinct (solved_unknowns σ) → (k j : ℕ) (ks : List ℕ) → Follows σ j k → is_chain σ (j ∷ ks) ≡ true → is_chain σ (k ∷ j ∷ ks) ≡ true
unfolding is_chain
follows-chain σ d k j ks p e =
    ap₂ {C = Bool} (λ x y. x && y) (ap (λ (o : Option Ty). leads_on o (j ∷ ks)) (find-in σ d (◌≔◌ k p.0) p.1) ∙ in-occurs j p.0 p.2) e

module _ (σ : Solutions) (f : Fine σ) where
  -- ranks fall along a chain
  ranked : (k : ℕ) (ks : List ℕ) → is_chain σ (k ∷ ks) ≡ true → length ks ≤ f.rank k
  ranked k [] e = omega arith
  ranked k (j ∷ ks) e =
      let c = (followed σ k (j ∷ ks) e).3 in
      let b = followed σ j ks c in
      let fall = rank_falls σ f j k b.0 (chain-follows σ k j ks e) (find-some σ j b.0 b.1) in
      let rest = ranked j ks c in
      omega arith

  -- no more links than solutions
  pub links-solutions : LinksUpTo (length σ) σ
  links-solutions [] e = omega arith
  links-solutions (k ∷ ks) e =
      let a = followed σ k ks e in
      let low = low-in σ f (◌≔◌ k a.0) (find-some σ k a.0 a.1) in
      let rest = ranked k ks e in
      omega arith

solved-length : (σ : Solutions) → length (solved_unknowns σ) ≡ length σ
solved-length [] = refl
solved-length (◌≔◌ k s ∷ σ) = ap suc (solved-length σ)

solved-all : (P : ℕ → Type 0) (σ : Solutions) → All (λ x. P (key x)) σ → All P (solved_unknowns σ)
solved-all P [] h = tt
solved-all P (◌≔◌ k s ∷ σ) h = (h.0, solved-all P σ h.1)

-- no more links than there are numbers to solve
pub few-links : (σ : Solutions) → Fine σ → (m : ℕ) → All (λ x. key x < m) σ → LinksUpTo m σ
few-links σ f m h ks e =
    let few = at-most m (solved_unknowns σ) f.once (solved-all (λ k. k < m) σ h) in
    let same = solved-length σ in
    let links = links-solutions σ f ks e in
    omega arith

pub good-links : (Plain : Type 0) (Γ : Board) (σ : Solutions) (n : ℕ) → Inv Plain Γ σ n → LinksUpTo n σ
good-links Plain Γ σ n i = few-links σ i.fine n (all_map (λ x h. h.0) σ i.solutions)

-- A chain stays as more solutions are given. So what bounds the chains of a run's last solutions bounds those at any moment, between the operations of a step too.
found-still : (σ τ : Solutions) (k : ℕ) (s : Ty) → find k σ ≡ Some s → find k (σ ++ τ) ≡ Some s
unfolding find
found-still [] τ k s e = absurd (none-some s e)
found-still (◌≔◌ j r ∷ σ) τ k s e = go (eqb j k) e (found-still σ τ k s)
  where
    go : (b : Bool) → cond b (Some r) (find k σ) ≡ Some s → (find k σ ≡ Some s → find k (σ ++ τ) ≡ Some s) → cond b (Some r) (find k (σ ++ τ)) ≡ Some s
    go true q f = q
    go false q f = f q

chain-still : (σ τ : Solutions) (ks : List ℕ) → is_chain σ ks ≡ true → is_chain (σ ++ τ) ks ≡ true
unfolding is_chain
chain-still σ τ [] e = refl
chain-still σ τ (k ∷ ks) e =
    let a = followed σ k ks e in
    ap₂ {C = Bool} (λ x y. x && y) (ap (λ (o : Option Ty). leads_on o ks) (found-still σ τ k a.0 a.1) ∙ a.2) (chain-still σ τ ks a.3)

pub links-before : (σ τ : Solutions) (m : ℕ) → LinksUpTo m (σ ++ τ) → LinksUpTo m σ
links-before σ τ m h ks e = h ks (chain-still σ τ ks e)

---------------------------------------------------------------- as many are met
-- n numbers from k on
unfoldable pub rising : ℕ → ℕ → List ℕ
rising k zero = []
rising k (suc n) = k ∷ rising (suc k) n

rising-length : (k n : ℕ) → length (rising k n) ≡ n
unfolding rising
rising-length k zero = refl
rising-length k (suc n) = ap suc (rising-length (suc k) n)

-- numbers made and not yet solved
free-above : (n j : ℕ) → n ≤ j → (σ : Solutions) → All (λ x. key x < n) σ → Free (solved_unknowns σ) (node 17 j)
free-above n j l σ h = all_map (λ k m. eqb-false k j (λ e. (let z = m in omega arith))) (solved_unknowns σ) (solved-all (λ k. k < n) σ h)

pub risen-below : (n : ℕ) → All (λ x. key x < n) (risen n)
unfolding risen
risen-below zero = tt
risen-below (suc n) =
    all_append (λ x. key x < suc n) (risen n) (◌≔◌ n (unknown (suc n)) ∷ []) (all_map (λ x l. (let z = l in omega arith)) (risen n) (risen-below n)) (omega arith, tt)

-- what solving n next asks
pub risen-free : (n j : ℕ) → n ≤ j → Free (solved_unknowns (risen n)) (node 17 j)
risen-free n j l = free-above n j l (risen n) (risen-below n)

pub next-free : (n : ℕ) → All (Free (n ∷ solved_unknowns (risen n))) (unknown (suc n))
next-free n = ((eqb-false n (suc n) (λ e. (let z = e in omega arith)), risen-free n (suc n) (omega arith)), tt)

pub last-free : (n : ℕ) → All (Free (n ∷ solved_unknowns (risen n))) (con 1)
last-free n = (other-free (n ∷ solved_unknowns (risen n)) 12 1 (omega arith), tt)

risen-fine : (n : ℕ) → Fine (risen n)
unfolding risen
risen-fine zero = no-fine
risen-fine (suc n) = fine-snoc (risen n) n (unknown (suc n)) (risen-fine n) (risen-free n n (omega arith)) (next-free n)

chained-fine : (n : ℕ) → Fine (chained n)
chained-fine n = fine-snoc (risen n) n (con 1) (risen-fine n) (risen-free n n (omega arith)) (last-free n)

risen-in : (n k : ℕ) → k < n → In (◌≔◌ k (unknown (suc k))) (risen n)
unfolding risen
risen-in zero k l = absurd (not-suc-le-zero l)
risen-in (suc n) k l =
    elim (ℕ_discrete k n) [
      | yes e ↦ subst⁻¹ (λ (j : ℕ). In (◌≔◌ j (unknown (suc j))) (risen n ++ (◌≔◌ n (unknown (suc n)) ∷ []))) e (in-last (risen n) (◌≔◌ n (unknown (suc n))))
      | no f ↦ in-append (risen n) (◌≔◌ n (unknown (suc n)) ∷ []) (◌≔◌ k (unknown (suc k))) (risen-in n k (omega arith))
    ]

chained-chain : (n m k : ℕ) → m + k ≡ n → is_chain (chained n) (rising k (suc m)) ≡ true
unfolding is_chain rising occurs
chained-chain n zero k e =
    let q : k ≡ n = omega arith in
    let i = subst⁻¹ (λ (j : ℕ). In (◌≔◌ j (con 1)) (chained n)) q (in-last (risen n) (◌≔◌ n (con 1))) in
    ap (λ (o : Option Ty). leads_on o [] && true) (find-in (chained n) (chained-fine n).once (◌≔◌ k (con 1)) i)
chained-chain n (suc m) k e =
    let i = in-append (risen n) (◌≔◌ n (con 1) ∷ []) (◌≔◌ k (unknown (suc k))) (risen-in n k (omega arith)) in
    ap₂ {C = Bool} (λ x y. x && y)
    (ap (λ (o : Option Ty). leads_on o (rising (suc k) (suc m))) (find-in (chained n) (chained-fine n).once (◌≔◌ k (unknown (suc k))) i) ∙ ap (λ b. b || false) (eqb_same (suc k)))
    (chained-chain n m (suc k) (omega arith))

-- of 0 → … → n → Int, from the first on
pub chained-links : (n : ℕ) → (ks : List ℕ) × (is_chain (chained n) ks ≡ true) × (length ks ≡ suc n)
chained-links n = (rising 0 (suc n), chained-chain n n 0 (omega arith), rising-length 0 (suc n))

risen-ok : (m n : ℕ) → n < m → All (SolutionOK ⊥ m) (risen n)
unfolding risen
risen-ok m zero l = tt
risen-ok m (suc n) l =
    all_append (SolutionOK ⊥ m) (risen n) (◌≔◌ n (unknown (suc n)) ∷ []) (risen-ok m n (omega arith))
    ((omega arith, (((λ e. l), λ p. absurd p), tt), (omega arith, tt)), tt)

-- of the good states whose counter is m, the longest chain has m links
pub longest : (m : ℕ) → Longest (λ σ. (Γ : Board) × Inv ⊥ Γ σ m) m
unfolding is_chain
longest m = record { most = λ σ g. good-links ⊥ g.0 σ m g.1; met = met m }
  where
    met : (m : ℕ) → (σ : Solutions) × ((Γ : Board) × Inv ⊥ Γ σ m) × ((ks : List ℕ) × (is_chain σ ks ≡ true) × (length ks ≡ m))
    met zero = ([], ([], record { entries = tt; fine = no-fine; solutions = tt }), ([], refl, refl))
    met (suc n) =
        let i : Inv ⊥ [] (chained n) (suc n) = record {
          entries = tt;
          fine = chained-fine n;
          solutions = all_append (SolutionOK ⊥ (suc n)) (risen n) (◌≔◌ n (con 1) ∷ []) (risen-ok (suc n) n (omega arith)) ((omega arith, (((λ e. (let z : 12 ≡ 17 = e in omega arith)), λ p. absurd p), tt), (omega arith, tt)), tt);
        } in
        (chained n, ([], i), chained-links n)

---------------------------------------------------------------- runs
-- a state for every entry taken, and one more
pub states-length : (R : Run) → length (states R) ≡ suc (length (steps R))
states-length (run [] d s) = refl
states-length (run (step t e os o ∷ ss) d s) = ap suc (states-length (run ss d s))

within-suc : (n : ℕ) (l : Limit) → below n l ≡ true → within (suc n) l ≡ true
within-suc n (up_to m) e = le-leb (suc n) m (ltb-true n m e)
within-suc n unlimited e = refl

-- the counter stays within its limit
module _ (L : Limits) where
  abbrev pub Counted : Outcome → Type 0
  Counted o = within (counter_of o) L.numbers ≡ true

  pub perform-counted : (p : Rule) (Γ : Board) (σ : Solutions) (n : ℕ) → within n L.numbers ≡ true → Counted (perform L p Γ σ n)
  unfolding perform
  perform-counted done Γ σ n h = h
  perform-counted (refuse r ts) Γ σ n h = h
  perform-counted (fresh g f) Γ σ n h =
      cond_ind Counted (below n L.numbers) (λ e. perform-counted (f n) Γ σ (suc n) (within-suc n L.numbers e)) (λ _. h)
  perform-counted (push e p) Γ σ n h = cond_ind Counted (room_for L e Γ) (λ _. perform-counted p (e ∷ Γ) σ n h) (λ _. h)
  perform-counted (solve k s p) Γ σ n h =
      solving-ind Counted (find k σ) s
      (cond_ind Counted (L.scope k s) (λ _. cond_ind Counted (within (solution_nodes σ + length s) L.solved) (λ _. perform-counted p Γ (σ ++ (◌≔◌ k s ∷ [])) n h) (λ _. h)) (λ _. h))
      (perform-counted p Γ σ n h) h
  perform-counted (zonk t f) Γ σ n h =
      cond_ind Counted (within (length (write_out σ t)) L.written) (λ _. perform-counted (f (write_out σ t)) Γ σ n h) (λ _. h)
  perform-counted (look f) Γ σ n h = perform-counted (f Γ) Γ σ n h

-- every state of a run is good, and its counter within the limit if it was at the start
module _ (Plain : Type 0) (L : Levels → Limits) (most : Limit) (even : (v : Levels) → (L v).numbers ≡ most) (E : Env) (hE : EnvOK Plain E) (Small : Type 0) where
  abbrev At : State → Type 0
  At (state Γ σ n) = Inv Plain Γ σ n × (Small → within n most ≡ true)

  onward-at : (Q : Board → Solutions → ℕ → Type 0) (s : State) (e : Entry) (os : List Operation) (o : Outcome) (again : State → Run) → At s → Kept Plain Q o → (Small → within (counter_of o) most ≡ true)
      → ((Γ : Board) (σ : Solutions) (n : ℕ) → At (state Γ σ n) → All At (states (again (state Γ σ n)))) → All At (states (onward L E s e os o again))
  onward-at Q s e os (finished (state Γ σ n)) again a k c f = first (again (state Γ σ n)) (f Γ σ n (k.0, c))
    where
      first : (R : Run) → All At (states R) → All At (states (add_step (step s e os (finished (state Γ σ n))) R))
      first (run ss d t) h = (a, h)
  onward-at Q s e os (refused r ts (state Γ σ n)) again a k c f = (a, ((k.0, c), tt))

  run_at : (c : ℕ) (v : Levels) (Γ : Board) (σ : Solutions) (n : ℕ) → At (state Γ σ n) → All At (states (run_from L E c v (state Γ σ n)))
  unfolding run_from
  run_at zero v [] σ n a = (a, tt)
  run_at zero v (e ∷ Γ) σ n a = (a, tt)
  run_at (suc c) v [] σ n a = (a, tt)
  run_at (suc c) v (e ∷ Γ) σ n a =
      let i = a.0 in
      let j : Inv Plain Γ σ n = record { entries = i.entries.1; fine = i.fine; solutions = i.solutions } in
      let os : List Operation = operations (L v) (rule E e) Γ σ n in
      onward-at (Explains Plain σ e) (state (e ∷ Γ) σ n) e os (perform (L v) (rule E e) Γ σ n) (λ s. run_from L E c (levels_after os v) s) a
      (perform_kept Plain (L v) (Explains Plain σ e) (rule E e) Γ σ n j (rule-good Plain E hE Γ σ n j e i.entries.0))
      (λ small. subst (λ m. within (counter_of (perform (L v) (rule E e) Γ σ n)) m ≡ true) (even v) (perform-counted (L v) (rule E e) Γ σ n (subst⁻¹ (λ m. within n m ≡ true) (even v) (a.1 small))))
      (λ Γ₁ σ₁ n₁ a₁. run_at c (levels_after os v) Γ₁ σ₁ n₁ a₁)

-- Under any limits of which that on numbers is one and the same, in every state of a run from a good start: no more links than numbers made, and no more of these than the limit, if no more were made at the start.
pub run-links : (Plain : Type 0) (L : Levels → Limits) (most : Limit) → ((v : Levels) → (L v).numbers ≡ most) → (E : Env) → EnvOK Plain E → (c : ℕ) (v : Levels) (Γ : Board) (σ : Solutions) (n : ℕ) → Inv Plain Γ σ n
    → All (λ s. LinksUpTo (counter s) (solutions s) × (within n most ≡ true → within (counter s) most ≡ true)) (states (run_from L E c v (state Γ σ n)))
run-links Plain L most even E hE c v Γ σ n i =
    all_map links (states (run_from L E c v (state Γ σ n))) (run_at Plain L most even E hE (within n most ≡ true) c v Γ σ n (i, λ h. h))
  where
    links : (s : State) → At Plain L most even E hE (within n most ≡ true) s → LinksUpTo (counter s) (solutions s) × (within n most ≡ true → within (counter s) most ≡ true)
    links (state Γ' σ' n') a = (good-links Plain Γ' σ' n' a.0, a.1)

-- with document 01's limit on numbers
pub limited-links : (Plain : Type 0) (m : Mode) (w : ℕ) (E : Env) → EnvOK Plain E → (c : ℕ) (v : Levels) (Γ : Board) (σ : Solutions) (n : ℕ) → Inv Plain Γ σ n → n ≤ most_numbers
    → All (λ s. LinksUpTo most_numbers (solutions s)) (states (run_from (limits_for m w) E c v (state Γ σ n)))
limited-links Plain m w E hE c v Γ σ n i l =
    all_map (λ s h ks e. (let a = h.0 ks e in let b = leb-true (counter s) most_numbers (h.1 (le-leb n most_numbers l)) in omega arith))
    (states (run_from (limits_for m w) E c v (state Γ σ n))) (run-links Plain (limits_for m w) (up_to most_numbers) (λ _. refl) E hE c v Γ σ n i)

-- every sheet that passes refusals 3 to 5, every ceiling and every limit on written-out types, by either call
pub sheet-links : (m : Mode) (s : List ℕ) (c w : ℕ) → check s ≡ Ok tt → All (λ t. LinksUpTo most_numbers (solutions t)) (states (run_of (limits_for m w) c (plan_of (triples s))))
unfolding run_of check_type
sheet-links m s c w e =
    let p = plan_of (triples s) in
    let g = sheet-plan s e in
    limited-links ⊥ m w (env_of p) (plan-env p g) c own_levels (chk p.term p.expected ∷ []) [] 0 (plan-inv p g) (omega arith)
