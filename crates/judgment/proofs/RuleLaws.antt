-- Every rule keeps the invariant; and a comparison that finishes is explained by what its rule pushed and solved.
-- Assumes nothing.
use Rattle.std.specs.Prelude.{Option, None, Some}
use Prim.Native.Nat.{ℕ, zero, suc, ◌≤◌, ◌<◌}
use native.Mathlib.Omega.{arith}
use mathlib.Core.Path.{◌≡◌, refl, sym, ◌∙◌, ap, ap₂, subst, subst⁻¹}
use mathlib.Core.Logic.{◌≢◌}
use mathlib.Core.Bool.{Bool, true, false, cond, not, ◌||◌, true≢false}
use mathlib.Core.List.{List, [], ◌∷◌, ◌++◌}
use lib.Dec.{eqb, leb, ltb}
use lib.ListN.{length}
use Rattle.nodes.specs.Lists.{All}
use Rattle.nodes.proofs.ListLaws.{cond_ind, all_map, all_append, all_split}
use Rattle.nodes.specs.Nodes.{Node, node, Ty, kind}
use Rattle.judgment.specs.Types.{unknown, con, forall, is_node, eq_ty, View, is_arrow, is_app, is_forall, is_unknown, is_other, view, occurs, is_monotype, substitute, Renaming, rename, front_names, after_front}
use Rattle.judgment.proofs.TypeLaws.{both, eqb-false, eqb_same, eq_ty-true, Shows, view-shows, all-substitute, all-rename, all-after_front, all-part, all_after, TermHas, term-has, LambdaHas, lambda-has}
use Rattle.spelling.specs.declared.Triple.{Triple}
use Rattle.judgment.specs.Terms.{Term, part, after_parts, Lambda, lambda_of, TermView, is_var, is_lit_int, is_lambda, is_apply, is_type_lambda, is_constructor, is_case, is_bin_op, is_if, is_intrinsic, is_none, term_view, PatternView, is_wildcard, is_pattern_var, is_pattern_constructor, pattern_view}
use Rattle.judgment.specs.Solutions.{◌≔◌, Solutions, write_out, solved_unknowns}
use Rattle.judgment.proofs.SolutionLaws.{other-free, all-written, written-append, written-node, written-is-free, solved-now}
use Rattle.judgment.specs.Board.{Entry, tvar, var, sub, inf, chk, inf_app, Board, var_named, or_else, find_var, before, Rule, done, push}
use Rattle.sheet.specs.Plan.{Binding, ◌∶◌, Bindings, lookup}
use Rattle.judgment.specs.Rules.{Env, Side, left, right, on_side, off_side, open_body, solve_monotype, instantiate_by, instantiate_from, mismatch, unknown_left, unknown_right, forall_left, forall_right, subtype_by, subtype, open_names, instantiate_constructor, signature_by, signature_from, insert, push_vars, pattern_parts, pattern_constructor, pattern_by, check_patterns, check_arms, variable, constructor, infer_by, synthesize, check_arrow, check_by, apply_by, infer_app, rule}
use Rattle.judgment.specs.Good.{Avoids, Free, Fine, Lines, Mono, OK, EntryOK, SolutionOK, Inv}
use Rattle.judgment.proofs.Invariant.{all-later, lines-later, SolveOK, Good}

---------------------------------------------------------------- small facts
pub occurs-false : (k : ℕ) (t : Ty) → occurs k t ≡ false → All (Avoids k) t
unfolding occurs
occurs-false k [] e = tt
occurs-false k (n ∷ ns) e = go (is_node 17 k n) refl e (λ q. occurs-false k ns q)
  where
    go : (b : Bool) → is_node 17 k n ≡ b → (b || occurs k ns) ≡ false → (occurs k ns ≡ false → All (Avoids k) ns) → All (Avoids k) (n ∷ ns)
    go true p q f = absurd (true≢false q)
    go false p q f = (p, f q)

monotype-true : (t : Ty) → is_monotype t ≡ true → All Mono t
unfolding is_monotype
monotype-true [] e = tt
monotype-true (n ∷ ns) e =
    let h = both (not (eqb (kind n) 14)) (is_monotype ns) e in
    (λ p. true≢false (sym h.0 ∙ ap not (subst⁻¹ (λ j. eqb j 14 ≡ true) p refl)), monotype-true ns h.1)

all-zip : (k : ℕ) (ks : List ℕ) (t : Ty) → All (Avoids k) t → All (Free ks) t → All (Free (k ∷ ks)) t
all-zip k ks [] h g = tt
all-zip k ks (n ∷ t) h g = ((h.0, g.0), all-zip k ks t h.1 g.1)

-- an unknown made later than all of ks
free_new : (ks : List ℕ) (n m : ℕ) → n ≤ m → All (λ k. k < n) ks → Free ks (node 17 m)
free_new ks n m l h = all_map (λ k p. eqb-false k m (λ e. omega arith)) ks h

solved-below : (Plain : Type 0) (σ : Solutions) (n : ℕ) → All (SolutionOK Plain n) σ → All (λ k. k < n) (solved_unknowns σ)
solved-below Plain [] n g = tt
solved-below Plain (◌≔◌ k s ∷ σ) n g = (g.0.0, solved-below Plain σ n g.1)

avoids-back : (j k : ℕ) → Avoids j (node 17 k) → Avoids k (node 17 j)
avoids-back j k h = eqb-false k j (λ e. true≢false (sym (eqb_same j) ∙ subst (λ i. eqb j i ≡ false) e h))

-- writing out an Arrow or an App
written-pair : (σ : Solutions) (j : ℕ) (a b : Ty) → j ≢ 17 → write_out σ (node j 0 ∷ (a ++ b)) ≡ node j 0 ∷ (write_out σ a ++ write_out σ b)
written-pair σ j a b h =
    written-append σ (node j 0 ∷ []) (a ++ b) ∙ ap₂ {C = Ty} (λ x y. x ++ y) (written-node σ j 0 h) (written-append σ a b)

written-join : (σ : Solutions) (j : ℕ) (a b c d : Ty) → j ≢ 17 → write_out σ a ≡ write_out σ c → write_out σ b ≡ write_out σ d
    → write_out σ (node j 0 ∷ (a ++ b)) ≡ write_out σ (node j 0 ∷ (c ++ d))
written-join σ j a b c d h p q =
    written-pair σ j a b h ∙ ap₂ {C = Ty} (λ x y. node j 0 ∷ (x ++ y)) p q ∙ sym (written-pair σ j c d h)

abbrev pub Equal : Solutions → Entry → Type 0
Equal σ (tvar x) = Unit {0}
Equal σ (var x t) = Unit {0}
Equal σ (sub s t) = write_out σ s ≡ write_out σ t
Equal σ (inf e t) = Unit {0}
Equal σ (chk e t) = Unit {0}
Equal σ (inf_app f e t) = Unit {0}

equal-on : (σ : Solutions) (d : Side) (u t : Ty) → Equal σ (on_side d u t) → write_out σ u ≡ write_out σ t
equal-on σ left u t e = e
equal-on σ right u t e = sym e

equal-off : (σ : Solutions) (d : Side) (u t : Ty) → Equal σ (off_side d u t) → write_out σ u ≡ write_out σ t
equal-off σ left u t e = sym e
equal-off σ right u t e = e

---------------------------------------------------------------- instantiation
module _ (Plain : Type 0) where
  unknown-ok : (n k : ℕ) → k < n → OK Plain n (node 17 k)
  unknown-ok n k h = (λ _. h, λ _. (omega arith, omega arith))

  -- a plain run has no quantifier
  no-forall : (n : ℕ) (t : Ty) (x : ℕ) (b : Ty) → t ≡ forall x b → All (OK Plain n) t → Plain → ⊥
  no-forall n t x b e h p = ((subst (All (OK Plain n)) e h).0.1 p).0 refl

  -- l and r are, under all later solutions, one type, if the comparisons on the board are
  abbrev pub Joins : Ty → Ty → Board → Solutions → ℕ → Type 0
  Joins l r Γ σ n = Plain → (τ : Solutions) → Fine (σ ++ τ) → All (Equal (σ ++ τ)) Γ → write_out (σ ++ τ) l ≡ write_out (σ ++ τ) r

  -- the unknown k may be given a solution made of t
  record Ready (σ : Solutions) (n k : ℕ) (t : Ty) : Type 0 where
    below : All (λ j. j < n) (solved_unknowns σ)
    unsolved : Free (solved_unknowns σ) (node 17 k)
    made : k < n
    ok : All (OK Plain n) t
    free : All (Free (k ∷ solved_unknowns σ)) t

  solve-ready : {σ : Solutions} {n k : ℕ} {t : Ty} → Ready σ n k t → All Mono t → SolveOK Plain σ n k t
  solve-ready r m = record { unsolved = r.unsolved; made = r.made; free = r.free; ok = r.ok; mono = m }

  -- a solution by two new unknowns
  solve-pair : (j : ℕ) → j ≢ 17 → j ≢ 14 → j ≢ 25 → {σ : Solutions} {n k : ℕ} {t : Ty} → Ready σ n k t
      → SolveOK Plain σ (suc (suc n)) k (node j 0 ∷ (unknown n ++ unknown (suc n)))
  solve-pair j h₁ h₂ h₃ {σ} {n} {k} r = record {
    unsolved = r.unsolved;
    made = omega (arith, r.made);
    free = (other-free (k ∷ solved_unknowns σ) j 0 h₁, (free_new (k ∷ solved_unknowns σ) n n (omega arith) (r.made, r.below), (free_new (k ∷ solved_unknowns σ) n (suc n) (omega arith) (r.made, r.below), tt)));
    ok = ((λ e. absurd (h₁ e), λ _. (h₂, h₃)), (unknown-ok (suc (suc n)) n (omega arith), (unknown-ok (suc (suc n)) (suc n) (omega arith), tt)));
    mono = (h₂, (omega arith, (omega arith, tt)));
  }

  entry-on : (d : Side) (n : ℕ) (u t : Ty) → All (OK Plain n) u → All (OK Plain n) t → EntryOK Plain n (on_side d u t)
  entry-on left n u t a b = (a, b)
  entry-on right n u t a b = (b, a)

  entry-off : (d : Side) (n : ℕ) (u t : Ty) → All (OK Plain n) u → All (OK Plain n) t → EntryOK Plain n (off_side d u t)
  entry-off left n u t a b = (b, a)
  entry-off right n u t a b = (a, b)

  module _ (σ : Solutions) (k : ℕ) (Q : Board → Solutions → ℕ → Type 0) where
    monotype-good : (t : Ty) (Γ : Board) (n : ℕ) → Ready σ n k t → ((Γ' : Board) (σ' : Solutions) (n' : ℕ) → Joins (unknown k) t Γ' σ' n' → Q Γ' σ' n')
        → Good Plain (solve_monotype k t) Γ σ n Q
    monotype-good t Γ n r c =
        cond_ind (λ p. Good Plain p Γ σ n Q) (is_monotype t)
        (λ e. (solve-ready r (monotype-true t e), c Γ (σ ++ (◌≔◌ k t ∷ [])) n (λ _ τ f _. solved-now σ τ k t f)))
        (λ _. tt)

    -- the solutions after one by two new unknowns
    abbrev after : ℕ → ℕ → Solutions
    after j n = σ ++ (◌≔◌ k (node j 0 ∷ (unknown n ++ unknown (suc n))) ∷ [])

    pair_ok : (j : ℕ) (t₁ t₂ t : Ty) (n : ℕ) → All (OK Plain n) t → t ≡ node j 0 ∷ (t₁ ++ t₂) → All (OK Plain (suc (suc n))) t₁ × All (OK Plain (suc (suc n))) t₂
    pair_ok j t₁ t₂ t n h e =
        let g = all_split (OK Plain n) t₁ t₂ (subst (All (OK Plain n)) e h).1 in
        (all-later Plain (omega arith) t₁ g.0, all-later Plain (omega arith) t₂ g.1)

    pair-solve : (j n : ℕ) (t : Ty) → Ready σ n k t → j ≢ 17 → j ≢ 14 → j ≢ 25 → SolveOK Plain σ (suc (suc n)) k (node j 0 ∷ (unknown n ++ unknown (suc n)))
    pair-solve j n t r h₁ h₂ h₃ = solve-pair j h₁ h₂ h₃ r

    pair-joins : (j n : ℕ) (t : Ty) → Ready σ n k t → j ≢ 17 → j ≢ 14 → j ≢ 25 → (τ : Solutions) → Fine (after j n ++ τ) → (t₁ t₂ : Ty) → t ≡ node j 0 ∷ (t₁ ++ t₂)
        → write_out (after j n ++ τ) (unknown n) ≡ write_out (after j n ++ τ) t₁ → write_out (after j n ++ τ) (unknown (suc n)) ≡ write_out (after j n ++ τ) t₂
        → write_out (after j n ++ τ) (unknown k) ≡ write_out (after j n ++ τ) t
    pair-joins j n t r h₁ h₂ h₃ τ f t₁ t₂ e p q =
        solved-now σ τ k (node j 0 ∷ (unknown n ++ unknown (suc n))) f
        ∙ written-join (after j n ++ τ) j (unknown n) (unknown (suc n)) t₁ t₂ h₁ p q
        ∙ ap (write_out (after j n ++ τ)) (sym e)

    ready-body : (x : ℕ) (b : Ty) (n : ℕ) (u : Node) → Ready σ n k (forall x b) → OK Plain (suc n) u → Free (k ∷ solved_unknowns σ) u → Ready σ (suc n) k (substitute x u b)
    ready-body x b n u r h g = record {
      below = all_map (λ j l. omega (arith, l)) (solved_unknowns σ) r.below;
      unsolved = r.unsolved;
      made = omega (arith, r.made);
      ok = all-substitute (OK Plain (suc n)) x u b h (all-later Plain (omega arith) b r.ok.1);
      free = all-substitute (Free (k ∷ solved_unknowns σ)) x u b g r.free.1;
    }

    open_body-good : (d : Side) (x : ℕ) (b : Ty) (again : Ty → Rule) (Γ : Board) (n : ℕ) → Ready σ n k (forall x b)
        → ((t' : Ty) (Γ' : Board) (n' : ℕ) → Ready σ n' k t' → Good Plain (again t') Γ' σ n' Q)
        → Good Plain (open_body d x b again) Γ σ n Q
    open_body-good left x b again Γ n r f =
        (tt, (tt, f _ _ _ (ready-body x b n (node 18 n) r (omega arith) (other-free (k ∷ solved_unknowns σ) 18 n (omega arith)))))
    open_body-good right x b again Γ n r f =
        (tt, (tt, (tt, f _ _ _ (ready-body x b n (node 17 n) r (unknown-ok (suc n) n (omega arith)) (free_new (k ∷ solved_unknowns σ) n n (omega arith) (r.made, r.below))))))

    instantiate_by-good : (d : Side) (t : Ty) (again : Ty → Rule) (v : View) → Shows v t → (Γ : Board) (n : ℕ) → Ready σ n k t
        → ((Γ' : Board) (σ' : Solutions) (n' : ℕ) → Joins (unknown k) t Γ' σ' n' → Q Γ' σ' n')
        → ((t' : Ty) (Γ' : Board) (n' : ℕ) → Ready σ n' k t' → ((Γ'' : Board) (σ'' : Solutions) (n'' : ℕ) → Q Γ'' σ'' n'') → Good Plain (again t') Γ' σ n' Q)
        → Good Plain (instantiate_by d k t again v) Γ σ n Q
    instantiate_by-good d t again (is_unknown b) e Γ n r c f =
        cond_ind (λ p. Good Plain p Γ σ n Q) (before k b Γ)
        (λ _. (
          record {
            unsolved = u.1;
            made = (subst (All (OK Plain n)) e r.ok).0.0 refl;
            free = ((avoids-back k b u.0, r.unsolved), tt);
            ok = (unknown-ok n k r.made, tt);
            mono = (omega arith, tt);
          },
          c Γ (σ ++ (◌≔◌ b (unknown k) ∷ [])) n
              (λ _ τ f _. sym (solved-now σ τ b (unknown k) f) ∙ ap (write_out ((σ ++ (◌≔◌ b (unknown k) ∷ [])) ++ τ)) (sym e)),
        ))
        (λ _. monotype-good t Γ n r c)
      where
        u : Free (k ∷ solved_unknowns σ) (node 17 b)
        u = (subst (All (Free (k ∷ solved_unknowns σ))) e r.free).0
    instantiate_by-good d t again (is_arrow t₁ t₂) e Γ n r c f =
        let h = pair_ok 13 t₁ t₂ t n r.ok e in (
          r.made,
          (
            omega (arith, r.made),
            (
              pair-solve 13 n t r (omega arith) (omega arith) (omega arith),
              (
                tt,
                (
                  tt,
                  (
                    entry-off d (suc (suc n)) (unknown n) t₁ (unknown-ok (suc (suc n)) n (omega arith), tt) h.0,
                    (
                      entry-on d (suc (suc n)) (unknown (suc n)) t₂ (unknown-ok (suc (suc n)) (suc n) (omega arith), tt) h.1,
                      c _ _ _ (λ _ τ f g.
                          pair-joins 13 n t r (omega arith) (omega arith) (omega arith) τ f t₁ t₂ e
                          (equal-off (after 13 n ++ τ) d (unknown n) t₁ g.1.0) (equal-on (after 13 n ++ τ) d (unknown (suc n)) t₂ g.0)),
                    ),
                  ),
                ),
              ),
            ),
          ),
        )
    instantiate_by-good d t again (is_app t₁ t₂) e Γ n r c f =
        let h = pair_ok 15 t₁ t₂ t n r.ok e in (
          r.made,
          (
            omega (arith, r.made),
            (
              pair-solve 15 n t r (omega arith) (omega arith) (omega arith),
              (
                tt,
                (
                  tt,
                  (
                    entry-on d (suc (suc n)) (unknown n) t₁ (unknown-ok (suc (suc n)) n (omega arith), tt) h.0,
                    (
                      entry-on d (suc (suc n)) (unknown (suc n)) t₂ (unknown-ok (suc (suc n)) (suc n) (omega arith), tt) h.1,
                      c _ _ _ (λ _ τ f g.
                          pair-joins 15 n t r (omega arith) (omega arith) (omega arith) τ f t₁ t₂ e
                          (equal-on (after 15 n ++ τ) d (unknown n) t₁ g.1.0) (equal-on (after 15 n ++ τ) d (unknown (suc n)) t₂ g.0)),
                    ),
                  ),
                ),
              ),
            ),
          ),
        )
    instantiate_by-good d t again (is_forall x b) e Γ n r c f =
        open_body-good d x b again Γ n (subst (Ready σ n k) e r)
        (λ t' Γ' n' r'. f t' Γ' n' r' (λ Γ'' σ'' n''. c Γ'' σ'' n'' (λ p. absurd (no-forall n t x b e r.ok p))))
    instantiate_by-good d t again is_other e Γ n r c f = monotype-good t Γ n r c

    instantiate_from-good : (m : ℕ) (d : Side) (t : Ty) (Γ : Board) (n : ℕ) → Ready σ n k t
        → ((Γ' : Board) (σ' : Solutions) (n' : ℕ) → Joins (unknown k) t Γ' σ' n' → Q Γ' σ' n')
        → Good Plain (instantiate_from m d k t) Γ σ n Q
    unfolding instantiate_from
    instantiate_from-good zero d t Γ n r c = tt
    instantiate_from-good (suc m) d t Γ n r c =
        instantiate_by-good d t (λ t'. instantiate_from m d k t') (view t) (view-shows t) Γ n r c
        (λ t' Γ' n' r' q. instantiate_from-good m d t' Γ' n' r' (λ Γ'' σ'' n'' _. q Γ'' σ'' n''))

  -------------------------------------------------------------- comparisons
  record Sides (σ : Solutions) (n : ℕ) (l r : Ty) : Type 0 where
    below : All (λ j. j < n) (solved_unknowns σ)
    ok-l : All (OK Plain n) l
    ok-r : All (OK Plain n) r
    free-l : All (Free (solved_unknowns σ)) l
    free-r : All (Free (solved_unknowns σ)) r

  module _ (σ : Solutions) (n : ℕ) (l r : Ty) (S : Sides σ n l r) (Γ : Board) where
    abbrev Goal : Rule → Type 0
    Goal p = Good Plain p Γ σ n (Joins l r)

    pair-good : (j : ℕ) (a₁ a₂ b₁ b₂ : Ty) → l ≡ node j 0 ∷ (a₁ ++ a₂) → r ≡ node j 0 ∷ (b₁ ++ b₂)
        → (All (OK Plain n) a₁ × All (OK Plain n) a₂) × (All (OK Plain n) b₁ × All (OK Plain n) b₂)
    pair-good j a₁ a₂ b₁ b₂ e f =
        (all_split (OK Plain n) a₁ a₂ (subst (All (OK Plain n)) e S.ok-l).1, all_split (OK Plain n) b₁ b₂ (subst (All (OK Plain n)) f S.ok-r).1)

    pair-equal : (j : ℕ) (a₁ a₂ b₁ b₂ : Ty) → j ≢ 17 → l ≡ node j 0 ∷ (a₁ ++ a₂) → r ≡ node j 0 ∷ (b₁ ++ b₂)
        → (ω : Solutions) → write_out ω a₁ ≡ write_out ω b₁ → write_out ω a₂ ≡ write_out ω b₂ → write_out ω l ≡ write_out ω r
    pair-equal j a₁ a₂ b₁ b₂ h e f ω p q =
        ap (write_out ω) e ∙ written-join ω j a₁ a₂ b₁ b₂ h p q ∙ ap (write_out ω) (sym f)

    ready : (k : ℕ) (u t : Ty) → u ≡ unknown k → All (OK Plain n) u → All (Free (solved_unknowns σ)) u → All (OK Plain n) t → All (Free (solved_unknowns σ)) t → occurs k t ≡ false → Ready σ n k t
    ready k u t e ok-u free-u ok-t free-t o = record {
      below = S.below;
      unsolved = (subst (All (Free (solved_unknowns σ))) e free-u).0;
      made = (subst (All (OK Plain n)) e ok-u).0.0 refl;
      ok = ok-t;
      free = all-zip k (solved_unknowns σ) t (occurs-false k t o) free-t;
    }

    forall_right-good : (x : ℕ) (b : Ty) → r ≡ forall x b → Goal (forall_right l r x b)
    forall_right-good x b e = (
      tt,
      (
        tt,
        (
          (
            all-later Plain (omega arith) l S.ok-l,
            all-substitute (OK Plain (suc n)) x (node 18 n) b (omega arith) (all-later Plain (omega arith) b (subst (All (OK Plain n)) e S.ok-r).1),
          ),
          λ p. absurd (no-forall n r x b e S.ok-r p),
        ),
      ),
    )

    forall_left-good : (x : ℕ) (a : Ty) → l ≡ forall x a → Goal (forall_left l r x a)
    forall_left-good x a e = (
      tt,
      (
        tt,
        (
          tt,
          (
            (
              all-substitute (OK Plain (suc n)) x (node 17 n) a (unknown-ok (suc n) n (omega arith)) (all-later Plain (omega arith) a (subst (All (OK Plain n)) e S.ok-l).1),
              all-later Plain (omega arith) r S.ok-r,
            ),
            λ p. absurd (no-forall n l x a e S.ok-l p),
          ),
        ),
      ),
    )

    unknown_right-good : (k : ℕ) → r ≡ unknown k → Goal (unknown_right l r k)
    unknown_right-good k e =
        cond_ind Goal (occurs k l) (λ _. tt)
        (λ o. instantiate_from-good σ k (Joins l r) (suc (length l)) right l Γ n (ready k r l e S.ok-r S.free-r S.ok-l S.free-l o)
        (λ Γ' σ' n' j p τ f h. sym (j p τ f h) ∙ ap (write_out (σ' ++ τ)) (sym e)))

    unknown_left-good : (k : ℕ) (otherwise : Rule) → l ≡ unknown k → Goal otherwise → Goal (unknown_left l r k otherwise)
    unknown_left-good k otherwise e g =
        cond_ind Goal (occurs k r) (λ _. g)
        (λ o. instantiate_from-good σ k (Joins l r) (suc (length r)) left r Γ n (ready k l r e S.ok-l S.free-l S.ok-r S.free-r o)
        (λ Γ' σ' n' j p τ f h. ap (write_out (σ' ++ τ)) e ∙ j p τ f h))

    subtype_by-good : (v w : View) → Shows v l → Shows w r → Goal (subtype_by l r v w)
    subtype_by-good (is_arrow a₁ a₂) (is_arrow b₁ b₂) e f =
        let g = pair-good 13 a₁ a₂ b₁ b₂ e f in
        ((g.1.0, g.0.0), ((g.0.1, g.1.1), λ _ τ _ h. pair-equal 13 a₁ a₂ b₁ b₂ (omega arith) e f (σ ++ τ) (sym h.1.0) h.0))
    subtype_by-good (is_arrow a₁ a₂) (is_app b₁ b₂) e f = tt
    subtype_by-good (is_arrow a₁ a₂) (is_forall x b) e f = forall_right-good x b f
    subtype_by-good (is_arrow a₁ a₂) (is_unknown k) e f = unknown_right-good k f
    subtype_by-good (is_arrow a₁ a₂) is_other e f = tt
    subtype_by-good (is_app a₁ a₂) (is_arrow b₁ b₂) e f = tt
    subtype_by-good (is_app a₁ a₂) (is_app b₁ b₂) e f =
        let g = pair-good 15 a₁ a₂ b₁ b₂ e f in
        ((g.0.0, g.1.0), ((g.0.1, g.1.1), λ _ τ _ h. pair-equal 15 a₁ a₂ b₁ b₂ (omega arith) e f (σ ++ τ) h.1.0 h.0))
    subtype_by-good (is_app a₁ a₂) (is_forall x b) e f = forall_right-good x b f
    subtype_by-good (is_app a₁ a₂) (is_unknown k) e f = unknown_right-good k f
    subtype_by-good (is_app a₁ a₂) is_other e f = tt
    subtype_by-good (is_forall x a) (is_arrow b₁ b₂) e f = forall_left-good x a e
    subtype_by-good (is_forall x a) (is_app b₁ b₂) e f = forall_left-good x a e
    subtype_by-good (is_forall x a) (is_forall y b) e f = forall_right-good y b f
    subtype_by-good (is_forall x a) (is_unknown k) e f = forall_left-good x a e
    subtype_by-good (is_forall x a) is_other e f = forall_left-good x a e
    subtype_by-good (is_unknown k) (is_arrow b₁ b₂) e f = unknown_left-good k (mismatch l r) e tt
    subtype_by-good (is_unknown k) (is_app b₁ b₂) e f = unknown_left-good k (mismatch l r) e tt
    subtype_by-good (is_unknown k) (is_forall y b) e f = forall_right-good y b f
    subtype_by-good (is_unknown k) (is_unknown j) e f = unknown_left-good k (unknown_right l r j) e (unknown_right-good j f)
    subtype_by-good (is_unknown k) is_other e f = unknown_left-good k (mismatch l r) e tt
    subtype_by-good is_other (is_arrow b₁ b₂) e f = tt
    subtype_by-good is_other (is_app b₁ b₂) e f = tt
    subtype_by-good is_other (is_forall y b) e f = forall_right-good y b f
    subtype_by-good is_other (is_unknown k) e f = unknown_right-good k f
    subtype_by-good is_other is_other e f = tt

  -- a written-out type, in a state that has the invariant
  pub written-ok : (Γ : Board) (σ : Solutions) (n : ℕ) (t : Ty) → Inv Plain Γ σ n → All (OK Plain n) t → All (OK Plain n) (write_out σ t)
  written-ok Γ σ n t i h = all-written (OK Plain n) σ t (all_map (λ x g. g.1) σ i.solutions) h

  subtype-good : (Γ : Board) (σ : Solutions) (n : ℕ) (s t : Ty) → Inv Plain Γ σ n → All (OK Plain n) s → All (OK Plain n) t
      → Good Plain (subtype s t) Γ σ n (Joins (write_out σ s) (write_out σ t))
  unfolding subtype
  subtype-good Γ σ n s t i hs ht =
      cond_ind (λ p. Good Plain p Γ σ n (Joins l r)) (eq_ty l r)
      (λ e _ τ _ _. ap (write_out (σ ++ τ)) (eq_ty-true l r e))
      (λ _. subtype_by-good σ n l r sides Γ (view l) (view r) (view-shows l) (view-shows r))
    where
      l : Ty
      l = write_out σ s

      r : Ty
      r = write_out σ t

      sides : Sides σ n l r
      sides = record {
        below = solved-below Plain σ n i.solutions;
        ok-l = written-ok Γ σ n s i hs;
        ok-r = written-ok Γ σ n t i ht;
        free-l = written-is-free σ i.fine s;
        free-r = written-is-free σ i.fine t;
      }

  -------------------------------------------------------------- constructors and patterns
  abbrev pub BindingOK : ℕ → Binding → Type 0
  BindingOK n (◌∶◌ x t) = All (OK Plain n) t

  abbrev Found : ℕ → Option Ty → Type 0
  Found n None = Unit {0}
  Found n (Some t) = All (OK Plain n) t

  binding-later : {m n : ℕ} → m ≤ n → (b : Binding) → BindingOK m b → BindingOK n b
  binding-later l (◌∶◌ x t) h = all-later Plain l t h

  lookup-ok : (n x : ℕ) (bs : Bindings) → All (BindingOK n) bs → Found n (lookup x bs)
  unfolding lookup
  lookup-ok n x [] h = tt
  lookup-ok n x (◌∶◌ y t ∷ bs) h = cond_ind (Found n) (eqb y x) (λ _. h.0) (λ _. lookup-ok n x bs h.1)

  or_else-ok : (n : ℕ) (a b : Option Ty) → Found n a → Found n b → Found n (or_else a b)
  or_else-ok n None b h g = g
  or_else-ok n (Some t) b h g = h

  var_named-ok : (n x : ℕ) (e : Entry) → EntryOK Plain n e → Found n (var_named x e)
  var_named-ok n x (tvar y) h = tt
  var_named-ok n x (var y t) h = cond_ind (Found n) (eqb x y) (λ _. h) (λ _. tt)
  var_named-ok n x (sub s t) h = tt
  var_named-ok n x (inf e t) h = tt
  var_named-ok n x (chk e t) h = tt
  var_named-ok n x (inf_app f e t) h = tt

  find_var-ok : (n x : ℕ) (Γ : Board) → All (EntryOK Plain n) Γ → Found n (find_var x Γ)
  unfolding find_var
  find_var-ok n x [] h = tt
  find_var-ok n x (e ∷ Γ) h = or_else-ok n (var_named x e) (find_var x Γ) (var_named-ok n x e h.0) (find_var-ok n x Γ h.1)

  insert-ok : (n x : ℕ) (t : Ty) (bs : Bindings) → All (OK Plain n) t → All (BindingOK n) bs → All (BindingOK n) (insert x t bs)
  unfolding insert
  insert-ok n x t [] h g = (h, tt)
  insert-ok n x t (◌∶◌ y u ∷ bs) h g =
      cond_ind (All (BindingOK n)) (eqb x y) (λ _. (h, g.1))
      (λ _. cond_ind (All (BindingOK n)) (ltb x y) (λ _. (h, g)) (λ _. (g.0, insert-ok n x t bs h g.1)))

  -- these rules solve nothing: σ stays
  module _ (σ : Solutions) (Q : Board → Solutions → ℕ → Type 0) where
    open_names-good : (xs : List ℕ) (m : Renaming) (f : Renaming → Rule) (Γ : Board) (n : ℕ) → All (λ q. q.1 < n) m
        → ((m' : Renaming) (Γ' : Board) (n' : ℕ) → n ≤ n' → All (λ q. q.1 < n') m' → Good Plain (f m') Γ' σ n' Q)
        → Good Plain (open_names xs m f) Γ σ n Q
    unfolding open_names
    open_names-good [] m f Γ n h c = c m Γ n (omega arith) h
    open_names-good (x ∷ xs) m f Γ n h c = (
      tt,
      (
        tt,
        open_names-good xs ((x, n) ∷ m) f _ (suc n) (omega arith, all_map (λ q l. omega (arith, l)) m h)
            (λ m' Γ' n' l. c m' Γ' n' (omega arith)),
      ),
    )

    instantiate_constructor-good : (t : Ty) (f : Ty → Rule) (Γ : Board) (n : ℕ) → All (OK Plain n) t
        → ((t' : Ty) (Γ' : Board) (n' : ℕ) → n ≤ n' → All (OK Plain n') t' → Good Plain (f t') Γ' σ n' Q)
        → Good Plain (instantiate_constructor t f) Γ σ n Q
    instantiate_constructor-good t f Γ n h c =
        open_names-good (front_names t) [] (λ m. f (rename m (after_front t))) Γ n tt
        (λ m Γ' n' l hm. c (rename m (after_front t)) Γ' n' l
        (all-rename (OK Plain n') m (after_front t) (all_map (λ q k. unknown-ok n' q.1 k) m hm)
        (all-after_front (OK Plain n') t (all-later Plain l t h))))

    signature_by-good : (ps : List Ty) (t : Ty) (f again : List Ty → Ty → Rule) (Γ : Board) (n : ℕ) (v : View) → Shows v t
        → All (All (OK Plain n)) ps → All (OK Plain n) t
        → ((ps' : List Ty) (t' : Ty) → All (All (OK Plain n)) ps' → All (OK Plain n) t' → Good Plain (f ps' t') Γ σ n Q)
        → ((ps' : List Ty) (t' : Ty) → All (All (OK Plain n)) ps' → All (OK Plain n) t' → Good Plain (again ps' t') Γ σ n Q)
        → Good Plain (signature_by ps t f again v) Γ σ n Q
    signature_by-good ps t f again Γ n (is_arrow a b) e hp ht c k =
        let g = all_split (OK Plain n) a b (subst (All (OK Plain n)) e ht).1 in
        k (ps ++ (a ∷ [])) b (all_append (All (OK Plain n)) ps (a ∷ []) hp (g.0, tt)) g.1
    signature_by-good ps t f again Γ n (is_app a b) e hp ht c k = c ps t hp ht
    signature_by-good ps t f again Γ n (is_forall x b) e hp ht c k = c ps t hp ht
    signature_by-good ps t f again Γ n (is_unknown j) e hp ht c k = c ps t hp ht
    signature_by-good ps t f again Γ n is_other e hp ht c k = c ps t hp ht

    signature_from-good : (m : ℕ) (ps : List Ty) (t : Ty) (f : List Ty → Ty → Rule) (Γ : Board) (n : ℕ)
        → All (All (OK Plain n)) ps → All (OK Plain n) t
        → ((ps' : List Ty) (t' : Ty) → All (All (OK Plain n)) ps' → All (OK Plain n) t' → Good Plain (f ps' t') Γ σ n Q)
        → Good Plain (signature_from m ps t f) Γ σ n Q
    unfolding signature_from
    signature_from-good zero ps t f Γ n hp ht c = c ps t hp ht
    signature_from-good (suc m) ps t f Γ n hp ht c =
        signature_by-good ps t f (λ ps' t'. signature_from m ps' t' f) Γ n (view t) (view-shows t) hp ht c
        (λ ps' t' hp' ht'. signature_from-good m ps' t' f Γ n hp' ht' c)

    push_vars-good : (bs : Bindings) (p : Rule) (Γ : Board) (n : ℕ) → All (BindingOK n) bs → ((Γ' : Board) → Good Plain p Γ' σ n Q) → Good Plain (push_vars bs p) Γ σ n Q
    unfolding push_vars
    push_vars-good [] p Γ n h c = c Γ
    push_vars-good (◌∶◌ x t ∷ bs) p Γ n h c = (h.0, push_vars-good bs p _ n h.1 c)

    module _ (E : Env) (hE : All (BindingOK 0) E.constructors) where
      pattern_constructor-good : (x c : ℕ) (t : Ty) (again : List Ty → Rule) (k : Option Ty) (Γ : Board) (n : ℕ) → All (OK Plain n) t → Found n k
          → ((ps : List Ty) (Γ' : Board) (n' : ℕ) → n ≤ n' → All (All (OK Plain n')) ps → Good Plain (again ps) Γ' σ n' Q)
          → Good Plain (pattern_constructor E x c t again k) Γ σ n Q
      pattern_constructor-good x c t again None Γ n ht hk f = tt
      pattern_constructor-good x c t again (Some k) Γ n ht hk f =
          instantiate_constructor-good k (λ t'. signature_from (length t') [] t' (pattern_parts E c t again)) Γ n hk (λ t' Γ' n' l h.
          signature_from-good (length t') [] t' (pattern_parts E c t again) Γ' n' tt h (λ ps res hps hres. (
            (hres, all-later Plain l t ht),
            cond_ind (λ p. Good Plain p (sub res t ∷ Γ') σ n' Q) (eqb c (length ps)) (λ _. f ps _ n' l hps) (λ _. tt),
          )))

      pattern_by-good : (x c : ℕ) (t : Ty) (bs : Bindings) (again : List Ty → Bindings → Rule) (v : PatternView) (Γ : Board) (n : ℕ) → All (OK Plain n) t → All (BindingOK n) bs
          → ((ps : List Ty) (bs' : Bindings) (Γ' : Board) (n' : ℕ) → n ≤ n' → All (All (OK Plain n')) ps → All (BindingOK n') bs' → Good Plain (again ps bs') Γ' σ n' Q)
          → Good Plain (pattern_by E x c t bs again v) Γ σ n Q
      pattern_by-good x c t bs again is_wildcard Γ n ht hbs f = f [] bs Γ n (omega arith) tt hbs
      pattern_by-good x c t bs again is_pattern_var Γ n ht hbs f = f [] (insert x t bs) Γ n (omega arith) tt (insert-ok n x t bs ht hbs)
      pattern_by-good x c t bs again is_pattern_constructor Γ n ht hbs f =
          pattern_constructor-good x c t (λ ps. again ps bs) (lookup x E.constructors) Γ n ht
          (lookup-ok n x E.constructors (all_map (binding-later (omega arith)) E.constructors hE))
          (λ ps Γ' n' l hps. f ps bs Γ' n' l hps (all_map (binding-later l) bs hbs))

      check_patterns-good : (ls : List Triple) (ts : List Ty) (bs : Bindings) (f : Bindings → Rule) (Γ : Board) (n : ℕ) → All (All (OK Plain n)) ts → All (BindingOK n) bs
          → ((bs' : Bindings) (Γ' : Board) (n' : ℕ) → n ≤ n' → All (BindingOK n') bs' → Good Plain (f bs') Γ' σ n' Q)
          → Good Plain (check_patterns E ls ts bs f) Γ σ n Q
      unfolding check_patterns
      check_patterns-good [] ts bs f Γ n hts hbs c = c bs Γ n (omega arith) hbs
      check_patterns-good (l ∷ ls) [] bs f Γ n hts hbs c = c bs Γ n (omega arith) hbs
      check_patterns-good (l ∷ ls) (t ∷ ts) bs f Γ n hts hbs c =
          pattern_by-good l.value l.count t bs (λ ps bs'. check_patterns E ls (ps ++ ts) bs' f) (pattern_view l.kind) Γ n hts.0 hbs
          (λ ps bs' Γ' n' l hps hbs'. check_patterns-good ls (ps ++ ts) bs' f Γ' n'
          (all_append (All (OK Plain n')) ps ts hps (all_map (all-later Plain l) ts hts.1)) hbs'
          (λ bs'' Γ'' n'' l'. c bs'' Γ'' n'' (omega arith)))

      check_arms-good : (a : ℕ) (ls : Term) (s t : Ty) (Γ : Board) (n : ℕ) → Lines (OK Plain n) ls → All (OK Plain n) s → All (OK Plain n) t
          → ((Γ' : Board) (n' : ℕ) → Q Γ' σ n') → Good Plain (check_arms E a ls s t) Γ σ n Q
      unfolding check_arms
      check_arms-good zero ls s t Γ n hl hs ht q = q Γ n
      check_arms-good (suc a) ls s t Γ n hl hs ht q =
          check_patterns-good (part 0 ls).lines (s ∷ []) [] (λ bs. push_vars bs (push (chk (part 1 ls) t) (check_arms E a (after_parts 2 ls) s t))) Γ n (hs, tt) tt (λ bs Γ' n' l hbs.
          push_vars-good bs (push (chk (part 1 ls) t) (check_arms E a (after_parts 2 ls) s t)) Γ' n' hbs (λ Γ''. (
            (all-part (OK Plain n') 1 ls (lines-later Plain l ls hl), all-later Plain l t ht),
            check_arms-good a (after_parts 2 ls) s t _ n' (all_after (OK Plain n') 2 ls (lines-later Plain l ls hl)) (all-later Plain l s hs) (all-later Plain l t ht) q,
          )))

  -------------------------------------------------------------- every rule
  pub record EnvOK (E : Env) : Type 0 where
    pub constructors : All (BindingOK 0) E.constructors
    pub context : All (BindingOK 0) E.context

  -- the two sides of a comparison, written out as its rule does, are joined
  abbrev pub Explains : Solutions → Entry → Board → Solutions → ℕ → Type 0
  Explains σ (tvar x) = λ Γ' σ' n'. Unit {0}
  Explains σ (var x t) = λ Γ' σ' n'. Unit {0}
  Explains σ (sub s t) = Joins (write_out σ s) (write_out σ t)
  Explains σ (inf e t) = λ Γ' σ' n'. Unit {0}
  Explains σ (chk e t) = λ Γ' σ' n'. Unit {0}
  Explains σ (inf_app f e t) = λ Γ' σ' n'. Unit {0}

  con-ok : (n c : ℕ) → All (OK Plain n) (con c)
  con-ok n c = (omega arith, tt)

  -- a rule that is no comparison
  abbrev Keeps : Rule → Board → Solutions → ℕ → Type 0
  Keeps p Γ σ n = Good Plain p Γ σ n (λ Γ' σ' n'. Unit {0})

  module _ (E : Env) (hE : EnvOK E) (Γ : Board) (σ : Solutions) (n : ℕ) (i : Inv Plain Γ σ n) where
    new : All (OK Plain (suc n)) (unknown n)
    new = (unknown-ok (suc n) n (omega arith), tt)

    variable-good : (x : ℕ) (t : Ty) (a b c : Option Ty) → All (OK Plain n) t → Found n a → Found n b → Found n c → Keeps (variable E x t a b c) Γ σ n
    variable-good x t (Some u) b c ht ha hb hc = ((ha, ht), tt)
    variable-good x t None (Some u) c ht ha hb hc = ((hb, ht), tt)
    variable-good x t None None (Some u) ht ha hb hc = ((hc, ht), tt)
    variable-good x t None None None ht ha hb hc = tt

    constructor-good : (x : ℕ) (t : Ty) (k : Option Ty) → All (OK Plain n) t → Found n k → Keeps (constructor E x t k) Γ σ n
    constructor-good x t None ht hk = tt
    constructor-good x t (Some k) ht hk =
        instantiate_constructor-good σ (λ Γ' σ' n'. Unit {0}) k (λ u. push (sub u t) done) Γ n hk
        (λ u Γ' n' l hu. ((hu, all-later Plain l t ht), tt))

    synthesize-good : (e : Term) (t : Ty) → Lines (OK Plain n) e → All (OK Plain n) t → Keeps (synthesize E e t) Γ σ n
    synthesize-good e t he ht =
        (tt, (tt, ((new, all-later Plain (omega arith) t ht), ((lines-later Plain (omega arith) e he, new), tt))))

    found : (x : ℕ) (bs : Bindings) → All (BindingOK 0) bs → Found n (lookup x bs)
    found x bs h = lookup-ok n x bs (all_map (binding-later (omega arith)) bs h)

    infer_by-good : (t : Ty) (v : TermView) → TermHas (OK Plain n) v → All (OK Plain n) t → Keeps (infer_by E t v) Γ σ n
    infer_by-good t (is_var x) h ht =
        variable-good x t (lookup x E.context) (find_var x Γ) (lookup x E.constructors) ht
        (found x E.context hE.context) (find_var-ok n x Γ i.entries) (found x E.constructors hE.constructors)
    infer_by-good t is_lit_int h ht = ((con-ok n 1, ht), tt)
    infer_by-good t (is_lambda x s e) h ht =
        let hs = all-later Plain {m = n} {n = suc n} (omega arith) s h.0 in (
          tt,
          (
            tt,
            (
              ((omega arith, all_append (OK Plain (suc n)) s (unknown n) hs new), all-later Plain (omega arith) t ht),
              (hs, ((lines-later Plain (omega arith) e h.1, new), tt)),
            ),
          ),
        )
    infer_by-good t (is_apply f e) h ht = (
      tt,
      (
        tt,
        (
          (new, lines-later Plain (omega arith) e h.1, all-later Plain (omega arith) t ht),
          ((lines-later Plain (omega arith) f h.0, new), tt),
        ),
      ),
    )
    infer_by-good t (is_type_lambda x e) h ht = (
      tt,
      (
        tt,
        (
          (((omega arith, λ p. absurd ((h.0.1 p).1 refl)), new), all-later Plain (omega arith) t ht),
          (tt, ((lines-later Plain (omega arith) e h.1, new), tt)),
        ),
      ),
    )
    infer_by-good t (is_constructor x) h ht = constructor-good x t (lookup x E.constructors) ht (found x E.constructors hE.constructors)
    infer_by-good t (is_case a e arms) h ht = (
      tt,
      (
        tt,
        (
          (lines-later Plain (omega arith) e h.0, new),
          check_arms-good σ (λ Γ' σ' n'. Unit {0}) E hE.constructors a arms (unknown n) t _ (suc n)
              (lines-later Plain (omega arith) arms h.1) new (all-later Plain (omega arith) t ht) (λ Γ' n'. tt),
        ),
      ),
    )
    infer_by-good t (is_bin_op op e₁ e₂) h ht =
        ((h.0, con-ok n 1), ((h.1, con-ok n 1), ((con-ok n (cond (leb op 4) 1 2), ht), tt)))
    infer_by-good t (is_if e₁ e₂ e₃) h ht = ((h.0, con-ok n 2), ((h.1, ht), ((h.2, ht), tt)))
    infer_by-good t (is_intrinsic x a e) h ht =
        cond_ind (λ p. Keeps p Γ σ n) (eqb x 4)
        (λ _. cond_ind (λ p. Keeps p Γ σ n) (eqb a 1) (λ _. ((h, con-ok n 1), ((con-ok n 3, ht), tt))) (λ _. tt))
        (λ _. tt)
    infer_by-good t is_none h ht = tt

    check_arrow-good : (e : Term) (t a b : Ty) (f : Option Lambda) → Lines (OK Plain n) e → LambdaHas (OK Plain n) f → All (OK Plain n) t → All (OK Plain n) a → All (OK Plain n) b
        → Keeps (check_arrow E e t a b f) Γ σ n
    check_arrow-good e t a b (Some f) he h ht ha hb = ((h.0, ha), (h.0, ((h.1, hb), tt)))
    check_arrow-good e t a b None he h ht ha hb = synthesize-good e t he ht

    check_by-good : (e : Term) (t : Ty) (v : View) → Shows v t → Lines (OK Plain n) e → All (OK Plain n) t → Keeps (check_by E e t v) Γ σ n
    check_by-good e t (is_arrow a b) s he ht =
        let g = all_split (OK Plain n) a b (subst (All (OK Plain n)) s ht).1 in
        check_arrow-good e t a b (lambda_of e) he (lambda-has (OK Plain n) e he) ht g.0 g.1
    check_by-good e t (is_forall x b) s he ht = (
      tt,
      (
        tt,
        (
          (
            lines-later Plain (omega arith) e he,
            all-substitute (OK Plain (suc n)) x (node 18 n) b (omega arith) (all-later Plain (omega arith) b (subst (All (OK Plain n)) s ht).1),
          ),
          tt,
        ),
      ),
    )
    check_by-good e t (is_app a b) s he ht = synthesize-good e t he ht
    check_by-good e t (is_unknown k) s he ht = synthesize-good e t he ht
    check_by-good e t is_other s he ht = synthesize-good e t he ht

    apply_by-good : (f : Ty) (e : Term) (c : Ty) (v : View) → Shows v f → All (OK Plain n) f → All (Free (solved_unknowns σ)) f → Lines (OK Plain n) e → All (OK Plain n) c
        → Keeps (apply_by E f e c v) Γ σ n
    apply_by-good f e c (is_arrow a b) s hf free he hc =
        let g = all_split (OK Plain n) a b (subst (All (OK Plain n)) s hf).1 in
        ((g.1, hc), ((he, g.0), tt))
    apply_by-good f e c (is_forall x b) s hf free he hc = (
      tt,
      (
        tt,
        (
          (
            all-substitute (OK Plain (suc n)) x (node 17 n) b new.0 (all-later Plain (omega arith) b (subst (All (OK Plain n)) s hf).1),
            lines-later Plain (omega arith) e he,
            all-later Plain (omega arith) c hc,
          ),
          tt,
        ),
      ),
    )
    apply_by-good f e c (is_unknown k) s hf free he hc =
        let m : k < n = (subst (All (OK Plain n)) s hf).0.0 refl in (
          m,
          (
            omega (arith, m),
            (
              tt,
              (
                tt,
                (
                  solve-pair 13 (omega arith) (omega arith) (omega arith) {t = []} (record {
                    below = solved-below Plain σ n i.solutions;
                    unsolved = (subst (All (Free (solved_unknowns σ))) s free).0;
                    made = m;
                    ok = tt;
                    free = tt;
                  }),
                  (
                    ((unknown-ok (suc (suc n)) (suc n) (omega arith), tt), all-later Plain (omega arith) c hc),
                    ((lines-later Plain (omega arith) e he, (unknown-ok (suc (suc n)) n (omega arith), tt)), tt),
                  ),
                ),
              ),
            ),
          ),
        )
    apply_by-good f e c (is_app a b) s hf free he hc = tt
    apply_by-good f e c is_other s hf free he hc = tt

    pub rule-good : (e : Entry) → EntryOK Plain n e → Good Plain (rule E e) Γ σ n (Explains σ e)
    unfolding infer_app
    rule-good (tvar x) h = tt
    rule-good (var x t) h = tt
    rule-good (sub s t) h = subtype-good Γ σ n s t i h.0 h.1
    rule-good (inf e t) h = infer_by-good t (term_view e) (term-has (OK Plain n) e h.0) h.1
    rule-good (chk e t) h = check_by-good e t (view t) (view-shows t) h.0 h.1
    rule-good (inf_app f e c) h =
        apply_by-good (write_out σ f) e (write_out σ c) (view (write_out σ f)) (view-shows (write_out σ f))
        (written-ok Γ σ n f i h.0) (written-is-free σ i.fine f) h.1 (written-ok Γ σ n c i h.2)
