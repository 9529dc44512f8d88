-- The numbers of an end: they are the answer, they tell its error, and where the report's types end. Assumes nothing.
use Rattle.std.proofs.Common.{◌≡◌, refl, sym, ap, ◌∙◌, subst, Bool, false, cond, ℕ, zero, suc, ◌+◌, ◌*◌, ◌≤◌, ◌<◌, arith, eqb, lt-ltb, le-ltb, ne_eqb}
use Rattle.nodes.specs.Nodes.{Ty}
use Rattle.nodes.proofs.ListLaws.{cond_ind}
use Rattle.judgment.specs.declared.Answer.{Answer}
use Rattle.judgment.specs.declared.Details.{Details}
use Rattle.judgment.specs.declared.TypeError.{TypeError}
use Rattle.judgment.specs.Run.{End, refused_by}
use Rattle.judgment.specs.Result.{error_details, end_number, end_details}
use Rattle.operations.specs.declared.Halt.{Halt}
use Rattle.operations.specs.State.{reported, halt_of, error_of, going, refusal_of}
use Rattle.operations.proofs.Latch.{halted, error-is}
use Rattle.ending.specs.Ending.{end_at, report_end, answer_by}

pub going-number : (i : ℕ) → end_number (end_at i) ≡ cond (eqb i 0) 0 21
going-number zero = refl
going-number (suc i) = sym (ap (λ (b : Bool). cond b 0 21) (ne_eqb (suc i) 0 (λ z. omega arith)))

pub going-details : (i : ℕ) → end_details (end_at i) ≡ (0, 0)
going-details zero = refl
going-details (suc i) = refl

-- from the callees' results to the whole answer
pub answer-is : (plain : Bool) (e : End) (taken fresh : ℕ) {n m : ℕ} {d : Details} → n ≡ end_number e → d ≡ end_details e → m ≡ cond plain 1 0
    → record { number = n; line = 0; taken = taken; fresh = fresh; detail1 = d.0; detail2 = d.1; plain = m } ≡ answer_by plain e taken fresh
answer-is plain e taken fresh p q r = rw (p, q, r) refl

-- the answer of a refused run tells the error
pub error-told : (plain : Bool) (e : TypeError) (ts : Ty) (taken fresh : ℕ) {a : Answer} → a ≡ answer_by plain (refused_by e ts) taken fresh
    → error_of (record { number = a.number; first = a.detail1; second = a.detail2 }) ≡ e
error-told plain e ts taken fresh p = rw p (error-is e)

-- ---- the types that a refusal reports
-- the nodes are counted by the two details
pub reported-few : (h : Halt) → reported (error_of h) ≤ h.first + h.second
unfolding error_of
reported-few h =
    let P : TypeError → Type 0 = λ e. reported e ≤ h.first + h.second in
    cond_ind P (eqb h.number 11) (λ _. omega arith)
    (λ _. cond_ind P (eqb h.number 12) (λ _. omega arith)
    (λ _. cond_ind P (eqb h.number 13) (λ _. omega arith)
    (λ _. cond_ind P (eqb h.number 14) (λ _. omega arith)
    (λ _. cond_ind P (eqb h.number 15) (λ _. omega arith)
    (λ _. cond_ind P (eqb h.number 16) (λ _. omega arith)
    (λ _. cond_ind P (eqb h.number 17) (λ _. omega arith)
    (λ _. cond_ind P (eqb h.number 18) (λ _. omega arith)
    (λ _. cond_ind P (eqb h.number 19) (λ _. omega arith)
    (λ _. cond_ind P (eqb h.number 22) (λ _. omega arith)
    (λ _. cond_ind P (eqb h.number 23) (λ _. omega arith)
    (λ _. cond_ind P (eqb h.number 24) (λ _. omega arith)
    (λ _. cond_ind P (eqb h.number 39) (λ _. omega arith) (λ _. omega arith)))))))))))))

pub reported-within : (e : TypeError) → reported e ≤ (error_details e).0 + (error_details e).1
reported-within e = subst (λ (x : TypeError). reported x ≤ (error_details e).0 + (error_details e).1) (error-is e) (reported-few (halt_of e))

module _ (size : ℕ) (h : Halt) {e : TypeError} {n : ℕ} (g : going h ≡ false) (p : e ≡ error_of h) (q : n ≡ reported e) where
  counted : n ≡ reported (error_of h)
  counted = q ∙ ap reported p

  pub refused-fits : 2 * n < size → 2 * n ≡ report_end size (refusal_of h)
  unfolding report_end
  refused-fits l = rw (halted h g, sym counted, lt-ltb (2 * n) size l) refl

  pub refused_over : size ≤ 2 * n → size ≡ report_end size (refusal_of h)
  unfolding report_end
  refused_over l = rw (halted h g, sym counted, le-ltb (2 * n) size l) refl
