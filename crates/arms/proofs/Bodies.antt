-- An arm, and all arms. Assumes nothing.
use Rattle.std.proofs.Common.{◌≡◌, refl, sym, ap, ap₂, ◌∙◌, subst, false, List, [], ◌∷◌, ℕ, zero, suc, ◌-◌, ◌≤◌, arith, length, take, drop, length-drop}
use Rattle.nodes.specs.Nodes.{Ty}
use Rattle.nodes.specs.Lists.{All}
use Rattle.nodes.specs.Parts.{take_parts}
use Rattle.nodes.proofs.PartLaws.{is-take, length-take}
use Rattle.spelling.specs.declared.Triple.{Triple}
use Rattle.kinds.specs.Kinds.{parts_of}
use Rattle.sheet.specs.Plan.{Narrow, Bindings, part_line}
use Rattle.sheet.proofs.Lines.{lines-between, line-hop}
use Rattle.judgment.specs.Types.{unknown}
use Rattle.judgment.specs.Terms.{Term, part, after_parts}
use Rattle.judgment.specs.Board.{chk, Rule, done, push}
use Rattle.judgment.specs.Rules.{push_vars, check_patterns, check_arms}
use Rattle.judgment.specs.Result.{Way}
use Rattle.board.specs.Board.{from_line, term_at}
use Rattle.board.proofs.Terms.{after-from}
use Rattle.operations.specs.declared.Run.{Run}
use Rattle.operations.specs.State.{going, WellFormed, Does, Pushes}
use Rattle.tables.specs.Rows.{bindings_at}
use Rattle.patterns.specs.declared.Checked.{Checked}
use Rattle.patterns.specs.Turns.{Ready, Turn}
use Rattle.patterns.specs.Readings.{env_at, Checking}
use Rattle.patterns.proofs.Steps.{turn-none, turn-then, turn-as, turn-stays, turn-does, chk-turn}
use Rattle.arms.specs.declared.Arm.{Arm}
use Rattle.arms.specs.Arms.{Armed, NarrowArms}

-- ---- where an arm's parts stand
module _ (ls : List Triple) (first : ℕ) (h : first ≤ length ls) (body : ℕ) (e : body ≡ part_line ls first 1) where
  pub body-within : (first ≤ body) × (body ≤ length ls)
  unfolding part_line
  body-within =
      let l : length (take_parts parts_of (drop first ls) 1) ≤ length (drop first ls) = length-take parts_of (drop first ls) 1 in
      let d : length (drop first ls) ≡ length ls - first = length-drop first ls in
      (omega arith, omega arith)

  pub pattern-lines : take (body - first) (drop first ls) ≡ (part 0 (from_line ls first)).lines
  pattern-lines =
      ap (λ (n : ℕ). take (n - first) (drop first ls)) e
      ∙ ap (λ (n : ℕ). take n (drop first ls)) (lines-between ls first 1)
      ∙ sym (is-take parts_of (drop first ls) 1)

  after-pattern : from_line ls body ≡ after_parts 1 (from_line ls first)
  after-pattern = ap (from_line ls) e ∙ sym (after-from ls first 1)

  body-term : term_at ls body ≡ part 1 (from_line ls first)
  unfolding term_at
  body-term = ap (part 0) after-pattern

  after-arm : (next : ℕ) → next ≡ part_line ls body 1 → from_line ls next ≡ after_parts 2 (from_line ls first)
  after-arm next q = ap (from_line ls) (q ∙ ap (λ (n : ℕ). part_line ls n 1) e ∙ line-hop ls first 2 (omega arith)) ∙ sym (after-from ls first 2)

  pub armed : {b b₁ b₂ b₃ v : List ℕ} {c c₂ c₃ : Run} {o : Checked} (u : ℕ) (t : Ty) (next : ℕ) → next ≡ part_line ls body 1 → next ≤ length ls
      → Checking b c ls first (body - first) u b₁ v o → Turn {A = ℕ} ls b₁ o.run (λ f. push_vars (bindings_at ls v 0 o.bound) (f 0)) b₂ c₂ (λ f. f 0)
      → Pushes b₂ c₂ 5 body t [] (λ ms. chk (term_at ms body) t) b₃ c₃ → Armed b c ls first u t b₃ (record { run = c₃; next = next })
  armed {b} {b₁} {b₂} {b₃} {v} {c} {c₂} {c₃} {o} u t next q l x y p =
      let z : Turn {A = ℕ} ls b₂ c₂ (λ f. push (chk (term_at ls body) t) (f 0)) b₃ c₃ (λ f. f 0) = chk-turn body t y.ready p in
      let F : (ℕ → Rule) → Bindings → Rule = λ f bs. push_vars bs (push (chk (term_at ls body) t) (f 0)) in
      let a : Turn {A = ℕ} ls b c (λ f. check_patterns (env_at ls) (take (body - first) (drop first ls)) (unknown u ∷ []) [] (F f)) b₃ c₃ (λ f. f 0) = record {
        ready = z.ready;
        taken = z.taken ∙ y.taken ∙ x.turn.taken;
        kept = λ k g. z.kept k (y.kept k (x.turn.kept k g));
        outcome = λ w k rep g f.
            z.outcome w k rep (y.kept k (x.turn.kept k g)) f
            ∙ y.outcome w k rep (x.turn.kept k g) (λ _. push (chk (term_at ls body) t) (f 0))
            ∙ x.turn.outcome w k rep g (F f);
      } in
      record {
        within = l;
        after = after-arm next q;
        turn = turn-as
            (λ f. ap₂ (λ (ps : List Triple) (xs : Term). check_patterns (env_at ls) ps (unknown u ∷ []) [] (λ bs. push_vars bs (push (chk xs t) (f 0)))) pattern-lines body-term) (λ f. refl) a;
      }

-- ---- all arms
module _ (ls : List Triple) (u : ℕ) (t : Ty) where
  -- n arms from line `at` on, and then whatever follows
  unfoldable pub arms_then : ℕ → Term → Rule → Rule
  arms_then zero xs p = p
  arms_then (suc n) xs p = check_patterns (env_at ls) (part 0 xs).lines (unknown u ∷ []) [] λ bs. push_vars bs (push (chk (part 1 xs) t) (arms_then n (after_parts 2 xs) p))

  arms-done : (n : ℕ) (xs : Term) → arms_then n xs done ≡ check_arms (env_at ls) n xs (unknown u) t
  unfolding arms_then check_arms
  arms-done zero xs = refl
  arms-done (suc n) xs = ap (λ (p : Rule). check_patterns (env_at ls) (part 0 xs).lines (unknown u ∷ []) [] (λ bs. push_vars bs (push (chk (part 1 xs) t) p))) (arms-done n (after_parts 2 xs))

  abbrev pub Arms : List ℕ → Run → ℕ → Term → List ℕ → Run → ℕ → ℕ → Type 0
  Arms b c n xs b' r left at = Turn {A = ℕ} ls b c (λ f. arms_then n xs (f 0)) b' r (λ f. arms_then left (from_line ls at) (f 0))

  pub arms_start : {b : List ℕ} {c : Run} (n line : ℕ) → Ready b c → Arms b c n (from_line ls line) b c n line
  arms_start n line h = turn-none _ _ h (λ f. refl)

  arms-cons : (left rest : ℕ) (xs : Term) (p : Rule) → left ≡ suc rest
      → arms_then left xs p ≡ check_patterns (env_at ls) (part 0 xs).lines (unknown u ∷ []) [] (λ bs. push_vars bs (push (chk (part 1 xs) t) (arms_then rest (after_parts 2 xs) p)))
  unfolding arms_then
  arms-cons left rest xs p l = rw l

  pub arms-turn : {b b₁ b₂ : List ℕ} {c r : Run} {o : Arm} (n : ℕ) (xs : Term) (left rest at : ℕ) → left ≡ suc rest → Arms b c n xs b₁ r left at → Armed b₁ r ls at u t b₂ o → Arms b c n xs b₂ o.run rest o.next
  arms-turn {b} {b₁} {b₂} {c} {r} {o} n xs left rest at l h a =
      let x = a.turn in
      let y : Turn {A = ℕ} ls b₁ r (λ f. check_patterns (env_at ls) (part 0 (from_line ls at)).lines (unknown u ∷ []) [] (λ bs. push_vars bs (push (chk (part 1 (from_line ls at)) t) (arms_then rest (from_line ls o.next) (f 0))))) b₂ o.run
      (λ f. arms_then rest (from_line ls o.next) (f 0)) =
      record { ready = x.ready; taken = x.taken; kept = x.kept; outcome = λ w k rep z f. x.outcome w k rep z (λ _. arms_then rest (from_line ls o.next) (f 0)) } in
      turn-then h (turn-as
      (λ f. ap (λ (ys : Term). check_patterns (env_at ls) (part 0 (from_line ls at)).lines (unknown u ∷ []) [] (λ bs. push_vars bs (push (chk (part 1 (from_line ls at)) t) (arms_then rest ys (f 0))))) a.after
      ∙ sym (arms-cons left rest (from_line ls at) (f 0) l))
      (λ f. refl) y)

  pub arms-does : {b b' : List ℕ} {c r : Run} (n : ℕ) (xs : Term) (left at : ℕ) → Arms b c n xs b' r left at → left ≡ 0 → (w : Way) (k rep : List ℕ) → WellFormed b k c
      → Does w ls b k rep c (check_arms (env_at ls) n xs (unknown u) t) b' k rep r
  unfolding arms_then
  arms-does {b} {b'} {c} {r} n xs left at h e w k rep z =
      let x : Turn {A = ℕ} ls b c (λ f. arms_then n xs (f 0)) b' r (λ f. f 0) = turn-as (λ f. refl) (λ f. sym (rw e)) h in
      subst (λ (p : Rule). Does w ls b k rep c p b' k rep r) (arms-done n xs) (turn-does z x)

  -- a refused run stays as it is, whatever arms are left
  pub arms-halt : {b b' : List ℕ} {c r : Run} (n : ℕ) (xs : Term) (left at : ℕ) → Arms b c n xs b' r left at → going r.halt ≡ false → (w : Way) (k rep : List ℕ) → WellFormed b k c
      → Does w ls b k rep c (check_arms (env_at ls) n xs (unknown u) t) b' k rep r
  arms-halt {b} {b'} {c} {r} n xs left at h e w k rep z =
      let x : Turn {A = ℕ} ls b c (λ f. arms_then n xs (f 0)) b' r (λ f. f 0) = turn-stays e h in
      subst (λ (p : Rule). Does w ls b k rep c p b' k rep r) (arms-done n xs) (turn-does z x)

-- ---- the patterns of the arms to come
pub narrow-arms : (left rest : ℕ) (xs : Term) → left ≡ suc rest → NarrowArms left xs → All Narrow (part 0 xs).lines × NarrowArms rest (after_parts 2 xs)
unfolding NarrowArms
narrow-arms left rest xs l h = rw l at h
