-- What an operation leaves of the board's shape, whatever the book holds; a fresh unknown, and then the rest of a rule.
-- Assumes nothing.
use Rattle.std.proofs.Common.{◌≡◌, refl, sym, ap, ◌∙◌, Bool, true, false, List, [], ℕ, ◌+◌, ◌<◌, arith, ltb, length}
use Rattle.sizes.specs.Sizes.{most_numbers}
use Rattle.nodes.specs.Nodes.{node, Ty}
use Rattle.nodes.proofs.ListLaws.{cond_ind}
use Rattle.spelling.specs.declared.Triple.{Triple}
use Rattle.judgment.specs.declared.TypeError.TheVariants.{BoardFull}
use Rattle.judgment.specs.Board.{Rule, done, tvar, var, sub, inf, chk, inf_app, entry_nodes, push, own}
use Rattle.judgment.specs.Rules.{fresh_unknown}
use Rattle.judgment.specs.Result.{Way}
use Rattle.board.specs.Board.{term_at, entry_of, Stacked, laid}
use Rattle.board.specs.Board.{fitting as fits_board, grown as board_grown}
use Rattle.board.proofs.Stacks.{laid-stacked, fits-facts}
use Rattle.board.proofs.Finds.{tvar-is}
use Rattle.operations.specs.declared.Run.{Run}
use Rattle.operations.specs.State.{perform_c, Does, going, stopped, fresh_run, with_board, push_run, push_words, Pushes}
use Rattle.operations.proofs.Then.{fresh-is, does-then}

-- ---- the board's shape
pub fresh_keeps : {b : List ℕ} (c : Run) {r : Run} → Stacked b c.counters.board → r ≡ fresh_run c → Stacked b r.counters.board
fresh_keeps {b} c s e =
    rw e
    (cond_ind (λ (d : Run). Stacked b d.counters.board) (going c.halt)
    (λ _. cond_ind (λ (d : Run). Stacked b d.counters.board) (ltb c.counters.fresh most_numbers) (λ _. s) (λ _. s)) (λ _. s))

-- an entry whose types are all that it counts
module _ (b : List ℕ) (c : Run) (kind number : ℕ) (t u : Ty) (counts : (ls : List Triple) → entry_nodes (entry_of ls kind number t u) ≡ length t + length u) where
  pushed-keeps : {b' : List ℕ} {r : Run} → Stacked b c.counters.board → r ≡ push_run c (length t + length u) → b' ≡ push_words b c kind number t u → Stacked b' r.counters.board
  pushed-keeps {b'} {r} s p q = by (going c.halt) refl (fits_board c.counters.board (length t + length u)) refl
    where
      by : (x : Bool) → going c.halt ≡ x → (y : Bool) → fits_board c.counters.board (length t + length u) ≡ y → Stacked b' r.counters.board
      by true g true f =
          let e : r ≡ with_board c (board_grown c.counters.board (length t + length u)) = p ∙ rw (g, f) in
          let h : b' ≡ laid b c.counters.board kind number t u = q ∙ rw (g, f) in
          let n = fits-facts c.counters.board (length t + length u) f in
          rw (e, h) (laid-stacked s kind number t u n.0 n.1 counts)
      by true g false f =
          let e : r ≡ stopped c BoardFull = p ∙ rw (g, f) in
          let h : b' ≡ b = q ∙ rw (g, f) in
          rw (e, h) s
      by false g y f =
          let e : r ≡ c = p ∙ rw g in
          let h : b' ≡ b = q ∙ rw g in
          rw (e, h) s

module _ {b : List ℕ} {c : Run} {b' : List ℕ} {r : Run} where
  pub tvar-keeps : {kind number : ℕ} → 6 < kind → Stacked b c.counters.board → Pushes b c kind number [] [] (λ ls. tvar (node kind number)) b' r → Stacked b' r.counters.board
  tvar-keeps {kind} {number} h s p = pushed-keeps b c kind number [] [] (λ ls. ap entry_nodes (tvar-is ls kind number [] [] h)) s p.0 p.1

  pub var-keeps : {x : ℕ} {t : Ty} → Stacked b c.counters.board → Pushes b c 2 x t [] (λ ls. var x t) b' r → Stacked b' r.counters.board
  unfolding entry_of
  var-keeps {x} {t} s p = pushed-keeps b c 2 x t [] (λ ls. omega arith) s p.0 p.1

  pub sub-keeps : {t u : Ty} → Stacked b c.counters.board → Pushes b c 3 0 t u (λ ls. sub t u) b' r → Stacked b' r.counters.board
  unfolding entry_of
  sub-keeps {t} {u} s p = pushed-keeps b c 3 0 t u (λ ls. refl) s p.0 p.1

  pub inf_keeps : (line : ℕ) {t : Ty} → Stacked b c.counters.board → Pushes b c 4 line t [] (λ ls. inf (term_at ls line) t) b' r → Stacked b' r.counters.board
  unfolding entry_of
  inf_keeps line {t} s p = pushed-keeps b c 4 line t [] (λ ls. omega arith) s p.0 p.1

  pub chk-keeps : (line : ℕ) {t : Ty} → Stacked b c.counters.board → Pushes b c 5 line t [] (λ ls. chk (term_at ls line) t) b' r → Stacked b' r.counters.board
  unfolding entry_of
  chk-keeps line {t} s p = pushed-keeps b c 5 line t [] (λ ls. omega arith) s p.0 p.1

  pub app-keeps : (line : ℕ) {t u : Ty} → Stacked b c.counters.board → Pushes b c 6 line t u (λ ls. inf_app t (term_at ls line) u) b' r → Stacked b' r.counters.board
  unfolding entry_of
  app-keeps line {t} {u} s p = pushed-keeps b c 6 line t u (λ ls. refl) s p.0 p.1

-- ---- a fresh unknown with its TVar, and then the rest of a rule with its number
module _ {w : Way} {ls : List Triple} {b k rep : List ℕ} {c : Run} {b₁ k₁ rep₁ : List ℕ} {c₁ : Run} {b₂ k₂ rep₂ : List ℕ} {c₂ : Run} where
  pub unknown-then : {f : ℕ → Rule} → Does w ls b k rep c (fresh_unknown (λ n. done)) b₁ k₁ rep₁ c₁ → Does w ls b₁ k₁ rep₁ c₁ (f c.counters.fresh) b₂ k₂ rep₂ c₂
      → Does w ls b k rep c (fresh_unknown f) b₂ k₂ rep₂ c₂
  unknown-then {f} x y =
      does-then {p = fresh_unknown (λ n. done)} {q = f c.counters.fresh} {r = fresh_unknown f} x y
      (fresh-is w ls b k rep c own (λ a. push (tvar (node 17 a)) (f a)) ∙ ap (perform_c w ls (f c.counters.fresh)) (sym (fresh-is w ls b k rep c own (λ a. push (tvar (node 17 a)) done))))
