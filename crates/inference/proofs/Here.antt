-- A Lambda checked against an Arrow whose parts are moved where they stand: what is left is what three pushes leave.
-- Assumes nothing.
use Rattle.std.proofs.Common.{Some, ◌≡◌, refl, ap, ap₂, ◌∙◌, true, List, [], ℕ, ◌+◌, ◌*◌, ◌≤◌, ◌<◌, arith, lt-ltb, le-leb, length}
use Rattle.std.proofs.Math.Seq.{sets}
use Rattle.sizes.specs.Sizes.{most_entries, most_nodes, board_base}
use Rattle.nodes.specs.Nodes.{Ty, words, nodes_at}
use Rattle.nodes.proofs.Laws.{length-nodes_at, nodes_at-below}
use Rattle.spelling.specs.declared.Triple.{Triple}
use Rattle.sheet.specs.Rows.{rows}
use Rattle.judgment.specs.Terms.{Term}
use Rattle.judgment.specs.Board.{sub, var, chk, push, done}
use Rattle.judgment.specs.Rules.{Env, check_arrow}
use Rattle.judgment.specs.Result.{Way}
use Rattle.board.specs.declared.Board.{Board}
use Rattle.board.specs.Board.{term_at, entry_of, fitting, headed, laid, grown, LayAsk}
use Rattle.board.proofs.Laying.{three-laid}
use Rattle.operations.specs.declared.Run.{Run}
use Rattle.operations.specs.State.{WellFormed, Does, going, with_board}
use Rattle.operations.proofs.Latch.{push-does}
use Rattle.operations.proofs.Then.{push-then}
use Rattle.inference.specs.Inference.{type_on, lambda_on, next_at, HereAsk}
use Rattle.inference.proofs.Written.{length-type_on}

fits_one : (b : Board) (n : ℕ) → b.entries < most_entries → b.nodes + n ≤ most_nodes → fitting b n ≡ true
fits_one b n h l = rw (lt-ltb b.entries most_entries h, le-leb (b.nodes + n) most_nodes l)

-- the words of three pushes, by what the code counts
laid_as : (v : List ℕ) (b : Board) (x line : ℕ) (A B C : Ty) (n m bn again end : ℕ) → b.entries + 3 ≤ most_entries → length A ≡ n → length B ≡ m → length C ≡ bn
    → again ≡ board_base + 2 * (b.nodes + (length A + length B)) → end ≡ board_base + 2 * (b.nodes + (length A + length B) + (length A + 0))
    → (let lo = board_base + 2 * b.nodes in
    headed (headed (headed (sets (sets (sets (sets v end (words C)) (lo + 2 * n) (words B)) lo (words A)) again (words A)) b 3 0 n m) (grown b (n + m)) 2 x n 0) (grown (grown b (n + m)) (n + 0)) 5 line bn 0
    ≡ laid (laid (laid v b 3 0 A B) (grown b (length A + length B)) 2 x A []) (grown (grown b (length A + length B)) (length A + 0)) 5 line C [])
laid_as v b x line A B C n m bn again end few p q r y z = rw (← p, ← q, ← r, y, z) (three-laid v b 3 0 2 x 5 line A B C few (board_base + 2 * b.nodes + 2 * length A) refl)

counted-as : (b : Board) (A B C : Ty) (n m bn : ℕ) → length A ≡ n → length B ≡ m → length C ≡ bn
    → grown (grown (grown b (n + m)) (n + 0)) (bn + 0) ≡ grown (grown (grown b (length A + length B)) (length A + 0)) (length C + 0)
counted-as b A B C n m bn p q r = rw (← p, ← q, ← r)

-- three pushes that fit
module _ {b k : List ℕ} {c : Run} (f : WellFormed b k c) (g : going c.halt ≡ true) (w : Way) (ls : List Triple) (rep : List ℕ) (x line : ℕ) (A B C : Ty) (few : c.counters.board.entries + 3 ≤ most_entries)
    (fits : c.counters.board.nodes + (length A + length B + length A + length C) ≤ most_nodes) where
  abbrev b₁ : Board
  b₁ = grown c.counters.board (length A + length B)

  abbrev b₂ : Board
  b₂ = grown b₁ (length A + 0)

  three-pushes : Does w ls b k rep c (push (sub A B) (push (var x A) (push (chk (term_at ls line) C) done))) (laid (laid (laid b c.counters.board 3 0 A B) b₁ 2 x A []) b₂ 5 line C []) k rep (with_board c (grown b₂ (length C + 0)))
  unfolding entry_of term_at
  three-pushes =
      let d₁ = push-does f w ls rep 3 0 A B (λ _. refl) g (fits_one c.counters.board (length A + length B) (omega arith) (omega arith)) in
      let d₂ = push-does d₁.kept w ls rep 2 x A [] (λ _. refl) g (fits_one b₁ (length A + 0) (omega arith) (omega arith)) in
      let d₃ = push-does d₂.kept w ls rep 5 line C [] (λ _. refl) g (fits_one b₂ (length C + 0) (omega arith) (omega arith)) in
      push-then d₁ (push-then d₂ d₃)

module _ {b : List ℕ} {c : Run} {s : List ℕ} {at n m bn : ℕ} (a : HereAsk b c s at n m bn) where
  abbrev lo : ℕ
  lo = next_at c

  abbrev mid : ℕ
  mid = lo + 2 * n

  abbrev again : ℕ
  again = mid + 2 * m

  abbrev end : ℕ
  end = again + 2 * n

  abbrev A : Ty
  A = type_on s at n

  abbrev B : Ty
  B = nodes_at b (lo + 2) m

  abbrev C : Ty
  C = nodes_at b (lo + 2 + 2 * m) bn

  long : (length A ≡ n) × (length B ≡ m) × (length C ≡ bn)
  long = (length-type_on s at n a.lines.within, length-nodes_at b (lo + 2) m, length-nodes_at b (lo + 2 + 2 * m) bn)

  -- the second and the third entry are counted
  pub lays-var : {v : List ℕ} {d : Board} → length v ≡ length b → d ≡ grown c.counters.board (n + m) → LayAsk v d n 0
  lays-var q e = let r = a.room in let h = a.few in let f = a.fits in rw e (record { room = omega arith; few = omega arith; fits = omega arith })

  pub lays-chk : {v : List ℕ} {d e : Board} → length v ≡ length b → d ≡ grown c.counters.board (n + m) → e ≡ grown d (n + 0) → LayAsk v e bn 0
  lays-chk q x y = let r = a.room in let h = a.few in let f = a.fits in rw (y, x) (record { room = omega arith; few = omega arith; fits = omega arith })

  -- the second part is read once the third was moved past it
  moved : {v₁ v₂ : List ℕ} → v₁ ≡ sets b end (words C) → v₂ ≡ sets v₁ mid (words (nodes_at v₁ (lo + 2) m)) → v₂ ≡ sets (sets b end (words C)) mid (words B)
  moved {v₁} {v₂} p q =
      let z = a.some in
      q ∙ ap (λ (v : List ℕ). sets v mid (words (nodes_at v (lo + 2) m))) p
      ∙ ap (λ (t : Ty). sets (sets b end (words C)) mid (words t)) (nodes_at-below b end (words C) (lo + 2) m (omega arith))

  -- what the code leaves
  module _ {v₁ v₂ v₃ v₄ v₅ v₆ v₇ : List ℕ} {b₁ b₂ b₃ : Board} (name body : ℕ) (p₁ : v₁ ≡ sets b end (words C)) (p₂ : v₂ ≡ sets v₁ mid (words (nodes_at v₁ (lo + 2) m))) (p₃ : v₃ ≡ sets v₂ lo (words A)) (p₄ : v₄ ≡ sets v₃ again (words A))
      (p₅ : (v₅ ≡ headed v₄ c.counters.board 3 0 n m) × (b₁ ≡ grown c.counters.board (n + m))) (p₆ : (v₆ ≡ headed v₅ b₁ 2 name n 0) × (b₂ ≡ grown b₁ (n + 0))) (p₇ : (v₇ ≡ headed v₆ b₂ 5 body bn 0) × (b₃ ≡ grown b₂ (bn + 0))) where
    abbrev d : Board
    d = c.counters.board

    here-words : v₇ ≡ laid (laid (laid b d 3 0 A B) (grown d (length A + length B)) 2 name A []) (grown (grown d (length A + length B)) (length A + 0)) 5 body C []
    here-words =
        let l = long in
        let la : length A ≡ n = l.0 in
        let lb : length B ≡ m = l.1 in
        let stored : v₄ ≡ sets (sets (sets (sets b end (words C)) mid (words B)) lo (words A)) again (words A) =
        p₄ ∙ ap (λ (v : List ℕ). sets v again (words A)) (p₃ ∙ ap (λ (v : List ℕ). sets v lo (words A)) (moved p₁ p₂)) in
        p₇.0
        ∙ ap₂ (λ (v : List ℕ) (e : Board). headed v e 5 body bn 0) (p₆.0 ∙ ap₂ (λ (v : List ℕ) (e : Board). headed v e 2 name n 0) (p₅.0 ∙ ap (λ (v : List ℕ). headed v d 3 0 n m) stored) p₅.1) (p₆.1 ∙ ap (λ (e : Board). grown e (n + 0)) p₅.1)
        ∙ laid_as b d name body A B C n m bn again end a.few la lb l.2 (omega arith) (omega arith)

    here-board : b₃ ≡ grown (grown (grown d (length A + length B)) (length A + 0)) (length C + 0)
    here-board =
        p₇.1 ∙ ap (λ (e : Board). grown e (bn + 0)) (p₆.1 ∙ ap (λ (e : Board). grown e (n + 0)) p₅.1) ∙ counted-as d A B C n m bn long.0 long.1 long.2

    pub here-does : (w : Way) (E : Env) (e : Term) (T : Ty) (k rep : List ℕ) → WellFormed b k c → Does w (rows s) b k rep c (check_arrow E e T B C (Some (lambda_on s name at n body))) v₇ k rep (with_board c b₃)
    here-does w E e T k rep f =
        let l = long in
        let la : length A ≡ n = l.0 in
        let lb : length B ≡ m = l.1 in
        let lc : length C ≡ bn = l.2 in
        let fits = a.fits in
        rw (here-words, here-board) (three-pushes f a.goes w (rows s) rep name body A B C a.few (omega arith))
