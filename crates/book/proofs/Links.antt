-- No chain in a well-formed book passes 1,000 links, whoever made the book, and the chain 0 → 1 → … → 999 → Int has as
-- many (`longest`). Assumes nothing.
use Rattle.std.proofs.Common.{◌≡◌, refl, ◌∙◌, ap, subst, true, List, [], ◌∷◌, ◌++◌, ℕ, zero, suc, ◌+◌, ◌*◌, ◌≤◌, ◌<◌, add-one, arith, length}
use mathlib.Core.Path.{subst⁻¹}
use lib.Seq.{sets}
use Rattle.sizes.specs.Sizes.{most_numbers, book_base, book_size}
use Rattle.nodes.specs.Nodes.{Node, node}
use Rattle.nodes.specs.Lists.{All}
use Rattle.judgment.specs.Types.{unknown, con, occurs}
use Rattle.judgment.specs.Solutions.{◌≔◌, Solutions, key, find, solved_unknowns}
use Rattle.judgment.specs.Good.{Free}
use Rattle.judgment.specs.Links.{is_chain, LinksUpTo, Longest, risen, chained}
use Rattle.judgment.specs.Levels.{own_levels}
use Rattle.judgment.specs.Result.{book_words}
use Rattle.judgment.proofs.Words.{length-book}
use Rattle.judgment.proofs.Links.{few-links, rising, chained-links, risen-free, next-free, last-free}
use Rattle.book.specs.declared.Book.{Book}
use Rattle.book.specs.Book.{sols, Holds, Booked, given}
use Rattle.book.proofs.Holdings.{given-sols, given-booked}
use Rattle.book.proofs.Words.{new-sols, new-booked}

holds-small : (w : List ℕ) (e p : ℕ) (σ : Solutions) → Holds w e p σ → All (λ x. key x < most_numbers) σ
unfolding Holds
holds-small w e p [] h = tt
holds-small w e p (◌≔◌ k t ∷ σ) h = (h.0.small, holds-small w e (p + 2 * length t) σ h.1)

pub book-links : (w : List ℕ) (b : Book) → Booked w b → LinksUpTo most_numbers (sols w)
book-links w b h = few-links (sols w) h.fine most_numbers (holds-small w (book_base + 2 * b.nodes) book_base (sols w) h.holds)

-- ---- the book of 0 → 1 → … → 999 → Int, solution by solution
-- the words hold these solutions, of n nodes
abbrev pub Holding : List ℕ → ℕ → Solutions → Type 0
Holding w n σ = Booked w (record { nodes = n }) × (sols w ≡ σ)

pub one_more : (w : List ℕ) (n : ℕ) (x : Node) → n < most_numbers → All (Free (n ∷ solved_unknowns (risen n))) (x ∷ []) → Holding w n (risen n)
    → Holding (given w (record { nodes = n }) n (x ∷ [])) (suc n) (risen n ++ (◌≔◌ n (x ∷ []) ∷ []))
one_more w n x l free h =
    let b : Book = record { nodes = n } in
    let new = subst⁻¹ (λ (σ : Solutions). Free (solved_unknowns σ) (node 17 n)) h.1 (risen-free n n (omega arith)) in
    let all = subst⁻¹ (λ (σ : Solutions). All (Free (n ∷ solved_unknowns σ)) (x ∷ [])) h.1 free in (
      subst (λ (m : ℕ). Booked (given w b n (x ∷ [])) (record { nodes = m })) (add-one n) (given-booked w b n (x ∷ []) h.0 l (omega arith) (omega arith) new all),
      given-sols w b n (x ∷ []) h.0 l (omega arith) (omega arith) new ∙ ap (λ (σ : Solutions). σ ++ (◌≔◌ n (x ∷ []) ∷ [])) h.1,
    )

risen-held : (n : ℕ) → n < most_numbers → (w : List ℕ) × Holding w n (risen n)
unfolding risen
risen-held zero l =
    let w = book_words [] own_levels 0 in
    let room : book_size ≤ length w = omega (arith, length-book [] own_levels 0) in
    (sets w 0 w, (new-booked w room, new-sols w room))
risen-held (suc n) l =
    let h = risen-held n (omega arith) in
    (given h.0 (record { nodes = n }) n (unknown (suc n)), one_more h.0 n (node 17 (suc n)) (omega arith) (next-free n) h.1)

-- the most links of a chain in a well-formed book
pub longest : Longest (λ σ. (w : List ℕ) × (b : Book) × Booked w b × (sols w ≡ σ)) 1000
longest =
    let h = risen-held 999 (omega arith) in
    let last = one_more h.0 999 (node 12 1) (omega arith) (last-free 999) h.1 in
    let links = chained-links 999 in
    record {
      most = λ σ g ks e. (let l = subst (LinksUpTo most_numbers) g.3 (book-links g.0 g.1 g.2) ks e in omega arith);
      met = (chained 999, (given h.0 (record { nodes = 999 }) 999 (con 1), record { nodes = 1000 }, last.0, last.1), (links.0, links.1, (let l = links.2 in omega arith)));
    }

-- and by computation: no lower bound would do
pub thousand : is_chain (chained 999) (rising 0 1000) ≡ true
unfolding find occurs is_chain risen rising
thousand = refl

pub no-fewer : (m : ℕ) → LinksUpTo m (chained 999) → 1000 ≤ m
unfolding rising
no-fewer m h = h (rising 0 1000) thousand
