-- A plan read in pieces, and a fault that stays. Assumes nothing.
use Rattle.std.proofs.Common.{◌≡◌, ℕ, ◌+◌, ◌<◌, false, List, [], ◌∷◌, ◌++◌, length, get_or, drop, refl, ap, ◌∙◌, add-one, drop-cons, is_none, ◌≤◌}
use Rattle.std.proofs.lemmas.List.{drop_all}
use Rattle.listing.specs.Listing.{State, stepped, fed, ended}

-- ---- what is left to read
pub fed-again : (l : List ℕ) (i : ℕ) (s : State) {t : State} → i < length l → t ≡ stepped s (get_or l i 0)
    → fed t (drop (i + 1) l) ≡ fed s (drop i l)
unfolding fed
fed-again l i s h e = rw (e, add-one, drop-cons l i 0)

pub fed-done : (l : List ℕ) (i : ℕ) (s : State) → length l ≤ i → fed s (drop i l) ≡ s
unfolding fed
fed-done l i s h = rw (drop_all i l h)

-- block after block
pub fed-append : (a b : List ℕ) (s : State) → fed s (a ++ b) ≡ fed (fed s a) b
unfolding fed
fed-append [] b s = refl
fed-append (x ∷ a) b s = fed-append a b (stepped s x)

-- ---- a fault stays as it is, whatever follows
step_stays : (s : State) (b : ℕ) → is_none s.scan.fault ≡ false → stepped s b ≡ s
unfolding stepped
step_stays s b f = rw f

pub fed-stays : (bs : List ℕ) (s : State) → is_none s.scan.fault ≡ false → fed s bs ≡ s
unfolding fed
fed-stays [] s f = refl
fed-stays (b ∷ bs) s f = ap (λ (t : State). fed t bs) (step_stays s b f) ∙ fed-stays bs s f

pub ended-stays : (s : State) → is_none s.scan.fault ≡ false → ended s ≡ s
unfolding ended
ended-stays s f = step_stays s 10 f
