-- What the contracts of the lines of a text cite. Assumes nothing: these are definitions.
use Rattle.std.specs.Prelude.{◌≡◌, ℕ, ◌+◌, ◌-◌, ◌<◌, ◌≤◌, true, cond, List, take, Option, Some, None, Result, Ok, IsErr, ◌==◌, ◌≢◌, length, nat_lt, slice_index, slice_range}
use Rattle.replay.specs.declared.line.Unread.{Unread}
use Rattle.replay.specs.declared.line.Line.{Line}

-- the first LF of the bytes from `at` to `end` is at r, or r is the end
pub record LineEnds (text : List ℕ) (at end r : ℕ) : Type 0 where
  pub start : at ≤ r
  pub stop : r ≤ end
  pub none_before : (k : ℕ) → k < r → at ≤ k → slice_index text k ≢ 10
  pub feed : r < end → slice_index text r ≡ 10

-- the first line, l, and v, what is unread after it and its LF
pub record LineAt (text : List ℕ) (u : Unread) (l : Line) (v : Unread) : Type 0 where
  pub some : u.at < u.end
  pub first : l.start ≡ u.at
  pub ends : LineEnds text u.at u.end l.end
  pub rest : v ≡ record { at = cond (nat_lt l.end u.end) (l.end + 1) u.end; end = u.end; more = u.more }

-- the first line of what is unread, or that nothing is
abbrev pub FirstLine : List ℕ → Unread → Option Line → Unread → Type 0
FirstLine text u (Some l) v = LineAt text u l v
FirstLine text u None v = (u.at ≡ u.end) × (v ≡ u)

-- A text that was filled anew: in front stand the bytes that were unread in the text before, and what was read follows
-- them. The input goes on if the text is full.
pub record Refilled (before : List ℕ) (u : Unread) (text : List ℕ) (v : Unread) : Type 0 where
  pub held : take (u.end - u.at) text ≡ slice_range before u.at u.end
  pub start : u.end - u.at ≤ v.end
  pub stop : v.end ≤ length text
  pub all : v ≡ record { at = 0; end = v.end; more = v.end == length text }

-- what is unread has no LF
abbrev pub Unended : List ℕ → Unread → Type 0
Unended text u = (k : ℕ) → k < u.end → u.at ≤ k → slice_index text k ≢ 10

-- the next line, of the text before the call; or, where that has none and the input goes on, of the text filled anew,
-- unless a read failed
pub data NextLine {E : Type 0} (text : List ℕ) (u : Unread) (text' : List ℕ) (v : Unread) (r : Result (Option Line) E) : Type 0 where
  here : (l : Option Line) → r ≡ Ok l → text' ≡ text → FirstLine text u l v → NextLine text u text' v r
  anew : (l : Option Line) (w : Unread) → r ≡ Ok l → u.more ≡ true → Unended text u → Refilled text u text' w → FirstLine text' w l v → NextLine text u text' v r
  failed : u.more ≡ true → Unended text u → IsErr r → NextLine text u text' v r
