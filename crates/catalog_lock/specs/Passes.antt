-- What contracts see of a pass, and what each call makes of it.
use Rattle.std.specs.Prelude.{◌≡◌, ℕ, ◌+◌, ◌<◌, List, [], ◌∷◌, ◌++◌, if◌then◌else◌, nat_lt, length, Contains}
use mathlib.Core.List.{IsPrefix}
pub use Rattle.atomic_table.specs.Seated.{TableId}
use Rattle.catalog_lock.specs.declared.history.Event.{Event}
use Rattle.catalog_lock.specs.declared.history.Ended.{Ended}
use Rattle.catalog_lock.specs.declared.history.View.{View}
use Rattle.catalog_lock.specs.History.{event}

-- which machine it is of, and what that was made with; its number; the history that it has seen; its own kept calls; those of each pass that was joined into it; and the next unused number, which only the pass of number 0 knows
pub record Shown (G : Type 0) : Type 0 where
  pub table : TableId
  pub made : G
  pub number : ℕ
  pub seen : List Event
  pub mine : List Event
  pub joined : List Ended
  pub next : ℕ

abbrev pub shown : {G : Type 0} → TableId → View G → Shown G
shown table v = record { table = table; made = v.made; number = v.number; seen = v.seen; mine = v.mine; joined = v.joined; next = v.next }

-- the first pass, before any call
abbrev pub first_pass : {G : Type 0} → TableId → G → Shown G
first_pass table made = record { table = table; made = made; number = 0; seen = []; mine = []; joined = []; next = 1 }

module _ {G R : Type 0} (step : G → List Event → ℕ → List ℕ → R → Type 0) where
  -- the pass has seen a history that begins with all that it had seen and ends with this call, whose answer is one of the step at that place; and the call is one more of its own
  abbrev pub MakesCall : Shown G → List ℕ → R → Shown G → Type 0
  MakesCall p text answer q =
      (before : List Event) × IsPrefix p.seen before × step p.made before p.number text answer
      × (q ≡ record p { seen = before ++ event p.number text ∷ []; mine = p.mine ++ event p.number text ∷ [] })

module _ {G R : Type 0} (may_give : G → List Event → ℕ → List ℕ → R → Type 0) where
  -- the pass has seen a history that begins with all that it had seen, and after it the answer may be given without an event
  abbrev pub MakesNoCall : Shown G → List ℕ → R → Shown G → Type 0
  MakesNoCall p text answer q =
      (log : List Event) × IsPrefix p.seen log × may_give p.made log p.number text answer × (q ≡ record p { seen = log })

-- the pass that a split gives: it has the next unused number, has seen as much as the first, and has made no call
abbrev pub split_off : {G : Type 0} → Shown G → Shown G
split_off p = record p { number = p.next; mine = []; joined = []; next = 0 }

-- the first pass after a split
abbrev pub after_split : {G : Type 0} → Shown G → Shown G
after_split p = record p { next = p.next + 1 }

-- the longer of two histories, or the first where they are as long, and the other
abbrev pub longer : List Event → List Event → List Event
longer xs ys = if nat_lt (length xs) (length ys) then ys else xs

abbrev pub shorter : List Event → List Event → List Event
shorter xs ys = if nat_lt (length xs) (length ys) then xs else ys

-- the pass that the other was joined into: it has seen the longer history, and keeps the calls of the other and of all that were joined into that one
abbrev pub after_join : {G : Type 0} → Shown G → Shown G → Shown G
after_join p other = record p { seen = longer p.seen other.seen; joined = p.joined ++ record { number = other.number; calls = other.mine } ∷ other.joined }

-- a pass of this number ended, and its calls are in the list
abbrev pub IsJoined : ℕ → List Ended → Type 0
IsJoined number ended = (x : Ended) × Contains ended x × (x.number ≡ number)

-- each number that was split off is that of a pass that was joined
abbrev pub AreAllJoined : ℕ → List Ended → Type 0
AreAllJoined next ended = (number : ℕ) → 0 < number → number < next → IsJoined number ended
