-- The rule of the table: word 0 counts the history, word 1 is the turn, and slot 0 keeps the machine.
use Rattle.std.specs.Prelude.{◌≡◌, ◌≢◌, ◌⊎◌, ◌+◌, ◌<◌, ◌≤◌, ℕ, Bool, true, false, List, [], ◌∷◌, ◌++◌, length, All, Option, Some, None}
use mathlib.Core.List.{IsPrefix}
use mathlib.Core.Option.{some, none}
use lib.ListN.{get_elem?}
use Rattle.atomic_table.specs.Table.{State, Me, Step, rest}
use Rattle.catalog_lock.specs.declared.history.Event.{Event}
use Rattle.catalog_lock.specs.declared.history.Ended.{Ended}
use Rattle.catalog_lock.specs.declared.history.View.{View}
use Rattle.catalog_lock.specs.History.{calls_by, IsLegal}
use Rattle.catalog_lock.specs.Passes.{longer, shorter, IsJoined}

-- the view of the first pass, which has seen nothing
abbrev pub newcomer : {G : Type 0} → G → View G
newcomer made = record { made = made; number = 0; seen = []; told = []; mine = []; joined = []; next = 1; holds = false; spent = false }

-- the view once it has the turn, and sees the whole history
abbrev pub with_turn : {G : Type 0} → View G → List Event → View G
with_turn v log = record v { seen = log; holds = true }

-- the view once its call is in the history
abbrev pub with_call : {G : Type 0} → View G → List Event → View G
with_call v log = record v { seen = log; mine = calls_by v.number log }

abbrev pub without_turn : {G : Type 0} → View G → View G
without_turn v = record v { holds = false }

-- the first view once it has given a number away, and the view with that number
abbrev pub with_next : {G : Type 0} → View G → View G
with_next v = record v { next = v.next + 1 }

abbrev pub view_split_off : {G : Type 0} → View G → View G
view_split_off v = record v { number = v.next; told = []; mine = []; joined = []; next = 0; holds = false; spent = false }

-- the view once it has taken in another, and what is left of that one
abbrev pub joined_with : {G : Type 0} → View G → View G → View G
joined_with v w = record v { seen = longer v.seen w.seen; told = shorter v.seen w.seen; joined = v.joined ++ record { number = w.number; calls = w.mine } ∷ w.joined }

abbrev pub used_up : {G : Type 0} → G → View G
used_up made = record { made = made; number = 0; seen = []; told = []; mine = []; joined = []; next = 0; holds = false; spent = true }

-- the seats of the passes that go on, by their numbers
abbrev pub Seats : Type 0
Seats = ℕ → mathlib.Core.Option.Option ℕ

-- the pass that x tells of has ended, and the history has just these calls of it
abbrev pub HasEnded : List Event → Seats → ℕ → Ended → Type 0
HasEnded log seat next x = (x.number < next) × (seat x.number ≡ none) × (calls_by x.number log ≡ x.calls)

-- what the view of the seat j says of the history
pub record Fits {G : Type 0} (origin : G) (log : List Event) (seat : Seats) (next turn holder j : ℕ) (v : View G) : Type 0 where
  pub made : v.made ≡ origin
  -- both lists are beginnings of the history
  pub seen : IsPrefix v.seen log
  pub told : IsPrefix v.told log
  -- the events with its number are exactly its own calls
  pub mine : calls_by v.number log ≡ v.mine
  pub place : seat v.number ≡ some j
  pub joined : All (HasEnded log seat next) v.joined
  -- the first pass knows the next number
  pub first : v.number ≡ 0 → v.next ≡ next
  -- who has the turn is the only one, and has seen the whole history
  pub has_turn : v.holds ≡ true → (turn ≡ 1) × (holder ≡ j) × (v.seen ≡ log)

-- it is the view of a pass that goes on, which has this number or keeps the calls of one that had it and ended
abbrev pub SpeaksFor : {G : Type 0} → ℕ → View G → Type 0
SpeaksFor number v = (v.spent ≡ false) × ((v.number ≡ number) ⊎ IsJoined number v.joined)

-- one of the views speaks for the number
abbrev pub IsSpokenFor : {G : Type 0} → ℕ → List (View G) → Type 0
IsSpokenFor {G} number views = (j : ℕ) × (v : View G) × (get_elem? views j ≡ some v) × SpeaksFor number v

module _ {M G R : Type 0} (history : M → List Event) (made : M → G) (takes : G → List ℕ → Type 0) (step : G → List Event → ℕ → List ℕ → R → Type 0) (keeps : R → Bool) where
  -- What holds between any two steps. There is one history
  pub record Kept (origin : G) (s : State (Option M) (View G)) : Type 0 where
    pub log : List Event
    -- no two passes that go on have one number, since each number has one seat
    pub seat : Seats
    pub next : ℕ
    pub turn : ℕ
    -- the seat that has the turn, if one has
    pub holder : ℕ
    pub words : s.words ≡ length log ∷ turn ∷ []
    pub legal : IsLegal takes step keeps origin log
    pub each : (j : ℕ) (v : View G) → get_elem? s.views j ≡ some v → v.spent ≡ false → Fits origin log seat next turn holder j v
    -- each number below the next is that of a pass that goes on, or of an ended one whose calls are kept
    pub spoken : (k : ℕ) → k < next → IsSpokenFor k s.views
    -- the next number and those above it have no event and no pass
    pub unused : (k : ℕ) → next ≤ k → (calls_by k log ≡ []) × (seat k ≡ none)
    -- while none has the turn, the slot keeps a machine with exactly this history
    pub free : turn ≡ 0 → (m : M) × (get_elem? s.homes 0 ≡ some (some (Some m))) × (history m ≡ log) × (made m ≡ origin)
    -- else one has it, and the slot with it
    pub busy : turn ≢ 0 → (v : View G) × (get_elem? s.views holder ≡ some v) × (v.spent ≡ false) × (v.holds ≡ true)
    pub out : turn ≢ 0 → get_elem? s.homes 0 ≡ some none

  -- the caller got the turn, with the machine, and has seen the whole history; or nothing changed
  abbrev pub Tries : Step (Option M) → Me (Option M) (View G) → ℕ → Me (Option M) (View G) → Type 0
  Tries st m found w =
      (found ≡ 0
      → (x : M) × (log : List Event) × (w ≡ (with_turn m.0 log, (0, Some x) ∷ m.1)) × (history x ≡ log) × (made x ≡ m.0.made)
      × IsPrefix m.0.seen log × IsLegal takes step keeps m.0.made log × (calls_by m.0.number log ≡ m.0.mine))
      × (found ≢ 0 → w ≡ m)

  -- the history has become that of the machine in the slot
  abbrev pub Appends : Step (Option M) → Me (Option M) (View G) → ℕ → Me (Option M) (View G) → Type 0
  Appends st m found w = (x : M) → m.1 ≡ (0, Some x) ∷ [] → w ≡ (with_call m.0 (history x), m.1)

  -- the turn is given up, with the slot
  abbrev pub Releases : Step (Option M) → Me (Option M) (View G) → ℕ → Me (Option M) (View G) → Type 0
  Releases st m found w = w ≡ (without_turn m.0, rest m.1)

  -- what every view knows
  abbrev pub Knows : View G → Type 0
  Knows v =
      IsLegal takes step keeps v.made v.seen
      × (length v.told ≤ length v.seen → IsPrefix v.told v.seen)
      × (v.number ≡ 0 → calls_by v.next v.seen ≡ [])

  -- nothing changed
  abbrev pub Looks : Step (Option M) → Me (Option M) (View G) → ℕ → Me (Option M) (View G) → Type 0
  Looks st m found w = (w ≡ m) × Knows m.0

  -- the turn was got, with the machine, which is out of its slot
  abbrev pub Took : Me (Option M) (View G) → M → Me (Option M) (View G) → Type 0
  Took m x w =
      (log : List Event) × (w ≡ (with_turn m.0 log, (0, None) ∷ [])) × (history x ≡ log) × (made x ≡ m.0.made)
      × IsPrefix m.0.seen log × IsLegal takes step keeps m.0.made log × (calls_by m.0.number log ≡ m.0.mine)

-- the seat has the turn, and the machine x in its slot
abbrev pub Holding : {M G : Type 0} → Me (Option M) (View G) → M → Type 0
Holding m x = (m.0.spent ≡ false) × (m.0.holds ≡ true) × (m.1 ≡ (0, Some x) ∷ [])

-- the seat may ask for the turn
abbrev pub IsIdle : {M G : Type 0} → Me (Option M) (View G) → Type 0
IsIdle m = (m.0.spent ≡ false) × (m.0.holds ≡ false) × (m.1 ≡ [])
