-- Histories of a machine that sessions share.
use Rattle.std.specs.Prelude.{◌≡◌, ◌==◌, ℕ, Bool, true, List, ◌∷◌, ◌++◌, filter}
use Rattle.catalog_lock.specs.declared.history.Event.{Event}

abbrev pub event : ℕ → List ℕ → Event
event session text = record { session = session; text = text }

-- the events of one session, in order
abbrev pub calls_by : ℕ → List Event → List Event
calls_by number log = filter (λ e. e.session == number) log

module _ {G R : Type 0} (takes : G → List ℕ → Type 0) (step : G → List Event → ℕ → List ℕ → R → Type 0) (keeps : R → Bool) where
  -- the machine takes the text, and has a reply to it, after this history, that is kept
  abbrev pub MayFollow : G → List Event → ℕ → List ℕ → Type 0
  MayFollow made before session text = takes made text × ((reply : R) × step made before session text reply × (keeps reply ≡ true))

  -- each event may follow those before it
  abbrev pub IsLegal : G → List Event → Type 0
  IsLegal made log = (before : List Event) (e : Event) (after : List Event) → log ≡ before ++ e ∷ after → MayFollow made before e.session e.text
