-- Sessions on the connections that a listener gave.
use Rattle.std.specs.Prelude.{◌≡◌, ◌⊎◌, ◌<◌, ◌≤◌, ◌-◌, ◌^◌, ◌+◌, ℕ, List, [], ◌∷◌, ◌++◌, length, All, Contains, Option, map}
use Rattle.std.specs.Option.{option_map}
use mathlib.Core.List.{IsPrefix}
use Rattle.catalog_lock.specs.declared.history.Event.{Event}
use Rattle.catalog_lock.specs.declared.history.Ended as past
use Rattle.catalog_lock.specs.History.{calls_by, IsLegal}
use Rattle.catalog_lock.specs.Passes.{TableId, Shown, IsJoined, AreAllJoined, after_join, after_split, split_off}
use Rattle.cat_engine.specs.Shared.{IsReplyAfter, IsTaken, is_entered}
use Rattle.cat_engine.specs.declared.machine.Origin.{Origin}
use Rattle.cat_items.specs.declared.limits.Limits.{Limits}
use Rattle.sessions.specs.Sessions.{IsServed}
use Rattle.sessions.specs.declared.status.Status.{Status}
use Rattle.sessions.specs.declared.status.Status.TheVariants.{Done, ListenFault, OutOfMemory}
use Rattle.sessions.specs.declared.server.Over.{Over}
use Rattle.sessions.specs.declared.script.Ended.{Ended}

-- how a server ends: it served all connections, its listener failed, or memory ran out
abbrev pub Halts : Status → Type 0
Halts Done = Unit {0}
Halts ListenFault = Unit {0}
Halts OutOfMemory = Unit {0}
Halts status = ⊥

-- these have the numbers from n on, each with one of these connections, in order
abbrev pub AreFrom : {C X : Type 0} → (ℕ → C → X → Type 0) → ℕ → List C → List X → Type 0
AreFrom Is n [] [] = Unit {0}
AreFrom Is n (c ∷ cs) (x ∷ xs) = Is n c x × AreFrom Is (n + 1) cs xs
AreFrom Is n [] (x ∷ xs) = ⊥
AreFrom Is n (c ∷ cs) [] = ⊥

-- a listener that had old left to give, and has new left, gave these connections, the first ones
abbrev pub GaveAll : {C : Type 0} → Option (List C) → List C → Option (List C) → Type 0
GaveAll old conns new = old ≡ option_map (λ rest. conns ++ rest) new

-- so many more are out, or the count stands at the end of 64 bits
abbrev pub HasRisen : ℕ → ℕ → ℕ → Type 0
HasRisen before more now = (now ≡ before + more) ⊎ (now ≡ 2 ^ 64 - 1)

-- a pass that begins with a number of its own
abbrev pub HasBegun : TableId → Origin → ℕ → Shown Origin → Type 0
HasBegun table made number pass = (pass.table ≡ table) × (pass.made ≡ made) × (pass.number ≡ number) × (pass.mine ≡ []) × (pass.joined ≡ [])

-- a listener gave as many connections as there are sessions, one for each
pub record HasAccepted {C X : Type 0} (Is : ℕ → C → X → Type 0) (left_before left_after : Option (List C)) (out_before out_after : ℕ) (sessions : List X) : Type 0 where
  pub conns : List C
  pub are : AreFrom Is 1 conns sessions
  pub gave : GaveAll left_before conns left_after
  pub out : HasRisen out_before (length sessions) out_after

-- no pass was split off, or one that was ended at once
abbrev pub IsSpared : Shown Origin → Shown Origin → Type 0
IsSpared old new = (new ≡ old) ⊎ (new ≡ after_join (after_split old) (split_off old))

-- the first pass beside sessions of the numbers 1 to n: all other numbers that it gave away have ended, without a call
pub record IsBeside (n : ℕ) (old new : Shown Origin) : Type 0 where
  pub table : new.table ≡ old.table
  pub made : new.made ≡ old.made
  pub number : new.number ≡ old.number
  pub mine : new.mine ≡ old.mine
  pub idle : All (λ (x : past.Ended). x.calls ≡ []) new.joined
  pub spare : (k : ℕ) → n < k → k < new.next → IsJoined k new.joined

module _ {C : Type 0} (left given : C → Option (List ℕ)) (take_faults put_faults : C → ℕ) where
  -- a session of this number was served, and its calls stand in the history
  pub record WasServed (limits : Limits) (made : Origin) (history : List Event) (number : ℕ) (first last : C) (ended : Ended) : Type 0 where
    pub before : Shown Origin
    pub after : Shown Origin
    pub made_is : before.made ≡ made
    pub number_is : before.number ≡ number
    pub new : before.mine ≡ []
    pub served : IsServed left given take_faults put_faults limits before first after last ended
    pub seen : IsPrefix after.seen history
    pub calls : calls_by number history ≡ after.mine

-- the first pass, when all sessions of the numbers 1 to n were joined into it
pub record HasJoinedAll (n : ℕ) (old new : Shown Origin) : Type 0 where
  pub table : new.table ≡ old.table
  pub made : new.made ≡ old.made
  pub number : new.number ≡ old.number
  pub mine : new.mine ≡ old.mine
  pub all : AreAllJoined new.next new.joined
  pub ended : All (λ (x : past.Ended). ((0 < x.number) × (x.number ≤ n)) ⊎ (x.calls ≡ [])) new.joined

module _ {C : Type 0} (left given : C → Option (List ℕ)) (take_faults put_faults : C → ℕ) where
  -- a session of this number ended; its pass was joined into one that has seen so much, and keeps its calls
  pub record IsOver (limits : Limits) (made : Origin) (seen : List Event) (joined : List past.Ended) (number : ℕ) (first last : C) (tag : ℕ) (ended : Ended) : Type 0 where
    pub tag_is : tag ≡ number
    pub before : Shown Origin
    pub after : Shown Origin
    pub made_is : before.made ≡ made
    pub number_is : before.number ≡ number
    pub new : before.mine ≡ []
    pub served : IsServed left given take_faults put_faults limits before first after last ended
    pub seen_is : IsPrefix after.seen seen
    pub kept : Contains joined (record { number = number; calls = after.mine })

-- a history in which each event has one of the numbers 1 to n
abbrev pub AreNumbered : ℕ → List Event → Type 0
AreNumbered n history = All (λ (e : Event). (0 < e.session) × (e.session ≤ n)) history

abbrev pub IsLegalHistory : Origin → List Event → Type 0
IsLegalHistory made history = IsLegal IsTaken IsReplyAfter is_entered made history

-- a listener that had got old back, and then new, got these connections back, after the others
abbrev pub GotAll : {C : Type 0} → Option (List C) → List C → Option (List C) → Type 0
GotAll old conns new = new ≡ option_map (λ returned. returned ++ conns) old

module _ {C : Type 0} (left given : C → Option (List ℕ)) (take_faults put_faults : C → ℕ) where
  -- connections were accepted and served, and each was given back; the history is that of their sessions
  pub record RanServe (limits : Limits) (made : Origin) (history : List Event) (status : Status) (connections : ℕ) (left_before left_after returned_before returned_after : Option (List C)) (out_before out_after : ℕ) : Type 0 where
    pub overs : List (Over C)
    pub most_out : ℕ
    pub accepted : HasAccepted (λ number conn (over : Over C). (over.number ≡ number) × WasServed left given take_faults put_faults limits made history number conn over.conn over.ended)
        left_before left_after out_before most_out overs
    pub legal : IsLegalHistory made history
    pub numbered : AreNumbered (length overs) history
    pub returned : GotAll returned_before (map (λ (over : Over C). over.conn) overs) returned_after
    pub out : out_after + length overs ≡ most_out
    pub halts : Halts status
    pub done : status ≡ Done → length overs ≡ connections
