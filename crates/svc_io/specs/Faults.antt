-- Counts of faults, and what stands beside a source or a sink.
use Rattle.std.specs.Prelude.{ℕ, ◌+◌, ◌-◌, ◌^◌, ◌≤◌, min, List, Option, None, Result, OnErr}

-- a count, one higher; it stands still at the end of 64 bits
abbrev pub raised : ℕ → ℕ
raised count = min (count + 1) (2 ^ 64 - 1)

-- a count that never falls is greater than before, or is at the end of 64 bits
abbrev pub Rose : ℕ → ℕ → Type 0
Rose before now = raised before ≤ now

-- the count hasn't fallen, and an error is answered only where it rose
pub record HasCause {T E : Type 0} (before now : ℕ) (result : Result T E) : Type 0 where
  pub later : before ≤ now
  pub failed : OnErr result (Rose before now)

-- what stands beside one end of an object that has two: the bytes that the other end tells, and its count of faults
pub record Beside : Type 0 where
  pub told : Option (List ℕ)
  pub count : ℕ

abbrev pub beside_of : Option (List ℕ) → ℕ → Beside
beside_of told count = record { told = told; count = count }

-- an object that is a source alone, or a sink alone, has nothing beside it
abbrev pub nothing_beside : Beside
nothing_beside = beside_of None 0
