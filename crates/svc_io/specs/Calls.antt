-- The calls of an object in memory.
use Rattle.std.specs.Prelude.{ℕ, List, Contains}
use Rattle.svc_io.specs.Faults.{raised}

-- the numbers of the calls that are to fail, counted from 1, how many were made, and how many have failed
pub record CallsState : Type 0 where
  pub failing : List ℕ
  pub made : ℕ
  pub faults : ℕ

-- no call was made yet
abbrev pub first_calls : List ℕ → CallsState
first_calls failing = record { failing = failing; made = 0; faults = 0 }

-- the next call is to fail
abbrev pub NextFails : CallsState → Type 0
NextFails calls = Contains calls.failing (raised calls.made)

-- the calls after one more, and after one more that failed
abbrev pub made_one : CallsState → CallsState
made_one calls = record calls { made = raised calls.made }

abbrev pub fault_more : CallsState → CallsState
fault_more calls = record calls { faults = raised calls.faults }

abbrev pub failed_one : CallsState → CallsState
failed_one calls = fault_more (made_one calls)
