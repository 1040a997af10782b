-- What stands behind a script or a server: the tables of the Definition Schema, where they are asked for.
use Rattle.std.specs.Prelude.{◌≡◌, ℕ, Bool, true, List, Option, Result, Ok, Err}
use Rattle.sample_runs.specs.Contents.{State}
use Rattle.printed_tables.specs.Written.{IsWritten}
use Rattle.printed_tables.specs.declared.definition.Unwritten.{Unwritten}
use Rattle.printed_tables.specs.declared.definition.Unwritten.TheVariants.{Memory, Failed}
use Rattle.sample_runs.specs.Status.{Status}
use Rattle.sample_runs.specs.Status.TheVariants.{Done, WriteFault, OutOfMemory}

abbrev pub status_of_tables : Result (Unit {0}) Unwritten → Status
status_of_tables (Ok v) = Done
status_of_tables (Err Failed) = WriteFault
status_of_tables (Err Memory) = OutOfMemory

-- the tables of the catalogue were written, or a front of them, or none since memory ran out, and the status says which
pub record WroteTables (state : State) (status : Status) (given_before given_after : Option (List ℕ)) : Type 0 where
  pub written : Result (Unit {0}) Unwritten
  pub status_is : status ≡ status_of_tables written
  pub bytes : IsWritten state.content.catalogue given_before given_after written

-- behind an end of this status: the tables, where they are asked for and all was done, and else nothing
abbrev pub Finishes : Bool → Status → State → Status → Option (List ℕ) → Option (List ℕ) → Type 0
Finishes true Done state status given_before given_after = WroteTables state status given_before given_after
Finishes definition end state status given_before given_after = (status ≡ end) × (given_after ≡ given_before)
