-- How the program may end.
use Rattle.std.specs.Prelude.{◌≡◌, ◌⊎◌, ◌↔◌, ℕ, Bool, IsTrue, List, Option, Some}
use Rattle.sample_runs.specs.Contents.{State}
use Rattle.cat_items.specs.Good.{IsGood}
use Rattle.sample_runs.specs.Histories.{IsOpening}
use Rattle.sample_runs.specs.Shared.{history_of, origin_of}
use Rattle.sample_runs.specs.Origin.{Origin}
use Rattle.sample_runs.specs.Sampled.{standard_limits}
use Rattle.sample_runs.specs.Calls.{IsApplied}
use Rattle.sample_runs.specs.Script.{Io, IsWellEnded, io}
use Rattle.sample_runs.specs.Script as scripts
use Rattle.sample_runs.specs.Serving.{RanServe}
use Rattle.sample_runs.specs.Ended.{Ended}
use Rattle.sample_runs.specs.Ended.TheVariants as ended
use Rattle.sample_runs.specs.Status.{Status}
use Rattle.sample_runs.specs.Status.TheVariants.{Done, Usage, ReadFault, WriteFault, ListenFault, TooLong, Unfinished, OutOfMemory}
use Rattle.ddl_service.specs.Commands.{Asks, AsksForDefinition}
use Rattle.ddl_service.specs.Finish.{Finishes}
use Rattle.ddl_service.specs.declared.command_line.Command.{Command}
use Rattle.ddl_service.specs.declared.command_line.Command.TheVariants.{Script, Serve, Sample}

-- the status of a script's end
abbrev pub status_of : Ended → Status
status_of ended.Done = Done
status_of ended.ReadFault = ReadFault
status_of ended.WriteFault = WriteFault
status_of ended.TooLong = TooLong
status_of ended.Unfinished = Unfinished

-- the script of these users ran from the opening, under the standard limits; where it is done and the Definition Schema is asked for, that was written of the
-- catalogue behind it
pub record RanScript (definition : Bool) (status : Status) (users : List (List ℕ)) (io_before io_after : Io) : Type 0 where
  pub end : Ended
  pub before : State
  pub opening : IsOpening users standard_limits before
  pub after : State
  pub missed : ℕ
  pub good : IsGood after.content.catalogue
  -- what the sink was given when the script ended
  pub given : Option (List ℕ)
  pub script : scripts.Script IsApplied end 1073741824 before after io_before (io io_after.left given) missed
  pub finish : Finishes definition (status_of end) after status given io_after.given

-- what a book of these users is made with
abbrev pub origin : List (List ℕ) → Origin
origin users = record { users = users; limits = standard_limits }

module _ {C : Type 0} (left given : C → Option (List ℕ)) (take_faults put_faults : C → ℕ) where
  -- connections were served from the opening of these users by one history, which the book keeps that came back; behind that the Definition Schema was
  -- written of its catalogue, where it is asked for
  pub record Served (definition : Bool) (status : Status) (users : List (List ℕ)) (connections : ℕ) (left_before left_after returned_before returned_after : Option (List C)) (out_before out_after : ℕ) (given_before given_after : Option (List ℕ)) : Type 0 where
    pub end : Status
    pub after : State
    pub made : origin_of after ≡ origin users
    pub ran : RanServe left given take_faults put_faults standard_limits (origin users) (history_of after) end connections left_before left_after returned_before returned_after out_before out_after
    pub good : IsGood after.content.catalogue
    pub finish : Finishes definition end after status given_before given_after

  -- the listener didn't begin, and gave nothing; or it gave connections, which were served
  abbrev pub RanServer : Bool → Status → List (List ℕ) → ℕ → Option (List C) → Option (List C) → Option (List C) → Option (List C) → ℕ → ℕ → Option (List ℕ) → Option (List ℕ) → Type 0
  RanServer definition status users connections left_before left_after returned_before returned_after out_before out_after given_before given_after =
      ((status ≡ ListenFault) × (left_after ≡ left_before) × (returned_after ≡ returned_before) × (out_after ≡ out_before) × (given_after ≡ given_before))
      ⊎ Served definition status users connections left_before left_after returned_before returned_after out_before out_after given_before given_after

-- no call of the source or the sink was made
pub record Untouched {S W : Type 0} (source_before source_after : S) (sink_before sink_after : W) : Type 0 where
  pub source : source_after ≡ source_before
  pub sink : sink_after ≡ sink_before

-- where the words ask for a script, a server or a sample, that ran of the users that they list; where they ask for none the program says so; before any, memory may run out
abbrev pub Ends : List (List ℕ) → Status → Type 0 → (Bool → List (List ℕ) → Type 0) → (Bool → List (List ℕ) → ℕ → Type 0) → (List (List ℕ) → ℕ → ℕ → Type 0) → Type 0
Ends words status untouched ran_script ran_server ran_sample =
    ((users : List (List ℕ)) × (definition : Bool) × Asks words Script users × (IsTrue definition ↔ AsksForDefinition words) × ran_script definition users)
    ⊎ ((users : List (List ℕ)) × (definition : Bool) × (port connections : ℕ) × Asks words (Serve port connections) users × (IsTrue definition ↔ AsksForDefinition words) × ran_server definition users connections)
    ⊎ ((users : List (List ℕ)) × (seed count : ℕ) × Asks words (Sample seed count) users × ran_sample users seed count)
    ⊎ ((status ≡ Usage) × ((command : Command) (users : List (List ℕ)) → ¬ (Asks words command users)) × untouched)
    ⊎ ((status ≡ OutOfMemory) × untouched)

-- over a stream that ends well, where nothing fails, all is done, unless memory runs out
abbrev pub IsDoneOver : Status → Option (List ℕ) → Type 0 → Type 0 → Type 0
IsDoneOver status left read_fault write_fault = (stream : List ℕ) → left ≡ Some stream → IsWellEnded 1073741824 stream → ¬ read_fault → ¬ write_fault → (status ≡ Done) ⊎ (status ≡ OutOfMemory)

-- so is a script
abbrev pub ScriptIsDone : List (List ℕ) → Status → Option (List ℕ) → Type 0 → Type 0 → Type 0
ScriptIsDone words status left read_fault write_fault = (users : List (List ℕ)) → Asks words Script users → IsDoneOver status left read_fault write_fault
