-- How a sample may end.
use Rattle.std.specs.Prelude.{◌≡◌, ℕ, List, Option, length}
use Rattle.cat_items.specs.Good.{IsGood}
use Rattle.cat_items.specs.declared.limits.Limits.{Limits}
use Rattle.sessions.specs.Contents.{State}
use Rattle.sessions.specs.Histories.{IsOpening}
use Rattle.sessions.specs.EngineRuns.{missed}
use Rattle.sessions.specs.Reply.{Reply}
use Rattle.sample_texts.specs.Sample.{sample_texts}
use Rattle.sessions.specs.Calls.{IsApplied}
use Rattle.sessions.specs.Runs.{Run}
use Rattle.sessions.specs.declared.status.Status.{Status}
use Rattle.sessions.specs.declared.status.Status.TheVariants.{Done, WriteFault, OutOfMemory}
use Rattle.svc_io.specs.Bytes.{Got, GotFront}
use Rattle.sample_runs.specs.Summary.{summary}

-- the limits of the program
abbrev pub standard_limits : Limits
standard_limits = record { items = 200000; columns = 1000; journal = 268435456; stream = 1073741824 }

-- the statements of the sample ran one after the other from the opening of these users, for none of them memory ran out, and this is their summary
pub record IsSummary (users : List (List ℕ)) (seed count : ℕ) (text : List ℕ) : Type 0 where
  pub before : State
  pub opening : IsOpening users standard_limits before
  pub replies : List Reply
  pub after : State
  pub run : Run IsApplied before (sample_texts users seed count) replies after
  pub enough : missed replies ≡ 0
  pub good : IsGood after.content.catalogue
  pub text_is : text ≡ summary replies (length after.content.catalogue)

-- the summary was written, or a front of it, or nothing, since memory ran out before
abbrev pub Sampled : List (List ℕ) → ℕ → ℕ → Status → Option (List ℕ) → Option (List ℕ) → Type 0
Sampled users seed count Done old new = (text : List ℕ) × IsSummary users seed count text × Got old text new
Sampled users seed count WriteFault old new = (text : List ℕ) × IsSummary users seed count text × GotFront old text new
Sampled users seed count OutOfMemory old new = new ≡ old
Sampled users seed count status old new = ⊥
