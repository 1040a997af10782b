-- Kinds of replies.
use Rattle.std.specs.Prelude.{Bool, true, false}
use Rattle.sessions.specs.Reply.{Reply}
use Rattle.sessions.specs.Reply.TheVariants.{Ok, Warn, Rows, Refused, JournalFull}
use Rattle.sample_runs.specs.declared.kinds.Kind.{Kind}
use Rattle.sample_runs.specs.declared.kinds.Kind.TheVariants as kinds

-- a full journal is told as a refusal is
unfoldable pub is_of : Kind → Reply → Bool
is_of kinds.Ok Ok = true
is_of kinds.Warn (Warn warning) = true
is_of kinds.Rows (Rows found) = true
is_of kinds.Err (Refused refusal) = true
is_of kinds.Err (JournalFull held) = true
is_of kind reply = false
