use Rattle.std.proofs.Common.{◌≡◌, count_by, take}
use Rattle.sample_runs.specs.Kinds.{is_of}
use Rattle.sample_runs.proofs.kinds.count_of.Given as goal

abbrev pub invariant-loop-reply : goal.invariant-loop-reply
invariant-loop-reply l = l.count ≡ count_by (is_of l.kind) (take l.reply-index l.replies)
