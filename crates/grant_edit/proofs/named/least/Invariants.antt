use Rattle.std.proofs.Common.{take}
use Rattle.std.specs.Option.{option_copied}
use Rattle.grant_edit.specs.Named.{IsLeastOf}
use Rattle.grant_edit.proofs.named.least.Given as goal

abbrev pub invariant-loop-need : goal.invariant-loop-need
invariant-loop-need l = IsLeastOf (take l.need-index l.needs.items) (option_copied l.least)
