use Rattle.std.proofs.Common.{◌≡◌, take}
use Rattle.std.specs.Option.{option_copied}
use Rattle.edit_rules.specs.Privileges.{IsLeastUnmet}
use Rattle.edit_rules.proofs.privileges.least_unmet.Given as goal

abbrev pub invariant-loop-need : goal.invariant-loop-need
invariant-loop-need l = record {
  room : l.walk ≡ l.initial.walk;
  least : IsLeastUnmet l.c.items l.owner (take l.need-index l.needs) (option_copied l.least);
}
