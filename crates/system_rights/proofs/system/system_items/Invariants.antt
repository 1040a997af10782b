use Rattle.std.proofs.Common.{[]}
use Rattle.system_rights.specs.Layers.{IsAdded, IsSystemRightOn}
use Rattle.system_rights.proofs.Added.{OfSome}
use Rattle.system_rights.proofs.system.system_items.Given as goal

abbrev pub invariant-loop-x : goal.invariant-loop-x
invariant-loop-x l = record {
  added : IsAdded [] l.rights.items (OfSome l.c.items 0 l.x-index (IsSystemRightOn l.c.items));
}
