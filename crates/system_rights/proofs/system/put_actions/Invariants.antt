use Rattle.std.specs.Option.{option_copied}
use Rattle.system_rights.specs.Layers.{IsAdded, IsToOwner}
use Rattle.system_rights.proofs.Rows.{IsOneAction}
use Rattle.system_rights.proofs.Added.{OfSome}
use Rattle.system_rights.proofs.system.put_actions.Given as goal

abbrev pub invariant-loop-action : goal.invariant-loop-action
invariant-loop-action l = record {
  added : IsAdded l.initial.rights.items l.rights.items (OfSome l.actions 0 l.action-index (λ a. IsToOwner l.owner (IsOneAction l.on (option_copied l.column) a)));
}
