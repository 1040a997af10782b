use Rattle.system_rights.specs.Layers.{IsAdded, IsToOwner, IsColumnAction}
use Rattle.system_rights.proofs.Added.{OfSome}
use Rattle.system_rights.proofs.system.put_columns.Given as goal

abbrev pub invariant-loop-at : goal.invariant-loop-at
invariant-loop-at l = record {
  added : IsAdded l.initial.rights.items l.rights.items (OfSome l.c.items l.initial.at l.at (λ x. IsToOwner l.owner (λ need. IsColumnAction l.actions l.on need x)));
}
