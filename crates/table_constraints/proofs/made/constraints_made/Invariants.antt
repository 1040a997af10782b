use Rattle.std.proofs.Common.{◌↔◌, take}
use Rattle.std.specs.List.{Any, Contains}
use Rattle.cat_items.specs.declared.item.Item.{Item}
use Rattle.table_constraints.specs.Made.{MakesConstraint}
use Rattle.table_constraints.specs.Rules.{IsUnbound}
use Rattle.table_constraints.proofs.made.constraints_made.Given as goal

abbrev pub invariant-loop-at : goal.invariant-loop-at
invariant-loop-at l = record {
  bound : Any (IsUnbound l.c.items l.who l.w) (take l.at l.named) → ⊥;
  made : (x : Item) → Contains l.all x ↔ Any (MakesConstraint l.c.items l.who l.w x) (take l.at l.named);
}
