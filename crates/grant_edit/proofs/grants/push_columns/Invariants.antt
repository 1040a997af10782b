use Rattle.std.proofs.Common.{◌≡◌, ◌⊎◌, ◌↔◌}
use Rattle.std.specs.List.{Contains}
use Rattle.cat_items.specs.declared.need.Need.{Need}
use Rattle.grant_edit.proofs.GrantLemmas.{FromPlaces}
use Rattle.grant_edit.proofs.grants.push_columns.Given as goal

abbrev pub invariant-loop-at : goal.invariant-loop-at
invariant-loop-at l = record {
  room : l.walk ≡ l.initial.walk;
  members : (need : Need) → Contains l.needs.items need ↔ (Contains l.initial.needs.items need ⊎ FromPlaces l.c.items l.grantor l.object l.action l.initial.at l.at need);
}
