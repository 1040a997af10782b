use Rattle.std.proofs.Common.{List, subst, sym}
use Rattle.std.specs.List.{Contains}
use Rattle.cat_items.specs.declared.item.Item.{Item}
use Rattle.asked_parts.proofs.UnderLaws.{flipped}
use Rattle.edit_parts.proofs.LeftLaws.{both_merged}
use Rattle.edit_parts.proofs.whole.with_kept.Goals as goal

pub merged-requires-clause-known : goal.merged-requires-clause-known
merged-requires-clause-known c =
    λ x y h k e. sym (c.requires y x (subst (λ (l : List Item). Contains l y) c.items-2.ensures.items k) (subst (λ (l : List Item). Contains l x) c.items.ensures.items h) (flipped x y e))

pub returns-clause-members : goal.returns-clause-members
returns-clause-members c = both_merged c.args.some.now.items c.args.kept.now.items c.in_ok-part.part.items (rw (c.items.ensures.items, c.items-2.ensures.items) at c.in_ok-part.ensures.members)
