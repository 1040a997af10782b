use Rattle.std.proofs.Common.{List, inl, inr, length, ap, arith, subst}
use Rattle.std.specs.List.{Contains}
use Rattle.cat_items.specs.declared.item.Item.{Item}
use Rattle.cat_items.specs.Batch.{IsJoined}
use Rattle.asked_parts.proofs.GrowthLaws.{none_of_empty, some_of_other}
use Rattle.asked_parts.proofs.growing.put_copies.Goals as goal

pub put_in_all-requires-clause-new : goal.put_in_all-requires-clause-new
put_in_all-requires-clause-new c = λ x y h n e.
    let new = (c.in_ok-new.ensures.chosen.members y).0 n in
    let old : Contains c.args.part.now.items x = subst (λ l. Contains l x) c.reserve.ensures.items h in
    new.1 (subst (Contains c.args.part.now.items) (c.requires.apart x y old new.0 e) old)

pub returns-clause-members : goal.returns-clause-members
returns-clause-members c =
    let joined = subst (λ (l : List Item). IsJoined l c.in_ok-new.new.items c.put_in_all.new.self.items) c.reserve.ensures.items c.put_in_all.ensures.members in
    λ y. (
      λ h. elim ((joined y).0 h) [ inl old ↦ inl old | inr new ↦ inr ((c.in_ok-new.ensures.chosen.members y).0 new).0 ],
      λ h. (joined y).1 (elim h [ inl old ↦ inl old | inr here ↦ c.in_ok-new.ensures.either y here ]),
    )

pub returns-clause-there : goal.returns-clause-there
returns-clause-there c = λ none y h. elim (c.in_ok-new.ensures.either y h) [
  | inl old ↦ old
  | inr new ↦ absurd (omega (arith, none_of_empty _ c.is_empty-more.result c.is_empty-more.ensures none, new.1, c.in_ok-new.new.ok))
]

pub returns-clause-more : goal.returns-clause-more
returns-clause-more c = λ some. omega (arith, some_of_other _ c.is_empty-more.result c.is_empty-more.ensures some, c.put_in_all.ensures.len, ap length c.reserve.ensures.items)
