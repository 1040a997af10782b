-- What an edit does beyond what it says.
use Rattle.std.proofs.Common.{inl, inr, true, false, List}
use Rattle.std.specs.List.{Contains}
use Rattle.cat_items.specs.declared.edit.Edit.{Edit}
use Rattle.cat_items.specs.declared.item.Item.{Item}
use Rattle.edit_rules.specs.Chosen.{AreChosen}
use Rattle.catalogue_changes.specs.Effects.{AreFallen, AreGained, AreLost}
use Rattle.item_lists.specs.Walks.{StandsAs}
use Rattle.revoke_cascade.specs.Effects.{AreGainedOf, AreLostOf}
use Rattle.revoke_cascade.specs.Prepared.{Tells}

-- ---- what is chosen in turn

pub lost_in_turn : (old beside left lost found : List Item) (edit : Edit) → AreChosen old (StandsAs false edit.target) beside → AreChosen beside (StandsAs false edit.changed) left → AreChosen left (StandsAs false found) lost → AreLostOf old edit found lost
lost_in_turn old beside left lost found edit one two three = record {
  order = three.order;
  members = λ x. (
    λ h. let c = (three.members x).0 h in let b = (two.members x).0 c.0 in let a = (one.members x).0 b.0 in (a.0, (a.1, b.1, c.1)),
    λ h. (three.members x).1 ((two.members x).1 ((one.members x).1 (h.0, h.1.0), h.1.1), h.1.2),
  );
}

pub gained_in_turn : (suspects new standing gained old found : List Item) (edit : Edit) → AreChosen suspects (StandsAs false old) new → AreChosen new (StandsAs true found) standing → AreChosen standing (StandsAs false edit.added) gained
    → AreGainedOf suspects old edit found gained
gained_in_turn suspects new standing gained old found edit one two three = record {
  order = three.order;
  members = λ x. (
    λ h. let c = (three.members x).0 h in let b = (two.members x).0 c.0 in let a = (one.members x).0 b.0 in (a.0, (b.1, a.1, c.1)),
    λ h. (three.members x).1 ((two.members x).1 ((one.members x).1 (h.0, h.1.1), h.1.0), h.1.2),
  );
}

-- ---- what is told of the new catalogue

module _ (c : List Item) (edit : Edit) (suspects found new : List Item) (tells : Tells c edit suspects found new) where
  -- a suspect stands exactly where it was found
  stands_found : (x : Item) → Contains suspects x → Contains new x → Contains found x
  stands_found x suspect h = elim ((tells.has x).0 h) [
    | inl was ↦ was
    | inr old ↦ absurd (old.3 suspect)
  ]

  found_stands : (x : Item) → Contains found x → Contains new x
  found_stands x h = (tells.has x).1 (inl h)

  pub lost_are : (old lost : List Item) → AreChosen suspects (StandsAs true c) old → AreLostOf old edit found lost → AreLost c edit new lost
  lost_are old lost olds are = record {
    order = are.order;
    members = λ x. (
      λ h.
          let is = (are.members x).0 h in
          let was = (olds.members x).0 is.0 in
          (was.1, is.1.0, is.1.1, λ there. is.1.2 (stands_found x was.0 there)),
      λ h. elim (tells.left x h.0 h.1 h.2) [
        | inl suspect ↦ (are.members x).1 ((olds.members x).1 (suspect, h.0), (h.1, h.2, λ was. h.3 (found_stands x was)))
        | inr there ↦ absurd (h.3 there)
      ],
    );
  }

  pub gained_are : (old gained : List Item) → AreChosen suspects (StandsAs true c) old → AreGainedOf suspects old edit found gained → AreGained c edit new gained
  gained_are old gained olds are = record {
    order = are.order;
    members = λ x. (
      λ h.
          let is = (are.members x).0 h in
          (found_stands x is.1.0, (λ was. is.1.1 ((olds.members x).1 (is.0, was))), is.1.2),
      λ h. elim ((tells.has x).0 h.0) [
        | inl was ↦ elim (tells.only x was) [
          | inl suspect ↦ (are.members x).1 (suspect, (was, (λ there. h.1 ((olds.members x).0 there).1), h.2))
          | inr there ↦ absurd (h.1 there)
        ]
        | inr there ↦ absurd (h.1 there.0)
      ],
    );
  }

  pub fallen_are : (fallen : List Item) → AreChosen edit.added (StandsAs false found) fallen → AreFallen edit new fallen
  fallen_are fallen are = record {
    order = are.order;
    members = λ x. (
      λ h. let is = (are.members x).0 h in (is.0, λ there. is.1 (stands_found x (tells.added x is.0) there)),
      λ h. (are.members x).1 (h.0, λ was. h.1 (found_stands x was)),
    );
  }
