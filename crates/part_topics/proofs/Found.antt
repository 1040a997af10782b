-- What was found of a part tells the topics of its suspects, and which rights the system could grant among them.
use Rattle.std.proofs.Common.{◌≡◌, ◌⊎◌, inl, inr, Bool, true, List}
use Rattle.std.specs.Prelude.{◌↔◌}
use Rattle.std.specs.List.{Contains}
use Rattle.std.proofs.lemmas.Bool.{both_ways}
use Rattle.finite_chains.specs.Chains.{IsWithin}
use Rattle.cat_items.specs.declared.edit.Edit.{Edit}
use Rattle.cat_items.specs.declared.item.Item.{Item}
use Rattle.cat_items.specs.declared.item.Item.TheVariants as item
use Rattle.cat_items.specs.Fit.{IsFit, IsRight}
use Rattle.cat_items.specs.Survivors.{IsSystemRight, IsWithSystem}
use Rattle.cascade_laws.specs.Asks.{Asks}
use Rattle.cascade_laws.specs.Concerns.{Concerns, named}
use Rattle.cascade_laws.specs.Found.{IsFound}
use Rattle.cascade_laws.specs.Spreading.{IsSpread}
use Rattle.cascade_laws.specs.Topics.{DependsOn, IsUnder, Topic}
use Rattle.cascade_laws.proofs.Gathers.{gathered_all}
use Rattle.cascade_laws.proofs.Kept.{possible_among, possible_moved}
use Rattle.part_topics.specs.Whole.{HasAllFor, IsWholePart}
use Rattle.part_topics.proofs.Kept.{depends_kept}
use Rattle.part_topics.proofs.More.{asks_more, depends_more}

right_is : (c : List Item) (x : Item) → IsSystemRight c x → IsRight x
right_is c (item.Held r) is = tt
right_is c (item.Grantable r) is = tt
right_is c _ is = absurd is

module _ (c f part found standing : List Item) (suspect : Item → Bool) (is_found : IsFound c f suspect part found standing) where
  found_stands : IsWithin found standing
  found_stands x h = (is_found.members x).1 (inl h)

  suspect_found : (x : Item) → suspect x ≡ true → Contains standing x → Contains found x
  suspect_found x is h = elim ((is_found.members x).0 h) [ inl here ↦ here | inr old ↦ absurd (both_ways (suspect x) old.1 is) ]

  pub stands_alike : (x : Item) → suspect x ≡ true → Contains found x ↔ Contains standing x
  stands_alike x is = (found_stands x, suspect_found x is)

  -- what stands under a topic that is asked for was found
  under_found : (x : Item) → HasAllFor c suspect part x → (y : Item) (t : Topic) → Contains standing y → Asks found x t → IsUnder t y → Contains found y
  under_found x all_for y t h asks is =
      elim ((is_found.members y).0 h) [
        | inl here ↦ here
        | inr old ↦ is_found.clear y (all_for y t old.0 old.1 (asks_more found part is_found.found_part x t asks) is) old.1 old.0
      ]

  concerned : (x : Item) → HasAllFor c suspect part x → (y : Item) → Contains standing y → Concerns standing y x → Contains found y
  concerned x all_for y h is = gathered_all standing found x (λ z. Unit {0}) (λ z hz other. tt) (λ z t hz counts asks under. under_found x all_for z t hz asks under) y h tt is

  pub topics_of_asked : (x : Item) → HasAllFor c suspect part x → (t : Topic) → DependsOn found x t ↔ DependsOn standing x t
  topics_of_asked x all_for t = (depends_more found standing found_stands x t, depends_kept standing found x (concerned x all_for) t)

  pub topics_of_standing : (x : Item) → Contains standing x → suspect x ≡ true → (t : Topic) → DependsOn found x t ↔ DependsOn standing x t
  topics_of_standing x h is =
      let here = suspect_found x is h in
      elim (is_found.asked x (is_found.found_part x here) is) [
        | inl never ↦ absurd (never (is_found.sound x here))
        | inr all_for ↦ topics_of_asked x all_for
      ]

  pub right_of_asked : (x : Item) → HasAllFor c suspect part x → IsSystemRight found x ↔ IsSystemRight standing x
  right_of_asked x all_for = (
    possible_among found standing x (λ y h other. found_stands y h),
    possible_moved standing found x (λ y h is. concerned x all_for y h (named is)),
  )

  -- ---- rights that the system could grant for what stands are in the part

  module _ (all edited : List Item) (edit : Edit) (fit : IsFit c edit edited) (with_f : IsWithSystem edited f) (spread : IsSpread c all edit f suspect) where
    standing_edited : (y : Item) → Contains standing y → (¬ (IsRight y)) → Contains edited y
    standing_edited y h other =
        elim ((is_found.members y).0 h) [
          | inl here ↦ (elim ((with_f.members y).0 (is_found.within y (is_found.found_part y here))) [ inl is ↦ is | inr right ↦ absurd (other (right_is edited y right)) ])
          | inr old ↦ (fit.is_edited.members y).1 (inl (old.0, (λ gone. both_ways (suspect y) old.1 (spread.target y gone)), (λ gone. both_ways (suspect y) old.1 (spread.changed y gone))))
        ]

    right_in_part : (x : Item) → suspect x ≡ true → IsSystemRight standing x → Contains part x
    right_in_part x is right = is_found.suspects x ((with_f.members x).1 (inr (possible_among standing edited x standing_edited right))) is

    module _ (whole : IsWholePart c suspect part) where
      pub rights_alike : (x : Item) → suspect x ≡ true → IsSystemRight found x ↔ IsSystemRight standing x
      rights_alike x is = (
        possible_among found standing x (λ y h other. found_stands y h),
        λ right. (right_of_asked x (whole x (right_in_part x is right) is)).1 right,
      )

      pub topics_alike : (x : Item) → suspect x ≡ true → Contains standing x ⊎ IsSystemRight standing x → (t : Topic) → DependsOn found x t ↔ DependsOn standing x t
      topics_alike x is (inl h) = topics_of_standing x h is
      topics_alike x is (inr right) = topics_of_asked x (whole x (right_in_part x is right) is)

pub rights_alike_in : (c all edited f part found standing : List Item) (edit : Edit) (suspect : Item → Bool) → IsFit c edit edited → IsWithSystem edited f → IsSpread c all edit f suspect → IsFound c f suspect part found standing → IsWholePart c suspect part
    → (x : Item) → suspect x ≡ true → IsSystemRight found x ↔ IsSystemRight standing x
rights_alike_in c all edited f part found standing edit suspect fit with_f spread is_found whole = rights_alike c f part found standing suspect is_found all edited edit fit with_f spread whole

pub topics_alike_in : (c all edited f part found standing : List Item) (edit : Edit) (suspect : Item → Bool) → IsFit c edit edited → IsWithSystem edited f → IsSpread c all edit f suspect → IsFound c f suspect part found standing → IsWholePart c suspect part
    → (x : Item) → suspect x ≡ true → Contains standing x ⊎ IsSystemRight standing x → (t : Topic) → DependsOn found x t ↔ DependsOn standing x t
topics_alike_in c all edited f part found standing edit suspect fit with_f spread is_found whole = topics_alike c f part found standing suspect is_found all edited edit fit with_f spread whole
