-- Edits that fit a catalogue.
use Rattle.std.proofs.Common.{◌≡◌, ◌≢◌, List, [], refl, arith}
use Rattle.std.specs.List.{Contains}
use Rattle.std.specs.declared.cmp.Ordering.TheVariants.{Equal}
use Rattle.finite_chains.specs.Chains.{IsWithin}
use Rattle.finite_chains.proofs.Members.{Contains-nil}
use Rattle.cat_items.specs.declared.need.Auth.{Auth}
use Rattle.cat_items.specs.declared.need.Auth.TheVariants.{System, Public, Named}
use Rattle.cat_items.specs.declared.item.Right.{Right}
use Rattle.cat_items.specs.declared.item.Item.{Item}
use Rattle.cat_items.specs.declared.item.Item.TheVariants as item
use Rattle.cat_items.specs.Order.{item_cmp}
use Rattle.cat_items.specs.Catalogues.{IsInOrder}
use Rattle.cat_items.specs.Edits.{IsEdited}
use Rattle.cat_items.specs.Fit.{IsFit, LacksPart, LacksPartBy, IsSystemRightGone, HasNewKey}
use Rattle.cat_items.specs.Shape.{HasDerivedFields}
use Rattle.edit_laws.specs.Kinds.{adding, taking, IsBySystem}
use Rattle.edit_laws.proofs.EditedLists.{edited_list}

pub no_items_in_order : IsInOrder []
no_items_in_order i j d low high = absurd (omega (arith, high))

none_within : (c : List Item) → IsWithin [] c
none_within c x h = absurd (Contains-nil x h)

-- items with keys of their own can be added
pub fit_of_adding : (c added : List Item) → IsInOrder c → IsInOrder added
    → ((x y : Item) → Contains added x → Contains c y → item_cmp x y ≡ Equal → x ≡ y)
    → ((x : Item) → Contains added x → HasNewKey c x)
    → ((x : Item) → Contains added x → HasDerivedFields x)
    → (edited : List Item) × IsFit c (adding added) edited
fit_of_adding c added order added_order own new derived =
    let all = edited_list c (adding added) order added_order (none_within c) (none_within c) (λ x y h k e. own x y h k.0 e) in (
      all.0,
      record {
        target_order = no_items_in_order;
        target = none_within c;
        changed_order = no_items_in_order;
        changed = none_within c;
        added_order = added_order;
        apart = λ x h. absurd (Contains-nil x h);
        gone = λ x h. absurd (Contains-nil x h);
        is_edited = all.1;
        new_keys = new;
        derived = derived;
      },
    )

-- what is left where items of the catalogue are destroyed
pub edited_of_taking : (c target : List Item) → IsInOrder c → IsWithin target c → (edited : List Item) × IsEdited c (taking target) edited
edited_of_taking c target order within = edited_list c (taking target) order no_items_in_order within (none_within c) (λ x y h k e. absurd (Contains-nil x h))

-- items of the catalogue can be destroyed, where each right by the system among them lacks a part
pub fit_of_taking : (c target edited : List Item) → IsInOrder target → IsWithin target c → IsEdited c (taking target) edited
    → ((x : Item) → Contains target x → IsSystemRightGone edited x)
    → IsFit c (taking target) edited
fit_of_taking c target edited order within is gone = record {
  target_order = order;
  target = within;
  changed_order = no_items_in_order;
  changed = none_within c;
  added_order = no_items_in_order;
  apart = λ x h. absurd (Contains-nil x h);
  gone = gone;
  is_edited = is;
  new_keys = λ x h. absurd (Contains-nil x h);
  derived = λ x h. absurd (Contains-nil x h);
}

-- ---- rights that are gone

by_another : (grantor : Auth) (s : List Item) (r : Right) → grantor ≢ System → LacksPartBy grantor s r
by_another System s r other = absurd (other refl)
by_another Public s r other = tt
by_another (Named name) s r other = tt

by_any : (grantor : Auth) (s : List Item) (r : Right) → LacksPart s r → LacksPartBy grantor s r
by_any System s r lacks = lacks
by_any Public s r lacks = tt
by_any (Named name) s r lacks = tt

-- an item that is no right by the system
pub gone_without_system : (s : List Item) (x : Item) → ¬ (IsBySystem x) → IsSystemRightGone s x
gone_without_system s (item.Held r) other = by_another r.grantor s r other
gone_without_system s (item.Grantable r) other = by_another r.grantor s r other
gone_without_system s (item.User n) other = tt
gone_without_system s (item.Role n) other = tt
gone_without_system s (item.Schema x) other = tt
gone_without_system s (item.Table t) other = tt
gone_without_system s (item.View v) other = tt
gone_without_system s (item.Column x) other = tt
gone_without_system s (item.Domain d) other = tt
gone_without_system s (item.DomainCheck d) other = tt
gone_without_system s (item.Key k) other = tt
gone_without_system s (item.Foreign f) other = tt
gone_without_system s (item.Check x) other = tt
gone_without_system s (item.Assertion a) other = tt
gone_without_system s (item.Routine r) other = tt
gone_without_system s (item.RoleAuth g) other = tt
gone_without_system s (item.RoleAdmin g) other = tt

-- a right, held or with grant option, that lacks a part
pub held_gone : (s : List Item) (r : Right) → LacksPart s r → IsSystemRightGone s (item.Held r)
held_gone s r lacks = by_any r.grantor s r lacks

pub grantable_gone : (s : List Item) (r : Right) → LacksPart s r → IsSystemRightGone s (item.Grantable r)
grantable_gone s r lacks = by_any r.grantor s r lacks
