-- What is found in lists in order, and keys.
use Rattle.std.proofs.Common.{◌≡◌, ◌⊎◌, inl, inr, List, Option, Some, None, refl, sym, subst, ap}
use Rattle.std.specs.List.{Contains}
use Rattle.cat_items.specs.declared.item.Item.{Item}
use Rattle.cat_items.specs.declared.item.Item.TheVariants as item
use Rattle.cat_items.specs.Relevant.{IsOptionOn}
use Rattle.cat_items.specs.Supported.{IsHeld, IsRoleAuth}
use Rattle.cat_items.specs.declared.item.Right.{Right}
use Rattle.cat_items.specs.declared.item.RoleGrant.{RoleGrant}
use Rattle.cascade_laws.specs.Topics.{Topic, IsOptionTopic, IsUnder, held, role_auth}
use Rattle.board_graph.specs.BoardKeys.{IsKeyOf, ghost_key, of_item, of_possible}
use Rattle.board_plans.specs.Planning.{IsAddedTo}
use Rattle.edit_arrivals.specs.Steps.{AreSystemRights, IsTheOne}

some_is : (x y : Item) → Some x ≡ Some y → x ≡ y
some_is x y e = cc

pub none_is : (y : Item) → None ≡ Some y → ⊥
none_is y e = cc

-- ---- keys

pub own_key : (found : List Item) (x : Item) → Contains found x → IsTheOne (IsKeyOf found x) (Some x)
own_key found x h k = (λ e. of_item h (sym (some_is x k e)), by)
  where
    by : IsKeyOf found x k → Some x ≡ Some k
    by (of_item here e) = ap Some (sym e)
    by (of_possible right none e) = absurd (none h)

pub ghost_is : (found rights : List Item) (x : Item) → AreSystemRights found rights → ¬ (Contains found x) → Contains rights x → IsTheOne (IsKeyOf found x) (Some (ghost_key x))
ghost_is found rights x are none h k = (λ e. of_possible ((are.members x).0 h) none (sym (some_is (ghost_key x) k e)), by)
  where
    by : IsKeyOf found x k → Some (ghost_key x) ≡ Some k
    by (of_item here e) = absurd (none here)
    by (of_possible right other e) = ap Some (sym e)

pub no_key_is : (found rights : List Item) (x : Item) → AreSystemRights found rights → ¬ (Contains found x) → ¬ (Contains rights x) → IsTheOne (IsKeyOf found x) None
no_key_is found rights x are none no_right k = (λ e. absurd (none_is k e), by)
  where
    by : IsKeyOf found x k → None ≡ Some k
    by (of_item here e) = absurd (none here)
    by (of_possible right other e) = absurd (no_right ((are.members x).1 right))

-- ---- options

pub held_option : (r : Right) → IsTheOne (IsHeld r) (Some (item.Held r))
held_option r y = (λ e. subst (IsHeld r) (some_is (item.Held r) y e) refl, by y)
  where
    by : (y : Item) → IsHeld r y → Some (item.Held r) ≡ Some y
    by (item.Held other) e = ap (λ r. Some (item.Held r)) (sym e)
    by _ e = absurd e

pub role_option : (g : RoleGrant) → IsTheOne (IsRoleAuth g) (Some (item.RoleAuth g))
role_option g y = (λ e. subst (IsRoleAuth g) (some_is (item.RoleAuth g) y e) refl, by y)
  where
    by : (y : Item) → IsRoleAuth g y → Some (item.RoleAuth g) ≡ Some y
    by (item.RoleAuth other) e = ap (λ g. Some (item.RoleAuth g)) (sym e)
    by _ e = absurd e

pub no_option : (P : Item → Type 0) → ((y : Item) → ¬ (P y)) → IsTheOne P None
no_option P none y = (λ e. absurd (none_is y e), λ p. absurd (none y p))

-- which items are options, and what they add to
pub option_is : (x y : Item) → IsOptionOn x y → ((r : Right) × (x ≡ item.Grantable r) × (y ≡ item.Held r)) ⊎ ((g : RoleGrant) × (x ≡ item.RoleAdmin g) × (y ≡ item.RoleAuth g))
option_is (item.Grantable r) y is = inl (r, refl, sym (some_is (item.Held r) y ((held_option r y).1 is)))
option_is (item.RoleAdmin g) y is = inr (g, refl, sym (some_is (item.RoleAuth g) y ((role_option g y).1 is)))
option_is _ y is = absurd is

-- an option adds to what stands under its topic
option_topic : (x y : Item) → IsOptionOn x y → (t : Topic) × IsOptionTopic x t × IsUnder t y
option_topic (item.Grantable r) y is = (held r, refl, is)
option_topic (item.RoleAdmin g) y is = (role_auth g, refl, is)
option_topic _ y is = absurd is

topic_option : (x y : Item) (t : Topic) → IsOptionTopic x t → IsUnder t y → IsOptionOn x y
topic_option (item.Grantable r) y t e under = subst (λ t. IsUnder t y) e under
topic_option (item.RoleAdmin g) y t e under = subst (λ t. IsUnder t y) e under
topic_option _ y t e under = absurd e

-- what has no option adds to nothing
pub adds_to_none : (found : List Item) (x : Item) → IsTheOne (IsOptionOn x) None → IsTheOne (IsAddedTo found x) None
adds_to_none found x is k = (λ e. absurd (none_is k e), λ a. absurd (none_is a.0 ((is a.0).1 (topic_option x a.0 a.1 a.3 a.4))))

-- an option adds to the one that has the key
pub adds_to_key : (found : List Item) (x y : Item) (key : Option Item) → IsTheOne (IsOptionOn x) (Some y) → IsTheOne (IsKeyOf found y) key → IsTheOne (IsAddedTo found x) key
adds_to_key found x y key is keyed k = (
  λ e. let t = option_topic x y ((is y).0 refl) in (y, t.0, (keyed k).0 e, t.1, t.2),
  λ a.
      let same : y ≡ a.0 = some_is y a.0 ((is a.0).1 (topic_option x a.0 a.1 a.3 a.4)) in
      (keyed k).1 (subst (λ z. IsKeyOf found z k) (sym same) a.2),
)
