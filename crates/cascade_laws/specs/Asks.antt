-- Which topics are asked for the items that an item's support can depend on, where l has the schemas, views, columns and role authorizations.
use Rattle.std.specs.Prelude.{◌≡◌, ◌⊎◌, ℕ, List, [], ◌∷◌}
use Rattle.cat_items.specs.declared.need.Auth.{Auth}
use Rattle.cat_items.specs.declared.need.Auth.TheVariants.{Named}
use Rattle.cat_items.specs.declared.need.Need.{Need}
use Rattle.cat_items.specs.declared.item.Right.{Right}
use Rattle.cat_items.specs.declared.item.Item.{Item}
use Rattle.cat_items.specs.declared.item.Item.TheVariants as item
use Rattle.cat_items.specs.Reach.{Reaches}
use Rattle.cat_items.specs.Relevant.{IsActor, IsNeedOf}
use Rattle.cascade_laws.specs.Concerns.{Seeks}
use Rattle.cascade_laws.specs.Topics.{Topic, schema, supply, edges, admins, IsAuthTopic, IsNeedTopic, IsNameTopic, IsOptionTopic, IsGrantOf}

abbrev pub IsFirstTopic : List (List ℕ) → Topic → Type 0
IsFirstTopic [] t = ⊥
IsFirstTopic (name ∷ names) t = t ≡ schema name

abbrev pub IsFarRightTopic : Right → Topic → Type 0
IsFarRightTopic r t = IsFirstTopic r.need.on t ⊎ (IsAuthTopic r.grantee t ⊎ IsAuthTopic r.grantor t)

-- what the item names, and depends on by way of its table or object
abbrev pub IsFarTopic : Item → Topic → Type 0
IsFarTopic (item.Column c) t = t ≡ schema c.table.schema
IsFarTopic (item.Held r) t = IsFarRightTopic r t
IsFarTopic (item.Grantable r) t = IsFarRightTopic r t
IsFarTopic x t = ⊥

pub data Asks (l : List Item) (x : Item) (t : Topic) : Type 0 where
  by_name : IsNameTopic x t → Asks l x t
  by_far : IsFarTopic x t → Asks l x t
  by_option : IsOptionTopic x t → Asks l x t
  of_need : (need : Need) → IsNeedOf l x need → IsNeedTopic need t → Asks l x t
  of_supply : (need : Need) (a g : Auth) → IsNeedOf l x need → IsActor l x a → Reaches l a g → t ≡ supply need g → Asks l x t
  of_edges : (a : Auth) (name : List ℕ) → Seeks l x a → Reaches l a (Named name) → t ≡ edges name → Asks l x t
  of_admins : (a : Auth) (role name : List ℕ) → IsGrantOf role x → IsActor l x a → Reaches l a (Named name) → t ≡ admins role name → Asks l x t
