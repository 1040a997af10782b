-- Options by what they let grant, and to whom.
use Rattle.std.specs.Prelude.{◌≡◌, ◌<◌, ◌⊎◌, ℕ, Bool, true, false, List, All, Contains, length, slice_index_or}
use Rattle.std.specs.List.Sorted.{IsPartitionPoint, IsSortedBy}
use Rattle.std.specs.Ordering.{is_lt}
use Rattle.std.specs.declared.cmp.Ordering.{Ordering}
use Rattle.cat_items.specs.declared.need.Auth.{Auth}
use Rattle.cat_items.specs.declared.need.Auth.TheVariants.{System, Public}
use Rattle.cat_items.specs.declared.item.Item.{Item}
use Rattle.cat_items.specs.declared.item.Item.TheVariants as item
use Rattle.cat_items.specs.Order.{item_cmp}
use Rattle.role_graph.specs.Actors.{auth_of}
use Rattle.part_rounds.specs.declared.grantees.GrantOption.{GrantOption}
use Rattle.part_rounds.specs.declared.grantees.Title.{Title}
use Rattle.part_rounds.specs.declared.grantees.Title.TheVariants.{Role, Right}
use Rattle.part_rounds.specs.declared.grants.Grant.{Grant}
use Rattle.part_rounds.specs.declared.grants.Grant.TheVariants as grant
use Rattle.part_rounds.specs.Grants.{IsOptionTo}

-- the option as if the system had granted it
abbrev pub unsigned : Item → Item
unsigned (item.RoleAdmin g) = item.RoleAdmin (record { role = g.role; grantor = System; grantee = g.grantee })
unsigned (item.Grantable r) = item.Grantable (record { need = r.need; grantor = System; grantee = r.grantee })
unsigned x = x

-- the option of a title, as if the system had granted it
abbrev pub titled : Title → Item
titled (Role role to) = item.RoleAdmin (record { role = role.now; grantor = System; grantee = to.now })
titled (Right need to) = item.Grantable (record { need = need.now; grantor = System; grantee = auth_of to })

-- an option of this title, whoever granted it
abbrev pub IsTitled : Title → Item → Type 0
IsTitled t x = unsigned x ≡ titled t

abbrev pub title_cmp : Title → Title → Ordering
title_cmp a b = item_cmp (titled a) (titled b)

abbrev pub IsOption : Item → Type 0
IsOption (item.RoleAdmin g) = Unit {0}
IsOption (item.Grantable r) = Unit {0}
IsOption x = ⊥

-- what stands at its place has its title
abbrev pub IsOptionAt : List Item → GrantOption → Type 0
IsOptionAt items o = (o.at < length items) × ((d : Item) → IsTitled o.title (slice_index_or items o.at d))

abbrev pub HasOptionAt : List GrantOption → ℕ → Type 0
HasOptionAt options k = (o : GrantOption) × Contains options o × (o.at ≡ k)

-- options of the list at their places, among them each that stands before a place
pub record AreOptionsBelow (items : List Item) (options : List GrantOption) (below : ℕ) : Type 0 where
  pub there : All (IsOptionAt items) options
  pub all : (k : ℕ) (x : Item) → k < below → slice_index_or items k x ≡ x → IsOption x → HasOptionAt options k

-- the options of a list
abbrev pub AreOptions : List Item → List GrantOption → Type 0
AreOptions items options = AreOptionsBelow items options (length items)

abbrev pub AreByTitle : List GrantOption → Type 0
AreByTitle options = IsSortedBy (λ a b. is_lt (title_cmp a.title b.title)) options

-- the options before a place come before those of a title, and the others don't
abbrev pub StartsAt : List GrantOption → Item → ℕ → Type 0
StartsAt options x start = IsPartitionPoint (λ o. is_lt (item_cmp (titled o.title) x) ≡ true) (λ o. is_lt (item_cmp (titled o.title) x) ≡ false) options start

-- the same of those to PUBLIC that let grant the same, where it is a right
abbrev pub IsStartFor : Grant → List GrantOption → ℕ → Type 0
IsStartFor (grant.Role g) options start = Unit {0}
IsStartFor (grant.Right r) options start = StartsAt options (item.Grantable (record { need = r.now.need; grantor = System; grantee = Public })) start

-- all options of a list, by title
pub record AreListed (items : List Item) (options : List GrantOption) : Type 0 where
  pub options_are : AreOptions items options
  pub order : AreByTitle options

-- one of this title, at a marked place
abbrev pub HasTitle : List GrantOption → List Bool → Title → Type 0
HasTitle options marks t = (o : GrantOption) × Contains options o × (titled o.title ≡ titled t) × (slice_index_or marks o.at false ≡ true)

-- one to this grantee that lets grant the same, at a marked place
abbrev pub HasOptionTo : List GrantOption → List Bool → Grant → Auth → Type 0
HasOptionTo options marks grant to = (o : GrantOption) × Contains options o × IsOptionTo grant to (titled o.title) × (slice_index_or marks o.at false ≡ true)

-- one to this grantee or to PUBLIC
abbrev pub IsOpen : List GrantOption → List Bool → Grant → Auth → Type 0
IsOpen options marks grant to = HasOptionTo options marks grant to ⊎ HasOptionTo options marks grant Public
