-- The topics that are looked for by needs, and by those whom the actor reaches.
use Rattle.std.specs.Prelude.{◌≡◌, ◌⊎◌, List}
use Rattle.std.specs.List.{Contains}
use Rattle.sql_names.specs.NameBytes.{NameBytes}
use Rattle.cat_items.specs.declared.need.Auth.{Auth}
use Rattle.cat_items.specs.declared.need.Auth.TheVariants.{Named}
use Rattle.cat_items.specs.declared.need.Need.{Need}
use Rattle.cat_items.specs.declared.item.Item.{Item}
use Rattle.cat_items.specs.declared.item.Item.TheVariants as item
use Rattle.cascade_laws.specs.Asks.{Asks}
use Rattle.cascade_laws.specs.Concerns.{IsRoleGrant}
use Rattle.cascade_laws.specs.Topics.{Topic, DependsOn, IsNeedTopic, admins, edges, supply}
use Rattle.board_graph.specs.Boards.{IsOwnTopic}

-- the item depends on the topic, which has a key of its own
abbrev pub IsTopicOf : List Item → Item → Topic → Type 0
IsTopicOf l x t = DependsOn l x t × IsOwnTopic t

-- the topic is asked for, and has a key of its own
abbrev pub IsAskedFor : List Item → Item → Topic → Type 0
IsAskedFor l x t = Asks l x t × IsOwnTopic t

-- so of one of a list
abbrev pub IsOfAny : {A : Type 0} → (A → Topic → Type 0) → List A → Topic → Type 0
IsOfAny {A} R members t = (a : A) × Contains members a × R a t

-- the rights of a need to one
abbrev pub IsSupplyTopic : Need → Auth → Topic → Type 0
IsSupplyTopic need g t = t ≡ supply need g

-- the role authorizations to one
abbrev pub IsEdgesTopic : Auth → Topic → Type 0
IsEdgesTopic (Named name) t = t ≡ edges name
IsEdgesTopic g t = ⊥

-- the admin options of a role to one
abbrev pub IsAdminsTopic : NameBytes → Auth → Topic → Type 0
IsAdminsTopic role (Named name) t = t ≡ admins role name
IsAdminsTopic role g t = ⊥

-- the object of a need, its column, and the rights of it to one of these
abbrev pub IsNeedOrSupply : List Auth → Need → Topic → Type 0
IsNeedOrSupply reached need t = IsNeedTopic need t ⊎ IsOfAny (IsSupplyTopic need) reached t

-- rights are looked for, or admin options
abbrev pub Looks : List Need → Item → Type 0
Looks needs x = ((need : Need) × Contains needs need) ⊎ IsRoleGrant x

-- the admin options by which a role is granted
abbrev pub IsAdminOptionTopic : Item → List Auth → Topic → Type 0
IsAdminOptionTopic (item.RoleAuth g) reached t = IsOfAny (IsAdminsTopic g.role) reached t
IsAdminOptionTopic (item.RoleAdmin g) reached t = IsOfAny (IsAdminsTopic g.role) reached t
IsAdminOptionTopic x reached t = ⊥

-- what an item looks for that has these needs, and whose actor reaches these
abbrev pub IsSoughtTopic : List Need → List Auth → Item → Topic → Type 0
IsSoughtTopic needs reached x t = IsOfAny (IsNeedOrSupply reached) needs t ⊎ ((Looks needs x × IsOfAny IsEdgesTopic reached t) ⊎ IsAdminOptionTopic x reached t)
