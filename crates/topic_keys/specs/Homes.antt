-- Under which topics an item stands, kind by kind.
use Rattle.std.specs.Prelude.{◌≡◌, ◌⊎◌}
use Rattle.cat_items.specs.declared.item.Item.{Item}
use Rattle.cat_items.specs.declared.item.Item.TheVariants as item
use Rattle.cat_items.specs.Rights.{path_of}
use Rattle.cascade_laws.specs.Topics.{Topic, IsUnder, authorization, role_named, schema, table, base_table, columns, column, domain, routine, key, supply, edges, admins}
use Rattle.board_graph.specs.Boards.{IsOwnTopic}

-- it stands under the topic, which has a key of its own
abbrev pub IsHome : Item → Topic → Type 0
IsHome x t = IsUnder t x × IsOwnTopic t

abbrev pub IsHomeOf : Item → Topic → Type 0
IsHomeOf (item.User name) t = t ≡ authorization name
IsHomeOf (item.Role name) t = (t ≡ authorization name) ⊎ (t ≡ role_named name)
IsHomeOf (item.Schema x) t = t ≡ schema x.name
IsHomeOf (item.Table o) t = (t ≡ table (path_of o)) ⊎ (t ≡ base_table o)
IsHomeOf (item.View v) t = t ≡ table (path_of v.view)
IsHomeOf (item.Column c) t = (t ≡ columns c.table) ⊎ (t ≡ column (path_of c.table) c.name)
IsHomeOf (item.Domain d) t = t ≡ domain (path_of d.domain)
IsHomeOf (item.Key k) t = t ≡ key k.name
IsHomeOf (item.Routine r) t = t ≡ routine (path_of r.routine)
IsHomeOf (item.RoleAuth g) t = t ≡ edges g.grantee
IsHomeOf (item.RoleAdmin g) t = t ≡ admins g.role g.grantee
IsHomeOf (item.Held r) t = t ≡ supply r.need r.grantee
IsHomeOf (item.Grantable r) t = t ≡ supply r.need r.grantee
IsHomeOf x t = ⊥
