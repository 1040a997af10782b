-- How needs and items are told.
use Rattle.std.specs.Prelude.{[], ◌∷◌, ◌++◌, Option, Some, None, codes, flat_map}
use Rattle.sql_names.specs.NameBytes.{NameBytes, PathNames}
use Rattle.sql_spelling.specs.Texts.{T, name_text, object_text}
use Rattle.sql_tree.specs.declared.rights.Action.{Action}
use Rattle.sql_tree.specs.declared.rights.Action.TheVariants as actions
use Rattle.cat_items.specs.declared.need.Auth.{Auth}
use Rattle.cat_items.specs.declared.need.Auth.TheVariants as auths
use Rattle.cat_items.specs.declared.need.Need.{Need}
use Rattle.cat_items.specs.declared.item.Right.{Right}
use Rattle.cat_items.specs.declared.item.RoleGrant.{RoleGrant}
use Rattle.cat_items.specs.declared.item.Item.{Item}
use Rattle.cat_items.specs.declared.item.Item.TheVariants as item

abbrev pub action_text : Action → T
action_text actions.Select = codes "SELECT"
action_text actions.Insert = codes "INSERT"
action_text actions.Update = codes "UPDATE"
action_text actions.Delete = codes "DELETE"
action_text actions.References = codes "REFERENCES"
action_text actions.Usage = codes "USAGE"
action_text actions.Execute = codes "EXECUTE"
action_text actions.Admin = codes "ADMIN OPTION"

-- the kind of what an action is on, where a column is named or none
abbrev pub kind_text : Action → Option NameBytes → T
kind_text actions.Usage column = codes " ON DOMAIN "
kind_text actions.Execute column = codes " ON ROUTINE "
kind_text actions.Admin column = codes " ON ROLE "
kind_text action None = codes " ON TABLE "
kind_text action (Some column) = codes " ON COLUMN "

abbrev pub dotted_text : PathNames → T
dotted_text names = flat_map (λ name. codes "." ++ name_text name) names

-- names with points between them
abbrev pub path_text : PathNames → T
path_text [] = []
path_text (name ∷ names) = name_text name ++ dotted_text names

abbrev pub column_text : Option NameBytes → T
column_text None = []
column_text (Some name) = codes "." ++ name_text name

abbrev pub need_text : Need → T
need_text n = action_text n.action ++ kind_text n.action n.column ++ path_text n.on ++ column_text n.column

abbrev pub auth_text : Auth → T
auth_text auths.System = codes "_SYSTEM"
auth_text auths.Public = codes "PUBLIC"
auth_text (auths.Named name) = name_text name

abbrev pub role_grant_text : RoleGrant → T
role_grant_text g = name_text g.role ++ codes " BY " ++ auth_text g.grantor ++ codes " TO " ++ name_text g.grantee

abbrev pub right_text : Right → T
right_text r = need_text r.need ++ codes " BY " ++ auth_text r.grantor ++ codes " TO " ++ auth_text r.grantee

abbrev pub item_text : Item → T
item_text (item.User n) = codes "USER " ++ name_text n
item_text (item.Role n) = codes "ROLE " ++ name_text n
item_text (item.Schema s) = codes "SCHEMA " ++ name_text s.name
item_text (item.Table t) = codes "TABLE " ++ object_text t
item_text (item.View v) = codes "VIEW " ++ object_text v.view
item_text (item.Column c) = codes "COLUMN " ++ object_text c.table ++ codes "." ++ name_text c.name
item_text (item.Domain d) = codes "DOMAIN " ++ object_text d.domain
item_text (item.DomainCheck d) = codes "DOMAIN CHECK " ++ object_text d.name
item_text (item.Key k) = codes "KEY " ++ object_text k.name
item_text (item.Foreign f) = codes "FOREIGN KEY " ++ object_text f.name
item_text (item.Check c) = codes "CHECK " ++ object_text c.name
item_text (item.Assertion a) = codes "ASSERTION " ++ object_text a.name
item_text (item.Routine r) = codes "ROUTINE " ++ object_text r.routine
item_text (item.RoleAuth g) = codes "ROLE GRANT " ++ role_grant_text g
item_text (item.RoleAdmin g) = codes "ADMIN OPTION " ++ role_grant_text g
item_text (item.Held r) = right_text r
item_text (item.Grantable r) = codes "GRANT OPTION " ++ right_text r
