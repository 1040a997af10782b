-- What a statement that is done warns of.
use Rattle.std.specs.Prelude.{◌≡◌, List, [], Option, Some, None}
use Rattle.sql_names.specs.NameBytes.{NameBytes}
use Rattle.sql_tree.specs.declared.statement.GrantPrivileges.{GrantPrivileges}
use Rattle.cat_items.specs.declared.edit.Edit.{Edit}
use Rattle.cat_items.specs.declared.edit.Who.{Who}
use Rattle.cat_items.specs.declared.item.Item.{Item}
use Rattle.edit_rules.specs.Grantors.{IsGrantor}
use Rattle.grant_edit.specs.Grants.{IsPartial}
use Rattle.grant_edit.specs.Statements.{privileges_named}
use Rattle.catalogue_edits.specs.declared.warning.Warning.{Warning}
use Rattle.catalogue_edits.specs.declared.warning.Warning.TheVariants.{NotGranted, NotRevoked}

-- this warning exactly where it is so, else none
abbrev pub WarnsWhere : Type 0 → Warning → Option Warning → Type 0
WarnsWhere P kind None = ¬ P
WarnsWhere P kind (Some warning) = P × (warning ≡ kind)

-- it warns of nothing
abbrev pub is_silent : List Item → Who → Edit → Option Warning → Type 0
is_silent c who edit warning = warning ≡ None

-- GRANT warns of less than is listed
abbrev pub WarnsOfLess : GrantPrivileges → List Item → Who → Edit → Option Warning → Type 0
WarnsOfLess g c who edit warning = (grantor : NameBytes) × IsGrantor c who g.grantor grantor
    × WarnsWhere (IsPartial c grantor g.privileges (privileges_named who g.privileges g.target)) NotGranted warning

-- REVOKE warns where there was nothing to revoke
abbrev pub WarnsOfNothing : List Item → Who → Edit → Option Warning → Type 0
WarnsOfNothing c who edit warning = WarnsWhere (edit.target ≡ []) NotRevoked warning
