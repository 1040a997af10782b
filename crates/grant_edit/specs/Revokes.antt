-- REVOKE of privileges: which rights it identifies (revoke statement, SQL:2003 part 2, 12.7).
use Rattle.std.specs.Prelude.{◌≡◌, ◌⊎◌, Bool, false, List, Option, Some, None}
use Rattle.std.specs.List.{Contains}
use Rattle.sql_names.specs.NameBytes.{NameBytes}
use Rattle.sql_names.specs.declared.object.Object.{Object}
use Rattle.cat_items.specs.declared.item.Item.{Item}
use Rattle.cat_items.specs.declared.item.Item.TheVariants as item
use Rattle.cat_items.specs.declared.item.Right.{Right}
use Rattle.cat_items.specs.declared.need.Auth.{Auth}
use Rattle.cat_items.specs.declared.need.Auth.TheVariants.{Named}
use Rattle.cat_items.specs.declared.need.Need.{Need}
use Rattle.cat_items.specs.Needs.{object_need}
use Rattle.cat_items.specs.Rights.{path_of}
use Rattle.grant_edit.specs.Named.{named_grantees}
use Rattle.grant_edit.specs.declared.revokes.Revoking.{Revoking}

-- a named privilege, or where it is named on the whole object the same on one of its columns
abbrev pub IsRevoked : Object → List Need → Need → Type 0
IsRevoked object named need = Contains named need ⊎ ((need.on ≡ path_of object) × Contains named (object_need need.action object))

-- the column is named, or the whole object
abbrev pub CoversColumn : Option NameBytes → Option NameBytes → Type 0
CoversColumn None column = Unit {0}
CoversColumn (Some name) column = column ≡ Some name

-- the privilege that is named, or where it is on a whole object the same on its column
abbrev pub Covers : Need → Need → Type 0
Covers named need = (named.action ≡ need.action) × (named.on ≡ need.on) × CoversColumn named.column need.column

-- what is revoked from whom: the object, the privileges that are named on it, who granted them to whom, and GRANT OPTION FOR
pub record Revoked : Type 0 where
  pub object : Object
  pub named : List Need
  pub grantor : NameBytes
  pub grantees : List Auth
  pub option_alone : Bool

abbrev pub revoked_of : Revoking → Revoked
revoked_of r = record {
  object = r.object.now;
  named = r.named.now.items;
  grantor = r.grantor.now;
  grantees = named_grantees r.grantees.now;
  option_alone = r.option_alone;
}

-- a right that the grantor granted to one of the grantees
abbrev pub IsRevokedRight : Revoked → Right → Type 0
IsRevokedRight k r = IsRevoked k.object k.named r.need × (r.grantor ≡ Named k.grantor) × Contains k.grantees r.grantee

-- it is taken held and with grant option, by GRANT OPTION FOR with grant option alone
abbrev pub IsIdentifiedRight : Revoked → Item → Type 0
IsIdentifiedRight k (item.Held r) = (k.option_alone ≡ false) × IsRevokedRight k r
IsIdentifiedRight k (item.Grantable r) = IsRevokedRight k r
IsIdentifiedRight k x = ⊥
