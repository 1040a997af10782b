-- CREATE SCHEMA: its refusals, and what it adds (schema definition, SQL:2003 part 2, 11.1).
use Rattle.std.specs.Prelude.{◌≡◌, ◌≢◌, ◌⊎◌, List, [], ◌∷◌, codes}
use Rattle.std.specs.Option.{unwrap_or}
use Rattle.sql_names.specs.NameBytes.{NameBytes}
use Rattle.sql_tree.specs.declared.statement.SchemaNameClause.{SchemaNameClause}
use Rattle.sql_tree.specs.declared.statement.SchemaNameClause.TheVariants.{Named, Authorization}
use Rattle.cat_items.specs.declared.edit.Edit.{Edit}
use Rattle.cat_items.specs.declared.edit.Refusal.{Refusal}
use Rattle.cat_items.specs.declared.edit.Refusal.TheVariants.{NameReserved, NotOwner, NameExists}
use Rattle.cat_items.specs.declared.edit.Who.{Who}
use Rattle.cat_items.specs.declared.item.Item.{Item}
use Rattle.cat_items.specs.declared.item.Item.TheVariants.{Schema}
use Rattle.cat_items.specs.declared.item.Schema.{Schema as SchemaItem}
use Rattle.cat_items.specs.Reach.{Has}
use Rattle.cat_items.specs.Rights.{IsSchema}
use Rattle.edit_rules.specs.Names.{unknown_authorization}
use Rattle.edit_rules.specs.Owners.{IsCurrentRole}

-- the name of the schema
abbrev pub schema_name : SchemaNameClause → NameBytes
schema_name (Named schema owner) = schema
schema_name (Authorization owner) = owner

-- its owner: whom AUTHORIZATION names, else the user
abbrev pub schema_owner : SchemaNameClause → Who → NameBytes
schema_owner (Named schema owner) who = unwrap_or owner who.user
schema_owner (Authorization owner) who = owner

-- INFORMATION_SCHEMA and DEFINITION_SCHEMA stand by themselves
abbrev pub IsReserved : NameBytes → Type 0
IsReserved name = (name ≡ codes "INFORMATION_SCHEMA") ⊎ (name ≡ codes "DEFINITION_SCHEMA")

abbrev pub reserved_schema : NameBytes → Refusal → Type 0
reserved_schema name refusal = IsReserved name × (refusal ≡ NameReserved)

-- a schema is made by a user for itself or for its current role
abbrev pub not_owner_to_be : List Item → Who → NameBytes → NameBytes → Refusal → Type 0
not_owner_to_be c who schema owner refusal = (owner ≢ who.user) × (¬ (IsCurrentRole c who owner)) × (refusal ≡ NotOwner schema)

-- a schema has this name
abbrev pub schema_exists : List Item → NameBytes → Refusal → Type 0
schema_exists c name refusal = Has c (IsSchema name) × (refusal ≡ NameExists (name ∷ []))

-- a schema of this name for this owner: its refusals in their order
abbrev pub schema_refusals : List Item → Who → NameBytes → NameBytes → List (Refusal → Type 0)
schema_refusals c who schema owner =
    reserved_schema schema
    ∷ unknown_authorization c owner
    ∷ not_owner_to_be c who schema owner
    ∷ schema_exists c schema
    ∷ []

abbrev pub create_schema_refusals : List Item → Who → SchemaNameClause → List (Refusal → Type 0)
create_schema_refusals c who clause = schema_refusals c who (schema_name clause) (schema_owner clause who)

-- the schema that is made
abbrev pub schema_of : Who → SchemaNameClause → SchemaItem
schema_of who clause = record { name = schema_name clause; owner = schema_owner clause who }

-- a schema is added, and nothing else is done
abbrev pub adding_schema : SchemaItem → Edit
adding_schema schema = record { target = []; changed = []; added = Schema schema ∷ [] }

abbrev pub create_schema_edit : Who → SchemaNameClause → Edit
create_schema_edit who clause = adding_schema (schema_of who clause)
