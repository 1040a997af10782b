-- Columns that outlive their domain: DROP DOMAIN and DROP SCHEMA put them back without it, with its default where they have none of their own (SQL:2003
-- part 2, 11.2 and 11.30).
use Rattle.std.specs.Prelude.{◌≡◌, ◌≢◌, List, Option, None, Some}
use Rattle.std.specs.List.{Contains}
use Rattle.sql_names.specs.NameBytes.{NameBytes}
use Rattle.sql_names.specs.declared.object.Object.{Object}
use Rattle.sql_names.specs.declared.sort.Default.{Default}
use Rattle.cat_items.specs.declared.item.Column.{Column}
use Rattle.cat_items.specs.declared.item.Domain.{Domain}
use Rattle.cat_items.specs.declared.item.Item.{Item}
use Rattle.cat_items.specs.declared.item.Item.TheVariants as item

-- ---- which columns

-- DROP DOMAIN frees each column that is based on it
abbrev pub FreedByDomain : Object → Column → Type 0
FreedByDomain domain x = x.domain ≡ Some domain

abbrev pub IsOfSchema : NameBytes → Option Object → Type 0
IsOfSchema schema None = ⊥
IsOfSchema schema (Some domain) = domain.schema ≡ schema

-- DROP SCHEMA frees those of tables of other schemas that are based on a domain of it
abbrev pub FreedBySchema : NameBytes → Column → Type 0
FreedBySchema schema x = IsOfSchema schema x.domain × (x.table.schema ≢ schema)

abbrev pub IsFreed : (Column → Type 0) → Item → Type 0
IsFreed Frees (item.Column x) = Frees x
IsFreed Frees x = ⊥

-- ---- how they are put back

abbrev pub own_or : Option Default → Option Default → Option Default
own_or None other = other
own_or (Some default) other = Some default

abbrev pub freed : Column → Domain → Column
freed x domain = record x { domain = None; default = own_or x.default domain.default }

-- a column in the place of one that is freed of its domain
abbrev pub IsFreedFrom : List Item → Column → Column → Type 0
IsFreedFrom c old x = (domain : Domain) × Contains c (item.Domain domain) × (old.domain ≡ Some domain.domain) × (x ≡ freed old domain)
