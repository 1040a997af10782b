-- Of what the rows of each table are.
use Rattle.std.proofs.Common.{◌≡◌, inl, inr, sym, ℕ, Bool, List, [], ◌∷◌, ◌++◌, None, not}
use Rattle.std.specs.List.{Contains}
use Rattle.finite_chains.proofs.Members.{Contains-nil, Contains-cases}
use Rattle.cat_items.specs.declared.item.Column.{Column}
use Rattle.cat_items.specs.declared.item.RoleGrant.{RoleGrant}
use Rattle.cat_items.specs.declared.item.Item.{Item}
use Rattle.cat_items.specs.declared.item.Item.TheVariants as item
use Rattle.cat_items.specs.declared.row.Cell.TheVariants.{Number, Words}
use Rattle.schema_tables.specs.declared.names.SchemaTable.TheVariants as t
use Rattle.schema_tables.specs.Cells.{Row, object_cells, optional_object_cells, auth_cell, yes_cell, default_cell, type_cells}
use Rattle.schema_tables.specs.Shown.{Shown, ShownColumn, of_user, of_role, of_enabled_role, of_role_auth, of_role_admin, of_schema, of_table, of_view, of_column, of_domain, of_domain_check, of_key, of_foreign, of_check, of_assertion, of_routine, of_view_needs, of_routine_needs, of_held, of_grantable}
use Rattle.schema_tables.specs.Sight.{IsShown, IsPosition, IsShownColumn}
use Rattle.schema_tables.specs.TableRows.{Beside, rows, HasRow}

-- the only element of a list of one
pub only : {X : Type 0} (x y : X) → Contains (x ∷ []) y → y ≡ x
only x y h = elim (Contains-cases x [] y h) [ inl e ↦ sym e | inr more ↦ absurd (Contains-nil y more) ]

-- ---- role authorization descriptors

abbrev pub role_row : RoleGrant → Bool → Row
role_row g flag = Words g.role ∷ Words g.grantee ∷ auth_cell g.grantor ∷ yes_cell flag ∷ []

abbrev pub IsRoleRow : List Item → Row → Type 0
IsRoleRow c row = (g : RoleGrant) × (flag : Bool) × Contains c (item.RoleAuth g) × (row ≡ role_row g flag)

pub role_rows_are : (c : List Item) (row : Row) → HasRow (IsShown c None) t.RoleAuthorizationDescriptors row → IsRoleRow c row
role_rows_are c row h = by h.0 h.1 h.2 h.4
  where
    by : (s : Shown) (m : Beside) → IsShown c None s → Contains (rows t.RoleAuthorizationDescriptors m s) row → IsRoleRow c row
    by (of_role_auth g) m p k = (g, m.same, p.0, only _ _ k)
    by (of_user x) m p k = absurd (Contains-nil _ k)
    by (of_role x) m p k = absurd (Contains-nil _ k)
    by (of_enabled_role x) m p k = absurd (Contains-nil _ k)
    by (of_role_admin x) m p k = absurd (Contains-nil _ k)
    by (of_schema x) m p k = absurd (Contains-nil _ k)
    by (of_table x) m p k = absurd (Contains-nil _ k)
    by (of_view x) m p k = absurd (Contains-nil _ k)
    by (of_column x) m p k = absurd (Contains-nil _ k)
    by (of_domain x) m p k = absurd (Contains-nil _ k)
    by (of_domain_check x) m p k = absurd (Contains-nil _ k)
    by (of_key x) m p k = absurd (Contains-nil _ k)
    by (of_foreign x) m p k = absurd (Contains-nil _ k)
    by (of_check x) m p k = absurd (Contains-nil _ k)
    by (of_assertion x) m p k = absurd (Contains-nil _ k)
    by (of_routine x) m p k = absurd (Contains-nil _ k)
    by (of_view_needs x) m p k = absurd (Contains-nil _ k)
    by (of_routine_needs x) m p k = absurd (Contains-nil _ k)
    by (of_held x) m p k = absurd (Contains-nil _ k)
    by (of_grantable x) m p k = absurd (Contains-nil _ k)

-- ---- columns

abbrev pub column_row : Column → ℕ → Row
column_row x n = object_cells x.table ++ Words x.name ∷ Number n ∷ default_cell x.default ∷ yes_cell (not x.not_null) ∷ type_cells x.sort ++ optional_object_cells x.domain

abbrev pub IsColumnRow : List Item → Row → Type 0
IsColumnRow c row = (x : Column) × (n : ℕ) × Contains c (item.Column x) × IsPosition c x n × (row ≡ column_row x n)

pub column_rows_are : (c : List Item) (row : Row) → HasRow (IsShown c None) t.Columns row → IsColumnRow c row
column_rows_are c row h = by h.0 h.1 h.2 h.4
  where
    parts : (x : Column) (s : ShownColumn) → IsShownColumn c None x s → row ≡ (object_cells s.table ++ Words s.name ∷ Number s.position ∷ default_cell s.default ∷ yes_cell (not s.not_null) ∷ type_cells s.sort ++ optional_object_cells s.domain) → row ≡ column_row x s.position
    parts x s p e = rw (p.table, p.name, p.default.0 tt, p.not_null, p.sort, p.domain) at e

    by : (s : Shown) (m : Beside) → IsShown c None s → Contains (rows t.Columns m s) row → IsColumnRow c row
    by (of_column s) m p k = (p.0, s.position, p.1, p.2.position, parts p.0 s p.2 (only _ _ k))
    by _ m p k = absurd (Contains-nil _ k)
