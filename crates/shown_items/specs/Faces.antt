-- What each item of a catalogue shows, and the rows that it puts into a table.
use Rattle.std.specs.Prelude.{◌≡◌, ◌↔◌, ◌⊎◌, ℕ, List}
use Rattle.std.specs.List.{Contains}
use Rattle.cat_items.specs.declared.item.Column.{Column}
use Rattle.cat_items.specs.declared.item.Domain.{Domain}
use Rattle.cat_items.specs.declared.item.Routine.{Routine}
use Rattle.cat_items.specs.declared.item.View.{View}
use Rattle.cat_items.specs.declared.item.Item.{Item}
use Rattle.cat_items.specs.declared.item.Item.TheVariants as item
use Rattle.cat_items.specs.Reach.{Has}
use Rattle.schema_tables.specs.Cells.{Row}
use Rattle.schema_tables.specs.declared.names.SchemaTable.{SchemaTable}
use Rattle.schema_tables.specs.Shown.{Shown, ShownView, ShownColumn, ShownDomain, ShownRoutine, of_user, of_role, of_enabled_role, of_role_auth, of_role_admin, of_schema, of_table, of_view, of_column, of_domain, of_domain_check, of_key, of_foreign, of_check, of_assertion, of_routine, of_view_needs, of_routine_needs, of_held, of_grantable}
use Rattle.schema_tables.specs.Sight.{Viewer, SeesAll, Owns, HasRightOn, IsPartyTo, IsApplicableTo, IsEnabledRole, IsShown, IsShownView, IsShownColumn, IsShownDomain, IsShownRoutine}
use Rattle.schema_tables.specs.TableRows.{Beside, IsBeside, rows}
use Rattle.shown_items.specs.declared.sight.Sight.{Sight}
use Rattle.shown_items.specs.Viewers.{viewer_of}

-- a view, and apart from it what it needs
abbrev pub IsViewFace : List Item → Viewer → View → Shown → Type 0
IsViewFace c v x s = (p : ShownView) × IsShownView c v x p × (s ≡ of_view p)

abbrev pub IsViewNeedsFace : List Item → Viewer → View → Shown → Type 0
IsViewNeedsFace c v x s = Owns c v x.view.schema × (s ≡ of_view_needs (record { object = x.view; needs = x.needs }))

abbrev pub IsColumnFace : List Item → Viewer → Column → Shown → Type 0
IsColumnFace c v x s = (p : ShownColumn) × IsShownColumn c v x p × (s ≡ of_column p)

abbrev pub IsDomainFace : List Item → Viewer → Domain → Shown → Type 0
IsDomainFace c v x s = (p : ShownDomain) × IsShownDomain c v x p × (s ≡ of_domain p)

abbrev pub IsRoutineFace : List Item → Viewer → Routine → Shown → Type 0
IsRoutineFace c v x s = (p : ShownRoutine) × IsShownRoutine c v x p × (s ≡ of_routine p)

abbrev pub IsRoutineNeedsFace : List Item → Viewer → Routine → Shown → Type 0
IsRoutineNeedsFace c v x s = Owns c v x.routine.schema × (s ≡ of_routine_needs (record { object = x.routine; needs = x.needs }))

-- what an item shows to a viewer
abbrev pub IsFace : List Item → Viewer → Item → Shown → Type 0
IsFace c v (item.User name) s = SeesAll v × (s ≡ of_user name)
IsFace c v (item.Role name) s = SeesAll v × (s ≡ of_role name)
IsFace c v (item.Schema x) s = Owns c v x.name × (s ≡ of_schema x)
IsFace c v (item.Table t) s = HasRightOn c v (item.Table t) × (s ≡ of_table t)
IsFace c v (item.View x) s = IsViewFace c v x s ⊎ IsViewNeedsFace c v x s
IsFace c v (item.Column x) s = IsColumnFace c v x s
IsFace c v (item.Domain x) s = IsDomainFace c v x s
IsFace c v (item.DomainCheck x) s = Owns c v x.name.schema × (s ≡ of_domain_check x)
IsFace c v (item.Key x) s = Owns c v x.name.schema × (s ≡ of_key x)
IsFace c v (item.Foreign x) s = Owns c v x.name.schema × (s ≡ of_foreign x)
IsFace c v (item.Check x) s = Owns c v x.name.schema × (s ≡ of_check x)
IsFace c v (item.Assertion x) s = Owns c v x.name.schema × (s ≡ of_assertion x)
IsFace c v (item.Routine x) s = IsRoutineFace c v x s ⊎ IsRoutineNeedsFace c v x s
IsFace c v (item.RoleAuth g) s = IsApplicableTo c v g × (s ≡ of_role_auth g)
IsFace c v (item.RoleAdmin g) s = IsApplicableTo c v g × (s ≡ of_role_admin g)
IsFace c v (item.Held r) s = IsPartyTo v r × (s ≡ of_held r)
IsFace c v (item.Grantable r) s = IsPartyTo v r × (s ≡ of_grantable r)

-- an enabled role
abbrev pub IsEnabledFace : Viewer → Shown → Type 0
IsEnabledFace v s = (name : List ℕ) × IsEnabledRole v name × (s ≡ of_enabled_role name)

-- what some item shows
abbrev pub IsItemFace : List Item → Viewer → Shown → Type 0
IsItemFace c v s = Has c (λ x. IsFace c v x s)

-- descriptors with nothing beside them that tables speak of
abbrev pub IsPlain : Shown → Type 0
IsPlain (of_role_auth g) = ⊥
IsPlain (of_column x) = ⊥
IsPlain (of_held r) = ⊥
IsPlain s = Unit {0}

-- a row of something that is so, where P is what is shown
abbrev pub HasFaceRow : (Shown → Type 0) → (Shown → Type 0) → SchemaTable → Row → Type 0
HasFaceRow P F which row = (s : Shown) × (m : Beside) × F s × IsBeside P s m × Contains (rows which m s) row

-- the new list has the rows of the old one, and those of what is so
abbrev pub AddsRows : (Shown → Type 0) → (Shown → Type 0) → SchemaTable → List Row → List Row → Type 0
AddsRows P F which old new = (row : Row) → Contains new row ↔ (Contains old row ⊎ HasFaceRow P F which row)

abbrev pub shown_to : Sight → Shown → Type 0
shown_to g = IsShown g.c.now.items (viewer_of g.viewer)

-- for one who looks at a table of a catalogue
abbrev pub Adds : Sight → (List Item → Viewer → Shown → Type 0) → List Row → List Row → Type 0
Adds g F old new = AddsRows (shown_to g) (F g.c.now.items (viewer_of g.viewer)) g.table old new
