-- What a session sees by its places: the objects on which it has a right, and the schemas that it owns.
use Rattle.std.specs.Prelude.{◌≡◌, ◌⊎◌, IsTrue, List, [], ◌∷◌}
use Rattle.std.specs.List.{Contains}
use Rattle.sql_names.specs.NameBytes.{NameBytes, PathNames}
use Rattle.cat_items.specs.declared.item.Item.{Item}
use Rattle.cat_items.specs.declared.item.Item.TheVariants as item
use Rattle.cat_items.specs.declared.ranges.Part.{Part}
use Rattle.cat_items.specs.Ranges.{IsIn}
use Rattle.cat_items.specs.Reach.{Has}
use Rattle.cat_items.specs.Rights.{path_of}
use Rattle.schema_tables.specs.Cells.{Row}
use Rattle.schema_tables.specs.declared.names.SchemaTable.{SchemaTable}
use Rattle.schema_tables.specs.Shown.{Shown}
use Rattle.schema_tables.specs.Sight.{Viewer}
use Rattle.shown_items.specs.declared.sight.Sight.{Sight}
use Rattle.shown_items.specs.Faces.{IsFace, IsViewFace, IsViewNeedsFace, IsRoutineFace, IsRoutineNeedsFace, IsItemFace, HasFaceRow, shown_to}
use Rattle.shown_items.specs.Reads.{reads_part}
use Rattle.shown_items.specs.Viewers.{viewer_of}

-- what the items of a part show, if the table reads them
abbrev pub IsFaceIn : SchemaTable → Part → List Item → Viewer → Shown → Type 0
IsFaceIn which part c v s = IsTrue (reads_part which part) × Has c (λ x. IsIn part x × IsFace c v x s)

abbrev pub IsFaceAmong : SchemaTable → List Part → List Item → Viewer → Shown → Type 0
IsFaceAmong which parts c v s = (part : Part) × Contains parts part × IsFaceIn which part c v s

-- what the object of this path, or a column of it, shows to one who has a right on it
abbrev pub IsRightFace : PathNames → List Item → Viewer → Item → Shown → Type 0
IsRightFace on c v (item.Table t) s = (on ≡ path_of t) × IsFace c v (item.Table t) s
IsRightFace on c v (item.View x) s = (on ≡ path_of x.view) × IsViewFace c v x s
IsRightFace on c v (item.Column x) s = (on ≡ path_of x.table) × IsFace c v (item.Column x) s
IsRightFace on c v (item.Domain x) s = (on ≡ path_of x.domain) × IsFace c v (item.Domain x) s
IsRightFace on c v (item.Routine x) s = (on ≡ path_of x.routine) × IsRoutineFace c v x s
IsRightFace on c v x s = ⊥

-- what this schema shows to its owner, and what an object of it shows to no other
abbrev pub IsOwnerFace : NameBytes → List Item → Viewer → Item → Shown → Type 0
IsOwnerFace schema c v (item.Schema x) s = (x.name ≡ schema) × IsFace c v (item.Schema x) s
IsOwnerFace schema c v (item.View x) s = (x.view.schema ≡ schema) × IsViewNeedsFace c v x s
IsOwnerFace schema c v (item.DomainCheck x) s = (x.name.schema ≡ schema) × IsFace c v (item.DomainCheck x) s
IsOwnerFace schema c v (item.Key x) s = (x.name.schema ≡ schema) × IsFace c v (item.Key x) s
IsOwnerFace schema c v (item.Foreign x) s = (x.name.schema ≡ schema) × IsFace c v (item.Foreign x) s
IsOwnerFace schema c v (item.Check x) s = (x.name.schema ≡ schema) × IsFace c v (item.Check x) s
IsOwnerFace schema c v (item.Assertion x) s = (x.name.schema ≡ schema) × IsFace c v (item.Assertion x) s
IsOwnerFace schema c v (item.Routine x) s = (x.routine.schema ≡ schema) × IsRoutineNeedsFace c v x s
IsOwnerFace schema c v x s = ⊥

-- what the schema of a path of one name shows to its owner
abbrev pub IsSchemaFace : PathNames → List Item → Viewer → Shown → Type 0
IsSchemaFace on c v s = (schema : NameBytes) × (on ≡ schema ∷ []) × Has c (λ y. IsOwnerFace schema c v y s)

-- what a place shows to one who owns it or has a right on it
abbrev pub IsNearFace : PathNames → List Item → Viewer → Shown → Type 0
IsNearFace on c v s = Has c (λ x. IsRightFace on c v x s) ⊎ IsSchemaFace on c v s

abbrev pub IsFaceNear : List PathNames → List Item → Viewer → Shown → Type 0
IsFaceNear own c v s = (on : PathNames) × Contains own on × IsNearFace on c v s

-- the new list has the rows of the old one and those of what is so, and beside these at most some of what items show
abbrev pub PutsRows : (Shown → Type 0) → (Shown → Type 0) → (Shown → Type 0) → SchemaTable → List Row → List Row → Type 0
PutsRows P F G which old new = (row : Row) → (Contains new row → Contains old row ⊎ HasFaceRow P G which row) × ((Contains old row ⊎ HasFaceRow P F which row) → Contains new row)

-- for one who looks at a table of a catalogue
abbrev pub Puts : Sight → (List Item → Viewer → Shown → Type 0) → List Row → List Row → Type 0
Puts g F old new = PutsRows (shown_to g) (F g.c.now.items (viewer_of g.viewer)) (IsItemFace g.c.now.items (viewer_of g.viewer)) g.table old new
