-- Where an object stands, and where a need is met (privileges and access rules, SQL:2003 part 2, 4.34.2).
use Rattle.std.specs.Prelude.{◌≡◌, Bool, true, false, List, [], ◌∷◌, All, Option, Some, None}
use Rattle.sql_names.specs.NameBytes.{NameBytes, PathNames}
use Rattle.sql_names.specs.declared.object.Object.{Object}
use Rattle.sql_tree.specs.declared.rights.Action.{Action}
use Rattle.sql_tree.specs.declared.rights.Action.TheVariants.{Select, Insert, Update, Delete, References, Usage, Execute, Admin}
use Rattle.cat_items.specs.declared.need.Auth.{Auth}
use Rattle.cat_items.specs.declared.need.Auth.TheVariants.{Named}
use Rattle.cat_items.specs.declared.need.Need.{Need}
use Rattle.cat_items.specs.declared.item.Item.{Item}
use Rattle.cat_items.specs.declared.item.Item.TheVariants.{User, Role, Schema, Table, View, Column, Domain, Routine, RoleAdmin, Held, Grantable}
use Rattle.cat_items.specs.Reach.{Has, Reaches}

-- an object as a path
abbrev pub path_of : Object → PathNames
path_of o = o.schema ∷ o.name ∷ []

-- a user or a role of this name
abbrev pub IsAuthorization : NameBytes → Item → Type 0
IsAuthorization name (User n) = n ≡ name
IsAuthorization name (Role n) = n ≡ name
IsAuthorization name x = ⊥

abbrev pub IsRole : NameBytes → Item → Type 0
IsRole name (Role n) = n ≡ name
IsRole name x = ⊥

abbrev pub IsSchema : NameBytes → Item → Type 0
IsSchema name (Schema x) = x.name ≡ name
IsSchema name x = ⊥

abbrev pub IsBaseTable : Object → Item → Type 0
IsBaseTable o (Table t) = t ≡ o
IsBaseTable o x = ⊥

-- a base table or a view
abbrev pub IsTable : PathNames → Item → Type 0
IsTable path (Table t) = path ≡ path_of t
IsTable path (View v) = path ≡ path_of v.view
IsTable path x = ⊥

abbrev pub IsDomain : PathNames → Item → Type 0
IsDomain path (Domain d) = path ≡ path_of d.domain
IsDomain path x = ⊥

abbrev pub IsRoutine : PathNames → Item → Type 0
IsRoutine path (Routine r) = path ≡ path_of r.routine
IsRoutine path x = ⊥

-- a column of this name of the table or view
abbrev pub IsColumn : PathNames → NameBytes → Item → Type 0
IsColumn path name (Column c) = (path ≡ path_of c.table) × (c.name ≡ name)
IsColumn path name x = ⊥

-- the object of such an action
abbrev pub IsObject : Action → PathNames → Item → Type 0
IsObject Select path x = IsTable path x
IsObject Insert path x = IsTable path x
IsObject Update path x = IsTable path x
IsObject Delete path x = IsTable path x
IsObject References path x = IsTable path x
IsObject Usage path x = IsDomain path x
IsObject Execute path x = IsRoutine path x
IsObject Admin path x = ⊥

abbrev pub HasColumn : List Item → PathNames → Option NameBytes → Type 0
HasColumn s path None = Unit {0}
HasColumn s path (Some name) = Has s (IsColumn path name)

-- the need's object stands, and its column where it names one
abbrev pub Stands : List Item → Need → Type 0
Stands s need = Has s (IsObject need.action need.on) × HasColumn s need.on need.column

-- a privilege of exactly this need, held or with grant option, whose grantee the authorization reaches
abbrev pub IsRightFor : Bool → List Item → Auth → Need → Item → Type 0
IsRightFor false s a need (Held r) = (r.need ≡ need) × Reaches s a r.grantee
IsRightFor true s a need (Grantable r) = (r.need ≡ need) × Reaches s a r.grantee
IsRightFor grantable s a need x = ⊥

-- an admin option of the role whose grantee the authorization reaches
abbrev pub IsAdminFor : List Item → Auth → PathNames → Item → Type 0
IsAdminFor s a path (RoleAdmin g) = (path ≡ g.role ∷ []) × Reaches s a (Named g.grantee)
IsAdminFor s a path x = ⊥

abbrev pub MetBy : Bool → List Item → Auth → Need → Action → Type 0
MetBy grantable s a need Admin = Has s (IsAdminFor s a need.on)
MetBy grantable s a need action = Stands s need × Has s (IsRightFor grantable s a need)

-- the need is met for the authorization, or met grantably
abbrev pub Met : Bool → List Item → Auth → Need → Type 0
Met grantable s a need = MetBy grantable s a need need.action

-- the schema of this name, for whose owner each of these needs is met
abbrev pub MeetsAll : Bool → List Item → NameBytes → List Need → Item → Type 0
MeetsAll grantable s schema needs (Schema x) = (x.name ≡ schema) × All (Met grantable s (Named x.owner)) needs
MeetsAll grantable s schema needs x = ⊥

-- USAGE on a domain
abbrev pub usage : Object → Need
usage d = record { action = Usage; on = path_of d; column = None }

-- EXECUTE on a routine
abbrev pub execute : Object → Need
execute r = record { action = Execute; on = path_of r; column = None }

-- REFERENCES on a column
abbrev pub reference : Object → NameBytes → Need
reference t column = record { action = References; on = path_of t; column = Some column }

-- ADMIN on a role
abbrev pub admin : NameBytes → Need
admin role = record { action = Admin; on = role ∷ []; column = None }
