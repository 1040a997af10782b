-- The tables that are made, one after the other, are those of the Definition Schema.
use Rattle.std.proofs.Common.{◌≡◌, ◌<◌, ◌≤◌, ◌+◌, ◌&&◌, refl, sym, ap, ap₂, subst, ◌∙◌, ℕ, zero, suc, Bool, true, false, List, [], ◌∷◌, ◌++◌, None, All, length, map, take, slice_index, slice_index_or, leb, ltb, arith, length-append}
use Rattle.std.specs.Borrow.{Bor}
use Rattle.std.specs.List.{list_all}
use Rattle.std.proofs.lemmas.Bool.Decides.{nat_tests}
use Rattle.std.proofs.lemmas.List.{append_assoc, map-append, take_more}
use Rattle.std.proofs.lemmas.List.Elements.{All-cons, All-nil}
use Rattle.std.proofs.lemmas.Str.{IsUtf8-from_ascii}
use Rattle.sql_names.specs.Names.{IsName}
use Rattle.cat_items.specs.declared.item.Item.{Item}
use Rattle.schema_tables.specs.declared.names.SchemaTable.{SchemaTable}
use Rattle.schema_tables.specs.declared.names.SchemaTable.TheVariants as t
use Rattle.schema_tables.specs.Cells.{Row}
use Rattle.schema_tables.specs.Listings.{AreRows}
use Rattle.schema_tables.specs.Sight.{IsShown}
use Rattle.schema_tables.specs.TableRows.{HasRow, numbered}
use Rattle.definition_schema.specs.declared.rows.DefTable.{DefTable}
use Rattle.definition_schema.specs.Definition.{AreDefinitionRows}
use Rattle.definition_schema.specs.Tables.{AreTables, IsDefinition, IsTableOf, definition_names, names_of}
use Rattle.definition_schema.proofs.AllHold.{all_hold}

abbrev Entry : Type 0
Entry = SchemaTable × List ℕ

-- ---- one table more

pub one_more : (c : List Item) (entries : List Entry) (tables : List DefTable) (entry : Entry) (table : DefTable) → AreTables c entries tables → IsTableOf c entry.0 entry.1 table → AreTables c (entries ++ entry ∷ []) (tables ++ table ∷ [])
one_more c [] [] entry table are one = (one, tt)
one_more c (e ∷ entries) (x ∷ tables) entry table are one = (are.0, one_more c entries tables entry table are.1 one)
one_more c [] (x ∷ tables) entry table are one = absurd are
one_more c (e ∷ entries) [] entry table are one = absurd are

-- ---- the names are names

abbrev is_plain : List ℕ → Bool
is_plain name = ltb 0 (length name) && (leb (length name) 128 && list_all (λ b. ltb b 128) name)

left : (a b : Bool) → (a && b) ≡ true → a ≡ true
left true b h = refl
left false b h = h

right : (a b : Bool) → (a && b) ≡ true → b ≡ true
right true b h = h
right false b h = cc

small : (name : List ℕ) → list_all (λ b. ltb b 128) name ≡ true → (i : ℕ) → slice_index name i < 128
small [] h zero = omega arith
small [] h (suc i) = omega arith
small (b ∷ name) h zero = less b (left (ltb b 128) _ h)
  where
    less : (b : ℕ) → ltb b 128 ≡ true → b < 128
    less b h = grind (arith, nat_tests)
small (b ∷ name) h (suc i) = small name (right (ltb b 128) _ h) i

some : (n : ℕ) → ltb 0 n ≡ true → 1 ≤ n
some n h = grind (arith, nat_tests)

few : (n : ℕ) → leb n 128 ≡ true → n ≤ 128
few n h = grind (arith, nat_tests)

name_of_plain : (name : List ℕ) → is_plain name ≡ true → IsName name
name_of_plain name h =
    let rest = right (ltb 0 (length name)) _ h in
    record {
      some = some (length name) (left (ltb 0 (length name)) _ h);
      few = few (length name) (left (leb (length name) 128) _ rest);
      text = IsUtf8-from_ascii name (small name (right (leb (length name) 128) _ rest));
    }

each_name : (entries : List Entry) → list_all (λ entry. is_plain entry.1) entries ≡ true → All (λ entry. IsName entry.1) entries
each_name [] h = All-nil (λ (entry : Entry). IsName entry.1)
each_name (e ∷ entries) h = All-cons (λ (entry : Entry). IsName entry.1) e entries (name_of_plain e.1 (left (is_plain e.1) _ h)) (each_name entries (right (is_plain e.1) _ h))

pub all_names : All (λ entry. IsName entry.1) definition_names
all_names = each_name definition_names refl

-- ---- the rows of each table

rows_at : ℕ → List DefTable → List Row
rows_at k [] = []
rows_at zero (x ∷ tables) = x.rows.items
rows_at (suc k) (x ∷ tables) = rows_at k tables

no_entry : Entry
no_entry = (t.EnabledRoles, [])

abbrev entry_at : ℕ → List Entry → Entry
entry_at k entries = slice_index_or entries k no_entry

at : (c : List Item) (entries : List Entry) (tables : List DefTable) → AreTables c entries tables → (k : ℕ) → k < length entries → AreRows (HasRow (IsShown c None) (entry_at k entries).0) (rows_at k tables)
unfolding rows_at
at c [] tables are k within = absurd (omega (arith, within))
at c (e ∷ entries) [] are k within = absurd are
at c (e ∷ entries) (x ∷ tables) are zero within = are.0.1
at c (e ∷ entries) (x ∷ tables) are (suc k) within = at c entries tables are.1 k (omega (arith, within))

-- the place of a table
place : SchemaTable → ℕ
place t.Authorizations = 0
place t.RoleAuthorizationDescriptors = 1
place t.Schemata = 2
place t.Tables = 3
place t.Views = 4
place t.Columns = 5
place t.Domains = 6
place t.DomainConstraints = 7
place t.TableConstraints = 8
place t.ReferentialConstraints = 9
place t.CheckConstraints = 10
place t.KeyColumnUsage = 11
place t.Assertions = 12
place t.Routines = 13
place t.Parameters = 14
place t.TablePrivileges = 15
place t.ColumnPrivileges = 16
place t.UsagePrivileges = 17
place t.RoutinePrivileges = 18
place t.ViewTableUsage = 19
place t.ViewColumnUsage = 20
place t.CheckTableUsage = 21
place t.CheckColumnUsage = 22
place t.RoutineTableUsage = 23
place other = 24

abbrev Pair : Type 0
Pair = List ℕ × List Row

abbrev pair : DefTable → Pair
pair table = (table.name, table.rows.items)

rows_behind : (before : List DefTable) (x : DefTable) (tables : List DefTable) → rows_at (length before) (before ++ x ∷ tables) ≡ x.rows.items
unfolding rows_at
rows_behind [] x tables = refl
rows_behind (y ∷ before) x tables = rows_behind before x tables

longer : (before : List DefTable) (x : DefTable) → length (before ++ x ∷ []) ≡ length before + 1
longer before x = simp length-append (omega arith)

-- the tables behind some that came before
told_behind : (c : List Item) (entries : List Entry) (tables before : List DefTable) → AreTables c entries tables
    → map pair tables ≡ map (λ (p : ℕ × Entry). (p.1.1, rows_at p.0 (before ++ tables))) (numbered (length before) entries)
told_behind c [] [] before are = refl
told_behind c [] (x ∷ tables) before are = absurd are
told_behind c (e ∷ entries) [] before are = absurd are
told_behind c (e ∷ entries) (x ∷ tables) before are =
    let rest : map pair tables ≡ map (λ (p : ℕ × Entry). (p.1.1, rows_at p.0 ((before ++ x ∷ []) ++ tables))) (numbered (length (before ++ x ∷ [])) entries) = told_behind c entries tables (before ++ x ∷ []) are.1 in
    let whole : (before ++ x ∷ []) ++ tables ≡ before ++ x ∷ tables = append_assoc before (x ∷ []) tables in
    let later : map pair tables ≡ map (λ (p : ℕ × Entry). (p.1.1, rows_at p.0 (before ++ x ∷ tables))) (numbered (length before + 1) entries) =
    subst (λ n. map pair tables ≡ map (λ (p : ℕ × Entry). (p.1.1, rows_at p.0 (before ++ x ∷ tables))) (numbered n entries)) (longer before x)
    (subst (λ (l : List DefTable). map pair tables ≡ map (λ (p : ℕ × Entry). (p.1.1, rows_at p.0 l)) (numbered (length (before ++ x ∷ [])) entries)) whole rest) in
    let first : pair x ≡ (e.1, rows_at (length before) (before ++ x ∷ tables)) = first_pair x e (rows_at (length before) (before ++ x ∷ tables)) are.0.0 (sym (rows_behind before x tables)) in
    ap₂ (λ (p : Pair) (ps : List Pair). p ∷ ps) first later
  where
    first_pair : (x : DefTable) (e : Entry) (rows : List Row) → x.name ≡ e.1 → x.rows.items ≡ rows → pair x ≡ (e.1, rows)
    first_pair x e rows name same = λ i. (name i, same i)

-- a name among others
pub name_at : (entries : List (SchemaTable × Bor (List ℕ))) (k : ℕ) (d : SchemaTable × Bor (List ℕ)) → k < length entries → All (λ (entry : Entry). IsName entry.1) (names_of entries) → IsName (slice_index_or entries k d).1.now
name_at [] k d within names = absurd (omega (arith, within))
name_at (e ∷ entries) zero d within names = names 0 (e.0, e.1.now) (omega arith)
name_at (e ∷ entries) (suc k) d within names = name_at entries k d (omega (arith, within)) (λ j x inside. names (suc j) x (omega (arith, inside)))

names_grow : (entries : List (SchemaTable × Bor (List ℕ))) (k : ℕ) (d : SchemaTable × Bor (List ℕ)) → k < length entries → names_of (take (k + 1) entries) ≡ names_of (take k entries) ++ ((slice_index_or entries k d).0, (slice_index_or entries k d).1.now) ∷ []
names_grow entries k d within = ap names_of (take_more entries k d within) ∙ map-append (λ (e : SchemaTable × Bor (List ℕ)). (e.0, e.1.now)) (take k entries) (slice_index_or entries k d ∷ [])

pub grows : (c : List Item) (entries : List (SchemaTable × Bor (List ℕ))) (k : ℕ) (d : SchemaTable × Bor (List ℕ)) (tables new : List DefTable) (table : DefTable) → k < length entries → AreTables c (names_of (take k entries)) tables
    → IsTableOf c (slice_index_or entries k d).0 (slice_index_or entries k d).1.now table → new ≡ tables ++ table ∷ [] → AreTables c (names_of (take (k + 1) entries)) new
grows c entries k d tables new table within are one is =
    let e = slice_index_or entries k d in
    subst (λ (l : List Entry). AreTables c l new) (sym (names_grow entries k d within)) (subst (AreTables c (names_of (take k entries) ++ (e.0, e.1.now) ∷ [])) (sym is) (one_more c (names_of (take k entries)) tables (e.0, e.1.now) table are one))

module _ (c : List Item) (tables : List DefTable) (made : AreTables c definition_names tables) where
  abbrev rows : SchemaTable → List Row
  rows which = rows_at (place which) tables

  are : AreDefinitionRows c rows
  unfolding place
  are t.Authorizations def = at c definition_names tables made 0 (omega arith)
  are t.RoleAuthorizationDescriptors def = at c definition_names tables made 1 (omega arith)
  are t.Schemata def = at c definition_names tables made 2 (omega arith)
  are t.Tables def = at c definition_names tables made 3 (omega arith)
  are t.Views def = at c definition_names tables made 4 (omega arith)
  are t.Columns def = at c definition_names tables made 5 (omega arith)
  are t.Domains def = at c definition_names tables made 6 (omega arith)
  are t.DomainConstraints def = at c definition_names tables made 7 (omega arith)
  are t.TableConstraints def = at c definition_names tables made 8 (omega arith)
  are t.ReferentialConstraints def = at c definition_names tables made 9 (omega arith)
  are t.CheckConstraints def = at c definition_names tables made 10 (omega arith)
  are t.KeyColumnUsage def = at c definition_names tables made 11 (omega arith)
  are t.Assertions def = at c definition_names tables made 12 (omega arith)
  are t.Routines def = at c definition_names tables made 13 (omega arith)
  are t.Parameters def = at c definition_names tables made 14 (omega arith)
  are t.TablePrivileges def = at c definition_names tables made 15 (omega arith)
  are t.ColumnPrivileges def = at c definition_names tables made 16 (omega arith)
  are t.UsagePrivileges def = at c definition_names tables made 17 (omega arith)
  are t.RoutinePrivileges def = at c definition_names tables made 18 (omega arith)
  are t.ViewTableUsage def = at c definition_names tables made 19 (omega arith)
  are t.ViewColumnUsage def = at c definition_names tables made 20 (omega arith)
  are t.CheckTableUsage def = at c definition_names tables made 21 (omega arith)
  are t.CheckColumnUsage def = at c definition_names tables made 22 (omega arith)
  are t.RoutineTableUsage def = at c definition_names tables made 23 (omega arith)
  are t.EnabledRoles def = absurd def
  are t.ApplicableRoles def = absurd def
  are t.AdministrableRoleAuthorizations def = absurd def
  are t.RoleTableGrants def = absurd def
  are t.RoleColumnGrants def = absurd def
  are t.RoleUsageGrants def = absurd def
  are t.RoleRoutineGrants def = absurd def
  are t.ColumnDomainUsage def = absurd def
  are t.ConstraintTableUsage def = absurd def
  are t.ConstraintColumnUsage def = absurd def

  pub definition : IsDefinition c tables
  unfolding place
  definition = record { rows = rows; are = are; told = told_behind c definition_names tables [] made; hold = λ good. all_hold c rows good are }
