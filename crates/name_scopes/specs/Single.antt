-- What a single name stands for: tables, routines, references, stars, and the names of select items.
use Rattle.std.specs.Prelude.{ℕ, ◌+◌, Bool, true, false, not, ◌&&◌, if◌then◌else◌, List, [], ◌∷◌, ◌++◌, slice_get, codes, Option, Some, None, option_and_then, unwrap_or, is_some, bytes_eq, Ok, Err}
use Rattle.std.specs.Fmt.{decimal}
use Rattle.sql_names.specs.declared.object.Object.{Object}
use Rattle.sql_names.specs.declared.column.ObjectName.{ObjectName}
use Rattle.sql_names.specs.declared.column.ObjectName.TheVariants.{Qualified}
use Rattle.sql_names.specs.declared.column.TableReference.{TableReference}
use Rattle.sql_names.specs.declared.column.Reference.{Reference}
use Rattle.sql_names.specs.declared.column.Reference.TheVariants as references
use Rattle.sql_names.specs.declared.sort.Param.{Param}
use Rattle.sql_tree.specs.declared.expr.Expr.{Expr, roll-Expr, out-Expr}
use Rattle.sql_tree.specs.declared.expr.Conjunction.{roll-Conjunction, out-Conjunction}
use Rattle.sql_tree.specs.declared.expr.Negation.{Negation, roll-Negation, out-Negation}
use Rattle.sql_tree.specs.declared.expr.Predicate.{Predicate, roll-Predicate, out-Predicate}
use Rattle.sql_tree.specs.declared.expr.Sum.{Sum, roll-Sum, out-Sum}
use Rattle.sql_tree.specs.declared.expr.Term.{roll-Term, out-Term}
use Rattle.sql_tree.specs.declared.expr.Factor.{Factor, roll-Factor, out-Factor}
use Rattle.sql_tree.specs.declared.expr.Operand.{Operand}
use Rattle.sql_tree.specs.declared.expr.Operand.TheVariants as operands
use Rattle.sql_tree.specs.declared.expr.SelectItem.{SelectItem}
use Rattle.sql_tree.specs.declared.expr.SelectItem.TheVariants as items
use Rattle.name_scopes.specs.declared.scope.OwnTable.{OwnTable}
use Rattle.name_scopes.specs.declared.scope.Signature.{Signature}
use Rattle.name_scopes.specs.declared.scope.Scope.{Scope}
use Rattle.name_scopes.specs.declared.frames.Tab.{Tab}
use Rattle.name_scopes.specs.declared.look.By.TheVariants as by
use Rattle.name_scopes.specs.declared.look.Fitting.{Fitting}
use Rattle.name_scopes.specs.declared.look.Fitting.TheVariants as fitted
use Rattle.name_scopes.specs.declared.look.Found.{Found}
use Rattle.name_scopes.specs.declared.look.Found.TheVariants as found
use Rattle.name_scopes.specs.declared.error.ResolveError.TheVariants.{UnknownName, Ambiguous}
use Rattle.sql_names.specs.NameBytes.{NameBytes}
use Rattle.name_scopes.specs.Known.{Known, path_of, full, is_table, sort_of, column_names, routine_of}
use Rattle.name_scopes.specs.Frames.{Frames, begin, add, tab_at}
use Rattle.name_scopes.specs.Look.{fitting, seek}
use Rattle.name_scopes.specs.Outcomes.{Outcome, ◌>>=◌, Names, Adds}

-- ---- tables

unfoldable pub table : Known → Scope → ObjectName → Outcome Object
table k scope name = if is_table k scope.views (full scope name) then Ok (full scope name) else Err (UnknownName (path_of (full scope name)))

-- a table is known by its AS name, else by its own
abbrev pub tab : TableReference → Object → Tab
tab t o = record { table = o; known = unwrap_or t.correlation o.name }

abbrev pub as_table : Tab → TableReference
as_table t = record { table = Qualified t.table; correlation = Some t.known }

unfoldable pub joined : Known → Scope → TableReference → Adds TableReference
joined k scope t s = do
  o ← table k scope t.table
  Ok (as_table (tab t o), add (tab t o) s)

-- the first table of a chain
abbrev pub opened : Known → Scope → TableReference → Adds TableReference
opened k scope t s = joined k scope t (begin s)

-- ---- routines

abbrev pub is_function : Option Signature → Bool
is_function None = false
is_function (Some s) = is_some s.returns

abbrev pub is_procedure : Option Signature → Bool
is_procedure None = false
is_procedure (Some s) = not (is_some s.returns)

unfoldable pub function : Known → Scope → ObjectName → Outcome ObjectName
function k scope name = if is_function (routine_of k scope (full scope name)) then Ok (Qualified (full scope name)) else Err (UnknownName (path_of (full scope name)))

unfoldable pub procedure : Known → Scope → ObjectName → Outcome ObjectName
procedure k scope name = if is_procedure (routine_of k scope (full scope name)) then Ok (Qualified (full scope name)) else Err (UnknownName (path_of (full scope name)))

-- ---- references

abbrev pub has_name : NameBytes → List NameBytes → Bool
has_name c [] = false
has_name c (n ∷ ns) = if bytes_eq n c then true else has_name c ns

abbrev pub has_param : NameBytes → List Param → Bool
has_param c [] = false
has_param c (p ∷ ps) = if bytes_eq p.name c then true else has_param c ps

abbrev pub param : Scope → NameBytes → Outcome Reference
param scope c = if has_param c scope.params then Ok (references.Param c) else Err (UnknownName (c ∷ []))

-- behind all FROM clauses: the own table, then the parameters
abbrev pub beyond : Scope → NameBytes → Option OwnTable → Outcome Reference
beyond scope c None = param scope c
beyond scope c (Some own) = if has_name c own.names then Ok (references.Own own.table c) else param scope c

abbrev pub column_found : Scope → NameBytes → Frames → Found → Outcome Reference
column_found scope c s found.Missing = beyond scope c scope.own
column_found scope c s found.Twice = Err (Ambiguous c)
column_found scope c s (found.At up at) = elim (tab_at s up at) [ None ↦ Err (UnknownName (c ∷ [])) | Some t ↦ Ok (references.Cell up at t.known c) ]

unfoldable pub column : Known → Scope → NameBytes → Names Reference
column k scope c s = column_found scope c s (seek k by.Column c 0 s)

abbrev pub own_column : NameBytes → NameBytes → Option OwnTable → Outcome Reference
own_column q c None = Err (UnknownName (q ∷ c ∷ []))
own_column q c (Some own) = if bytes_eq own.table.name q && has_name c own.names then Ok (references.Own own.table c) else Err (UnknownName (q ∷ c ∷ []))

abbrev pub has_column : Known → NameBytes → Option Tab → Bool
has_column k c None = false
has_column k c (Some t) = is_some (sort_of k t.table c)

abbrev pub qualifier_found : Known → Scope → NameBytes → NameBytes → Frames → Found → Outcome Reference
qualifier_found k scope q c s found.Missing = own_column q c scope.own
qualifier_found k scope q c s found.Twice = Err (Ambiguous q)
qualifier_found k scope q c s (found.At up at) = if has_column k c (tab_at s up at) then Ok (references.Cell up at q c) else Err (UnknownName (q ∷ c ∷ []))

unfoldable pub qualified : Known → Scope → NameBytes → NameBytes → Names Reference
qualified k scope q c s = qualifier_found k scope q c s (seek k by.Known q 0 s)

abbrev pub reference : Known → Scope → Reference → Names Reference
reference k scope (references.Unqualified c) s = column k scope c s
reference k scope (references.Qualified q c) s = qualified k scope q c s
reference k scope resolved s = Ok resolved

-- ---- select items

-- the expression that is a reference and no more
abbrev pub only_reference : Reference → Expr
only_reference r = roll-Expr (record {
  any = roll-Conjunction (record {
    every = roll-Negation (record {
      negated = false;
      predicate = roll-Predicate (record {
        tested = roll-Sum (record { first = roll-Term (record { first = roll-Factor (record { minus = false; operand = operands.Reference r }); others = [] }); others = [] });
        tail = None;
      });
    }) ∷ [];
  }) ∷ [];
})

abbrev pub cells : ℕ → NameBytes → List NameBytes → List SelectItem
cells at known [] = []
cells at known (c ∷ cs) = items.Expr (only_reference (references.Cell 0 at known c)) (Some c) ∷ cells at known cs

abbrev pub all_cells : Known → ℕ → List Tab → List SelectItem
all_cells k at [] = []
all_cells k at (t ∷ ts) = cells at t.known (column_names k t.table) ++ all_cells k (at + 1) ts

-- all columns of all tables of the FROM
unfoldable pub star : Known → Names (List SelectItem)
star k [] = Ok []
star k (f ∷ fs) = Ok (all_cells k 0 f.tables)

abbrev pub table_star_at : Known → NameBytes → List Tab → Fitting → Outcome (List SelectItem)
table_star_at k q ts fitted.Nowhere = Err (UnknownName (q ∷ []))
table_star_at k q ts fitted.Several = Err (Ambiguous q)
table_star_at k q ts (fitted.One at) = elim (slice_get ts at) [ None ↦ Err (UnknownName (q ∷ [])) | Some t ↦ Ok (cells at t.known (column_names k t.table)) ]

-- all columns of the table of its own FROM that is known so
unfoldable pub table_star : Known → NameBytes → Names (List SelectItem)
table_star k q [] = Err (UnknownName (q ∷ []))
table_star k q (f ∷ fs) = table_star_at k q f.tables (fitting k by.Known q f)

-- COL1, COL2 and so on
abbrev pub position_name : ℕ → NameBytes
position_name n = codes "COL" ++ decimal n

abbrev pub only_member : {A : Type 0} → List A → Option A
only_member (x ∷ []) = Some x
only_member xs = None

abbrev pub column_of_operand : Operand → Option NameBytes
column_of_operand (operands.Reference (references.Cell up at q c)) = Some c
column_of_operand (operands.Reference (references.Own t c)) = Some c
column_of_operand operand = None

abbrev pub column_of_factor : Factor → Option NameBytes
column_of_factor f = if (out-Factor f).minus then None else column_of_operand (out-Factor f).operand

abbrev pub column_of_sum : Sum → Option NameBytes
column_of_sum s = elim ((out-Sum s).others) [ (a ∷ as') ↦ None | [] ↦ elim ((out-Term (out-Sum s).first).others) [ (m ∷ ms) ↦ None | [] ↦ column_of_factor (out-Term (out-Sum s).first).first ] ]

abbrev pub column_of_predicate : Predicate → Option NameBytes
column_of_predicate p = elim ((out-Predicate p).tail) [ Some t ↦ None | None ↦ column_of_sum (out-Predicate p).tested ]

abbrev pub column_of_negation : Negation → Option NameBytes
column_of_negation n = if (out-Negation n).negated then None else column_of_predicate (out-Negation n).predicate

-- the name of the column that an expression is a reference to, and no more
unfoldable pub column_of : Expr → Option NameBytes
column_of e = option_and_then (λ c. option_and_then column_of_negation (only_member (out-Conjunction c).every)) (only_member (out-Expr e).any)

-- the name that is given, else the column's, else by the position
unfoldable pub item_name : Option NameBytes → Expr → ℕ → NameBytes
item_name given e position = unwrap_or given (unwrap_or (column_of e) (position_name position))

abbrev pub item : Option NameBytes → Expr → ℕ → SelectItem
item given e position = items.Expr e (Some (item_name given e position))
