-- What single names resolve to is named, and the tables of a FROM are known.
use Rattle.std.proofs.Common.{◌≡◌, ℕ, ◌+◌, ◌<◌, Bool, true, false, List, [], ◌∷◌, ◌++◌, Option, Some, None, Ok, Err, length, map, arith, ap, sym, ◌∙◌, subst, refl, rules}
use Rattle.std.specs.Prelude.{if◌then◌else◌, is_some, unwrap_or, slice_get}
use Rattle.sql_names.specs.NameBytes.{NameBytes}
use Rattle.sql_names.specs.declared.object.Object.{Object}
use Rattle.sql_names.specs.declared.column.ObjectName.{ObjectName}
use Rattle.sql_names.specs.declared.column.Reference.{Reference}
use Rattle.sql_names.specs.declared.column.Reference.TheVariants as references
use Rattle.sql_names.specs.declared.column.TableReference.{TableReference}
use Rattle.sql_names.specs.declared.sort.Param.{Param}
use Rattle.sql_tree.specs.declared.expr.SelectItem.{SelectItem}
use Rattle.sql_tree.specs.declared.expr.SelectItem.TheVariants as items
use Rattle.name_scopes.specs.declared.error.ResolveError.TheVariants.{UnknownName}
use Rattle.name_scopes.specs.declared.frames.Frame.{Frame}
use Rattle.name_scopes.specs.declared.frames.Tab.{Tab}
use Rattle.name_scopes.specs.declared.look.By.TheVariants as by
use Rattle.name_scopes.specs.declared.look.Fitting.{Fitting}
use Rattle.name_scopes.specs.declared.look.Fitting.TheVariants as fitted
use Rattle.name_scopes.specs.declared.look.Found.{Found}
use Rattle.name_scopes.specs.declared.look.Found.TheVariants as found
use Rattle.name_scopes.specs.declared.scope.OwnTable.{OwnTable}
use Rattle.name_scopes.specs.declared.scope.Scope.{Scope}
use Rattle.name_scopes.specs.Frames.{Frames, add, tab_at}
use Rattle.name_scopes.specs.Known.{Known, full, is_table, column_names, routine_of}
use Rattle.name_scopes.specs.Look.{fitting, seek}
use Rattle.name_scopes.specs.Outcomes.{Outcome}
use Rattle.name_scopes.specs.Single.{table, tab, as_table, joined, opened, is_function, function, has_name, has_param, param, beyond, column_found, column, own_column, has_column, qualifier_found, qualified, reference, only_reference, cells, all_cells, star, table_star_at, table_star}
use Rattle.cat_items.specs.Pieces.{IsResolved, of_reference, of_object, of_length, table_pieces, expr_pieces}
use Rattle.resolved_trees.specs.TreePieces.{select_item_pieces}
use Rattle.resolved_trees.specs.Named.{IsNamed, HaveColumns}
use Rattle.resolved_trees.proofs.Everies.{Every, every_append, every_at}
use Rattle.resolved_trees.proofs.Outcomes.{bound, ok_is, Named}
use Rattle.resolved_trees.proofs.PieceEquations.{pieces_Conjunction, pieces_Expr, pieces_Factor, pieces_Negation, pieces_Predicate, pieces_Sum, pieces_Term, pieces_of_Operand_Reference, pieces_of_SelectItem_Expr}

-- ---- references

abbrev Gives : {A : Type 0} → (A → Type 0) → Outcome A → Type 0
Gives {A} P o = (x : A) → o ≡ Ok x → P x

given : {A : Type 0} (P : A → Type 0) (x : A) → P x → Gives P (Ok x)
given P x p y e = subst P (ok_is x y e) p

refuses : {A : Type 0} (P : A → Type 0) (o : Outcome A) (why : Rattle.name_scopes.specs.declared.error.ResolveError.ResolveError) → o ≡ Err why → Gives P o
refuses P o why is x e = absurd (let odd : Err why ≡ Ok x = sym is ∙ e in cc)

gives_if : {A : Type 0} (P : A → Type 0) (b : Bool) (x y : Outcome A) → Gives P x → Gives P y → Gives P (if b then x else y)
gives_if P true x y h g = h
gives_if P false x y h g = g

abbrev Stands : Reference → Type 0
Stands r = IsResolved (of_reference r)

param_stands : (scope : Scope) (c : NameBytes) → Gives Stands (param scope c)
param_stands scope c = gives_if Stands (has_param c scope.params) _ _ (given Stands (references.Param c) tt) (refuses Stands _ _ refl)

beyond_stands : (scope : Scope) (c : NameBytes) (own : Option OwnTable) → Gives Stands (beyond scope c own)
beyond_stands scope c None = param_stands scope c
beyond_stands scope c (Some own) = gives_if Stands (has_name c own.names) _ _ (given Stands (references.Own own.table c) tt) (param_stands scope c)

cell_stands : (c : NameBytes) (up at : ℕ) (t : Option Tab) → Gives Stands (elim t [ None ↦ Err (UnknownName (c ∷ [])) | Some u ↦ Ok (references.Cell up at u.known c) ])
cell_stands c up at None = refuses Stands _ _ refl
cell_stands c up at (Some u) = given Stands (references.Cell up at u.known c) tt

column_found_stands : (scope : Scope) (c : NameBytes) (s : Frames) (f : Found) → Gives Stands (column_found scope c s f)
column_found_stands scope c s found.Missing = beyond_stands scope c scope.own
column_found_stands scope c s found.Twice = refuses Stands _ _ refl
column_found_stands scope c s (found.At up at) = cell_stands c up at (tab_at s up at)

column_stands : (k : Known) (scope : Scope) (c : NameBytes) (s : Frames) → Gives Stands (column k scope c s)
unfolding column
column_stands k scope c s = column_found_stands scope c s (seek k by.Column c 0 s)

own_column_stands : (q c : NameBytes) (own : Option OwnTable) → Gives Stands (own_column q c own)
own_column_stands q c None = refuses Stands _ _ refl
own_column_stands q c (Some own) = gives_if Stands _ _ _ (given Stands (references.Own own.table c) tt) (refuses Stands _ _ refl)

qualifier_found_stands : (k : Known) (scope : Scope) (q c : NameBytes) (s : Frames) (f : Found) → Gives Stands (qualifier_found k scope q c s f)
qualifier_found_stands k scope q c s found.Missing = own_column_stands q c scope.own
qualifier_found_stands k scope q c s found.Twice = refuses Stands _ _ refl
qualifier_found_stands k scope q c s (found.At up at) = gives_if Stands (has_column k c (tab_at s up at)) _ _ (given Stands (references.Cell up at q c) tt) (refuses Stands _ _ refl)

qualified_stands : (k : Known) (scope : Scope) (q c : NameBytes) (s : Frames) → Gives Stands (qualified k scope q c s)
unfolding qualified
qualified_stands k scope q c s = qualifier_found_stands k scope q c s (seek k by.Known q 0 s)

pub reference_stands : (k : Known) (scope : Scope) (r : Reference) (s : Frames) (out : Reference) → reference k scope r s ≡ Ok out → IsResolved (of_reference out)
reference_stands k scope (references.Unqualified c) s out e = column_stands k scope c s out e
reference_stands k scope (references.Qualified q c) s out e = qualified_stands k scope q c s out e
reference_stands k scope (references.Cell up at q c) s out e = given Stands (references.Cell up at q c) tt out e
reference_stands k scope (references.Own t c) s out e = given Stands (references.Own t c) tt out e
reference_stands k scope (references.Param c) s out e = given Stands (references.Param c) tt out e

pub function_stands : (k : Known) (scope : Scope) (name : ObjectName) (out : ObjectName) → function k scope name ≡ Ok out → IsNamed (of_object out)
unfolding function
function_stands k scope name out e = gives_if (λ o. IsNamed (of_object o)) (is_function (routine_of k scope (full scope name))) _ _ (given (λ o. IsNamed (of_object o)) _ tt) (refuses (λ o. IsNamed (of_object o)) _ _ refl) out e

-- ---- tables

abbrev pub IsKnown : Known → Tab → Type 0
IsKnown k t = is_some (k.columns t.table) ≡ true

abbrev pub AreKnown : Known → List Tab → Type 0
AreKnown k tabs = Every (IsKnown k) tabs

-- behind a table the FROM has a table
pub record Goes (k : Known) (outer after : Frames) : Type 0 where
  pub frame : Frame
  pub is : after ≡ frame ∷ outer
  pub known : AreKnown k frame.tables
  pub some : 0 < length frame.tables

table_known : (k : Known) (views : Bool) (o : Object) → is_table k views o ≡ true → is_some (k.columns o) ≡ true
table_known k true o e = e
table_known k false o e = by (k.is_view o) e
  where
    by : (b : Bool) → (if b then false else is_some (k.columns o)) ≡ true → is_some (k.columns o) ≡ true
    by true e = absurd (let odd : false ≡ true = e in cc)
    by false e = e

table_is : (k : Known) (scope : Scope) (name : ObjectName) (o : Object) → table k scope name ≡ Ok o → is_some (k.columns o) ≡ true
unfolding table
table_is k scope name o e = by (is_table k scope.views (full scope name)) refl e
  where
    by : (b : Bool) → is_table k scope.views (full scope name) ≡ b → (if b then Ok (full scope name) else Err (UnknownName ((full scope name).schema ∷ (full scope name).name ∷ []))) ≡ Ok o → is_some (k.columns o) ≡ true
    by true is e = subst (λ p. is_some (k.columns p) ≡ true) (ok_is (full scope name) o e) (table_known k scope.views (full scope name) is)
    by false is e = absurd (let odd : Err (UnknownName ((full scope name).schema ∷ (full scope name).name ∷ [])) ≡ Ok o = e in cc)

pushed_some : {A : Type 0} (xs : List A) (x : A) → 0 < length (xs ++ x ∷ [])
pushed_some [] x = omega arith
pushed_some (y ∷ xs) x = omega arith

pub joined_kept : (k : Known) (scope : Scope) (t : TableReference) (f : Frame) (fs : Frames) (out : TableReference) (after : Frames) → AreKnown k f.tables → joined k scope t (f ∷ fs) ≡ Ok (out, after) → Named (table_pieces out) × Goes k fs after
unfolding joined
joined_kept k scope t f fs out after known e =
    let b = bound (table k scope t.table) (λ o. Ok (as_table (tab t o), add (tab t o) (f ∷ fs))) (out, after) e in
    let pair : ◌≡◌ {A = TableReference × Frames} (as_table (tab t b.0), add (tab t b.0) (f ∷ fs)) (out, after) = ok_is _ _ b.2 in (
      subst (λ z. Named (table_pieces z)) (ap (λ p. p.0) pair) (tt, (tt, tt)),
      record {
        frame = record f { tables = f.tables ++ tab t b.0 ∷ [] };
        is = sym (ap (λ p. p.1) pair);
        known = every_append (IsKnown k) f.tables (tab t b.0 ∷ []) known (table_is k scope t.table b.0 b.1, tt);
        some = pushed_some f.tables (tab t b.0);
      },
    )

pub opened_kept : (k : Known) (scope : Scope) (t : TableReference) (f : Frame) (fs : Frames) (out : TableReference) (after : Frames) → AreKnown k f.tables → opened k scope t (f ∷ fs) ≡ Ok (out, after) → Named (table_pieces out) × Goes k fs after
opened_kept k scope t f fs out after known e = joined_kept k scope t (record f { skip = length f.tables }) fs out after known e

-- ---- stars

only_pieces : (r : Reference) → expr_pieces (only_reference r) ≡ of_length 1 ∷ of_length 1 ∷ of_reference r ∷ []
only_pieces r = search (rules, pieces_Conjunction, pieces_Expr, pieces_Factor, pieces_Negation, pieces_Predicate, pieces_Sum, pieces_Term, pieces_of_Operand_Reference)

abbrev pub NamedItem : SelectItem → Type 0
NamedItem i = Named (select_item_pieces i)

cell_named : (at : ℕ) (known c : NameBytes) → NamedItem (items.Expr (only_reference (references.Cell 0 at known c)) (Some c))
cell_named at known c = subst Named (sym (pieces_of_SelectItem_Expr (only_reference (references.Cell 0 at known c)) (Some c))) (tt, subst Named (sym (only_pieces (references.Cell 0 at known c))) (omega arith, (omega arith, (tt, tt))))

cells_named : (at : ℕ) (known : NameBytes) (cs : List NameBytes) → Every NamedItem (cells at known cs)
cells_named at known [] = tt
cells_named at known (c ∷ cs) = (cell_named at known c, cells_named at known cs)

cells_some : (at : ℕ) (known : NameBytes) (cs : List NameBytes) → 0 < length cs → 0 < length (cells at known cs)
cells_some at known [] low = absurd (omega (arith, low))
cells_some at known (c ∷ cs) low = omega arith

all_cells_named : (k : Known) (at : ℕ) (ts : List Tab) → Every NamedItem (all_cells k at ts)
all_cells_named k at [] = tt
all_cells_named k at (t ∷ ts) = every_append NamedItem (cells at t.known (column_names k t.table)) (all_cells k (at + 1) ts) (cells_named at t.known (column_names k t.table)) (all_cells_named k (at + 1) ts)

has_names : (k : Known) → HaveColumns k → (o : Object) → is_some (k.columns o) ≡ true → 0 < length (column_names k o)
has_names k wide o is = by (k.columns o) refl is
  where
    by : (c : Option (List Param)) → k.columns o ≡ c → is_some c ≡ true → 0 < length (map (λ (x : Param). x.name) (unwrap_or c []))
    by None e is = absurd (let odd : false ≡ true = is in cc)
    by (Some cs) e is = low cs (wide o cs e)
      where
        low : (cs : List Param) → 0 < length cs → 0 < length (map (λ (x : Param). x.name) cs)
        low [] l = absurd (omega (arith, l))
        low (c ∷ cs) l = omega arith

some_left : {A : Type 0} (xs ys : List A) → 0 < length xs → 0 < length (xs ++ ys)
some_left [] ys low = absurd (omega (arith, low))
some_left (x ∷ xs) ys low = omega arith

pub star_kept : (k : Known) → HaveColumns k → (f : Frame) (fs : Frames) (out : List SelectItem) → AreKnown k f.tables → 0 < length f.tables → star k (f ∷ fs) ≡ Ok out → Every NamedItem out × (0 < length out)
unfolding star
star_kept k wide f fs out known low e = subst (λ z. Every NamedItem z × (0 < length z)) (ok_is (all_cells k 0 f.tables) out e) (all_cells_named k 0 f.tables, some f.tables known low)
  where
    some : (ts : List Tab) → AreKnown k ts → 0 < length ts → 0 < length (all_cells k 0 ts)
    some [] known low = absurd (omega (arith, low))
    some (t ∷ ts) known low = some_left (cells 0 t.known (column_names k t.table)) (all_cells k 1 ts) (cells_some 0 t.known (column_names k t.table) (has_names k wide t.table known.0))

abbrev pub AreItems : List SelectItem → Type 0
AreItems out = Every NamedItem out × (0 < length out)

star_at : (k : Known) → HaveColumns k → (q : NameBytes) (at : ℕ) (ts : List Tab) (o : Option Tab) → slice_get ts at ≡ o → AreKnown k ts → Gives AreItems (elim o [ None ↦ Err (UnknownName (q ∷ [])) | Some t ↦ Ok (cells at t.known (column_names k t.table)) ])
star_at k wide q at ts None is known = refuses AreItems _ _ refl
star_at k wide q at ts (Some t) is known = given AreItems _ (cells_named at t.known (column_names k t.table), cells_some at t.known (column_names k t.table) (has_names k wide t.table (every_at (IsKnown k) ts at t known is)))

pub table_star_kept : (k : Known) → HaveColumns k → (q : NameBytes) (f : Frame) (fs : Frames) (out : List SelectItem) → AreKnown k f.tables → table_star k q (f ∷ fs) ≡ Ok out → Every NamedItem out × (0 < length out)
unfolding table_star
table_star_kept k wide q f fs out known e = cases (fitting k by.Known q f) out e
  where
    cases : (p : Fitting) → Gives AreItems (table_star_at k q f.tables p)
    cases fitted.Nowhere = refuses AreItems _ _ refl
    cases fitted.Several = refuses AreItems _ _ refl
    cases (fitted.One at) = star_at k wide q at f.tables (slice_get f.tables at) refl known
