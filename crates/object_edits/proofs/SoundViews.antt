-- Views are made soundly, with their columns.
use Rattle.std.proofs.Common.{◌≡◌, ◌⊎◌, inl, inr, ℕ, ◌<◌, ◌≤◌, ◌+◌, List, [], ◌∷◌, length, Option, Some, None, Ok, Err, get_or, refl, ap, sym, subst, ◌∙◌, arith}
use Rattle.std.specs.List.{Contains, slice_get}
use Rattle.std.proofs.lemmas.Bool.{cases_lt}
use Rattle.std.proofs.lemmas.Option.{slice_get_within, get_or_from_slice_get}
use Rattle.finite_chains.proofs.Members.{All-from_contains, Contains-nil}
use Rattle.sql_names.specs.NameBytes.{NameBytes, PathNames}
use Rattle.sql_names.specs.declared.object.Object.{Object}
use Rattle.sql_names.specs.declared.sort.SqlType.{SqlType}
use Rattle.sql_tree.specs.declared.expr.Query.{Query}
use Rattle.sql_tree.specs.declared.statement.CreateView.{CreateView}
use Rattle.sql_tree.specs.declared.statement.Statement.TheVariants as statements
use Rattle.name_scopes.specs.Outcomes.{Outcome}
use Rattle.query_types.specs.declared.whole.TypedQuery.{TypedQuery}
use Rattle.cat_items.specs.declared.edit.Edit.{Edit}
use Rattle.cat_items.specs.declared.edit.Refusal.TheVariants.{TypeMismatch}
use Rattle.cat_items.specs.declared.edit.Who.{Who}
use Rattle.cat_items.specs.declared.item.Column.{Column}
use Rattle.cat_items.specs.declared.item.View.{View}
use Rattle.cat_items.specs.declared.item.Item.{Item}
use Rattle.cat_items.specs.declared.item.Item.TheVariants as item
use Rattle.cat_items.specs.Good.{IsGood}
use Rattle.cat_items.specs.Needs.{AreNeeds, NeededByQuery}
use Rattle.cat_items.specs.Pieces.{AreResolved, IsResolved, IsType, default_pieces, query_pieces}
use Rattle.cat_items.specs.Plain.{Base, HasBase, base_of}
use Rattle.cat_items.specs.Reach.{Has}
use Rattle.cat_items.specs.Rights.{path_of, IsColumn, IsTable}
use Rattle.cat_items.specs.Shape.{NameSet, name_of}
use Rattle.edit_rules.specs.First.{First, Passes}
use Rattle.edit_rules.specs.Names.{object_in}
use Rattle.edit_rules.proofs.FirstLaws.{passes_first}
use Rattle.edit_laws.specs.Forms.{HasFreeName}
use Rattle.edit_laws.specs.Proper.{FitsDomain, IsProperBeside, IsProperItem}
use Rattle.edit_laws.specs.Sound.{IsSound}
use Rattle.edit_laws.proofs.FormLaws.{number_in, path_in, same_object}
use Rattle.edit_laws.proofs.GoodCatalogues.{column_table_stands}
use Rattle.statement_forms.specs.Written.{IsWritten}
use Rattle.statement_steps.specs.Steps.{MakesEdit, Nothing, where_it_is}
use Rattle.statement_steps.proofs.Additions.{needs_settled, sound_addition}
use Rattle.statement_steps.proofs.Repeats.{Differ}
use Rattle.statement_steps.proofs.StepLaws.{rules_pass}
use Rattle.object_edits.specs.CreatedViews.{IsColumnMade, IsMade, IsPartOfView, IsViewCreation, IsViewOf, column_of, create_view_refusals, creating_view, names_of, query_of, query_refusals}
use Rattle.object_edits.proofs.FormedViews.{IsFormedView, formed_view}

-- a query has one base
base_settled : (o : Option Base) (a b : Option Object) (x y : List NameBytes) → HasBase o a x → HasBase o b y → (a ≡ b) × (x ≡ y)
base_settled None a b x y p q = (p.0 ∙ sym q.0, p.1 ∙ sym q.1)
base_settled (Some plain) a b x y (inl p) (inl q) = (p.1 ∙ sym q.1, p.2 ∙ sym q.2)
base_settled (Some plain) a b x y (inl p) (inr q) = absurd (q.0 p.0)
base_settled (Some plain) a b x y (inr p) (inl q) = absurd (p.0 q.0)
base_settled (Some plain) a b x y (inr p) (inr q) = (p.1 ∙ sym q.1, p.2 ∙ sym q.2)

pub one_view : (view : Object) (query : Query) (x y : View) → IsViewOf view query x → IsViewOf view query y → x ≡ y
one_view view query x y p q =
    let names : x.view ≡ y.view = p.named ∙ sym q.named in
    let trees : x.query ≡ y.query = p.query_is ∙ sym q.query_is in
    let needs : x.needs ≡ y.needs = needs_settled (NeededByQuery y.query) x.needs y.needs (subst (λ (t : Query). AreNeeds x.needs (NeededByQuery t)) trees p.derived.0) q.derived.0 in
    let bases = base_settled (base_of y.query) x.base y.base x.base_columns y.base_columns (subst (λ (t : Query). HasBase (base_of t) x.base x.base_columns) trees p.derived.1) q.derived.1 in
    λ i. record { view = names i; query = trees i; needs = needs i; base = bases.0 i; base_columns = bases.1 i }

-- names that differ stand at one place
one_place : (names : List NameBytes) → Differ names → (i j : ℕ) (n : NameBytes) → slice_get names i ≡ Some n → slice_get names j ≡ Some n → i ≡ j
one_place names differ i j n p q = by (cases_lt i j) (cases_lt j i)
  where
    at : (k : ℕ) → slice_get names k ≡ Some n → get_or names k n ≡ n
    at k e = get_or_from_slice_get names k n n e

    by : (i < j) ⊎ (j ≤ i) → (j < i) ⊎ (i ≤ j) → i ≡ j
    by (inl low) other = absurd (differ i j n low (slice_get_within names j n q) (at i p ∙ sym (at j q)))
    by (inr a) (inl low) = absurd (differ j i n low (slice_get_within names i n p) (at j q ∙ sym (at i p)))
    by (inr a) (inr b) = omega (arith, a, b)

-- the member at a place is one
same_member : {X : Type 0} (xs : List X) (i j : ℕ) (x y : X) → slice_get xs i ≡ Some x → slice_get xs j ≡ Some y → i ≡ j → x ≡ y
same_member xs i j x y p q e = let both : Some x ≡ Some y = sym p ∙ ap (slice_get xs) e ∙ q in cc

-- columns of one place are one
pub one_at : (view : Object) (names : List NameBytes) (sorts : List SqlType) (x y : Column) (p : IsColumnMade view names sorts x) (q : IsColumnMade view names sorts y) → p.before ≡ q.before → x ≡ y
one_at view names sorts x y p q e =
    let n : p.name ≡ q.name = same_member names p.before q.before p.name q.name p.name_is q.name_is e in
    let s : p.sort ≡ q.sort = same_member sorts p.before q.before p.sort q.sort p.sort_is q.sort_is e in
    p.is ∙ (λ i. column_of view (n i) (s i) (e i + 1)) ∙ sym q.is

-- a view has a column
first_column : (view : Object) (names : List NameBytes) (sorts : List SqlType) → 0 < length names → length names ≡ length sorts → (x : Column) × IsColumnMade view names sorts x
first_column view (n ∷ names) (s ∷ sorts) some count = (column_of view n s 1, record { before = 0; name = n; sort = s; name_is = refl; sort_is = refl; is = refl })
first_column view (n ∷ names) [] some count = absurd (omega (arith, count))
first_column view [] sorts some count = absurd (omega (arith, some))

module _ (c : List Item) (view : Object) (names : List NameBytes) (typed : TypedQuery) (edit : Edit) (good : IsGood c) (formed : IsFormedView c view names typed)
    (is : MakesEdit c Nothing Nothing (IsPartOfView view names typed) edit) where
  abbrev all : List NameBytes
  all = names_of names typed

  one_column : (x y : Column) → IsColumnMade view all typed.sorts x → IsColumnMade view all typed.sorts y → x.name ≡ y.name → x ≡ y
  one_column x y p q e =
      let same : p.name ≡ y.name = sym (ap (λ (z : Column). z.name) p.is) ∙ e in
      let other : q.name ≡ y.name = sym (ap (λ (z : Column). z.name) q.is) in
      one_at view all typed.sorts x y p q (one_place all formed.differ p.before q.before y.name (p.name_is ∙ ap (λ n. Some n) same) (q.name_is ∙ ap (λ n. Some n) other))

  one_of : (a b : NameBytes) → a ∷ [] ≡ b ∷ [] → a ≡ b
  one_of a b e = cc

  one : (x y : Item) (n : NameSet × PathNames) → IsPartOfView view names typed x → IsPartOfView view names typed y → name_of x ≡ Some n → name_of y ≡ Some n → x ≡ y
  one (item.View x) (item.View y) n p q nx ny = ap item.View (one_view view typed.query x y p q)
  one (item.Column x) (item.Column y) n p q nx ny = ap item.Column (one_column x y p q (one_of x.name y.name (ap path_in (nx ∙ sym ny))))
  one (item.View x) (item.Column y) n p q nx ny = absurd (let odd : 2 ≡ 3 = ap number_in (nx ∙ sym ny) in omega (arith, odd))
  one (item.Column x) (item.View y) n p q nx ny = absurd (let odd : 3 ≡ 2 = ap number_in (nx ∙ sym ny) in omega (arith, odd))
  one x (item.View y) n p q nx ny = absurd p
  one x (item.Column y) n p q nx ny = absurd p
  one x y n p q nx ny = absurd q

  -- no column of such a table stands
  no_column : (y : Column) → Contains c (item.Column y) → y.table ≡ view → ⊥
  no_column y h e = formed.new (subst (λ (o : Object). Has c (IsTable (path_of o))) e (column_table_stands c good y h))

  table_is : (x : Column) → IsColumnMade view all typed.sorts x → x.table ≡ view
  table_is x p = ap (λ (z : Column). z.table) p.is

  no_such : (x : Column) → IsColumnMade view all typed.sorts x → (y : Item) → Contains c y → IsColumn (path_of x.table) x.name y → ⊥
  no_such x p (item.Column y) h s = no_column y h (same_object y.table x.table (sym s.0) ∙ table_is x p)
  no_such x p y h s = s

  free : (x : Item) → IsPartOfView view names typed x → HasFreeName c x
  free (item.View x) p = subst (λ (o : Object). ¬ (Has c (IsTable (path_of o)))) (sym p.named) formed.new
  free (item.Column x) p = λ s. no_such x p s.0 s.1 s.2
  free x p = absurd p

  sort_there : (x : Column) (p : IsColumnMade view all typed.sorts x) → Contains typed.sorts p.sort
  sort_there x p = (p.before, slice_get_within typed.sorts p.before p.sort p.sort_is, get_or_from_slice_get typed.sorts p.before p.sort p.sort p.sort_is)

  proper : (x : Item) → IsPartOfView view names typed x → IsProperItem x
  proper (item.View x) p = record { allowed = tt; derived = p.derived; lists = tt; trees = subst (λ (t : Query). AreResolved (query_pieces t)) (sym p.query_is) formed.resolved }
  proper (item.Column x) p = record {
    allowed = tt;
    derived = tt;
    lists = tt;
    trees = (
      subst (λ (z : Column). IsType z.sort) (sym p.is) (formed.types p.sort (sort_there x p)),
      subst (λ (z : Column). AreResolved (default_pieces z.default)) (sym p.is) (All-from_contains IsResolved [] (λ y h. absurd (Contains-nil y h))),
    );
  }
  proper x p = absurd p

  beside : (x : Item) → IsPartOfView view names typed x → IsProperBeside c edit x
  beside (item.View x) p =
      let first = first_column view all typed.sorts formed.some formed.count in
      (subst (λ (o : Object). ¬ (Has c (IsTable (path_of o)))) (sym p.named) formed.new, (item.Column first.0, inr ((is.added.members (item.Column first.0)).1 first.1), table_is first.0 first.1 ∙ sym p.named))
  beside (item.Column x) p = (subst (λ (z : Column). FitsDomain c edit z z.domain) (sym p.is) tt, λ old k t n. no_column old k.0 (t ∙ table_is x p))
  beside x p = absurd p

  sound_view : IsSound c edit
  sound_view = sound_addition c (IsPartOfView view names typed) edit is good one free proper beside

-- what comes to nothing is refused
pub sound_creation : (c : List Item) (who : Who) (s : CreateView) (edit : Edit) → IsGood c → IsWritten (statements.CreateView s) → Passes (First (create_view_refusals c who s)) → IsViewCreation c who s edit → IsSound c edit
sound_creation c who s edit good written passed is = by (query_of c who s.query) refl
  where
    view : Object
    view = object_in who.schema s.view

    by : (o : Outcome TypedQuery) → query_of c who s.query ≡ o → IsSound c edit
    by (Ok typed) e =
        sound_view c view s.columns typed edit good (formed_view c who s typed good written e passed) (subst (λ o. MakesEdit c Nothing Nothing (IsMade view s.columns o) edit) e is)
    by (Err error) e =
        absurd (passes_first (where_it_is (Unit {0}) TypeMismatch) [] (subst (λ o. Passes (First (query_refusals s.columns o))) e (rules_pass c who (creating_view c view s.columns (query_of c who s.query)) passed)) TypeMismatch (tt, refl))
