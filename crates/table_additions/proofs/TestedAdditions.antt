-- What passed tests and the grammar give of what ADD adds.
use Rattle.std.proofs.Common.{◌≡◌, ℕ, ◌+◌, true, List, [], ◌∷◌, map, Option, None, Some, refl, sym, subst, ◌∙◌, inl, inr}
use Rattle.std.specs.List.{Any, Contains}
use Rattle.finite_chains.proofs.Members.{Contains-cases, Contains-nil}
use Rattle.sql_names.specs.declared.object.Object.{Object}
use Rattle.sql_names.specs.declared.sort.Default.{Default}
use Rattle.sql_tree.specs.declared.table.ColumnDefinition.{ColumnDefinition}
use Rattle.sql_tree.specs.declared.table.ColumnType.{ColumnType}
use Rattle.sql_tree.specs.declared.table.ColumnType.TheVariants as bases
use Rattle.sql_tree.specs.declared.table.TableConstraint.{TableConstraint}
use Rattle.sql_tree.specs.declared.table.TableConstraintKind.{TableConstraintKind}
use Rattle.sql_tree.specs.declared.table.TableConstraintKind.TheVariants as kinds
use Rattle.cat_items.specs.declared.edit.Edit.{Edit}
use Rattle.cat_items.specs.declared.edit.Refusal.{Refusal}
use Rattle.cat_items.specs.declared.edit.Refusal.TheVariants.{NameExists, Repeated, UnknownName}
use Rattle.cat_items.specs.declared.edit.Who.{Who}
use Rattle.cat_items.specs.declared.item.Column.{Column}
use Rattle.cat_items.specs.declared.item.Item.{Item}
use Rattle.cat_items.specs.declared.item.Item.TheVariants as item
use Rattle.cat_items.specs.declared.item.Key.{Key}
use Rattle.cat_items.specs.Good.{IsGood}
use Rattle.cat_items.specs.Pieces.{AreResolved, IsType, default_pieces}
use Rattle.cat_items.specs.Reach.{Has}
use Rattle.cat_items.specs.Rights.{path_of, IsBaseTable, IsColumn, IsDomain}
use Rattle.cat_items.specs.Shape.{Differ}
use Rattle.edit_laws.specs.Proper.{FitsDomain, IsLeft, Leaves}
use Rattle.edit_rules.specs.First.{First, Passes, tests_of}
use Rattle.edit_rules.specs.Names.{IsConstraint, object_in, unknown_base_table}
use Rattle.edit_rules.proofs.FirstLaws.{passes_behind, passes_first, passes_front, passes_rest}
use Rattle.statement_steps.specs.Steps.{Steps, refusals_of}
use Rattle.statement_steps.proofs.StepLaws.{names_pass, taken_passes}
use Rattle.table_parts.specs.declared.parts.Part.{Part}
use Rattle.table_parts.specs.declared.parts.Part.TheVariants as parts
use Rattle.table_parts.specs.Marks.{MarksDiffer, marks_in}
use Rattle.table_parts.specs.Parts.{columns_of, constraints_of}
use Rattle.table_parts.proofs.Differing.{column_names, own_columns, own_list, target_columns}
use Rattle.table_names.specs.declared.named.NamedConstraint.{NamedConstraint}
use Rattle.table_names.specs.Given.{given_names}
use Rattle.table_names.specs.Named.{AreConstraints, IsFree}
use Rattle.table_names.specs.Refusals.{exists_in}
use Rattle.table_work.specs.declared.work.Work.{Work}
use Rattle.table_work.specs.Columns.{domain_of}
use Rattle.table_work.specs.Keys.{beside, own_key}
use Rattle.table_work.specs.Seen.{keys_seen}
use Rattle.table_elements.specs.Names.{unknown_in_base, unknown_in_part, unknown_in_parts}
use Rattle.table_constraints.specs.Formed.{AreTested, HasForms, SeesKeysThatAreLeft}
use Rattle.table_constraints.proofs.ColumnLaws.{column_fits}
use Rattle.table_constraints.proofs.ConstraintLaws.{made_by, one_by_name}
use Rattle.table_constraints.proofs.KeysSeen.{keys_from, seen_cases}
use Rattle.table_creation.proofs.DomainTypes.{domain_stands, typed}
use Rattle.table_creation.proofs.NamedKinds.{column_part, constraint_part, name_given, named_from}
use Rattle.table_creation.proofs.NewColumns.{definition_of}
use Rattle.table_additions.specs.Additions.{AddsParts, IsMadeNotNull, IsPrimaryKey, added_columns, added_work, column_taken, last_place, steps_of_parts}
use Rattle.table_additions.proofs.NamedTests.{differ_where_passed, one_primary_where_passed, own_names_where_passed}
use Rattle.table_additions.proofs.PrimaryKeys.{one_primary_made, own_key_among, standing_key_among}
use Rattle.table_additions.proofs.SoundAdditions.{AreFormed}
use Rattle.table_additions.proofs.Standing.{base_table_stands}
use Rattle.table_additions.proofs.WrittenAdditions.{IsWrittenKind, IsWrittenPart}

-- ---- tests that pass

passes_map : {X : Type 0} (test : X → Refusal → Type 0) (xs : List X) → Passes (First (map test xs)) → (x : X) → Contains xs x → Passes (test x)
passes_map test [] all x h = absurd (Contains-nil x h)
passes_map {X} test (y ∷ xs) all x h =
    elim (Contains-cases y xs x h) [
      | inl e ↦ subst (λ (z : X). Passes (test z)) e (passes_first (test y) (map test xs) all)
      | inr later ↦ passes_map test xs (passes_rest (test y) (map test xs) all) x later
    ]

passes_each : {X : Type 0} (tests : X → List (Refusal → Type 0)) (xs : List X) → Passes (First (tests_of tests xs)) → (x : X) → Contains xs x → Passes (First (tests x))
passes_each tests [] all x h = absurd (Contains-nil x h)
passes_each {X} tests (y ∷ xs) all x h =
    elim (Contains-cases y xs x h) [
      | inl e ↦ subst (λ (z : X). Passes (First (tests z))) e (passes_front (tests y) (tests_of tests xs) all)
      | inr later ↦ passes_each tests xs (passes_behind (tests y) (tests_of tests xs) all) x later
    ]

module _ (c : List Item) (who : Who) (table : Object) (all : List Part) (passed : Passes (First (refusals_of c who (steps_of_parts c who table all)))) where
  abbrev s : Steps
  s = steps_of_parts c who table all

  abbrev w : Work
  w = added_work c who table all

  differ : MarksDiffer (marks_in all)
  differ = differ_where_passed c who table all passed

  names : Passes (First (unknown_base_table c table ∷ unknown_in_parts c who w all))
  names = names_pass c who s passed

  -- the table is a base table
  stands : ¬ (¬ (Has c (IsBaseTable table)))
  stands none = passes_first (unknown_base_table c table) (unknown_in_parts c who w all) names (UnknownName (path_of table)) (none, refl)

  -- no column of it has the name of a new one
  column_is_new : (d : ColumnDefinition) → Contains (columns_of all) d → ¬ (Has c (IsColumn (path_of table) d.column))
  column_is_new d h has =
      passes_each (column_taken c table) all (passes_front (tests_of (column_taken c table) all) (map (exists_in c table.schema) (given_names all)) (taken_passes c who s passed)) (parts.Column d) (column_part all d h)
      (NameExists (table.schema ∷ table.name ∷ d.column ∷ [])) (inl (has, refl))

  -- no constraint has a name that is given
  given_is_new : (name : List ℕ) → Contains (given_names all) name → ¬ (Has c (IsConstraint (beside table name)))
  given_is_new name h has =
      passes_map (exists_in c table.schema) (given_names all) (passes_behind (tests_of (column_taken c table) all) (map (exists_in c table.schema) (given_names all)) (taken_passes c who s passed)) name h
      (NameExists (path_of (beside table name))) (has, refl)

  -- the domain of a column stands
  domain_there : (d : ColumnDefinition) → Contains (columns_of all) d → (o : Object) → domain_of who d.sort ≡ Some o → Has c (IsDomain (path_of o))
  domain_there d h o e =
      by d.sort (passes_each (unknown_in_part c who w) all (passes_rest (unknown_base_table c table) (unknown_in_parts c who w all) names) (parts.Column d) (column_part all d h)) e
    where
      by : (base : ColumnType) → Passes (First (unknown_in_base c who base)) → domain_of who base ≡ Some o → Has c (IsDomain (path_of o))
      by (bases.Type sort) p is = absurd (let odd : None ≡ Some o = is in cc)
      by (bases.Domain name) p is =
          let same : object_in who.schema name ≡ o = cc in
          subst (λ (z : Object). Has c (IsDomain (path_of z))) same
          (domain_stands (object_in who.schema name) c (λ none. p (UnknownName (path_of (object_in who.schema name))) (inl (none, refl))))

  -- ---- constraints

  abbrev FreeNames : List ℕ → Type 0
  FreeNames = IsFree c table.schema (given_names all)

  forms_of : (k : TableConstraint) → Contains (constraints_of all) k → (kind : TableConstraintKind) → k.kind ≡ kind → IsWrittenKind kind → HasForms kind
  forms_of k h (kinds.PrimaryKey columns) e written = (written, subst (λ (kind : TableConstraintKind). Differ (own_list kind)) e (own_columns all k differ h))
  forms_of k h (kinds.Unique columns) e written = (written, subst (λ (kind : TableConstraintKind). Differ (own_list kind)) e (own_columns all k differ h))
  forms_of k h (kinds.ForeignKey columns references) e written =
      (written, subst (λ (kind : TableConstraintKind). Differ (own_list kind)) e (own_columns all k differ h), target_columns all k columns references differ h e)
  forms_of k h (kinds.Check condition) e written = written

  module _ (named : List NamedConstraint) (are : AreConstraints c table all named) (written : (part : Part) → Contains all part → IsWrittenPart part) where
    free : (n : NamedConstraint) → Contains named n → ¬ (Has c (IsConstraint (beside table n.name)))
    free n h =
        let of = named_from FreeNames [] (constraints_of all) named are n h in
        elim of.3 [ inl given ↦ given_is_new n.name (name_given all of.0 n.name of.1 given) | inr other ↦ other.0 ]

    forms : (n : NamedConstraint) → Contains named n → HasForms n.kind
    forms n h =
        let of = named_from FreeNames [] (constraints_of all) named are n h in
        let there = constraint_part all of.0 of.1 in
        subst HasForms (sym of.2) (forms_of of.0 of.1 of.0.kind refl (written (parts.Constraint of.0) there))

    module _ (edit : Edit) (good : IsGood c) (is : AddsParts c who table all named edit) where
      -- all but the columns that become NOT NULL is left
      old_is_left : (x : Item) → ¬ (IsMadeNotNull table all x) → Contains c x → IsLeft c edit x
      old_is_left x other h = inl (h, λ t. other ((is.target.members x).0 t).1, λ t. ((is.changed.members x).0 t).1)

      -- ---- keys

      key_stands : (t : Object) (k : Key) → Contains (keys_seen c w t) k → Contains c (item.Key k) × (k.table ≡ t)
      key_stands t k h = elim (seen_cases c w t k h) [
        | inl mine ↦ let of = keys_from c table k mine.1 in (of.0, of.1 ∙ sym mine.0)
        | inr old ↦ old
      ]

      keys_left : SeesKeysThatAreLeft c edit w
      keys_left t k h = let old = key_stands t k h in (old.1, old_is_left (item.Key k) (λ none. none) old.0)

      key_lists : (t : Object) (k : Key) → Contains (keys_seen c w t) k → Differ k.columns
      key_lists t k h = (good.shape.lists (item.Key k) (key_stands t k h).0).1

      any_of : (keys : List Key) (k : Key) → Contains keys k → k.primary ≡ true → Any IsPrimaryKey keys
      any_of keys k h p = (h.0, k, h.1, h.2, p)

      none_stands : (n : NamedConstraint) (k other : Key) → Contains named n → own_key table n ≡ Some k → k.primary ≡ true → Contains c (item.Key other) → other.table ≡ table → other.primary ≡ true → ⊥
      none_stands n k other h e p old t q =
          one_primary_where_passed c who table all passed named are (Repeated (path_of table))
          ((any_of _ k (own_key_among table named n k h e) p, any_of _ other (standing_key_among c table other good old t) q), refl)

      primary : (n : NamedConstraint) → Contains named n → (k : Key) → own_key table n ≡ Some k → k.primary ≡ true → (other : Key) → IsLeft c edit (item.Key other) → other.table ≡ table → other.primary ≡ true → other.name ≡ k.name
      primary n h k e p other left t q = elim left [
        | inl kept ↦ absurd (none_stands n k other h e p kept.0 t q)
        | inr added ↦
            let of = made_by c who w named (item.Key other) ((is.added.members (item.Key other)).0 added) in
            one_primary_made c table all named differ are n of.0 k other h of.1 e of.2 p q
      ]

      tested : AreTested c w named edit
      tested = record {
        free = free;
        forms = forms;
        own_names = one_by_name c who w named (own_names_where_passed c who table all passed named are);
        keys = keys_left;
        key_lists = key_lists;
        primary = primary;
      }

      -- ---- columns

      column_free : (x : Column) → Contains (added_columns c who table all) x → ¬ (Has c (IsColumn (path_of table) x.name))
      column_free x h =
          let of = definition_of c who table all (last_place c table + 1) (columns_of all) x h in
          subst (λ (n : List ℕ). ¬ (Has c (IsColumn (path_of table) n))) (sym of.2.name) (column_is_new of.0 of.1)

      column_typed : (x : Column) → Contains (added_columns c who table all) x → IsType x.sort × AreResolved (default_pieces x.default)
      column_typed x h =
          let of = definition_of c who table all (last_place c table + 1) (columns_of all) x h in
          let forms = written (parts.Column of.0) (column_part all of.0 of.1) in
          (subst IsType (sym of.2.sort) (typed c who of.0.sort good forms.0), subst (λ (o : Option Default). AreResolved (default_pieces o)) (sym of.2.default) forms.1)

      base_left : (y : Item) → Contains c y → IsBaseTable table y → Leaves c edit (IsBaseTable table)
      base_left (item.Table t) h e = (item.Table t, old_is_left (item.Table t) (λ none. none) h, e)
      base_left y h e = absurd e

      table_left : (x : Column) → x.table ≡ table → Leaves c edit (IsBaseTable x.table)
      table_left x e = let base = base_table_stands table c stands in subst (λ (t : Object). Leaves c edit (IsBaseTable t)) (sym e) (base_left base.0 base.1 base.2)

      column_based : (x : Column) → Contains (added_columns c who table all) x → FitsDomain c edit x x.domain
      column_based x h =
          let of = definition_of c who table all (last_place c table + 1) (columns_of all) x h in
          subst (FitsDomain c edit x) (sym of.2.domain)
          (column_fits c who edit x of.0.sort (λ d k. old_is_left (item.Domain d) (λ none. none) k) of.2.sort (λ o e. (domain_there of.0 of.1 o e, table_left x of.2.table_is)))

      pub formed_addition : AreFormed c who table all named edit
      formed_addition = record {
        stands = stands;
        own = own_names_where_passed c who table all passed named are;
        constraints = tested;
        free = column_free;
        columns = column_names all differ;
        types = column_typed;
        domains = column_based;
      }
