-- What passed tests and the grammar give of a table that is made.
use Rattle.std.proofs.Common.{◌≡◌, ℕ, true, false, List, [], ◌∷◌, map, Option, None, Some, refl, ap, sym, subst, ◌∙◌, inl, inr}
use Rattle.std.specs.List.{Contains}
use Rattle.finite_chains.proofs.Members.{Contains-nil, Contains-cases}
use Rattle.sql_names.specs.declared.object.Object.{Object}
use Rattle.sql_names.specs.declared.sort.Default.{Default}
use Rattle.sql_tree.specs.declared.table.ColumnDefinition.{ColumnDefinition}
use Rattle.sql_tree.specs.declared.table.ColumnType.{ColumnType}
use Rattle.sql_tree.specs.declared.table.ColumnType.TheVariants as bases
use Rattle.sql_tree.specs.declared.table.TableConstraint.{TableConstraint}
use Rattle.sql_tree.specs.declared.table.TableConstraintKind.{TableConstraintKind}
use Rattle.sql_tree.specs.declared.table.TableConstraintKind.TheVariants as kinds
use Rattle.cat_items.specs.declared.edit.Edit.{Edit}
use Rattle.cat_items.specs.declared.edit.Refusal.{Refusal}
use Rattle.cat_items.specs.declared.edit.Refusal.TheVariants.{NameExists, Repeated, UnknownName}
use Rattle.cat_items.specs.declared.edit.Who.{Who}
use Rattle.cat_items.specs.declared.item.Column.{Column}
use Rattle.cat_items.specs.declared.item.Domain.{Domain}
use Rattle.cat_items.specs.declared.item.Item.{Item}
use Rattle.cat_items.specs.declared.item.Item.TheVariants as item
use Rattle.cat_items.specs.declared.item.Key.{Key}
use Rattle.cat_items.specs.Good.{IsGood}
use Rattle.cat_items.specs.Pieces.{AreResolved, IsType, default_pieces}
use Rattle.cat_items.specs.Reach.{Has}
use Rattle.cat_items.specs.Rights.{path_of, IsBaseTable, IsDomain, IsTable}
use Rattle.cat_items.specs.Shape.{Differ}
use Rattle.edit_laws.specs.Proper.{FitsDomain, IsLeft, Leaves}
use Rattle.edit_laws.proofs.GoodCatalogues.{key_table_stands}
use Rattle.edit_rules.specs.First.{First, Passes, tests_of}
use Rattle.edit_rules.specs.Names.{IsConstraint, object_in, table_exists, unknown_schema}
use Rattle.edit_rules.proofs.FirstLaws.{passes_behind, passes_first, passes_front, passes_rest}
use Rattle.edit_rules.proofs.NameLemmas.{base_table_there}
use Rattle.statement_steps.specs.Steps.{MakesEdit, Nothing, Steps, refusals_of}
use Rattle.statement_steps.proofs.Repeats.{differ_without}
use Rattle.statement_steps.proofs.StepLaws.{names_pass, taken_passes, tree_passes}
use Rattle.table_parts.specs.declared.parts.Part.{Part}
use Rattle.table_parts.specs.declared.parts.Part.TheVariants as parts
use Rattle.table_parts.specs.Forms.{HasProperColumns, IsProperPart}
use Rattle.table_parts.specs.Marks.{MarksDiffer, marks_in}
use Rattle.table_parts.specs.Parts.{columns_of, constraints_of}
use Rattle.table_parts.proofs.Differing.{IsPrimary, column_names, one_primary, own_columns, own_list, target_columns}
use Rattle.table_parts.proofs.ListMembers.{one_of_pairs}
use Rattle.table_names.specs.declared.named.NamedConstraint.{NamedConstraint}
use Rattle.table_names.specs.Given.{given_names}
use Rattle.table_names.specs.Named.{AreConstraints, HaveOwnNames, IsFree}
use Rattle.table_names.specs.Refusals.{exists_in, taken_names, told}
use Rattle.table_names.proofs.OwnNames.{own_names}
use Rattle.table_work.specs.declared.work.Work.{Work}
use Rattle.table_work.specs.Columns.{domain_of}
use Rattle.table_work.specs.Keys.{beside, key_named, own_key}
use Rattle.table_work.specs.Seen.{keys_seen}
use Rattle.table_elements.specs.Names.{unknown_in_base, unknown_in_part, unknown_in_parts}
use Rattle.table_constraints.specs.Formed.{AreTested, HasForms, SeesKeysThatAreLeft}
use Rattle.table_constraints.proofs.ColumnLaws.{column_fits}
use Rattle.table_constraints.proofs.ConstraintLaws.{made_by, made_from, one_by_name}
use Rattle.table_constraints.proofs.KeysSeen.{own_from, seen_cases}
use Rattle.table_creation.specs.Tables.{IsTableMade, new_columns, steps_of_table, work_of, work_with}
use Rattle.table_creation.proofs.DomainTypes.{domain_stands, typed}
use Rattle.table_creation.proofs.NamedKinds.{AreNotBoth, column_part, constraint_part, name_given, named_from, primary_named}
use Rattle.table_creation.proofs.NewColumns.{definition_of}
use Rattle.table_creation.proofs.SoundTables.{IsFormedTable}
use Rattle.table_creation.proofs.WrittenTables.{IsFormedKind, IsFormedPart}

-- ---- tests that pass

passes_map : {X : Type 0} (test : X → Refusal → Type 0) (xs : List X) → Passes (First (map test xs)) → (x : X) → Contains xs x → Passes (test x)
passes_map test [] all x h = absurd (Contains-nil x h)
passes_map {X} test (y ∷ xs) all x h =
    elim (Contains-cases y xs x h) [
      | inl e ↦ subst (λ (z : X). Passes (test z)) e (passes_first (test y) (map test xs) all)
      | inr later ↦ passes_map test xs (passes_rest (test y) (map test xs) all) x later
    ]

passes_each : {X : Type 0} (tests : X → List (Refusal → Type 0)) (xs : List X) → Passes (First (tests_of tests xs)) → (x : X) → Contains xs x → Passes (First (tests x))
passes_each tests [] all x h = absurd (Contains-nil x h)
passes_each {X} tests (y ∷ xs) all x h =
    elim (Contains-cases y xs x h) [
      | inl e ↦ subst (λ (z : X). Passes (First (tests z))) e (passes_front (tests y) (tests_of tests xs) all)
      | inr later ↦ passes_each tests xs (passes_behind (tests y) (tests_of tests xs) all) x later
    ]

module _ (c : List Item) (who : Who) (table : Object) (all : List Part) (passed : Passes (First (refusals_of c who (steps_of_table c who table all)))) where
  abbrev s : Steps
  s = steps_of_table c who table all

  pub differ : MarksDiffer (marks_in all)
  differ =
      differ_without (marks_in all) (λ mark again. tree_passes c who s passed (Repeated (told table mark))
      (inl (mark, record { before = again.before; after = again.after; parts = again.parts; differ = again.differ; again = again.again }, refl)))

  taken : Passes (First (taken_names c table all))
  taken = taken_passes c who s passed

  -- no table or view has the name
  pub no_table : ¬ (Has c (IsTable (path_of table)))
  no_table h = passes_first (table_exists c table) (map (exists_in c table.schema) (given_names all)) taken (NameExists (path_of table)) (h, refl)

  -- no constraint has a name that is given
  given_is_new : (name : List ℕ) → Contains (given_names all) name → ¬ (Has c (IsConstraint (beside table name)))
  given_is_new name h has =
      passes_map (exists_in c table.schema) (given_names all) (passes_rest (table_exists c table) (map (exists_in c table.schema) (given_names all)) taken) name h (NameExists (path_of (beside table name))) (has, refl)

  -- the domain of a column stands
  pub domain_there : (d : ColumnDefinition) → Contains (columns_of all) d → (o : Object) → domain_of who d.sort ≡ Some o → Has c (IsDomain (path_of o))
  domain_there d h o e =
      let names : Passes (First (unknown_in_parts c who (work_with c who table all []) all)) =
      passes_rest (unknown_schema c table.schema) (unknown_in_parts c who (work_with c who table all []) all) (names_pass c who s passed) in
      let mine : Passes (First (unknown_in_part c who (work_with c who table all []) (parts.Column d))) =
      passes_each (unknown_in_part c who (work_with c who table all [])) all names (parts.Column d) (column_part all d h) in
      by d.sort mine e
    where
      by : (base : ColumnType) → Passes (First (unknown_in_base c who base)) → domain_of who base ≡ Some o → Has c (IsDomain (path_of o))
      by (bases.Type sort) p is = absurd (let odd : None ≡ Some o = is in cc)
      by (bases.Domain name) p is =
          let same : object_in who.schema name ≡ o = cc in
          subst (λ (z : Object). Has c (IsDomain (path_of z))) same
          (domain_stands (object_in who.schema name) c (λ none. p (UnknownName (path_of (object_in who.schema name))) (inl (none, refl))))

  abbrev FreeNames : List ℕ → Type 0
  FreeNames = IsFree c table.schema (given_names all)

  -- ---- constraints

  forms_of : (k : TableConstraint) → Contains (constraints_of all) k → (kind : TableConstraintKind) → k.kind ≡ kind → HasProperColumns kind → IsFormedKind kind → HasForms kind
  forms_of k h (kinds.PrimaryKey columns) e some formed = (some, subst (λ (kind : TableConstraintKind). Differ (own_list kind)) e (own_columns all k differ h))
  forms_of k h (kinds.Unique columns) e some formed = (some, subst (λ (kind : TableConstraintKind). Differ (own_list kind)) e (own_columns all k differ h))
  forms_of k h (kinds.ForeignKey columns references) e some formed =
      (some, subst (λ (kind : TableConstraintKind). Differ (own_list kind)) e (own_columns all k differ h), target_columns all k columns references differ h e)
  forms_of k h (kinds.Check condition) e some formed = formed

  -- they have own names
  pub own : (named : List NamedConstraint) → AreConstraints c table all named → HaveOwnNames named
  own named are = own_names c table all named differ are

  module _ (named : List NamedConstraint) (are : AreConstraints c table all named) (proper : (part : Part) → Contains all part → IsProperPart part) (formed : (part : Part) → Contains all part → IsFormedPart part) where
    free : (n : NamedConstraint) → Contains named n → ¬ (Has c (IsConstraint (beside table n.name)))
    free n h =
        let of = named_from FreeNames [] (constraints_of all) named are n h in
        elim of.3 [ inl given ↦ given_is_new n.name (name_given all of.0 n.name of.1 given) | inr other ↦ other.0 ]

    forms : (n : NamedConstraint) → Contains named n → HasForms n.kind
    forms n h =
        let of = named_from FreeNames [] (constraints_of all) named are n h in
        let there = constraint_part all of.0 of.1 in
        subst HasForms (sym of.2) (forms_of of.0 of.1 of.0.kind refl (proper (parts.Constraint of.0) there) (formed (parts.Constraint of.0) there))

    -- ---- keys

    columns_named : (name : List ℕ) (kind : TableConstraintKind) (k : Key) → key_named table name kind ≡ Some k → HasForms kind → Differ k.columns
    columns_named name (kinds.PrimaryKey columns) k e f =
        let made : Key = record { name = beside table name; table = table; primary = true; columns = columns } in
        let is : made ≡ k = cc in
        subst (λ (z : Key). Differ z.columns) is f.1
    columns_named name (kinds.Unique columns) k e f =
        let made : Key = record { name = beside table name; table = table; primary = false; columns = columns } in
        let is : made ≡ k = cc in
        subst (λ (z : Key). Differ z.columns) is f.1
    columns_named name kind k e f = absurd (let odd : None ≡ Some k = e in cc)

    primary_of : (name : List ℕ) (kind : TableConstraintKind) (k : Key) → key_named table name kind ≡ Some k → k.primary ≡ true → IsPrimary kind
    primary_of name (kinds.PrimaryKey columns) k e p = tt
    primary_of name (kinds.Unique columns) k e p =
        let made : Key = record { name = beside table name; table = table; primary = false; columns = columns } in
        let is : made ≡ k = cc in
        let odd : false ≡ true = ap (λ (z : Key). z.primary) is ∙ p in
        cc
    primary_of name kind k e p = absurd (let odd : None ≡ Some k = e in cc)

    abbrev w : Work
    w = work_of c who table all named

    key_lists : IsGood c → (t : Object) (k : Key) → Contains (keys_seen c w t) k → Differ k.columns
    key_lists good t k h = elim (seen_cases c w t k h) [
      | inl mine ↦ let of = (own_from table named k mine.1).1 in columns_named of.0.name of.0.kind k of.2 (forms of.0 of.1)
      | inr old ↦ (good.shape.lists (item.Key k) old.0).1
    ]

    no_key : IsGood c → (k : Key) → Contains c (item.Key k) → k.table ≡ table → ⊥
    no_key good k h e = no_table (base_table_there c table (subst (λ (t : Object). Has c (IsBaseTable t)) e (key_table_stands c good k h)))

    both_primary : (n m : NamedConstraint) (k other : Key) → Contains named n → Contains named m → own_key table n ≡ Some k → own_key table m ≡ Some other → k.primary ≡ true → other.primary ≡ true → other.name ≡ k.name
    both_primary n m k other h g e f p q =
        let one : IsPrimary n.kind = primary_of n.name n.kind k e p in
        let two : IsPrimary m.kind = primary_of m.name m.kind other f q in
        let same : n ≡ m =
        one_of_pairs AreNotBoth named (primary_named FreeNames (constraints_of all) named are (one_primary all differ)) n m h g (λ apart. apart one two) (λ apart. apart two one) in
        let both : Some other ≡ Some k = sym f ∙ ap (own_key table) (sym same) ∙ e in
        let keys : other ≡ k = cc in
        ap (λ (z : Key). z.name) keys

    module _ (edit : Edit) (good : IsGood c) (is : MakesEdit c Nothing Nothing (IsTableMade c who table all named) edit) where
      old_is_left : (x : Item) → Contains c x → IsLeft c edit x
      old_is_left x h = inl (h, λ t. ((is.target.members x).0 t).1, λ t. ((is.changed.members x).0 t).1)

      new_is_left : (x : Item) → IsTableMade c who table all named x → IsLeft c edit x
      new_is_left x p = inr ((is.added.members x).1 p)

      keys_left : SeesKeysThatAreLeft c edit w
      keys_left t k h = elim (seen_cases c w t k h) [
        | inl mine ↦
            let of = own_from table named k mine.1 in
            (of.0 ∙ sym mine.0, new_is_left (item.Key k) (made_from c who w named (item.Key k) of.1.0 of.1.1 of.1.2))
        | inr old ↦ (old.1, old_is_left (item.Key k) old.0)
      ]

      primary : (n : NamedConstraint) → Contains named n → (k : Key) → own_key table n ≡ Some k → k.primary ≡ true → (other : Key) → IsLeft c edit (item.Key other) → other.table ≡ table → other.primary ≡ true → other.name ≡ k.name
      primary n h k e p other left t q = elim left [
        | inl kept ↦ absurd (no_key good other kept.0 t)
        | inr added ↦ let of = made_by c who w named (item.Key other) ((is.added.members (item.Key other)).0 added) in both_primary n of.0 k other h of.1 e of.2 p q
      ]

      tested : AreTested c w named edit
      tested = record { free = free; forms = forms; own_names = one_by_name c who w named (own named are); keys = keys_left; key_lists = key_lists good; primary = primary }

      -- ---- columns

      column_typed : (x : Column) → Contains (new_columns c who table all) x → IsType x.sort × AreResolved (default_pieces x.default)
      column_typed x h =
          let of = definition_of c who table all 1 (columns_of all) x h in
          let forms = proper (parts.Column of.0) (column_part all of.0 of.1) in
          (subst IsType (sym of.2.sort) (typed c who of.0.sort good forms.0), subst (λ (o : Option Default). AreResolved (default_pieces o)) (sym of.2.default) forms.1)

      table_left : (x : Column) → x.table ≡ table → Leaves c edit (IsBaseTable x.table)
      table_left x e = (item.Table table, new_is_left (item.Table table) refl, sym e)

      column_based : (x : Column) → Contains (new_columns c who table all) x → FitsDomain c edit x x.domain
      column_based x h =
          let of = definition_of c who table all 1 (columns_of all) x h in
          subst (FitsDomain c edit x) (sym of.2.domain)
          (column_fits c who edit x of.0.sort (λ d k. old_is_left (item.Domain d) k) of.2.sort (λ o e. (domain_there of.0 of.1 o e, table_left x of.2.table_is)))

      pub formed_table : IsFormedTable c who table all named edit
      formed_table = record { new = no_table; own = own named are; columns = column_names all differ; constraints = tested; types = column_typed; domains = column_based }
