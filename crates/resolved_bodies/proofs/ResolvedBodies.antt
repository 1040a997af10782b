-- What resolves of a body is resolved: act by act, value by value.
use Rattle.std.proofs.Common.{◌≡◌, ◌<◌, Bool, true, false, ◌&&◌, List, [], ◌∷◌, ◌++◌, Option, Some, None, Ok, Err, length, map, arith, ap, sym, ◌∙◌, subst, refl}
use Rattle.std.specs.Prelude.{if◌then◌else◌, is_some, unwrap_or, flat_map}
use Rattle.std.proofs.lemmas.Bool.{eqb-true}
use Rattle.sql_names.specs.NameBytes.{NameBytes}
use Rattle.sql_names.specs.declared.object.Object.{Object}
use Rattle.sql_names.specs.declared.column.ObjectName.{ObjectName}
use Rattle.sql_names.specs.declared.column.ObjectName.TheVariants.{Qualified}
use Rattle.sql_names.specs.declared.sort.Param.{Param}
use Rattle.sql_names.specs.declared.sort.SqlType.{SqlType}
use Rattle.sql_tree.specs.declared.body.Body.{Body}
use Rattle.sql_tree.specs.declared.body.Body.TheVariants as bodies
use Rattle.sql_tree.specs.declared.body.Act.{Act}
use Rattle.sql_tree.specs.declared.body.Act.TheVariants as acts
use Rattle.sql_tree.specs.declared.body.InsertSource.{InsertSource}
use Rattle.sql_tree.specs.declared.body.InsertSource.TheVariants as sources
use Rattle.sql_tree.specs.declared.body.Assignment.{Assignment}
use Rattle.sql_tree.specs.declared.body.AssignedValue.{AssignedValue}
use Rattle.sql_tree.specs.declared.body.AssignedValue.TheVariants as values
use Rattle.sql_tree.specs.declared.expr.Expr.{Expr}
use Rattle.sql_tree.specs.declared.expr.Query.{Query}
use Rattle.name_scopes.specs.declared.error.ResolveError.TheVariants.{UnknownName, TypeMismatch}
use Rattle.name_scopes.specs.declared.scope.Scope.{Scope}
use Rattle.name_scopes.specs.declared.scope.Signature.{Signature}
use Rattle.name_scopes.specs.Known.{Known, column_names, full, is_table, path_of, routine_of, sort_of}
use Rattle.name_scopes.specs.Outcomes.{Outcome, ◌>>=◌}
use Rattle.name_scopes.specs.Single.{table, procedure, is_procedure}
use Rattle.query_names.specs.Names as query_names
use Rattle.type_rules.specs.TypeParts.{boolean, param_sorts, routine}
use Rattle.query_types.specs.Whole.{expr_type, query_types, typed_expr, typed_query, resolved_expr, resolved_query}
use Rattle.cat_items.specs.Pieces.{Pieces, IsResolved, IsFormed, AreResolved, of_object, some_pieces, expr_pieces, query_pieces, value_pieces, source_pieces, filter_pieces, act_pieces, body_pieces}
use Rattle.resolved_trees.specs.Named.{HaveColumns}
use Rattle.resolved_trees.proofs.Everies.{Every, every_append, every_left, every_right, every_to, every_from, gather, spread}
use Rattle.resolved_trees.proofs.Outcomes.{Formed, bound, ok_is, some_mapped}
use Rattle.resolved_trees.proofs.Resolved.{query_resolved, expr_resolved}
use Rattle.routine_deps.specs.BodyNames as names
use Rattle.routine_deps.specs.BodyTypes as types
use Rattle.routine_deps.specs.Bodies.{resolved_body}
use Rattle.routine_forms.specs.Formed.{IsFormedAct, IsFormedBody}
use Rattle.resolved_bodies.proofs.InOrder.{come, come_length, come_every}

abbrev Stand : Pieces → Type 0
Stand pieces = Every IsResolved pieces

both_true : (a b : Bool) → (a && b) ≡ true → (a ≡ true) × (b ≡ true)
both_true true b e = (refl, e)
both_true false b e = absurd (let odd : false ≡ true = e in cc)

-- ---- types that are there

has_class : (wanted sort : Option SqlType) → types.fits wanted sort ≡ true → (t : SqlType) × (sort ≡ Some t)
has_class (Some w) (Some t) e = (t, refl)
has_class (Some w) None e = absurd (let odd : false ≡ true = e in cc)
has_class None sort e = absurd (let odd : false ≡ true = e in cc)

is_boolean_type : (sort : Option SqlType) → boolean sort ≡ true → (t : SqlType) × (sort ≡ Some t)
is_boolean_type (Some t) e = (t, refl)
is_boolean_type None e = absurd (let odd : false ≡ true = e in cc)

module _ (k : Known) (scope : Scope) where
  abbrev HasType : Expr → Type 0
  HasType e = (t : SqlType) × (expr_type k scope e ≡ Some t)

  abbrev ValueHasType : AssignedValue → Type 0
  ValueHasType (values.Expr e) = HasType e
  ValueHasType value = Unit {0}

  value_typed : (wanted : Option SqlType) (v : AssignedValue) → types.value_fits k scope wanted v ≡ true → ValueHasType v
  value_typed wanted values.Null e = tt
  value_typed wanted values.Default e = tt
  value_typed wanted (values.Expr x) e = has_class wanted (expr_type k scope x) e

  values_matched : (o : Object) (cs : List NameBytes) (vs : List AssignedValue) → length cs ≡ length vs → types.values_match k scope o cs vs ≡ true → Every ValueHasType vs
  values_matched o cs [] same e = tt
  values_matched o [] (v ∷ vs) same e = absurd (omega (arith, same))
  values_matched o (c ∷ cs) (v ∷ vs) same e =
      let both = both_true (types.value_fits k scope (sort_of k o c) v) (types.values_match k scope o cs vs) e in
      let rest : length cs ≡ length vs = omega (arith, same) in
      (value_typed (sort_of k o c) v both.0, values_matched o cs vs rest both.1)

  values_typed : (o : Object) (cs : List NameBytes) (vs : List AssignedValue) → types.values_fit k scope o cs vs ≡ true → Every ValueHasType vs
  unfolding types.values_fit
  values_typed o cs vs e = let both = both_true _ (types.values_match k scope o cs vs) e in values_matched o cs vs (eqb-true (length cs) (length vs) both.0) both.1

  assignments_typed : (o : Object) (all : List Assignment) → types.assignments_fit k scope o all ≡ true → Every (λ a. ValueHasType a.value) all
  assignments_typed o [] e = tt
  assignments_typed o (a ∷ all) e =
      let both = both_true (types.value_fits k scope (sort_of k o a.column) a.value) (types.assignments_fit k scope o all) e in
      (value_typed (sort_of k o a.column) a.value both.0, assignments_typed o all both.1)

  arguments_matched : (ts : List SqlType) (es : List Expr) → length ts ≡ length es → types.arguments_match k scope ts es ≡ true → Every HasType es
  arguments_matched ts [] same e = tt
  arguments_matched [] (x ∷ es) same e = absurd (omega (arith, same))
  arguments_matched (t ∷ ts) (x ∷ es) same e =
      let both = both_true (types.fits (Some t) (expr_type k scope x)) (types.arguments_match k scope ts es) e in
      let rest : length ts ≡ length es = omega (arith, same) in
      (has_class (Some t) (expr_type k scope x) both.0, arguments_matched ts es rest both.1)

  arguments_typed : (ts : List SqlType) (es : List Expr) → types.arguments_fit k scope ts es ≡ true → Every HasType es
  unfolding types.arguments_fit
  arguments_typed ts es e = let both = both_true _ (types.arguments_match k scope ts es) e in arguments_matched ts es (eqb-true (length ts) (length es) both.0) both.1

  called_typed : (f : Option Signature) (es : List Expr) → types.called_fits k scope f es ≡ true → Every HasType es
  called_typed None es e = absurd (let odd : false ≡ true = e in cc)
  called_typed (Some f) es e = arguments_typed (param_sorts f) es e

  query_typed : (o : Object) (cs : List NameBytes) (ts : Option (List SqlType)) → types.query_fits k o cs ts ≡ true → (sorts : List SqlType) × (ts ≡ Some sorts)
  query_typed o cs None e = absurd (let odd : false ≡ true = e in cc)
  query_typed o cs (Some sorts) e = (sorts, refl)

-- ---- parts of acts

module _ (k : Known) (wide : HaveColumns k) where
  module _ (scope : Scope) where
    expr_stands : (x y : Expr) → Formed (expr_pieces x) → names.argument k scope x ≡ Ok y → HasType k scope y → Stand (expr_pieces y)
    unfolding resolved_expr
    expr_stands x y formed named typed =
        every_from IsResolved (expr_pieces y) (expr_resolved k scope wide x (record { expr = y; sort = typed.0 }) (every_to IsFormed (expr_pieces x) formed)
        (ap (λ (o : Outcome Expr). o >>= λ z. typed_expr z (expr_type k scope z)) named ∙ ap (typed_expr y) typed.1))

    query_stands : (x y : Query) → Formed (query_pieces x) → query_names.query k scope x [] ≡ Ok y → (sorts : List SqlType) × (query_types k scope y ≡ Some sorts) → Stand (query_pieces y)
    unfolding resolved_query
    query_stands x y formed named typed =
        every_from IsResolved (query_pieces y) (query_resolved k scope wide x (record { query = y; sorts = typed.0 }) (every_to IsFormed (query_pieces x) formed)
        (ap (λ (o : Outcome Query). o >>= λ z. typed_query z (query_types k scope z)) named ∙ ap (typed_query y) typed.1))

    value_stands : (x y : AssignedValue) → names.value k scope x ≡ Ok y → Formed (value_pieces x) → ValueHasType k scope y → Stand (value_pieces y)
    value_stands values.Null y e formed typed = subst (λ z. Stand (value_pieces z)) (ok_is values.Null y e) tt
    value_stands values.Default y e formed typed = subst (λ z. Stand (value_pieces z)) (ok_is values.Default y e) tt
    value_stands (values.Expr x) y e formed typed =
        let b = bound (names.argument k scope x) (λ z. Ok (values.Expr z)) y e in
        let is = ok_is (values.Expr b.0) y b.2 in
        subst (λ z. Stand (value_pieces z)) is (expr_stands x b.0 formed b.1 (subst (ValueHasType k scope) (sym is) typed))

    filter_stands : (x y : Option Expr) → names.optional k scope x ≡ Ok y → Formed (filter_pieces x) → types.condition_fits k scope y ≡ true → Stand (filter_pieces y)
    filter_stands None y e formed fits = subst (λ z. Stand (filter_pieces z)) (ok_is None y e) tt
    filter_stands (Some x) y e formed fits =
        let b = bound (names.argument k scope x) (λ z. Ok (Some z)) y e in
        let is = ok_is (Some b.0) y b.2 in
        subst (λ z. Stand (filter_pieces z)) is (expr_stands x b.0 formed b.1 (is_boolean_type (expr_type k scope b.0) (subst (λ z. types.condition_fits k scope z ≡ true) (sym is) fits)))

    assignment_stands : (o : Object) (x y : Assignment) → names.assignment k scope o x ≡ Ok y → Formed (value_pieces x.value) → ValueHasType k scope y.value → Stand (value_pieces y.value)
    assignment_stands o x y e formed typed =
        let b = bound (names.target_column k o x.column) (λ c. names.value k scope x.value >>= λ v. Ok (record { column = c; value = v })) y e in
        let d = bound (names.value k scope x.value) (λ v. Ok (record { column = b.0; value = v })) y b.2 in
        let is : d.0 ≡ y.value = ap (λ (a : Assignment). a.value) (ok_is (record { column = b.0; value = d.0 }) y d.2) in
        value_stands x.value y.value (d.1 ∙ ap Ok is) formed typed

    source_stands : (o : Object) (cs : List NameBytes) (x y : InsertSource) → names.source k scope x ≡ Ok y → Formed (source_pieces x) → types.source_fits k scope o cs y ≡ true → Stand (source_pieces y)
    source_stands o cs (sources.Values xs) y e formed fits =
        let b = bound (names.in_order (names.value k scope) [] xs) (λ vs. Ok (sources.Values vs)) y e in
        let is = ok_is (sources.Values b.0) y b.2 in
        let all = come (names.value k scope) xs b.0 b.1 in
        let typed = values_typed k scope o cs b.0 (subst (λ z. types.source_fits k scope o cs z ≡ true) (sym is) fits) in
        let each = come_every (names.value k scope) (λ v. Formed (value_pieces v)) (ValueHasType k scope) (λ v. Stand (value_pieces v)) value_stands xs b.0 all (spread IsFormed value_pieces xs formed.1) typed in
        subst (λ z. Stand (source_pieces z)) is (some_mapped value_pieces xs b.0 (come_length (names.value k scope) xs b.0 all) formed.0, gather IsResolved value_pieces b.0 each)
    source_stands o cs (sources.Query x) y e formed fits =
        let b = bound (query_names.query k scope x []) (λ q. Ok (sources.Query q)) y e in
        let is = ok_is (sources.Query b.0) y b.2 in
        subst (λ z. Stand (source_pieces z)) is (query_stands x b.0 formed b.1 (query_typed k scope o cs (query_types k scope b.0) (subst (λ z. types.source_fits k scope o cs z ≡ true) (sym is) fits)))

    arguments_stand : (xs ys : List Expr) → names.in_order (names.argument k scope) [] xs ≡ Ok ys → Formed (flat_map expr_pieces xs) → Every (HasType k scope) ys → Stand (flat_map expr_pieces ys)
    arguments_stand xs ys e formed typed =
        joined ys (come_every (names.argument k scope) (λ x. Formed (expr_pieces x)) (HasType k scope) (λ y. Stand (expr_pieces y)) (λ x y named f t. expr_stands x y f named t) xs ys (come (names.argument k scope) xs ys e) (parted xs formed) typed)
      where
        parted : (xs : List Expr) → Formed (flat_map expr_pieces xs) → Every (λ x. Formed (expr_pieces x)) xs
        parted [] f = tt
        parted (x ∷ xs) f = (every_left IsFormed (expr_pieces x) (flat_map expr_pieces xs) f, parted xs (every_right IsFormed (expr_pieces x) (flat_map expr_pieces xs) f))

        joined : (ys : List Expr) → Every (λ y. Stand (expr_pieces y)) ys → Stand (flat_map expr_pieces ys)
        joined [] s = tt
        joined (y ∷ ys) s = every_append IsResolved (expr_pieces y) (flat_map expr_pieces ys) s.0 (joined ys s.1)

    assignments_stand : (o : Object) (xs ys : List Assignment) → names.in_order (names.assignment k scope o) [] xs ≡ Ok ys → Formed (some_pieces (map (λ (a : Assignment). value_pieces a.value) xs)) → types.assignments_fit k scope o ys ≡ true → Stand (some_pieces (map (λ (a : Assignment). value_pieces a.value) ys))
    assignments_stand o xs ys e formed fits =
        let part : Assignment → Pieces = λ a. value_pieces a.value in
        let all = come (names.assignment k scope o) xs ys e in
        let each = come_every (names.assignment k scope o) (λ a. Formed (value_pieces a.value)) (λ a. ValueHasType k scope a.value) (λ a. Stand (value_pieces a.value)) (assignment_stands o) xs ys all (spread IsFormed part xs formed.1) (assignments_typed k scope o ys fits) in
        (some_mapped part xs ys (come_length (names.assignment k scope o) xs ys all) formed.0, gather IsResolved part ys each)

  -- ---- names of an act

  procedure_stands : (scope : Scope) (name out : ObjectName) → procedure k scope name ≡ Ok out → IsResolved (of_object out)
  unfolding procedure
  procedure_stands scope name out e = by (is_procedure (routine_of k scope (full scope name))) e
    where
      by : (b : Bool) → (if b then Ok (Qualified (full scope name)) else Err (UnknownName (path_of (full scope name)))) ≡ Ok out → IsResolved (of_object out)
      by true e = subst (λ z. IsResolved (of_object z)) (ok_is (Qualified (full scope name)) out e) tt
      by false e = absurd (let odd : ◌≡◌ {A = Outcome ObjectName} (Err (UnknownName (path_of (full scope name)))) (Ok out) = e in cc)

  table_known : (views : Bool) (o : Object) → is_table k views o ≡ true → is_some (k.columns o) ≡ true
  table_known true o e = e
  table_known false o e = by (k.is_view o) e
    where
      by : (b : Bool) → (if b then false else is_some (k.columns o)) ≡ true → is_some (k.columns o) ≡ true
      by true e = absurd (let odd : false ≡ true = e in cc)
      by false e = e

  table_stands : (scope : Scope) (name : ObjectName) (o : Object) → table k scope name ≡ Ok o → is_some (k.columns o) ≡ true
  unfolding table
  table_stands scope name o e = by (is_table k scope.views (full scope name)) refl e
    where
      by : (b : Bool) → is_table k scope.views (full scope name) ≡ b → (if b then Ok (full scope name) else Err (UnknownName (path_of (full scope name)))) ≡ Ok o → is_some (k.columns o) ≡ true
      by true is e = subst (λ p. is_some (k.columns p) ≡ true) (ok_is (full scope name) o e) (table_known scope.views (full scope name) is)
      by false is e = absurd (let odd : ◌≡◌ {A = Outcome Object} (Err (UnknownName (path_of (full scope name)))) (Ok o) = e in cc)

  has_names : (o : Object) → is_some (k.columns o) ≡ true → 0 < length (column_names k o)
  has_names o is = by (k.columns o) refl is
    where
      low : (cs : List Param) → 0 < length cs → 0 < length (map (λ (x : Param). x.name) cs)
      low [] l = absurd (omega (arith, l))
      low (c ∷ cs) l = omega arith

      by : (c : Option (List Param)) → k.columns o ≡ c → is_some c ≡ true → 0 < length (map (λ (x : Param). x.name) (unwrap_or c []))
      by None e is = absurd (let odd : false ≡ true = is in cc)
      by (Some cs) e is = low cs (wide o cs e)

  columns_stand : (o : Object) (cs ds : List NameBytes) → is_some (k.columns o) ≡ true → names.insert_columns k o cs ≡ Ok ds → 0 < length ds
  columns_stand o [] ds is e = subst (λ l. 0 < length l) (ok_is (column_names k o) ds e) (has_names o is)
  columns_stand o (c ∷ cs) ds is e = let same = come_length (names.target_column k o) (c ∷ cs) ds (come (names.target_column k o) (c ∷ cs) ds e) in omega (arith, same)

  -- ---- acts

  inserted_stands : (scope : Scope) (o : Object) (cs : List NameBytes) (x : InsertSource) (y : Act) → is_some (k.columns o) ≡ true → names.inserted k scope cs x o ≡ Ok y → Formed (source_pieces x) → types.act_fits k scope y ≡ true → Stand (act_pieces y)
  inserted_stands scope o cs x y is e formed fits =
      let b = bound (names.insert_columns k o cs) (λ ds. names.source k scope x >>= λ s. Ok (acts.Insert (Qualified o) ds s)) y e in
      let d = bound (names.source k scope x) (λ s. Ok (acts.Insert (Qualified o) b.0 s)) y b.2 in
      let same = ok_is (acts.Insert (Qualified o) b.0 d.0) y d.2 in
      subst (λ z. Stand (act_pieces z)) same (tt, (columns_stand o cs b.0 is b.1, source_stands scope o b.0 x d.0 d.1 formed (subst (λ z. types.act_fits k scope z ≡ true) (sym same) fits)))

  updated_stands : (scope : Scope) (o : Object) (xs : List Assignment) (filter : Option Expr) (y : Act) → names.updated k scope xs filter o ≡ Ok y → Formed (some_pieces (map (λ (a : Assignment). value_pieces a.value) xs)) → Formed (filter_pieces filter) → types.act_fits k scope y ≡ true → Stand (act_pieces y)
  updated_stands scope o xs filter y e formed formed_filter fits =
      let inner = names.with_own k o scope in
      let b = bound (names.in_order (names.assignment k inner o) [] xs) (λ as'. names.optional k inner filter >>= λ f. Ok (acts.Update (Qualified o) as' f)) y e in
      let d = bound (names.optional k inner filter) (λ f. Ok (acts.Update (Qualified o) b.0 f)) y b.2 in
      let same = ok_is (acts.Update (Qualified o) b.0 d.0) y d.2 in
      let both = both_true (types.assignments_fit k inner o b.0) (types.condition_fits k inner d.0) (subst (λ z. types.act_fits k scope z ≡ true) (sym same) fits) in
      let set = assignments_stand inner o xs b.0 b.1 formed both.0 in
      subst (λ z. Stand (act_pieces z)) same
      (every_append IsResolved (of_object (Qualified o) ∷ some_pieces (map (λ (a : Assignment). value_pieces a.value) b.0)) (filter_pieces d.0) (tt, set) (filter_stands inner filter d.0 d.1 formed_filter both.1))

  deleted_stands : (scope : Scope) (o : Object) (filter : Option Expr) (y : Act) → names.deleted k scope filter o ≡ Ok y → Formed (filter_pieces filter) → types.act_fits k scope y ≡ true → Stand (act_pieces y)
  deleted_stands scope o filter y e formed fits =
      let inner = names.with_own k o scope in
      let b = bound (names.optional k inner filter) (λ f. Ok (acts.Delete (Qualified o) f)) y e in
      let same = ok_is (acts.Delete (Qualified o) b.0) y b.2 in
      subst (λ z. Stand (act_pieces z)) same (tt, filter_stands inner filter b.0 b.1 formed (subst (λ z. types.act_fits k scope z ≡ true) (sym same) fits))

  called_stands : (scope : Scope) (f : ObjectName) (xs : List Expr) (y : Act) → IsResolved (of_object f) → names.called k scope xs f ≡ Ok y → Formed (flat_map expr_pieces xs) → types.act_fits k scope y ≡ true → Stand (act_pieces y)
  called_stands scope f xs y is e formed fits =
      let b = bound (names.in_order (names.argument k scope) [] xs) (λ es. Ok (acts.Call f es)) y e in
      let same = ok_is (acts.Call f b.0) y b.2 in
      subst (λ z. Stand (act_pieces z)) same (is, arguments_stand scope xs b.0 b.1 formed (called_typed k scope (routine k scope f) b.0 (subst (λ z. types.act_fits k scope z ≡ true) (sym same) fits)))

  act_stands : (scope : Scope) (x y : Act) → names.act k scope x ≡ Ok y → IsFormedAct x → types.act_fits k scope y ≡ true → Stand (act_pieces y)
  act_stands scope (acts.Insert t cs s) y e formed fits =
      let b = bound (table k scope t) (names.inserted k scope cs s) y e in
      inserted_stands scope b.0 cs s y (table_stands scope t b.0 b.1) b.2 (every_from IsFormed (source_pieces s) formed) fits
  act_stands scope (acts.Update t xs filter) y e formed fits =
      let b = bound (table k scope t) (names.updated k scope xs filter) y e in
      let front = of_object t ∷ some_pieces (map (λ (a : Assignment). value_pieces a.value) xs) in
      let all = every_from IsFormed (front ++ filter_pieces filter) formed in
      updated_stands scope b.0 xs filter y b.2 (every_left IsFormed front (filter_pieces filter) all).1 (every_right IsFormed front (filter_pieces filter) all) fits
  act_stands scope (acts.Delete t filter) y e formed fits =
      let b = bound (table k scope t) (names.deleted k scope filter) y e in
      deleted_stands scope b.0 filter y b.2 (every_from IsFormed (of_object t ∷ filter_pieces filter) formed).1 fits
  act_stands scope (acts.Call f xs) y e formed fits =
      let b = bound (procedure k scope f) (names.called k scope xs) y e in
      called_stands scope b.0 xs y (procedure_stands scope f b.0 b.1) b.2 (every_from IsFormed (of_object f ∷ flat_map expr_pieces xs) formed).1 fits

  acts_fit : (scope : Scope) (all : List Act) → types.all_fit k scope all ≡ true → Every (λ a. types.act_fits k scope a ≡ true) all
  acts_fit scope [] e = tt
  acts_fit scope (a ∷ all) e = let both = both_true (types.act_fits k scope a) (types.all_fit k scope all) e in (both.0, acts_fit scope all both.1)

  body_stands : (scope : Scope) (x y : Body) → IsFormedBody x → names.body k scope x ≡ Ok y → types.body_fits k scope y ≡ true → Stand (body_pieces y)
  body_stands scope (bodies.Return s x) y formed e fits =
      let b = bound (names.argument k scope x) (λ z. Ok (bodies.Return s z)) y e in
      let same = ok_is (bodies.Return s b.0) y b.2 in
      subst (λ z. Stand (body_pieces z)) same
      (expr_stands scope x b.0 (every_from IsFormed (expr_pieces x) formed) b.1 (has_class (types.returned scope.itself) (expr_type k scope b.0) (subst (λ z. types.body_fits k scope z ≡ true) (sym same) fits)))
  body_stands scope (bodies.Atomic s xs) y formed e fits =
      let b = bound (names.in_order (names.act k scope) [] xs) (λ as'. Ok (bodies.Atomic s as')) y e in
      let same = ok_is (bodies.Atomic s b.0) y b.2 in
      let all = come (names.act k scope) xs b.0 b.1 in
      let fit = acts_fit scope b.0 (subst (λ z. types.body_fits k scope z ≡ true) (sym same) fits) in
      let each = come_every (names.act k scope) IsFormedAct (λ a. types.act_fits k scope a ≡ true) (λ a. Stand (act_pieces a)) (act_stands scope) xs b.0 all (every_from IsFormedAct xs formed.1) fit in
      let size = come_length (names.act k scope) xs b.0 all in
      subst (λ z. Stand (body_pieces z)) same (some_of b.0 (omega (arith, size, formed.0)), gather IsResolved act_pieces b.0 each)
    where
      some_of : (all : List Act) → 0 < length all → 0 < length (map act_pieces all)
      some_of [] low = absurd (omega (arith, low))
      some_of (a ∷ all) low = omega arith

fitting : (b : Bool) (x y : Body) → (if b then Ok x else Err TypeMismatch) ≡ Ok y → (x ≡ y) × (b ≡ true)
fitting true x y e = (ok_is x y e, refl)
fitting false x y e = absurd (let odd : ◌≡◌ {A = Outcome Body} (Err TypeMismatch) (Ok y) = e in cc)

pub body_resolved : (k : Known) (scope : Scope) → HaveColumns k → (x y : Body) → IsFormedBody x → resolved_body k scope x ≡ Ok y → AreResolved (body_pieces y)
unfolding resolved_body
body_resolved k scope wide x y formed e =
    let b = bound (names.body k scope x) (λ z. if types.body_fits k scope z then Ok z else Err TypeMismatch) y e in
    let fit = fitting (types.body_fits k scope b.0) b.0 y b.2 in
    subst (λ z. AreResolved (body_pieces z)) fit.0 (every_to IsResolved (body_pieces b.0) (body_stands k wide scope x b.0 formed b.1 fit.1))
