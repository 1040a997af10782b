-- Routines and their parameters.
use Rattle.std.proofs.Common.{◌≡◌, ◌↔◌, inl, inr, refl, sym, ap, subst, ◌∙◌, ◌<◌, ◌≤◌, ◌+◌, ℕ, false, suc, List, [], ◌∷◌, Some, None, length, map, get_or, arith}
use Rattle.std.specs.Prelude.{slice_get}
use Rattle.std.specs.List.{Contains}
use Rattle.std.proofs.lemmas.Bool.{cases_lt}
use Rattle.std.proofs.lemmas.List.{get_or-map, length-map}
use Rattle.finite_chains.proofs.Members.{Contains-nil, Contains-head, Contains-cases}
use Rattle.sql_names.specs.declared.object.Object.{Object}
use Rattle.sql_names.specs.declared.sort.Param.{Param}
use Rattle.sql_tree.specs.declared.body.Security.{Security}
use Rattle.sql_tree.specs.declared.body.Security.TheVariants.{Definer, Invoker}
use Rattle.cat_items.specs.declared.item.Routine.{Routine}
use Rattle.cat_items.specs.declared.item.Item.{Item}
use Rattle.cat_items.specs.declared.item.Item.TheVariants as item
use Rattle.cat_items.specs.declared.row.Cell.TheVariants.{Number, Words}
use Rattle.cat_items.specs.Good.{IsGood}
use Rattle.cat_items.specs.Reach.{Has}
use Rattle.cat_items.specs.Rights.{path_of, IsRoutine, IsSchema, MeetsAll}
use Rattle.cat_items.specs.Shape.{Differ, routines}
use Rattle.cat_items.specs.Supported.{RoutineRests}
use Rattle.cat_items.specs.SystemRights.{security_of}
use Rattle.edit_laws.proofs.GoodCatalogues.{good_supports}
use Rattle.schema_tables.specs.declared.names.SchemaTable.{SchemaTable}
use Rattle.schema_tables.specs.declared.names.SchemaTable.TheVariants as t
use Rattle.schema_tables.specs.Cells.{Row}
use Rattle.schema_tables.specs.Shown.{Shown, ShownRoutine, of_routine}
use Rattle.schema_tables.specs.Sight.{IsShown, IsShownRoutine}
use Rattle.schema_tables.specs.TableRows.{Beside, rows, HasRow, numbered, parameter_row, parameters, routine_row}
use Rattle.definition_schema.specs.Keys.{values, owner, HasSome, IsAt, IsKey, Refers, Any}
use Rattle.definition_schema.specs.Constraints.{RoutinesHold}
use Rattle.definition_schema.specs.Definition.{AreDefinitionRows}
use Rattle.definition_schema.proofs.Lengths.{map_has, numbered_at, numbered_once, numbered_within, of_map}
use Rattle.definition_schema.proofs.Named.{IsNamed, none, one_object, same_item}
use Rattle.definition_schema.proofs.Positions.{same_path}
use Rattle.definition_schema.proofs.RowsOf.{only}
use Rattle.definition_schema.proofs.TablesAndViews.{schema_named}

abbrev whole : Routine → ShownRoutine
whole r = record { routine = r.routine; params = r.params; returns = r.returns; body = Some r.body }

is_whole : (c : List Item) (r : Routine) (s : ShownRoutine) → IsShownRoutine c None r s → s ≡ whole r
is_whole c r s p = λ i. record { routine = p.1 i; params = p.2 i; returns = p.3 i; body = p.4.0 tt i }

routine_rows_are : (c : List Item) (row : Row) → HasRow (IsShown c None) t.Routines row → (r : Routine) × Contains c (item.Routine r) × (row ≡ routine_row (whole r))
routine_rows_are c row h = by h.0 h.1 h.2 h.4
  where
    by : (s : Shown) (m : Beside) → IsShown c None s → Contains (rows t.Routines m s) row → (r : Routine) × Contains c (item.Routine r) × (row ≡ routine_row (whole r))
    by (of_routine s) m p k = (p.0, p.1, only _ _ k ∙ ap routine_row (is_whole c p.0 s p.2))
    by _ m p k = absurd (Contains-nil _ k)

record IsParameterRow (c : List Item) (row : Row) : Type 0 where
  routine : Routine
  stands : Contains c (item.Routine routine)
  number : ℕ
  param : Param
  at : Contains (numbered 1 routine.params) (number, param)
  is : row ≡ parameter_row routine.routine (number, param)

parameter_rows_are : (c : List Item) (row : Row) → HasRow (IsShown c None) t.Parameters row → IsParameterRow c row
parameter_rows_are c row h = by h.0 h.1 h.2 h.4
  where
    of : (r : Routine) → Contains c (item.Routine r) → Contains (parameters r.routine r.params) row → IsParameterRow c row
    of r here k =
        let p = of_map (parameter_row r.routine) (numbered 1 r.params) row k in
        record { routine = r; stands = here; number = p.0.0; param = p.0.1; at = p.1; is = sym p.2 }

    by : (s : Shown) (m : Beside) → IsShown c None s → Contains (rows t.Parameters m s) row → IsParameterRow c row
    by (of_routine s) m p k = of p.0 p.1 (subst (λ (z : ShownRoutine). Contains (parameters z.routine z.params) row) (is_whole c p.0 s p.2) k)
    by _ m p k = absurd (Contains-nil _ k)

-- where an element with a number stands
place_of : {X : Type 0} (m : ℕ) (xs : List X) (n : ℕ) (x : X) → Contains (numbered m xs) (n, x) → (k : ℕ) × (k < length xs) × (n ≡ m + k) × (get_or xs k x ≡ x)
place_of m [] n x h = absurd (Contains-nil (n, x) h)
place_of {X} m (y ∷ xs) n x h = elim (Contains-cases (m, y) (numbered (m + 1) xs) (n, x) h) [
  | inl e ↦ first m y xs n x e
  | inr more ↦ later m y xs n x (place_of (m + 1) xs n x more)
]
  where
    first : (m : ℕ) (y : X) (xs : List X) (n : ℕ) (x : X) → ◌≡◌ {A = ℕ × X} (m, y) (n, x) → (k : ℕ) × (k < length (y ∷ xs)) × (n ≡ m + k) × (get_or (y ∷ xs) k x ≡ x)
    first m y xs n x e = let same : m ≡ n = ap (λ (p : ℕ × X). p.0) e in (0, omega arith, omega (arith, same), ap (λ (p : ℕ × X). p.1) e)

    later : (m : ℕ) (y : X) (xs : List X) (n : ℕ) (x : X) → (k : ℕ) × (k < length xs) × (n ≡ m + 1 + k) × (get_or xs k x ≡ x) → (k : ℕ) × (k < length (y ∷ xs)) × (n ≡ m + k) × (get_or (y ∷ xs) k x ≡ x)
    later m y xs n x r = (suc r.0, omega (arith, r.1), omega (arith, r.2), r.3)

abbrev name_at : Param → List ℕ
name_at p = p.name

name_there : (ps : List Param) (k : ℕ) (p : Param) → k < length ps → get_or ps k p ≡ p → get_or (map name_at ps) k [] ≡ p.name
name_there ps k p within there = get_or-map name_at ps k p [] within ∙ ap name_at there

-- parameters whose names differ are told by them
one_number : (ps : List Param) (n m : ℕ) (p q : Param) → Differ (map name_at ps) → Contains (numbered 1 ps) (n, p) → Contains (numbered 1 ps) (m, q) → p.name ≡ q.name → n ≡ m
one_number ps n m p q differ here there e =
    let k = place_of 1 ps n p here in
    let l = place_of 1 ps m q there in
    let first = name_there ps k.0 p k.1 k.3 in
    let second = name_there ps l.0 q l.1 l.3 in
    elim (cases_lt k.0 l.0) [
      | inl less ↦ absurd (differ k.0 l.0 [] less (simp length-map (omega (arith, l.1))) (first ∙ e ∙ sym second))
      | inr more ↦ elim (cases_lt l.0 k.0) [
        | inl less ↦ absurd (differ l.0 k.0 [] less (simp length-map (omega (arith, k.1))) (second ∙ sym e ∙ sym first))
        | inr other ↦ omega (arith, more, other, k.2, l.2)
      ]
    ]

module _ (c : List Item) (good : IsGood c) (d : SchemaTable → List Row) (are : AreDefinitionRows c d) where
  of_routines : (a : Row) → Contains (d t.Routines) a → (r : Routine) × Contains c (item.Routine r) × (a ≡ routine_row (whole r))
  of_routines a is = routine_rows_are c a (((are t.Routines tt).members a).0 is)

  of_parameters : (a : Row) → Contains (d t.Parameters) a → IsParameterRow c a
  of_parameters a is = parameter_rows_are c a (((are t.Parameters tt).members a).0 is)

  routine_is : (r : Routine) → Contains c (item.Routine r) → Contains (d t.Routines) (routine_row (whole r))
  routine_is r here = ((are t.Routines tt).members (routine_row (whole r))).1 (of_routine (whole r), none, (r, here, (tt, refl, refl, refl, (λ h. refl, λ never. absurd (never tt)))), (refl, refl, refl), Contains-head (routine_row (whole r)) [])

  parameter_is : (r : Routine) → Contains c (item.Routine r) → (p : ℕ × Param) → Contains (numbered 1 r.params) p → Contains (d t.Parameters) (parameter_row r.routine p)
  parameter_is r here p at = ((are t.Parameters tt).members (parameter_row r.routine p)).1 (of_routine (whole r), none, (r, here, (tt, refl, refl, refl, (λ h. refl, λ never. absurd (never tt)))), (refl, refl, refl), map_has (parameter_row r.routine) (numbered 1 r.params) p at)

  routine_named_so : (a : Row) (r : Routine) → Contains c (item.Routine r) → a ≡ routine_row (whole r) → IsNamed c routines a (item.Routine r)
  routine_named_so a r here is = record { name = r.routine; stands = here; named = refl; at = ap (values (0 ∷ 1 ∷ [])) is }

  key : IsKey (d t.Routines) (0 ∷ 1 ∷ [])
  key a b here there e =
      let p = of_routines a here in
      let q = of_routines b there in
      let same = same_item c good routines a b (item.Routine p.0) (item.Routine q.0) (routine_named_so a p.0 p.1 p.2) (routine_named_so b q.0 q.1 q.2) e in
      let r : p.0 ≡ q.0 = cc in
      p.2 ∙ ap (λ z. routine_row (whole z)) r ∙ sym q.2

  schema_of_owner : (schema : List ℕ) (needs : _) (y : Item) → MeetsAll false c schema needs y → IsSchema schema y
  schema_of_owner schema needs (item.Schema x) h = h.0
  schema_of_owner schema needs _ h = absurd h

  in_schema : (r : Routine) (x : Security) → RoutineRests c r x → Has c (IsSchema r.routine.schema)
  in_schema r Definer h = (h.0, h.1, schema_of_owner r.routine.schema r.needs h.0 h.2)
  in_schema r Invoker h = h.0

  schema : Refers (d t.Routines) Any (0 ∷ []) (d t.Schemata) Any (0 ∷ [])
  schema a here any =
      let p = of_routines a here in
      let s = in_schema p.0 (security_of p.0.body) (good_supports c good (item.Routine p.0) p.1) in
      let r = schema_named c good d are p.0.routine.schema s.0 s.1 s.2 in
      (r.0, r.1, (tt, ap (values (0 ∷ [])) p.2 ∙ r.2.1))

  pub routine_named : (o : Object) (y : Item) → Contains c y → IsRoutine (path_of o) y → HasSome (d t.Routines) (λ b. Any b × ((Some (Words o.schema) ∷ Some (Words o.name) ∷ []) ≡ values (0 ∷ 1 ∷ []) b))
  routine_named o (item.Routine r) here e = let f = same_path o r.routine e in (routine_row (whole r), routine_is r here, (tt, λ i. Some (Words (f i).schema) ∷ Some (Words (f i).name) ∷ []))
  routine_named o _ here e = absurd e

  -- ---- parameters

  parameter_routine : Refers (d t.Parameters) Any (0 ∷ 1 ∷ []) (d t.Routines) Any (0 ∷ 1 ∷ [])
  parameter_routine a here any =
      let p = of_parameters a here in
      (routine_row (whole p.routine), routine_is p.routine p.stands, (tt, ap (values (0 ∷ 1 ∷ [])) p.is))

  parameter_named : (a : Row) (p : IsParameterRow c a) → IsNamed c routines a (item.Routine p.routine)
  parameter_named a p = record { name = p.routine.routine; stands = p.stands; named = refl; at = ap (values (0 ∷ 1 ∷ [])) p.is }

  one_routine : (a b : Row) (p : IsParameterRow c a) (q : IsParameterRow c b) → p.routine.routine.schema ≡ q.routine.routine.schema → p.routine.routine.name ≡ q.routine.routine.name → p.routine ≡ q.routine
  one_routine a b p q schema name =
      let names : values (0 ∷ 1 ∷ []) a ≡ values (0 ∷ 1 ∷ []) b = ap (values (0 ∷ 1 ∷ [])) p.is ∙ (λ i. Some (Words (schema i)) ∷ Some (Words (name i)) ∷ []) ∙ sym (ap (values (0 ∷ 1 ∷ [])) q.is) in
      let same = same_item c good routines a b (item.Routine p.routine) (item.Routine q.routine) (parameter_named a p) (parameter_named b q) names in
      cc

  one_row : (a b : Row) (p : IsParameterRow c a) (q : IsParameterRow c b) → p.routine ≡ q.routine → p.number ≡ q.number → a ≡ b
  one_row a b p q routine number =
      let at : Contains (numbered 1 q.routine.params) (q.number, p.param) = subst (λ (r : Routine). Contains (numbered 1 r.params) (q.number, p.param)) routine (subst (λ n. Contains (numbered 1 p.routine.params) (n, p.param)) number p.at) in
      let param : p.param ≡ q.param = numbered_once 1 q.routine.params q.number p.param q.param at q.at in
      p.is ∙ (λ i. parameter_row (routine i).routine (number i, param i)) ∙ sym q.is

  once : IsKey (d t.Parameters) (0 ∷ 1 ∷ 2 ∷ [])
  once a b here there e =
      let p = of_parameters a here in
      let q = of_parameters b there in
      let same : values (0 ∷ 1 ∷ 2 ∷ []) (parameter_row p.routine.routine (p.number, p.param)) ≡ values (0 ∷ 1 ∷ 2 ∷ []) (parameter_row q.routine.routine (q.number, q.param)) = sym (ap (values (0 ∷ 1 ∷ 2 ∷ [])) p.is) ∙ e ∙ ap (values (0 ∷ 1 ∷ 2 ∷ [])) q.is in
      let schema : p.routine.routine.schema ≡ q.routine.routine.schema = cc in
      let name : p.routine.routine.name ≡ q.routine.routine.name = cc in
      let number : p.number ≡ q.number = cc in
      one_row a b p q (one_routine a b p q schema name) number

  parameter_of : (r : Routine) → Contains c (item.Routine r) → (n : ℕ) → HasSome (d t.Parameters) (IsAt (0 ∷ 1 ∷ []) 2 (owner r.routine) n) ↔ ((1 ≤ n) × (n ≤ length r.params))
  parameter_of r here n = (
    λ h.
        let u = of_parameters h.0 h.1 in
        let first : values (0 ∷ 1 ∷ []) (parameter_row u.routine.routine (u.number, u.param)) ≡ owner r.routine = sym (ap (values (0 ∷ 1 ∷ [])) u.is) ∙ h.2.0 in
        let at : slice_get (parameter_row u.routine.routine (u.number, u.param)) 2 ≡ Some (Number n) = sym (ap (λ z. slice_get z 2) u.is) ∙ h.2.1 in
        let schema : u.routine.routine.schema ≡ r.routine.schema = cc in
        let name : u.routine.routine.name ≡ r.routine.name = cc in
        let k : u.number ≡ n = cc in
        let same : item.Routine u.routine ≡ item.Routine r = good.shape.names (item.Routine u.routine) (item.Routine r) (routines, path_of r.routine) u.stands here (ap (λ o. Some (routines, path_of o)) (one_object u.routine.routine r.routine schema name)) refl in
        let routine : u.routine ≡ r = cc in
        let w = numbered_within 1 u.routine.params (u.number, u.param) u.at in
        let len : length u.routine.params ≡ length r.params = ap (λ (z : Routine). length z.params) routine in
        (omega (arith, w.0, k), omega (arith, w.1, k, len)),
    λ h.
        let w = numbered_at 1 r.params n h.0 (omega (arith, h.1)) in
        (parameter_row r.routine (n, w.0), parameter_is r here (n, w.0) w.1, (refl, refl)),
  )

  run : (a : Row) → Contains (d t.Parameters) a → (n : ℕ) × ((k : ℕ) → HasSome (d t.Parameters) (IsAt (0 ∷ 1 ∷ []) 2 (values (0 ∷ 1 ∷ []) a) k) ↔ ((1 ≤ k) × (k ≤ n)))
  run a here =
      let p = of_parameters a here in
      let at : owner p.routine.routine ≡ values (0 ∷ 1 ∷ []) a = sym (ap (values (0 ∷ 1 ∷ [])) p.is) in (
        length p.routine.params,
        λ k. subst (λ o. HasSome (d t.Parameters) (IsAt (0 ∷ 1 ∷ []) 2 o k) ↔ ((1 ≤ k) × (k ≤ length p.routine.params))) at (parameter_of p.routine p.stands k),
      )

  names : IsKey (d t.Parameters) (0 ∷ 1 ∷ 4 ∷ [])
  names a b here there e =
      let p = of_parameters a here in
      let q = of_parameters b there in
      let same : values (0 ∷ 1 ∷ 4 ∷ []) (parameter_row p.routine.routine (p.number, p.param)) ≡ values (0 ∷ 1 ∷ 4 ∷ []) (parameter_row q.routine.routine (q.number, q.param)) = sym (ap (values (0 ∷ 1 ∷ 4 ∷ [])) p.is) ∙ e ∙ ap (values (0 ∷ 1 ∷ 4 ∷ [])) q.is in
      let schema : p.routine.routine.schema ≡ q.routine.routine.schema = cc in
      let name : p.routine.routine.name ≡ q.routine.routine.name = cc in
      let param : p.param.name ≡ q.param.name = cc in
      let routine = one_routine a b p q schema name in
      let at : Contains (numbered 1 q.routine.params) (p.number, p.param) = subst (λ (r : Routine). Contains (numbered 1 r.params) (p.number, p.param)) routine p.at in
      one_row a b p q routine (one_number q.routine.params p.number q.number p.param q.param (good.shape.lists (item.Routine q.routine) q.stands) at q.at param)

  pub routines_hold : RoutinesHold d
  routines_hold = record { routine_names_differ = key; routine_schemas_stand = schema; parameter_routines_stand = parameter_routine; parameters_have_positions = record { once = once; run = run }; parameter_names_differ = names }
