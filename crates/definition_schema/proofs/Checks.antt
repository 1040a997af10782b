-- Checks of tables, domains and assertions, and the names of all constraints.
use Rattle.std.proofs.Common.{◌≡◌, ◌⊎◌, inl, inr, refl, sym, ap, subst, ◌∙◌, Bool, false, true, List, [], ◌∷◌, Some, None}
use Rattle.std.specs.Prelude.{ℕ, codes, slice_get}
use Rattle.std.specs.List.{Contains}
use Rattle.finite_chains.proofs.Members.{Contains-nil, Contains-head}
use Rattle.sql_names.specs.declared.object.Object.{Object}
use Rattle.sql_tree.specs.declared.expr.Expr.{Expr}
use Rattle.cat_items.specs.declared.item.Check.{Check}
use Rattle.cat_items.specs.declared.item.DomainCheck.{DomainCheck}
use Rattle.cat_items.specs.declared.item.Assertion.{Assertion}
use Rattle.cat_items.specs.declared.item.Item.{Item}
use Rattle.cat_items.specs.declared.item.Item.TheVariants as item
use Rattle.cat_items.specs.declared.row.Cell.TheVariants.{Words}
use Rattle.cat_items.specs.Good.{IsGood}
use Rattle.cat_items.specs.Rights.{path_of}
use Rattle.cat_items.specs.Shape.{constraints, name_of}
use Rattle.schema_tables.specs.declared.names.SchemaTable.{SchemaTable}
use Rattle.schema_tables.specs.declared.names.SchemaTable.TheVariants as t
use Rattle.schema_tables.specs.Cells.{Row, object_cells}
use Rattle.schema_tables.specs.Shown.{Shown, of_check, of_domain_check, of_assertion}
use Rattle.schema_tables.specs.Sight.{IsShown}
use Rattle.schema_tables.specs.TableRows.{Beside, rows, HasRow, check_row, key_kind, pair_row, table_constraint}
use Rattle.definition_schema.specs.Keys.{values, HasSome, IsKey, Refers, Any, AreApart, Is}
use Rattle.definition_schema.specs.Constraints.{Every}
use Rattle.definition_schema.specs.Definition.{AreDefinitionRows}
use Rattle.definition_schema.proofs.Named.{IsNamed, differ, none, same_item}
use Rattle.definition_schema.proofs.RowsOf.{only}
use Rattle.definition_schema.proofs.TableConstraints.{IsOne, constraint_is, constraint_named, of_constraints}

-- ---- the three kinds of checks

-- a check of this name and condition
abbrev pub IsCheck : Object → Expr → Item → Type 0
IsCheck name condition (item.Check x) = (x.name ≡ name) × (x.cond ≡ condition)
IsCheck name condition (item.DomainCheck x) = (x.name ≡ name) × (x.cond ≡ condition)
IsCheck name condition (item.Assertion x) = (x.name ≡ name) × (x.cond ≡ condition)
IsCheck name condition x = ⊥

pub record IsCheckRow (c : List Item) (row : Row) : Type 0 where
  pub name : Object
  pub condition : Expr
  pub check : Item
  pub stands : Contains c check
  pub one : IsCheck name condition check
  pub is : row ≡ check_row name condition

pub check_rows_are : (c : List Item) (row : Row) → HasRow (IsShown c None) t.CheckConstraints row → IsCheckRow c row
check_rows_are c row h = by h.0 h.1 h.2 h.4
  where
    by : (s : Shown) (m : Beside) → IsShown c None s → Contains (rows t.CheckConstraints m s) row → IsCheckRow c row
    by (of_check x) m p among = record { name = x.name; condition = x.cond; check = item.Check x; stands = p.0; one = (refl, refl); is = only _ _ among }
    by (of_domain_check x) m p among = record { name = x.name; condition = x.cond; check = item.DomainCheck x; stands = p.0; one = (refl, refl); is = only _ _ among }
    by (of_assertion x) m p among = record { name = x.name; condition = x.cond; check = item.Assertion x; stands = p.0; one = (refl, refl); is = only _ _ among }
    by _ m p among = absurd (Contains-nil _ among)

check_name : (name : Object) (condition : Expr) (x : Item) → IsCheck name condition x → name_of x ≡ Some (constraints, path_of name)
check_name name condition (item.Check x) e = ap (λ o. Some (constraints, path_of o)) e.0
check_name name condition (item.DomainCheck x) e = ap (λ o. Some (constraints, path_of o)) e.0
check_name name condition (item.Assertion x) e = ap (λ o. Some (constraints, path_of o)) e.0
check_name name condition _ e = absurd e

one_check : (n m : Object) (e f : Expr) (x : Item) → IsCheck n e x → IsCheck m f x → check_row n e ≡ check_row m f
one_check n m e f (item.Check x) p q = λ i. check_row ((sym p.0 ∙ q.0) i) ((sym p.1 ∙ q.1) i)
one_check n m e f (item.DomainCheck x) p q = λ i. check_row ((sym p.0 ∙ q.0) i) ((sym p.1 ∙ q.1) i)
one_check n m e f (item.Assertion x) p q = λ i. check_row ((sym p.0 ∙ q.0) i) ((sym p.1 ∙ q.1) i)
one_check n m e f _ p q = absurd p

-- ---- the rows of domain constraints and assertions

domain_constraints_are : (c : List Item) (row : Row) → HasRow (IsShown c None) t.DomainConstraints row → (x : DomainCheck) × Contains c (item.DomainCheck x) × (row ≡ pair_row x.name x.domain)
domain_constraints_are c row h = by h.0 h.1 h.2 h.4
  where
    by : (s : Shown) (m : Beside) → IsShown c None s → Contains (rows t.DomainConstraints m s) row → (x : DomainCheck) × Contains c (item.DomainCheck x) × (row ≡ pair_row x.name x.domain)
    by (of_domain_check x) m p among = (x, p.0, only _ _ among)
    by _ m p among = absurd (Contains-nil _ among)

assertions_are : (c : List Item) (row : Row) → HasRow (IsShown c None) t.Assertions row → (x : Assertion) × Contains c (item.Assertion x) × (row ≡ object_cells x.name)
assertions_are c row h = by h.0 h.1 h.2 h.4
  where
    by : (s : Shown) (m : Beside) → IsShown c None s → Contains (rows t.Assertions m s) row → (x : Assertion) × Contains c (item.Assertion x) × (row ≡ object_cells x.name)
    by (of_assertion x) m p among = (x, p.0, only _ _ among)
    by _ m p among = absurd (Contains-nil _ among)

-- an item that is a table's constraint is none of these
not_domain : (name table : Object) (kind : List ℕ) (y : Item) (x : DomainCheck) → IsOne name table kind y → y ≡ item.DomainCheck x → ⊥
not_domain name table kind y x one e = subst (IsOne name table kind) e one

not_assertion : (name table : Object) (kind : List ℕ) (y : Item) (x : Assertion) → IsOne name table kind y → y ≡ item.Assertion x → ⊥
not_assertion name table kind y x one e = subst (IsOne name table kind) e one

abbrev IsDomainCheck : Item → Type 0
IsDomainCheck (item.DomainCheck x) = Unit {0}
IsDomainCheck x = ⊥

check_of : (name table : Object) (x : Item) → IsOne name table (codes "CHECK") x → (y : Check) × (x ≡ item.Check y) × (y.name ≡ name)
check_of name table (item.Key k) e = absurd (kinds k.primary e.2)
  where
    kinds : (b : Bool) → key_kind b ≡ codes "CHECK" → ⊥
    kinds true f = differ (codes "PRIMARY KEY") (codes "CHECK") refl f
    kinds false f = differ (codes "UNIQUE") (codes "CHECK") refl f
check_of name table (item.Foreign f) e = absurd (differ (codes "FOREIGN KEY") (codes "CHECK") refl e.2)
check_of name table (item.Check y) e = (y, refl, e.0)
check_of name table _ e = absurd e

module _ (c : List Item) (good : IsGood c) (d : SchemaTable → List Row) (are : AreDefinitionRows c d) where
  of_checks : (a : Row) → Contains (d t.CheckConstraints) a → IsCheckRow c a
  of_checks a is = check_rows_are c a (((are t.CheckConstraints tt).members a).0 is)

  of_domain_constraints : (a : Row) → Contains (d t.DomainConstraints) a → (x : DomainCheck) × Contains c (item.DomainCheck x) × (a ≡ pair_row x.name x.domain)
  of_domain_constraints a is = domain_constraints_are c a (((are t.DomainConstraints tt).members a).0 is)

  of_assertions : (a : Row) → Contains (d t.Assertions) a → (x : Assertion) × Contains c (item.Assertion x) × (a ≡ object_cells x.name)
  of_assertions a is = assertions_are c a (((are t.Assertions tt).members a).0 is)

  domain_named : (a : Row) (x : DomainCheck) → Contains c (item.DomainCheck x) → a ≡ pair_row x.name x.domain → IsNamed c constraints a (item.DomainCheck x)
  domain_named a x here is = record { name = x.name; stands = here; named = refl; at = ap (values (0 ∷ 1 ∷ [])) is }

  assertion_named : (a : Row) (x : Assertion) → Contains c (item.Assertion x) → a ≡ object_cells x.name → IsNamed c constraints a (item.Assertion x)
  assertion_named a x here is = record { name = x.name; stands = here; named = refl; at = ap (values (0 ∷ 1 ∷ [])) is }

  -- ---- names

  pub domain_names : IsKey (d t.DomainConstraints) (0 ∷ 1 ∷ [])
  domain_names a b here there e =
      let p = of_domain_constraints a here in
      let q = of_domain_constraints b there in
      let same = same_item c good constraints a b (item.DomainCheck p.0) (item.DomainCheck q.0) (domain_named a p.0 p.1 p.2) (domain_named b q.0 q.1 q.2) e in
      let x : p.0 ≡ q.0 = cc in
      p.2 ∙ ap (λ z. pair_row z.name z.domain) x ∙ sym q.2

  pub assertion_names : IsKey (d t.Assertions) (0 ∷ 1 ∷ [])
  assertion_names a b here there e =
      let p = of_assertions a here in
      let q = of_assertions b there in
      let same = same_item c good constraints a b (item.Assertion p.0) (item.Assertion q.0) (assertion_named a p.0 p.1 p.2) (assertion_named b q.0 q.1 q.2) e in
      let x : p.0 ≡ q.0 = cc in
      p.2 ∙ ap (λ z. object_cells z.name) x ∙ sym q.2

  pub table_domain : AreApart (d t.TableConstraints) (0 ∷ 1 ∷ []) (d t.DomainConstraints) (0 ∷ 1 ∷ [])
  table_domain a b here there e =
      let p = of_constraints c good d are a here in
      let q = of_domain_constraints b there in
      not_domain p.name p.table p.kind p.constraint q.0 p.one (same_item c good constraints a b p.constraint (item.DomainCheck q.0) (constraint_named c good d are a p) (domain_named b q.0 q.1 q.2) e)

  pub table_assertion : AreApart (d t.TableConstraints) (0 ∷ 1 ∷ []) (d t.Assertions) (0 ∷ 1 ∷ [])
  table_assertion a b here there e =
      let p = of_constraints c good d are a here in
      let q = of_assertions b there in
      not_assertion p.name p.table p.kind p.constraint q.0 p.one (same_item c good constraints a b p.constraint (item.Assertion q.0) (constraint_named c good d are a p) (assertion_named b q.0 q.1 q.2) e)

  pub domain_assertion : AreApart (d t.DomainConstraints) (0 ∷ 1 ∷ []) (d t.Assertions) (0 ∷ 1 ∷ [])
  domain_assertion a b here there e =
      let p = of_domain_constraints a here in
      let q = of_assertions b there in
      subst IsDomainCheck (same_item c good constraints a b (item.DomainCheck p.0) (item.Assertion q.0) (domain_named a p.0 p.1 p.2) (assertion_named b q.0 q.1 q.2) e) tt

  -- ---- exactly the checks of tables, domains and assertions

  check_named : (a : Row) (p : IsCheckRow c a) → IsNamed c constraints a p.check
  check_named a p = record { name = p.name; stands = p.stands; named = check_name p.name p.condition p.check p.one; at = ap (values (0 ∷ 1 ∷ [])) p.is }

  pub check_key : IsKey (d t.CheckConstraints) (0 ∷ 1 ∷ [])
  check_key a b here there e =
      let p = of_checks a here in
      let q = of_checks b there in
      let x = same_item c good constraints a b p.check q.check (check_named a p) (check_named b q) e in
      p.is ∙ one_check p.name q.name p.condition q.condition q.check (subst (IsCheck p.name p.condition) x p.one) q.one ∙ sym q.is

  abbrev IsOfTable : Row → Type 0
  IsOfTable row = HasSome (d t.TableConstraints) (λ b. Is 4 (codes "CHECK") b × (values (0 ∷ 1 ∷ []) row ≡ values (0 ∷ 1 ∷ []) b))

  abbrev IsOfDomain : Row → Type 0
  IsOfDomain row = HasSome (d t.DomainConstraints) (λ b. values (0 ∷ 1 ∷ []) row ≡ values (0 ∷ 1 ∷ []) b)

  abbrev IsOfAssertion : Row → Type 0
  IsOfAssertion row = HasSome (d t.Assertions) (λ b. values (0 ∷ 1 ∷ []) row ≡ values (0 ∷ 1 ∷ []) b)

  whose : (name : Object) (condition : Expr) (x : Item) → Contains c x → IsCheck name condition x → IsOfTable (check_row name condition) ⊎ (IsOfDomain (check_row name condition) ⊎ IsOfAssertion (check_row name condition))
  whose name condition (item.Check x) here e =
      inl (table_constraint x.name x.table (codes "CHECK"), constraint_is c good d are x.name x.table (codes "CHECK") (item.Check x) here (refl, refl, refl), (refl, λ i. Some (Words (sym e.0 i).schema) ∷ Some (Words (sym e.0 i).name) ∷ []))
  whose name condition (item.DomainCheck x) here e =
      inr (inl (pair_row x.name x.domain, ((are t.DomainConstraints tt).members _).1 (of_domain_check x, none, (here, tt), (refl, refl, refl), Contains-head (pair_row x.name x.domain) []), λ i. Some (Words (sym e.0 i).schema) ∷ Some (Words (sym e.0 i).name) ∷ []))
  whose name condition (item.Assertion x) here e =
      inr (inr (object_cells x.name, ((are t.Assertions tt).members _).1 (of_assertion x, none, (here, tt), (refl, refl, refl), Contains-head (object_cells x.name) []), λ i. Some (Words (sym e.0 i).schema) ∷ Some (Words (sym e.0 i).name) ∷ []))
  whose name condition _ here e = absurd e

  pub checks : Every (d t.CheckConstraints) (λ row. IsOfTable row ⊎ (IsOfDomain row ⊎ IsOfAssertion row))
  checks a here =
      let p = of_checks a here in
      subst (λ row. IsOfTable row ⊎ (IsOfDomain row ⊎ IsOfAssertion row)) (sym p.is) (whose p.name p.condition p.check p.stands p.one)

  pub table_checks : Refers (d t.TableConstraints) (Is 4 (codes "CHECK")) (0 ∷ 1 ∷ []) (d t.CheckConstraints) Any (0 ∷ 1 ∷ [])
  table_checks a here is_check =
      let p = of_constraints c good d are a here in
      let kind : p.kind ≡ codes "CHECK" = cc (sym (ap (λ r. slice_get r 4) p.is) ∙ is_check) in
      let k = check_of p.name p.table p.constraint (subst (λ z. IsOne p.name p.table z p.constraint) kind p.one) in
      let y = k.0 in (
        check_row y.name y.cond,
        ((are t.CheckConstraints tt).members _).1 (of_check y, none, (subst (Contains c) k.1 p.stands, tt), (refl, refl, refl), Contains-head (check_row y.name y.cond) []),
        (tt, ap (values (0 ∷ 1 ∷ [])) p.is ∙ λ i. Some (Words (sym k.2 i).schema) ∷ Some (Words (sym k.2 i).name) ∷ []),
      )

  pub assertion_checks : Refers (d t.Assertions) Any (0 ∷ 1 ∷ []) (d t.CheckConstraints) Any (0 ∷ 1 ∷ [])
  assertion_checks a here any =
      let p = of_assertions a here in (
        check_row p.0.name p.0.cond,
        ((are t.CheckConstraints tt).members _).1 (of_assertion p.0, none, (p.1, tt), (refl, refl, refl), Contains-head (check_row p.0.name p.0.cond) []),
        (tt, ap (values (0 ∷ 1 ∷ [])) p.2),
      )
