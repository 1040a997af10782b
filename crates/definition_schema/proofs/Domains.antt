-- Domains and their constraints.
use Rattle.std.proofs.Common.{◌≡◌, refl, sym, ap, ◌∙◌, false, List, [], ◌∷◌, ◌++◌, Some, None}
use Rattle.std.specs.List.{Contains}
use Rattle.finite_chains.proofs.Members.{Contains-nil, Contains-head}
use Rattle.sql_names.specs.declared.object.Object.{Object}
use Rattle.sql_text.specs.Printing.{expr_text}
use Rattle.cat_items.specs.declared.item.Domain.{Domain}
use Rattle.cat_items.specs.declared.item.DomainCheck.{DomainCheck}
use Rattle.cat_items.specs.declared.item.Item.{Item}
use Rattle.cat_items.specs.declared.item.Item.TheVariants as item
use Rattle.cat_items.specs.declared.row.Cell.TheVariants.{Words}
use Rattle.cat_items.specs.Good.{IsGood}
use Rattle.cat_items.specs.Rights.{path_of, IsDomain}
use Rattle.cat_items.specs.Shape.{domains}
use Rattle.edit_laws.proofs.GoodCatalogues.{good_supports, domain_schema_stands}
use Rattle.schema_tables.specs.declared.names.SchemaTable.{SchemaTable}
use Rattle.schema_tables.specs.declared.names.SchemaTable.TheVariants as t
use Rattle.schema_tables.specs.Cells.{Row, object_cells}
use Rattle.schema_tables.specs.Shown.{Shown, ShownDomain, of_domain, of_domain_check}
use Rattle.schema_tables.specs.Sight.{IsShown, IsShownDomain}
use Rattle.schema_tables.specs.TableRows.{Beside, rows, HasRow, domain_row}
use Rattle.definition_schema.specs.Keys.{values, HasSome, IsKey, Refers, Any}
use Rattle.definition_schema.specs.Constraints.{DomainsHold}
use Rattle.definition_schema.specs.Definition.{AreDefinitionRows}
use Rattle.definition_schema.proofs.RowsOf.{only}
use Rattle.definition_schema.proofs.Positions.{same_path}
use Rattle.definition_schema.proofs.TablesAndViews.{schema_named}
use Rattle.definition_schema.proofs.Named.{one_object}

abbrev whole : Domain → ShownDomain
whole q = record { domain = q.domain; sort = q.sort; default = q.default }

is_whole : (c : List Item) (q : Domain) (s : ShownDomain) → IsShownDomain c None q s → s ≡ whole q
is_whole c q s p = λ i. record { domain = p.1 i; sort = p.2 i; default = p.3.0 tt i }

domain_rows_are : (c : List Item) (row : Row) → HasRow (IsShown c None) t.Domains row → (q : Domain) × Contains c (item.Domain q) × (row ≡ domain_row (whole q))
domain_rows_are c row h = by h.0 h.1 h.2 h.4
  where
    by : (s : Shown) (m : Beside) → IsShown c None s → Contains (rows t.Domains m s) row → (q : Domain) × Contains c (item.Domain q) × (row ≡ domain_row (whole q))
    by (of_domain s) m p k = (p.0, p.1, only _ _ k ∙ ap domain_row (is_whole c p.0 s p.2))
    by _ m p k = absurd (Contains-nil _ k)

constraint_rows_are : (c : List Item) (row : Row) → HasRow (IsShown c None) t.DomainConstraints row → (x : DomainCheck) × Contains c (item.DomainCheck x) × (row ≡ object_cells x.name ++ object_cells x.domain)
constraint_rows_are c row h = by h.0 h.1 h.2 h.4
  where
    by : (s : Shown) (m : Beside) → IsShown c None s → Contains (rows t.DomainConstraints m s) row → (x : DomainCheck) × Contains c (item.DomainCheck x) × (row ≡ object_cells x.name ++ object_cells x.domain)
    by (of_domain_check x) m p k = (x, p.0, only _ _ k)
    by _ m p k = absurd (Contains-nil _ k)

module _ (c : List Item) (good : IsGood c) (d : SchemaTable → List Row) (are : AreDefinitionRows c d) where
  of_domains : (a : Row) → Contains (d t.Domains) a → (q : Domain) × Contains c (item.Domain q) × (a ≡ domain_row (whole q))
  of_domains a is = domain_rows_are c a (((are t.Domains tt).members a).0 is)

  domain_is : (q : Domain) → Contains c (item.Domain q) → Contains (d t.Domains) (domain_row (whole q))
  domain_is q here = ((are t.Domains tt).members (domain_row (whole q))).1 (of_domain (whole q), record { same = false; option = false; role = false }, (q, here, (tt, refl, refl, (λ h. refl, λ never. absurd (never tt)))), (refl, refl, refl), Contains-head (domain_row (whole q)) [])

  key : IsKey (d t.Domains) (0 ∷ 1 ∷ [])
  key a b here there e =
      let p = of_domains a here in
      let q = of_domains b there in
      let same : values (0 ∷ 1 ∷ []) (domain_row (whole p.0)) ≡ values (0 ∷ 1 ∷ []) (domain_row (whole q.0)) = sym (ap (values (0 ∷ 1 ∷ [])) p.2) ∙ e ∙ ap (values (0 ∷ 1 ∷ [])) q.2 in
      let schema : p.0.domain.schema ≡ q.0.domain.schema = cc in
      let name : p.0.domain.name ≡ q.0.domain.name = cc in
      let o : p.0.domain ≡ q.0.domain = one_object p.0.domain q.0.domain schema name in
      let x : item.Domain p.0 ≡ item.Domain q.0 = good.shape.names (item.Domain p.0) (item.Domain q.0) (domains, path_of q.0.domain) p.1 q.1 (ap (λ z. Some (domains, path_of z)) o) refl in
      let y : p.0 ≡ q.0 = cc in
      p.2 ∙ ap (λ z. domain_row (whole z)) y ∙ sym q.2

  schema : Refers (d t.Domains) Any (0 ∷ []) (d t.Schemata) Any (0 ∷ [])
  schema a here any =
      let p = of_domains a here in
      let s = domain_schema_stands c good p.0 p.1 in
      let r = schema_named c good d are p.0.domain.schema s.0 s.1 s.2 in
      (r.0, r.1, (tt, ap (values (0 ∷ [])) p.2 ∙ r.2.1))

  of_constraints : (a : Row) → Contains (d t.DomainConstraints) a → (x : DomainCheck) × Contains c (item.DomainCheck x) × (a ≡ object_cells x.name ++ object_cells x.domain)
  of_constraints a is = constraint_rows_are c a (((are t.DomainConstraints tt).members a).0 is)

  pub domain_named : (o : Object) (y : Item) → Contains c y → IsDomain (path_of o) y → HasSome (d t.Domains) (λ b. Any b × ((Some (Words o.schema) ∷ Some (Words o.name) ∷ []) ≡ values (0 ∷ 1 ∷ []) b))
  domain_named o (item.Domain q) here e = let f = same_path o q.domain e in (domain_row (whole q), domain_is q here, (tt, λ i. Some (Words (f i).schema) ∷ Some (Words (f i).name) ∷ []))
  domain_named o _ here e = absurd e

  constraint_domain : Refers (d t.DomainConstraints) Any (2 ∷ 3 ∷ []) (d t.Domains) Any (0 ∷ 1 ∷ [])
  constraint_domain a here any =
      let p = of_constraints a here in
      let h = (good_supports c good (item.DomainCheck p.0) p.1).0 in
      let r = domain_named p.0.domain h.0 h.1 h.2 in
      (r.0, r.1, (tt, ap (values (2 ∷ 3 ∷ [])) p.2 ∙ r.2.1))

  check_is : (x : DomainCheck) → Contains c (item.DomainCheck x) → Contains (d t.CheckConstraints) (object_cells x.name ++ Words (expr_text x.cond) ∷ [])
  check_is x here = ((are t.CheckConstraints tt).members _).1 (of_domain_check x, record { same = false; option = false; role = false }, (here, tt), (refl, refl, refl), Contains-head (object_cells x.name ++ Words (expr_text x.cond) ∷ []) [])

  constraint_check : Refers (d t.DomainConstraints) Any (0 ∷ 1 ∷ []) (d t.CheckConstraints) Any (0 ∷ 1 ∷ [])
  constraint_check a here any =
      let p = of_constraints a here in
      (object_cells p.0.name ++ Words (expr_text p.0.cond) ∷ [], check_is p.0 p.1, (tt, ap (values (0 ∷ 1 ∷ [])) p.2))

  pub domains_hold : DomainsHold d
  domains_hold = record { domain_names_differ = key; domain_schemas_stand = schema; constrained_domains_stand = constraint_domain; domain_constraints_are_checks = constraint_check }
