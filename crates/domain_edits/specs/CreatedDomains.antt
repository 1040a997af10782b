-- CREATE DOMAIN: its refusals in order, and what it adds (domain definition, SQL:2003 part 2, 11.24).
use Rattle.std.specs.Prelude.{◌≡◌, ◌≢◌, ◌⊎◌, List, [], ◌∷◌, map, Option, Some}
use Rattle.std.specs.List.{Any}
use Rattle.sql_names.specs.NameBytes.{NameBytes}
use Rattle.sql_names.specs.declared.object.Object.{Object}
use Rattle.sql_names.specs.declared.sort.Default.{Default}
use Rattle.sql_names.specs.declared.sort.SqlType.{SqlType}
use Rattle.sql_tree.specs.declared.statement.CreateDomain.{CreateDomain}
use Rattle.sql_tree.specs.declared.table.DomainCheck.{DomainCheck as WrittenCheck}
use Rattle.cat_items.specs.declared.edit.Edit.{Edit}
use Rattle.cat_items.specs.declared.edit.Refusal.{Refusal}
use Rattle.cat_items.specs.declared.edit.Refusal.TheVariants.{NameExists, TypeMismatch}
use Rattle.cat_items.specs.declared.edit.Who.{Who}
use Rattle.cat_items.specs.declared.item.Domain.{Domain}
use Rattle.cat_items.specs.declared.item.Item.{Item}
use Rattle.cat_items.specs.declared.item.Item.TheVariants as item
use Rattle.cat_items.specs.Reach.{Has}
use Rattle.cat_items.specs.Rights.{path_of, IsDomain}
use Rattle.edit_rules.specs.Names.{object_in, unknown_schema}
use Rattle.table_parts.specs.Classes.{IsMisfit}
use Rattle.table_names.specs.Given.{given_names}
use Rattle.table_names.specs.Refusals.{exists_in, repeated_name}
use Rattle.table_names.specs.declared.named.NamedConstraint.{NamedConstraint}
use Rattle.table_names.specs.Named.{AreConstraints}
use Rattle.statement_steps.specs.Steps.{MakesEdit, Nothing, Steps, refusals_of, where_it_is}
use Rattle.domain_edits.specs.Checks.{HasNoType, IsCheckMade, NeededByChecks, parts_of, unresolved_checks}

abbrev pub domain_exists : List Item → Object → Refusal → Type 0
domain_exists c domain = where_it_is (Has c (IsDomain (path_of domain))) (NameExists (path_of domain))

-- names that are given to checks and taken
abbrev pub taken_checks : List Item → NameBytes → List WrittenCheck → List (Refusal → Type 0)
taken_checks c schema checks = map (exists_in c schema) (given_names (parts_of checks))

abbrev pub IsDomainMade : List Item → Who → Domain → List NamedConstraint → Item → Type 0
IsDomainMade c who d named (item.Domain x) = x ≡ d
IsDomainMade c who d named (item.DomainCheck x) = IsCheckMade c who d.sort d.domain named x
IsDomainMade c who d named x = ⊥

-- the domain and its checks are added, and nothing else is done
abbrev pub MakesDomain : List Item → Who → Domain → List WrittenCheck → Edit → Type 0
MakesDomain c who d checks edit = (named : List NamedConstraint) × AreConstraints c d.domain (parts_of checks) named × MakesEdit c Nothing Nothing (IsDomainMade c who d named) edit

abbrev pub steps_of_domain : List Item → Who → Domain → List WrittenCheck → Steps
steps_of_domain c who d checks = record {
  by_tree = repeated_name d.domain (parts_of checks) ∷ [];
  names = unknown_schema c d.domain.schema ∷ unresolved_checks c who d.sort checks;
  schema = d.domain.schema;
  taken = domain_exists c d.domain ∷ taken_checks c d.domain.schema checks;
  rules = where_it_is (IsMisfit d.default d.sort ⊎ Any (HasNoType c who d.sort) checks) TypeMismatch ∷ [];
  needs = NeededByChecks c who d.sort checks;
  edit = MakesDomain c who d checks;
}

-- the domain that is made
abbrev pub domain_of : Who → CreateDomain → Domain
domain_of who s = record { domain = object_in who.schema s.domain; sort = s.sort; default = s.default }

abbrev pub create_domain_refusals : List Item → Who → CreateDomain → List (Refusal → Type 0)
create_domain_refusals c who s = refusals_of c who (steps_of_domain c who (domain_of who s) s.checks)

abbrev pub IsDomainCreation : List Item → Who → CreateDomain → Edit → Type 0
IsDomainCreation c who s edit = MakesDomain c who (domain_of who s) s.checks edit
