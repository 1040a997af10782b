-- ALTER DOMAIN: its refusals in order, and its edit (alter domain statement, SQL:2003 part 2, 11.25 to 11.29).
use Rattle.std.specs.Prelude.{◌≡◌, if◌then◌else◌, List, [], ◌∷◌, Option, None, Some, flat_map}
use Rattle.std.specs.List.{Any}
use Rattle.sql_names.specs.declared.object.Object.{Object}
use Rattle.sql_names.specs.declared.sort.Default.{Default}
use Rattle.sql_names.specs.declared.sort.SqlType.{SqlType}
use Rattle.sql_tree.specs.declared.statement.AlterDomain.{AlterDomain}
use Rattle.sql_tree.specs.declared.statement.AlterDomainAction.{AlterDomainAction}
use Rattle.sql_tree.specs.declared.statement.AlterDomainAction.TheVariants as actions
use Rattle.sql_tree.specs.declared.table.DomainCheck.{DomainCheck as WrittenCheck}
use Rattle.cat_items.specs.declared.edit.Edit.{Edit}
use Rattle.cat_items.specs.declared.edit.Refusal.{Refusal}
use Rattle.cat_items.specs.declared.edit.Refusal.TheVariants.{TypeMismatch, UnknownName}
use Rattle.cat_items.specs.declared.edit.Who.{Who}
use Rattle.cat_items.specs.declared.item.Domain.{Domain}
use Rattle.cat_items.specs.declared.item.Item.{Item}
use Rattle.cat_items.specs.declared.item.Item.TheVariants as item
use Rattle.cat_items.specs.declared.need.Need.{Need}
use Rattle.cat_items.specs.Reach.{Has}
use Rattle.cat_items.specs.Rights.{path_of}
use Rattle.name_scopes.specs.Known.{same_object}
use Rattle.view_deps.specs.Described.{first_of}
use Rattle.edit_rules.specs.Names.{object_in}
use Rattle.table_parts.specs.Classes.{IsMisfit}
use Rattle.table_names.specs.declared.named.NamedConstraint.{NamedConstraint}
use Rattle.table_work.specs.Keys.{beside}
use Rattle.table_names.specs.Named.{AreConstraints}
use Rattle.statement_steps.specs.Steps.{MakesEdit, Nothing, Steps, refusals_of, where_it_is}
use Rattle.table_elements.specs.Names.{unknown_domain}
use Rattle.domain_edits.specs.Checks.{HasNoType, IsCheckMade, NeededByChecks, parts_of, unresolved_checks}
use Rattle.domain_edits.specs.CreatedDomains.{taken_checks}

-- ---- the domain

-- the domain of this name that a descriptor is of
abbrev pub domains_in : Object → Item → List Domain
domains_in o (item.Domain d) = if same_object d.domain o then d ∷ [] else []
domains_in o x = []

-- the domain of this name
abbrev pub domain_in : List Item → Object → Option Domain
domain_in c o = first_of (flat_map (domains_in o) c)

-- it stands, and is so
abbrev pub WhereItStands : Option Domain → (Domain → Type 0) → Type 0
WhereItStands (Some d) P = P d
WhereItStands None P = ⊥

abbrev pub no_need : Need → Type 0
no_need need = ⊥

-- ---- SET DEFAULT and DROP DEFAULT

abbrev pub with_default : Domain → Option Default → Domain
with_default d default = record { domain = d.domain; sort = d.sort; default = default }

-- the domain is taken and put back with the default, and nothing else is done
abbrev pub PutsBack : List Item → Option Default → Domain → Edit → Type 0
PutsBack c default d edit = MakesEdit c (λ x. x ≡ item.Domain d) Nothing (λ x. x ≡ item.Domain (with_default d default)) edit

abbrev pub default_steps : List Item → Object → Option Default → Steps
default_steps c o default = record {
  by_tree = [];
  names = unknown_domain c o ∷ [];
  schema = o.schema;
  taken = [];
  rules = where_it_is (WhereItStands (domain_in c o) (λ d. IsMisfit default d.sort)) TypeMismatch ∷ [];
  needs = no_need;
  edit = λ edit. WhereItStands (domain_in c o) (λ d. PutsBack c default d edit);
}

-- ---- ADD of a check

-- check by check, the first name that stands for nothing or for two
abbrev pub unresolved_in : List Item → Who → Option Domain → List WrittenCheck → List (Refusal → Type 0)
unresolved_in c who (Some d) checks = unresolved_checks c who d.sort checks
unresolved_in c who None checks = []

abbrev pub IsAddedCheck : List Item → Who → SqlType → Object → List NamedConstraint → Item → Type 0
IsAddedCheck c who sort domain named (item.DomainCheck x) = IsCheckMade c who sort domain named x
IsAddedCheck c who sort domain named x = ⊥

-- the checks are added with their names, and nothing else is done
abbrev pub AddsChecks : List Item → Who → SqlType → Object → List WrittenCheck → Edit → Type 0
AddsChecks c who sort domain checks edit = (named : List NamedConstraint) × AreConstraints c domain (parts_of checks) named × MakesEdit c Nothing Nothing (IsAddedCheck c who sort domain named) edit

abbrev pub check_steps : List Item → Who → Object → List WrittenCheck → Steps
check_steps c who o checks = record {
  by_tree = [];
  names = unknown_domain c o ∷ unresolved_in c who (domain_in c o) checks;
  schema = o.schema;
  taken = taken_checks c o.schema checks;
  rules = where_it_is (WhereItStands (domain_in c o) (λ d. Any (HasNoType c who d.sort) checks)) TypeMismatch ∷ [];
  needs = λ need. WhereItStands (domain_in c o) (λ d. NeededByChecks c who d.sort checks need);
  edit = λ edit. WhereItStands (domain_in c o) (λ d. AddsChecks c who d.sort o checks edit);
}

-- ---- DROP CONSTRAINT

-- a check of this domain and this name
abbrev pub IsCheckNamed : Object → Object → Item → Type 0
IsCheckNamed domain name (item.DomainCheck x) = (x.domain ≡ domain) × (x.name ≡ name)
IsCheckNamed domain name x = ⊥

abbrev pub unknown_check : List Item → Object → Object → Refusal → Type 0
unknown_check c domain name = where_it_is (¬ (Has c (IsCheckNamed domain name))) (UnknownName (path_of name))

-- the check is taken, and nothing else is done
abbrev pub drop_steps : List Item → Object → Object → Steps
drop_steps c o name = record {
  by_tree = [];
  names = unknown_domain c o ∷ unknown_check c o name ∷ [];
  schema = o.schema;
  taken = [];
  rules = [];
  needs = no_need;
  edit = MakesEdit c (IsCheckNamed o name) Nothing Nothing;
}

-- ---- the statement

-- a check stands in the schema of its domain
abbrev pub alteration_steps : List Item → Who → Object → AlterDomainAction → Steps
alteration_steps c who o (actions.SetDefault default) = default_steps c o (Some default)
alteration_steps c who o actions.DropDefault = default_steps c o None
alteration_steps c who o (actions.AddCheck check) = check_steps c who o (check ∷ [])
alteration_steps c who o (actions.DropConstraint name) = drop_steps c o (beside o name)

abbrev pub alter_domain_refusals : List Item → Who → AlterDomain → List (Refusal → Type 0)
alter_domain_refusals c who s = refusals_of c who (alteration_steps c who (object_in who.schema s.domain) s.action)

abbrev pub IsDomainAlteration : List Item → Who → AlterDomain → Edit → Type 0
IsDomainAlteration c who s = (alteration_steps c who (object_in who.schema s.domain) s.action).edit
