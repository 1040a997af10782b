-- What the conditions of checks came to, and the checks that are made of them.
use Rattle.std.specs.Prelude.{◌≡◌, ◌⊎◌, List, [], ◌∷◌, Option, None, Some}
use Rattle.std.specs.List.{Contains}
use Rattle.sql_names.specs.declared.object.Object.{Object}
use Rattle.sql_names.specs.declared.sort.SqlType.{SqlType}
use Rattle.sql_tree.specs.declared.table.DomainCheck.{DomainCheck as WrittenCheck}
use Rattle.cat_items.specs.declared.edit.Who.{Who}
use Rattle.cat_items.specs.declared.item.DomainCheck.{DomainCheck}
use Rattle.cat_items.specs.declared.item.Item.{Item}
use Rattle.cat_items.specs.declared.item.Item.TheVariants as item
use Rattle.cat_items.specs.declared.need.Need.{Need}
use Rattle.view_deps.specs.declared.resolve.ResolvedExpr.{ResolvedExpr}
use Rattle.table_names.specs.declared.named.NamedConstraint.{NamedConstraint}
use Rattle.edit_conditions.specs.Conditions.{IsFound}
use Rattle.domain_edits.specs.Checks.{outcome_of}

-- what each check's condition came to
abbrev pub AreFound : List Item → Who → SqlType → List WrittenCheck → List (Option ResolvedExpr) → Type 0
AreFound c who sort [] [] = Unit {0}
AreFound c who sort (k ∷ ks) (f ∷ fs) = IsFound (outcome_of c who sort k) f × AreFound c who sort ks fs
AreFound c who sort ks fs = ⊥

abbrev pub HasNone : Option ResolvedExpr → Type 0
HasNone f = f ≡ None

abbrev pub Asks : Need → Option ResolvedExpr → Type 0
Asks need None = ⊥
Asks need (Some r) = Contains r.needs need

-- the check of a domain with this name and condition
pub record IsCheckBy (domain : Object) (n : NamedConstraint) (r : ResolvedExpr) (x : DomainCheck) : Type 0 where
  pub called : x.name ≡ record { schema = domain.schema; name = n.name }
  pub domain_is : x.domain ≡ domain
  pub condition_is : x.cond ≡ r.expr
  pub needs : x.needs ≡ r.needs

-- the one that is made of a name and a condition
abbrev pub IsCheckHere : Object → NamedConstraint → Option ResolvedExpr → Item → Type 0
IsCheckHere domain n (Some r) (item.DomainCheck x) = IsCheckBy domain n r x
IsCheckHere domain n f x = ⊥

-- one that is made of these names and conditions, place by place
abbrev pub IsCheckAmong : Object → List NamedConstraint → List (Option ResolvedExpr) → Item → Type 0
IsCheckAmong domain (n ∷ ns) (f ∷ fs) x = IsCheckHere domain n f x ⊎ IsCheckAmong domain ns fs x
IsCheckAmong domain ns fs x = ⊥
