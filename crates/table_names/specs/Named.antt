-- Constraints with their names: given ones, and such that the system makes.
use Rattle.std.specs.Prelude.{◌≡◌, ◌≢◌, ◌<◌, ℕ, List, [], ◌∷◌, ◌++◌, Option, None, Some, codes}
use Rattle.std.specs.Fmt.{decimal}
use Rattle.std.specs.List.{AllPairs, Any, Contains}
use Rattle.sql_names.specs.NameBytes.{NameBytes}
use Rattle.sql_names.specs.declared.object.Object.{Object}
use Rattle.sql_tree.specs.declared.table.TableConstraint.{TableConstraint}
use Rattle.cat_items.specs.declared.edit.Refusal.{Refusal}
use Rattle.cat_items.specs.declared.item.Item.{Item}
use Rattle.cat_items.specs.Reach.{Has}
use Rattle.edit_rules.specs.Names.{IsConstraint}
use Rattle.table_parts.specs.declared.parts.Part.{Part}
use Rattle.table_parts.specs.declared.parts.Part.TheVariants as parts
use Rattle.table_parts.specs.Parts.{constraints_of}
use Rattle.table_names.specs.Given.{given_names}
use Rattle.table_names.specs.declared.named.NamedConstraint.{NamedConstraint}

-- SYS_C1, SYS_C2 and so on
abbrev pub system_name : ℕ → NameBytes
system_name number = codes "SYS_C" ++ decimal number

-- a name that no constraint of the schema has and that the statement gives to none
abbrev pub IsFree : List Item → NameBytes → List NameBytes → NameBytes → Type 0
IsFree c schema given name = (¬ (Has c (IsConstraint (record { schema = schema; name = name })))) × (¬ (Contains given name))

abbrev pub IsNamed : NameBytes → NamedConstraint → Type 0
IsNamed name k = k.name ≡ name

-- such a name, which none of these constraints has
abbrev pub IsFreeBeside : (NameBytes → Type 0) → List NamedConstraint → NameBytes → Type 0
IsFreeBeside Free before name = Free name × (¬ (Any (IsNamed name) before))

-- the free name of the least number
pub record IsSystemName (Free : NameBytes → Type 0) (name : NameBytes) : Type 0 where
  pub number : ℕ
  pub positive : 0 < number
  pub is : name ≡ system_name number
  pub free : Free name
  pub least : (other : ℕ) → 0 < other → other < number → ¬ (Free (system_name other))

-- the name of a constraint behind those
abbrev pub IsNameFor : (NameBytes → Type 0) → List NamedConstraint → Option NameBytes → NameBytes → Type 0
IsNameFor Free before (Some given) name = name ≡ given
IsNameFor Free before None name = IsSystemName (IsFreeBeside Free before) name

-- these constraints, behind those, with their names
abbrev pub AreNamed : (NameBytes → Type 0) → List NamedConstraint → List TableConstraint → List NamedConstraint → Type 0
AreNamed Free before [] [] = Unit {0}
AreNamed Free before (k ∷ ks) (n ∷ ns) = (n.kind ≡ k.kind) × IsNameFor Free before k.name n.name × AreNamed Free (before ++ n ∷ []) ks ns
AreNamed Free before ks ns = ⊥

-- what a part adds to the constraints behind which it stands
abbrev pub AddsNamed : (NameBytes → Type 0) → Part → List NamedConstraint → List NamedConstraint → Type 0
AddsNamed Free (parts.Column d) old new = new ≡ old
AddsNamed Free (parts.Constraint k) old new = (n : NamedConstraint) × (new ≡ old ++ n ∷ []) × (n.kind ≡ k.kind) × IsNameFor Free old k.name n.name

-- no two have one name
abbrev pub HaveOwnNames : List NamedConstraint → Type 0
HaveOwnNames named = AllPairs (λ (a b : NamedConstraint). a.name ≢ b.name) named

-- the constraints of a statement with their names
abbrev pub AreConstraints : List Item → Object → List Part → List NamedConstraint → Type 0
AreConstraints c made all named = AreNamed (IsFree c made.schema (given_names all)) [] (constraints_of all) named

abbrev pub for_constraints : List Item → Object → List Part → (List NamedConstraint → Refusal → Type 0) → Refusal → Type 0
for_constraints c made all test refusal = (named : List NamedConstraint) × AreConstraints c made all named × test named refusal
