-- The tests of a statement that makes, alters or drops an object of a schema, step by step, and what it does.
use Rattle.std.specs.Prelude.{◌≡◌, false, List, [], ◌∷◌, ◌++◌}
use Rattle.sql_names.specs.NameBytes.{NameBytes}
use Rattle.cat_items.specs.declared.edit.Edit.{Edit}
use Rattle.cat_items.specs.declared.edit.Refusal.{Refusal}
use Rattle.cat_items.specs.declared.edit.Refusal.TheVariants.{NoPrivilege}
use Rattle.cat_items.specs.declared.edit.Who.{Who}
use Rattle.cat_items.specs.declared.item.Item.{Item}
use Rattle.cat_items.specs.declared.need.Need.{Need}
use Rattle.cat_items.specs.Reach.{Has}
use Rattle.cat_items.specs.Rights.{MeetsAll}
use Rattle.edit_rules.specs.Chosen.{AreAll, AreChosen}
use Rattle.edit_rules.specs.Owners.{not_owner}
use Rattle.edit_rules.specs.Privileges.{IsLeastNeed}

-- a refusal that is told where something is so
abbrev pub where_it_is : Type 0 → Refusal → Refusal → Type 0
where_it_is P told refusal = P × (refusal ≡ told)

-- the tests: by the statement's tree alone, by names that must stand, by the owner of its schema, by names that are taken, by types,
-- places and the like, and by the privileges that what is made needs; and what the statement does
pub record Steps : Type 1 where
  pub by_tree : List (Refusal → Type 0)
  pub names : List (Refusal → Type 0)
  pub schema : NameBytes
  pub taken : List (Refusal → Type 0)
  pub rules : List (Refusal → Type 0)
  pub needs : Need → Type 0
  pub edit : Edit → Type 0

-- for the owner of the schema it isn't met
abbrev pub IsUnmetIn : List Item → NameBytes → Need → Type 0
IsUnmetIn c schema need = ¬ (Has c (MeetsAll false c schema (need ∷ [])))

-- the least of some needs that aren't met is told
abbrev pub no_least_privilege : List Item → NameBytes → (Need → Type 0) → Refusal → Type 0
no_least_privilege c schema P refusal = (need : Need) × IsLeastNeed (λ n. P n × IsUnmetIn c schema n) need × (refusal ≡ NoPrivilege need)

-- all tests, in their order
abbrev pub refusals_of : List Item → Who → Steps → List (Refusal → Type 0)
refusals_of c who s = s.by_tree ++ (s.names ++ (not_owner c who s.schema ∷ (s.taken ++ (s.rules ++ (no_least_privilege c s.schema s.needs ∷ [])))))

-- what is destroyed, what is changed, and what is added or put in its place
pub record MakesEdit (c : List Item) (Taken Changed Added : Item → Type 0) (edit : Edit) : Type 0 where
  pub target : AreChosen c Taken edit.target
  pub changed : AreChosen c Changed edit.changed
  pub added : AreAll Added edit.added

abbrev pub Nothing : Item → Type 0
Nothing x = ⊥
