-- The tests of a statement, step by step: which refusal comes first.
use Rattle.std.proofs.Common.{◌≡◌, List, [], ◌∷◌, ◌++◌, subst, sym}
use Rattle.std.specs.Result.{IsErrAnd}
use Rattle.std.specs.declared.result.Result.{Result}
use Rattle.std.specs.declared.result.Result.TheVariants.{Ok, Err}
use Rattle.cat_items.specs.declared.edit.EditError.{EditError}
use Rattle.cat_items.specs.declared.edit.Refusal.{Refusal}
use Rattle.cat_items.specs.declared.edit.Who.{Who}
use Rattle.cat_items.specs.declared.item.Item.{Item}
use Rattle.edit_rules.specs.First.{First, IsTested, Passes}
use Rattle.edit_rules.specs.Owners.{not_owner}
use Rattle.edit_rules.proofs.FirstLaws.{error_of_first, error_of_others, passes_behind, passes_both, passes_front}
use Rattle.statement_steps.specs.Steps.{Steps, no_least_privilege, refusals_of}

-- the exit of a `?`
pub exit_with : {T : Type 0} → (tests : List (Refusal → Type 0)) (Done : T → Type 0) (e : EditError) (exit : Result T EditError) → IsErrAnd exit (λ error. error ≡ e) → IsTested tests Done (Err e) → IsTested tests Done exit
exit_with tests Done e (Ok value) is h = absurd is
exit_with tests Done e (Err error) is h = subst (λ x. IsTested tests Done (Err x)) (sym is) h

module _ (c : List Item) (who : Who) (s : Steps) where
  abbrev of_owner : List (Refusal → Type 0)
  of_owner = not_owner c who s.schema ∷ []

  abbrev of_needs : List (Refusal → Type 0)
  of_needs = no_least_privilege c s.schema s.needs ∷ []

  abbrev from_rules : List (Refusal → Type 0)
  from_rules = s.rules ++ of_needs

  abbrev from_taken : List (Refusal → Type 0)
  from_taken = s.taken ++ from_rules

  abbrev from_owner : List (Refusal → Type 0)
  from_owner = not_owner c who s.schema ∷ from_taken

  abbrev from_names : List (Refusal → Type 0)
  from_names = s.names ++ from_owner

  -- an error of the tests of one step, where those of the steps before it pass
  module _ {T U : Type 0} (D : T → Type 0) (Done : U → Type 0) (e : EditError) where
    pub by_tree : IsTested s.by_tree D (Err e) → IsTested (refusals_of c who s) Done (Err e)
    by_tree h = error_of_first s.by_tree from_names D Done e h

    pub by_names : Passes (First s.by_tree) → IsTested s.names D (Err e) → IsTested (refusals_of c who s) Done (Err e)
    by_names tree h = error_of_others s.by_tree from_names Done Done e tree (error_of_first s.names from_owner D Done e h)

    pub by_owner : Passes (First s.by_tree) → Passes (First s.names) → IsTested of_owner D (Err e) → IsTested (refusals_of c who s) Done (Err e)
    by_owner tree names h =
        error_of_others s.by_tree from_names Done Done e tree (error_of_others s.names from_owner Done Done e names (error_of_first of_owner from_taken D Done e h))

    pub by_taken : Passes (First s.by_tree) → Passes (First s.names) → Passes (First of_owner) → IsTested s.taken D (Err e) → IsTested (refusals_of c who s) Done (Err e)
    by_taken tree names owner h =
        error_of_others s.by_tree from_names Done Done e tree (error_of_others s.names from_owner Done Done e names
        (error_of_others of_owner from_taken Done Done e owner (error_of_first s.taken from_rules D Done e h)))

    pub by_rules : Passes (First s.by_tree) → Passes (First s.names) → Passes (First of_owner) → Passes (First s.taken) → IsTested s.rules D (Err e) → IsTested (refusals_of c who s) Done (Err e)
    by_rules tree names owner taken h =
        error_of_others s.by_tree from_names Done Done e tree (error_of_others s.names from_owner Done Done e names
        (error_of_others of_owner from_taken Done Done e owner (error_of_others s.taken from_rules Done Done e taken (error_of_first s.rules of_needs D Done e h))))

    pub by_needs : Passes (First s.by_tree) → Passes (First s.names) → Passes (First of_owner) → Passes (First s.taken) → Passes (First s.rules) → IsTested of_needs D (Err e)
        → IsTested (refusals_of c who s) Done (Err e)
    by_needs tree names owner taken rules h =
        error_of_others s.by_tree from_names Done Done e tree (error_of_others s.names from_owner Done Done e names
        (error_of_others of_owner from_taken Done Done e owner (error_of_others s.taken from_rules Done Done e taken (error_of_others s.rules of_needs D Done e rules h))))

  pub all_pass : Passes (First s.by_tree) → Passes (First s.names) → Passes (First of_owner) → Passes (First s.taken) → Passes (First s.rules) → Passes (First of_needs) → Passes (First (refusals_of c who s))
  all_pass tree names owner taken rules needs =
      passes_both s.by_tree from_names tree (passes_both s.names from_owner names (passes_both of_owner from_taken owner (passes_both s.taken from_rules taken (passes_both s.rules of_needs rules needs))))

  -- where all pass, those of each step do
  module _ (all : Passes (First (refusals_of c who s))) where
    behind_tree : Passes (First from_names)
    behind_tree = passes_behind s.by_tree from_names all

    pub tree_passes : Passes (First s.by_tree)
    tree_passes = passes_front s.by_tree from_names all

    pub names_pass : Passes (First s.names)
    names_pass = passes_front s.names from_owner behind_tree

    behind_owner : Passes (First from_taken)
    behind_owner = passes_behind of_owner from_taken (passes_behind s.names from_owner behind_tree)

    pub taken_passes : Passes (First s.taken)
    taken_passes = passes_front s.taken from_rules behind_owner

    pub rules_pass : Passes (First s.rules)
    rules_pass = passes_front s.rules of_needs (passes_behind s.taken from_rules behind_owner)
