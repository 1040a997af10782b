-- Rules of ADD, one after the other.
use Rattle.std.proofs.Common.{◌≡◌, ℕ, List, [], ◌∷◌, subst}
use Rattle.std.specs.Result.{IsErrAnd}
use Rattle.std.specs.declared.result.Result.{Result}
use Rattle.std.specs.declared.result.Result.TheVariants.{Err}
use Rattle.cat_items.specs.declared.edit.EditError.{EditError}
use Rattle.cat_items.specs.declared.edit.Refusal.{Refusal}
use Rattle.cat_items.specs.declared.edit.Who.{Who}
use Rattle.cat_items.specs.declared.item.Item.{Item}
use Rattle.cat_items.specs.declared.item.Key.{Key}
use Rattle.edit_rules.specs.First.{First, IsTested, Passes}
use Rattle.edit_rules.proofs.FirstLaws.{error_of_first, error_of_others, exit_of_first, exit_of_others, passes_both}
use Rattle.table_parts.specs.declared.parts.Part.{Part}
use Rattle.table_names.specs.declared.named.NamedConstraint.{NamedConstraint}
use Rattle.table_work.specs.declared.work.Work.{Work}
use Rattle.table_types.specs.Types.{too_many_places}
use Rattle.table_constraints.specs.Rules.{no_such_key, type_mismatch}
use Rattle.table_additions.specs.Additions.{added_work, addition_rules, last_place, second_primary}

module _ (c : List Item) (who : Who) (w : Work) (all : List Part) (named : List NamedConstraint) (keys : List Key) (last : ℕ) where
  abbrev types : List (Refusal → Type 0)
  types = type_mismatch c who w all named ∷ []

  abbrev no_keys : List (Refusal → Type 0)
  no_keys = no_such_key c who w named ∷ []

  abbrev primary : List (Refusal → Type 0)
  primary = second_primary w.table named keys ∷ []

  abbrev places : List (Refusal → Type 0)
  places = too_many_places last all ∷ []

  abbrev pub rules : List (Refusal → Type 0)
  rules = type_mismatch c who w all named ∷ no_such_key c who w named ∷ second_primary w.table named keys ∷ too_many_places last all ∷ []

  abbrev behind_types : List (Refusal → Type 0)
  behind_types = no_such_key c who w named ∷ second_primary w.table named keys ∷ too_many_places last all ∷ []

  abbrev behind_keys : List (Refusal → Type 0)
  behind_keys = second_primary w.table named keys ∷ too_many_places last all ∷ []

  module _ {T U : Type 0} (D : T → Type 0) (Done : U → Type 0) (e : EditError) (exit : Result U EditError) (is : IsErrAnd exit (λ error. error ≡ e)) where
    pub by_types : IsTested types D (Err e) → IsTested rules Done exit
    by_types h = exit_of_first types behind_types D Done e exit is h

    pub by_keys : Passes (First types) → IsTested no_keys D (Err e) → IsTested rules Done exit
    by_keys first h = exit_of_others types behind_types Done Done e exit is first (error_of_first no_keys behind_keys D Done e h)

    pub by_primary : Passes (First types) → Passes (First no_keys) → IsTested primary D (Err e) → IsTested rules Done exit
    by_primary first second h = exit_of_others types behind_types Done Done e exit is first (error_of_others no_keys behind_keys Done Done e second (error_of_first primary places D Done e h))

    pub by_places : Passes (First types) → Passes (First no_keys) → Passes (First primary) → IsTested places D (Err e) → IsTested rules Done exit
    by_places first second third h =
        exit_of_others types behind_types D Done e exit is first (error_of_others no_keys behind_keys D D e second (error_of_others primary places D D e third h))

  pub rules_pass : Passes (First types) → Passes (First no_keys) → Passes (First primary) → Passes (First places) → Passes (First rules)
  rules_pass first second third fourth = passes_both types behind_types first (passes_both no_keys behind_keys second (passes_both primary places third fourth))

-- by what the statement sees
pub as_added : {T : Type 0} (c : List Item) (who : Who) (w : Work) (all : List Part) (named : List NamedConstraint) (Done : T → Type 0) (result : Result T EditError) → w ≡ added_work c who w.table all
    → IsTested (rules c who w all named w.keys (last_place c w.table)) Done result → IsTested (addition_rules c who w.table all named) Done result
as_added c who w all named Done result e h = subst (λ (x : Work). IsTested (rules c who x all named x.keys (last_place c w.table)) Done result) e h

pub passes_as_added : (c : List Item) (who : Who) (w : Work) (all : List Part) (named : List NamedConstraint) → w ≡ added_work c who w.table all
    → Passes (First (rules c who w all named w.keys (last_place c w.table))) → Passes (First (addition_rules c who w.table all named))
passes_as_added c who w all named e passed = subst (λ (x : Work). Passes (First (rules c who x all named x.keys (last_place c w.table)))) e passed
