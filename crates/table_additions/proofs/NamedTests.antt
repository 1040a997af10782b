-- Tests of the constraints of a statement, by the one list of names that they have.
use Rattle.std.proofs.Common.{◌≡◌, ◌↔◌, ◌+◌, ◌≤◌, List, [], ◌∷◌, length, inl, inr, refl, subst}
use Rattle.std.proofs.lemmas.Bool.{cases_lt}
use Rattle.std.specs.List.{Contains}
use Rattle.std.specs.declared.result.Result.TheVariants.{Err}
use Rattle.sql_names.specs.declared.object.Object.{Object}
use Rattle.cat_items.specs.declared.edit.EditError.{EditError}
use Rattle.cat_items.specs.declared.edit.EditError.TheVariants.{Refused, Memory}
use Rattle.cat_items.specs.declared.edit.Refusal.{Refusal}
use Rattle.cat_items.specs.declared.edit.Refusal.TheVariants.{CatalogFull, Repeated}
use Rattle.cat_items.specs.declared.edit.Who.{Who}
use Rattle.cat_items.specs.declared.item.Item.{Item}
use Rattle.cat_items.specs.declared.need.Need.{Need}
use Rattle.edit_rules.specs.First.{First, IsTested, Passes}
use Rattle.edit_rules.proofs.FirstLaws.{passes_first, passes_one, passes_rest, passes_that}
use Rattle.statement_steps.proofs.Repeats.{differ_without}
use Rattle.statement_steps.proofs.StepLaws.{rules_pass, tree_passes}
use Rattle.statement_steps.specs.Steps.{refusals_of}
use Rattle.table_parts.specs.declared.parts.Part.{Part}
use Rattle.table_parts.specs.Marks.{MarksDiffer, marks_in}
use Rattle.table_parts.specs.Parts.{columns_of, constraints_of}
use Rattle.table_names.specs.declared.named.NamedConstraint.{NamedConstraint}
use Rattle.table_names.specs.Named.{AreConstraints, HaveOwnNames, for_constraints}
use Rattle.table_names.specs.Refusals.{repeated_name, told}
use Rattle.table_names.proofs.NamesSettled.{constraints_settled}
use Rattle.table_names.proofs.OwnNames.{own_names}
use Rattle.table_types.specs.Types.{too_many_places}
use Rattle.table_elements.specs.Found.{AreFoundOf}
use Rattle.table_constraints.specs.Made.{IsConstraintMade}
use Rattle.table_constraints.specs.Rules.{no_such_key, type_mismatch}
use Rattle.table_additions.specs.declared.new_parts.FoundParts.{FoundParts}
use Rattle.table_additions.specs.declared.new_parts.MadeParts.{MadeParts}
use Rattle.table_additions.specs.Additions.{IsNeededBy, added_work, addition_rules, last_place, second_primary, steps_of_parts}
use Rattle.table_work.specs.Seen.{keys_in}

module _ (c : List Item) (table : Object) (all : List Part) (named : List NamedConstraint) (are : AreConstraints c table all named) where
  abbrev For : (List NamedConstraint → List (Refusal → Type 0)) → Refusal → Type 0
  For tests = for_constraints c table all (λ n. First (tests n))

  -- where the tests of the constraints with their names pass, those of each list of their names do
  pub pass_for : (tests : List NamedConstraint → List (Refusal → Type 0)) → Passes (First (tests named)) → Passes (First (For tests ∷ []))
  pass_for tests passed =
      passes_one (For tests) (λ refusal f. passed refusal (subst (λ (n : List NamedConstraint). First (tests n) refusal) (constraints_settled c table all f.0 named f.1 are) f.2))

  pub passed_of : (tests : List NamedConstraint → List (Refusal → Type 0)) → Passes (First (For tests ∷ [])) → Passes (First (tests named))
  passed_of tests passed refusal f = passes_that (For tests) passed refusal (named, are, f)

  pub error_for : {T U : Type 0} (tests : List NamedConstraint → List (Refusal → Type 0)) (D : T → Type 0) (Done : U → Type 0) (e : EditError) → IsTested (tests named) D (Err e) → IsTested (For tests ∷ []) Done (Err e)
  error_for tests D Done (Refused refusal) h = (inl (named, are, h.0), tt)
  error_for tests D Done Memory h = tt

  -- what is needed by them is needed by each list
  pub needed_for : (who : Who) (need : Need) → IsNeededBy c who table all named need ↔ (steps_of_parts c who table all).needs need
  needed_for who need = (
    λ h. (named, are, h),
    λ h. subst (λ (n : List NamedConstraint). IsNeededBy c who table all n need) (constraints_settled c table all h.0 named h.1 are) h.2,
  )

-- ---- what is known between the steps

abbrev pub IsNaming : List Item → Who → Object → List Part → FoundParts → Type 0
IsNaming c who table all f = (f.work ≡ added_work c who table all) × AreFoundOf c who (added_work c who table all) (constraints_of all) f.found

abbrev pub IsMaking : List Item → Who → Object → List Part → MadeParts → Type 0
IsMaking c who table all m = (named : List NamedConstraint) × AreConstraints c table all named × ((x : Item) → Contains m.items x ↔ IsConstraintMade c who (added_work c who table all) named x)
    × ((need : Need) → Contains m.needs need ↔ IsNeededBy c who table all named need)

-- ---- what passed tests give

pub marks_differ : (table : Object) (all : List Part) → Passes (repeated_name table all) → MarksDiffer (marks_in all)
marks_differ table all passed =
    differ_without (marks_in all) (λ mark again. passed (Repeated (told table mark)) (mark, record { before = again.before; after = again.after; parts = again.parts; differ = again.differ; again = again.again }, refl))

module _ (c : List Item) (who : Who) (table : Object) (all : List Part) (passed : Passes (First (refusals_of c who (steps_of_parts c who table all)))) where
  pub differ_where_passed : MarksDiffer (marks_in all)
  differ_where_passed = marks_differ table all (passes_that (repeated_name table all) (tree_passes c who (steps_of_parts c who table all) passed))

  module _ (named : List NamedConstraint) (are : AreConstraints c table all named) where
    pub own_names_where_passed : HaveOwnNames named
    own_names_where_passed = own_names c table all named differ_where_passed are

    pub rules_where_passed : Passes (First (addition_rules c who table all named))
    rules_where_passed = passed_of c table all named are (addition_rules c who table all) (rules_pass c who (steps_of_parts c who table all) passed)

    abbrev places : List (Refusal → Type 0)
    places = too_many_places (last_place c table) all ∷ []

    abbrev keys_and_places : List (Refusal → Type 0)
    keys_and_places = second_primary table named (keys_in c table) ∷ places

    behind_types : Passes (First keys_and_places)
    behind_types = passes_rest (no_such_key c who (added_work c who table all) named) keys_and_places (passes_rest (type_mismatch c who (added_work c who table all) all named) (no_such_key c who (added_work c who table all) named ∷ keys_and_places) rules_where_passed)

    pub one_primary_where_passed : Passes (second_primary table named (keys_in c table))
    one_primary_where_passed = passes_first (second_primary table named (keys_in c table)) places behind_types

    full : Passes (too_many_places (last_place c table) all)
    full = passes_that (too_many_places (last_place c table) all) (passes_rest (second_primary table named (keys_in c table)) places behind_types)

    pub places_where_passed : last_place c table + length (columns_of all) ≤ 4294967295
    places_where_passed =
        elim (cases_lt 4294967295 (last_place c table + length (columns_of all))) [
          | inl more ↦ absurd (full (CatalogFull 4294967295) (more, refl))
          | inr few ↦ few
        ]
