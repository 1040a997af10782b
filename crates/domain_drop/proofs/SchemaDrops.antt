-- DROP SCHEMA has one refusal at most and one edit, which is sound and leaves the users.
use Rattle.std.proofs.Common.{◌≡◌, ◌≢◌, List, [], ◌∷◌, Option, Some, None, Err, Bor, refl, sym, subst, ◌∙◌, lit<}
use Rattle.std.specs.Result.{IsErrAnd}
use Rattle.std.specs.declared.result.Result.{Result}
use Rattle.sql_names.specs.NameBytes.{NameBytes}
use Rattle.sql_names.specs.declared.object.Object.{Object}
use Rattle.cat_items.specs.declared.edit.Edit.{Edit}
use Rattle.cat_items.specs.declared.edit.EditError.{EditError}
use Rattle.cat_items.specs.declared.edit.Who.{Who}
use Rattle.cat_items.specs.declared.item.Column.{Column}
use Rattle.cat_items.specs.declared.item.Item.{Item}
use Rattle.cat_items.specs.declared.item.Item.TheVariants as item
use Rattle.cat_items.specs.declared.ranges.Part.TheVariants as part
use Rattle.cat_items.specs.Fit.{LacksPart}
use Rattle.cat_items.specs.Good.{IsGood}
use Rattle.cat_items.specs.Rights.{IsSchema}
use Rattle.chosen_parts.specs.Parts.{LieIn}
use Rattle.edit_rules.specs.Chosen.{AreChosen}
use Rattle.edit_rules.specs.First.{First, IsTested, Passes}
use Rattle.edit_rules.specs.Names.{unknown_schema}
use Rattle.edit_rules.specs.Owners.{not_owner}
use Rattle.edit_rules.proofs.FirstLaws.{AreSettled, exit_of_others, passes_more, passes_that}
use Rattle.edit_laws.specs.Forms.{RightsLackParts, SaysOf}
use Rattle.edit_laws.specs.Sound.{IsSound}
use Rattle.edit_laws.specs.Users.{LeavesUsers}
use Rattle.domain_drop.specs.Drops.{IsFreeing, IsSchemaDrop, drop_schema_refusals}
use Rattle.domain_drop.specs.FreedColumns.{FreedBySchema, IsOfSchema}
use Rattle.domain_drop.proofs.CopiesSettled.{freeing_settled}
use Rattle.domain_drop.proofs.SoundFreeing.{freeing_leaves_users, sound_freeing}

-- ---- where it stands

pub schema_lies : (c : List Item) (schema : Bor NameBytes) → LieIn c (part.Schema schema ∷ []) (IsSchema schema.now)
schema_lies c schema x there is = (part.Schema schema, (0, lit< tt, refl), is)

-- ---- soundness

of_none : (schema : NameBytes) (on : Option Object) → IsOfSchema schema on → on ≡ None → ⊥
of_none schema None of none = of
of_none schema (Some o) of none = let odd : Some o ≡ None = none in cc

based : (schema : NameBytes) (x : Column) → FreedBySchema schema x → x.domain ≢ None
based schema x is none = of_none schema x.domain is.0 none

says : (schema : NameBytes) (edited : List Item) (x : Item) → IsSchema schema x → SaysOf (LacksPart edited) x
says schema edited (item.Schema s) is = tt
says schema edited x is = absurd is

privileges_lack : (c : List Item) (schema : NameBytes) (edit : Edit) → IsSchemaDrop c schema edit → RightsLackParts c edit
privileges_lack c schema edit drop edited of x h = says schema edited x ((drop.0.members x).0 h).1

pub sound_schema_drop : (c : List Item) (schema : NameBytes) (edit : Edit) → IsGood c → IsSchemaDrop c schema edit → IsSound c edit
sound_schema_drop c schema edit good drop = sound_freeing c (FreedBySchema schema) (IsSchema schema) edit good (based schema) (λ x h. h) (privileges_lack c schema edit drop) drop.0 drop.1

-- ---- what the table of kinds asks

pub drop_schema_refusals_settled : (c : List Item) (who : Who) (schema : NameBytes) → AreSettled (drop_schema_refusals c who schema)
drop_schema_refusals_settled c who schema = ((λ a b p q. p.1 ∙ sym q.1), ((λ a b p q. p.1 ∙ sym q.1), tt))

pub drop_schema_edit_settled : (c : List Item) (schema : NameBytes) (a b : Edit) → IsSchemaDrop c schema a → IsSchemaDrop c schema b → a ≡ b
drop_schema_edit_settled c schema a b p q = freeing_settled c (FreedBySchema schema) (IsSchema schema) a b p q

pub schema_drop_leaves_users : (c : List Item) (schema : NameBytes) (edit : Edit) → IsSchemaDrop c schema edit → LeavesUsers edit
schema_drop_leaves_users c schema edit drop = freeing_leaves_users c (FreedBySchema schema) (IsSchema schema) edit (λ user h. h) drop.0 drop.1

-- ---- the statement

-- the schema stands, and the session doesn't act for its owner
pub refused_by_owner : (c : List Item) (who : Who) (schema : NameBytes) (e : EditError) (exit : Result Edit EditError) → IsErrAnd exit (λ error. error ≡ e)
    → Passes (First (unknown_schema c schema ∷ [])) → IsTested {T = Unit {0}} (not_owner c who schema ∷ []) (λ v. Unit {0}) (Err e)
    → IsTested (drop_schema_refusals c who schema) (IsSchemaDrop c schema) exit
refused_by_owner c who schema e exit is passed h =
    exit_of_others {T = Unit {0}} (unknown_schema c schema ∷ []) (not_owner c who schema ∷ []) (λ v. Unit {0}) (IsSchemaDrop c schema) e exit is passed h

pub both_pass : (c : List Item) (who : Who) (schema : NameBytes) → Passes (First (unknown_schema c schema ∷ [])) → Passes (First (not_owner c who schema ∷ [])) → Passes (First (drop_schema_refusals c who schema))
both_pass c who schema passed own = passes_more (unknown_schema c schema) (not_owner c who schema ∷ []) (passes_that (unknown_schema c schema) passed) own

-- these are taken, and the columns are freed
pub schema_goes : (c : List Item) (schema : NameBytes) (edit : Edit) (found : List Item) → edit.target ≡ found → AreChosen c (IsSchema schema) found → IsFreeing c (FreedBySchema schema) edit → IsSchemaDrop c schema edit
schema_goes c schema edit found is chosen frees = (subst (AreChosen c (IsSchema schema)) (sym is) chosen, frees)
