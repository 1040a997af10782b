-- The plan of a statement is what the table of kinds says.
use Rattle.std.proofs.Common.{◌≡◌, ◌∙◌, List, None, Option, Some, Bool, false, ap, refl, sym, subst}
use Rattle.sql_names.specs.declared.column.ObjectName.{ObjectName}
use Rattle.sql_tree.specs.declared.statement.Behaviour.{Behaviour}
use Rattle.sql_tree.specs.declared.statement.DropKind.{DropKind}
use Rattle.sql_tree.specs.declared.statement.DropKind.TheVariants as kinds
use Rattle.sql_tree.specs.declared.statement.Statement.{Statement}
use Rattle.cat_items.specs.declared.edit.Edit.{Edit}
use Rattle.cat_items.specs.declared.edit.Who.{Who}
use Rattle.cat_items.specs.declared.item.Item.{Item}
use Rattle.edit_rules.specs.First.{First, Passes}
use Rattle.catalogue_edits.specs.declared.plan.Plan.{Plan}
use Rattle.catalogue_edits.specs.Kinds.{Kind, drop_kind, kind_of, where_restrict}
use Rattle.catalogue_edits.specs.Statements.{IsPlanned}
use Rattle.catalogue_edits.specs.Warnings.{WarnsWhere}
use Rattle.catalogue_edits.specs.declared.warning.Warning.{Warning}

-- all tests of the kind pass, and the plan is what it says
abbrev pub IsPlannedBy : Kind → List Item → Who → Plan → Type 0
IsPlannedBy kind c who plan = Passes (First (kind.refusals c who)) × IsPlanned kind c who plan

-- what is planned of the parts of a statement is planned of it
pub of_parts : (s t : Statement) (c : List Item) (who : Who) (plan : Plan) → s ≡ t → IsPlannedBy (kind_of t) c who plan → IsPlannedBy (kind_of s) c who plan
of_parts s t c who plan is planned = subst (λ x. IsPlannedBy (kind_of x) c who plan) (sym is) planned

-- with the edit that the kind makes
pub planned : (s t : Statement) (c : List Item) (who : Who) (edit : Edit) (plan : Plan) → s ≡ t → plan.edit ≡ edit → Passes (First ((kind_of t).refusals c who)) → (kind_of t).makes c who edit
    → (kind_of t).warns c who edit plan.warning → plan.restrict ≡ (kind_of t).restricts → IsPlannedBy (kind_of s) c who plan
planned s t c who edit plan is edit_is passes makes warns restrict = of_parts s t c who plan is (
  passes,
  record {
    edit = subst ((kind_of t).makes c who) (sym edit_is) makes;
    warning = subst (λ e. (kind_of t).warns c who e plan.warning) (sym edit_is) warns;
    restrict = restrict;
  },
)

-- a plan with an edit that a kind makes, and without a warning
pub quietly : (kind : Kind) (c : List Item) (who : Who) (edit : Edit) (restrict : Option Bool) (plan : Plan) → plan ≡ record { edit = edit; warning = None; restrict = restrict }
    → Passes (First (kind.refusals c who)) → kind.makes c who edit → kind.warns c who edit None → restrict ≡ kind.restricts → IsPlannedBy kind c who plan
quietly kind c who edit restrict plan made passes makes warns same = (
  passes,
  record {
    edit = subst (kind.makes c who) (sym (ap (λ (p : Plan). p.edit) made)) makes;
    warning = subst (λ (p : Plan). kind.warns c who p.edit p.warning) (sym made) warns;
    restrict = ap (λ (p : Plan). p.restrict) made ∙ same;
  },
)

-- the same of a statement with these parts
pub silently : (s t : Statement) (c : List Item) (who : Who) (edit : Edit) (restrict : Option Bool) (plan : Plan) → s ≡ t → plan ≡ record { edit = edit; warning = None; restrict = restrict }
    → Passes (First ((kind_of t).refusals c who)) → (kind_of t).makes c who edit → (kind_of t).warns c who edit None → restrict ≡ (kind_of t).restricts → IsPlannedBy (kind_of s) c who plan
silently s t c who edit restrict plan is made passes makes warns same = of_parts s t c who plan is (quietly (kind_of t) c who edit restrict plan made passes makes warns same)

-- a warning that is due where the one is so is due where the other is
pub warns_as : (P Q : Type 0) (kind : Warning) (warning : Option Warning) → (P → Q) → (Q → P) → WarnsWhere P kind warning → WarnsWhere Q kind warning
warns_as P Q kind None to from warns = λ q. warns (from q)
warns_as P Q kind (Some warning) to from warns = (to warns.0, warns.1)

-- ---- DROP of an object

-- each of them warns of nothing, and has the behaviour that is said
pub drops_quietly : (behaviour : Behaviour) (k : DropKind) (name : ObjectName) (c : List Item) (who : Who) (edit : Edit) → (drop_kind behaviour k name).warns c who edit None × ((drop_kind behaviour k name).restricts ≡ where_restrict behaviour false)
drops_quietly behaviour kinds.Table name c who edit = (refl, refl)
drops_quietly behaviour kinds.View name c who edit = (refl, refl)
drops_quietly behaviour kinds.Domain name c who edit = (refl, refl)
drops_quietly behaviour kinds.Assertion name c who edit = (refl, refl)
drops_quietly behaviour kinds.Function name c who edit = (refl, refl)
drops_quietly behaviour kinds.Procedure name c who edit = (refl, refl)
drops_quietly behaviour kinds.Routine name c who edit = (refl, refl)
