-- What is made ready of an edit, where RESTRICT may stop that.
use Rattle.std.specs.Prelude.{Bool, List, Option, Some, None, IfSome, IsTrue}
use Rattle.item_index.specs.Graphs.{Graph}
use Rattle.cat_items.specs.declared.edit.Edit.{Edit}
use Rattle.cat_items.specs.declared.item.Item.{Item}
use Rattle.cat_items.specs.contracts.item.ItemPartialEq.TheImpl as same
use Rattle.cat_items.specs.Edits.{IsFurther, IsNew}
use Rattle.new_catalogues.specs.Further.{IsLeastFurther}
use Rattle.catalogue_changes.specs.Effects.{AreEffects}
use Rattle.catalogue_changes.specs.declared.effects.Effects.{Effects}
use Rattle.board_plans.specs.declared.plan.Plan.{Plan}
use Rattle.board_changes.specs.Readiness.{IsPlanned}
use Rattle.board_changes.specs.declared.readiness.Ready.{Ready}

-- It was left off, as under RESTRICT the edit goes further than its target; or it wasn't, and under RESTRICT goes no further.
abbrev pub IsLeftWhere : {A : Type 0} → Bool → List Item → Edit → List Item → Option A → Type 0
IsLeftWhere restricted c edit new None = IsTrue restricted × ((x : Item) × IsLeastFurther c edit new x)
IsLeftWhere restricted c edit new (Some it) = IsTrue restricted → (x : Item) → IsFurther c edit new x → ⊥

-- The edit makes a new catalogue, with these effects, and the plan makes its board, unless it was left off.
pub record IsOutcome (g : Graph Item) (c : List Item) (edit : Edit) (restricted : Bool) (new : List Item) (effects : Effects) (plan : Option Plan) : Type 0 where
  pub made : IsNew c edit new
  pub does : AreEffects c edit new effects
  pub left : IsLeftWhere restricted c edit new plan
  pub planned : IfSome plan (λ plan. (suspect : Item → Bool) × IsPlanned same.ghosts.eq g c new suspect plan)

abbrev pub plan_in : Option Ready → Option Plan
plan_in None = None
plan_in (Some ready) = Some ready.plan
