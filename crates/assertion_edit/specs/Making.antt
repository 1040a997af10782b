-- What an assertion that is to be made comes to.
use Rattle.std.specs.Prelude.{[], ◌∷◌, Some}
use Rattle.cat_items.specs.declared.edit.Edit.{Edit}
use Rattle.cat_items.specs.declared.item.Assertion.{Assertion}
use Rattle.cat_items.specs.declared.item.Item.TheVariants as item
use Rattle.name_scopes.specs.Outcomes.{Outcome}
use Rattle.query_types.specs.declared.whole.TypedExpr.{TypedExpr}
use Rattle.view_deps.specs.declared.resolve.ResolvedExpr.{ResolvedExpr}
use Rattle.edit_conditions.specs.Conditions.{IsFound}

-- the resolved condition with its needs
abbrev pub IsConditionOf : Outcome TypedExpr → ResolvedExpr → Type 0
IsConditionOf outcome r = IsFound outcome (Some r)

-- the edit that adds this assertion and does nothing else
abbrev pub adding_assertion : Assertion → Edit
adding_assertion x = record { target = []; changed = []; added = item.Assertion x ∷ [] }
