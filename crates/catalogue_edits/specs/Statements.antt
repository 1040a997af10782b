-- What the table of kinds says of a statement.
use Rattle.std.specs.Prelude.{◌≡◌, List}
use Rattle.sql_tree.specs.declared.statement.Statement.{Statement}
use Rattle.cat_items.specs.declared.edit.Edit.{Edit}
use Rattle.cat_items.specs.declared.edit.Refusal.{Refusal}
use Rattle.cat_items.specs.declared.edit.Who.{Who}
use Rattle.cat_items.specs.declared.item.Item.{Item}
use Rattle.catalogue_edits.specs.Kinds.{Kind, kind_of}
use Rattle.catalogue_edits.specs.declared.plan.Plan.{Plan}

-- a statement whose edit is built
abbrev pub IsBuiltEdit : Statement → Type 0
IsBuiltEdit statement = (kind_of statement).built

-- its refusals by the catalogue as it is, in their order
abbrev pub edit_refusals : List Item → Who → Statement → List (Refusal → Type 0)
edit_refusals c who statement = (kind_of statement).refusals c who

-- the edit that it makes
abbrev pub IsEditOf : List Item → Who → Statement → Edit → Type 0
IsEditOf c who statement edit = (kind_of statement).makes c who edit

-- its edit, what it warns of, and whether it has RESTRICT
pub record IsPlanned (kind : Kind) (c : List Item) (who : Who) (plan : Plan) : Type 0 where
  pub edit : kind.makes c who plan.edit
  pub warning : kind.warns c who plan.edit plan.warning
  pub restrict : plan.restrict ≡ kind.restricts
