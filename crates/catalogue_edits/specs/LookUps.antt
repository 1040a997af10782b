-- How many look-ups in the board a statement takes.
use Rattle.std.specs.Prelude.{◌≤◌, ◌+◌, ℕ, List}
use Rattle.sql_tree.specs.declared.statement.Statement.{Statement}
use Rattle.cat_items.specs.declared.edit.Edit.{Edit}
use Rattle.cat_items.specs.declared.edit.Who.{Who}
use Rattle.cat_items.specs.declared.item.Item.{Item}
use Rattle.cat_items.specs.Bound.{IsBound}
use Rattle.cat_items.specs.Fit.{IsFit}
use Rattle.edit_rules.specs.First.{First, Passes}
use Rattle.catalogue_edits.specs.Statements.{edit_refusals, IsEditOf}

-- the catalogue as it is refuses nothing of the statement, whose edit this is
pub record HasEdit (c : List Item) (who : Who) (statement : Statement) (edit : Edit) : Type 0 where
  pub passes : Passes (First (edit_refusals c who statement))
  pub is_edit : IsEditOf c who statement edit

-- no more look-ups than the bound of the edit
abbrev pub TakesFew : List Item → Edit → ℕ → ℕ → Type 0
TakesFew c edit before after = (edited : List Item) (bound : ℕ) → IsBound c edit edited bound → IsFit c edit edited → after ≤ before + bound
