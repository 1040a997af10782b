-- What a statement makes of a catalogue, or why it is refused.
use Rattle.std.specs.Prelude.{Bool, List, [], ◌∷◌, Option}
use Rattle.sql_tree.specs.declared.statement.Statement.{Statement}
use Rattle.cat_items.specs.declared.edit.Edit.{Edit}
use Rattle.cat_items.specs.declared.edit.Refusal.{Refusal}
use Rattle.cat_items.specs.declared.edit.Who.{Who}
use Rattle.cat_items.specs.declared.item.Item.{Item}
use Rattle.cat_items.specs.declared.limits.Limits.{Limits}
use Rattle.cat_items.specs.Edits.{IsNew}
use Rattle.edit_rules.specs.First.{First}
use Rattle.catalogue_edits.specs.declared.warning.Warning.{Warning}
use Rattle.catalogue_edits.specs.Limits.{too_many_items, too_many_columns}
use Rattle.catalogue_edits.specs.Kinds.{kind_of}
use Rattle.catalogue_edits.specs.Restrict.{still_needed}
use Rattle.catalogue_edits.specs.Statements.{edit_refusals, IsEditOf}

-- a test of the statement's edit
abbrev pub for_edit : List Item → Who → Statement → (Edit → Refusal → Type 0) → Refusal → Type 0
for_edit c who statement test refusal = (edit : Edit) × IsEditOf c who statement edit × test edit refusal

-- the tests of an edit by what it makes of the catalogue: RESTRICT, and the limits
abbrev pub outcome_refusals : Limits → List Item → Option Bool → Edit → List (Refusal → Type 0)
outcome_refusals limits c restrict edit = still_needed c restrict edit ∷ too_many_items limits c edit ∷ too_many_columns limits c edit ∷ []

-- the tests of a statement, in their order
abbrev pub revision_refusals : Limits → List Item → Who → Statement → List (Refusal → Type 0)
revision_refusals limits c who statement =
    First (edit_refusals c who statement)
    ∷ for_edit c who statement (λ edit. First (outcome_refusals limits c (kind_of statement).restricts edit))
    ∷ []

-- the catalogue that the statement makes of another, and what it warns of
pub record IsRevised (c : List Item) (who : Who) (statement : Statement) (warning : Option Warning) (new : List Item) : Type 0 where
  pub edit : Edit
  pub is_edit : IsEditOf c who statement edit
  pub is_new : IsNew c edit new
  pub warns : (kind_of statement).warns c who edit warning
