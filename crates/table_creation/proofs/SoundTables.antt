-- CREATE TABLE leaves a good catalogue good.
use Rattle.std.proofs.Common.{◌≡◌, List, inl, inr, sym, subst, ◌∙◌}
use Rattle.std.specs.List.{AllPairs, Contains}
use Rattle.sql_names.specs.declared.object.Object.{Object}
use Rattle.cat_items.specs.declared.edit.Edit.{Edit}
use Rattle.cat_items.specs.declared.edit.Who.{Who}
use Rattle.cat_items.specs.declared.item.Column.{Column}
use Rattle.cat_items.specs.declared.item.Item.{Item}
use Rattle.cat_items.specs.declared.item.Item.TheVariants as item
use Rattle.cat_items.specs.Good.{IsGood}
use Rattle.cat_items.specs.Pieces.{AreResolved, IsType, default_pieces}
use Rattle.cat_items.specs.Reach.{Has}
use Rattle.cat_items.specs.Rights.{path_of, IsColumn, IsTable}
use Rattle.edit_laws.specs.Forms.{HasFreeName}
use Rattle.edit_laws.specs.Proper.{FitsDomain, IsProperItem, IsProperBeside}
use Rattle.edit_laws.specs.Sound.{IsSound}
use Rattle.edit_laws.proofs.FormLaws.{same_object}
use Rattle.edit_laws.proofs.GoodCatalogues.{column_table_stands}
use Rattle.statement_steps.specs.Steps.{MakesEdit, Nothing}
use Rattle.statement_steps.proofs.Additions.{sound_addition}
use Rattle.table_parts.specs.declared.parts.Part.{Part}
use Rattle.table_parts.specs.Parts.{columns_of}
use Rattle.table_parts.proofs.Differing.{AreOtherColumns}
use Rattle.table_names.specs.declared.named.NamedConstraint.{NamedConstraint}
use Rattle.table_names.specs.Named.{HaveOwnNames}
use Rattle.table_work.specs.declared.work.Work.{Work}
use Rattle.table_constraints.specs.Formed.{AreTested}
use Rattle.table_constraints.proofs.ConstraintLaws.{made_beside, made_free, made_proper}
use Rattle.table_creation.specs.Tables.{IsTableMade, new_columns, work_of}
use Rattle.table_creation.proofs.NewColumns.{definition_of}
use Rattle.table_creation.proofs.TableItems.{Which, called_once, which}

-- what the tests, the grammar and resolution give of a table that is made
pub record IsFormedTable (c : List Item) (who : Who) (table : Object) (all : List Part) (named : List NamedConstraint) (edit : Edit) : Type 0 where
  pub new : ¬ (Has c (IsTable (path_of table)))
  pub own : HaveOwnNames named
  pub columns : AllPairs AreOtherColumns (columns_of all)
  pub constraints : AreTested c (work_of c who table all named) named edit
  pub types : (x : Column) → Contains (new_columns c who table all) x → IsType x.sort × AreResolved (default_pieces x.default)
  pub domains : (x : Column) → Contains (new_columns c who table all) x → FitsDomain c edit x x.domain

module _ (c : List Item) (who : Who) (table : Object) (all : List Part) (named : List NamedConstraint) (edit : Edit) (good : IsGood c) (formed : IsFormedTable c who table all named edit)
    (is : MakesEdit c Nothing Nothing (IsTableMade c who table all named) edit) where
  abbrev w : Work
  w = work_of c who table all named

  abbrev IsOne : Item → Type 0
  IsOne x = Which c who table all named x

  of_table : (z : Column) → Contains (new_columns c who table all) z → z.table ≡ table
  of_table z h = (definition_of c who table all 1 (columns_of all) z h).2.table_is

  no_column : (z old : Column) → Contains (new_columns c who table all) z → Contains c (item.Column old) → old.table ≡ z.table → ⊥
  no_column z old h k e = formed.new (subst (λ (o : Object). Has c (IsTable (path_of o))) (e ∙ of_table z h) (column_table_stands c good old k))

  no_such : (z : Column) → Contains (new_columns c who table all) z → (y : Item) → Contains c y → IsColumn (path_of z.table) z.name y → ⊥
  no_such z h (item.Column y) k s = no_column z y h k (sym (same_object z.table y.table s.0))
  no_such z h y k s = s

  free : (x : Item) → IsOne x → HasFreeName c x
  free x (inl e) = subst (HasFreeName c) (sym e) formed.new
  free x (inr (inl z)) = subst (HasFreeName c) (sym z.1) (λ s. no_such z.0 z.2 s.0 s.1 s.2)
  free x (inr (inr n)) = made_free c who w named edit good formed.constraints x n

  proper_table : IsProperItem (item.Table table)
  proper_table = record { allowed = tt; derived = tt; lists = tt; trees = tt }

  proper_column : (z : Column) → Contains (new_columns c who table all) z → IsProperItem (item.Column z)
  proper_column z h = record { allowed = tt; derived = tt; lists = tt; trees = formed.types z h }

  proper : (x : Item) → IsOne x → IsProperItem x
  proper x (inl e) = subst IsProperItem (sym e) proper_table
  proper x (inr (inl z)) = subst IsProperItem (sym z.1) (proper_column z.0 z.2)
  proper x (inr (inr n)) = made_proper c who w named edit good formed.constraints x n

  beside_column : (z : Column) → Contains (new_columns c who table all) z → IsProperBeside c edit (item.Column z)
  beside_column z h = (formed.domains z h, λ old k t p. no_column z old h k.0 t)

  beside_it : (x : Item) → IsOne x → IsProperBeside c edit x
  beside_it x (inl e) = subst (IsProperBeside c edit) (sym e) tt
  beside_it x (inr (inl z)) = subst (IsProperBeside c edit) (sym z.1) (beside_column z.0 z.2)
  beside_it x (inr (inr n)) = made_beside c who w named edit good formed.constraints x n

  pub sound_table : IsSound c edit
  sound_table =
      sound_addition c (IsTableMade c who table all named) edit is good
      (λ x y name p q nx ny. called_once c who table all named formed.own formed.columns x y name p q nx ny)
      (λ x p. free x (which c who table all named x p)) (λ x p. proper x (which c who table all named x p)) (λ x p. beside_it x (which c who table all named x p))
