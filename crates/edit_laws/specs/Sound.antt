-- Edits that leave a good catalogue good.
use Rattle.std.specs.Prelude.{List}
use Rattle.cat_items.specs.declared.edit.Edit.{Edit}
use Rattle.cat_items.specs.declared.item.Item.{Item}
use Rattle.cat_items.specs.Fit.{IsFit}
use Rattle.cat_items.specs.Shape.{HasShape}

-- the edit fits the catalogue, and the edited one has a proper shape
pub record IsSound (c : List Item) (edit : Edit) : Type 0 where
  pub edited : List Item
  pub fit : IsFit c edit edited
  pub shape : HasShape edited
