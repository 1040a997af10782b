-- Good catalogues: of a proper shape, and exactly what finite chains support.
use Rattle.std.specs.Prelude.{List}
use Rattle.cat_items.specs.declared.item.Item.{Item}
use Rattle.cat_items.specs.Survivors.{IsWithSystem, AreSurvivors}
use Rattle.cat_items.specs.Shape.{HasShape}

-- it survives of itself and the rights that the system could grant for its objects
pub record IsGood (c : List Item) : Type 0 where
  pub shape : HasShape c
  pub all : List Item
  pub with_system : IsWithSystem c all
  pub survivors : AreSurvivors all c
