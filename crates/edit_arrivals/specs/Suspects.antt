-- Lists of suspects, and the part by which an edit's suspects are known.
use Rattle.std.specs.Prelude.{◌≡◌, ◌⊎◌, Bool, true, List}
use Rattle.std.specs.List.{Contains}
use Rattle.cat_items.specs.declared.edit.Edit.{Edit}
use Rattle.cat_items.specs.declared.item.Item.{Item}
use Rattle.cat_items.specs.Fit.{IsFit}
use Rattle.cat_items.specs.Survivors.{IsSystemRight, IsWithSystem}
use Rattle.cascade_laws.specs.Found.{IsFound}
use Rattle.cascade_laws.specs.Spreading.{IsSpread}
use Rattle.part_topics.specs.Whole.{IsWholePart}

-- The list has no other than suspects, and of those all that stand, and that the system could grant for what stands.
pub record HasSuspects (found : List Item) (suspect : Item → Bool) (suspects : List Item) : Type 0 where
  pub all : (x : Item) → Contains found x ⊎ IsSystemRight found x → suspect x ≡ true → Contains suspects x
  pub only : (x : Item) → Contains suspects x → suspect x ≡ true

-- What rounds found of a part that has all that the edit's suspects ask for, where f is what the edit makes of c, with the rights that the system
-- could grant for it.
pub record IsFoundBy (c all edited f : List Item) (edit : Edit) (suspect : Item → Bool) (part found standing : List Item) : Type 0 where
  pub fit : IsFit c edit edited
  pub with_system : IsWithSystem edited f
  pub spread : IsSpread c all edit f suspect
  pub is_found : IsFound c f suspect part found standing
  pub whole : IsWholePart c suspect part
