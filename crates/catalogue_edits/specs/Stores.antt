-- An edit that nothing refuses, ready on a catalogue and on its board.
use Rattle.std.specs.Prelude.{List}
use Rattle.item_index.specs.Graphs.{Graph}
use Rattle.cat_items.specs.declared.edit.Edit.{Edit}
use Rattle.cat_items.specs.declared.item.Item.{Item}
use Rattle.catalogue_changes.specs.Changes.{IsChange}
use Rattle.revoke_cascade.specs.Boards.{IsCascade}
use Rattle.catalogue_edits.specs.declared.store.Admitted.{Admitted}

pub record IsAdmitted (board : Graph Item) (c : List Item) (edit : Edit) (new : List Item) (admitted : Admitted) : Type 0 where
  pub cascade : IsCascade board c edit new admitted.cascade
  pub change : IsChange c new admitted.change
