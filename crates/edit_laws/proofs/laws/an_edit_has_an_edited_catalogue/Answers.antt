use Rattle.edit_laws.proofs.EditedLists.{edited_list}
use Rattle.edit_laws.proofs.laws.an_edit_has_an_edited_catalogue.Goals as goal

pub returns : goal.returns
returns c = edited_list
