use Rattle.edit_laws.proofs.Shapes.{shape_of_edited}
use Rattle.edit_laws.proofs.laws.proper_additions_keep_shape.Goals as goal

pub returns : goal.returns
returns c = shape_of_edited
