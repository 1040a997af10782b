use Rattle.edit_laws.proofs.PutBackLaws.{put_back_name, put_back_item, put_back_beside}
use Rattle.edit_laws.proofs.laws.columns_put_back_are_proper.Goals as goal

pub returns : goal.returns
returns c = λ items edit good x back. (put_back_name items edit good x back, put_back_item items edit good x back, put_back_beside items edit good x back)
