use Rattle.edit_laws.proofs.Users.{users_stay}
use Rattle.edit_laws.proofs.laws.users_stay.Goals as goal

pub returns : goal.returns
returns c = users_stay
