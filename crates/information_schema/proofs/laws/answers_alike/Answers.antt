use Rattle.information_schema.proofs.Alike.{alike}
use Rattle.information_schema.proofs.laws.answers_alike.Goals as goal

pub returns : goal.returns
returns a = alike
