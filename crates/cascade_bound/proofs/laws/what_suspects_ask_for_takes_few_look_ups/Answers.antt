use Rattle.cascade_bound.proofs.Keys.{keys_few}
use Rattle.cascade_bound.proofs.laws.what_suspects_ask_for_takes_few_look_ups.Goals as goal

pub returns : goal.returns
returns c = keys_few
