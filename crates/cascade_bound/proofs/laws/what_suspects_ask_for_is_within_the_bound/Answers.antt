use Rattle.cascade_bound.proofs.Suspects.{asked_within}
use Rattle.cascade_bound.proofs.laws.what_suspects_ask_for_is_within_the_bound.Goals as goal

pub returns : goal.returns
returns c = λ g old edited edit most good whole full fit b part suspects keys lacks are differ asked. asked_within old edited edit good fit most b part lacks g whole full suspects keys are differ asked
