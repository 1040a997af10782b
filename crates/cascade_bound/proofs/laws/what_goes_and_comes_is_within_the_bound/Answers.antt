use Rattle.cascade_bound.proofs.Paid.{begins_within, comes_within, within_bound}
use Rattle.cascade_bound.proofs.laws.what_goes_and_comes_is_within_the_bound.Goals as goal

pub returns-clause-read : goal.returns-clause-read
returns-clause-read c = λ g old edited edit marks own most on good fit b. begins_within g old edited edit marks own on good fit most b

pub returns-clause-planned : goal.returns-clause-planned
returns-clause-planned c =
    λ g old edited f new edit marks own fresh arrivals most on good fit with_f are_fresh survive are b. comes_within g old edited edit marks own on good fit most b f fresh new with_f are_fresh survive arrivals are

pub returns-clause-made : goal.returns-clause-made
returns-clause-made c =
    λ g old edited f new edit marks own out fresh arrivals most on outgoing good fit with_f are_fresh survive are b. within_bound g old edited edit marks own on good fit most b f fresh new with_f are_fresh survive arrivals are out outgoing
