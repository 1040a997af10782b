use Rattle.cascade_bound.proofs.Whole.{judged_within, made_within, planned_within}
use Rattle.cascade_bound.proofs.laws.what_an_edit_takes_is_within_the_bound.Goals as goal

pub returns-clause-judged : goal.returns-clause-judged
returns-clause-judged c = λ g old edited edit marks own bound on good fit b misses spent takes. judged_within g old edited edit marks own on good fit bound b misses spent takes

pub returns-clause-planned : goal.returns-clause-planned
returns-clause-planned c =
    λ g old edited f new edit marks own fresh arrivals bound on good fit b misses with_f are_fresh survive are spent takes. planned_within g old edited edit marks own on good fit bound b misses f fresh new with_f are_fresh survive arrivals are spent takes

pub returns-clause-made : goal.returns-clause-made
returns-clause-made c =
    λ g old edited f new edit marks own out fresh arrivals bound on outgoing good fit b misses with_f are_fresh survive are spent takes. made_within g old edited edit marks own on good fit bound b misses f fresh new with_f are_fresh survive arrivals are spent takes out outgoing
