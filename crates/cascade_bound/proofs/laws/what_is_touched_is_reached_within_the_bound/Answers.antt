use Rattle.cascade_bound.proofs.Owning.{begun_within}
use Rattle.cascade_bound.proofs.laws.what_is_touched_is_reached_within_the_bound.Goals as goal

pub returns : goal.returns
returns c = λ g old edited edit bound good whole full fit b spent takes. begun_within g edit whole old edited bound good full fit b spent takes
