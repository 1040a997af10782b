use Rattle.look_up_bound.proofs.AskedUnder.{under_asked}
use Rattle.look_up_bound.proofs.MoreAsked.{asks_more}
use Rattle.look_up_bound.proofs.laws.what_stands_under_a_topic_asked_for_is_relevant.Goals as goal

pub returns : goal.returns
returns c = λ u l within x y t asks is. under_asked u x y t (asks_more l u within x t asks) is
