use Rattle.edit_suspects.proofs.Spreads.{makes_a_spread}
use Rattle.edit_suspects.proofs.laws.touched_numbers_make_a_spread.Goals as goal

pub returns : goal.returns
returns c = λ eq g old edited f edit marks fresh good whole full fit with_f spread are_fresh. makes_a_spread eq g old edited edit marks fresh good whole full fit spread are_fresh f with_f
