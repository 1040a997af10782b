use Rattle.edit_suspects.proofs.Spreads.{found_as}
use Rattle.edit_suspects.proofs.laws.what_is_a_suspect_is_added_or_fresh_or_marked.Goals as goal

pub returns : goal.returns
returns c = λ eq g old edited f edit marks fresh good whole full fit with_f spread are_fresh. found_as eq g old edited edit marks fresh good whole full fit spread are_fresh f with_f
