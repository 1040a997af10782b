use Rattle.edit_suspects.proofs.Spreads.{marked_alike}
use Rattle.edit_suspects.proofs.laws.what_is_known_is_a_suspect_where_it_is_marked.Goals as goal

pub returns : goal.returns
returns c = λ eq g old edited edit marks fresh good whole itself full fit spread are_fresh x k n is has. marked_alike eq g old edited edit marks fresh good whole full fit spread are_fresh itself x k n is has
