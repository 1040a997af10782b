use Rattle.edit_parts.proofs.SuspectLaws.{suspects_by_part}
use Rattle.edit_parts.proofs.laws.suspects_are_touched_or_possible_for_the_part.Goals as goal

pub returns : goal.returns
returns c =
    λ eq g old edited f edit marks fresh start part good whole itself full fit with_f spread are_fresh are is_part x. suspects_by_part eq g old edited edit marks fresh good whole full fit spread are_fresh itself start part are is_part f with_f x
