use Rattle.edit_arrivals.proofs.Standing.{suspects_listed, found_is_plain}
use Rattle.edit_arrivals.proofs.laws.what_was_found_has_its_suspects_listed.Goals as goal

pub returns-clause-listed : goal.returns-clause-listed
returns-clause-listed c = λ p edited f part found standing suspects suspect with_f is_found are. suspects_listed p edited f part found standing suspect with_f is_found suspects are

pub returns-clause-plain : goal.returns-clause-plain
returns-clause-plain c = found_is_plain
