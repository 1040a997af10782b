use Rattle.edit_arrivals.proofs.Standing.{keys_alike, added_alike, arrivals_alike}
use Rattle.edit_arrivals.proofs.laws.arrivals_by_a_part_are_those_of_the_new_catalogue.Goals as goal

pub returns-clause-keys : goal.returns-clause-keys
returns-clause-keys c = keys_alike

pub returns-clause-added : goal.returns-clause-added
returns-clause-added c = λ p all edited f part found standing edit suspect by x k is known. added_alike p all edited f part found standing edit suspect by x is known k

pub returns-clause-arrivals : goal.returns-clause-arrivals
returns-clause-arrivals c = arrivals_alike
