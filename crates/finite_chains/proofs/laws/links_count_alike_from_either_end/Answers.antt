use Rattle.finite_chains.proofs.SumsOverLinks.{sum_links}
use Rattle.finite_chains.proofs.laws.links_count_alike_from_either_end.Goals as goal

pub returns : goal.returns
returns c = λ counts links bound nodes within. sum_links counts links bound nodes within
