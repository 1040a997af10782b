use Rattle.plain_needs.proofs.BaseNeeds.{base_needed}
use Rattle.plain_needs.proofs.laws.a_plain_view_needs_its_base.Goals as goal

pub returns : goal.returns
returns c = base_needed
