use Rattle.board_steps.proofs.Planned.{had_keys, new_keys, new_links}
use Rattle.board_steps.proofs.laws.a_plan_can_be_carried_out.Goals as goal

pub returns-clause-had : goal.returns-clause-had
returns-clause-had c = had_keys

pub returns-clause-keys : goal.returns-clause-keys
returns-clause-keys c = new_keys

pub returns-clause-links : goal.returns-clause-links
returns-clause-links c = new_links
