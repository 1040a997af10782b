use Rattle.revoke_cascade.proofs.Judged.{found_by, found_of, makes_new}
use Rattle.revoke_cascade.proofs.laws.what_a_cascade_finds_stands.Goals as goal

pub returns : goal.returns
returns c = record { by = found_by; members = found_of; new = makes_new }
