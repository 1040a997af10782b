use Rattle.revoke_cascade.proofs.Making.{rescued_size}
use Rattle.revoke_cascade.proofs.judging.found_in.Goals as goal

pub found_of-requires : goal.found_of-requires
found_of-requires c = rescued_size c.args.suspects.now.items c.args.part.now.items c.in_ok-marks.marks c.in_ok-marks.ensures.rescued
