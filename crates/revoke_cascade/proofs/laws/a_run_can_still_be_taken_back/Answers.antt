use Rattle.board_changes.proofs.Following.{left_alone, left_as_before, left_roomier, left_still}
use Rattle.revoke_cascade.proofs.laws.a_run_can_still_be_taken_back.Goals as goal

pub returns : goal.returns
returns c = record {
  at_once = λ before after old taken is. (after, is, left_alone after);
  later = λ before was now old taken still left. (still.0, still.1, left_still still.0 was now still.2 left);
  roomier = left_roomier;
  as_before = left_as_before;
}
