use Rattle.std.proofs.Common.{refl, subst, sym}
use Rattle.std.proofs.lemmas.Result.{on_ok_weaker}
use Rattle.edit_rules.specs.Chosen.{IsRightOrRoleGrant}
use Rattle.edit_rules.proofs.ItemKeys.{one_granted}
use Rattle.edit_parts.proofs.PossibleLaws.{put_unless}
use Rattle.edit_parts.proofs.suspects.put_suspect.Goals as goal

pub put-requires : goal.put-requires
put-requires g c = λ y h e. one_granted y c.in_ok-copy.field-0 (subst IsRightOrRoleGrant (sym c.in_ok-copy.ensures) c.requires) e

pub returns-clause-members : goal.returns-clause-members
returns-clause-members g c =
    on_ok_weaker c.put.result
    (put_unless c.args.board.now c.args.marks.now.keys c.args.right.now c.in_ok-copy.field-0 c.args.suspects.now.items c.put.new.items.items c.in_ok-copy.ensures (c.if-not-is_marked.ensures.marked.0 refl)
    (c.in_ok-is_ghost_marked.ensures.marked.0 c.if-not-branch.false))
    c.put.ensures.members
