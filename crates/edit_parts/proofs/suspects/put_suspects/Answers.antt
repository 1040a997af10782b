use Rattle.std.proofs.Common.{arith, sym}
use Rattle.topic_keys.proofs.Adding.{each_begin, each_end, each_more}
use Rattle.edit_parts.specs.Parts.{IsUnlessKept}
use Rattle.edit_parts.proofs.suspects.put_suspects.Goals as goal

pub loop-right-init : goal.loop-right-init
loop-right-init g c = record { members = each_begin (IsUnlessKept c.args.board.now c.args.marks.now.keys) c.args.rights.now c.args.suspects.now.items; ticks = omega (arith) }

pub put_suspect-requires : goal.put_suspect-requires
put_suspect-requires g c = c.requires c.right-item.result (c.loop-right.right-index, c.loop-right-test.true, sym c.right-item.is)

pub loop-right-preserved : goal.loop-right-preserved
loop-right-preserved g c = record {
  members = each_more (IsUnlessKept c.args.board.now c.args.marks.now.keys) c.args.rights.now c.args.suspects.now.items c.loop-right.suspects.items c.put_suspect.new.suspects.items c.loop-right.right-index c.right-item.result c.loop-right-test.true
      c.right-item.is c.loop-right.invariant.members c.in_ok-put_suspect.ensures.members;
  ticks = omega (arith, c.loop-right.invariant.ticks, c.put_suspect.ensures.ticks);
}

pub returns-in_err-put_suspect-clause-ticks : goal.returns-in_err-put_suspect-clause-ticks
returns-in_err-put_suspect-clause-ticks g c = omega (arith, c.loop-right.invariant.ticks, c.put_suspect.ensures.ticks, c.loop-right-test.true)

pub returns-clause-members : goal.returns-clause-members
returns-clause-members g c =
    each_end (IsUnlessKept c.args.board.now c.args.marks.now.keys) c.args.rights.now c.args.suspects.now.items c.loop-right.suspects.items c.loop-right.right-index (omega (arith, c.loop-right-test.false)) c.loop-right.invariant.members

pub returns-clause-ticks : goal.returns-clause-ticks
returns-clause-ticks g c = omega (arith, c.loop-right.invariant.ticks, c.loop-right.auto.right-index-end)
