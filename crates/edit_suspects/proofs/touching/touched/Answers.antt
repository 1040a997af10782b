use Rattle.std.proofs.Common.{arith}
use Rattle.std.proofs.lemmas.Result.{IfOk-weaker}
use Rattle.edit_suspects.proofs.Finding.{are_touched, seeds_are_nodes, spread_of, touched_from}
use Rattle.edit_suspects.proofs.touching.touched.Goals as goal

pub reached-requires : goal.reached-requires
reached-requires g c = seeds_are_nodes c.args.board.now c.args.edit.now c.as_slice.result.now c.in_ok-from.from.items c.as_slice.ensures.value c.in_ok-from.ensures.found

pub returns-clause-touched : goal.returns-clause-touched
returns-clause-touched g c =
    IfOk-weaker c.reached.result _ _ (λ marks are. are_touched c.args.board.now c.args.edit.now c.as_slice.result.now c.in_ok-from.from.items c.as_slice.ensures.value c.in_ok-from.ensures.found marks.keys are)
    c.reached.ensures.reached

pub returns-clause-spread : goal.returns-clause-spread
returns-clause-spread g c =
    IfOk-weaker c.reached.result _ _
    (λ marks are.
    spread_of c.args.board.now c.args.edit.now marks.keys (are_touched c.args.board.now c.args.edit.now c.as_slice.result.now c.in_ok-from.from.items c.as_slice.ensures.value c.in_ok-from.ensures.found marks.keys are))
    c.reached.ensures.reached

pub returns-clause-ticks : goal.returns-clause-ticks
returns-clause-ticks g c all are =
    omega (arith, c.in_ok-from.ensures.ticks, c.reached.ensures.few all (touched_from c.args.board.now c.args.edit.now c.as_slice.result.now c.in_ok-from.from.items c.as_slice.ensures.value c.in_ok-from.ensures.found all are))
