use Rattle.std.proofs.Common.{ℕ, List, take, get_or, sym, subst, arith}
use Rattle.std.specs.List.{AllZip}
use Rattle.std.proofs.lemmas.List.{take_all, take_more}
use Rattle.item_index.specs.Graphs.{HasKey}
use Rattle.board_changes.proofs.Going.{one_more}
use Rattle.board_changes.proofs.leaving.keys_of.Goals as goal

pub loop-number-preserved : goal.loop-number-preserved
loop-number-preserved g c =
    let out = c.args.out.now in
    let i = c.loop-number.number-index in
    let n = get_or out i 0 in
    let board = c.args.board.now in
    let ticks = c.key.ensures.ticks in
    let was = c.loop-number.invariant.few in
    let here = subst (HasKey board n) (sym c.in_ok-copy.ensures) c.key.ensures.key in
    record {
      keys = subst (λ (ns : List ℕ). AllZip (HasKey board) ns c.push.new.self.items) (sym (take_more out i 0 c.loop-number-test.true))
          (subst (AllZip (HasKey board) _) (sym c.in_ok-push.ensures.items) (one_more board (take i out) c.loop-number.keys.items n _ c.loop-number.invariant.keys here));
      few = omega arith;
    }

pub returns-clause-keys : goal.returns-clause-keys
returns-clause-keys g c =
    let out = c.args.out.now in
    (c.loop-number.keys.items, subst (λ (ns : List ℕ). AllZip (HasKey c.args.board.now) ns c.loop-number.keys.items) (take_all c.loop-number.number-index out c.loop-number-test.false) c.loop-number.invariant.keys, c.reverse.ensures.items)

pub returns-in_err-copy-clause-few : goal.returns-in_err-copy-clause-few
returns-in_err-copy-clause-few g c =
    let ticks = c.key.ensures.ticks in
    let was = c.loop-number.invariant.few in
    let here = c.loop-number-test.true in
    omega arith

pub returns-in_err-push-clause-few : goal.returns-in_err-push-clause-few
returns-in_err-push-clause-few g c =
    let ticks = c.key.ensures.ticks in
    let was = c.loop-number.invariant.few in
    let here = c.loop-number-test.true in
    omega arith
