use Rattle.std.proofs.Common.{◌∙◌, ◌<◌, sym, suc, ◌+◌, ◌-◌, ◌*◌, drop, get_or, length, add-one, drop-cons, arith}
use Rattle.type_rules.proofs.Values.{value_capped}
use Rattle.type_rules.proofs.rules.value_of.Goals as goal

pub loop-byte-preserved : goal.loop-byte-preserved
loop-byte-preserved c =
    let h : c.loop-byte.byte-index < length c.args.text.now = omega arith in
    c.loop-byte.invariant ∙ rw (add-one, drop-cons c.args.text.now c.loop-byte.byte-index 0) (value_capped (drop (suc c.loop-byte.byte-index) c.args.text.now) (c.loop-byte.value * 10 + (get_or c.args.text.now c.loop-byte.byte-index 0 - 48)) c.with_digit-value.result (sym c.with_digit-value.ensures))
