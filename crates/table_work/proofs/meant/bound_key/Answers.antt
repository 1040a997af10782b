use Rattle.std.proofs.Common.{◌≡◌, length, ap, sym, subst, ◌∙◌}
use Rattle.cat_items.specs.declared.item.Key.{Key}
use Rattle.table_work.specs.Keys.{columns_meant}
use Rattle.table_work.proofs.MeantKeys.{one_meant}
use Rattle.table_work.proofs.meant.bound_key.Goals as goal

pub returns-in_err-key-clause-none : goal.returns-in_err-key-clause-none
returns-in_err-key-clause-none c = rw c.from_residual.ensures (λ k bound. c.in_err-key.ensures.none k bound.meant)

pub returns-else-len-clause-none : goal.returns-else-len-clause-none
returns-else-len-clause-none c = λ k bound.
    let one : k ≡ c.in_ok-key.key.now = one_meant c.args.keys.now c.args.written.now k c.in_ok-key.key.now bound.meant c.in_ok-key.ensures.found in
    let count : length (columns_meant c.args.written.now c.in_ok-key.key.now) ≡ length c.args.columns.now = subst (λ (x : Key). length (columns_meant c.args.written.now x) ≡ length c.args.columns.now) one bound.count in
    c.if-len.false (c.len.ensures ∙ ap length c.columns_meant.ensures ∙ count ∙ sym c.len-2.ensures)
