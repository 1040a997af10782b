use Rattle.std.proofs.Common.{ap, refl, sym, ◌∙◌}
use Rattle.cat_items.specs.declared.item.Check.{Check}
use Rattle.domain_drop.proofs.names.is_called.Goals as goal

pub returns-then-same : goal.returns-then-same
returns-then-same c = (
  λ e. (
    c.loop-copy.copy-index,
    c.copy-item.result,
    rw c.as_slice-copy-items.ensures at c.loop-copy-test.true,
    sym (rw c.as_slice-copy-items.ensures at c.copy-item.is),
    ap (λ (z : Check). z.name) (sym c.get.ensures) ∙ c.if-same.ensures.0 refl,
  ),
  λ h. refl,
)
