use Rattle.std.proofs.Common.{refl}
use Rattle.grant_edit.proofs.Lists.{contains_at}
use Rattle.grant_edit.proofs.RevokeLemmas.{revoked}
use Rattle.grant_edit.proofs.revokes.is_revoked.Goals as goal

pub returns-then-covers : goal.returns-then-covers
returns-then-covers c = (
  λ _. revoked c.args.object.now c.args.named.now.items c.requires c.other-item.result c.args.need.now
      (contains_at c.args.named.now.items c.deref-other-items.result.now c.loop-other.other-index c.deref-other-items.ensures.value c.other-item.result c.loop-other-test.true c.other-item.is)
      (c.if-covers.ensures.0 refl),
  λ _. refl,
)
