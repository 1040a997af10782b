use Rattle.catalog_lock.proofs.Closing.{has_machine, ends}
use Rattle.catalog_lock.proofs.shared.Shared.close.Goals as goal

pub unreachable-requires : goal.unreachable-requires
unreachable-requires g c =
    has_machine _ _ _ _ _ _ _ _ _ _ _ _ _ c.pass.view_is c.pass.invariant.2 c.requires.first c.requires.all c.close_with-closed.ensures.values.2 c.take.ensures.value c.in_default.is

pub returns : goal.returns
returns g c =
    let e = ends _ _ _ _ _ _ _ _ _ _ _ _ _ _ c.pass.view_is c.pass.invariant.2 c.requires.first c.requires.all c.close_with-closed.ensures.values.2 c.take.ensures.value c.in-Some.is in
    record { made = e.0; seen = e.1; legal = e.2; own = e.3; joined = e.4; others = e.5 }
