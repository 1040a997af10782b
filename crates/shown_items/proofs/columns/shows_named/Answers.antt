use Rattle.std.proofs.Common.{subst}
use Rattle.std.specs.Prelude.{◌↔◌, IsTrue}
use Rattle.cat_items.specs.Ranges.{IsDomainOf}
use Rattle.cat_items.specs.Reach.{Has}
use Rattle.shown_items.specs.Viewers.{viewer_of, IsSeenDomain}
use Rattle.shown_items.proofs.Sides.{domain_shown}
use Rattle.shown_items.proofs.columns.shows_named.Goals as goal

pub returns : goal.returns
returns c =
    let items = c.args.c.now.items in
    let viewer = viewer_of c.args.viewer in
    let same = domain_shown items viewer c.args.domain.now in
    let has = subst (λ o. IsTrue c.has_in.result ↔ Has items (λ x. IsDomainOf o x × IsSeenDomain items viewer x)) c.into.ensures c.has_in.ensures in
    (λ h. same.0 (has.0 h), λ h. has.1 (same.1 h))
