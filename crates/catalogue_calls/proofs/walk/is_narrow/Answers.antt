use Rattle.std.proofs.Common.{subst}
use Rattle.catalogue_changes.specs.Widths.{IsNarrow}
use Rattle.catalogue_calls.proofs.walk.is_narrow.Goals as goal

pub returns-in-None : goal.returns-in-None
returns-in-None c = λ t. subst (λ l. IsNarrow l c.args.most) c.catalogue.ensures.items c.in-None.ensures.none
