use Rattle.std.proofs.Common.{◌≡◌, subst}
use Rattle.std.specs.Prelude.{nat_lt}
use Rattle.std.specs.List.{list_any}
use Rattle.view_deps.specs.Described as spec
use Rattle.view_deps.proofs.Described.{base_table_is}
use Rattle.view_deps.proofs.catalogue.is_base_table.Goals as goal

pub returns : goal.returns
returns c =
    subst (λ o. nat_lt c.places-range.result.start c.places-range.result.end ≡ list_any (spec.is_base_table o) c.args.c.now.items) c.into.ensures (base_table_is _ c.args.c.now.items _ _ c.places-range.ensures)
