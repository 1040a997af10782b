use Rattle.std.proofs.Common.{ap, sym, ◌∙◌}
use Rattle.std.specs.Prelude.{max}
use Rattle.std.proofs.Math.Nat.{max-zero, zero-max}
use Rattle.std.proofs.lemmas.List.{at_drop_all}
use Rattle.table_additions.specs.Additions.{last_place}
use Rattle.table_additions.proofs.Places.{greater_more}
use Rattle.table_additions.proofs.columns.greatest_place.Goals as goal

pub loop-x-init : goal.loop-x-init
loop-x-init c = record { greatest = zero-max (last_place c.args.items.now c.args.table.now) }

pub loop-x-preserved : goal.loop-x-preserved
loop-x-preserved c = record {
  greatest = greater_more c.args.items.now c.args.table.now c.loop-x.x-index c.x-item.result c.loop-x.last c.place_here.result c.greater-last.result c.loop-x-test.true c.x-item.is c.place_here.ensures c.greater-last.ensures c.loop-x.invariant.greatest;
}

pub returns : goal.returns
returns c =
    sym (max-zero c.loop-x.last) ∙ ap (max c.loop-x.last) (sym (at_drop_all (λ l. last_place l c.args.table.now) c.args.items.now c.loop-x.x-index c.loop-x-test.false)) ∙ c.loop-x.invariant.greatest
