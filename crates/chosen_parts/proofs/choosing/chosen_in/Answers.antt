use Rattle.std.proofs.Common.{ℕ, get_or, arith}
use Rattle.std.specs.declared.ops.Range.{Range}
use Rattle.std.proofs.lemmas.List.{get_or_default}
use Rattle.edit_rules.proofs.ChosenItems.{none_chosen}
use Rattle.chosen_parts.proofs.Covering.{all_end_more, none_end}
use Rattle.chosen_parts.proofs.Steps.{fits_in, before_range, behind_ranges}
use Rattle.chosen_parts.proofs.choosing.chosen_in.Goals as goal

abbrev nowhere : Range ℕ
nowhere = record { start = 0; end = 0 }

pub loop-range-init : goal.loop-range-init
loop-range-init g c = record {
  within = omega arith;
  chosen = rw c.new-found.ensures.items (none_chosen c.args.c.now.items (g.T.Chooses.fits c.args.test.now));
  ends = none_end c.deref-range-items.result.now;
}

pub choose_between-requires-clause-within : goal.choose_between-requires-clause-within
choose_between-requires-clause-within g c =
    let seen = c.deref-range-items.result.now in
    let i = c.loop-range.range-index in
    let range : Range ℕ = get_or seen i nowhere in
    let are = rw (← c.deref-range-items.ensures.value) at c.in_ok-ranges.ensures.ranges in
    rw c.items-items.ensures.items
    ((fits_in c.args.c.now.items c.args.parts.now seen (g.T.Chooses.fits c.args.test.now) c.loop-range.found.items i c.loop-range.at are c.requires c.loop-range.invariant.within c.loop-range.invariant.ends c.loop-range.invariant.chosen
    range c.max-from.result c.max-to.result c.loop-range-test.true (get_or_default seen i nowhere range c.loop-range-test.true) c.max-from.ensures c.max-to.ensures).1)

pub choose_between-requires-clause-before : goal.choose_between-requires-clause-before
choose_between-requires-clause-before g c =
    let seen = c.deref-range-items.result.now in
    let i = c.loop-range.range-index in
    let range : Range ℕ = get_or seen i nowhere in
    let are = rw (← c.deref-range-items.ensures.value) at c.in_ok-ranges.ensures.ranges in
    let rising = rw (← c.deref-range-items.ensures.value) at c.in_ok-ranges.ensures.order in
    rw c.items-items.ensures.items
    (before_range c.args.c.now.items c.args.parts.now seen (g.T.Chooses.fits c.args.test.now) c.loop-range.found.items i c.loop-range.at are c.requires c.loop-range.invariant.within c.loop-range.invariant.ends c.loop-range.invariant.chosen
    range c.max-from.result rising c.loop-range-test.true (get_or_default seen i nowhere range c.loop-range-test.true) c.max-from.ensures)

pub loop-range-preserved : goal.loop-range-preserved
loop-range-preserved g c =
    let seen = c.deref-range-items.result.now in
    let i = c.loop-range.range-index in
    let range : Range ℕ = get_or seen i nowhere in
    let are = rw (← c.deref-range-items.ensures.value) at c.in_ok-ranges.ensures.ranges in
    record {
      within = (fits_in c.args.c.now.items c.args.parts.now seen (g.T.Chooses.fits c.args.test.now) c.loop-range.found.items i c.loop-range.at are c.requires c.loop-range.invariant.within c.loop-range.invariant.ends c.loop-range.invariant.chosen
          range c.max-from.result c.max-to.result c.loop-range-test.true (get_or_default seen i nowhere range c.loop-range-test.true) c.max-from.ensures c.max-to.ensures).1;
      chosen = rw c.items-items.ensures.items at c.in_ok-choose_between.ensures;
      ends = all_end_more seen i c.loop-range.at c.max-to.result range c.loop-range-test.true (get_or_default seen i nowhere range c.loop-range-test.true)
          (omega (arith, c.max-from.ensures, c.max-to.ensures)) (omega (arith, c.max-to.ensures)) c.loop-range.invariant.ends;
    }

pub returns : goal.returns
returns g c =
    let seen = c.deref-range-items.result.now in
    let are = rw (← c.deref-range-items.ensures.value) at c.in_ok-ranges.ensures.ranges in
    rw c.from_vec.ensures
    (behind_ranges c.args.c.now.items c.args.parts.now seen (g.T.Chooses.fits c.args.test.now) c.loop-range.found.items c.loop-range.range-index c.loop-range.at are c.requires c.loop-range.invariant.within c.loop-range.invariant.ends c.loop-range.invariant.chosen
    c.loop-range-test.false)
