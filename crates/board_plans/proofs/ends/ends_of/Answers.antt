use Rattle.std.proofs.Common.{[], ap, arith, get_or, length, subst, sym, take}
use Rattle.std.specs.List.{flat_map}
use Rattle.std.proofs.lemmas.List.Sums.{sum_by_more}
use Rattle.std.proofs.lemmas.Slice.Zip.{AllZip-long}
use Rattle.graph_changes.specs.declared.ends.End.TheVariants.{Comes}
use Rattle.cat_items.specs.contracts.item.ItemPartialEq.TheImpl as same
use Rattle.cat_items.specs.contracts.item.ItemEq.TheImpl.Laws as laws
use Rattle.board_plans.specs.declared.arrivals.Arrival.{Arrival}
use Rattle.board_plans.specs.Arrivals.{links_by}
use Rattle.board_plans.specs.Ends.{AreEnds, IsPlaceOf}
use Rattle.board_plans.proofs.Finding.{end_kept, no_links}
use Rattle.board_plans.proofs.Members.{zip_read}
use Rattle.board_plans.proofs.Pushing.{arrival_more}
use Rattle.board_plans.proofs.ends.ends_of.Goals as goal

pub loop-at-init : goal.loop-at-init
loop-at-init g c =
    let keys = c.args.keys.now.keys in
    record {
      ends = subst (AreEnds same.ghosts.eq c.args.board.now c.args.out.now.keys keys keys []) (sym c.new-ends.ensures.items) (no_links same.ghosts.eq laws.laws-law c.args.board.now c.args.out.now.keys keys);
      few = omega arith;
    }

pub bounds-places-at : goal.bounds-places-at
bounds-places-at g c = let same = AllZip-long (λ a place. IsPlaceOf same.ghosts.eq c.args.keys.now.keys a.key place) c.args.arrivals.now c.args.places.now c.requires in omega (arith, same, c.loop-at-test.true)

pub push_links-requires : goal.push_links-requires
push_links-requires g c =
    let keys = c.args.keys.now.keys in
    let arrivals = c.args.arrivals.now in
    let a = c.index-arrivals-at.result in
    let place = get_or c.args.places.now c.loop-at.at 0 in
    let first = zip_read (λ b p. IsPlaceOf same.ghosts.eq keys b.key p) arrivals c.args.places.now c.loop-at.at a 0 c.requires c.loop-at-test.true in
    let own = subst (λ (b : Arrival). IsPlaceOf same.ghosts.eq keys b.key place) (sym c.index-arrivals-at.is) first in
    end_kept same.ghosts.eq laws.laws-law c.args.board.now c.args.out.now.keys keys c.loop-at.keys.keys (flat_map links_by (take c.loop-at.at arrivals)) c.loop-at.ends.items c.loop-at.invariant.ends a.key (Comes place) own

pub loop-at-preserved : goal.loop-at-preserved
loop-at-preserved g c =
    let arrivals = c.args.arrivals.now in
    let a = c.index-arrivals-at.result in
    let more = sum_by_more (λ b. length (links_by b)) arrivals c.loop-at.at a c.loop-at-test.true in
    let here = ap (λ (b : Arrival). length (links_by b)) c.index-arrivals-at.is in
    record {
      ends = arrival_more same.ghosts.eq laws.laws-law c.args.board.now c.args.out.now.keys c.args.keys.now.keys c.loop-at.keys.keys c.push_links.new.keys.keys arrivals c.loop-at.at c.loop-at-test.true a
          c.index-arrivals-at.is c.loop-at.ends.items c.push_links.new.ends.items c.loop-at.invariant.ends c.in_ok-push_links.ensures.pushed;
      few = omega arith;
    }
