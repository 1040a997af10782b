use Rattle.std.proofs.Common.{List, sym, ◌∙◌, subst}
use Rattle.finite_chains.specs.Chains.{HasSurvivors}
use Rattle.cat_items.specs.declared.item.Item.{Item}
use Rattle.cat_items.specs.Catalogues.{IsInOrder}
use Rattle.cat_items.specs.Supported.{Supported}
use Rattle.grant_chain.proofs.RoundLemmas.{none_survive}
use Rattle.grant_chain.proofs.rounds.survivors.Goals as goal

pub close-requires-clause-sound : goal.close-requires-clause-sound
close-requires-clause-sound c = none_survive _ _ _ _ c.in_ok-marks.ensures

pub returns : goal.returns
returns c = record {
  order = subst IsInOrder (sym c.of_sorted.ensures.items) c.in_ok-kept.ensures.order;
  members = subst (λ (l : List Item). HasSurvivors (Supported c.args.c.now.items) c.args.c.now.items l) (sym (c.of_sorted.ensures.items ∙ c.in_ok-kept.ensures.items)) c.close.ensures.survivors;
}
