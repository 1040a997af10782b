use Rattle.std.proofs.Common.{arith}
use Rattle.std.proofs.lemmas.List.Sums.{sum_by_push}
use Rattle.item_index.specs.Spans.{no_span}
use Rattle.item_index.proofs.SpanLemmas.{AreSound-push}
use Rattle.item_index.proofs.lists.Lists.push_list.Goals as goal

pub invariant_of-self : goal.invariant_of-self
invariant_of-self c = rw c.push_reserved.ensures.items (
  AreSound-push _ _ c.self.invariant.0,
  c.self.invariant.1,
  c.self.invariant.2,
  c.self.invariant.3,
  rw (sum_by_push (λ s. s.len) c.self.inside.spans.items no_span) (omega arith),
)
