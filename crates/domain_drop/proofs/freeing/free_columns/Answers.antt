use Rattle.std.proofs.Common.{[]}
use Rattle.domain_drop.specs.CheckCopies.{pairs_of}
use Rattle.domain_drop.specs.Gone.{FreedBy}
use Rattle.domain_drop.proofs.CopyLemmas.{copies_differ}
use Rattle.domain_drop.proofs.FreedLemmas.{put_back_is}
use Rattle.domain_drop.proofs.freeing.free_columns.Goals as goal

pub put_all-requires-clause-order : goal.put_all-requires-clause-order
put_all-requires-clause-order c = c.in_ok-changed.ensures.order

pub put_all-requires-clause-differ : goal.put_all-requires-clause-differ
put_all-requires-clause-differ c = copies_differ c.args.c.now.items [] (pairs_of c.in_ok-changed.changed c.in_ok-checks.checks) c.in_ok-copies.copies c.in_ok-copies.ensures

pub returns-clause-freed : goal.returns-clause-freed
returns-clause-freed c = record {
  checks = c.in_ok-checks.checks;
  are_checks = c.in_ok-checks.ensures;
  copies = c.in_ok-copies.copies;
  are_copies = c.in_ok-copies.ensures;
  changed = c.in_ok-changed.ensures;
  added = put_back_is c.args.c.now.items c.in_ok-changed.changed c.in_ok-added.added c.in_ok-copies.copies (FreedBy c.args.gone) c.in_ok-changed.ensures c.in_ok-added.ensures.order c.in_ok-added.ensures.members;
}
