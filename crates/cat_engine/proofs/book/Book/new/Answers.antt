use Rattle.std.proofs.Common.{refl}
use Rattle.cat_engine.proofs.HistoryLaws.{opened}
use Rattle.cat_engine.proofs.Narrow.{opening_narrow}
use Rattle.cat_engine.proofs.book.Book.new.Goals as goal

pub invariant_of-result : goal.invariant_of-result
invariant_of-result c = rw (c.new-2.ensures.items, c.of.ensures) (refl, opened c.args.users.now.items c.args.limits c.in_ok-new.field-0 c.requires.distinct c.requires.allowed c.in_ok-new.ensures.order c.in_ok-new.ensures.members c.in_ok-new.ensures.sessions, opening_narrow c.args.users.now.items c.in_ok-new.field-0.catalogue c.args.limits.columns c.in_ok-new.ensures.members)
