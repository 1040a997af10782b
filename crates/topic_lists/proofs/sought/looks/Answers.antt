use Rattle.std.proofs.Common.{inl, refl, sym}
use Rattle.topic_lists.proofs.Runs.{some_member}
use Rattle.topic_lists.proofs.sought.looks.Goals as goal

pub returns-then-not-is_empty : goal.returns-then-not-is_empty
returns-then-not-is_empty c = (λ _. inl (some_member c.args.needs.now (sym c.if-not-is_empty.ensures)), λ _. rw c.if-not-is_empty.true refl)
