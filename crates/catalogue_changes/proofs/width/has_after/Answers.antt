use Rattle.std.proofs.Common.{inl, inr}
use Rattle.std.proofs.lemmas.Bool.{both_ways}
use Rattle.catalogue_changes.proofs.Widths.{stands_by, stood_by, told_not, not_told}
use Rattle.catalogue_changes.proofs.width.has_after.Goals as goal

pub returns-then-has : goal.returns-then-has
returns-then-has c = λ new is. (
  λ e. stands_by c.args.kind c.args.name.now c.args.c.now.items new c.args.change.now is (inl (c.has.ensures.0 c.if-has.true)),
  λ x. c.if-has.true,
)

pub returns-then-has-2 : goal.returns-then-has-2
returns-then-has-2 c = λ new is. (
  λ e. stands_by c.args.kind c.args.name.now c.args.c.now.items new c.args.change.now is (inr (c.has-else-has.ensures.0 c.if-has-2.true, λ y. told_not c.has-then-has-2.result e (c.has-then-has-2.ensures.1 y))),
  λ x. elim (stood_by c.args.kind c.args.name.now c.args.c.now.items new c.args.change.now c.items.ensures.order is x) [
    | inl comes ↦ absurd (both_ways c.has.result c.if-has.false (c.has.ensures.1 comes))
    | inr stays ↦ not_told c.has-then-has-2.result (λ e. stays.1 (c.has-then-has-2.ensures.0 e))
  ],
)

pub returns-else-has-2 : goal.returns-else-has-2
returns-else-has-2 c = λ new is. (
  λ e. absurd (both_ways c.has-else-has.result c.if-has-2.false e),
  λ x. elim (stood_by c.args.kind c.args.name.now c.args.c.now.items new c.args.change.now c.items.ensures.order is x) [
    | inl comes ↦ absurd (both_ways c.has.result c.if-has.false (c.has.ensures.1 comes))
    | inr stays ↦ c.has-else-has.ensures.1 stays.0
  ],
)
