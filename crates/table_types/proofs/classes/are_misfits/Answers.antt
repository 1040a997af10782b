use Rattle.std.proofs.Common.{◌≡◌, length, sym, ◌∙◌}
use Rattle.std.proofs.lemmas.Bool.{eqb-true}
use Rattle.table_types.proofs.ClassLemmas.{misfits_of}
use Rattle.table_types.proofs.classes.are_misfits.Goals as goal

pub returns-then-len : goal.returns-then-len
returns-then-len c =
    let count : length c.in-Some.names.now ≡ length c.args.columns.now = sym c.len.ensures ∙ c.if-len.true ∙ c.len-in-Some.ensures in (
      λ two. (c.in-Some.names.now, c.in-Some.ensures.found, count, c.are_of_two_classes_at.ensures.0 two),
      λ h. c.are_of_two_classes_at.ensures.1 (misfits_of c.args.own.now c.args.others.now c.args.keys.now c.args.columns.now c.args.written.now c.in-Some.names.now c.in-Some.ensures.found h).1,
    )

pub returns-else-len : goal.returns-else-len
returns-else-len c = (
  λ yes. absurd (c.if-len.false (eqb-true c.len.result c.len-in-Some.result yes)),
  λ h. absurd (c.if-len.false (c.len.ensures ∙ (misfits_of c.args.own.now c.args.others.now c.args.keys.now c.args.columns.now c.args.written.now c.in-Some.names.now c.in-Some.ensures.found h).0 ∙ sym c.len-in-Some.ensures)),
)
