use Rattle.std.proofs.lemmas.Bool.{both_ways}
use Rattle.cat_items.specs.declared.need.Auth.TheVariants.{Named}
use Rattle.part_rounds.proofs.GrantedLaws.{option_there}
use Rattle.part_rounds.proofs.granted.is_way.Goals as goal

pub returns-then-is_marked_to-clause-answer : goal.returns-then-is_marked_to-clause-answer
returns-then-is_marked_to-clause-answer c =
    let option = option_there c.args.c.now.items c.args.options.now c.args.marks.now c.args.grant (Named c.args.role.now) c.requires.options.options_are in
    (λ e. (option.0 (c.is_marked_to.ensures.0 c.if-is_marked_to.true), c.reaches_by.ensures.answer.0 e), λ h. c.reaches_by.ensures.answer.1 h.1)

pub returns-else-is_marked_to-clause-answer : goal.returns-else-is_marked_to-clause-answer
returns-else-is_marked_to-clause-answer c =
    let option = option_there c.args.c.now.items c.args.options.now c.args.marks.now c.args.grant (Named c.args.role.now) c.requires.options.options_are in
    (λ e. absurd (both_ways _ c.if-is_marked_to.false e), λ h. absurd (both_ways _ c.if-is_marked_to.false (c.is_marked_to.ensures.1 (option.1 h.0))))
