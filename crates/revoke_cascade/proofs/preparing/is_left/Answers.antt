use Rattle.revoke_cascade.proofs.preparing.is_left.Goals as goal

pub returns-in-Some-clause-left : goal.returns-in-Some-clause-left
returns-in-Some-clause-left c = λ old edited new made _. (c.if-not-restricted.false, (c.in-Some.field-0.now, c.in-Some.ensures.least old edited new made))

pub returns-in-None-clause-made : goal.returns-in-None-clause-made
returns-in-None-clause-made c = λ old edited new made _ _. c.in-None.ensures.none old edited new made
