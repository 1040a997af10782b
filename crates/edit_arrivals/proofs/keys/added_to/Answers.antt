use Rattle.std.proofs.Common.{refl, subst}
use Rattle.std.proofs.lemmas.Result.{IfOk-weaker, on_ok_weaker}
use Rattle.cat_items.specs.Relevant.{IsOptionOn}
use Rattle.edit_arrivals.specs.Steps.{IsTheOne}
use Rattle.edit_arrivals.proofs.Options.{adds_to_none, adds_to_key}
use Rattle.edit_arrivals.proofs.Walking.{options_passed}
use Rattle.edit_arrivals.proofs.keys.added_to.Goals as goal

pub next_key-requires-clause-passed : goal.next_key-requires-clause-passed
next_key-requires-clause-passed c = c.requires.passed c.in-Some.other ((subst (IsTheOne (IsOptionOn c.args.x.now)) c.in-Some.is c.in_ok-option_of.ensures c.in-Some.other).0 refl)

pub returns-in-None-clause-added : goal.returns-in-None-clause-added
returns-in-None-clause-added c = adds_to_none c.args.found.now.items c.args.x.now (subst (IsTheOne (IsOptionOn c.args.x.now)) c.in-None.is c.in_ok-option_of.ensures)

pub returns-in-Some-clause-added : goal.returns-in-Some-clause-added
returns-in-Some-clause-added c =
    IfOk-weaker c.next_key.result _ _
    (λ key is. adds_to_key c.args.found.now.items c.args.x.now c.in-Some.other key (subst (IsTheOne (IsOptionOn c.args.x.now)) c.in-Some.is c.in_ok-option_of.ensures) is)
    c.next_key.ensures.key

pub returns-in-Some-clause-passed : goal.returns-in-Some-clause-passed
returns-in-Some-clause-passed c =
    let x = c.args.x.now in
    let other = c.in-Some.other in
    let on = (subst (IsTheOne (IsOptionOn x)) c.in-Some.is c.in_ok-option_of.ensures other).0 refl in
    on_ok_weaker c.next_key.result (λ passed y less _. options_passed c.args.found.now.items c.args.rights.now c.next_key.new.passed x other on passed y less) c.next_key.ensures.passed
