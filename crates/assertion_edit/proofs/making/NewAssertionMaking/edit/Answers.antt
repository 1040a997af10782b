use Rattle.std.proofs.Common.{◌≡◌}
use Rattle.cat_items.specs.declared.item.Assertion.{Assertion}
use Rattle.assertion_edit.specs.CreatedAssertions.{outcome_of}
use Rattle.assertion_edit.proofs.AssertionLemmas.{assertion_of, edit_made}
use Rattle.assertion_edit.proofs.making.NewAssertionMaking.edit.Goals as goal

pub returns : goal.returns
returns c =
    let name = c.args.self.now.name in
    let r = c.args.made in
    let x : Assertion = record { name = c.in_ok-copy.field-0; cond = r.expr; needs = r.needs } in
    let same : x ≡ assertion_of name r = (λ i. record { name = c.in_ok-copy.ensures i; cond = r.expr; needs = r.needs }) in
    edit_made c.args._c.now.items name (outcome_of c.args._c.now.items c.args._who.now c.args.self.now.condition.now) x r c.adding.result c.requires.made same c.adding.ensures
