use Rattle.std.proofs.lemmas.Bool.{both_ways}
use Rattle.domain_edits.proofs.ChangedDomains.{checked, typed, untyped_told}
use Rattle.domain_edits.proofs.adding.AddedCheckMaking.rules.Goals as goal

pub returns-then-has_none : goal.returns-then-has_none
returns-then-has_none c =
    let s = c.args.self.now in
    (untyped_told c.args._c.now.items c.args._who.now s.domain s.checks c.args.named c.requires.named (c.has_none.ensures.0 c.if-has_none.true), tt)

pub returns : goal.returns
returns c =
    let s = c.args.self.now in
    let items = c.args._c.now.items in
    let who = c.args._who.now in (
      typed items who s.domain s.checks c.args.named c.requires.named (λ none. both_ways _ c.if-has_none.false (c.has_none.ensures.1 none)),
      checked items who s.domain s.checks c.args.named c.in_ok-needs.needs c.requires.named c.in_ok-needs.ensures,
    )
