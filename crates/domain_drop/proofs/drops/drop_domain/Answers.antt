use Rattle.domain_drop.proofs.DomainDrops.{domain_goes, dropped, refused_by_owner, sound_drop}
use Rattle.domain_drop.proofs.drops.drop_domain.Goals as goal

pub returns-in_err-test_owner-clause-tested : goal.returns-in_err-test_owner-clause-tested
returns-in_err-test_owner-clause-tested c =
    refused_by_owner c.args.c.now.items c.args.who.now c.args.name.now c.in_ok-object.object c.in_err-test_owner.field-0.0 c.from_residual-in_err-test_owner.result c.in_ok-object.ensures c.from_residual-in_err-test_owner.ensures.1
    c.in_ok-test_dropped.ensures.0 c.in_err-test_owner.ensures

pub returns-clause-tested : goal.returns-clause-tested
returns-clause-tested c =
    dropped c.args.c.now.items c.args.who.now c.args.name.now c.in_ok-object.object _ c.in_ok-object.ensures c.in_ok-test_dropped.ensures.0 c.in_ok-test_owner.ensures.0
    (domain_goes c.args.c.now.items c.in_ok-object.object _ c.in_ok-target.target c.in_ok-free_columns.ensures.target c.in_ok-target.ensures c.in_ok-free_columns.ensures.freed)

pub returns-clause-sound : goal.returns-clause-sound
returns-clause-sound c =
    sound_drop c.args.c.now.items c.in_ok-object.object _ c.requires.good
    (domain_goes c.args.c.now.items c.in_ok-object.object _ c.in_ok-target.target c.in_ok-free_columns.ensures.target c.in_ok-target.ensures c.in_ok-free_columns.ensures.freed)
