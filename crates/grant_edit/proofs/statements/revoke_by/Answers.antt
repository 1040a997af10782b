use Rattle.std.proofs.Common.{subst}
use Rattle.std.specs.List.{Contains}
use Rattle.grant_edit.proofs.NamedLemmas.{named_is_on}
use Rattle.grant_edit.proofs.StatementLemmas.{revokes_are_sound, revokes_by}
use Rattle.grant_edit.proofs.statements.revoke_by.Goals as goal

pub identified-requires : goal.identified-requires
identified-requires c need h =
    named_is_on c.args.parts.now.target.kind c.args.object.now c.args.parts.now.privileges need (subst (λ l. Contains l need) c.in_ok-named.ensures h)

pub returns-clause-revoked : goal.returns-clause-revoked
returns-clause-revoked c =
    revokes_by c.args.c.now.items c.args.grantor.now c.args.object.now c.args.parts.now c.in_ok-named.named.items _ c.in_ok-named.ensures c.in_ok-identified.ensures.order c.in_ok-identified.ensures.members c.new.ensures c.new-2.ensures

pub returns-clause-sound : goal.returns-clause-sound
returns-clause-sound c good =
    revokes_are_sound c.args.c.now.items c.args.grantor.now c.args.object.now c.args.parts.now _
    (revokes_by c.args.c.now.items c.args.grantor.now c.args.object.now c.args.parts.now c.in_ok-named.named.items _ c.in_ok-named.ensures c.in_ok-identified.ensures.order c.in_ok-identified.ensures.members c.new.ensures c.new-2.ensures) good
