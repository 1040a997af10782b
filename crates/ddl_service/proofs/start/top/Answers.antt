use Rattle.std.proofs.Common.{refl, inl, inr, map, subst, Some}
use Rattle.std.specs.String.{string_bytes}
use Rattle.ddl_service.specs.Commands.{Asks}
use Rattle.ddl_service.proofs.CommandLaws.{one_command, told}
use Rattle.ddl_service.proofs.Openings.{allowed_users}
use Rattle.ddl_service.proofs.start.top.Goals as goal

pub returns-in-Ok-clause-ends : goal.returns-in-Ok-clause-ends
returns-in-Ok-clause-ends g c =
    let words = map (λ word. string_bytes word) c.args.words.now.items in
    let asked = c.in-Ok-Some.asked in
    let said = told (λ word. string_bytes word) _ c.args.words.now.items _ (Some asked) c.deref.ensures.value c.in-Ok-Some.field-0-is c.in-Ok-Some.ensures in
    inl (asked.users.items, asked.definition, subst (λ command. Asks words command asked.users.items) c.in-Script.is said.0, said.1, (c.in-Ok.ensures.ok, refl))

pub returns-in-Ok-server-clause-ends : goal.returns-in-Ok-server-clause-ends
returns-in-Ok-server-clause-ends g c =
    let words = map (λ word. string_bytes word) c.args.words.now.items in
    let asked = c.in-Ok-Some.asked in
    let said = told (λ word. string_bytes word) _ c.args.words.now.items _ (Some asked) c.deref.ensures.value c.in-Ok-Some.field-0-is c.in-Ok-Some.ensures in
    inr (inl (asked.users.items, asked.definition, c.in-Serve.port, c.in-Serve.connections, subst (λ command. Asks words command asked.users.items) c.in-Serve.is said.0, said.1, (c.in-Ok-server.ensures.ok, c.in-Ok-server.ensures.quiet, refl)))

pub returns-in-Ok-server-clause-script : goal.returns-in-Ok-server-clause-script
returns-in-Ok-server-clause-script g c = λ users asks stream left well no_read no_write.
    let words = map (λ word. string_bytes word) c.args.words.now.items in
    let asked = c.in-Ok-Some.asked in
    let said = told (λ word. string_bytes word) _ c.args.words.now.items _ (Some asked) c.deref.ensures.value c.in-Ok-Some.field-0-is c.in-Ok-Some.ensures in
    absurd (one_command words users asked.users.items c.in-Serve.port c.in-Serve.connections asks (subst (λ command. Asks words command asked.users.items) c.in-Serve.is said.0))

pub returns-in-Ok-None-clause-ends : goal.returns-in-Ok-None-clause-ends
returns-in-Ok-None-clause-ends g c =
    let said = told (λ word. string_bytes word) _ c.args.words.now.items _ _ c.deref.ensures.value c.in-Ok-None.field-0-is c.in-Ok-None.ensures in
    inr (inr (inr (inl (refl, said, (record { source = refl; sink = refl }, refl)))))

pub returns-in-Ok-None-clause-script : goal.returns-in-Ok-None-clause-script
returns-in-Ok-None-clause-script g c = λ users asks stream left well no_read no_write.
    let said = told (λ word. string_bytes word) _ c.args.words.now.items _ _ c.deref.ensures.value c.in-Ok-None.field-0-is c.in-Ok-None.ensures in
    absurd (said _ users asks)

pub sample-requires-clause-allowed : goal.sample-requires-clause-allowed
sample-requires-clause-allowed g c =
    let said = told (λ word. string_bytes word) _ c.args.words.now.items _ (Some c.in-Ok-Some.asked) c.deref.ensures.value c.in-Ok-Some.field-0-is c.in-Ok-Some.ensures in
    allowed_users _ said.0.users_are.are_users
