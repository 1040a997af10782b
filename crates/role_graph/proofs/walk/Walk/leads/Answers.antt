use Rattle.std.proofs.Common.{◌≡◌, length, subst, arith}
use Rattle.std.proofs.lemmas.Bool.{false≢true}
use Rattle.std.specs.Option.{option_copied}
use Rattle.role_graph.specs.Trails.{HaveFlags}
use Rattle.role_graph.proofs.AloneLemmas.{granted_to_none}
use Rattle.role_graph.proofs.TrailLemmas.{flags_from_room}
use Rattle.role_graph.proofs.walk.Walk.leads.Goals as goal

pub leads_back-leads-requires-clause-flags : goal.leads_back-leads-requires-clause-flags
leads_back-leads-requires-clause-flags c =
    let same : c.args.self.now ≡ length c.as_mut_slice-seen.result.now = omega arith in
    subst (λ n. HaveFlags c.role_authorizations-first.result.start n c.args.c.now.items) same
    (flags_from_room c.args.c.now.items c.role_authorizations-first.result.start c.role_authorizations-first.result.end c.args.self.now c.role_authorizations-first.ensures c.requires.room)

pub returns-then-grants-clause-answer : goal.returns-then-grants-clause-answer
returns-then-grants-clause-answer c =
    (λ e. absurd (false≢true e), λ walk. absurd (granted_to_none c.args.c.now.items (option_copied c.args.marks) c.role_grants_of-grants.result.start c.role_grants_of-grants.result.end c.args.from.now c.args.to.now c.role_grants_of-grants.ensures c.if-grants.true walk))
