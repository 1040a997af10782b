use Rattle.std.proofs.Common.{◌∷◌, ◌++◌, [], arith, ap, ◌∙◌}
use Rattle.reached_roles.proofs.ReachLemmas.{no_roles, place_read, roles_all, roles_more}
use Rattle.reached_roles.proofs.reaching.roles_at.Goals as goal

pub role_at-role-requires : goal.role_at-role-requires
role_at-role-requires c = c.requires c.index.result.now (place_read c.args.found.now.keys c.loop-nth.nth c.index.result.now c.index.ensures).2

pub loop-nth-init : goal.loop-nth-init
loop-nth-init c = record { names_are = no_roles c.args.edges.now c.args.found.now.keys c.new-names.result.items c.new-names.ensures.items }

pub loop-nth-preserved : goal.loop-nth-preserved
loop-nth-preserved c =
    let old = c.loop-nth.names.items in
    let at = c.index.result.now in
    let role = c.role_at-role.result.now in
    record {
      names_are = roles_more c.args.edges.now c.args.found.now.keys c.loop-nth.nth at old c.push.new.self.items role c.index.ensures
          (c.requires at (place_read c.args.found.now.keys c.loop-nth.nth at c.index.ensures).2) c.role_at-role.ensures
          (c.in_ok-push.ensures.items ∙ ap (λ n. old ++ n ∷ []) c.in_ok-copy.ensures) c.loop-nth.invariant.names_are;
    }

pub returns : goal.returns
returns c = roles_all c.args.edges.now c.args.found.now.keys c.loop-nth.nth c.loop-nth.names.items (omega (arith, c.loop-nth-test.false, c.len-nth-end.ensures.len)) c.loop-nth.invariant.names_are
