use Rattle.std.proofs.Common.{List, subst, ◌∙◌}
use Rattle.std.proofs.lemmas.List.{take_all}
use Rattle.finite_chains.proofs.Members.{Contains-nil}
use Rattle.finite_chains.specs.Chains.{IsWithin}
use Rattle.cat_items.specs.declared.need.Auth.{Auth}
use Rattle.sql_names.specs.NameBytes.{PathNames}
use Rattle.own_places.specs.Places.{places_at}
use Rattle.shown_items.proofs.Owned.{HasAll, one_more_auth}
use Rattle.shown_items.proofs.own.own_paths.Goals as goal

pub loop-auth-init : goal.loop-auth-init
loop-auth-init c auth h = absurd (Contains-nil auth h)

pub loop-auth-preserved : goal.loop-auth-preserved
loop-auth-preserved c =
    one_more_auth (places_at c.args.places.now) c.as_slice-auth-items.result.now c.loop-auth.auth-index c.auth-item.result c.loop-auth.own.items c.put_paths.new.own.items c.loop-auth-test.true c.auth-item.is c.loop-auth.invariant c.in_ok-put_paths.ensures.kept
    (subst (λ (paths : List PathNames). IsWithin paths c.put_paths.new.own.items) c.at.ensures c.in_ok-put_paths.ensures.put)

pub returns : goal.returns
returns c x auth on there place own =
    let all : HasAll (places_at c.args.places.now) c.in_ok-auths.auths.items c.loop-auth.own.items =
    subst (λ (found : List Auth). HasAll (places_at c.args.places.now) found c.loop-auth.own.items) (take_all c.loop-auth.auth-index c.as_slice-auth-items.result.now c.loop-auth-test.false ∙ c.as_slice-auth-items.ensures.value) c.loop-auth.invariant in
    all auth (c.in_ok-auths.ensures auth own) on (c.requires x there auth on place)
