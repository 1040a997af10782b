use Rattle.std.proofs.Common.{◌≡◌, ◌↔◌, ◌⊎◌, ℕ, List, ap, subst, sym}
use Rattle.std.specs.List.{Contains}
use Rattle.cat_items.specs.declared.need.Auth.TheVariants.{Named}
use Rattle.role_graph.specs.Roles.{IsApplicable}
use Rattle.topic_keys.proofs.Adding.{gets_alike, gets_both}
use Rattle.topic_lists.specs.Actors.{IsNamedAmong, IsNamedReach}
use Rattle.topic_lists.proofs.ActorLaws.{named_among}
use Rattle.topic_lists.proofs.Runs.{gets_pushed}
use Rattle.topic_lists.proofs.acting.push_reached.Goals as goal

pub returns : goal.returns
returns c =
    let l = c.args.roles.now in
    let from = c.args.from.now in
    let names = c.as_slice.result.now in
    let old = c.args.all.now.items in
    let mid = c.push_names.new.all.items in
    let new = c.push.new.self.items in
    let are : (name : List ℕ) → Contains names name ↔ IsApplicable l from name = subst (λ (list : List (List ℕ)). (name : List ℕ) → Contains list name ↔ IsApplicable l from name) (sym c.as_slice.ensures.value) c.in_ok-names.ensures in
    gets_alike (λ g. IsNamedAmong names g ⊎ (g ≡ Named from)) (IsNamedReach l from) old new (named_among l from names are)
    (gets_both (IsNamedAmong names) (λ g. g ≡ Named from) old mid new c.in_ok-push_names.ensures (gets_pushed (Named from) (Named c.in_ok-copy.field-0) mid new (ap Named c.in_ok-copy.ensures) c.in_ok-push.ensures.items))
