use Rattle.std.proofs.Common.{◌≡◌, ◌⊎◌, refl}
use Rattle.cat_items.specs.declared.need.Auth.TheVariants.{Public, Named}
use Rattle.cat_items.specs.Reach.{Reaches}
use Rattle.topic_keys.proofs.Adding.{gets_both}
use Rattle.topic_lists.specs.Actors.{IsNamedReach}
use Rattle.topic_lists.proofs.ActorLaws.{named_reach}
use Rattle.topic_lists.proofs.Runs.{gets_from_none, gets_pushed}
use Rattle.topic_lists.proofs.acting.reached_from.Goals as goal

pub returns-in_ok-push_reached-in-Named : goal.returns-in_ok-push_reached-in-Named
returns-in_ok-push_reached-in-Named c =
    let l = c.args.roles.now in
    let from = c.in-Named.name.now in
    let empty = c.new-all.result.items in
    let mid = c.push.new.self.items in
    let new = c.push_reached.new.all.items in
    rw c.in-Named.is (gets_from_none (λ g. (g ≡ Public) ⊎ IsNamedReach l from g) (Reaches l (Named from)) empty new c.new-all.ensures.items (named_reach l from)
    (gets_both (λ g. g ≡ Public) (IsNamedReach l from) empty mid new (gets_pushed Public Public empty mid refl c.in_ok-push.ensures.items) c.in_ok-push_reached-in-Named.ensures))
