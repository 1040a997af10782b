use Rattle.std.proofs.Common.{◌≡◌, ◌+◌, List, [], ◌∷◌, ◌++◌, ◌∙◌, ap, map, sym, subst, take}
use Rattle.std.specs.List.{AllZip, fold}
use Rattle.std.proofs.lemmas.List.{take_more}
use Rattle.indexmap.specs.IndexSet.{insert_key}
use Rattle.cat_items.specs.declared.item.Item.{Item}
use Rattle.cat_items.specs.contracts.item.ItemPartialEq.TheImpl as same
use Rattle.board_plans.specs.declared.arrivals.Arrival.{Arrival}
use Rattle.board_plans.specs.Ends.{IsPlaceOf}
use Rattle.board_plans.proofs.Finding.{first_more, places_more}
use Rattle.board_plans.proofs.arrivals.keys_of_all.Goals as goal

pub loop-arrival-preserved : goal.loop-arrival-preserved
loop-arrival-preserved c =
    let eq = same.ghosts.eq in
    let arrivals = c.args.arrivals.now in
    let i = c.loop-arrival.arrival-index in
    let a = c.arrival-item.result in
    let before = c.loop-arrival.keys.keys in
    let after = c.insert_full.new.self.keys in
    let place = c.in_ok-place.place in
    let copied = c.in_ok-copy.ensures in
    let was = c.loop-arrival.invariant in
    let seen : take (i + 1) arrivals ≡ take i arrivals ++ a ∷ [] = take_more arrivals i a c.loop-arrival-test.true ∙ ap (λ (b : Arrival). take i arrivals ++ b ∷ []) (sym c.arrival-item.is) in
    let put : after ≡ insert_key eq before a.key = c.in_ok-place.ensures.keys ∙ ap (λ (k : Item). insert_key eq before k) copied in
    let here : IsPlaceOf eq after a.key place = subst (λ (k : Item). IsPlaceOf eq after k place) copied c.in_ok-place.ensures.stored in
    let more = places_more eq before (take i arrivals) c.loop-arrival.places.items a place was.places (subst (λ (ks : List Item). IsPlaceOf eq ks a.key place) put here) in
    let all = subst (λ (ks : List Item). AllZip (λ b p. IsPlaceOf eq ks b.key p) (take i arrivals ++ a ∷ []) (c.loop-arrival.places.items ++ place ∷ [])) (sym put) more in
    record {
      keys = put ∙ ap (λ (ks : List Item). insert_key eq ks a.key) was.keys ∙ sym (first_more eq (take i arrivals) a) ∙ ap (λ (some : List Arrival). fold (insert_key eq) [] (map (λ b. b.key) some)) (sym seen);
      places = subst (λ some. AllZip (λ b p. IsPlaceOf eq after b.key p) some c.push.new.self.items) (sym seen) (subst (AllZip (λ b p. IsPlaceOf eq after b.key p) (take i arrivals ++ a ∷ [])) (sym c.in_ok-push.ensures.items) all);
    }
