-- Links that are pushed one by one.
use Rattle.std.proofs.Common.{◌≡◌, ◌<◌, ◌+◌, ℕ, Bool, List, [], ◌∷◌, ◌++◌, length, map, get_or, take, append_assoc, refl, sym, ◌∙◌, ap, subst}
use Rattle.std.specs.Cmp.{IsEquivalence}
use Rattle.std.specs.List.{flat_map}
use Rattle.std.proofs.lemmas.List.{append-nil, take_more}
use Rattle.std.proofs.lemmas.List.Concat.{flat_map-append}
use Rattle.item_index.specs.Graphs.{Graph}
use Rattle.cat_items.specs.declared.item.Item.{Item}
use Rattle.graph_changes.specs.declared.ends.End.{End}
use Rattle.board_plans.specs.declared.arrivals.Arrival.{Arrival}
use Rattle.board_plans.specs.Arrivals.{links_by}
use Rattle.board_plans.specs.Ends.{AreEnds, ArePushed, Ends, IsEnd}
use Rattle.board_plans.proofs.Finding.{end_kept, link_from, link_to, links_then, no_links}

map_more : {X Y : Type 0} (f : X → Y) (xs : List X) (i : ℕ) (x : X) → i < length xs → x ≡ get_or xs i x → map f (take (i + 1) xs) ≡ map f (take i xs) ++ f x ∷ []
map_more f xs i x below is = ap (map f) (take_more xs i x below) ∙ map_push f (take i xs) (get_or xs i x) ∙ ap (λ y. map f (take i xs) ++ f y ∷ []) (sym is)
  where
    map_push : {X Y : Type 0} (f : X → Y) (xs : List X) (x : X) → map f (xs ++ x ∷ []) ≡ map f xs ++ f x ∷ []
    map_push f [] x = refl
    map_push f (y ∷ xs) x = ap (λ ys. f y ∷ ys) (map_push f xs x)

module _ (eq : Item → Item → Bool) (laws : IsEquivalence eq) (g : Graph Item) (out : List ℕ) where
  pub none_pushed : (keys : List Item) (old : List (End × End)) → ArePushed eq g out keys keys [] old old
  none_pushed keys old = record { ends = []; pushed = sym (append-nil old); are = no_links eq laws g out keys }

  pub pushed_then : (before mid after : List Item) (some others : List (Item × Item)) (old between new : List (End × End))
      → ArePushed eq g out before mid some old between → ArePushed eq g out mid after others between new → ArePushed eq g out before after (some ++ others) old new
  pushed_then before mid after some others old between new one two = record {
    ends = one.ends ++ two.ends;
    pushed = two.pushed ∙ ap (λ (es : List (End × End)). es ++ two.ends) one.pushed ∙ append_assoc old one.ends two.ends;
    are = links_then eq laws g out before mid after some others one.ends two.ends one.are two.are;
  }

  pub own_kept : (before after : List Item) (wanted : List (Item × Item)) (old new : List (End × End)) → ArePushed eq g out before after wanted old new → (k : Item) (end : End) → IsEnd eq g out before k end → IsEnd eq g out after k end
  own_kept before after wanted old new is = end_kept eq laws g out before after wanted is.ends is.are

  -- one more of the others, of which so many are linked with k, whose end was known from the beginning
  module _ (before mid after : List Item) (k : Item) (own : End) (at : IsEnd eq g out before k own) (others : List Item) (i : ℕ) (below : i < length others) (other : Item) (is : other ≡ get_or others i other) (end : End)
      (found : Ends eq g out mid after other end) (old between new : List (End × End)) where
    pub pushed_to : ArePushed eq g out before mid (map (λ o. (k, o)) (take i others)) old between → new ≡ between ++ (own, end) ∷ [] → ArePushed eq g out before after (map (λ o. (k, o)) (take (i + 1) others)) old new
    pushed_to was put =
        let wanted = map (λ o. (k, o)) (take i others) in
        let one : ArePushed eq g out mid after ((k, other) ∷ []) between new = record {
          ends = (own, end) ∷ [];
          pushed = put;
          are = link_to eq laws g out mid after k other own end (own_kept before mid wanted old between was k own at) found;
        } in
        subst (λ (ls : List (Item × Item)). ArePushed eq g out before after ls old new) (sym (map_more (λ o. (k, o)) others i other below is)) (pushed_then before mid after wanted ((k, other) ∷ []) old between new was one)

    pub pushed_from : ArePushed eq g out before mid (map (λ o. (o, k)) (take i others)) old between → new ≡ between ++ (end, own) ∷ [] → ArePushed eq g out before after (map (λ o. (o, k)) (take (i + 1) others)) old new
    pushed_from was put =
        let wanted = map (λ o. (o, k)) (take i others) in
        let one : ArePushed eq g out mid after ((other, k) ∷ []) between new = record {
          ends = (end, own) ∷ [];
          pushed = put;
          are = link_from eq laws g out mid after k other own end (own_kept before mid wanted old between was k own at) found;
        } in
        subst (λ (ls : List (Item × Item)). ArePushed eq g out before after ls old new) (sym (map_more (λ o. (o, k)) others i other below is)) (pushed_then before mid after wanted ((other, k) ∷ []) old between new was one)

  -- the links of one more arrival
  pub arrival_more : (before mid after : List Item) (arrivals : List Arrival) (i : ℕ) → i < length arrivals → (a : Arrival) → a ≡ get_or arrivals i a → (old new : List (End × End)) → AreEnds eq g out before mid (flat_map links_by (take i arrivals)) old
      → ArePushed eq g out mid after (links_by a) old new → AreEnds eq g out before after (flat_map links_by (take (i + 1) arrivals)) new
  arrival_more before mid after arrivals i below a is old new was more =
      let some = take i arrivals in
      let seen : flat_map links_by (take (i + 1) arrivals) ≡ flat_map links_by some ++ links_by a = ap (flat_map links_by) (take_more arrivals i a below ∙ ap (λ (b : Arrival). some ++ b ∷ []) (sym is)) ∙ flat_map-append links_by some (a ∷ [])
      ∙ ap (λ (ls : List (Item × Item)). flat_map links_by some ++ ls) (append-nil (links_by a)) in
      let linked = links_then eq laws g out before mid after (flat_map links_by some) (links_by a) old more.ends was more.are in
      subst (λ (ls : List (Item × Item)). AreEnds eq g out before after ls new) (sym seen) (subst (AreEnds eq g out before after (flat_map links_by some ++ links_by a)) (sym more.pushed) linked)
