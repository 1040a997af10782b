use Rattle.std.proofs.Common.{◌≡◌, ◌∙◌, ◌↔◌, inl, inr, ℕ, List, subst, sym}
use Rattle.std.specs.List.{Contains}
use Rattle.finite_chains.specs.Chains.{IsWithin}
use Rattle.item_index.specs.Graphs.{Graph}
use Rattle.cat_items.specs.declared.item.Item.{Item}
use Rattle.cat_items.specs.Batch.{HaveNoKeyInCommon, IsJoined}
use Rattle.board_graph.specs.BoardKeys.{IsHelper}
use Rattle.topic_keys.specs.Lists.{Gets}
use Rattle.asked_parts.specs.Rounds.{IsClosed, TellsTo}
use Rattle.asked_parts.specs.Under.{IsUnderAny}
use Rattle.asked_parts.proofs.RoundLaws.{closed_new, few_within, found_apart, fresh_apart, fresh_is_helper, least_new, spent_within, way_new}
use Rattle.asked_parts.proofs.rounds.look_up.Goals as goal
use Rattle.asked_parts.proofs.rounds.look_up.Goals.{else-grew, then-grew}

-- what is said of equal lists
under_equal : (g : Graph Item) (marks : List ℕ) (a b found : List Item) → a ≡ b → ((y : Item) → Contains found y ↔ IsUnderAny g marks a y) → (y : Item) → Contains found y ↔ IsUnderAny g marks b y
under_equal g marks a b found e are = subst (λ (l : List Item). (y : Item) → Contains found y ↔ IsUnderAny g marks l y) e are

gets_equal : (a b old new : List Item) → a ≡ b → Gets (Contains a) old new → Gets (Contains b) old new
gets_equal a b old new e gets = subst (λ (l : List Item). Gets (Contains l) old new) e gets

joins_equal : (a b more keys new : List Item) → a ≡ b → more ≡ keys → IsJoined a more new → IsJoined b keys new
joins_equal a b more keys new e f joined = subst (λ (l : List Item). IsJoined l keys new) e (subst (λ (l : List Item). IsJoined a l new) f joined)

pub items_under-requires : goal.items_under-requires
items_under-requires g c = subst (λ (l : List Item). (k : Item) → Contains l k → IsHelper k) (sym c.items.ensures.items) (fresh_is_helper _ _ _ _ _ c.requires.way c.args.keys.items c.requires.keys)

pub returns-in_err-found-clause-few : goal.returns-in_err-found-clause-few
returns-in_err-found-clause-few g c = few_within _ _ _ _ _ c.requires.way c.args.keys.items c.requires.keys c.items.ensures.order _ _ _ c.items.ensures.items c.items_under.ensures.ticks

pub returns-in_err-reserve-clause-few : goal.returns-in_err-reserve-clause-few
returns-in_err-reserve-clause-few g c = few_within _ _ _ _ _ c.requires.way c.args.keys.items c.requires.keys c.items.ensures.order _ _ _ c.items.ensures.items c.items_under.ensures.ticks

pub put_in_all-requires-clause-new : goal.put_in_all-requires-clause-new
put_in_all-requires-clause-new g c =
    subst (λ (l : List Item). HaveNoKeyInCommon l c.into_items.result.items) (sym c.reserve.ensures.items)
    (subst (λ (l : List Item). HaveNoKeyInCommon c.args.asked.now.items l) (sym c.into_items.ensures.items) (fresh_apart _ _ _ _ _ c.requires.way c.args.keys.items c.requires.keys))

pub put_copies-requires-clause-apart : goal.put_copies-requires-clause-apart
put_copies-requires-clause-apart g c =
    let found_are = under_equal c.args.board.now c.args.marks.now.keys _ c.args.keys.items c.in_ok-found.found.items c.items.ensures.items c.in_ok-found.ensures.found in
    λ x y h f e. found_apart _ _ _ _ _ c.requires.way c.args.keys.items c.requires.keys c.in_ok-found.found.items found_are c.requires.apart c.in_ok-found.ensures.apart x y h (subst (λ (l : List Item). Contains l y) c.items-3.ensures.items f) e

pub returns-in_err-grew-clause-few : goal.returns-in_err-grew-clause-few
returns-in_err-grew-clause-few g c = few_within _ _ _ _ _ c.requires.way c.args.keys.items c.requires.keys c.items.ensures.order _ _ _ c.items.ensures.items c.items_under.ensures.ticks

pub returns-clause-way : goal.returns-clause-way
returns-clause-way g c =
    let found_are = under_equal c.args.board.now c.args.marks.now.keys _ c.args.keys.items c.in_ok-found.found.items c.items.ensures.items c.in_ok-found.ensures.found in
    let gets = gets_equal _ c.in_ok-found.found.items c.args.part.now.items c.put_copies.new.part.items c.items-3.ensures.items c.in_ok-grew.ensures.members in
    let joined = joins_equal _ c.args.asked.now.items _ c.args.keys.items c.put_in_all.new.self.items c.reserve.ensures.items c.into_items.ensures.items c.put_in_all.ensures.members in
    way_new _ _ _ _ _ c.requires.way c.args.keys.items c.requires.keys c.in_ok-found.found.items found_are c.put_copies.new.part.items c.put_in_all.new.self.items gets joined c.in_ok-grew.ensures.order c.put_in_all.ensures.order

pub returns-clause-closed : goal.returns-clause-closed
returns-clause-closed g c =
    let part = c.args.part.now.items in
    let suspects = c.args.suspects.now.items in
    let found = c.in_ok-found.found.items in
    let found_are = under_equal c.args.board.now c.args.marks.now.keys _ c.args.keys.items found c.items.ensures.items c.in_ok-found.ensures.found in
    let gets = gets_equal _ found part c.put_copies.new.part.items c.items-3.ensures.items c.in_ok-grew.ensures.members in
    let joined = joins_equal _ c.args.asked.now.items _ c.args.keys.items c.put_in_all.new.self.items c.reserve.ensures.items c.into_items.ensures.items c.put_in_all.ensures.members in
    λ all.
    let closed : ((x y : Item) → Contains suspects x → Contains found y → TellsTo c.put_copies.new.part.items x y → Contains part y) → IsClosed c.args.board.now c.args.marks.now.keys suspects c.put_copies.new.part.items =
    closed_new _ _ _ _ _ c.requires.way c.args.keys.items c.requires.keys found found_are c.put_copies.new.part.items c.put_in_all.new.self.items gets joined all in
    elim c.if-grew.branch [
      | then-grew w ↦ λ no. closed (λ x y here f told. absurd (w.ask_again.ensures (sym w.result-is ∙ no) x y (subst (λ (l : List Item). Contains l x) (sym w.items-then-grew.ensures.items) here)
          (subst (λ (l : List Item). Contains l y) (sym w.items-then-grew-2.ensures.items) f) told))
      | else-grew w ↦ λ _. closed (λ x y _ f _. subst (λ (l : List Item). IsWithin l part) c.items-3.ensures.items (c.in_ok-grew.ensures.there w.if-grew.false) y f)
    ]

pub returns-clause-least : goal.returns-clause-least
returns-clause-least g c =
    let found_are = under_equal c.args.board.now c.args.marks.now.keys _ c.args.keys.items c.in_ok-found.found.items c.items.ensures.items c.in_ok-found.ensures.found in
    let gets = gets_equal _ c.in_ok-found.found.items c.args.part.now.items c.put_copies.new.part.items c.items-3.ensures.items c.in_ok-grew.ensures.members in
    let joined = joins_equal _ c.args.asked.now.items _ c.args.keys.items c.put_in_all.new.self.items c.reserve.ensures.items c.into_items.ensures.items c.put_in_all.ensures.members in
    least_new _ _ _ _ _ c.requires.way c.args.keys.items c.requires.keys c.in_ok-found.found.items found_are c.put_copies.new.part.items c.put_in_all.new.self.items gets joined

pub returns-clause-spent : goal.returns-clause-spent
returns-clause-spent g c =
    let joined = joins_equal _ c.args.asked.now.items _ c.args.keys.items c.put_in_all.new.self.items c.reserve.ensures.items c.into_items.ensures.items c.put_in_all.ensures.members in
    spent_within _ _ _ _ _ c.requires.way c.args.keys.items c.requires.keys c.items.ensures.order _ _ _ c.items.ensures.items c.items_under.ensures.ticks c.put_in_all.new.self.items (λ k h. (joined k).1 (inl h)) (λ k h. (joined k).1 (inr h))

pub returns-clause-few : goal.returns-clause-few
returns-clause-few g c = few_within _ _ _ _ _ c.requires.way c.args.keys.items c.requires.keys c.items.ensures.order _ _ _ c.items.ensures.items c.items_under.ensures.ticks
