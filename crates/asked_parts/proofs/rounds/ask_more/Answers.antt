use Rattle.std.proofs.Common.{◌≡◌, ◌↔◌, ◌⊎◌, ◌∙◌, inr, ℕ, List, ap, arith, length, subst, sym}
use Rattle.std.specs.List.{Contains}
use Rattle.std.proofs.lemmas.Bool.{eqb-true}
use Rattle.finite_chains.specs.Chains.{IsWithin}
use Rattle.item_index.specs.Graphs.{Graph}
use Rattle.cat_items.specs.declared.item.Item.{Item}
use Rattle.topic_keys.specs.Lists.{Gets}
use Rattle.asked_parts.specs.Rounds.{HasAskedAll, IsAddedToBySome, WasAsked}
use Rattle.asked_parts.proofs.MoreLaws.{asked_before, asked_costs_no_more, first_apart, least_more, way_more}
use Rattle.asked_parts.proofs.PartLaws.{part_closed, within_room}
use Rattle.asked_parts.proofs.SchemaLaws.{schema_asked}
use Rattle.asked_parts.proofs.rounds.ask_more.Goals as goal

-- what is said of equal lists
first_equal : (g : Graph Item) (marks : List ℕ) (a b first : List Item) → a ≡ b → ((y : Item) → Contains first y ↔ (Contains a y ⊎ IsAddedToBySome g marks a y)) → (y : Item) → Contains first y ↔ (Contains b y ⊎ IsAddedToBySome g marks b y)
first_equal g marks a b first e are = subst (λ (l : List Item). (y : Item) → Contains first y ↔ (Contains l y ⊎ IsAddedToBySome g marks l y)) e are

gets_equal : (a b old new : List Item) → a ≡ b → Gets (Contains a) old new → Gets (Contains b) old new
gets_equal a b old new e gets = subst (λ (l : List Item). Gets (Contains l) old new) e gets

none_asked_more : (g : Graph Item) (marks : List ℕ) (suspects more part asked shown : List Item) → shown ≡ more → length shown ≡ 0 → WasAsked g marks suspects more part asked → HasAskedAll g marks suspects part asked
none_asked_more g marks suspects more part asked shown e none was = asked_before g marks suspects more part asked was (λ x h. absurd (omega (arith, none, (subst (λ l. Contains l x) (sym e) h).1)))

pub returns-then-is_empty-clause-asked : goal.returns-then-is_empty-clause-asked
returns-then-is_empty-clause-asked g c = none_asked_more _ _ _ _ _ _ _ c.items.ensures.items (eqb-true _ 0 (sym c.is_empty.ensures ∙ c.if-is_empty.true)) c.requires.before

pub returns-then-is_empty-clause-part : goal.returns-then-is_empty-clause-part
returns-then-is_empty-clause-part g c =
    let all = none_asked_more _ _ _ _ _ _ _ c.items.ensures.items (eqb-true _ 0 (sym c.is_empty.ensures ∙ c.if-is_empty.true)) c.requires.before in
    λ cat no full. part_closed c.args.board.now cat no full c.args.marks.now.keys c.args.suspects.now.items c.args.part.now.items all.way.order all.way.from all.closed

pub returns-then-is_empty-clause-ticks : goal.returns-then-is_empty-clause-ticks
returns-then-is_empty-clause-ticks g c = λ p keys closed has. omega (arith, asked_costs_no_more _ _ _ _ _ _ c.requires.before p keys closed has)

pub returns-in_err-first-clause-ticks : goal.returns-in_err-first-clause-ticks
returns-in_err-first-clause-ticks g c = λ p keys closed has. omega (arith, asked_costs_no_more _ _ _ _ _ _ c.requires.before p keys closed has, c.begun.ensures.ticks, ap length c.items-3.ensures.items)

pub put_copies-requires-clause-apart : goal.put_copies-requires-clause-apart
put_copies-requires-clause-apart g c =
    let are = first_equal c.args.board.now c.args.marks.now.keys _ c.args.more.now.items c.in_ok-first.first.items c.items-3.ensures.items c.in_ok-first.ensures.members in
    λ x y h f e. first_apart _ _ _ _ _ _ c.requires.before c.in_ok-first.first.items are c.requires.apart c.items-2.ensures.order x y h (subst (λ l. Contains l y) c.items-4.ensures.items f) e

pub returns-in_err-put_copies-clause-ticks : goal.returns-in_err-put_copies-clause-ticks
returns-in_err-put_copies-clause-ticks g c = λ p keys closed has. omega (arith, asked_costs_no_more _ _ _ _ _ _ c.requires.before p keys closed has, c.begun.ensures.ticks, ap length c.items-3.ensures.items)

pub returns-in_err-schemas-clause-ticks : goal.returns-in_err-schemas-clause-ticks
returns-in_err-schemas-clause-ticks g c = λ p keys closed has. omega (arith, asked_costs_no_more _ _ _ _ _ _ c.requires.before p keys closed has, c.begun.ensures.ticks, ap length c.items-3.ensures.items)

pub look_up-requires-clause-way : goal.look_up-requires-clause-way
look_up-requires-clause-way g c =
    let are = first_equal c.args.board.now c.args.marks.now.keys _ c.args.more.now.items c.in_ok-first.first.items c.items-3.ensures.items c.in_ok-first.ensures.members in
    let gets = gets_equal _ c.in_ok-first.first.items c.args.part.now.items c.put_copies.new.part.items c.items-4.ensures.items c.in_ok-put_copies.ensures.members in
    way_more _ _ _ _ _ _ c.requires.before c.in_ok-first.first.items are c.put_copies.new.part.items gets c.in_ok-put_copies.ensures.order

pub look_up-requires-clause-keys : goal.look_up-requires-clause-keys
look_up-requires-clause-keys g c =
    let suspects = c.args.suspects.now.items in
    λ k h.
    let key = c.in_ok-schemas.ensures k h in
    let x : Item = key.0.0 in
    let here : Contains suspects x = (c.requires.before.2 x).1 (inr (subst (λ l. Contains l x) c.items-5.ensures.items key.0.1)) in
    (schema_asked c.put_copies.new.part.items suspects x k here key.0.2, key.1)

pub returns-in_err-look_up-clause-ticks : goal.returns-in_err-look_up-clause-ticks
returns-in_err-look_up-clause-ticks g c =
    let are = first_equal c.args.board.now c.args.marks.now.keys _ c.args.more.now.items c.in_ok-first.first.items c.items-3.ensures.items c.in_ok-first.ensures.members in
    let gets = gets_equal _ c.in_ok-first.first.items c.args.part.now.items c.put_copies.new.part.items c.items-4.ensures.items c.in_ok-put_copies.ensures.members in
    let least = least_more _ _ _ _ _ _ c.requires.before c.in_ok-first.first.items are c.put_copies.new.part.items gets in
    λ p keys closed has. omega (arith, c.look_up.ensures.few p keys least closed has, c.begun.ensures.ticks, ap length c.items-3.ensures.items)

pub loop-asking-init : goal.loop-asking-init
loop-asking-init g c =
    let are = first_equal c.args.board.now c.args.marks.now.keys _ c.args.more.now.items c.in_ok-first.first.items c.items-3.ensures.items c.in_ok-first.ensures.members in
    let gets = gets_equal _ c.in_ok-first.first.items c.args.part.now.items c.put_copies.new.part.items c.items-4.ensures.items c.in_ok-put_copies.ensures.members in
    record {
      way = c.in_ok-look_up.ensures.way;
      least = c.in_ok-look_up.ensures.least (least_more _ _ _ _ _ _ c.requires.before c.in_ok-first.first.items are c.put_copies.new.part.items gets);
      spent = omega (arith, c.in_ok-look_up.ensures.spent, c.begun.ensures.ticks, ap length c.items-3.ensures.items);
    }

pub returns-in_err-asking-clause-ticks : goal.returns-in_err-asking-clause-ticks
returns-in_err-asking-clause-ticks g c =
    let are = first_equal c.args.board.now c.args.marks.now.keys _ c.args.more.now.items c.in_ok-first.first.items c.items-3.ensures.items c.in_ok-first.ensures.members in
    let gets = gets_equal _ c.in_ok-first.first.items c.args.part.now.items c.put_copies.new.part.items c.items-4.ensures.items c.in_ok-put_copies.ensures.members in
    let least = least_more _ _ _ _ _ _ c.requires.before c.in_ok-first.first.items are c.put_copies.new.part.items gets in
    λ p keys closed has. omega (arith, c.look_up.ensures.few p keys least closed has, c.begun.ensures.ticks, ap length c.items-3.ensures.items)

pub round-requires-clause-asking : goal.round-requires-clause-asking
round-requires-clause-asking g c = λ x h. (c.requires.before.2 x).1 (inr (subst (λ l. Contains l x) c.items-6.ensures.items (c.in_ok-asking.ensures x (subst (λ l. Contains l x) c.as_slice.ensures.value h))))

pub returns-in_err-round-clause-ticks : goal.returns-in_err-round-clause-ticks
returns-in_err-round-clause-ticks g c = λ p keys closed has. omega (arith, c.loop-asking.invariant.spent, c.round.ensures.few p keys c.loop-asking.invariant.least closed has)

pub loop-asking-smaller : goal.loop-asking-smaller
loop-asking-smaller g c =
    let more = c.in_ok-round.ensures.more c.if-branch.true in
    let fits = within_room c.args.board.now c.args.marks.now.keys c.args.suspects.now.items c.round.new.part.items c.round.new.asked.items c.in_ok-round.ensures.way in
    omega (arith, more, fits)

pub round-requires-in-loop-asking-2-clause-asking : goal.round-requires-in-loop-asking-2-clause-asking
round-requires-in-loop-asking-2-clause-asking g c = λ x h. subst (λ l. Contains l x) c.items-in-loop-asking-2.ensures.items h

pub returns-in_err-round-2-clause-ticks : goal.returns-in_err-round-2-clause-ticks
returns-in_err-round-2-clause-ticks g c = λ p keys closed has. omega (arith, c.loop-asking-2.invariant.spent, c.round-in-loop-asking-2.ensures.few p keys c.loop-asking-2.invariant.least closed has)

pub loop-asking-2-preserved : goal.loop-asking-2-preserved
loop-asking-2-preserved g c = record {
  way = c.in_ok-round-2.ensures.way;
  least = c.in_ok-round-2.ensures.least c.loop-asking-2.invariant.least;
  spent = omega (arith, c.loop-asking-2.invariant.spent, c.in_ok-round-2.ensures.spent);
}

pub loop-asking-2-smaller : goal.loop-asking-2-smaller
loop-asking-2-smaller g c =
    let more = c.in_ok-round-2.ensures.more c.if-branch-2.true in
    let fits = within_room c.args.board.now c.args.marks.now.keys c.args.suspects.now.items c.round-in-loop-asking-2.new.part.items c.round-in-loop-asking-2.new.asked.items c.in_ok-round-2.ensures.way in
    omega (arith, more, fits)

all_ask : (suspects shown : List Item) → shown ≡ suspects → IsWithin suspects shown
all_ask suspects shown e x h = subst (λ l. Contains l x) (sym e) h

pub returns-clause-asked : goal.returns-clause-asked
returns-clause-asked g c = record {
  way = c.in_ok-round-2.ensures.way;
  closed = c.in_ok-round-2.ensures.closed (all_ask _ _ c.items-in-loop-asking-2.ensures.items) c.if-branch-2.false;
  least = c.in_ok-round-2.ensures.least c.loop-asking-2.invariant.least;
}

pub returns-clause-part : goal.returns-clause-part
returns-clause-part g c =
    let way = c.in_ok-round-2.ensures.way in
    λ cat no full. part_closed c.args.board.now cat no full c.args.marks.now.keys c.args.suspects.now.items c.round-in-loop-asking-2.new.part.items way.order way.from (c.in_ok-round-2.ensures.closed (all_ask _ _ c.items-in-loop-asking-2.ensures.items) c.if-branch-2.false)

pub returns-clause-ticks : goal.returns-clause-ticks
returns-clause-ticks g c = λ p keys closed has. omega (arith, c.loop-asking-2.invariant.spent, c.round-in-loop-asking-2.ensures.few p keys c.loop-asking-2.invariant.least closed has)
