use Rattle.std.proofs.Common.{◌≡◌, ◌+◌, ◌≤◌, ℕ, List, arith, subst}
use Rattle.std.specs.List.{sum_by}
use Rattle.item_index.specs.Graphs.{Graph}
use Rattle.cat_items.specs.declared.item.Item.{Item}
use Rattle.cat_items.specs.Batch.{IsWithout}
use Rattle.asked_parts.specs.Parts.{HasAsked}
use Rattle.asked_parts.specs.Rounds.{IsClosed, IsLeast, IsUnderWay}
use Rattle.asked_parts.specs.Under.{look_ups}
use Rattle.asked_parts.proofs.RoundLaws.{asked_anew, asked_or_fresh}
use Rattle.asked_parts.proofs.AskLaws.{asked_by_more}
use Rattle.asked_parts.proofs.GrowthLaws.{no_more, once}
use Rattle.asked_parts.proofs.rounds.round.Goals as goal

-- what is said of equal lists
without_equal : (all a some b fresh : List Item) → a ≡ all → some ≡ b → IsWithout a some fresh → IsWithout all b fresh
without_equal all a some b fresh e f are = subst (λ (l : List Item). IsWithout all l fresh) f (subst (λ (l : List Item). IsWithout l some fresh) e are)

-- where a round stops for want of memory, it has looked up nothing
nothing_more : (g : Graph Item) (marks : List ℕ) (suspects part asked : List Item) (way : IsUnderWay g marks suspects part asked) (steps : ℕ)
    (p keys : List Item) → IsLeast g marks suspects part → IsClosed g marks suspects p → HasAsked p suspects keys → steps + sum_by (look_ups g) asked ≤ steps + sum_by (look_ups g) keys
nothing_more g marks suspects part asked way steps p keys least closed has =
    omega (arith, no_more (look_ups g) asked keys (once asked way.asked_order) (λ k h. has k (asked_by_more part p (least p closed) suspects k (way.asked_for k h))))

pub returns-in_err-all-clause-few : goal.returns-in_err-all-clause-few
returns-in_err-all-clause-few g c = λ p keys least closed has. nothing_more c.args.board.now c.args.marks.now.keys c.args.suspects.now.items c.args.part.now.items c.args.asked.now.items c.requires.way _ p keys least closed has

pub returns-in_err-keys-clause-few : goal.returns-in_err-keys-clause-few
returns-in_err-keys-clause-few g c = λ p keys least closed has. nothing_more c.args.board.now c.args.marks.now.keys c.args.suspects.now.items c.args.part.now.items c.args.asked.now.items c.requires.way _ p keys least closed has

pub look_up-requires-clause-keys : goal.look_up-requires-clause-keys
look_up-requires-clause-keys g c =
    let fresh_are = without_equal c.in_ok-all.all.items _ _ c.args.asked.now.items c.in_ok-keys.keys.items c.items.ensures.items c.items-2.ensures.items c.in_ok-keys.ensures.members in
    let anew = asked_anew c.args.part.now.items c.args.asking.now c.args.asked.now.items c.in_ok-all.all.items c.in_ok-keys.keys.items c.in_ok-all.ensures fresh_are in
    λ k h. let by = (anew k h).0 in ((by.0, c.requires.asking by.0 by.1, by.2), (anew k h).1)

pub returns-clause-closed : goal.returns-clause-closed
returns-clause-closed g c =
    let fresh_are = without_equal c.in_ok-all.all.items _ _ c.args.asked.now.items c.in_ok-keys.keys.items c.items.ensures.items c.items-2.ensures.items c.in_ok-keys.ensures.members in
    λ all. c.look_up.ensures.closed (λ k h. asked_or_fresh c.args.part.now.items c.args.asking.now c.args.asked.now.items c.in_ok-all.all.items c.in_ok-keys.keys.items c.in_ok-all.ensures fresh_are k (h.0, all h.0 h.1, h.2))
