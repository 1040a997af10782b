use Rattle.std.proofs.Common.{◌++◌, ◌∷◌, [], inl, inr, refl, subst, sym}
use Rattle.std.specs.List.{Contains}
use Rattle.std.proofs.lemmas.List.{take_all}
use Rattle.std.proofs.lemmas.List.Elements.{Contains-append_left, Contains-append_right}
use Rattle.finite_chains.proofs.Members.{Contains-head, Contains-nil}
use Rattle.cat_items.specs.declared.item.Item.{Item}
use Rattle.cat_items.proofs.CatalogueLemmas.{no_equal}
use Rattle.edit_rules.proofs.ChosenItems.{chosen_all, chosen_less, chosen_more, none_chosen}
use Rattle.asked_parts.proofs.GrowthLaws.{either_more, is_there, none_found, one_found}
use Rattle.asked_parts.proofs.UnderLaws.{itself}
use Rattle.asked_parts.proofs.growing.new_copies.Goals as goal
use Rattle.asked_parts.proofs.growing.new_copies.Goals.{then-is_none+in_ok-copy+in_ok-push, else-is_none}

pub loop-item-init : goal.loop-item-init
loop-item-init c = rw c.new-new.ensures.items (record { chosen = none_chosen c.args.items.now (λ y. ¬ (Contains c.args.part.now.items y)); either = λ y h. absurd (Contains-nil y h) })

pub loop-item-preserved : goal.loop-item-preserved
loop-item-preserved c =
    let part = c.args.part.now.items in
    let items = c.args.items.now in
    let new = c.loop-item.new.items in
    let i = c.loop-item.item-index in
    let x = c.item-item.result in
    let P = λ (y : Item). ¬ (Contains part y) in
    let low = c.loop-item-test.true in
    let is = c.item-item.is in
    let was = c.loop-item.invariant in
    elim c.if-is_none.branch [
      | then-is_none+in_ok-copy+in_ok-push w ↦
          let other : Contains part x → ⊥ = λ there. no_equal part x (none_found c.find.result c.is_none.result _ c.is_none.ensures w.if-is_none.true c.find.ensures.none) x there (itself x) in
          rw (w.new-is, w.in_ok-push.ensures.items, w.in_ok-copy.ensures) (record {
            chosen = chosen_more items items new P i x c.requires.order refl low is was.chosen other;
            either = either_more part items c.requires.apart new (new ++ x ∷ []) i x low is (λ y h. Contains-append_left new (x ∷ []) y h) (inr (Contains-append_right new (x ∷ []) x (Contains-head x []))) was.either;
          })
      | else-is_none w ↦
          let found = one_found c.find.result c.is_none.result _ c.is_none.ensures w.if-is_none.false c.find.ensures.found in
          let there : Contains part x = is_there part items c.requires.apart x (i, low, sym is) found.0 found.1 in
          rw w.new-is (record {
            chosen = chosen_less items items new P i x refl low is was.chosen (λ other. other there);
            either = either_more part items c.requires.apart new new i x low is (λ y h. h) (inl there) was.either;
          })
    ]

pub returns-clause-chosen : goal.returns-clause-chosen
returns-clause-chosen c =
    chosen_all c.args.items.now c.args.items.now c.loop-item.new.items (λ y. ¬ (Contains c.args.part.now.items y)) c.loop-item.item-index refl c.loop-item-test.false c.loop-item.invariant.chosen

pub returns-clause-either : goal.returns-clause-either
returns-clause-either c = λ y h. c.loop-item.invariant.either y (subst (λ l. Contains l y) (sym (take_all c.loop-item.item-index c.args.items.now c.loop-item-test.false)) h)
