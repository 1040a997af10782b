use Rattle.std.proofs.Common.{◌≡◌, ◌∙◌, inl, inr, [], List, arith, subst, sym}
use Rattle.finite_chains.proofs.Members.{Contains-nil}
use Rattle.cat_items.specs.declared.item.Item.{Item}
use Rattle.cat_items.specs.Catalogues.{IsInOrder}
use Rattle.asked_parts.specs.Rounds.{HasAskedAll}
use Rattle.asked_parts.proofs.MoreLaws.{none_asked}
use Rattle.asked_parts.proofs.PartLaws.{closed_part}
use Rattle.asked_parts.proofs.rounds.part_of.Goals as goal

none_in_order : IsInOrder []
none_in_order i j d low within = absurd (omega (arith, within))

pub ask_more-requires-clause-before : goal.ask_more-requires-clause-before
ask_more-requires-clause-before g c =
    let graph = c.args.board.now in
    let marks = c.args.marks.now.keys in
    let part : c.of_sorted-part.result.items ≡ [] = c.of_sorted-part.ensures.items ∙ c.new.ensures.items in
    let keys : c.of_sorted-keys.result.items ≡ [] = c.of_sorted-keys.ensures.items ∙ c.new-2.ensures.items in
    let none = subst (λ (l : List Item). HasAskedAll graph marks [] c.of_sorted-part.result.items l) (sym keys) (subst (λ (l : List Item). HasAskedAll graph marks [] l []) (sym part) (none_asked graph marks none_in_order)) in
    ([], none, λ x. (λ h. inr h, λ h. elim h [ inl n ↦ absurd (Contains-nil x n) | inr s ↦ s ]))

pub returns-in_err-ask_more-clause-ticks : goal.returns-in_err-ask_more-clause-ticks
returns-in_err-ask_more-clause-ticks g c = λ p keys closed has. omega (arith, c.ask_more.ensures.ticks p keys closed has)

pub returns-clause-least : goal.returns-clause-least
returns-clause-least g c =
    λ cat p no full is. c.in_ok-ask_more.ensures.asked.least p (closed_part c.args.board.now cat no full c.args.marks.now.keys c.args.suspects.now.items p is)

pub returns-clause-ticks : goal.returns-clause-ticks
returns-clause-ticks g c = λ p keys closed has. omega (arith, c.ask_more.ensures.ticks p keys closed has)
