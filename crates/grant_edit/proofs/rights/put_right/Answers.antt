use Rattle.std.proofs.Common.{Vec, Global, ◌≡◌, ◌⊎◌, ◌↔◌, sym, subst, ◌∙◌}
use Rattle.std.specs.List.{Contains}
use Rattle.cat_items.specs.declared.item.Item.{Item}
use Rattle.cat_items.specs.declared.item.Item.TheVariants as item
use Rattle.grant_edit.specs.Grants.{IsOfRight}
use Rattle.grant_edit.proofs.Lists.{on_ok_more}
use Rattle.grant_edit.proofs.RightLemmas.{with_option, without_option}
use Rattle.grant_edit.proofs.rights.put_right.Goals as goal
use Rattle.grant_edit.proofs.rights.put_right.Goals.{then-option+in_ok-share+in_ok-put, else-option}

pub returns-clause-members : goal.returns-clause-members
returns-clause-members c =
    let right = c.args.right in
    let old = c.args.items.now.items in
    let middle = c.if-option.items.items in
    let new = c.put-2.new.items.items in
    on_ok_more c.put-2.result ((y : Item) → Contains new y ↔ (Contains middle y ⊎ (y ≡ item.Held c.in_ok-right.right))) ((y : Item) → Contains new y ↔ (Contains old y ⊎ IsOfRight right c.args.option y))
    (λ second. (let held : (y : Item) → Contains new y ↔ (Contains middle y ⊎ (y ≡ item.Held right)) = λ y. subst (λ r. Contains new y ↔ (Contains middle y ⊎ (y ≡ item.Held r))) c.in_ok-right.ensures (second y) in
    elim c.if-option.branch [
      | then-option+in_ok-share+in_ok-put w ↦
          let first : (y : Item) → Contains middle y ↔ (Contains old y ⊎ (y ≡ item.Grantable right)) =
          λ y. subst (λ (l : Vec Item Global). Contains l.items y ↔ (Contains old y ⊎ (y ≡ item.Grantable right))) (sym w.items-is)
          (subst (λ r. Contains w.put.new.items.items y ↔ (Contains old y ⊎ (y ≡ item.Grantable r))) (w.in_ok-share.ensures ∙ c.in_ok-right.ensures) (w.in_ok-put.ensures.members y)) in
          subst (λ o. (y : Item) → Contains new y ↔ (Contains old y ⊎ IsOfRight right o y)) (sym w.if-option.true) (with_option right old middle new first held)
      | else-option w ↦
          subst (λ o. (y : Item) → Contains new y ↔ (Contains old y ⊎ IsOfRight right o y)) (sym w.if-option.false)
          (without_option right old new (λ y. subst (λ (l : Vec Item Global). Contains new y ↔ (Contains l.items y ⊎ (y ≡ item.Held right))) w.items-is (held y)))
    ]))
    c.put-2.ensures.members
