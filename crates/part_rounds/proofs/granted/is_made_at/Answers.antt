use Rattle.std.proofs.Common.{◌≡◌, ◌∙◌, ◌<◌, false, true, length, get_or, refl, subst, sym}
use Rattle.std.specs.Ordering.{is_eq}
use Rattle.std.specs.declared.cmp.Ordering.{Ordering}
use Rattle.std.specs.declared.cmp.Ordering.TheVariants.{Less, Equal, Greater}
use Rattle.std.proofs.lemmas.Bool.{false≢true}
use Rattle.std.proofs.lemmas.List.{get_or_default}
use Rattle.cat_items.specs.declared.item.Item.{Item}
use Rattle.cat_items.specs.Order.{item_cmp}
use Rattle.part_rounds.specs.Grants.{grant_item}
use Rattle.part_rounds.proofs.GrantedLaws.{made_mark, made_there}
use Rattle.part_rounds.proofs.granted.is_made_at.Goals as goal

equal_from : (o : Ordering) → is_eq o ≡ true → o ≡ Equal
equal_from Less e = absurd (false≢true e)
equal_from Equal e = refl
equal_from Greater e = absurd (false≢true e)

pub returns-then-is_eq : goal.returns-then-is_eq
returns-then-is_eq c =
    let l = c.args.c.now.items in
    let m = c.args.marks.now in
    let g = c.args.grant in
    let at = c.args.hint in
    let x = c.index-items-hint.result in
    let low : at < length l = rw (← c.items-items.ensures.items) c.if-hint-items.true in
    let is : x ≡ get_or l at x = subst (λ items. x ≡ get_or items at x) c.items-items.ensures.items c.index-items-hint.is in
    let same : item_cmp x (grant_item false g) ≡ Equal = sym c.compare_made.ensures ∙ equal_from _ (sym c.is_eq.ensures ∙ c.if-is_eq.true) in
    let equal : (d : Item) → item_cmp (get_or l at d) (grant_item false g) ≡ Equal = λ d. subst (λ y. item_cmp y (grant_item false g) ≡ Equal) (is ∙ get_or_default l at x d low) same in
    (λ e. made_there l m at g low equal (sym c.marked.ensures ∙ e), λ h. c.marked.ensures ∙ made_mark l m at g c.items-items.ensures.order low equal h)
