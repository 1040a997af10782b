use Rattle.std.proofs.Common.{◌≡◌, Bool, true, ap, sym, subst, ◌∙◌}
use Rattle.std.specs.Cmp.{Equal-is, eq_by_cmp_equiv}
use Rattle.std.specs.Ordering.{is_eq}
use Rattle.std.specs.declared.cmp.Ordering.{Ordering}
use Rattle.cat_items.specs.declared.need.Need.{Need}
use Rattle.cat_items.specs.Order.{need_cmp}
use Rattle.cat_items.proofs.OrderLemmas.{need_cmp-total}
use Rattle.tree_needs.proofs.NeedKeys.{need_is}
use Rattle.body_needs.proofs.need_order.is_same.Goals as goal

told : (a b : Need) (r : Ordering) (t : Bool) → r ≡ need_cmp a b → t ≡ is_eq r → (t ≡ true → a ≡ b) × (a ≡ b → t ≡ true)
told a b r t compared is =
    let same : t ≡ is_eq (need_cmp a b) = is ∙ ap is_eq compared in (
      λ e. need_is a b ((Equal-is (need_cmp a b)).0 (sym same ∙ e)),
      λ e. same ∙ subst (λ z. is_eq (need_cmp a z) ≡ true) e ((eq_by_cmp_equiv need_cmp-total).refl a),
    )

pub returns : goal.returns
returns c = told c.args.a.now c.args.b.now c.compare.result c.is_eq.result c.compare.ensures c.is_eq.ensures
