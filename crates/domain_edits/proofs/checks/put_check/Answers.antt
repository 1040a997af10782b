use Rattle.std.proofs.Common.{◌≡◌, ◌↔◌, ap, sym, subst, ◌∙◌, inl, inr}
use Rattle.cat_items.specs.declared.item.DomainCheck.{DomainCheck}
use Rattle.cat_items.specs.declared.item.Item.TheVariants as item
use Rattle.domain_edits.specs.Found.{IsCheckBy, IsCheckHere}
use Rattle.domain_edits.proofs.DomainLemmas.{check_is_new, here_is, on_ok}
use Rattle.domain_edits.proofs.checks.put_check.Goals as goal

pub put-requires : goal.put-requires
put-requires c =
    check_is_new c.args.added.now.items c.in_ok-new-in-Some.field-0 (λ z h e. c.requires z h (e ∙ ap (λ (k : DomainCheck). k.name) c.in_ok-new-in-Some.ensures ∙ c.in_ok-check-in-Some.ensures.called))

pub returns-in_ok-new-in-Some : goal.returns-in_ok-new-in-Some
returns-in_ok-new-in-Some c =
    let domain = c.args.domain.now in
    let n = c.args.named.now in
    let r = c.in-Some.resolved in
    let k = c.in_ok-new-in-Some.field-0 in
    let made : IsCheckBy domain n r k = subst (IsCheckBy domain n r) (sym c.in_ok-new-in-Some.ensures) c.in_ok-check-in-Some.ensures in
    on_ok c.put.result _ _
    (λ all x.
    let same : (x ≡ item.DomainCheck k) ↔ IsCheckHere domain n c.args.one.now x = subst (λ f. (x ≡ item.DomainCheck k) ↔ IsCheckHere domain n f x) (sym c.in-Some.is) (here_is domain n r k made x) in (
      λ h. elim ((all x).0 h) [ inl was ↦ inl was | inr e ↦ inr (same.0 e) ],
      λ h. (all x).1 (elim h [ inl was ↦ inl was | inr here ↦ inr (same.1 here) ]),
    ))
    c.put.ensures.members
