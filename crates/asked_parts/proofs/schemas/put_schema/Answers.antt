use Rattle.std.proofs.Common.{◌∙◌, inl, inr, subst, sym}
use Rattle.std.specs.List.{Contains}
use Rattle.std.proofs.lemmas.Result.{on_ok_weaker}
use Rattle.cat_items.proofs.CatalogueLemmas.{no_equal}
use Rattle.cascade_laws.specs.Topics.{schema}
use Rattle.edit_rules.specs.Chosen.{IsRightOrRoleGrant}
use Rattle.edit_rules.proofs.ItemKeys.{one_granted}
use Rattle.topic_keys.proofs.Adding.{topic_granted}
use Rattle.asked_parts.proofs.UnderLaws.{itself}
use Rattle.asked_parts.proofs.schemas.put_schema.Goals as goal

pub put-requires : goal.put-requires
put-requires c y h e = one_granted y c.in_ok-key.key (subst IsRightOrRoleGrant (sym c.in_ok-key.ensures) (topic_granted (schema c.args.name.now))) e

pub returns-in-None : goal.returns-in-None
returns-in-None c =
    let key = c.in_ok-key.key in
    let asked = c.args.asked.now.items in
    on_ok_weaker c.put.result
    (λ members k h. elim ((members k).0 h) [ inl old ↦ inl old | inr e ↦ inr (e ∙ c.in_ok-key.ensures, λ there. no_equal asked key c.in-None.ensures.none key (subst (Contains asked) e there) (itself key)) ])
    c.put.ensures.members
