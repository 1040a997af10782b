use Rattle.std.proofs.Common.{◌≡◌, ◌↔◌, ◌⊎◌, ◌∙◌, List, ℕ, ap, subst}
use Rattle.std.specs.List.{Contains}
use Rattle.cat_items.specs.declared.need.Auth.TheVariants.{System, Named}
use Rattle.cat_items.specs.declared.item.Right.{Right}
use Rattle.cat_items.specs.declared.item.Item.{Item}
use Rattle.cat_items.specs.declared.item.Item.TheVariants as item
use Rattle.system_rights.proofs.Added.{on_ok, both_added}
use Rattle.system_rights.proofs.system.put_both.Goals as goal

pub returns : goal.returns
returns c =
    on_ok c.put-2.result _ _ (both_added c.args.rights.now.items c.put.new.rights.items c.put-2.new.rights.items c.args.need c.args.owner.now c.in_ok-right.right
    (c.in_ok-right.ensures ∙ ap (λ (n : List ℕ). let r : Right = record { need = c.args.need; grantor = System; grantee = Named n } in r) c.in_ok-copy.ensures)
    (subst (λ (r : Right). (x : Item) → Contains c.put.new.rights.items x ↔ (Contains c.args.rights.now.items x ⊎ (x ≡ item.Held r))) c.in_ok-share.ensures c.in_ok-put.ensures))
    c.put-2.ensures
