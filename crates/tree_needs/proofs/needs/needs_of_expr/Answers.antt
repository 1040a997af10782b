use Rattle.std.proofs.Common.{◌++◌, ◌∙◌, ap, IfOk, subst}
use Rattle.std.specs.List.{Contains}
use Rattle.cat_items.specs.Mentions as mentions
use Rattle.cat_items.specs.Needs as spec
use Rattle.cat_items.specs.Needs.{AreNeeds}
use Rattle.tree_needs.proofs.needs.needs_of_expr.Goals as goal

pub returns : goal.returns
returns c =
    subst (λ l. IfOk c.needs_of_mentions.result (λ needs. AreNeeds needs (λ need. Contains (spec.needs_of_mentions c.args.reading l) need)))
    (c.as_slice.ensures ∙ (c.in_ok-put_expr.ensures ∙ ap (λ a. a ++ mentions.expr_mentions c.args.expr.now) c.new-all.ensures)) c.needs_of_mentions.ensures
