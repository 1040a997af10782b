use Rattle.std.proofs.Common.{ap, ◌∙◌}
use Rattle.std.proofs.lemmas.Result.{on_ok_weaker}
use Rattle.cat_items.specs.Rights.{usage}
use Rattle.table_needs.proofs.NeedLemmas.{domain_need}
use Rattle.table_needs.proofs.needs.push_base.Goals as goal

pub returns-in_ok-usage-in-Domain : goal.returns-in_ok-usage-in-Domain
returns-in_ok-usage-in-Domain c =
    on_ok_weaker c.push.result
    (domain_need c.args.who.now c.args.base.now c.in-Domain.name c.args.needs.now c.push.new.self c.in_ok-usage-in-Domain.field-0 c.in-Domain.is (c.in_ok-usage-in-Domain.ensures ∙ ap usage c.in_ok-object_in-in-Domain.ensures))
    c.push.ensures.ok
