use Rattle.std.proofs.Common.{sym, subst}
use Rattle.std.proofs.lemmas.Result.{on_ok_weaker}
use Rattle.table_parts.specs.declared.parts.Part.{Part}
use Rattle.table_needs.specs.Needs.{IsPartNeed}
use Rattle.table_needs.proofs.NeedLemmas.{Gain}
use Rattle.table_needs.proofs.needs.push_part.Goals as goal

pub returns-in-Column : goal.returns-in-Column
returns-in-Column c = on_ok_weaker c.push_base.result (subst (λ (p : Part). Gain c.args.needs.now c.push_base.new.needs (λ need. IsPartNeed c.args.who.now need p)) (sym c.in-Column.is)) c.push_base.ensures
