use Rattle.std.proofs.Common.{sym, subst}
use Rattle.std.proofs.lemmas.Result.{on_ok_weaker}
use Rattle.table_parts.specs.declared.parts.Part.{Part}
use Rattle.table_additions.specs.Additions.{IsRightOfPart}
use Rattle.table_additions.proofs.Gains.{Gain}
use Rattle.table_additions.proofs.rights.push_part.Goals as goal

pub returns-in-Column : goal.returns-in-Column
returns-in-Column c = on_ok_weaker c.push_actions.result (subst (λ (p : Part). Gain c.args.all.now c.push_actions.new.all (λ x. IsRightOfPart c.args.c.now.items c.args.table.now x p)) (sym c.in-Column.is)) c.push_actions.ensures
