use Rattle.std.proofs.Common.{rules, arith, ℕ, ◌≡◌, sym, ap, subst, refl, ◌∙◌}
use Rattle.sql_names.specs.Fronts.{front_number, most}
use Rattle.sql_names.proofs.FrontLemmas.{same}
use Rattle.sql_names.proofs.name.Name.same.Goals as goal

pub returns-then-len-lt-FRONT : goal.returns-then-len-lt-FRONT
returns-then-len-lt-FRONT c = search (rules, same)
