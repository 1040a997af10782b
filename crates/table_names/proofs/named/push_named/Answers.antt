use Rattle.std.proofs.Common.{List, subst, sym}
use Rattle.std.proofs.lemmas.Result.{on_ok_weaker}
use Rattle.table_names.specs.declared.named.NamedConstraint.{NamedConstraint}
use Rattle.table_names.specs.Named.{IsFree, IsFreeBeside}
use Rattle.table_names.specs.Taken.{AreTaken}
use Rattle.table_names.proofs.TakenLemmas.{still_taken}
use Rattle.table_names.proofs.named.push_named.Goals as goal

pub returns-in_ok-kind-in-Constraint-clause-taken : goal.returns-in_ok-kind-in-Constraint-clause-taken
returns-in_ok-kind-in-Constraint-clause-taken c =
    let all = still_taken (IsFree c.args.c.now.items c.args.schema.now c.args.given.now) c.args.named.now (record { name = c.in_ok-name-in-Constraint.name; kind = c.in_ok-kind-in-Constraint.kind }) c.args.taken.now.items c.mark_number.new.taken.items c.requires c.mark_number.ensures in
    on_ok_weaker c.push.result (λ is. subst (λ (named : List NamedConstraint). AreTaken (IsFreeBeside (IsFree c.args.c.now.items c.args.schema.now c.args.given.now) named) c.mark_number.new.taken.items) (sym is) all) c.push.ensures.ok
