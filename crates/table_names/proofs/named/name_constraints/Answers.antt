use Rattle.std.proofs.Common.{ℕ, List, subst}
use Rattle.table_names.specs.Named.{AddsNamed, IsFree, IsFreeBeside}
use Rattle.table_names.specs.Taken.{AreTaken}
use Rattle.table_names.specs.Given.{given_names}
use Rattle.table_names.proofs.NamedLemmas.{named_more}
use Rattle.table_names.proofs.named.name_constraints.Goals as goal

pub loop-part-preserved : goal.loop-part-preserved
loop-part-preserved c = record {
  names = named_more (IsFree c.args.c.now.items c.args.schema.now (given_names c.args.parts.now)) c.args.parts.now c.loop-part.part-index c.part-item.result c.loop-part.named c.push_named.new.named
      (rw c.as_slice-part-items.ensures at c.loop-part-test.true) (rw c.as_slice-part-items.ensures at c.part-item.is) c.loop-part.invariant.names
      (subst (λ (given : List (List ℕ)). AddsNamed (IsFree c.args.c.now.items c.args.schema.now given) c.part-item.result c.loop-part.named c.push_named.new.named) c.in_ok-given.ensures c.in_ok-push_named.ensures.named);
  taken = subst (λ (given : List (List ℕ)). AreTaken (IsFreeBeside (IsFree c.args.c.now.items c.args.schema.now given) c.push_named.new.named) c.push_named.new.taken.items) c.in_ok-given.ensures c.in_ok-push_named.ensures.taken;
}
