use Rattle.std.proofs.Common.{ℕ, ◌≡◌, List, subst, sym, inl, inr, arith}
use Rattle.std.proofs.lemmas.Bool.{both_ways, cases_lt}
use Rattle.table_names.specs.Named.{system_name}
use Rattle.domain_drop.specs.CheckCopies.{IsFreeName}
use Rattle.domain_drop.proofs.names.free_name.Goals as goal

pub returns-then-is_free-clause-name : goal.returns-then-is_free-clause-name
returns-then-is_free-clause-name c = record {
  number = c.loop-number.number;
  positive = omega arith;
  is = c.in_ok-name_of.ensures;
  free = subst (λ (s : List ℕ). IsFreeName c.args.c.now.items c.args.copies.now s c.in_ok-name_of.field-0) c.in_ok-copy.ensures (c.is_free.ensures.0 c.if-is_free.true);
  least = c.loop-number.invariant.taken;
}

pub loop-number-preserved : goal.loop-number-preserved
loop-number-preserved c = record {
  taken = λ other positive below free. elim (cases_lt other c.loop-number.number) [
    | inl before ↦ c.loop-number.invariant.taken other positive before free
    | inr now ↦
        let same : other ≡ c.loop-number.number = omega (arith, now, below) in
        let here = subst (λ (n : ℕ). IsFreeName c.args.c.now.items c.args.copies.now c.args.schema.now (system_name n)) same free in
        let name = subst (λ (text : List ℕ). IsFreeName c.args.c.now.items c.args.copies.now c.args.schema.now text) (sym c.in_ok-name_of.ensures) here in
        both_ways c.is_free.result c.if-is_free.false (c.is_free.ensures.1 (subst (λ (s : List ℕ). IsFreeName c.args.c.now.items c.args.copies.now s c.in_ok-name_of.field-0) (sym c.in_ok-copy.ensures) name))
  ];
}
