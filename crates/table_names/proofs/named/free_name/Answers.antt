use Rattle.std.proofs.Common.{ℕ, ◌+◌, ◌-◌, ◌≡◌, List, subst, sym, inl, inr, arith}
use Rattle.std.proofs.lemmas.Bool.{cases_lt, false≢true}
use Rattle.table_names.specs.Named.{IsFree, IsFreeBeside, system_name}
use Rattle.table_names.proofs.named.free_name.Goals as goal

pub returns-then-is_free : goal.returns-then-is_free
returns-then-is_free c = record {
  number = c.loop-number.number;
  positive = omega arith;
  is = c.in_ok-system_name.ensures;
  free = subst (λ (s : List ℕ). IsFreeBeside (IsFree c.args.c.now.items s c.args.given.now) c.args.named.now c.in_ok-system_name.field-0) c.in_ok-copy.ensures (c.is_free.ensures.0 c.if-is_free.true);
  least = c.loop-number.invariant.taken;
}

pub loop-number-preserved : goal.loop-number-preserved
loop-number-preserved c = record {
  taken = λ other positive below free. elim (cases_lt other c.loop-number.number) [
    | inl before ↦ c.loop-number.invariant.taken other positive before free
    | inr now ↦
        let same : other ≡ c.loop-number.number = omega (arith, now, below) in
        let here = subst (λ (n : ℕ). IsFreeBeside (IsFree c.args.c.now.items c.args.schema.now c.args.given.now) c.args.named.now (system_name n)) same free in
        let name = subst (λ (text : List ℕ). IsFreeBeside (IsFree c.args.c.now.items c.args.schema.now c.args.given.now) c.args.named.now text) (sym c.in_ok-system_name.ensures) here in
        false≢true (c.if-is_free.ensures.1 (subst (λ (s : List ℕ). IsFreeBeside (IsFree c.args.c.now.items s c.args.given.now) c.args.named.now c.in_ok-system_name.field-0) (sym c.in_ok-copy.ensures) name))
  ];
}

pub loop-number-preserved-then-is_taken : goal.loop-number-preserved-then-is_taken
loop-number-preserved-then-is_taken c = record {
  taken = λ other positive below free. elim (cases_lt other c.loop-number.number) [
    | inl before ↦ c.loop-number.invariant.taken other positive before free
    | inr now ↦
        let same : other ≡ c.loop-number.number - 1 + 1 = omega (arith, now, below, positive) in
        c.requires (c.loop-number.number - 1) (c.is_taken.ensures c.if-is_taken.true) (subst (λ (n : ℕ). IsFreeBeside (IsFree c.args.c.now.items c.args.schema.now c.args.given.now) c.args.named.now (system_name n)) same free)
  ];
}
