use Rattle.std.proofs.Common.{List, refl, inl, subst, sym}
use Rattle.std.proofs.lemmas.Bool.{false≢true}
use Rattle.std.specs.List.{Any}
use Rattle.cat_items.specs.declared.item.Key.{Key}
use Rattle.edit_rules.proofs.FirstLaws.{passes_one}
use Rattle.table_additions.specs.Additions.{IsPrimaryKey, second_primary}
use Rattle.table_additions.proofs.refusing.test_second_primary.Goals as goal

pub returns-then-not-is_second : goal.returns-then-not-is_second
returns-then-not-is_second c = (
  passes_one (second_primary c.args.table.now c.args.named.now c.args.keys.now)
      (λ refusal r. false≢true (c.if-not-is_second.ensures.1 (subst (λ (own : List Key). Any IsPrimaryKey own) (sym c.in_ok-own.ensures) r.0.0, r.0.1))),
  tt,
)

pub returns : goal.returns
returns c = rw c.in_ok-path.ensures (
    let both = c.if-not-is_second.ensures.0 refl in
    (inl ((subst (λ (own : List Key). Any IsPrimaryKey own) c.in_ok-own.ensures both.0, both.1), refl), tt)
    )
