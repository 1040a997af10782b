use Rattle.std.proofs.Common.{refl, inl}
use Rattle.std.proofs.lemmas.Bool.{both_ways}
use Rattle.edit_rules.proofs.FirstLaws.{passes_one}
use Rattle.cat_items.specs.Reach.{Has}
use Rattle.cat_items.specs.declared.edit.Refusal.TheVariants.{TypeMismatch}
use Rattle.statement_steps.specs.Steps.{where_it_is}
use Rattle.table_changes.specs.Defaults.{IsMisfitColumn}
use Rattle.table_changes.proofs.SoundDefaults.{misfit_here}
use Rattle.table_changes.proofs.defaults.NewDefaultMaking.rules.Goals as goal

pub returns-then-is_misfit : goal.returns-then-is_misfit
returns-then-is_misfit c =
    let d = c.args.self.now in
    let here = misfit_here c.args._c.now.items c.requires.good d.table d.column.now c.args.named c.requires.named d.default in
    let told = rw c.as_ref.ensures.value at c.is_misfit.ensures in
    (inl (here.0 (told.0 c.if-is_misfit.true), refl), tt)

pub returns : goal.returns
returns c =
    let items = c.args._c.now.items in
    let d = c.args.self.now in
    let here = misfit_here items c.requires.good d.table d.column.now c.args.named c.requires.named d.default in
    let told = rw c.as_ref.ensures.value at c.is_misfit.ensures in (
      passes_one (where_it_is (Has items (IsMisfitColumn d.table d.column.now d.default)) TypeMismatch) (λ refusal r. both_ways _ c.if-is_misfit.false (told.1 (here.1 r.0))),
      (c.requires.named, c.new.ensures),
    )
