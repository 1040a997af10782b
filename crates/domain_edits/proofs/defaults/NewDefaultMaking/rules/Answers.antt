use Rattle.std.proofs.lemmas.Bool.{both_ways}
use Rattle.domain_edits.proofs.ChangedDomains.{fits, misfit_told}
use Rattle.domain_edits.proofs.defaults.NewDefaultMaking.rules.Goals as goal

pub returns-then-is_misfit : goal.returns-then-is_misfit
returns-then-is_misfit c =
    let told = rw c.as_ref.ensures.value at c.is_misfit.ensures in
    (misfit_told c.args._c.now.items c.args.self.now.domain c.args.self.now.default c.args.named c.requires.named (told.0 c.if-is_misfit.true), tt)

pub returns : goal.returns
returns c =
    let told = rw c.as_ref.ensures.value at c.is_misfit.ensures in (
      fits c.args._c.now.items c.args.self.now.domain c.args.self.now.default c.args.named c.requires.named (λ misfit. both_ways _ c.if-is_misfit.false (told.1 misfit)),
      (c.requires.named, c.new.ensures),
    )
