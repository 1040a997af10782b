use Rattle.std.proofs.Common.{List, subst, [], ◌∷◌}
use Rattle.std.proofs.lemmas.List.{take_all}
use Rattle.std.proofs.lemmas.List.Elements.{Contains-append_left}
use Rattle.finite_chains.specs.Chains.{IsWithin}
use Rattle.sql_names.specs.NameBytes.{PathNames}
use Rattle.shown_items.proofs.Owned.{one_more_path}
use Rattle.shown_items.proofs.own.put_paths.Goals as goal

pub loop-path-preserved : goal.loop-path-preserved
loop-path-preserved c =
    let old = c.loop-path.own.items in
    let path = c.path-item.result in
    rw (c.in_ok-push.ensures.items, c.in_ok-copy.ensures) (
      λ other h. Contains-append_left old (path ∷ []) other (c.loop-path.invariant.0 other h),
      one_more_path c.args.paths.now c.loop-path.path-index path old c.loop-path-test.true c.path-item.is c.loop-path.invariant.1,
    )

pub returns-clause-put : goal.returns-clause-put
returns-clause-put c = subst (λ (paths : List PathNames). IsWithin paths c.loop-path.own.items) (take_all c.loop-path.path-index c.args.paths.now c.loop-path-test.false) c.loop-path.invariant.1
