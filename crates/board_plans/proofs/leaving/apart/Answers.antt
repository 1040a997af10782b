use Rattle.std.proofs.Common.{ℕ, List, get_or, subst}
use Rattle.std.specs.List.{Contains}
use Rattle.std.proofs.lemmas.List.Elements.{Contains-get_or}
use Rattle.board_plans.proofs.leaving.apart.Goals as goal

pub put_apart-requires : goal.put_apart-requires
put_apart-requires g c =
    let items = c.as_slice-number-items.result.now in
    let i = c.loop-number.number-index in
    let n = get_or items i 0 in
    c.requires n (subst (λ (ns : List ℕ). Contains ns n) c.loop-number.invariant.all (Contains-get_or items i 0 c.loop-number-test.true))
