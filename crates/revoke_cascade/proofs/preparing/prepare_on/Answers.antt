use Rattle.std.proofs.Common.{arith}
use Rattle.revoke_cascade.proofs.preparing.prepare_on.Goals as goal

pub make_ready-requires-clause-planned : goal.make_ready-requires-clause-planned
make_ready-requires-clause-planned g c =
    let fits = c.requires in
    let to = c.in_ok-effects.ensures.outcome fits.0 fits.1 in
    let planned = rw c.in-Some.is at to.1.planned in
    ∣ (c.args.c.now.items, to.0, planned.0, planned.1) ∣₁

pub returns-in_default-clause-outcome : goal.returns-in_default-clause-outcome
returns-in_default-clause-outcome g c = λ edited fits.
    let to = c.in_ok-effects.ensures.outcome edited fits in
    (to.0, rw c.in_default.is at to.1)

pub returns-clause-outcome : goal.returns-clause-outcome
returns-clause-outcome g c = λ edited fits.
    let to = c.in_ok-effects.ensures.outcome edited fits in
    let planned = rw c.in-Some.is at to.1.planned in
    let left = rw c.in-Some.is at to.1.left in
    (to.0, record { made = to.1.made; does = to.1.does; left = left; planned = (planned.0, c.in_ok-ready.ensures.planned c.args.c.now.items to.0 planned.0 planned.1) })

pub returns-in_err-ready-clause-few : goal.returns-in_err-ready-clause-few
returns-in_err-ready-clause-few g c = λ edited bound fits b. omega (arith, (rw c.in-Some.is at c.in_ok-effects.ensures.spent) edited bound fits b, c.make_ready.ensures.few)

pub returns-clause-few : goal.returns-clause-few
returns-clause-few g c = λ edited bound fits b. omega (arith, (rw c.in-Some.is at c.in_ok-effects.ensures.spent) edited bound fits b, c.make_ready.ensures.few)
