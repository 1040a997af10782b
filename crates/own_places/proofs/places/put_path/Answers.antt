use Rattle.own_places.proofs.Listed.{found_path}
use Rattle.own_places.proofs.places.put_path.Goals as goal

pub returns-in_default-clause-put : goal.returns-in_default-clause-put
returns-in_default-clause-put c =
    found_path c.args.paths.now.items c.args.on.now c.in_default.field-0 (rw c.as_slice.ensures.value at c.in_default.ensures.bound) (rw c.as_slice.ensures.value at c.in_default.ensures.position c.args.on.now)
