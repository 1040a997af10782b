use Rattle.cat_items.proofs.PathLemmas.{compare_none, compare_one, compare_two, compare_more}
use Rattle.cat_items.proofs.keys.compare_with_object.Goals as goal

pub returns-in-Some-Some-Some : goal.returns-in-Some-Some-Some
returns-in-Some-Some-Some c =
    let a = c.in-Some-Some-Some in
    rw (c.then-in-Some-Some-Some.ensures, c.then.ensures, c.cmp.ensures, c.cmp-name.ensures) (compare_more c.args.x.now a.schema.now a.name.now a.field-0-2.now _ _ a.ensures a.ensures' a.ensures'')

pub returns-in-Some-Some-None : goal.returns-in-Some-Some-None
returns-in-Some-Some-None c =
    let a = c.in-Some-Some-None in
    rw (c.then-in-Some-Some-None.ensures, c.cmp-in-Some-Some-None.ensures, c.cmp-in-Some-Some-None-2.ensures) (compare_two c.args.x.now a.schema.now a.name.now _ _ a.ensures a.ensures' a.ensures'')

pub returns-in-Some-None-default : goal.returns-in-Some-None-default
returns-in-Some-None-default c =
    let a = c.in-Some-None-default in
    rw (c.then-in-Some-None-default.ensures, c.cmp-in-Some-None-default.ensures) (compare_one c.args.x.now a.schema.now _ _ a.ensures a.ensures')

pub returns-in-None-default-default : goal.returns-in-None-default-default
returns-in-None-default-default c = compare_none _ _ _ c.in-None-default-default.ensures
