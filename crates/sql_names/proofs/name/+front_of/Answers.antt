use Rattle.std.proofs.Common.{rules, arith, ℕ, ◌+◌, ◌*◌, ◌≤◌, ◌-◌, ◌<◌, ◌≡◌, ◌∷◌, [], List, sym, ap, subst, refl, ◌∙◌}
use Rattle.sql_names.specs.Fronts.{front_number, most}
use Rattle.sql_names.proofs.FrontLemmas.{room, one_more, none_more}
use Rattle.sql_names.proofs.name.+front_of.Goals as goal

pub overflow_mul-front : goal.overflow_mul-front
overflow_mul-front t c =
    let fits = (room c.args.left c.args.front c.requires.0 c.if-left-eq0.false c.requires.1).1 in
    search (rules, fits)

pub overflow_add-front : goal.overflow_add-front
overflow_add-front t c =
    let fits = (room c.args.left c.args.front c.requires.0 c.if-left-eq0.false c.requires.1).1 in
    search (rules, fits)

pub overflow_add-front-in-Some : goal.overflow_add-front-in-Some
overflow_add-front-in-Some t c =
    let fits = (room c.args.left c.args.front c.requires.0 c.if-left-eq0.false c.requires.1).1 in
    search (rules, fits)

pub front_of-requires : goal.front_of-requires
front_of-requires t c =
    let h = (room c.args.left c.args.front c.requires.0 c.if-left-eq0.false c.requires.1).0 in
    search (rules, h)

pub overflow_mul-front-in-None : goal.overflow_mul-front-in-None
overflow_mul-front-in-None t c =
    let fits = (room c.args.left c.args.front c.requires.0 c.if-left-eq0.false c.requires.1).1 in
    search (rules, fits)

pub front_of-requires-in-None : goal.front_of-requires-in-None
front_of-requires-in-None t c =
    let h = (room c.args.left c.args.front c.requires.0 c.if-left-eq0.false c.requires.1).0 in
    search (rules, h)

pub returns-then-left-eq0 : goal.returns-then-left-eq0
unfolding front_number
returns-then-left-eq0 t c = ap (λ k. front_number c.args.front k c.args.bytes.now) (sym c.if-left-eq0.true)

pub returns-in-Some : goal.returns-in-Some
returns-in-Some t c =
    let h = one_more c.args.front c.args.left c.in-Some.first.now c.in-Some.after.now c.if-left-eq0.false in
    search (rules, h)

pub returns-in-None : goal.returns-in-None
unfolding front_number
returns-in-None t c =
    let h = none_more c.args.front c.args.left c.if-left-eq0.false in
    search (rules, h)
