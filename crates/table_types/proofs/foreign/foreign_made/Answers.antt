use Rattle.table_types.proofs.ForeignLemmas.{bound_seen, none_told, some_passes}
use Rattle.table_types.proofs.foreign.foreign_made.Goals as goal

pub returns-in-None : goal.returns-in-None
returns-in-None c = (
  none_told c.args.c.now.items c.args.who.now c.args.w.now c.args.columns.now c.args.references.now c.in_ok-target.target c.in_ok-keys.keys c.in_ok-target.ensures c.in_ok-keys.ensures c.in-None.ensures.none,
  tt,
)

pub returns : goal.returns
returns c = (
  some_passes c.args.c.now.items c.args.who.now c.args.w.now c.args.columns.now c.args.references.now c.in_ok-target.target c.in_ok-keys.keys c.in_ok-target.ensures c.in_ok-keys.ensures c.in-Some.key.now c.in-Some.ensures.found,
  (
    c.in-Some.key.now,
    bound_seen c.args.c.now.items c.args.who.now c.args.w.now c.args.columns.now c.args.references.now c.in_ok-target.target c.in_ok-keys.keys c.in_ok-target.ensures c.in_ok-keys.ensures c.in-Some.key.now c.in-Some.ensures.found,
    c.in_ok-foreign_with-in-Some.ensures,
  ),
)
