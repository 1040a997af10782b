use Rattle.std.proofs.Common.{◌≡◌, List, [], refl, subst, sym}
use Rattle.sql_names.specs.NameBytes.{NameBytes}
use Rattle.table_work.specs.Keys.{IsMeant}
use Rattle.table_types.specs.Types.{AreMeant}
use Rattle.table_types.proofs.classes.names_meant.Goals as goal

pub returns-in_err-key-clause-none : goal.returns-in_err-key-clause-none
returns-in_err-key-clause-none c =
    let empty : c.args.written.now ≡ [] = c.if-not-is_empty.ensures.0 refl in
    rw c.from_residual.ensures (
    λ names meant.
    let key : AreMeant c.args.keys.now [] names = subst (λ (written : List NameBytes). AreMeant c.args.keys.now written names) empty meant in
    c.in_err-key.ensures.none key.0 (subst (λ (written : List NameBytes). IsMeant c.args.keys.now written key.0) (sym empty) key.1))
