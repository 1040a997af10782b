use Rattle.table_creation.proofs.NewTables.{needs_are}
use Rattle.table_creation.proofs.creating.NewTableMaking.needs.Goals as goal

pub returns : goal.returns
returns c =
    let t = c.args.self.now in
    let m = c.args.made.now in
    needs_are c.args._c.now.items c.args._who.now t.table t.parts m.items m.needs c.requires
