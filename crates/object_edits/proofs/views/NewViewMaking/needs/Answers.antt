use Rattle.object_edits.specs.CreatedViews.{query_of}
use Rattle.object_edits.proofs.NamedQueries.{needs_are}
use Rattle.object_edits.proofs.views.NewViewMaking.needs.Goals as goal

pub returns : goal.returns
returns c = needs_are c.args.self.now.columns.now (query_of c.args._c.now.items c.args._who.now c.args.self.now.query.now) c.args.made.now c.requires.resolved
