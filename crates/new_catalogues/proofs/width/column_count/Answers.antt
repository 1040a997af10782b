use Rattle.std.proofs.Common.{sym, subst}
use Rattle.new_catalogues.specs.Width.{HasColumnCount}
use Rattle.new_catalogues.proofs.WidthLemmas.{column_range}
use Rattle.new_catalogues.proofs.width.column_count.Goals as goal

pub returns : goal.returns
returns c = subst (HasColumnCount c.args.c.now.items c.args.table.now) (sym c.len.ensures.value) (column_range c.args.c.now.items c.args.table.now c.columns_of.result.start c.columns_of.result.end c.requires c.columns_of.ensures)
