use Rattle.plain_needs.proofs.ColumnNeeds.{column_needed}
use Rattle.plain_needs.proofs.laws.a_plain_view_needs_the_columns_that_it_shows.Goals as goal

pub returns : goal.returns
returns c = column_needed
