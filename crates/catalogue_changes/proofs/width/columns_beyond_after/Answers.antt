use Rattle.catalogue_changes.proofs.Widths.{least_is_table, least_is_view, none_is_wide, some_more, none_more}
use Rattle.catalogue_changes.proofs.width.columns_beyond_after.Goals as goal

pub returns-in-Some-clause-least : goal.returns-in-Some-clause-least
returns-in-Some-clause-least c = λ new is. least_is_table new c.args.most c.in-Some.count (c.in-Some.ensures.some new is)

pub returns-in-None-clause-least : goal.returns-in-None-clause-least
returns-in-None-clause-least c = some_more c.first_beyond-in-None.result _ _ (λ count h new is. least_is_view new c.args.most count (c.in-None.ensures.none new is) (h new is)) c.first_beyond-in-None.ensures.some

pub returns-in-None-clause-none : goal.returns-in-None-clause-none
returns-in-None-clause-none c = none_more c.first_beyond-in-None.result (λ h new is. none_is_wide new c.args.most (c.in-None.ensures.none new is) (h new is)) c.first_beyond-in-None.ensures.none
