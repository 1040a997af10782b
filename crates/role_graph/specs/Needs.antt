-- What lent needs stand for.
use Rattle.std.specs.Prelude.{List, [], ◌∷◌, map}
use Rattle.cat_items.specs.declared.need.Need.{Need}
use Rattle.cat_items.specs.Keys.{need_of}
use Rattle.cat_items.specs.Rights.{reference}
use Rattle.role_graph.specs.declared.meeting.Needs.{Needs as Lent}
use Rattle.role_graph.specs.declared.meeting.Needs.TheVariants.{Listed, One, References}

abbrev pub needs_of : Lent → List Need
needs_of (Listed needs) = needs.now
needs_of (One need) = need_of need ∷ []
needs_of (References table columns) = map (reference table.now) columns.now
