use Rattle.catalogue_calls.proofs.plain.outcome_of.Goals as goal

pub new_catalogue-requires : goal.new_catalogue-requires
new_catalogue-requires c = record { fit = (c.requires.edited, c.requires.fit) }

pub further-requires : goal.further-requires
further-requires c = record { order = c.requires.fit.target_order }
