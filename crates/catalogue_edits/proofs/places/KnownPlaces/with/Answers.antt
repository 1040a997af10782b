use Rattle.catalogue_edits.proofs.places.KnownPlaces.with.Goals as goal

pub returns-in-Ok : goal.returns-in-Ok
returns-in-Ok c items had = (λ x there auth on place. c.in-Ok.ensures.kept auth on (had x there auth on place), c.in-Ok.ensures.noted)
