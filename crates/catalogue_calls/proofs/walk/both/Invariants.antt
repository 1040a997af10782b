use Rattle.catalogue_calls.proofs.walk.both.Given as goal

abbrev pub ghosts-goes : goal.ghosts-goes
ghosts-goes a = record { name = a.blank.name; parts = a.blank.parts }
