use Rattle.io_calls.proofs.tests.index.two_keys_and_a_link_have_their_numbers.Given as goal

abbrev pub ghosts-told_of_two : goal.ghosts-told_of_two
ghosts-told_of_two g a = record { name = a.blank.name; parts = a.blank.parts }
