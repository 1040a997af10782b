-- The program's command is one of which clap says what it makes of the words.
use Rattle.std.proofs.Common.{refl, ◌≡◌, true}
use Rattle.clap.specs.Words.{is_simple, is_simple_and_free}
use Rattle.clap.proofs.OnLiterals.{clap_on_literals}
use Rattle.command_words.specs.Program.{the_program}

pub is_simple_program : is_simple the_program ≡ true
unfolding clap_on_literals
is_simple_program = refl

pub is_free_program : is_simple_and_free the_program ≡ true
unfolding clap_on_literals
is_free_program = refl
