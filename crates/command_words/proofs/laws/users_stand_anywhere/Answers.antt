use Rattle.std.proofs.Common.{refl}
use Rattle.clap.proofs.OnLiterals.{clap_on_literals}
use Rattle.command_words.proofs.laws.users_stand_anywhere.Goals as goal

pub returns : goal.returns
unfolding clap_on_literals
returns c = record { taken = refl; users = refl; before = refl; users_before = refl }
