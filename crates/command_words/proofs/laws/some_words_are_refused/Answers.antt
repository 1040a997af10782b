use Rattle.std.proofs.Common.{ap, refl, sym, ◌≡◌, ◌∙◌, Bool, [], ◌∷◌, true, false, true≢false}
use Rattle.clap.specs.Words.{Kinds}
use Rattle.clap.proofs.OnLiterals.{clap_on_literals}
use Rattle.command_words.proofs.laws.some_words_are_refused.Goals as goal

abbrev is_some : Kinds → Bool
is_some [] = false
is_some (k ∷ ks) = true

refuses : (kinds : Kinds) → is_some kinds ≡ true → kinds ≡ [] → ⊥
refuses kinds some none = true≢false (sym some ∙ ap is_some none)

pub returns : goal.returns
unfolding clap_on_literals
returns c = record { no_users = refuses _ refl; help = refuses _ refl; unknown = refuses _ refl; twice = refuses _ refl; no_port = refuses _ refl }
