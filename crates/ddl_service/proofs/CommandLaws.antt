-- The words of the command line ask for one command.
use Rattle.std.proofs.Common.{◌≡◌, ◌↔◌, ℕ, IsTrue, List, Option, Some, MatchOption, codes, map, subst, sym, ◌∙◌}
use Rattle.ddl_service.specs.Commands.{Asks, AsksForDefinition}
use Rattle.ddl_service.specs.declared.command_line.Asked.{Asked}
use Rattle.ddl_service.specs.declared.command_line.Command.{Command}
use Rattle.ddl_service.specs.declared.command_line.Command.TheVariants.{Script, Serve}

pub one_command : (words users others : List (List ℕ)) (port connections : ℕ) → Asks words Script users → Asks words (Serve port connections) others → ⊥
one_command words users others port connections script serve = let same : Some (codes "script") ≡ Some (codes "serve") = sym script.command_is ∙ serve.command_is.0 in cc

-- what is said of the words that were read
abbrev Told : List (List ℕ) → Option Asked → Type 0
Told words found = MatchOption found ((command : Command) (users : List (List ℕ)) → ¬ (Asks words command users)) (λ asked. Asks words asked.command asked.users.items × (IsTrue asked.definition ↔ AsksForDefinition words))

-- it is said of the words that were given
pub told : {X : Type 0} (text : X → List ℕ) (a b : List X) (found made : Option Asked) → a ≡ b → found ≡ made → Told (map text a) found → Told (map text b) made
told text a b found made same is h = subst (λ words. Told (map text words) made) same (subst (Told (map text a)) is h)
