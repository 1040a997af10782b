-- What the words of the command line give.
use Rattle.std.specs.Prelude.{◌≡◌, ◌≤◌, ◌↔◌, ℕ, IsTrue, List, [], Option, Some, codes, option_map, pos}
use Rattle.std.specs.Str.Parse.{signed_digits_value}
use Rattle.clap.specs.Words.{Text, fault_of, first_of, matches_of}
use Rattle.command_words.specs.Program.{the_program}
use Rattle.command_words.specs.declared.given.Given.{Given}

-- clap finds no fault in the words
abbrev pub AreTaken : List Text → Type 0
AreTaken words = fault_of the_program words ≡ []

-- the words are refused, a call for help among them
abbrev pub AreRefused : List Text → Type 0
AreRefused words = ¬ (AreTaken words)

-- the text that the words give for an argument, or its default
abbrev pub value_of : Text → List Text → Option Text
value_of id words = first_of id (matches_of the_program words)

-- the argument's text is this number in decimal digits, where a sign and zeros may stand in front
abbrev pub IsNumber : Text → List Text → ℕ → Type 0
IsNumber id words n = option_map (signed_digits_value 10) (value_of id words) ≡ Some (pos n)

-- the words are taken, and these are the values of the arguments
pub record IsGiven (words : List Text) (given : Given) : Type 0 where
  pub taken : AreTaken words
  pub command : value_of (codes "command") words ≡ Some given.command.now
  pub users : value_of (codes "users") words ≡ Some given.users.now
  pub connections : IsNumber (codes "connections") words given.connections
  pub some_connections : (1 ≤ given.connections) × (given.connections ≤ 1000)
  pub port : IsNumber (codes "port") words given.port
  pub no_zero_port : 1 ≤ given.port
  pub seed : IsNumber (codes "seed") words given.seed
  pub count : IsNumber (codes "count") words given.count
  pub some_count : (1 ≤ given.count) × (given.count ≤ 1000)
  pub definition : IsTrue given.definition ↔ (value_of (codes "definition") words ≡ Some (codes "true"))
