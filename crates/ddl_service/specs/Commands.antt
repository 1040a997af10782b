-- What the words of the command line ask for.
use Rattle.std.specs.Prelude.{◌≡◌, ◌≤◌, ℕ, List, Some, codes}
use Rattle.command_words.specs.Given.{AreTaken, IsNumber, value_of}
use Rattle.command_words.specs.declared.given.Given.{Given}
use Rattle.ddl_service.specs.Users.{Lists}
use Rattle.ddl_service.specs.declared.command_line.Command.{Command}
use Rattle.ddl_service.specs.declared.command_line.Command.TheVariants.{Script, Serve, Sample}

-- the first word is that of the command; `serve` takes a port and a number of connections from its options, `sample` a seed and a number of rounds, or as they are without them
abbrev pub Names : List (List ℕ) → Command → Type 0
Names words Script = value_of (codes "command") words ≡ Some (codes "script")
Names words (Serve port connections) = (value_of (codes "command") words ≡ Some (codes "serve"))
    × IsNumber (codes "port") words port × IsNumber (codes "connections") words connections × (connections ≤ 1000)
Names words (Sample seed count) = (value_of (codes "command") words ≡ Some (codes "sample")) × IsNumber (codes "seed") words seed × IsNumber (codes "count") words count

-- a command with the values that it takes of those that are given
abbrev pub IsNamed : Given → Command → Type 0
IsNamed given Script = given.command.now ≡ codes "script"
IsNamed given (Serve port connections) = (given.command.now ≡ codes "serve") × (port ≡ given.port) × (connections ≡ given.connections)
IsNamed given (Sample seed count) = (given.command.now ≡ codes "sample") × (seed ≡ given.seed) × (count ≡ given.count)

-- the words are taken, name this command, and list these users
pub record Asks (words : List (List ℕ)) (command : Command) (users : List (List ℕ)) : Type 0 where
  pub taken : AreTaken words
  pub command_is : Names words command
  pub list : List ℕ
  pub list_is : value_of (codes "users") words ≡ Some list
  pub users_are : Lists list users

-- the flag is among the words
abbrev pub AsksForDefinition : List (List ℕ) → Type 0
AsksForDefinition words = value_of (codes "definition") words ≡ Some (codes "true")
