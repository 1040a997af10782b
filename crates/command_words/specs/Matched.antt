-- What clap's matches have for an argument.
use Rattle.std.specs.Prelude.{◌≡◌, ℕ, Some, codes, option_map, pos}
use Rattle.std.specs.Str.Parse.{signed_digits_value}
use Rattle.clap.specs.Words.{IsSignedIn, Text, first_value, found_of, one_text, without_minus}
use Rattle.clap.specs.declared.parser.matches.ArgMatches.{ArgMatches}

-- the argument has a text
abbrev pub HasText : ArgMatches → Text → Type 0
HasText matches id = (text : Text) × (first_value (found_of matches) id ≡ Some text)

-- the argument has a number in this range
pub record HasNumber (matches : ArgMatches) (id : Text) (low high : ℕ) : Type 0 where
  pub text : Text
  pub first : first_value (found_of matches) id ≡ Some text
  pub read : one_text (found_of matches) id ≡ Some (without_minus text)
  pub fits : IsSignedIn (pos low) (pos high) text

-- the argument's text is this number
abbrev pub ReadsNumber : ArgMatches → Text → ℕ → Type 0
ReadsNumber matches id n = option_map (signed_digits_value 10) (first_value (found_of matches) id) ≡ Some (pos n)

-- each argument but the flag has a value
pub record HasValues (matches : ArgMatches) : Type 0 where
  pub command : HasText matches (codes "command")
  pub users : HasText matches (codes "users")
  pub connections : HasNumber matches (codes "connections") 1 1000
  pub port : HasNumber matches (codes "port") 1 65535
  pub seed : HasNumber matches (codes "seed") 0 4294967295
  pub count : HasNumber matches (codes "count") 1 1000
