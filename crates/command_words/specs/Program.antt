-- The program's command line.
use Rattle.std.specs.Prelude.{ℕ, true, Some, codes, pos, [], ◌∷◌}
use Rattle.clap.specs.declared.builder.value_parser.ValueParser.TheVariants as parsers
use Rattle.clap.specs.Words.{App, Rule, Text, new_app, new_rule, with_rule}
use Rattle.clap.specs.Simple.{on_top}
use Rattle.clap.specs.declared.builder.action.ArgAction.TheVariants.{Set, SetTrue}

-- an argument with one value
abbrev pub value_rule : Text → Rule
value_rule id = record (new_rule id) { action = Some Set }

abbrev pub command_rule : Rule
command_rule = record (value_rule (codes "command")) { required = true }

abbrev pub users_rule : Rule
users_rule = record (value_rule (codes "users")) { long = Some (codes "users"); required = true }

-- an option with a number in this range
abbrev pub number_rule : Text → ℕ → ℕ → Text → Rule
number_rule id low high default = record (value_rule id) { long = Some id; parser = Some (parsers.Signed (pos low) (pos high)); defaults = default ∷ [] }

abbrev pub connections_rule : Rule
connections_rule = number_rule (codes "connections") 1 1000 (codes "1")

abbrev pub port_rule : Rule
port_rule = number_rule (codes "port") 1 65535 (codes "7003")

abbrev pub seed_rule : Rule
seed_rule = number_rule (codes "seed") 0 4294967295 (codes "1")

abbrev pub count_rule : Rule
count_rule = number_rule (codes "count") 1 1000 (codes "100")

-- a flag
abbrev pub definition_rule : Rule
definition_rule = record (new_rule (codes "definition")) { long = Some (codes "definition"); action = Some SetTrue }

-- a command, then the options
abbrev pub the_program : App
the_program = with_rule (with_rule (with_rule (with_rule (with_rule (with_rule (with_rule (on_top (λ s. record s { no_binary_name = true }) (new_app (codes "ddlsrv"))) command_rule) users_rule) connections_rule) port_rule) seed_rule) count_rule) definition_rule
