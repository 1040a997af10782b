use Rattle.std.proofs.Common.{ap, ap₂, ◌≡◌, ◌∙◌}
use Rattle.clap.specs.Words.{app_of, with_rule}
use Rattle.clap.specs.Simple.{Shape, on_top, app_of_fields}
use Rattle.std.specs.Prelude.{true}
use Rattle.command_words.proofs.arguments.program.Goals as goal

abbrev without_name : Shape → Shape
without_name s = record s { no_binary_name = true }

pub returns : goal.returns
returns c =
    let bare : app_of c.no_binary_name-bare.result ≡ on_top without_name (app_of c.new.result) = ap app_of_fields c.no_binary_name-bare.ensures in
    let one = c.in_ok-with_command.ensures.shape c.command_arg.ensures.local ∙ ap₂ with_rule (bare ∙ ap (on_top without_name) c.new.ensures.app) c.command_arg.ensures.rule in
    let two = c.in_ok-with_users.ensures.shape c.users_arg.ensures.local ∙ ap₂ with_rule one c.users_arg.ensures.rule in
    let three = c.in_ok-with_connections.ensures.shape c.connections_arg.ensures.local ∙ ap₂ with_rule two c.connections_arg.ensures.rule in
    let four = c.in_ok-with_port.ensures.shape c.port_arg.ensures.local ∙ ap₂ with_rule three c.port_arg.ensures.rule in
    let five = c.in_ok-with_seed.ensures.shape c.seed_arg.ensures.local ∙ ap₂ with_rule four c.seed_arg.ensures.rule in
    let six = c.in_ok-with_count.ensures.shape c.count_arg.ensures.local ∙ ap₂ with_rule five c.count_arg.ensures.rule in
    c.in_ok-with_definition.ensures.shape c.definition_arg.ensures.local ∙ ap₂ with_rule six c.definition_arg.ensures.rule
