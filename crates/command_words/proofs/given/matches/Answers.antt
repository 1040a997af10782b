use Rattle.std.proofs.Common.{ap, subst, ◌≡◌, ◌∙◌, true, map, List}
use Rattle.std.specs.Prelude.{Result, Ok, Err, IfOk}
use Rattle.std.specs.String.{string_bytes}
use Rattle.clap.specs.declared.error.Error.{Error}
use Rattle.clap.specs.declared.parser.matches.ArgMatches.{ArgMatches}
use Rattle.clap.specs.Words.{App, Text, HasMatchesOf, app_of, FailsBy, fault_of, found_of, is_simple, is_simple_and_free, matches_of, rows_of}
use Rattle.command_words.specs.Program.{the_program}
use Rattle.clap.specs.Built.{IsParsedFrom}
use Rattle.clap.specs.declared.builder.command.Command.{Command}
use Rattle.command_words.specs.Matched.{HasValues}
use Rattle.command_words.proofs.Program.{has_values}
use Rattle.command_words.proofs.Simple.{is_free_program, is_simple_program}
use Rattle.command_words.proofs.given.matches.Goals as goal

-- the matches of a simple command
taken : (a : App) (texts : List Text) (r : Result ArgMatches Error) → is_simple a ≡ true → IfOk r (HasMatchesOf a texts) → IfOk r (λ m. rows_of (found_of m) ≡ matches_of a texts)
taken a texts (Ok m) simple h = (h simple).0
taken a texts (Err e) simple h = tt

-- what the arguments of a parse have
valued : (command : Command) (r : Result ArgMatches Error) → app_of command ≡ the_program → IfOk r (λ m. IsParsedFrom command m) → IfOk r HasValues
valued command (Ok m) is h = has_values command is m h
valued command (Err e) is h = tt

pub returns-clause-values : goal.returns-clause-values
returns-clause-values c = valued c.in_ok-program.field-0 c.try_get_matches_from.result c.in_ok-program.ensures c.try_get_matches_from.ensures.parsed

pub returns-clause-rows : goal.returns-clause-rows
returns-clause-rows c =
    let texts = map (λ word. string_bytes word) c.args.words.now in
    let parse = c.try_get_matches_from in
    let simple : is_simple (app_of c.in_ok-program.field-0) ≡ true = ap is_simple c.in_ok-program.ensures ∙ is_simple_program in
    subst (λ (a : App). IfOk parse.result (λ (m : ArgMatches). rows_of (found_of m) ≡ matches_of a texts)) c.in_ok-program.ensures
    (taken (app_of c.in_ok-program.field-0) texts parse.result simple parse.ensures.matches)

pub returns-clause-refused : goal.returns-clause-refused
returns-clause-refused c =
    let texts = map (λ word. string_bytes word) c.args.words.now in
    subst (λ (a : App). FailsBy (fault_of a texts) c.try_get_matches_from.result) c.in_ok-program.ensures
    (c.try_get_matches_from.ensures.kinds (ap is_simple_and_free c.in_ok-program.ensures ∙ is_free_program))
