use Rattle.std.proofs.Common.{ap, subst, sym, ◌≡◌, ◌∙◌, ◌↔◌, IsTrue, map, ℕ, Option, Some, codes}
use Rattle.std.specs.Prelude.{option_map, pos}
use Rattle.std.specs.Str.Parse.{signed_digits_value}
use Rattle.std.specs.String.{string_bytes}
use Rattle.clap.specs.Words.{Text, first_of, first_value, found_of}
use Rattle.clap.proofs.WalkLemmas.{first_value-rows}
use Rattle.command_words.specs.Given.{IsNumber, value_of}
use Rattle.command_words.specs.Matched.{ReadsNumber}
use Rattle.command_words.proofs.given.given_by.Goals as goal

pub returns-in-Ok : goal.returns-in-Ok
returns-in-Ok c =
    let texts = map (λ word. string_bytes word) c.args.words.now in
    let found = found_of c.in-Ok.found in
    let is : (id : Text) → first_value found id ≡ value_of id texts = λ id. first_value-rows found id ∙ ap (first_of id) c.in-Ok.ensures.rows in
    let number : (id : Text) (n : ℕ) → ReadsNumber c.in-Ok.found id n → IsNumber id texts n = λ id n h. subst (λ (v : Option Text). option_map (signed_digits_value 10) v ≡ Some (pos n)) (is id) h in
    record {
      taken = c.in-Ok.ensures.refused;
      command = sym (is (codes "command")) ∙ c.text.ensures;
      users = sym (is (codes "users")) ∙ c.text-in-Ok.ensures;
      connections = number (codes "connections") c.thousand.result c.thousand.ensures.number;
      some_connections = c.thousand.ensures.range;
      port = number (codes "port") c.port.result c.port.ensures.number;
      no_zero_port = c.port.ensures.range;
      seed = number (codes "seed") c.seed.result c.seed.ensures;
      count = number (codes "count") c.thousand-in-Ok.result c.thousand-in-Ok.ensures.number;
      some_count = c.thousand-in-Ok.ensures.range;
      definition = subst (λ (v : Option Text). IsTrue c.has_definition.result ↔ (v ≡ Some (codes "true"))) (is (codes "definition")) c.has_definition.ensures;
    }
