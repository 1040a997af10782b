-- The program's arguments.
use Rattle.std.proofs.Common.{◌≡◌, ◌∙◌, ◌<◌, ◌≤◌, ◌&&◌, ap, ℕ, zero, suc, Bool, true, false, not, List, [], ◌∷◌, length, map, Option, Some, None, is_some, refl, sym, subst, inl, inr, arith, true≢false}
use Rattle.std.specs.Prelude.{codes, pos}
use Rattle.std.specs.List.{All, list_all, position, slice_index_or}
use Rattle.std.specs.Str.{bytes_eq}
use Rattle.std.proofs.lemmas.Slice.Eq.{bytes_eq-Decides}
use Rattle.clap.specs.Facts.{args_of, unwrap_or_range}
use Rattle.clap.specs.declared.builder.range.ValueRange.{ValueRange}
use Rattle.clap.specs.Built.{IsParsedFrom, IsPlain, IsPlainArg}
use Rattle.clap.specs.Simple.{App, app_of}
use Rattle.clap.specs.Texts.{items_of}
use Rattle.clap.specs.Walk.{is_empty, is_free_arg, is_simple_arg, Rule, Text, rule_of, texts}
use Rattle.std.specs.Borrow.{Bor}
use Rattle.clap.specs.Lexer.{without_minus}
use Rattle.clap.specs.Matches.{first_value, found_of, one_text}
use Rattle.clap.specs.declared.builder.action.ArgAction.TheVariants.{Set}
use Rattle.clap.specs.declared.builder.arg.Arg.{Arg}
use Rattle.clap.specs.declared.builder.command.Command.{Command}
use Rattle.clap.specs.declared.builder.command.Command.TheViews.{out-Command}
use Rattle.clap.specs.declared.builder.value_parser.ValueParser.TheVariants as parsers
use Rattle.clap.specs.declared.parser.matches.ArgMatches.{ArgMatches}
use Rattle.clap.proofs.SimpleLemmas.{HasPlainFields, is_false, is_nil, plain_fields}
use Rattle.clap.proofs.TakesLemmas.{each_rule}
use Rattle.clap.proofs.WalkLemmas.{both}
use Rattle.command_words.specs.Matched.{HasNumber, HasText, HasValues}
use Rattle.command_words.specs.Program.{the_program}
use Rattle.command_words.proofs.Values.{IsValued, default_read, required_read}

abbrev rules : List Rule
rules = the_program.top.rules

abbrev is_plain_rule : Rule → Bool
is_plain_rule r = r.is_simple && r.is_free

plain_arg : (a : Arg) → is_plain_rule (rule_of a) ≡ true → IsPlainArg a
plain_arg a e =
    let p = both _ _ e in
    let overrides = both _ _ p.0 in
    let ifs = both _ _ overrides.1 in
    let groups = both _ _ ifs.1 in
    let exclusive = both _ _ p.1 in
    let conflicts = both _ _ exclusive.1 in
    (is_false _ exclusive.0, is_nil _ conflicts.0, is_nil _ overrides.0, is_nil _ groups.0)

plain_ifs : (a : Arg) → is_plain_rule (rule_of a) ≡ true → a.default_vals_ifs.items ≡ []
plain_ifs a e =
    let p = both _ _ e in
    let overrides = both _ _ p.0 in
    let ifs = both _ _ overrides.1 in
    is_nil _ ifs.0

is_none : {X : Type 0} (o : Option X) → not (is_some o) ≡ true → o ≡ None
is_none None e = refl
is_none (Some x) e = absurd (true≢false (sym e))

plain_delim : (a : Arg) → is_simple_arg a ≡ true → a.val_delim ≡ None
plain_delim a e =
    let overrides = both (is_empty a.overrides.items) _ e in
    let ifs = both (is_empty a.default_vals_ifs.items) _ overrides.1 in
    let groups = both (is_empty a.groups.items) _ ifs.1 in
    let delim = both (not (is_some a.val_delim)) _ groups.1 in
    is_none a.val_delim delim.0

rule_at : (xs : List Arg) (k : ℕ) (d : Arg) → rule_of (slice_index_or xs k d) ≡ slice_index_or (map rule_of xs) k (rule_of d)
rule_at [] zero d = refl
rule_at [] (suc k) d = refl
rule_at (x ∷ xs) zero d = refl
rule_at (x ∷ xs) (suc k) d = rule_at xs k d

counted : (xs : List Arg) → length (map rule_of xs) ≡ length xs
counted [] = refl
counted (x ∷ xs) = ap suc (counted xs)

-- the place of each id
place : (j : ℕ) (r : Rule) → j < 7 → position (λ x. bytes_eq x.id (slice_index_or rules j r).id) rules ≡ Some j
place zero r lt = refl
place (suc zero) r lt = refl
place (suc (suc zero)) r lt = refl
place (suc (suc (suc zero))) r lt = refl
place (suc (suc (suc (suc zero)))) r lt = refl
place (suc (suc (suc (suc (suc zero))))) r lt = refl
place (suc (suc (suc (suc (suc (suc zero)))))) r lt = refl
place (suc (suc (suc (suc (suc (suc (suc j))))))) r lt = absurd (omega (arith, lt))

abbrev is_own : Text → Bool
is_own id = not (bytes_eq id []) && (not (bytes_eq id (codes "help")) && not (bytes_eq id (codes "version")))

own_id : (j : ℕ) (r : Rule) → j < 7 → is_own (slice_index_or rules j r).id ≡ true
own_id zero r lt = refl
own_id (suc zero) r lt = refl
own_id (suc (suc zero)) r lt = refl
own_id (suc (suc (suc zero))) r lt = refl
own_id (suc (suc (suc (suc zero)))) r lt = refl
own_id (suc (suc (suc (suc (suc zero))))) r lt = refl
own_id (suc (suc (suc (suc (suc (suc zero)))))) r lt = refl
own_id (suc (suc (suc (suc (suc (suc (suc j))))))) r lt = absurd (omega (arith, lt))

differs : (a b : Text) → not (bytes_eq a b) ≡ true → a ≡ b → ⊥
differs a b apart e = true≢false (sym ((bytes_eq-Decides a b).1 e) ∙ is_false _ apart)

many : (vs : List (Bor Text)) → 0 < length (texts vs) → 0 < length vs
many [] lt = lt
many (v ∷ vs) lt = omega arith

module _ (c : Command) (e : app_of c ≡ the_program) where
  rules_are : map rule_of (args_of c) ≡ rules
  rules_are = ap (λ (a : App). a.top.rules) e

  how_many : length (args_of c) ≡ 7
  how_many = sym (counted (args_of c)) ∙ ap length rules_are

  each_plain : All (λ a. is_plain_rule (rule_of a) ≡ true) (args_of c)
  each_plain = each_rule is_plain_rule (args_of c) (subst (λ (l : List Rule). list_all is_plain_rule l ≡ true) (sym rules_are) refl)

  fields : HasPlainFields c
  fields = plain_fields c (ap (λ (a : App). a.top.is_plain) e)

  plain : IsPlain c
  plain = (λ k d lt. plain_arg (slice_index_or (args_of c) k d) (each_plain k d lt), fields.groups)

  negates : (out-Command c).subcommand_negates_reqs ≡ false
  negates = ap (λ (a : App). a.top.subcommand_negates_reqs) e

  at : (k : ℕ) (d : Arg) → rule_of (slice_index_or (args_of c) k d) ≡ slice_index_or rules k (rule_of d)
  at k d = rule_at (args_of c) k d ∙ ap (λ (l : List Rule). slice_index_or l k (rule_of d)) rules_are

  unique : (k : ℕ) (d : Arg) → k < 7 → (j : ℕ) (x : Arg) → j < length (args_of c) → bytes_eq (slice_index_or (args_of c) j x).id.now (slice_index_or (args_of c) k d).id.now ≡ true → j ≡ k
  unique k d small j x lt same =
      let few : j < 7 = omega (arith, lt, how_many) in
      let one : (slice_index_or rules j (rule_of x)).id ≡ (slice_index_or rules k (rule_of d)).id =
      sym (ap (λ (r : Rule). r.id) (at j x)) ∙ ((bytes_eq-Decides _ _).0 same ∙ ap (λ (r : Rule). r.id) (at k d)) in
      let both_places : Some j ≡ Some k = sym (place j (rule_of x) few) ∙ (ap (λ (id : Text). position (λ y. bytes_eq y.id id) rules) one ∙ place k (rule_of d) small) in
      cc

  valued : (k : ℕ) (d : Arg) → k < 7 → (slice_index_or rules k (rule_of d)).action ≡ Some Set → (slice_index_or rules k (rule_of d)).range ≡ None → IsValued c k d
  valued k d small set range =
      let a = slice_index_or (args_of c) k d in
      let own : is_own (slice_index_or (args_of c) k d).id.now ≡ true = ap (λ (r : Rule). is_own r.id) (at k d) ∙ own_id k (rule_of d) small in
      let id = a.id.now in
      let name = both (not (bytes_eq id [])) (not (bytes_eq id (codes "help")) && not (bytes_eq id (codes "version"))) own in
      let flags = both (not (bytes_eq id (codes "help"))) (not (bytes_eq id (codes "version"))) name.1 in
      let whole = each_plain k d (omega (arith, small, how_many)) in
      let no_range : (slice_index_or (args_of c) k d).num_vals ≡ None = ap (λ (r : Rule). r.range) (at k d) ∙ range in
      record {
        within = omega (arith, small, how_many);
        set = ap (λ (r : Rule). r.action) (at k d) ∙ set;
        delim = plain_delim a (both (is_simple_arg a) (is_free_arg a) whole).0;
        least = subst (λ (r : Option ValueRange). 1 ≤ (unwrap_or_range r).start_inclusive) (sym no_range) (omega arith);
        unique = unique k d small;
        named = differs id [] name.0;
        own = λ auto. elim auto [
          | inl h ↦ differs id (codes "help") flags.0 h
          | inr h ↦ differs id (codes "version") flags.1 h
        ];
      }

  module _ (m : ArgMatches) (p : IsParsedFrom c m) where
    -- an argument that is required has a text
    text_of : (k : ℕ) (d : Arg) (id : Text) → IsValued c k d → (slice_index_or rules k (rule_of d)).required ≡ true → (slice_index_or rules k (rule_of d)).id ≡ id → HasText m id
    text_of k d id v required is =
        let r = required_read c m p plain fields.globals k d v negates (ap (λ (x : Rule). x.required) (at k d) ∙ required) in
        (r.text, subst (λ (t : Text). first_value (found_of m) t ≡ Some r.text) (ap (λ (x : Rule). x.id) (at k d) ∙ is) r.first)

    -- an argument with a default has a text that passed its parser
    number_of : (k : ℕ) (d : Arg) (id : Text) (low high : ℕ) → k < 7 → IsValued c k d → 0 < length (slice_index_or rules k (rule_of d)).defaults
        → (slice_index_or rules k (rule_of d)).parser ≡ Some (parsers.Signed (pos low) (pos high)) → (slice_index_or rules k (rule_of d)).id ≡ id → HasNumber m id low high
    number_of k d id low high small v some parser is =
        let a = slice_index_or (args_of c) k d in
        let same : texts (items_of a.default_vals) ≡ (slice_index_or rules k (rule_of d)).defaults = ap (λ (x : Rule). x.defaults) (at k d) in
        let given : 0 < length (items_of a.default_vals) = many (items_of a.default_vals) (subst (λ (l : List Text). 0 < length l) (sym same) some) in
        let r = default_read c m p plain fields.globals k d v (plain_ifs a (each_plain k d (omega (arith, small, how_many))), given) in
        let has : a.value_parser ≡ Some (parsers.Signed (pos low) (pos high)) = ap (λ (x : Rule). x.parser) (at k d) ∙ parser in
        let own : a.id.now ≡ id = ap (λ (x : Rule). x.id) (at k d) ∙ is in
        record {
          text = r.text;
          first = subst (λ (t : Text). first_value (found_of m) t ≡ Some r.text) own r.first;
          read = subst (λ (t : Text). one_text (found_of m) t ≡ Some (without_minus r.text)) own (r.read (parsers.Signed (pos low) (pos high)) has);
          fits = r.passed (parsers.Signed (pos low) (pos high)) has;
        }

    -- any argument stands for what is asked for beyond the end of the list
    any : Arg
    any = slice_index_or (args_of c) 0 (by (args_of c) (omega (arith, how_many)))
      where
        by : (xs : List Arg) → 0 < length xs → Arg
        by [] lt = absurd (omega (arith, lt))
        by (x ∷ xs) lt = x

    pub has_values : HasValues m
    has_values = record {
      command = text_of 0 any (codes "command") (valued 0 any (omega arith) refl refl) refl refl;
      users = text_of 1 any (codes "users") (valued 1 any (omega arith) refl refl) refl refl;
      connections = number_of 2 any (codes "connections") 1 1000 (omega arith) (valued 2 any (omega arith) refl refl) (omega arith) refl refl;
      port = number_of 3 any (codes "port") 1 65535 (omega arith) (valued 3 any (omega arith) refl refl) (omega arith) refl refl;
      seed = number_of 4 any (codes "seed") 0 4294967295 (omega arith) (valued 4 any (omega arith) refl refl) (omega arith) refl refl;
      count = number_of 5 any (codes "count") 1 1000 (omega arith) (valued 5 any (omega arith) refl refl) (omega arith) refl refl;
    }
