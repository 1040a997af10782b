-- What each argument has after a parse, for a command that excludes nothing.
use Rattle.std.proofs.Common.{◌≡◌, ◌∙◌, ◌<◌, ◌≤◌, ap, ℕ, zero, suc, Bool, true, false, List, [], ◌∷◌, length, is_some, Option, Some, None, refl, sym, subst, inl, inr, arith, true≢false}
use Rattle.std.specs.List.{All, slice_index_or}
use Rattle.std.specs.Str.{bytes_eq}
use Rattle.std.specs.Prelude.{find, option_map}
use Rattle.std.specs.Borrow.{Bor}
use Rattle.std.proofs.lemmas.Slice.Eq.{bytes_eq-Decides}
use Rattle.std.proofs.lemmas.List.Elements.{All-get_or}
use Rattle.clap.specs.Facts.{args_of, groups_of, IsParsed, Entry, EntryPasses, HasIn, HasReading, PassesArg, WantsDefault, least_values, parser_of, parser_of_value}
use Rattle.clap.specs.Built.{IsAuto, IsParsedFrom, IsPlain, SameRules}
use Rattle.clap.specs.Matches.{first_value, found_of, has_subcommand, matched_of, one_text}
use Rattle.clap.specs.Values.{Accepts, read_as, reading_of}
use Rattle.clap.specs.declared.builder.action.ArgAction.TheVariants.{Count, Set}
use Rattle.clap.specs.declared.builder.arg.Arg.{Arg}
use Rattle.clap.specs.declared.builder.command.Command.{Command}
use Rattle.clap.specs.declared.builder.command.Command.TheViews.{out-Command}
use Rattle.clap.specs.declared.builder.value_parser.ValueParser.{ValueParser}
use Rattle.clap.specs.declared.builder.value_parser.Reading.{Reading}
use Rattle.clap.specs.declared.parser.matches.ArgMatches.{ArgMatches}
use Rattle.clap.specs.declared.parser.matches.Found.{Found}
use Rattle.clap.specs.declared.parser.matches.MatchedArg.{MatchedArg}
use Rattle.clap.proofs.CallerLemmas.{default_present, entry_by_id, present_has_entry, required_present, same_rules_by_id}

-- an entry with this id is found
pub found_in : (xs : List Entry) (id : List ℕ) → HasIn xs id → is_some (option_map (λ e. e.1) (find (λ e. bytes_eq e.0.now id) xs)) ≡ true
found_in [] id h = absurd (omega (arith, h.1))
found_in (x ∷ xs) id h = by (bytes_eq x.0.now id) refl h.0 h.1 h.2 (λ more. found_in xs id more)
  where
    by : (t : Bool) → bytes_eq x.0.now id ≡ t → (i : ℕ) → i < length (x ∷ xs) → ((d : Entry) → bytes_eq (slice_index_or (x ∷ xs) i d).0.now id ≡ true)
        → (HasIn xs id → is_some (option_map (λ e. e.1) (find (λ e. bytes_eq e.0.now id) xs)) ≡ true)
        → is_some (option_map (λ e. e.1) (find (λ e. bytes_eq e.0.now id) (x ∷ xs))) ≡ true
    by true t i lt at later = rw t refl
    by false t zero lt at later = absurd (true≢false (sym (at x) ∙ t))
    by false t (suc i) lt at later = rw t (later (i, omega (arith, lt), at))

-- an argument of the caller's that takes one value, told apart by its id
pub record IsValued (old : Command) (k : ℕ) (d : Arg) : Type 0 where
  pub within : k < length (args_of old)
  pub set : (slice_index_or (args_of old) k d).action ≡ Some Set
  pub delim : (slice_index_or (args_of old) k d).val_delim ≡ None
  pub least : 1 ≤ least_values (slice_index_or (args_of old) k d)
  pub unique : (j : ℕ) (e : Arg) → j < length (args_of old) → bytes_eq (slice_index_or (args_of old) j e).id.now (slice_index_or (args_of old) k d).id.now ≡ true → j ≡ k
  pub named : (slice_index_or (args_of old) k d).id.now ≡ [] → ⊥
  pub own : IsAuto (slice_index_or (args_of old) k d) → ⊥

-- its text, as the getters read it
pub record HasRead (old : Command) (m : ArgMatches) (k : ℕ) (d : Arg) : Type 0 where
  pub text : List ℕ
  pub first : first_value (found_of m) (slice_index_or (args_of old) k d).id.now ≡ Some text
  pub read : (q : ValueParser) → (slice_index_or (args_of old) k d).value_parser ≡ Some q → one_text (found_of m) (slice_index_or (args_of old) k d).id.now ≡ Some (read_as (reading_of q) text)
  pub passed : (q : ValueParser) → (slice_index_or (args_of old) k d).value_parser ≡ Some q → Accepts (slice_index_or (args_of old) k d).ignore_case q text

first_at : (f : Found) (id : List ℕ) (x : MatchedArg) (w : Bor (List ℕ)) (ws : List (Bor (List ℕ))) → matched_of f id ≡ Some x → x.vals.items ≡ w ∷ ws → first_value f id ≡ Some w.now
first_at f id x w ws found is = rw (found, is) refl

one_at : (f : Found) (id : List ℕ) (x : MatchedArg) (w : Bor (List ℕ)) (ws : List (Bor (List ℕ))) (how : Reading) → matched_of f id ≡ Some x → x.vals.items ≡ w ∷ ws → x.reading ≡ how → one_text f id ≡ Some (read_as how w.now)
one_at f id x w ws how found is reads = rw (found, is, reads) refl

accepts_of : (a y : Arg) (q : ValueParser) (t : List ℕ) → SameRules a y → a.value_parser ≡ Some q → Accepts y.ignore_case (parser_of y) t → Accepts a.ignore_case q t
accepts_of a y q t s parser read =
    let is_q : parser_of y ≡ q = ap parser_of_value (s.parser q parser) in
    let as_q : Accepts y.ignore_case q t = subst (λ (w : ValueParser). Accepts y.ignore_case w t) is_q read in
    subst (λ (b : Bool). Accepts b q t) s.ignore_case as_q

module _ (old : Command) (m : ArgMatches) (p : IsParsedFrom old m) (plain : IsPlain old) (globals : (out-Command old).has_globals ≡ false) (k : ℕ) (d : Arg) (v : IsValued old k d) where
  abbrev id : List ℕ
  id = (slice_index_or (args_of old) k d).id.now

  no_groups : groups_of p.built ≡ []
  no_groups = (p.from.plain plain).1

  filled : (x : MatchedArg) (e : Entry) → e.1 ≡ x → e.0.now ≡ id → EntryPasses p.built e → 0 < length x.vals.items
  filled x e same_x key pass =
      elim pass.1 [
        | inl h ↦ elim h.1 [
          | inl empty ↦ absurd (v.named (sym key ∙ empty))
          | inr has ↦
              let bad : 0 < 0 = rw no_groups at has in
              absurd (omega arith)
        ]
        | inr (inl w) ↦ subst (λ (y : MatchedArg). 0 < length y.vals.items) same_x w
        | inr (inr (inl h)) ↦
            let any = h.1 in
            let s = same_rules_by_id old m p k d v.within v.unique v.own any.0 any.1 any.2 any.3 (rw key at any.4.0) in
            let is_set : any.1.action ≡ Some Set = s.action Set v.set in
            let bad : Set ≡ Count = rw is_set at any.4.1 in
            cc
        | inr (inr (inr h)) ↦
            let s = same_rules_by_id old m p k d v.within v.unique v.own h.0 h.1 h.2 h.3 (rw key at h.4.0) in
            elim h.4.1 [
              | inl none ↦
                  let one = s.least v.set v.least in
                  absurd (omega arith)
              | inr has ↦
                  let bad : false ≡ true = rw (s.val_delim, v.delim) at has in
                  cc
            ]
      ]

  of_values : (x : MatchedArg) (vs : List (Bor (List ℕ))) → x.vals.items ≡ vs → 0 < length vs → All (λ w. PassesArg p.built id w.now) vs → HasReading p.built id x.reading → matched_of (found_of m) id ≡ Some x → HasRead old m k d
  of_values x [] is some all reads found = absurd (omega (arith, some))
  of_values x (w ∷ ws) is some all reads found = record {
    text = w.now;
    first = first_at (found_of m) id x w ws found is;
    read = λ q parser.
        let s = same_rules_by_id old m p k d v.within v.unique v.own reads.0 reads.1 reads.2 reads.3 reads.4.0 in
        let is_q : parser_of reads.1 ≡ q = ap parser_of_value (s.parser q parser) in
        one_at (found_of m) id x w ws (reading_of q) found is (sym reads.4.1 ∙ ap reading_of is_q);
    passed = λ q parser.
        let pass = All-get_or (λ (u : Bor (List ℕ)). PassesArg p.built id u.now) (w ∷ ws) 0 w (omega arith) all in
        accepts_of _ pass.1 q w.now (same_rules_by_id old m p k d v.within v.unique v.own pass.0 pass.1 pass.2 pass.3 pass.4.0) parser pass.4.1;
  }

  of_entry : (x : MatchedArg) (e : Entry) → e.1 ≡ x → e.0.now ≡ id → EntryPasses p.built e → matched_of (found_of m) id ≡ Some x → HasRead old m k d
  of_entry x e same_x key pass found =
      let no_group : e.1.is_group ≡ true → ⊥ = λ g. elim (pass.3 g) [
        | inl empty ↦ v.named (sym key ∙ empty)
        | inr lots ↦
            let bad : 0 < 0 = rw no_groups at lots in
            absurd (omega arith)
      ] in
      let all : All (λ w. PassesArg p.built id w.now) x.vals.items = elim pass.0 [
        | inl g ↦ absurd (no_group g)
        | inr vals ↦ subst (λ (w : List ℕ). All (λ u. PassesArg p.built w u.now) x.vals.items) key (subst (λ (y : MatchedArg). All (λ u. PassesArg p.built e.0.now u.now) y.vals.items) same_x vals)
      ] in
      let reads : HasReading p.built id x.reading = elim pass.4 [
        | inl g ↦ absurd (no_group g)
        | inr h ↦ subst (λ (w : List ℕ). HasReading p.built w x.reading) key (subst (λ (y : MatchedArg). HasReading p.built e.0.now y.reading) same_x h)
      ] in
      of_values x x.vals.items refl (filled x e same_x key pass) all reads found

  read_of : is_some (matched_of (found_of m) id) ≡ true → HasRead old m k d
  read_of some = by (matched_of (found_of m) id) refl some (p.parsed (p.from.globals ∙ globals))
    where
      by : (o : Option MatchedArg) → matched_of (found_of m) id ≡ o → is_some (matched_of (found_of m) id) ≡ true → IsParsed p.built (found_of m) (has_subcommand m) → HasRead old m k d
      by None e some parsed =
          let bad : false ≡ true = rw e at some in
          cc
      by (Some x) e some parsed =
          let got = entry_by_id (EntryPasses p.built) (found_of m).entries.items id x parsed.values e in
          of_entry x got.0 got.1 ((bytes_eq-Decides got.0.0.now id).0 got.2) got.3 e

  -- an argument that is required has a text
  pub required_read : (out-Command old).subcommand_negates_reqs ≡ false → (slice_index_or (args_of old) k d).required ≡ true → HasRead old m k d
  required_read negates required = read_of (present_has_entry (found_of m) id (required_present old m p plain globals negates k d v.within required))

  -- and so has one with a default
  pub default_read : WantsDefault (slice_index_or (args_of old) k d) → HasRead old m k d
  default_read wants = read_of (found_in (found_of m).entries.items id (default_present old m p globals k d v.within wants))
