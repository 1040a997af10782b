-- Conditions: what is read is spelled so, and what is spelled so is read.
use Rattle.std.proofs.Common.{◌≡◌, ℕ, ◌<◌, ◌≤◌, Bool, true, false, List, length, Option, Some, refl, ap, arith, lit<, lit≤}
use Rattle.sql_tree.specs.declared.expr.Expr.{Expr}
use Rattle.sql_tree.specs.declared.table.DomainCheck.{DomainCheck}
use Rattle.sql_words.specs.declared.word.Word.{Word}
use Rattle.sql_spelling.specs.declared.kind.Kind.{Kind}
use Rattle.sql_spelling.specs.declared.kind.Kind.TheVariants as k
use Rattle.sql_phrases.specs.Reading.{peek}
use Rattle.sql_phrases.specs.Shapes.{Repeated, Optional, left_out, said}
use Rattle.sql_phrases.specs.NameRules.{SpellsIdentifier}
use Rattle.sql_phrases.specs.NameParsers as names
use Rattle.sql_phrases.proofs.Follow.{Below, sees_differs}
use Rattle.sql_phrases.proofs.Lists.{Gives, gives_some, gives_then, gives_expect, expect_at, peek_at, below_token, shorter_token, Parses, repeated_complete, repeated_sound, optional_complete, optional_sound}
use Rattle.sql_phrases.proofs.NameProofs.{identifier_at, gives_identifier, identifier_shorter}
use Rattle.sql_expressions.proofs.Binding.{binds}
use Rattle.sql_expressions.proofs.WithinProofs.{expr_within_parses}
use Rattle.sql_definitions.specs.CheckRules.{SpellsCheck, check, SpellsDomainCheck, domain_check}
use Rattle.sql_definitions.specs.CheckParsers as parse
use Rattle.sql_definitions.specs.CheckParsers.{begins_domain_check}
use Rattle.sql_definitions.proofs.Continuing.{continues}

module _ (value : Bool) (m : ℕ) where
  pub check_at : {e : Expr} {ws rest : List Word} → SpellsCheck value m e ws rest → parse.check value m ws ≡ Some (e, rest)
  unfolding parse.check
  check_at (check {e = e} {b = b} {c = c} t l is r) = rw (expect_at t, expect_at l, (expr_within_parses value m).complete e b c is (below_token binds 7 r (lit< tt)), expect_at r)

  pub gives_check : {ws : List Word} → Gives (parse.check value m ws) (λ e a. SpellsCheck value m e ws a)
  unfolding parse.check
  gives_check {ws} = gives_then (gives_expect k.Check tt) (λ _ a t. gives_then (gives_expect k.LeftParen tt) (λ _ b l. gives_then ((expr_within_parses value m).sound b) (λ e c is.
      gives_then (gives_expect k.RightParen tt) (λ _ rest r. gives_some (check t l is r)))))

  pub check_shorter : {e : Expr} {ws rest : List Word} → SpellsCheck value m e ws rest → length rest < length ws
  check_shorter (check {e = e} {b = b} {c = c} t l is r) = omega (arith, shorter_token t, shorter_token l, (expr_within_parses value m).shorter e b c is, shorter_token r)

  pub check_begins : {e : Expr} {ws rest : List Word} → SpellsCheck value m e ws rest → peek ws ≡ k.Check
  check_begins (check t l is r) = peek_at t

-- ---- names of constraints

-- the words with which a constraint without a name begins, and one with a name
abbrev pub begins_constraint : Kind → Bool
begins_constraint k.Primary = true
begins_constraint k.Unique = true
begins_constraint k.References = true
begins_constraint k.Foreign = true
begins_constraint k.Check = true
begins_constraint _ = false

abbrev pub begins_named : Kind → Bool
begins_named k.Constraint = true
begins_named k.Primary = true
begins_named k.Unique = true
begins_named k.References = true
begins_named k.Foreign = true
begins_named k.Check = true
begins_named _ = false

also_named : (kind : Kind) → begins_constraint kind ≡ true → begins_named kind ≡ true
also_named k.Primary e = refl
also_named k.Unique e = refl
also_named k.References e = refl
also_named k.Foreign e = refl
also_named k.Check e = refl
also_named _ e = cc

pub name_begins : {n : Option (List ℕ)} {ws a : List Word} → Optional k.Constraint SpellsIdentifier n ws a → begins_constraint (peek a) ≡ true → begins_named (peek ws) ≡ true
name_begins {ws = ws} left_out e = also_named (peek ws) e
name_begins (said t n) e = ap begins_named (peek_at t)

pub constraint_name_at : {n : Option (List ℕ)} {ws a : List Word} → Optional k.Constraint SpellsIdentifier n ws a → begins_constraint (peek a) ≡ true → parse.constraint_name ws ≡ Some (n, a)
unfolding parse.constraint_name
constraint_name_at {n} {ws} {a} o e = optional_complete k.Constraint names.identifier SpellsIdentifier n ws a o (sees_differs begins_constraint k.Constraint a e refl) (λ y b r. identifier_at r)

pub gives_constraint_name : {ws : List Word} → Gives (parse.constraint_name ws) (λ n a. Optional k.Constraint SpellsIdentifier n ws a)
unfolding parse.constraint_name
gives_constraint_name {ws} = optional_sound k.Constraint tt names.identifier SpellsIdentifier (λ l. gives_identifier) ws

pub named_shorter : {n : Option (List ℕ)} {ws rest : List Word} → Optional k.Constraint SpellsIdentifier n ws rest → length rest ≤ length ws
named_shorter left_out = omega arith
named_shorter (said {a = a} t n) = omega (arith, shorter_token t, identifier_shorter _ a _ n)

-- ---- checks of domains

domain_check_at : (x : DomainCheck) (ws rest : List Word) → SpellsDomainCheck 64 x ws rest → Below continues 11 rest → parse.domain_check ws ≡ Some (x, rest)
unfolding parse.domain_check
domain_check_at x ws rest (domain_check n c) s = rw (constraint_name_at n (ap begins_constraint (check_begins true 64 c)), check_at true 64 c)

domain_check_sound : (ws : List Word) → Gives (parse.domain_check ws) (λ x a. SpellsDomainCheck 64 x ws a)
unfolding parse.domain_check
domain_check_sound ws = gives_then gives_constraint_name (λ n a is. gives_then (gives_check true 64) (λ e rest c. gives_some (domain_check is c)))

domain_check_shorter : (x : DomainCheck) (ws rest : List Word) → SpellsDomainCheck 64 x ws rest → length rest < length ws
domain_check_shorter x ws rest (domain_check n c) = omega (arith, named_shorter n, check_shorter true 64 c)

pub domain_check_parses : Parses continues parse.domain_check (SpellsDomainCheck 64) 11
domain_check_parses = record { sound = domain_check_sound; complete = domain_check_at; shorter = domain_check_shorter }

domain_check_by_name : {n : Option (List ℕ)} {e : Expr} {ws a rest : List Word} → Optional k.Constraint SpellsIdentifier n ws a → SpellsCheck true 64 e a rest → begins_domain_check (peek ws) ≡ true
domain_check_by_name (said t n) c = ap begins_domain_check (peek_at t)
domain_check_by_name left_out c = ap begins_domain_check (check_begins true 64 c)

pub domain_check_begins : (x : DomainCheck) (ws rest : List Word) → SpellsDomainCheck 64 x ws rest → begins_domain_check (peek ws) ≡ true
domain_check_begins x ws rest (domain_check n c) = domain_check_by_name n c

no_check_by : (kind : Kind) → continues kind < 10 → begins_domain_check kind ≡ false
no_check_by k.Constraint lt = absurd (omega (arith, lt))
no_check_by k.Check lt = absurd (omega (arith, lt))
no_check_by _ lt = refl

no_check : (ws : List Word) → Below continues 10 ws → begins_domain_check (peek ws) ≡ false
no_check ws s = no_check_by (peek ws) s.below

check_binds : (kind : Kind) → begins_domain_check kind ≡ true → continues kind < 11
check_binds k.Constraint e = lit< tt
check_binds k.Check e = lit< tt
check_binds _ e = cc

check_below : (x : DomainCheck) (ws rest : List Word) → SpellsDomainCheck 64 x ws rest → Below continues 11 ws
check_below x ws rest is = record { below = check_binds (peek ws) (domain_check_begins x ws rest is) }

pub domain_checks_at : (xs : List DomainCheck) (ws rest : List Word) → Repeated (SpellsDomainCheck 64) xs ws rest → Below continues 10 rest → parse.domain_checks ws ≡ Some (xs, rest)
unfolding parse.domain_checks
domain_checks_at xs ws rest m s = repeated_complete continues begins_domain_check 10 parse.domain_check (SpellsDomainCheck 64) 11 domain_check_parses domain_check_begins no_check check_below (lit≤ tt) xs ws rest m s

pub gives_domain_checks : {ws : List Word} → Gives (parse.domain_checks ws) (λ xs a. Repeated (SpellsDomainCheck 64) xs ws a)
unfolding parse.domain_checks
gives_domain_checks {ws} = repeated_sound continues begins_domain_check 10 parse.domain_check (SpellsDomainCheck 64) 11 domain_check_parses domain_check_begins no_check check_below (lit≤ tt) ws
