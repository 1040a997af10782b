-- Data types and defaults: what is read is spelled so, and what is spelled so is read.
use Rattle.std.proofs.Common.{◌≡◌, ℕ, ◌<◌, true, false, List, Option, Some, None, refl, sym, ap, ◌∙◌, subst, arith, lit≤}
use Rattle.std.specs.Prelude.{◌==◌}
use Rattle.std.proofs.lemmas.Bool.{ne_eqb, eqb-false}
use Rattle.sql_names.specs.declared.sort.Default.{Default}
use Rattle.sql_names.specs.declared.sort.Special.{Special}
use Rattle.sql_names.specs.declared.sort.Special.TheVariants as specials
use Rattle.sql_names.specs.declared.sort.SqlType.{SqlType}
use Rattle.sql_words.specs.declared.word.Word.{Word}
use Rattle.sql_spelling.specs.declared.kind.Kind.{Kind}
use Rattle.sql_spelling.specs.declared.kind.Kind.TheVariants as k
use Rattle.sql_phrases.specs.Reading.{peek, next, spelling, sees}
use Rattle.sql_phrases.specs.Shapes.{Token, absent, present}
use Rattle.sql_phrases.specs.TypeRules.{SpellsNumber, number, SpellsCharacterWord, character_word, char_word, decimal_word, dec_word, SpellsBracketed, bracketed, SpellsSize, size_unsaid, size, SpellsPrecision, precision_unsaid, precision, with_scale, SpellsType, character, varchar, varying, numeric, decimal, smallint, integer, int, bigint, boolean, date, time, timestamp, SpellsSpecial, current_user, current_date, current_time, current_timestamp, SpellsDefault, literal, true_word, false_word, null, special}
use Rattle.sql_phrases.specs.Parsers.{opening}
use Rattle.sql_phrases.specs.TypeParsers as parse
use Rattle.sql_phrases.specs.TypeParsers.{number_within}
use Rattle.sql_phrases.proofs.Follow.{follows, Below, passes, sees_other}
use Rattle.sql_phrases.proofs.Lists.{Gives, gives_none, gives_some, gives_then, gives_if, gives_weaker, after_not, spells_seen, token_next, gives_eat, gives_expect, gives_text, expect_at, text_at, sees_at, after_at, next_at, peek_at, peek_spelled, next_spelled, spelling_at, sees_spelled}
use Rattle.sql_phrases.proofs.Numbers.{within, found_within}

pub opening_at : (n : ℕ) {ws a : List Word} → 0 < n → Token k.LeftParen ws a → opening n ws ≡ Some (tt, a)
unfolding opening
opening_at n lt t = let e : (n == 0) ≡ false = ne_eqb n 0 (λ z. absurd (omega arith)) in rw (e, expect_at t)

pub gives_opening : (n : ℕ) {ws : List Word} → Gives (opening n ws) (λ _ a. (0 < n) × Token k.LeftParen ws a)
unfolding opening
gives_opening n = gives_if (n == 0) (λ _. gives_none) (λ e. gives_weaker (gives_expect k.LeftParen tt) (λ _ a t. (let d : n ≡ 0 → ⊥ = eqb-false n 0 e in omega arith, t)))

-- ---- numbers

number_at : {low high n : ℕ} {ws rest : List Word} → SpellsNumber low high n ws rest → parse.number low high ws ≡ Some (n, rest)
unfolding parse.number
number_at {low} {high} (number {t = t} s d lo hi) = rw (sees_spelled s, spelling_at s, within low high t d lo hi, next_spelled s)

number_given : (low high : ℕ) (ws : List Word) (found : Option ℕ) → sees k.Number ws ≡ true → number_within low high (spelling ws) ≡ found → Gives (parse.number_found found ws) (λ n a. SpellsNumber low high n ws a)
number_given low high ws None e h = gives_none
number_given low high ws (Some n) e h =
    let w = found_within low high (spelling ws) n h in
    gives_some (subst (λ m. SpellsNumber low high m ws (next ws)) (sym w.is) (number (spells_seen k.Number tt e) w.digits w.least w.most))

gives_number : {low high : ℕ} {ws : List Word} → Gives (parse.number low high ws) (λ n a. SpellsNumber low high n ws a)
unfolding parse.number
gives_number {low} {high} {ws} = gives_if (sees k.Number ws) (λ e. number_given low high ws (number_within low high (spelling ws)) e refl) (λ _. gives_none)

-- ---- numbers in brackets

module _ (m : ℕ) where
  bracketed_at : {low high n : ℕ} {ws rest : List Word} → SpellsBracketed m low high n ws rest → parse.bracketed m low high ws ≡ Some (n, rest)
  unfolding parse.bracketed
  bracketed_at (bracketed lt l n r) = rw (opening_at m lt l, number_at n, expect_at r)

  gives_bracketed : {low high : ℕ} {ws : List Word} → Gives (parse.bracketed m low high ws) (λ n a. SpellsBracketed m low high n ws a)
  unfolding parse.bracketed
  gives_bracketed = gives_then (gives_opening m) (λ _ a o. gives_then gives_number (λ n b is. gives_then (gives_expect k.RightParen tt) (λ _ rest r. gives_some (bracketed o.0 o.1 is r))))

  bracketed_opens : {low high n : ℕ} {ws rest : List Word} → SpellsBracketed m low high n ws rest → sees k.LeftParen ws ≡ true
  bracketed_opens (bracketed lt l n r) = sees_at l

  size_at : {without low high n : ℕ} {ws rest : List Word} → SpellsSize m without low high n ws rest → Below follows 10 rest → parse.size m without low high ws ≡ Some (n, rest)
  unfolding parse.size
  size_at {ws = ws} size_unsaid s = rw (passes follows 10 k.LeftParen ws s (lit≤ tt))
  size_at (size b) s = rw (bracketed_opens b, bracketed_at b)

  gives_size : {without low high : ℕ} {ws : List Word} → Gives (parse.size m without low high ws) (λ n a. SpellsSize m without low high n ws a)
  unfolding parse.size
  gives_size {ws = ws} = gives_if (sees k.LeftParen ws) (λ _. gives_weaker gives_bracketed (λ n a b. size b)) (λ _. gives_some size_unsaid)

  precision_at : {p s : ℕ} {ws rest : List Word} → SpellsPrecision m p s ws rest → Below follows 10 rest → parse.precision m ws ≡ Some ((p, s), rest)
  unfolding parse.precision parse.scale
  precision_at {ws = ws} precision_unsaid e = rw (passes follows 10 k.LeftParen ws e (lit≤ tt))
  precision_at (precision (bracketed {b = b} lt l n r)) e = let c = sees_other k.Comma k.RightParen b (peek_at r) refl in rw (sees_at l, opening_at m lt l, number_at n, c, after_not k.Comma b c, expect_at r)
  precision_at (with_scale lt l n c q r) e = rw (sees_at l, opening_at m lt l, number_at n, sees_at c, after_at c, number_at q, expect_at r)

  gives_precision : {ws : List Word} → Gives (parse.precision m ws) (λ p a. SpellsPrecision m p.0 p.1 ws a)
  unfolding parse.precision parse.scale
  gives_precision {ws} = gives_if (sees k.LeftParen ws)
      (λ _. gives_then (gives_opening m) (λ _ a o. gives_then gives_number (λ p b is. gives_eat k.Comma tt _ _
      (λ c. gives_then gives_number (λ s d is'. gives_then (gives_expect k.RightParen tt) (λ _ rest r. gives_some (with_scale o.0 o.1 is c is' r))))
      (λ e. rw e (gives_then (gives_expect k.RightParen tt) (λ _ rest r. gives_some (precision (bracketed o.0 o.1 is r))))))))
      (λ _. gives_some precision_unsaid)

  -- ---- types

  not_varying : {without low high n : ℕ} {ws rest : List Word} → SpellsSize m without low high n ws rest → Below follows 10 rest → sees k.Varying ws ≡ false
  not_varying {ws = ws} size_unsaid s = passes follows 10 k.Varying ws s (lit≤ tt)
  not_varying {ws = ws} (size (bracketed lt l n r)) s = sees_other k.Varying k.LeftParen ws (peek_at l) refl

  pub type_at : {x : SqlType} {ws rest : List Word} → SpellsType m x ws rest → Below follows 10 rest → parse.sql_type m ws ≡ Some (x, rest)
  unfolding parse.sql_type parse.character
  type_at (character {a = a} (character_word t) n) s = let v = not_varying n s in rw (peek_at t, next_at t, v, after_not k.Varying a v, size_at n s)
  type_at (character {a = a} (char_word t) n) s = let v = not_varying n s in rw (peek_at t, next_at t, v, after_not k.Varying a v, size_at n s)
  type_at (varchar t b) s = rw (peek_at t, next_at t, bracketed_at b)
  type_at (varying (character_word t) v b) s = rw (peek_at t, next_at t, sees_at v, after_at v, bracketed_at b)
  type_at (varying (char_word t) v b) s = rw (peek_at t, next_at t, sees_at v, after_at v, bracketed_at b)
  type_at (numeric t p) s = rw (peek_at t, next_at t, precision_at p s)
  type_at (decimal (decimal_word t) p) s = rw (peek_at t, next_at t, precision_at p s)
  type_at (decimal (dec_word t) p) s = rw (peek_at t, next_at t, precision_at p s)
  type_at (smallint t) s = rw (peek_at t, next_at t)
  type_at (integer t) s = rw (peek_at t, next_at t)
  type_at (int t) s = rw (peek_at t, next_at t)
  type_at (bigint t) s = rw (peek_at t, next_at t)
  type_at (boolean t) s = rw (peek_at t, next_at t)
  type_at (date t) s = rw (peek_at t, next_at t)
  type_at (time t n) s = rw (peek_at t, next_at t, size_at n s)
  type_at (timestamp t n) s = rw (peek_at t, next_at t, size_at n s)

  gives_character : {ws a : List Word} → SpellsCharacterWord ws a → Gives (parse.character m a) (λ x rest. SpellsType m x ws rest)
  unfolding parse.character
  gives_character w = gives_eat k.Varying tt _ _
      (λ v. gives_then gives_bracketed (λ n rest b. gives_some (varying w v b)))
      (λ e. rw e (gives_then gives_size (λ n rest b. gives_some (character w b))))

  type_sound_by : (ws : List Word) (kind : Kind) → peek ws ≡ kind → Gives (parse.type_by m kind ws) (λ x rest. SpellsType m x ws rest)
  type_sound_by ws k.Character e = gives_character (character_word (token_next k.Character tt e))
  type_sound_by ws k.Char e = gives_character (char_word (token_next k.Char tt e))
  type_sound_by ws k.Varchar e = gives_then gives_bracketed (λ n rest b. gives_some (varchar (token_next k.Varchar tt e) b))
  type_sound_by ws k.Numeric e = gives_then gives_precision (λ p rest b. gives_some (numeric (token_next k.Numeric tt e) b))
  type_sound_by ws k.Decimal e = gives_then gives_precision (λ p rest b. gives_some (decimal (decimal_word (token_next k.Decimal tt e)) b))
  type_sound_by ws k.Dec e = gives_then gives_precision (λ p rest b. gives_some (decimal (dec_word (token_next k.Dec tt e)) b))
  type_sound_by ws k.Smallint e = gives_some (smallint (token_next k.Smallint tt e))
  type_sound_by ws k.Integer e = gives_some (integer (token_next k.Integer tt e))
  type_sound_by ws k.Int e = gives_some (int (token_next k.Int tt e))
  type_sound_by ws k.Bigint e = gives_some (bigint (token_next k.Bigint tt e))
  type_sound_by ws k.Boolean e = gives_some (boolean (token_next k.Boolean tt e))
  type_sound_by ws k.Date e = gives_some (date (token_next k.Date tt e))
  type_sound_by ws k.Time e = gives_then gives_size (λ n rest b. gives_some (time (token_next k.Time tt e) b))
  type_sound_by ws k.Timestamp e = gives_then gives_size (λ n rest b. gives_some (timestamp (token_next k.Timestamp tt e) b))
  type_sound_by ws _ e = gives_none

  pub gives_type : {ws : List Word} → Gives (parse.sql_type m ws) (λ x rest. SpellsType m x ws rest)
  unfolding parse.sql_type
  gives_type {ws} = type_sound_by ws (peek ws) refl

-- ---- defaults

pub special_at : {s : Special} {ws rest : List Word} → SpellsSpecial s ws rest → (parse.special_by (peek ws) ≡ Some s) × (next ws ≡ rest)
special_at (current_user t) = (ap parse.special_by (peek_at t), next_at t)
special_at (current_date t) = (ap parse.special_by (peek_at t), next_at t)
special_at (current_time t) = (ap parse.special_by (peek_at t), next_at t)
special_at (current_timestamp t) = (ap parse.special_by (peek_at t), next_at t)

pub special_sound : (ws : List Word) (kind : Kind) → peek ws ≡ kind → (s : Special) → parse.special_by kind ≡ Some s → SpellsSpecial s ws (next ws)
special_sound ws k.CurrentUser e s h = let q : specials.CurrentUser ≡ s = cc in subst (λ z. SpellsSpecial z ws (next ws)) q (current_user (token_next k.CurrentUser tt e))
special_sound ws k.CurrentDate e s h = let q : specials.CurrentDate ≡ s = cc in subst (λ z. SpellsSpecial z ws (next ws)) q (current_date (token_next k.CurrentDate tt e))
special_sound ws k.CurrentTime e s h = let q : specials.CurrentTime ≡ s = cc in subst (λ z. SpellsSpecial z ws (next ws)) q (current_time (token_next k.CurrentTime tt e))
special_sound ws k.CurrentTimestamp e s h = let q : specials.CurrentTimestamp ≡ s = cc in subst (λ z. SpellsSpecial z ws (next ws)) q (current_timestamp (token_next k.CurrentTimestamp tt e))
special_sound ws _ e s h = cc

-- the other words
word_at : {x : Default} {ws rest : List Word} (it : Kind) → Token it ws rest → sees k.Literal ws ≡ false → sees k.MinusSign ws ≡ false → sees k.Number ws ≡ false
    → parse.default_word it ws ≡ Some (x, next ws) → parse.default ws ≡ Some (x, rest)
unfolding parse.default parse.unsigned_default
word_at {x} {ws} {rest} it t a b c e = rw (a, b, after_not k.MinusSign ws b, c, peek_at t) (e ∙ ap (λ l. Some (x, l)) (next_at t))

pub default_at : {x : Default} {ws rest : List Word} → SpellsDefault x ws rest → parse.default ws ≡ Some (x, rest)
unfolding parse.default parse.unsigned_default
default_at (literal s) = rw (sees_spelled s, text_at s)
default_at {ws = ws} (number absent s) =
    let a = sees_other k.Literal k.Number ws (peek_spelled s) refl in
    let b = sees_other k.MinusSign k.Number ws (peek_spelled s) refl in
    rw (a, b, after_not k.MinusSign ws b, sees_spelled s, text_at s)
default_at {ws = ws} (number (present t) s) = rw (sees_other k.Literal k.MinusSign ws (peek_at t) refl, sees_at t, after_at t, text_at s)
default_at {ws = ws} (true_word t) = word_at k.True t (sees_other k.Literal k.True ws (peek_at t) refl) (sees_other k.MinusSign k.True ws (peek_at t) refl) (sees_other k.Number k.True ws (peek_at t) refl) refl
default_at {ws = ws} (false_word t) = word_at k.False t (sees_other k.Literal k.False ws (peek_at t) refl) (sees_other k.MinusSign k.False ws (peek_at t) refl) (sees_other k.Number k.False ws (peek_at t) refl) refl
default_at {ws = ws} (null t) = word_at k.Null t (sees_other k.Literal k.Null ws (peek_at t) refl) (sees_other k.MinusSign k.Null ws (peek_at t) refl) (sees_other k.Number k.Null ws (peek_at t) refl) refl
default_at {ws = ws} (special (current_user t)) = word_at k.CurrentUser t (sees_other k.Literal k.CurrentUser ws (peek_at t) refl) (sees_other k.MinusSign k.CurrentUser ws (peek_at t) refl) (sees_other k.Number k.CurrentUser ws (peek_at t) refl) refl
default_at {ws = ws} (special (current_date t)) = word_at k.CurrentDate t (sees_other k.Literal k.CurrentDate ws (peek_at t) refl) (sees_other k.MinusSign k.CurrentDate ws (peek_at t) refl) (sees_other k.Number k.CurrentDate ws (peek_at t) refl) refl
default_at {ws = ws} (special (current_time t)) = word_at k.CurrentTime t (sees_other k.Literal k.CurrentTime ws (peek_at t) refl) (sees_other k.MinusSign k.CurrentTime ws (peek_at t) refl) (sees_other k.Number k.CurrentTime ws (peek_at t) refl) refl
default_at {ws = ws} (special (current_timestamp t)) = word_at k.CurrentTimestamp t (sees_other k.Literal k.CurrentTimestamp ws (peek_at t) refl) (sees_other k.MinusSign k.CurrentTimestamp ws (peek_at t) refl) (sees_other k.Number k.CurrentTimestamp ws (peek_at t) refl) refl

default_word_sound : (ws : List Word) (kind : Kind) → peek ws ≡ kind → Gives (parse.default_word kind ws) (λ x rest. SpellsDefault x ws rest)
default_word_sound ws k.True e = gives_some (true_word (token_next k.True tt e))
default_word_sound ws k.False e = gives_some (false_word (token_next k.False tt e))
default_word_sound ws k.Null e = gives_some (null (token_next k.Null tt e))
default_word_sound ws k.CurrentUser e = gives_some (special (current_user (token_next k.CurrentUser tt e)))
default_word_sound ws k.CurrentDate e = gives_some (special (current_date (token_next k.CurrentDate tt e)))
default_word_sound ws k.CurrentTime e = gives_some (special (current_time (token_next k.CurrentTime tt e)))
default_word_sound ws k.CurrentTimestamp e = gives_some (special (current_timestamp (token_next k.CurrentTimestamp tt e)))
default_word_sound ws _ e = gives_none

unsigned_sound : (ws : List Word) → Gives (parse.unsigned_default ws) (λ x rest. SpellsDefault x ws rest)
unfolding parse.unsigned_default
unsigned_sound ws = gives_if (sees k.Number ws)
    (λ _. gives_then (gives_text k.Number tt) (λ t rest s. gives_some (number absent s)))
    (λ _. default_word_sound ws (peek ws) refl)

pub gives_default : {ws : List Word} → Gives (parse.default ws) (λ x rest. SpellsDefault x ws rest)
unfolding parse.default
gives_default {ws} = gives_if (sees k.Literal ws)
    (λ _. gives_then (gives_text k.Literal tt) (λ t rest s. gives_some (literal s)))
    (λ _. gives_eat k.MinusSign tt _ _
    (λ m. gives_then (gives_text k.Number tt) (λ t rest s. gives_some (number (present m) s)))
    (λ e. rw e (unsigned_sound ws)))
