-- What is proved of one element holds of a list.
use Rattle.std.proofs.Common.{◌≡◌, ℕ, zero, suc, ◌<◌, ◌≤◌, Bool, true, false, List, [], ◌∷◌, ◌++◌, length, Option, Some, None, refl, sym, ap, ◌∙◌, subst, arith, append_assoc, append-nil}
use Rattle.std.specs.Prelude.{if◌then◌else◌}
use Rattle.std.proofs.lemmas.Option.{some_pair_parts}
use Rattle.sql_words.specs.Kinds.{text_of}
use Rattle.sql_words.specs.declared.word.Word.{Word}
use Rattle.sql_spelling.specs.declared.kind.Kind.{Kind}
use Rattle.sql_spelling.specs.declared.kind.Kind.TheVariants as k
use Rattle.sql_phrases.specs.Reading.{peek, next, spelling, sees, after}
use Rattle.sql_phrases.specs.Shapes.{Spelled, Token, token, SpellsText, spells, Separated, one, more, Repeated, no_more, again, Optional, left_out, said}
use Rattle.sql_phrases.specs.Parsers as parse
use Rattle.sql_phrases.specs.Parsers.{Parser, Outcome, and_then, separated, separated_from, repeated, repeated_from, optional, eat, expect}
use Rattle.sql_phrases.proofs.Follow.{Below, below_at, below_more, sees_yes, passes, Begins, begins, begins_at}

-- ---- what is read

-- where the outcome is a value and the words after it, they meet Q
pub record Gives {A : Type 0} (o : Outcome A) (Q : A → List Word → Type 0) : Type 0 where
  pub given : (x : A) (a : List Word) → o ≡ Some (x, a) → Q x a

pub gives_none : {A : Type 0} {Q : A → List Word → Type 0} → Gives None Q
gives_none = record { given = λ x a e. cc }

pub gives_some : {A : Type 0} {x : A} {a : List Word} {Q : A → List Word → Type 0} → Q x a → Gives (Some (x, a)) Q
gives_some {x = x} {a = a} {Q = Q} q = record { given = λ y b e. let s = some_pair_parts x y a b e in subst (λ z. Q z b) s.0 (subst (λ l. Q x l) s.1 q) }

and_then_given : {A B : Type 0} (o : Outcome A) (f : A → Parser B) (y : B) (b : List Word) → and_then o f ≡ Some (y, b) → (x : A) × (a : List Word) × (o ≡ Some (x, a)) × (f x a ≡ Some (y, b))
and_then_given None f y b e = cc
and_then_given (Some p) f y b e = (p.0, p.1, refl, e)

pub gives_then : {A B : Type 0} {o : Outcome A} {f : A → Parser B} {P : A → List Word → Type 0} {Q : B → List Word → Type 0} → Gives o P → ((x : A) (a : List Word) → P x a → Gives (f x a) Q) → Gives (and_then o f) Q
gives_then {o = o} {f = f} g h = record { given = λ y b e. let t = and_then_given o f y b e in (h t.0 t.1 (g.given t.0 t.1 t.2)).given y b t.3 }

pub gives_weaker : {A : Type 0} {o : Outcome A} {P Q : A → List Word → Type 0} → Gives o P → ((x : A) (a : List Word) → P x a → Q x a) → Gives o Q
gives_weaker g h = record { given = λ x a e. h x a (g.given x a e) }

pub gives_if : {A : Type 0} (t : Bool) {x y : Outcome A} {Q : A → List Word → Type 0} → (t ≡ true → Gives x Q) → (t ≡ false → Gives y Q) → Gives (if t then x else y) Q
gives_if true h g = h refl
gives_if false h g = g refl

gives_case : {A : Type 0} (t : Bool) {o : Outcome A} {Q : A → List Word → Type 0} → (t ≡ true → Gives o Q) → (t ≡ false → Gives o Q) → Gives o Q
gives_case true h g = h refl
gives_case false h g = g refl

pub gives_when : {A : Type 0} (t : Bool) (p q : Parser A) {ws : List Word} {Q : A → List Word → Type 0} → (t ≡ true → Gives (p ws) Q) → (t ≡ false → Gives (q ws) Q) → Gives ((if t then p else q) ws) Q
gives_when true p q h g = h refl
gives_when false p q h g = g refl

token_from : (by : Kind) (ws : List Word) → Begins by ws → Token by ws (next ws)
token_from by ws b = subst (λ l. Token by l (next ws)) (sym b.list) (token b.kind)

spells_from : (by : Kind) (ws : List Word) → Begins by ws → SpellsText by (spelling ws) ws (next ws)
spells_from by ws b = subst (λ t. SpellsText by t ws (next ws)) (sym b.text) (subst (λ l. SpellsText by (text_of b.word) l (next ws)) (sym b.list) (spells b.kind))

after_is : (by : Kind) (ws : List Word) → sees by ws ≡ true → after by ws ≡ next ws
unfolding after
after_is by ws e = rw e

pub after_not : (by : Kind) (ws : List Word) → sees by ws ≡ false → after by ws ≡ ws
unfolding after
after_not by ws e = rw e

abbrev pub IsWord : Kind → Type 0
IsWord k.EndOfText = ⊥
IsWord _ = Unit {0}

module _ (by : Kind) (some : IsWord by) {ws : List Word} where
  pub token_seen : sees by ws ≡ true → Token by ws (next ws)
  token_seen e = token_from by ws (begins by (λ w. subst IsWord (sym w) some) ws e)

  pub spells_seen : sees by ws ≡ true → SpellsText by (spelling ws) ws (next ws)
  spells_seen e = spells_from by ws (begins by (λ w. subst IsWord (sym w) some) ws e)

  pub token_next : peek ws ≡ by → Token by ws (next ws)
  token_next e = token_from by ws (begins_at by (λ w. subst IsWord (sym w) some) ws e)

  pub spells_at : peek ws ≡ by → SpellsText by (spelling ws) ws (next ws)
  spells_at e = spells_from by ws (begins_at by (λ w. subst IsWord (sym w) some) ws e)

  pub gives_eat : {A : Type 0} (p q : Parser A) {Q : A → List Word → Type 0} → (Token by ws (after by ws) → Gives (p (after by ws)) Q) → (after by ws ≡ ws → Gives (q (after by ws)) Q) → Gives ((if sees by ws then p else q) (after by ws)) Q
  gives_eat p q h g = gives_when (sees by ws) p q (λ e. h (subst (λ l. Token by ws l) (sym (after_is by ws e)) (token_seen e))) (λ e. g (after_not by ws e))

  -- where the word may be there or not, and either way reading goes on
  pub gives_ate : {A : Type 0} {o : Outcome A} {Q : A → List Word → Type 0} → (Token by ws (after by ws) → Gives o Q) → (after by ws ≡ ws → Gives o Q) → Gives o Q
  gives_ate h g = gives_case (sees by ws) (λ e. h (subst (λ l. Token by ws l) (sym (after_is by ws e)) (token_seen e))) (λ e. g (after_not by ws e))

  pub gives_expect : Gives (expect by ws) (λ _ a. Token by ws a)
  unfolding expect
  gives_expect = gives_if (sees by ws) (λ e. gives_some (token_seen e)) (λ _. gives_none)

  pub gives_text : Gives (parse.text by ws) (λ t a. SpellsText by t ws a)
  unfolding parse.text
  gives_text = gives_if (sees by ws) (λ e. gives_some (spells_seen e)) (λ _. gives_none)

-- ---- what must be read

pub expect_at : {by : Kind} {ws a : List Word} → Token by ws a → expect by ws ≡ Some (tt, a)
unfolding expect
expect_at {by} (token {w = w} {rest = rest} h) = rw (sees_yes by w rest h)

pub text_at : {by : Kind} {t : List ℕ} {ws a : List Word} → SpellsText by t ws a → parse.text by ws ≡ Some (t, a)
unfolding parse.text
text_at {by} (spells {w = w} {rest = rest} h) = rw (sees_yes by w rest h)

pub sees_at : {by : Kind} {ws a : List Word} → Token by ws a → sees by ws ≡ true
sees_at {by} (token {w = w} {rest = rest} h) = sees_yes by w rest h

pub next_at : {by : Kind} {ws a : List Word} → Token by ws a → next ws ≡ a
next_at (token h) = refl

pub after_at : {by : Kind} {ws a : List Word} → Token by ws a → after by ws ≡ a
after_at {by} (token {w = w} {rest = rest} h) = after_is by (w ∷ rest) (sees_yes by w rest h)

pub peek_at : {by : Kind} {ws a : List Word} → Token by ws a → peek ws ≡ by
peek_at (token h) = h

pub peek_spelled : {by : Kind} {t : List ℕ} {ws a : List Word} → SpellsText by t ws a → peek ws ≡ by
peek_spelled (spells h) = h

pub next_spelled : {by : Kind} {t : List ℕ} {ws a : List Word} → SpellsText by t ws a → next ws ≡ a
next_spelled (spells h) = refl

pub spelling_at : {by : Kind} {t : List ℕ} {ws a : List Word} → SpellsText by t ws a → spelling ws ≡ t
spelling_at (spells h) = refl

pub sees_spelled : {by : Kind} {t : List ℕ} {ws a : List Word} → SpellsText by t ws a → sees by ws ≡ true
sees_spelled {by} (spells {w = w} {rest = rest} h) = sees_yes by w rest h

pub below_spelled : {by : Kind} {t : List ℕ} {ws a : List Word} (f : Kind → ℕ) (b : ℕ) → SpellsText by t ws a → f by < b → Below f b ws
below_spelled {by} f b (spells {w = w} {rest = rest} h) lt = below_at f b by w rest h lt

pub below_token : {by : Kind} {ws a : List Word} (f : Kind → ℕ) (b : ℕ) → Token by ws a → f by < b → Below f b ws
below_token {by} f b (token {w = w} {rest = rest} h) lt = below_at f b by w rest h lt

pub shorter_token : {by : Kind} {ws a : List Word} → Token by ws a → length a < length ws
shorter_token (token h) = omega arith

pub shorter_spelled : {by : Kind} {t : List ℕ} {ws a : List Word} → SpellsText by t ws a → length a < length ws
shorter_spelled (spells h) = omega arith

-- ---- lists

-- What a parser reads is spelled so, and all that is spelled so is read where the words after it stop.
pub record Parses (f : Kind → ℕ) {A : Type 0} (p : Parser A) (R : Spelled A) (b : ℕ) : Type 0 where
  pub sound : (ws : List Word) → Gives (p ws) (λ x rest. R x ws rest)
  pub complete : (x : A) (ws rest : List Word) → R x ws rest → Below f b rest → p ws ≡ Some (x, rest)
  pub shorter : (x : A) (ws rest : List Word) → R x ws rest → length rest < length ws

module _ (f : Kind → ℕ) {A : Type 0} (by : Kind) (some : IsWord by) (p : Parser A) (R : Spelled A) (b : ℕ) (tight : f by < b) (c : Parses f p R b) where
  none_from : (n : ℕ) (ws : List Word) → p ws ≡ None → separated_from by p n [] ws ≡ None
  unfolding separated_from
  none_from zero ws e = refl
  none_from (suc n) ws e = rw e

  complete_from : (n : ℕ) (found xs : List A) (ws rest : List Word) → Separated by R xs ws rest → length ws ≤ n → Below f (f by) rest
      → separated_from by p n found ws ≡ Some (found ++ xs, rest)
  unfolding separated_from
  complete_from zero found xs ws rest (one r) fits s = absurd (omega (arith, c.shorter _ ws rest r))
  complete_from zero found xs ws rest (more {a = a} r t m) fits s = absurd (omega (arith, c.shorter _ ws a r))
  complete_from (suc n) found xs ws rest (one {x = x} r) fits s =
      rw (c.complete x ws rest r (below_more f (f by) b rest s (omega (arith, tight))), passes f (f by) by rest s (omega arith), after_not by rest (passes f (f by) by rest s (omega arith)))
  complete_from (suc n) found xs ws rest (more {x = x} {xs = ys} {a = a} {b = d} r t m) fits s =
      rw (c.complete x ws a r (below_token f b t tight), sees_at t, after_at t)
      (complete_from n (found ++ x ∷ []) ys d rest m (omega (arith, c.shorter x ws a r, shorter_token t)) s ∙ ap (λ l. Some (l, rest)) (append_assoc found (x ∷ []) ys))

  pub separated_none : (ws : List Word) → p ws ≡ None → separated by p ws ≡ None
  unfolding separated
  separated_none ws e = none_from (length ws) ws e

  separated_shorter : (xs : List A) (ws rest : List Word) → Separated by R xs ws rest → length rest < length ws
  separated_shorter xs ws rest (one r) = c.shorter _ ws rest r
  separated_shorter xs ws rest (more {xs = ys} {a = a} {b = d} r t m) = omega (arith, c.shorter _ ws a r, shorter_token t, separated_shorter ys d rest m)

  -- the elements after the first ones
  abbrev Goes : List A → List Word → List A → List Word → Type 0
  Goes found ws all rest = (xs : List A) × (all ≡ found ++ xs) × Separated by R xs ws rest

  sound_from : (n : ℕ) (found : List A) (ws : List Word) → Gives (separated_from by p n found ws) (Goes found ws)
  unfolding separated_from
  sound_from zero found ws = gives_none
  sound_from (suc n) found ws =
      gives_then (c.sound ws) (λ x a r. gives_eat by some _ _
      (λ t. gives_weaker (sound_from n (found ++ x ∷ []) (after by a)) (λ all rest g. (x ∷ g.0, g.1 ∙ append_assoc found (x ∷ []) g.0, more r t g.2)))
      (λ e. rw e (gives_some (x ∷ [], refl, one r))))

  pub separated_parses : Parses f (separated by p) (Separated by R) (f by)
  unfolding separated
  separated_parses = record {
    sound = λ ws. gives_weaker (sound_from (length ws) [] ws) (λ all rest g. subst (λ xs. Separated by R xs ws rest) (sym g.1) g.2);
    complete = λ xs ws rest m s. complete_from (length ws) [] xs ws rest m (omega arith) s;
    shorter = separated_shorter;
  }

pub separated_begins : {A : Type 0} {by : Kind} {R : Spelled A} (Q : List Word → Type 0) → ((x : A) (ws rest : List Word) → R x ws rest → Q ws) → (xs : List A) (ws rest : List Word) → Separated by R xs ws rest → Q ws
separated_begins Q f xs ws rest (one {x = x} r) = f x ws rest r
separated_begins Q f xs ws rest (more {x = x} {a = a} r t m) = f x ws a r

-- {x}: `starts` tells whether one more comes
module _ (f : Kind → ℕ) {A : Type 0} (starts : Kind → Bool) (least : ℕ) (p : Parser A) (R : Spelled A) (b : ℕ) (c : Parses f p R b)
    (begun : (x : A) (ws rest : List Word) → R x ws rest → starts (peek ws) ≡ true)
    (over : (ws : List Word) → Below f least ws → starts (peek ws) ≡ false)
    (apart : (x : A) (ws rest : List Word) → R x ws rest → Below f b ws) (tight : least ≤ b) where
  pub below_repeated : (xs : List A) (ws rest : List Word) → Repeated R xs ws rest → Below f least rest → Below f b ws
  below_repeated xs ws rest (no_more) s = record { below = omega (arith, s.below) }
  below_repeated xs ws rest (again {x = x} {a = a} r m) s = apart x ws a r

  repeated_complete_from : (n : ℕ) (found xs : List A) (ws rest : List Word) → Repeated R xs ws rest → length ws ≤ n → Below f least rest → repeated_from starts p n found ws ≡ Some (found ++ xs, rest)
  unfolding repeated_from
  repeated_complete_from zero found xs ws rest no_more fits s = rw append-nil
  repeated_complete_from zero found xs ws rest (again {a = a} r m) fits s = absurd (omega (arith, c.shorter _ ws a r))
  repeated_complete_from (suc n) found xs ws rest no_more fits s = rw (over ws s, append-nil)
  repeated_complete_from (suc n) found xs ws rest (again {x = x} {xs = ys} {a = a} r m) fits s =
      rw (begun x ws a r, c.complete x ws a r (below_repeated ys a rest m s))
      (repeated_complete_from n (found ++ x ∷ []) ys a rest m (omega (arith, c.shorter x ws a r)) s ∙ ap (λ l. Some (l, rest)) (append_assoc found (x ∷ []) ys))

  pub repeated_shorter : (xs : List A) (ws rest : List Word) → Repeated R xs ws rest → length rest ≤ length ws
  repeated_shorter xs ws rest no_more = omega arith
  repeated_shorter xs ws rest (again {xs = ys} {a = a} r m) = omega (arith, c.shorter _ ws a r, repeated_shorter ys a rest m)

  abbrev Runs : List A → List Word → List A → List Word → Type 0
  Runs found ws all rest = (xs : List A) × (all ≡ found ++ xs) × Repeated R xs ws rest

  repeated_sound_from : (n : ℕ) (found : List A) (ws : List Word) → Gives (repeated_from starts p n found ws) (Runs found ws)
  unfolding repeated_from
  repeated_sound_from zero found ws = gives_some ([], sym (append-nil found), no_more)
  repeated_sound_from (suc n) found ws =
      gives_if (starts (peek ws))
      (λ _. gives_then (c.sound ws) (λ x a r. gives_weaker (repeated_sound_from n (found ++ x ∷ []) a) (λ all rest g. (x ∷ g.0, g.1 ∙ append_assoc found (x ∷ []) g.0, again r g.2))))
      (λ _. gives_some ([], sym (append-nil found), no_more))

  pub repeated_complete : (xs : List A) (ws rest : List Word) → Repeated R xs ws rest → Below f least rest → repeated starts p ws ≡ Some (xs, rest)
  unfolding repeated
  repeated_complete xs ws rest m s = repeated_complete_from (length ws) [] xs ws rest m (omega arith) s

  pub repeated_sound : (ws : List Word) → Gives (repeated starts p ws) (λ xs rest. Repeated R xs ws rest)
  unfolding repeated
  repeated_sound ws = gives_weaker (repeated_sound_from (length ws) [] ws) (λ all rest g. subst (λ xs. Repeated R xs ws rest) (sym g.1) g.2)

-- ---- what stands after a word

pub optional_complete : {A : Type 0} (by : Kind) (p : Parser A) (R : Spelled A) (x : Option A) (ws rest : List Word) → Optional by R x ws rest → sees by rest ≡ false
    → ((y : A) (a : List Word) → R y a rest → p a ≡ Some (y, rest)) → optional by p ws ≡ Some (x, rest)
unfolding optional
optional_complete by p R x ws rest left_out e at = rw (e, after_not by ws e)
optional_complete by p R x ws rest (said {x = y} {a = a} t r) e at = rw (sees_at t, after_at t, at y a r)

pub optional_sound : {A : Type 0} (by : Kind) (some : IsWord by) (p : Parser A) (R : Spelled A) → ((a : List Word) → Gives (p a) (λ x rest. R x a rest)) → (ws : List Word)
    → Gives (optional by p ws) (λ x rest. Optional by R x ws rest)
unfolding optional
optional_sound by some p R s ws = gives_eat by some _ _ (λ t. gives_then (s (after by ws)) (λ x a r. gives_some (said t r))) (λ e. rw e (gives_some left_out))

pub optional_below : {A : Type 0} (f : Kind → ℕ) (b : ℕ) (by : Kind) (R : Spelled A) (x : Option A) (ws rest : List Word) → Optional by R x ws rest → Below f b rest → f by < b → Below f b ws
optional_below f b by R x ws rest left_out s lt = s
optional_below f b by R x ws rest (said t r) s lt = below_token f b t lt
