-- Counting the open brackets of words.
use Rattle.std.proofs.Common.{◌≡◌, ◌<◌, ◌≤◌, ◌+◌, ◌-◌, ℕ, zero, suc, Bool, true, List, [], ◌∷◌, ◌++◌, Option, refl, sym, ap, ◌∙◌, arith, append_assoc}
use Rattle.std.specs.Prelude.{max}
use Rattle.std.proofs.Math.Nat.{le-max_left}
use Rattle.sql_spelling.specs.Kinds.{is_name, same_kind}
use Rattle.sql_words.specs.Kinds.{kind_of}
use Rattle.sql_spelling.specs.declared.kind.Kind.{Kind}
use Rattle.sql_spelling.specs.declared.kind.Kind.TheVariants as k
use Rattle.sql_words.specs.declared.word.Word.{Word}
use Rattle.sql_phrases.specs.Shapes.{Spelled, Token, token, SpellsText, spells, Separated, one, more, Repeated, no_more, again, Optional, left_out, said, Marked, absent, present}
use Rattle.sql_phrases.specs.NameRules.{SpellsIdentifier, identifier, SpellsIdentifiers}
use Rattle.sql_expressions.specs.Depth.{open_after, open_behind, most_open}

behind_append : (n : ℕ) (f g : List Word) → open_behind n (f ++ g) ≡ open_behind (open_behind n f) g
behind_append n [] g = refl
behind_append n (w ∷ f) g = behind_append (open_after (kind_of w) n) f g

at_least : (n : ℕ) (f : List Word) → n ≤ most_open n f
at_least n [] = omega arith
at_least n (w ∷ f) = le-max_left n (most_open (open_after (kind_of w) n) f)

most_append : (n : ℕ) (f g : List Word) → most_open n (f ++ g) ≡ max (most_open n f) (most_open (open_behind n f) g)
most_append n [] g = omega (arith, at_least n g)
most_append n (w ∷ f) g = omega (arith, most_append (open_after (kind_of w) n) f g)

-- between these words brackets are closed that are opened, and at most this many are open
pub record Peak (deep : ℕ) (ws rest : List Word) : Type 0 where
  pub front : List Word
  pub splits : ws ≡ front ++ rest
  pub closes : (n : ℕ) → open_behind n front ≡ n
  pub most : (n : ℕ) → most_open n front ≡ n + deep

pub peak_none : {ws : List Word} → Peak 0 ws ws
peak_none = record { front = []; splits = refl; closes = λ n. refl; most = λ n. omega arith }

pub peak_then : {c d : ℕ} {ws a rest : List Word} → Peak c ws a → Peak d a rest → Peak (max c d) ws rest
peak_then {c} {d} {ws} {a} {rest} p q = record {
  front = p.front ++ q.front;
  splits = p.splits ∙ ap (λ l. p.front ++ l) q.splits ∙ sym (append_assoc p.front q.front rest);
  closes = λ n. behind_append n p.front q.front ∙ ap (λ m. open_behind m q.front) (p.closes n) ∙ q.closes n;
  most = λ n. let e : most_open (open_behind n p.front) q.front ≡ n + d = ap (λ m. most_open m q.front) (p.closes n) ∙ q.most n in omega (arith, most_append n p.front q.front, p.most n, e);
}

pub flat_then : {ws a rest : List Word} → Peak 0 ws a → Peak 0 a rest → Peak 0 ws rest
flat_then p q = peak_then p q

peak_word : (w : Word) (rest : List Word) → ((n : ℕ) → open_after (kind_of w) n ≡ n) → Peak 0 (w ∷ rest) rest
peak_word w rest keeps = record { front = w ∷ []; splits = refl; closes = keeps; most = λ n. omega (arith, keeps n) }

-- a word that is no bracket: the last argument is `λ n. refl`
pub peak_token : {by : Kind} {ws rest : List Word} → Token by ws rest → ((n : ℕ) → open_after by n ≡ n) → Peak 0 ws rest
peak_token (token {w = w} {rest = rest} h) keeps = peak_word w rest (λ n. ap (λ kind. open_after kind n) h ∙ keeps n)

pub peak_spelled : {by : Kind} {t : List ℕ} {ws rest : List Word} → SpellsText by t ws rest → ((n : ℕ) → open_after by n ≡ n) → Peak 0 ws rest
peak_spelled (spells {w = w} {rest = rest} h) keeps = peak_word w rest (λ n. ap (λ kind. open_after kind n) h ∙ keeps n)

pub peak_marked : {by : Kind} {said : Bool} {ws rest : List Word} → Marked by said ws rest → ((n : ℕ) → open_after by n ≡ n) → Peak 0 ws rest
peak_marked absent keeps = peak_none
peak_marked (present t) keeps = peak_token t keeps

name_keeps : (kind : Kind) → is_name kind ≡ true → (n : ℕ) → open_after kind n ≡ n
unfolding is_name same_kind
name_keeps k.LeftParen e n = cc
name_keeps k.Case e n = cc
name_keeps k.Begin e n = cc
name_keeps k.RightParen e n = cc
name_keeps k.End e n = cc
name_keeps _ e n = refl

pub peak_identifier : {t : List ℕ} {ws rest : List Word} → SpellsIdentifier t ws rest → Peak 0 ws rest
peak_identifier (identifier {w = w} {rest = rest} h is) = peak_word w rest (name_keeps (kind_of w) h)

module _ {A : Type 0} (R : Spelled A) (f : (x : A) (ws rest : List Word) → R x ws rest → Peak 0 ws rest) where
  pub peak_separated : {by : Kind} → ((n : ℕ) → open_after by n ≡ n) → {xs : List A} {ws rest : List Word} → Separated by R xs ws rest → Peak 0 ws rest
  peak_separated keeps {ws = ws} {rest = rest} (one {x = x} r) = f x ws rest r
  peak_separated keeps {ws = ws} (more {x = x} {a = a} r t s) = flat_then (f x ws a r) (flat_then (peak_token t keeps) (peak_separated keeps s))

  pub peak_optional : {by : Kind} → ((n : ℕ) → open_after by n ≡ n) → {x : Option A} {ws rest : List Word} → Optional by R x ws rest → Peak 0 ws rest
  peak_optional keeps left_out = peak_none
  peak_optional keeps {rest = rest} (said {x = x} {a = a} t r) = flat_then (peak_token t keeps) (f x a rest r)

pub peak_identifiers : {ns : List (List ℕ)} {ws rest : List Word} → SpellsIdentifiers ns ws rest → Peak 0 ws rest
peak_identifiers s = peak_separated SpellsIdentifier (λ n ws rest i. peak_identifier i) (λ n. refl) s

-- a bracket, what stands in it, and its end
pub peak_bracket : {first last : Kind} {c : ℕ} {ws a b rest : List Word} → Token first ws a → Peak c a b → Token last b rest → ((n : ℕ) → open_after first n ≡ suc n)
    → ((n : ℕ) → open_after last (suc n) ≡ n) → Peak (suc c) ws rest
peak_bracket {c = c} (token {w = u} {rest = a} h) p (token {w = x} {rest = rest} i) opens closes =
    let before : (n : ℕ) → open_after (kind_of u) n ≡ suc n = λ n. ap (λ kind. open_after kind n) h ∙ opens n in
    let behind : (n : ℕ) → open_after (kind_of x) (suc n) ≡ n = λ n. ap (λ kind. open_after kind (suc n)) i ∙ closes n in
    let inside : (n : ℕ) → open_behind (open_after (kind_of u) n) p.front ≡ suc n = λ n. p.closes (open_after (kind_of u) n) ∙ before n in
    record {
      front = u ∷ (p.front ++ x ∷ []);
      splits = ap (λ l. u ∷ l) (p.splits ∙ sym (append_assoc p.front (x ∷ []) rest));
      closes = λ n. behind_append (open_after (kind_of u) n) p.front (x ∷ []) ∙ ap (open_after (kind_of x)) (inside n) ∙ behind n;
      most = λ n. (
          let e = most_append (open_after (kind_of u) n) p.front (x ∷ []) in
          let f : open_after (kind_of x) (open_behind (open_after (kind_of u) n) p.front) ≡ n = ap (open_after (kind_of x)) (inside n) ∙ behind n in
          omega (arith, e, f, inside n, before n, p.most (open_after (kind_of u) n)));
    }

-- What holds of words wherever as many brackets may be open as are.
pub record Deep (most : ℕ) (ws rest : List Word) (R : ℕ → Type 0) : Type 0 where
  pub deep : ℕ
  pub few : deep ≤ most
  pub peak : Peak deep ws rest
  pub still : (n : ℕ) → deep ≤ n → R n

pub deep_more : {m n : ℕ} {ws rest : List Word} {P : ℕ → Type 0} → m ≤ n → Deep m ws rest P → Deep n ws rest P
deep_more le p = record { deep = p.deep; few = omega (arith, le, p.few); peak = p.peak; still = p.still }

pub flat : {m : ℕ} {ws rest : List Word} {P : ℕ → Type 0} → Peak 0 ws rest → ((n : ℕ) → P n) → Deep m ws rest P
flat p x = record { deep = 0; few = omega arith; peak = p; still = λ n le. x n }

pub deep_then : {m : ℕ} {ws a rest : List Word} {P Q : ℕ → Type 0} → Deep m ws a P → Deep m a rest Q → Deep m ws rest (λ n. P n × Q n)
deep_then p q = record {
  deep = max p.deep q.deep;
  few = omega (arith, p.few, q.few);
  peak = peak_then p.peak q.peak;
  still = λ n le. (p.still n (omega (arith, le)), q.still n (omega (arith, le)));
}

pub deep_map : {m : ℕ} {ws rest : List Word} {P Q : ℕ → Type 0} → ((n : ℕ) → P n → Q n) → Deep m ws rest P → Deep m ws rest Q
deep_map f p = record { deep = p.deep; few = p.few; peak = p.peak; still = λ n le. f n (p.still n le) }

deeper : (P : ℕ → Type 0) (d : ℕ) → ((n : ℕ) → d ≤ n → P (suc n)) → (n : ℕ) → suc d ≤ n → (0 < n) × P n
deeper P d f zero le = absurd (omega (arith, le))
deeper P d f (suc n) le = (omega arith, f n (omega (arith, le)))

pub deep_bracket : (P : ℕ → Type 0) {first last : Kind} {m : ℕ} {ws a b rest : List Word} → 0 < m → Token first ws a → Deep (m - 1) a b (λ n. P (suc n)) → Token last b rest
    → ((n : ℕ) → open_after first n ≡ suc n) → ((n : ℕ) → open_after last (suc n) ≡ n) → Deep m ws rest (λ n. (0 < n) × P n)
deep_bracket P lt o p c opens closes = record {
  deep = suc p.deep;
  few = omega (arith, p.few, lt);
  peak = peak_bracket o p.peak c opens closes;
  still = deeper P p.deep p.still;
}

pub closed : (n : ℕ) → suc n - 1 ≡ n
closed n = omega arith

-- '(' and ')'
pub deep_paren : (P : ℕ → Type 0) {m : ℕ} {ws a b rest : List Word} → 0 < m → Token k.LeftParen ws a → Deep (m - 1) a b (λ n. P (suc n)) → Token k.RightParen b rest
    → Deep m ws rest (λ n. (0 < n) × P n)
deep_paren P lt o p c = deep_bracket P lt o p c (λ n. refl) closed

-- BEGIN and END
pub deep_begin : (P : ℕ → Type 0) {m : ℕ} {ws a b rest : List Word} → 0 < m → Token k.Begin ws a → Deep (m - 1) a b (λ n. P (suc n)) → Token k.End b rest
    → Deep m ws rest (λ n. (0 < n) × P n)
deep_begin P lt o p c = deep_bracket P lt o p c (λ n. refl) closed

-- CASE and END
pub deep_case : (P : ℕ → Type 0) {m : ℕ} {ws a b rest : List Word} → 0 < m → Token k.Case ws a → Deep (m - 1) a b (λ n. P (suc n)) → Token k.End b rest
    → Deep m ws rest (λ n. (0 < n) × P n)
deep_case P lt o p c = deep_bracket P lt o p c (λ n. refl) closed

-- '(' and ')', where one less may be opened between them
pub deep_within : (P : ℕ → Type 0) {m : ℕ} {ws a b rest : List Word} → Token k.LeftParen ws a → Deep m a b P → Token k.RightParen b rest → Deep (suc m) ws rest (λ n. P (n - 1))
deep_within P o p c = record {
  deep = suc p.deep;
  few = omega (arith, p.few);
  peak = peak_bracket o p.peak c (λ n. refl) closed;
  still = λ n le. p.still (n - 1) (omega (arith, le));
}

pub deep_token : {by : Kind} {m : ℕ} {ws rest : List Word} → Token by ws rest → ((n : ℕ) → open_after by n ≡ n) → Deep m ws rest (λ _. Token by ws rest)
deep_token t keeps = flat (peak_token t keeps) (λ _. t)

module _ {A : Type 0} {m : ℕ} (S : Spelled A) (R : ℕ → Spelled A) (f : (x : A) (ws rest : List Word) → S x ws rest → Deep m ws rest (λ n. R n x ws rest)) where
  pub deep_separated : {by : Kind} → ((n : ℕ) → open_after by n ≡ n) → {xs : List A} {ws rest : List Word} → Separated by S xs ws rest → Deep m ws rest (λ n. Separated by (R n) xs ws rest)
  deep_separated keeps {ws = ws} {rest = rest} (one {x = x} r) = deep_map (λ n p. one p) (f x ws rest r)
  deep_separated keeps {ws = ws} {rest = rest} (more {x = x} {a = a} r t s) = deep_map (λ n p. more p.0 p.1.0 p.1.1) (deep_then (f x ws a r) (deep_then (deep_token t keeps) (deep_separated keeps s)))

  pub deep_repeated : {xs : List A} {ws rest : List Word} → Repeated S xs ws rest → Deep m ws rest (λ n. Repeated (R n) xs ws rest)
  deep_repeated no_more = flat peak_none (λ _. no_more)
  deep_repeated {ws = ws} (again {x = x} {a = a} r s) = deep_map (λ n p. again p.0 p.1) (deep_then (f x ws a r) (deep_repeated s))

  pub deep_optional : {by : Kind} → ((n : ℕ) → open_after by n ≡ n) → {x : Option A} {ws rest : List Word} → Optional by S x ws rest → Deep m ws rest (λ n. Optional by (R n) x ws rest)
  deep_optional keeps left_out = flat peak_none (λ _. left_out)
  deep_optional keeps {rest = rest} (said {x = x} {a = a} t r) = deep_map (λ n p. said p.0 p.1) (deep_then (deep_token t keeps) (f x a rest r))
