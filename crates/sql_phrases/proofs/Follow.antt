-- What a word's kind tells of the tests that the parser makes.
use Rattle.std.proofs.Common.{◌≡◌, ℕ, ◌<◌, ◌≤◌, Bool, true, false, List, [], ◌∷◌, refl, ap, arith}
use denote.Enum.Bare.{sameb, true_same, false_same, same_true}
use Rattle.sql_spelling.specs.Kinds.{same_kind}
use Rattle.sql_words.specs.Kinds.{kind_of, text_of}
use Rattle.sql_words.specs.declared.word.Word.{Word}
use Rattle.sql_spelling.specs.declared.kind.Kind.{Kind}
use Rattle.sql_spelling.specs.declared.kind.Kind.TheVariants as k
use Rattle.sql_spelling.specs.contracts.kind.Kind.{the_type}
use Rattle.sql_phrases.specs.Reading.{peek, spelling, next, sees}

-- How tightly a word goes on with what stands before it, in the parts of a statement that hold no expression.
abbrev pub follows : Kind → ℕ
follows k.Restrict = 1
follows k.Cascade = 1
follows k.Granted = 2
follows k.With = 3
follows k.Authorization = 3
follows k.Comma = 9
follows k.LeftParen = 10
follows k.Varying = 10
follows k.And = 5
follows k.Where = 6
follows k.Period = 11
follows _ = 0

-- nothing that goes on so tightly comes next
pub record Below (f : Kind → ℕ) (b : ℕ) (ws : List Word) : Type 0 where
  pub below : f (peek ws) < b

pub below_at : (f : Kind → ℕ) (b : ℕ) (by : Kind) (w : Word) (ws : List Word) → kind_of w ≡ by → f by < b → Below f b (w ∷ ws)
below_at f b by w ws h lt = record { below = rw h lt }

pub below_more : (f : Kind → ℕ) (a b : ℕ) (ws : List Word) → Below f a ws → a ≤ b → Below f b ws
below_more f a b ws s le = record { below = omega (arith, s.below) }

pub sees_yes : (by : Kind) (w : Word) (ws : List Word) → kind_of w ≡ by → sees by (w ∷ ws) ≡ true
unfolding sees same_kind
sees_yes by w ws h = true_same the_type (kind_of w) by h

pub sees_no : (f : Kind → ℕ) (by : Kind) (ws : List Word) → (f (peek ws) ≡ f by → ⊥) → sees by ws ≡ false
unfolding sees same_kind
sees_no f by ws ne = false_same the_type tt (peek ws) by (λ e. ne (ap f e))

-- a word of another class comes next
pub sees_differs : (is : Kind → Bool) (by : Kind) (ws : List Word) → is (peek ws) ≡ true → is by ≡ false → sees by ws ≡ false
unfolding sees same_kind
sees_differs is by ws h d = false_same the_type tt (peek ws) by (λ e. let s : is (peek ws) ≡ is by = ap is e in cc)

pub sees_is : (by : Kind) (ws : List Word) → sees by ws ≡ true → peek ws ≡ by
unfolding sees same_kind
sees_is by ws e = same_true the_type tt (peek ws) by e

-- what stops below a kind doesn't begin with it
pub passes : (f : Kind → ℕ) (b : ℕ) (by : Kind) (ws : List Word) → Below f b ws → b ≤ f by → sees by ws ≡ false
passes f b by ws s le = sees_no f by ws (λ e. absurd (omega (arith, s.below, e)))

-- a word of this kind comes first
pub record Begins (by : Kind) (ws : List Word) : Type 0 where
  pub word : Word
  pub list : ws ≡ word ∷ next ws
  pub kind : kind_of word ≡ by
  pub text : spelling ws ≡ text_of word

pub begins_at : (by : Kind) → (k.EndOfText ≡ by → ⊥) → (ws : List Word) → peek ws ≡ by → Begins by ws
begins_at by never [] h = absurd (never h)
begins_at by never (w ∷ ws) h = record { word = w; list = refl; kind = h; text = refl }

pub begins : (by : Kind) → (k.EndOfText ≡ by → ⊥) → (ws : List Word) → sees by ws ≡ true → Begins by ws
begins by never ws e = begins_at by never ws (sees_is by ws e)

-- a word of another kind comes next: the last argument is `refl`
pub sees_other : (by it : Kind) (ws : List Word) → peek ws ≡ it → sameb the_type it by ≡ false → sees by ws ≡ false
unfolding sees same_kind
sees_other by it ws h d = rw h d
