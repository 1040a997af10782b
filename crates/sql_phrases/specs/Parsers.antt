-- Parsers, as functions of the words that are left: what is read, and the words after it.
use Rattle.std.specs.Prelude.{◌≡◌, ℕ, zero, suc, Bool, List, [], ◌∷◌, ◌++◌, length, Option, Some, None, Result, Ok, Err, if◌then◌else◌, ◌==◌}
use Rattle.sql_spelling.specs.declared.kind.Kind.{Kind}
use Rattle.sql_spelling.specs.declared.kind.Kind.TheVariants as k
use Rattle.sql_words.specs.declared.word.Word.{Word}
use Rattle.sql_phrases.specs.Reading.{peek, spelling, next, sees, after}
use Rattle.sql_phrases.specs.declared.error.GrammarError.{GrammarError}
use Rattle.sql_phrases.specs.declared.error.GrammarError.TheVariants.{Syntax, NotInProfile, Memory}

abbrev pub Outcome : Type 0 → Type 0
Outcome A = Option (A × List Word)

abbrev pub Parser : Type 0 → Type 0
Parser A = List Word → Outcome A

abbrev pub and_then : {A B : Type 0} → Outcome A → (A → Parser B) → Outcome B
and_then (Some p) f = f p.0 p.1
and_then None f = None

infixl 10 ◌>>=◌
abbrev pub ◌>>=◌ : {A B : Type 0} → Parser A → (A → Parser B) → Parser B
p >>= f = λ ws. and_then (p ws) f

infixl 10 ◌>>◌
abbrev pub ◌>>◌ : {A B : Type 0} → Parser A → Parser B → Parser B
p >> q = p >>= (λ _. q)

abbrev pub pure : {A : Type 0} → A → Parser A
pure a = λ ws. Some (a, ws)

infixr 11 ◌<$>◌
abbrev pub ◌<$>◌ : {A B : Type 0} → (A → B) → Parser A → Parser B
f <$> p = p >>= (λ x. pure (f x))

abbrev pub refuse : {A : Type 0} → Parser A
refuse = λ ws. None

-- passes over the next word
abbrev pub skip : Parser (Unit {0})
skip = λ ws. Some (tt, next ws)

-- takes a word of this kind, if it comes next
abbrev pub eat : Kind → Parser Bool
eat by = λ ws. Some (sees by ws, after by ws)

unfoldable pub expect : Kind → Parser (Unit {0})
expect by = λ ws. if sees by ws then Some (tt, next ws) else None

-- the text of a word of this kind
unfoldable pub text : Kind → Parser (List ℕ)
text by = λ ws. if sees by ws then Some (spelling ws, next ws) else None

-- the text of the next word
abbrev pub take_text : Parser (List ℕ)
take_text = λ ws. Some (spelling ws, next ws)

-- one more bracket, of which this many may still be opened
unfoldable pub opening : ℕ → Parser (Unit {0})
opening n = λ ws. if n == 0 then None else expect k.LeftParen ws

-- what a function of the code read, unless memory ran out
abbrev pub Reads : {A : Type 0} → Outcome A → Result A GrammarError → List Word → Type 0
Reads outcome (Ok a) new = outcome ≡ Some (a, new)
Reads outcome (Err Syntax) new = outcome ≡ None
Reads outcome (Err NotInProfile) new = ⊥
Reads outcome (Err Memory) new = Unit {0}

-- the number bounds the turns; each takes a word
unfoldable pub separated_from : {A : Type 0} → Kind → Parser A → ℕ → List A → Parser (List A)
separated_from by element zero found = refuse
separated_from by element (suc n) found = do
  x ← element
  goes_on ← eat by
  if goes_on then separated_from by element n (found ++ x ∷ []) else pure (found ++ x ∷ [])

unfoldable pub separated : {A : Type 0} → Kind → Parser A → Parser (List A)
separated by element = λ ws. separated_from by element (length ws) [] ws

-- goes on while a word of such a kind comes next; the number bounds the turns
unfoldable pub repeated_from : {A : Type 0} → (Kind → Bool) → Parser A → ℕ → List A → Parser (List A)
repeated_from starts element zero found = pure found
repeated_from starts element (suc n) found = λ ws. if starts (peek ws) then (do x ← element; repeated_from starts element n (found ++ x ∷ [])) ws else Some (found, ws)

unfoldable pub repeated : {A : Type 0} → (Kind → Bool) → Parser A → Parser (List A)
repeated starts element = λ ws. repeated_from starts element (length ws) [] ws

-- what stands after a word, if that word comes next
unfoldable pub optional : {A : Type 0} → Kind → Parser A → Parser (Option A)
optional by element = do
  is_said ← eat by
  if is_said then Some <$> element else pure None
