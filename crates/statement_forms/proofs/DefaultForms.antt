-- A default that the words of a text spell is of its form.
use Rattle.std.proofs.Common.{◌≡◌, ◌∙◌, not, Bool, true, false, ℕ, List, [], Some, IsUtf8, refl, ap, sym}
use Rattle.std.proofs.lemmas.List.Elements.{All-nil, All-cons}
use Rattle.sql_names.specs.declared.sort.Default.{Default}
use Rattle.sql_spelling.specs.Keywords.{is_reserved_word}
use Rattle.sql_spelling.specs.Kinds.{keyword, is_reserved, is_name, same_kind}
use Rattle.sql_words.specs.Kinds.{kind_of, text_of, symbol_kind}
use Rattle.sql_words.specs.WordForms.{IsWord, AreWords}
use Rattle.sql_spelling.specs.declared.kind.Kind.{Kind}
use Rattle.sql_spelling.specs.declared.kind.Kind.TheVariants as k
use Rattle.sql_words.specs.declared.word.Symbol.{Symbol}
use Rattle.sql_words.specs.declared.word.Symbol.TheVariants as s
use Rattle.sql_words.specs.declared.word.Word.{Word}
use Rattle.sql_words.specs.declared.word.Word.TheVariants as w
use Rattle.sql_spelling.proofs.ReservedWords.{reserved-by-list, names-by-list}
use Rattle.sql_phrases.specs.Shapes.{SpellsText, spells}
use Rattle.sql_phrases.specs.TypeRules as types
use Rattle.cat_items.specs.Pieces.{AreResolved, IsResolved, IsNumber, default_pieces, of_literal, of_number}
use Rattle.statement_forms.proofs.KeptWords.{kept_marked}
use Rattle.statement_forms.proofs.NumberForms.{number-form}

-- a plain word is reserved or stands for a name
named-or-reserved : (text : List ℕ) (kind : Kind) → keyword text ≡ kind → is_reserved kind ≡ false → is_name kind ≡ false → ⊥
named-or-reserved text kind e no_word no_name =
    let reserved : is_reserved_word text ≡ false = sym (reserved-by-list text) ∙ ap is_reserved e ∙ no_word in
    let name : not (is_reserved_word text) ≡ false = sym (names-by-list text) ∙ ap is_name e ∙ no_name in
    clash (is_reserved_word text) reserved name
  where
    clash : (b : Bool) → b ≡ false → not b ≡ false → ⊥
    clash true is not_is = cc
    clash false is not_is = cc

no_literal : (text : List ℕ) → keyword text ≡ k.Literal → ⊥
unfolding is_reserved is_name same_kind
no_literal text e = named-or-reserved text k.Literal e refl refl

no_number : (text : List ℕ) → keyword text ≡ k.Number → ⊥
unfolding is_reserved is_name same_kind
no_number text e = named-or-reserved text k.Number e refl refl

-- a symbol is neither
symbol-no_literal : (symbol : Symbol) → symbol_kind symbol ≡ k.Literal → ⊥
symbol-no_literal s.LeftParen e = cc
symbol-no_literal _ e = cc

symbol-no_number : (symbol : Symbol) → symbol_kind symbol ≡ k.Number → ⊥
symbol-no_number s.LeftParen e = cc
symbol-no_number _ e = cc

literal-text : (word : Word) → IsWord word → kind_of word ≡ k.Literal → IsUtf8 (text_of word)
literal-text (w.Literal text) is e = is
literal-text (w.Plain text) is e = absurd (no_literal text e)
literal-text (w.Quoted text) is e = cc
literal-text (w.Number text) is e = cc
literal-text (w.Symbol symbol) is e = absurd (symbol-no_literal symbol e)

number-text : (word : Word) → IsWord word → kind_of word ≡ k.Number → IsNumber (text_of word)
number-text (w.Number text) is e = number-form text is
number-text (w.Plain text) is e = absurd (no_number text e)
number-text (w.Quoted text) is e = cc
number-text (w.Literal text) is e = cc
number-text (w.Symbol symbol) is e = absurd (symbol-no_number symbol e)

pub spelled-literal : {t : List ℕ} {ws rest : List Word} → SpellsText k.Literal t ws rest → AreWords ws → IsUtf8 t
spelled-literal (spells {w = word} e) are = literal-text word are.0 e

pub spelled-number : {t : List ℕ} {ws rest : List Word} → SpellsText k.Number t ws rest → AreWords ws → IsNumber t
spelled-number (spells {w = word} e) are = number-text word are.0 e

pub default-form : {d : Default} {ws rest : List Word} → types.SpellsDefault d ws rest → AreWords ws → AreResolved (default_pieces (Some d))
default-form (types.literal {t = t} l) are = All-cons IsResolved (of_literal t) [] (spelled-literal l are) (All-nil IsResolved)
default-form (types.number {t = t} m n) are = All-cons IsResolved (of_number t) [] (spelled-number n (kept_marked m are)) (All-nil IsResolved)
default-form (types.true_word t) are = All-nil IsResolved
default-form (types.false_word t) are = All-nil IsResolved
default-form (types.null t) are = All-nil IsResolved
default-form (types.special t) are = All-nil IsResolved
