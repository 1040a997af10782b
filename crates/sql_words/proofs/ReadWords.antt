-- The words of a text are words, and words that are spelled out are read.
use Rattle.std.proofs.Common.{◌≡◌, ◌+◌, ◌-◌, ℕ, zero, suc, List, [], ◌∷◌, Option, Some, None, Result, Ok, Err, refl}
use Rattle.sql_words.specs.Words.{Token, token, gap, words_from, words_of, word_before}
use Rattle.sql_words.specs.WordForms.{IsWord, AreWords}
use Rattle.sql_words.specs.declared.word.Word.{Word}
use Rattle.sql_words.proofs.TokenForms.{IsGood, token-good}

before-words : (word : Word) (rest : Result (List Word) ℕ) (words : List Word) → IsWord word → ((more : List Word) → rest ≡ Ok more → AreWords more) → word_before word rest ≡ Ok words → AreWords words
before-words word (Ok more) words is later found = let same : word ∷ more ≡ words = cc in rw (← same) (is, later more refl)
before-words word (Err at) words is later found = cc

from-token : (c : ℕ) (b : List ℕ) (at : ℕ) (words : List Word) (found : Option Token) → token (c ∷ b) ≡ found
    → ((skip at' : ℕ) (more : List Word) → words_from skip at' b ≡ Ok more → AreWords more)
    → (elim found as (λ _. Result (List Word) ℕ) [ None ↦ Err at | Some t ↦ word_before t.word (words_from (t.size - 1) (at + 1) b) ]) ≡ Ok words → AreWords words
from-token c b at words (Some t) e later is = let good : IsGood (c ∷ b) t = token-good (c ∷ b) t e in before-words t.word (words_from (t.size - 1) (at + 1) b) words good.word (later (t.size - 1) (at + 1)) is
from-token c b at words None e later is = cc

from-gap : (c : ℕ) (b : List ℕ) (at : ℕ) (words : List Word) (n : ℕ) → gap (c ∷ b) ≡ n
    → ((skip at' : ℕ) (more : List Word) → words_from skip at' b ≡ Ok more → AreWords more)
    → words_from zero at (c ∷ b) ≡ Ok words → AreWords words
from-gap c b at words (suc more) e later is = later more (at + 1) words (rw (e, words_from) at is)
from-gap c b at words zero e later is = from-token c b at words (token (c ∷ b)) refl later (rw (e, words_from) at is)

words-are : (skip at : ℕ) (b : List ℕ) (words : List Word) → words_from skip at b ≡ Ok words → AreWords words
words-are skip at [] words is = let same : [] ≡ words = cc in rw (← same) tt
words-are (suc skip) at (c ∷ b) words is = words-are skip (at + 1) b words is
words-are zero at (c ∷ b) words is = from-gap c b at words (gap (c ∷ b)) refl (λ skip at' more e. words-are skip at' b more e) is

pub texts-have-words : (text : List ℕ) (words : List Word) → words_of text ≡ Ok words → AreWords words
texts-have-words text words is = words-are zero 0 text words is
