-- Which words are reserved, by their kinds.
use Rattle.std.proofs.Common.{◌≡◌, ◌&&◌, ◌||◌, if◌then◌else◌, not, Bool, true, false, ℕ, List, [], ◌∷◌, ◌++◌, refl, sym, ap, ◌∙◌}
use Rattle.std.specs.List.{list_all, list_any}
use Rattle.std.specs.Str.{bytes_eq}
use Rattle.sql_spelling.specs.Keywords.{Keyword, reserved_words, other_words, is_reserved_word}
use Rattle.sql_spelling.specs.Kinds.{lookup, keyword, is_reserved, is_name, same_kind}
use Rattle.sql_spelling.specs.declared.kind.Kind.{Kind}
use Rattle.sql_spelling.specs.declared.kind.Kind.TheVariants as k

left : (a b : Bool) → (a && b) ≡ true → a ≡ true
left true b h = refl
left false b h = cc

right : (a b : Bool) → (a && b) ≡ true → b ≡ true
right true b h = h
right false b h = cc

-- where a test of kinds fails at each keyword of a list and at Name, it fails at what the list gives
fails : (test : Kind → Bool) (words : List Keyword) (text : List ℕ) → list_all (λ entry. not (test entry.1)) words ≡ true → test k.Name ≡ false → test (lookup words text) ≡ false
fails test [] text each name = name
fails test (entry ∷ words) text each name = by (bytes_eq entry.0 text) (fails test words text (right (not (test entry.1)) _ each) name)
  where
    not-true : (a : Bool) → not a ≡ true → a ≡ false
    not-true true h = cc
    not-true false h = refl

    by : (b : Bool) → test (lookup words text) ≡ false → test (if b then entry.1 else lookup words text) ≡ false
    by true later = not-true (test entry.1) (left (not (test entry.1)) (list_all (λ e. not (test e.1)) words) each)
    by false later = later

-- where it holds at each keyword in front of these, it holds just where they have the text
holds : (test : Kind → Bool) (words others : List Keyword) (text : List ℕ) → list_all (λ entry. test entry.1) words ≡ true → test (lookup others text) ≡ false
    → test (lookup (words ++ others) text) ≡ list_any (λ entry. bytes_eq entry.0 text) words
holds test [] others text each none = none
holds test (entry ∷ words) others text each none = by (bytes_eq entry.0 text) (holds test words others text (right (test entry.1) _ each) none)
  where
    by : (b : Bool) → test (lookup (words ++ others) text) ≡ list_any (λ e. bytes_eq e.0 text) words
        → test (if b then entry.1 else lookup (words ++ others) text) ≡ (b || list_any (λ e. bytes_eq e.0 text) words)
    by true later = left (test entry.1) (list_all (λ e. test e.1) words) each
    by false later = later

reserved-are : list_all (λ entry. is_reserved entry.1) reserved_words ≡ true
unfolding reserved_words is_reserved
reserved-are = refl

others-are : list_all (λ entry. not (is_reserved entry.1)) other_words ≡ true
unfolding other_words is_reserved
others-are = refl

name-is : is_reserved k.Name ≡ false
unfolding is_reserved
name-is = refl

pub reserved-by-list : (text : List ℕ) → is_reserved (keyword text) ≡ is_reserved_word text
unfolding keyword is_reserved_word
reserved-by-list text = holds is_reserved reserved_words other_words text reserved-are (fails is_reserved other_words text others-are name-is)

not-not : (a : Bool) → not (not a) ≡ a
not-not true = refl
not-not false = refl

reserved-no-names : list_all (λ entry. not (is_name entry.1)) reserved_words ≡ true
unfolding reserved_words is_name same_kind
reserved-no-names = refl

others-names : list_all (λ entry. not (not (is_name entry.1))) other_words ≡ true
unfolding other_words is_name same_kind
others-names = refl

name-is-name : not (is_name k.Name) ≡ false
unfolding is_name same_kind
name-is-name = refl

pub names-by-list : (text : List ℕ) → is_name (keyword text) ≡ not (is_reserved_word text)
unfolding keyword is_reserved_word
names-by-list text = sym (not-not (is_name (lookup (reserved_words ++ other_words) text)))
    ∙ ap not (holds (λ kind. not (is_name kind)) reserved_words other_words text reserved-no-names (fails (λ kind. not (is_name kind)) other_words text others-names name-is-name))
