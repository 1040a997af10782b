-- A text is looked up among the keywords that begin with its letter.
use Rattle.std.proofs.Common.{◌≡◌, ◌<◌, ◌&&◌, ◌||◌, if◌then◌else◌, ◌==◌, Bool, true, false, ℕ, zero, suc, ◌+◌, ◌-◌, nat_le, ◌⊎◌, inl, inr, List, [], ◌∷◌, ◌++◌, length, map, get_or, refl, sym, ap, ◌∙◌, arith}
use Rattle.std.specs.Char.{is_ascii_uppercase}
use Rattle.std.specs.List.{flat_map, list_all, list_any}
use Rattle.std.specs.Str.{bytes_eq}
use Rattle.std.proofs.lemmas.Bool.{eqb-true, leb-true, leb-false, ne_eqb}
use Rattle.std.proofs.lemmas.Slice.Eq.{bytes_eq-Decides}
use denote.Enum.Bare.{same_true}
use Rattle.sql_spelling.specs.contracts.kind.Kind.{the_type}
use Rattle.std.proofs.lemmas.List.{get_or_past}
use Rattle.sql_spelling.specs.Keywords.{Keyword, reserved_words, other_words}
use Rattle.sql_spelling.specs.Kinds.{lookup, keyword, same_kind}
use Rattle.sql_spelling.specs.Sections.{sections, keywords_of}
use Rattle.sql_spelling.specs.declared.kind.Kind.{Kind}
use Rattle.sql_spelling.specs.declared.kind.Kind.TheVariants as k

left : (a b : Bool) → (a && b) ≡ true → a ≡ true
left true b h = refl
left false b h = cc

right : (a b : Bool) → (a && b) ≡ true → b ≡ true
right true b h = h
right false b h = cc

-- a text with this byte in front
abbrev begins_with : ℕ → List ℕ → Bool
begins_with mark [] = false
begins_with mark (c ∷ b) = c == mark

-- each keyword of the first section begins with n, each of the next with n + 1, and so on
abbrev pub are_ordered : ℕ → List (List Keyword) → Bool
are_ordered n [] = true
are_ordered n (s ∷ rest) = list_all (λ entry. begins_with n entry.0) s && are_ordered (n + 1) rest

differs : (c n : ℕ) (text : List ℕ) (entry : Keyword) → (c ≡ n → ⊥) → begins_with n entry.0 ≡ true → bytes_eq entry.0 (c ∷ text) ≡ false
differs c n text ([], kind) other begins = cc
differs c n text (d ∷ rest, kind) other begins = let e : d ≡ n = eqb-true d n begins in rw (e, ne_eqb n c (λ h. other (sym h))) refl

-- a section of another letter has nothing
lookup-other : (c n : ℕ) (text : List ℕ) (s t : List Keyword) → (c ≡ n → ⊥) → list_all (λ entry. begins_with n entry.0) s ≡ true → lookup (s ++ t) (c ∷ text) ≡ lookup t (c ∷ text)
lookup-other c n text [] t other begins = refl
lookup-other c n text (entry ∷ s) t other begins = rw (differs c n text entry other (left _ _ begins)) (lookup-other c n text s t other (right (begins_with n entry.0) _ begins))

-- nor have the sections of higher letters
lookup-below : (c n : ℕ) (text : List ℕ) (ss : List (List Keyword)) → c < n → are_ordered n ss ≡ true → lookup (flat_map (λ s. s) ss) (c ∷ text) ≡ k.Name
lookup-below c n text [] below ordered = refl
lookup-below c n text (s ∷ ss) below ordered = lookup-other c n text s (flat_map (λ s. s) ss) (λ e. absurd (omega arith)) (left _ _ ordered)
    ∙ lookup-below c (n + 1) text ss (omega arith) (right (list_all (λ entry. begins_with n entry.0) s) _ ordered)

lookup-first : (c n : ℕ) (text : List ℕ) (s t : List Keyword) → lookup t (c ∷ text) ≡ k.Name → lookup (s ++ t) (c ∷ text) ≡ lookup s (c ∷ text)
lookup-first c n text [] t none = none
lookup-first c n text (entry ∷ s) t none = ap (λ other. if bytes_eq entry.0 (c ∷ text) then entry.1 else other) (lookup-first c n text s t none)

lookup-none : (i : ℕ) (text : List ℕ) → k.Name ≡ lookup (get_or [] i []) text
lookup-none zero text = refl
lookup-none (suc i) text = refl

-- a text is looked up in the section of its letter
lookup-section : (n i c : ℕ) (text : List ℕ) (ss : List (List Keyword)) → are_ordered n ss ≡ true → c ≡ n + i → lookup (flat_map (λ s. s) ss) (c ∷ text) ≡ lookup (get_or ss i []) (c ∷ text)
lookup-section n i c text [] ordered at = lookup-none i (c ∷ text)
lookup-section n zero c text (s ∷ ss) ordered at = lookup-first c n text s (flat_map (λ s. s) ss)
    (lookup-below c (n + 1) text ss (omega arith) (right (list_all (λ entry. begins_with n entry.0) s) _ ordered))
lookup-section n (suc i) c text (s ∷ ss) ordered at = lookup-other c n text s (flat_map (λ s. s) ss) (λ e. absurd (omega arith)) (left _ _ ordered)
    ∙ lookup-section (n + 1) i c text ss (right (list_all (λ entry. begins_with n entry.0) s) _ ordered) (omega arith)

sections-ordered : are_ordered 65 sections ≡ true
unfolding sections
sections-ordered = refl

sections-few : length sections ≡ 26
unfolding sections
sections-few = refl

-- all keywords of the table
abbrev table : List Keyword
table = flat_map (λ s. s) sections

low-by : (c : ℕ) (b : Bool) → nat_le 65 c ≡ b → (nat_le 65 c && nat_le c 90) ≡ false → (c < 65) ⊎ (90 < c)
low-by c true e outside = inr (leb-false c 90 (sym (ap (λ b. b && nat_le c 90) e) ∙ outside))
low-by c false e outside = inl (leb-false 65 c e)

outside-by : (c : ℕ) (text : List ℕ) → (c < 65) ⊎ (90 < c) → lookup table (c ∷ text) ≡ k.Name
outside-by c text (inl below) = lookup-below c 65 text sections below sections-ordered
outside-by c text (inr above) = lookup-section 65 (c - 65) c text sections sections-ordered (omega arith)
    ∙ rw (get_or_past sections (c - 65) [] (omega (arith, sections-few))) refl

by-letter : (c : ℕ) (text : List ℕ) (b : Bool) → is_ascii_uppercase c ≡ b → lookup table (c ∷ text) ≡ lookup (if b then get_or sections (c - 65) [] else []) (c ∷ text)
by-letter c text true e = lookup-section 65 (c - 65) c text sections sections-ordered (omega (arith, leb-true 65 c (left (nat_le 65 c) (nat_le c 90) e)))
by-letter c text false e = outside-by c text (low-by c (nat_le 65 c) refl e)

-- a list has a text
abbrev has : List Keyword → List ℕ → Bool
has entries text = list_any (λ entry. bytes_eq entry.0 text) entries

-- each text of the first list has its kind in the second
abbrev agree : List Keyword → List Keyword → Bool
agree [] words = true
agree (entry ∷ entries) words = same_kind entry.1 (lookup words entry.0) && agree entries words

-- each text of the first list is in the second
abbrev are_among : List Keyword → List Keyword → Bool
are_among [] entries = true
are_among (word ∷ words) entries = has entries word.0 && are_among words entries

same : (a b : Kind) → same_kind a b ≡ true → a ≡ b
unfolding same_kind
same a b h = same_true the_type (tt) a b h

is-text : (entry : Keyword) (text : List ℕ) → bytes_eq entry.0 text ≡ true → entry.0 ≡ text
is-text entry text e = (bytes_eq-Decides entry.0 text).0 e

found-by : (entry : Keyword) (entries words : List Keyword) (text : List ℕ) (b : Bool) → bytes_eq entry.0 text ≡ b → same_kind entry.1 (lookup words entry.0) ≡ true
    → (lookup entries text ≡ lookup words text) ⊎ (has entries text ≡ false) → (lookup (entry ∷ entries) text ≡ lookup words text) ⊎ (has (entry ∷ entries) text ≡ false)
found-by entry entries words text true e agrees later = inl (rw e (same _ _ agrees ∙ ap (λ t. lookup words t) (is-text entry text e)))
found-by entry entries words text false e agrees (inl later) = inl (rw e later)
found-by entry entries words text false e agrees (inr later) = inr (rw e later)

found : (entries words : List Keyword) (text : List ℕ) → agree entries words ≡ true → (lookup entries text ≡ lookup words text) ⊎ (has entries text ≡ false)
found [] words text agrees = inr refl
found (entry ∷ entries) words text agrees = found-by entry entries words text (bytes_eq entry.0 text) refl (left _ (agree entries words) agrees) (found entries words text (right (same_kind entry.1 (lookup words entry.0)) _ agrees))

missing-by : (word : Keyword) (words entries : List Keyword) (text : List ℕ) (b : Bool) → bytes_eq word.0 text ≡ b → has entries word.0 ≡ true → has entries text ≡ false
    → lookup words text ≡ k.Name → lookup (word ∷ words) text ≡ k.Name
missing-by word words entries text true e among none later = absurd (let h : has entries word.0 ≡ has entries text = ap (λ t. has entries t) (is-text word text e) in cc)
missing-by word words entries text false e among none later = rw e later

missing : (words entries : List Keyword) (text : List ℕ) → are_among words entries ≡ true → has entries text ≡ false → lookup words text ≡ k.Name
missing [] entries text among none = refl
missing (word ∷ words) entries text among none = missing-by word words entries text (bytes_eq word.0 text) refl (left _ (are_among words entries) among) none
    (missing words entries text (right (has entries word.0) _ among) none)

nothing-by : (entry : Keyword) (entries : List Keyword) (text : List ℕ) (b : Bool) → bytes_eq entry.0 text ≡ b → (has entries text ≡ false → lookup entries text ≡ k.Name) → (b || has entries text) ≡ false
    → (if b then entry.1 else lookup entries text) ≡ k.Name
nothing-by entry entries text true e later none = cc
nothing-by entry entries text false e later none = later none

nothing : (entries : List Keyword) (text : List ℕ) → has entries text ≡ false → lookup entries text ≡ k.Name
nothing [] text none = refl
nothing (entry ∷ entries) text none = nothing-by entry entries text (bytes_eq entry.0 text) refl (nothing entries text) none

same-lookup : (entries words : List Keyword) (text : List ℕ) → are_among words entries ≡ true → (lookup entries text ≡ lookup words text) ⊎ (has entries text ≡ false) → lookup entries text ≡ lookup words text
same-lookup entries words text among (inl is) = is
same-lookup entries words text among (inr none) = nothing entries text none ∙ sym (missing words entries text among none)

table-agrees : agree table (reserved_words ++ other_words) ≡ true
unfolding sections reserved_words other_words same_kind
table-agrees = refl

table-has-all : are_among (reserved_words ++ other_words) table ≡ true
unfolding sections reserved_words other_words
table-has-all = refl

table-is : (text : List ℕ) → lookup table text ≡ keyword text
unfolding keyword
table-is text = same-lookup table (reserved_words ++ other_words) text table-has-all (found table (reserved_words ++ other_words) text table-agrees)

keyword-section : (c : ℕ) (text : List ℕ) → keyword (c ∷ text) ≡ lookup (keywords_of c) (c ∷ text)
unfolding keywords_of
keyword-section c text = sym (table-is (c ∷ text)) ∙ by-letter c text (is_ascii_uppercase c) refl

pub keyword-short : (text : List ℕ) → length text < 1 → keyword text ≡ k.Name
unfolding keyword reserved_words other_words
keyword-short [] short = refl
keyword-short (c ∷ text) short = absurd (omega arith)

pub keyword-text : (text : List ℕ) → 0 < length text → keyword text ≡ lookup (keywords_of (get_or text 0 0)) text
keyword-text [] some = absurd (omega arith)
keyword-text (c ∷ text) some = keyword-section c text

-- a section, as the code reads it
pub section-at : {S : Type 0} (f : S → List Keyword) (xs : List S) (i : ℕ) (d : S) → i < length xs → f (get_or xs i d) ≡ get_or (map f xs) i []
section-at f [] i d within = absurd (omega arith)
section-at f (x ∷ xs) zero d within = refl
section-at f (x ∷ xs) (suc i) d within = section-at f xs i d (omega arith)

-- there are 26 letters
pub letter-few : (c : ℕ) → is_ascii_uppercase c ≡ true → c - 65 < 26
letter-few c upper = omega (arith, leb-true c 90 (right (nat_le 65 c) (nat_le c 90) upper))
