-- What a run spells, letter by letter, is what it spells as a whole.
use Rattle.std.proofs.Common.{◌≡◌, ◌==◌, ◌||◌, if◌then◌else◌, Bool, true, false, ℕ, ◌+◌, ◌-◌, List, [], ◌∷◌, ◌++◌, map, fold, codes, Option, Some, None, ◌⊎◌, inl, inr, refl, sym, ap, ◌∙◌, append_assoc, append-nil}
use Rattle.std.specs.Char.{to_ascii_uppercase}
use Rattle.std.specs.Str.{bytes_eq}
use Rattle.std.proofs.lemmas.Bool.{eqb-true}
use Rattle.std.proofs.lemmas.Slice.Eq.{bytes_eq-Decides}
use Rattle.sql_words.specs.Division.{level_after}
use Rattle.sql_words.specs.Scanning.{letter_after, next_letter, spelling_after, spelled_level}
use Rattle.sql_words.specs.declared.scan.Spelling.{Spelling}
use Rattle.sql_words.specs.declared.scan.Spelling.TheVariants as s

-- the letters of a spelling
abbrev pub letters : Spelling → Option (List ℕ)
letters s.Nothing = Some []
letters s.B = Some (codes "B")
letters s.Be = Some (codes "BE")
letters s.Beg = Some (codes "BEG")
letters s.Begi = Some (codes "BEGI")
letters s.Begin = Some (codes "BEGIN")
letters s.C = Some (codes "C")
letters s.Ca = Some (codes "CA")
letters s.Cas = Some (codes "CAS")
letters s.Case = Some (codes "CASE")
letters s.E = Some (codes "E")
letters s.En = Some (codes "EN")
letters s.End = Some (codes "END")
letters s.Other = None

-- it has these letters, or is none of the three words
abbrev pub Spells : Spelling → List ℕ → Type 0
Spells spelling word = (spelling ≡ s.Other) ⊎ (letters spelling ≡ Some word)

next-spells : (letter wanted : ℕ) (next : Spelling) (word : List ℕ) (b : Bool) → (letter == wanted) ≡ b → letters next ≡ Some (word ++ wanted ∷ []) → Spells (if b then next else s.Other) (word ++ letter ∷ [])
next-spells letter wanted next word true e spelled = inr (spelled ∙ ap (λ c. Some (word ++ c ∷ [])) (sym (eqb-true letter wanted e)))
next-spells letter wanted next word false e spelled = inl refl

first-c : (letter : ℕ) (b : Bool) → (letter == 67) ≡ b → Spells (if b then s.C else next_letter letter 69 s.E) (letter ∷ [])
first-c letter true e = inr (ap (λ c. Some (c ∷ [])) (sym (eqb-true letter 67 e)))
first-c letter false e = next-spells letter 69 s.E [] (letter == 69) refl refl

first-b : (letter : ℕ) (b : Bool) → (letter == 66) ≡ b → Spells (if b then s.B else (if letter == 67 then s.C else next_letter letter 69 s.E)) (letter ∷ [])
first-b letter true e = inr (ap (λ c. Some (c ∷ [])) (sym (eqb-true letter 66 e)))
first-b letter false e = first-c letter (letter == 67) refl

more-spells : (spelling : Spelling) (word : List ℕ) (letter : ℕ) → letters spelling ≡ Some word → Spells (letter_after spelling letter) (word ++ letter ∷ [])
more-spells s.Nothing word letter is = let e : word ≡ [] = cc in rw e (first-b letter (letter == 66) refl)
more-spells s.B word letter is = let e : word ≡ codes "B" = cc in rw e (next-spells letter 69 s.Be (codes "B") (letter == 69) refl refl)
more-spells s.Be word letter is = let e : word ≡ codes "BE" = cc in rw e (next-spells letter 71 s.Beg (codes "BE") (letter == 71) refl refl)
more-spells s.Beg word letter is = let e : word ≡ codes "BEG" = cc in rw e (next-spells letter 73 s.Begi (codes "BEG") (letter == 73) refl refl)
more-spells s.Begi word letter is = let e : word ≡ codes "BEGI" = cc in rw e (next-spells letter 78 s.Begin (codes "BEGI") (letter == 78) refl refl)
more-spells s.Begin word letter is = inl refl
more-spells s.C word letter is = let e : word ≡ codes "C" = cc in rw e (next-spells letter 65 s.Ca (codes "C") (letter == 65) refl refl)
more-spells s.Ca word letter is = let e : word ≡ codes "CA" = cc in rw e (next-spells letter 83 s.Cas (codes "CA") (letter == 83) refl refl)
more-spells s.Cas word letter is = let e : word ≡ codes "CAS" = cc in rw e (next-spells letter 69 s.Case (codes "CAS") (letter == 69) refl refl)
more-spells s.Case word letter is = inl refl
more-spells s.E word letter is = let e : word ≡ codes "E" = cc in rw e (next-spells letter 78 s.En (codes "E") (letter == 78) refl refl)
more-spells s.En word letter is = let e : word ≡ codes "EN" = cc in rw e (next-spells letter 68 s.End (codes "EN") (letter == 68) refl refl)
more-spells s.End word letter is = inl refl
more-spells s.Other word letter is = inl refl

other-stays : (run : List ℕ) → fold letter_after s.Other run ≡ s.Other
other-stays [] = refl
other-stays (c ∷ run) = other-stays run

run-spells : (run : List ℕ) (spelling : Spelling) (word : List ℕ) → Spells spelling word → Spells (fold letter_after spelling run) (word ++ run)
run-spells [] spelling word (inl other) = inl other
run-spells [] spelling word (inr is) = rw (append-nil word) (inr is)
run-spells (c ∷ run) spelling word (inl other) = inl (ap (λ x. fold letter_after (letter_after x c) run) other ∙ other-stays run)
run-spells (c ∷ run) spelling word (inr is) = rw (← append_assoc word (c ∷ []) run) (run-spells run (letter_after spelling c) (word ++ c ∷ []) (more-spells spelling word c is))

-- the level by the word as a whole
abbrev pub word_level : ℕ → List ℕ → ℕ
word_level level word = if bytes_eq word (codes "BEGIN") || bytes_eq word (codes "CASE") then level + 1 else (if bytes_eq word (codes "END") then level - 1 else level)

-- no word spells Other
not-other : (level : ℕ) (word : List ℕ) → fold letter_after s.Nothing word ≡ s.Other → level ≡ word_level level word
not-other level word other = by (bytes_eq word (codes "BEGIN")) refl (bytes_eq word (codes "CASE")) refl (bytes_eq word (codes "END")) refl
  where
    no : (text : List ℕ) → bytes_eq word text ≡ true → (fold letter_after s.Nothing text ≡ s.Other → ⊥) → ⊥
    no text e spelled = spelled (ap (λ w. fold letter_after s.Nothing w) (sym ((bytes_eq-Decides word text).0 e)) ∙ other)

    by : (x : Bool) → bytes_eq word (codes "BEGIN") ≡ x → (y : Bool) → bytes_eq word (codes "CASE") ≡ y → (z : Bool) → bytes_eq word (codes "END") ≡ z → level ≡ word_level level word
    by true e y f z g = absurd (no (codes "BEGIN") e (λ h. cc))
    by false e true f z g = absurd (no (codes "CASE") f (λ h. cc))
    by false e false f true g = absurd (no (codes "END") g (λ h. cc))
    by false e false f false g = rw (e, f, g) refl

level-spelled : (level : ℕ) (spelling : Spelling) (word : List ℕ) → letters spelling ≡ Some word → spelled_level level spelling ≡ word_level level word
level-spelled level s.Nothing word is = let e : word ≡ [] = cc in rw e refl
level-spelled level s.B word is = let e : word ≡ codes "B" = cc in rw e refl
level-spelled level s.Be word is = let e : word ≡ codes "BE" = cc in rw e refl
level-spelled level s.Beg word is = let e : word ≡ codes "BEG" = cc in rw e refl
level-spelled level s.Begi word is = let e : word ≡ codes "BEGI" = cc in rw e refl
level-spelled level s.Begin word is = let e : word ≡ codes "BEGIN" = cc in rw e refl
level-spelled level s.C word is = let e : word ≡ codes "C" = cc in rw e refl
level-spelled level s.Ca word is = let e : word ≡ codes "CA" = cc in rw e refl
level-spelled level s.Cas word is = let e : word ≡ codes "CAS" = cc in rw e refl
level-spelled level s.Case word is = let e : word ≡ codes "CASE" = cc in rw e refl
level-spelled level s.E word is = let e : word ≡ codes "E" = cc in rw e refl
level-spelled level s.En word is = let e : word ≡ codes "EN" = cc in rw e refl
level-spelled level s.End word is = let e : word ≡ codes "END" = cc in rw e refl
level-spelled level s.Other word is = cc

level-word : (level : ℕ) (word : List ℕ) → Spells (fold letter_after s.Nothing word) word → spelled_level level (fold letter_after s.Nothing word) ≡ word_level level word
level-word level word (inl other) = rw other (not-other level word other)
level-word level word (inr is) = level-spelled level (fold letter_after s.Nothing word) word is

fold-upper : (run : List ℕ) (spelling : Spelling) → fold spelling_after spelling run ≡ fold letter_after spelling (map to_ascii_uppercase run)
unfolding spelling_after
fold-upper [] spelling = refl
fold-upper (c ∷ run) spelling = fold-upper run (letter_after spelling (to_ascii_uppercase c))

-- the level behind a run
pub level-run : (level : ℕ) (run : List ℕ) → spelled_level level (fold spelling_after s.Nothing run) ≡ level_after level run
unfolding level_after
level-run level run = rw (fold-upper run s.Nothing) (level-word level (map to_ascii_uppercase run) (run-spells (map to_ascii_uppercase run) s.Nothing [] (inr refl)))
