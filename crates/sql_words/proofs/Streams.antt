-- A stream that comes in pieces has the same texts and the same rest.
use Rattle.std.proofs.Common.{◌≡◌, true, false, if◌then◌else◌, ℕ, List, [], ◌∷◌, ◌++◌, refl, ap, sym, ◌∙◌, append_assoc, append-nil, length, ◌<◌}
use Rattle.sql_words.specs.Stream.{ends, texts_from, rest_from, Fits}

pub texts_from-append : (held b more : List ℕ) → texts_from held (b ++ more) ≡ texts_from held b ++ texts_from (rest_from held b) more
texts_from-append held [] more = refl
texts_from-append held (c ∷ b) more =
    elim (ends held c) as (λ e. (if e then held ∷ texts_from [] (b ++ more) else texts_from (held ++ c ∷ []) (b ++ more))
    ≡ (if e then held ∷ texts_from [] b else texts_from (held ++ c ∷ []) b) ++ texts_from (if e then rest_from [] b else rest_from (held ++ c ∷ []) b) more)
    [ true ↦ ap (λ texts. held ∷ texts) (texts_from-append [] b more) | false ↦ texts_from-append (held ++ c ∷ []) b more ]

pub rest_from-append : (held b more : List ℕ) → rest_from held (b ++ more) ≡ rest_from (rest_from held b) more
rest_from-append held [] more = refl
rest_from-append held (c ∷ b) more =
    elim (ends held c) as (λ e. (if e then rest_from [] (b ++ more) else rest_from (held ++ c ∷ []) (b ++ more)) ≡ rest_from (if e then rest_from [] b else rest_from (held ++ c ∷ []) b) more)
    [ true ↦ rest_from-append [] b more | false ↦ rest_from-append (held ++ c ∷ []) b more ]

-- where no text ends, all is held
pub rest_from-none : (held b : List ℕ) → texts_from held b ≡ [] → rest_from held b ≡ held ++ b
rest_from-none held [] none = sym (append-nil held)
rest_from-none held (c ∷ b) none =
    elim (ends held c) as (λ e. (if e then held ∷ texts_from [] b else texts_from (held ++ c ∷ []) b) ≡ [] → (if e then rest_from [] b else rest_from (held ++ c ∷ []) b) ≡ held ++ c ∷ b)
    [ true ↦ (λ h. cc) | false ↦ (λ h. rest_from-none (held ++ c ∷ []) b h ∙ append_assoc held (c ∷ []) b) ] none

-- a byte more that ends no text
pub texts_from-more : (held b : List ℕ) (c : ℕ) → texts_from held b ≡ [] → ends (held ++ b) c ≡ false → texts_from held (b ++ c ∷ []) ≡ []
texts_from-more held b c none goes = rw (texts_from-append held b (c ∷ []), none, rest_from-none held b none, goes) refl

-- a byte more that ends one
pub texts_from-end : (held b : List ℕ) (c : ℕ) → texts_from held b ≡ [] → ends (held ++ b) c ≡ true → texts_from held (b ++ c ∷ []) ≡ (held ++ b) ∷ []
texts_from-end held b c none ended = rw (texts_from-append held b (c ∷ []), none, rest_from-none held b none, ended) refl

pub rest_from-end : (held b : List ℕ) (c : ℕ) → texts_from held b ≡ [] → ends (held ++ b) c ≡ true → rest_from held (b ++ c ∷ []) ≡ []
rest_from-end held b c none ended = rw (rest_from-append held b (c ∷ []), rest_from-none held b none, ended) refl

-- where texts end, what is held goes on from the rest
pub Fits-append : (held b more : List ℕ) → Fits held b → Fits (rest_from held b) more → Fits held (b ++ more)
Fits-append held [] more fits later = later
Fits-append held (c ∷ b) more fits later = (
  fits.0,
  elim (ends held c) as (λ e. Fits (if e then [] else held ++ c ∷ []) b → Fits (if e then rest_from [] b else rest_from (held ++ c ∷ []) b) more → Fits (if e then [] else held ++ c ∷ []) (b ++ more))
      [ true ↦ Fits-append [] b more | false ↦ Fits-append (held ++ c ∷ []) b more ] fits.1 later,
)

-- a byte more for which there is room
pub Fits-more : (held b : List ℕ) (c : ℕ) → Fits held b → length (rest_from held b) < 65536 → Fits held (b ++ c ∷ [])
Fits-more held b c fits room = Fits-append held b (c ∷ []) fits (room, tt)
