-- Each stream has one division, and its parts join to it.
use Rattle.std.proofs.Common.{◌≡◌, ◌<◌, ◌≤◌, ℕ, zero, suc, List, [], ◌∷◌, ◌++◌, take, drop, length, Option, Some, None, refl, sym, ap, ◌∙◌, arith, length-drop}
use Rattle.std.specs.List.{flat_map}
use Rattle.std.proofs.lemmas.List.{take-append-drop}
use Rattle.sql_words.specs.Division.{Form, Part, Divides, front, front_part, delimited}
use Rattle.sql_words.proofs.Fronts.{by-front}

delimited-some : (form cut : Form) (opening : ℕ) (b : List ℕ) (size : Option ℕ) → 0 < opening → 0 < (delimited form cut opening b size).size
delimited-some form cut opening b (Some n) some = omega arith
delimited-some form cut opening b None some = omega arith

-- the part at the front has a byte
pub front-some : (c : ℕ) (b : List ℕ) → 0 < (front (c ∷ b)).size
front-some c b = by-front (λ _ _ e. 0 < e.size)
    (λ b. delimited-some _ _ 1 b _ (omega arith)) (λ b. delimited-some _ _ 1 b _ (omega arith))
    (λ b. delimited-some _ _ 2 b _ (omega arith)) (λ b. delimited-some _ _ 2 b _ (omega arith))
    (λ c b is. omega arith) (λ c b is. omega arith) c b

pub one-division : (ps qs : List Part) (b : List ℕ) → Divides ps b → Divides qs b → qs ≡ ps
one-division [] [] b d e = refl
one-division [] (q ∷ qs) b d e = absurd (e.0 d)
one-division (p ∷ ps) [] b d e = absurd (d.0 e)
one-division (p ∷ ps) (q ∷ qs) b d e =
    let first : q ≡ p = e.1 ∙ sym d.1 in
    let others : qs ≡ ps = one-division ps qs (drop (front b).size b) d.2 e.2 in cc

-- the parts, found one after the other; n is at least the length
division : ℕ → List ℕ → List Part
division zero b = []
division (suc n) [] = []
division (suc n) (c ∷ b) = front_part (c ∷ b) ∷ division n (drop (front (c ∷ b)).size (c ∷ b))

empty : (b : List ℕ) → length b ≤ 0 → b ≡ []
empty [] few = refl
empty (c ∷ b) few = absurd (omega arith)

divides : (n : ℕ) (b : List ℕ) → length b ≤ n → Divides (division n b) b
unfolding division
divides zero b few = empty b few
divides (suc n) [] few = refl
divides (suc n) (c ∷ b) few = ((λ e. cc), refl, divides n (drop (front (c ∷ b)).size (c ∷ b)) (omega (arith, length-drop (front (c ∷ b)).size (c ∷ b), front-some c b)))

pub a_division : List ℕ → List Part
a_division b = division (length b) b

pub division-divides : (b : List ℕ) → Divides (a_division b) b
unfolding a_division
division-divides b = divides (length b) b (omega arith)

pub parts-join : (ps : List Part) (b : List ℕ) → Divides ps b → flat_map (λ p. p.bytes) ps ≡ b
parts-join [] b d = sym d
parts-join (p ∷ ps) b d = ap (λ q. q.bytes ++ flat_map (λ r. r.bytes) ps) d.1
    ∙ (ap (λ more. take (front b).size b ++ more) (parts-join ps (drop (front b).size b) d.2) ∙ take-append-drop (front b).size b)
