-- The part at the front, by its first bytes.
use Rattle.std.proofs.Common.{◌≡◌, ◌==◌, ◌&&◌, if◌then◌else◌, Bool, true, false, ℕ, ◌+◌, List, [], ◌∷◌, drop, refl, ap}
use Rattle.std.specs.List.{prefix_len}
use Rattle.std.proofs.lemmas.Bool.{eqb-true}
use Rattle.sql_words.specs.Division.{Literal, QuotedName, Unclosed, Run, Other, Extent, delimited, simple_comment, bracketed_comment, size_to, front, begins_with, is_run_byte}

-- a byte of a run begins nothing else
pub record IsRunByte (c : ℕ) : Type 0 where
  pub byte : is_run_byte c ≡ true
  pub no_literal : (c == 39) ≡ false
  pub no_name : (c == 34) ≡ false
  pub no_minus : (c == 45) ≡ false
  pub no_solidus : (c == 47) ≡ false

-- a byte that begins no longer part
pub record IsOther (c : ℕ) (b : List ℕ) : Type 0 where
  pub no_literal : (c == 39) ≡ false
  pub no_name : (c == 34) ≡ false
  pub no_simple : ((c == 45) && begins_with 45 b) ≡ false
  pub no_bracket : ((c == 47) && begins_with 42 b) ≡ false
  pub no_run : is_run_byte c ≡ false

no-byte : (c mark : ℕ) → is_run_byte c ≡ true → is_run_byte mark ≡ false → (b : Bool) → (c == mark) ≡ b → b ≡ false
no-byte c mark run other true e = absurd (let same : is_run_byte c ≡ is_run_byte mark = ap is_run_byte (eqb-true c mark e) in cc)
no-byte c mark run other false e = refl

run-byte : (c : ℕ) → is_run_byte c ≡ true → IsRunByte c
unfolding is_run_byte
run-byte c run = record {
  byte = run;
  no_literal = no-byte c 39 run refl (c == 39) refl;
  no_name = no-byte c 34 run refl (c == 34) refl;
  no_minus = no-byte c 45 run refl (c == 45) refl;
  no_solidus = no-byte c 47 run refl (c == 47) refl;
}

second : (a b : Bool) → (a && b) ≡ true → (a ≡ true) × (b ≡ true)
second true b h = (refl, h)
second false b h = cc

begun-with : (mark : ℕ) (b : List ℕ) → begins_with mark b ≡ true → b ≡ mark ∷ drop 1 b
begun-with mark [] h = cc
begun-with mark (c ∷ b) h = ap (λ d. d ∷ b) (eqb-true c mark h)

module _ (P : ℕ → List ℕ → Extent → Type 0)
    (literal : (b : List ℕ) → P 39 b (delimited Literal Unclosed 1 b (size_to 39 b)))
    (name : (b : List ℕ) → P 34 b (delimited QuotedName Unclosed 1 b (size_to 34 b)))
    (simple : (b : List ℕ) → P 45 (45 ∷ b) (simple_comment b))
    (bracketed : (b : List ℕ) → P 47 (42 ∷ b) (bracketed_comment b))
    (run : (c : ℕ) (b : List ℕ) → IsRunByte c → P c b (record { form = Run; size = 1 + prefix_len is_run_byte b }))
    (other : (c : ℕ) (b : List ℕ) → IsOther c b → P c b (record { form = Other; size = 1 })) where
  rest-run : (c : ℕ) (b : List ℕ) → (c == 39) ≡ false → (c == 34) ≡ false → ((c == 45) && begins_with 45 b) ≡ false → ((c == 47) && begins_with 42 b) ≡ false
      → (t : Bool) → is_run_byte c ≡ t → P c b (if t then record { form = Run; size = prefix_len is_run_byte (c ∷ b) } else record { form = Other; size = 1 })
  rest-run c b n39 n34 n45 n47 true e = rw e (run c b (run-byte c e))
  rest-run c b n39 n34 n45 n47 false e = other c b (record { no_literal = n39; no_name = n34; no_simple = n45; no_bracket = n47; no_run = e })

  rest-bracket : (c : ℕ) (b : List ℕ) → (c == 39) ≡ false → (c == 34) ≡ false → ((c == 45) && begins_with 45 b) ≡ false → (t : Bool) → ((c == 47) && begins_with 42 b) ≡ t
      → P c b (if t then bracketed_comment (drop 1 b) else (if is_run_byte c then record { form = Run; size = prefix_len is_run_byte (c ∷ b) } else record { form = Other; size = 1 }))
  rest-bracket c b n39 n34 n45 true e =
      let both : ((c == 47) ≡ true) × (begins_with 42 b ≡ true) = second _ _ e in
      let first : c ≡ 47 = eqb-true c 47 both.0 in let next : b ≡ 42 ∷ drop 1 b = begun-with 42 b both.1 in
      rw (first, next) (bracketed (drop 1 b))
  rest-bracket c b n39 n34 n45 false e = rest-run c b n39 n34 n45 e (is_run_byte c) refl

  rest-simple : (c : ℕ) (b : List ℕ) → (c == 39) ≡ false → (c == 34) ≡ false → (t : Bool) → ((c == 45) && begins_with 45 b) ≡ t
      → P c b (if t then simple_comment (drop 1 b) else (if (c == 47) && begins_with 42 b then bracketed_comment (drop 1 b) else (if is_run_byte c then record { form = Run; size = prefix_len is_run_byte (c ∷ b) } else record { form = Other; size = 1 })))
  rest-simple c b n39 n34 true e =
      let both : ((c == 45) ≡ true) × (begins_with 45 b ≡ true) = second _ _ e in
      let first : c ≡ 45 = eqb-true c 45 both.0 in let next : b ≡ 45 ∷ drop 1 b = begun-with 45 b both.1 in
      rw (first, next) (simple (drop 1 b))
  rest-simple c b n39 n34 false e = rest-bracket c b n39 n34 e ((c == 47) && begins_with 42 b) refl

  rest-name : (c : ℕ) (b : List ℕ) → (c == 39) ≡ false → (t : Bool) → (c == 34) ≡ t → P c b (if t then delimited QuotedName Unclosed 1 b (size_to 34 b)
      else (if (c == 45) && begins_with 45 b then simple_comment (drop 1 b)
      else (if (c == 47) && begins_with 42 b then bracketed_comment (drop 1 b)
      else (if is_run_byte c then record { form = Run; size = prefix_len is_run_byte (c ∷ b) } else record { form = Other; size = 1 }))))
  rest-name c b n39 true e = let first : c ≡ 34 = eqb-true c 34 e in rw first (name b)
  rest-name c b n39 false e = rest-simple c b n39 e ((c == 45) && begins_with 45 b) refl

  rest-literal : (c : ℕ) (b : List ℕ) → (t : Bool) → (c == 39) ≡ t → P c b (if t then delimited Literal Unclosed 1 b (size_to 39 b)
      else (if c == 34 then delimited QuotedName Unclosed 1 b (size_to 34 b)
      else (if (c == 45) && begins_with 45 b then simple_comment (drop 1 b)
      else (if (c == 47) && begins_with 42 b then bracketed_comment (drop 1 b)
      else (if is_run_byte c then record { form = Run; size = prefix_len is_run_byte (c ∷ b) } else record { form = Other; size = 1 })))))
  rest-literal c b true e = let first : c ≡ 39 = eqb-true c 39 e in rw first (literal b)
  rest-literal c b false e = rest-name c b e (c == 34) refl

  -- what holds of each form holds of the part at the front
  pub by-front : (c : ℕ) (b : List ℕ) → P c b (front (c ∷ b))
  unfolding front
  by-front c b = rest-literal c b (c == 39) refl
