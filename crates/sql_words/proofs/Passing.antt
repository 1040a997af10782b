-- What stands open behind the bytes of a part.
use Rattle.std.proofs.Common.{◌≡◌, ◌==◌, ◌&&◌, if◌then◌else◌, Bool, true, false, ℕ, zero, suc, ◌+◌, List, [], ◌∷◌, take, fold, Option, Some, None, refl, ap, arith}
use Rattle.std.specs.List.{prefix_len}
use Rattle.std.specs.Option.{option_map}
use Rattle.sql_words.specs.Division.{size_to, size_to_bracket, begins_with, is_run_byte}
use Rattle.sql_words.specs.Scanning.{scan_after, ends_scan, begins, continued, spelling_after}
use Rattle.sql_words.specs.declared.scan.Spelling.{Spelling}
use Rattle.sql_words.specs.declared.scan.OpenPart.{OpenPart}
use Rattle.sql_words.specs.declared.scan.OpenPart.TheVariants as o
use Rattle.sql_words.specs.declared.scan.Scan.{Scan}

-- none of these bytes ends a statement
abbrev pub Quiet : Scan → List ℕ → Type 0
Quiet scan [] = Unit {0}
Quiet scan (c ∷ b) = (ends_scan scan c ≡ false) × Quiet (scan_after scan c) b

-- and behind them this stands open
pub record Passes (scan : Scan) (b : List ℕ) (new : Scan) : Type 0 where
  pub quiet : Quiet scan b
  pub goes : fold scan_after scan b ≡ new

abbrev pub in_part : OpenPart → ℕ → Bool → Scan
in_part part level blank = record { open_part = part; level = level; blank = blank }

never : (a c : Bool) → (a && false && c) ≡ false
never true c = refl
never false c = refl

-- a byte of the open part
pub passes-byte : (part : OpenPart) (level : ℕ) (blank : Bool) (c : ℕ) (b : List ℕ) (new : Scan) → begins part c ≡ false → Passes (in_part (continued part c) level blank) b new → Passes (in_part part level blank) (c ∷ b) new
passes-byte part level blank c b new inside later = record {
  quiet = (rw inside (never (c == 59) _), rw inside later.quiet);
  goes = rw inside later.goes;
}

pub passes-none : (scan : Scan) → Passes scan [] scan
passes-none scan = record { quiet = tt; goes = refl }

size-zero : (mark : ℕ) (b : List ℕ) (size : Option ℕ) → option_map (λ n. suc n) size ≡ Some zero → ⊥
size-zero mark b None e = cc
size-zero mark b (Some n) e = let h : suc n ≡ zero = cc in absurd (omega arith)

size-suc : (n : ℕ) (size : Option ℕ) → option_map (λ n. suc n) size ≡ Some (suc n) → size ≡ Some n
size-suc n None e = cc
size-suc n (Some m) e = let h : suc m ≡ suc n = cc in ap Some (omega arith)

size-none : (size : Option ℕ) → option_map (λ n. suc n) size ≡ None → size ≡ None
size-none None e = refl
size-none (Some m) e = cc

-- a part that one byte closes
module _ (part : OpenPart) (mark level : ℕ) (blank : Bool) (stays : (c : ℕ) → begins part c ≡ false) (goes : (c : ℕ) → continued part c ≡ (if c == mark then o.Between else part)) where
  closing : (c : ℕ) (b : List ℕ) (n : ℕ) (t : Bool) → (c == mark) ≡ t → (if t then Some 1 else option_map (λ n. suc n) (size_to mark b)) ≡ Some n
      → ((m : ℕ) → size_to mark b ≡ Some m → Passes (in_part part level blank) (take m b) (in_part o.Between level blank))
      → Passes (in_part part level blank) (take n (c ∷ b)) (in_part o.Between level blank)
  closing c b n true e is later = let one : n ≡ 1 = cc in rw one (passes-byte part level blank c [] _ (stays c) (rw (goes c, e) (passes-none _)))
  closing c b zero false e is later = absurd (size-zero mark b _ is)
  closing c b (suc n) false e is later = passes-byte part level blank c (take n b) _ (stays c) (rw (goes c, e) (later n (size-suc n _ is)))

  pub passes-to : (b : List ℕ) (n : ℕ) → size_to mark b ≡ Some n → Passes (in_part part level blank) (take n b) (in_part o.Between level blank)
  passes-to [] n is = cc
  passes-to (c ∷ b) n is = closing c b n (c == mark) refl is (λ m e. passes-to b m e)

  open-byte : (c : ℕ) (b : List ℕ) (t : Bool) → (c == mark) ≡ t → (if t then Some 1 else option_map (λ n. suc n) (size_to mark b)) ≡ None
      → (size_to mark b ≡ None → Passes (in_part part level blank) b (in_part part level blank)) → Passes (in_part part level blank) (c ∷ b) (in_part part level blank)
  open-byte c b true e is later = cc
  open-byte c b false e is later = passes-byte part level blank c b _ (stays c) (rw (goes c, e) (later (size-none _ is)))

  pub passes-open : (b : List ℕ) → size_to mark b ≡ None → Passes (in_part part level blank) b (in_part part level blank)
  passes-open [] is = passes-none _
  passes-open (c ∷ b) is = open-byte c b (c == mark) refl is (λ e. passes-open b e)

-- a bracketed comment, behind an asterisk or not
abbrev pub bracket : Bool → OpenPart
bracket true = o.Asterisk
bracket false = o.BracketedComment

bracket-stays : (star : Bool) (c : ℕ) → begins (bracket star) c ≡ false
unfolding begins
bracket-stays true c = refl
bracket-stays false c = refl

asterisk-by : (c : ℕ) (t : Bool) → (c == 42) ≡ t → (if t then o.Asterisk else o.BracketedComment) ≡ bracket t
asterisk-by c true e = refl
asterisk-by c false e = refl

bracket-goes : (star : Bool) (c : ℕ) → (star ≡ true → (c == 47) ≡ false) → continued (bracket star) c ≡ bracket (c == 42)
unfolding continued
bracket-goes true c other = rw (other refl) (asterisk-by c (c == 42) refl)
bracket-goes false c other = asterisk-by c (c == 42) refl

bracket-closes : (d : ℕ) → (d == 47) ≡ true → continued o.Asterisk d ≡ o.Between
unfolding continued
bracket-closes d e = rw e refl

module _ (level : ℕ) (blank : Bool) where
  star-next : (c d : ℕ) (b : List ℕ) → ((c == 42) && begins_with 47 (d ∷ b)) ≡ false → (c == 42) ≡ true → (d == 47) ≡ false
  star-next c d b other star = rw star at other

  bracket-closing : (star : Bool) (c : ℕ) (b : List ℕ) (n : ℕ) (t : Bool) → (star ≡ true → (c == 47) ≡ false) → ((c == 42) && begins_with 47 b) ≡ t
      → (if t then Some 2 else option_map (λ n. suc n) (size_to_bracket b)) ≡ Some n
      → ((m : ℕ) → ((c == 42) ≡ true → begins_with 47 b ≡ false) → size_to_bracket b ≡ Some m → Passes (in_part (bracket (c == 42)) level blank) (take m b) (in_part o.Between level blank))
      → Passes (in_part (bracket star) level blank) (take n (c ∷ b)) (in_part o.Between level blank)
  bracket-closing star c [] n true other e is later = let two : n ≡ 2 = cc in absurd (both-false (c == 42) e)
    where
      both-false : (a : Bool) → (a && false) ≡ true → ⊥
      both-false true h = cc
      both-false false h = cc
  bracket-closing star c (d ∷ b) n true other e is later =
      let two : n ≡ 2 = cc in let both : ((c == 42) ≡ true) × ((d == 47) ≡ true) = second (c == 42) (d == 47) e in
      rw two (passes-byte (bracket star) level blank c (d ∷ []) _ (bracket-stays star c) (rw (bracket-goes star c other, both.0)
      (passes-byte o.Asterisk level blank d [] _ (bracket-stays true d) (rw (bracket-closes d both.1) (passes-none _)))))
    where
      second : (a b : Bool) → (a && b) ≡ true → (a ≡ true) × (b ≡ true)
      second true b h = (refl, h)
      second false b h = cc
  bracket-closing star c b zero false other e is later = absurd (size-zero 0 b _ is)
  bracket-closing star c b (suc n) false other e is later = passes-byte (bracket star) level blank c (take n b) _ (bracket-stays star c)
      (rw (bracket-goes star c other) (later n (λ a. rw a at e) (size-suc n _ is)))

  next-byte : (star : Bool) (c : ℕ) (b : List ℕ) → (star ≡ true → begins_with 47 (c ∷ b) ≡ false) → star ≡ true → (c == 47) ≡ false
  next-byte star c b other is = other is

  pub passes-bracket : (star : Bool) (b : List ℕ) (n : ℕ) → (star ≡ true → begins_with 47 b ≡ false) → size_to_bracket b ≡ Some n
      → Passes (in_part (bracket star) level blank) (take n b) (in_part o.Between level blank)
  passes-bracket star [] n other is = cc
  passes-bracket star (c ∷ b) n other is = bracket-closing star c b n ((c == 42) && begins_with 47 b) (next-byte star c b other) refl is (λ m starred e. passes-bracket (c == 42) b m starred e)

  -- some part of a bracketed comment stays open
  pub record StaysOpen (scan : Scan) (b : List ℕ) : Type 0 where
    pub star : Bool
    pub passes : Passes scan b (in_part (bracket star) level blank)

  bracket-open : (star : Bool) (c : ℕ) (b : List ℕ) (t : Bool) → (star ≡ true → (c == 47) ≡ false) → ((c == 42) && begins_with 47 b) ≡ t
      → (if t then Some 2 else option_map (λ n. suc n) (size_to_bracket b)) ≡ None
      → (((c == 42) ≡ true → begins_with 47 b ≡ false) → size_to_bracket b ≡ None → StaysOpen (in_part (bracket (c == 42)) level blank) b)
      → StaysOpen (in_part (bracket star) level blank) (c ∷ b)
  bracket-open star c b true other e is later = cc
  bracket-open star c b false other e is later = let open' : StaysOpen (in_part (bracket (c == 42)) level blank) b = later (λ a. rw a at e) (size-none _ is) in record {
    star = open'.star;
    passes = passes-byte (bracket star) level blank c b _ (bracket-stays star c) (rw (bracket-goes star c other) open'.passes);
  }

  pub open-bracket : (star : Bool) (b : List ℕ) → (star ≡ true → begins_with 47 b ≡ false) → size_to_bracket b ≡ None → StaysOpen (in_part (bracket star) level blank) b
  open-bracket star [] other is = record { star = star; passes = passes-none _ }
  open-bracket star (c ∷ b) other is = bracket-open star c b ((c == 42) && begins_with 47 b) (next-byte star c b other) refl is (λ starred e. open-bracket (c == 42) b starred e)

  run-stays : (spelling : Spelling) (c : ℕ) → is_run_byte c ≡ true → begins (o.Run spelling) c ≡ false
  unfolding begins
  run-stays spelling c is = rw is refl

  run-goes : (spelling : Spelling) (c : ℕ) → continued (o.Run spelling) c ≡ o.Run (spelling_after spelling c)
  unfolding continued
  run-goes spelling c = refl

  run-by : (spelling : Spelling) (c : ℕ) (b : List ℕ) (t : Bool) → is_run_byte c ≡ t
      → ((next : Spelling) → Passes (in_part (o.Run next) level blank) (take (prefix_len is_run_byte b) b) (in_part (o.Run (fold spelling_after next (take (prefix_len is_run_byte b) b))) level blank))
      → Passes (in_part (o.Run spelling) level blank) (take (if t then 1 + prefix_len is_run_byte b else 0) (c ∷ b))
      (in_part (o.Run (fold spelling_after spelling (take (if t then 1 + prefix_len is_run_byte b else 0) (c ∷ b)))) level blank)
  run-by spelling c b true e later = rw (one-plus (prefix_len is_run_byte b)) (passes-byte (o.Run spelling) level blank c _ _ (run-stays spelling c e) (rw (run-goes spelling c) (later (spelling_after spelling c))))
    where
      one-plus : (n : ℕ) → 1 + n ≡ suc n
      one-plus n = omega arith
  run-by spelling c b false e later = passes-none _

  -- the rest of a run
  pub passes-run : (spelling : Spelling) (b : List ℕ)
      → Passes (in_part (o.Run spelling) level blank) (take (prefix_len is_run_byte b) b) (in_part (o.Run (fold spelling_after spelling (take (prefix_len is_run_byte b) b))) level blank)
  passes-run spelling [] = passes-none _
  passes-run spelling (c ∷ b) = run-by spelling c b (is_run_byte c) refl (λ next. passes-run next b)
