-- A part at the front of what comes, behind other parts.
use Rattle.std.proofs.Common.{◌≡◌, ◌≤◌, ◌==◌, ◌&&◌, ◌||◌, if◌then◌else◌, Bool, true, false, ℕ, suc, ◌+◌, List, [], ◌∷◌, take, drop, length, fold, Option, Some, None, refl, sym, ap, ◌∙◌, arith, codes}
use Rattle.std.specs.List.{prefix_len}
use Rattle.std.specs.Str.{bytes_eq}
use Rattle.std.proofs.lemmas.Bool.{eqb-true}
use Rattle.std.proofs.Math.Seq.{take-length}
use Rattle.std.proofs.Math.ListN.{drop_of_length-le}
use Rattle.sql_words.specs.Division.{Form, Literal, QuotedName, SimpleComment, BracketedComment, Unclosed, Run, Other, Extent, delimited, size_to, size_to_bracket, front, begins_with, is_run_byte, is_space, is_blank_part, level_past, ends_statement}
use Rattle.sql_words.specs.Scanning.{scan_after, ends_scan, begins, begun, continued, spelling_after, level_with, is_blank_scan, may_be_blank}
use Rattle.sql_words.specs.declared.scan.Spelling.{Spelling}
use Rattle.sql_words.specs.declared.scan.Spelling.TheVariants as s
use Rattle.sql_words.specs.declared.scan.OpenPart.{OpenPart}
use Rattle.sql_words.specs.declared.scan.OpenPart.TheVariants as o
use Rattle.sql_words.specs.declared.scan.Scan.{Scan}
use Rattle.sql_words.proofs.Fronts.{IsRunByte, IsOther, by-front}
use Rattle.sql_words.proofs.Passing.{Quiet, Passes, in_part, passes-byte, passes-to, passes-open, passes-bracket, open-bracket, StaysOpen, bracket, passes-run}
use Rattle.sql_words.proofs.Spellings.{level-run}

-- the next byte begins a part
abbrev pub is_fresh : OpenPart → List ℕ → Bool
is_fresh part [] = true
is_fresh part (c ∷ b) = begins part c

-- parts stand behind, with this level, and blank or not, and a part begins what comes
pub record Stands (scan : Scan) (level : ℕ) (blank : Bool) (b : List ℕ) : Type 0 where
  pub fresh : is_fresh scan.open_part b ≡ true
  pub levelled : level_with scan.level scan.open_part ≡ level
  pub blankness : is_blank_scan scan ≡ blank

-- the part at the front of b is read
pub record Steps (scan : Scan) (level : ℕ) (blank : Bool) (b : List ℕ) (e : Extent) : Type 0 where
  pub new : Scan
  pub goes : fold scan_after scan (take e.size b) ≡ new
  pub stands : Stands new (level_past level e.form (take e.size b)) (blank && is_blank_part e.form (take e.size b)) (drop e.size b)
  pub quiet : ends_statement level e.form (take e.size b) ≡ false → Quiet scan (take e.size b)
  pub ended : ends_statement level e.form (take e.size b) ≡ true → (b ≡ 59 ∷ drop e.size b) × (level ≡ 0)

-- the first byte of a part
first-byte : (scan : Scan) (level : ℕ) (blank : Bool) (c : ℕ) (b : List ℕ) → Stands scan level blank (c ∷ b) → scan_after scan c ≡ in_part (begun c) level (blank && may_be_blank c)
first-byte scan level blank c b at = rw (at.fresh, at.levelled, at.blankness) refl

first-quiet : (scan : Scan) (c : ℕ) → (c == 59) ≡ false → ends_scan scan c ≡ false
first-quiet scan c other = rw other refl

-- a part of more bytes than one
begins-part : (scan new : Scan) (level : ℕ) (blank : Bool) (c : ℕ) (b rest : List ℕ) → Stands scan level blank (c ∷ b) → (c == 59) ≡ false
    → Passes (in_part (begun c) level (blank && may_be_blank c)) rest new → Passes scan (c ∷ rest) new
begins-part scan new level blank c b rest at other later = record {
  quiet = (first-quiet scan c other, rw (first-byte scan level blank c b at) later.quiet);
  goes = rw (first-byte scan level blank c b at) later.goes;
}

-- a part that doesn't end a statement
passed : (scan new : Scan) (level : ℕ) (blank : Bool) (b : List ℕ) (e : Extent) → Passes scan (take e.size b) new
    → Stands new (level_past level e.form (take e.size b)) (blank && is_blank_part e.form (take e.size b)) (drop e.size b)
    → ends_statement level e.form (take e.size b) ≡ false → Steps scan level blank b e
passed scan new level blank b e passes stands never = record {
  new = new;
  goes = passes.goes;
  stands = stands;
  quiet = λ _. passes.quiet;
  ended = λ h. cc;
}

and-true : (a : Bool) → (a && true) ≡ a
and-true true = refl
and-true false = refl

and-false : (a : Bool) → (a && false) ≡ false
and-false true = refl
and-false false = refl

fresh-between : (b : List ℕ) → is_fresh o.Between b ≡ true
unfolding begins
fresh-between [] = refl
fresh-between (c ∷ b) = refl

-- between parts
between : (level : ℕ) (blank : Bool) (b : List ℕ) → Stands (in_part o.Between level blank) level blank b
between level blank b = record { fresh = fresh-between b; levelled = refl; blankness = and-true blank }

one-plus : (n : ℕ) → 1 + n ≡ suc n
one-plus n = omega arith

two-plus : (n : ℕ) → 2 + n ≡ suc (suc n)
two-plus n = omega arith

-- a part that begins with c, and has n bytes more
part-step : (scan new : Scan) (level : ℕ) (blank : Bool) (c : ℕ) (b : List ℕ) (form : Form) (n : ℕ) → Stands scan level blank (c ∷ b) → (c == 59) ≡ false
    → Passes (in_part (begun c) level (blank && may_be_blank c)) (take n b) new
    → Stands new (level_past level form (c ∷ take n b)) (blank && is_blank_part form (c ∷ take n b)) (drop n b)
    → ends_statement level form (c ∷ take n b) ≡ false → Steps scan level blank (c ∷ b) (record { form = form; size = suc n })
part-step scan new level blank c b form n at other later stands never = passed scan new level blank (c ∷ b) (record { form = form; size = suc n }) (begins-part scan new level blank c b (take n b) at other later) stands never

-- all of b is left open
open-stands : (part : OpenPart) (level new_level : ℕ) (blank new_blank : Bool) (b : List ℕ) → level_with level part ≡ new_level → is_blank_scan (in_part part level blank) ≡ new_blank → Stands (in_part part level blank) new_level new_blank (drop (length b) b)
open-stands part level new_level blank new_blank b levelled blankness = let few : length b ≤ length b = omega arith in rw (drop_of_length-le b few) (record { fresh = refl; levelled = levelled; blankness = blankness })

whole : (scan new : Scan) (b : List ℕ) → Passes scan b new → Passes scan (take (length b) b) new
whole scan new b passes = rw (take-length b) passes

step-literal : (scan : Scan) (level : ℕ) (blank : Bool) (b : List ℕ) (size : Option ℕ) → size_to 39 b ≡ size → Stands scan level blank (39 ∷ b) → Steps scan level blank (39 ∷ b) (delimited Literal Unclosed 1 b size)
unfolding begun may_be_blank is_space begins continued
step-literal scan level blank b (Some n) is at = rw (one-plus n) (part-step scan _ level blank 39 b Literal n at refl
    (passes-to o.Literal 39 level (blank && false) (λ c. refl) (λ c. refl) b n is) (between level (blank && false) (drop n b)) refl)
step-literal scan level blank b None is at = rw (one-plus (length b)) (part-step scan (in_part o.Literal level (blank && false)) level blank 39 b Unclosed (length b) at refl
    (whole _ _ b (passes-open o.Literal 39 level (blank && false) (λ c. refl) (λ c. refl) b is)) (open-stands o.Literal level level (blank && false) (blank && false) b refl (and-false (blank && false) ∙ sym (and-false blank))) refl)

step-name : (scan : Scan) (level : ℕ) (blank : Bool) (b : List ℕ) (size : Option ℕ) → size_to 34 b ≡ size → Stands scan level blank (34 ∷ b) → Steps scan level blank (34 ∷ b) (delimited QuotedName Unclosed 1 b size)
unfolding begun may_be_blank is_space begins continued
step-name scan level blank b (Some n) is at = rw (one-plus n) (part-step scan _ level blank 34 b QuotedName n at refl
    (passes-to o.QuotedName 34 level (blank && false) (λ c. refl) (λ c. refl) b n is) (between level (blank && false) (drop n b)) refl)
step-name scan level blank b None is at = rw (one-plus (length b)) (part-step scan (in_part o.QuotedName level (blank && false)) level blank 34 b Unclosed (length b) at refl
    (whole _ _ b (passes-open o.QuotedName 34 level (blank && false) (λ c. refl) (λ c. refl) b is)) (open-stands o.QuotedName level level (blank && false) (blank && false) b refl (and-false (blank && false) ∙ sym (and-false blank))) refl)

step-simple : (scan : Scan) (level : ℕ) (blank : Bool) (b : List ℕ) (size : Option ℕ) → size_to 10 b ≡ size → Stands scan level blank (45 ∷ 45 ∷ b) → Steps scan level blank (45 ∷ 45 ∷ b) (delimited SimpleComment SimpleComment 2 b size)
unfolding begun may_be_blank is_space begins continued
step-simple scan level blank b (Some n) is at = rw (two-plus n) (part-step scan _ level blank 45 (45 ∷ b) SimpleComment (suc n) at refl
    (passes-byte o.MinusSign level (blank && true) 45 (take n b) _ refl (passes-to o.SimpleComment 10 level (blank && true) (λ c. refl) (λ c. refl) b n is)) (between level (blank && true) (drop n b)) refl)
step-simple scan level blank b None is at = rw (two-plus (length b)) (part-step scan (in_part o.SimpleComment level (blank && true)) level blank 45 (45 ∷ b) SimpleComment (suc (length b)) at refl
    (passes-byte o.MinusSign level (blank && true) 45 (take (length b) b) _ refl (whole _ _ b (passes-open o.SimpleComment 10 level (blank && true) (λ c. refl) (λ c. refl) b is)))
    (open-stands o.SimpleComment level level (blank && true) (blank && true) b refl (and-true (blank && true))) refl)

bracket-level : (star : Bool) (level : ℕ) → level_with level (bracket star) ≡ level
bracket-level true level = refl
bracket-level false level = refl

bracket-blank : (star blank : Bool) (level : ℕ) → is_blank_scan (in_part (bracket star) level blank) ≡ false
bracket-blank true blank level = and-false blank
bracket-blank false blank level = and-false blank

step-bracket : (scan : Scan) (level : ℕ) (blank : Bool) (b : List ℕ) (size : Option ℕ) → size_to_bracket b ≡ size → Stands scan level blank (47 ∷ 42 ∷ b) → Steps scan level blank (47 ∷ 42 ∷ b) (delimited BracketedComment Unclosed 2 b size)
unfolding begun may_be_blank is_space begins continued
step-bracket scan level blank b (Some n) is at = rw (two-plus n) (part-step scan _ level blank 47 (42 ∷ b) BracketedComment (suc n) at refl
    (passes-byte o.Solidus level (blank && true) 42 (take n b) _ refl (passes-bracket level (blank && true) false b n (λ e. cc) is)) (between level (blank && true) (drop n b)) refl)
step-bracket scan level blank b None is at =
    let inside : StaysOpen level (blank && true) (in_part o.BracketedComment level (blank && true)) b = open-bracket level (blank && true) false b (λ e. cc) is in
    rw (two-plus (length b)) (part-step scan (in_part (bracket inside.star) level (blank && true)) level blank 47 (42 ∷ b) Unclosed (suc (length b)) at refl
    (passes-byte o.Solidus level (blank && true) 42 (take (length b) b) _ refl (whole _ _ b inside.passes))
    (open-stands (bracket inside.star) level level (blank && true) (blank && false) b (bracket-level inside.star level) (bracket-blank inside.star (blank && true) level ∙ sym (and-false blank))) refl)

begun-run : (c : ℕ) → IsRunByte c → begun c ≡ o.Run (spelling_after s.Nothing c)
unfolding begun
begun-run c is = rw (is.no_literal, is.no_name, is.no_minus, is.no_solidus, is.byte) refl

fresh-run : (spelling : Spelling) (b : List ℕ) → is_fresh (o.Run spelling) (drop (prefix_len is_run_byte b) b) ≡ true
unfolding begins
fresh-run spelling [] = refl
fresh-run spelling (c ∷ b) = by (is_run_byte c) refl (fresh-run spelling b)
  where
    by : (t : Bool) → is_run_byte c ≡ t → is_fresh (o.Run spelling) (drop (prefix_len is_run_byte b) b) ≡ true → is_fresh (o.Run spelling) (drop (if t then 1 + prefix_len is_run_byte b else 0) (c ∷ b)) ≡ true
    by true e later = rw (one-plus (prefix_len is_run_byte b)) later
    by false e later = rw e refl

not-semicolon : (c : ℕ) → is_run_byte c ≡ true → (t : Bool) → (c == 59) ≡ t → t ≡ false
unfolding is_run_byte
not-semicolon c run true e = absurd (let same : is_run_byte c ≡ is_run_byte 59 = ap is_run_byte (eqb-true c 59 e) in cc)
not-semicolon c run false e = refl

step-run : (scan : Scan) (level : ℕ) (blank : Bool) (c : ℕ) (b : List ℕ) → IsRunByte c → Stands scan level blank (c ∷ b) → Steps scan level blank (c ∷ b) (record { form = Run; size = 1 + prefix_len is_run_byte b })
step-run scan level blank c b is at =
    let n : ℕ = prefix_len is_run_byte b in
    let spelling : Spelling = fold spelling_after (spelling_after s.Nothing c) (take n b) in
    rw (one-plus (prefix_len is_run_byte b)) (part-step scan (in_part (o.Run spelling) level (blank && may_be_blank c)) level blank c b Run n at (not-semicolon c is.byte (c == 59) refl)
    (rw (begun-run c is) (passes-run level (blank && may_be_blank c) (spelling_after s.Nothing c) b))
    (record { fresh = fresh-run spelling b; levelled = level-run level (c ∷ take n b); blankness = and-false (blank && may_be_blank c) ∙ sym (and-false blank) }) refl)

-- the part that another byte begins
data Begins (c : ℕ) (b : List ℕ) (part : OpenPart) : Type 0 where
  minus : c ≡ 45 → part ≡ o.MinusSign → begins_with 45 b ≡ false → Begins c b part
  solidus : c ≡ 47 → part ≡ o.Solidus → begins_with 42 b ≡ false → Begins c b part
  alone : (c == 45) ≡ false → (c == 47) ≡ false → part ≡ o.Between → Begins c b part

begins-other : (c : ℕ) (b : List ℕ) → IsOther c b → (t u : Bool) → (c == 45) ≡ t → (c == 47) ≡ u → Begins c b (begun c)
unfolding begun
begins-other c b is true u e f = minus (eqb-true c 45 e) (rw (is.no_literal, is.no_name, e) refl) (rw e at is.no_simple)
begins-other c b is false true e f = solidus (eqb-true c 47 f) (rw (is.no_literal, is.no_name, e, f) refl) (rw f at is.no_bracket)
begins-other c b is false false e f = alone e f (rw (is.no_literal, is.no_name, e, f, is.no_run) refl)

fresh-minus : (b : List ℕ) → begins_with 45 b ≡ false → is_fresh o.MinusSign b ≡ true
unfolding begins
fresh-minus [] other = refl
fresh-minus (c ∷ b) other = rw other refl

fresh-solidus : (b : List ℕ) → begins_with 42 b ≡ false → is_fresh o.Solidus b ≡ true
unfolding begins
fresh-solidus [] other = refl
fresh-solidus (c ∷ b) other = rw other refl

alone-blank : (c : ℕ) (blank : Bool) → (c == 45) ≡ false → (c == 47) ≡ false → ((blank && may_be_blank c) && true) ≡ (blank && (is_space c && true))
unfolding may_be_blank
alone-blank c blank e f = rw (e, f) (by blank (is_space c))
  where
    by : (a b : Bool) → ((a && ((b || false) || false)) && true) ≡ (a && (b && true))
    by true true = refl
    by true false = refl
    by false b = refl

stands-other : (level : ℕ) (blank : Bool) (c : ℕ) (b : List ℕ) → Begins c b (begun c) → Stands (in_part (begun c) level (blank && may_be_blank c)) level (blank && (is_space c && true)) b
unfolding is_space
stands-other level blank c b (minus e is other) = rw (is, e) (record { fresh = fresh-minus b other; levelled = refl; blankness = and-false (blank && may_be_blank 45) ∙ sym (and-false blank) })
stands-other level blank c b (solidus e is other) = rw (is, e) (record { fresh = fresh-solidus b other; levelled = refl; blankness = and-false (blank && may_be_blank 47) ∙ sym (and-false blank) })
stands-other level blank c b (alone e f is) = rw is (record { fresh = fresh-between b; levelled = refl; blankness = alone-blank c blank e f })

both : (a b : Bool) → (a && b) ≡ true → (a ≡ true) × (b ≡ true)
both true b h = (refl, h)
both false b h = cc

quiet-other : (scan : Scan) (level : ℕ) (blank : Bool) (c : ℕ) (b : List ℕ) → Stands scan level blank (c ∷ b) → (bytes_eq (c ∷ []) (codes ";") && (level == 0)) ≡ false → ends_scan scan c ≡ false
quiet-other scan level blank c b at other = rw (at.fresh, at.levelled) (by (c == 59) (level == 0) other)
  where
    by : (x y : Bool) → ((x && true) && y) ≡ false → ((x && true) && y) ≡ false
    by x y h = h

step-other : (scan : Scan) (level : ℕ) (blank : Bool) (c : ℕ) (b : List ℕ) → IsOther c b → Stands scan level blank (c ∷ b) → Steps scan level blank (c ∷ b) (record { form = Other; size = 1 })
step-other scan level blank c b is at = record {
  new = in_part (begun c) level (blank && may_be_blank c);
  goes = first-byte scan level blank c b at;
  stands = stands-other level blank c b (begins-other c b is (c == 45) (c == 47) refl refl);
  quiet = λ other. (quiet-other scan level blank c b at other, tt);
  ended = λ h. let e : (bytes_eq (c ∷ []) (codes ";") ≡ true) × ((level == 0) ≡ true) = both _ _ h in
      let f : ((c == 59) ≡ true) × (true ≡ true) = both (c == 59) true e.0 in (ap (λ d. d ∷ b) (eqb-true c 59 f.0), eqb-true level 0 e.1);
}

-- the part at the front is read
pub steps : (scan : Scan) (level : ℕ) (blank : Bool) (c : ℕ) (b : List ℕ) → Stands scan level blank (c ∷ b) → Steps scan level blank (c ∷ b) (front (c ∷ b))
steps scan level blank c b at = by-front (λ c b e. Stands scan level blank (c ∷ b) → Steps scan level blank (c ∷ b) e)
    (λ b. step-literal scan level blank b (size_to 39 b) refl)
    (λ b. step-name scan level blank b (size_to 34 b) refl)
    (λ b. step-simple scan level blank b (size_to 10 b) refl)
    (λ b. step-bracket scan level blank b (size_to_bracket b) refl)
    (λ c b is. step-run scan level blank c b is)
    (λ c b is. step-other scan level blank c b is) c b at
