-- The texts of a stream, its rest and whether it is blank are those of its parts.
use Rattle.std.proofs.Common.{◌≡◌, ◌&&◌, Bool, true, false, ℕ, List, [], ◌∷◌, ◌++◌, take, drop, fold, refl, sym, ap, subst, ◌∙◌, append_assoc, append-nil}
use Rattle.std.proofs.lemmas.Grind.{fold-append}
use Rattle.std.proofs.lemmas.List.{take-append-drop}
use Rattle.sql_words.specs.Division.{Form, Part, Divides, front, front_part, texts_of, rest_of, ends_statement, level_past, is_blank_part, are_blank}
use Rattle.sql_words.specs.Scanning.{scan_of, scan_after, start, is_blank_scan, begins}
use Rattle.sql_words.specs.Stream.{texts_from, rest_from, texts, rest, ends, is_blank}
use Rattle.sql_words.specs.declared.scan.Scan.{Scan}
use Rattle.sql_words.proofs.Passing.{Quiet}
use Rattle.sql_words.proofs.Scans.{scan_of-more}
use Rattle.sql_words.proofs.Steps.{Stands, Steps, steps}

-- bytes that end nothing are held
through : (held bs more : List ℕ) → Quiet (scan_of held) bs → (texts_from held (bs ++ more) ≡ texts_from (held ++ bs) more) × (rest_from held (bs ++ more) ≡ rest_from (held ++ bs) more)
unfolding ends
through held [] more quiet = rw (append-nil held) (refl, refl)
through held (c ∷ bs) more quiet = rw (quiet.0, ← append_assoc held (c ∷ []) bs)
    (through (held ++ c ∷ []) bs more (let P : Scan → Type 0 = λ s. Quiet s bs in subst P (sym (scan_of-more held c)) quiet.1))

-- a semicolon at level 0
at-end : (held b : List ℕ) (blank : Bool) → Stands (scan_of held) 0 blank (59 ∷ b) → ends held 59 ≡ true
unfolding ends
at-end held b blank at = rw (at.fresh, at.levelled) refl

-- these parts make the texts and the rest
pub record Makes (held b : List ℕ) (level : ℕ) (ps : List Part) : Type 0 where
  pub some_texts : texts_from held b ≡ texts_of level held ps
  pub some_rest : rest_from held b ≡ rest_of level held ps

scan-of-append : (held bs : List ℕ) → scan_of (held ++ bs) ≡ fold scan_after (scan_of held) bs
scan-of-append held bs = fold-append scan_after _ held bs

made-by-end : (held b more : List ℕ) (level : ℕ) (blank : Bool) (form : Form) (bytes : List ℕ) (ps : List Part) → b ≡ 59 ∷ more → level ≡ 0 → Stands (scan_of held) level blank b
    → ends_statement level form bytes ≡ true → Makes [] more 0 ps → Makes held b level (record { form = form; bytes = bytes } ∷ ps)
made-by-end held b more level blank form bytes ps is low at ended later =
    let at' : Stands (scan_of held) 0 blank (59 ∷ more) = rw (is, low) at at in
    let e : ends held 59 ≡ true = at-end held more blank at' in record {
      some_texts = rw (is, e, ended) (ap (λ texts. held ∷ texts) later.some_texts);
      some_rest = rw (is, e, ended) later.some_rest;
    }

made-by-part : (held b more : List ℕ) (level : ℕ) (form : Form) (bytes : List ℕ) (ps : List Part) → bytes ++ more ≡ b → Quiet (scan_of held) bytes
    → ends_statement level form bytes ≡ false → Makes (held ++ bytes) more (level_past level form bytes) ps → Makes held b level (record { form = form; bytes = bytes } ∷ ps)
made-by-part held b more level form bytes ps joined quiet goes later =
    let passed : (texts_from held (bytes ++ more) ≡ texts_from (held ++ bytes) more) × (rest_from held (bytes ++ more) ≡ rest_from (held ++ bytes) more) = through held bytes more quiet in record {
      some_texts = rw (← joined, goes) (passed.0 ∙ later.some_texts);
      some_rest = rw (← joined, goes) (passed.1 ∙ later.some_rest);
    }

fresh-start : (b : List ℕ) → Stands (scan_of []) 0 true b
unfolding begins
fresh-start [] = record { fresh = refl; levelled = refl; blankness = refl }
fresh-start (c ∷ b) = record { fresh = refl; levelled = refl; blankness = refl }

-- the parts make what the part at the front and the others make
front-makes : (held b : List ℕ) (level : ℕ) (blank : Bool) (ps : List Part) → Stands (scan_of held) level blank b → Steps (scan_of held) level blank b (front b)
    → (t : Bool) → ends_statement level (front b).form (take (front b).size b) ≡ t
    → ((held' : List ℕ) (level' : ℕ) (blank' : Bool) → Stands (scan_of held') level' blank' (drop (front b).size b) → Makes held' (drop (front b).size b) level' ps)
    → Makes held b level (front_part b ∷ ps)
front-makes held b level blank ps at step true e later =
    let ended : (b ≡ 59 ∷ drop (front b).size b) × (level ≡ 0) = step.ended e in
    made-by-end held b (drop (front b).size b) level blank _ _ ps ended.0 ended.1 at e (later [] 0 true (fresh-start (drop (front b).size b)))
front-makes held b level blank ps at step false e later =
    let goes : scan_of (held ++ take (front b).size b) ≡ step.new = scan-of-append held (take (front b).size b) ∙ step.goes in
    let behind : Stands (scan_of (held ++ take (front b).size b)) (level_past level (front b).form (take (front b).size b)) (blank && is_blank_part (front b).form (take (front b).size b)) (drop (front b).size b) = rw goes step.stands in
    made-by-part held b (drop (front b).size b) level _ _ ps (take-append-drop (front b).size b) (step.quiet e) e (later (held ++ take (front b).size b) _ _ behind)

by-parts : (ps : List Part) (b held : List ℕ) (level : ℕ) (blank : Bool) → Stands (scan_of held) level blank b → Divides ps b → Makes held b level ps
by-parts [] b held level blank at d = rw d (record { some_texts = refl; some_rest = refl })
by-parts (p ∷ ps) [] held level blank at d = absurd (d.0 refl)
by-parts (p ∷ ps) (c ∷ b) held level blank at d = rw d.1 (front-makes held (c ∷ b) level blank ps at (steps (scan_of held) level blank c b at) (ends_statement level (front (c ∷ b)).form (take (front (c ∷ b)).size (c ∷ b))) refl
    (λ held' level' blank' at'. by-parts ps (drop (front (c ∷ b)).size (c ∷ b)) held' level' blank' at' d.2))

-- the texts and the rest of a stream are those of its parts
pub texts-by-parts : (b : List ℕ) (ps : List Part) → Divides ps b → (texts b ≡ texts_of 0 [] ps) × (rest b ≡ rest_of 0 [] ps)
texts-by-parts b ps d = let makes : Makes [] b 0 ps = by-parts ps b [] 0 true (fresh-start b) d in (makes.some_texts, makes.some_rest)

and-assoc : (a b c : Bool) → ((a && b) && c) ≡ (a && (b && c))
and-assoc true b c = refl
and-assoc false b c = refl

and-true : (a : Bool) → (a && true) ≡ a
and-true true = refl
and-true false = refl

blank-parts : (ps : List Part) (b : List ℕ) (scan : Scan) (level : ℕ) (blank : Bool) → Stands scan level blank b → Divides ps b → is_blank_scan (fold scan_after scan b) ≡ (blank && are_blank ps)
blank-parts [] b scan level blank at d = rw d (at.blankness ∙ sym (and-true blank))
blank-parts (p ∷ ps) [] scan level blank at d = absurd (d.0 refl)
blank-parts (p ∷ ps) (c ∷ b) scan level blank at d =
    let step : Steps scan level blank (c ∷ b) (front (c ∷ b)) = steps scan level blank c b at in
    let n : ℕ = (front (c ∷ b)).size in
    let later : is_blank_scan (fold scan_after step.new (drop (front (c ∷ b)).size (c ∷ b)))
    ≡ ((blank && is_blank_part (front (c ∷ b)).form (take (front (c ∷ b)).size (c ∷ b))) && are_blank ps) = blank-parts ps (drop (front (c ∷ b)).size (c ∷ b)) step.new _ _ step.stands d.2 in
    let joined : fold scan_after scan (c ∷ b) ≡ fold scan_after step.new (drop (front (c ∷ b)).size (c ∷ b)) =
    ap (λ l. fold scan_after scan l) (sym (take-append-drop (front (c ∷ b)).size (c ∷ b))) ∙ (fold-append scan_after scan (take (front (c ∷ b)).size (c ∷ b)) (drop (front (c ∷ b)).size (c ∷ b)) ∙ ap (λ s. fold scan_after s (drop (front (c ∷ b)).size (c ∷ b))) step.goes) in
    ap is_blank_scan joined ∙ (later ∙ (and-assoc blank _ (are_blank ps) ∙ ap (λ q. blank && are_blank (q ∷ ps)) (sym d.1)))

-- a stream is blank where its parts are
pub blank-by-parts : (b : List ℕ) (ps : List Part) → Divides ps b → is_blank b ≡ are_blank ps
unfolding is_blank
blank-by-parts b ps d = blank-parts ps b start 0 true (fresh-start b) d
