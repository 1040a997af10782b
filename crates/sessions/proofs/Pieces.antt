-- What was run of a piece, statement by statement.
use Rattle.std.proofs.Common.{◌≡◌, ◌<◌, ◌≤◌, true, false, if◌then◌else◌, ℕ, ◌+◌, ◌-◌, List, [], ◌∷◌, ◌++◌, length, take, drop, Option, Some, Ok, Err, refl, ap, sym, ◌∙◌, arith, append-nil, length-drop}
use Rattle.std.proofs.lemmas.List.{take_rest, take-append-drop}
use Rattle.std.proofs.Math.Seq.{take-add}
use Rattle.sessions.specs.Printed.{reply_text}
use Rattle.sql_words.specs.Stream.{ends, texts_from, rest_from, Fits}
use Rattle.sql_words.proofs.Streams.{texts_from-append, rest_from-append, rest_from-none}
use Rattle.sql_words.specs.Split.{Split}
use Rattle.sql_words.specs.Splitting.{Ends, Holds, Overflows}
use Rattle.sessions.specs.Runs.{Ran, Answered, Broke, Overran}
use Rattle.sessions.proofs.RunLaws.{Ran-append, Ran-none, count-append}
use Rattle.cat_engine.specs.declared.reply.Reply.{Reply}

-- the text that the splitter shows is the one that ended
pub piece-text : (piece text shown : List ℕ) (used : ℕ) (middle new : Split) → Ends middle piece used new text → new.last ≡ Some shown → shown ≡ text
piece-text piece text shown used middle new ended is = let last : new.last ≡ Some text = ap (λ (s : Split). s.last) ended.after in cc

-- a text that ended had room
text-short : (held b text : List ℕ) → texts_from held b ≡ text ∷ [] → Fits held b → length text ≤ 65535
text-short held [] text texts fits = absurd (let none : [] ≡ text ∷ [] = texts in cc)
text-short held (c ∷ b) text texts fits =
    elim (ends held c) as (λ e. (if e then held ∷ texts_from [] b else texts_from (held ++ c ∷ []) b) ≡ text ∷ [] → Fits (if e then [] else held ++ c ∷ []) b → length text ≤ 65535) [
      | true ↦ λ t f. let same : held ≡ text = cc in let long = ap length same in let room = fits.0 in omega (arith, long, room)
      | false ↦ text-short (held ++ c ∷ []) b text
    ] texts fits.1

pub piece-short : (piece text : List ℕ) (used : ℕ) (middle new : Split) → Ends middle piece used new text → length text ≤ 65535
piece-short piece text used middle new ended = text-short middle.held (take used piece) text ended.texts ended.fits

pub piece-rest : (held piece text : List ℕ) (at used : ℕ) (middle new : Split) → middle.held ≡ rest_from held (take at piece)
    → Ends middle (take (length piece - at) (drop at piece)) used new text → new.held ≡ rest_from held (take (at + used) piece)
piece-rest held piece text at used middle new is ended =
    let rest : rest_from middle.held (take used (drop at piece)) ≡ [] = rw (take_rest piece at) at ended.rest in
    rw (take-add at used piece, rest_from-append held (take at piece) (take used (drop at piece)), ← is, rest) (ap (λ (s : Split). s.held) ended.after)

pub piece-held : (held piece : List ℕ) (at : ℕ) (middle new : Split) → middle.held ≡ rest_from held (take at piece)
    → Holds middle (take (length piece - at) (drop at piece)) new → new.held ≡ rest_from held piece
piece-held held piece at middle new is holds =
    let texts : texts_from middle.held (drop at piece) ≡ [] = rw (take_rest piece at) at holds.texts in
    let after : new.held ≡ middle.held ++ drop at piece = rw (take_rest piece at) at (ap (λ (s : Split). s.held) holds.after) in
    after ∙ (sym (rest_from-none middle.held (drop at piece) texts)
    ∙ (ap (λ h. rest_from h (drop at piece)) is ∙ (sym (rest_from-append held (take at piece) (drop at piece)) ∙ ap (λ b. rest_from held b) (take-append-drop at piece))))

module _ {S : Type 0} (steps : S → List ℕ → Reply → S → Type 0) where
  -- one text
  pub Ran-one : {T E : Type 0} → (a b : S) (held p text : List ℕ) (g0 g1 : Option (List ℕ)) (m0 m1 : ℕ) (v : T) → texts_from held p ≡ text ∷ [] → Fits held p
      → Answered steps {T = T} {E = E} a text b g0 g1 m0 m1 (Ok v) → Ran steps a held p b g0 g1 m0 m1
  Ran-one a b held p text g0 g1 m0 m1 v is fits answered = record {
    replies = answered.reply ∷ [];
    run = rw is (b, answered.step, refl);
    got = rw (append-nil (reply_text answered.reply)) answered.bytes;
    count = answered.count;
    fits = fits;
  }

  -- the next text of a piece
  pub piece-statement : {T E : Type 0} → (a b c : S) (held piece text : List ℕ) (at used : ℕ) (middle new : Split) (g0 g1 g2 : Option (List ℕ)) (m0 m1 m2 : ℕ) (v : T)
      → middle.held ≡ rest_from held (take at piece) → Ran steps a held (take at piece) b g0 g1 m0 m1 → Ends middle (take (length piece - at) (drop at piece)) used new text
      → Answered steps {T = T} {E = E} b text c g1 g2 m1 m2 (Ok v) → Ran steps a held (take (at + used) piece) c g0 g2 m0 m2
  piece-statement {T = T} {E = E} a b c held piece text at used middle new g0 g1 g2 m0 m1 m2 v is ran ended answered =
      let texts : texts_from middle.held (take used (drop at piece)) ≡ text ∷ [] = rw (take_rest piece at) at ended.texts in
      let fits : Fits middle.held (take used (drop at piece)) = rw (take_rest piece at) at ended.fits in
      rw (take-add at used piece) (Ran-append steps a b c held (take at piece) (take used (drop at piece)) middle.held g0 g1 g2 m0 m1 m2 is ran
      (Ran-one {T = T} {E = E} b c middle.held (take used (drop at piece)) text g1 g2 m1 m2 v texts fits answered))

  -- the rest of a piece, in which no text ends
  pub piece-end : (a b : S) (held piece : List ℕ) (at : ℕ) (middle new : Split) (g0 g1 : Option (List ℕ)) (m0 m1 : ℕ)
      → middle.held ≡ rest_from held (take at piece) → Ran steps a held (take at piece) b g0 g1 m0 m1 → Holds middle (take (length piece - at) (drop at piece)) new
      → Ran steps a held piece b g0 g1 m0 m1
  piece-end a b held piece at middle new g0 g1 m0 m1 is ran holds =
      let texts : texts_from middle.held (drop at piece) ≡ [] = rw (take_rest piece at) at holds.texts in
      let fits : Fits middle.held (drop at piece) = rw (take_rest piece at) at holds.fits in
      rw (← take-append-drop at piece) (Ran-append steps a b b held (take at piece) (drop at piece) middle.held g0 g1 g1 m0 m1 m1 is ran (Ran-none steps b middle.held (drop at piece) g1 m1 texts fits))

  -- no room in the rest of a piece
  pub piece-over : (a b : S) (held piece : List ℕ) (at kept : ℕ) (middle new : Split) (g0 g1 : Option (List ℕ)) (m0 m1 : ℕ)
      → middle.held ≡ rest_from held (take at piece) → Ran steps a held (take at piece) b g0 g1 m0 m1 → Overflows middle (take (length piece - at) (drop at piece)) kept new
      → Overran steps a held piece b g0 g1 m0 m1
  piece-over a b held piece at kept middle new g0 g1 m0 m1 is ran over =
      let texts : texts_from middle.held (take kept (drop at piece)) ≡ [] = rw (take_rest piece at) at over.texts in
      let fits : Fits middle.held (take kept (drop at piece)) = rw (take_rest piece at) at over.fits in
      let full : length (middle.held ++ take kept (drop at piece)) ≡ 65536 = rw (take_rest piece at) at over.full in
      let further : kept < length (drop at piece) = rw (take_rest piece at) at over.further in
      let front : take (at + kept) piece ≡ take at piece ++ take kept (drop at piece) = take-add at kept piece in
      record {
        front = take (at + kept) piece;
        back = drop (at + kept) piece;
        whole = sym (take-append-drop (at + kept) piece);
        further = simp length-drop (omega (arith, simp length-drop at further));
        full = rw (front, rest_from-append held (take at piece) (take kept (drop at piece)), ← is, rest_from-none middle.held (take kept (drop at piece)) texts) full;
        ran = rw front (Ran-append steps a b b held (take at piece) (take kept (drop at piece)) middle.held g0 g1 g1 m0 m1 m1 is ran (Ran-none steps b middle.held (take kept (drop at piece)) g1 m1 texts fits));
      }

  -- the sink failed at the reply to the next text of a piece
  pub piece-broke : {T E : Type 0} → (a b c : S) (held piece text : List ℕ) (at used : ℕ) (middle new : Split) (g0 g1 g2 : Option (List ℕ)) (m0 m1 m2 : ℕ) (e : E)
      → middle.held ≡ rest_from held (take at piece) → Ran steps a held (take at piece) b g0 g1 m0 m1 → Ends middle (take (length piece - at) (drop at piece)) used new text
      → Answered steps {T = T} {E = E} b text c g1 g2 m1 m2 (Err e) → Broke steps a held piece c g0 g2 m0 m2
  piece-broke a b c held piece text at used middle new g0 g1 g2 m0 m1 m2 e is ran ended answered =
      let texts : texts_from middle.held (take used (drop at piece)) ≡ text ∷ [] = rw (take_rest piece at) at ended.texts in
      let more : List ℕ = drop used (drop at piece) in
      let split : texts_from held piece ≡ texts_from held (take at piece) ++ text ∷ texts_from (rest_from middle.held (take used (drop at piece))) more =
      ap (texts_from held) (sym (take-append-drop at piece)) ∙ (texts_from-append held (take at piece) (drop at piece)
      ∙ ap (λ ts. texts_from held (take at piece) ++ ts) (ap (λ h. texts_from h (drop at piece)) (sym is) ∙ (ap (texts_from middle.held) (sym (take-append-drop used (drop at piece)))
      ∙ (texts_from-append middle.held (take used (drop at piece)) more ∙ ap (λ ts. ts ++ texts_from (rest_from middle.held (take used (drop at piece))) more) texts)))) in
      record {
        earlier = texts_from held (take at piece);
        last = text;
        later = texts_from (rest_from middle.held (take used (drop at piece))) more;
        texts = split;
        replies = ran.replies;
        reply = answered.reply;
        middle = b;
        run = ran.run;
        step = answered.step;
        written = g1;
        whole = ran.got;
        part = answered.bytes;
        count = rw (count-append ran.replies (answered.reply ∷ [])) (omega (arith, ran.count, answered.count));
      }
