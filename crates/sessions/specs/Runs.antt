-- What was run and written over a part of a stream, whatever answers the texts.
use Rattle.std.specs.Prelude.{◌≡◌, ℕ, ◌+◌, ◌<◌, List, [], ◌∷◌, ◌++◌, length, Option, Result}
use Rattle.sessions.specs.Printed.{output, reply_text}
use Rattle.sql_words.specs.Stream.{texts_from, rest_from, Fits}
use Rattle.cat_engine.specs.Runs.{missed}
use Rattle.cat_engine.specs.declared.reply.Reply.{Reply}
use Rattle.svc_io.specs.Bytes.{Got, GotFront, Puts}

module _ {S : Type 0} (steps : S → List ℕ → Reply → S → Type 0) where
  -- these replies to these texts, one after the other
  abbrev pub Run : S → List (List ℕ) → List Reply → S → Type 0
  Run old [] [] new = new ≡ old
  Run old (text ∷ texts) (reply ∷ replies) new = (middle : S) × steps old text reply middle × Run middle texts replies new
  Run old [] (reply ∷ replies) new = ⊥
  Run old (text ∷ texts) [] new = ⊥

  -- the texts that end in b, where held came before, were run one after the other, and their replies were written
  pub record Ran (before : S) (held b : List ℕ) (after : S) (given_before given_after : Option (List ℕ)) (missed_before missed_after : ℕ) : Type 0 where
    pub replies : List Reply
    pub run : Run before (texts_from held b) replies after
    pub got : Got given_before (output replies) given_after
    pub count : missed_after ≡ missed_before + missed replies
    pub fits : Fits held b

  -- one text was run, and its reply written, or a part of it where the sink failed
  pub record Answered {T E : Type 0} (before : S) (text : List ℕ) (after : S) (given_before given_after : Option (List ℕ)) (missed_before missed_after : ℕ) (result : Result T E) : Type 0 where
    pub reply : Reply
    pub step : steps before text reply after
    pub bytes : Puts given_before (reply_text reply) given_after result
    pub count : missed_after ≡ missed_before + missed (reply ∷ [])

  -- the texts of a front of b were run; behind it there is no room for the byte that comes next
  pub record Overran (before : S) (held b : List ℕ) (after : S) (given_before given_after : Option (List ℕ)) (missed_before missed_after : ℕ) : Type 0 where
    pub front : List ℕ
    pub back : List ℕ
    pub whole : b ≡ front ++ back
    pub further : 0 < length back
    pub full : length (rest_from held front) ≡ 65536
    pub ran : Ran before held front after given_before given_after missed_before missed_after

  -- the texts that end in b were run up to the last one here and no later one; the replies before its own were written, and a part of its own
  pub record Broke (before : S) (held b : List ℕ) (after : S) (given_before given_after : Option (List ℕ)) (missed_before missed_after : ℕ) : Type 0 where
    pub earlier : List (List ℕ)
    pub last : List ℕ
    pub later : List (List ℕ)
    pub texts : texts_from held b ≡ earlier ++ last ∷ later
    pub replies : List Reply
    pub reply : Reply
    pub middle : S
    pub run : Run before earlier replies middle
    pub step : steps middle last reply after
    pub written : Option (List ℕ)
    pub whole : Got given_before (output replies) written
    pub part : GotFront written (reply_text reply) given_after
    pub count : missed_after ≡ missed_before + missed (replies ++ reply ∷ [])
