-- How a script may end.
use Rattle.std.specs.Prelude.{◌≡◌, ◌⊎◌, Bool, true, false, ℕ, ◌+◌, ◌<◌, ◌≤◌, List, [], ◌++◌, length, Option, Some}
use Rattle.cat_engine.specs.declared.reply.Reply.{Reply}
use Rattle.sql_words.specs.Stream.{Fits, rest, is_blank}
use Rattle.svc_io.specs.Bytes.{Gave, IsEmpty}
use Rattle.sessions.specs.Runs.{Ran, Broke}
use Rattle.sessions.specs.declared.script.Ended.{Ended}
use Rattle.sessions.specs.declared.script.Ended.TheVariants.{Done, ReadFault, WriteFault, TooLong, Unfinished}

-- what a source has left, and what a sink was given, where they tell it
pub record Io : Type 0 where
  pub left : Option (List ℕ)
  pub given : Option (List ℕ)

abbrev pub io : Option (List ℕ) → Option (List ℕ) → Io
io left given = record { left = left; given = given }

module _ {S : Type 0} (steps : S → List ℕ → Reply → S → Type 0) where
  -- the bytes that were taken, all of whose texts were run
  pub record RanAll (limit : ℕ) (before after : S) (io_before io_after : Io) (missed : ℕ) : Type 0 where
    pub bytes : List ℕ
    pub gave : Gave io_before.left bytes io_after.left
    pub few : length bytes ≤ limit
    pub ran : Ran steps before [] bytes after io_before.given io_after.given 0 missed

  -- the source ended, and what stands after the last end is blank, or isn't
  pub record RanToEnd (blank_is : Bool) (limit : ℕ) (before after : S) (io_before io_after : Io) (missed : ℕ) : Type 0 where
    pub all : RanAll limit before after io_before io_after missed
    pub end : IsEmpty io_after.left
    pub blank : is_blank (rest all.bytes) ≡ blank_is

  -- the texts of a front of the bytes were run: behind it a byte came for which a statement or the stream has no room
  pub record RanOver (limit : ℕ) (before after : S) (io_before io_after : Io) (missed : ℕ) : Type 0 where
    pub bytes : List ℕ
    pub front : List ℕ
    pub back : List ℕ
    pub gave : Gave io_before.left bytes io_after.left
    pub few : length bytes ≤ limit + 1
    pub whole : bytes ≡ front ++ back
    pub further : 0 < length back
    pub full : (length (rest front) ≡ 65536) ⊎ (length front ≡ limit)
    pub ran : Ran steps before [] front after io_before.given io_after.given 0 missed

  -- the texts of the bytes that were taken were run up to one whose reply didn't go out whole
  pub record RanUpTo (limit : ℕ) (before after : S) (io_before io_after : Io) (missed : ℕ) : Type 0 where
    pub bytes : List ℕ
    pub gave : Gave io_before.left bytes io_after.left
    pub few : length bytes ≤ limit + 1
    pub broke : Broke steps before [] bytes after io_before.given io_after.given 0 missed

  abbrev pub Script : Ended → ℕ → S → S → Io → Io → ℕ → Type 0
  Script Done limit before after io_before io_after missed = RanToEnd true limit before after io_before io_after missed
  Script Unfinished limit before after io_before io_after missed = RanToEnd false limit before after io_before io_after missed
  Script ReadFault limit before after io_before io_after missed = RanAll limit before after io_before io_after missed
  Script TooLong limit before after io_before io_after missed = RanOver limit before after io_before io_after missed
  Script WriteFault limit before after io_before io_after missed = RanUpTo limit before after io_before io_after missed

-- a stream whose statements each have room, which has room itself, and which ends in nothing but blanks
pub record IsWellEnded (limit : ℕ) (stream : List ℕ) : Type 0 where
  pub fits : Fits [] stream
  pub few : length stream ≤ limit
  pub blank : is_blank (rest stream) ≡ true

-- over such a stream, with no fault of its source or its sink, a script is done
abbrev pub ScriptCompletes : Ended → ℕ → Option (List ℕ) → Type 0 → Type 0 → Type 0
ScriptCompletes ended limit left read_fault write_fault = (stream : List ℕ) → left ≡ Some stream → IsWellEnded limit stream → ¬ read_fault → ¬ write_fault → ended ≡ Done
