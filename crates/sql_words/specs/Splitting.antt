-- What a splitter does with a piece of the stream.
use Rattle.std.specs.Prelude.{◌≡◌, ℕ, ◌<◌, ◌≤◌, List, [], ◌∷◌, ◌++◌, length, take, Some, None}
use Rattle.sql_words.specs.Stream.{texts_from, rest_from, Fits}
use Rattle.sql_words.specs.Split.{Split}
use Rattle.sql_words.specs.declared.splitter.Fed.{Fed}
use Rattle.sql_words.specs.declared.splitter.Fed.TheVariants.{Statement, NeedMore, TooLong}

-- the first `used` bytes of the piece end a text
pub record Ends (old : Split) (piece : List ℕ) (used : ℕ) (new : Split) (text : List ℕ) : Type 0 where
  pub within : used ≤ length piece
  pub some : 0 < used
  pub texts : texts_from old.held (take used piece) ≡ text ∷ []
  pub rest : rest_from old.held (take used piece) ≡ []
  pub fits : Fits old.held (take used piece)
  pub after : new ≡ record { held = []; last = Some text }

-- no text ends in the piece, and all of it is held
pub record Holds (old : Split) (piece : List ℕ) (new : Split) : Type 0 where
  pub texts : texts_from old.held piece ≡ []
  pub fits : Fits old.held piece
  pub after : new ≡ record { held = old.held ++ piece; last = None }

-- so many bytes of the piece are held, no text ends in them, there is no room for a further one, and one came
pub record Overflows (old : Split) (piece : List ℕ) (kept : ℕ) (new : Split) : Type 0 where
  pub further : kept < length piece
  pub texts : texts_from old.held (take kept piece) ≡ []
  pub fits : Fits old.held (take kept piece)
  pub full : length (old.held ++ take kept piece) ≡ 65536
  pub after : new ≡ record { held = old.held ++ take kept piece; last = None }

abbrev pub Feeds : Split → List ℕ → Fed → Split → Type 0
Feeds old piece (Statement used) new = (text : List ℕ) × Ends old piece used new text
Feeds old piece NeedMore new = Holds old piece new
Feeds old piece TooLong new = (kept : ℕ) × Overflows old piece kept new
