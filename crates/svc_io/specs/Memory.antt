-- What contracts see of a source, a sink and a connection in memory.
use Rattle.std.specs.Prelude.{◌≡◌, ◌≤◌, ◌<◌, ◌-◌, ◌↔◌, ◌⊎◌, ℕ, min, List, [], ◌∷◌, ◌++◌, length, take, drop, flat_map, Option, Some, Result, IsErr, IfOk, OnErr}
use Rattle.std.specs.declared.vec.Vec.{Vec}
use Rattle.std.specs.declared.alloc.Global.{Global}
use Rattle.svc_io.specs.Calls.{CallsState, NextFails, made_one, failed_one}

-- a source: the pieces that are left, each with at least one byte, and the calls of `take`
pub record SourceState : Type 0 where
  pub pieces : List (List ℕ)
  pub calls : CallsState

-- a sink: the bytes that it was given, how many it takes at a call and in all, and the calls of `put`
pub record SinkState : Type 0 where
  pub given : List ℕ
  pub most : ℕ
  pub room : ℕ
  pub calls : CallsState

-- a connection: its source and its sink
pub record ConnState : Type 0 where
  pub source : SourceState
  pub sink : SinkState

-- a piece before others, where it has bytes
abbrev pub put_before : List ℕ → List (List ℕ) → List (List ℕ)
put_before [] pieces = pieces
put_before (byte ∷ bytes) pieces = (byte ∷ bytes) ∷ pieces

-- the pieces that have bytes
abbrev pub with_bytes : List (Vec ℕ Global) → List (List ℕ)
with_bytes [] = []
with_bytes (piece ∷ pieces) = put_before piece.items (with_bytes pieces)

-- the pieces that have bytes, after so many bytes of the first were given
abbrev pub with_bytes_from : ℕ → List (Vec ℕ Global) → List (List ℕ)
with_bytes_from offset [] = []
with_bytes_from offset (piece ∷ pieces) = put_before (drop offset piece.items) (with_bytes pieces)

-- all bytes of these pieces
abbrev pub joined : List (List ℕ) → List ℕ
joined pieces = flat_map (λ piece. piece) pieces

-- the bytes that a source tells as left, and that a sink tells as given
abbrev pub bytes_left : SourceState → Option (List ℕ)
bytes_left source = Some (joined source.pieces)

abbrev pub bytes_given : SinkState → Option (List ℕ)
bytes_given sink = Some sink.given

-- the piece of which the next call gives
abbrev pub first_piece : List (List ℕ) → List ℕ
first_piece [] = []
first_piece (piece ∷ _) = piece

-- the pieces that are left after so many bytes of the first
abbrev pub after_front : ℕ → List (List ℕ) → List (List ℕ)
after_front count [] = []
after_front count (piece ∷ pieces) = put_before (drop count piece) pieces

-- the source after a call that gave so many bytes
abbrev pub source_gave : ℕ → SourceState → SourceState
source_gave count source = record source { pieces = after_front count source.pieces; calls = made_one source.calls }

-- a call of this source, with this room to put bytes into: it fails exactly where it is listed, and else gives the front of the first piece, as much as there is room for
pub record TakesFront {E : Type 0} (source : SourceState) (into filled : List ℕ) (after : SourceState) (result : Result ℕ E) : Type 0 where
  pub fails : IsErr result ↔ NextFails source.calls
  pub count : IfOk result (λ count. count ≡ min (length (first_piece source.pieces)) (length into))
  pub front : IfOk result (λ count. filled ≡ take count (first_piece source.pieces) ++ drop count into)
  pub gave : IfOk result (λ count. after ≡ source_gave count source)
  pub failed : OnErr result (after ≡ record source { calls = failed_one source.calls })
  pub kept : OnErr result (filled ≡ into)

-- there is a byte to take, and no room is left for it
abbrev pub IsFull : SinkState → List ℕ → Type 0
IsFull sink piece = (0 < length piece) × (sink.room ≤ length sink.given)

-- the sink after a call that took these bytes
abbrev pub sink_got : List ℕ → SinkState → SinkState
sink_got bytes sink = record sink { given = sink.given ++ bytes; calls = made_one sink.calls }

-- a call of this sink, with this piece: it fails exactly where it is listed or no room is left, and else takes the front of the piece, as much as it takes at a call and has room for
pub record PutsFront {E : Type 0} (sink : SinkState) (piece : List ℕ) (after : SinkState) (result : Result ℕ E) : Type 0 where
  pub fails : IsErr result ↔ (NextFails sink.calls ⊎ IsFull sink piece)
  pub count : IfOk result (λ count. count ≡ min (min (length piece) sink.most) (sink.room - length sink.given))
  pub got : IfOk result (λ count. after ≡ sink_got (take count piece) sink)
  pub failed : OnErr result (after ≡ record sink { calls = failed_one sink.calls })
