-- Lists that lie in one row of cells, each in a span of its own.
use Rattle.std.specs.Prelude.{ℕ, ◌+◌, ◌<◌, ◌≤◌, ◌⊎◌, List, map, length, slice_range, slice_index_or}
use Rattle.std.specs.List.{sum_by}
use Rattle.item_index.specs.declared.spans.Span.{Span}

-- no cells
abbrev pub no_span : Span
no_span = record { start = 0; len = 0; room = 0 }

abbrev pub span_at : List Span → ℕ → Span
span_at spans i = slice_index_or spans i no_span

-- what stands in a span
abbrev pub text_of : List ℕ → Span → List ℕ
text_of cells s = slice_range cells s.start (s.start + s.len)

-- what stands in each span
abbrev pub texts : List ℕ → List Span → List (List ℕ)
texts cells spans = map (text_of cells) spans

-- how many cells are in use
abbrev pub held : List Span → ℕ
held spans = sum_by (λ s. s.len) spans

-- a span's numbers are within its room, and its room is below the top
pub record IsWithin (top : ℕ) (s : Span) : Type 0 where
  pub used : s.len ≤ s.room
  pub below : s.start + s.room ≤ top

-- no cell is in the room of both
abbrev pub AreApart : Span → Span → Type 0
AreApart s t = (s.start + s.room ≤ t.start) ⊎ (t.start + t.room ≤ s.start)

-- each span is within its room and below the top, and no two share a cell
pub record AreSound (spans : List Span) (top : ℕ) : Type 0 where
  pub within : (i : ℕ) → i < length spans → IsWithin top (span_at spans i)
  pub apart : (i j : ℕ) → i < j → j < length spans → AreApart (span_at spans i) (span_at spans j)
