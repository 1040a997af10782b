-- Rows of what is so at least, and beside these at most some of what else is shown.
use Rattle.std.proofs.Common.{◌≡◌, ◌⊎◌, inl, inr, sym, subst, List}
use Rattle.std.specs.List.{Contains}
use Rattle.schema_tables.specs.declared.names.SchemaTable.{SchemaTable}
use Rattle.schema_tables.specs.Cells.{Row}
use Rattle.schema_tables.specs.Shown.{Shown}
use Rattle.schema_tables.specs.TableRows.{Beside, rows}
use Rattle.shown_items.specs.Candidates.{PutsRows}
use Rattle.shown_items.specs.Faces.{HasFaceRow, AddsRows}

-- what has rows in the table, of all that is so
abbrev pub HaveRowsIn : SchemaTable → (Shown → Type 0) → (Shown → Type 0) → Type 0
HaveRowsIn which H F = (s : Shown) (m : Beside) (row : Row) → H s → Contains (rows which m s) row → F s

module _ (P : Shown → Type 0) (which : SchemaTable) (G : Shown → Type 0) where
  enough : (F H : Shown → Type 0) → HaveRowsIn which H F → (old : List Row) (row : Row) → Contains old row ⊎ HasFaceRow P H which row → Contains old row ⊎ HasFaceRow P F which row
  enough F H more old row (inl k) = inl k
  enough F H more old row (inr k) = inr (k.0, k.1, more k.0 k.1 row k.2 k.4, k.3, k.4)

  at_most : (F : Shown → Type 0) → ((s : Shown) → F s → G s) → (old : List Row) (row : Row) → Contains old row ⊎ HasFaceRow P F which row → Contains old row ⊎ HasFaceRow P G which row
  at_most F within old row (inl k) = inl k
  at_most F within old row (inr k) = inr (k.0, k.1, within k.0 k.2, k.3, k.4)

  pub puts_of_added : (F H : Shown → Type 0) (old new : List Row) → ((s : Shown) → F s → G s) → HaveRowsIn which H F → AddsRows P F which old new → PutsRows P H G which old new
  puts_of_added F H old new within more h row = (λ k. at_most F within old row ((h row).0 k), λ k. (h row).1 (enough F H more old row k))

  -- nothing is put where nothing has rows
  pub puts_none : (H : Shown → Type 0) (old new : List Row) → HaveRowsIn which H (λ s. ⊥) → new ≡ old → PutsRows P H G which old new
  puts_none H old new none e row = (
    λ k. inl (subst (λ l. Contains l row) e k),
    λ k. subst (λ l. Contains l row) (sym e) (elim k [ inl o ↦ o | inr f ↦ absurd (none f.0 f.1 row f.2 f.4) ]),
  )

  -- it is all where all that has rows is among it
  pub added_of_puts : (F : Shown → Type 0) (old new : List Row) → HaveRowsIn which G F → PutsRows P F G which old new → AddsRows P G which old new
  added_of_puts F old new more h row = ((h row).0, λ k. (h row).1 (enough F G more old row k))

  pub puts_alike : (F H : Shown → Type 0) (old new : List Row) → ((s : Shown) → H s → F s) → PutsRows P F G which old new → PutsRows P H G which old new
  puts_alike F H old new less h row = ((h row).0, λ k. (h row).1 (enough F H (λ s m r is in_rows. less s is) old row k))

  -- one after the other
  module _ (F H : Shown → Type 0) (old between new : List Row) (a : PutsRows P F G which old between) (b : PutsRows P H G which between new) where
    first_of : (row : Row) → Contains between row ⊎ HasFaceRow P G which row → Contains old row ⊎ HasFaceRow P G which row
    first_of row (inl k) = (a row).0 k
    first_of row (inr k) = inr k

    put_in : (row : Row) → Contains old row ⊎ HasFaceRow P (λ s. F s ⊎ H s) which row → Contains new row
    put_in row (inl k) = (b row).1 (inl ((a row).1 (inl k)))
    put_in row (inr k) = elim k.2 [
      | inl f ↦ (b row).1 (inl ((a row).1 (inr (k.0, k.1, f, k.3, k.4))))
      | inr h ↦ (b row).1 (inr (k.0, k.1, h, k.3, k.4))
    ]

    pub both_put : PutsRows P (λ s. F s ⊎ H s) G which old new
    both_put row = (λ k. first_of row ((b row).0 k), put_in row)
