-- The rows of a table are those of what is shown, and of nothing else.
use Rattle.std.proofs.Common.{◌≡◌, List}
use Rattle.std.specs.Prelude.{◌↔◌}
use Rattle.std.specs.List.{Contains}
use Rattle.finite_chains.proofs.StrictOrders.{rising_same, IsRising-from_pairs}
use Rattle.schema_tables.specs.declared.names.SchemaTable.{SchemaTable}
use Rattle.schema_tables.specs.Cells.{Row, row_cmp}
use Rattle.schema_tables.specs.Listings.{AreRows}
use Rattle.schema_tables.specs.Shown.{Shown, of_role_auth, of_column, of_held, of_role_admin, of_grantable}
use Rattle.schema_tables.specs.TableRows.{Beside, Shows, IsBeside, HasRow, IsAdminOptionBeside, IsDomainBeside, IsEnabledBeside}
use Rattle.schema_tables.proofs.RowOrder.{row_cmp-total}

-- there is one list of rows that are so, in order and each once
pub one_listing : (P Q : Row → Type 0) → ((row : Row) → P row ↔ Q row) → (a b : List Row) → AreRows P a → AreRows Q b → a ≡ b
one_listing P Q same a b p q =
    rising_same row_cmp row_cmp-total a b (IsRising-from_pairs row_cmp a p.order) (IsRising-from_pairs row_cmp b q.order)
    (λ row. (λ h. (q.members row).1 ((same row).0 ((p.members row).0 h)), λ h. (p.members row).1 ((same row).1 ((q.members row).0 h))))

module _ (P Q : Shown → Type 0) (same : (s : Shown) → P s ↔ Q s) where
  some : (R : Shown → Type 0) → Shows P R → Shows Q R
  some R h = (h.0, (same h.0).0 h.1, h.2)

  back : (R : Shown → Type 0) → Shows Q R → Shows P R
  back R h = (h.0, (same h.0).1 h.1, h.2)

  beside : (s : Shown) (m : Beside) → IsBeside P s m → IsBeside Q s m
  beside (of_role_auth g) m b = (
    (λ h. (same (of_role_admin g)).0 (b.0.0 h), λ h. b.0.1 ((same (of_role_admin g)).1 h)),
    (λ h. some (IsAdminOptionBeside g) (b.1.0 h), λ h. b.1.1 (back (IsAdminOptionBeside g) h)),
    b.2,
  )
  beside (of_column x) m b = (b.0, (λ h. some (IsDomainBeside x.domain) (b.1.0 h), λ h. b.1.1 (back (IsDomainBeside x.domain) h)), b.2)
  beside (of_held r) m b = (
    b.0,
    (λ h. (same (of_grantable r)).0 (b.1.0 h), λ h. b.1.1 ((same (of_grantable r)).1 h)),
    (λ h. some (IsEnabledBeside r) (b.2.0 h), λ h. b.2.1 (back (IsEnabledBeside r) h)),
  )
  beside _ m b = b

  pub row_along : (which : SchemaTable) (row : Row) → HasRow P which row → HasRow Q which row
  row_along which row h = (h.0, h.1, (same h.0).0 h.2, beside h.0 h.1 h.3, h.4)

-- where the same is shown, a table has the same rows
pub same_rows : (P Q : Shown → Type 0) → ((s : Shown) → P s ↔ Q s) → (which : SchemaTable) (a b : List Row) → AreRows (HasRow P which) a → AreRows (HasRow Q which) b → a ≡ b
same_rows P Q same which a b = one_listing (HasRow P which) (HasRow Q which) (λ row. (row_along P Q same which row, row_along Q P (λ s. ((same s).1, (same s).0)) which row)) a b
