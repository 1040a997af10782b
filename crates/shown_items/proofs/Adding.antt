-- Rows that are added to others.
use Rattle.std.proofs.Common.{◌≡◌, ◌⊎◌, inl, inr, refl, sym, subst, ◌∙◌, ℕ, ◌+◌, ◌<◌, Bool, true, false, List, [], ◌∷◌, ◌++◌, length, get_or, take, add-one}
use Rattle.std.proofs.Math.Seq.{take-suc}
use Rattle.finite_chains.proofs.Members.{Contains-nil, Contains-head, Contains-cases}
use Rattle.std.specs.Prelude.{◌↔◌, IsTrue}
use Rattle.std.specs.List.{Contains}
use Rattle.std.proofs.lemmas.List.Elements.{Contains-append_left, Contains-append_right, Contains-append_cases}
use Rattle.schema_tables.specs.declared.names.SchemaTable.{SchemaTable}
use Rattle.schema_tables.specs.Cells.{Row}
use Rattle.schema_tables.specs.Shown.{Shown, of_role_auth, of_column, of_held}
use Rattle.schema_tables.specs.TableRows.{Beside, IsBeside, rows}
use Rattle.shown_items.specs.Faces.{HasFaceRow, AddsRows}

-- the only element of a list of one
pub only : {X : Type 0} (x y : X) → Contains (x ∷ []) y → y ≡ x
only x y h = elim (Contains-cases x [] y h) [ inl e ↦ sym e | inr more ↦ absurd (Contains-nil y more) ]

one_flag : (a b : Bool) (X : Type 0) → IsTrue a ↔ X → IsTrue b ↔ X → a ≡ b
one_flag true true X p q = refl
one_flag true false X p q = absurd (let e : IsTrue false = q.1 (p.0 refl) in cc)
one_flag false true X p q = absurd (let e : IsTrue false = p.1 (q.0 refl) in cc)
one_flag false false X p q = refl

same_beside : (m n : Beside) → m.same ≡ n.same → m.option ≡ n.option → m.role ≡ n.role → m ≡ n
same_beside m n e f g = λ i. record { same = e i; option = f i; role = g i }

module _ (P : Shown → Type 0) (which : SchemaTable) (old new : List Row) where
  one_beside : (s : Shown) (m n : Beside) → IsBeside P s m → IsBeside P s n → m ≡ n
  one_beside (of_role_auth g) m n b d = same_beside m n (one_flag m.same n.same _ b.0 d.0) (one_flag m.option n.option _ b.1 d.1) (b.2 ∙ sym d.2)
  one_beside (of_column x) m n b d = same_beside m n (b.0 ∙ sym d.0) (one_flag m.option n.option _ b.1 d.1) (b.2 ∙ sym d.2)
  one_beside (of_held r) m n b d = same_beside m n (b.0 ∙ sym d.0) (one_flag m.option n.option _ b.1 d.1) (one_flag m.role n.role _ b.2 d.2)
  one_beside _ m n b d = same_beside m n (b.0 ∙ sym d.0) (b.1 ∙ sym d.1) (b.2 ∙ sym d.2)

  -- the rows of the one that is so
  in_rows : (may : Bool) (s : Shown) (m : Beside) → IsBeside P s m → (row : Row) → HasFaceRow P (λ t. IsTrue may × (t ≡ s)) which row → Contains (rows which m s) row
  in_rows may s m beside row h =
      let at : IsBeside P s h.1 = subst (λ t. IsBeside P t h.1) h.2.1 h.3 in
      let is : Contains (rows which h.1 s) row = subst (λ t. Contains (rows which h.1 t) row) h.2.1 h.4 in
      subst (λ n. Contains (rows which n s) row) (one_beside s h.1 m at beside) is

  pub rows_added : (may : Bool) (s : Shown) (m : Beside) → IsTrue may → IsBeside P s m → new ≡ old ++ rows which m s → AddsRows P (λ t. IsTrue may × (t ≡ s)) which old new
  rows_added may s m yes_may beside e row = (
    λ h. elim (Contains-append_cases old (rows which m s) row (subst (λ l. Contains l row) e h)) [
      | inl k ↦ inl k
      | inr k ↦ inr (s, m, (yes_may, refl), beside, k)
    ],
    λ h. subst (λ l. Contains l row) (sym e) (elim h [
      | inl k ↦ Contains-append_left old (rows which m s) row k
      | inr k ↦ Contains-append_right old (rows which m s) row (in_rows may s m beside row k)
    ]),
  )

  -- none are added where nothing has any
  pub none_added : (F : Shown → Type 0) → ((s : Shown) (m : Beside) (row : Row) → F s → Contains (rows which m s) row → ⊥) → new ≡ old → AddsRows P F which old new
  none_added F none e row = (
    λ h. inl (subst (λ l. Contains l row) e h),
    λ h. subst (λ l. Contains l row) (sym e) (elim h [
      | inl k ↦ k
      | inr k ↦ absurd (none k.0 k.1 row k.2 k.4)
    ]),
  )

  along : (F G : Shown → Type 0) → ((s : Shown) → F s → G s) → (row : Row) → Contains old row ⊎ HasFaceRow P F which row → Contains old row ⊎ HasFaceRow P G which row
  along F G more row (inl k) = inl k
  along F G more row (inr k) = inr (k.0, k.1, more k.0 k.2, k.3, k.4)

  pub added_alike : (F G : Shown → Type 0) → ((s : Shown) → F s ↔ G s) → AddsRows P F which old new → AddsRows P G which old new
  added_alike F G same h row = (λ k. along F G (λ s. (same s).0) row ((h row).0 k), λ k. (h row).1 (along G F (λ s. (same s).1) row k))

-- of each place of a list
abbrev pub Among : {X : Type 0} → List X → (X → Shown → Type 0) → Shown → Type 0
Among {X} xs Q s = (x : X) × Contains xs x × Q x s

module _ {X : Type 0} (xs : List X) (Q : X → Shown → Type 0) (i : ℕ) (d : X) (within : i < length xs) where
  one_more : take (i + 1) xs ≡ take i xs ++ (get_or xs i d ∷ [])
  one_more = rw add-one (take-suc xs i d within)

  fewer : (s : Shown) (x : X) → Contains (take (i + 1) xs) x → Q x s → Among (take i xs) Q s ⊎ Q (get_or xs i d) s
  fewer s x h q = elim (Contains-append_cases (take i xs) (get_or xs i d ∷ []) x (subst (λ l. Contains l x) one_more h)) [
    | inl k ↦ inl (x, k, q)
    | inr k ↦ inr (subst (λ z. Q z s) (only (get_or xs i d) x k) q)
  ]

  more : (s : Shown) → Among (take i xs) Q s ⊎ Q (get_or xs i d) s → Among (take (i + 1) xs) Q s
  more s (inl h) = (h.0, subst (λ l. Contains l h.0) (sym one_more) (Contains-append_left (take i xs) (get_or xs i d ∷ []) h.0 h.1), h.2)
  more s (inr q) = (get_or xs i d, subst (λ l. Contains l (get_or xs i d)) (sym one_more) (Contains-append_right (take i xs) (get_or xs i d ∷ []) (get_or xs i d) (Contains-head (get_or xs i d) [])), q)

  pub among_more : (s : Shown) → (Among (take i xs) Q s ⊎ Q (get_or xs i d) s) ↔ Among (take (i + 1) xs) Q s
  among_more s = (more s, λ h. fewer s h.0 h.1 h.2)

-- one after the other
module _ (P : Shown → Type 0) (which : SchemaTable) (F G : Shown → Type 0) (old between new : List Row) where
  split : (row : Row) → HasFaceRow P (λ s. F s ⊎ G s) which row → HasFaceRow P F which row ⊎ HasFaceRow P G which row
  split row h = elim h.2 [ inl f ↦ inl (h.0, h.1, f, h.3, h.4) | inr g ↦ inr (h.0, h.1, g, h.3, h.4) ]

  gather : (row : Row) → (Contains old row ⊎ HasFaceRow P F which row) ⊎ HasFaceRow P G which row → Contains old row ⊎ HasFaceRow P (λ s. F s ⊎ G s) which row
  gather row (inl (inl k)) = inl k
  gather row (inl (inr k)) = inr (k.0, k.1, inl k.2, k.3, k.4)
  gather row (inr k) = inr (k.0, k.1, inr k.2, k.3, k.4)

  pub both_added : AddsRows P F which old between → AddsRows P G which between new → AddsRows P (λ s. F s ⊎ G s) which old new
  both_added a b row = (
    λ h. gather row (elim ((b row).0 h) as (λ _. (Contains old row ⊎ HasFaceRow P F which row) ⊎ HasFaceRow P G which row) [ inl k ↦ inl ((a row).0 k) | inr k ↦ inr k ]),
    λ h. (b row).1 (elim h as (λ _. Contains between row ⊎ HasFaceRow P G which row) [
      | inl k ↦ inl ((a row).1 (inl k))
      | inr k ↦ elim (split row k) [ inl f ↦ inl ((a row).1 (inr f)) | inr g ↦ inr g ]
    ]),
  )

  pub two_added : (E H : Shown → Type 0) → ((s : Shown) → E s ↔ F s) → ((s : Shown) → H s ↔ G s) → AddsRows P E which old between → AddsRows P H which between new → AddsRows P (λ s. F s ⊎ G s) which old new
  two_added E H e h a b = both_added (added_alike P which old between E F e a) (added_alike P which between new H G h b)
