-- The columns of a table stand together in a catalogue, so each column has a position.
use Rattle.std.proofs.Common.{◌≡◌, refl, sym, subst, ℕ, zero, suc, ◌+◌, ◌-◌, ◌≤◌, Bool, true, false, List, [], ◌∷◌, length, arith}
use Rattle.std.specs.Prelude.{slice_index_or}
use Rattle.std.specs.List.{Contains, AllWithin}
use Rattle.std.specs.List.Sorted.{IsPartitionedBy, IsPartitionPoint}
use Rattle.std.specs.Ordering.{is_lt, is_le}
use Rattle.sql_names.specs.declared.object.Object.{Object}
use Rattle.cat_items.specs.declared.item.Column.{Column}
use Rattle.cat_items.specs.declared.item.Item.{Item}
use Rattle.cat_items.specs.declared.item.Item.TheVariants as item
use Rattle.cat_items.specs.declared.ranges.Part.{Part}
use Rattle.cat_items.specs.declared.ranges.Part.TheVariants as part
use Rattle.cat_items.specs.Catalogues.{IsInOrder}
use Rattle.cat_items.specs.Ranges.{IsRange, place_in}
use Rattle.cat_items.specs.Shape.{IsColumnOf}
use Rattle.cat_items.proofs.RangeLemmas.{starts_parted, ends_parted, range_between}
use Rattle.schema_tables.specs.Sight.{IsPosition}

-- where the front ends whose elements pass
abbrev IsCutBy : {X : Type 0} → (X → Bool) → List X → ℕ → Type 0
IsCutBy p xs n = (n ≤ length xs) × IsPartitionPoint (λ x. p x ≡ true) (λ x. p x ≡ false) xs n

false_where : (b : Bool) → (b ≡ true → ⊥) → b ≡ false
false_where true never = absurd (never refl)
false_where false never = refl

module _ {X : Type 0} (p : X → Bool) (x : X) (xs : List X) where
  tail_parted : IsPartitionedBy p (x ∷ xs) → IsPartitionedBy p xs
  tail_parted h i j d low high = h (suc i) (suc j) d (omega (arith, low)) (omega (arith, high))

  front : p x ≡ true → (n : ℕ) → IsCutBy p xs n → AllWithin (λ z. p z ≡ true) (x ∷ xs) 0 (suc n)
  front e n h zero d low high = e
  front e n h (suc k) d low high = h.1.0 k d (omega arith) (omega (arith, high))

  rest : (n : ℕ) → IsCutBy p xs n → AllWithin (λ z. p z ≡ false) (x ∷ xs) (suc n) (length (x ∷ xs))
  rest n h zero d low high = absurd (let bad : ⊥ = omega (arith, low) in bad)
  rest n h (suc k) d low high = h.1.1 k d (omega (arith, low)) (omega (arith, high))

  longer : p x ≡ true → (n : ℕ) → IsCutBy p xs n → IsCutBy p (x ∷ xs) (suc n)
  longer e n h = (omega (arith, h.0), (front e n h, rest n h))

  none_pass : IsPartitionedBy p (x ∷ xs) → p x ≡ false → AllWithin (λ z. p z ≡ false) (x ∷ xs) 0 (length (x ∷ xs))
  none_pass h e k d low high = false_where (p (slice_index_or (x ∷ xs) k d)) (λ passes. let first : p x ≡ true = h 0 k d (omega arith) high passes in cc)

  empty : IsPartitionedBy p (x ∷ xs) → p x ≡ false → IsCutBy p (x ∷ xs) 0
  empty h e = (omega arith, ((λ k d low high. absurd (let bad : ⊥ = omega (arith, high) in bad)), none_pass h e))

  choose : IsPartitionedBy p (x ∷ xs) → (b : Bool) → p x ≡ b → (n : ℕ) × IsCutBy p xs n → (n : ℕ) × IsCutBy p (x ∷ xs) n
  choose h true e c = (suc c.0, longer e c.0 c.1)
  choose h false e c = (0, empty h e)

cut_of : {X : Type 0} (p : X → Bool) (xs : List X) → IsPartitionedBy p xs → (n : ℕ) × IsCutBy p xs n
cut_of p [] h = (0, (omega arith, ((λ k d low high. absurd (let bad : ⊥ = omega (arith, high) in bad)), λ k d low high. absurd (let bad : ⊥ = omega (arith, high) in bad))))
cut_of p (x ∷ xs) h = choose p x xs h (p x) refl (cut_of p xs (tail_parted p x xs h))

-- the part of a table's columns
abbrev columns_part : Object → Part
columns_part o = part.Columns (record { schema = record { ref_ptr = (0, 0); now = o.schema }; name = record { ref_ptr = (0, 0); now = o.name } })

pub has_range : (c : List Item) → IsInOrder c → (o : Object) → (from to : ℕ) × IsRange c from to (IsColumnOf o)
has_range c order o =
    let starts = cut_of (λ x. is_lt (place_in (columns_part o) x)) c (starts_parted c order (columns_part o)) in
    let ends = cut_of (λ x. is_le (place_in (columns_part o) x)) c (ends_parted c order (columns_part o)) in
    (starts.0, ends.0, range_between c (columns_part o) starts.0 ends.0 starts.1.0 ends.1.0 starts.1.1 ends.1.1)

pub has_position : (c : List Item) → IsInOrder c → (x : Column) → Contains c (item.Column x) → (n : ℕ) × IsPosition c x n
has_position c order x h =
    let r = has_range c order x.table in
    let inside = r.2.outside h.0 (item.Column x) h.1 (subst (IsColumnOf x.table) (sym h.2) refl) in
    (h.0 + 1 - r.0, (r.0, r.1, h.0, r.2, inside.1, h.2, inside.0, omega (arith, inside.0)))
