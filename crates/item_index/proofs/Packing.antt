-- Lists that are laid out anew one after the other.
use Rattle.std.proofs.Common.{rules, ◌≡◌, ℕ, ◌+◌, ◌-◌, ◌*◌, ◌/◌, ◌<◌, ◌≤◌, ◌≢◌, List, length, get_or, sym, ◌∙◌, ap, refl, inl, inr, subst, arith, take}
use Rattle.std.specs.List.{slice_set}
use Rattle.std.proofs.lemmas.List.{get_or-set_same, get_or-set_other}
use Rattle.std.proofs.lemmas.List.Sums.{sum_by_more, sum_by_more_le, sum_by-set}
use Rattle.std.proofs.lemmas.Slice.{between-put_mid}
use Rattle.std.proofs.lemmas.List.{places}
use Rattle.std.proofs.lemmas.Bool.{cases_eq}
use borrow.Rule.Slice.PartMut.{put_mid}
use Rattle.item_index.specs.declared.spans.Span.{Span}
use Rattle.item_index.specs.Spans.{IsWithin, held, no_span, span_at, text_of}
use Rattle.item_index.proofs.SpanLemmas.{text_of-kept, IsWithin-above}

-- the first i lists of `old` lie in `to` one after the other, below the top, and the others are still to come
pub record ArePacked (from to : List ℕ) (old spans : List Span) (top i grown : ℕ) : Type 0 where
  pub filled : 2 * top ≤ 3 * held (take i old) + 2
  pub tight : i ≤ grown → 2 * top ≤ 3 * held (take i old)
  pub rest : (k : ℕ) → i ≤ k → span_at spans k ≡ span_at old k
  pub shown : (k : ℕ) → k < i → text_of to (span_at spans k) ≡ text_of from (span_at old k)
  pub within : (k : ℕ) → k < i → IsWithin top (span_at spans k)
  pub rising : (j k : ℕ) → j < k → k < i → (span_at spans j).start + (span_at spans j).room ≤ (span_at spans k).start
  pub held_is : held spans ≡ held old
  pub has_grown : grown < i → (span_at spans grown).len < (span_at spans grown).room

-- how many cells more the list at i has than its numbers and half as many
abbrev pub IsMore : ℕ → ℕ → ℕ → Type 0
IsMore i grown more = (i ≡ grown → more ≡ 1) × ((i ≡ grown → ⊥) → more ≡ 0)

-- the span of the next list
abbrev pub next_span : ℕ → ℕ → Span → Span
next_span top more s = record { start = top; len = s.len; room = s.len + s.len / 2 + more }

module _ (from to : List ℕ) (old spans : List Span) (top i grown more : ℕ) (packed : ArePacked from to old spans top i grown) (is_more : IsMore i grown more) (at : i < length old) where
  new_top : ℕ
  new_top = top + (next_span top more (span_at spans i)).room

  pub fits_next : 3 * (held old + 1) ≤ 2 * length to → top + ((span_at spans i).len + (span_at spans i).len / 2 + more) ≤ length to
  fits_next enough =
      let e : span_at spans i ≡ span_at old i = packed.rest i (omega arith) in
      let m : held (take i old) + (span_at old i).len ≤ held old = sum_by_more_le (λ s. s.len) old i no_span at in
      elim (cases_eq i grown) [
        | inl same ↦ let a = is_more.0 same in let t = packed.tight (omega arith) in rw e (omega arith)
        | inr other ↦ let a = is_more.1 other in let t = packed.filled in rw e (omega arith)
      ]

pub length-put_mid : (a k : ℕ) (xs ys : List ℕ) → a + k ≤ length xs → length ys ≡ k → length (put_mid a k xs ys) ≡ length xs
length-put_mid a k xs ys within len = search (rules, places)

pub get_or-put_mid_below : (a n : ℕ) (xs ys : List ℕ) (k d : ℕ) → k < a → a ≤ length xs → get_or (put_mid a n xs ys) k d ≡ get_or xs k d
get_or-put_mid_below a n xs ys k d lt within = search (rules, places)

pub nothing_packed : (from to : List ℕ) (spans : List Span) (grown : ℕ) → ArePacked from to spans spans 0 0 grown
nothing_packed from to spans grown = record {
  filled = omega arith;
  tight = λ _. omega arith;
  rest = λ k _. refl;
  shown = λ k h. absurd (omega arith);
  within = λ k h. absurd (omega arith);
  rising = λ j k _ h. absurd (omega arith);
  held_is = refl;
  has_grown = λ h. absurd (omega arith);
}

-- the next list follows the ones before it
module _ (from to part : List ℕ) (old spans : List Span) (top i grown more : ℕ) (packed : ArePacked from to old spans top i grown) (is_more : IsMore i grown more) (at : i < length old)
    (same_length : length spans ≡ length old) (fits : top + ((span_at spans i).len + (span_at spans i).len / 2 + more) ≤ length to) (part_is : part ≡ text_of from (span_at spans i))
    (part_length : length part ≡ (span_at spans i).len) where
  s : Span
  s = span_at spans i

  next : List Span
  next = slice_set spans i (next_span top more (span_at spans i))

  filled_to : List ℕ
  filled_to = put_mid top (top + (span_at spans i).len - top) to part

  there : i < length spans
  there = omega arith

  same_at : span_at spans i ≡ span_at old i
  same_at = packed.rest i (omega arith)

  held_more : held (take (i + 1) old) ≡ held (take i old) + (span_at old i).len
  held_more = sum_by_more (λ s. s.len) old i no_span at

  top_fits : top ≤ length to
  top_fits = omega arith

  width : top + (span_at spans i).len - top ≡ (span_at spans i).len
  width = omega arith

  at_i : span_at next i ≡ next_span top more (span_at spans i)
  unfolding next
  at_i = get_or-set_same spans i (next_span top more (span_at spans i)) no_span there

  elsewhere : (k : ℕ) → k ≢ i → span_at next k ≡ span_at spans k
  unfolding next
  elsewhere k ne = get_or-set_other spans i k (next_span top more (span_at spans i)) no_span ne

  length_filled : length filled_to ≡ length to
  unfolding filled_to
  length_filled = length-put_mid top (top + (span_at spans i).len - top) to part (omega arith) (omega arith)

  below_stays : (k d : ℕ) → k < top → get_or filled_to k d ≡ get_or to k d
  unfolding filled_to
  below_stays k d h = get_or-put_mid_below top (top + (span_at spans i).len - top) to part k d h (omega arith)

  shows_part : text_of filled_to (next_span top more (span_at spans i)) ≡ part
  unfolding filled_to
  shows_part = between-put_mid top (top + (span_at spans i).len - top) to part (top + (span_at spans i).len) top_fits (omega arith)

  step_shown : (k : ℕ) → k < i + 1 → text_of filled_to (span_at next k) ≡ text_of from (span_at old k)
  step_shown k h = elim (cases_eq k i) [
    | inl e ↦ rw (e, at_i) (shows_part ∙ part_is ∙ ap (text_of from) same_at)
    | inr ne ↦
        let lt : k < i = omega arith in
        let w = packed.within k lt in
        let u : (span_at spans k).len ≤ (span_at spans k).room = w.used in
        let b : (span_at spans k).start + (span_at spans k).room ≤ top = w.below in
        rw (elsewhere k ne) (text_of-kept to filled_to (span_at spans k) (omega arith) length_filled (λ j d lo hi. below_stays j d (omega arith)) ∙ packed.shown k lt)
  ]

  step_within : (k : ℕ) → k < i + 1 → IsWithin (top + ((span_at spans i).len + (span_at spans i).len / 2 + more)) (span_at next k)
  step_within k h = elim (cases_eq k i) [
    | inl e ↦ rw (e, at_i) (record { used = omega arith; below = omega arith })
    | inr ne ↦ let lt : k < i = omega arith in rw (elsewhere k ne) (IsWithin-above top _ (span_at spans k) (omega arith) (packed.within k lt))
  ]

  step_rising : (j k : ℕ) → j < k → k < i + 1 → (span_at next j).start + (span_at next j).room ≤ (span_at next k).start
  step_rising j k lt h =
      let nj : j ≢ i = λ e. let bad : j < j = omega arith in omega arith in
      elim (cases_eq k i) [
        | inl e ↦ let w = packed.within j (omega arith) in let b : (span_at spans j).start + (span_at spans j).room ≤ top = w.below in rw (elsewhere j nj, e, at_i) b
        | inr nk ↦ rw (elsewhere j nj, elsewhere k nk) (packed.rising j k lt (omega arith))
      ]

  step_grown : grown < i + 1 → (span_at next grown).len < (span_at next grown).room
  step_grown h = elim (cases_eq grown i) [
    | inl e ↦
        let one = is_more.0 (sym e) in
        let here : (span_at next i).len < (span_at next i).room = rw at_i (omega arith) in
        subst (λ (g : ℕ). (span_at next g).len < (span_at next g).room) (sym e) here
    | inr ne ↦ rw (elsewhere grown ne) (packed.has_grown (omega arith))
  ]

  step_filled : 2 * (top + ((span_at spans i).len + (span_at spans i).len / 2 + more)) ≤ 3 * held (take (i + 1) old) + 2
  step_filled = let e = ap (λ (t : Span). t.len) same_at in let m = held_more in elim (cases_eq i grown) [
    | inl same ↦ let a = is_more.0 same in let t = packed.tight (omega arith) in omega arith
    | inr other ↦ let a = is_more.1 other in let t = packed.filled in omega arith
  ]

  step_tight : i + 1 ≤ grown → 2 * (top + ((span_at spans i).len + (span_at spans i).len / 2 + more)) ≤ 3 * held (take (i + 1) old)
  step_tight h = let e = ap (λ (t : Span). t.len) same_at in let m = held_more in
      let a = is_more.1 (λ (e : i ≡ grown). let bad : i < i = omega arith in omega arith) in let t = packed.tight (omega arith) in omega arith

  step_held : held next ≡ held old
  unfolding next
  step_held = let e = sum_by-set (λ s. s.len) spans i (next_span top more (span_at spans i)) no_span there in let h = packed.held_is in omega arith

  pub ArePacked-step : ArePacked from (put_mid top (top + (span_at spans i).len - top) to part) old (slice_set spans i (next_span top more (span_at spans i)))
      (top + ((span_at spans i).len + (span_at spans i).len / 2 + more)) (i + 1) grown
  unfolding next filled_to
  ArePacked-step = record {
    filled = step_filled;
    tight = step_tight;
    rest = λ k h. elsewhere k (λ e. let bad : k < k = omega arith in omega arith) ∙ packed.rest k (omega arith);
    shown = step_shown;
    within = step_within;
    rising = step_rising;
    held_is = step_held;
    has_grown = step_grown;
  }
