-- How lists in spans stay the same, and change.
use Rattle.std.proofs.Common.{◌≡◌, ℕ, ◌+◌, ◌-◌, ◌<◌, ◌≤◌, ◌≢◌, List, [], ◌∷◌, ◌++◌, length, get_or, sym, ◌∙◌, ap, refl, inl, inr, subst, arith}
use Rattle.std.specs.List.{slice_set, between, remove, CopiedTo, SameBelow}
use Rattle.std.proofs.lemmas.List.Sums.{sum_by-set}
use Rattle.std.proofs.lemmas.List.{same_lists, map-set, length-map, length-set, length-append, get_or-map, get_or-set_same, get_or-set_other, get_or_append_left, get_or_push}
use Rattle.std.proofs.lemmas.List.Edits.{between_more, length-between, get_or-between, length-remove, get_or-remove_below, get_or-remove_above}
use Rattle.std.proofs.lemmas.Bool.{cases_eq, cases_lt, cases_order}
use Rattle.item_index.specs.declared.spans.Span.{Span}
use Rattle.item_index.specs.Shelves.{list_at}
use Rattle.item_index.specs.Spans.{AreApart, AreSound, IsWithin, held, no_span, span_at, text_of, texts}

-- two spans show the same where they are of one length and the cells agree
pub text_of-same : (cells now : List ℕ) (s t : Span) → t.len ≡ s.len → s.start + s.len ≤ length cells → t.start + t.len ≤ length now
    → ((k d : ℕ) → k < s.len → get_or now (t.start + k) d ≡ get_or cells (s.start + k) d) → text_of now t ≡ text_of cells s
text_of-same cells now s t len below below_now agree =
    same_lists _ _ (length-between now t.start (t.start + t.len) below_now ∙ (let e : t.start + t.len - t.start ≡ s.start + s.len - s.start = omega arith in e) ∙ sym (length-between cells s.start (s.start + s.len) below))
    (λ k d h.
    let h1 : k < t.start + t.len - t.start = subst (λ (n : ℕ). k < n) (length-between now t.start (t.start + t.len) below_now) h in
    let h2 : k < s.len = omega arith in
    let h3 : t.start + k < t.start + t.len = omega arith in
    let h4 : s.start + k < s.start + s.len = omega arith in
    get_or-between now t.start (t.start + t.len) k d h3 ∙ agree k d h2 ∙ sym (get_or-between cells s.start (s.start + s.len) k d h4))

-- a span shows the same where its cells stay
pub text_of-kept : (cells now : List ℕ) (s : Span) → s.start + s.len ≤ length cells → length now ≡ length cells
    → ((k d : ℕ) → s.start ≤ k → k < s.start + s.len → get_or now k d ≡ get_or cells k d) → text_of now s ≡ text_of cells s
text_of-kept cells now s below len agree =
    text_of-same cells now s s refl below (omega arith) (λ k d h. agree (s.start + k) d (omega arith) (omega arith))

-- what spans show, span by span
pub texts-same : (cells now : List ℕ) (spans new : List Span) → length new ≡ length spans
    → ((k : ℕ) → k < length spans → text_of now (span_at new k) ≡ text_of cells (span_at spans k)) → texts now new ≡ texts cells spans
texts-same cells now spans new len agree =
    same_lists _ _ (length-map new (text_of now) ∙ len ∙ sym (length-map spans (text_of cells)))
    (λ k d h.
    let h1 : k < length new = subst (λ (n : ℕ). k < n) (length-map new (text_of now)) h in
    let h2 : k < length spans = omega arith in
    get_or-map (text_of now) new k no_span d h1 ∙ agree k h2 ∙ sym (get_or-map (text_of cells) spans k no_span d h2))

-- one span changes, and the others show the same
pub texts-set : (cells now : List ℕ) (spans : List Span) (i : ℕ) (s : Span) → i < length spans
    → ((k : ℕ) → k < length spans → k ≢ i → text_of now (span_at spans k) ≡ text_of cells (span_at spans k))
    → texts now (slice_set spans i s) ≡ slice_set (texts cells spans) i (text_of now s)
texts-set cells now spans i s within agree =
    map-set (text_of now) spans i s ∙ same_lists _ _
    (length-set (texts now spans) i (text_of now s) ∙ length-map spans (text_of now) ∙ sym (length-map spans (text_of cells)) ∙ sym (length-set (texts cells spans) i (text_of now s)))
    (λ k d h.
    let h1 : k < length (texts now spans) = subst (λ (n : ℕ). k < n) (length-set (texts now spans) i (text_of now s)) h in
    let h2 : k < length spans = subst (λ (n : ℕ). k < n) (length-map spans (text_of now)) h1 in
    let w1 : i < length (texts now spans) = rw (length-map spans (text_of now)) within in
    let w2 : i < length (texts cells spans) = rw (length-map spans (text_of cells)) within in
    elim (cases_eq k i) [
      | inl e ↦ rw e (get_or-set_same (texts now spans) i (text_of now s) d w1 ∙ sym (get_or-set_same (texts cells spans) i (text_of now s) d w2))
      | inr ne ↦ get_or-set_other (texts now spans) i k (text_of now s) d ne ∙ get_or-map (text_of now) spans k no_span d h2 ∙ agree k h2 ne
          ∙ sym (get_or-map (text_of cells) spans k no_span d h2) ∙ sym (get_or-set_other (texts cells spans) i k (text_of now s) d ne)
    ])

pub AreApart-flip : (s t : Span) → AreApart s t → AreApart t s
AreApart-flip s t p = elim p [ inl h ↦ inr h | inr h ↦ inl h ]

pub IsWithin-above : (top now : ℕ) (s : Span) → top ≤ now → IsWithin top s → IsWithin now s
IsWithin-above top now s le w = record { used = w.used; below = omega arith }

-- one span changes to one that is apart from all others
pub AreSound-set : (spans : List Span) (top now i : ℕ) (s : Span) → i < length spans → AreSound spans top → top ≤ now → IsWithin now s
    → ((k : ℕ) → k < length spans → k ≢ i → AreApart s (span_at spans k)) → AreSound (slice_set spans i s) now
AreSound-set spans top now i s at sound le fits away = record {
  within = λ k h.
      let h1 : k < length spans = subst (λ (n : ℕ). k < n) (length-set spans i s) h in
      elim (cases_eq k i) [
        | inl e ↦ rw (e, get_or-set_same spans i s no_span at) fits
        | inr ne ↦ rw (get_or-set_other spans i k s no_span ne) (IsWithin-above top now _ le (sound.within k h1))
      ];
  apart = λ j k lt h.
      let h1 : k < length spans = subst (λ (n : ℕ). k < n) (length-set spans i s) h in
      let h0 : j < length spans = omega arith in
      elim (cases_eq j i) [
        | inl e ↦
            let ne : k ≢ i = λ f. let bad : j < j = omega arith in omega arith in
            rw (e, get_or-set_same spans i s no_span at, get_or-set_other spans i k s no_span ne) (away k h1 ne)
        | inr nj ↦ elim (cases_eq k i) [
          | inl f ↦ rw (f, get_or-set_same spans i s no_span at, get_or-set_other spans i j s no_span nj) (AreApart-flip s (span_at spans j) (away j h0 nj))
          | inr nk ↦ rw (get_or-set_other spans i j s no_span nj, get_or-set_other spans i k s no_span nk) (sound.apart j k lt h1)
        ]
      ];
}

-- two spans of a sound layout are apart, whichever comes first
pub apart_either : (spans : List Span) (top : ℕ) → AreSound spans top → (j k : ℕ) → j ≢ k → j < length spans → k < length spans → AreApart (span_at spans j) (span_at spans k)
apart_either spans top sound j k ne hj hk = elim (cases_order j k) [
  | inl e ↦ absurd (ne e)
  | inr o ↦ elim o [ inl lt ↦ sound.apart j k lt hk | inr gt ↦ AreApart-flip (span_at spans k) (span_at spans j) (sound.apart k j gt hj) ]
]

-- an empty span more
pub AreSound-push : (spans : List Span) (top : ℕ) → AreSound spans top → AreSound (spans ++ no_span ∷ []) top
AreSound-push spans top sound = record {
  within = λ k h. elim (cases_lt k (length spans)) [
    | inl lt ↦ rw (get_or_append_left spans (no_span ∷ []) no_span k lt) (sound.within k lt)
    | inr ge ↦
        let h1 : k < length spans + 1 = subst (λ (n : ℕ). k < n) (length-append spans (no_span ∷ [])) h in
        let e : length spans ≡ k = omega arith in
        rw (get_or_push spans no_span no_span k e) (record { used = omega arith; below = omega arith })
  ];
  apart = λ j k lt h.
      let h1 : k < length spans + 1 = subst (λ (n : ℕ). k < n) (length-append spans (no_span ∷ [])) h in
      let hj : j < length spans = omega arith in
      elim (cases_lt k (length spans)) [
        | inl lk ↦ rw (get_or_append_left spans (no_span ∷ []) no_span j hj, get_or_append_left spans (no_span ∷ []) no_span k lk) (sound.apart j k lt lk)
        | inr ge ↦
            let e : length spans ≡ k = omega arith in
            rw (get_or_append_left spans (no_span ∷ []) no_span j hj, get_or_push spans no_span no_span k e) (inr (omega arith))
      ];
}

-- a span with a number less
abbrev pub shortened : Span → Span
shortened s = record { start = s.start; len = s.len - 1; room = s.room }

-- a list without the number at a place, of which the later ones have moved down
pub text_of-taken_out : (cells now : List ℕ) (s : Span) (at : ℕ) → at < s.len → s.start + s.len ≤ length cells → length now ≡ length cells
    → CopiedTo cells now (s.start + at + 1) (s.start + at) (s.start + s.len - (s.start + at + 1)) → SameBelow cells now (s.start + at)
    → text_of now (shortened s) ≡ remove (text_of cells s) at
text_of-taken_out cells now s at lt below len copied same =
    let old_len : length (text_of cells s) ≡ s.len = length-between cells s.start (s.start + s.len) below ∙ (let e : s.start + s.len - s.start ≡ s.len = omega arith in e) in
    let new_len : length (text_of now (shortened s)) ≡ s.len - 1 = length-between now s.start (s.start + (s.len - 1)) (omega arith) ∙ (let e : s.start + (s.len - 1) - s.start ≡ s.len - 1 = omega arith in e) in
    let in_old : at < length (text_of cells s) = omega arith in
    let cut : length (remove (text_of cells s) at) + 1 ≡ length (text_of cells s) = length-remove (text_of cells s) at in_old in
    same_lists _ _ (omega arith) (λ k d h.
    let h1 : k < s.len - 1 = omega arith in
    let h2 : s.start + k < s.start + (s.len - 1) = omega arith in
    get_or-between now s.start (s.start + (s.len - 1)) k d h2 ∙ elim (cases_lt k at) [
      | inl lo ↦
          let h3 : s.start + k < s.start + s.len = omega arith in
          same (s.start + k) d (omega arith) ∙ sym (get_or-between cells s.start (s.start + s.len) k d h3) ∙ sym (get_or-remove_below (text_of cells s) at d k lo in_old)
      | inr hi ↦
          let h3 : s.start + (k + 1) < s.start + s.len = omega arith in
          let e : s.start + at + 1 + (s.start + k - (s.start + at)) ≡ s.start + (k + 1) = omega arith in
          copied (s.start + k) d (omega arith) (omega arith) ∙ ap (λ (n : ℕ). get_or cells n d) e ∙ sym (get_or-between cells s.start (s.start + s.len) (k + 1) d h3)
          ∙ sym (get_or-remove_above (text_of cells s) at d k hi in_old)
    ])

-- the other lists stay where cells change within one span alone
pub text_of-apart : (cells now : List ℕ) (spans : List Span) (top i : ℕ) → AreSound spans top → top ≤ length cells → length now ≡ length cells → i < length spans
    → ((k d : ℕ) → k < (span_at spans i).start → get_or now k d ≡ get_or cells k d)
    → ((k d : ℕ) → (span_at spans i).start + (span_at spans i).room ≤ k → get_or now k d ≡ get_or cells k d)
    → (k : ℕ) → k < length spans → k ≢ i → text_of now (span_at spans k) ≡ text_of cells (span_at spans k)
text_of-apart cells now spans top i sound fits len at below above k h ne =
    let w = sound.within k h in
    let u : (span_at spans k).len ≤ (span_at spans k).room = w.used in
    let b : (span_at spans k).start + (span_at spans k).room ≤ top = w.below in
    text_of-kept cells now (span_at spans k) (omega arith) len (λ j d lo hi. elim (apart_either spans top sound k i ne h at) [
      | inl before ↦ below j d (omega arith)
      | inr after ↦ above j d (omega arith)
    ])

-- a layout stays sound where a list has a number less
pub AreSound-shortened : (spans : List Span) (top i : ℕ) → i < length spans → AreSound spans top → AreSound (slice_set spans i (shortened (span_at spans i))) top
AreSound-shortened spans top i at sound =
    let w = sound.within i at in
    let u : (span_at spans i).len ≤ (span_at spans i).room = w.used in
    AreSound-set spans top top i (shortened (span_at spans i)) at sound (omega arith) (record { used = omega arith; below = w.below })
    (λ k h ne. apart_either spans top sound i k (λ e. ne (sym e)) at h)

pub held-shortened : (spans : List Span) (i : ℕ) → i < length spans → 0 < (span_at spans i).len → held (slice_set spans i (shortened (span_at spans i))) + 1 ≡ held spans
held-shortened spans i at some = let e = sum_by-set (λ s. s.len) spans i (shortened (span_at spans i)) no_span at in omega arith

pub length-text_of : (cells : List ℕ) (s : Span) → s.start + s.len ≤ length cells → length (text_of cells s) ≡ s.len
length-text_of cells s below = length-between cells s.start (s.start + s.len) below ∙ (let e : s.start + s.len - s.start ≡ s.len = omega arith in e)

pub list_at-texts : (cells : List ℕ) (spans : List Span) (i : ℕ) → i < length spans → list_at (texts cells spans) i ≡ text_of cells (span_at spans i)
list_at-texts cells spans i h = get_or-map (text_of cells) spans i no_span [] h

-- a list's numbers are within the cells
pub below_length : (spans : List Span) (top n i : ℕ) → AreSound spans top → top ≤ n → i < length spans → (span_at spans i).start + (span_at spans i).len ≤ n
below_length spans top n i sound le h =
    let w = sound.within i h in
    let u : (span_at spans i).len ≤ (span_at spans i).room = w.used in
    let b : (span_at spans i).start + (span_at spans i).room ≤ top = w.below in
    omega arith

-- a list that moves to the top shows the same, and so do the others
pub texts-moved : (cells now : List ℕ) (spans : List Span) (top at room : ℕ) → AreSound spans top → at < length spans → top + (span_at spans at).len ≤ length cells → length now ≡ length cells
    → SameBelow cells now top → CopiedTo cells now (span_at spans at).start top ((span_at spans at).start + (span_at spans at).len - (span_at spans at).start)
    → texts now (slice_set spans at (record { start = top; len = (span_at spans at).len; room = room })) ≡ texts cells spans
texts-moved cells now spans top at room sound there fits len same copied =
    let moved : Span = record { start = top; len = (span_at spans at).len; room = room } in
    texts-same cells now spans (slice_set spans at moved) (length-set spans at moved) (λ k h.
    let b = below_length spans top (length cells) k sound (omega arith) h in
    elim (cases_eq k at) [
      | inl e ↦
          let here : text_of now moved ≡ text_of cells (span_at spans at) =
          text_of-same cells now (span_at spans at) moved refl (below_length spans top (length cells) at sound (omega arith) there) (omega arith)
          (λ j d lt. copied (top + j) d (omega arith) (omega arith) ∙ ap (λ (n : ℕ). get_or cells n d) (let f : (span_at spans at).start + (top + j - top) ≡ (span_at spans at).start + j = omega arith in f)) in
          rw (e, get_or-set_same spans at moved no_span there) here
      | inr ne ↦
          let c = below_length spans top top k sound (omega arith) h in
          rw (get_or-set_other spans at k moved no_span ne) (text_of-kept cells now (span_at spans k) b len (λ j d lo hi. same j d (omega arith)))
    ])

-- a span with a number more
abbrev pub lengthened : Span → Span
lengthened s = record { start = s.start; len = s.len + 1; room = s.room }

text_of-pushed : (cells : List ℕ) (s : Span) (x : ℕ) → s.start + s.len < length cells → text_of (slice_set cells (s.start + s.len) x) (lengthened s) ≡ text_of cells s ++ x ∷ []
text_of-pushed cells s x within =
    let now = slice_set cells (s.start + s.len) x in
    let e : s.start + (s.len + 1) ≡ s.start + s.len + 1 = omega arith in
    let n : length now ≡ length cells = length-set cells (s.start + s.len) x in
    ap (λ (n : ℕ). between s.start n now) e
    ∙ between_more now s.start (s.start + s.len) 0 (omega arith) (omega arith)
    ∙ ap (λ (y : ℕ). between s.start (s.start + s.len) now ++ y ∷ []) (get_or-set_same cells (s.start + s.len) x 0 within)
    ∙ ap (λ (t : List ℕ). t ++ x ∷ []) (text_of-kept cells now s (omega arith) n (λ k d lo hi. get_or-set_other cells (s.start + s.len) k x d (λ bad. omega arith)))

-- a number more in a list that has room for it
module _ (cells : List ℕ) (spans : List Span) (top i x : ℕ) (sound : AreSound spans top) (fits : top ≤ length cells) (at : i < length spans) (room : (span_at spans i).len < (span_at spans i).room) where
  within_cells : (span_at spans i).start + (span_at spans i).len < length cells
  within_cells = let b : (span_at spans i).start + (span_at spans i).room ≤ top = (sound.within i at).below in omega arith

  pub AreSound-lengthened : AreSound (slice_set spans i (lengthened (span_at spans i))) top
  AreSound-lengthened =
      let b : (span_at spans i).start + (span_at spans i).room ≤ top = (sound.within i at).below in
      AreSound-set spans top top i (lengthened (span_at spans i)) at sound (omega arith) (record { used = omega arith; below = b }) (λ k h ne. apart_either spans top sound i k (λ e. ne (sym e)) at h)

  pub held-lengthened : held (slice_set spans i (lengthened (span_at spans i))) ≡ held spans + 1
  held-lengthened = let e = sum_by-set (λ s. s.len) spans i (lengthened (span_at spans i)) no_span at in omega arith

  pub texts-pushed : texts (slice_set cells ((span_at spans i).start + (span_at spans i).len) x) (slice_set spans i (lengthened (span_at spans i)))
      ≡ slice_set (texts cells spans) i (list_at (texts cells spans) i ++ x ∷ [])
  texts-pushed =
      let p = (span_at spans i).start + (span_at spans i).len in
      let now = slice_set cells p x in
      texts-set cells now spans i (lengthened (span_at spans i)) at
      (text_of-apart cells now spans top i sound fits (length-set cells p x) at
      (λ k d h. get_or-set_other cells p k x d (λ bad. omega arith)) (λ k d h. get_or-set_other cells p k x d (λ bad. omega arith)))
      ∙ ap (λ (t : List ℕ). slice_set (texts cells spans) i t) (text_of-pushed cells (span_at spans i) x within_cells ∙ ap (λ (t : List ℕ). t ++ x ∷ []) (sym (list_at-texts cells spans i at)))
