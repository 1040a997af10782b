-- Marks that join others, one by one.
use Rattle.std.proofs.Common.{◌≡◌, ◌≢◌, ℕ, Bool, true, false, List, [], ◌∷◌, ◌++◌, if◌then◌else◌, nat_eq, refl, sym, ◌∙◌, ap, subst, inl, inr, true≢false}
use Rattle.std.specs.List.{Contains, list_any}
use Rattle.std.specs.Cmp.{nat_eq_equiv}
use Rattle.std.proofs.lemmas.Bool.{eqb-true}
use Rattle.std.proofs.lemmas.List.{append-nil, append_assoc}
use Rattle.std.proofs.lemmas.List.Elements.{Contains-append_cases, Contains-append_left, Contains-append_right, Contains-get_or, Contains-push}
use Rattle.std.proofs.lemmas.List.Quantifiers.{all_pairs_push}
use Rattle.std.proofs.lemmas.Map.Views.{Contains-from_any, list_any-from_Contains}
use Rattle.indexmap.specs.IndexSet.{insert_key}
use Rattle.finite_chains.proofs.Members.{Contains-cases, Contains-nil}
use Rattle.link_marks.specs.Marked.{Grows, Joins}
use Rattle.link_marks.proofs.MarkSums.{Differ}

pub grows_nothing : (before : List ℕ) → Grows [] before before
grows_nothing before = record { more = []; behind = sym (append-nil before); among = λ n h. h; there = λ n h. absurd (Contains-nil n h); once = λ h. h }

only : (x y : ℕ) → Contains (x ∷ []) y → x ≡ y
only x y h = elim (Contains-cases x [] y h) [ inl e ↦ e | inr none ↦ absurd (Contains-nil y none) ]

joined_again : (n : ℕ) (before after : List ℕ) → Contains before n → after ≡ before → Joins n before after
joined_again n before after there is = record {
  more = [];
  behind = is ∙ sym (append-nil before);
  among = λ m h. absurd (Contains-nil m h);
  there = λ m h. subst (Contains after) (only n m h) (subst (λ l. Contains l n) (sym is) there);
  once = λ h. subst Differ (sym is) h;
}

joined_new : (n : ℕ) (before after : List ℕ) → (Contains before n → ⊥) → after ≡ before ++ n ∷ [] → Joins n before after
joined_new n before after new is = record {
  more = n ∷ [];
  behind = is;
  among = λ m h. h;
  there = λ m h. subst (Contains after) (only n m h) (subst (λ l. Contains l n) (sym is) (Contains-push before n));
  once = λ h. subst Differ (sym is) (all_pairs_push (λ a b. a ≢ b) before n h (λ k d below same. new (subst (Contains before) same (Contains-get_or before k d below))));
}

pub joined : (n : ℕ) (before after : List ℕ) → after ≡ insert_key nat_eq before n → Joins n before after
joined n before after is = by (list_any (nat_eq n) before) refl
  where
    by : (b : Bool) → list_any (nat_eq n) before ≡ b → Joins n before after
    by true e = joined_again n before after (Contains-from_any (λ x y same. eqb-true x y same) n before e) (is ∙ ap (λ b. if b then before else before ++ n ∷ []) e)
    by false e = joined_new n before after (λ h. true≢false (sym (list_any-from_Contains nat_eq_equiv n before h) ∙ e)) (is ∙ ap (λ b. if b then before else before ++ n ∷ []) e)

-- one after the other
pub grows_more : (numbers : List ℕ) (n : ℕ) (a b c : List ℕ) → Grows numbers a b → Joins n b c → Grows (numbers ++ n ∷ []) a c
grows_more numbers n a b c first last = record {
  more = first.more ++ last.more;
  behind = last.behind ∙ ap (λ l. l ++ last.more) first.behind ∙ append_assoc a first.more last.more;
  among = λ m h. elim (Contains-append_cases first.more last.more m h) [
    | inl early ↦ Contains-append_left numbers (n ∷ []) m (first.among m early)
    | inr late ↦ Contains-append_right numbers (n ∷ []) m (last.among m late)
  ];
  there = λ m h. elim (Contains-append_cases numbers (n ∷ []) m h) [
    | inl early ↦ subst (λ l. Contains l m) (sym last.behind) (Contains-append_left b last.more m (first.there m early))
    | inr late ↦ last.there m late
  ];
  once = λ h. last.once (first.once h);
}
