-- Beginnings of a history, the calls of one session, and legal histories.
use Rattle.std.proofs.Common.{◌≡◌, ◌≢◌, ◌==◌, ℕ, ◌≤◌, Bool, true, false, List, [], ◌∷◌, ◌++◌, if◌then◌else◌, length, All, refl, ap, sym, ◌∙◌, subst, arith, ◌⊎◌, inl, inr, ⊎_elim, append_assoc, eq-eqb, ne_eqb}
use Rattle.std.proofs.lemmas.List.{append-nil}
use Rattle.std.proofs.lemmas.List.Elements.{filter-append, All-nil, All-cons}
use mathlib.Core.List.{IsPrefix}
use Rattle.catalog_lock.specs.declared.history.Event.{Event}
use Rattle.catalog_lock.specs.History.{event, calls_by, MayFollow, IsLegal}

pub prefix_self : {A : Type 0} (xs : List A) → IsPrefix xs xs
prefix_self xs = ([], append-nil xs)

pub prefix_trans : {A : Type 0} (xs ys zs : List A) → IsPrefix xs ys → IsPrefix ys zs → IsPrefix xs zs
prefix_trans xs ys zs p q = (p.0 ++ q.0, sym (append_assoc xs p.0 q.0) ∙ (ap (λ w. w ++ q.0) p.1 ∙ q.1))

-- of two beginnings of one list the shorter begins the longer
pub prefix_shorter : {A : Type 0} (xs ys zs : List A) → IsPrefix xs zs → IsPrefix ys zs → length xs ≤ length ys → IsPrefix xs ys
prefix_shorter [] ys zs p q le = (ys, refl)
prefix_shorter (x ∷ xs) [] zs p q le = absurd (omega arith)
prefix_shorter (x ∷ xs) (y ∷ ys) [] p q le = absurd (cc (p.1))
prefix_shorter (x ∷ xs) (y ∷ ys) (z ∷ zs) p q le =
    let heads : x ≡ y = cc (p.1, q.1) in
    let rest = prefix_shorter xs ys zs (p.0, cc (p.1)) (q.0, cc (q.1)) (omega arith) in
    (rest.0, cc (heads, rest.1))

pub calls-append : (n : ℕ) (xs ys : List Event) → calls_by n (xs ++ ys) ≡ calls_by n xs ++ calls_by n ys
calls-append n xs ys = filter-append (λ e. e.session == n) xs ys

calls-one : (n : ℕ) (t : List ℕ) → calls_by n (event n t ∷ []) ≡ event n t ∷ []
calls-one n t = subst (λ (b : Bool). (if b then event n t ∷ [] else []) ≡ event n t ∷ []) (sym (eq-eqb n n refl)) refl

calls-no_one : (k n : ℕ) (t : List ℕ) → k ≢ n → calls_by k (event n t ∷ []) ≡ []
calls-no_one k n t ne = subst (λ (b : Bool). (if b then event n t ∷ [] else []) ≡ []) (sym (ne_eqb n k (λ e. ne (sym e)))) refl

-- one more call of this session
pub calls-same : (n : ℕ) (t : List ℕ) (log : List Event) → calls_by n (log ++ event n t ∷ []) ≡ calls_by n log ++ event n t ∷ []
calls-same n t log = calls-append n log (event n t ∷ []) ∙ ap (λ l. calls_by n log ++ l) (calls-one n t)

-- a call of another
pub calls-other : (k n : ℕ) (t : List ℕ) (log : List Event) → k ≢ n → calls_by k (log ++ event n t ∷ []) ≡ calls_by k log
calls-other k n t log ne = calls-append k log (event n t ∷ []) ∙ (ap (λ l. calls_by k log ++ l) (calls-no_one k n t ne) ∙ append-nil (calls_by k log))

first_nil : {A : Type 0} (xs ys : List A) → xs ++ ys ≡ [] → xs ≡ []
first_nil [] ys e = refl
first_nil (x ∷ xs) ys e = absurd (cc e)

-- who has no call in the history has none in a beginning of it
pub calls-none : (n : ℕ) (seen log : List Event) → IsPrefix seen log → calls_by n log ≡ [] → calls_by n seen ≡ []
calls-none n seen log p e = first_nil (calls_by n seen) (calls_by n p.0) (sym (calls-append n seen p.0) ∙ (ap (calls_by n) p.1 ∙ e))

nil_rest : (e : Event) (l : List Event) (b : Bool) → (if b then e ∷ l else l) ≡ [] → l ≡ []
nil_rest e l true nil = absurd (cc nil)
nil_rest e l false nil = nil

-- what holds of each number that has a call holds of each event's
pub each_session : (P : ℕ → Type 0) (log : List Event) → ((k : ℕ) → (calls_by k log ≡ [] → ⊥) → P k) → All (λ e. P e.session) log
each_session P [] each = All-nil _
each_session P (e ∷ es) each = All-cons (λ x. P x.session) e es
    (each e.session (λ nil. let has : e ∷ calls_by e.session es ≡ [] = subst (λ (b : Bool). (if b then e ∷ calls_by e.session es else calls_by e.session es) ≡ []) (eq-eqb e.session e.session refl) nil in absurd (cc has)))
    (each_session P es (λ k has. each k (λ nil. has (nil_rest e (calls_by k es) (e.session == k) nil))))

-- where a list with one more at its end is cut
cuts : {A : Type 0} (log before after : List A) (e x : A) → log ++ e ∷ [] ≡ before ++ x ∷ after → ((before ≡ log) × (x ≡ e)) ⊎ ((rest : List A) × (log ≡ before ++ x ∷ rest))
cuts [] [] after e x h = inl (refl, cc h)
cuts [] (b ∷ []) after e x h = absurd (cc h)
cuts [] (b ∷ c ∷ bs) after e x h = absurd (cc h)
cuts (l ∷ ls) [] after e x h = inr (ls, cc h)
cuts (l ∷ ls) (b ∷ bs) after e x h = ⊎_elim (λ t. inl (cc (h, t.0), t.1)) (λ t. inr (t.0, cc (h, t.1))) (cuts ls bs after e x (cc h))

module _ {G R : Type 0} (takes : G → List ℕ → Type 0) (step : G → List Event → ℕ → List ℕ → R → Type 0) (keeps : R → Bool) (made : G) where
  pub legal-nil : IsLegal takes step keeps made []
  legal-nil [] e after h = absurd (cc h)
  legal-nil (b ∷ bs) e after h = absurd (cc h)

  pub legal-prefix : (seen log : List Event) → IsPrefix seen log → IsLegal takes step keeps made log → IsLegal takes step keeps made seen
  legal-prefix seen log p legal before e after h = legal before e (after ++ p.0) (sym p.1 ∙ (ap (λ l. l ++ p.0) h ∙ append_assoc before (e ∷ after) p.0))

  pub legal-push : (log : List Event) (n : ℕ) (t : List ℕ) → IsLegal takes step keeps made log → MayFollow takes step keeps made log n t → IsLegal takes step keeps made (log ++ event n t ∷ [])
  legal-push log n t legal may before e after h = ⊎_elim
      (λ c. subst (λ (z : List Event × Event). MayFollow takes step keeps made z.0 z.1.session z.1.text) (λ i. (sym c.0 i, sym c.1 i)) may)
      (λ c. legal before e c.0 c.1)
      (cuts log before after (event n t) e h)
