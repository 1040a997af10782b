-- What the last state of a table says of its machine.
use Rattle.std.proofs.Common.{◌≡◌, ◌⊎◌, ℕ, Bool, List, All, Option, Some, None, ap, sym, ◌∙◌, subst}
use mathlib.Core.List.{IsPrefix}
use mathlib.Core.Option.{some, some-injective}
use lib.ListN.{get_elem?}
use Rattle.atomic_table.specs.Table.{Me, Final, Seen}
use Rattle.atomic_table.specs.Seated.{TableId}
use Rattle.catalog_lock.specs.declared.history.Event.{Event}
use Rattle.catalog_lock.specs.declared.history.View.{View}
use Rattle.catalog_lock.specs.History.{calls_by, IsLegal}
use Rattle.catalog_lock.specs.Turns.{Kept, IsIdle}
use Rattle.catalog_lock.specs.Passes.{Shown, shown, IsJoined, AreAllJoined}
use Rattle.catalog_lock.proofs.Steps.{closes}

module _ {M G R : Type 0} (history : M → List Event) (made : M → G) (takes : G → List ℕ → Type 0) (step : G → List Event → ℕ → List ℕ → R → Type 0) (keeps : R → Bool) where
  -- all that `close` says
  abbrev Ends : Shown G → M → Type 0
  Ends p m =
      (made m ≡ p.made) × IsPrefix p.seen (history m) × IsLegal takes step keeps p.made (history m) × (calls_by 0 (history m) ≡ p.mine)
      × All (λ x. calls_by x.number (history m) ≡ x.calls) p.joined
      × All (λ e. (e.session ≡ 0) ⊎ IsJoined e.session p.joined) (history m)

  last : (origin : G) (id : ℕ) (me : Me (Option M) (View G)) (p : Shown G) (table : TableId) (ws : List ℕ) (xs : List (Option M)) (found : Option M)
      → shown table me.0 ≡ p → IsIdle me → p.number ≡ 0 → AreAllJoined p.next p.joined → Final (Seen (Kept history made takes step keeps origin) id me.0) ws xs → get_elem? xs 0 ≡ some found
      → (m : M) × (found ≡ Some m) × Ends p m
  last origin id me p table ws xs found view idle first whole final at =
      let v : View G = me.0 in
      let first' : v.number ≡ 0 = ap (λ (q : Shown G). q.number) view ∙ first in
      let whole' : AreAllJoined v.next v.joined = subst (λ (q : Shown G). AreAllJoined q.next q.joined) (sym view) whole in
      let c = closes history made takes step keeps origin id v ws xs idle.0 idle.1 first' whole' final in (
        c.0,
        some-injective found (Some c.0) (sym at ∙ c.1),
        subst (λ (q : Shown G). Ends q c.0) view (c.2, c.3, c.4, subst (λ n. calls_by n (history c.0) ≡ v.mine) first' c.5, c.6, c.7),
      )

  pub has_machine : (origin : G) (id : ℕ) (me : Me (Option M) (View G)) (p : Shown G) (table : TableId) (ws : List ℕ) (xs : List (Option M)) (found : Option M)
      → shown table me.0 ≡ p → IsIdle me → p.number ≡ 0 → AreAllJoined p.next p.joined → Final (Seen (Kept history made takes step keeps origin) id me.0) ws xs → get_elem? xs 0 ≡ some found
      → found ≡ None → ⊥
  has_machine origin id me p table ws xs found view idle first whole final at nothing =
      let l = last origin id me p table ws xs found view idle first whole final at in
      absurd (let clash : Some l.0 ≡ None = sym l.1 ∙ nothing in cc clash)

  pub ends : (origin : G) (id : ℕ) (me : Me (Option M) (View G)) (p : Shown G) (table : TableId) (ws : List ℕ) (xs : List (Option M)) (found : Option M) (m : M)
      → shown table me.0 ≡ p → IsIdle me → p.number ≡ 0 → AreAllJoined p.next p.joined → Final (Seen (Kept history made takes step keeps origin) id me.0) ws xs → get_elem? xs 0 ≡ some found
      → found ≡ Some m → Ends p m
  ends origin id me p table ws xs found m view idle first whole final at is =
      let l = last origin id me p table ws xs found view idle first whole final at in
      let same : l.0 ≡ m = (let both : Some l.0 ≡ Some m = sym l.1 ∙ is in cc both) in
      subst (Ends p) same l.2
