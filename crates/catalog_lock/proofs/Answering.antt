-- What a call tells, put together from its steps.
use Rattle.std.proofs.Common.{◌≡◌, ℕ, Bool, true, false, List, [], ◌∷◌, ◌++◌, Option, None, MatchBool, refl, ap, sym, ◌∙◌, subst}
use mathlib.Core.List.{IsPrefix}
use Rattle.atomic_table.specs.Table.{Me}
use Rattle.atomic_table.specs.Seated.{TableId}
use Rattle.catalog_lock.specs.declared.history.Event.{Event}
use Rattle.catalog_lock.specs.declared.history.View.{View}
use Rattle.catalog_lock.specs.History.{event, calls_by, IsLegal}
use Rattle.catalog_lock.specs.Turns.{with_turn, with_call, without_turn}
use Rattle.catalog_lock.specs.Passes.{Shown, shown, MakesCall, MakesNoCall}
use Rattle.catalog_lock.proofs.Histories.{prefix_trans, calls-same, legal-push}

-- what four steps leave as it was
pub same_at_last : (a b c d e : TableId) → b ≡ a → c ≡ b → d ≡ c → e ≡ d → e ≡ a
same_at_last a b c d e ab bc cd de = de ∙ (cd ∙ (bc ∙ ab))

module _ {M G : Type 0} (history : M → List Event) where
  -- the view at the end of a call
  pub final_view : (b : Bool) (v : View G) (log : List Event) (known x : M) (m1 m2 m3 m4 : Me (Option M) (View G)) (l2 : List (ℕ × Option M))
      → m1 ≡ (with_turn v log, (0, None) ∷ []) → m2 ≡ (m1.0, l2) → MatchBool b (m3 ≡ (with_call m2.0 (history known), m2.1)) (m3 ≡ m2) → m4 ≡ (without_turn m3.0, []) → known ≡ x
      → MatchBool b (m4.0 ≡ without_turn (with_call (with_turn v log) (history x))) (m4.0 ≡ without_turn (with_turn v log))
  final_view true v log known x m1 m2 m3 m4 l2 c1 c2 c3 c4 same =
      ap (λ (m : Me (Option M) (View G)). m.0) c4 ∙ (ap (λ (m : Me (Option M) (View G)). without_turn m.0) c3
      ∙ (ap (λ (m : Me (Option M) (View G)). without_turn (with_call m.0 (history known))) c2
      ∙ (ap (λ (m : Me (Option M) (View G)). without_turn (with_call m.0 (history known))) c1 ∙ ap (λ (k : M). without_turn (with_call (with_turn v log) (history k))) same)))
  final_view false v log known x m1 m2 m3 m4 l2 c1 c2 c3 c4 same =
      ap (λ (m : Me (Option M) (View G)). m.0) c4 ∙ (ap (λ (m : Me (Option M) (View G)). without_turn m.0) c3 ∙ (ap (λ (m : Me (Option M) (View G)). without_turn m.0) c2 ∙ ap (λ (m : Me (Option M) (View G)). without_turn m.0) c1))

  -- the same, by what the machine says of its reply
  pub final_view_by : (kept b : Bool) (v : View G) (log : List Event) (known x : M) (m1 m2 m3 m4 : Me (Option M) (View G)) (l2 : List (ℕ × Option M)) → kept ≡ b
      → m1 ≡ (with_turn v log, (0, None) ∷ []) → m2 ≡ (m1.0, l2) → MatchBool kept (m3 ≡ (with_call m2.0 (history known), m2.1)) (m3 ≡ m2) → m4 ≡ (without_turn m3.0, []) → known ≡ x
      → MatchBool b (m4.0 ≡ without_turn (with_call (with_turn v log) (history x))) (m4.0 ≡ without_turn (with_turn v log))
  final_view_by kept b v log known x m1 m2 m3 m4 l2 is c1 c2 c3 c4 same =
      subst (λ z. MatchBool z (m4.0 ≡ without_turn (with_call (with_turn v log) (history x))) (m4.0 ≡ without_turn (with_turn v log))) is
      (final_view kept v log known x m1 m2 m3 m4 l2 c1 c2 c3 c4 same)

module _ {G R : Type 0} (step : G → List Event → ℕ → List ℕ → R → Type 0) (may_give : G → List Event → ℕ → List ℕ → R → Type 0) where
  -- the pass goes on from what it had seen
  pub seen_begins : (b : Bool) (p q : Shown G) (text : List ℕ) (answer : R) → MatchBool b (MakesCall step p text answer q) (MakesNoCall may_give p text answer q) → IsPrefix p.seen q.seen
  seen_begins true p q text answer made_call =
      subst (λ (z : Shown G). IsPrefix p.seen z.seen) (sym made_call.3)
      (prefix_trans p.seen made_call.0 (made_call.0 ++ event p.number text ∷ []) made_call.1 (event p.number text ∷ [], refl))
  seen_begins false p q text answer made_none = subst (λ (z : Shown G). IsPrefix p.seen z.seen) (sym made_none.3) made_none.1

module _ {M G R : Type 0} (history : M → List Event) where
  module _ (made : M → G) (step : G → List Event → ℕ → List ℕ → R → Type 0) (may_give : G → List Event → ℕ → List ℕ → R → Type 0) where
    -- what the machine did, at these
    abbrev Acted : Bool → M → List ℕ → R → G × List Event × ℕ → Type 0
    Acted b x text answer z = MatchBool b
        ((history x ≡ z.1 ++ event z.2 text ∷ []) × step z.0 z.1 z.2 text answer)
        ((history x ≡ z.1) × may_give z.0 z.1 z.2 text answer)

    told : (b : Bool) (table : TableId) (v w : View G) (text : List ℕ) (answer : R) (log : List Event) (x : M)
        → IsPrefix v.seen log → calls_by v.number log ≡ v.mine → Acted b x text answer (v.made, log, v.number)
        → MatchBool b (w ≡ without_turn (with_call (with_turn v log) (history x))) (w ≡ without_turn (with_turn v log))
        → MatchBool b (MakesCall step (shown table v) text answer (shown table w)) (MakesNoCall may_give (shown table v) text answer (shown table w))
    told true table v w text answer log x seen mine acted view =
        let own : calls_by v.number (history x) ≡ v.mine ++ event v.number text ∷ [] =
        ap (calls_by v.number) acted.0 ∙ (calls-same v.number text log ∙ ap (λ (l : List Event). l ++ event v.number text ∷ []) mine) in (
          log,
          seen,
          acted.1,
          ap (shown table) view
              ∙ (λ i. record { table = table; number = v.number; made = v.made; seen = acted.0 i; mine = own i; joined = v.joined; next = v.next }),
        )
    told false table v w text answer log x seen mine acted view = (log, seen, acted.1, ap (shown table) view)

    pub called : (b : Bool) (table table' : TableId) (v w : View G) (n : ℕ) (text : List ℕ) (answer : R) (log : List Event) (m x : M)
        → table' ≡ table → n ≡ v.number → history m ≡ log → made m ≡ v.made → IsPrefix v.seen log → calls_by v.number log ≡ v.mine
        → Acted b x text answer (made m, history m, n)
        → MatchBool b (w ≡ without_turn (with_call (with_turn v log) (history x))) (w ≡ without_turn (with_turn v log))
        → MatchBool b (MakesCall step (shown table v) text answer (shown table' w)) (MakesNoCall may_give (shown table v) text answer (shown table' w))
    called b table table' v w n text answer log m x table_is n_is log_is made_is seen mine acted view =
        subst (λ (t : TableId). MatchBool b (MakesCall step (shown table v) text answer (shown t w)) (MakesNoCall may_give (shown table v) text answer (shown t w))) (sym table_is)
        (told b table v w text answer log x seen mine (subst (Acted b x text answer) (λ i. (made_is i, log_is i, n_is i)) acted) view)

    module _ (takes : G → List ℕ → Type 0) (keeps : R → Bool) where
      still : (b : Bool) (v w : View G) (text : List ℕ) (answer : R) (log : List Event) (x : M)
          → keeps answer ≡ b → takes v.made text → IsLegal takes step keeps v.made log → Acted b x text answer (v.made, log, v.number)
          → MatchBool b (w ≡ without_turn (with_call (with_turn v log) (history x))) (w ≡ without_turn (with_turn v log))
          → IsLegal takes step keeps w.made w.seen
      still true v w text answer log x is takes_it legal acted view = subst (λ (z : View G). IsLegal takes step keeps z.made z.seen) (sym view)
          (subst (IsLegal takes step keeps v.made) (sym acted.0) (legal-push takes step keeps v.made log v.number text legal (takes_it, (answer, acted.1, is))))
      still false v w text answer log x is takes_it legal acted view = subst (λ (z : View G). IsLegal takes step keeps z.made z.seen) (sym view) legal

      pub still_legal : (b : Bool) (v w : View G) (n : ℕ) (text : List ℕ) (answer : R) (log : List Event) (m x : M)
          → keeps answer ≡ b → takes v.made text → IsLegal takes step keeps v.made log → n ≡ v.number → history m ≡ log → made m ≡ v.made
          → Acted b x text answer (made m, history m, n)
          → MatchBool b (w ≡ without_turn (with_call (with_turn v log) (history x))) (w ≡ without_turn (with_turn v log))
          → IsLegal takes step keeps w.made w.seen
      still_legal b v w n text answer log m x is takes_it legal n_is log_is made_is acted view =
          still b v w text answer log x is takes_it legal (subst (Acted b x text answer) (λ i. (made_is i, log_is i, n_is i)) acted) view
