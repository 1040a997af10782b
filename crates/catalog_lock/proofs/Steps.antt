-- Each step keeps the rule.
use Rattle.std.proofs.Common.{◌≡◌, ◌≢◌, ◌==◌, ℕ, zero, suc, ◌+◌, ◌%◌, ◌^◌, ◌<◌, ◌≤◌, Bool, true, false, List, [], ◌∷◌, ◌++◌, if◌then◌else◌, eqb, nat_lt, length, get_or, set, All, Contains, Option, Some, refl, ap, sym, ◌∙◌, subst, arith, ◌⊎◌, inl, inr, ⊎_elim, length-append, eq-eqb, ne_eqb, lt_of_not-le}
use Rattle.std.proofs.lemmas.List.Elements.{All-weaker, All-nil, All-append, All-cons}
use mathlib.Core.Logic.{dite}
use mathlib.Core.List.{IsPrefix}
use mathlib.Core.Option.{some, none, some-injective, some-ne-none}
use native.Mathlib.Decide.{ℕ_discrete, dec_le}
use lib.ListN.{get_elem?}
use lib.Seq.{set-get_or}
use prog.Atomic.{either}
use Rattle.atomic_table.specs.Table
use Rattle.atomic_table.specs.Table.{State, Me, Act, step, keeps, takes, gives, stepped, rest, opening, Allows, Splits, Joins, Final, Seen}
use Rattle.atomic_table.proofs.Lists.{at_set, set_again, set_here, set_else, at_longer, at_last, exchanged}
use Rattle.catalog_lock.specs.declared.history.Event.{Event}
use Rattle.catalog_lock.specs.declared.history.Ended.{Ended}
use Rattle.catalog_lock.specs.declared.history.View.{View}
use Rattle.catalog_lock.specs.History.{event, calls_by, MayFollow, IsLegal}
use Rattle.catalog_lock.specs.Passes.{IsJoined, AreAllJoined}
use Rattle.catalog_lock.specs.Turns.{newcomer, with_turn, with_call, without_turn, Seats, HasEnded, Fits, Kept, Tries, Appends, Releases, Knows, Looks, SpeaksFor, IsSpokenFor, with_next, view_split_off, joined_with, used_up}
use Rattle.catalog_lock.proofs.Joining.{joined_left, joined_right, joined_first, joined_rest}
use Rattle.catalog_lock.proofs.Histories.{prefix_self, prefix_trans, prefix_shorter, calls-other, calls-none, each_session, legal-nil, legal-prefix, legal-push}

-- `holds` of a view, with the words that it fixes
abbrev HasTurn : {G : Type 0} → List Event → ℕ → ℕ → ℕ → View G → Type 0
HasTurn log turn holder j v = v.holds ≡ true → (turn ≡ 1) × (holder ≡ j) × (v.seen ≡ log)

-- an equation with its type written out
abbrev IsPath : (A : Type 0) → A → A → Type 0
IsPath A a b = a ≡ b

ended_stay : (log log' : List Event) (seat : Seats) (next n id : ℕ) (ended : List Ended)
    → seat n ≡ some id → ((k : ℕ) → k ≢ n → calls_by k log' ≡ calls_by k log) → All (HasEnded log seat next) ended → All (HasEnded log' seat next) ended
ended_stay log log' seat next n id ended here same all = All-weaker (HasEnded log seat next) (HasEnded log' seat next)
    (λ x e. (e.0, e.1, same x.number (λ is. some-ne-none id (sym here ∙ (ap seat (sym is) ∙ e.1))) ∙ e.2)) ended all

pub set_there : {A : Type 0} (l : List A) (i : ℕ) (a b : A) → get_elem? l i ≡ some a → get_elem? (set l i b) i ≡ some b
set_there [] i a b e = absurd (some-ne-none a (sym e))
set_there (x ∷ xs) zero a b e = refl
set_there (x ∷ xs) (suc i) a b e = set_there xs i a b e

-- a view that knows nothing of a call that another made
others_fit : {G : Type 0} (origin : G) (log log' : List Event) (seat : Seats) (next turn holder turn' holder' n id j : ℕ) (u : View G)
    → seat n ≡ some id → j ≢ id → IsPrefix log log' → ((k : ℕ) → k ≢ n → calls_by k log' ≡ calls_by k log)
    → Fits origin log seat next turn holder j u → HasTurn log' turn' holder' j u → Fits origin log' seat next turn' holder' j u
others_fit origin log log' seat next turn holder turn' holder' n id j u here other grows same f turn_is = record {
  made = f.made;
  seen = prefix_trans u.seen log log' f.seen grows;
  told = prefix_trans u.told log log' f.told grows;
  mine = same u.number (λ e. other (some-injective j id (sym f.place ∙ (ap seat e ∙ here)))) ∙ f.mine;
  place = f.place;
  joined = ended_stay log log' seat next n id u.joined here same f.joined;
  first = f.first;
  has_turn = turn_is;
}

-- the seats once this number is at another
abbrev reseat : Seats → ℕ → mathlib.Core.Option.Option ℕ → ℕ → mathlib.Core.Option.Option ℕ
reseat seat n there k = if eqb k n then there else seat k

reseat_here : (seat : Seats) (n : ℕ) (there : mathlib.Core.Option.Option ℕ) → reseat seat n there n ≡ there
reseat_here seat n there = subst (λ (b : Bool). (if b then there else seat n) ≡ there) (sym (eq-eqb n n refl)) refl

reseat_else : (seat : Seats) (n k : ℕ) (there : mathlib.Core.Option.Option ℕ) → k ≢ n → reseat seat n there k ≡ seat k
reseat_else seat n k there ne = subst (λ (b : Bool). (if b then there else seat k) ≡ seat k) (sym (ne_eqb k n ne)) refl

-- who had no seat has none once this number has none
reseat_none : (seat : Seats) (n k : ℕ) → seat k ≡ none → reseat seat n none k ≡ none
reseat_none seat n k e = at_test (eqb k n)
  where
    at_test : (b : Bool) → (if b then none else seat k) ≡ none
    at_test true = refl
    at_test false = e

-- the last of a list, or one before it
at_end : {A : Type 0} (l : List A) (a b : A) (j : ℕ) → get_elem? (l ++ a ∷ []) j ≡ some b → (get_elem? l j ≡ some b) ⊎ ((j ≡ length l) × (a ≡ b))
at_end [] a b zero e = inr (refl, some-injective a b e)
at_end [] a b (suc j) e = absurd (some-ne-none b (sym e))
at_end (x ∷ xs) a b zero e = inl e
at_end (x ∷ xs) a b (suc j) e = ⊎_elim inl (λ t. inr ((let n = t.0 in omega arith), t.1)) (at_end xs a b j e)

-- whoever had someone to speak for it still has, where one view changes and speaks for as much
still_spoken : {G : Type 0} (views : List (View G)) (id : ℕ) (v w : View G) → get_elem? views id ≡ some v → (k : ℕ) → (SpeaksFor k v → SpeaksFor k w) → IsSpokenFor k views → IsSpokenFor k (set views id w)
still_spoken {G} views id v w at k on x = dite (ℕ_discrete x.0 id)
    (λ here.
    let same : x.1 ≡ v = some-injective x.1 v (sym x.2 ∙ (ap (get_elem? views) here ∙ at)) in
    (id, w, set_there views id v w at, on (subst (λ (u : View G). SpeaksFor k u) same x.3)))
    (λ other. (x.0, x.1, set_else views id x.0 w other ∙ x.2, x.3))

-- what both have, either has
pick : (P : List Event → Type 0) (xs ys : List Event) → P xs → P ys → (b : Bool) → P (if b then ys else xs)
pick P xs ys p q true = q
pick P xs ys p q false = p

module _ {M G R : Type 0} (history : M → List Event) (made : M → G) (takes_it : G → List ℕ → Type 0) (reply : G → List Event → ℕ → List ℕ → R → Type 0) (kept : R → Bool) where
  abbrev St : Type 0
  St = State (Option M) (View G)

  abbrev Seat : Type 0
  Seat = Me (Option M) (View G)

  abbrev Rule : G → St → Type 0
  Rule = Kept history made takes_it reply kept

  abbrev Legal : G → List Event → Type 0
  Legal = IsLegal takes_it reply kept

  -- one seat takes a step, after which the history begins with what it was, and has the same calls of all other numbers
  moved : (origin : G) (s : St) (r : Rule origin s) (id : ℕ) (v w : View G) → get_elem? s.views id ≡ some v → v.spent ≡ false
      → (log' : List Event) (turn' holder' : ℕ) (words' : List ℕ) (homes' : List (mathlib.Core.Option.Option (Option M)))
      → ((k : ℕ) → SpeaksFor k v → SpeaksFor k w)
      → IsPrefix r.log log'
      → ((k : ℕ) → k ≢ v.number → calls_by k log' ≡ calls_by k r.log)
      → words' ≡ length log' ∷ turn' ∷ []
      → Legal origin log'
      → (w.spent ≡ false → Fits origin log' r.seat r.next turn' holder' id w)
      → ((j : ℕ) (u : View G) → j ≢ id → Fits origin r.log r.seat r.next r.turn r.holder j u → HasTurn log' turn' holder' j u)
      → (turn' ≡ 0 → (m : M) × (get_elem? homes' 0 ≡ some (some (Some m))) × (history m ≡ log') × (made m ≡ origin))
      → (turn' ≢ 0 → (u : View G) × (get_elem? (set s.views id w) holder' ≡ some u) × (u.spent ≡ false) × (u.holds ≡ true))
      → (turn' ≢ 0 → get_elem? homes' 0 ≡ some none)
      → Rule origin record { words = words'; homes = homes'; views = set s.views id w }
  moved origin s r id v w at live log' turn' holder' words' homes' speaks grows same words_are legal own others free busy out = record {
    log = log';
    seat = r.seat;
    next = r.next;
    turn = turn';
    holder = holder';
    words = words_are;
    legal = legal;
    each = λ j u there unspent. ⊎_elim
        (λ (t : (j ≡ id) × (w ≡ u)). subst (λ (z : ℕ × View G). Fits origin log' r.seat r.next turn' holder' z.0 z.1) (λ i. (sym t.0 i, t.1 i)) (own (ap (λ (z : View G). z.spent) t.1 ∙ unspent)))
        (λ (t : (j ≢ id) × (get_elem? s.views j ≡ some u)). let f = r.each j u t.1 unspent in
        others_fit origin r.log log' r.seat r.next r.turn r.holder turn' holder' v.number id j u (r.each id v at live).place t.0 grows same f (others j u t.0 f))
        (at_set s.views id j w u there);
    spoken = λ k below. still_spoken s.views id v w at k (speaks k) (r.spoken k below);
    unused = λ k le. let n = r.unused k le in
        (same k (λ is. some-ne-none id (sym (r.each id v at live).place ∙ (ap r.seat (sym is) ∙ n.1))) ∙ n.0, n.1);
    free = free;
    busy = busy;
    out = out;
  }

  -- a step that changes nothing
  unmoved : (origin : G) (s : St) → Rule origin s → (i id : ℕ) (v : View G) (c : List (ℕ × Option M)) → get_elem? s.views id ≡ some v
      → Rule origin (stepped s i (get_or s.words i 0) id c v keeps)
  unmoved origin s r i id v c at = subst (λ (z : List ℕ × List (View G)). Rule origin record { words = z.0; homes = s.homes; views = z.1 })
      (λ k. (sym (set-get_or s.words i 0) k, sym (set_again s.views id v at) k)) r

  pub tries : (origin : G) (slots id : ℕ) (me : Seat) → me.0.spent ≡ false
      → Allows (Rule origin) slots id me 1 (λ n. either (n == 0) 1 n) (Tries history made takes_it reply kept (step slots 1 0 1 none) me)
  tries origin slots id me live s r _ at _ =
      let x : ℕ = get_or s.words 1 0 in
      let is : x ≡ r.turn = ap (λ (ws : List ℕ). get_or ws 1 0) r.words in
      let f = r.each id me.0 at live in
      exchanged x 0 1
      (λ y. (w : View G) × (a : Act (Option M)) × Table.Valid s.homes me.1 a × Rule origin (stepped s 1 y id me.1 w a) × Tries history made takes_it reply kept (step slots 1 0 1 none) me x (w, Table.carried_after me.1 a))
      (λ zero_found. let zero_turn : r.turn ≡ 0 = sym is ∙ zero_found in let m = r.free zero_turn in let w : View G = with_turn me.0 r.log in (
        w,
        takes 0 (Some m.0),
        m.1,
        moved origin s r id me.0 w at live r.log 1 id (set s.words 1 1) (set s.homes 0 none) (λ _ x. x) (prefix_self r.log) (λ k _. refl)
            (ap (λ (ws : List ℕ). set ws 1 1) r.words)
            r.legal
            (λ _. record { made = f.made; seen = prefix_self r.log; told = f.told; mine = f.mine; place = f.place; joined = f.joined; first = f.first; has_turn = λ _. (refl, refl, refl) })
            (λ j u _ g holds. absurd (let one = (g.has_turn holds).0 in omega arith))
            (λ e. absurd (omega arith))
            (λ _. (w, set_there s.views id me.0 w at, live, refl))
            (λ _. set_there s.homes 0 (some (Some m.0)) none m.1),
        ((λ _. (m.0, r.log, refl, m.2, m.3 ∙ sym f.made, f.seen, subst (λ g. Legal g r.log) (sym f.made) r.legal, f.mine)), (λ ne. absurd (ne zero_found))),
      ))
      (λ ne. (me.0, keeps, tt, unmoved origin s r 1 id me.0 me.1 at, ((λ e. absurd (ne e)), (λ _. refl))))

  one_hand : (x y : M) → IsPath (List (ℕ × Option M)) ((0, Some x) ∷ []) ((0, Some y) ∷ []) → x ≡ y
  one_hand x y e = let same : Some x ≡ Some y = ap (λ (l : List (ℕ × Option M)). (get_or l 0 (0, Some x)).1) e in cc same

  pub appends : (origin : G) (slots id : ℕ) (me : Seat) (x : M) (text : List ℕ) → me.0.spent ≡ false → me.0.holds ≡ true → me.1 ≡ (0, Some x) ∷ []
      → history x ≡ me.0.seen ++ event me.0.number text ∷ [] → MayFollow takes_it reply kept me.0.made me.0.seen me.0.number text → length (history x) ≤ 2 ^ 63
      → Allows (Rule origin) slots id me 0 (λ n. (n + 1) % 2 ^ 64) (Appends history made takes_it reply kept (step slots 0 1 0 none) me)
  appends origin slots id me x text live holds hand grown may room s r _ at _ =
      let f = r.each id me.0 at live in
      let h = f.has_turn holds in
      let n : ℕ = me.0.number in
      let w : View G = with_call me.0 (history x) in
      let log' : history x ≡ r.log ++ event n text ∷ [] = grown ∙ ap (λ (l : List Event). l ++ event n text ∷ []) h.2 in
      let more : length (history x) ≡ length r.log + 1 = ap length log' ∙ length-append r.log (event n text ∷ []) in
      let same : (k : ℕ) → k ≢ n → calls_by k (history x) ≡ calls_by k r.log = λ k ne. ap (calls_by k) log' ∙ calls-other k n text r.log ne in
      let grows : IsPrefix r.log (history x) = (event n text ∷ [], sym log') in
      let count : (length r.log + 1) % 2 ^ 64 ≡ length (history x) = omega arith in (
        w,
        keeps,
        tt,
        moved origin s r id me.0 w at live (history x) r.turn r.holder (set s.words 0 ((get_or s.words 0 0 + 1) % 2 ^ 64)) s.homes (λ _ x. x) grows same
            (ap (λ (ws : List ℕ). set ws 0 ((get_or ws 0 0 + 1) % 2 ^ 64)) r.words ∙ ap (λ (c : ℕ). c ∷ r.turn ∷ []) count)
            (subst (Legal origin) (sym log') (legal-push takes_it reply kept origin r.log n text r.legal
            (subst (λ (z : G × List Event). MayFollow takes_it reply kept z.0 z.1 n text) (λ i. (f.made i, h.2 i)) may)))
            (λ _. record {
              made = f.made;
              seen = prefix_self (history x);
              told = prefix_trans me.0.told r.log (history x) f.told grows;
              mine = refl;
              place = f.place;
              joined = ended_stay r.log (history x) r.seat r.next n id me.0.joined f.place same f.joined;
              first = f.first;
              has_turn = λ _. (h.0, h.1, refl);
            })
            (λ j u other g has. absurd (other (sym ((g.has_turn has).1) ∙ h.1)))
            (λ e. absurd (let one = h.0 in omega arith))
            (λ _. (w, subst (λ k. get_elem? (set s.views id w) k ≡ some w) (sym h.1) (set_there s.views id me.0 w at), live, holds))
            r.out,
        λ x' hand'. ap (λ (z : M). (with_call me.0 (history z), me.1)) (one_hand x x' (sym hand ∙ hand')),
      )

  pub releases : (origin : G) (slots id : ℕ) (me : Seat) (x : M) → slots ≡ 1 → me.0.spent ≡ false → me.0.holds ≡ true → me.1 ≡ (0, Some x) ∷ []
      → history x ≡ me.0.seen → made x ≡ me.0.made
      → Allows (Rule origin) slots id me 1 (λ _. 0) (λ _. Releases history made takes_it reply kept (step slots 1 0 0 none) me 0)
  releases origin slots id me x one live holds hand seen_is made_is s r wide at _ =
      let f = r.each id me.0 at live in
      let h = f.has_turn holds in
      let w : View G = without_turn me.0 in (
        w,
        gives,
        tt,
        moved origin s r id me.0 w at live r.log 0 r.holder (set s.words 1 0) (Table.put_back s.homes me.1) (λ _ x. x) (prefix_self r.log) (λ k _. refl)
            (ap (λ (ws : List ℕ). set ws 1 0) r.words)
            r.legal
            (λ _. record { made = f.made; seen = f.seen; told = f.told; mine = f.mine; place = f.place; joined = f.joined; first = f.first; has_turn = λ e. absurd (cc e) })
            (λ j u other g has. absurd (other (sym ((g.has_turn has).1) ∙ h.1)))
            (λ _. (x, subst (λ (c : List (ℕ × Option M)). get_elem? (Table.put_back s.homes c) 0 ≡ some (some (Some x))) (sym hand) (set_here s.homes 0 (some (Some x)) (omega arith)), seen_is ∙ h.2, made_is ∙ f.made))
            (λ ne. absurd (ne refl))
            (λ ne. absurd (ne refl)),
        refl,
      )

  knows : (origin : G) (s : St) (r : Rule origin s) (id : ℕ) (v : View G) → get_elem? s.views id ≡ some v → v.spent ≡ false → Knows history made takes_it reply kept v
  knows origin s r id v at live = let f = r.each id v at live in (
    legal-prefix takes_it reply kept v.made v.seen r.log f.seen (subst (λ g. Legal g r.log) (sym f.made) r.legal),
    (λ short. prefix_shorter v.told v.seen r.log f.told f.seen short),
    (λ first. calls-none v.next v.seen r.log f.seen (r.unused v.next (let e = f.first first in omega arith)).0),
  )

  pub looks : (origin : G) (slots id : ℕ) (me : Seat) → me.0.spent ≡ false
      → Allows (Rule origin) slots id me 0 (λ n. n) (Looks history made takes_it reply kept (step slots 0 0 0 none) me)
  looks origin slots id me live s r _ at _ = (me.0, keeps, tt, unmoved origin s r 0 id me.0 me.1 at, (refl, knows origin s r id me.0 at live))

  alone : (origin : G) (j : ℕ) (v : View G) → get_elem? (newcomer origin ∷ []) j ≡ some v → (0 ≡ j) × (newcomer origin ≡ v)
  alone origin zero v e = (refl, some-injective (newcomer origin) v e)
  alone origin (suc j) v e = absurd (some-ne-none v (sym e))

  abbrev first_seat : Seats
  first_seat zero = some 0
  first_seat (suc k) = none

  later_seat : (k : ℕ) → 1 ≤ k → first_seat k ≡ none
  later_seat zero le = absurd (omega arith)
  later_seat (suc k) le = refl

  pub opens : (origin : G) (m : M) → history m ≡ [] → made m ≡ origin → Rule origin (opening (0 ∷ 0 ∷ []) (Some m ∷ []) (newcomer origin))
  opens origin m new from = record {
    log = [];
    seat = first_seat;
    next = 1;
    turn = 0;
    holder = 0;
    words = refl;
    legal = legal-nil takes_it reply kept origin;
    each = λ j v at _. let a = alone origin j v at in
        subst (λ (z : ℕ × View G). Fits origin [] first_seat 1 0 0 z.0 z.1) (λ i. (a.0 i, a.1 i))
        record { made = refl; seen = ([], refl); told = ([], refl); mine = refl; place = refl; joined = All-nil _; first = λ _. refl; has_turn = λ e. absurd (cc e) };
    spoken = λ k below. (0, newcomer origin, refl, (refl, inl (omega arith)));
    unused = λ k le. (refl, later_seat k le);
    free = λ _. (m, refl, new, from);
    busy = λ ne. absurd (ne refl);
    out = λ ne. absurd (ne refl);
  }

  -- what is said of an ended pass is said of the one that was joined
  of_joined : (P : Ended → Type 0) (ended : List Ended) (x : Ended) → All P ended → Contains ended x → P x
  of_joined P ended x all has = subst P has.2 (all has.0 x has.1)

  -- where every pass was joined into the first, none has the turn
  at_rest : (origin : G) (s : St) (r : Rule origin s) (id : ℕ) (v : View G) → get_elem? s.views id ≡ some v → v.spent ≡ false → v.holds ≡ false → v.number ≡ 0 → AreAllJoined v.next v.joined → r.turn ≡ 0
  at_rest origin s r id v at live idle first whole = dite (ℕ_discrete r.turn 0) (λ e. e) (λ ne.
      let b = r.busy ne in
      let u : View G = b.0 in
      let f = r.each id v at live in
      let g = r.each r.holder u b.1 b.2 in
      dite (ℕ_discrete u.number 0)
      (λ zero_too.
      let here : r.holder ≡ id = some-injective r.holder id (sym g.place ∙ (ap r.seat (zero_too ∙ sym first) ∙ f.place)) in
      let same : u ≡ v = some-injective u v (sym b.1 ∙ (ap (get_elem? s.views) here ∙ at)) in
      absurd (let clash : true ≡ false = sym b.3 ∙ (ap (λ (z : View G). z.holds) same ∙ idle) in cc clash))
      (λ other. dite (dec_le r.next u.number)
      (λ le. absurd (some-ne-none r.holder (sym g.place ∙ (r.unused u.number le).1)))
      (λ less.
      let j = whole u.number (omega arith) (let e = f.first first in let l : u.number < r.next = lt_of_not-le less in omega arith) in
      let ended = of_joined (HasEnded r.log r.seat r.next) v.joined j.0 f.joined j.1 in
      absurd (some-ne-none r.holder (sym g.place ∙ (ap r.seat (sym j.2) ∙ ended.1))))))

  pub closes : (origin : G) (id : ℕ) (v : View G) (ws : List ℕ) (xs : List (Option M)) → v.spent ≡ false → v.holds ≡ false → v.number ≡ 0 → AreAllJoined v.next v.joined
      → Final (Seen (Rule origin) id v) ws xs
      → (m : M) × (get_elem? xs 0 ≡ some (Some m)) × (made m ≡ v.made) × IsPrefix v.seen (history m) × Legal v.made (history m) × (calls_by v.number (history m) ≡ v.mine)
      × All (λ x. calls_by x.number (history m) ≡ x.calls) v.joined
      × All (λ e. (e.session ≡ 0) ⊎ IsJoined e.session v.joined) (history m)
  closes origin id v ws xs live idle first whole final =
      let s = final.0 in
      let r = final.1.0 in
      let at = final.1.1 in
      let f = r.each id v at live in
      let m = r.free (at_rest origin s r id v at live idle first whole) in
      let log : history m.0 ≡ r.log = m.2 in (
        m.0,
        final.4 0 (Some m.0) m.1,
        m.3 ∙ sym f.made,
        subst (λ (l : List Event). IsPrefix v.seen l) (sym log) f.seen,
        subst (λ (z : G × List Event). Legal z.0 z.1) (λ i. (sym f.made i, sym log i)) r.legal,
        ap (calls_by v.number) log ∙ f.mine,
        All-weaker (HasEnded r.log r.seat r.next) (λ x. calls_by x.number (history m.0) ≡ x.calls) (λ x e. ap (calls_by x.number) log ∙ e.2) v.joined f.joined,
        each_session (λ k. (k ≡ 0) ⊎ IsJoined k v.joined) (history m.0) (λ k has. dite (ℕ_discrete k 0) inl
            (λ ne. inr (dite (dec_le r.next k)
            (λ le. absurd (has (ap (calls_by k) log ∙ (r.unused k le).0)))
            (λ less. whole k (omega arith) (let e = f.first first in let l : k < r.next = lt_of_not-le less in omega arith))))),
      )

  pub splits : (origin : G) (id : ℕ) (v : View G) → v.spent ≡ false → v.holds ≡ false → v.number ≡ 0 → Splits (Rule origin) id v (with_next v) (view_split_off v)
  splits origin id v live idle first s r at =
      let f = r.each id v at live in
      let next_is : v.next ≡ r.next = f.first first in
      let free_number = r.unused v.next (omega arith) in
      let there : ℕ = length (set s.views id (with_next v)) in
      let seat' : Seats = reseat r.seat v.next (some there) in
      let kept_seat : (k j : ℕ) → r.seat k ≡ some j → seat' k ≡ some j =
      λ k j e. reseat_else r.seat v.next k (some there) (λ is. some-ne-none j (sym e ∙ (ap r.seat is ∙ free_number.1))) ∙ e in
      let ended_still : (x : Ended) → HasEnded r.log r.seat r.next x → HasEnded r.log seat' (v.next + 1) x =
      λ x e. ((let l = e.0 in omega arith), reseat_else r.seat v.next x.number (some there) (λ is. let l = e.0 in omega arith) ∙ e.1, e.2) in
      let old : (j : ℕ) (u w : View G) → Fits origin r.log r.seat r.next r.turn r.holder j u → (w ≡ u) → (u.number ≡ 0 → j ≡ id) → j ≢ id → Fits origin r.log seat' (v.next + 1) r.turn r.holder j w =
      λ j u w g same zero_is other. subst (λ (z : View G). Fits origin r.log seat' (v.next + 1) r.turn r.holder j z) (sym same)
      record {
        made = g.made;
        seen = g.seen;
        told = g.told;
        mine = g.mine;
        place = kept_seat u.number j g.place;
        joined = All-weaker (HasEnded r.log r.seat r.next) (HasEnded r.log seat' (v.next + 1)) ended_still u.joined g.joined;
        first = λ z. absurd (other (zero_is z));
        has_turn = g.has_turn;
      } in
      record {
        log = r.log;
        seat = seat';
        next = v.next + 1;
        turn = r.turn;
        holder = r.holder;
        words = r.words;
        legal = r.legal;
        each = λ j w there_is unspent. ⊎_elim
            (λ e. ⊎_elim
            (λ (t : (j ≡ id) × (with_next v ≡ w)). subst (λ (z : ℕ × View G). Fits origin r.log seat' (v.next + 1) r.turn r.holder z.0 z.1) (λ i. (sym t.0 i, t.1 i))
            record {
              made = f.made;
              seen = f.seen;
              told = f.told;
              mine = f.mine;
              place = kept_seat v.number id f.place;
              joined = All-weaker (HasEnded r.log r.seat r.next) (HasEnded r.log seat' (v.next + 1)) ended_still v.joined f.joined;
              first = λ _. refl;
              has_turn = f.has_turn;
            })
            (λ (t : (j ≢ id) × (get_elem? s.views j ≡ some w)). let g = r.each j w t.1 unspent in
            old j w w g refl (λ z. some-injective j id (sym g.place ∙ (ap r.seat (z ∙ sym first) ∙ f.place))) t.0)
            (at_set s.views id j (with_next v) w e))
            (λ (t : (j ≡ there) × (view_split_off v ≡ w)). subst (λ (z : ℕ × View G). Fits origin r.log seat' (v.next + 1) r.turn r.holder z.0 z.1) (λ i. (sym t.0 i, t.1 i))
            record {
              made = f.made;
              seen = f.seen;
              told = (r.log, refl);
              mine = free_number.0;
              place = reseat_here r.seat v.next (some there);
              joined = All-nil _;
              first = λ z. absurd (some-ne-none id (sym f.place ∙ (ap r.seat (first ∙ sym z) ∙ free_number.1)));
              has_turn = λ e. absurd (cc e);
            })
            (at_end (set s.views id (with_next v)) (view_split_off v) w j there_is);
        spoken = λ k below. dite (ℕ_discrete k v.next)
            (λ here. (there, view_split_off v, at_last (set s.views id (with_next v)) (view_split_off v) there refl, (refl, inl (sym here))))
            (λ other. let x = still_spoken s.views id v (with_next v) at k (λ y. y) (r.spoken k (omega arith)) in
            (x.0, x.1, at_longer (set s.views id (with_next v)) (view_split_off v ∷ []) x.0 x.1 x.2, x.3));
        unused = λ k le. let n = r.unused k (omega arith) in (n.0, reseat_else r.seat v.next k (some there) (λ e. omega arith) ∙ n.1);
        free = r.free;
        busy = λ ne. let b = r.busy ne in (
          b.0,
          at_longer (set s.views id (with_next v)) (view_split_off v ∷ []) r.holder b.0 (set_else s.views id r.holder (with_next v)
              (λ here. let same : b.0 ≡ v = some-injective b.0 v (sym b.1 ∙ (ap (get_elem? s.views) here ∙ at)) in
              (let clash : true ≡ false = sym b.3 ∙ (ap (λ (z : View G). z.holds) same ∙ idle) in absurd (cc clash))) ∙ b.1),
          b.2,
          b.3,
        );
        out = r.out;
      }

  pub joins : (origin : G) (id : ℕ) (v : View G) (other : ℕ) (w : View G) (blank : G) → v.spent ≡ false → v.holds ≡ false → w.spent ≡ false → w.holds ≡ false → w.number ≢ 0
      → Joins (Rule origin) id v other w (joined_with v w) (used_up blank)
  joins origin id v other w blank live idle live_too idle_too later s r at apart at_both =
      let both : View G = joined_with v w in
      let ended : Ended = record { number = w.number; calls = w.mine } in
      let at_other : get_elem? s.views other ≡ some w = sym (set_else s.views id other both apart) ∙ at_both in
      let f = r.each id v at live in
      let g = r.each other w at_other live_too in
      let seat' : Seats = reseat r.seat w.number none in
      let kept_seat : (k j : ℕ) → r.seat k ≡ some j → j ≢ other → seat' k ≡ some j =
      λ k j e ne. reseat_else r.seat w.number k none (λ is. ne (some-injective j other (sym e ∙ (ap r.seat is ∙ g.place)))) ∙ e in
      let ended_still : (x : Ended) → HasEnded r.log r.seat r.next x → HasEnded r.log seat' r.next x =
      λ x e. (e.0, reseat_none r.seat w.number x.number e.1, e.2) in
      let all_still : (l : List Ended) → All (HasEnded r.log r.seat r.next) l → All (HasEnded r.log seat' r.next) l =
      λ l all. All-weaker (HasEnded r.log r.seat r.next) (HasEnded r.log seat' r.next) ended_still l all in
      let below : w.number < r.next = dite (dec_le r.next w.number) (λ le. absurd (some-ne-none other (sym g.place ∙ (r.unused w.number le).1))) (λ less. lt_of_not-le less) in
      let now_ended : HasEnded r.log seat' r.next record { number = w.number; calls = w.mine } = (below, reseat_here r.seat w.number none, g.mine) in
      let longer_seen : Bool = nat_lt (length v.seen) (length w.seen) in
      record {
        log = r.log;
        seat = seat';
        next = r.next;
        turn = r.turn;
        holder = r.holder;
        words = r.words;
        legal = r.legal;
        each = λ j u there unspent. ⊎_elim
            (λ (t : (j ≡ other) × (used_up blank ≡ u)). absurd (let clash : true ≡ false = ap (λ (z : View G). z.spent) t.1 ∙ unspent in cc clash))
            (λ (t : (j ≢ other) × (get_elem? (set s.views id both) j ≡ some u)). ⊎_elim
            (λ (h : (j ≡ id) × (both ≡ u)). subst (λ (z : ℕ × View G). Fits origin r.log seat' r.next r.turn r.holder z.0 z.1) (λ i. (sym h.0 i, h.1 i))
            record {
              made = f.made;
              seen = pick (λ l. IsPrefix l r.log) v.seen w.seen f.seen g.seen longer_seen;
              told = pick (λ l. IsPrefix l r.log) w.seen v.seen g.seen f.seen longer_seen;
              mine = f.mine;
              place = kept_seat v.number id f.place (λ e. apart (sym e));
              joined = All-append (HasEnded r.log seat' r.next) v.joined (record { number = w.number; calls = w.mine } ∷ w.joined) (all_still v.joined f.joined)
                  (All-cons (HasEnded r.log seat' r.next) record { number = w.number; calls = w.mine } w.joined now_ended (all_still w.joined g.joined));
              first = f.first;
              has_turn = λ e. absurd (let clash : true ≡ false = sym e ∙ idle in cc clash);
            })
            (λ (h : (j ≢ id) × (get_elem? s.views j ≡ some u)). let k = r.each j u h.1 unspent in
            record { made = k.made; seen = k.seen; told = k.told; mine = k.mine; place = kept_seat u.number j k.place t.0; joined = all_still u.joined k.joined; first = k.first; has_turn = k.has_turn })
            (at_set s.views id j both u t.1))
            (at_set (set s.views id both) other j (used_up blank) u there);
        spoken = λ k below. let x = r.spoken k below in
            let here : SpeaksFor k both → IsSpokenFor k (set (set s.views id both) other (used_up blank)) =
            λ y. (id, both, set_else (set s.views id both) other id (used_up blank) (λ e. apart (sym e)) ∙ set_there s.views id v both at, y) in
            dite (ℕ_discrete x.0 id)
            (λ mine.
            let same : x.1 ≡ v = some-injective x.1 v (sym x.2 ∙ (ap (get_elem? s.views) mine ∙ at)) in
            let y : SpeaksFor k v = subst (λ (u : View G). SpeaksFor k u) same x.3 in
            here (y.0, ⊎_elim inl (λ j. inr (joined_left k v.joined (ended ∷ w.joined) j)) y.1))
            (λ not_mine. dite (ℕ_discrete x.0 other)
            (λ theirs.
            let same : x.1 ≡ w = some-injective x.1 w (sym x.2 ∙ (ap (get_elem? s.views) theirs ∙ at_other)) in
            let y : SpeaksFor k w = subst (λ (u : View G). SpeaksFor k u) same x.3 in
            here (live, inr (joined_right k v.joined (ended ∷ w.joined) (⊎_elim (λ is. joined_first k ended w.joined is) (λ j. joined_rest k ended w.joined j) y.1))))
            (λ not_theirs. (x.0, x.1, set_else (set s.views id both) other x.0 (used_up blank) not_theirs ∙ (set_else s.views id x.0 both not_mine ∙ x.2), x.3)));
        unused = λ k le. let n = r.unused k le in (n.0, reseat_none r.seat w.number k n.1);
        free = r.free;
        busy = λ ne. let b = r.busy ne in (
          b.0,
          set_else (set s.views id both) other r.holder (used_up blank)
              (λ here. let same : b.0 ≡ w = some-injective b.0 w (sym b.1 ∙ (ap (get_elem? s.views) here ∙ at_other)) in (let clash : true ≡ false = sym b.3 ∙ (ap (λ (z : View G). z.holds) same ∙ idle_too) in absurd (cc clash)))
              ∙ (set_else s.views id r.holder both
              (λ here. let same : b.0 ≡ v = some-injective b.0 v (sym b.1 ∙ (ap (get_elem? s.views) here ∙ at)) in (let clash : true ≡ false = sym b.3 ∙ (ap (λ (z : View G). z.holds) same ∙ idle) in absurd (cc clash))) ∙ b.1),
          b.2,
          b.3,
        );
        out = r.out;
      }

-- the slot that was taken last, before the others
pub slot_first : {S : Type 0} (l others : List (ℕ × S)) (a : ℕ × S) → l ≡ a ∷ others → l ≡ a ∷ rest l
slot_first {S = S} l others a e = e ∙ ap (λ (c : List (ℕ × S)). a ∷ c) (sym (ap rest e))

pub opens_at : {M G R : Type 0} (history : M → List Event) (made : M → G) (takes_it : G → List ℕ → Type 0) (reply : G → List Event → ℕ → List ℕ → R → Type 0) (kept : R → Bool) (origin : G) (m : M) (slots : List (Option M))
    → slots ≡ Some m ∷ [] → history m ≡ [] → made m ≡ origin → Kept history made takes_it reply kept origin (opening (0 ∷ 0 ∷ []) slots (newcomer origin))
opens_at {M = M} history made takes_it reply kept origin m slots e new from =
    subst (λ (l : List (Option M)). Kept history made takes_it reply kept origin (opening (0 ∷ 0 ∷ []) l (newcomer origin))) (sym e) (opens history made takes_it reply kept origin m new from)
