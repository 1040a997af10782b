-- Sessions that are joined one after the other, and what the history then has of them.
use Rattle.std.proofs.Common.{◌≡◌, ◌<◌, ◌≤◌, ◌⊎◌, inl, inr, Bool, if◌then◌else◌, ℕ, ◌+◌, List, [], ◌∷◌, ◌++◌, length, length-append, Option, All, refl, ap, sym, ◌∙◌, subst, arith, append_assoc, append-nil, ⊎_elim, ne_eqb}
use Rattle.std.proofs.lemmas.Bool.{cases_lt}
use Rattle.std.proofs.lemmas.List.Elements.{All-nil, All-cons, All-head, All-tail, All-append, All-weaker, All-contains, Contains-append_left, Contains-append_right}
use mathlib.Core.Logic.{dite}
use Rattle.std.specs.List.{Contains}
use mathlib.Core.List.{IsPrefix}
use native.Mathlib.Decide.{ℕ_discrete}
use Rattle.catalog_lock.specs.declared.history.Event.{Event}
use Rattle.catalog_lock.specs.declared.history.Ended as past
use Rattle.catalog_lock.specs.History.{calls_by}
use Rattle.catalog_lock.specs.Passes.{TableId, Shown, IsJoined, after_join}
use Rattle.catalog_lock.proofs.Histories.{prefix_trans, each_session}
use Rattle.catalog_lock.proofs.Joining.{joined_left, joined_right, joined_first}
use Rattle.cat_engine.specs.declared.machine.Origin.{Origin}
use Rattle.cat_items.specs.declared.limits.Limits.{Limits}
use Rattle.sessions.specs.declared.script.Ended.{Ended}
use Rattle.sessions.specs.Sessions.{IsServed}
use Rattle.sessions.specs.Serving.{AreFrom, GaveAll, HasRisen, HasAccepted, HasBegun, HasJoinedAll, IsBeside, IsOver, WasServed, AreNumbered}
use Rattle.sessions.proofs.Accepting.{are_push, are_map}

-- what stands while sessions are joined: those before were, those after run
pub record Joining {C X Y : Type 0} (Is : ℕ → C → X → Type 0) (Over : List Event → List past.Ended → ℕ → C → Y → Type 0) (l0 l1 : Option (List C)) (o0 o1 : ℕ) (old now : Shown Origin) (xs : List X) (ys : List Y) (total : ℕ) : Type 0 where
  pub table : now.table ≡ old.table
  pub made : now.made ≡ old.made
  pub number : now.number ≡ old.number
  pub mine : now.mine ≡ old.mine
  pub before : List C
  pub after : List C
  pub done : AreFrom (Over now.seen now.joined) 1 before ys
  pub rest : AreFrom Is (length ys + 1) after xs
  pub gave : GaveAll l0 (before ++ after) l1
  pub out : HasRisen o0 total o1
  pub count : length ys + length xs ≡ total
  pub covers : (k : ℕ) → 0 < k → k < now.next → IsJoined k now.joined ⊎ ((length ys < k) × (k ≤ total))
  pub ended : All (λ (x : past.Ended). ((0 < x.number) × (x.number ≤ total)) ⊎ (x.calls ≡ [])) now.joined

pub joining_start : {C X Y : Type 0} (Is : ℕ → C → X → Type 0) (Over : List Event → List past.Ended → ℕ → C → Y → Type 0) (l0 l1 : Option (List C)) (o0 o1 : ℕ) (old now : Shown Origin) (xs : List X) (ys : List Y)
    → HasAccepted Is l0 l1 o0 o1 xs → IsBeside (length xs) old now → ys ≡ [] → Joining Is Over l0 l1 o0 o1 old now xs ys (length xs)
joining_start {Y = Y} Is Over l0 l1 o0 o1 old now xs ys has beside none =
    subst (λ (zs : List Y). Joining Is Over l0 l1 o0 o1 old now xs zs (length xs)) (sym none) (record {
      table = beside.table;
      made = beside.made;
      number = beside.number;
      mine = beside.mine;
      before = [];
      after = has.conns;
      done = tt;
      rest = has.are;
      gave = has.gave;
      out = has.out;
      count = omega arith;
      covers = λ k some below. ⊎_elim (λ high. inl (beside.spare k high below)) (λ low. inr (omega (arith, some), low)) (cases_lt (length xs) k);
      ended = All-weaker (λ (x : past.Ended). x.calls ≡ []) (λ (x : past.Ended). ((0 < x.number) × (x.number ≤ length xs)) ⊎ (x.calls ≡ [])) (λ x e. inr e) now.joined beside.idle;
    })

-- the same over what a loop takes from
pub joining_begin : {C X Y : Type 0} (Is : ℕ → C → X → Type 0) (Over : List Event → List past.Ended → ℕ → C → Y → Type 0) (l0 l1 : Option (List C)) (o0 o1 : ℕ) (old now : Shown Origin) (xs xs' : List X) (ys : List Y) → xs' ≡ xs
    → HasAccepted Is l0 l1 o0 o1 xs → IsBeside (length xs) old now → ys ≡ [] → Joining Is Over l0 l1 o0 o1 old now xs' ys (length xs)
joining_begin Is Over l0 l1 o0 o1 old now xs xs' ys same has beside none =
    subst (λ zs. Joining Is Over l0 l1 o0 o1 old now zs ys (length xs)) (sym same) (joining_start Is Over l0 l1 o0 o1 old now xs ys has beside none)

pub are_first : {C X : Type 0} (Is : ℕ → C → X → Type 0) (n : ℕ) (cs : List C) (x : X) (xs : List X) → AreFrom Is n cs (x ∷ xs) → (c : C) × (ds : List C) × (cs ≡ c ∷ ds) × Is n c x × AreFrom Is (n + 1) ds xs
are_first Is n [] x xs all = absurd all
are_first Is n (c ∷ cs) x xs all = (c, cs, refl, all.0, all.1)

are_none : {C X : Type 0} (Is : ℕ → C → X → Type 0) (n : ℕ) (cs : List C) → AreFrom Is n cs [] → cs ≡ []
are_none Is n [] all = refl
are_none Is n (c ∷ cs) all = absurd all

-- the session that is joined next
pub joining_first : {C X Y : Type 0} (Is : ℕ → C → X → Type 0) (Over : List Event → List past.Ended → ℕ → C → Y → Type 0) (l0 l1 : Option (List C)) (o0 o1 : ℕ) (old now : Shown Origin) (xs rest : List X) (ys : List Y) (x : X) (total : ℕ)
    → Joining Is Over l0 l1 o0 o1 old now xs ys total → xs ≡ x ∷ rest → (c : C) × Is (length ys + 1) c x
joining_first Is Over l0 l1 o0 o1 old now xs rest ys x total was is =
    let first = are_first Is (length ys + 1) was.after x rest (subst (AreFrom Is (length ys + 1) was.after) is was.rest) in (first.0, first.3)

-- it has a place among those that were joined
pub joining_room : {C X Y : Type 0} (Is : ℕ → C → X → Type 0) (Over : List Event → List past.Ended → ℕ → C → Y → Type 0) (l0 l1 : Option (List C)) (o0 o1 : ℕ) (old now : Shown Origin) (xs rest : List X) (ys : List Y) (x : X) (total : ℕ)
    → Joining Is Over l0 l1 o0 o1 old now xs ys total → xs ≡ x ∷ rest → length ys < total
joining_room Is Over l0 l1 o0 o1 old now xs rest ys x total was is =
    let size : length xs ≡ length rest + 1 = ap length is ∙ (let r : length (x ∷ rest) ≡ length rest + 1 = omega arith in r) in
    let count = was.count in omega (arith, size, count)

pub joining_step : {C X Y : Type 0} (Is : ℕ → C → X → Type 0) (Over : List Event → List past.Ended → ℕ → C → Y → Type 0)
    → ((s s' : List Event) (j j' : List past.Ended) → IsPrefix s s' → ((e : past.Ended) → Contains j e → Contains j' e) → (n : ℕ) (c : C) (y : Y) → Over s j n c y → Over s' j' n c y)
    → (l0 l1 : Option (List C)) (o0 o1 : ℕ) (old now new one : Shown Origin) (xs rest : List X) (ys ys' : List Y) (x : X) (y : Y) (total : ℕ)
    → Joining Is Over l0 l1 o0 o1 old now xs ys total → xs ≡ x ∷ rest → ys' ≡ ys ++ y ∷ [] → new ≡ after_join now one → IsPrefix now.seen new.seen
    → ((c : C) → Is (length ys + 1) c x → (one.number ≡ length ys + 1) × (one.joined ≡ []) × Over new.seen new.joined (length ys + 1) c y)
    → Joining Is Over l0 l1 o0 o1 old new rest ys' total
joining_step {C} {X} {Y} Is Over grow l0 l1 o0 o1 old now new one xs rest ys ys' x y total was xs_is ys_is is longer turn =
    let first = are_first Is (length ys + 1) was.after x rest (subst (AreFrom Is (length ys + 1) was.after) xs_is was.rest) in
    let c : C = first.0 in
    let ds : List C = first.1 in
    let told = turn c first.3 in
    let last : past.Ended = record { number = one.number; calls = one.mine } in
    let joined : new.joined ≡ now.joined ++ last ∷ one.joined = ap (λ (p : Shown Origin). p.joined) is in
    let next : new.next ≡ now.next = ap (λ (p : Shown Origin). p.next) is in
    let keeps : (e : past.Ended) → Contains now.joined e → Contains new.joined e = λ e h. subst (λ js. Contains js e) (sym joined) (Contains-append_left now.joined (last ∷ one.joined) e h) in
    let more : length ys' ≡ length ys + 1 = ap length ys_is ∙ length-append ys (y ∷ []) in
    let count = was.count in
    let size : length xs ≡ length rest + 1 = ap length xs_is ∙ (let r : length (x ∷ rest) ≡ length rest + 1 = omega arith in r) in
    let number = told.0 in
    record {
      table = ap (λ (p : Shown Origin). p.table) is ∙ was.table;
      made = ap (λ (p : Shown Origin). p.made) is ∙ was.made;
      number = ap (λ (p : Shown Origin). p.number) is ∙ was.number;
      mine = ap (λ (p : Shown Origin). p.mine) is ∙ was.mine;
      before = was.before ++ c ∷ [];
      after = ds;
      done = are_push (Over new.seen new.joined) 1 (length ys + 1) was.before ys ys' c y ys_is (omega arith)
          (are_map (Over now.seen now.joined) (Over new.seen new.joined) (grow now.seen new.seen now.joined new.joined longer keeps) 1 was.before ys was.done) told.2;
      rest = subst (λ n. AreFrom Is n ds rest) (let r : length ys + 1 + 1 ≡ length ys' + 1 = omega (arith, more) in r) first.4;
      gave = subst (λ cs. GaveAll l0 cs l1) (ap (λ cs. was.before ++ cs) first.2 ∙ sym (append_assoc was.before (c ∷ []) ds)) was.gave;
      out = was.out;
      count = omega (arith, count, more, size);
      covers = λ k some below. ⊎_elim
          (λ (j : IsJoined k now.joined). inl (subst (IsJoined k) (sym joined) (joined_left k now.joined (last ∷ one.joined) j)))
          (λ (t : (length ys < k) × (k ≤ total)). dite (ℕ_discrete k (length ys + 1))
          (λ here. inl (subst (IsJoined k) (sym joined) (joined_right k now.joined (last ∷ one.joined) (joined_first k last one.joined (number ∙ sym here)))))
          (λ other. let low = t.0 in inr (omega (arith, more, low, other), t.1)))
          (was.covers k some (subst (λ n. k < n) next below));
      ended = subst (λ js. All (λ (z : past.Ended). ((0 < z.number) × (z.number ≤ total)) ⊎ (z.calls ≡ [])) js) (sym joined)
          (All-append (λ (z : past.Ended). ((0 < z.number) × (z.number ≤ total)) ⊎ (z.calls ≡ [])) now.joined (last ∷ one.joined) was.ended
          (All-cons (λ (z : past.Ended). ((0 < z.number) × (z.number ≤ total)) ⊎ (z.calls ≡ [])) last one.joined
          (inl ((let r : 0 < one.number = omega (arith, number) in r), (let r : one.number ≤ total = omega (arith, number, count, size) in r)))
          (subst (λ js. All (λ (z : past.Ended). ((0 < z.number) × (z.number ≤ total)) ⊎ (z.calls ≡ [])) js) (sym told.1) (All-nil _))));
    }

none_left : {X : Type 0} (xs : List X) → length xs ≡ 0 → xs ≡ []
none_left [] e = refl
none_left (x ∷ xs) e = absurd (let more : length (x ∷ xs) ≡ length xs + 1 = omega arith in omega (arith, e, more))

-- all were joined
pub joining_end : {C X Y : Type 0} (Is : ℕ → C → X → Type 0) (Over : List Event → List past.Ended → ℕ → C → Y → Type 0) (l0 l1 : Option (List C)) (o0 o1 : ℕ) (old now : Shown Origin) (xs : List X) (ys : List Y) (total : ℕ)
    → Joining Is Over l0 l1 o0 o1 old now xs ys total → length ys ≡ total → HasAccepted (Over now.seen now.joined) l0 l1 o0 o1 ys × HasJoinedAll (length ys) old now
joining_end {X = X} Is Over l0 l1 o0 o1 old now xs ys total was all =
    let count = was.count in
    let none : xs ≡ [] = none_left xs (omega (arith, count, all)) in
    let after : was.after ≡ [] = are_none Is (length ys + 1) was.after (subst (AreFrom Is (length ys + 1) was.after) none was.rest) in
    let whole : total ≡ length ys = sym all in (
      record {
        conns = was.before;
        are = was.done;
        gave = subst (λ cs. GaveAll l0 cs l1) (ap (λ cs. was.before ++ cs) after ∙ append-nil was.before) was.gave;
        out = subst (λ n. HasRisen o0 n o1) whole was.out;
      },
      record {
        table = was.table;
        made = was.made;
        number = was.number;
        mine = was.mine;
        all = λ k some below. ⊎_elim (λ (j : IsJoined k now.joined). j) (λ (t : (length ys < k) × (k ≤ total)). absurd (let low = t.0 in let high = t.1 in omega (arith, low, high, whole))) (was.covers k some below);
        ended = subst (λ n. All (λ (z : past.Ended). ((0 < z.number) × (z.number ≤ n)) ⊎ (z.calls ≡ [])) now.joined) whole was.ended;
      },
    )

module _ {C : Type 0} (left given : C → Option (List ℕ)) (take_faults put_faults : C → ℕ) (limits : Limits) where
  -- a pass that has seen more, and keeps the calls of more
  pub over_grows : (made : Origin) (s s' : List Event) (j j' : List past.Ended) → IsPrefix s s' → ((e : past.Ended) → Contains j e → Contains j' e) → (n : ℕ) (first last : C) (tag : ℕ) (ended : Ended)
      → IsOver left given take_faults put_faults limits made s j n first last tag ended → IsOver left given take_faults put_faults limits made s' j' n first last tag ended
  over_grows made s s' j j' longer keeps n first last tag ended over = record {
    tag_is = over.tag_is;
    before = over.before;
    after = over.after;
    made_is = over.made_is;
    number_is = over.number_is;
    new = over.new;
    served = over.served;
    seen_is = prefix_trans over.after.seen s s' over.seen_is longer;
    kept = keeps _ over.kept;
  }

  -- a pass that was just joined
  pub over_now : (table : TableId) (made : Origin) (now new before one : Shown Origin) (n : ℕ) (first last : C) (tag : ℕ) (ended : Ended) → HasBegun table made n before → IsServed left given take_faults put_faults limits before first one last ended
      → new ≡ after_join now one → IsPrefix one.seen new.seen → tag ≡ one.number
      → (one.number ≡ n) × (one.joined ≡ []) × IsOver left given take_faults put_faults limits made new.seen new.joined n first last tag ended
  over_now table made now new before one n first last tag ended begun gone is seen tag_is =
      let number : one.number ≡ n = ap (λ (p : Shown Origin). p.number) gone.same ∙ begun.2 in
      let joined : one.joined ≡ [] = ap (λ (p : Shown Origin). p.joined) gone.same ∙ begun.4 in
      let all : new.joined ≡ now.joined ++ record { number = one.number; calls = one.mine } ∷ one.joined = ap (λ (p : Shown Origin). p.joined) is in (
        number,
        joined,
        record {
          tag_is = tag_is ∙ number;
          before = before;
          after = one;
          made_is = begun.1;
          number_is = begun.2;
          new = begun.3;
          served = gone;
          seen_is = seen;
          kept = subst (λ k. Contains new.joined (record { number = k; calls = one.mine })) number (subst (λ js. Contains js (record { number = one.number; calls = one.mine })) (sym all) (last_in now.joined one.joined (record { number = one.number; calls = one.mine })));
        },
      )
    where
      last_in : (xs ys : List past.Ended) (e : past.Ended) → Contains (xs ++ e ∷ ys) e
      last_in xs ys e = Contains-append_right xs (e ∷ ys) e (0, omega arith, refl)

  -- what the history has of a session that is over
  pub over_served : (made : Origin) (seen log : List Event) (joined : List past.Ended) (n : ℕ) (first last : C) (tag : ℕ) (ended : Ended) → IsPrefix seen log → All (λ (x : past.Ended). calls_by x.number log ≡ x.calls) joined
      → IsOver left given take_faults put_faults limits made seen joined n first last tag ended → (tag ≡ n) × WasServed left given take_faults put_faults limits made log n first last ended
  over_served made seen log joined n first last tag ended begins calls over = (
    over.tag_is,
    record {
      before = over.before;
      after = over.after;
      made_is = over.made_is;
      number_is = over.number_is;
      new = over.new;
      served = over.served;
      seen = prefix_trans over.after.seen seen log over.seen_is begins;
      calls = All-contains (λ (x : past.Ended). calls_by x.number log ≡ x.calls) joined (record { number = n; calls = over.after.mine }) calls over.kept;
    },
  )

-- who has a call in the history has what holds of each event's session
session_has : (Q : ℕ → Type 0) (log : List Event) → All (λ (e : Event). Q e.session) log → (k : ℕ) → (calls_by k log ≡ [] → ⊥) → Q k
session_has Q [] all k has = absurd (has refl)
session_has Q (e ∷ es) all k has = dite (ℕ_discrete e.session k)
    (λ here. subst Q here (All-head (λ (x : Event). Q x.session) e es all))
    (λ other. session_has Q es (All-tail (λ (x : Event). Q x.session) e es all) k
    (λ nil. has (subst (λ (b : Bool). (if b then e ∷ calls_by k es else calls_by k es) ≡ []) (sym (ne_eqb e.session k other)) nil)))

-- each event is of one of the sessions
pub all_numbered : (n : ℕ) (log : List Event) (joined : List past.Ended) → calls_by 0 log ≡ [] → All (λ (e : Event). (e.session ≡ 0) ⊎ IsJoined e.session joined) log
    → All (λ (x : past.Ended). calls_by x.number log ≡ x.calls) joined → All (λ (x : past.Ended). ((0 < x.number) × (x.number ≤ n)) ⊎ (x.calls ≡ [])) joined → AreNumbered n log
all_numbered n log joined own others calls ended = each_session (λ k. (0 < k) × (k ≤ n)) log (λ k has. ⊎_elim
    (λ (zero_is : k ≡ 0). absurd (has (subst (λ m. calls_by m log ≡ []) (sym zero_is) own)))
    (λ (j : IsJoined k joined). ⊎_elim
    (λ (within : (0 < j.0.number) × (j.0.number ≤ n)). subst (λ m. (0 < m) × (m ≤ n)) j.2 within)
    (λ none. absurd (has (subst (λ m. calls_by m log ≡ []) j.2 (All-contains (λ (x : past.Ended). calls_by x.number log ≡ x.calls) joined j.0 calls j.1 ∙ none))))
    (All-contains (λ (x : past.Ended). ((0 < x.number) × (x.number ≤ n)) ⊎ (x.calls ≡ [])) joined j.0 ended j.1))
    (session_has (λ m. (m ≡ 0) ⊎ IsJoined m joined) log others k has))
