-- A session that is changed, and its current connection.
use Rattle.std.proofs.Common.{◌≡◌, ◌≢◌, ◌<◌, ℕ, Bool, true, false, cond, nat_lt, List, [], ◌∷◌, Option, Some, None, length, slice_get, slice_set, refl, ap, sym, ◌∙◌}
use Rattle.std.specs.declared.cmp.Ordering.{Ordering}
use Rattle.std.specs.declared.cmp.Ordering.TheVariants.{Less, Equal, Greater}
use Rattle.std.specs.Ordering.{nat_cmp, is_eq, match_ordering}
use Rattle.std.specs.Cmp.{nat_cmp_is}
use Rattle.std.specs.FinMap.{nat_cmp-IsAntisymmetric}
use Rattle.std.specs.BTreeMap.{is_at, insert_entry}
use Rattle.std.specs.Map.{lookup, set_value}
use Rattle.std.specs.List.{position, position_or_len}
use Rattle.std.specs.Option.{option_and_then, unwrap_or}
use Rattle.std.proofs.lemmas.List.{length-set, get_or-set_same}
use Rattle.std.proofs.lemmas.List.Folds.{position_or_len-set}
use Rattle.std.proofs.lemmas.Option.{get_or_from_slice_get, slice_get_within, slice_get-get_or}
use Rattle.cat_engine.specs.Contents.{Content}
use Rattle.cat_engine.specs.Effects.{ChangesSession}
use Rattle.cat_engine.specs.Sessions.{current, fresh, is_named, place_of, session_of, set_for, with_session, with_setting, with_setting_at}
use Rattle.cat_engine.specs.declared.session.Connection.{Connection}
use Rattle.cat_engine.specs.declared.session.Session.{Session}
use Rattle.cat_engine.specs.declared.session.Setting.{Setting}

itself : (n : ℕ) → is_at (nat_cmp n) n ≡ true
itself n = ap is_eq (sym (nat_cmp_is n n Equal refl))

is-eq-equal : (r : Ordering) → is_eq r ≡ true → r ≡ Equal
is-eq-equal Less h = absurd (let x : false ≡ true = h in cc)
is-eq-equal Equal h = refl
is-eq-equal Greater h = absurd (let x : false ≡ true = h in cc)

apart : (n m : ℕ) → m ≢ n → is_at (nat_cmp m) n ≡ false
apart n m other = by (is_at (nat_cmp m) n) refl
  where
    by : (b : Bool) → is_at (nat_cmp m) n ≡ b → is_at (nat_cmp m) n ≡ false
    by false is = is
    by true is = absurd (other (nat_cmp-IsAntisymmetric m n (is-eq-equal (nat_cmp m n) is)))

module _ (n : ℕ) (s : Session) where
  inserted-own : (l : List (ℕ × Session)) → lookup (is_at (nat_cmp n)) (insert_entry nat_cmp l n s) ≡ Some s
  inserted-own [] = rw (itself n) refl
  inserted-own (e ∷ es) = by (nat_cmp n e.0) refl (inserted-own es)
    where
      by : (r : Ordering) → nat_cmp n e.0 ≡ r → lookup (is_at (nat_cmp n)) (insert_entry nat_cmp es n s) ≡ Some s
          → lookup (is_at (nat_cmp n)) (match_ordering (nat_cmp n e.0) ((n, s) ∷ e ∷ es) ((e.0, s) ∷ es) (e ∷ insert_entry nat_cmp es n s)) ≡ Some s
      by Less is rest = rw (is, itself n) refl
      by Equal is rest = rw (is, is) refl
      by Greater is rest = rw (is, is) rest

  inserted-others : (m : ℕ) → m ≢ n → (l : List (ℕ × Session)) → lookup (is_at (nat_cmp m)) (insert_entry nat_cmp l n s) ≡ lookup (is_at (nat_cmp m)) l
  inserted-others m other [] = rw (apart n m other) refl
  inserted-others m other (e ∷ es) = by (nat_cmp n e.0) refl (inserted-others m other es)
    where
      by : (r : Ordering) → nat_cmp n e.0 ≡ r → lookup (is_at (nat_cmp m)) (insert_entry nat_cmp es n s) ≡ lookup (is_at (nat_cmp m)) es
          → lookup (is_at (nat_cmp m)) (match_ordering (nat_cmp n e.0) ((n, s) ∷ e ∷ es) ((e.0, s) ∷ es) (e ∷ insert_entry nat_cmp es n s)) ≡ lookup (is_at (nat_cmp m)) (e ∷ es)
      by Less is rest = rw (is, apart n m other) refl
      by Equal is rest = let same : n ≡ e.0 = nat_cmp-IsAntisymmetric n e.0 is in rw (is, ← same, apart n m other) refl
      by Greater is rest = rw is (ap (λ b. cond (is_at (nat_cmp m) e.0) (Some e.1) b) rest)

  set-own : (l : List (ℕ × Session)) (old : Session) → lookup (is_at (nat_cmp n)) l ≡ Some old → lookup (is_at (nat_cmp n)) (set_value (is_at (nat_cmp n)) l s) ≡ Some s
  set-own [] old is = absurd (let none : None ≡ Some old = is in cc)
  set-own (e ∷ es) old is = by (is_at (nat_cmp n) e.0) refl is (set-own es old)
    where
      by : (b : Bool) → is_at (nat_cmp n) e.0 ≡ b → lookup (is_at (nat_cmp n)) (e ∷ es) ≡ Some old
          → (lookup (is_at (nat_cmp n)) es ≡ Some old → lookup (is_at (nat_cmp n)) (set_value (is_at (nat_cmp n)) es s) ≡ Some s)
          → lookup (is_at (nat_cmp n)) (cond (is_at (nat_cmp n) e.0) ((e.0, s) ∷ es) (e ∷ set_value (is_at (nat_cmp n)) es s)) ≡ Some s
      by true at found rest = rw (at, at) refl
      by false at found rest = rw (at, at) (rest (rw at at found))

  set-others : (m : ℕ) → m ≢ n → (l : List (ℕ × Session)) → lookup (is_at (nat_cmp m)) (set_value (is_at (nat_cmp n)) l s) ≡ lookup (is_at (nat_cmp m)) l
  set-others m other [] = refl
  set-others m other (e ∷ es) = by (is_at (nat_cmp n) e.0) refl (set-others m other es)
    where
      by : (b : Bool) → is_at (nat_cmp n) e.0 ≡ b → lookup (is_at (nat_cmp m)) (set_value (is_at (nat_cmp n)) es s) ≡ lookup (is_at (nat_cmp m)) es
          → lookup (is_at (nat_cmp m)) (cond (is_at (nat_cmp n) e.0) ((e.0, s) ∷ es) (e ∷ set_value (is_at (nat_cmp n)) es s)) ≡ lookup (is_at (nat_cmp m)) (e ∷ es)
      by true at rest = let same : n ≡ e.0 = nat_cmp-IsAntisymmetric n e.0 (is-eq-equal (nat_cmp n e.0) at) in rw (at, ← same, apart n m other) refl
      by false at rest = rw at (ap (λ b. cond (is_at (nat_cmp m) e.0) (Some e.1) b) rest)

  with-own : (l : List (ℕ × Session)) → lookup (is_at (nat_cmp n)) (with_session l n s) ≡ Some s
  with-own l = by (lookup (is_at (nat_cmp n)) l) refl
    where
      by : (found : Option Session) → lookup (is_at (nat_cmp n)) l ≡ found
          → lookup (is_at (nat_cmp n)) (elim (lookup (is_at (nat_cmp n)) l) [ Some old ↦ set_value (is_at (nat_cmp n)) l s | None ↦ insert_entry nat_cmp l n s ]) ≡ Some s
      by None is = rw is (inserted-own l)
      by (Some old) is = rw is (set-own l old is)

  with-others : (m : ℕ) → m ≢ n → (l : List (ℕ × Session)) → lookup (is_at (nat_cmp m)) (with_session l n s) ≡ lookup (is_at (nat_cmp m)) l
  with-others m other l = by (lookup (is_at (nat_cmp n)) l) refl
    where
      by : (found : Option Session) → lookup (is_at (nat_cmp n)) l ≡ found
          → lookup (is_at (nat_cmp m)) (elim (lookup (is_at (nat_cmp n)) l) [ Some old ↦ set_value (is_at (nat_cmp n)) l s | None ↦ insert_entry nat_cmp l n s ]) ≡ lookup (is_at (nat_cmp m)) l
      by None is = rw is (inserted-others m other l)
      by (Some old) is = rw is (set-others m other l)

pub own-changed : (number : ℕ) (change : Session → Session) (old new : Content) → ChangesSession number change old new → session_of new.sessions number ≡ change (session_of old.sessions number)
own-changed number change old new made =
    ap (λ (c : Content). session_of c.sessions number) made ∙ ap (λ found. unwrap_or found fresh) (with-own number (change (session_of old.sessions number)) old.sessions)

pub others-kept : (number other : ℕ) (change : Session → Session) (old new : Content) → other ≢ number → ChangesSession number change old new → session_of new.sessions other ≡ session_of old.sessions other
others-kept number other change old new apart-from made =
    ap (λ (c : Content). session_of c.sessions other) made
    ∙ ap (λ found. unwrap_or found fresh) (with-others number (change (session_of old.sessions number)) other apart-from old.sessions)

-- ---- its current connection

found-again : {X : Type 0} (p : X → Bool) (xs : List X) (at : ℕ) (c y : X) → slice_get xs at ≡ Some c → p y ≡ p c → position p (slice_set xs at y) ≡ position p xs
found-again p xs at c y is alike =
    by (position_or_len p (slice_set xs at y)) (length (slice_set xs at y)) (position_or_len-set p xs at y c (alike ∙ ap p (sym (get_or_from_slice_get xs at c c is)))) (length-set xs at y)
  where
    by : (k n : ℕ) → k ≡ position_or_len p xs → n ≡ length xs → cond (nat_lt k n) (Some k) None ≡ position p xs
    by k n place long = ap (λ m. cond (nat_lt m n) (Some m) None) place ∙ ap (λ m. cond (nat_lt (position_or_len p xs) m) (Some (position_or_len p xs)) None) long

got-again : {X : Type 0} (xs : List X) (at : ℕ) (c y : X) → slice_get xs at ≡ Some c → slice_get (slice_set xs at y) at ≡ Some y
got-again xs at c y is =
    let within : at < length xs = slice_get_within xs at c is in
    let inside : at < length (slice_set xs at y) = rw (length-set xs at y) within in
    slice_get-get_or (slice_set xs at y) at y inside ∙ ap Some (get_or-set_same xs at y y within)

pub set-current : (session : Session) (setting : Setting) (c : Connection) → current session ≡ Some c → current (set_for session setting) ≡ Some (with_setting setting c)
set-current session setting c is = by-place (option_and_then (place_of session) session.current) refl is
  where
    named : (at : ℕ) (name : Option (List ℕ)) → session.current ≡ name → slice_get session.connections at ≡ Some c → option_and_then (place_of session) name ≡ Some at
        → option_and_then (λ n. position (is_named n) (slice_set session.connections at (with_setting setting c))) name ≡ Some at
    named at None same got place = place
    named at (Some name) same got place = found-again (is_named name) session.connections at c (with_setting setting c) got refl ∙ place

    by-place : (place : Option ℕ) → option_and_then (place_of session) session.current ≡ place → option_and_then (slice_get session.connections) place ≡ Some c
        → current (elim place [ None ↦ session | Some at ↦ with_setting_at session at setting (slice_get session.connections at) ]) ≡ Some (with_setting setting c)
    by-place None place got = absurd (let none : None ≡ Some c = got in cc)
    by-place (Some at) place got =
        ap (λ (found : Option Connection). current (with_setting_at session at setting found)) got
        ∙ (ap (λ at'. option_and_then (slice_get (slice_set session.connections at (with_setting setting c))) at') (named at session.current refl got place)
        ∙ got-again session.connections at c (with_setting setting c) got)

pub set-nothing : (session : Session) (setting : Setting) → current session ≡ None → set_for session setting ≡ session
set-nothing session setting none = by-place (option_and_then (place_of session) session.current) none
  where
    by-place : (place : Option ℕ) → option_and_then (slice_get session.connections) place ≡ None → elim place [ None ↦ session | Some at ↦ with_setting_at session at setting (slice_get session.connections at) ] ≡ session
    by-place None got = refl
    by-place (Some at) got = ap (with_setting_at session at setting) got
