-- The users of a list, one after the other.
use Rattle.std.proofs.Common.{◌≡◌, ◌≢◌, ◌==◌, true, false, suc, lit<, ◌<◌, ◌≤◌, ◌+◌, ◌++◌, ◌∷◌, [], ℕ, List, IsTrue, All, length, take, take_all, map, Bor, get_or, ap, sym, ◌∙◌, arith, refl, Result, Ok, Err, IfOk, Option, Some, None, MatchOption, length-take, length-append}
use Rattle.std.specs.List.{AllPairs, join_with_byte, list_all, slice_split}
use Rattle.std.proofs.lemmas.Bool.Decides.{nat_tests}
use Rattle.std.proofs.lemmas.List.Splits.{join_with_byte-slice_split, length-slice_split, slice_split_at, slice_split_none}
use Rattle.std.specs.Char.{is_ascii_uppercase}
use Rattle.std.proofs.lemmas.List.{get_or-map, get_or-take, get_or_default, take_more}
use Rattle.std.proofs.lemmas.List.Elements.{All-cons, All-nil, All-push}
use Rattle.std.proofs.lemmas.List.Quantifiers.{all_pairs_push}
use Rattle.sql_names.specs.Names.{IsName}
use Rattle.ddl_service.specs.Users.{AreUsers, Lists, MayFollow, is_regular, is_regular_byte, is_user_name}
use Rattle.ddl_service.proofs.UserNames.{left, right, name-of_user, regular_of}

-- the first parts are users, no two of them equal
pub record SoFar (parts : List (List ℕ)) (count : ℕ) (users : List (List ℕ)) : Type 0 where
  pub taken : users ≡ take count parts
  pub few : length users ≤ 1000
  pub each : All (λ user. IsTrue (is_user_name user)) users
  pub differ : AllPairs (λ a b. a ≢ b) users

-- a list in which a part may not follow those before it isn't one of users
pub refuses : (parts : List (List ℕ)) (i : ℕ) (users : List (List ℕ)) (name : List ℕ) → i < length parts → SoFar parts i users → name ≡ get_or parts i []
    → (MayFollow users name → ⊥) → AreUsers parts → ⊥
refuses parts i users name within so_far is refused are =
    let sized : length users ≡ i = ap length so_far.taken ∙ simp length-take (omega arith) in
    refused (record {
      is_name = rw is (are.each i [] within);
      is_new = λ has. are.differ has.0 i name (omega (arith, has.1, sized)) within
          (let before : has.0 < i = omega (arith, has.1, sized) in
          let same : get_or parts has.0 name ≡ name = sym (get_or-take i parts has.0 name before) ∙ (ap (λ us. get_or us has.0 name) (sym so_far.taken) ∙ has.2) in
          same ∙ (is ∙ get_or_default parts i [] name within));
      has_room = omega (arith, are.few, sized);
    })

pub grows : (parts : List (List ℕ)) (i : ℕ) (users new : List (List ℕ)) (name : List ℕ) → i < length parts → SoFar parts i users → name ≡ get_or parts i []
    → MayFollow users name → new ≡ users ++ name ∷ [] → SoFar parts (i + 1) new
grows parts i users new name within so_far is follows pushed = rw pushed (record {
  taken = rw (take_more parts i [] within, ← is, ← so_far.taken) refl;
  few = simp length-append (omega (arith, follows.has_room));
  each = All-push (λ user. IsTrue (is_user_name user)) users name so_far.each follows.is_name;
  differ = all_pairs_push (λ a b. a ≢ b) users name so_far.differ (λ k d below same. follows.is_new (k, below, get_or_default users k name d below ∙ same));
})

-- a part as the code reads it
pub part-of : (parts : List (Bor (List ℕ))) (i : ℕ) (d : Bor (List ℕ)) (name : List ℕ) → i < length parts → name ≡ (get_or parts i d).now
    → name ≡ get_or (map (λ part. part.now) parts) i []
part-of parts i d name within is = is ∙ sym (get_or-map (λ part. part.now) parts i d [] within)

pub name-of_follower : (users : List (List ℕ)) (name : List ℕ) → MayFollow users name → IsName name
name-of_follower users name follows = name-of_user name follows.is_name

-- where the last part was reached the users are the list
pub all-taken : (parts : List (List ℕ)) (count : ℕ) (users : List (List ℕ)) → 1 ≤ length parts → length parts ≤ count → SoFar parts count users
    → (users ≡ parts) × AreUsers users
all-taken parts count users some reached so_far =
    let same : users ≡ parts = so_far.taken ∙ take_all count parts reached in (
      same,
      record {
        some = rw same some;
        few = so_far.few;
        each = so_far.each;
        differ = so_far.differ;
      },
    )

plain-byte : (c : ℕ) → (is_regular_byte c) ≡ true → (c == 44) ≡ false
plain-byte c h = grind (arith, nat_tests)

first-plain : (c : ℕ) → is_ascii_uppercase c ≡ true → (c == 44) ≡ false
first-plain c h = grind (arith, nat_tests)

rest-plain : (cs : List ℕ) → list_all is_regular_byte cs ≡ true → All (λ c. (c == 44) ≡ false) cs
rest-plain [] h = All-nil (λ c. (c == 44) ≡ false)
rest-plain (c ∷ cs) h = All-cons (λ c. (c == 44) ≡ false) c cs (plain-byte c (left (is_regular_byte c) _ h)) (rest-plain cs (right (is_regular_byte c) _ h))

-- a regular name has no comma
regular-plain : (name : List ℕ) → is_regular name ≡ true → All (λ c. (c == 44) ≡ false) name
unfolding is_regular
regular-plain [] h = All-nil (λ c. (c == 44) ≡ false)
regular-plain (c ∷ cs) h = All-cons (λ c. (c == 44) ≡ false) c cs (first-plain c (left (is_ascii_uppercase c) _ h)) (rest-plain cs (right (is_ascii_uppercase c) _ h))

-- names with commas between them are cut apart at the commas
split-join : (names : List (List ℕ)) → 1 ≤ length names → All (λ name. All (λ c. (c == 44) ≡ false) name) names → slice_split (λ byte. byte == 44) (join_with_byte 44 names) ≡ names
split-join [] some plain = absurd (omega arith)
split-join (x ∷ []) some plain = slice_split_none (λ byte. byte == 44) x (plain 0 x (lit< tt))
split-join (x ∷ y ∷ names) some plain =
    slice_split_at (λ byte. byte == 44) x 44 (join_with_byte 44 (y ∷ names)) (plain 0 x (omega arith)) refl
    ∙ ap (λ rest. x ∷ rest) (split-join (y ∷ names) (omega arith) (λ k d within. plain (suc k) d (omega arith)))

pub parts-some : (parts : List (List ℕ)) (list : List ℕ) → parts ≡ slice_split (λ byte. byte == 44) list → 1 ≤ length parts
parts-some parts list is = rw (is, length-slice_split (λ byte. byte == 44) list) (omega arith)

pub listed-users : (parts users : List (List ℕ)) (list : List ℕ) → parts ≡ slice_split (λ byte. byte == 44) list → users ≡ parts → AreUsers users → Lists list users
listed-users parts users list is same are = record { joined = sym (ap (join_with_byte 44) (same ∙ is) ∙ join_with_byte-slice_split 44 list); are_users = are }

pub unlisted : (parts users : List (List ℕ)) (list : List ℕ) → parts ≡ slice_split (λ byte. byte == 44) list → (AreUsers parts → ⊥) → Lists list users → ⊥
unlisted parts users list is not lists =
    let same : parts ≡ users = is ∙ (ap (slice_split (λ byte. byte == 44)) lists.joined
    ∙ split-join users lists.are_users.some (λ k d within. regular-plain (get_or users k d) (regular_of (get_or users k d) (lists.are_users.each k d within)))) in
    not (rw same lists.are_users)

-- what is found in the parts of a list is what the list says
pub listing : {V E : Type 0} (items : V → List (List ℕ)) (r : Result (Option V) E) (parts : List (List ℕ)) (list : List ℕ) → parts ≡ slice_split (λ byte. byte == 44) list
    → IfOk r (λ found. MatchOption found (¬ (AreUsers parts)) (λ names. (items names ≡ parts) × AreUsers (items names)))
    → IfOk r (λ found. MatchOption found ((names : List (List ℕ)) → ¬ (Lists list names)) (λ names. Lists list (items names)))
listing items (Ok None) parts list is found = λ names. unlisted parts names list is found
listing items (Ok (Some names)) parts list is found = listed-users parts (items names) list is found.0 found.1
listing items (Err e) parts list is found = tt
