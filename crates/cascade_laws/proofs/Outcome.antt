-- The cascade finds the new catalogue: where suspicion begins with what the edit destroys, changes and adds, and with rights that the system could
-- not grant before, and spreads over topics, what stands at the end of the rescue is what survives.
use Rattle.std.proofs.Common.{◌≡◌, ◌⊎◌, inl, inr, Bool, true, false, List, [], ◌∷◌, sym, subst}
use Rattle.std.specs.Prelude.{◌++◌, ◌↔◌}
use Rattle.std.specs.List.{Contains}
use Rattle.std.proofs.lemmas.Bool.{cases_Bool, both_ways}
use Rattle.std.proofs.lemmas.List.Elements.{Contains-append_left, Contains-append_right, Contains-append_cases}
use Rattle.finite_chains.specs.Chains.{IsWithin, IsChain, IsMonotone, Survives}
use Rattle.finite_chains.specs.Changes.{IsRescued}
use Rattle.finite_chains.proofs.Members.{Contains-nil, Contains-tail, Contains-cases, All-from_contains}
use Rattle.sql_names.specs.declared.object.Object.{Object}
use Rattle.cat_items.specs.declared.item.Item.{Item}
use Rattle.cat_items.specs.declared.item.Item.TheVariants as item
use Rattle.cat_items.specs.declared.edit.Edit.{Edit}
use Rattle.cat_items.specs.Supported.{Supported}
use Rattle.cat_items.specs.Survivors.{IsWithSystem, AreSurvivors, IsSystemRight}
use Rattle.cat_items.specs.Edits.{IsNew}
use Rattle.cat_items.specs.Catalogues.{IsInOrder}
use Rattle.cat_items.specs.Fit.{IsFit, IsRight}
use Rattle.cat_items.specs.Good.{IsGood}
use Rattle.cat_items.specs.Shape.{HasDerivedFields, IsColumnOf}
use Rattle.support_laws.proofs.Monotone.{supported_monotone}
use Rattle.cascade_laws.specs.Concerns.{Concerns, named}
use Rattle.cascade_laws.specs.Spreading.{IsSpread}
use Rattle.finite_chains.specs.Changes.{LawsOfChange}
use Rattle.cascade_laws.proofs.CloseLocal.{support_goes_by_concerns}
use Rattle.cascade_laws.proofs.Spread.{spreads_to}
use Rattle.cascade_laws.proofs.Stable.{supported_among}
use Rattle.finite_chains.proofs.Cascades.{clear_survives, clear_was, rescued_survivors}
use Rattle.cascade_laws.proofs.Kept.{possible_among, stands_alike, known_alike}
use Rattle.cascade_laws.proofs.TopicsStable.{same_topics}
use Rattle.cascade_laws.specs.Alike.{AreAlike}
use Rattle.cat_items.specs.Relevant.{Names}
use Rattle.finite_chains.proofs.Chains.{IsChain-within, Survives-step}
use Rattle.cascade_laws.proofs.Gathers.{gathered_all}
use Rattle.cascade_laws.specs.Topics.{Topic, IsUnder}
use Rattle.cascade_laws.specs.Asks.{Asks}
use Rattle.cascade_laws.specs.Found.{IsFound}

-- an item of a chain is supported by what has the chain
chain_support : {X : Type 0} (sup : List X → X → Type 0) → IsMonotone sup → (g c chain : List X) → IsChain sup g chain → IsWithin chain c → (x : X) → Contains chain x → sup c x
chain_support sup mono g c [] p w x h = absurd (Contains-nil x h)
chain_support sup mono g c (y ∷ chain) p w x h =
    elim (Contains-cases y chain x h) [
      | inl e ↦ subst (sup c) e (mono.more chain c y (λ z hz. w z (Contains-tail y chain z hz)) p.1)
      | inr later ↦ chain_support sup mono g c chain p.2 (λ z hz. w z (Contains-tail y chain z hz)) x later
    ]

right_is : (c : List Item) (x : Item) → IsSystemRight c x → IsRight x
right_is c (item.Held r) is = tt
right_is c (item.Grantable r) is = tt
right_is c _ is = absurd is

right_derived : (c : List Item) (x : Item) → IsSystemRight c x → HasDerivedFields x
right_derived c (item.Held r) is = tt
right_derived c (item.Grantable r) is = tt
right_derived c _ is = absurd is

column_is_no_right : (t : Object) (k : Item) → IsColumnOf t k → IsRight k → ⊥
column_is_no_right t (item.Column k) is right = right
column_is_no_right t _ is right = absurd is

module _ (c all edited f : List Item) (edit : Edit) (suspect : Item → Bool) (shape : (x : Item) → Contains c x → HasDerivedFields x) (with_all : IsWithSystem c all) (survivors : AreSurvivors all c)
    (fit : IsFit c edit edited) (with_f : IsWithSystem edited f) (is_spread : IsSpread c all edit f suspect) where
  pub u : List Item
  u = all ++ f

  supported_old : (x : Item) → Contains c x → Supported all c x
  supported_old x h =
      let s = (survivors.members x).0 h in
      chain_support (Supported all) (supported_monotone all) all c s.0 s.1 (λ y hy. (survivors.members y).1 (s.0, s.1, hy)) x s.2

  within_all : IsWithin c all
  within_all x h = (with_all.members x).1 (inl h)

  edited_cases : (z : Item) → Contains edited z → Contains c z ⊎ (suspect z ≡ true)
  edited_cases z h = elim ((fit.is_edited.members z).0 h) [ inl old ↦ inl old.0 | inr added ↦ inr (is_spread.added z added) ]

  known_old : (z : Item) → Contains u z → (¬ (IsRight z)) → Contains c z ⊎ (suspect z ≡ true)
  unfolding u
  known_old z h other =
      elim (Contains-append_cases all f z h) [
        | inl in_all ↦ (elim ((with_all.members z).0 in_all) [ inl old ↦ inl old | inr right ↦ absurd (other (right_is c z right)) ])
        | inr in_f ↦ (elim ((with_f.members z).0 in_f) [ inl here ↦ edited_cases z here | inr right ↦ absurd (other (right_is edited z right)) ])
      ]

  all_u : IsWithin all u
  unfolding u
  all_u x h = Contains-append_left all f x h

  f_u : IsWithin f u
  unfolding u
  f_u x h = Contains-append_right all f x h

  spreads : (y x : Item) → Contains all x → Concerns u y x → suspect y ≡ true → suspect x ≡ true
  spreads y x h r sy = spreads_to c all u (λ z. suspect z ≡ true) supported_old known_old is_spread.close y x ((with_all.members x).0 h) r sy

  f_derived : (x : Item) → Contains f x → HasDerivedFields x
  f_derived x h =
      elim ((with_f.members x).0 h) [
        | inl here ↦ (elim ((fit.is_edited.members x).0 here) [ inl old ↦ shape x old.0 | inr added ↦ fit.derived x added ])
        | inr right ↦ right_derived edited x right
      ]

  stays : (x : Item) → suspect x ≡ false → Contains c x → Contains f x
  stays x clear h = (with_f.members x).1 (inl ((fit.is_edited.members x).1 (inl (h, (λ gone. both_ways (suspect x) clear (is_spread.target x gone)), (λ gone. both_ways (suspect x) clear (is_spread.changed x gone))))))

  -- a table that is no suspect has the same columns before and after
  clear_column : (x : Item) → Contains all x → suspect x ≡ false → (t : Object) → x ≡ item.Table t → (k : Item) → IsColumnOf t k → suspect k ≡ false
  clear_column x h clear t e k is =
      elim (cases_Bool (suspect k)) [
        | inl was ↦ absurd (both_ways (suspect x) clear (spreads k x h (subst (Concerns u k) (sym e) (named (inr is))) was))
        | inr clear_k ↦ clear_k
      ]

  column_of_c : (t : Object) (k : Item) → IsColumnOf t k → Contains all k → Contains c k
  column_of_c t k is h = elim ((with_all.members k).0 h) [ inl old ↦ old | inr right ↦ absurd (column_is_no_right t k is (right_is c k right)) ]

  stable_new : (s : List Item) (x : Item) → Contains c x → suspect x ≡ false → Supported all s x → Supported f s x
  stable_new s x h clear is = supported_among all f s x (λ t e k hk col. stays k (clear_column x (within_all x h) clear t e k col) (column_of_c t k col hk)) is

  stable_old : (s : List Item) (x : Item) → Contains f x → suspect x ≡ false → Supported f s x → Supported all s x
  stable_old s x h clear is = supported_among f all s x (λ t e k hk col. is_spread.known k hk (clear_column x (is_spread.known x h clear) clear t e k col)) is

  pub change : LawsOfChange (Supported all) (Supported f) (Concerns u) suspect all c f
  change = record {
    old_local = λ s t x hs ht hx keep is. support_goes_by_concerns all u s t x (shape x hx) (λ y hy. shape y (hs y hy)) all_u (λ y hy. all_u y (within_all y (hs y hy))) keep is;
    new_local = λ s t x hs ht hx keep is. support_goes_by_concerns f u s t x (f_derived x hx) (λ y hy. f_derived y (hs y hy)) f_u (λ y hy. f_u y (hs y hy)) keep is;
    stable_new = stable_new;
    stable_old = stable_old;
    spreads = spreads;
    stays = stays;
    known = λ x clear h. is_spread.known x h clear;
    good = survivors.members;
  }

  -- what stands at the end of the rescue, in order, is the new catalogue
  pub rescued_is_new : (standing : List Item) → IsInOrder standing → IsRescued (Supported f) suspect c f standing → IsNew c edit standing
  rescued_is_new standing order rescued = record {
    edited = edited;
    is_edited = fit.is_edited;
    all = f;
    with_system = with_f;
    survivors = record {
      order = order;
      members = rescued_survivors (Supported all) (Supported f) (Concerns u) suspect all c f change (supported_monotone f) (supported_monotone all) standing rescued;
    };
  }

  -- ---- what is no suspect, before and after

  module _ (new : List Item) (is_new : AreSurvivors f new) where
    new_stays : (x : Item) → Contains c x → suspect x ≡ false → Contains new x
    new_stays x h clear = (is_new.members x).1 (clear_survives (Supported all) (Supported f) (Concerns u) suspect all c f change (supported_monotone f) x h clear)

    new_old : (x : Item) → Contains new x → suspect x ≡ false → Contains c x
    new_old x h clear = clear_was (Supported all) (Supported f) (Concerns u) suspect all c f change (supported_monotone f) (supported_monotone all) new is_new.members x h clear

    new_within : IsWithin new f
    new_within x h = let s = (is_new.members x).0 h in IsChain-within (Supported f) f s.0 s.1 x s.2

    new_edited : (z : Item) → Contains new z → (¬ (IsRight z)) → Contains edited z
    new_edited z h other = elim ((with_f.members z).0 (new_within z h)) [ inl here ↦ here | inr right ↦ absurd (other (right_is edited z right)) ]

    new_before : (z : Item) → Contains new z → (¬ (IsRight z)) → Contains c z ⊎ (suspect z ≡ true)
    new_before z h other = edited_cases z (new_edited z h other)

    new_after : (z : Item) → Contains c z → (¬ (IsRight z)) → Contains new z ⊎ (suspect z ≡ true)
    new_after z h other = elim (cases_Bool (suspect z)) [ inl was ↦ inr was | inr clear_z ↦ inl (new_stays z h clear_z) ]

    -- a right that the system could grant for what stands it could grant for the edited list
    new_known : (x : Item) → IsSystemRight new x → suspect x ≡ false → Contains c x ⊎ IsSystemRight c x
    new_known x is clear = (with_all.members x).0 (is_spread.known x ((with_f.members x).1 (inr (possible_among new edited x new_edited is))) clear)

    names_spread : (y x : Item) → Contains c x ⊎ IsSystemRight c x → Names x y → suspect y ≡ true → suspect x ≡ true
    names_spread y x gx is was = spreads y x ((with_all.members x).1 gx) (named is) was

    pub are_alike : AreAlike c new suspect
    are_alike = record {
      stands_alike = λ x clear. stands_alike c new suspect new_stays new_old new_known names_spread x clear;
      known_alike = λ x clear. known_alike c new suspect new_stays new_old new_known names_spread x clear;
      same_topics = λ x clear gx t. same_topics c all new (λ z. suspect z ≡ true) supported_old new_before new_after is_spread.close x gx (λ was. both_ways (suspect x) clear was) t;
    }

  -- ---- rounds over a part

  -- what is asked for by the suspects is in the part; it has the suspects, and of the others only what f has
  module _ (part found standing : List Item) (within : IsWithin part f) (suspects : (x : Item) → Contains f x → suspect x ≡ true → Contains part x)
      (asked : (x : Item) → Contains part x → suspect x ≡ true → (¬ (Survives (Supported f) f x)) ⊎ ((y : Item) (t : Topic) → Contains c y → suspect y ≡ false → Asks part x t → IsUnder t y → Contains part y))
      (clear : (x : Item) → Contains part x → suspect x ≡ false → Contains c x → Contains found x) (found_part : IsWithin found part) (sound : (x : Item) → Contains found x → Survives (Supported f) f x)
      (closed : (x : Item) → Contains part x → suspect x ≡ true → Supported part found x → Contains found x)
      (members : (x : Item) → Contains standing x ↔ (Contains found x ⊎ (Contains c x × (suspect x ≡ false)))) where
    abbrev Counts : Item → Type 0
    Counts y = Contains c y ⊎ (suspect y ≡ true)

    others_count : (y : Item) → Contains f y → (¬ (IsRight y)) → Counts y
    others_count y h other = elim ((with_f.members y).0 h) [ inl here ↦ edited_cases y here | inr right ↦ absurd (other (right_is edited y right)) ]

    -- all is there that the item asks for
    abbrev Asked : Item → Type 0
    Asked x = (y : Item) (t : Topic) → Contains c y → suspect y ≡ false → Asks part x t → IsUnder t y → Contains part y

    there : (x : Item) → Asked x → (y : Item) (t : Topic) → Contains f y → Counts y → Asks part x t → IsUnder t y → Contains part y
    there x all_asked y t h counts asks is =
        elim (cases_Bool (suspect y)) [
          | inl was ↦ suspects y h was
          | inr not_one ↦ (elim counts [
            | inl old ↦ all_asked y t old not_one asks is
            | inr was ↦ suspects y h was
          ])
        ]

    concerned : (x : Item) → Asked x → (y : Item) → Contains f y → Counts y → Concerns f y x → Contains part y
    concerned x all_asked y h counts r = gathered_all f part x Counts others_count (there x all_asked) y h counts r

    near_column : (x : Item) → Asked x → (t : Object) → x ≡ item.Table t → (k : Item) → Contains f k → IsColumnOf t k → Contains part k
    near_column x all_asked t e k h is = concerned x all_asked k h (others_count k h (λ right. column_is_no_right t k is right)) (subst (Concerns f k) (sym e) (named (inr is)))

    nearer : (s : List Item) (x : Item) → Asked x → Supported f s x → Supported part s x
    nearer s x all_asked is = supported_among f part s x (near_column x all_asked) is

    f_local : (s t : List Item) (x : Item) → IsWithin s f → IsWithin t f → Contains f x → ((y : Item) → Contains s y → Concerns f y x → Contains t y) → Supported f s x → Supported f t x
    f_local s t x hs ht hx keep is = support_goes_by_concerns f f s t x (f_derived x hx) (λ y hy. f_derived y (hs y hy)) (λ y hy. hy) hs keep is

    standing_survives : (x : Item) → Contains standing x → Survives (Supported f) f x
    standing_survives x h =
        elim ((members x).0 h) [
          | inl is ↦ sound x is
          | inr old ↦ clear_survives (Supported all) (Supported f) (Concerns u) suspect all c f change (supported_monotone f) x old.0 old.1
        ]

    standing_f : IsWithin standing f
    standing_f x h = elim ((members x).0 h) [ inl is ↦ within x (found_part x is) | inr old ↦ stays x old.1 old.0 ]

    -- what stands of what concerns the item was found
    stood : (x : Item) → Asked x → Contains f x → (y : Item) → Contains standing y → Concerns f y x → Contains found y
    stood x all_asked fx y h r =
        elim ((members y).0 h) [
          | inl is ↦ is
          | inr old ↦ clear y (concerned x all_asked y (stays y old.1 old.0) (inl old.0) r) old.1 old.0
        ]

    rescued : IsRescued (Supported f) suspect c f standing
    rescued = record {
      sound = standing_survives;
      kept = λ x h nx. (members x).1 (inr (h, nx));
      closed = λ x fx sx support.
          let px = suspects x fx sx in
          elim (asked x px sx) [
            | inl never ↦ absurd (never (Survives-step (Supported f) (supported_monotone f) f standing x (All-from_contains (Survives (Supported f) f) standing standing_survives) fx support))
            | inr all_asked ↦ (members x).1 (inl (closed x px sx (nearer found x all_asked (f_local standing found x standing_f (λ z hz. within z (found_part z hz)) fx (stood x all_asked fx) support))))
          ];
    }

    pub rounds_find_new : IsInOrder standing → IsNew c edit standing
    rounds_find_new order = rescued_is_new standing order rescued

pub new_from_rounds : (c edited f part found standing : List Item) (edit : Edit) (suspect : Item → Bool) (good : IsGood c) → IsFit c edit edited → IsWithSystem edited f → IsSpread c good.all edit f suspect → IsFound c f suspect part found standing → IsInOrder standing → IsNew c edit standing
new_from_rounds c edited f part found standing edit suspect good fit with_f spread is order =
    rounds_find_new c good.all edited f edit suspect good.shape.derived good.with_system good.survivors fit with_f spread part found standing is.within is.suspects is.asked is.clear is.found_part is.sound is.closed is.members order

pub alike_after : (c edited f new : List Item) (edit : Edit) (suspect : Item → Bool) (good : IsGood c) → IsFit c edit edited → IsWithSystem edited f → IsSpread c good.all edit f suspect → AreSurvivors f new → AreAlike c new suspect
alike_after c edited f new edit suspect good fit with_f spread is_new = are_alike c good.all edited f edit suspect good.shape.derived good.with_system good.survivors fit with_f spread new is_new
