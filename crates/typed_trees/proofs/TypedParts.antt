-- Where the parts of a tree have types, what is made of them has a type.
use Rattle.std.proofs.Common.{◌≡◌, Bool, true, false, List, [], ◌∷◌, ◌++◌, Option, Some, None, map, refl}
use Rattle.std.specs.Prelude.{◌&&◌}
use Rattle.sql_names.specs.declared.sort.SqlType.{SqlType}
use Rattle.sql_tree.specs.declared.expr.Additive.{Additive}
use Rattle.name_scopes.specs.Frames.{Frames}
use Rattle.type_rules.specs.Rules.{all_of_class, cast, is_text, joined, joined_columns, one_class}
use Rattle.type_rules.specs.TypeParts.{Typed, added_to, all_boolean, between, boolean, case_arms, case_type, cast_type, compared, each, guarded, joined_all, like, listed, logical, multiplied_by, only_if, product_of, selected_where, single, sum_of, tested, there, united, unless_negated, with_else}
use Rattle.cat_items.specs.Pieces.{IsType}
use Rattle.resolved_trees.proofs.Everies.{Every, every_append}
use Rattle.typed_trees.proofs.RuleTypes.{AllHaveTypes, HasType, Holds, additive_typed, arithmetic_typed, cast_typed, has_type_if, holds_then, joined_columns_typed, joined_typed}

module _ {X : Type 0} (f : X → Typed SqlType) (s : Frames) where
  pub each_typed : (before : List SqlType) (xs : List X) → Every IsType before → Every (λ x. HasType (f x s)) xs → AllHaveTypes (each s before (map f xs))
  each_typed before [] h p = h
  each_typed before (x ∷ xs) h p =
      holds_then IsType (Every IsType) (λ t. each s (before ++ t ∷ []) (map f xs)) (f x s) p.0 (λ t typed. each_typed (before ++ t ∷ []) xs (every_append IsType before (t ∷ []) h (typed, tt)) p.1)

  pub product_of_typed : (a : Option SqlType) (xs : List X) → HasType a → Every (λ x. HasType (f x s)) xs → HasType (product_of s a (map f xs))
  product_of_typed a [] h p = h
  product_of_typed a (x ∷ xs) h p = product_of_typed (multiplied_by a (f x s)) xs (times a (f x s) h p.0) p.1
    where
      times : (a b : Option SqlType) → HasType a → HasType b → HasType (multiplied_by a b)
      times (Some a) (Some b) h p = arithmetic_typed a b h p
      times a b h p = tt

plus : (by : Additive) (a b : Option SqlType) → HasType a → HasType b → HasType (added_to by a b)
plus by (Some a) (Some b) h p = additive_typed by a b h p
plus by a b h p = tt

module _ {X : Type 0} (f : X → Additive × Typed SqlType) (s : Frames) where
  pub sum_of_typed : (a : Option SqlType) (xs : List X) → HasType a → Every (λ x. HasType ((f x).1 s)) xs → HasType (sum_of s a (map f xs))
  sum_of_typed a [] h p = h
  sum_of_typed a (x ∷ xs) h p = sum_of_typed (added_to (f x).0 a ((f x).1 s)) xs (plus (f x).0 a ((f x).1 s) h p.0) p.1

module _ {X : Type 0} (f : X → Typed (List SqlType)) (s : Frames) where
  pub united_typed : (as' : List SqlType) (xs : List X) → Every IsType as' → Every (λ x. AllHaveTypes (f x s)) xs → AllHaveTypes (united s (map f xs) as')
  united_typed as' [] h p = h
  united_typed as' (x ∷ xs) h p =
      holds_then (Every IsType) (Every IsType) _ (f x s) p.0
      (λ bs typed. holds_then (Every IsType) (Every IsType) (λ cs. united s (map f xs) cs) (joined_columns as' bs) (joined_columns_typed as' bs h typed) (λ cs more. united_typed cs xs more p.1))

-- ---- tests

pub only_if_typed : (b : Bool) → HasType (only_if b)
only_if_typed true = tt
only_if_typed false = tt

pub tested_typed : (a : Option SqlType) → HasType (tested a)
tested_typed None = tt
tested_typed (Some a) = tt

pub compared_typed : (a b : Option SqlType) → HasType (compared a b)
compared_typed (Some a) (Some b) = only_if_typed (one_class a b)
compared_typed a b = tt

pub between_typed : (a b c : Option SqlType) → HasType (between a b c)
between_typed (Some a) (Some b) (Some c) = only_if_typed (one_class a b && one_class a c)
between_typed a b c = tt

pub listed_typed : (a : Option SqlType) (bs : Option (List SqlType)) → HasType (listed a bs)
listed_typed (Some a) (Some bs) = only_if_typed (all_of_class a bs)
listed_typed a bs = tt

pub like_typed : (a b : Option SqlType) → HasType (like a b)
like_typed (Some a) (Some b) = only_if_typed (is_text a && is_text b)
like_typed a b = tt

pub logical_typed : (o : Option (List SqlType)) → AllHaveTypes o → HasType (logical o)
logical_typed None h = tt
logical_typed (Some (a ∷ [])) h = h.0
logical_typed (Some as') h = only_if_typed (all_boolean as')

pub negated_typed : (negated : Bool) (a : Option SqlType) → HasType a → HasType (unless_negated negated a)
negated_typed false a h = h
negated_typed true a h = only_if_typed (boolean a)

-- ---- CASE, CAST and subqueries

pub anything : {A : Type 0} (o : Option A) → Holds (λ a. Unit {0}) o
anything None = tt
anything (Some a) = tt

pub guarded_typed : (condition value : Option SqlType) → HasType value → HasType (guarded condition value)
guarded_typed condition value h = has_type_if (boolean condition) value None (λ e. h) tt

joined_all_typed : (a : SqlType) (bs : List SqlType) → IsType a → Every IsType bs → HasType (joined_all a bs)
joined_all_typed a [] h p = h
joined_all_typed a (b ∷ bs) h p = holds_then IsType IsType (λ c. joined_all c bs) (joined a b) (joined_typed a b h p.0) (λ c t. joined_all_typed c bs t p.1)

arms_typed : (o : Option (List SqlType)) → AllHaveTypes o → HasType (case_arms o)
arms_typed None h = tt
arms_typed (Some []) h = tt
arms_typed (Some (a ∷ as')) h = joined_all_typed a as' h.0 h.1

else_typed : (a b : Option SqlType) → HasType a → HasType b → HasType (with_else a b)
else_typed (Some a) (Some b) h p = joined_typed a b h p
else_typed a b h p = tt

pub case_typed : (arms : Option (List SqlType)) (otherwise : Option (Typed SqlType)) (s : Frames) → AllHaveTypes arms → ((r : Typed SqlType) → otherwise ≡ Some r → HasType (r s)) → HasType (case_type arms otherwise s)
case_typed arms None s h p = arms_typed arms h
case_typed arms (Some r) s h p = else_typed (case_arms arms) (r s) (arms_typed arms h) (p r refl)

pub cast_type_typed : (o : Option (Typed SqlType)) (sort : SqlType) (s : Frames) → IsType sort → HasType (cast_type o sort s)
cast_type_typed None sort s h = h
cast_type_typed (Some r) sort s h = holds_then (λ a. Unit {0}) IsType (λ a. cast a sort) (r s) (anything (r s)) (λ a t. cast_typed a sort h)

pub there_typed : (o : Option (List SqlType)) → HasType (there o)
there_typed None = tt
there_typed (Some ts) = tt

pub single_typed : (o : Option (List SqlType)) → AllHaveTypes o → HasType (single o)
single_typed (Some (t ∷ [])) h = h.0
single_typed o h = tt

pub selected_typed : (from filter : Bool) (o : Option (List SqlType)) → AllHaveTypes o → AllHaveTypes (selected_where from filter o)
selected_typed true true o h = h
selected_typed from filter o h = tt
