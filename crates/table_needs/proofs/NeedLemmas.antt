-- Needs that are put behind others, list by list.
use Rattle.std.proofs.Common.{◌≡◌, ◌⊎◌, ◌↔◌, ℕ, ◌+◌, ◌<◌, ◌≤◌, List, [], ◌∷◌, ◌++◌, length, get_or, map, take, sym, ◌∙◌, ap, subst, refl, inl, inr, arith}
use Rattle.std.specs.Prelude.{IfOk, Result, Ok, Err}
use Rattle.std.specs.List.{Any, Contains}
use Rattle.std.proofs.lemmas.List.{take_more, take_all}
use Rattle.std.proofs.lemmas.List.Elements.{Contains-append_left, Contains-append_right, Contains-append_cases, Contains-push, Contains-push_cases}
use Rattle.finite_chains.proofs.Members.{Contains-nil, Contains-head, Contains-tail, Contains-cases}
use Rattle.sql_names.specs.declared.object.Object.{Object}
use Rattle.sql_names.specs.declared.column.ObjectName.{ObjectName}
use Rattle.sql_tree.specs.declared.table.ColumnType.{ColumnType}
use Rattle.sql_tree.specs.declared.table.ColumnType.TheVariants as bases
use Rattle.cat_items.specs.declared.edit.Who.{Who}
use Rattle.cat_items.specs.declared.item.Check.{Check}
use Rattle.cat_items.specs.declared.item.Foreign.{Foreign}
use Rattle.cat_items.specs.declared.item.Item.{Item}
use Rattle.cat_items.specs.declared.item.Item.TheVariants as item
use Rattle.cat_items.specs.declared.need.Need.{Need}
use Rattle.cat_items.specs.Rights.{reference, usage}
use Rattle.edit_rules.specs.Names.{object_in}
use Rattle.table_parts.specs.declared.parts.Part.{Part}
use Rattle.table_parts.proofs.Pairs.{map_has}
use Rattle.table_needs.specs.Needs.{IsAsked, IsBaseNeed, IsConstraintNeed, IsNeeded, IsOwnNeed, IsPartNeed}
use Rattle.table_needs.proofs.Searches.{any_of, any_push, member_of}

-- what a function gives of a list is given of one of its members
pub map_from : {X Y : Type 0} (f : X → Y) (xs : List X) (y : Y) → Contains (map f xs) y → (x : X) × Contains xs x × (y ≡ f x)
map_from f [] y h = absurd (Contains-nil y h)
map_from f (x ∷ xs) y h =
    elim (Contains-cases (f x) (map f xs) y h) [
      | inl e ↦ (x, Contains-head x xs, sym e)
      | inr more ↦ let r = map_from f xs y more in (r.0, Contains-tail x xs r.0 r.1, r.2)
    ]

-- a list has what another one had, and what is so
abbrev pub Gain : List Need → List Need → (Need → Type 0) → Type 0
Gain old new P = (need : Need) → Contains new need ↔ (Contains old need ⊎ P need)

pub gains_none : (old new : List Need) (P : Need → Type 0) → new ≡ old → ((need : Need) → ¬ (P need)) → Gain old new P
gains_none old new P same none need = (
  λ h. inl (subst (λ l. Contains l need) same h),
  λ h. elim h [ inl was ↦ subst (λ l. Contains l need) (sym same) was | inr so ↦ absurd (none need so) ],
)

pub gains_list : (old new more : List Need) (P : Need → Type 0) → new ≡ old ++ more → ((need : Need) → Contains more need ↔ P need) → Gain old new P
gains_list old new more P is same need = (
  λ h. elim (Contains-append_cases old more need (subst (λ l. Contains l need) is h)) [ inl was ↦ inl was | inr here ↦ inr ((same need).0 here) ],
  λ h. subst (λ l. Contains l need) (sym is) (elim h [ inl was ↦ Contains-append_left old more need was | inr so ↦ Contains-append_right old more need ((same need).1 so) ]),
)

pub gains_one : (old new : List Need) (one : Need) (P : Need → Type 0) → new ≡ old ++ one ∷ [] → ((need : Need) → (need ≡ one) ↔ P need) → Gain old new P
gains_one old new one P is same =
    gains_list old new (one ∷ []) P is (λ need. (
      λ h. elim (Contains-cases one [] need h) [ inl e ↦ (same need).0 (sym e) | inr none ↦ absurd (Contains-nil need none) ],
      λ p. subst (λ z. Contains (one ∷ []) z) (sym ((same need).1 p)) (Contains-head one []),
    ))

pub gains_mapped : {X : Type 0} (old new : List Need) (f : X → Need) (xs : List X) → new ≡ old ++ map f xs → Gain old new (λ need. (x : X) × Contains xs x × (need ≡ f x))
gains_mapped old new f xs is =
    gains_list old new (map f xs) _ is (λ need. (map_from f xs need, λ h. subst (Contains (map f xs)) (sym h.2) (map_has f xs h.0 h.1)))

-- member by member of a list
module _ {X : Type 0} (P : Need → X → Type 0) (xs : List X) where
  pub gain_begin : (start : List Need) → Gain start start (λ need. Any (P need) (take 0 xs))
  gain_begin start need = (λ h. inl h, λ h. elim h [ inl was ↦ was | inr some ↦ absurd (omega (arith, some.2)) ])

  pub gain_more : (start mid new : List Need) (i : ℕ) (x : X) → i < length xs → x ≡ get_or xs i x → Gain start mid (λ need. Any (P need) (take i xs)) → Gain mid new (λ need. P need x) → Gain start new (λ need. Any (P need) (take (i + 1) xs))
  gain_more start mid new i x within is before here need =
      subst (λ l. Contains new need ↔ (Contains start need ⊎ Any (P need) l)) (sym (take_more xs i x within ∙ ap (λ y. take i xs ++ y ∷ []) (sym is))) (
        λ h. elim ((here need).0 h) [
          | inl was ↦ elim ((before need).0 was) [ inl s ↦ inl s | inr some ↦ inr ((any_push (P need) (take i xs) x).1 (inl some)) ]
          | inr so ↦ inr ((any_push (P need) (take i xs) x).1 (inr so))
        ],
        λ h. (here need).1 (elim h [
          | inl s ↦ inl ((before need).1 (inl s))
          | inr some ↦ elim ((any_push (P need) (take i xs) x).0 some) [ inl early ↦ inl ((before need).1 (inr early)) | inr so ↦ inr so ]
        ]),
      )

  pub gain_all : (start new : List Need) (i : ℕ) → length xs ≤ i → Gain start new (λ need. Any (P need) (take i xs)) → Gain start new (λ need. Any (P need) xs)
  gain_all start new i all gains need = subst (λ l. Contains new need ↔ (Contains start need ⊎ Any (P need) l)) (take_all i xs all) (gains need)

-- ---- one part, and one constraint

pub domain_need : (who : Who) (base : ColumnType) (name : ObjectName) (old new : List Need) (one : Need) → base ≡ bases.Domain name → one ≡ usage (object_in who.schema name) → new ≡ old ++ one ∷ [] → Gain old new (IsBaseNeed who base)
domain_need who base name old new one e u is =
    subst (λ (b : ColumnType). Gain old new (IsBaseNeed who b)) (sym e) (gains_one old new one (IsBaseNeed who (bases.Domain name)) is (λ need. (λ h. h ∙ u, λ h. h ∙ sym u)))

pub foreign_needs : (x : Item) (f g : Foreign) (old new : List Need) → x ≡ item.Foreign f → g ≡ f → new ≡ old ++ map (reference g.target) g.target_columns → Gain old new (λ need. IsConstraintNeed need x)
foreign_needs x f g old new e same is =
    subst (λ (y : Item). Gain old new (λ need. IsConstraintNeed need y)) (sym e)
    (gains_mapped old new (reference f.target) f.target_columns (subst (λ (h : Foreign). new ≡ old ++ map (reference h.target) h.target_columns) same is))

pub check_needs : (x : Item) (k m : Check) (old new : List Need) → x ≡ item.Check k → m ≡ k → new ≡ old ++ m.needs → Gain old new (λ need. IsConstraintNeed need x)
check_needs x k m old new e same is =
    subst (λ (y : Item). Gain old new (λ need. IsConstraintNeed need y)) (sym e)
    (gains_list old new k.needs (λ need. Contains k.needs need) (subst (λ (h : Check). new ≡ old ++ h.needs) same is) (λ need. (λ h. h, λ h. h)))

-- ---- needs that are left

pub left_own : (table : Object) (all : List Part) (one : Need) (left : List Need) → IsOwnNeed table all one → Gain left left (λ need. IsAsked table all need one)
left_own table all one left own = gains_none left left (λ need. IsAsked table all need one) refl (λ need h. h.1 own)

pub left_more : (table : Object) (all : List Part) (one copy : Need) (old new : List Need) → (¬ (IsOwnNeed table all one)) → copy ≡ one → new ≡ old ++ copy ∷ [] → Gain old new (λ need. IsAsked table all need one)
left_more table all one copy old new other same is = gains_one old new copy (λ need. IsAsked table all need one) is (λ need. (λ h. (h ∙ same, other), λ h. h.0 ∙ sym same))

-- ---- all of them

pub from_none : (start new : List Need) (P : Need → Type 0) → start ≡ [] → Gain start new P → (need : Need) → Contains new need ↔ P need
from_none start new P none gains need = (
  λ h. elim ((gains need).0 h) [ inl s ↦ absurd (Contains-nil need (subst (λ l. Contains l need) none s)) | inr p ↦ p ],
  λ p. (gains need).1 (inr p),
)

pub needed_are : (who : Who) (table : Object) (all : List Part) (made : List Item) (start with_parts both left : List Need) → start ≡ [] → Gain start with_parts (λ need. Any (IsPartNeed who need) all) → Gain with_parts both (λ need. Any (IsConstraintNeed need) made)
    → ((need : Need) → Contains left need ↔ Any (IsAsked table all need) both) → (need : Need) → Contains left need ↔ IsNeeded who table all (Contains made) need
needed_are who table all made start with_parts both left none by_parts by_made are need = (to, from)
  where
    to : Contains left need → IsNeeded who table all (Contains made) need
    to h =
        let asked = member_of (IsAsked table all need) both ((are need).0 h) in
        let there : Contains both need = subst (Contains both) (sym asked.2.0) asked.1 in (
          elim ((by_made need).0 there) [
            | inl p ↦ elim ((by_parts need).0 p) [ inl s ↦ absurd (Contains-nil need (subst (λ l. Contains l need) none s)) | inr part ↦ inl part ]
            | inr x ↦ inr (member_of (IsConstraintNeed need) made x)
          ],
          subst (λ n. ¬ (IsOwnNeed table all n)) (sym asked.2.0) asked.2.1,
        )

    from : IsNeeded who table all (Contains made) need → Contains left need
    from h =
        let there : Contains both need = (by_made need).1 (elim h.0 [ inl part ↦ inl ((by_parts need).1 (inr part)) | inr x ↦ inr (any_of (IsConstraintNeed need) made x.0 x.1 x.2) ]) in
        (are need).1 (any_of (IsAsked table all need) both need there (refl, h.1))

-- of items that are so in two ways
pub needed_as : (who : Who) (table : Object) (all : List Part) (P Q : Item → Type 0) → ((x : Item) → P x ↔ Q x) → (need : Need) → IsNeeded who table all P need ↔ IsNeeded who table all Q need
needed_as who table all P Q same need = (
  λ h. (elim h.0 [ inl part ↦ inl part | inr x ↦ inr (x.0, (same x.0).0 x.1, x.2) ], h.1),
  λ h. (elim h.0 [ inl part ↦ inl part | inr x ↦ inr (x.0, (same x.0).1 x.1, x.2) ], h.1),
)

pub if_ok : {T E : Type 0} (r : Result T E) (P Q : T → Type 0) → ((v : T) → P v → Q v) → IfOk r P → IfOk r Q
if_ok (Ok v) P Q goes h = goes v h
if_ok (Err e) P Q goes h = h
