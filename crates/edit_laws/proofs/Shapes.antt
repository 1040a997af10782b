-- An edited catalogue is of a proper shape where the added items are proper.
use Rattle.std.proofs.Common.{◌≡◌, ◌⊎◌, inl, inr, ℕ, List, [], ◌∷◌, Some, sym}
use Rattle.std.specs.List.{Contains}
use Rattle.finite_chains.proofs.Members.{Contains-nil}
use Rattle.sql_names.specs.declared.object.Object.{Object}
use Rattle.cat_items.specs.declared.edit.Edit.{Edit}
use Rattle.cat_items.specs.declared.item.RoleGrant.{RoleGrant}
use Rattle.cat_items.specs.declared.item.View.{View}
use Rattle.cat_items.specs.declared.item.Item.{Item}
use Rattle.cat_items.specs.declared.item.Item.TheVariants as item
use Rattle.cat_items.specs.Reach.{Has, GrantsRole, Leads}
use Rattle.cat_items.specs.Edits.{IsEdited}
use Rattle.cat_items.specs.Fit.{IsRight}
use Rattle.cat_items.specs.Shape.{HasShape, NameSet, name_of, HasAllowedName, HasDerivedFields, HasProperLists, IsWellFormed, IsColumnOf}
use Rattle.edit_laws.specs.Additions.{AddsProperly, IsEitherAdded, HasNoShape}
use Rattle.edit_laws.specs.Columns.{KeepsViewColumns}
use Rattle.edit_laws.specs.Kinds.{IsKept, taking}

-- role authorizations that lead on stand in the other list too
leads_within : (s t : List Item) → ((g : RoleGrant) → Contains s (item.RoleAuth g) → Contains t (item.RoleAuth g)) → (from : List ℕ) (roles : List (List ℕ)) (to : List ℕ) → Leads s from roles to → Leads t from roles to
leads_within s t within from [] to is = is
leads_within s t within from (role ∷ roles) to is = (grant is.0.0 is.0.1 is.0.2, leads_within s t within role roles to is.1)
  where
    grant : (y : Item) → Contains s y → GrantsRole role from y → Has t (GrantsRole role from)
    grant (item.RoleAuth g) here h = (item.RoleAuth g, within g here, h)
    grant _ here h = absurd h

-- a right is no column
pub right_is_no_column : (x : Item) → IsRight x → (t : Object) → ¬ (IsColumnOf t x)
right_is_no_column (item.Held r) h t = λ z. z
right_is_no_column (item.Grantable r) h t = λ z. z
right_is_no_column _ h t = absurd h

-- where no column is destroyed or changed, views keep theirs
pub keeps_without_columns : (c : List Item) (edit : Edit) → ((x : Item) → Contains edit.target x ⊎ Contains edit.changed x → (t : Object) → ¬ (IsColumnOf t x)) → KeepsViewColumns c edit
keeps_without_columns c edit none v x kept here of = (λ t. none x (inl t) v.view of, λ t. none x (inr t) v.view of)

nothing_nameless : (x : Item) (name : NameSet × List (List ℕ)) → HasNoShape x → name_of x ≡ Some name → ⊥
nothing_nameless (item.Schema s) name h e = cc
nothing_nameless (item.RoleAdmin g) name h e = cc
nothing_nameless (item.Held r) name h e = cc
nothing_nameless (item.Grantable r) name h e = cc
nothing_nameless _ name h e = h

plain_allowed : (x : Item) → HasNoShape x → HasAllowedName x
plain_allowed (item.Schema s) h = tt
plain_allowed (item.RoleAdmin g) h = tt
plain_allowed (item.Held r) h = tt
plain_allowed (item.Grantable r) h = tt
plain_allowed _ h = absurd h

pub plain_derived : (x : Item) → HasNoShape x → HasDerivedFields x
plain_derived (item.Schema s) h = tt
plain_derived (item.RoleAdmin g) h = tt
plain_derived (item.Held r) h = tt
plain_derived (item.Grantable r) h = tt
plain_derived _ h = absurd h

plain_lists : (x : Item) → HasNoShape x → HasProperLists x
plain_lists (item.Schema s) h = tt
plain_lists (item.RoleAdmin g) h = tt
plain_lists (item.Held r) h = tt
plain_lists (item.Grantable r) h = tt
plain_lists _ h = absurd h

plain_trees : (x : Item) → HasNoShape x → IsWellFormed x
plain_trees (item.Schema s) h = tt
plain_trees (item.RoleAdmin g) h = tt
plain_trees (item.Held r) h = tt
plain_trees (item.Grantable r) h = tt
plain_trees _ h = absurd h

module _ (c : List Item) (edit : Edit) (edited : List Item) (shape : HasShape c) (is_edited : IsEdited c edit edited) where
  old_or_added : (x : Item) → Contains edited x → Contains c x ⊎ Contains edit.added x
  old_or_added x h = by ((is_edited.members x).0 h)
    where
      by : IsKept c edit x ⊎ Contains edit.added x → Contains c x ⊎ Contains edit.added x
      by (inl k) = inl k.0
      by (inr h) = inr h

  -- a fact of items that is one of the old ones and of the added ones
  each : (P : Item → Type 0) → ((x : Item) → Contains c x → P x) → ((x : Item) → Contains edit.added x → P x) → (x : Item) → Contains edited x → P x
  each P old added x h = elim (old_or_added x h) [ inl o ↦ old x o | inr a ↦ added x a ]

  -- two items of the edited catalogue are old ones, or one of them is added
  both_old : (x y : Item) → Contains edited x → Contains edited y → (Contains c x × Contains c y) ⊎ IsEitherAdded edit x y
  both_old x y h k = by (old_or_added x h) (old_or_added y k)
    where
      by : Contains c x ⊎ Contains edit.added x → Contains c y ⊎ Contains edit.added y → (Contains c x × Contains c y) ⊎ IsEitherAdded edit x y
      by (inl p) (inl q) = inl (p, q)
      by (inl p) (inr q) = inr (inr q)
      by (inr p) q = inr (inl p)

  -- the law: what an edit leaves is of a proper shape where it adds properly
  pub shape_of_edited : AddsProperly edit edited → HasShape edited
  shape_of_edited adds = record {
    names = λ x y name cx cy nx ny. elim (both_old x y cx cy) [
      | inl old ↦ shape.names x y name old.0 old.1 nx ny
      | inr added ↦ elim added [
        | inl a ↦ adds.names x y name a cy nx ny
        | inr b ↦ sym (adds.names y x name b cx ny nx)
      ]
    ];
    allowed = each HasAllowedName shape.allowed adds.allowed;
    derived = each HasDerivedFields shape.derived adds.derived;
    lists = each HasProperLists shape.lists adds.lists;
    keys = λ f k cf ck e. elim (both_old (item.Foreign f) (item.Key k) cf ck) [
      | inl old ↦ shape.keys f k old.0 old.1 e
      | inr added ↦ adds.keys f k added cf ck e
    ];
    primary = λ a b ca cb e pa pb. elim (both_old (item.Key a) (item.Key b) ca cb) [
      | inl old ↦ shape.primary a b old.0 old.1 e pa pb
      | inr added ↦ elim added [
        | inl x ↦ adds.primary a b x cb e pa pb
        | inr y ↦ sym (adds.primary b a y ca (sym e) pb pa)
      ]
    ];
    domains = λ x d cx cd e. elim (both_old (item.Column x) (item.Domain d) cx cd) [
      | inl old ↦ shape.domains x d old.0 old.1 e
      | inr added ↦ adds.domains x d added cx cd e
    ];
    view_columns = adds.view_columns;
    view_domains = λ v x cv cx e. elim (both_old (item.View v) (item.Column x) cv cx) [
      | inl old ↦ shape.view_domains v x old.0 old.1 e
      | inr added ↦ adds.view_domains v x added cv cx e
    ];
    no_cycle = adds.no_cycle;
    trees = each IsWellFormed shape.trees adds.trees;
  }

  -- ---- parts of proper additions

  -- where role authorizations are old ones no role leads back to itself
  pub no_cycle_of_old : ((g : RoleGrant) → Contains edited (item.RoleAuth g) → Contains c (item.RoleAuth g)) → (name role : List ℕ) (roles : List (List ℕ)) → Leads edited name (role ∷ roles) name → ⊥
  no_cycle_of_old old name role roles h = shape.no_cycle name role roles (leads_within edited c old name (role ∷ roles) name h)

  -- they are where none is added
  pub old_role_auths : ((g : RoleGrant) → Contains edit.added (item.RoleAuth g) → ⊥) → (g : RoleGrant) → Contains edited (item.RoleAuth g) → Contains c (item.RoleAuth g)
  old_role_auths none g h = elim (old_or_added (item.RoleAuth g) h) [ inl old ↦ old | inr added ↦ absurd (none g added) ]

  -- views have their columns where the kept ones keep theirs and the added ones have theirs
  pub view_columns_kept : KeepsViewColumns c edit → ((v : View) → Contains edit.added (item.View v) → Has edited (IsColumnOf v.view)) → (v : View) → Contains edited (item.View v) → Has edited (IsColumnOf v.view)
  view_columns_kept keeps new v h = by ((is_edited.members (item.View v)).0 h)
    where
      by : IsKept c edit (item.View v) ⊎ Contains edit.added (item.View v) → Has edited (IsColumnOf v.view)
      by (inl kept) =
          let column = shape.view_columns v kept.0 in
          let stays = keeps v column.0 kept column.1 column.2 in
          (column.0, (is_edited.members column.0).1 (inl (column.1, stays.0, stays.1)), column.2)
      by (inr added) = new v added

  -- ---- additions of which no shape is asked

  -- schemas, admin options and rights are proper additions
  pub shape_of_plain : ((x : Item) → Contains edit.added x → HasNoShape x) → KeepsViewColumns c edit → HasShape edited
  shape_of_plain plain keeps = shape_of_edited (record {
    names = λ x y name added cy nx ny. absurd (nothing_nameless x name (plain x added) nx);
    allowed = λ x added. plain_allowed x (plain x added);
    derived = λ x added. plain_derived x (plain x added);
    lists = λ x added. plain_lists x (plain x added);
    keys = λ f k added cf ck e. elim added [ inl a ↦ absurd (plain (item.Foreign f) a) | inr b ↦ absurd (plain (item.Key k) b) ];
    primary = λ a b added cb e pa pb. absurd (plain (item.Key a) added);
    domains = λ x d added cx cd e. elim added [ inl a ↦ absurd (plain (item.Column x) a) | inr b ↦ absurd (plain (item.Domain d) b) ];
    view_columns = view_columns_kept keeps (λ v added. absurd (plain (item.View v) added));
    view_domains = λ v x added cv cx e. elim added [ inl a ↦ absurd (plain (item.View v) a) | inr b ↦ absurd (plain (item.Column x) b) ];
    no_cycle = no_cycle_of_old (old_role_auths (λ g added. plain (item.RoleAuth g) added));
    trees = λ x added. plain_trees x (plain x added);
  })

-- what is left of a catalogue is of a proper shape where views keep their columns
pub shape_of_taking : (c target edited : List Item) → HasShape c → IsEdited c (taking target) edited → KeepsViewColumns c (taking target) → HasShape edited
shape_of_taking c target edited shape is keeps = shape_of_plain c (taking target) edited shape is (λ x h. absurd (Contains-nil x h)) keeps
