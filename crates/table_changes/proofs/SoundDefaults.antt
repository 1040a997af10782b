-- SET DEFAULT and DROP DEFAULT leave a good catalogue good.
use Rattle.std.proofs.Common.{◌≡◌, ◌↔◌, inl, inr, ℕ, List, [], ◌∷◌, Option, Some, refl, ap, sym, subst, ◌∙◌, arith}
use Rattle.std.specs.List.{Contains}
use Rattle.finite_chains.proofs.Members.{Contains-cases, Contains-head, Contains-nil}
use Rattle.sql_names.specs.declared.object.Object.{Object}
use Rattle.sql_names.specs.declared.sort.Default.{Default}
use Rattle.cat_items.specs.declared.edit.Edit.{Edit}
use Rattle.cat_items.specs.declared.item.Column.{Column}
use Rattle.cat_items.specs.declared.item.Item.{Item}
use Rattle.cat_items.specs.declared.item.Item.TheVariants as item
use Rattle.cat_items.specs.Catalogues.{IsInOrder}
use Rattle.cat_items.specs.Fit.{LacksPart}
use Rattle.cat_items.specs.Good.{IsGood}
use Rattle.cat_items.specs.Pieces.{AreResolved, default_pieces}
use Rattle.cat_items.specs.Reach.{Has}
use Rattle.cat_items.specs.Rights.{path_of, IsBaseTable, IsColumn}
use Rattle.cat_items.specs.Shape.{name_of, columns}
use Rattle.edit_laws.specs.Forms.{IsTaken, HasOwnName, RightsLackParts, SaysOf, TakesWholeViews}
use Rattle.edit_laws.specs.Proper.{IsProperItem, IsProperBeside}
use Rattle.edit_laws.specs.PutBack.{IsPutBack, IsTableOrDomain}
use Rattle.edit_laws.specs.Sound.{IsSound}
use Rattle.edit_laws.specs.Users.{LeavesUsers}
use Rattle.edit_laws.proofs.FormLaws.{same_object, sound_form}
use Rattle.edit_laws.proofs.PutBackLaws.{put_back_name, put_back_item, put_back_beside}
use Rattle.edit_rules.specs.Chosen.{AreAll}
use Rattle.statement_steps.specs.Steps.{Nothing}
use Rattle.statement_steps.proofs.Additions.{nothing_chosen}
use Rattle.table_parts.specs.Classes.{IsMisfit}
use Rattle.table_changes.specs.Defaults.{IsMisfitColumn, IsStanding, IsWithDefault, MakesDefault}
use Rattle.table_changes.proofs.Taking.{base_of}

-- columns of one table and name are one
pub one_standing : (c : List Item) → IsGood c → (table : Object) (name : List ℕ) (x y : Column) → IsStanding c table name x → IsStanding c table name y → x ≡ y
one_standing c good table name x y h k =
    let tables : x.table ≡ y.table = same_object x.table y.table (sym h.1.0 ∙ k.1.0) in
    let names : x.name ≡ y.name = h.1.1 ∙ sym k.1.1 in
    let same : name_of (item.Column x) ≡ name_of (item.Column y) = λ i. Some (columns (tables i), names i ∷ []) in
    let one : item.Column x ≡ item.Column y = good.shape.names (item.Column x) (item.Column y) (columns y.table, y.name ∷ []) h.0 k.0 same refl in
    cc

module _ (c : List Item) (table : Object) (name : List ℕ) (default : Option Default) (edit : Edit) (good : IsGood c) (stands : ¬ (¬ (Has c (IsBaseTable table)))) (formed : AreResolved (default_pieces default))
    (is : MakesDefault c table name default edit) where
  no_change : (x : Item) → Contains edit.changed x → ⊥
  no_change x h = ((is.changed.members x).0 h).1

  taken_old : (x : Item) → IsTaken edit x → Contains c x × IsColumn (path_of table) name x
  taken_old x (inl h) = (is.target.members x).0 h
  taken_old x (inr h) = absurd (no_change x h)

  old_is_column : (x : Item) → IsColumn (path_of table) name x → ¬ (IsTableOrDomain x)
  old_is_column (item.Column x) h = λ z. z
  old_is_column x h = absurd h

  back : (x : Column) → IsWithDefault c table name default (item.Column x) → IsPutBack c edit x
  back x h = record {
    old = h.0;
    stood = h.1.0;
    taken = inl ((is.target.members (item.Column h.0)).1 h.1);
    table = ap (λ (z : Column). z.table) h.2;
    place = ap (λ (z : Column). z.place) h.2;
    name = ap (λ (z : Column). z.name) h.2;
    sort = ap (λ (z : Column). z.sort) h.2;
    domain = inr (ap (λ (z : Column). z.domain) h.2, λ y t. old_is_column y (taken_old y t).1);
    default = subst (λ (z : Column). AreResolved (default_pieces z.default)) (sym h.2) formed;
  }

  own : (x : Item) → IsWithDefault c table name default x → HasOwnName c edit x
  own (item.Column x) h = put_back_name c edit good x (back x h)
  own x h = absurd h

  proper : (x : Item) → IsWithDefault c table name default x → IsProperItem x
  proper (item.Column x) h = put_back_item c edit good x (back x h)
  proper x h = absurd h

  beside : (x : Item) → IsWithDefault c table name default x → IsProperBeside c edit x
  beside (item.Column x) h = put_back_beside c edit good x (back x h)
  beside x h = absurd h

  one_added : (x y : Item) → IsWithDefault c table name default x → IsWithDefault c table name default y → x ≡ y
  one_added (item.Column x) (item.Column y) h k =
      let same : h.0 ≡ k.0 = one_standing c good table name h.0 k.0 h.1 k.1 in
      ap item.Column (h.2 ∙ ap (λ (z : Column). record z { default = default }) same ∙ sym k.2)
  one_added x (item.Column y) h k = absurd h
  one_added x y h k = absurd k

  gone : RightsLackParts c edit
  gone edited of x h = by x ((is.target.members x).0 h).1
    where
      by : (y : Item) → IsColumn (path_of table) name y → SaysOf (LacksPart edited) y
      by (item.Column y) k = tt
      by y k = absurd k

  views : TakesWholeViews c edit
  views x t =
      let old = taken_old (item.Column x) t in
      inl (base_of c good x old.0 (subst (λ (o : Object). ¬ (¬ (Has c (IsBaseTable o)))) (same_object table x.table old.1.0) stands))

  pub sound_default : IsSound c edit
  sound_default = sound_form c edit good (record {
    target_order = is.target.order;
    target = λ x h. ((is.target.members x).0 h).0;
    changed_order = is.changed.order;
    changed = λ x h. absurd (no_change x h);
    added_order = is.added.order;
    apart = λ x h. absurd (no_change x h);
    gone = gone;
    differ = λ x y n h k nx ny. one_added x y ((is.added.members x).0 h) ((is.added.members y).0 k);
    own_names = λ x h. own x ((is.added.members x).0 h);
    items = λ x h. proper x ((is.added.members x).0 h);
    beside = λ x h. beside x ((is.added.members x).0 h);
    views = views;
  })

-- no user is taken, changed or put back
pub default_leaves_users : (c : List Item) (table : Object) (name : List ℕ) (default : Option Default) (edit : Edit) → MakesDefault c table name default edit → LeavesUsers edit
default_leaves_users c table name default edit is user =
    (λ h. ((is.target.members (item.User user)).0 h).1, λ h. ((is.changed.members (item.User user)).0 h).1, λ h. (is.added.members (item.User user)).0 h)

-- ---- the lists that are made

one_in_order : (x : Item) → IsInOrder (x ∷ [])
one_in_order x i j d below within = absurd (omega (arith, below, within))

-- the list of the one item that is so
pub all_of_one : (P : Item → Type 0) (x : Item) (items : List Item) → items ≡ x ∷ [] → P x → ((y : Item) → P y → y ≡ x) → AreAll P items
all_of_one P x items only so one = record {
  order = subst IsInOrder (sym only) (one_in_order x);
  members = λ y. subst (λ (l : List Item). Contains l y ↔ P y) (sym only) (
    λ h. elim (Contains-cases x [] y h) [ inl e ↦ subst P e so | inr none ↦ absurd (Contains-nil y none) ],
    λ p. subst (λ (z : Item). Contains (x ∷ []) z) (sym (one y p)) (Contains-head x []),
  );
}

module _ (c : List Item) (good : IsGood c) (table : Object) (name : List ℕ) (old : Column) (stood : IsStanding c table name old) where
  one_old : (y : Item) → Contains c y × IsColumn (path_of table) name y → y ≡ item.Column old
  one_old (item.Column y) h = ap item.Column (one_standing c good table name y old h stood)
  one_old y h = absurd h.1

  one_new : (default : Option Default) (y : Item) → IsWithDefault c table name default y → y ≡ item.Column (record old { default = default })
  one_new default (item.Column y) h = ap item.Column (h.2 ∙ ap (λ (z : Column). record z { default = default }) (one_standing c good table name h.0 old h.1 stood))
  one_new default y h = absurd h

  pub made_default : (default : Option Default) (new : Column) (edit : Edit) → new ≡ record old { default = default } → edit.target ≡ item.Column old ∷ [] → edit.changed ≡ [] → edit.added ≡ item.Column new ∷ [] → MakesDefault c table name default edit
  made_default default new edit is target changed added = record {
    target = all_of_one (λ y. Contains c y × IsColumn (path_of table) name y) (item.Column old) edit.target target stood one_old;
    changed = subst (λ l. AreAll (λ x. Contains c x × Nothing x) l) (sym changed) (nothing_chosen c);
    added = all_of_one (IsWithDefault c table name default) (item.Column new) edit.added added (old, stood, is) (λ y h. one_new default y h ∙ ap item.Column (sym is));
  }

  -- the default doesn't fit the column that stands
  pub misfit_here : (default : Option Default) → IsMisfit default old.sort ↔ Has c (IsMisfitColumn table name default)
  misfit_here default = (λ odd. (item.Column old, stood.0, (stood.1, odd)), λ has. by has.0 has.1 has.2)
    where
      by : (y : Item) → Contains c y → IsMisfitColumn table name default y → IsMisfit default old.sort
      by (item.Column y) h odd = subst (λ (z : Column). IsMisfit default z.sort) (one_standing c good table name y old (h, odd.0) stood) odd.1
      by y h odd = absurd odd
