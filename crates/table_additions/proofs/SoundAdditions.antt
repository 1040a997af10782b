-- ALTER TABLE ADD leaves a good catalogue good.
use Rattle.std.proofs.Common.{◌≡◌, ◌⊎◌, inl, inr, ℕ, ◌+◌, true, List, [], ◌∷◌, Some, None, refl, ap, sym, subst, ◌∙◌, arith}
use Rattle.std.specs.List.{AllPairs, Contains}
use Rattle.sql_names.specs.declared.object.Object.{Object}
use Rattle.cat_items.specs.declared.edit.Edit.{Edit}
use Rattle.cat_items.specs.declared.edit.Who.{Who}
use Rattle.cat_items.specs.declared.item.Column.{Column}
use Rattle.cat_items.specs.declared.item.Item.{Item}
use Rattle.cat_items.specs.declared.item.Item.TheVariants as item
use Rattle.cat_items.specs.Fit.{IsRight, LacksPart}
use Rattle.cat_items.specs.Good.{IsGood}
use Rattle.cat_items.specs.Pieces.{AreResolved, IsType, default_pieces}
use Rattle.cat_items.specs.Reach.{Has}
use Rattle.cat_items.specs.Rights.{path_of, IsBaseTable, IsColumn}
use Rattle.cat_items.specs.Shape.{NameSet, columns, name_of}
use Rattle.edit_laws.specs.Forms.{HasOwnName, IsTaken, RightsLackParts, SaysOf, TakesWholeViews}
use Rattle.edit_laws.specs.Kinds.{IsKept}
use Rattle.edit_laws.specs.Proper.{FitsDomain, IsProperBeside, IsProperItem}
use Rattle.edit_laws.specs.PutBack.{IsPutBack, IsTableOrDomain}
use Rattle.edit_laws.specs.Sound.{IsSound}
use Rattle.edit_laws.specs.Users.{LeavesUsers}
use Rattle.edit_laws.proofs.FormLaws.{number_in, path_in, sound_form}
use Rattle.edit_laws.proofs.PutBackLaws.{put_back_beside, put_back_item, put_back_name}
use Rattle.table_parts.specs.declared.parts.Part.{Part}
use Rattle.table_parts.specs.Parts.{columns_of}
use Rattle.table_parts.proofs.Differing.{AreOtherColumns}
use Rattle.table_names.specs.declared.named.NamedConstraint.{NamedConstraint}
use Rattle.table_names.specs.Named.{HaveOwnNames}
use Rattle.table_work.specs.declared.work.Work.{Work}
use Rattle.table_changes.proofs.Taking.{base_of}
use Rattle.table_constraints.specs.Formed.{AreTested}
use Rattle.table_constraints.specs.Made.{IsConstraintMade}
use Rattle.table_constraints.proofs.ConstraintLaws.{made_beside, made_by, made_by_name, made_free, made_name, made_proper}
use Rattle.table_creation.proofs.NewColumns.{definition_of, one_by_name}
use Rattle.table_additions.specs.Additions.{AddsParts, IsMadeNotNull, IsNowNotNull, added_columns, added_work, last_place}
use Rattle.table_additions.proofs.AddedItems.{Which, which}
use Rattle.table_additions.proofs.Places.{column_below_last, made_behind}

-- what the tests, the grammar and resolution give of what is added
pub record AreFormed (c : List Item) (who : Who) (table : Object) (all : List Part) (named : List NamedConstraint) (edit : Edit) : Type 0 where
  pub stands : ¬ (¬ (Has c (IsBaseTable table)))
  pub own : HaveOwnNames named
  pub constraints : AreTested c (added_work c who table all) named edit
  pub free : (x : Column) → Contains (added_columns c who table all) x → ¬ (Has c (IsColumn (path_of table) x.name))
  pub columns : AllPairs AreOtherColumns (columns_of all)
  pub types : (x : Column) → Contains (added_columns c who table all) x → IsType x.sort × AreResolved (default_pieces x.default)
  pub domains : (x : Column) → Contains (added_columns c who table all) x → FitsDomain c edit x x.domain

module _ (c : List Item) (who : Who) (table : Object) (all : List Part) (named : List NamedConstraint) (edit : Edit) (good : IsGood c) (formed : AreFormed c who table all named edit)
    (is : AddsParts c who table all named edit) where
  abbrev w : Work
  w = added_work c who table all

  abbrev made : List Column
  made = added_columns c who table all

  abbrev IsBack : Column → Type 0
  IsBack z = IsNowNotNull c table all z

  abbrev IsMade : Item → Type 0
  IsMade x = IsConstraintMade c who w named x

  abbrev IsOne : Item → Type 0
  IsOne x = Which c who table all named x

  no_change : (x : Item) → Contains edit.changed x → ⊥
  no_change x h = ((is.changed.members x).0 h).1

  taken_old : (x : Item) → IsTaken edit x → Contains c x × IsMadeNotNull table all x
  taken_old x (inl h) = (is.target.members x).0 h
  taken_old x (inr h) = absurd (no_change x h)

  old_is_column : (x : Item) → IsMadeNotNull table all x → ¬ (IsTableOrDomain x)
  old_is_column (item.Column x) h = λ z. z
  old_is_column x h = absurd h

  back : (z : Column) → IsBack z → IsPutBack c edit z
  back z h = record {
    old = h.0;
    stood = h.1;
    taken = inl ((is.target.members (item.Column h.0)).1 (h.1, h.2));
    table = ap (λ (x : Column). x.table) h.3;
    place = ap (λ (x : Column). x.place) h.3;
    name = ap (λ (x : Column). x.name) h.3;
    sort = ap (λ (x : Column). x.sort) h.3;
    domain = inr (ap (λ (x : Column). x.domain) h.3, λ y t. old_is_column y (taken_old y t).1);
    default = subst (λ (x : Column). AreResolved (default_pieces x.default)) (sym h.3) (good.shape.trees (item.Column h.0) h.1).1;
  }

  made_table : (z : Column) → Contains made z → z.table ≡ table
  made_table z h = (definition_of c who table all (last_place c table + 1) (columns_of all) z h).2.table_is

  -- ---- names

  not_both : (x y : Column) → Contains made x → IsBack y → x.name ≡ y.name → ⊥
  not_both x y h k e = formed.free x h (item.Column k.0, k.1, (ap path_of (sym k.2.0), sym (ap (λ (z : Column). z.name) k.3) ∙ sym e))

  one_back : (x y : Column) → IsBack x → IsBack y → x.name ≡ y.name → x ≡ y
  one_back x y h k e =
      let tables : h.0.table ≡ k.0.table = h.2.0 ∙ sym k.2.0 in
      let names : h.0.name ≡ k.0.name = sym (ap (λ (z : Column). z.name) h.3) ∙ e ∙ ap (λ (z : Column). z.name) k.3 in
      let called : name_of (item.Column h.0) ≡ name_of (item.Column k.0) = λ i. Some (columns (tables i), names i ∷ []) in
      let one : item.Column h.0 ≡ item.Column k.0 = good.shape.names (item.Column h.0) (item.Column k.0) (columns k.0.table, k.0.name ∷ []) h.1 k.1 called refl in
      let same : h.0 ≡ k.0 = cc in
      h.3 ∙ ap (λ (z : Column). record z { not_null = true }) same ∙ sym k.3

  one_named : (x y : Column) → Contains made x ⊎ IsBack x → Contains made y ⊎ IsBack y → x.name ≡ y.name → x ≡ y
  one_named x y (inl h) (inl k) e = one_by_name c who table all (last_place c table + 1) (columns_of all) formed.columns x y h k e
  one_named x y (inl h) (inr k) e = absurd (not_both x y h k e)
  one_named x y (inr h) (inl k) e = absurd (not_both y x k h (sym e))
  one_named x y (inr h) (inr k) e = one_back x y h k e

  one_of : (a b : List ℕ) → a ∷ [] ≡ b ∷ [] → a ≡ b
  one_of a b e = cc

  nameless : (x : Item) (name : NameSet × List (List ℕ)) → IsRight x → name_of x ≡ Some name → ⊥
  nameless (item.Held h) name right e = let odd : None ≡ Some name = e in cc
  nameless (item.Grantable h) name right e = let odd : None ≡ Some name = e in cc
  nameless x name right e = absurd right

  column_number : (x : Item) (z : Column) → x ≡ item.Column z → number_in (name_of x) ≡ 3
  column_number x z e = ap (λ y. number_in (name_of y)) e

  constraint_number : (x : Item) → IsMade x → number_in (name_of x) ≡ 4
  constraint_number x h = let of = made_by c who w named x h in ap number_in (made_name c who w of.0 x of.2)

  apart : (x y : Item) (z : Column) (name : NameSet × List (List ℕ)) → x ≡ item.Column z → IsMade y → name_of x ≡ Some name → name_of y ≡ Some name → ⊥
  apart x y z name e m nx ny =
      let n : number_in (name_of x) ≡ number_in (name_of y) = ap number_in (nx ∙ sym ny) in
      let i = column_number x z e in
      let j = constraint_number y m in
      omega (arith, n, i, j)

  one_called : (x y : Item) (name : NameSet × List (List ℕ)) → IsOne x → IsOne y → name_of x ≡ Some name → name_of y ≡ Some name → x ≡ y
  one_called x y name (inr (inl a)) b nx ny = absurd (nameless x name a nx)
  one_called x y name (inl a) (inr (inl b)) nx ny = absurd (nameless y name b ny)
  one_called x y name (inr (inr a)) (inr (inl b)) nx ny = absurd (nameless y name b ny)
  one_called x y name (inl a) (inl b) nx ny =
      let names : name_of (item.Column a.0) ≡ name_of (item.Column b.0) = ap name_of (sym a.1) ∙ nx ∙ sym ny ∙ ap name_of b.1 in
      a.1 ∙ ap item.Column (one_named a.0 b.0 a.2 b.2 (one_of a.0.name b.0.name (ap path_in names))) ∙ sym b.1
  one_called x y name (inr (inr a)) (inr (inr b)) nx ny = made_by_name c who w named formed.own x y name a b nx ny
  one_called x y name (inl a) (inr (inr b)) nx ny = absurd (apart x y a.0 name a.1 b nx ny)
  one_called x y name (inr (inr a)) (inl b) nx ny = absurd (apart y x b.0 name b.1 a ny nx)

  -- ---- the items

  own_column : (z : Column) → Contains made z ⊎ IsBack z → HasOwnName c edit (item.Column z)
  own_column z (inl h) = inl (λ s. formed.free z h (s.0, s.1, subst (λ (o : Object). IsColumn (path_of o) z.name s.0) (made_table z h) s.2))
  own_column z (inr h) = put_back_name c edit good z (back z h)

  own_right : (x : Item) → IsRight x → HasOwnName c edit x
  own_right (item.Held h) right = inl tt
  own_right (item.Grantable h) right = inl tt
  own_right x right = absurd right

  own : (x : Item) → IsOne x → HasOwnName c edit x
  own x (inl z) = subst (HasOwnName c edit) (sym z.1) (own_column z.0 z.2)
  own x (inr (inl h)) = own_right x h
  own x (inr (inr n)) = inl (made_free c who w named edit good formed.constraints x n)

  proper_column : (z : Column) → Contains made z ⊎ IsBack z → IsProperItem (item.Column z)
  proper_column z (inl h) = record { allowed = tt; derived = tt; lists = tt; trees = formed.types z h }
  proper_column z (inr h) = put_back_item c edit good z (back z h)

  proper_right : (x : Item) → IsRight x → IsProperItem x
  proper_right (item.Held h) right = record { allowed = tt; derived = tt; lists = tt; trees = tt }
  proper_right (item.Grantable h) right = record { allowed = tt; derived = tt; lists = tt; trees = tt }
  proper_right x right = absurd right

  proper : (x : Item) → IsOne x → IsProperItem x
  proper x (inl z) = subst IsProperItem (sym z.1) (proper_column z.0 z.2)
  proper x (inr (inl h)) = proper_right x h
  proper x (inr (inr n)) = made_proper c who w named edit good formed.constraints x n

  -- no column that stands has the place of a new one
  own_place : (z : Column) → Contains made z → (old : Column) → IsKept c edit (item.Column old) → old.table ≡ z.table → old.place ≡ z.place → ⊥
  own_place z h old k t p =
      let low = column_below_last c table old k.0 (t ∙ made_table z h) in
      let behind = made_behind c who table all (last_place c table + 1) (columns_of all) z h in
      omega (arith, low, behind, p)

  beside_column : (z : Column) → Contains made z ⊎ IsBack z → IsProperBeside c edit (item.Column z)
  beside_column z (inl h) = (formed.domains z h, own_place z h)
  beside_column z (inr h) = put_back_beside c edit good z (back z h)

  beside_right : (x : Item) → IsRight x → IsProperBeside c edit x
  beside_right (item.Held h) right = tt
  beside_right (item.Grantable h) right = tt
  beside_right x right = absurd right

  beside_it : (x : Item) → IsOne x → IsProperBeside c edit x
  beside_it x (inl z) = subst (IsProperBeside c edit) (sym z.1) (beside_column z.0 z.2)
  beside_it x (inr (inl h)) = beside_right x h
  beside_it x (inr (inr n)) = made_beside c who w named edit good formed.constraints x n

  gone : RightsLackParts c edit
  gone edited of x h = by x ((is.target.members x).0 h).1
    where
      by : (y : Item) → IsMadeNotNull table all y → SaysOf (LacksPart edited) y
      by (item.Column y) k = tt
      by y k = absurd k

  views : TakesWholeViews c edit
  views x t =
      let old = taken_old (item.Column x) t in
      inl (base_of c good x old.0 (subst (λ (o : Object). ¬ (¬ (Has c (IsBaseTable o)))) (sym old.1.0) formed.stands))

  added_is : (x : Item) → Contains edit.added x → IsOne x
  added_is x h = which c who table all named x ((is.added.members x).0 h)

  pub sound_addition : IsSound c edit
  sound_addition = sound_form c edit good (record {
    target_order = is.target.order;
    target = λ x h. ((is.target.members x).0 h).0;
    changed_order = is.changed.order;
    changed = λ x h. absurd (no_change x h);
    added_order = is.added.order;
    apart = λ x h. absurd (no_change x h);
    gone = gone;
    differ = λ x y n h k nx ny. one_called x y n (added_is x h) (added_is y k) nx ny;
    own_names = λ x h. own x (added_is x h);
    items = λ x h. proper x (added_is x h);
    beside = λ x h. beside_it x (added_is x h);
    views = views;
  })

-- no user is taken or added
pub addition_leaves_users : (c : List Item) (who : Who) (table : Object) (all : List Part) (named : List NamedConstraint) (edit : Edit) → AddsParts c who table all named edit → LeavesUsers edit
addition_leaves_users c who table all named edit is user =
    (λ h. ((is.target.members (item.User user)).0 h).1, λ h. ((is.changed.members (item.User user)).0 h).1, λ h. ((is.added.members (item.User user)).0 h).4)
