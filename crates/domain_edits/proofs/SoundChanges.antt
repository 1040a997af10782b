-- ALTER DOMAIN leaves a good catalogue good.
use Rattle.std.proofs.Common.{◌≡◌, ℕ, List, Option, Some, refl, ap, sym, subst, ◌∙◌, inl, inr}
use Rattle.std.specs.List.{Contains}
use Rattle.sql_names.specs.declared.object.Object.{Object}
use Rattle.sql_names.specs.declared.sort.Default.{Default}
use Rattle.sql_names.specs.declared.sort.SqlType.{SqlType}
use Rattle.cat_items.specs.declared.edit.Edit.{Edit}
use Rattle.cat_items.specs.declared.edit.Who.{Who}
use Rattle.cat_items.specs.declared.item.Domain.{Domain}
use Rattle.cat_items.specs.declared.item.Item.{Item}
use Rattle.cat_items.specs.declared.item.Item.TheVariants as item
use Rattle.cat_items.specs.Fit.{LacksPart}
use Rattle.cat_items.specs.Good.{IsGood}
use Rattle.cat_items.specs.Pieces.{AreResolved, default_pieces}
use Rattle.cat_items.specs.Shape.{NameSet, name_of}
use Rattle.edit_laws.specs.Forms.{HasFreeName, HasOwnName, IsTaken, RightsLackParts, SaysOf, TakesWholeViews}
use Rattle.edit_laws.specs.Proper.{IsProperItem, IsProperBeside}
use Rattle.edit_laws.specs.Sound.{IsSound}
use Rattle.edit_laws.proofs.FormLaws.{sound_form}
use Rattle.statement_steps.specs.Steps.{MakesEdit, Nothing}
use Rattle.statement_steps.proofs.Additions.{sound_addition}
use Rattle.table_names.specs.declared.named.NamedConstraint.{NamedConstraint}
use Rattle.domain_edits.specs.AlteredDomains.{IsAddedCheck, IsCheckNamed, PutsBack, with_default}
use Rattle.domain_edits.proofs.SoundDomains.{AreFormedChecks, free_check, proper_check, same_name}
use Rattle.domain_edits.proofs.Standing.{one_domain}

-- ---- SET DEFAULT and DROP DEFAULT

module _ (c : List Item) (d : Domain) (default : Option Default) (edit : Edit) (good : IsGood c) (there : Contains c (item.Domain d)) (formed : AreResolved (default_pieces default)) (is : PutsBack c default d edit) where
  abbrev new : Item
  new = item.Domain (with_default d default)

  no_change : (x : Item) → Contains edit.changed x → ⊥
  no_change x h = ((is.changed.members x).0 h).1

  added_is : (x : Item) → Contains edit.added x → x ≡ new
  added_is x h = (is.added.members x).0 h

  taken_is : (x : Item) → IsTaken edit x → x ≡ item.Domain d
  taken_is x (inl h) = ((is.target.members x).0 h).1
  taken_is x (inr h) = absurd (no_change x h)

  own_name : HasOwnName c edit new
  own_name = inr (item.Domain d, there, inl ((is.target.members (item.Domain d)).1 (there, refl)), refl)

  proper : IsProperItem new
  proper = record { allowed = tt; derived = tt; lists = tt; trees = ((good.shape.trees (item.Domain d) there).0, formed) }

  beside : IsProperBeside c edit new
  beside = λ old h e. ap (λ (z : Domain). z.sort) (one_domain c good old d h there e)

  gone : RightsLackParts c edit
  gone edited of x h = subst (SaysOf (LacksPart edited)) (sym (taken_is x (inl h))) tt

  views : TakesWholeViews c edit
  views x t = absurd (let odd : item.Column x ≡ item.Domain d = taken_is (item.Column x) t in cc)

  pub sound_default : IsSound c edit
  sound_default = sound_form c edit good (record {
    target_order = is.target.order;
    target = λ x h. ((is.target.members x).0 h).0;
    changed_order = is.changed.order;
    changed = λ x h. absurd (no_change x h);
    added_order = is.added.order;
    apart = λ x h. absurd (no_change x h);
    gone = gone;
    differ = λ x y n h k nx ny. added_is x h ∙ sym (added_is y k);
    own_names = λ x h. subst (HasOwnName c edit) (sym (added_is x h)) own_name;
    items = λ x h. subst IsProperItem (sym (added_is x h)) proper;
    beside = λ x h. subst (IsProperBeside c edit) (sym (added_is x h)) beside;
    views = views;
  })

-- ---- ADD of a check

module _ (c : List Item) (who : Who) (sort : SqlType) (domain : Object) (named : List NamedConstraint) (edit : Edit) (good : IsGood c) (formed : AreFormedChecks c domain named)
    (is : MakesEdit c Nothing Nothing (IsAddedCheck c who sort domain named) edit) where
  abbrev Added : Item → Type 0
  Added = IsAddedCheck c who sort domain named

  one : (x y : Item) (n : NameSet × List (List ℕ)) → Added x → Added y → name_of x ≡ Some n → name_of y ≡ Some n → x ≡ y
  one (item.DomainCheck x) (item.DomainCheck y) n p q nx ny = ap item.DomainCheck (same_name c who sort domain named good formed x y n p q nx ny)
  one x (item.DomainCheck y) n p q nx ny = absurd p
  one x y n p q nx ny = absurd q

  free : (x : Item) → Added x → HasFreeName c x
  free (item.DomainCheck x) p = free_check c who sort domain named good formed x p
  free x p = absurd p

  proper_added : (x : Item) → Added x → IsProperItem x
  proper_added (item.DomainCheck x) p = proper_check c who sort domain named good formed x p
  proper_added x p = absurd p

  beside_added : (x : Item) → Added x → IsProperBeside c edit x
  beside_added (item.DomainCheck x) p = tt
  beside_added x p = absurd p

  pub sound_adding : IsSound c edit
  sound_adding = sound_addition c Added edit is good one free proper_added beside_added

-- ---- DROP CONSTRAINT

module _ (c : List Item) (domain name : Object) (edit : Edit) (good : IsGood c) (is : MakesEdit c (IsCheckNamed domain name) Nothing Nothing edit) where
  unchanged : (x : Item) → Contains edit.changed x → ⊥
  unchanged x h = ((is.changed.members x).0 h).1

  none_added : (x : Item) → Contains edit.added x → ⊥
  none_added x h = (is.added.members x).0 h

  gone_is : (x : Item) → IsTaken edit x → IsCheckNamed domain name x
  gone_is x (inl h) = ((is.target.members x).0 h).1
  gone_is x (inr h) = absurd (unchanged x h)

  says_nothing : (edited : List Item) (x : Item) → IsCheckNamed domain name x → SaysOf (LacksPart edited) x
  says_nothing edited (item.DomainCheck k) on = tt
  says_nothing edited x on = absurd on

  pub sound_dropping : IsSound c edit
  sound_dropping = sound_form c edit good (record {
    target_order = is.target.order;
    target = λ x h. ((is.target.members x).0 h).0;
    changed_order = is.changed.order;
    changed = λ x h. absurd (unchanged x h);
    added_order = is.added.order;
    apart = λ x h. absurd (unchanged x h);
    gone = λ edited of x h. says_nothing edited x (gone_is x (inl h));
    differ = λ x y n h k nx ny. absurd (none_added x h);
    own_names = λ x h. absurd (none_added x h);
    items = λ x h. absurd (none_added x h);
    beside = λ x h. absurd (none_added x h);
    views = λ x t. absurd (gone_is (item.Column x) t);
  })
