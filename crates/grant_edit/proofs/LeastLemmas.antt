-- The least of some privileges.
use Rattle.std.proofs.Common.{◌≢◌, inl, inr, List, [], ◌∷◌, ◌++◌, Option, Some, None, take, subst, refl}
use Rattle.std.specs.declared.cmp.Ordering.TheVariants.{Greater}
use Rattle.finite_chains.proofs.Members.{Contains-nil}
use Rattle.cat_items.specs.declared.need.Need.{Need}
use Rattle.cat_items.specs.Order.{need_cmp}
use Rattle.edit_rules.specs.Privileges.{IsBehind}
use Rattle.edit_rules.proofs.PrivilegeLemmas.{before_all, greater_if_not, itself}
use Rattle.grant_edit.specs.Named.{IsLeastOf}
use Rattle.grant_edit.proofs.Lists.{contains_push}

-- no need has been looked at
pub none_yet : (needs : List Need) → IsLeastOf (take 0 needs) None
none_yet needs need h = Contains-nil need h

-- one need more that is behind the least
pub stays : (front : List Need) (least : Option Need) (x : Need) → IsLeastOf front least → IsBehind least x → IsLeastOf (front ++ x ∷ []) least
stays front None x old behind = absurd behind
stays front (Some l) x old behind = record {
  is = (contains_push front x l).1 (inl old.is);
  least = λ other h. elim ((contains_push front x other).0 h) [
    | inl before ↦ old.least other before
    | inr e ↦ subst (λ y. need_cmp l y ≢ Greater) e behind
  ];
}

-- one that isn't is the least
pub takes : (front : List Need) (least : Option Need) (x : Need) → IsLeastOf front least → (IsBehind least x → ⊥) → IsLeastOf (front ++ x ∷ []) (Some x)
takes front None x old apart = record {
  is = (contains_push front x x).1 (inr refl);
  least = λ other h. elim ((contains_push front x other).0 h) [
    | inl before ↦ absurd (old other before)
    | inr e ↦ subst (λ y. need_cmp x y ≢ Greater) e (itself x)
  ];
}
takes front (Some l) x old apart = record {
  is = (contains_push front x x).1 (inr refl);
  least = λ other h. elim ((contains_push front x other).0 h) [
    | inl before ↦ before_all x l other (greater_if_not (need_cmp l x) apart) (old.least other before)
    | inr e ↦ subst (λ y. need_cmp x y ≢ Greater) e (itself x)
  ];
}
