-- Grant options of the system's rights to SELECT: what one tells of another, and what stays known.
use Rattle.std.proofs.Common.{◌≡◌, ◌≢◌, ◌↔◌, ℕ, ◌<◌, Bool, true, false, IsTrue, List, Option, Some, None, length, get_or, set, get_or-set_other, get_or-set_same, inl, inr, refl, sym, ap, subst, ◌∙◌}
use Rattle.std.specs.List.{Contains}
use Rattle.std.proofs.lemmas.Bool.{both_ways, cases_eq}
use Rattle.finite_chains.specs.Chains.{IsWithin}
use Rattle.sql_tree.specs.declared.rights.Action.{Action}
use Rattle.sql_tree.specs.declared.rights.Action.TheVariants.{Select, Usage, Execute, Admin}
use Rattle.cat_items.specs.declared.need.Auth.{Auth}
use Rattle.cat_items.specs.declared.need.Auth.TheVariants.{System, Public, Named}
use Rattle.cat_items.specs.declared.need.Need.{Need}
use Rattle.cat_items.specs.declared.item.Right.{Right}
use Rattle.cat_items.specs.declared.item.Item.{Item}
use Rattle.cat_items.specs.declared.item.Item.TheVariants as item
use Rattle.cat_items.specs.SystemRights.{IsSystemRow, IsSystemSchema, IsTableRow, IsViewRow, SystemGrants}
use Rattle.cat_items.specs.Supported.{IsGrantee, MayGrant, Supported}
use Rattle.support_laws.proofs.Monotone.{supported_more}
use Rattle.role_graph.specs.Marked.{marked}
use Rattle.role_graph.proofs.MarkedLemmas.{Contains-marked, place_of_marked}
use Rattle.part_rounds.specs.declared.options.Found.{Found}
use Rattle.part_rounds.specs.Options.{AreAlike, IsAnswer, IsFound, IsGranted, IsHeldThere, IsToSelect, Knows}

-- ---- what an option rests on

by_system : (s : List Item) (r : Right) (grantor : Auth) → grantor ≡ System → MayGrant true s r grantor ↔ SystemGrants true s r
by_system s r System e = (λ h. h, λ h. h)
by_system s r Public e = absurd (let odd : Public ≡ System = e in cc)
by_system s r (Named name) e = absurd (let odd : Named name ≡ System = e in cc)

no_admin : (action : Action) → action ≡ Select → action ≢ Admin
no_admin action is e = let odd : Select ≡ Admin = sym is ∙ e in cc

pub option_parts : (c s : List Item) (r : Right) → IsToSelect r → Supported c s (item.Grantable r) ↔ (IsHeldThere s r × IsGranted s r)
option_parts c s r is = (
  λ h. ((h.0.1, h.1), (h.0.2, (by_system s r r.grantor is.0).0 h.0.3)),
  λ h. ((no_admin r.need.action is.1, h.0.0, h.1.0, (by_system s r r.grantor is.0).1 h.1.1), h.0.1),
)

-- ---- what one tells of another

alike_back : (r q : Right) → AreAlike r q → AreAlike q r
alike_back r q alike = (alike.0, alike.2, alike.1, sym alike.3)

module _ (s : List Item) (r q : Right) (r_is : IsToSelect r) (q_is : IsToSelect q) (alike : AreAlike r q) where
  row_alike : (schema : List ℕ) (owner : Auth) (y : Item) → IsSystemRow true s schema owner r.need y → IsSystemRow true s schema owner q.need y
  row_alike schema owner (item.Table t) h = (h.0, sym alike.3 ∙ h.1, subst (λ action. IsTableRow action q.need.column) (sym q_is.1) tt)
  row_alike schema owner (item.View v) h = (
    h.0,
    sym alike.3 ∙ h.1,
    subst (λ action. IsViewRow true s owner v action q.need.column) (sym q_is.1) (subst (λ action. IsViewRow true s owner v action r.need.column) r_is.1 h.2),
  )
  row_alike schema owner (item.Domain d) h = absurd (let odd : Select ≡ Usage = sym r_is.1 ∙ ap (λ (n : Need). n.action) h.1 in cc)
  row_alike schema owner (item.Routine x) h = absurd (let odd : Select ≡ Execute = sym r_is.1 ∙ ap (λ (n : Need). n.action) h.1 in cc)
  row_alike schema owner y h = absurd h

  schema_alike : (y : Item) → IsSystemSchema true s r y → IsSystemSchema true s q y
  schema_alike (item.Schema x) h = (alike.2 ∙ sym alike.1 ∙ h.0, (h.1.0, h.1.1, row_alike x.name (Named x.owner) h.1.0 h.1.2))
  schema_alike y h = absurd h

  granted_alike : IsGranted s r → IsGranted s q
  granted_alike h = (subst (IsGrantee s) (alike.1 ∙ sym alike.2) h.0, (h.1.0, h.1.1, schema_alike h.1.0 h.1.2))

pub recalled_tells : (c s : List Item) (r q : Right) (granted : Bool) → IsToSelect r → IsToSelect q → AreAlike r q → IsAnswer c s r granted → IsHeldThere s q → IsTrue granted ↔ Supported c s (item.Grantable q)
recalled_tells c s r q true r_is q_is alike answer held = (
  λ _. (option_parts c s q q_is).1 (held, granted_alike s r q r_is q_is alike ((option_parts c s r r_is).0 answer).1),
  λ _. refl,
)
recalled_tells c s r q false r_is q_is alike answer held = (
  λ e. absurd (both_ways false refl e),
  λ h. absurd (answer (granted_alike s q r q_is r_is (alike_back r q alike) ((option_parts c s q q_is).0 h).1)),
)

-- what is found of an option that is held
pub is_answer : (c s : List Item) (r : Right) (granted : Bool) → IsToSelect r → IsHeldThere s r → IsTrue granted ↔ Supported c s (item.Grantable r) → IsAnswer c s r granted
is_answer c s r true is held same = same.0 refl
is_answer c s r false is held same = λ h. both_ways false refl (same.1 ((option_parts c s r is).1 (held, h)))

pub not_held : (c s : List Item) (r : Right) → IsToSelect r → ¬ (IsHeldThere s r) → ¬ (Supported c s (item.Grantable r))
not_held c s r is none h = none ((option_parts c s r is).0 h).0

-- ---- what stays known

pub answer_more : (c s t : List Item) (r : Right) (granted : Bool) → granted ≡ true → IsWithin s t → IsAnswer c s r granted → IsAnswer c t r granted
answer_more c s t r true e within answer = supported_more s t within c (item.Grantable r) answer
answer_more c s t r false e within answer = absurd (both_ways false refl e)

-- what is marked stays marked
pub marked_more : {X : Type 0} (xs : List X) (m : List Bool) (at : ℕ) → at < length m → IsWithin (marked xs m) (marked xs (set m at true))
marked_more xs m at low y h =
    let p = place_of_marked xs m y h in
    let mark : get_or (set m at true) p.0 false ≡ true =
    elim (cases_eq p.0 at) [
      | inl e ↦ subst (λ k. get_or (set m at true) k false ≡ true) (sym e) (get_or-set_same m at true false low)
      | inr ne ↦ get_or-set_other m at p.0 true false ne ∙ p.1.mark
    ] in
    subst (λ z. Contains (marked xs (set m at true)) z) p.1.is (Contains-marked xs (set m at true) p.0 y p.1.low mark)

-- ---- of what was found last

pub found_tells : (c s : List Item) (found : Option Found) (q : Right) (granted : Bool) (x : Item) → x ≡ item.Grantable q → IsToSelect q → Knows c s found → IsFound found q granted → IsHeldThere s q → IsTrue granted ↔ Supported c s x
found_tells c s None q granted x e is knows of held = absurd of
found_tells c s (Some f) q granted x e is knows of held =
    subst (λ y. IsTrue granted ↔ Supported c s y) (sym e)
    (subst (λ b. IsTrue b ↔ Supported c s (item.Grantable q)) of.1 (recalled_tells c s f.right.now q f.granted knows.0 is of.0 knows.1 held))

pub knows_more : (c s t : List Item) (found : Option Found) (f : Found) → found ≡ Some f → f.granted ≡ true → IsWithin s t → Knows c s found → Knows c t (Some f)
knows_more c s t found f e granted within knows =
    let known : Knows c s (Some f) = subst (Knows c s) e knows in
    (known.0, answer_more c s t f.right.now f.granted granted within known.1)
