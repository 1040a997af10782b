-- What the test of helpers tells.
use Rattle.std.proofs.Common.{◌≡◌, true, false, refl, sym, true≢false}
use Rattle.std.specs.Prelude.{Decides}
use Rattle.cat_items.specs.declared.need.Auth.{Auth}
use Rattle.cat_items.specs.declared.need.Auth.TheVariants.{System, Public, Named}
use Rattle.cat_items.specs.declared.item.Item.{Item}
use Rattle.cat_items.specs.declared.item.Item.TheVariants as item
use Rattle.board_graph.specs.BoardKeys.{IsHelper, IsPlace}
use Rattle.key_tests.specs.Tests.{is_helper, is_place, is_public}

never : {P : Type 0} → (P → ⊥) → Decides false P
never none = (λ e. absurd (true≢false (sym e)), λ p. absurd (none p))

always : {P : Type 0} → P → Decides true P
always p = (λ e. p, λ q. refl)

place_is : (a b : Auth) → Decides (is_place a b) (IsPlace a b)
place_is Public b = always tt
place_is System System = always tt
place_is (Named name) System = always tt
place_is System Public = never (λ p. p)
place_is System (Named name) = never (λ p. p)
place_is (Named name) Public = never (λ p. p)
place_is (Named name) (Named other) = never (λ p. p)

public_is : (a : Auth) → Decides (is_public a) (a ≡ Public)
public_is Public = always refl
public_is System = never (λ e. cc)
public_is (Named name) = never (λ e. cc)

pub helper_is : (x : Item) → Decides (is_helper x) (IsHelper x)
helper_is (item.RoleAuth g) = public_is g.grantor
helper_is (item.RoleAdmin g) = public_is g.grantor
helper_is (item.Held r) = place_is r.grantor r.grantee
helper_is (item.Grantable r) = place_is r.grantor r.grantee
helper_is _ = never (λ p. p)
