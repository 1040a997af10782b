-- What single items are.
use Rattle.std.specs.Prelude.{◌≡◌, ℕ, List}
use Rattle.cat_items.specs.declared.need.Auth.{Auth}
use Rattle.cat_items.specs.declared.need.Auth.TheVariants.{Named}
use Rattle.cat_items.specs.declared.item.Item.{Item}
use Rattle.cat_items.specs.declared.item.Item.TheVariants.{Column, RoleAdmin, Held, Grantable}
use Rattle.cat_items.specs.Reach.{Reaches}

-- a column of this name
abbrev pub IsColumnNamed : List ℕ → Item → Type 0
IsColumnNamed name (Column c) = c.name ≡ name
IsColumnNamed name x = ⊥

-- a right or an admin option whose grantee the authorization reaches
abbrev pub IsReached : List Item → Auth → Item → Type 0
IsReached s a (Held r) = Reaches s a r.grantee
IsReached s a (Grantable r) = Reaches s a r.grantee
IsReached s a (RoleAdmin g) = Reaches s a (Named g.grantee)
IsReached s a x = ⊥
