-- What items need by their own trees is never ADMIN.
use Rattle.std.proofs.Common.{List, []}
use Rattle.std.specs.List.{Contains}
use Rattle.finite_chains.proofs.Members.{Contains-nil}
use Rattle.cat_items.specs.declared.need.Need.{Need}
use Rattle.cat_items.specs.declared.item.Item.{Item}
use Rattle.cat_items.specs.declared.item.Item.TheVariants as item
use Rattle.cat_items.specs.Shape.{HasDerivedFields}
use Rattle.support_laws.proofs.Ordinary.{IsOrdinary, ordinary_of_query, ordinary_of_condition, ordinary_of_body}

abbrev pub tree_needs : Item → List Need
tree_needs (item.View v) = v.needs
tree_needs (item.DomainCheck d) = d.needs
tree_needs (item.Check k) = k.needs
tree_needs (item.Assertion z) = z.needs
tree_needs (item.Routine r) = r.needs
tree_needs x = []

pub tree_needs_ordinary : (x : Item) → HasDerivedFields x → (need : Need) → Contains (tree_needs x) need → IsOrdinary need
tree_needs_ordinary (item.View v) d need is = ordinary_of_query v.needs v.query d.0 need is
tree_needs_ordinary (item.DomainCheck k) d need is = ordinary_of_condition k.needs k.cond d need is
tree_needs_ordinary (item.Check k) d need is = ordinary_of_condition k.needs k.cond d.0 need is
tree_needs_ordinary (item.Assertion z) d need is = ordinary_of_condition z.needs z.cond d need is
tree_needs_ordinary (item.Routine r) d need is = ordinary_of_body r.needs r.routine r.body d need is
tree_needs_ordinary _ d need is = absurd (Contains-nil need is)
