-- Domains under their names.
use Rattle.std.proofs.Common.{◌↔◌, List, ap, sym}
use Rattle.sql_names.specs.declared.object.Object.{Object}
use Rattle.cat_items.specs.declared.item.Item.{Item}
use Rattle.cat_items.specs.declared.item.Item.TheVariants as item
use Rattle.cat_items.specs.Ranges.{IsDomainOf}
use Rattle.cat_items.specs.Reach.{Has}
use Rattle.cat_items.specs.Rights.{path_of, IsDomain}
use Rattle.role_graph.proofs.MeetingLemmas.{same_object}

lies : (o : Object) (y : Item) → IsDomainOf o y → IsDomain (path_of o) y
lies o (item.Domain d) e = ap path_of (sym e)
lies o y e = absurd e

named_so : (o : Object) (y : Item) → IsDomain (path_of o) y → IsDomainOf o y
named_so o (item.Domain d) e = same_object o d.domain e
named_so o y e = absurd e

pub domain_there : (c : List Item) (o : Object) → Has c (IsDomainOf o) ↔ Has c (IsDomain (path_of o))
domain_there c o = (λ h. (h.0, h.1, lies o h.0 h.2), λ h. (h.0, h.1, named_so o h.0 h.2))
