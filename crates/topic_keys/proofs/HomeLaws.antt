-- Kind by kind, an item stands under exactly these topics that have keys of their own.
use Rattle.std.proofs.Common.{◌≡◌, ◌↔◌, inl, inr, refl, sym, ap, subst}
use Rattle.cat_items.specs.declared.item.Item.{Item}
use Rattle.cat_items.specs.declared.item.Item.TheVariants as item
use Rattle.cat_items.specs.Rights.{path_of}
use Rattle.cascade_laws.specs.Topics.{Topic, IsUnder, authorization, role_named, schema, table, base_table, columns, column, domain, routine, key, supply, edges, admins, held, role_auth}
use Rattle.board_graph.specs.Boards.{IsOwnTopic}
use Rattle.topic_keys.specs.Homes.{IsHome, IsHomeOf}

at : (x : Item) (t s : Topic) → IsHome x s → t ≡ s → IsHome x t
at x t s h e = subst (IsHome x) (sym e) h

to_home : (x : Item) (t : Topic) → IsHomeOf x t → IsHome x t
to_home (item.User name) t e = at (item.User name) t (authorization name) (refl, tt) e
to_home (item.Role name) t (inl e) = at (item.Role name) t (authorization name) (refl, tt) e
to_home (item.Role name) t (inr e) = at (item.Role name) t (role_named name) (refl, tt) e
to_home (item.Schema x) t e = at (item.Schema x) t (schema x.name) (refl, tt) e
to_home (item.Table o) t (inl e) = at (item.Table o) t (table (path_of o)) (refl, tt) e
to_home (item.Table o) t (inr e) = at (item.Table o) t (base_table o) (refl, tt) e
to_home (item.View v) t e = at (item.View v) t (table (path_of v.view)) (refl, tt) e
to_home (item.Column c) t (inl e) = at (item.Column c) t (columns c.table) (refl, tt) e
to_home (item.Column c) t (inr e) = at (item.Column c) t (column (path_of c.table) c.name) ((refl, refl), tt) e
to_home (item.Domain d) t e = at (item.Domain d) t (domain (path_of d.domain)) (refl, tt) e
to_home (item.Key k) t e = at (item.Key k) t (key k.name) (refl, tt) e
to_home (item.Routine r) t e = at (item.Routine r) t (routine (path_of r.routine)) (refl, tt) e
to_home (item.RoleAuth g) t e = at (item.RoleAuth g) t (edges g.grantee) (refl, tt) e
to_home (item.RoleAdmin g) t e = at (item.RoleAdmin g) t (admins g.role g.grantee) ((refl, refl), tt) e
to_home (item.Held r) t e = at (item.Held r) t (supply r.need r.grantee) ((refl, refl), tt) e
to_home (item.Grantable r) t e = at (item.Grantable r) t (supply r.need r.grantee) ((refl, refl), tt) e
to_home x t e = absurd e

from_home : (t : Topic) (x : Item) → IsUnder t x → IsOwnTopic t → IsHomeOf x t
from_home (authorization name) (item.User n) e own = ap authorization (sym e)
from_home (authorization name) (item.Role n) e own = inl (ap authorization (sym e))
from_home (role_named name) (item.Role n) e own = inr (ap role_named (sym e))
from_home (schema name) (item.Schema x) e own = ap schema (sym e)
from_home (table path) (item.Table o) e own = inl (ap table e)
from_home (table path) (item.View v) e own = ap table e
from_home (base_table o) (item.Table p) e own = inr (ap base_table (sym e))
from_home (columns o) (item.Column c) e own = inl (ap columns (sym e))
from_home (column path name) (item.Column c) e own = inr (λ i. column (e.0 i) (sym e.1 i))
from_home (domain path) (item.Domain d) e own = ap domain e
from_home (routine path) (item.Routine r) e own = ap routine e
from_home (key o) (item.Key k) e own = ap key (sym e)
from_home (supply need g) (item.Held r) e own = λ i. supply (sym e.0 i) (sym e.1 i)
from_home (supply need g) (item.Grantable r) e own = λ i. supply (sym e.0 i) (sym e.1 i)
from_home (edges name) (item.RoleAuth g) e own = ap edges (sym e)
from_home (admins role name) (item.RoleAdmin g) e own = λ i. admins (sym e.0 i) (sym e.1 i)
from_home (held r) x e own = absurd own
from_home (role_auth g) x e own = absurd own
from_home t x e own = absurd e

pub homes_are : (x : Item) (t : Topic) → IsHomeOf x t ↔ IsHome x t
homes_are x t = (to_home x t, λ h. from_home t x h.0 h.1)
