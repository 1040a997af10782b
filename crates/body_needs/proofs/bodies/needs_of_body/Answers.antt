use Rattle.std.proofs.Common.{◌≡◌, ◌≢◌, ◌↔◌, List, sym, subst}
use Rattle.std.specs.List.{Contains}
use Rattle.sql_tree.specs.declared.body.Body.{Body}
use Rattle.sql_tree.specs.declared.rights.Action.TheVariants.{Execute}
use Rattle.sql_names.specs.declared.object.Object.{Object}
use Rattle.cat_items.specs.declared.need.Need.{Need}
use Rattle.cat_items.specs.Needs.{AreNeeds, NeededByBody, body_needs, object_need}
use Rattle.body_needs.proofs.Gained.{needs_as}
use Rattle.body_needs.proofs.bodies.needs_of_body.Goals as goal

-- of all needs those that aren't EXECUTE on the routine itself
of_others : (itself : Object) (body : Body) (all shown others needs : List Need) (own : Need) → ((x : Need) → Contains all x ↔ Contains (body_needs body) x) → shown ≡ all → own ≡ object_need Execute itself
    → ((x : Need) → Contains others x ↔ (Contains shown x × (x ≢ own))) → AreNeeds needs (Contains others) → AreNeeds needs (NeededByBody itself body)
of_others itself body all shown others needs own every same is left are = needs_as (Contains others) (NeededByBody itself body) needs other are
  where
    other : (x : Need) → Contains others x ↔ NeededByBody itself body x
    other x = (
      λ h. let was = (left x).0 h in ((every x).0 (subst (λ l. Contains l x) same was.0), subst (λ n. x ≢ n) is was.1),
      λ h. (left x).1 (subst (λ l. Contains l x) (sym same) ((every x).1 h.0), subst (λ n. x ≢ n) (sym is) h.1),
    )

pub returns : goal.returns
returns c = of_others c.args.itself.now c.args.body.now _ _ _ _ _ c.in_ok-all.ensures c.as_slice.ensures c.in_ok-own.ensures c.in_ok-others.ensures c.each_once.ensures
