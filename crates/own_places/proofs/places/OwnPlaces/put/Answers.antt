use Rattle.std.proofs.Common.{◌≡◌, Option, Some, Vec, Global, sym, subst, refl}
use Rattle.std.proofs.lemmas.Result.{on_ok_weaker}
use Rattle.std.specs.BTreeMap.{get}
use Rattle.std.specs.List.{Contains}
use Rattle.std.specs.Prelude.{IsSome, OnOk}
use Rattle.sql_names.specs.NameBytes.{PathNames}
use Rattle.cat_items.specs.contracts.need.AuthOrd.TheImpl as order
use Rattle.own_places.specs.Places.{Keeps, listed}
use Rattle.own_places.specs.declared.places.OwnPlaces.{OwnPlaces}
use Rattle.own_places.proofs.Listed.{keeps_by, listed_now}
use Rattle.own_places.proofs.places.OwnPlaces.put.Goals as goal

pub returns-in-Some-clause-kept : goal.returns-in-Some-clause-kept
returns-in-Some-clause-kept c =
    let is : Some c.in-Some.paths.now ≡ get order.ghosts.cmp c.args.self.now.lists c.args.auth.now = c.in-Some.ensures.value in
    let writes = c.get_mut.follows.holds c.put_path.new.paths in
    on_ok_weaker c.put_path.result
    (λ kept. keeps_by c.args.self.now (record { lists = c.get_mut.follows.lender c.put_path.new.paths }) c.args.auth.now c.put_path.new.paths (writes.3 (subst (λ (l : Option (Vec PathNames Global)). IsSome l) is refl))
    (λ on h. kept on (subst (λ (l : Option (Vec PathNames Global)). Contains (listed l) on) (sym is) h)))
    c.put_path.ensures.kept

pub returns-in-Some-clause-put : goal.returns-in-Some-clause-put
returns-in-Some-clause-put c =
    let is : Some c.in-Some.paths.now ≡ get order.ghosts.cmp c.args.self.now.lists c.args.auth.now = c.in-Some.ensures.value in
    let writes = c.get_mut.follows.holds c.put_path.new.paths in
    let new : OwnPlaces = record { lists = c.get_mut.follows.lender c.put_path.new.paths } in
    on_ok_weaker c.put_path.result
    (λ put. subst (λ l. Contains l c.args.on.now) (sym (listed_now c.args.self.now new c.args.auth.now c.put_path.new.paths (writes.3 (subst (λ (l : Option (Vec PathNames Global)). IsSome l) is refl)))) put)
    c.put_path.ensures.put

pub returns-in-None-clause-kept : goal.returns-in-None-clause-kept
returns-in-None-clause-kept c = subst (λ old. OnOk c.begin.result (Keeps (record { lists = old }) c.begin.new.self)) c.get_mut.follows.holds-at-none c.begin.ensures.kept
