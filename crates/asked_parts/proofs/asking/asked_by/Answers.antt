use Rattle.std.proofs.Common.{◌≡◌, ◌↔◌, ◌≤◌, inr, ℕ, List, [], length, arith}
use Rattle.std.specs.List.{Contains}
use Rattle.std.proofs.lemmas.Result.{IfOk-weaker}
use Rattle.cat_items.specs.declared.item.Item.{Item}
use Rattle.cascade_laws.specs.Topics.{Topic}
use Rattle.topic_keys.specs.Lists.{Gets, IsKeyWhere}
use Rattle.topic_keys.proofs.Adding.{IsOfFirst, IsOfSome, each_begin, each_end, each_more}
use Rattle.topic_keys.proofs.OrderLaws.{keys_known}
use Rattle.topic_lists.specs.Sought.{IsAskedFor}
use Rattle.topic_lists.proofs.Runs.{gets_from_none}
use Rattle.asked_parts.specs.Parts.{IsAskedBy}
use Rattle.asked_parts.proofs.asking.asked_by.Goals as goal

-- a key of a topic that one of the suspects asks for
abbrev IsAskedBySome : List Item → List Item → Topic → Type 0
IsAskedBySome part suspects t = (x : Item) × Contains suspects x × IsAskedFor part x t

all_asked : (part suspects none all : List Item) (i : ℕ) → length suspects ≤ i → none ≡ [] → Gets (IsOfFirst (λ x. IsKeyWhere (IsAskedFor part x)) suspects i) none all → (k : Item) → Contains all k ↔ IsAskedBy part suspects k
all_asked part suspects none all i high empty put =
    let R = λ (x : Item). IsKeyWhere (IsAskedFor part x) in
    gets_from_none (IsOfSome R suspects) (IsAskedBy part suspects) none all empty (λ k. (λ h. h, λ h. h)) (each_end R suspects none all i high put)

pub loop-x-init : goal.loop-x-init
loop-x-init c = record { put = each_begin (λ (x : Item). IsKeyWhere (IsAskedFor c.args.part.now.items x)) c.args.suspects.now c.new-all.result.items; asked = tt }

pub loop-x-preserved : goal.loop-x-preserved
loop-x-preserved c = record {
  put = each_more (λ (x : Item). IsKeyWhere (IsAskedFor c.args.part.now.items x)) c.args.suspects.now c.new-all.result.items c.loop-x.all.items c.put_asked.new.keys.items c.loop-x.x-index c.x-item.result c.loop-x-test.true c.x-item.is c.loop-x.invariant.put
      c.in_ok-put_asked.ensures;
  asked = λ k is. (c.in_ok-put_asked.ensures k).1 (inr is);
}

pub put_asked-requires-clause-asked : goal.put_asked-requires-clause-asked
put_asked-requires-clause-asked c = c.loop-x.invariant.asked

pub ordered-requires : goal.ordered-requires
ordered-requires c =
    let part = c.args.part.now.items in
    let suspects = c.args.suspects.now in
    let are = all_asked part suspects c.new-all.result.items c.loop-x.all.items c.loop-x.x-index (omega (arith, c.loop-x-test.false)) c.new-all.ensures.items c.loop-x.invariant.put in
    keys_known (IsAskedBySome part suspects) c.loop-x.all.items (λ k h. let by = (are k).0 h in (by.2.0, (by.0, by.1, by.2.1), by.2.2))

pub returns : goal.returns
returns c =
    let part = c.args.part.now.items in
    let suspects = c.args.suspects.now in
    let are = all_asked part suspects c.new-all.result.items c.loop-x.all.items c.loop-x.x-index (omega (arith, c.loop-x-test.false)) c.new-all.ensures.items c.loop-x.invariant.put in
    IfOk-weaker c.ordered.result (λ keys. (k : Item) → Contains keys.items k ↔ Contains c.loop-x.all.items k) (λ keys. (k : Item) → Contains keys.items k ↔ IsAskedBy part suspects k)
    (λ keys h k. (λ there. (are k).0 ((h k).0 there), λ asked. (h k).1 ((are k).1 asked))) c.ordered.ensures
