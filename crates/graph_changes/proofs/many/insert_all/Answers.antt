use Rattle.std.proofs.Common.{rules, ◌≡◌, ◌+◌, ◌∷◌, [], length, sym, ap, ◌∙◌, arith, subst}
use Rattle.std.specs.Vec.Iter.{into_iter_items, into_iter_len}
use Rattle.item_index.specs.Undo.{inserted_all}
use Rattle.graph_steps.specs.Steps.{AreNewKeys}
use Rattle.graph_changes.proofs.Turning.{empty, inserted_next, new_first, new_rest, one_less}
use Rattle.graph_changes.proofs.many.insert_all.Goals as goal

pub loop-key-init : goal.loop-key-init
loop-key-init g c =
    let all : into_iter_items c.into_iter-key-iterator.result ≡ c.args.keys.items = search rules in
    record {
      after = ap (inserted_all c.args.index.now) all;
      new = subst (AreNewKeys g.K.PartialEq.eq c.args.index.now) (sym all) c.requires.new;
      len = search rules;
      room = search rules;
    }

pub insert-requires : goal.insert-requires
insert-requires g c =
    let was = c.loop-key.invariant in
    let took : into_iter_items c.loop-key.key-iterator ≡ c.in-Some.key ∷ into_iter_items c.next.new.self = search rules in
    let fewer : into_iter_len c.next.new.self + 1 ≡ into_iter_len c.loop-key.key-iterator = search rules in
    let room = was.room in
    record { new = new_first g.K.PartialEq.eq c.loop-key.index _ _ _ took was.new; room = omega (arith, room, fewer) }

pub loop-key-preserved : goal.loop-key-preserved
loop-key-preserved g c =
    let was = c.loop-key.invariant in
    let took : into_iter_items c.loop-key.key-iterator ≡ c.in-Some.key ∷ into_iter_items c.next.new.self = search rules in
    let fewer : into_iter_len c.next.new.self + 1 ≡ into_iter_len c.loop-key.key-iterator = search rules in
    let room = was.room in
    let len = was.len in
    let size = ap length took in
    let less = one_less c.loop-key.index c.insert.new.self c.in-Some.key c.insert.ensures.graph in
    record {
      after = inserted_next c.loop-key.index c.insert.new.self _ _ _ took c.insert.ensures.graph ∙ was.after;
      new = new_rest g.K.PartialEq.eq c.loop-key.index c.insert.new.self _ _ _ took c.insert.ensures.graph was.new;
      len = omega (arith, len, size, fewer);
      room = omega (arith, room, fewer, less);
    }

pub returns : goal.returns
returns g c =
    let was = c.loop-key.invariant in
    let zero : into_iter_len c.loop-key.key-iterator ≡ 0 = search rules in
    let len = was.len in
    let none : into_iter_items c.loop-key.key-iterator ≡ [] = empty (into_iter_items c.loop-key.key-iterator) (len ∙ zero) in
    sym (ap (inserted_all c.loop-key.index) none) ∙ was.after
