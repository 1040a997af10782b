use Rattle.std.proofs.Common.{rules, ◌≡◌, ◌+◌, ◌∷◌, ◌++◌, [], length, sym, ap, ◌∙◌, arith, subst}
use Rattle.std.specs.Vec.Iter.{into_iter_items, into_iter_len}
use Rattle.item_index.specs.Undo.{inserted_all, numbers_given}
use Rattle.graph_steps.specs.Steps.{AreNewKeys}
use Rattle.graph_changes.proofs.Turning.{empty, inserted_next, new_first, new_rest, one_less}
use Rattle.graph_changes.proofs.Noting.{all_given, given_next}
use Rattle.graph_changes.proofs.ends.insert_noting.Goals as goal

pub loop-key-init : goal.loop-key-init
loop-key-init g c =
    let all : into_iter_items c.into_iter-key-iterator.result ≡ c.args.keys.items = search rules in
    let count : into_iter_len c.into_iter-key-iterator.result ≡ length c.args.keys.items = search rules in
    let noted = c.requires.noted in
    record {
      after = ap (inserted_all c.args.index.now) all;
      given = ap (λ ks. c.args.numbers.now.items ++ numbers_given c.args.index.now ks) all;
      new = subst (AreNewKeys g.K.PartialEq.eq c.args.index.now) (sym all) c.requires.new;
      len = search rules;
      room = search rules;
      noted = omega (arith, count, noted);
    }

pub insert-number-requires : goal.insert-number-requires
insert-number-requires g c =
    let was = c.loop-key.invariant in
    let took : into_iter_items c.loop-key.key-iterator ≡ c.in-Some.key ∷ into_iter_items c.next.new.self = search rules in
    let fewer : into_iter_len c.next.new.self + 1 ≡ into_iter_len c.loop-key.key-iterator = search rules in
    let room = was.room in
    record { new = new_first g.K.PartialEq.eq c.loop-key.index _ _ _ took was.new; room = omega (arith, room, fewer) }

pub push_reserved-requires : goal.push_reserved-requires
push_reserved-requires g c =
    let was = c.loop-key.invariant in
    let fewer : into_iter_len c.next.new.self + 1 ≡ into_iter_len c.loop-key.key-iterator = search rules in
    let noted = was.noted in
    omega (arith, noted, fewer)

pub loop-key-preserved : goal.loop-key-preserved
loop-key-preserved g c =
    let was = c.loop-key.invariant in
    let took : into_iter_items c.loop-key.key-iterator ≡ c.in-Some.key ∷ into_iter_items c.next.new.self = search rules in
    let fewer : into_iter_len c.next.new.self + 1 ≡ into_iter_len c.loop-key.key-iterator = search rules in
    let room = was.room in
    let len = was.len in
    let noted = was.noted in
    let size = ap length took in
    let less = one_less c.loop-key.index c.insert-number.new.self c.in-Some.key c.insert-number.ensures.graph in
    let longer = c.push_reserved.ensures.len in
    let same_room = c.push_reserved.ensures.capacity in
    record {
      after = inserted_next c.loop-key.index c.insert-number.new.self _ _ _ took c.insert-number.ensures.graph ∙ was.after;
      given = given_next c.loop-key.index c.insert-number.new.self _ _ c.in-Some.key c.loop-key.numbers.items c.push_reserved.new.self.items c.insert-number.result took c.insert-number.ensures.graph
          c.insert-number.ensures.number c.push_reserved.ensures.items ∙ was.given;
      new = new_rest g.K.PartialEq.eq c.loop-key.index c.insert-number.new.self _ _ _ took c.insert-number.ensures.graph was.new;
      len = omega (arith, len, size, fewer);
      room = omega (arith, room, fewer, less);
      noted = omega (arith, noted, fewer, longer, same_room);
    }

pub returns : goal.returns
returns g c =
    let was = c.loop-key.invariant in
    let zero : into_iter_len c.loop-key.key-iterator ≡ 0 = search rules in
    let len = was.len in
    let none : into_iter_items c.loop-key.key-iterator ≡ [] = empty (into_iter_items c.loop-key.key-iterator) (len ∙ zero) in
    record {
      index = sym (ap (inserted_all c.loop-key.index) none) ∙ was.after;
      numbers = all_given c.loop-key.index c.loop-key.numbers.items (into_iter_items c.loop-key.key-iterator) none ∙ was.given;
    }
