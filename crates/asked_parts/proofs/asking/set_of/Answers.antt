use Rattle.std.proofs.Common.{rules, ◌≡◌, ◌+◌, ◌∷◌, length, ap, ◌∙◌, arith}
use Rattle.std.specs.Vec.Iter.{into_iter_items, into_iter_len}
use Rattle.asked_parts.proofs.SetLaws.{set_begun, set_made, set_next}
use Rattle.asked_parts.proofs.asking.set_of.Goals as goal

pub loop-key-init : goal.loop-key-init
loop-key-init c = record { members = set_begun _ _ _ c.new-set.ensures.empty (search rules); len = search rules }

pub loop-key-preserved : goal.loop-key-preserved
loop-key-preserved c =
    let was = c.loop-key.invariant in
    let took : into_iter_items c.loop-key.key-iterator ≡ c.in-Some.key ∷ into_iter_items c.next.new.self = search rules in
    let fewer : into_iter_len c.next.new.self + 1 ≡ into_iter_len c.loop-key.key-iterator = search rules in
    let len = was.len in
    let size = ap length took in
    record {
      members = set_next c.args.keys.items c.loop-key.set.keys c.insert.new.self.keys _ _ c.in-Some.key c.requires c.in_ok-insert.ensures.keys took was.members;
      len = omega (arith, len, size, fewer);
    }

pub returns : goal.returns
returns c =
    let zero : into_iter_len c.loop-key.key-iterator ≡ 0 = search rules in
    set_made c.args.keys.items c.loop-key.set.keys (into_iter_items c.loop-key.key-iterator) (c.loop-key.invariant.len ∙ zero) c.loop-key.invariant.members
