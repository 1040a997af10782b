use Rattle.std.proofs.Common.{◌≡◌, ◌+◌, ◌-◌, length, subst, ◌∙◌, arith}
use Rattle.cat_items.proofs.Partings.{Parting, parting_begins, parting_rest, parting_goes, parting_ends}
use Rattle.cat_items.proofs.batch.part_off.Goals as goal

pub loop-item-init : goal.loop-item-init
loop-item-init c = parting_begins c.args.items.now c.args.out.now c.requires.order

pub cut_from_place-requires-clause-within : goal.cut_from_place-requires-clause-within
cut_from_place-requires-clause-within c = (parting_rest c.loop-item.items c.args.items.now c.args.out.now c.loop-item.item-index c.loop-item.kept c.loop-item.read c.loop-item.invariant).0

pub cut_from_place-requires-clause-order : goal.cut_from_place-requires-clause-order
cut_from_place-requires-clause-order c = (parting_rest c.loop-item.items c.args.items.now c.args.out.now c.loop-item.item-index c.loop-item.kept c.loop-item.read c.loop-item.invariant).1

pub loop-item-preserved : goal.loop-item-preserved
loop-item-preserved c =
    let moved : c.cut_from_place.result ≡ c.loop-item.read + c.cut_from_place.result - c.loop-item.read = omega arith in
    subst (λ n. Parting c.exchange.new.items c.args.items.now c.args.out.now (c.loop-item.item-index + 1) (c.loop-item.kept + n) (c.loop-item.read + c.cut_from_place.result + 1)) moved
    (parting_goes c.loop-item.items c.exchange.new.items c.args.items.now c.args.out.now c.loop-item.item-index c.loop-item.kept c.loop-item.read c.cut_from_place.result c.item-item.result c.loop-item.invariant c.requires.out_order c.requires.out_within c.loop-item-test.true c.item-item.is c.cut_from_place.ensures c.exchange.ensures.len c.exchange.ensures.parts)

pub returns : goal.returns
returns c =
    let all : c.loop-item.item-index ≡ length c.args.out.now = omega arith in
    let ended = parting_ends c.loop-item.items c.exchange-2.new.items c.args.items.now c.args.out.now c.loop-item.kept c.loop-item.read (subst (λ n. Parting c.loop-item.items c.args.items.now c.args.out.now n c.loop-item.kept c.loop-item.read) all c.loop-item.invariant) c.exchange-2.ensures.len c.exchange-2.ensures.parts in
    record { order = ended.order; members = ended.members; len = ended.len; same_len = c.exchange-2.ensures.len ∙ c.loop-item.auto.items }
