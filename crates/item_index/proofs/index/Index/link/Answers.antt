use Rattle.std.proofs.Common.{arith, reverse}
use Rattle.std.proofs.lemmas.Option.{slice_get_within}
use Rattle.item_index.proofs.GraphLemmas.{AreLinksOf-push, AreWhole-linked}
use Rattle.item_index.proofs.index.Index.link.Goals as goal

pub invariant_of-self : goal.invariant_of-self
invariant_of-self g c =
    let from = rw (← c.self.view_is) at c.requires.node in
    let to = rw (← c.self.view_is) at c.requires.rests_on in
    let room = rw (← c.self.view_is) at c.requires.room in
    let n = slice_get_within c.self.inside.keys.items c.args.node _ from.1 in
    let m = slice_get_within c.self.inside.keys.items c.args.rests_on _ to.1 in
    let whole = c.self.invariant.0 in
    let rests_len = whole.rests_len in
    let dependents_len = whole.dependents_len in
    let four = c.self.invariant.4 in
    let five = c.self.invariant.5 in
    rw (c.push.ensures, c.push-2.ensures) (
      AreWhole-linked c.self.inside.rests.lists c.self.inside.dependents.lists c.args.node c.args.rests_on (omega arith) (omega arith) g.K.PartialEq.eq c.self.inside.keys.items (reverse c.self.inside.free.items) from.0 to.0 from.1 to.1 whole,
      c.self.invariant.1,
      c.self.invariant.2,
      c.self.invariant.3,
      omega arith,
      omega arith,
      c.self.invariant.6,
    )

pub returns-clause-order : goal.returns-clause-order
returns-clause-order g c = λ links are.
    let from = rw (← c.self.view_is) at c.requires.node in
    let to = rw (← c.self.view_is) at c.requires.rests_on in
    let n = slice_get_within c.self.inside.keys.items c.args.node _ from.1 in
    let m = slice_get_within c.self.inside.keys.items c.args.rests_on _ to.1 in
    let rests_len = c.self.invariant.0.rests_len in
    let dependents_len = c.self.invariant.0.dependents_len in
    rw (c.push.ensures, c.push-2.ensures) (AreLinksOf-push c.self.inside.rests.lists c.self.inside.dependents.lists c.args.node c.args.rests_on (omega arith) (omega arith) links (rw (← c.self.view_is) at are))
