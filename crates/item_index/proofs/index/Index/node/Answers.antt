use Rattle.std.proofs.Common.{◌≡◌, ◌%◌, ℕ, length, ap, ◌∙◌}
use Rattle.item_index.specs.Filing.{hash_by}
use Rattle.item_index.proofs.FilingLemmas.{filed_within, not_in_file}
use Rattle.item_index.proofs.NodeLemmas.{found_or_not}
use Rattle.item_index.proofs.index.Index.node.Goals as goal

pub find-requires : goal.find-requires
find-requires g c =
    let hash = λ (k : g.row.K.Denot). hash_by g.S.BuildHasher g.S.Hasher.Hasher c.self.inside.hasher (g.K.Hash.hash_input k) in
    rw (c.list.ensures, c.as_slice.ensures.value) (filed_within hash c.self.inside.keys.items c.self.inside.files.lists c.self.invariant.1 c.file_of-file.result)

pub returns-clause-node : goal.returns-clause-node
returns-clause-node g c =
    let eq = g.K.PartialEq.eq in
    let keys = c.self.inside.keys.items in
    let hash = λ (k : g.row.K.Denot). hash_by g.S.BuildHasher g.S.Hasher.Hasher c.self.inside.hasher (g.K.Hash.hash_input k) in
    let file_is : c.file_of-file.result ≡ hash c.args.key.now % length c.self.inside.files.lists = c.file_of-file.ensures.value ∙ ap (λ (n : ℕ). hash c.args.key.now % n) c.len.ensures.value in
    let some = rw c.as_slice.ensures.value at c.find.ensures.some in
    let none = rw (c.list.ensures, c.as_slice.ensures.value, file_is) at c.find.ensures.none in
    rw (← c.self.view_is) (found_or_not eq keys c.args.key.now _
    (not_in_file hash keys c.self.inside.files.lists c.self.invariant.1 eq c.args.key.now (λ j e. ap (hash_by g.S.BuildHasher g.S.Hasher.Hasher c.self.inside.hasher) (g.met.K.Hash.respects_eq c.args.key.now j e)))
    g.met.K.Eq.laws c.self.invariant.0.distinct c.find.result some none)
