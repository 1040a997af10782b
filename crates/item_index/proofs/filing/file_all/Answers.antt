use Rattle.std.proofs.Common.{◌≡◌, ◌%◌, ◌++◌, ◌∷◌, [], ℕ, length, arith, ap, ◌∙◌, sym}
use Rattle.std.proofs.lemmas.List.{length-set, take_all}
use Rattle.item_index.specs.Shelves.{list_at}
use Rattle.item_index.specs.Filing.{hash_by}
use Rattle.item_index.proofs.FilingLemmas.{AreFiled-next_none, AreFiled-next_some}
use Rattle.item_index.proofs.filing.file_all.Goals as goal
use Rattle.item_index.proofs.filing.file_all.Goals.{in-Some, in_default}

pub loop-number-preserved : goal.loop-number-preserved
loop-number-preserved g c =
    let hash = λ (k : g.row.K.Denot). hash_by g.S.BuildHasher g.S.Hasher.Hasher c.args.hasher.now (g.K.Hash.hash_input k) in
    let count_is = c.loop-number.invariant.count_is in
    let spare = c.loop-number.invariant.spare in
    elim c.match-key.branch [
      | in-Some w ↦
          let file_is : w.file_of.result ≡ hash w.in-Some.key % length c.loop-number.files.lists = w.file_of.ensures.value ∙ ap (λ (n : ℕ). hash w.in-Some.key % n) (sym count_is) in
          let within = w.file_of.ensures.within in
          rw (w.files-is, w.push.ensures) (record {
            filed = AreFiled-next_some hash c.args.keys.now c.loop-number.files.lists c.loop-number.number c.index-keys-number.result c.loop-number-test.true c.index-keys-number.is c.loop-number.invariant.filed
                w.in-Some.key w.file_of.result w.in-Some.is file_is (omega arith);
            count_is = length-set c.loop-number.files.lists w.file_of.result (list_at c.loop-number.files.lists w.file_of.result ++ c.loop-number.number ∷ []) ∙ count_is;
            spare = omega arith;
          })
      | in_default w ↦ rw w.files-is (record {
        filed = AreFiled-next_none hash c.args.keys.now c.loop-number.files.lists c.loop-number.number c.index-keys-number.result c.loop-number-test.true c.index-keys-number.is c.loop-number.invariant.filed w.in_default.is;
        count_is = count_is;
        spare = omega arith;
      })
    ]

pub returns-clause-filed : goal.returns-clause-filed
returns-clause-filed g c = rw (take_all c.loop-number.number c.args.keys.now (omega arith)) at c.loop-number.invariant.filed
