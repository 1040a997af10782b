use Rattle.std.proofs.Common.{◌≡◌, length, sym, ap, subst, ◌∙◌, arith}
use Rattle.cat_items.specs.Batch.{HaveNoKeyInCommon, IsJoined}
use Rattle.cat_items.specs.Catalogues.{Listing}
use Rattle.cat_items.proofs.Merges.{apart_from, joined_members, written_back}
use Rattle.cat_items.proofs.catalogue.Catalogue.put_in_all.Goals as goal

pub merge-requires-clause-apart : goal.merge-requires-clause-apart
merge-requires-clause-apart c =
    let same : c.self.inside.items.items ≡ c.args.self.now.items = ap (λ (l : Listing). l.items) c.self.view_is in
    apart_from c.as_mut_slice.result.now c.self.inside.items.items c.args.items.items c.len-old.result (c.as_mut_slice.ensures.value ∙ c.append_in_room.ensures.items) (omega (arith, c.len-old.ensures, c.self.inside.items.ok)) (subst (λ l. HaveNoKeyInCommon l c.args.items.items) (sym same) c.requires.new)

pub returns-clause-members : goal.returns-clause-members
returns-clause-members c =
    let same : c.self.inside.items.items ≡ c.args.self.now.items = ap (λ (l : Listing). l.items) c.self.view_is in
    let joined = joined_members c.merge.new.items c.as_mut_slice.result.now c.self.inside.items.items c.args.items.items (c.as_mut_slice.ensures.value ∙ c.append_in_room.ensures.items) c.merge.ensures.members in
    let back = written_back c.merge.new.items c.append_in_room.new.items.items c.append_in_room.new.items.len (c.merge.ensures.len ∙ ap length c.as_mut_slice.ensures.value) (omega (arith, c.append_in_room.new.items.ok)) in
    subst (λ l. IsJoined c.args.self.now.items c.args.items.items l) (sym back) (subst (λ l. IsJoined l c.args.items.items c.merge.new.items) same joined)
