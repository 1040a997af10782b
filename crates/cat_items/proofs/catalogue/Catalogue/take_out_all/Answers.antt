use Rattle.std.proofs.Common.{◌≡◌, length, take, sym, ap, subst, ◌∙◌, arith}
use Rattle.finite_chains.specs.Chains.{IsWithin}
use Rattle.cat_items.specs.Batch.{IsWithout}
use Rattle.cat_items.specs.Catalogues.{Listing}
use Rattle.cat_items.proofs.Merges.{written_back}
use Rattle.cat_items.proofs.catalogue.Catalogue.take_out_all.Goals as goal

pub part_off-kept-requires-clause-out_within : goal.part_off-kept-requires-clause-out_within
part_off-kept-requires-clause-out_within c =
    let same : c.self.inside.items.items ≡ c.args.self.now.items = ap (λ (l : Listing). l.items) c.self.view_is in
    subst (λ l. IsWithin c.args.items.now l) (sym (c.as_mut_slice.ensures.value ∙ same)) c.requires.out_within

pub returns-clause-members : goal.returns-clause-members
returns-clause-members c =
    let same : c.self.inside.items.items ≡ c.args.self.now.items = ap (λ (l : Listing). l.items) c.self.view_is in
    let back = written_back c.part_off-kept.new.items c.self.inside.items.items c.self.inside.items.len (c.part_off-kept.ensures.same_len ∙ ap length c.as_mut_slice.ensures.value) (omega (arith, c.self.inside.items.ok)) in
    let stays : c.truncate.new.self.items ≡ take c.part_off-kept.result c.part_off-kept.new.items = c.truncate.ensures.items ∙ ap (take c.part_off-kept.result) back in
    subst (λ l. IsWithout c.args.self.now.items c.args.items.now l) (sym stays) (subst (λ l. IsWithout l c.args.items.now (take c.part_off-kept.result c.part_off-kept.new.items)) (c.as_mut_slice.ensures.value ∙ same) c.part_off-kept.ensures.members)
