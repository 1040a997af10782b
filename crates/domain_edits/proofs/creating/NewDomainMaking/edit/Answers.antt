use Rattle.std.proofs.Common.{◌≡◌, ◌↔◌, ◌⊎◌, List, [], refl, subst, sym, ◌∙◌}
use Rattle.std.specs.List.{Contains}
use Rattle.cat_items.specs.declared.item.Item.{Item}
use Rattle.cat_items.specs.declared.item.Item.TheVariants as item
use Rattle.table_names.specs.Given.{given_names}
use Rattle.table_names.specs.Named.{AreConstraints, IsFree}
use Rattle.domain_edits.specs.Checks.{parts_of}
use Rattle.table_parts.specs.declared.parts.Part.{Part}
use Rattle.cat_items.specs.Catalogues.{IsInOrder}
use Rattle.cat_items.specs.declared.item.Domain.{Domain}
use Rattle.domain_edits.specs.Made.{made_of}
use Rattle.domain_edits.proofs.FoundLemmas.{found_length}
use Rattle.domain_edits.proofs.CheckNames.{named_length}
use Rattle.domain_edits.proofs.NewDomains.{made, no_check_yet, own}
use Rattle.domain_edits.proofs.creating.NewDomainMaking.edit.Goals as goal

pub put_checks-requires-clause-names : goal.put_checks-requires-clause-names
put_checks-requires-clause-names c =
    let d = c.args.self.now in
    let are : AreConstraints c.args.c.now.items d.domain (parts_of d.checks.now) c.in_ok-named.named = subst (λ (all : List Part). AreConstraints c.args.c.now.items d.domain all c.in_ok-named.named) d.are_parts c.in_ok-named.ensures in
    own c.args.c.now.items c.args.who.now (made_of d) d.checks.now c.requires.passed c.in_ok-named.named are

pub put_checks-requires-clause-length : goal.put_checks-requires-clause-length
put_checks-requires-clause-length c =
    let d = c.args.self.now in
    let are : AreConstraints c.args.c.now.items d.domain (parts_of d.checks.now) c.in_ok-named.named = subst (λ (all : List Part). AreConstraints c.args.c.now.items d.domain all c.in_ok-named.named) d.are_parts c.in_ok-named.ensures in
    found_length c.args.c.now.items c.args.who.now d.sort d.checks.now c.args.made.all c.requires.made.0 ∙ sym (named_length (IsFree c.args.c.now.items d.domain.schema (given_names (parts_of d.checks.now))) [] d.checks.now c.in_ok-named.named are)

pub put_checks-requires-clause-new : goal.put_checks-requires-clause-new
put_checks-requires-clause-new c =
    no_check_yet c.of_sorted-added.result.items c.put.new.items.items c.in_ok-new.field-0 (c.of_sorted-added.ensures.items ∙ c.new.ensures.items) c.in_ok-put.ensures.members

pub returns : goal.returns
returns c =
    let d = c.args.self.now in
    let are : AreConstraints c.args.c.now.items d.domain (parts_of d.checks.now) c.in_ok-named.named = subst (λ (all : List Part). AreConstraints c.args.c.now.items d.domain all c.in_ok-named.named) d.are_parts c.in_ok-named.ensures in
    let x : Domain = made_of d in
    let is : c.in_ok-new.field-0 ≡ x = c.in_ok-new.ensures ∙ c.in_ok-made_domain.ensures in
    made c.args.c.now.items c.args.who.now x d.checks.now c.in_ok-named.named c.args.made.all are c.requires.made.0 c.of_sorted-added.result.items c.put.new.items.items c.put_checks.new.added.items c.from_vec.result (record { target = c.new-3.result; changed = c.new-4.result; added = c.from_vec.result })
    (c.of_sorted-added.ensures.items ∙ c.new.ensures.items) (subst (λ (z : Domain). (y : Item) → Contains c.put.new.items.items y ↔ (Contains c.of_sorted-added.result.items y ⊎ (y ≡ item.Domain z))) is c.in_ok-put.ensures.members) c.in_ok-put_checks.ensures
    (c.from_vec.ensures ∙ c.into_items.ensures.items) (subst IsInOrder (sym c.from_vec.ensures) c.into_items.ensures.order) c.new-3.ensures c.new-4.ensures refl
