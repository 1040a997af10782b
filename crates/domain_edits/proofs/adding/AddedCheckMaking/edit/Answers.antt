use Rattle.std.proofs.Common.{List, [], refl, subst, sym, ◌∙◌}
use Rattle.std.specs.List.{Contains}
use Rattle.cat_items.specs.declared.item.Item.TheVariants as item
use Rattle.cat_items.specs.Catalogues.{IsInOrder}
use Rattle.finite_chains.proofs.Members.{Contains-nil}
use Rattle.table_names.specs.Given.{given_names}
use Rattle.table_names.specs.Named.{AreConstraints, IsFree}
use Rattle.table_parts.specs.declared.parts.Part.{Part}
use Rattle.domain_edits.specs.Checks.{parts_of}
use Rattle.domain_edits.proofs.ChangedDomains.{adds, as_many, one_name}
use Rattle.domain_edits.proofs.CheckNames.{named_length}
use Rattle.domain_edits.proofs.adding.AddedCheckMaking.edit.Goals as goal

pub put_checks-requires-clause-names : goal.put_checks-requires-clause-names
put_checks-requires-clause-names c =
    let s = c.args.self.now in
    let are : AreConstraints c.args.c.now.items s.domain (parts_of s.checks) c.in_ok-named.named = subst (λ (all : List Part). AreConstraints c.args.c.now.items s.domain all c.in_ok-named.named) s.are_parts c.in_ok-named.ensures in
    one_name c.in_ok-named.named (named_length (IsFree c.args.c.now.items s.domain.schema (given_names (parts_of s.checks))) [] s.checks c.in_ok-named.named are ∙ s.is_one)

pub put_checks-requires-clause-length : goal.put_checks-requires-clause-length
put_checks-requires-clause-length c =
    let s = c.args.self.now in
    let are : AreConstraints c.args.c.now.items s.domain (parts_of s.checks) c.in_ok-named.named = subst (λ (all : List Part). AreConstraints c.args.c.now.items s.domain all c.in_ok-named.named) s.are_parts c.in_ok-named.ensures in
    as_many c.args.c.now.items c.args._who.now s.domain s.checks c.args.made.all c.args.made.needs c.requires.made ∙ sym (named_length (IsFree c.args.c.now.items s.domain.schema (given_names (parts_of s.checks))) [] s.checks c.in_ok-named.named are)

pub put_checks-requires-clause-new : goal.put_checks-requires-clause-new
put_checks-requires-clause-new c = λ x h. Contains-nil (item.DomainCheck x) (subst (λ l. Contains l (item.DomainCheck x)) (c.of_sorted-added.ensures.items ∙ c.new.ensures.items) h)

pub returns : goal.returns
returns c =
    let s = c.args.self.now in
    let are : AreConstraints c.args.c.now.items s.domain (parts_of s.checks) c.in_ok-named.named = subst (λ (all : List Part). AreConstraints c.args.c.now.items s.domain all c.in_ok-named.named) s.are_parts c.in_ok-named.ensures in
    adds c.args.c.now.items c.args._who.now s.domain s.checks c.in_ok-named.named c.args.made.all c.args.made.needs are c.requires.made c.of_sorted-added.result.items c.put_checks.new.added.items c.from_vec.result
    (record { target = c.new-2.result; changed = c.new-3.result; added = c.from_vec.result }) (c.of_sorted-added.ensures.items ∙ c.new.ensures.items) c.in_ok-put_checks.ensures
    (c.from_vec.ensures ∙ c.into_items.ensures.items) (subst IsInOrder (sym c.from_vec.ensures) c.into_items.ensures.order) c.new-2.ensures c.new-3.ensures refl
