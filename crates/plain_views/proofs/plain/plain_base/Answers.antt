use Rattle.std.proofs.Common.{◌≡◌, ◌∙◌, Some, ap, sym, subst}
use Rattle.std.specs.Prelude.{option_map}
use Rattle.cat_items.specs.Plain.{HasBase, base_of}
use Rattle.plain_views.specs.declared.plain.PlainBase.{PlainBase}
use Rattle.plain_views.specs.Bases.{base_found, differ}
use Rattle.plain_views.proofs.Plainness.{has_plain, has_twice}
use Rattle.plain_views.proofs.plain.plain_base.Goals as goal

pub returns-then-names_differ : goal.returns-then-names_differ
returns-then-names_differ c =
    let e : base_of c.args.query.now ≡ Some (base_found c.in-Some.found) = sym c.in_ok-found_in.ensures ∙ ap (option_map base_found) c.in-Some.is in
    has_plain (base_of c.args.query.now) (base_found c.in-Some.found) e (ap differ (sym c.as_slice.ensures) ∙ (sym c.names_differ.ensures ∙ c.if-names_differ.true))

pub returns-else-names_differ : goal.returns-else-names_differ
returns-else-names_differ c =
    let e : base_of c.args.query.now ≡ Some (base_found c.in-Some.found) = sym c.in_ok-found_in.ensures ∙ ap (option_map base_found) c.in-Some.is in
    subst (λ (p : PlainBase). HasBase (base_of c.args.query.now) p.base p.columns) (sym c.not_plain-else-names_differ.ensures)
    (has_twice (base_of c.args.query.now) (base_found c.in-Some.found) e (ap differ (sym c.as_slice.ensures) ∙ (sym c.names_differ.ensures ∙ c.if-names_differ.false)))
