use Rattle.std.proofs.Common.{◌≡◌, List, ℕ, Some, refl, sym, ap, subst, ◌∙◌}
use Rattle.std.specs.Option.{option_map}
use Rattle.role_graph.specs.Roles.{AreNames, IsEnabled}
use Rattle.information_schema.specs.Queries.{refusal_in}
use Rattle.information_schema.specs.Views.{View, view_of, view_named}
use Rattle.information_schema.proofs.answers.answer.Goals as goal

pub returns : goal.returns
returns c =
    let v : View = view_of c.in-Some.view in
    let named : view_named c.args.query.now.view ≡ Some v = sym (ap view_named c.bytes.ensures.bytes) ∙ sym c.view_named.ensures ∙ ap (option_map view_of) c.in-Some.is in
    let enabled : AreNames c.as_slice.result.now (IsEnabled c.args.c.now.items c.args.who.now.user c.args.who.now.role) =
    subst (λ (names : List (List ℕ)). AreNames names (IsEnabled c.args.c.now.items c.args.who.now.user c.args.who.now.role)) (sym c.as_slice.ensures.value) c.in_ok-names.ensures in (
      ap (λ o. refusal_in o c.args.query.now) named ∙ c.in_ok-test_query.ensures.0,
      (record { user = c.args.who.now.user; enabled = c.as_slice.result.now }, (refl, enabled), (v, c.in_ok-all.all.items, named, c.in_ok-all.ensures, c.from_vec.ensures ∙ c.in_ok-rows.ensures)),
    )
