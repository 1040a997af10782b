use Rattle.std.proofs.Common.{◌∷◌, [], Some, sym, subst}
use Rattle.name_scopes.specs.declared.scope.Scope.{Scope}
use Rattle.edit_rules.specs.First.{IsTested}
use Rattle.view_deps.specs.Described.{known_of}
use Rattle.routine_deps.specs.Bodies.{IsResolvedBody, resolved_body}
use Rattle.statement_steps.specs.Resolving.{unresolved_name}
use Rattle.statement_steps.proofs.NameLaws.{names_tested}
use Rattle.routine_edit.specs.CreatedRoutines.{body_in}
use Rattle.routine_edit.specs.Making.{IsNamedBody}
use Rattle.routine_edit.proofs.making.named_body.Goals as goal

pub returns : goal.returns
returns c =
    let items = c.args.c.now.items in
    let itself = c.args.signature.now in
    let outcome = body_in items c.args.who.now itself c.args.body.now in
    let found : IsResolvedBody (Some itself) outcome c.resolve_body.result = subst (λ (s : Scope). IsResolvedBody s.itself (resolved_body (known_of items) s c.args.body.now) c.resolve_body.result) c.in_ok-scope.ensures c.resolve_body.ensures in
    subst (IsTested (unresolved_name outcome ∷ []) (IsNamedBody itself outcome)) (sym c.by_names.ensures)
    (names_tested outcome c.resolve_body.result (IsResolvedBody (Some itself) outcome) (IsNamedBody itself outcome) (λ e h. h) (λ r h. (r.body, h.0)) (λ r h. record { body = h.0; needs = h.1 }) (λ is. is) found)
