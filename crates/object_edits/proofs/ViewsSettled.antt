-- CREATE VIEW has one refusal at most, and one edit, which leaves all users.
use Rattle.std.proofs.Common.{◌≡◌, List, Ok, Err, sym, ◌∙◌}
use Rattle.sql_names.specs.NameBytes.{NameBytes}
use Rattle.sql_names.specs.declared.object.Object.{Object}
use Rattle.sql_tree.specs.declared.statement.CreateView.{CreateView}
use Rattle.name_scopes.specs.Outcomes.{Outcome}
use Rattle.query_types.specs.declared.whole.TypedQuery.{TypedQuery}
use Rattle.cat_items.specs.declared.edit.Edit.{Edit}
use Rattle.cat_items.specs.declared.edit.Who.{Who}
use Rattle.cat_items.specs.declared.item.Item.{Item}
use Rattle.cat_items.specs.declared.item.Item.TheVariants as item
use Rattle.edit_rules.specs.Names.{object_in}
use Rattle.edit_rules.proofs.FirstLaws.{AreSettled}
use Rattle.edit_laws.specs.Users.{LeavesUsers}
use Rattle.statement_steps.specs.Steps.{Nothing}
use Rattle.statement_steps.proofs.Additions.{addition_leaves_users}
use Rattle.statement_steps.proofs.Repeats.{repeated_settled}
use Rattle.statement_steps.proofs.Settled.{edit_settled, one_told, steps_settled, unresolved_settled}
use Rattle.object_edits.specs.CreatedViews.{IsMade, IsViewCreation, create_view, create_view_refusals, names_of, query_of, query_refusals}

rules_settled : (names : List NameBytes) (o : Outcome TypedQuery) → AreSettled (query_refusals names o)
rules_settled names (Ok typed) = (one_told _ _, (repeated_settled (names_of names typed), (one_told _ _, tt)))
rules_settled names (Err error) = (one_told _ _, tt)

pub view_refusals_settled : (c : List Item) (who : Who) (s : CreateView) → AreSettled (create_view_refusals c who s)
view_refusals_settled c who s =
    let query = query_of c who s.query in
    steps_settled c who (create_view c who s) (repeated_settled s.columns, tt) ((λ a b p q. p.1 ∙ sym q.1), (unresolved_settled query, tt)) ((λ a b p q. p.1 ∙ sym q.1), tt) (rules_settled s.columns query)

pub view_edit_settled : (c : List Item) (who : Who) (s : CreateView) (a b : Edit) → IsViewCreation c who s a → IsViewCreation c who s b → a ≡ b
view_edit_settled c who s a b p q = edit_settled c Nothing Nothing (IsMade (object_in who.schema s.view) s.columns (query_of c who s.query)) a b p q

made_is_no_user : (view : Object) (names : List NameBytes) (o : Outcome TypedQuery) (name : NameBytes) → ¬ (IsMade view names o (item.User name))
made_is_no_user view names (Ok typed) name h = h
made_is_no_user view names (Err error) name h = h

pub view_leaves_users : (c : List Item) (who : Who) (s : CreateView) (edit : Edit) → IsViewCreation c who s edit → LeavesUsers edit
view_leaves_users c who s edit is =
    let view = object_in who.schema s.view in
    let query = query_of c who s.query in
    addition_leaves_users c (IsMade view s.columns query) edit is (made_is_no_user view s.columns query)
