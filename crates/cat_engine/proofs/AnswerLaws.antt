-- A catalogue, a user with its role and a query settle an answer, and a query settles its refusal.
use Rattle.std.proofs.Common.{◌≡◌, List, Some, sym, ◌∙◌, subst}
use Rattle.std.proofs.lemmas.Cmp.{nat_list_cmp_total}
use Rattle.finite_chains.proofs.StrictOrders.{IsRising-from_pairs, rising_same}
use Rattle.sql_names.specs.NameBytes.{NameBytes}
use Rattle.sql_tree.specs.declared.statement.InfoQuery.{InfoQuery}
use Rattle.cat_items.specs.declared.edit.Refusal.{Refusal}
use Rattle.cat_items.specs.declared.edit.Who.{Who}
use Rattle.cat_items.specs.declared.item.Item.{Item}
use Rattle.cat_items.specs.Order.{name_cmp}
use Rattle.role_graph.specs.Roles.{AreNames, IsEnabled}
use Rattle.schema_tables.specs.Cells.{Row}
use Rattle.schema_tables.specs.Sight.{Session, IsShown}
use Rattle.information_schema.specs.Answers.{IsAnswerFor, IsSession}
use Rattle.information_schema.specs.declared.answers.InfoError.{InfoError}
use Rattle.information_schema.specs.declared.answers.InfoError.TheVariants as info
use Rattle.information_schema.proofs.Alike.{alike}
use Rattle.edit_rules.proofs.FirstLaws.{IsSettled}
use Rattle.cat_engine.specs.Refusals.{IsTold, unanswered}

one_list : (P : NameBytes → Type 0) (a b : List NameBytes) → AreNames a P → AreNames b P → a ≡ b
one_list P a b p q =
    rising_same name_cmp nat_list_cmp_total a b (IsRising-from_pairs name_cmp a p.order) (IsRising-from_pairs name_cmp b q.order)
    (λ name. (λ h. (q.members name).1 ((p.members name).0 h), λ h. (p.members name).1 ((q.members name).0 h)))

one_session : (c : List Item) (who : Who) (s t : Session) → IsSession c who s → IsSession c who t → s ≡ t
one_session c who s t p q =
    let users : s.user ≡ t.user = p.0 ∙ sym q.0 in
    let roles : s.enabled ≡ t.enabled = one_list (IsEnabled c who.user who.role) s.enabled t.enabled p.1 q.1 in
    λ i. record { user = users i; enabled = roles i }

pub answer_settled_for : (c : List Item) (who : Who) (q : InfoQuery) (a b : List Row) → IsAnswerFor c who q a → IsAnswerFor c who q b → a ≡ b
answer_settled_for c who q a b p r =
    let same : p.0 ≡ r.0 = one_session c who p.0 r.0 p.1 r.1 in
    alike c c p.0 r.0 q a b (λ x. (λ h. subst (λ (s : Session). IsShown c (Some s) x) same h, λ h. subst (λ (s : Session). IsShown c (Some s) x) (sym same) h)) p.2 r.2

told_settled : (e : InfoError) (a b : Refusal) → IsTold e a → IsTold e b → a ≡ b
told_settled (info.UnknownName path) a b p q = p ∙ sym q
told_settled info.TypeMismatch a b p q = p ∙ sym q
told_settled info.Memory a b p q = absurd p

pub unanswered_settled : (q : InfoQuery) → IsSettled (unanswered q)
unanswered_settled q a b p r =
    let same : p.0 ≡ r.0 = let e = sym p.1 ∙ r.1 in cc in
    told_settled r.0 a b (subst (λ e. IsTold e a) same p.2) r.2
