-- Where the same is shown, a query has the same answer.
use Rattle.std.proofs.Common.{◌≡◌, List, Some, sym, ap, subst, ◌∙◌}
use Rattle.std.specs.Prelude.{◌↔◌}
use Rattle.cat_items.specs.declared.item.Item.{Item}
use Rattle.sql_tree.specs.declared.statement.InfoQuery.{InfoQuery}
use Rattle.schema_tables.specs.Cells.{Row}
use Rattle.schema_tables.specs.Listings.{AreRows}
use Rattle.schema_tables.specs.Shown.{Shown}
use Rattle.schema_tables.specs.Sight.{Session, IsShown}
use Rattle.schema_tables.specs.TableRows.{HasRow}
use Rattle.schema_tables.proofs.SameRows.{same_rows}
use Rattle.information_schema.specs.Answers.{IsAnswer}
use Rattle.information_schema.specs.Queries.{selected}
use Rattle.information_schema.specs.Views.{View}

one_view : (a b : View) → Some a ≡ Some b → a ≡ b
one_view a b e = cc

pub alike : (c d : List Item) (s t : Session) (q : InfoQuery) (rows others : List Row) → ((x : Shown) → IsShown c (Some s) x ↔ IsShown d (Some t) x) → IsAnswer c s q rows → IsAnswer d t q others → rows ≡ others
alike c d s t q rows others same a b =
    let view : a.0 ≡ b.0 = one_view a.0 b.0 (sym a.2 ∙ b.2) in
    let there : AreRows (HasRow (IsShown d (Some t)) a.0.table) b.1 = subst (λ (v : View). AreRows (HasRow (IsShown d (Some t)) v.table) b.1) (sym view) b.3 in
    let all : a.1 ≡ b.1 = same_rows (IsShown c (Some s)) (IsShown d (Some t)) same a.0.table a.1 b.1 a.3 there in
    a.4 ∙ ap (λ (v : View). selected v.columns q a.1) view ∙ ap (selected b.0.columns q) all ∙ sym b.4
