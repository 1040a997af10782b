-- What the grammar, the tests and the catalogue give of a view.
use Rattle.std.proofs.Common.{◌≡◌, ◌≢◌, ◌<◌, ℕ, suc, false, List, [], ◌∷◌, Ok, length, refl, inl, inr, subst, arith}
use Rattle.std.specs.List.{Contains}
use Rattle.std.proofs.lemmas.Bool.Decides.{eqb_tells}
use Rattle.sql_names.specs.NameBytes.{NameBytes}
use Rattle.sql_names.specs.declared.object.Object.{Object}
use Rattle.sql_names.specs.declared.sort.SqlType.{SqlType}
use Rattle.sql_tree.specs.declared.statement.CreateView.{CreateView}
use Rattle.sql_tree.specs.declared.statement.Statement.TheVariants as statements
use Rattle.sql_words.specs.WordForms.{AreWords}
use Rattle.sql_words.specs.declared.word.Word.{Word}
use Rattle.sql_phrases.specs.NameRules.{SpellsColumns}
use Rattle.sql_definitions.proofs.DefinitionDepths.{deep_columns}
use Rattle.sql_grammar.specs.StatementRules.{SpellsStatement, create_view}
use Rattle.query_types.specs.declared.whole.TypedQuery.{TypedQuery}
use Rattle.cat_items.specs.declared.edit.Refusal.TheVariants.{NameExists, TypeMismatch}
use Rattle.cat_items.specs.declared.edit.Who.{Who}
use Rattle.cat_items.specs.declared.item.Item.{Item}
use Rattle.cat_items.specs.Good.{IsGood}
use Rattle.cat_items.specs.Pieces.{AreFormed, AreResolved, IsType, query_pieces}
use Rattle.cat_items.specs.Reach.{Has}
use Rattle.cat_items.specs.Rights.{path_of, IsTable}
use Rattle.statement_forms.specs.Written.{IsWritten}
use Rattle.statement_forms.proofs.FormedTrees.{formed_query}
use Rattle.statement_forms.proofs.KeptWords.{kept, kept_object, kept_token}
use Rattle.resolved_trees.proofs.Columns.{good_has_columns}
use Rattle.resolved_trees.proofs.Resolved.{query_resolved}
use Rattle.typed_trees.proofs.Columns.{columns_typed, has_column}
use Rattle.typed_trees.proofs.KnownTypes.{good_has_types}
use Rattle.view_deps.specs.Described.{known_of}
use Rattle.view_deps.specs.Views.{column_names, query_scope}
use Rattle.edit_rules.specs.First.{First, Passes}
use Rattle.edit_rules.specs.Names.{object_in, table_exists}
use Rattle.edit_rules.proofs.FirstLaws.{passes_first, passes_rest, passes_that}
use Rattle.statement_steps.specs.Repeated.{repeated_name}
use Rattle.statement_steps.specs.Steps.{where_it_is}
use Rattle.statement_steps.proofs.Repeats.{Differ, differ_where_passed}
use Rattle.statement_steps.proofs.StepLaws.{rules_pass, taken_passes}
use Rattle.object_edits.specs.CreatedViews.{create_view_refusals, creating_view, names_from, names_of, query_of, query_refusals, too_many_places}

pub record IsFormedView (c : List Item) (view : Object) (names : List NameBytes) (typed : TypedQuery) : Type 0 where
  pub new : ¬ (Has c (IsTable (path_of view)))
  pub some : 0 < length (names_of names typed)
  pub count : length (names_of names typed) ≡ length typed.sorts
  pub differ : Differ (names_of names typed)
  pub types : (sort : SqlType) → Contains typed.sorts sort → IsType sort
  pub resolved : AreResolved (query_pieces typed.query)

-- ---- by the grammar

kept_columns : {cs : List NameBytes} {ws rest : List Word} → SpellsColumns cs ws rest → AreWords ws → AreWords rest
kept_columns cs are = let lt : 0 < 1 = omega arith in kept (deep_columns lt cs).peak are

view-form : {most : ℕ} {s : CreateView} {ws rest : List Word} → SpellsStatement most (statements.CreateView s) ws rest → AreWords ws → AreFormed (query_pieces s.query)
view-form {most} (create_view {q = q} {e = e} {rest = rest} t v o cs u spells) are = formed_query false (suc most) q e rest (kept_token u (kept_columns cs (kept_object o (kept_token v (kept_token t are))))) spells

view_query_formed : (s : CreateView) → IsWritten (statements.CreateView s) → AreFormed (query_pieces s.query)
view_query_formed s written = view-form written.2 written.1

-- ---- by the tests

same_length : (a b : ℕ) → ¬ (a ≢ b) → a ≡ b
same_length a b h = elim (eqb_tells a b) [ inl e ↦ e.1 | inr n ↦ absurd (h n.1) ]

some_name : (names own : List NameBytes) → 0 < length own → 0 < length (names_from names own)
some_name [] own low = low
some_name (n ∷ names) own low = omega arith

module _ (c : List Item) (who : Who) (view : Object) (names : List NameBytes) (typed : TypedQuery) (passed : Passes (First (query_refusals names (Ok typed)))) where
  abbrev all : List NameBytes
  all = names_of names typed

  counted : length all ≡ length typed.sorts
  counted = same_length (length all) (length typed.sorts) (λ other. passes_first (where_it_is (length all ≢ length typed.sorts) TypeMismatch) (repeated_name all ∷ too_many_places all ∷ []) passed TypeMismatch (other, refl))

  differing : Differ all
  differing =
      differ_where_passed all
      (passes_first (repeated_name all) (too_many_places all ∷ []) (passes_rest (where_it_is (length all ≢ length typed.sorts) TypeMismatch) (repeated_name all ∷ too_many_places all ∷ []) passed))

-- ---- all of it

pub formed_view : (c : List Item) (who : Who) (s : CreateView) (typed : TypedQuery) → IsGood c → IsWritten (statements.CreateView s) → query_of c who s.query ≡ Ok typed → Passes (First (create_view_refusals c who s))
    → IsFormedView c (object_in who.schema s.view) s.columns typed
formed_view c who s typed good written is passed =
    let view = object_in who.schema s.view in
    let steps = creating_view c view s.columns (query_of c who s.query) in
    let taken : Passes (table_exists c view) = passes_that (table_exists c view) (taken_passes c who steps passed) in
    let rules : Passes (First (query_refusals s.columns (Ok typed))) = subst (λ o. Passes (First (query_refusals s.columns o))) is (rules_pass c who steps passed) in
    let k = known_of c in
    let resolved : AreResolved (query_pieces typed.query) = query_resolved k (query_scope who.schema) (good_has_columns c good) s.query typed (view_query_formed s written) is in record {
      new = λ has. taken (NameExists (path_of view)) (has, refl);
      some = some_name s.columns (column_names typed.query) (has_column typed.query resolved);
      count = counted c who view s.columns typed rules;
      differ = differing c who view s.columns typed rules;
      types = columns_typed k who.schema (good_has_types c good) s.query typed is resolved;
      resolved = resolved;
    }
