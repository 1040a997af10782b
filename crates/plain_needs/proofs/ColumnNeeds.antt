-- A plain view needs SELECT on each column of its base that it shows.
use Rattle.std.proofs.Common.{◌≡◌, ℕ, zero, suc, ◌==◌, Bool, true, false, List, [], ◌∷◌, ◌++◌, length, map, Option, Some, None, ap, sym, refl, subst, ◌∙◌}
use Rattle.std.specs.Prelude.{flat_map, option_and_then, option_map, slice_get}
use Rattle.std.specs.List.{Contains}
use Rattle.std.proofs.lemmas.List.Elements.{Contains-append_left}
use Rattle.std.proofs.lemmas.List.Folds.{flat_map-map}
use Rattle.std.proofs.lemmas.Option.{get_or_from_slice_get, slice_get-map, slice_get_within}
use Rattle.finite_chains.proofs.Members.{Contains-head}
use Rattle.sql_names.specs.NameBytes.{NameBytes}
use Rattle.sql_names.specs.declared.column.ObjectName.TheVariants.{Qualified}
use Rattle.sql_names.specs.declared.column.Reference.{Reference}
use Rattle.sql_names.specs.declared.column.Reference.TheVariants as references
use Rattle.sql_names.specs.declared.object.Object.{Object}
use Rattle.sql_tree.specs.declared.expr.Join.TheOpen.{Operand-F, SelectList-F}
use Rattle.sql_tree.specs.declared.expr.Join.TheViews.{roll-out-Operand, roll-out-SelectList}
use Rattle.sql_tree.specs.declared.expr.Added.{Added}
use Rattle.sql_tree.specs.declared.expr.Arm.{Arm}
use Rattle.sql_tree.specs.declared.expr.Chain.{Chain}
use Rattle.sql_tree.specs.declared.expr.Conjunction.{Conjunction, out-Conjunction}
use Rattle.sql_tree.specs.declared.expr.Expr.{Expr, out-Expr}
use Rattle.sql_tree.specs.declared.expr.Factor.{Factor, out-Factor}
use Rattle.sql_tree.specs.declared.expr.Further.{Further}
use Rattle.sql_tree.specs.declared.expr.Join.{Join}
use Rattle.sql_tree.specs.declared.expr.Multiplied.{Multiplied}
use Rattle.sql_tree.specs.declared.expr.Negation.{Negation, out-Negation}
use Rattle.sql_tree.specs.declared.expr.Operand.{Operand, out-Operand, roll-Operand}
use Rattle.sql_tree.specs.declared.expr.Predicate.{Predicate, out-Predicate}
use Rattle.sql_tree.specs.declared.expr.Query.{Query, out-Query}
use Rattle.sql_tree.specs.declared.expr.Select.{Select, out-Select}
use Rattle.sql_tree.specs.declared.expr.SelectItem.{SelectItem}
use Rattle.sql_tree.specs.declared.expr.SelectItem.TheVariants as items
use Rattle.sql_tree.specs.declared.expr.SelectList.{SelectList, out-SelectList, roll-SelectList}
use Rattle.sql_tree.specs.declared.expr.Sum.{Sum, out-Sum}
use Rattle.sql_tree.specs.declared.expr.Tail.{Tail}
use Rattle.sql_tree.specs.declared.expr.Term.{Term, out-Term}
use Rattle.sql_tree.specs.declared.rights.Action.TheVariants as action
use Rattle.cat_items.specs.declared.item.View.{View}
use Rattle.cat_items.specs.declared.item.Item.TheVariants as item
use Rattle.cat_items.specs.Mentions.{Mentions, of_cell, of_column, all_mentions, optional_mentions, reference_mentions, seen_outside, unused_tables, expr_mentions, query_mentions}
use Rattle.cat_items.specs.Needs.{column_need, mention_needs}
use Rattle.cat_items.specs.Plain.{Alone, Base, HasBase, all_columns, base_of, only_tested, reference_alone, unless, with_column}
use Rattle.cat_items.specs.Shape.{HasDerivedFields}
use Rattle.plain_needs.proofs.BaseNeeds.{body_of, has_base, if_some, in_query, one_table}
use Rattle.plain_needs.proofs.FlatMembers.{Contains-flat_map}
use Rattle.plain_views.specs.Alone.{conjunction_base, expr_base, factor_base, negation_base, operand_base, predicate_base, select_item_base, select_list_base, sum_base, tail_base, term_base}
use Rattle.plain_views.specs.Bases.{only_member}
use Rattle.plain_views.proofs.BaseEquations.{column_Conjunction, column_Expr, column_Factor, column_Negation, column_Operand_Aggregate, column_Operand_Call, column_Operand_Case, column_Operand_Cast, column_Operand_CountAll, column_Operand_Exists, column_Operand_False, column_Operand_Literal, column_Operand_Number, column_Operand_Parenthesized, column_Operand_Reference, column_Operand_Special, column_Operand_Subquery, column_Operand_True, column_Operand_Value, column_Predicate, column_Sum, column_Term, item_Expr, item_QualifiedStar, list_Listed, list_Star}
use Rattle.tree_needs.specs.Mentioned.{added_mentions, chain_mentions, conjunction_mentions, factor_mentions, multiplied_mentions, negation_mentions, operand_mentions, predicate_mentions, select_item_mentions, select_list_mentions, sum_mentions, tail_mentions, term_mentions}
use Rattle.tree_needs.proofs.MentionEquations.{mentions_Conjunction, mentions_Expr, mentions_Factor, mentions_Negation, mentions_Operand_Reference, mentions_Predicate, mentions_SelectItem_Expr, mentions_SelectList_Listed, mentions_Sum, mentions_Term}

-- ---- a column that is shown is mentioned

reference_cell : (r : Reference) (name : NameBytes) → (reference_alone r).column ≡ Some name → Contains (reference_mentions r) (of_cell 0 0 name)
reference_cell (references.Cell zero zero qualifier other) name e = let same : other ≡ name = cc e in subst (λ n. Contains (of_cell 0 0 other ∷ []) (of_cell 0 0 n)) same (Contains-head (of_cell 0 0 other) [])
reference_cell (references.Cell zero (suc at) qualifier other) name e = absurd (cc e)
reference_cell (references.Cell (suc up) at qualifier other) name e = absurd (cc e)
reference_cell _ name e = absurd (cc e)

abbrev Open : Type 0
Open = Operand-F Join Operand SelectItem SelectList Tail Added Arm Chain Conjunction Expr Factor Further Multiplied Negation Predicate Query Select Sum Term

abbrev IsColumn : Operand → NameBytes → Type 0
IsColumn o name = (operand_base o).column ≡ Some name

no_column : (o : Operand) (name : NameBytes) → (operand_base o).column ≡ None → IsColumn o name → ⊥
no_column o name none e = let odd : None ≡ Some name = sym none ∙ e in cc odd

layer_cell : (z : Open) (name : NameBytes) → IsColumn (roll-Operand z) name → Contains (operand_mentions (roll-Operand z)) (of_cell 0 0 name)
unfolding roll-Operand operand_base denote.Hole.Carrier.roll
layer_cell (Operand-F.Reference r) name e = subst (λ ms. Contains ms (of_cell 0 0 name)) (sym (mentions_Operand_Reference r)) (reference_cell r name (sym (column_Operand_Reference r) ∙ e))
layer_cell (Operand-F.Literal text) name e = absurd (no_column (roll-Operand (Operand-F.Literal text)) name (column_Operand_Literal text) e)
layer_cell (Operand-F.Number text) name e = absurd (no_column (roll-Operand (Operand-F.Number text)) name (column_Operand_Number text) e)
layer_cell Operand-F.True name e = absurd (no_column (roll-Operand Operand-F.True) name column_Operand_True e)
layer_cell Operand-F.False name e = absurd (no_column (roll-Operand Operand-F.False) name column_Operand_False e)
layer_cell (Operand-F.Special special) name e = absurd (no_column (roll-Operand (Operand-F.Special special)) name (column_Operand_Special special) e)
layer_cell Operand-F.Value name e = absurd (no_column (roll-Operand Operand-F.Value) name column_Operand_Value e)
layer_cell (Operand-F.Call f es) name e = absurd (no_column (roll-Operand (Operand-F.Call f es)) name (column_Operand_Call f es) e)
layer_cell Operand-F.CountAll name e = absurd (no_column (roll-Operand Operand-F.CountAll) name column_Operand_CountAll e)
layer_cell (Operand-F.Aggregate by x) name e = absurd (no_column (roll-Operand (Operand-F.Aggregate by x)) name (column_Operand_Aggregate by x) e)
layer_cell (Operand-F.Case arms x) name e = absurd (no_column (roll-Operand (Operand-F.Case arms x)) name (column_Operand_Case arms x) e)
layer_cell (Operand-F.Cast x sort) name e = absurd (no_column (roll-Operand (Operand-F.Cast x sort)) name (column_Operand_Cast x sort) e)
layer_cell (Operand-F.Exists q) name e = absurd (no_column (roll-Operand (Operand-F.Exists q)) name (column_Operand_Exists q) e)
layer_cell (Operand-F.Subquery q) name e = absurd (no_column (roll-Operand (Operand-F.Subquery q)) name (column_Operand_Subquery q) e)
layer_cell (Operand-F.Parenthesized x) name e = absurd (no_column (roll-Operand (Operand-F.Parenthesized x)) name (column_Operand_Parenthesized x) e)

operand_cell : (o : Operand) (name : NameBytes) → IsColumn o name → Contains (operand_mentions o) (of_cell 0 0 name)
operand_cell o = subst (λ x. (name : NameBytes) → IsColumn x name → Contains (operand_mentions x) (of_cell 0 0 name)) (roll-out-Operand o) (layer_cell (out-Operand o))

unless_some : (b : Bool) (part : Alone) (name : NameBytes) → (unless b part).column ≡ Some name → part.column ≡ Some name
unless_some false part name e = e
unless_some true part name e = absurd (cc e)

tested_some : (part : Alone) (tail : Option Alone) (name : NameBytes) → (only_tested part tail).column ≡ Some name → part.column ≡ Some name
tested_some part None name e = e
tested_some part (Some tail) name e = absurd (cc e)

-- of a list of one
one_cell : {A : Type 0} (base : A → Option NameBytes) (mentions : A → Mentions) (xs : List A) (name : NameBytes) → ((x : A) → base x ≡ Some name → Contains (mentions x) (of_cell 0 0 name)) → option_and_then base (only_member xs) ≡ Some name → Contains (all_mentions (map mentions xs)) (of_cell 0 0 name)
one_cell base mentions [] name each e = absurd (cc e)
one_cell base mentions (x ∷ []) name each e = Contains-append_left (mentions x) [] (of_cell 0 0 name) (each x e)
one_cell base mentions (x ∷ y ∷ xs) name each e = absurd (cc e)

factor_cell : (f : Factor) (name : NameBytes) → (factor_base f).column ≡ Some name → Contains (factor_mentions f) (of_cell 0 0 name)
factor_cell f name e =
    let o = out-Factor f in
    subst (λ ms. Contains ms (of_cell 0 0 name)) (sym (mentions_Factor f)) (operand_cell o.operand name (unless_some o.minus (operand_base o.operand) name (sym (column_Factor f) ∙ e)))

term_cell : (t : Term) (name : NameBytes) → (term_base t).column ≡ Some name → Contains (term_mentions t) (of_cell 0 0 name)
term_cell t name e =
    let o = out-Term t in
    let first = factor_cell o.first name (if_some (length o.others == 0) (factor_base o.first).column name (sym (column_Term t) ∙ e)) in
    subst (λ ms. Contains ms (of_cell 0 0 name)) (sym (mentions_Term t)) (Contains-append_left (factor_mentions o.first) (all_mentions (map multiplied_mentions o.others)) (of_cell 0 0 name) first)

sum_cell : (s : Sum) (name : NameBytes) → (sum_base s).column ≡ Some name → Contains (sum_mentions s) (of_cell 0 0 name)
sum_cell s name e =
    let o = out-Sum s in
    let first = term_cell o.first name (if_some (length o.others == 0) (term_base o.first).column name (sym (column_Sum s) ∙ e)) in
    subst (λ ms. Contains ms (of_cell 0 0 name)) (sym (mentions_Sum s)) (Contains-append_left (term_mentions o.first) (all_mentions (map added_mentions o.others)) (of_cell 0 0 name) first)

predicate_cell : (p : Predicate) (name : NameBytes) → (predicate_base p).column ≡ Some name → Contains (predicate_mentions p) (of_cell 0 0 name)
predicate_cell p name e =
    let o = out-Predicate p in
    let first = sum_cell o.tested name (tested_some (sum_base o.tested) (option_map tail_base o.tail) name (sym (column_Predicate p) ∙ e)) in
    subst (λ ms. Contains ms (of_cell 0 0 name)) (sym (mentions_Predicate p)) (Contains-append_left (sum_mentions o.tested) (optional_mentions (option_map tail_mentions o.tail)) (of_cell 0 0 name) first)

negation_cell : (n : Negation) (name : NameBytes) → (negation_base n).column ≡ Some name → Contains (negation_mentions n) (of_cell 0 0 name)
negation_cell n name e =
    let o = out-Negation n in
    subst (λ ms. Contains ms (of_cell 0 0 name)) (sym (mentions_Negation n)) (predicate_cell o.predicate name (unless_some o.negated (predicate_base o.predicate) name (sym (column_Negation n) ∙ e)))

conjunction_cell : (x : Conjunction) (name : NameBytes) → (conjunction_base x).column ≡ Some name → Contains (conjunction_mentions x) (of_cell 0 0 name)
conjunction_cell x name e =
    subst (λ ms. Contains ms (of_cell 0 0 name)) (sym (mentions_Conjunction x)) (one_cell (λ n. (negation_base n).column) negation_mentions (out-Conjunction x).every name (λ n is. negation_cell n name is) (sym (column_Conjunction x) ∙ e))

expr_cell : (x : Expr) (name : NameBytes) → (expr_base x).column ≡ Some name → Contains (expr_mentions x) (of_cell 0 0 name)
expr_cell x name e =
    subst (λ ms. Contains ms (of_cell 0 0 name)) (sym (mentions_Expr x)) (one_cell (λ k. (conjunction_base k).column) conjunction_mentions (out-Expr x).any name (λ k is. conjunction_cell k name is) (sym (column_Expr x) ∙ e))

item_cell : (x : SelectItem) (name : NameBytes) → select_item_base x ≡ Some name → Contains (select_item_mentions x) (of_cell 0 0 name)
item_cell (items.Expr x as_name) name e = subst (λ ms. Contains ms (of_cell 0 0 name)) (sym (mentions_SelectItem_Expr x as_name)) (expr_cell x name (sym (item_Expr x as_name) ∙ e))
item_cell (items.QualifiedStar q) name e = let odd : None ≡ Some name = sym (item_QualifiedStar q) ∙ e in absurd (cc odd)

-- all columns of a list that has all
column_added : (name : NameBytes) (os : List (Option NameBytes)) (columns : List NameBytes) (rest : Option (List NameBytes)) → ((cs : List NameBytes) → rest ≡ Some cs → os ≡ map Some cs) → with_column name rest ≡ Some columns → Some name ∷ os ≡ map Some columns
column_added name os columns None each e = absurd (cc e)
column_added name os columns (Some cs) each e = let same : name ∷ cs ≡ columns = cc e in ap (λ l. Some name ∷ l) (each cs refl) ∙ ap (map Some) same

columns_all : (os : List (Option NameBytes)) (columns : List NameBytes) → all_columns os ≡ Some columns → os ≡ map Some columns
columns_all [] columns e = let same : [] ≡ columns = cc e in ap (map Some) same
columns_all (None ∷ os) columns e = absurd (cc e)
columns_all (Some name ∷ os) columns e = column_added name os columns (all_columns os) (λ cs is. columns_all os cs is) e

from_map : {A B : Type 0} (f : A → B) (o : Option A) (y : B) → option_map f o ≡ Some y → (x : A) × (o ≡ Some x) × (f x ≡ y)
from_map f None y e = absurd (cc e)
from_map f (Some x) y e = let same : f x ≡ y = cc e in (x, refl, same)

some_item : (xs : List SelectItem) (columns : List NameBytes) (k : ℕ) (name : NameBytes) → all_columns (map select_item_base xs) ≡ Some columns → slice_get columns k ≡ Some name → Contains (all_mentions (map select_item_mentions xs)) (of_cell 0 0 name)
some_item xs columns k name all at =
    let there : option_map select_item_base (slice_get xs k) ≡ Some (Some name) =
    sym (slice_get-map select_item_base xs k) ∙ ap (λ os. slice_get os k) (columns_all (map select_item_base xs) columns all) ∙ slice_get-map Some columns k ∙ ap (option_map Some) at in
    let found = from_map select_item_base (slice_get xs k) (Some name) there in
    let inside : Contains xs found.0 = (k, slice_get_within xs k found.0 found.1, get_or_from_slice_get xs k found.0 found.0 found.1) in
    subst (λ ms. Contains ms (of_cell 0 0 name)) (sym (flat_map-map (λ part. part) select_item_mentions xs)) (Contains-flat_map select_item_mentions xs found.0 (of_cell 0 0 name) inside (item_cell found.0 name found.2))

abbrev OpenList : Type 0
OpenList = SelectList-F Join Operand SelectItem SelectList Tail Added Arm Chain Conjunction Expr Factor Further Multiplied Negation Predicate Query Select Sum Term

abbrev ShowsColumn : SelectList → Type 0
ShowsColumn l = (columns : List NameBytes) (k : ℕ) (name : NameBytes) → select_list_base l ≡ Some columns → slice_get columns k ≡ Some name → Contains (select_list_mentions l) (of_cell 0 0 name)

layer_shows : (z : OpenList) → ShowsColumn (roll-SelectList z)
unfolding roll-SelectList select_list_base denote.Hole.Carrier.roll
layer_shows SelectList-F.Star columns k name e at = let odd : None ≡ Some columns = sym list_Star ∙ e in absurd (cc odd)
layer_shows (SelectList-F.Listed xs) columns k name e at = subst (λ ms. Contains ms (of_cell 0 0 name)) (sym (mentions_SelectList_Listed xs)) (some_item xs columns k name (sym (list_Listed xs) ∙ e) at)

shows : (l : SelectList) → ShowsColumn l
shows l = subst ShowsColumn (roll-out-SelectList l) (layer_shows (out-SelectList l))

column_mentioned : (q : Query) (plain : Base) (k : ℕ) (name : NameBytes) → base_of q ≡ Some plain → slice_get plain.columns k ≡ Some name → Contains (query_mentions q) (of_column plain.table name)
column_mentioned q plain k name e at =
    let o = out-Select (out-Query q).first in
    let inside = in_query q plain e in
    let cell = shows o.list plain.columns k name (one_table q plain e).3 at in
    let chained = flat_map (λ c. c.1) (map chain_mentions o.from) in
    let filtered = optional_mentions (option_map expr_mentions o.filter) in
    let in_body : Contains (body_of q) (of_cell 0 0 name) =
    Contains-append_left (select_list_mentions o.list ++ chained ++ filtered) (flat_map reference_mentions o.group_by) (of_cell 0 0 name)
    (Contains-append_left (select_list_mentions o.list ++ chained) filtered (of_cell 0 0 name) (Contains-append_left (select_list_mentions o.list) chained (of_cell 0 0 name) cell)) in
    inside.1 (of_column plain.table name)
    (Contains-append_left (flat_map (seen_outside (Qualified plain.table ∷ inside.0)) (body_of q)) (unused_tables 0 (Qualified plain.table ∷ inside.0) (body_of q)) (of_column plain.table name)
    (Contains-flat_map (seen_outside (Qualified plain.table ∷ inside.0)) (body_of q) (of_cell 0 0 name) (of_column plain.table name) in_body (Contains-head (of_column plain.table name) [])))

-- a plain view needs SELECT on each column of its base that it shows
pub column_needed : (v : View) (base : Object) (k : ℕ) (name : NameBytes) → HasDerivedFields (item.View v) → v.base ≡ Some base → slice_get v.base_columns k ≡ Some name → Contains v.needs (column_need action.Select base name)
column_needed v base k name derived e at =
    let plain = has_base (base_of v.query) base v.base_columns (subst (λ b. HasBase (base_of v.query) b v.base_columns) e derived.1) in
    let mention = column_mentioned v.query plain.0 k name plain.1 (ap (λ columns. slice_get columns k) (sym plain.3) ∙ at) in
    let need = Contains-flat_map (mention_needs action.Select) (query_mentions v.query) (of_column plain.0.table name) (column_need action.Select plain.0.table name) mention (Contains-head (column_need action.Select plain.0.table name) []) in
    subst (λ o. Contains v.needs (column_need action.Select o name)) plain.2 ((derived.0.members (column_need action.Select plain.0.table name)).1 need)
