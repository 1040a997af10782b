-- A plain view needs SELECT on its base, or on a column of it.
use Rattle.std.proofs.Common.{◌≡◌, ◌⊎◌, inl, inr, zero, suc, ◌==◌, Bool, true, false, List, [], ◌∷◌, ◌++◌, length, map, Option, Some, None, ap, sym, refl, subst, ◌∙◌}
use Rattle.std.specs.Prelude.{◌||◌, if◌then◌else◌, cond, flat_map, option_map}
use Rattle.std.specs.List.{Contains, list_any}
use Rattle.std.proofs.lemmas.Bool.{cases_Bool, eqb-true}
use Rattle.std.proofs.lemmas.List.Elements.{Contains-append_left, Contains-append_right}
use Rattle.finite_chains.proofs.Members.{Contains-head, Contains-tail}
use Rattle.sql_names.specs.NameBytes.{NameBytes}
use Rattle.sql_names.specs.declared.column.ObjectName.{ObjectName}
use Rattle.sql_names.specs.declared.column.ObjectName.TheVariants.{Unqualified, Qualified}
use Rattle.sql_names.specs.declared.column.Reference.{Reference}
use Rattle.sql_names.specs.declared.object.Object.{Object}
use Rattle.sql_tree.specs.declared.expr.Chain.{Chain, out-Chain}
use Rattle.sql_tree.specs.declared.expr.Query.{Query, out-Query}
use Rattle.sql_tree.specs.declared.expr.Select.{out-Select}
use Rattle.sql_tree.specs.declared.rights.Action.TheVariants as action
use Rattle.cat_items.specs.declared.item.View.{View}
use Rattle.cat_items.specs.declared.item.Item.TheVariants as item
use Rattle.cat_items.specs.declared.need.Need.{Need}
use Rattle.cat_items.specs.Mentions.{Mention, Mentions, of_cell, of_column, of_table, of_routine, all_mentions, optional_mentions, reference_mentions, seen_outside, is_of_place, unused_tables, table_mentions, closed_mentions, expr_mentions, query_mentions}
use Rattle.cat_items.specs.Needs.{mention_needs, column_need, object_need}
use Rattle.cat_items.specs.Plain.{Base, HasBase, base_of, base_from, plain_select, object_of, optional_simple}
use Rattle.cat_items.specs.Rights.{path_of}
use Rattle.cat_items.specs.Shape.{HasDerivedFields}
use Rattle.plain_needs.proofs.FlatMembers.{Contains-flat_map}
use Rattle.plain_views.specs.Alone.{chain_base, expr_base, select_base, select_list_base}
use Rattle.plain_views.proofs.BaseEquations.{base_Chain, base_Query, base_Select}
use Rattle.tree_needs.specs.Mentioned.{chain_mentions, further_mentions, join_mentions, select_mentions, select_list_mentions}
use Rattle.tree_needs.proofs.MentionEquations.{mentions_Chain, mentions_Query, mentions_Select}

-- ---- the table of a plain query

pub has_base : (o : Option Base) (base : Object) (columns : List NameBytes) → HasBase o (Some base) columns → (plain : Base) × (o ≡ Some plain) × (plain.table ≡ base) × (columns ≡ plain.columns)
has_base None base columns h = let odd : Some base ≡ None = h.0 in absurd (cc odd)
has_base (Some plain) base columns (inl h) = let e : Some base ≡ Some plain.table = h.1 in let same : plain.table ≡ base = cc e in (plain, refl, same, h.2)
has_base (Some plain) base columns (inr h) = let odd : Some base ≡ None = h.1 in absurd (cc odd)

pub if_some : {X : Type 0} (b : Bool) (o : Option X) (x : X) → (if b then o else None) ≡ Some x → o ≡ Some x
if_some true o x e = e
if_some false o x e = absurd (cc e)

plain_some : (distinct simple : Bool) (groups : List Reference) (o : Option Base) (plain : Base) → plain_select distinct simple groups o ≡ Some plain → o ≡ Some plain
plain_some false true [] o plain e = e
plain_some false true (g ∷ groups) o plain e = absurd (cc e)
plain_some false false groups o plain e = absurd (cc e)
plain_some true simple groups o plain e = absurd (cc e)

from_some : (tables : List (Option Object)) (columns : Option (List NameBytes)) (plain : Base) → base_from tables columns ≡ Some plain → (tables ≡ Some plain.table ∷ []) × (columns ≡ Some plain.columns)
from_some [] columns plain e = absurd (cc e)
from_some (None ∷ tables) columns plain e = absurd (cc e)
from_some (Some table ∷ []) None plain e = absurd (cc e)
from_some (Some table ∷ []) (Some columns) plain e =
    let same : record { table = table; columns = columns } ≡ plain = cc e in
    (ap (λ (b : Base). Some b.table ∷ []) same, ap (λ (b : Base). Some b.columns) same)
from_some (Some table ∷ other ∷ tables) columns plain e = absurd (cc e)

qualified : (name : ObjectName) (o : Object) → object_of name ≡ Some o → name ≡ Qualified o
qualified (Qualified other) o e = let same : other ≡ o = cc e in ap Qualified same
qualified (Unqualified n) o e = absurd (cc e)

one_chain : (chains : List Chain) (table : Object) → map chain_base chains ≡ Some table ∷ [] → (chain : Chain) × (chains ≡ chain ∷ []) × (chain_base chain ≡ Some table)
one_chain [] table e = absurd (cc e)
one_chain (chain ∷ []) table e = let same : chain_base chain ≡ Some table = cc e in (chain, refl, same)
one_chain (chain ∷ other ∷ chains) table e = absurd (cc e)

-- a plain query's FROM has this one table, and each of its items is a column
pub one_table : (q : Query) (plain : Base) → base_of q ≡ Some plain → (chain : Chain) × ((out-Select (out-Query q).first).from ≡ chain ∷ []) × ((out-Chain chain).first.table ≡ Qualified plain.table) × (select_list_base (out-Select (out-Query q).first).list ≡ Some plain.columns)
one_table q plain e =
    let select = (out-Query q).first in
    let of_select : select_base select ≡ Some plain = if_some (length (out-Query q).others == 0) (select_base select) plain (sym (base_Query q) ∙ e) in
    let of_from = plain_some (out-Select select).distinct (optional_simple (option_map expr_base (out-Select select).filter)) (out-Select select).group_by (base_from (map chain_base (out-Select select).from) (select_list_base (out-Select select).list)) plain (sym (base_Select select) ∙ of_select) in
    let parts = from_some (map chain_base (out-Select select).from) (select_list_base (out-Select select).list) plain of_from in
    let one = one_chain (out-Select select).from plain.table parts.0 in
    let object = if_some (length (out-Chain one.0).joins == 0) (object_of (out-Chain one.0).first.table) plain.table (sym (base_Chain one.0) ∙ one.2) in
    (one.0, one.1, qualified (out-Chain one.0).first.table plain.table object, parts.1)

-- ---- what mentions it

abbrev IsOf : Object → Mention → Type 0
IsOf o m = (m ≡ of_table o) ⊎ ((name : NameBytes) × (m ≡ of_column o name))

of_place : (body : Mentions) → ((m : Mention) × Contains body m × (is_of_place 0 m ≡ true)) ⊎ (list_any (is_of_place 0) body ≡ false)
of_place [] = inr refl
of_place (m ∷ body) =
    elim (cases_Bool (is_of_place 0 m)) [
      | inl e ↦ inl (m, Contains-head m body, e)
      | inr e ↦ (elim (of_place body) [
        | inl found ↦ inl (found.0, Contains-tail m body found.0 found.1, found.2)
        | inr none ↦ inr (ap (λ b. b || list_any (is_of_place 0) body) e ∙ none)
      ])
    ]

module _ (o : Object) (tables : List ObjectName) where
  seen : (m : Mention) → is_of_place 0 m ≡ true → (n : Mention) × Contains (seen_outside (Qualified o ∷ tables) m) n × IsOf o n
  seen (of_cell zero place name) e =
      let first : place ≡ 0 = eqb-true place 0 e in
      (of_column o name, subst (λ k. Contains (seen_outside (Qualified o ∷ tables) (of_cell zero k name)) (of_column o name)) (sym first) (Contains-head (of_column o name) []), inr (name, refl))
  seen (of_cell (suc up) place name) e = absurd (cc e)
  seen (of_column other name) e = absurd (cc e)
  seen (of_table other) e = absurd (cc e)
  seen (of_routine other) e = absurd (cc e)

  closed : (body : Mentions) → (n : Mention) × Contains (closed_mentions (Qualified o ∷ tables) body) n × IsOf o n
  closed body =
      elim (of_place body) [
        | inl found ↦ (
            let outside = seen found.0 found.2 in
            (outside.0, Contains-append_left (flat_map (seen_outside (Qualified o ∷ tables)) body) (unused_tables 0 (Qualified o ∷ tables) body) outside.0 (Contains-flat_map (seen_outside (Qualified o ∷ tables)) body found.0 outside.0 found.1 outside.1), outside.2))
        | inr none ↦ (
            let here : Contains (cond (list_any (is_of_place 0) body) [] (table_mentions (Qualified o))) (of_table o) = subst (λ b. Contains (cond b [] (table_mentions (Qualified o))) (of_table o)) (sym none) (Contains-head (of_table o) []) in (
              of_table o,
              Contains-append_right (flat_map (seen_outside (Qualified o ∷ tables)) body) (unused_tables 0 (Qualified o ∷ tables) body) (of_table o)
                  (Contains-append_left (cond (list_any (is_of_place 0) body) [] (table_mentions (Qualified o))) (unused_tables 1 tables body) (of_table o) here),
              inl refl,
            ))
      ]

-- what the parts of a SELECT mention
abbrev pub body_of : Query → Mentions
body_of q =
    let select = (out-Query q).first in
    select_list_mentions (out-Select select).list ++ flat_map (λ c. c.1) (map chain_mentions (out-Select select).from) ++ optional_mentions (option_map expr_mentions (out-Select select).filter) ++ flat_map reference_mentions (out-Select select).group_by

-- what these mention, seen from outside, the query mentions
pub in_query : (q : Query) (plain : Base) → base_of q ≡ Some plain → (names : List ObjectName) × ((n : Mention) → Contains (closed_mentions (Qualified plain.table ∷ names) (body_of q)) n → Contains (query_mentions q) n)
in_query q plain e =
    let select = (out-Query q).first in
    let one = one_table q plain e in
    let chains = (out-Select select).from in
    let names : List ObjectName = map (λ j. j.0) (map join_mentions (out-Chain one.0).joins) in
    let first : (chain_mentions one.0).0 ≡ Qualified plain.table ∷ names = ap (λ c. c.0) (mentions_Chain one.0) ∙ ap (λ t. t ∷ names) one.2 in
    let tables : flat_map (λ c. c.0) (map chain_mentions chains) ≡ Qualified plain.table ∷ (names ++ []) = ap (λ cs. flat_map (λ c. c.0) (map chain_mentions cs)) one.1 ∙ ap (λ ts. ts ++ []) first in (
      names ++ [],
      λ n h.
          let in_select : Contains (select_mentions select) n = subst (λ ms. Contains ms n) (sym (mentions_Select select ∙ ap (λ ts. closed_mentions ts (body_of q)) tables)) h in
          subst (λ ms. Contains ms n) (sym (mentions_Query q)) (Contains-append_left (select_mentions select) (all_mentions (map further_mentions (out-Query q).others)) n in_select),
    )

mentioned : (q : Query) (plain : Base) → base_of q ≡ Some plain → (n : Mention) × Contains (query_mentions q) n × IsOf plain.table n
mentioned q plain e =
    let inside = in_query q plain e in
    let found = closed plain.table inside.0 (body_of q) in
    (found.0, inside.1 found.0 found.1, found.2)

-- ---- and so is needed

mention_need : (o : Object) (m : Mention) → IsOf o m → (need : Need) × Contains (mention_needs action.Select m) need × (need.action ≡ action.Select) × (need.on ≡ path_of o)
mention_need o m (inl e) = (object_need action.Select o, subst (λ n. Contains (mention_needs action.Select n) (object_need action.Select o)) (sym e) (Contains-head (object_need action.Select o) []), refl, refl)
mention_need o m (inr e) = (column_need action.Select o e.0, subst (λ n. Contains (mention_needs action.Select n) (column_need action.Select o e.0)) (sym e.1) (Contains-head (column_need action.Select o e.0) []), refl, refl)

pub base_needed : (v : View) (base : Object) → HasDerivedFields (item.View v) → v.base ≡ Some base → (need : Need) × Contains v.needs need × (need.action ≡ action.Select) × (need.on ≡ path_of base)
base_needed v base derived e =
    let plain = has_base (base_of v.query) base v.base_columns (subst (λ b. HasBase (base_of v.query) b v.base_columns) e derived.1) in
    let mention = mentioned v.query plain.0 plain.1 in
    let need = mention_need plain.0.table mention.0 mention.2 in
    let inside = (derived.0.members need.0).1 (Contains-flat_map (mention_needs action.Select) (query_mentions v.query) mention.0 need.0 mention.1 need.1) in
    (need.0, inside, need.2, need.3 ∙ ap path_of plain.2)
