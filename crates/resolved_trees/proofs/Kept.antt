-- What resolves of a formed tree is named, layer by layer.
use Rattle.std.proofs.Common.{◌≡◌, ℕ, suc, ◌+◌, ◌<◌, Bool, List, [], ◌∷◌, ◌++◌, Option, Some, None, Ok, length, map, arith, ap, sym, ◌∙◌, subst, inl, inr, ◌⊎◌}
use Rattle.std.specs.Prelude.{option_map}
use Rattle.sql_tree.specs.declared.expr.Join.{Join, roll-Join, map-Join}
use Rattle.sql_tree.specs.declared.expr.Join.TheVariants as joins
use Rattle.sql_tree.specs.declared.expr.Operand.{Operand, roll-Operand, map-Operand}
use Rattle.sql_tree.specs.declared.expr.SelectItem.{SelectItem, roll-SelectItem, map-SelectItem}
use Rattle.sql_tree.specs.declared.expr.SelectList.{SelectList, roll-SelectList, map-SelectList}
use Rattle.sql_tree.specs.declared.expr.SelectList.TheVariants as lists
use Rattle.sql_tree.specs.declared.expr.Tail.{Tail, roll-Tail, map-Tail}
use Rattle.sql_tree.specs.declared.expr.Added.{Added, roll-Added, map-Added}
use Rattle.sql_tree.specs.declared.expr.Arm.{Arm, roll-Arm, map-Arm}
use Rattle.sql_tree.specs.declared.expr.Chain.{Chain, roll-Chain, map-Chain}
use Rattle.sql_tree.specs.declared.expr.Conjunction.{Conjunction, roll-Conjunction, map-Conjunction}
use Rattle.sql_tree.specs.declared.expr.Expr.{Expr, roll-Expr, map-Expr, ind-Expr}
use Rattle.sql_tree.specs.declared.expr.Factor.{Factor, roll-Factor, map-Factor}
use Rattle.sql_tree.specs.declared.expr.Further.{Further, roll-Further, map-Further}
use Rattle.sql_tree.specs.declared.expr.Multiplied.{Multiplied, roll-Multiplied, map-Multiplied}
use Rattle.sql_tree.specs.declared.expr.Negation.{Negation, roll-Negation, map-Negation}
use Rattle.sql_tree.specs.declared.expr.Predicate.{Predicate, roll-Predicate, map-Predicate}
use Rattle.sql_tree.specs.declared.expr.Query.{Query, roll-Query, map-Query, ind-Query}
use Rattle.sql_tree.specs.declared.expr.Select.{Select, roll-Select, map-Select}
use Rattle.sql_tree.specs.declared.expr.Sum.{Sum, roll-Sum, map-Sum}
use Rattle.sql_tree.specs.declared.expr.Term.{Term, roll-Term, map-Term}
use Rattle.sql_tree.specs.declared.expr.Join.TheOpen.{Join-F, Operand-F, SelectItem-F, SelectList-F, Tail-F, Added-F, Arm-F, Chain-F, Conjunction-F, Expr-F, Factor-F, Further-F, Multiplied-F, Negation-F, Predicate-F, Query-F, Select-F, Sum-F, Term-F}
use Rattle.sql_tree.specs.declared.expr.Comparison.{Comparison}
use Rattle.sql_tree.specs.declared.expr.Aggregate.{Aggregate}
use Rattle.sql_tree.specs.declared.expr.Additive.{Additive}
use Rattle.sql_tree.specs.declared.expr.Multiplicative.{Multiplicative}
use Rattle.sql_tree.specs.declared.expr.SetOperator.{SetOperator}
use Rattle.sql_names.specs.declared.sort.SqlType.{SqlType}
use Rattle.sql_names.specs.declared.sort.Special.{Special}
use Rattle.sql_names.specs.declared.column.Reference.{Reference}
use Rattle.sql_names.specs.declared.column.ObjectName.{ObjectName}
use Rattle.sql_names.specs.declared.column.TableReference.{TableReference}
use Rattle.sql_names.specs.NameBytes.{NameBytes}
use Rattle.name_scopes.specs.declared.frames.Frame.{Frame}
use Rattle.name_scopes.specs.declared.scope.Scope.{Scope}
use Rattle.name_scopes.specs.Frames.{Frames, whole, empty}
use Rattle.name_scopes.specs.Known.{Known}
use Rattle.name_scopes.specs.Outcomes.{Adds, Lists, each, thread, listed}
use Rattle.name_scopes.specs.Single.{reference, item, item_name}
use Rattle.query_names.specs.Names.{join, operand, select_item, select_list, tail, added, arm, chain, conjunction, expr, factor, further, multiplied, negation, predicate, query, select, sum, term}
use Rattle.cat_items.specs.Pieces.{Pieces, IsFormed, of_group, all_pieces, some_pieces, optional_pieces, table_pieces, expr_pieces, query_pieces}
use Rattle.resolved_trees.specs.TreePieces.{join_pieces, operand_pieces, select_item_pieces, select_list_pieces, tail_pieces, added_pieces, arm_pieces, chain_pieces, conjunction_pieces, factor_pieces, further_pieces, multiplied_pieces, negation_pieces, predicate_pieces, select_pieces, sum_pieces, term_pieces}
use Rattle.resolved_trees.specs.Named.{IsNamed, HaveColumns}
use Rattle.resolved_trees.proofs.Everies.{Every, every_append, every_left, every_right, gather, firsts}
use Rattle.resolved_trees.proofs.Outcomes.{bound, ok_is, Formed, Named, Keeps, KeepsOptional, some_mapped, some_kept, all_kept, perhaps_kept}
use Rattle.resolved_trees.proofs.Singles.{AreKnown, AreItems, Goes, reference_stands, function_stands, joined_kept, opened_kept, star_kept, table_star_kept}
use Rattle.resolved_trees.proofs.NameEquations.{names_Join_Inner, names_Join_Cross, names_Operand_Literal, names_Operand_Number, names_Operand_True, names_Operand_False, names_Operand_Special, names_Operand_Value, names_Operand_Reference, names_Operand_Call, names_Operand_CountAll, names_Operand_Aggregate, names_Operand_Case, names_Operand_Cast, names_Operand_Exists, names_Operand_Subquery, names_Operand_Parenthesized, names_SelectItem_Expr, names_SelectItem_QualifiedStar, names_SelectList_Star, names_SelectList_Listed, names_Tail_Compare, names_Tail_IsNull, names_Tail_Between, names_Tail_InQuery, names_Tail_InList, names_Tail_Like, names_Added, names_Arm, names_Chain, names_Conjunction, names_Expr, names_Factor, names_Further, names_Multiplied, names_Negation, names_Predicate, names_Query, names_Select, names_Sum, names_Term}
use Rattle.resolved_trees.proofs.PieceEquations.{pieces_Join_Inner, pieces_Operand_Literal, pieces_Operand_Number, pieces_Operand_True, pieces_Operand_False, pieces_Operand_Special, pieces_Operand_Value, pieces_Operand_Reference, pieces_Operand_Call, pieces_Operand_CountAll, pieces_Operand_Aggregate, pieces_Operand_Case, pieces_Operand_Cast, pieces_Operand_Exists, pieces_Operand_Subquery, pieces_Operand_Parenthesized, pieces_SelectItem_Expr, pieces_SelectList_Listed, pieces_Tail_Compare, pieces_Tail_IsNull, pieces_Tail_Between, pieces_Tail_InQuery, pieces_Tail_InList, pieces_Tail_Like, pieces_Added, pieces_Arm, pieces_Chain, pieces_Conjunction, pieces_Expr, pieces_Factor, pieces_Further, pieces_Multiplied, pieces_Negation, pieces_Predicate, pieces_Query, pieces_Select, pieces_Sum, pieces_Term, pieces_of_Join_Inner, pieces_of_Join_Cross, pieces_of_Operand_Literal, pieces_of_Operand_Number, pieces_of_Operand_True, pieces_of_Operand_False, pieces_of_Operand_Special, pieces_of_Operand_Value, pieces_of_Operand_Reference, pieces_of_Operand_Call, pieces_of_Operand_CountAll, pieces_of_Operand_Aggregate, pieces_of_Operand_Case, pieces_of_Operand_Cast, pieces_of_Operand_Exists, pieces_of_Operand_Subquery, pieces_of_Operand_Parenthesized, pieces_of_SelectItem_Expr, pieces_of_SelectList_Listed, pieces_of_Tail_Compare, pieces_of_Tail_IsNull, pieces_of_Tail_Between, pieces_of_Tail_InQuery, pieces_of_Tail_InList, pieces_of_Tail_Like}

-- a part of a FROM, whose tables are known
abbrev pub KeepsFrom : {X : Type 0} → Known → (X → Pieces) → (X → Adds X) → X → Type 0
KeepsFrom {X} k pieces parse x = (f : Frame) (fs : Frames) (out : X) (after : Frames) → AreKnown k f.tables → Formed (pieces x) → parse x (f ∷ fs) ≡ Ok (out, after) → Named (pieces out) × Goes k fs after

-- parts of a FROM: it has a table where it had one, or where there is a part
record Threaded {X : Type 0} (k : Known) (pieces : X → Pieces) (f : Frame) (outer : Frames) (size : ℕ) (parts : ℕ) (out : List X) (after : Frames) : Type 0 where
  pub named : Every (λ x. Named (pieces x)) out
  pub length_is : length out ≡ size + parts
  pub frame : Frame
  pub is : after ≡ frame ∷ outer
  pub known : AreKnown k frame.tables
  pub some : (0 < length f.tables) ⊎ (0 < parts) → 0 < length frame.tables

gone : {X : Type 0} {k : Known} {pieces : X → Pieces} {f : Frame} {outer : Frames} {size parts : ℕ} {out : List X} {after : Frames} → Threaded k pieces f outer size parts out after → (0 < length f.tables) ⊎ (0 < parts) → Goes k outer after
gone t some = record { frame = t.frame; is = t.is; known = t.known; some = t.some some }

pushed_length : {X : Type 0} (before : List X) (y : X) (n : ℕ) → length (before ++ y ∷ []) + n ≡ length before + suc n
pushed_length [] y n = omega arith
pushed_length (z ∷ before) y n = let rest = pushed_length before y n in omega (arith, rest)

thread_kept : {X : Type 0} (k : Known) (pieces : X → Pieces) (parse : X → Adds X) (xs : List X) (f : Frame) (fs : Frames) (before out : List X) (after : Frames) → AreKnown k f.tables → Every (KeepsFrom k pieces parse) xs → Formed (all_pieces (map pieces xs)) → thread before (map parse xs) (f ∷ fs) ≡ Ok (out, after) → Every (λ x. Named (pieces x)) before → Threaded k pieces f fs (length before) (length xs) out after
thread_kept {X} k pieces parse [] f fs before out after known h formed e n =
    let pair : ◌≡◌ {A = List X × Frames} (before, f ∷ fs) (out, after) = ok_is _ _ e in record {
      named = subst (Every (λ x. Named (pieces x))) (ap (λ p. p.0) pair) n;
      length_is = ap length (sym (ap (λ p. p.0) pair)) ∙ omega arith;
      frame = f;
      is = sym (ap (λ p. p.1) pair);
      known = known;
      some = λ c. elim c [ inl low ↦ low | inr low ↦ absurd (omega (arith, low)) ];
    }
thread_kept {X} k pieces parse (x ∷ xs) f fs before out after known h formed e n =
    let b = bound _ _ _ e in
    let now = h.0 f fs b.0.0 b.0.1 known (every_left IsFormed (pieces x) (all_pieces (map pieces xs)) formed) b.1 in
    let goes = now.1 in
    let rest = thread_kept k pieces parse xs goes.frame fs (before ++ b.0.0 ∷ []) out after goes.known h.1 (every_right IsFormed (pieces x) (all_pieces (map pieces xs)) formed)
    (subst (λ z. thread (before ++ b.0.0 ∷ []) (map parse xs) z ≡ Ok (out, after)) goes.is b.2) (every_append (λ y. Named (pieces y)) before (b.0.0 ∷ []) n (now.0, tt)) in record {
      named = rest.named;
      length_is = rest.length_is ∙ pushed_length before b.0.0 (length xs);
      frame = rest.frame;
      is = rest.is;
      known = rest.known;
      some = λ c. rest.some (inl goes.some);
    }

-- an item, or the items of a star
abbrev pub KeepsItems : Known → (SelectItem → Lists SelectItem) → SelectItem → Type 0
KeepsItems k parse x = (f : Frame) (fs : Frames) (position : ℕ) (out : List SelectItem) → AreKnown k f.tables → Formed (select_item_pieces x) → parse x (f ∷ fs) position ≡ Ok out → AreItems out

abbrev NamedItem : SelectItem → Type 0
NamedItem i = Named (select_item_pieces i)

some_behind : {A : Type 0} (xs ys : List A) → 0 < length ys → 0 < length (xs ++ ys)
some_behind [] ys low = low
some_behind (x ∷ xs) ys low = omega arith

some_before : {A : Type 0} (xs ys : List A) → 0 < length xs → 0 < length (xs ++ ys)
some_before [] ys low = absurd (omega (arith, low))
some_before (x ∷ xs) ys low = omega arith

listed_kept : (k : Known) (parse : SelectItem → Lists SelectItem) (xs : List SelectItem) (f : Frame) (fs : Frames) (before out : List SelectItem) → AreKnown k f.tables → Every (KeepsItems k parse) xs → Formed (all_pieces (map select_item_pieces xs)) → listed (f ∷ fs) before (map parse xs) ≡ Ok out → Every NamedItem before → (0 < length before) ⊎ (0 < length xs) → AreItems out
listed_kept k parse [] f fs before out known h formed e n some = subst AreItems (ok_is before out e) (n, elim some [ inl low ↦ low | inr low ↦ absurd (omega (arith, low)) ])
listed_kept k parse (x ∷ xs) f fs before out known h formed e n some =
    let b = bound _ _ _ e in
    let now = h.0 f fs (length before + 1) b.0 known (every_left IsFormed (select_item_pieces x) (all_pieces (map select_item_pieces xs)) formed) b.1 in
    listed_kept k parse xs f fs (before ++ b.0) out known h.1 (every_right IsFormed (select_item_pieces x) (all_pieces (map select_item_pieces xs)) formed) b.2 (every_append NamedItem before b.0 n now.0) (inl (some_behind before b.0 now.1))

has_items : (is : List SelectItem) → 0 < length (map select_item_pieces is) → (0 < 0) ⊎ (0 < length is)
has_items [] low = absurd (omega (arith, low))
has_items (i ∷ is) low = inr (omega arith)

items_length : (is : List SelectItem) → 0 < length is → 0 < length (map select_item_pieces is)
items_length [] low = absurd (omega (arith, low))
items_length (i ∷ is) low = omega arith

none_before : (n : ℕ) → 0 + n ≡ n
none_before n = omega arith

some_of : (from : List Chain) → 0 < length (map chain_pieces from) → 0 < length from
some_of [] low = absurd (omega (arith, low))
some_of (c ∷ cs) low = omega arith

groups_kept : (k : Known) (scope : Scope) (gs : List Reference) (s : Frames) (before out : List Reference) → each s before (map (reference k scope) gs) ≡ Ok out → Named (map of_group before) → Named (map of_group out)
groups_kept k scope [] s before out e n = subst (λ z. Named (map of_group z)) (ok_is before out e) n
groups_kept k scope (g ∷ gs) s before out e n =
    let b = bound _ _ _ e in
    groups_kept k scope gs s (before ++ b.0 ∷ []) out b.2 (pushed before b.0 n (reference_stands k scope g s b.0 b.1))
  where
    pushed : (before : List Reference) (r : Reference) → Named (map of_group before) → IsNamed (of_group r) → Named (map of_group (before ++ r ∷ []))
    pushed [] r n p = (p, tt)
    pushed (z ∷ before) r n p = (n.0, pushed before r n.1 p)

module _ (k : Known) (scope : Scope) (wide : HaveColumns k) where
  abbrev pub Keeps-Join : Join → Type 0
  Keeps-Join x = KeepsFrom k join_pieces (join k scope) x

  abbrev pub Keeps-Operand : Operand → Type 0
  Keeps-Operand x = Keeps operand_pieces (operand k scope) x

  abbrev pub Keeps-SelectItem : SelectItem → Type 0
  Keeps-SelectItem x = KeepsItems k (select_item k scope) x

  abbrev pub Keeps-SelectList : SelectList → Type 0
  Keeps-SelectList x = (f : Frame) (fs : Frames) (out : SelectList) → AreKnown k f.tables → 0 < length f.tables → Formed (select_list_pieces x) → select_list k scope x (f ∷ fs) ≡ Ok out → Named (select_list_pieces out)

  abbrev pub Keeps-Tail : Tail → Type 0
  Keeps-Tail x = Keeps tail_pieces (tail k scope) x

  abbrev pub Keeps-Added : Added → Type 0
  Keeps-Added x = Keeps added_pieces (added k scope) x

  abbrev pub Keeps-Arm : Arm → Type 0
  Keeps-Arm x = Keeps arm_pieces (arm k scope) x

  abbrev pub Keeps-Chain : Chain → Type 0
  Keeps-Chain x = KeepsFrom k chain_pieces (chain k scope) x

  abbrev pub Keeps-Conjunction : Conjunction → Type 0
  Keeps-Conjunction x = Keeps conjunction_pieces (conjunction k scope) x

  abbrev pub Keeps-Expr : Expr → Type 0
  Keeps-Expr x = Keeps expr_pieces (expr k scope) x

  abbrev pub Keeps-Factor : Factor → Type 0
  Keeps-Factor x = Keeps factor_pieces (factor k scope) x

  abbrev pub Keeps-Further : Further → Type 0
  Keeps-Further x = Keeps further_pieces (further k scope) x

  abbrev pub Keeps-Multiplied : Multiplied → Type 0
  Keeps-Multiplied x = Keeps multiplied_pieces (multiplied k scope) x

  abbrev pub Keeps-Negation : Negation → Type 0
  Keeps-Negation x = Keeps negation_pieces (negation k scope) x

  abbrev pub Keeps-Predicate : Predicate → Type 0
  Keeps-Predicate x = Keeps predicate_pieces (predicate k scope) x

  abbrev pub Keeps-Query : Query → Type 0
  Keeps-Query x = Keeps query_pieces (query k scope) x

  abbrev pub Keeps-Select : Select → Type 0
  Keeps-Select x = Keeps select_pieces (select k scope) x

  abbrev pub Keeps-Sum : Sum → Type 0
  Keeps-Sum x = Keeps sum_pieces (sum k scope) x

  abbrev pub Keeps-Term : Term → Type 0
  Keeps-Term x = Keeps term_pieces (term k scope) x

  keep_Operand_Literal : (text' : List ℕ) → Keeps-Operand (roll-Operand (Operand-F.Literal text'))
  keep_Operand_Literal text' s out formed e =
      let f = subst Formed (pieces_Operand_Literal text') formed in
      subst (λ z. Named (operand_pieces z)) (ok_is _ _ (sym (names_Operand_Literal k scope text' s) ∙ e)) (subst Named (sym (pieces_of_Operand_Literal text')) f)

  keep_Operand_Number : (text' : List ℕ) → Keeps-Operand (roll-Operand (Operand-F.Number text'))
  keep_Operand_Number text' s out formed e =
      let f = subst Formed (pieces_Operand_Number text') formed in
      subst (λ z. Named (operand_pieces z)) (ok_is _ _ (sym (names_Operand_Number k scope text' s) ∙ e)) (subst Named (sym (pieces_of_Operand_Number text')) f)

  keep_Operand_True : Keeps-Operand (roll-Operand Operand-F.True)
  keep_Operand_True s out formed e =
      let f = subst Formed (pieces_Operand_True) formed in
      subst (λ z. Named (operand_pieces z)) (ok_is _ _ (sym (names_Operand_True k scope s) ∙ e)) (subst Named (sym (pieces_of_Operand_True)) tt)

  keep_Operand_False : Keeps-Operand (roll-Operand Operand-F.False)
  keep_Operand_False s out formed e =
      let f = subst Formed (pieces_Operand_False) formed in
      subst (λ z. Named (operand_pieces z)) (ok_is _ _ (sym (names_Operand_False k scope s) ∙ e)) (subst Named (sym (pieces_of_Operand_False)) tt)

  keep_Operand_Value : Keeps-Operand (roll-Operand Operand-F.Value)
  keep_Operand_Value s out formed e =
      let f = subst Formed (pieces_Operand_Value) formed in
      subst (λ z. Named (operand_pieces z)) (ok_is _ _ (sym (names_Operand_Value k scope s) ∙ e)) (subst Named (sym (pieces_of_Operand_Value)) tt)

  keep_Operand_CountAll : Keeps-Operand (roll-Operand Operand-F.CountAll)
  keep_Operand_CountAll s out formed e =
      let f = subst Formed (pieces_Operand_CountAll) formed in
      subst (λ z. Named (operand_pieces z)) (ok_is _ _ (sym (names_Operand_CountAll k scope s) ∙ e)) (subst Named (sym (pieces_of_Operand_CountAll)) tt)

  keep_Operand_Special : (special' : Special) → Keeps-Operand (roll-Operand (Operand-F.Special special'))
  keep_Operand_Special special' s out formed e =
      let f = subst Formed (pieces_Operand_Special special') formed in
      subst (λ z. Named (operand_pieces z)) (ok_is _ _ (sym (names_Operand_Special k scope special' s) ∙ e)) (subst Named (sym (pieces_of_Operand_Special special')) tt)

  keep_Operand_Reference : (r' : Reference) → Keeps-Operand (roll-Operand (Operand-F.Reference r'))
  keep_Operand_Reference r' s out formed e =
      let f = subst Formed (pieces_Operand_Reference r') formed in
      let b1 = bound _ _ _ (sym (names_Operand_Reference k scope r' s) ∙ e) in
      subst (λ z. Named (operand_pieces z)) (ok_is _ _ b1.2) (subst Named (sym (pieces_of_Operand_Reference b1.0)) (reference_stands k scope r' s b1.0 b1.1, tt))

  keep_Operand_Call : (f' : ObjectName) (es' : List Expr) → Every Keeps-Expr es' → Keeps-Operand (roll-Operand (Operand-F.Call f' es'))
  keep_Operand_Call f' es' h-es s out formed e =
      let f = subst Formed (pieces_Operand_Call f' es') formed in
      let b1 = bound _ _ _ (sym (names_Operand_Call k scope f' es' s) ∙ e) in
      let b2 = bound _ _ _ b1.2 in
      subst (λ z. Named (operand_pieces z)) (ok_is _ _ b2.2) (subst Named (sym (pieces_of_Operand_Call b1.0 b2.0)) (function_stands k scope f' b1.0 b1.1, (all_kept expr_pieces (expr k scope) es' s b2.0 h-es (f.1) b2.1)))

  keep_Operand_Aggregate : (by' : Aggregate) (e' : Expr) → Keeps-Expr e' → Keeps-Operand (roll-Operand (Operand-F.Aggregate by' e'))
  keep_Operand_Aggregate by' e' h-e s out formed e =
      let f = subst Formed (pieces_Operand_Aggregate by' e') formed in
      let b1 = bound _ _ _ (sym (names_Operand_Aggregate k scope by' e' s) ∙ e) in
      subst (λ z. Named (operand_pieces z)) (ok_is _ _ b1.2) (subst Named (sym (pieces_of_Operand_Aggregate by' b1.0)) (h-e s b1.0 (f) b1.1))

  keep_Operand_Case : (arms' : List Arm) (e' : Option Expr) → Every Keeps-Arm arms' → KeepsOptional expr_pieces (expr k scope) e' → Keeps-Operand (roll-Operand (Operand-F.Case arms' e'))
  keep_Operand_Case arms' e' h-arms h-e s out formed e =
      let f = subst Formed (pieces_Operand_Case arms' e') formed in
      let b1 = bound _ _ _ (sym (names_Operand_Case k scope arms' e' s) ∙ e) in
      let b2 = bound _ _ _ b1.2 in
      subst (λ z. Named (operand_pieces z)) (ok_is _ _ b2.2) (subst Named (sym (pieces_of_Operand_Case b1.0 b2.0)) (every_append IsNamed (some_pieces (map arm_pieces b1.0)) (optional_pieces (option_map expr_pieces b2.0)) (some_kept arm_pieces (arm k scope) arms' s b1.0 h-arms (every_left IsFormed (some_pieces (map arm_pieces arms')) (optional_pieces (option_map expr_pieces e')) f) b1.1) (perhaps_kept expr_pieces (expr k scope) e' s b2.0 h-e (every_right IsFormed (some_pieces (map arm_pieces arms')) (optional_pieces (option_map expr_pieces e')) f) b2.1)))

  keep_Operand_Cast : (e' : Option Expr) (sort' : SqlType) → KeepsOptional expr_pieces (expr k scope) e' → Keeps-Operand (roll-Operand (Operand-F.Cast e' sort'))
  keep_Operand_Cast e' sort' h-e s out formed e =
      let f = subst Formed (pieces_Operand_Cast e' sort') formed in
      let b1 = bound _ _ _ (sym (names_Operand_Cast k scope e' sort' s) ∙ e) in
      subst (λ z. Named (operand_pieces z)) (ok_is _ _ b1.2) (subst Named (sym (pieces_of_Operand_Cast b1.0 sort')) (f.0, (perhaps_kept expr_pieces (expr k scope) e' s b1.0 h-e (f.1) b1.1)))

  keep_Operand_Exists : (q' : Query) → Keeps-Query q' → Keeps-Operand (roll-Operand (Operand-F.Exists q'))
  keep_Operand_Exists q' h-q s out formed e =
      let f = subst Formed (pieces_Operand_Exists q') formed in
      let b1 = bound _ _ _ (sym (names_Operand_Exists k scope q' s) ∙ e) in
      subst (λ z. Named (operand_pieces z)) (ok_is _ _ b1.2) (subst Named (sym (pieces_of_Operand_Exists b1.0)) (tt, (h-q s b1.0 (f.1) b1.1)))

  keep_Operand_Subquery : (q' : Query) → Keeps-Query q' → Keeps-Operand (roll-Operand (Operand-F.Subquery q'))
  keep_Operand_Subquery q' h-q s out formed e =
      let f = subst Formed (pieces_Operand_Subquery q') formed in
      let b1 = bound _ _ _ (sym (names_Operand_Subquery k scope q' s) ∙ e) in
      subst (λ z. Named (operand_pieces z)) (ok_is _ _ b1.2) (subst Named (sym (pieces_of_Operand_Subquery b1.0)) (tt, (h-q s b1.0 (f.1) b1.1)))

  keep_Operand_Parenthesized : (e' : Expr) → Keeps-Expr e' → Keeps-Operand (roll-Operand (Operand-F.Parenthesized e'))
  keep_Operand_Parenthesized e' h-e s out formed e =
      let f = subst Formed (pieces_Operand_Parenthesized e') formed in
      let b1 = bound _ _ _ (sym (names_Operand_Parenthesized k scope e' s) ∙ e) in
      subst (λ z. Named (operand_pieces z)) (ok_is _ _ b1.2) (subst Named (sym (pieces_of_Operand_Parenthesized b1.0)) (h-e s b1.0 (f) b1.1))

  keep_Tail_Compare : (by' : Comparison) (x' : Sum) → Keeps-Sum x' → Keeps-Tail (roll-Tail (Tail-F.Compare by' x'))
  keep_Tail_Compare by' x' h-x s out formed e =
      let f = subst Formed (pieces_Tail_Compare by' x') formed in
      let b1 = bound _ _ _ (sym (names_Tail_Compare k scope by' x' s) ∙ e) in
      subst (λ z. Named (tail_pieces z)) (ok_is _ _ b1.2) (subst Named (sym (pieces_of_Tail_Compare by' b1.0)) (h-x s b1.0 (f) b1.1))

  keep_Tail_IsNull : (negated' : Bool) → Keeps-Tail (roll-Tail (Tail-F.IsNull negated'))
  keep_Tail_IsNull negated' s out formed e =
      let f = subst Formed (pieces_Tail_IsNull negated') formed in
      subst (λ z. Named (tail_pieces z)) (ok_is _ _ (sym (names_Tail_IsNull k scope negated' s) ∙ e)) (subst Named (sym (pieces_of_Tail_IsNull negated')) tt)

  keep_Tail_Between : (negated' : Bool) (x' : Sum) (y' : Sum) → Keeps-Sum x' → Keeps-Sum y' → Keeps-Tail (roll-Tail (Tail-F.Between negated' x' y'))
  keep_Tail_Between negated' x' y' h-x h-y s out formed e =
      let f = subst Formed (pieces_Tail_Between negated' x' y') formed in
      let b1 = bound _ _ _ (sym (names_Tail_Between k scope negated' x' y' s) ∙ e) in
      let b2 = bound _ _ _ b1.2 in
      subst (λ z. Named (tail_pieces z)) (ok_is _ _ b2.2) (subst Named (sym (pieces_of_Tail_Between negated' b1.0 b2.0)) (every_append IsNamed (sum_pieces b1.0) (sum_pieces b2.0) (h-x s b1.0 (every_left IsFormed (sum_pieces x') (sum_pieces y') f) b1.1) (h-y s b2.0 (every_right IsFormed (sum_pieces x') (sum_pieces y') f) b2.1)))

  keep_Tail_InQuery : (negated' : Bool) (q' : Query) → Keeps-Query q' → Keeps-Tail (roll-Tail (Tail-F.InQuery negated' q'))
  keep_Tail_InQuery negated' q' h-q s out formed e =
      let f = subst Formed (pieces_Tail_InQuery negated' q') formed in
      let b1 = bound _ _ _ (sym (names_Tail_InQuery k scope negated' q' s) ∙ e) in
      subst (λ z. Named (tail_pieces z)) (ok_is _ _ b1.2) (subst Named (sym (pieces_of_Tail_InQuery negated' b1.0)) (tt, (h-q s b1.0 (f.1) b1.1)))

  keep_Tail_InList : (negated' : Bool) (es' : List Expr) → Every Keeps-Expr es' → Keeps-Tail (roll-Tail (Tail-F.InList negated' es'))
  keep_Tail_InList negated' es' h-es s out formed e =
      let f = subst Formed (pieces_Tail_InList negated' es') formed in
      let b1 = bound _ _ _ (sym (names_Tail_InList k scope negated' es' s) ∙ e) in
      subst (λ z. Named (tail_pieces z)) (ok_is _ _ b1.2) (subst Named (sym (pieces_of_Tail_InList negated' b1.0)) (some_kept expr_pieces (expr k scope) es' s b1.0 h-es (f) b1.1))

  keep_Tail_Like : (negated' : Bool) (x' : Sum) → Keeps-Sum x' → Keeps-Tail (roll-Tail (Tail-F.Like negated' x'))
  keep_Tail_Like negated' x' h-x s out formed e =
      let f = subst Formed (pieces_Tail_Like negated' x') formed in
      let b1 = bound _ _ _ (sym (names_Tail_Like k scope negated' x' s) ∙ e) in
      subst (λ z. Named (tail_pieces z)) (ok_is _ _ b1.2) (subst Named (sym (pieces_of_Tail_Like negated' b1.0)) (h-x s b1.0 (f) b1.1))

  keep_Added : (by' : Additive) (term' : Term) → Keeps-Term term' → Keeps-Added (roll-Added (record { by = by'; term = term' }))
  keep_Added by' term' h-term s out formed e =
      let f = subst Formed (pieces_Added by' term') formed in
      let b1 = bound _ _ _ (sym (names_Added k scope by' term' s) ∙ e) in
      subst (λ z. Named (added_pieces z)) (ok_is _ _ b1.2) (subst Named (sym (pieces_Added by' b1.0)) (h-term s b1.0 (f) b1.1))

  keep_Arm : (condition' : Expr) (value' : Expr) → Keeps-Expr condition' → Keeps-Expr value' → Keeps-Arm (roll-Arm (record { condition = condition'; value = value' }))
  keep_Arm condition' value' h-condition h-value s out formed e =
      let f = subst Formed (pieces_Arm condition' value') formed in
      let b1 = bound _ _ _ (sym (names_Arm k scope condition' value' s) ∙ e) in
      let b2 = bound _ _ _ b1.2 in
      subst (λ z. Named (arm_pieces z)) (ok_is _ _ b2.2) (subst Named (sym (pieces_Arm b1.0 b2.0)) (every_append IsNamed (expr_pieces b1.0) (expr_pieces b2.0) (h-condition s b1.0 (every_left IsFormed (expr_pieces condition') (expr_pieces value') f) b1.1) (h-value s b2.0 (every_right IsFormed (expr_pieces condition') (expr_pieces value') f) b2.1)))

  keep_Conjunction : (every' : List Negation) → Every Keeps-Negation every' → Keeps-Conjunction (roll-Conjunction (record { every = every' }))
  keep_Conjunction every' h-every s out formed e =
      let f = subst Formed (pieces_Conjunction every') formed in
      let b1 = bound _ _ _ (sym (names_Conjunction k scope every' s) ∙ e) in
      subst (λ z. Named (conjunction_pieces z)) (ok_is _ _ b1.2) (subst Named (sym (pieces_Conjunction b1.0)) (some_kept negation_pieces (negation k scope) every' s b1.0 h-every (f) b1.1))

  keep_Expr : (any' : List Conjunction) → Every Keeps-Conjunction any' → Keeps-Expr (roll-Expr (record { any = any' }))
  keep_Expr any' h-any s out formed e =
      let f = subst Formed (pieces_Expr any') formed in
      let b1 = bound _ _ _ (sym (names_Expr k scope any' s) ∙ e) in
      subst (λ z. Named (expr_pieces z)) (ok_is _ _ b1.2) (subst Named (sym (pieces_Expr b1.0)) (some_kept conjunction_pieces (conjunction k scope) any' s b1.0 h-any (f) b1.1))

  keep_Factor : (minus' : Bool) (operand' : Operand) → Keeps-Operand operand' → Keeps-Factor (roll-Factor (record { minus = minus'; operand = operand' }))
  keep_Factor minus' operand' h-operand s out formed e =
      let f = subst Formed (pieces_Factor minus' operand') formed in
      let b1 = bound _ _ _ (sym (names_Factor k scope minus' operand' s) ∙ e) in
      subst (λ z. Named (factor_pieces z)) (ok_is _ _ b1.2) (subst Named (sym (pieces_Factor minus' b1.0)) (h-operand s b1.0 (f) b1.1))

  keep_Further : (by' : SetOperator) (all' : Bool) (select' : Select) → Keeps-Select select' → Keeps-Further (roll-Further (record { by = by'; all = all'; select = select' }))
  keep_Further by' all' select' h-select s out formed e =
      let f = subst Formed (pieces_Further by' all' select') formed in
      let b1 = bound _ _ _ (sym (names_Further k scope by' all' select' s) ∙ e) in
      subst (λ z. Named (further_pieces z)) (ok_is _ _ b1.2) (subst Named (sym (pieces_Further by' all' b1.0)) (h-select s b1.0 (f) b1.1))

  keep_Multiplied : (by' : Multiplicative) (factor' : Factor) → Keeps-Factor factor' → Keeps-Multiplied (roll-Multiplied (record { by = by'; factor = factor' }))
  keep_Multiplied by' factor' h-factor s out formed e =
      let f = subst Formed (pieces_Multiplied by' factor') formed in
      let b1 = bound _ _ _ (sym (names_Multiplied k scope by' factor' s) ∙ e) in
      subst (λ z. Named (multiplied_pieces z)) (ok_is _ _ b1.2) (subst Named (sym (pieces_Multiplied by' b1.0)) (h-factor s b1.0 (f) b1.1))

  keep_Negation : (negated' : Bool) (predicate' : Predicate) → Keeps-Predicate predicate' → Keeps-Negation (roll-Negation (record { negated = negated'; predicate = predicate' }))
  keep_Negation negated' predicate' h-predicate s out formed e =
      let f = subst Formed (pieces_Negation negated' predicate') formed in
      let b1 = bound _ _ _ (sym (names_Negation k scope negated' predicate' s) ∙ e) in
      subst (λ z. Named (negation_pieces z)) (ok_is _ _ b1.2) (subst Named (sym (pieces_Negation negated' b1.0)) (h-predicate s b1.0 (f) b1.1))

  keep_Predicate : (tested' : Sum) (tail' : Option Tail) → Keeps-Sum tested' → KeepsOptional tail_pieces (tail k scope) tail' → Keeps-Predicate (roll-Predicate (record { tested = tested'; tail = tail' }))
  keep_Predicate tested' tail' h-tested h-tail s out formed e =
      let f = subst Formed (pieces_Predicate tested' tail') formed in
      let b1 = bound _ _ _ (sym (names_Predicate k scope tested' tail' s) ∙ e) in
      let b2 = bound _ _ _ b1.2 in
      subst (λ z. Named (predicate_pieces z)) (ok_is _ _ b2.2) (subst Named (sym (pieces_Predicate b1.0 b2.0)) (every_append IsNamed (sum_pieces b1.0) (optional_pieces (option_map tail_pieces b2.0)) (h-tested s b1.0 (every_left IsFormed (sum_pieces tested') (optional_pieces (option_map tail_pieces tail')) f) b1.1) (perhaps_kept tail_pieces (tail k scope) tail' s b2.0 h-tail (every_right IsFormed (sum_pieces tested') (optional_pieces (option_map tail_pieces tail')) f) b2.1)))

  keep_Query : (first' : Select) (others' : List Further) → Keeps-Select first' → Every Keeps-Further others' → Keeps-Query (roll-Query (record { first = first'; others = others' }))
  keep_Query first' others' h-first h-others s out formed e =
      let f = subst Formed (pieces_Query first' others') formed in
      let b1 = bound _ _ _ (sym (names_Query k scope first' others' s) ∙ e) in
      let b2 = bound _ _ _ b1.2 in
      subst (λ z. Named (query_pieces z)) (ok_is _ _ b2.2) (subst Named (sym (pieces_Query b1.0 b2.0)) (every_append IsNamed (select_pieces b1.0) (all_pieces (map further_pieces b2.0)) (h-first s b1.0 (every_left IsFormed (select_pieces first') (all_pieces (map further_pieces others')) f) b1.1) (all_kept further_pieces (further k scope) others' s b2.0 h-others (every_right IsFormed (select_pieces first') (all_pieces (map further_pieces others')) f) b2.1)))

  keep_Sum : (first' : Term) (others' : List Added) → Keeps-Term first' → Every Keeps-Added others' → Keeps-Sum (roll-Sum (record { first = first'; others = others' }))
  keep_Sum first' others' h-first h-others s out formed e =
      let f = subst Formed (pieces_Sum first' others') formed in
      let b1 = bound _ _ _ (sym (names_Sum k scope first' others' s) ∙ e) in
      let b2 = bound _ _ _ b1.2 in
      subst (λ z. Named (sum_pieces z)) (ok_is _ _ b2.2) (subst Named (sym (pieces_Sum b1.0 b2.0)) (every_append IsNamed (term_pieces b1.0) (all_pieces (map added_pieces b2.0)) (h-first s b1.0 (every_left IsFormed (term_pieces first') (all_pieces (map added_pieces others')) f) b1.1) (all_kept added_pieces (added k scope) others' s b2.0 h-others (every_right IsFormed (term_pieces first') (all_pieces (map added_pieces others')) f) b2.1)))

  keep_Term : (first' : Factor) (others' : List Multiplied) → Keeps-Factor first' → Every Keeps-Multiplied others' → Keeps-Term (roll-Term (record { first = first'; others = others' }))
  keep_Term first' others' h-first h-others s out formed e =
      let f = subst Formed (pieces_Term first' others') formed in
      let b1 = bound _ _ _ (sym (names_Term k scope first' others' s) ∙ e) in
      let b2 = bound _ _ _ b1.2 in
      subst (λ z. Named (term_pieces z)) (ok_is _ _ b2.2) (subst Named (sym (pieces_Term b1.0 b2.0)) (every_append IsNamed (factor_pieces b1.0) (all_pieces (map multiplied_pieces b2.0)) (h-first s b1.0 (every_left IsFormed (factor_pieces first') (all_pieces (map multiplied_pieces others')) f) b1.1) (all_kept multiplied_pieces (multiplied k scope) others' s b2.0 h-others (every_right IsFormed (factor_pieces first') (all_pieces (map multiplied_pieces others')) f) b2.1)))

  keep_SelectItem_Expr : (e' : Expr) (name' : Option NameBytes) → Keeps-Expr e' → Keeps-SelectItem (roll-SelectItem (SelectItem-F.Expr e' name'))
  keep_SelectItem_Expr e' name' h-e f fs position out known formed e =
      let g = subst Formed (pieces_SelectItem_Expr e' name') formed in
      let b1 = bound _ _ _ (sym (names_SelectItem_Expr k scope e' name' (f ∷ fs) position) ∙ e) in
      let named : Named (select_item_pieces (item name' b1.0 position)) = subst Named (sym (pieces_of_SelectItem_Expr b1.0 (Some (item_name name' b1.0 position)))) (tt, h-e (f ∷ fs) b1.0 g.1 b1.1) in
      subst AreItems (ok_is (item name' b1.0 position ∷ []) out b1.2) ((named, tt), omega arith)

  keep_SelectItem_QualifiedStar : (q' : NameBytes) → Keeps-SelectItem (roll-SelectItem (SelectItem-F.QualifiedStar q'))
  keep_SelectItem_QualifiedStar q' f fs position out known formed e = table_star_kept k wide q' f fs out known (sym (names_SelectItem_QualifiedStar k scope q' (f ∷ fs) position) ∙ e)

  listed_named : (is : List SelectItem) → AreItems is → Named (select_list_pieces (lists.Listed is))
  listed_named is n = subst Named (sym (pieces_of_SelectList_Listed is)) (items_length is n.1, gather IsNamed select_item_pieces is n.0)

  keep_SelectList_Star : Keeps-SelectList (roll-SelectList SelectList-F.Star)
  keep_SelectList_Star f fs out known low formed e =
      let b1 = bound _ _ _ (sym (names_SelectList_Star k scope (f ∷ fs)) ∙ e) in
      subst (λ z. Named (select_list_pieces z)) (ok_is (lists.Listed b1.0) out b1.2) (listed_named b1.0 (star_kept k wide f fs b1.0 known low b1.1))

  keep_SelectList_Listed : (is' : List SelectItem) → Every Keeps-SelectItem is' → Keeps-SelectList (roll-SelectList (SelectList-F.Listed is'))
  keep_SelectList_Listed is' h-is f fs out known low formed e =
      let g = subst Formed (pieces_SelectList_Listed is') formed in
      let b1 = bound _ _ _ (sym (names_SelectList_Listed k scope is' (f ∷ fs)) ∙ e) in
      subst (λ z. Named (select_list_pieces z)) (ok_is (lists.Listed b1.0) out b1.2) (listed_named b1.0 (listed_kept k (select_item k scope) is' f fs [] b1.0 known h-is g.1 b1.1 tt (has_items is' g.0)))

  keep_Join_Inner : (table' : TableReference) (on' : Expr) → Keeps-Expr on' → Keeps-Join (roll-Join (Join-F.Inner table' on'))
  keep_Join_Inner table' on' h-on f fs out after known formed e =
      let g = subst Formed (pieces_Join_Inner table' on') formed in
      let b1 = bound _ _ _ (sym (names_Join_Inner k scope table' on' (f ∷ fs)) ∙ e) in
      let table = joined_kept k scope table' f fs b1.0.0 b1.0.1 known b1.1 in
      let b2 = bound _ _ _ b1.2 in
      let pair : ◌≡◌ {A = Join × Frames} (joins.Inner b1.0.0 b2.0, b1.0.1) (out, after) = ok_is _ _ b2.2 in (
        subst (λ z. Named (join_pieces z)) (ap (λ p. p.0) pair)
            (subst Named (sym (pieces_of_Join_Inner b1.0.0 b2.0)) (every_append IsNamed (table_pieces b1.0.0) (expr_pieces b2.0) table.0 (h-on b1.0.1 b2.0 (every_right IsFormed (table_pieces table') (expr_pieces on') g) b2.1))),
        subst (λ z. Goes k fs z) (ap (λ p. p.1) pair) table.1,
      )

  keep_Join_Cross : (table' : TableReference) → Keeps-Join (roll-Join (Join-F.Cross table'))
  keep_Join_Cross table' f fs out after known formed e =
      let b1 = bound _ _ _ (sym (names_Join_Cross k scope table' (f ∷ fs)) ∙ e) in
      let table = joined_kept k scope table' f fs b1.0.0 b1.0.1 known b1.1 in
      let pair : ◌≡◌ {A = Join × Frames} (joins.Cross b1.0.0, b1.0.1) (out, after) = ok_is _ _ b1.2 in (
        subst (λ z. Named (join_pieces z)) (ap (λ p. p.0) pair) (subst Named (sym (pieces_of_Join_Cross b1.0.0)) table.0),
        subst (λ z. Goes k fs z) (ap (λ p. p.1) pair) table.1,
      )

  keep_Chain : (first' : TableReference) (joins' : List Join) → Every Keeps-Join joins' → Keeps-Chain (roll-Chain (record { first = first'; joins = joins' }))
  keep_Chain first' joins' h-joins f fs out after known formed e =
      let g = subst Formed (pieces_Chain first' joins') formed in
      let b1 = bound _ _ _ (sym (names_Chain k scope first' joins' (f ∷ fs)) ∙ e) in
      let table = opened_kept k scope first' f fs b1.0.0 b1.0.1 known b1.1 in
      let b2 = bound _ _ _ b1.2 in
      let goes = table.1 in
      let rest = thread_kept k join_pieces (join k scope) joins' goes.frame fs [] b2.0.0 b2.0.1 goes.known h-joins (every_right IsFormed (table_pieces first') (all_pieces (map join_pieces joins')) g) (subst (λ z. thread [] (map (join k scope) joins') z ≡ Ok b2.0) goes.is b2.1) tt in
      let pair : ◌≡◌ {A = Chain × Frames} (roll-Chain (record { first = b1.0.0; joins = b2.0.0 }), b2.0.1) (out, after) = ok_is _ _ b2.2 in (
        subst (λ z. Named (chain_pieces z)) (ap (λ p. p.0) pair)
            (subst Named (sym (pieces_Chain b1.0.0 b2.0.0)) (every_append IsNamed (table_pieces b1.0.0) (all_pieces (map join_pieces b2.0.0)) table.0 (gather IsNamed join_pieces b2.0.0 rest.named))),
        subst (λ z. Goes k fs z) (ap (λ p. p.1) pair) (gone rest (inl goes.some)),
      )

  keep_Select : (distinct' : Bool) (list' : SelectList) (from' : List Chain) (filter' : Option Expr) (group_by' : List Reference) → Keeps-SelectList list' → Every Keeps-Chain from' → KeepsOptional expr_pieces (expr k scope) filter' → Keeps-Select (roll-Select (record { distinct = distinct'; list = list'; from = from'; filter = filter'; group_by = group_by' }))
  keep_Select distinct' list' from' filter' group_by' h-list h-from h-filter s out formed e =
      let g = subst Formed (pieces_Select distinct' list' from' filter' group_by') formed in
      let A : Pieces = select_list_pieces list' in
      let B : Pieces = some_pieces (map chain_pieces from') in
      let C : Pieces = optional_pieces (option_map expr_pieces filter') in
      let D : Pieces = map of_group group_by' in
      let lbc : Formed ((A ++ B) ++ C) = every_left IsFormed ((A ++ B) ++ C) D g in
      let lb : Formed (A ++ B) = every_left IsFormed (A ++ B) C lbc in
      let froms : Formed B = every_right IsFormed A B lb in
      let b1 = bound _ _ _ (sym (names_Select k scope distinct' list' from' filter' group_by' s) ∙ e) in
      let b2 = bound _ _ _ b1.2 in
      let b3 = bound _ _ _ b2.2 in
      let b4 = bound _ _ _ b3.2 in
      let chains = thread_kept k chain_pieces (chain k scope) from' empty s [] b1.0.0 b1.0.1 tt h-from froms.1 b1.1 tt in
      let goes = gone chains (inr (some_of from' froms.0)) in
      let seen : whole b1.0.1 ≡ record goes.frame { skip = 0 } ∷ s = ap whole goes.is in
      let listed : Named (select_list_pieces b2.0) = h-list (record goes.frame { skip = 0 }) s b2.0 goes.known goes.some (every_left IsFormed A B lb) (subst (λ z. select_list k scope list' z ≡ Ok b2.0) seen b2.1) in
      let filtered = perhaps_kept expr_pieces (expr k scope) filter' (whole b1.0.1) b3.0 h-filter (every_right IsFormed (A ++ B) C lbc) b3.1 in
      let named : Named (some_pieces (map chain_pieces b1.0.0)) = (some_mapped chain_pieces from' b1.0.0 (chains.length_is ∙ none_before (length from')) froms.0, gather IsNamed chain_pieces b1.0.0 chains.named) in
      subst (λ z. Named (select_pieces z)) (ok_is _ _ b4.2)
      (subst Named (sym (pieces_Select distinct' b2.0 b1.0.0 b3.0 b4.0))
      (every_append IsNamed ((select_list_pieces b2.0 ++ some_pieces (map chain_pieces b1.0.0)) ++ optional_pieces (option_map expr_pieces b3.0)) (map of_group b4.0)
      (every_append IsNamed (select_list_pieces b2.0 ++ some_pieces (map chain_pieces b1.0.0)) (optional_pieces (option_map expr_pieces b3.0))
      (every_append IsNamed (select_list_pieces b2.0) (some_pieces (map chain_pieces b1.0.0)) listed named) filtered)
      (groups_kept k scope group_by' (whole b1.0.1) [] b4.0 b4.1 tt)))

  abbrev Of : (Type 0 → Type 0 → Type 0 → Type 0 → Type 0 → Type 0 → Type 0 → Type 0 → Type 0 → Type 0 → Type 0 → Type 0 → Type 0 → Type 0 → Type 0 → Type 0 → Type 0 → Type 0 → Type 0 → Type 0) → Type 0
  Of L = L ((x : Join) × Keeps-Join x) ((x : Operand) × Keeps-Operand x) ((x : SelectItem) × Keeps-SelectItem x) ((x : SelectList) × Keeps-SelectList x) ((x : Tail) × Keeps-Tail x) ((x : Added) × Keeps-Added x) ((x : Arm) × Keeps-Arm x) ((x : Chain) × Keeps-Chain x) ((x : Conjunction) × Keeps-Conjunction x) ((x : Expr) × Keeps-Expr x) ((x : Factor) × Keeps-Factor x) ((x : Further) × Keeps-Further x) ((x : Multiplied) × Keeps-Multiplied x) ((x : Negation) × Keeps-Negation x) ((x : Predicate) × Keeps-Predicate x) ((x : Query) × Keeps-Query x) ((x : Select) × Keeps-Select x) ((x : Sum) × Keeps-Sum x) ((x : Term) × Keeps-Term x)

  step_Join : (y : Of Join-F) → Keeps-Join (roll-Join (map-Join ((x : Join) × Keeps-Join x) ((x : Operand) × Keeps-Operand x) ((x : SelectItem) × Keeps-SelectItem x) ((x : SelectList) × Keeps-SelectList x) ((x : Tail) × Keeps-Tail x) ((x : Added) × Keeps-Added x) ((x : Arm) × Keeps-Arm x) ((x : Chain) × Keeps-Chain x) ((x : Conjunction) × Keeps-Conjunction x) ((x : Expr) × Keeps-Expr x) ((x : Factor) × Keeps-Factor x) ((x : Further) × Keeps-Further x) ((x : Multiplied) × Keeps-Multiplied x) ((x : Negation) × Keeps-Negation x) ((x : Predicate) × Keeps-Predicate x) ((x : Query) × Keeps-Query x) ((x : Select) × Keeps-Select x) ((x : Sum) × Keeps-Sum x) ((x : Term) × Keeps-Term x) Join Operand SelectItem SelectList Tail Added Arm Chain Conjunction Expr Factor Further Multiplied Negation Predicate Query Select Sum Term (λ e. e.0) (λ e. e.0) (λ e. e.0) (λ e. e.0) (λ e. e.0) (λ e. e.0) (λ e. e.0) (λ e. e.0) (λ e. e.0) (λ e. e.0) (λ e. e.0) (λ e. e.0) (λ e. e.0) (λ e. e.0) (λ e. e.0) (λ e. e.0) (λ e. e.0) (λ e. e.0) (λ e. e.0) y))
  step_Join (Join-F.Inner table' on') = keep_Join_Inner table' on'.0 on'.1
  step_Join (Join-F.Cross table') = keep_Join_Cross table'

  step_Operand : (y : Of Operand-F) → Keeps-Operand (roll-Operand (map-Operand ((x : Join) × Keeps-Join x) ((x : Operand) × Keeps-Operand x) ((x : SelectItem) × Keeps-SelectItem x) ((x : SelectList) × Keeps-SelectList x) ((x : Tail) × Keeps-Tail x) ((x : Added) × Keeps-Added x) ((x : Arm) × Keeps-Arm x) ((x : Chain) × Keeps-Chain x) ((x : Conjunction) × Keeps-Conjunction x) ((x : Expr) × Keeps-Expr x) ((x : Factor) × Keeps-Factor x) ((x : Further) × Keeps-Further x) ((x : Multiplied) × Keeps-Multiplied x) ((x : Negation) × Keeps-Negation x) ((x : Predicate) × Keeps-Predicate x) ((x : Query) × Keeps-Query x) ((x : Select) × Keeps-Select x) ((x : Sum) × Keeps-Sum x) ((x : Term) × Keeps-Term x) Join Operand SelectItem SelectList Tail Added Arm Chain Conjunction Expr Factor Further Multiplied Negation Predicate Query Select Sum Term (λ e. e.0) (λ e. e.0) (λ e. e.0) (λ e. e.0) (λ e. e.0) (λ e. e.0) (λ e. e.0) (λ e. e.0) (λ e. e.0) (λ e. e.0) (λ e. e.0) (λ e. e.0) (λ e. e.0) (λ e. e.0) (λ e. e.0) (λ e. e.0) (λ e. e.0) (λ e. e.0) (λ e. e.0) y))
  step_Operand (Operand-F.Literal text') = keep_Operand_Literal text'
  step_Operand (Operand-F.Number text') = keep_Operand_Number text'
  step_Operand Operand-F.True = keep_Operand_True
  step_Operand Operand-F.False = keep_Operand_False
  step_Operand (Operand-F.Special special') = keep_Operand_Special special'
  step_Operand Operand-F.Value = keep_Operand_Value
  step_Operand (Operand-F.Reference r') = keep_Operand_Reference r'
  step_Operand (Operand-F.Call f' es') = keep_Operand_Call f' (map (λ e. e.0) es') (firsts Keeps-Expr es')
  step_Operand Operand-F.CountAll = keep_Operand_CountAll
  step_Operand (Operand-F.Aggregate by' e') = keep_Operand_Aggregate by' e'.0 e'.1
  step_Operand (Operand-F.Case arms' None) = keep_Operand_Case (map (λ e. e.0) arms') None (firsts Keeps-Arm arms') tt
  step_Operand (Operand-F.Case arms' (Some o)) = keep_Operand_Case (map (λ e. e.0) arms') (Some o.0) (firsts Keeps-Arm arms') o.1
  step_Operand (Operand-F.Cast None sort') = keep_Operand_Cast None sort' tt
  step_Operand (Operand-F.Cast (Some o) sort') = keep_Operand_Cast (Some o.0) sort' o.1
  step_Operand (Operand-F.Exists q') = keep_Operand_Exists q'.0 q'.1
  step_Operand (Operand-F.Subquery q') = keep_Operand_Subquery q'.0 q'.1
  step_Operand (Operand-F.Parenthesized e') = keep_Operand_Parenthesized e'.0 e'.1

  step_SelectItem : (y : Of SelectItem-F) → Keeps-SelectItem (roll-SelectItem (map-SelectItem ((x : Join) × Keeps-Join x) ((x : Operand) × Keeps-Operand x) ((x : SelectItem) × Keeps-SelectItem x) ((x : SelectList) × Keeps-SelectList x) ((x : Tail) × Keeps-Tail x) ((x : Added) × Keeps-Added x) ((x : Arm) × Keeps-Arm x) ((x : Chain) × Keeps-Chain x) ((x : Conjunction) × Keeps-Conjunction x) ((x : Expr) × Keeps-Expr x) ((x : Factor) × Keeps-Factor x) ((x : Further) × Keeps-Further x) ((x : Multiplied) × Keeps-Multiplied x) ((x : Negation) × Keeps-Negation x) ((x : Predicate) × Keeps-Predicate x) ((x : Query) × Keeps-Query x) ((x : Select) × Keeps-Select x) ((x : Sum) × Keeps-Sum x) ((x : Term) × Keeps-Term x) Join Operand SelectItem SelectList Tail Added Arm Chain Conjunction Expr Factor Further Multiplied Negation Predicate Query Select Sum Term (λ e. e.0) (λ e. e.0) (λ e. e.0) (λ e. e.0) (λ e. e.0) (λ e. e.0) (λ e. e.0) (λ e. e.0) (λ e. e.0) (λ e. e.0) (λ e. e.0) (λ e. e.0) (λ e. e.0) (λ e. e.0) (λ e. e.0) (λ e. e.0) (λ e. e.0) (λ e. e.0) (λ e. e.0) y))
  step_SelectItem (SelectItem-F.Expr e' name') = keep_SelectItem_Expr e'.0 name' e'.1
  step_SelectItem (SelectItem-F.QualifiedStar q') = keep_SelectItem_QualifiedStar q'

  step_SelectList : (y : Of SelectList-F) → Keeps-SelectList (roll-SelectList (map-SelectList ((x : Join) × Keeps-Join x) ((x : Operand) × Keeps-Operand x) ((x : SelectItem) × Keeps-SelectItem x) ((x : SelectList) × Keeps-SelectList x) ((x : Tail) × Keeps-Tail x) ((x : Added) × Keeps-Added x) ((x : Arm) × Keeps-Arm x) ((x : Chain) × Keeps-Chain x) ((x : Conjunction) × Keeps-Conjunction x) ((x : Expr) × Keeps-Expr x) ((x : Factor) × Keeps-Factor x) ((x : Further) × Keeps-Further x) ((x : Multiplied) × Keeps-Multiplied x) ((x : Negation) × Keeps-Negation x) ((x : Predicate) × Keeps-Predicate x) ((x : Query) × Keeps-Query x) ((x : Select) × Keeps-Select x) ((x : Sum) × Keeps-Sum x) ((x : Term) × Keeps-Term x) Join Operand SelectItem SelectList Tail Added Arm Chain Conjunction Expr Factor Further Multiplied Negation Predicate Query Select Sum Term (λ e. e.0) (λ e. e.0) (λ e. e.0) (λ e. e.0) (λ e. e.0) (λ e. e.0) (λ e. e.0) (λ e. e.0) (λ e. e.0) (λ e. e.0) (λ e. e.0) (λ e. e.0) (λ e. e.0) (λ e. e.0) (λ e. e.0) (λ e. e.0) (λ e. e.0) (λ e. e.0) (λ e. e.0) y))
  step_SelectList SelectList-F.Star = keep_SelectList_Star
  step_SelectList (SelectList-F.Listed is') = keep_SelectList_Listed (map (λ e. e.0) is') (firsts Keeps-SelectItem is')

  step_Tail : (y : Of Tail-F) → Keeps-Tail (roll-Tail (map-Tail ((x : Join) × Keeps-Join x) ((x : Operand) × Keeps-Operand x) ((x : SelectItem) × Keeps-SelectItem x) ((x : SelectList) × Keeps-SelectList x) ((x : Tail) × Keeps-Tail x) ((x : Added) × Keeps-Added x) ((x : Arm) × Keeps-Arm x) ((x : Chain) × Keeps-Chain x) ((x : Conjunction) × Keeps-Conjunction x) ((x : Expr) × Keeps-Expr x) ((x : Factor) × Keeps-Factor x) ((x : Further) × Keeps-Further x) ((x : Multiplied) × Keeps-Multiplied x) ((x : Negation) × Keeps-Negation x) ((x : Predicate) × Keeps-Predicate x) ((x : Query) × Keeps-Query x) ((x : Select) × Keeps-Select x) ((x : Sum) × Keeps-Sum x) ((x : Term) × Keeps-Term x) Join Operand SelectItem SelectList Tail Added Arm Chain Conjunction Expr Factor Further Multiplied Negation Predicate Query Select Sum Term (λ e. e.0) (λ e. e.0) (λ e. e.0) (λ e. e.0) (λ e. e.0) (λ e. e.0) (λ e. e.0) (λ e. e.0) (λ e. e.0) (λ e. e.0) (λ e. e.0) (λ e. e.0) (λ e. e.0) (λ e. e.0) (λ e. e.0) (λ e. e.0) (λ e. e.0) (λ e. e.0) (λ e. e.0) y))
  step_Tail (Tail-F.Compare by' x') = keep_Tail_Compare by' x'.0 x'.1
  step_Tail (Tail-F.IsNull negated') = keep_Tail_IsNull negated'
  step_Tail (Tail-F.Between negated' x' y') = keep_Tail_Between negated' x'.0 y'.0 x'.1 y'.1
  step_Tail (Tail-F.InQuery negated' q') = keep_Tail_InQuery negated' q'.0 q'.1
  step_Tail (Tail-F.InList negated' es') = keep_Tail_InList negated' (map (λ e. e.0) es') (firsts Keeps-Expr es')
  step_Tail (Tail-F.Like negated' x') = keep_Tail_Like negated' x'.0 x'.1

  step_Added : (y : Of Added-F) → Keeps-Added (roll-Added (map-Added ((x : Join) × Keeps-Join x) ((x : Operand) × Keeps-Operand x) ((x : SelectItem) × Keeps-SelectItem x) ((x : SelectList) × Keeps-SelectList x) ((x : Tail) × Keeps-Tail x) ((x : Added) × Keeps-Added x) ((x : Arm) × Keeps-Arm x) ((x : Chain) × Keeps-Chain x) ((x : Conjunction) × Keeps-Conjunction x) ((x : Expr) × Keeps-Expr x) ((x : Factor) × Keeps-Factor x) ((x : Further) × Keeps-Further x) ((x : Multiplied) × Keeps-Multiplied x) ((x : Negation) × Keeps-Negation x) ((x : Predicate) × Keeps-Predicate x) ((x : Query) × Keeps-Query x) ((x : Select) × Keeps-Select x) ((x : Sum) × Keeps-Sum x) ((x : Term) × Keeps-Term x) Join Operand SelectItem SelectList Tail Added Arm Chain Conjunction Expr Factor Further Multiplied Negation Predicate Query Select Sum Term (λ e. e.0) (λ e. e.0) (λ e. e.0) (λ e. e.0) (λ e. e.0) (λ e. e.0) (λ e. e.0) (λ e. e.0) (λ e. e.0) (λ e. e.0) (λ e. e.0) (λ e. e.0) (λ e. e.0) (λ e. e.0) (λ e. e.0) (λ e. e.0) (λ e. e.0) (λ e. e.0) (λ e. e.0) y))
  step_Added y = keep_Added y.by y.term.0 y.term.1

  step_Arm : (y : Of Arm-F) → Keeps-Arm (roll-Arm (map-Arm ((x : Join) × Keeps-Join x) ((x : Operand) × Keeps-Operand x) ((x : SelectItem) × Keeps-SelectItem x) ((x : SelectList) × Keeps-SelectList x) ((x : Tail) × Keeps-Tail x) ((x : Added) × Keeps-Added x) ((x : Arm) × Keeps-Arm x) ((x : Chain) × Keeps-Chain x) ((x : Conjunction) × Keeps-Conjunction x) ((x : Expr) × Keeps-Expr x) ((x : Factor) × Keeps-Factor x) ((x : Further) × Keeps-Further x) ((x : Multiplied) × Keeps-Multiplied x) ((x : Negation) × Keeps-Negation x) ((x : Predicate) × Keeps-Predicate x) ((x : Query) × Keeps-Query x) ((x : Select) × Keeps-Select x) ((x : Sum) × Keeps-Sum x) ((x : Term) × Keeps-Term x) Join Operand SelectItem SelectList Tail Added Arm Chain Conjunction Expr Factor Further Multiplied Negation Predicate Query Select Sum Term (λ e. e.0) (λ e. e.0) (λ e. e.0) (λ e. e.0) (λ e. e.0) (λ e. e.0) (λ e. e.0) (λ e. e.0) (λ e. e.0) (λ e. e.0) (λ e. e.0) (λ e. e.0) (λ e. e.0) (λ e. e.0) (λ e. e.0) (λ e. e.0) (λ e. e.0) (λ e. e.0) (λ e. e.0) y))
  step_Arm y = keep_Arm y.condition.0 y.value.0 y.condition.1 y.value.1

  step_Chain : (y : Of Chain-F) → Keeps-Chain (roll-Chain (map-Chain ((x : Join) × Keeps-Join x) ((x : Operand) × Keeps-Operand x) ((x : SelectItem) × Keeps-SelectItem x) ((x : SelectList) × Keeps-SelectList x) ((x : Tail) × Keeps-Tail x) ((x : Added) × Keeps-Added x) ((x : Arm) × Keeps-Arm x) ((x : Chain) × Keeps-Chain x) ((x : Conjunction) × Keeps-Conjunction x) ((x : Expr) × Keeps-Expr x) ((x : Factor) × Keeps-Factor x) ((x : Further) × Keeps-Further x) ((x : Multiplied) × Keeps-Multiplied x) ((x : Negation) × Keeps-Negation x) ((x : Predicate) × Keeps-Predicate x) ((x : Query) × Keeps-Query x) ((x : Select) × Keeps-Select x) ((x : Sum) × Keeps-Sum x) ((x : Term) × Keeps-Term x) Join Operand SelectItem SelectList Tail Added Arm Chain Conjunction Expr Factor Further Multiplied Negation Predicate Query Select Sum Term (λ e. e.0) (λ e. e.0) (λ e. e.0) (λ e. e.0) (λ e. e.0) (λ e. e.0) (λ e. e.0) (λ e. e.0) (λ e. e.0) (λ e. e.0) (λ e. e.0) (λ e. e.0) (λ e. e.0) (λ e. e.0) (λ e. e.0) (λ e. e.0) (λ e. e.0) (λ e. e.0) (λ e. e.0) y))
  step_Chain y = keep_Chain y.first (map (λ e. e.0) y.joins) (firsts Keeps-Join y.joins)

  step_Conjunction : (y : Of Conjunction-F) → Keeps-Conjunction (roll-Conjunction (map-Conjunction ((x : Join) × Keeps-Join x) ((x : Operand) × Keeps-Operand x) ((x : SelectItem) × Keeps-SelectItem x) ((x : SelectList) × Keeps-SelectList x) ((x : Tail) × Keeps-Tail x) ((x : Added) × Keeps-Added x) ((x : Arm) × Keeps-Arm x) ((x : Chain) × Keeps-Chain x) ((x : Conjunction) × Keeps-Conjunction x) ((x : Expr) × Keeps-Expr x) ((x : Factor) × Keeps-Factor x) ((x : Further) × Keeps-Further x) ((x : Multiplied) × Keeps-Multiplied x) ((x : Negation) × Keeps-Negation x) ((x : Predicate) × Keeps-Predicate x) ((x : Query) × Keeps-Query x) ((x : Select) × Keeps-Select x) ((x : Sum) × Keeps-Sum x) ((x : Term) × Keeps-Term x) Join Operand SelectItem SelectList Tail Added Arm Chain Conjunction Expr Factor Further Multiplied Negation Predicate Query Select Sum Term (λ e. e.0) (λ e. e.0) (λ e. e.0) (λ e. e.0) (λ e. e.0) (λ e. e.0) (λ e. e.0) (λ e. e.0) (λ e. e.0) (λ e. e.0) (λ e. e.0) (λ e. e.0) (λ e. e.0) (λ e. e.0) (λ e. e.0) (λ e. e.0) (λ e. e.0) (λ e. e.0) (λ e. e.0) y))
  step_Conjunction y = keep_Conjunction (map (λ e. e.0) y.every) (firsts Keeps-Negation y.every)

  step_Expr : (y : Of Expr-F) → Keeps-Expr (roll-Expr (map-Expr ((x : Join) × Keeps-Join x) ((x : Operand) × Keeps-Operand x) ((x : SelectItem) × Keeps-SelectItem x) ((x : SelectList) × Keeps-SelectList x) ((x : Tail) × Keeps-Tail x) ((x : Added) × Keeps-Added x) ((x : Arm) × Keeps-Arm x) ((x : Chain) × Keeps-Chain x) ((x : Conjunction) × Keeps-Conjunction x) ((x : Expr) × Keeps-Expr x) ((x : Factor) × Keeps-Factor x) ((x : Further) × Keeps-Further x) ((x : Multiplied) × Keeps-Multiplied x) ((x : Negation) × Keeps-Negation x) ((x : Predicate) × Keeps-Predicate x) ((x : Query) × Keeps-Query x) ((x : Select) × Keeps-Select x) ((x : Sum) × Keeps-Sum x) ((x : Term) × Keeps-Term x) Join Operand SelectItem SelectList Tail Added Arm Chain Conjunction Expr Factor Further Multiplied Negation Predicate Query Select Sum Term (λ e. e.0) (λ e. e.0) (λ e. e.0) (λ e. e.0) (λ e. e.0) (λ e. e.0) (λ e. e.0) (λ e. e.0) (λ e. e.0) (λ e. e.0) (λ e. e.0) (λ e. e.0) (λ e. e.0) (λ e. e.0) (λ e. e.0) (λ e. e.0) (λ e. e.0) (λ e. e.0) (λ e. e.0) y))
  step_Expr y = keep_Expr (map (λ e. e.0) y.any) (firsts Keeps-Conjunction y.any)

  step_Factor : (y : Of Factor-F) → Keeps-Factor (roll-Factor (map-Factor ((x : Join) × Keeps-Join x) ((x : Operand) × Keeps-Operand x) ((x : SelectItem) × Keeps-SelectItem x) ((x : SelectList) × Keeps-SelectList x) ((x : Tail) × Keeps-Tail x) ((x : Added) × Keeps-Added x) ((x : Arm) × Keeps-Arm x) ((x : Chain) × Keeps-Chain x) ((x : Conjunction) × Keeps-Conjunction x) ((x : Expr) × Keeps-Expr x) ((x : Factor) × Keeps-Factor x) ((x : Further) × Keeps-Further x) ((x : Multiplied) × Keeps-Multiplied x) ((x : Negation) × Keeps-Negation x) ((x : Predicate) × Keeps-Predicate x) ((x : Query) × Keeps-Query x) ((x : Select) × Keeps-Select x) ((x : Sum) × Keeps-Sum x) ((x : Term) × Keeps-Term x) Join Operand SelectItem SelectList Tail Added Arm Chain Conjunction Expr Factor Further Multiplied Negation Predicate Query Select Sum Term (λ e. e.0) (λ e. e.0) (λ e. e.0) (λ e. e.0) (λ e. e.0) (λ e. e.0) (λ e. e.0) (λ e. e.0) (λ e. e.0) (λ e. e.0) (λ e. e.0) (λ e. e.0) (λ e. e.0) (λ e. e.0) (λ e. e.0) (λ e. e.0) (λ e. e.0) (λ e. e.0) (λ e. e.0) y))
  step_Factor y = keep_Factor y.minus y.operand.0 y.operand.1

  step_Further : (y : Of Further-F) → Keeps-Further (roll-Further (map-Further ((x : Join) × Keeps-Join x) ((x : Operand) × Keeps-Operand x) ((x : SelectItem) × Keeps-SelectItem x) ((x : SelectList) × Keeps-SelectList x) ((x : Tail) × Keeps-Tail x) ((x : Added) × Keeps-Added x) ((x : Arm) × Keeps-Arm x) ((x : Chain) × Keeps-Chain x) ((x : Conjunction) × Keeps-Conjunction x) ((x : Expr) × Keeps-Expr x) ((x : Factor) × Keeps-Factor x) ((x : Further) × Keeps-Further x) ((x : Multiplied) × Keeps-Multiplied x) ((x : Negation) × Keeps-Negation x) ((x : Predicate) × Keeps-Predicate x) ((x : Query) × Keeps-Query x) ((x : Select) × Keeps-Select x) ((x : Sum) × Keeps-Sum x) ((x : Term) × Keeps-Term x) Join Operand SelectItem SelectList Tail Added Arm Chain Conjunction Expr Factor Further Multiplied Negation Predicate Query Select Sum Term (λ e. e.0) (λ e. e.0) (λ e. e.0) (λ e. e.0) (λ e. e.0) (λ e. e.0) (λ e. e.0) (λ e. e.0) (λ e. e.0) (λ e. e.0) (λ e. e.0) (λ e. e.0) (λ e. e.0) (λ e. e.0) (λ e. e.0) (λ e. e.0) (λ e. e.0) (λ e. e.0) (λ e. e.0) y))
  step_Further y = keep_Further y.by y.all y.select.0 y.select.1

  step_Multiplied : (y : Of Multiplied-F) → Keeps-Multiplied (roll-Multiplied (map-Multiplied ((x : Join) × Keeps-Join x) ((x : Operand) × Keeps-Operand x) ((x : SelectItem) × Keeps-SelectItem x) ((x : SelectList) × Keeps-SelectList x) ((x : Tail) × Keeps-Tail x) ((x : Added) × Keeps-Added x) ((x : Arm) × Keeps-Arm x) ((x : Chain) × Keeps-Chain x) ((x : Conjunction) × Keeps-Conjunction x) ((x : Expr) × Keeps-Expr x) ((x : Factor) × Keeps-Factor x) ((x : Further) × Keeps-Further x) ((x : Multiplied) × Keeps-Multiplied x) ((x : Negation) × Keeps-Negation x) ((x : Predicate) × Keeps-Predicate x) ((x : Query) × Keeps-Query x) ((x : Select) × Keeps-Select x) ((x : Sum) × Keeps-Sum x) ((x : Term) × Keeps-Term x) Join Operand SelectItem SelectList Tail Added Arm Chain Conjunction Expr Factor Further Multiplied Negation Predicate Query Select Sum Term (λ e. e.0) (λ e. e.0) (λ e. e.0) (λ e. e.0) (λ e. e.0) (λ e. e.0) (λ e. e.0) (λ e. e.0) (λ e. e.0) (λ e. e.0) (λ e. e.0) (λ e. e.0) (λ e. e.0) (λ e. e.0) (λ e. e.0) (λ e. e.0) (λ e. e.0) (λ e. e.0) (λ e. e.0) y))
  step_Multiplied y = keep_Multiplied y.by y.factor.0 y.factor.1

  step_Negation : (y : Of Negation-F) → Keeps-Negation (roll-Negation (map-Negation ((x : Join) × Keeps-Join x) ((x : Operand) × Keeps-Operand x) ((x : SelectItem) × Keeps-SelectItem x) ((x : SelectList) × Keeps-SelectList x) ((x : Tail) × Keeps-Tail x) ((x : Added) × Keeps-Added x) ((x : Arm) × Keeps-Arm x) ((x : Chain) × Keeps-Chain x) ((x : Conjunction) × Keeps-Conjunction x) ((x : Expr) × Keeps-Expr x) ((x : Factor) × Keeps-Factor x) ((x : Further) × Keeps-Further x) ((x : Multiplied) × Keeps-Multiplied x) ((x : Negation) × Keeps-Negation x) ((x : Predicate) × Keeps-Predicate x) ((x : Query) × Keeps-Query x) ((x : Select) × Keeps-Select x) ((x : Sum) × Keeps-Sum x) ((x : Term) × Keeps-Term x) Join Operand SelectItem SelectList Tail Added Arm Chain Conjunction Expr Factor Further Multiplied Negation Predicate Query Select Sum Term (λ e. e.0) (λ e. e.0) (λ e. e.0) (λ e. e.0) (λ e. e.0) (λ e. e.0) (λ e. e.0) (λ e. e.0) (λ e. e.0) (λ e. e.0) (λ e. e.0) (λ e. e.0) (λ e. e.0) (λ e. e.0) (λ e. e.0) (λ e. e.0) (λ e. e.0) (λ e. e.0) (λ e. e.0) y))
  step_Negation y = keep_Negation y.negated y.predicate.0 y.predicate.1

  step_Predicate : (y : Of Predicate-F) → Keeps-Predicate (roll-Predicate (map-Predicate ((x : Join) × Keeps-Join x) ((x : Operand) × Keeps-Operand x) ((x : SelectItem) × Keeps-SelectItem x) ((x : SelectList) × Keeps-SelectList x) ((x : Tail) × Keeps-Tail x) ((x : Added) × Keeps-Added x) ((x : Arm) × Keeps-Arm x) ((x : Chain) × Keeps-Chain x) ((x : Conjunction) × Keeps-Conjunction x) ((x : Expr) × Keeps-Expr x) ((x : Factor) × Keeps-Factor x) ((x : Further) × Keeps-Further x) ((x : Multiplied) × Keeps-Multiplied x) ((x : Negation) × Keeps-Negation x) ((x : Predicate) × Keeps-Predicate x) ((x : Query) × Keeps-Query x) ((x : Select) × Keeps-Select x) ((x : Sum) × Keeps-Sum x) ((x : Term) × Keeps-Term x) Join Operand SelectItem SelectList Tail Added Arm Chain Conjunction Expr Factor Further Multiplied Negation Predicate Query Select Sum Term (λ e. e.0) (λ e. e.0) (λ e. e.0) (λ e. e.0) (λ e. e.0) (λ e. e.0) (λ e. e.0) (λ e. e.0) (λ e. e.0) (λ e. e.0) (λ e. e.0) (λ e. e.0) (λ e. e.0) (λ e. e.0) (λ e. e.0) (λ e. e.0) (λ e. e.0) (λ e. e.0) (λ e. e.0) y))
  step_Predicate y = cases y.tail
    where
      cases : (o : Option ((x : Tail) × Keeps-Tail x)) → Keeps-Predicate (roll-Predicate (map-Predicate ((x : Join) × Keeps-Join x) ((x : Operand) × Keeps-Operand x) ((x : SelectItem) × Keeps-SelectItem x) ((x : SelectList) × Keeps-SelectList x) ((x : Tail) × Keeps-Tail x) ((x : Added) × Keeps-Added x) ((x : Arm) × Keeps-Arm x) ((x : Chain) × Keeps-Chain x) ((x : Conjunction) × Keeps-Conjunction x) ((x : Expr) × Keeps-Expr x) ((x : Factor) × Keeps-Factor x) ((x : Further) × Keeps-Further x) ((x : Multiplied) × Keeps-Multiplied x) ((x : Negation) × Keeps-Negation x) ((x : Predicate) × Keeps-Predicate x) ((x : Query) × Keeps-Query x) ((x : Select) × Keeps-Select x) ((x : Sum) × Keeps-Sum x) ((x : Term) × Keeps-Term x) Join Operand SelectItem SelectList Tail Added Arm Chain Conjunction Expr Factor Further Multiplied Negation Predicate Query Select Sum Term (λ e. e.0) (λ e. e.0) (λ e. e.0) (λ e. e.0) (λ e. e.0) (λ e. e.0) (λ e. e.0) (λ e. e.0) (λ e. e.0) (λ e. e.0) (λ e. e.0) (λ e. e.0) (λ e. e.0) (λ e. e.0) (λ e. e.0) (λ e. e.0) (λ e. e.0) (λ e. e.0) (λ e. e.0) (record y { tail = o })))
      cases None = keep_Predicate y.tested.0 None y.tested.1 tt
      cases (Some o) = keep_Predicate y.tested.0 (Some o.0) y.tested.1 o.1

  step_Query : (y : Of Query-F) → Keeps-Query (roll-Query (map-Query ((x : Join) × Keeps-Join x) ((x : Operand) × Keeps-Operand x) ((x : SelectItem) × Keeps-SelectItem x) ((x : SelectList) × Keeps-SelectList x) ((x : Tail) × Keeps-Tail x) ((x : Added) × Keeps-Added x) ((x : Arm) × Keeps-Arm x) ((x : Chain) × Keeps-Chain x) ((x : Conjunction) × Keeps-Conjunction x) ((x : Expr) × Keeps-Expr x) ((x : Factor) × Keeps-Factor x) ((x : Further) × Keeps-Further x) ((x : Multiplied) × Keeps-Multiplied x) ((x : Negation) × Keeps-Negation x) ((x : Predicate) × Keeps-Predicate x) ((x : Query) × Keeps-Query x) ((x : Select) × Keeps-Select x) ((x : Sum) × Keeps-Sum x) ((x : Term) × Keeps-Term x) Join Operand SelectItem SelectList Tail Added Arm Chain Conjunction Expr Factor Further Multiplied Negation Predicate Query Select Sum Term (λ e. e.0) (λ e. e.0) (λ e. e.0) (λ e. e.0) (λ e. e.0) (λ e. e.0) (λ e. e.0) (λ e. e.0) (λ e. e.0) (λ e. e.0) (λ e. e.0) (λ e. e.0) (λ e. e.0) (λ e. e.0) (λ e. e.0) (λ e. e.0) (λ e. e.0) (λ e. e.0) (λ e. e.0) y))
  step_Query y = keep_Query y.first.0 (map (λ e. e.0) y.others) y.first.1 (firsts Keeps-Further y.others)

  step_Select : (y : Of Select-F) → Keeps-Select (roll-Select (map-Select ((x : Join) × Keeps-Join x) ((x : Operand) × Keeps-Operand x) ((x : SelectItem) × Keeps-SelectItem x) ((x : SelectList) × Keeps-SelectList x) ((x : Tail) × Keeps-Tail x) ((x : Added) × Keeps-Added x) ((x : Arm) × Keeps-Arm x) ((x : Chain) × Keeps-Chain x) ((x : Conjunction) × Keeps-Conjunction x) ((x : Expr) × Keeps-Expr x) ((x : Factor) × Keeps-Factor x) ((x : Further) × Keeps-Further x) ((x : Multiplied) × Keeps-Multiplied x) ((x : Negation) × Keeps-Negation x) ((x : Predicate) × Keeps-Predicate x) ((x : Query) × Keeps-Query x) ((x : Select) × Keeps-Select x) ((x : Sum) × Keeps-Sum x) ((x : Term) × Keeps-Term x) Join Operand SelectItem SelectList Tail Added Arm Chain Conjunction Expr Factor Further Multiplied Negation Predicate Query Select Sum Term (λ e. e.0) (λ e. e.0) (λ e. e.0) (λ e. e.0) (λ e. e.0) (λ e. e.0) (λ e. e.0) (λ e. e.0) (λ e. e.0) (λ e. e.0) (λ e. e.0) (λ e. e.0) (λ e. e.0) (λ e. e.0) (λ e. e.0) (λ e. e.0) (λ e. e.0) (λ e. e.0) (λ e. e.0) y))
  step_Select y = cases y.filter
    where
      cases : (o : Option ((x : Expr) × Keeps-Expr x)) → Keeps-Select (roll-Select (map-Select ((x : Join) × Keeps-Join x) ((x : Operand) × Keeps-Operand x) ((x : SelectItem) × Keeps-SelectItem x) ((x : SelectList) × Keeps-SelectList x) ((x : Tail) × Keeps-Tail x) ((x : Added) × Keeps-Added x) ((x : Arm) × Keeps-Arm x) ((x : Chain) × Keeps-Chain x) ((x : Conjunction) × Keeps-Conjunction x) ((x : Expr) × Keeps-Expr x) ((x : Factor) × Keeps-Factor x) ((x : Further) × Keeps-Further x) ((x : Multiplied) × Keeps-Multiplied x) ((x : Negation) × Keeps-Negation x) ((x : Predicate) × Keeps-Predicate x) ((x : Query) × Keeps-Query x) ((x : Select) × Keeps-Select x) ((x : Sum) × Keeps-Sum x) ((x : Term) × Keeps-Term x) Join Operand SelectItem SelectList Tail Added Arm Chain Conjunction Expr Factor Further Multiplied Negation Predicate Query Select Sum Term (λ e. e.0) (λ e. e.0) (λ e. e.0) (λ e. e.0) (λ e. e.0) (λ e. e.0) (λ e. e.0) (λ e. e.0) (λ e. e.0) (λ e. e.0) (λ e. e.0) (λ e. e.0) (λ e. e.0) (λ e. e.0) (λ e. e.0) (λ e. e.0) (λ e. e.0) (λ e. e.0) (λ e. e.0) (record y { filter = o })))
      cases None = keep_Select y.distinct y.list.0 (map (λ e. e.0) y.from) None y.group_by y.list.1 (firsts Keeps-Chain y.from) tt
      cases (Some o) = keep_Select y.distinct y.list.0 (map (λ e. e.0) y.from) (Some o.0) y.group_by y.list.1 (firsts Keeps-Chain y.from) o.1

  step_Sum : (y : Of Sum-F) → Keeps-Sum (roll-Sum (map-Sum ((x : Join) × Keeps-Join x) ((x : Operand) × Keeps-Operand x) ((x : SelectItem) × Keeps-SelectItem x) ((x : SelectList) × Keeps-SelectList x) ((x : Tail) × Keeps-Tail x) ((x : Added) × Keeps-Added x) ((x : Arm) × Keeps-Arm x) ((x : Chain) × Keeps-Chain x) ((x : Conjunction) × Keeps-Conjunction x) ((x : Expr) × Keeps-Expr x) ((x : Factor) × Keeps-Factor x) ((x : Further) × Keeps-Further x) ((x : Multiplied) × Keeps-Multiplied x) ((x : Negation) × Keeps-Negation x) ((x : Predicate) × Keeps-Predicate x) ((x : Query) × Keeps-Query x) ((x : Select) × Keeps-Select x) ((x : Sum) × Keeps-Sum x) ((x : Term) × Keeps-Term x) Join Operand SelectItem SelectList Tail Added Arm Chain Conjunction Expr Factor Further Multiplied Negation Predicate Query Select Sum Term (λ e. e.0) (λ e. e.0) (λ e. e.0) (λ e. e.0) (λ e. e.0) (λ e. e.0) (λ e. e.0) (λ e. e.0) (λ e. e.0) (λ e. e.0) (λ e. e.0) (λ e. e.0) (λ e. e.0) (λ e. e.0) (λ e. e.0) (λ e. e.0) (λ e. e.0) (λ e. e.0) (λ e. e.0) y))
  step_Sum y = keep_Sum y.first.0 (map (λ e. e.0) y.others) y.first.1 (firsts Keeps-Added y.others)

  step_Term : (y : Of Term-F) → Keeps-Term (roll-Term (map-Term ((x : Join) × Keeps-Join x) ((x : Operand) × Keeps-Operand x) ((x : SelectItem) × Keeps-SelectItem x) ((x : SelectList) × Keeps-SelectList x) ((x : Tail) × Keeps-Tail x) ((x : Added) × Keeps-Added x) ((x : Arm) × Keeps-Arm x) ((x : Chain) × Keeps-Chain x) ((x : Conjunction) × Keeps-Conjunction x) ((x : Expr) × Keeps-Expr x) ((x : Factor) × Keeps-Factor x) ((x : Further) × Keeps-Further x) ((x : Multiplied) × Keeps-Multiplied x) ((x : Negation) × Keeps-Negation x) ((x : Predicate) × Keeps-Predicate x) ((x : Query) × Keeps-Query x) ((x : Select) × Keeps-Select x) ((x : Sum) × Keeps-Sum x) ((x : Term) × Keeps-Term x) Join Operand SelectItem SelectList Tail Added Arm Chain Conjunction Expr Factor Further Multiplied Negation Predicate Query Select Sum Term (λ e. e.0) (λ e. e.0) (λ e. e.0) (λ e. e.0) (λ e. e.0) (λ e. e.0) (λ e. e.0) (λ e. e.0) (λ e. e.0) (λ e. e.0) (λ e. e.0) (λ e. e.0) (λ e. e.0) (λ e. e.0) (λ e. e.0) (λ e. e.0) (λ e. e.0) (λ e. e.0) (λ e. e.0) y))
  step_Term y = keep_Term y.first.0 (map (λ e. e.0) y.others) y.first.1 (firsts Keeps-Multiplied y.others)

  pub query_named : (x : Query) → Keeps-Query x
  query_named = ind-Query Keeps-Join Keeps-Operand Keeps-SelectItem Keeps-SelectList Keeps-Tail Keeps-Added Keeps-Arm Keeps-Chain Keeps-Conjunction Keeps-Expr Keeps-Factor Keeps-Further Keeps-Multiplied Keeps-Negation Keeps-Predicate Keeps-Query Keeps-Select Keeps-Sum Keeps-Term
      (λ x y is. subst (λ z. Keeps-Join (roll-Join z)) is (step_Join y)) (λ x y is. subst (λ z. Keeps-Operand (roll-Operand z)) is (step_Operand y)) (λ x y is. subst (λ z. Keeps-SelectItem (roll-SelectItem z)) is (step_SelectItem y)) (λ x y is. subst (λ z. Keeps-SelectList (roll-SelectList z)) is (step_SelectList y)) (λ x y is. subst (λ z. Keeps-Tail (roll-Tail z)) is (step_Tail y)) (λ x y is. subst (λ z. Keeps-Added (roll-Added z)) is (step_Added y)) (λ x y is. subst (λ z. Keeps-Arm (roll-Arm z)) is (step_Arm y)) (λ x y is. subst (λ z. Keeps-Chain (roll-Chain z)) is (step_Chain y)) (λ x y is. subst (λ z. Keeps-Conjunction (roll-Conjunction z)) is (step_Conjunction y)) (λ x y is. subst (λ z. Keeps-Expr (roll-Expr z)) is (step_Expr y)) (λ x y is. subst (λ z. Keeps-Factor (roll-Factor z)) is (step_Factor y)) (λ x y is. subst (λ z. Keeps-Further (roll-Further z)) is (step_Further y)) (λ x y is. subst (λ z. Keeps-Multiplied (roll-Multiplied z)) is (step_Multiplied y)) (λ x y is. subst (λ z. Keeps-Negation (roll-Negation z)) is (step_Negation y)) (λ x y is. subst (λ z. Keeps-Predicate (roll-Predicate z)) is (step_Predicate y)) (λ x y is. subst (λ z. Keeps-Query (roll-Query z)) is (step_Query y)) (λ x y is. subst (λ z. Keeps-Select (roll-Select z)) is (step_Select y)) (λ x y is. subst (λ z. Keeps-Sum (roll-Sum z)) is (step_Sum y)) (λ x y is. subst (λ z. Keeps-Term (roll-Term z)) is (step_Term y))

  pub expr_named : (x : Expr) → Keeps-Expr x
  expr_named = ind-Expr Keeps-Join Keeps-Operand Keeps-SelectItem Keeps-SelectList Keeps-Tail Keeps-Added Keeps-Arm Keeps-Chain Keeps-Conjunction Keeps-Expr Keeps-Factor Keeps-Further Keeps-Multiplied Keeps-Negation Keeps-Predicate Keeps-Query Keeps-Select Keeps-Sum Keeps-Term
      (λ x y is. subst (λ z. Keeps-Join (roll-Join z)) is (step_Join y)) (λ x y is. subst (λ z. Keeps-Operand (roll-Operand z)) is (step_Operand y)) (λ x y is. subst (λ z. Keeps-SelectItem (roll-SelectItem z)) is (step_SelectItem y)) (λ x y is. subst (λ z. Keeps-SelectList (roll-SelectList z)) is (step_SelectList y)) (λ x y is. subst (λ z. Keeps-Tail (roll-Tail z)) is (step_Tail y)) (λ x y is. subst (λ z. Keeps-Added (roll-Added z)) is (step_Added y)) (λ x y is. subst (λ z. Keeps-Arm (roll-Arm z)) is (step_Arm y)) (λ x y is. subst (λ z. Keeps-Chain (roll-Chain z)) is (step_Chain y)) (λ x y is. subst (λ z. Keeps-Conjunction (roll-Conjunction z)) is (step_Conjunction y)) (λ x y is. subst (λ z. Keeps-Expr (roll-Expr z)) is (step_Expr y)) (λ x y is. subst (λ z. Keeps-Factor (roll-Factor z)) is (step_Factor y)) (λ x y is. subst (λ z. Keeps-Further (roll-Further z)) is (step_Further y)) (λ x y is. subst (λ z. Keeps-Multiplied (roll-Multiplied z)) is (step_Multiplied y)) (λ x y is. subst (λ z. Keeps-Negation (roll-Negation z)) is (step_Negation y)) (λ x y is. subst (λ z. Keeps-Predicate (roll-Predicate z)) is (step_Predicate y)) (λ x y is. subst (λ z. Keeps-Query (roll-Query z)) is (step_Query y)) (λ x y is. subst (λ z. Keeps-Select (roll-Select z)) is (step_Select y)) (λ x y is. subst (λ z. Keeps-Sum (roll-Sum z)) is (step_Sum y)) (λ x y is. subst (λ z. Keeps-Term (roll-Term z)) is (step_Term y))
