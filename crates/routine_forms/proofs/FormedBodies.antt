-- Routines that the words of a text spell have their forms.
use Rattle.std.proofs.Common.{◌≡◌, ◌<◌, ℕ, suc, ◌-◌, false, List, [], ◌∷◌, ◌++◌, Option, Some, None, length, map, subst, arith}
use Rattle.std.specs.Prelude.{All, flat_map}
use Rattle.std.specs.List.{Contains}
use Rattle.std.proofs.lemmas.List.Elements.{All-nil, All-cons, All-append, All-contains, All-head, All-tail}
use Rattle.sql_names.specs.declared.sort.Param.{Param}
use Rattle.sql_tree.specs.declared.body.Act.{Act}
use Rattle.sql_tree.specs.declared.body.Act.TheVariants as acts
use Rattle.sql_tree.specs.declared.body.InsertSource.{InsertSource}
use Rattle.sql_tree.specs.declared.body.Assignment.{Assignment}
use Rattle.sql_tree.specs.declared.body.AssignedValue.{AssignedValue}
use Rattle.sql_tree.specs.declared.expr.Expr.{Expr}
use Rattle.sql_tree.specs.declared.statement.CreateFunction.{CreateFunction}
use Rattle.sql_tree.specs.declared.statement.CreateProcedure.{CreateProcedure}
use Rattle.sql_tree.specs.declared.statement.Statement.TheVariants as statements
use Rattle.sql_words.specs.WordForms.{AreWords}
use Rattle.sql_words.specs.declared.word.Word.{Word}
use Rattle.sql_spelling.specs.declared.kind.Kind.{Kind}
use Rattle.sql_spelling.specs.declared.kind.Kind.TheVariants as k
use Rattle.sql_phrases.specs.NameRules.{SpellsColumns}
use Rattle.sql_phrases.specs.Shapes.{Spelled, Separated, one, more, Repeated, no_more, again, Optional, left_out, said}
use Rattle.sql_expressions.specs.ExpressionRules.{SpellsExprWithin}
use Rattle.sql_expressions.proofs.DepthProofs.{deep_type}
use Rattle.sql_definitions.specs.BodyRules as rules
use Rattle.sql_definitions.specs.RoutineRules as routines
use Rattle.sql_definitions.proofs.DefinitionDepths.{deep_columns, peak_language}
use Rattle.sql_grammar.specs.StatementRules.{SpellsStatement, create_function, create_procedure}
use Rattle.cat_items.specs.Pieces.{Pieces, IsFormed, AreFormed, IsType, of_object, of_length, all_pieces, some_pieces, expr_pieces, value_pieces, source_pieces, filter_pieces, act_pieces}
use Rattle.cat_items.specs.Shape.{HaveTypes}
use Rattle.statement_forms.specs.Written.{IsWritten}
use Rattle.statement_forms.proofs.FormedTrees.{expr_gives, query_gives}
use Rattle.statement_forms.proofs.KeptWords.{kept, kept_token, kept_marked, kept_identifier, kept_object}
use Rattle.statement_forms.proofs.TypeForms.{type-form}
use Rattle.routine_forms.specs.Formed.{IsFormedAct, IsFormedBody}

-- what a phrase gives, and behind it are words
abbrev Gives : Type 0 → List Word → List Word → Type 0
Gives X ws rest = AreWords ws → X × AreWords rest

none : AreFormed []
none = All-nil IsFormed

kept_columns : {cs : List (List ℕ)} {ws rest : List Word} → SpellsColumns cs ws rest → AreWords ws → AreWords rest
kept_columns cs are = let lt : 0 < 1 = omega arith in kept (deep_columns lt cs).peak are

-- ---- lists

module _ {X : Type 0} (P : X → Type 0) (R : Spelled X) (each : (x : X) (ws rest : List Word) → R x ws rest → Gives (P x) ws rest) where
  of_separated : {by : Kind} {xs : List X} {ws rest : List Word} → Separated by R xs ws rest → Gives (All P xs × (0 < length xs)) ws rest
  of_separated (one {x = x} {ws = ws} {rest = rest} i) are = let g = each x ws rest i are in ((All-cons P x [] g.0 (All-nil P), omega arith), g.1)
  of_separated (more {x = x} {xs = xs} {ws = ws} {a = a} i t s) are =
      let g = each x ws a i are in
      let r = of_separated s (kept_token t g.1) in
      ((All-cons P x xs g.0 r.0.0, omega arith), r.1)

  of_repeated : {xs : List X} {ws rest : List Word} → Repeated R xs ws rest → Gives (All P xs) ws rest
  of_repeated no_more are = (All-nil P, are)
  of_repeated (again {x = x} {xs = xs} {ws = ws} {a = a} i s) are =
      let g = each x ws a i are in
      let r = of_repeated s g.1 in
      (All-cons P x xs g.0 r.0, r.1)

-- the pieces of members that are formed
module _ {X : Type 0} (f : X → Pieces) where
  all_formed : (xs : List X) → All (λ x. AreFormed (f x)) xs → AreFormed (all_pieces (map f xs))
  all_formed [] all = none
  all_formed (x ∷ xs) all = All-append IsFormed (f x) (all_pieces (map f xs)) (All-head (λ x. AreFormed (f x)) x xs all) (all_formed xs (All-tail (λ x. AreFormed (f x)) x xs all))

  each_formed : (xs : List X) → All (λ x. AreFormed (f x)) xs → AreFormed (flat_map f xs)
  each_formed [] all = none
  each_formed (x ∷ xs) all = All-append IsFormed (f x) (flat_map f xs) (All-head (λ x. AreFormed (f x)) x xs all) (each_formed xs (All-tail (λ x. AreFormed (f x)) x xs all))

  some_formed : (xs : List X) → All (λ x. AreFormed (f x)) xs → 0 < length xs → AreFormed (some_pieces (map f xs))
  some_formed xs all low = All-cons IsFormed (of_length (length (map f xs))) (all_pieces (map f xs)) (mapped xs low) (all_formed xs all)
    where
      mapped : (xs : List X) → 0 < length xs → 0 < length (map f xs)
      mapped [] low = absurd (omega (arith, low))
      mapped (x ∷ xs) low = omega arith

-- ---- acts

value : (m : ℕ) (v : AssignedValue) (ws rest : List Word) → rules.SpellsAssignedValue m v ws rest → Gives (AreFormed (value_pieces v)) ws rest
value m v ws rest (rules.null_value t) are = (none, kept_token t are)
value m v ws rest (rules.default_value t) are = (none, kept_token t are)
value m v ws rest (rules.expr_value {e = e} s) are = expr_gives false m e ws rest s are

module _ (most : ℕ) where
  expression : (m : ℕ) (e : Expr) (ws rest : List Word) → SpellsExprWithin false m e ws rest → Gives (AreFormed (expr_pieces e)) ws rest
  expression m e ws rest s are = expr_gives false m e ws rest s are

  assignment : (a : Assignment) (ws rest : List Word) → rules.SpellsAssignment most a ws rest → Gives (AreFormed (value_pieces a.value)) ws rest
  assignment a ws rest (rules.assignment {v = v} {b = b} i t s) are = value most v b rest s (kept_token t (kept_identifier i are))

  source : {s : InsertSource} {ws rest : List Word} → rules.SpellsInsertSource most s ws rest → Gives (AreFormed (source_pieces s)) ws rest
  source (rules.values_source {vs = vs} t l s r) are =
      let g = of_separated (λ v. AreFormed (value_pieces v)) (rules.SpellsAssignedValue (most - 1)) (value (most - 1)) s (kept_token l (kept_token t are)) in
      (some_formed value_pieces vs g.0.0 g.0.1, kept_token r g.1)
  source (rules.query_source {q = q} {ws = ws} {rest = rest} s) are = query_gives false most q ws rest s are

  arguments : {es : List Expr} {ws rest : List Word} → rules.SpellsArguments most es ws rest → Gives (AreFormed (flat_map expr_pieces es)) ws rest
  arguments (rules.no_arguments l r) are = (none, kept_token r (kept_token l are))
  arguments (rules.arguments {es = es} l s r) are =
      let g = of_separated (λ e. AreFormed (expr_pieces e)) (SpellsExprWithin false (most - 1)) (expression (most - 1)) s (kept_token l are) in
      (each_formed expr_pieces es g.0.0, kept_token r g.1)

  filter : {e : Option Expr} {ws rest : List Word} → Optional k.Where (SpellsExprWithin false most) e ws rest → Gives (AreFormed (filter_pieces e)) ws rest
  filter left_out are = (none, are)
  filter (said {x = x} {a = a} {rest = rest} t s) are = expression most x a rest s (kept_token t are)

  act : {x : Act} {ws rest : List Word} → rules.SpellsAct most x ws rest → Gives (IsFormedAct x) ws rest
  act (rules.insert i t o cs s) are = source s (kept_columns cs (kept_object o (kept_token t (kept_token i are))))
  act (rules.update {t = table} {xs = xs} {filter = e} u o t s w) are =
      let part : Assignment → Pieces = λ a. value_pieces a.value in
      let g = of_separated (λ (a : Assignment). AreFormed (value_pieces a.value)) (rules.SpellsAssignment most) assignment s (kept_token t (kept_object o (kept_token u are))) in
      let h = filter w g.1 in
      (All-append IsFormed (of_object table ∷ some_pieces (map part xs)) (filter_pieces e) (All-cons IsFormed (of_object table) (some_pieces (map part xs)) tt (some_formed part xs g.0.0 g.0.1)) h.0, h.1)
  act (rules.delete {t = table} {filter = e} d f o w) are =
      let h = filter w (kept_object o (kept_token f (kept_token d are))) in
      (All-cons IsFormed (of_object table) (filter_pieces e) tt h.0, h.1)
  act (rules.call {r = routine} {es = es} c o s) are =
      let h = arguments s (kept_object o (kept_token c are)) in
      (All-cons IsFormed (of_object routine) (flat_map expr_pieces es) tt h.0, h.1)

  ended : (x : Act) (ws rest : List Word) → rules.SpellsEndedAct most x ws rest → Gives (IsFormedAct x) ws rest
  ended x ws rest (rules.ended s t) are = let g = act s are in (g.0, kept_token t g.1)

  acts_in_order : {xs : List Act} {ws rest : List Word} → rules.SpellsActs most xs ws rest → Gives ((0 < length xs) × All IsFormedAct xs) ws rest
  acts_in_order (rules.acts_in_order s) are = let g = of_repeated IsFormedAct (rules.SpellsEndedAct most) ended s are in ((omega arith, g.0), g.1)

-- ---- parameters

param : (m : ℕ) (p : Param) (ws rest : List Word) → routines.SpellsParam m p ws rest → Gives (IsType p.sort) ws rest
param m p ws rest (routines.param i n t) are = (type-form t, kept (deep_type t).peak (kept_identifier n (kept_marked i are)))

params : {most : ℕ} {ps : List Param} {ws rest : List Word} → routines.SpellsParams most ps ws rest → Gives (HaveTypes ps) ws rest
params (routines.no_params l r) are = ((λ p among. All-contains (λ (p : Param). IsType p.sort) [] p (All-nil (λ (p : Param). IsType p.sort)) among), kept_token r (kept_token l are))
params {most} (routines.params {ps = ps} l s r) are =
    let g = of_separated (λ (p : Param). IsType p.sort) (routines.SpellsParam (most - 1)) (param (most - 1)) s (kept_token l are) in
    ((λ p among. All-contains (λ (p : Param). IsType p.sort) ps p g.0.0 among), kept_token r g.1)

kept_language : {ws rest : List Word} → routines.SpellsLanguage ws rest → AreWords ws → AreWords rest
kept_language l are = kept (peak_language l) are

-- ---- statements

function : {most : ℕ} {s : CreateFunction} {ws rest : List Word} → SpellsStatement most (statements.CreateFunction s) ws rest → AreWords ws → HaveTypes s.params × IsType s.returns × IsFormedBody s.body
function {most} (create_function {x = x} {h = h} {rest = rest} c f n ps r t l b e) are =
    let p = params ps (kept_object n (kept_token f (kept_token c are))) in
    let behind = kept_token b (kept_language l (kept (deep_type t).peak (kept_token r p.1))) in
    (p.0, type-form t, (expr_gives false (suc most) x h rest e behind).0)

procedure : {most : ℕ} {s : CreateProcedure} {ws rest : List Word} → SpellsStatement most (statements.CreateProcedure s) ws rest → AreWords ws → HaveTypes s.params × IsFormedBody s.body
procedure {most} (create_procedure c f n ps l b a xs e) are =
    let p = params ps (kept_object n (kept_token f (kept_token c are))) in
    (p.0, (acts_in_order most xs (kept_token a (kept_token b (kept_language l p.1)))).0)

pub function_forms : (s : CreateFunction) → IsWritten (statements.CreateFunction s) → HaveTypes s.params × IsType s.returns × IsFormedBody s.body
function_forms s written = function written.2 written.1

pub procedure_forms : (s : CreateProcedure) → IsWritten (statements.CreateProcedure s) → HaveTypes s.params × IsFormedBody s.body
procedure_forms s written = procedure written.2 written.1
