-- Bodies of procedures: what is read is spelled so, and what is spelled so is read.
use Rattle.std.proofs.Common.{◌≡◌, ℕ, ◌<◌, ◌≤◌, Bool, true, false, List, [], ◌∷◌, length, Option, Some, refl, ap, arith, lit<, lit≤}
use Rattle.sql_tree.specs.declared.body.Act.{Act}
use Rattle.sql_tree.specs.declared.body.AssignedValue.{AssignedValue}
use Rattle.sql_tree.specs.declared.body.Assignment.{Assignment}
use Rattle.sql_tree.specs.declared.body.InsertSource.{InsertSource}
use Rattle.sql_tree.specs.declared.expr.Expr.{Expr}
use Rattle.sql_words.specs.declared.word.Word.{Word}
use Rattle.sql_spelling.specs.declared.kind.Kind.{Kind}
use Rattle.sql_spelling.specs.declared.kind.Kind.TheVariants as k
use Rattle.sql_phrases.specs.Reading.{peek, sees}
use Rattle.sql_phrases.specs.Shapes.{Token, Separated, Repeated, Optional, left_out, said}
use Rattle.sql_phrases.specs.Parsers.{separated}
use Rattle.sql_phrases.proofs.Follow.{Below, below_more, passes, sees_no, sees_differs, sees_other}
use Rattle.sql_phrases.proofs.Lists.{Gives, gives_none, gives_some, gives_then, after_not, token_next, gives_eat, gives_expect, expect_at, sees_at, after_at, next_at, peek_at, below_token, shorter_token, Parses, separated_parses, separated_begins, repeated_complete, repeated_sound, optional_complete, optional_sound, optional_below}
use Rattle.sql_phrases.proofs.NameProofs.{identifier_at, gives_identifier, identifier_shorter, object_name_at, gives_object_name, object_name_shorter, columns_at, gives_columns, columns_shorter}
use Rattle.sql_phrases.specs.NameRules.{SpellsColumns, no_columns, columns}
use Rattle.sql_expressions.specs.ExpressionRules.{SpellsExprWithin}
use Rattle.sql_expressions.specs.ExpressionParsers.{expr_within}
use Rattle.sql_expressions.proofs.Binding.{binds, opens}
use Rattle.sql_expressions.proofs.WithinProofs.{expr_within_parses, expr_within_begins, query_within_parses, query_within_begins}
use Rattle.sql_definitions.specs.BodyRules.{SpellsAssignedValue, null_value, default_value, expr_value, SpellsAssignment, assignment, SpellsInsertSource, values_source, query_source, SpellsArguments, no_arguments, arguments, SpellsAct, insert, update, delete, call, SpellsEndedAct, ended, SpellsActs, acts_in_order}
use Rattle.sql_definitions.specs.BodyParsers as parse
use Rattle.sql_definitions.specs.BodyParsers.{begins_act}

-- a word with which no expression begins
never_opens : (by : Kind) → opens by ≡ 0 → (value : Bool) (n : ℕ) (e : Expr) (ws rest : List Word) → SpellsExprWithin value n e ws rest → sees by ws ≡ false
never_opens by z value n e ws rest is = sees_no opens by ws (λ same. absurd (omega (arith, expr_within_begins value n e ws rest is, same, z)))

-- ---- assigned values

module _ (m : ℕ) where
  -- which parser reads an expression
  assigned_expr_by : (kind : Kind) → 0 < opens kind → (ws : List Word) → parse.assigned_by m kind ws ≡ parse.assigned_by m k.Literal ws
  assigned_expr_by k.Null lt ws = absurd (omega (arith, lt))
  assigned_expr_by k.Default lt ws = absurd (omega (arith, lt))
  assigned_expr_by _ lt ws = refl

  value_at : (v : AssignedValue) (ws rest : List Word) → SpellsAssignedValue m v ws rest → Below binds 7 rest → parse.assigned_value m ws ≡ Some (v, rest)
  unfolding parse.assigned_value
  value_at v ws rest (null_value t) s = rw (peek_at t, next_at t)
  value_at v ws rest (default_value t) s = rw (peek_at t, next_at t)
  value_at v ws rest (expr_value {e = e} is) s = rw (assigned_expr_by (peek ws) (expr_within_begins false m e ws rest is) ws, (expr_within_parses false m).complete e ws rest is s)

  value_sound_by : (ws : List Word) (kind : Kind) → peek ws ≡ kind → Gives (parse.assigned_by m kind ws) (λ v a. SpellsAssignedValue m v ws a)
  value_sound_by ws k.Null e = gives_some (null_value (token_next k.Null tt e))
  value_sound_by ws k.Default e = gives_some (default_value (token_next k.Default tt e))
  value_sound_by ws _ e = gives_then ((expr_within_parses false m).sound ws) (λ x a is. gives_some (expr_value is))

  value_sound : (ws : List Word) → Gives (parse.assigned_value m ws) (λ v a. SpellsAssignedValue m v ws a)
  unfolding parse.assigned_value
  value_sound ws = value_sound_by ws (peek ws) refl

  value_shorter : (v : AssignedValue) (ws rest : List Word) → SpellsAssignedValue m v ws rest → length rest < length ws
  value_shorter v ws rest (null_value t) = shorter_token t
  value_shorter v ws rest (default_value t) = shorter_token t
  value_shorter v ws rest (expr_value {e = e} is) = (expr_within_parses false m).shorter e ws rest is

  value_parses : Parses binds (parse.assigned_value m) (SpellsAssignedValue m) 7
  value_parses = record { sound = value_sound; complete = value_at; shorter = value_shorter }

values_parse : Parses binds (separated k.Comma (parse.assigned_value 63)) (Separated k.Comma (SpellsAssignedValue 63)) 4
values_parse = separated_parses binds k.Comma tt (parse.assigned_value 63) (SpellsAssignedValue 63) 7 (lit< tt) (value_parses 63)

assignment_at : (x : Assignment) (ws rest : List Word) → SpellsAssignment 64 x ws rest → Below binds 7 rest → parse.assignment ws ≡ Some (x, rest)
unfolding parse.assignment
assignment_at x ws rest (assignment {v = v} {b = b} c e is) s = rw (identifier_at c, expect_at e, value_at 64 v b rest is s)

assignment_sound : (ws : List Word) → Gives (parse.assignment ws) (λ x a. SpellsAssignment 64 x ws a)
unfolding parse.assignment
assignment_sound ws = gives_then gives_identifier (λ c a n. gives_then (gives_expect k.Equals tt) (λ _ b e. gives_then (value_sound 64 b) (λ v rest is. gives_some (assignment n e is))))

assignment_shorter : (x : Assignment) (ws rest : List Word) → SpellsAssignment 64 x ws rest → length rest < length ws
assignment_shorter x ws rest (assignment {v = v} {a = a} {b = b} c e is) = omega (arith, identifier_shorter _ ws a c, shorter_token e, value_shorter 64 v b rest is)

assignments_parse : Parses binds (separated k.Comma parse.assignment) (Separated k.Comma (SpellsAssignment 64)) 4
assignments_parse = separated_parses binds k.Comma tt parse.assignment (SpellsAssignment 64) 7 (lit< tt) (record { sound = assignment_sound; complete = assignment_at; shorter = assignment_shorter })

-- ---- what an INSERT puts in

source_at : {x : InsertSource} {ws rest : List Word} → SpellsInsertSource 64 x ws rest → Below binds 1 rest → parse.insert_source ws ≡ Some (x, rest)
unfolding parse.insert_source parse.value_list
source_at (values_source {vs = vs} {b = b} {c = c} v l m r) s = rw (sees_at v, after_at v, expect_at l, values_parse.complete vs b c m (below_token binds 4 r (lit< tt)), expect_at r)
source_at {ws = ws} {rest = rest} (query_source {q = q} is) s =
    let n = sees_other k.Values k.Select ws (query_within_begins false 64 q ws rest is) refl in
    rw (n, after_not k.Values ws n, (query_within_parses false 64).complete q ws rest is s)

gives_source : {ws : List Word} → Gives (parse.insert_source ws) (λ x a. SpellsInsertSource 64 x ws a)
unfolding parse.insert_source parse.value_list
gives_source {ws} = gives_eat k.Values tt _ _
    (λ v. gives_then (gives_then (gives_expect k.LeftParen tt) (λ _ b l. gives_then (values_parse.sound b) (λ vs c m. gives_then (gives_expect k.RightParen tt) (λ _ rest r. gives_some (values_source v l m r)))))
    (λ vs rest is. gives_some is))
    (λ e. rw e (gives_then ((query_within_parses false 64).sound ws) (λ q a is. gives_some (query_source is))))

source_shorter : {x : InsertSource} {ws rest : List Word} → SpellsInsertSource 64 x ws rest → length rest < length ws
source_shorter (values_source {vs = vs} {b = b} {c = c} v l m r) = omega (arith, shorter_token v, shorter_token l, values_parse.shorter vs b c m, shorter_token r)
source_shorter {ws = ws} {rest = rest} (query_source {q = q} is) = (query_within_parses false 64).shorter q ws rest is

-- the words with which a source begins
abbrev begins_source : Kind → Bool
begins_source k.Values = true
begins_source k.Select = true
begins_source _ = false

source_begins : {x : InsertSource} {ws rest : List Word} → SpellsInsertSource 64 x ws rest → begins_source (peek ws) ≡ true
source_begins (values_source v l m r) = ap begins_source (peek_at v)
source_begins {ws = ws} {rest = rest} (query_source {q = q} is) = ap begins_source (query_within_begins false 64 q ws rest is)

columns_end : {cs : List (List ℕ)} {ws rest : List Word} → SpellsColumns cs ws rest → begins_source (peek rest) ≡ true → sees k.Period ws ≡ false
columns_end {ws = ws} no_columns e = sees_differs begins_source k.Period ws e refl
columns_end {ws = ws} (columns l m r) e = sees_other k.Period k.LeftParen ws (peek_at l) refl

-- ---- arguments

arguments_parse : Parses binds (separated k.Comma (expr_within false 63)) (Separated k.Comma (SpellsExprWithin false 63)) 4
arguments_parse = separated_parses binds k.Comma tt (expr_within false 63) (SpellsExprWithin false 63) 7 (lit< tt) (expr_within_parses false 63)

arguments_at : {es : List Expr} {ws rest : List Word} → SpellsArguments 64 es ws rest → parse.arguments ws ≡ Some (es, rest)
unfolding parse.arguments
arguments_at (no_arguments l r) = rw (expect_at l, sees_at r, after_at r)
arguments_at (arguments {es = es} {a = a} {b = b} l m r) =
    let n : sees k.RightParen a ≡ false = separated_begins (λ ws. sees k.RightParen ws ≡ false) (never_opens k.RightParen refl false 63) es a b m in
    rw (expect_at l, n, after_not k.RightParen a n, arguments_parse.complete es a b m (below_token binds 4 r (lit< tt)), expect_at r)

gives_arguments : {ws : List Word} → Gives (parse.arguments ws) (λ es a. SpellsArguments 64 es ws a)
unfolding parse.arguments
gives_arguments {ws} = gives_then (gives_expect k.LeftParen tt) (λ _ a l. gives_eat k.RightParen tt _ _
    (λ r. gives_some (no_arguments l r))
    (λ e. rw e (gives_then (arguments_parse.sound a) (λ es b m. gives_then (gives_expect k.RightParen tt) (λ _ rest r. gives_some (arguments l m r))))))

arguments_shorter : {es : List Expr} {ws rest : List Word} → SpellsArguments 64 es ws rest → length rest < length ws
arguments_shorter (no_arguments l r) = omega (arith, shorter_token l, shorter_token r)
arguments_shorter (arguments {es = es} {a = a} {b = b} l m r) = omega (arith, shorter_token l, arguments_parse.shorter es a b m, shorter_token r)

arguments_open : {es : List Expr} {ws rest : List Word} → SpellsArguments 64 es ws rest → peek ws ≡ k.LeftParen
arguments_open (no_arguments l r) = peek_at l
arguments_open (arguments l m r) = peek_at l

-- ---- WHERE

filter_at : {x : Option Expr} {ws rest : List Word} → Optional k.Where (SpellsExprWithin false 64) x ws rest → Below binds 1 rest → parse.filter ws ≡ Some (x, rest)
unfolding parse.filter
filter_at {x} {ws} {rest} o s = optional_complete k.Where (expr_within false 64) (SpellsExprWithin false 64) x ws rest o (passes binds 1 k.Where rest s (lit≤ tt))
    (λ y a r. (expr_within_parses false 64).complete y a rest r (below_more binds 1 7 rest s (lit≤ tt)))

gives_filter : {ws : List Word} → Gives (parse.filter ws) (λ x a. Optional k.Where (SpellsExprWithin false 64) x ws a)
unfolding parse.filter
gives_filter {ws} = optional_sound k.Where tt (expr_within false 64) (SpellsExprWithin false 64) (expr_within_parses false 64).sound ws

filter_below : {x : Option Expr} {ws rest : List Word} → Optional k.Where (SpellsExprWithin false 64) x ws rest → Below binds 1 rest → Below binds 4 ws
filter_below {x} {ws} {rest} o s = optional_below binds 4 k.Where (SpellsExprWithin false 64) x ws rest o (below_more binds 1 4 rest s (lit≤ tt)) (lit< tt)

filter_shorter : {x : Option Expr} {ws rest : List Word} → Optional k.Where (SpellsExprWithin false 64) x ws rest → length rest ≤ length ws
filter_shorter left_out = omega arith
filter_shorter {rest = rest} (said {x = x} {a = a} t r) = omega (arith, shorter_token t, (expr_within_parses false 64).shorter x a rest r)

filter_end : {x : Option Expr} {ws rest : List Word} → Optional k.Where (SpellsExprWithin false 64) x ws rest → Below binds 1 rest → sees k.Period ws ≡ false
filter_end {ws = ws} left_out s = passes binds 1 k.Period ws s (lit≤ tt)
filter_end {ws = ws} (said t r) s = sees_other k.Period k.Where ws (peek_at t) refl

-- ---- acts

act_at : {x : Act} {ws rest : List Word} → SpellsAct 64 x ws rest → Below binds 1 rest → parse.act ws ≡ Some (x, rest)
unfolding parse.act parse.insert parse.update parse.delete parse.call
act_at {rest = rest} (insert {d = d} t i o cs is) s =
    let b = source_begins is in
    rw (peek_at t, next_at t, expect_at i, object_name_at o (columns_end cs b), columns_at cs (sees_differs begins_source k.LeftParen d b refl), source_at is s)
act_at (update {xs = xs} {b = b} {c = c} {d = d} t o u m f) s =
    rw (peek_at t, next_at t, object_name_at o (sees_other k.Period k.Set b (peek_at u) refl), expect_at u, assignments_parse.complete xs c d m (filter_below f s), filter_at f s)
act_at (delete t u o f) s = rw (peek_at t, next_at t, expect_at u, object_name_at o (filter_end f s), filter_at f s)
act_at (call {b = b} t o is) s = rw (peek_at t, next_at t, object_name_at o (sees_other k.Period k.LeftParen b (arguments_open is) refl), arguments_at is)

act_sound_by : (ws : List Word) (kind : Kind) → peek ws ≡ kind → Gives (parse.act_by kind ws) (λ x a. SpellsAct 64 x ws a)
unfolding parse.insert parse.update parse.delete parse.call
act_sound_by ws k.Insert e = gives_then (gives_expect k.Into tt) (λ _ b i. gives_then gives_object_name (λ t c o. gives_then gives_columns (λ cs d l. gives_then gives_source (λ x rest is.
    gives_some (insert (token_next k.Insert tt e) i o l is)))))
act_sound_by ws k.Update e = gives_then gives_object_name (λ t b o. gives_then (gives_expect k.Set tt) (λ _ c u. gives_then (assignments_parse.sound c) (λ xs d m. gives_then gives_filter (λ x rest f.
    gives_some (update (token_next k.Update tt e) o u m f)))))
act_sound_by ws k.Delete e = gives_then (gives_expect k.From tt) (λ _ b u. gives_then gives_object_name (λ t c o. gives_then gives_filter (λ x rest f. gives_some (delete (token_next k.Delete tt e) u o f))))
act_sound_by ws k.Call e = gives_then gives_object_name (λ r b o. gives_then gives_arguments (λ es rest is. gives_some (call (token_next k.Call tt e) o is)))
act_sound_by ws _ e = gives_none

gives_act : {ws : List Word} → Gives (parse.act ws) (λ x a. SpellsAct 64 x ws a)
unfolding parse.act
gives_act {ws} = act_sound_by ws (peek ws) refl

act_shorter : {x : Act} {ws rest : List Word} → SpellsAct 64 x ws rest → length rest < length ws
act_shorter (insert {b = b} {c = c} {d = d} t i o cs is) = omega (arith, shorter_token t, shorter_token i, object_name_shorter _ b c o, columns_shorter _ c d cs, source_shorter is)
act_shorter (update {xs = xs} {a = a} {b = b} {c = c} {d = d} t o u m f) = omega (arith, shorter_token t, object_name_shorter _ a b o, shorter_token u, assignments_parse.shorter xs c d m, filter_shorter f)
act_shorter (delete {b = b} {c = c} t u o f) = omega (arith, shorter_token t, shorter_token u, object_name_shorter _ b c o, filter_shorter f)
act_shorter (call {a = a} {b = b} t o is) = omega (arith, shorter_token t, object_name_shorter _ a b o, arguments_shorter is)

-- an act goes on with acts before it
abbrev goes_on : Kind → ℕ
goes_on k.Insert = 1
goes_on k.Update = 1
goes_on k.Delete = 1
goes_on k.Call = 1
goes_on _ = 0

ended_at : (x : Act) (ws rest : List Word) → SpellsEndedAct 64 x ws rest → Below goes_on 2 rest → parse.ended_act ws ≡ Some (x, rest)
unfolding parse.ended_act
ended_at x ws rest (ended is t) s = rw (act_at is (below_token binds 1 t (lit< tt)), expect_at t)

ended_sound : (ws : List Word) → Gives (parse.ended_act ws) (λ x a. SpellsEndedAct 64 x ws a)
unfolding parse.ended_act
ended_sound ws = gives_then gives_act (λ x a is. gives_then (gives_expect k.Semicolon tt) (λ _ rest t. gives_some (ended is t)))

ended_shorter : (x : Act) (ws rest : List Word) → SpellsEndedAct 64 x ws rest → length rest < length ws
ended_shorter x ws rest (ended is t) = omega (arith, act_shorter is, shorter_token t)

act_begins : {x : Act} {ws rest : List Word} → SpellsAct 64 x ws rest → begins_act (peek ws) ≡ true
act_begins (insert t i o cs is) = ap begins_act (peek_at t)
act_begins (update t o u m f) = ap begins_act (peek_at t)
act_begins (delete t u o f) = ap begins_act (peek_at t)
act_begins (call t o is) = ap begins_act (peek_at t)

ended_begins : (x : Act) (ws rest : List Word) → SpellsEndedAct 64 x ws rest → begins_act (peek ws) ≡ true
ended_begins x ws rest (ended is t) = act_begins is

goes_on_once : (kind : Kind) → goes_on kind < 2
goes_on_once k.Insert = lit< tt
goes_on_once k.Update = lit< tt
goes_on_once k.Delete = lit< tt
goes_on_once k.Call = lit< tt
goes_on_once _ = lit< tt

no_act_by : (kind : Kind) → goes_on kind < 1 → begins_act kind ≡ false
no_act_by k.Insert lt = absurd (omega (arith, lt))
no_act_by k.Update lt = absurd (omega (arith, lt))
no_act_by k.Delete lt = absurd (omega (arith, lt))
no_act_by k.Call lt = absurd (omega (arith, lt))
no_act_by _ lt = refl

no_act : (ws : List Word) → Below goes_on 1 ws → begins_act (peek ws) ≡ false
no_act ws s = no_act_by (peek ws) s.below

ended_below : (x : Act) (ws rest : List Word) → SpellsEndedAct 64 x ws rest → Below goes_on 2 ws
ended_below x ws rest is = record { below = goes_on_once (peek ws) }

ended_parses : Parses goes_on parse.ended_act (SpellsEndedAct 64) 2
ended_parses = record { sound = ended_sound; complete = ended_at; shorter = ended_shorter }

ended_acts_at : (xs : List Act) (ws rest : List Word) → Repeated (SpellsEndedAct 64) xs ws rest → Below goes_on 1 rest → parse.ended_acts ws ≡ Some (xs, rest)
unfolding parse.ended_acts
ended_acts_at xs ws rest m s = repeated_complete goes_on begins_act 1 parse.ended_act (SpellsEndedAct 64) 2 ended_parses ended_begins no_act ended_below (lit≤ tt) xs ws rest m s

gives_ended_acts : {ws : List Word} → Gives (parse.ended_acts ws) (λ xs a. Repeated (SpellsEndedAct 64) xs ws a)
unfolding parse.ended_acts
gives_ended_acts {ws} = repeated_sound goes_on begins_act 1 parse.ended_act (SpellsEndedAct 64) 2 ended_parses ended_begins no_act ended_below (lit≤ tt) ws

some_sound : (xs : List Act) {ws rest : List Word} → Repeated (SpellsEndedAct 64) xs ws rest → Gives (parse.some_acts xs rest) (λ ys a. SpellsActs 64 ys ws a)
some_sound [] m = gives_none
some_sound (x ∷ xs) m = gives_some (acts_in_order m)

-- acts are followed by a word that ends them, as END does
pub acts_at : {xs : List Act} {ws a rest : List Word} → SpellsActs 64 xs ws a → Token k.End a rest → parse.acts_in_order ws ≡ Some (xs, a)
unfolding parse.acts_in_order
acts_at {ws = ws} {a = a} (acts_in_order {x = x} {xs = xs} m) t = rw (ended_acts_at (x ∷ xs) ws a m (below_token goes_on 1 t (lit< tt)))

pub gives_acts : {ws : List Word} → Gives (parse.acts_in_order ws) (λ xs a. SpellsActs 64 xs ws a)
unfolding parse.acts_in_order
gives_acts {ws} = gives_then gives_ended_acts (λ xs a m. some_sound xs m)
