-- Privileges, their targets, grantees and grantors: what is read is spelled so, and what is spelled so is read.
use Rattle.std.proofs.Common.{◌≡◌, ℕ, ◌<◌, Bool, true, false, List, [], ◌∷◌, length, Option, Some, None, refl, ap, subst, arith, lit<, lit≤}
use denote.Enum.Bare.{sameb, true_same}
use Rattle.sql_names.specs.declared.column.ObjectName.{ObjectName}
use Rattle.sql_tree.specs.declared.rights.Grantee.{Grantee}
use Rattle.sql_tree.specs.declared.rights.Grantor.{Grantor}
use Rattle.sql_tree.specs.declared.rights.Privilege.{Privilege}
use Rattle.sql_tree.specs.declared.rights.Privileges.{Privileges}
use Rattle.sql_tree.specs.declared.rights.Target.{Target}
use Rattle.sql_tree.specs.declared.rights.TargetKind.{TargetKind}
use Rattle.sql_tree.specs.declared.rights.TargetKind.TheVariants as kinds
use Rattle.sql_tree.specs.declared.statement.Behaviour.{Behaviour}
use Rattle.sql_spelling.specs.Kinds.{is_name, same_kind}
use Rattle.sql_words.specs.Kinds.{kind_of}
use Rattle.sql_spelling.specs.contracts.kind.Kind.{the_type}
use Rattle.sql_words.specs.declared.word.Word.{Word}
use Rattle.sql_spelling.specs.declared.kind.Kind.{Kind}
use Rattle.sql_spelling.specs.declared.kind.Kind.TheVariants as k
use Rattle.sql_phrases.specs.Reading.{peek, next, sees}
use Rattle.sql_phrases.specs.Shapes.{Token, token, Separated, one, more}
use Rattle.sql_phrases.specs.NameRules.{identifier, SpellsObjectName, unqualified, qualified, SpellsIdentifiers}
use Rattle.sql_phrases.specs.NameParsers.{sees_name}
use Rattle.sql_grammar.specs.RightsRules.{SpellsBehaviour, unsaid, restrict, cascade, SpellsGrantor, current_user, current_role, SpellsGrantorAfter, grantor_after, SpellsGrantedBy, SpellsGrantee, named, public, SpellsPrivilege, select, insert, update, references, delete, usage, execute, SpellsPrivileges, all_privileges, listed, SpellsTarget, unmarked, table, domain, function, procedure, routine, fit, SpellsPrivilegesOn, on_target, SpellsWithOption, without, with_option, SpellsOptionFor, whole, option_for}
use Rattle.sql_phrases.specs.Parsers.{separated}
use Rattle.sql_grammar.specs.RightsParsers as parse
use Rattle.sql_grammar.specs.RightsParsers.{names_then}
use Rattle.sql_phrases.proofs.Follow.{follows, Below, below_more, passes, sees_differs, sees_other}
use Rattle.sql_phrases.proofs.Lists.{Gives, gives_none, gives_some, gives_then, gives_if, gives_weaker, after_not, token_next, gives_eat, gives_ate, gives_expect, expect_at, sees_at, after_at, next_at, peek_at, below_token, shorter_token, IsWord, Parses, separated_parses, optional_complete, optional_sound, optional_below}
use Rattle.sql_phrases.proofs.NameProofs.{identifier_at, gives_identifier, identifier_next, identifier_never, identifier_shorter, object_name_at, gives_object_name, object_name_begins, columns_at, gives_columns, columns_shorter}

-- ---- [RESTRICT | CASCADE]

pub behaviour_at : {x : Behaviour} {ws rest : List Word} → SpellsBehaviour x ws rest → Below follows 1 rest → parse.behaviour ws ≡ Some (x, rest)
unfolding parse.behaviour
behaviour_at {ws = ws} unsaid s =
    let c = passes follows 1 k.Cascade ws s (lit≤ tt) in rw (c, after_not k.Cascade ws c, after_not k.Restrict ws (passes follows 1 k.Restrict ws s (lit≤ tt)))
behaviour_at {ws = ws} (restrict t) s = let c = sees_other k.Cascade k.Restrict ws (peek_at t) refl in rw (c, after_not k.Cascade ws c, after_at t)
behaviour_at (cascade t) s = rw (sees_at t, after_at t)

pub gives_behaviour : {ws : List Word} → Gives (parse.behaviour ws) (λ x a. SpellsBehaviour x ws a)
unfolding parse.behaviour
gives_behaviour {ws} = gives_eat k.Cascade tt _ _
    (λ t. gives_some (cascade t))
    (λ e. rw e (gives_ate k.Restrict tt (λ t. gives_some (restrict t)) (λ e'. rw e' (gives_some unsaid))))

pub behaviour_below : {x : Behaviour} {ws rest : List Word} → SpellsBehaviour x ws rest → Below follows 1 rest → Below follows 2 ws
behaviour_below {ws = ws} unsaid s = below_more follows 1 2 ws s (lit≤ tt)
behaviour_below (restrict t) s = below_token follows 2 t (lit< tt)
behaviour_below (cascade t) s = below_token follows 2 t (lit< tt)

-- ---- grantors

pub grantor_at : {g : Grantor} {ws rest : List Word} → SpellsGrantor g ws rest → parse.grantor ws ≡ Some (g, rest)
unfolding parse.grantor
grantor_at (current_user t) = rw (sees_at t, after_at t)
grantor_at {ws = ws} (current_role t) = let c = sees_other k.CurrentUser k.CurrentRole ws (peek_at t) refl in rw (c, after_not k.CurrentUser ws c, expect_at t)

gives_grantor : {ws : List Word} → Gives (parse.grantor ws) (λ g a. SpellsGrantor g ws a)
unfolding parse.grantor
gives_grantor {ws} = gives_eat k.CurrentUser tt _ _
    (λ t. gives_some (current_user t))
    (λ e. rw e (gives_then (gives_expect k.CurrentRole tt) (λ _ a t. gives_some (current_role t))))

pub grantor_after_at : {by : Kind} {g : Grantor} {ws rest : List Word} → SpellsGrantorAfter by g ws rest → parse.grantor_after by ws ≡ Some (g, rest)
unfolding parse.grantor_after
grantor_after_at (grantor_after t g) = rw (expect_at t, grantor_at g)

pub gives_grantor_after : (by : Kind) (some : IsWord by) (ws : List Word) → Gives (parse.grantor_after by ws) (λ g a. SpellsGrantorAfter by g ws a)
unfolding parse.grantor_after
gives_grantor_after by some ws = gives_then (gives_expect by some) (λ _ a t. gives_weaker gives_grantor (λ g b is. grantor_after t is))

pub granted_by_at : {x : Option Grantor} {ws rest : List Word} → SpellsGrantedBy x ws rest → Below follows 2 rest → parse.granted_by ws ≡ Some (x, rest)
unfolding parse.granted_by
granted_by_at {x} {ws} {rest} is s = optional_complete k.Granted (parse.grantor_after k.By) (SpellsGrantorAfter k.By) x ws rest is (passes follows 2 k.Granted rest s (lit≤ tt)) (λ g a r. grantor_after_at r)

pub gives_granted_by : {ws : List Word} → Gives (parse.granted_by ws) (λ x a. SpellsGrantedBy x ws a)
unfolding parse.granted_by
gives_granted_by {ws} = optional_sound k.Granted tt (parse.grantor_after k.By) (SpellsGrantorAfter k.By) (gives_grantor_after k.By tt) ws

pub granted_by_below : {x : Option Grantor} {ws rest : List Word} → SpellsGrantedBy x ws rest → Below follows 2 rest → Below follows 3 ws
granted_by_below {x} {ws} {rest} is s = optional_below follows 3 k.Granted (SpellsGrantorAfter k.By) x ws rest is (below_more follows 2 3 rest s (lit≤ tt)) (lit< tt)

-- ---- grantees

grantee_at : (x : Grantee) (ws rest : List Word) → SpellsGrantee x ws rest → Below follows 10 rest → parse.grantee ws ≡ Some (x, rest)
unfolding parse.grantee is_name same_kind
grantee_at x ws rest (named is) s = let e = identifier_never k.Public is refl in rw (e, after_not k.Public ws e, identifier_at is)
grantee_at x ws rest (public t) s = rw (sees_at t, after_at t)

grantee_sound : (ws : List Word) → Gives (parse.grantee ws) (λ x a. SpellsGrantee x ws a)
unfolding parse.grantee
grantee_sound ws = gives_eat k.Public tt _ _
    (λ t. gives_some (public t))
    (λ e. rw e (gives_then gives_identifier (λ n a is. gives_some (named is))))

grantee_shorter : (x : Grantee) (ws rest : List Word) → SpellsGrantee x ws rest → length rest < length ws
grantee_shorter x ws rest (named is) = identifier_shorter _ ws rest is
grantee_shorter x ws rest (public t) = shorter_token t

pub grantees_parse : Parses follows (separated k.Comma parse.grantee) (Separated k.Comma SpellsGrantee) 9
grantees_parse = separated_parses follows k.Comma tt parse.grantee SpellsGrantee 10 (lit< tt) (record { sound = grantee_sound; complete = grantee_at; shorter = grantee_shorter })

-- ---- privileges

privilege_at : (x : Privilege) (ws rest : List Word) → SpellsPrivilege x ws rest → Below follows 10 rest → parse.privilege ws ≡ Some (x, rest)
unfolding parse.privilege
privilege_at x ws rest (select t cs) s = rw (peek_at t, next_at t, columns_at cs (passes follows 10 k.LeftParen rest s (lit≤ tt)))
privilege_at x ws rest (insert t cs) s = rw (peek_at t, next_at t, columns_at cs (passes follows 10 k.LeftParen rest s (lit≤ tt)))
privilege_at x ws rest (update t cs) s = rw (peek_at t, next_at t, columns_at cs (passes follows 10 k.LeftParen rest s (lit≤ tt)))
privilege_at x ws rest (references t cs) s = rw (peek_at t, next_at t, columns_at cs (passes follows 10 k.LeftParen rest s (lit≤ tt)))
privilege_at x ws rest (delete t) s = rw (peek_at t, next_at t)
privilege_at x ws rest (usage t) s = rw (peek_at t, next_at t)
privilege_at x ws rest (execute t) s = rw (peek_at t, next_at t)

privilege_sound_by : (ws : List Word) (kind : Kind) → peek ws ≡ kind → Gives (parse.privilege_by kind ws) (λ x a. SpellsPrivilege x ws a)
privilege_sound_by ws k.Select e = gives_then gives_columns (λ cs a is. gives_some (select (token_next k.Select tt e) is))
privilege_sound_by ws k.Insert e = gives_then gives_columns (λ cs a is. gives_some (insert (token_next k.Insert tt e) is))
privilege_sound_by ws k.Update e = gives_then gives_columns (λ cs a is. gives_some (update (token_next k.Update tt e) is))
privilege_sound_by ws k.References e = gives_then gives_columns (λ cs a is. gives_some (references (token_next k.References tt e) is))
privilege_sound_by ws k.Delete e = gives_some (delete (token_next k.Delete tt e))
privilege_sound_by ws k.Usage e = gives_some (usage (token_next k.Usage tt e))
privilege_sound_by ws k.Execute e = gives_some (execute (token_next k.Execute tt e))
privilege_sound_by ws _ e = gives_none

privilege_shorter : (x : Privilege) (ws rest : List Word) → SpellsPrivilege x ws rest → length rest < length ws
privilege_shorter x ws rest (select {a = a} t cs) = omega (arith, shorter_token t, columns_shorter _ a rest cs)
privilege_shorter x ws rest (insert {a = a} t cs) = omega (arith, shorter_token t, columns_shorter _ a rest cs)
privilege_shorter x ws rest (update {a = a} t cs) = omega (arith, shorter_token t, columns_shorter _ a rest cs)
privilege_shorter x ws rest (references {a = a} t cs) = omega (arith, shorter_token t, columns_shorter _ a rest cs)
privilege_shorter x ws rest (delete t) = shorter_token t
privilege_shorter x ws rest (usage t) = shorter_token t
privilege_shorter x ws rest (execute t) = shorter_token t

listed_parse : Parses follows (separated k.Comma parse.privilege) (Separated k.Comma SpellsPrivilege) 9
unfolding parse.privilege
listed_parse = separated_parses follows k.Comma tt parse.privilege SpellsPrivilege 10 (lit< tt) (record { sound = λ ws. privilege_sound_by ws (peek ws) refl; complete = privilege_at; shorter = privilege_shorter })

-- the words with which privileges begin
abbrev pub begins_privilege : Kind → Bool
begins_privilege k.Select = true
begins_privilege k.Insert = true
begins_privilege k.Update = true
begins_privilege k.References = true
begins_privilege k.Delete = true
begins_privilege k.Usage = true
begins_privilege k.Execute = true
begins_privilege _ = false

privilege_begins : {x : Privilege} {ws rest : List Word} → SpellsPrivilege x ws rest → begins_privilege (peek ws) ≡ true
privilege_begins (select t cs) = ap begins_privilege (peek_at t)
privilege_begins (insert t cs) = ap begins_privilege (peek_at t)
privilege_begins (update t cs) = ap begins_privilege (peek_at t)
privilege_begins (references t cs) = ap begins_privilege (peek_at t)
privilege_begins (delete t) = ap begins_privilege (peek_at t)
privilege_begins (usage t) = ap begins_privilege (peek_at t)
privilege_begins (execute t) = ap begins_privilege (peek_at t)

listed_begins : {xs : List Privilege} {ws rest : List Word} → Separated k.Comma SpellsPrivilege xs ws rest → begins_privilege (peek ws) ≡ true
listed_begins (one p) = privilege_begins p
listed_begins (more p t m) = privilege_begins p

privileges_at : {x : Privileges} {ws rest : List Word} → SpellsPrivileges x ws rest → Below follows 9 rest → parse.privileges ws ≡ Some (x, rest)
unfolding parse.privileges
privileges_at (all_privileges t u) s = rw (sees_at t, after_at t, expect_at u)
privileges_at {ws = ws} {rest = rest} (listed {ps = ps} m) s =
    let e = sees_differs begins_privilege k.All ws (listed_begins m) refl in rw (e, after_not k.All ws e, listed_parse.complete ps ws rest m s)

gives_privileges : {ws : List Word} → Gives (parse.privileges ws) (λ x a. SpellsPrivileges x ws a)
unfolding parse.privileges
gives_privileges {ws} = gives_eat k.All tt _ _
    (λ t. gives_then (gives_expect k.Privileges tt) (λ _ a u. gives_some (all_privileges t u)))
    (λ e. rw e (gives_then (listed_parse.sound ws) (λ ps a m. gives_some (listed m))))

-- another word doesn't begin privileges
pub privileges_never : {x : Privileges} {ws rest : List Word} (by : Kind) → SpellsPrivileges x ws rest → begins_privilege by ≡ false → sameb the_type k.All by ≡ false → sees by ws ≡ false
privileges_never {ws = ws} by (all_privileges t u) d a = sees_other by k.All ws (peek_at t) a
privileges_never {ws = ws} by (listed m) d a = sees_differs begins_privilege by ws (listed_begins m) d

-- ---- targets

no_kind : (kind : Kind) → is_name kind ≡ true → parse.target_kind_by kind false ≡ None
unfolding is_name same_kind
no_kind k.Table e = cc
no_kind k.Function e = cc
no_kind k.Procedure e = cc
no_kind k.Domain e = refl
no_kind k.Routine e = refl
no_kind _ e = refl

-- after a name alone no name follows
lone : {o : ObjectName} {ws rest : List Word} → SpellsObjectName o ws rest → is_name (peek rest) ≡ false → sees_name (next ws) ≡ false
unfolding sees_name is_name same_kind
lone {rest = rest} (unqualified n) e = rw (identifier_next n) e
lone (qualified s d n) e = rw (identifier_next s, peek_at d) refl

sees_named : {o : ObjectName} {ws rest : List Word} → SpellsObjectName o ws rest → sees_name ws ≡ true
unfolding sees_name
sees_named o = object_name_begins o

pub target_at : {x : Target} {ws rest : List Word} → SpellsTarget x ws rest → sees k.Period rest ≡ false → is_name (peek rest) ≡ false → parse.target ws ≡ Some (x, rest)
unfolding parse.target parse.target_kind
target_at {ws = ws} (unmarked o) p e = rw (lone o e, no_kind (peek ws) (object_name_begins o), object_name_at o p)
target_at (table t o) p e = rw (peek_at t, next_at t, object_name_at o p)
target_at (domain t o) p e = rw (peek_at t, next_at t, sees_named o, next_at t, object_name_at o p)
target_at (function t o) p e = rw (peek_at t, next_at t, object_name_at o p)
target_at (procedure t o) p e = rw (peek_at t, next_at t, object_name_at o p)
target_at (routine t o) p e = rw (peek_at t, next_at t, sees_named o, next_at t, object_name_at o p)

target_kind_sound : (ws : List Word) (kind : Kind) (is_named : Bool) → peek ws ≡ kind → (t : TargetKind) (o : ObjectName) (rest : List Word) → parse.target_kind_by kind is_named ≡ Some t
    → SpellsObjectName o (next ws) rest → SpellsTarget (record { kind = t; object = o }) ws rest
target_kind_sound ws k.Table is_named e t o rest h is = let s : kinds.Table ≡ t = cc in subst (λ z. SpellsTarget (record { kind = z; object = o }) ws rest) s (table (token_next k.Table tt e) is)
target_kind_sound ws k.Function is_named e t o rest h is = let s : kinds.Function ≡ t = cc in subst (λ z. SpellsTarget (record { kind = z; object = o }) ws rest) s (function (token_next k.Function tt e) is)
target_kind_sound ws k.Procedure is_named e t o rest h is = let s : kinds.Procedure ≡ t = cc in subst (λ z. SpellsTarget (record { kind = z; object = o }) ws rest) s (procedure (token_next k.Procedure tt e) is)
target_kind_sound ws k.Domain true e t o rest h is = let s : kinds.Domain ≡ t = cc in subst (λ z. SpellsTarget (record { kind = z; object = o }) ws rest) s (domain (token_next k.Domain tt e) is)
target_kind_sound ws k.Domain false e t o rest h is = cc
target_kind_sound ws k.Routine true e t o rest h is = let s : kinds.Routine ≡ t = cc in subst (λ z. SpellsTarget (record { kind = z; object = o }) ws rest) s (routine (token_next k.Routine tt e) is)
target_kind_sound ws k.Routine false e t o rest h is = cc
target_kind_sound ws _ is_named e t o rest h is = cc

abbrev IsKindOf : List Word → TargetKind → List Word → Type 0
IsKindOf ws kind a = (o : ObjectName) (rest : List Word) → SpellsObjectName o a rest → SpellsTarget (record { kind = kind; object = o }) ws rest

kind_given : (ws : List Word) (found : Option TargetKind) → parse.target_kind_by (peek ws) (sees_name (next ws)) ≡ found → Gives (parse.kind_or_table found ws) (IsKindOf ws)
kind_given ws (Some t) h = gives_some (λ o rest is. target_kind_sound ws (peek ws) (sees_name (next ws)) refl t o rest h is)
kind_given ws None h = gives_some (λ o rest is. unmarked is)

pub gives_target : {ws : List Word} → Gives (parse.target ws) (λ x a. SpellsTarget x ws a)
unfolding parse.target parse.target_kind
gives_target {ws} = gives_then (kind_given ws (parse.target_kind_by (peek ws) (sees_name (next ws))) refl) (λ kind a h. gives_then gives_object_name (λ o rest is. gives_some (h o rest is)))

-- ---- privileges ON target

pub privileges_on_at : {ps : Privileges} {t : Target} {ws rest : List Word} → SpellsPrivilegesOn ps t ws rest → sees k.Period rest ≡ false → is_name (peek rest) ≡ false
    → parse.privileges_on ws ≡ Some ((ps, t), rest)
unfolding parse.privileges_on parse.fitting
privileges_on_at (on_target is t it f) p e = rw (privileges_at is (below_token follows 9 t (lit< tt)), expect_at t, target_at it p e, f)

pub gives_privileges_on : {ws : List Word} → Gives (parse.privileges_on ws) (λ g a. SpellsPrivilegesOn g.0 g.1 ws a)
unfolding parse.privileges_on parse.fitting
gives_privileges_on {ws} = gives_then gives_privileges (λ ps a is. gives_then (gives_expect k.On tt) (λ _ b t. gives_then gives_target (λ tg c it.
    gives_if (fit tg.kind ps) (λ f. gives_some (on_target is t it f)) (λ _. gives_none))))

pub privileges_on_never : {ps : Privileges} {t : Target} {ws rest : List Word} (by : Kind) → SpellsPrivilegesOn ps t ws rest → begins_privilege by ≡ false → sameb the_type k.All by ≡ false → sees by ws ≡ false
privileges_on_never by (on_target is t it f) d a = privileges_never by is d a

-- ---- options

pub with_option_at : {what : Kind} {x : Bool} {ws rest : List Word} → SpellsWithOption what x ws rest → Below follows 3 rest → parse.with_option what ws ≡ Some (x, rest)
unfolding parse.with_option
with_option_at {ws = ws} without s = let c = passes follows 3 k.With ws s (lit≤ tt) in rw (c, after_not k.With ws c)
with_option_at (with_option w u o) s = rw (sees_at w, after_at w, expect_at u, expect_at o)

pub gives_with_option : {ws : List Word} (what : Kind) → IsWord what → Gives (parse.with_option what ws) (λ x a. SpellsWithOption what x ws a)
unfolding parse.with_option
gives_with_option {ws} what some = gives_eat k.With tt _ _
    (λ w. gives_then (gives_expect what some) (λ _ a u. gives_then (gives_expect k.Option tt) (λ _ b o. gives_some (with_option w u o))))
    (λ e. rw e (gives_some without))

pub with_option_below : {what : Kind} {x : Bool} {ws rest : List Word} → SpellsWithOption what x ws rest → Below follows 3 rest → Below follows 9 ws
with_option_below {ws = ws} without s = below_more follows 3 9 ws s (lit≤ tt)
with_option_below (with_option w u o) s = below_token follows 9 w (lit< tt)

pub option_for_at : {what : Kind} {x : Bool} {ws rest : List Word} → SpellsOptionFor what x ws rest → sees what rest ≡ false → parse.option_for what ws ≡ Some (x, rest)
unfolding parse.option_for
option_for_at {what} {ws = ws} whole e = rw (e, after_not what ws e)
option_for_at (option_for w o f) e = rw (sees_at w, after_at w, expect_at o, expect_at f)

pub gives_option_for : {ws : List Word} (what : Kind) → IsWord what → Gives (parse.option_for what ws) (λ x a. SpellsOptionFor what x ws a)
unfolding parse.option_for
gives_option_for {ws} what some = gives_eat what some _ _
    (λ w. gives_then (gives_expect k.Option tt) (λ _ a o. gives_then (gives_expect k.For tt) (λ _ b f. gives_some (option_for w o f))))
    (λ e. rw e (gives_some whole))

-- ---- privileges or roles

pub names_then_no : (by : Kind) (ws : List Word) → is_name (peek ws) ≡ false → names_then by ws ≡ false
names_then_no by [] h = refl
names_then_no by (w ∷ []) h = refl
names_then_no by (w ∷ v ∷ ws) h = rw h

-- a name, and a word that isn't a comma
names_then_ends : (by : Kind) (w v : Word) (ws : List Word) → is_name (kind_of w) ≡ true → same_kind (kind_of v) k.Comma ≡ false → names_then by (w ∷ v ∷ ws) ≡ same_kind (kind_of v) by
names_then_ends by w v ws h d = rw (h, d)

pub roles_then : (by : Kind) → sameb the_type by k.Comma ≡ false → (ns : List (List ℕ)) (ws a b : List Word) → SpellsIdentifiers ns ws a → Token by a b → names_then by ws ≡ true
unfolding same_kind
roles_then by d ns ws a b (one (identifier h is)) (token {w = v} e) = rw (h, e, d, true_same the_type by by refl)
roles_then by d ns ws a b (more {xs = xs} {b = c} (identifier h is) (token {w = v} e) m) t = rw (h, e) (roles_then by d xs c a b m t)

pub privileges_then : (by : Kind) → sameb the_type k.On by ≡ false → (xs : List Privilege) (ws a b : List Word) → Separated k.Comma SpellsPrivilege xs ws a → Token k.On a b → names_then by ws ≡ false
unfolding is_name same_kind
privileges_then by d xs ws a b (one (select t cs)) u = names_then_no by ws (rw (peek_at t) refl)
privileges_then by d xs ws a b (one (insert t cs)) u = names_then_no by ws (rw (peek_at t) refl)
privileges_then by d xs ws a b (one (update t cs)) u = names_then_no by ws (rw (peek_at t) refl)
privileges_then by d xs ws a b (one (references t cs)) u = names_then_no by ws (rw (peek_at t) refl)
privileges_then by d xs ws a b (one (delete t)) u = names_then_no by ws (rw (peek_at t) refl)
privileges_then by d xs ws a b (one (usage (token {w = w} h))) (token {w = v} e) = rw (h, e, d)
privileges_then by d xs ws a b (one (execute (token {w = w} h))) (token {w = v} e) = rw (h, e, d)
privileges_then by d xs ws a b (more (select t cs) c m) u = names_then_no by ws (rw (peek_at t) refl)
privileges_then by d xs ws a b (more (insert t cs) c m) u = names_then_no by ws (rw (peek_at t) refl)
privileges_then by d xs ws a b (more (update t cs) c m) u = names_then_no by ws (rw (peek_at t) refl)
privileges_then by d xs ws a b (more (references t cs) c m) u = names_then_no by ws (rw (peek_at t) refl)
privileges_then by d xs ws a b (more (delete t) c m) u = names_then_no by ws (rw (peek_at t) refl)
privileges_then by d xs ws a b (more {xs = ys} {b = i} (usage (token {w = w} h)) (token {w = v} e) m) u = rw (h, e) (privileges_then by d ys i a b m u)
privileges_then by d xs ws a b (more {xs = ys} {b = i} (execute (token {w = w} h)) (token {w = v} e) m) u = rw (h, e) (privileges_then by d ys i a b m u)

pub privileges_on_then : {ps : Privileges} {t : Target} {ws rest : List Word} (by : Kind) → sameb the_type k.On by ≡ false → SpellsPrivilegesOn ps t ws rest → names_then by ws ≡ false
unfolding is_name same_kind
privileges_on_then {ws = ws} by d (on_target (all_privileges t p) u it f) = names_then_no by ws (rw (peek_at t) refl)
privileges_on_then {ws = ws} by d (on_target {a = a} {b = b} (listed {ps = xs} m) u it f) = privileges_then by d xs ws a b m u
