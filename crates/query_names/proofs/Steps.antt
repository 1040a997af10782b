-- Two steps of the walk over a tree that end in a refusal or in a SELECT.
use Rattle.std.proofs.Common.{◌≡◌, ◌∙◌, Bool, List, [], ◌∷◌, Option, Result, Ok, Err, ap, subst, sym, map}
use Rattle.std.specs.Prelude.{option_map}
use Rattle.sql_names.specs.declared.column.Reference.{Reference}
use Rattle.sql_tree.specs.declared.expr.Chain.{Chain}
use Rattle.sql_tree.specs.declared.expr.Expr.{Expr}
use Rattle.sql_tree.specs.declared.expr.Select.{Select, out-Select}
use Rattle.sql_tree.specs.declared.expr.SelectList.{SelectList}
use Rattle.sql_tree.specs.declared.expr.Sum.{Sum}
use Rattle.sql_tree.specs.declared.expr.Tail.{Tail}
use Rattle.sql_tree.specs.declared.expr.Tail.TheVariants as tails
use Rattle.name_scopes.specs.declared.error.ResolveError.{ResolveError}
use Rattle.name_scopes.specs.declared.error.ResolveError.TheVariants.{UnknownName, Ambiguous, TypeMismatch, Memory}
use Rattle.name_scopes.specs.declared.scope.Scope.{Scope}
use Rattle.name_scopes.specs.Known.{Known}
use Rattle.name_scopes.specs.Frames.{Frames, empty, whole}
use Rattle.name_scopes.specs.Outcomes.{Outcome, ◌>>=◌, Answers, each, thread, perhaps}
use Rattle.name_scopes.specs.Single.{reference}
use Rattle.query_names.specs.Names.{selected, chain, expr, select, select_list, sum, tail}
use Rattle.query_names.proofs.Equations.{names_Select, names_Tail_Between}

refused : (k : Known) (scope : Scope) (negated : Bool) (low high low' : Sum) (s : Frames) (e : ResolveError) → sum k scope low s ≡ Ok low' → sum k scope high s ≡ Err e → tail k scope (tails.Between negated low high) s ≡ Err e
refused k scope negated low high low' s e l h =
    names_Tail_Between k scope negated low high s
    ∙ (ap (λ (o : Outcome Sum). o >>= λ x. sum k scope high s >>= λ y. Ok (tails.Between negated x y)) l
    ∙ ap (λ (o : Outcome Sum). o >>= λ y. Ok (tails.Between negated low' y)) h)

refused_so : (k : Known) (scope : Scope) (negated : Bool) (low high low' : Sum) (s : Frames) (e : ResolveError) → sum k scope low s ≡ Ok low' → Answers (sum k scope high s) (Err e) → Answers (tail k scope (tails.Between negated low high) s) (Err e)
refused_so k scope negated low high low' s (UnknownName p) l h = refused k scope negated low high low' s (UnknownName p) l h
refused_so k scope negated low high low' s (Ambiguous n) l h = refused k scope negated low high low' s (Ambiguous n) l h
refused_so k scope negated low high low' s TypeMismatch l h = refused k scope negated low high low' s TypeMismatch l h
refused_so k scope negated low high low' s Memory l h = tt

-- the second bound of BETWEEN is refused
pub between_refused : (k : Known) (scope : Scope) (x : Tail) (negated : Bool) (low high low' : Sum) (s s1 : Frames) (e : ResolveError) (r : Result Tail ResolveError) → x ≡ tails.Between negated low high → sum k scope low s ≡ Ok low' → s1 ≡ s → Answers (sum k scope high s1) (Err e) → r ≡ Err e → Answers (tail k scope x s) r
between_refused k scope x negated low high low' s s1 e r is l kept h end =
    let h' : Answers (sum k scope high s) (Err e) = subst (λ (z : Frames). Answers (sum k scope high z) (Err e)) kept h in
    let so : Answers (tail k scope (tails.Between negated low high) s) (Err e) = refused_so k scope negated low high low' s e l h' in
    subst (λ (o : Result Tail ResolveError). Answers (tail k scope x s) o) (sym end) (subst (λ (z : Tail). Answers (tail k scope z s) (Err e)) (sym is) so)

resolved : (k : Known) (scope : Scope) (x : Select) (s s1 : Frames) (from : List Chain) (list : SelectList) (filter : Option Expr) → thread [] (map (chain k scope) (out-Select x).from) (empty ∷ s) ≡ Ok (from, s1) → select_list k scope (out-Select x).list (whole s1) ≡ Ok list → perhaps (option_map (expr k scope) (out-Select x).filter) (whole s1) ≡ Ok filter → select k scope x s ≡ selected (out-Select x).distinct list from filter (each (whole s1) [] (map (reference k scope) (out-Select x).group_by))
resolved k scope x s s1 from list filter t l p =
    names_Select k scope x s
    ∙ (ap (λ (o : Outcome (List Chain × Frames)). o >>= λ f. select_list k scope (out-Select x).list (whole f.1) >>= λ i. perhaps (option_map (expr k scope) (out-Select x).filter) (whole f.1) >>= λ w. selected (out-Select x).distinct i f.0 w (each (whole f.1) [] (map (reference k scope) (out-Select x).group_by))) t
    ∙ (ap (λ (o : Outcome SelectList). o >>= λ i. perhaps (option_map (expr k scope) (out-Select x).filter) (whole s1) >>= λ w. selected (out-Select x).distinct i from w (each (whole s1) [] (map (reference k scope) (out-Select x).group_by))) l
    ∙ ap (λ (o : Outcome (Option Expr)). o >>= λ w. selected (out-Select x).distinct list from w (each (whole s1) [] (map (reference k scope) (out-Select x).group_by))) p))

-- a SELECT whose FROM, list and WHERE resolved
pub select_answers : (k : Known) (scope : Scope) (x : Select) (s s0 s1 s2 s3 s4 : Frames) (from0 from : List Chain) (list : SelectList) (filter : Option Expr) (groups0 : List Reference) (g : Result (List Reference) ResolveError) (r : Result Select ResolveError)
    → thread [] (map (chain k scope) from0) s0 ≡ Ok (from, s1) → select_list k scope (out-Select x).list s2 ≡ Ok list → perhaps (option_map (expr k scope) (out-Select x).filter) s3 ≡ Ok filter → Answers (each s4 [] (map (reference k scope) groups0)) g
    → ((o : Outcome (List Reference)) → Answers o g → Answers (selected (out-Select x).distinct list from filter o) r)
    → s0 ≡ empty ∷ s → from0 ≡ (out-Select x).from → s2 ≡ whole s1 → s3 ≡ s2 → s4 ≡ s3 → groups0 ≡ (out-Select x).group_by → Answers (select k scope x s) r
select_answers k scope x s s0 s1 s2 s3 s4 from0 from list filter groups0 g r t l p gs made e0 f0 e2 e3 e4 g0 =
    let t' : thread [] (map (chain k scope) (out-Select x).from) (empty ∷ s) ≡ Ok (from, s1) = subst (λ (z : List Chain). thread [] (map (chain k scope) z) (empty ∷ s) ≡ Ok (from, s1)) f0 (subst (λ (z : Frames). thread [] (map (chain k scope) from0) z ≡ Ok (from, s1)) e0 t) in
    let l' : select_list k scope (out-Select x).list (whole s1) ≡ Ok list = subst (λ (z : Frames). select_list k scope (out-Select x).list z ≡ Ok list) e2 l in
    let p' : perhaps (option_map (expr k scope) (out-Select x).filter) (whole s1) ≡ Ok filter = subst (λ (z : Frames). perhaps (option_map (expr k scope) (out-Select x).filter) z ≡ Ok filter) (e3 ∙ e2) p in
    let gs' : Answers (each (whole s1) [] (map (reference k scope) (out-Select x).group_by)) g = subst (λ (z : List Reference). Answers (each (whole s1) [] (map (reference k scope) z)) g) g0 (subst (λ (z : Frames). Answers (each z [] (map (reference k scope) groups0)) g) (e4 ∙ (e3 ∙ e2)) gs) in
    subst (λ (o : Outcome Select). Answers o r) (sym (resolved k scope x s s1 from list filter t' l' p')) (made (each (whole s1) [] (map (reference k scope) (out-Select x).group_by)) gs')
