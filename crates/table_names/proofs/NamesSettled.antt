-- What comes twice is told in one way, and constraints have one list of names.
use Rattle.std.proofs.Common.{◌≡◌, ℕ, ◌<◌, ◌≤◌, ◌⊎◌, List, [], ◌∷◌, ◌++◌, length, get_or, Option, Some, None, refl, sym, subst, ap, ◌∙◌, inl, inr, arith}
use Rattle.std.proofs.lemmas.Bool.{cases_lt}
use Rattle.std.proofs.lemmas.List.{get_or_append_left, get_or_at}
use Rattle.sql_names.specs.declared.object.Object.{Object}
use Rattle.sql_tree.specs.declared.table.TableConstraint.{TableConstraint}
use Rattle.cat_items.specs.declared.edit.Refusal.TheVariants.{Repeated}
use Rattle.cat_items.specs.declared.item.Item.{Item}
use Rattle.edit_rules.proofs.FirstLaws.{IsSettled}
use Rattle.table_parts.specs.declared.marks.Mark.{Mark}
use Rattle.table_parts.specs.declared.parts.Part.{Part}
use Rattle.table_parts.specs.Marks.{IsRepeated, marks_in}
use Rattle.table_parts.specs.Parts.{constraints_of}
use Rattle.table_names.specs.declared.named.NamedConstraint.{NamedConstraint}
use Rattle.table_names.specs.Given.{given_names}
use Rattle.table_names.specs.Named.{AreConstraints, AreNamed, IsFree, IsNameFor, IsSystemName, system_name}
use Rattle.table_names.specs.Refusals.{repeated_name, told}

-- ---- the first mark that is repeated

-- the first mark that is repeated isn't before another first one
no_earlier : (all : List Mark) (a b : Mark) (p : IsRepeated all a) (q : IsRepeated all b) → length p.before < length q.before → ⊥
no_earlier all a b p q less =
    let k : ℕ = p.again.0 in
    let place : ℕ = length p.before in
    let within : k < length q.before = omega (arith, p.again.1, less) in
    let early : get_or all k a ≡ a = ap (λ (l : List Mark). get_or l k a) p.parts ∙ get_or_append_left p.before (a ∷ p.after) a k p.again.1 ∙ p.again.2 in
    let late : get_or all place a ≡ a = ap (λ (l : List Mark). get_or l place a) p.parts ∙ get_or_at p.before a p.after a place refl in
    let in_front : (n : ℕ) → n < length q.before → get_or q.before n a ≡ get_or all n a =
    λ n low. sym (ap (λ (l : List Mark). get_or l n a) q.parts ∙ get_or_append_left q.before (b ∷ q.after) a n low) in
    q.differ k place a p.again.1 less (in_front k within ∙ early ∙ sym (in_front place less ∙ late))

-- one mark is the first
one_repeated : (all : List Mark) (a b : Mark) → IsRepeated all a → IsRepeated all b → a ≡ b
one_repeated all a b p q = by (cases_lt (length p.before) (length q.before)) (cases_lt (length q.before) (length p.before))
  where
    by : (length p.before < length q.before) ⊎ (length q.before ≤ length p.before) → (length q.before < length p.before) ⊎ (length p.before ≤ length q.before) → a ≡ b
    by (inl less) other = absurd (no_earlier all a b p q less)
    by (inr low) (inl less) = absurd (no_earlier all b a q p less)
    by (inr low) (inr high) =
        let same : length p.before ≡ length q.before = omega (arith, low, high) in
        sym (ap (λ (l : List Mark). get_or l (length p.before) a) p.parts ∙ get_or_at p.before a p.after a (length p.before) refl)
        ∙ ap (λ (l : List Mark). get_or l (length p.before) a) q.parts ∙ get_or_at q.before b q.after a (length p.before) (sym same)

-- what comes twice
pub repeated_settled : (made : Object) (all : List Part) → IsSettled (repeated_name made all)
repeated_settled made all a b p q = p.2 ∙ ap (λ m. Repeated (told made m)) (one_repeated (marks_in all) p.0 q.0 p.1 q.1) ∙ sym q.2

-- ---- the names of constraints

-- no free name has a number below the least
no_less : (Free : List ℕ → Type 0) (a b : List ℕ) (p : IsSystemName Free a) (q : IsSystemName Free b) → p.number < q.number → ⊥
no_less Free a b p q less = q.least p.number p.positive less (subst Free p.is p.free)

-- the free name of the least number is one
one_number : (Free : List ℕ → Type 0) (a b : List ℕ) → IsSystemName Free a → IsSystemName Free b → a ≡ b
one_number Free a b p q = by (cases_lt p.number q.number) (cases_lt q.number p.number)
  where
    by : (p.number < q.number) ⊎ (q.number ≤ p.number) → (q.number < p.number) ⊎ (p.number ≤ q.number) → a ≡ b
    by (inl less) other = absurd (no_less Free a b p q less)
    by (inr low) (inl less) = absurd (no_less Free b a q p less)
    by (inr low) (inr high) = let same : p.number ≡ q.number = omega (arith, low, high) in p.is ∙ ap system_name same ∙ sym q.is

-- a constraint behind others has one name
one_name : (Free : List ℕ → Type 0) (before : List NamedConstraint) (given : Option (List ℕ)) (a b : List ℕ) → IsNameFor Free before given a → IsNameFor Free before given b → a ≡ b
one_name Free before (Some given) a b p q = p ∙ sym q
one_name Free before None a b p q = one_number _ a b p q

-- constraints behind others have one list of names
named_settled : (Free : List ℕ → Type 0) (before : List NamedConstraint) (ks : List TableConstraint) (a b : List NamedConstraint) → AreNamed Free before ks a → AreNamed Free before ks b → a ≡ b
named_settled Free before [] [] [] p q = refl
named_settled Free before (k ∷ ks) (x ∷ a) (y ∷ b) p q =
    let name : x.name ≡ y.name = one_name Free before k.name x.name y.name p.1 q.1 in
    let kind : x.kind ≡ y.kind = p.0 ∙ sym q.0 in
    let one : x ≡ y = λ i. record { name = name i; kind = kind i } in
    let rest : a ≡ b = named_settled Free (before ++ x ∷ []) ks a b p.2 (subst (λ (n : NamedConstraint). AreNamed Free (before ++ n ∷ []) ks b) (sym one) q.2) in
    λ i. one i ∷ rest i
named_settled Free before [] (x ∷ a) b p q = absurd p
named_settled Free before [] [] (y ∷ b) p q = absurd q
named_settled Free before (k ∷ ks) [] b p q = absurd p
named_settled Free before (k ∷ ks) (x ∷ a) [] p q = absurd q

-- the constraints of a statement have one list of names
pub constraints_settled : (c : List Item) (made : Object) (all : List Part) (a b : List NamedConstraint) → AreConstraints c made all a → AreConstraints c made all b → a ≡ b
constraints_settled c made all a b p q = named_settled (IsFree c made.schema (given_names all)) [] (constraints_of all) a b p q
