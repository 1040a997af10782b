-- Constraints with their names, and those of the statement that they are: their kinds, their given names, and one PRIMARY KEY at most.
use Rattle.std.proofs.Common.{◌≡◌, ◌⊎◌, ℕ, zero, suc, ◌<◌, List, [], ◌∷◌, ◌++◌, Option, None, Some, length, get_or, refl, ap, sym, subst, inl, inr, arith}
use Rattle.std.specs.List.{AllPairs, Contains}
use Rattle.std.specs.Option.{option_to_list}
use Rattle.finite_chains.proofs.Members.{Contains-nil, Contains-head, Contains-tail, Contains-cases}
use Rattle.sql_tree.specs.declared.table.ColumnDefinition.{ColumnDefinition}
use Rattle.sql_tree.specs.declared.table.TableConstraint.{TableConstraint}
use Rattle.table_parts.specs.declared.parts.Part.{Part}
use Rattle.table_parts.specs.declared.parts.Part.TheVariants as parts
use Rattle.table_parts.specs.Parts.{column_of, columns_of, constraint_of, constraints_of}
use Rattle.table_parts.proofs.Differing.{AreNotBothPrimary, IsPrimary}
use Rattle.table_parts.proofs.ListMembers.{from_flat_map, only, to_flat_map}
use Rattle.table_names.specs.declared.named.NamedConstraint.{NamedConstraint}
use Rattle.table_names.specs.Given.{given_name, given_names}
use Rattle.table_names.specs.Named.{AreNamed, IsNameFor}

-- ---- parts

column_in : (part : Part) (d : ColumnDefinition) → Contains (column_of part) d → part ≡ parts.Column d
column_in (parts.Column x) d h = ap parts.Column (only x d h)
column_in (parts.Constraint k) d h = absurd (Contains-nil d h)

-- a column is one of the parts
pub column_part : (all : List Part) (d : ColumnDefinition) → Contains (columns_of all) d → Contains all (parts.Column d)
column_part all d h = let of = from_flat_map column_of all d h in subst (Contains all) (column_in of.0 d of.2) of.1

constraint_in : (part : Part) (k : TableConstraint) → Contains (constraint_of part) k → part ≡ parts.Constraint k
constraint_in (parts.Column x) k h = absurd (Contains-nil k h)
constraint_in (parts.Constraint x) k h = ap parts.Constraint (only x k h)

-- so is a constraint
pub constraint_part : (all : List Part) (k : TableConstraint) → Contains (constraints_of all) k → Contains all (parts.Constraint k)
constraint_part all k h = let of = from_flat_map constraint_of all k h in subst (Contains all) (constraint_in of.0 k of.2) of.1

-- the name that is given to a constraint is among those that are given
pub name_given : (all : List Part) (k : TableConstraint) (name : List ℕ) → Contains (constraints_of all) k → k.name ≡ Some name → Contains (given_names all) name
name_given all k name h e =
    to_flat_map given_name all (parts.Constraint k) name (constraint_part all k h) (subst (λ (o : Option (List ℕ)). Contains (option_to_list o) name) (sym e) (Contains-head name []))

-- ---- constraints with their names

name_from : (Free : List ℕ → Type 0) (before : List NamedConstraint) (given : Option (List ℕ)) (name : List ℕ) → IsNameFor Free before given name → (given ≡ Some name) ⊎ Free name
name_from Free before (Some given) name is = inl (ap Some (sym is))
name_from Free before None name is = inr is.free.0

-- a constraint with its name is one of the statement, with its given name or with one that was free
pub named_from : (Free : List ℕ → Type 0) (before : List NamedConstraint) (ks : List TableConstraint) (ns : List NamedConstraint) → AreNamed Free before ks ns → (n : NamedConstraint) → Contains ns n
    → (k : TableConstraint) × Contains ks k × (n.kind ≡ k.kind) × ((k.name ≡ Some n.name) ⊎ Free n.name)
named_from Free before [] [] are n h = absurd (Contains-nil n h)
named_from Free before [] (x ∷ ns) are n h = absurd are
named_from Free before (k ∷ ks) [] are n h = absurd are
named_from Free before (k ∷ ks) (x ∷ ns) are n h =
    elim (Contains-cases x ns n h) [
      | inl e ↦ subst (λ (m : NamedConstraint). (j : TableConstraint) × Contains (k ∷ ks) j × (m.kind ≡ j.kind) × ((j.name ≡ Some m.name) ⊎ Free m.name)) e
          (k, Contains-head k ks, are.0, name_from Free before k.name x.name are.1)
      | inr later ↦ let of = named_from Free (before ++ x ∷ []) ks ns are.2 n later in (of.0, Contains-tail k ks of.0 of.1, of.2, of.3)
    ]

named_length : (Free : List ℕ → Type 0) (before : List NamedConstraint) (ks : List TableConstraint) (ns : List NamedConstraint) → AreNamed Free before ks ns → length ns ≡ length ks
named_length Free before [] [] are = refl
named_length Free before [] (x ∷ ns) are = absurd are
named_length Free before (k ∷ ks) [] are = absurd are
named_length Free before (k ∷ ks) (x ∷ ns) are = ap (λ n. suc n) (named_length Free (before ++ x ∷ []) ks ns are.2)

-- the kinds of constraints are those of the statement, place by place
kind_at : (Free : List ℕ → Type 0) (before : List NamedConstraint) (ks : List TableConstraint) (ns : List NamedConstraint) → AreNamed Free before ks ns → (i : ℕ) (d : NamedConstraint) (e : TableConstraint) → i < length ns
    → (get_or ks i e).kind ≡ (get_or ns i d).kind
kind_at Free before [] [] are i d e low = absurd (omega (arith, low))
kind_at Free before [] (x ∷ ns) are i d e low = absurd are
kind_at Free before (k ∷ ks) [] are i d e low = absurd are
kind_at Free before (k ∷ ks) (x ∷ ns) are zero d e low = sym are.0
kind_at Free before (k ∷ ks) (x ∷ ns) are (suc i) d e low = kind_at Free (before ++ x ∷ []) ks ns are.2 i d e (omega (arith, low))

abbrev pub AreNotBoth : NamedConstraint → NamedConstraint → Type 0
AreNotBoth n m = IsPrimary n.kind → IsPrimary m.kind → ⊥

-- one PRIMARY KEY at most
pub primary_named : (Free : List ℕ → Type 0) (ks : List TableConstraint) (ns : List NamedConstraint) → AreNamed Free [] ks ns → AllPairs AreNotBothPrimary ks → AllPairs AreNotBoth ns
primary_named Free ks ns are pairs i j d low high one two =
    let e : TableConstraint = record { name = None; kind = d.kind } in
    let within : i < length ns = omega (arith, low, high) in
    let there : j < length ks = omega (arith, high, named_length Free [] ks ns are) in
    pairs i j e low there (subst IsPrimary (sym (kind_at Free [] ks ns are i d e within)) one) (subst IsPrimary (sym (kind_at Free [] ks ns are j d e high)) two)
