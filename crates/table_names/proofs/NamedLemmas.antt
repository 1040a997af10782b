-- Constraints with their names, one more at a time.
use Rattle.std.proofs.Common.{◌≡◌, ℕ, ◌+◌, ◌^◌, ◌<◌, ◌≤◌, List, [], ◌∷◌, ◌++◌, length, get_or, take, sym, ◌∙◌, ap, subst, append_assoc, arith}
use Rattle.std.proofs.lemmas.Grind.{flat_map-append}
use Rattle.std.proofs.lemmas.List.{append-nil, take_more, take_all}
use Rattle.sql_tree.specs.declared.table.TableConstraint.{TableConstraint}
use Rattle.table_parts.specs.declared.parts.Part.{Part}
use Rattle.table_parts.specs.declared.parts.Part.TheVariants.{Column, Constraint}
use Rattle.table_parts.specs.Parts.{constraint_of, constraints_of}
use Rattle.table_names.specs.declared.named.NamedConstraint.{NamedConstraint}
use Rattle.std.specs.Fmt.{decimal}
use Rattle.std.specs.Str.{IsUtf8}
use Rattle.std.proofs.lemmas.Fmt.{length-decimal-le}
use Rattle.sql_names.specs.Names.{IsName}
use Rattle.table_names.specs.Named.{AddsNamed, AreNamed, IsNameFor, system_name}

-- one more constraint behind the others
named_push : (Free : List ℕ → Type 0) (before : List NamedConstraint) (ks : List TableConstraint) (ns : List NamedConstraint) (k : TableConstraint) (n : NamedConstraint)
    → AreNamed Free before ks ns → n.kind ≡ k.kind → IsNameFor Free (before ++ ns) k.name n.name → AreNamed Free before (ks ++ k ∷ []) (ns ++ n ∷ [])
named_push Free before [] [] k n all kind name = (kind, subst (λ (b : List NamedConstraint). IsNameFor Free b k.name n.name) (append-nil before) name, tt)
named_push Free before (x ∷ ks) (y ∷ ns) k n all kind name =
    (all.0, all.1, named_push Free (before ++ y ∷ []) ks ns k n all.2 kind (subst (λ (b : List NamedConstraint). IsNameFor Free b k.name n.name) (sym (append_assoc before (y ∷ []) ns)) name))
named_push Free before [] (y ∷ ns) k n all kind name = absurd all
named_push Free before (x ∷ ks) [] k n all kind name = absurd all

constraints_push : (parts : List Part) (part : Part) → constraints_of (parts ++ part ∷ []) ≡ constraints_of parts ++ constraint_of part
constraints_push parts part = flat_map-append constraint_of parts (part ∷ []) ∙ ap (λ rest. constraints_of parts ++ rest) (append-nil (constraint_of part))

named_by : (Free : List ℕ → Type 0) (ks : List TableConstraint) (old new : List NamedConstraint) (part : Part) → AreNamed Free [] ks old → AddsNamed Free part old new → AreNamed Free [] (ks ++ constraint_of part) new
named_by Free ks old new (Column d) all adds =
    subst (λ (xs : List TableConstraint). AreNamed Free [] xs new) (sym (append-nil ks)) (subst (λ (ns : List NamedConstraint). AreNamed Free [] ks ns) (sym adds) all)
named_by Free ks old new (Constraint k) all adds =
    subst (λ (ns : List NamedConstraint). AreNamed Free [] (ks ++ k ∷ []) ns) (sym adds.1) (named_push Free [] ks old k adds.0 all adds.2 adds.3)

-- one more part
pub named_more : (Free : List ℕ → Type 0) (parts : List Part) (i : ℕ) (part : Part) (old new : List NamedConstraint) → i < length parts → part ≡ get_or parts i part
    → AreNamed Free [] (constraints_of (take i parts)) old → AddsNamed Free part old new → AreNamed Free [] (constraints_of (take (i + 1) parts)) new
named_more Free parts i part old new within is all adds =
    subst (λ (xs : List TableConstraint). AreNamed Free [] xs new)
    (sym (ap constraints_of (take_more parts i part within ∙ ap (λ p. take i parts ++ p ∷ []) (sym is)) ∙ constraints_push (take i parts) part))
    (named_by Free (constraints_of (take i parts)) old new part all adds)

pub named_all : (Free : List ℕ → Type 0) (parts : List Part) (i : ℕ) (named : List NamedConstraint) → length parts ≤ i → AreNamed Free [] (constraints_of (take i parts)) named → AreNamed Free [] (constraints_of parts) named
named_all Free parts i named all have = subst (λ (ps : List Part). AreNamed Free [] (constraints_of ps) named) (take_all i parts all) have

-- a name of the system is a name
pub system_name_is : (number : ℕ) (bytes : List ℕ) → number < 2 ^ 64 → bytes ≡ system_name number → IsUtf8 bytes → IsName bytes
system_name_is number bytes small is text =
    let few : length (decimal number) ≤ 20 = length-decimal-le 20 number (omega arith) (omega (arith, small)) small in
    let size : length bytes ≡ 5 + length (decimal number) = ap length is ∙ omega arith in record {
      some = omega (arith, size);
      few = omega (arith, size, few);
      text = text;
    }
