-- The names of the columns of a table among references.
use Rattle.std.proofs.Common.{◌≡◌, ◌⊎◌, ◌↔◌, List, [], ◌∷◌, sym, subst, inl, inr}
use Rattle.std.specs.List.{Contains}
use Rattle.std.proofs.lemmas.List.Elements.{Contains-append_left, Contains-append_right, Contains-append_cases}
use Rattle.finite_chains.proofs.Members.{Contains-nil, Contains-head, Contains-tail, Contains-cases}
use Rattle.sql_names.specs.NameBytes.{NameBytes}
use Rattle.sql_names.specs.declared.object.Object.{Object}
use Rattle.sql_names.specs.declared.column.Reference.{Reference}
use Rattle.sql_names.specs.declared.column.Reference.TheVariants as references
use Rattle.sql_tree.specs.declared.expr.Expr.{Expr}
use Rattle.cat_items.specs.Pieces.{Piece, Pieces, of_reference, expr_pieces}
use Rattle.cat_items.specs.Shape.{AreOwnColumns}
use Rattle.role_graph.specs.Roles.{AreNames}
use Rattle.own_columns.specs.References.{piece_references, references_in}

-- a reference is one of a column of the table
pub own_is : (table of : Object) (name x : NameBytes) → of ≡ table → (x ≡ name) ↔ (references.Own of name ≡ references.Own table x)
own_is table of name x same = (
  λ e. (λ i. references.Own (same i) (sym e i)),
  λ e. (let both : references.Own of name ≡ references.Own table x = e in cc),
)

pub own_gains : (table of : Object) (name : NameBytes) (old new : List NameBytes) → of ≡ table → ((x : NameBytes) → Contains new x ↔ (Contains old x ⊎ (x ≡ name))) → (x : NameBytes) → Contains new x ↔ (Contains old x ⊎ (references.Own of name ≡ references.Own table x))
own_gains table of name old new same members x =
    let is = own_is table of name x same in (
      λ h. elim ((members x).0 h) [ inl was ↦ inl was | inr e ↦ inr (is.0 e) ],
      λ h. (members x).1 (elim h [ inl was ↦ inl was | inr e ↦ inr (is.1 e) ]),
    )

-- what has been put in, and what is left
abbrev pub Leads : Object → List NameBytes → List Reference → List Reference → Type 0
Leads table names rest all = (x : NameBytes) → (Contains names x ⊎ Contains rest (references.Own table x)) ↔ Contains all (references.Own table x)

pub leads_begin : (table : Object) (all : List Reference) → Leads table [] all all
leads_begin table all x = (λ h. elim h [ inl c ↦ absurd (Contains-nil x c) | inr c ↦ c ], λ c. inr c)

pub leads_on : (table : Object) (old new : List NameBytes) (r : Reference) (rest all : List Reference) → ((x : NameBytes) → Contains new x ↔ (Contains old x ⊎ (r ≡ references.Own table x))) → Leads table old (r ∷ rest) all → Leads table new rest all
leads_on table old new r rest all gains leads x = (to, from)
  where
    to : Contains new x ⊎ Contains rest (references.Own table x) → Contains all (references.Own table x)
    to h = (leads x).0 (elim h [
      | inl c ↦ elim ((gains x).0 c) [ inl before ↦ inl before | inr e ↦ inr (subst (λ z. Contains (r ∷ rest) z) e (Contains-head r rest)) ]
      | inr later ↦ inr (Contains-tail r rest (references.Own table x) later)
    ])

    from : Contains all (references.Own table x) → Contains new x ⊎ Contains rest (references.Own table x)
    from c = elim ((leads x).1 c) [
      | inl before ↦ inl ((gains x).1 (inl before))
      | inr more ↦ elim (Contains-cases r rest (references.Own table x) more) [ inl e ↦ inl ((gains x).1 (inr e)) | inr later ↦ inr later ]
    ]

pub leads_end : (table : Object) (names : List NameBytes) (all : List Reference) → Leads table names [] all → (x : NameBytes) → Contains names x ↔ Contains all (references.Own table x)
leads_end table names all leads x = (λ c. (leads x).0 (inl c), λ c. elim ((leads x).1 c) [ inl n ↦ n | inr none ↦ absurd (Contains-nil (references.Own table x) none) ])

-- the references of a tree are its pieces that are references
by_piece : (p : Piece) (ps : Pieces) (r : Reference) → Contains (piece_references p) r → Contains (p ∷ ps) (of_reference r)
by_piece (of_reference q) ps r h = elim (Contains-cases q [] r h) [ inl e ↦ subst (λ z. Contains (of_reference q ∷ ps) (of_reference z)) e (Contains-head (of_reference q) ps) | inr none ↦ absurd (Contains-nil r none) ]
by_piece p ps r h = absurd (Contains-nil r h)

pub reference_pieces : (ps : Pieces) (r : Reference) → Contains (references_in ps) r ↔ Contains ps (of_reference r)
reference_pieces [] r = (λ h. absurd (Contains-nil r h), λ h. absurd (Contains-nil (of_reference r) h))
reference_pieces (p ∷ ps) r = (
  λ h. elim (Contains-append_cases (piece_references p) (references_in ps) r h) [
    | inl here ↦ by_piece p ps r here
    | inr later ↦ Contains-tail p ps (of_reference r) ((reference_pieces ps r).0 later)
  ],
  λ h. elim (Contains-cases p ps (of_reference r) h) [
    | inl e ↦ Contains-append_left (piece_references p) (references_in ps) r (subst (λ q. Contains (piece_references q) r) (sym e) (Contains-head r []))
    | inr later ↦ Contains-append_right (piece_references p) (references_in ps) r ((reference_pieces ps r).1 later)
  ],
)

pub own_names : (table : Object) (condition : Expr) (names : List NameBytes) (all : List Reference) → all ≡ references_in (expr_pieces condition) → AreNames names (λ x. Contains all (references.Own table x)) → AreOwnColumns table condition names
own_names table condition names all same are = record {
  order = are.order;
  members = λ x. let there = reference_pieces (expr_pieces condition) (references.Own table x) in (
    λ h. there.0 (subst (λ l. Contains l (references.Own table x)) same ((are.members x).0 h)),
    λ h. (are.members x).1 (subst (λ l. Contains l (references.Own table x)) (sym same) (there.1 h)),
  );
}
