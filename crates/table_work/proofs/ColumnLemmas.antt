-- Which columns can't be null, and columns that are made one after the other.
use Rattle.std.proofs.Common.{◌≡◌, ◌⊎◌, ◌↔◌, Bool, true, false, List, inl, inr, refl, sym, subst}
use Rattle.std.specs.Prelude.{if◌then◌else◌, bytes_eq}
use Rattle.std.specs.List.{Any, Contains, list_any}
use Rattle.std.proofs.lemmas.List.Folds.{Any-from_list_any, list_any-from_Any}
use Rattle.std.proofs.lemmas.Slice.Eq.{bytes_eq-Decides}
use Rattle.sql_names.specs.NameBytes.{NameBytes}
use Rattle.sql_tree.specs.declared.table.ColumnDefinition.{ColumnDefinition}
use Rattle.sql_tree.specs.declared.table.ColumnOption.{ColumnOption}
use Rattle.sql_tree.specs.declared.table.ColumnOption.TheVariants as options
use Rattle.sql_tree.specs.declared.table.TableConstraintKind.{TableConstraintKind}
use Rattle.sql_tree.specs.declared.table.TableConstraintKind.TheVariants as kinds
use Rattle.table_parts.specs.declared.parts.Part.{Part}
use Rattle.table_parts.specs.declared.parts.Part.TheVariants as parts
use Rattle.table_parts.specs.Columns.{IsNotNull, IsPrimaryOf, IsPrimaryWith}
use Rattle.table_work.specs.Columns.{is_not_null, kind_has, makes_not_null, says_not_null}

-- what is so of a member as something else is, is so of one in both ways
any_as : {X : Type 0} (P Q : X → Type 0) (xs : List X) → ((x : X) → P x → Q x) → Any P xs → Any Q xs
any_as P Q xs goes h = (h.0, h.1, h.2, h.3, goes h.1 h.4)

tested_as : {X : Type 0} (test : X → Bool) (P : X → Type 0) (xs : List X) → ((x : X) → (test x ≡ true) ↔ P x) → (list_any test xs ≡ true) ↔ Any P xs
tested_as test P xs same = (
  λ e. any_as (λ x. test x ≡ true) P xs (λ x. (same x).0) (Any-from_list_any test xs e),
  λ h. list_any-from_Any test xs (any_as P (λ x. test x ≡ true) xs (λ x. (same x).1) h),
)

option_told : (option : ColumnOption) → (says_not_null option ≡ true) ↔ (option ≡ options.NotNull)
option_told options.NotNull = (λ e. refl, λ e. refl)
option_told (options.Default default) = (λ e. absurd (let odd : false ≡ true = e in cc), λ e. absurd cc)
option_told (options.Constraint name constraint) = (λ e. absurd (let odd : false ≡ true = e in cc), λ e. absurd cc)

contained : {X : Type 0} (xs : List X) (x : X) → Any (λ y. y ≡ x) xs ↔ Contains xs x
contained xs x = (λ h. subst (λ z. Contains xs z) h.4 (h.0, h.2, h.3), λ h. (h.0, x, h.1, h.2, refl))

kind_told : (name : NameBytes) (kind : TableConstraintKind) → (kind_has name kind ≡ true) ↔ IsPrimaryOf name kind
kind_told name (kinds.PrimaryKey columns) =
    let any = tested_as (λ other. bytes_eq other name) (λ other. other ≡ name) columns (λ other. bytes_eq-Decides other name) in
    let is = contained columns name in
    (λ e. is.0 (any.0 e), λ h. any.1 (is.1 h))
kind_told name (kinds.Unique columns) = (λ e. absurd (let odd : false ≡ true = e in cc), λ h. absurd h)
kind_told name (kinds.ForeignKey columns references) = (λ e. absurd (let odd : false ≡ true = e in cc), λ h. absurd h)
kind_told name (kinds.Check condition) = (λ e. absurd (let odd : false ≡ true = e in cc), λ h. absurd h)

part_told : (name : NameBytes) (part : Part) → (makes_not_null name part ≡ true) ↔ IsPrimaryWith name part
part_told name (parts.Column d) = (λ e. absurd (let odd : false ≡ true = e in cc), λ h. absurd h)
part_told name (parts.Constraint k) = kind_told name k.kind

either_true : (a b : Bool) → ((if a then true else b) ≡ true) ↔ ((a ≡ true) ⊎ (b ≡ true))
either_true true b = (λ e. inl refl, λ h. refl)
either_true false b = (λ e. inr e, λ h. elim h [ inl odd ↦ absurd (let never : false ≡ true = odd in cc) | inr e ↦ e ])

pub null_told : (all : List Part) (d : ColumnDefinition) → (is_not_null all d ≡ true) ↔ IsNotNull all d
null_told all d =
    let either = either_true (list_any says_not_null d.options) (list_any (makes_not_null d.column) all) in
    let written = tested_as says_not_null (λ option. option ≡ options.NotNull) d.options option_told in
    let listed = contained d.options options.NotNull in
    let keyed = tested_as (makes_not_null d.column) (IsPrimaryWith d.column) all (part_told d.column) in (
      λ e. elim (either.0 e) [ inl w ↦ inl (listed.0 (written.0 w)) | inr k ↦ inr (keyed.0 k) ],
      λ h. either.1 (elim h [ inl w ↦ inl (written.1 (listed.1 w)) | inr k ↦ inr (keyed.1 k) ]),
    )

-- tests of the same are one
pub one_told : (a b : Bool) (P : Type 0) → ((a ≡ true) ↔ P) → ((b ≡ true) ↔ P) → a ≡ b
one_told true true P p q = refl
one_told false false P p q = refl
one_told true false P p q = sym (q.1 (p.0 refl))
one_told false true P p q = p.1 (q.0 refl)
