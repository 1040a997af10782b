-- Primary keys: among those that constraints make, and among those of a table that stand.
use Rattle.std.proofs.Common.{◌≡◌, true, false, ◌&&◌, List, [], ◌∷◌, Option, Some, None, ap, sym, subst, ◌∙◌, inl, inr}
use Rattle.std.specs.Prelude.{bytes_eq, if◌then◌else◌}
use Rattle.std.specs.List.{Contains, cons_option}
use Rattle.std.proofs.lemmas.Slice.Eq.{bytes_eq-Decides}
use Rattle.finite_chains.proofs.Members.{Contains-cases, Contains-head, Contains-nil, Contains-tail}
use Rattle.sql_names.specs.NameBytes.{NameBytes}
use Rattle.sql_names.specs.declared.object.Object.{Object}
use Rattle.sql_tree.specs.declared.table.TableConstraintKind.{TableConstraintKind}
use Rattle.sql_tree.specs.declared.table.TableConstraintKind.TheVariants as kinds
use Rattle.cat_items.specs.declared.item.Item.{Item}
use Rattle.cat_items.specs.declared.item.Item.TheVariants as item
use Rattle.cat_items.specs.declared.item.Key.{Key}
use Rattle.cat_items.specs.Good.{IsGood}
use Rattle.name_scopes.specs.Known.{same_object}
use Rattle.view_deps.proofs.Described.{itself}
use Rattle.table_parts.specs.declared.parts.Part.{Part}
use Rattle.table_parts.specs.Marks.{MarksDiffer, marks_in}
use Rattle.table_parts.specs.Parts.{constraints_of}
use Rattle.table_parts.proofs.Differing.{IsPrimary, one_primary}
use Rattle.table_parts.proofs.ListMembers.{one_of_pairs, to_flat_map}
use Rattle.table_names.specs.declared.named.NamedConstraint.{NamedConstraint}
use Rattle.table_names.specs.Given.{given_names}
use Rattle.table_names.specs.Named.{AreConstraints, IsFree}
use Rattle.table_work.specs.Keys.{beside, key_named, own_key, own_keys}
use Rattle.table_work.specs.Seen.{is_key_of, key_here, keys_in}
use Rattle.table_creation.proofs.NamedKinds.{AreNotBoth, primary_named}

-- ---- keys that are made

some_first : {Y : Type 0} (o : Option Y) (ys : List Y) (y : Y) → o ≡ Some y → Contains (cons_option o ys) y
some_first (Some z) ys y e = let same : z ≡ y = cc in subst (λ w. Contains (z ∷ ys) w) same (Contains-head z ys)
some_first None ys y e = absurd (let odd : None ≡ Some y = e in cc)

still_there : {Y : Type 0} (o : Option Y) (ys : List Y) (y : Y) → Contains ys y → Contains (cons_option o ys) y
still_there (Some z) ys y h = Contains-tail z ys y h
still_there None ys y h = h

-- the key that a constraint makes is among the keys that constraints make
pub own_key_among : (table : Object) (named : List NamedConstraint) (n : NamedConstraint) (k : Key) → Contains named n → own_key table n ≡ Some k → Contains (own_keys table named) k
own_key_among table [] n k h e = absurd (Contains-nil n h)
own_key_among table (m ∷ named) n k h e =
    elim (Contains-cases m named n h) [
      | inl same ↦ some_first (own_key table m) (own_keys table named) k (ap (own_key table) same ∙ e)
      | inr later ↦ still_there (own_key table m) (own_keys table named) k (own_key_among table named n k later e)
    ]

primary_of : (table : Object) (name : NameBytes) (kind : TableConstraintKind) (k : Key) → key_named table name kind ≡ Some k → k.primary ≡ true → IsPrimary kind
primary_of table name (kinds.PrimaryKey columns) k e p = tt
primary_of table name (kinds.Unique columns) k e p =
    let made : Key = record { name = beside table name; table = table; primary = false; columns = columns } in
    let is : made ≡ k = cc in
    let odd : false ≡ true = ap (λ (z : Key). z.primary) is ∙ p in
    cc
primary_of table name kind k e p = absurd (let odd : None ≡ Some k = e in cc)

-- a statement makes one primary key at most
pub one_primary_made : (c : List Item) (table : Object) (all : List Part) (named : List NamedConstraint) → MarksDiffer (marks_in all) → AreConstraints c table all named → (n m : NamedConstraint) (k other : Key) → Contains named n → Contains named m
    → own_key table n ≡ Some k → own_key table m ≡ Some other → k.primary ≡ true → other.primary ≡ true → other.name ≡ k.name
one_primary_made c table all named differ are n m k other h g e f p q =
    let one : IsPrimary n.kind = primary_of table n.name n.kind k e p in
    let two : IsPrimary m.kind = primary_of table m.name m.kind other f q in
    let pairs = primary_named (IsFree c table.schema (given_names all)) (constraints_of all) named are (one_primary all differ) in
    let same : n ≡ m = one_of_pairs AreNotBoth named pairs n m h g (λ apart. apart one two) (λ apart. apart two one) in
    let both : Some other ≡ Some k = sym f ∙ ap (own_key table) (sym same) ∙ e in
    let keys : other ≡ k = cc in
    ap (λ (z : Key). z.name) keys

-- ---- keys that stand

-- a key of a table that stands is among those of the table
pub standing_key_among : (c : List Item) (table : Object) (k : Key) → IsGood c → Contains c (item.Key k) → k.table ≡ table → Contains (keys_in c table) k
standing_key_among c table k good h e =
    let tables : same_object k.table table ≡ true = ap (λ o. same_object o table) e ∙ itself table in
    let schemas : k.name.schema ≡ table.schema = good.shape.allowed (item.Key k) h ∙ ap (λ (o : Object). o.schema) e in
    let equal : bytes_eq k.name.schema table.schema ≡ true = (bytes_eq-Decides k.name.schema table.schema).1 schemas in
    let is : is_key_of table k ≡ true = λ i. tables i && equal i in
    let here : Contains (key_here table (item.Key k)) k = subst (λ b. Contains (if b then k ∷ [] else []) k) (sym is) (Contains-head k []) in
    to_flat_map (key_here table) c (item.Key k) k h here
