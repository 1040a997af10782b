-- What the tests of CREATE TABLE give, and the edit that is made.
use Rattle.std.proofs.Common.{◌≡◌, ◌⊎◌, ◌↔◌, ◌≤◌, List, [], ◌∷◌, ◌++◌, map, length, Option, Ok, Err, refl, sym, subst, ◌∙◌, inl, inr, arith}
use Rattle.std.specs.List.{Contains}
use Rattle.std.specs.Prelude.{IfOk}
use Rattle.std.specs.Result.{IsErrAnd}
use Rattle.std.specs.declared.cmp.Ordering.TheVariants.{Equal}
use Rattle.std.specs.declared.result.Result.{Result}
use Rattle.std.proofs.lemmas.Bool.{cases_lt}
use Rattle.std.proofs.lemmas.List.Elements.{Contains-append_cases, Contains-append_left, Contains-append_right, Contains-push, Contains-push_cases}
use Rattle.finite_chains.proofs.Members.{Contains-nil, Contains-head, Contains-tail, Contains-cases}
use Rattle.sql_names.specs.declared.object.Object.{Object}
use Rattle.sql_tree.specs.declared.statement.CreateTable.{CreateTable}
use Rattle.sql_tree.specs.declared.statement.Statement.TheVariants as statements
use Rattle.sql_tree.specs.declared.table.TableConstraintKind.{TableConstraintKind}
use Rattle.sql_tree.specs.declared.table.TableConstraintKind.TheVariants as kinds
use Rattle.cat_items.specs.declared.edit.Edit.{Edit}
use Rattle.cat_items.specs.declared.edit.EditError.{EditError}
use Rattle.cat_items.specs.declared.edit.EditError.TheVariants.{Refused, Memory}
use Rattle.cat_items.specs.declared.edit.Refusal.{Refusal}
use Rattle.cat_items.specs.declared.edit.Refusal.TheVariants.{CatalogFull}
use Rattle.cat_items.specs.declared.edit.Who.{Who}
use Rattle.cat_items.specs.declared.item.Column.{Column}
use Rattle.cat_items.specs.declared.item.Item.{Item}
use Rattle.cat_items.specs.declared.item.Item.TheVariants as item
use Rattle.cat_items.specs.declared.item.Key.{Key}
use Rattle.cat_items.specs.declared.need.Need.{Need}
use Rattle.cat_items.specs.Catalogues.{IsInOrder}
use Rattle.cat_items.specs.Good.{IsGood}
use Rattle.cat_items.specs.Order.{item_cmp}
use Rattle.view_deps.specs.declared.resolve.ResolvedExpr.{ResolvedExpr}
use Rattle.edit_laws.specs.Sound.{IsSound}
use Rattle.edit_laws.specs.Users.{LeavesUsers}
use Rattle.edit_rules.specs.Chosen.{AreChosen}
use Rattle.edit_rules.specs.First.{First, IsTested, Passes}
use Rattle.edit_rules.specs.Names.{object_in}
use Rattle.edit_rules.proofs.FirstLaws.{AreSettled, IsSettled, first_settled, passes_first, passes_rest, settled_map}
use Rattle.statement_forms.specs.Written.{IsWritten}
use Rattle.statement_forms.proofs.Forms.{table_forms}
use Rattle.statement_steps.specs.Steps.{MakesEdit, Nothing, refusals_of}
use Rattle.statement_steps.proofs.Additions.{addition_leaves_users, nothing_chosen}
use Rattle.statement_steps.proofs.Settled.{edit_settled, steps_settled}
use Rattle.statement_steps.proofs.StepLaws.{rules_pass}
use Rattle.table_parts.specs.declared.parts.Part.{Part}
use Rattle.table_parts.specs.Parts.{columns_of, constraints_of, parts_in}
use Rattle.table_parts.proofs.Pairs.{map_has}
use Rattle.table_names.specs.declared.named.NamedConstraint.{NamedConstraint}
use Rattle.table_names.specs.Given.{given_names}
use Rattle.table_names.specs.Named.{AreConstraints, IsFree, for_constraints}
use Rattle.table_names.specs.Refusals.{exists_in, taken_names}
use Rattle.table_names.proofs.NamesSettled.{constraints_settled, repeated_settled}
use Rattle.table_work.specs.declared.work.Work.{Work}
use Rattle.table_work.specs.Keys.{own_keys}
use Rattle.table_needs.specs.Needs.{IsNeeded}
use Rattle.table_types.specs.Types.{too_many_places}
use Rattle.table_elements.specs.Found.{AreFoundFor, IsFoundOf}
use Rattle.table_elements.proofs.FoundLists.{found_for}
use Rattle.table_elements.proofs.Settled.{names_settled}
use Rattle.table_constraints.specs.Rules.{no_such_key, type_mismatch}
use Rattle.table_constraints.proofs.Settled.{keys_settled, types_settled}
use Rattle.table_creation.specs.Made.{AreFoundIn, AreMadeFor}
use Rattle.table_creation.specs.Tables.{IsNewConstraint, IsTableCreation, IsTableMade, MakesTable, create_table_refusals, new_columns, new_rules, steps_of_table, work_of, work_with}
use Rattle.table_creation.proofs.SoundTables.{sound_table}
use Rattle.table_creation.proofs.TableItems.{from_which, made_once, which}
use Rattle.table_creation.proofs.TestedTables.{formed_table, own}
use Rattle.table_creation.proofs.WrittenTables.{formed_parts}

-- ---- conditions look at no keys

module _ (c : List Item) (who : Who) (table : Object) (all : List Part) (keys others : List Key) where
  found_kind : (kind : TableConstraintKind) (f : Option ResolvedExpr) → IsFoundOf c who (work_with c who table all keys) kind f → IsFoundOf c who (work_with c who table all others) kind f
  found_kind (kinds.PrimaryKey columns) f h = h
  found_kind (kinds.Unique columns) f h = h
  found_kind (kinds.ForeignKey columns references) f h = h
  found_kind (kinds.Check condition) f h = h

  found_beside : (ns : List NamedConstraint) (fs : List (Option ResolvedExpr)) → AreFoundFor c who (work_with c who table all keys) ns fs → AreFoundFor c who (work_with c who table all others) ns fs
  found_beside [] [] h = tt
  found_beside (n ∷ ns) (f ∷ fs) h = (found_kind n.kind f h.0, found_beside ns fs h.1)
  found_beside [] (f ∷ fs) h = absurd h
  found_beside (n ∷ ns) [] h = absurd h

-- ---- the rules, told of the constraints with their names

module _ (c : List Item) (who : Who) (table : Object) (all : List Part) (named : List NamedConstraint) (are : AreConstraints c table all named) where
  abbrev rules : Refusal → Type 0
  rules = for_constraints c table all (λ n. First (new_rules c who table all n))

  pub found_for_named : (fs : List (Option ResolvedExpr)) → AreFoundIn c who table all fs → AreFoundFor c who (work_of c who table all named) named fs
  found_for_named fs found =
      found_beside c who table all [] (own_keys table named) named fs
      (found_for c who (work_with c who table all []) (IsFree c table.schema (given_names all)) [] (constraints_of all) named fs are found)

  pub rules_passed : Passes (First (new_rules c who table all named)) → Passes (First (rules ∷ []))
  rules_passed passed refusal (inl h) =
      let one : h.0 ≡ named = constraints_settled c table all h.0 named h.1 are in
      passed refusal (subst (λ (n : List NamedConstraint). First (new_rules c who table all n) refusal) one h.2)
  rules_passed passed refusal (inr h) = h.1

  told : {T : Type 0} → (Done : List Item → Type 0) (Made : T → Type 0) (e : EditError) → IsTested (new_rules c who table all named) Done (Err e) → IsTested (rules ∷ []) Made (Err e)
  told Done Made (Refused refusal) h = (inl (named, are, h.0), tt)
  told Done Made Memory h = tt

  -- an exit with an error of theirs
  pub rules_told : {T : Type 0} → (Done : List Item → Type 0) (Made : T → Type 0) (e : EditError) (exit : Result T EditError) → IsErrAnd exit (λ error. error ≡ e) → IsTested (new_rules c who table all named) Done (Err e)
      → IsTested (rules ∷ []) Made exit
  rules_told Done Made e (Ok value) is h = absurd is
  rules_told Done Made e (Err error) is h = subst (λ x. IsTested (rules ∷ []) Made (Err x)) (sym is) (told Done Made e h)

-- ---- needs

module _ (who : Who) (table : Object) (all : List Part) (P Q : Item → Type 0) (same : (x : Item) → P x ↔ Q x) (need : Need) where
  pub needed_as : IsNeeded who table all P need ↔ IsNeeded who table all Q need
  needed_as = (
    λ h. (elim h.0 [ inl part ↦ inl part | inr x ↦ inr (x.0, (same x.0).0 x.1, x.2) ], h.1),
    λ h. (elim h.0 [ inl part ↦ inl part | inr x ↦ inr (x.0, (same x.0).1 x.1, x.2) ], h.1),
  )

pub needs_are : (c : List Item) (who : Who) (table : Object) (all : List Part) (items : List Item) (needs : List Need) → AreMadeFor c who table all items needs → (need : Need)
    → Contains needs need ↔ (steps_of_table c who table all).needs need
needs_are c who table all items needs m need = (
  λ h. (m.named, m.are, (m.needed need).0 h),
  λ h. (m.needed need).1 (subst (λ (n : List NamedConstraint). IsNeeded who table all (IsNewConstraint c who table all n) need) (constraints_settled c table all h.0 m.named h.1 m.are) h.2),
)

pub made_for : (c : List Item) (who : Who) (table : Object) (all : List Part) (named : List NamedConstraint) (items : List Item) (needs : List Need) → AreConstraints c table all named
    → ((x : Item) → Contains items x ↔ IsNewConstraint c who table all named x) → ((need : Need) → Contains needs need ↔ IsNeeded who table all (Contains items) need) → AreMadeFor c who table all items needs
made_for c who table all named items needs are made needed = record {
  named = named;
  are = are;
  made = made;
  needed = λ need.
      let alike = needed_as who table all (Contains items) (IsNewConstraint c who table all named) made need in
      (λ h. alike.0 ((needed need).0 h), λ h. (needed need).1 (alike.1 h));
}

-- ---- the edit

column_among : (columns : List Column) (x : Item) → Contains (map item.Column columns) x → (z : Column) × (x ≡ item.Column z) × Contains columns z
column_among [] x h = absurd (Contains-nil x h)
column_among (z ∷ columns) x h =
    elim (Contains-cases (item.Column z) (map item.Column columns) x h) [
      | inl e ↦ (z, sym e, Contains-head z columns)
      | inr later ↦ let of = column_among columns x later in (of.0, of.1, Contains-tail z columns of.0 of.2)
    ]

module _ (c : List Item) (who : Who) (table : Object) (all : List Part) (passed : Passes (First (refusals_of c who (steps_of_table c who table all)))) (items : List Item) (needs : List Need)
    (m : AreMadeFor c who table all items needs) where
  -- there are places for the columns
  pub few : length (columns_of all) ≤ 4294967295
  few =
      let rules : Passes (First (new_rules c who table all m.named)) = λ refusal f. rules_pass c who (steps_of_table c who table all) passed refusal (inl (m.named, m.are, f)) in
      let w : Work = work_of c who table all m.named in
      let places : Passes (too_many_places 0 all) =
      passes_first (too_many_places 0 all) []
      (passes_rest (no_such_key c who w m.named) (too_many_places 0 all ∷ []) (passes_rest (type_mismatch c who w all m.named) (no_such_key c who w m.named ∷ too_many_places 0 all ∷ []) rules)) in
      elim (cases_lt 4294967295 (length (columns_of all))) [
        | inl more ↦ absurd (places (CatalogFull 4294967295) (omega (arith, more), refl))
        | inr low ↦ low
      ]

  abbrev columns : List Column
  columns = new_columns c who table all

  abbrev pub whole : List Item
  whole = (items ++ item.Table table ∷ []) ++ map item.Column columns

  to_made : (x : Item) → Contains whole x → IsTableMade c who table all m.named x
  to_made x h =
      elim (Contains-append_cases (items ++ item.Table table ∷ []) (map item.Column columns) x h) [
        | inl front ↦ elim (Contains-push_cases items (item.Table table) x front) [
          | inl one ↦ from_which c who table all m.named x (inr (inr ((m.made x).0 one)))
          | inr e ↦ from_which c who table all m.named x (inl (sym e))
        ]
        | inr behind ↦ from_which c who table all m.named x (inr (inl (column_among columns x behind)))
      ]

  from_made : (x : Item) → IsTableMade c who table all m.named x → Contains whole x
  from_made x p =
      elim (which c who table all m.named x p) [
        | inl e ↦ Contains-append_left (items ++ item.Table table ∷ []) (map item.Column columns) x (subst (Contains (items ++ item.Table table ∷ [])) (sym e) (Contains-push items (item.Table table)))
        | inr others ↦ elim others [
          | inl z ↦ Contains-append_right (items ++ item.Table table ∷ []) (map item.Column columns) x (subst (Contains (map item.Column columns)) (sym z.1) (map_has item.Column columns z.0 z.2))
          | inr one ↦ Contains-append_left (items ++ item.Table table ∷ []) (map item.Column columns) x (Contains-append_left items (item.Table table ∷ []) x ((m.made x).1 one))
        ]
      ]

  -- items of one key are one
  pub once : (x y : Item) → Contains whole x → Contains whole y → item_cmp x y ≡ Equal → x ≡ y
  once x y h k e = made_once c who table all m.named (own c who table all passed m.named m.are) x y (to_made x h) (to_made y k) e

  pub makes : (begin added out : List Item) (edit : Edit) → begin ≡ [] → ((x : Item) → Contains added x ↔ (Contains begin x ⊎ Contains whole x)) → out ≡ added → IsInOrder out
      → edit.target ≡ [] → edit.changed ≡ [] → edit.added ≡ out → MakesTable c who table all edit
  makes begin added out edit empty put goes order target changed adds = (
    m.named,
    m.are,
    record {
      target = subst (λ l. AreChosen c Nothing l) (sym target) (nothing_chosen c);
      changed = subst (λ l. AreChosen c Nothing l) (sym changed) (nothing_chosen c);
      added = record {
        order = subst IsInOrder (sym adds) order;
        members = λ x. subst (λ (l : List Item). Contains l x ↔ IsTableMade c who table all m.named x) (sym (adds ∙ goes)) (
          λ h. elim ((put x).0 h) [ inl was ↦ absurd (Contains-nil x (subst (λ l. Contains l x) empty was)) | inr here ↦ to_made x here ],
          λ h. (put x).1 (inr (from_made x h)),
        );
      };
    },
  )

-- ---- what the table of kinds asks

taken_settled : (c : List Item) (table : Object) (all : List Part) → AreSettled (taken_names c table all)
taken_settled c table all = ((λ a b p q. p.1 ∙ sym q.1), settled_map (exists_in c table.schema) (λ n a b p q. p.1 ∙ sym q.1) (given_names all))

rules_settled : (c : List Item) (who : Who) (table : Object) (all : List Part) → IsSettled (for_constraints c table all (λ named. First (new_rules c who table all named)))
rules_settled c who table all a b p q =
    let same : p.0 ≡ q.0 = constraints_settled c table all p.0 q.0 p.1 q.1 in
    let w : Work = work_of c who table all q.0 in
    first_settled (new_rules c who table all q.0) (types_settled c who w all q.0, (keys_settled c who w q.0, ((λ x y f g. f.1 ∙ sym g.1), tt))) a b
    (subst (λ (named : List NamedConstraint). First (new_rules c who table all named) a) same p.2) q.2

-- two refusals of one test of CREATE TABLE are one
pub creation_refusals_settled : (c : List Item) (who : Who) (s : CreateTable) → AreSettled (create_table_refusals c who s)
creation_refusals_settled c who s =
    let table : Object = object_in who.schema s.table in
    let all : List Part = parts_in s.elements in
    steps_settled c who (steps_of_table c who table all) (repeated_settled table all, tt) ((λ a b p q. p.1 ∙ sym q.1), names_settled c who (work_with c who table all []) all)
    (taken_settled c table all) (rules_settled c who table all, tt)

-- it makes one edit at most
pub creation_settled : (c : List Item) (who : Who) (s : CreateTable) (a b : Edit) → IsTableCreation c who s a → IsTableCreation c who s b → a ≡ b
creation_settled c who s a b p q =
    let table : Object = object_in who.schema s.table in
    let all : List Part = parts_in s.elements in
    let same : p.0 ≡ q.0 = constraints_settled c table all p.0 q.0 p.1 q.1 in
    edit_settled c Nothing Nothing (IsTableMade c who table all q.0) a b (subst (λ (named : List NamedConstraint). MakesEdit c Nothing Nothing (IsTableMade c who table all named) a) same p.2) q.2

-- CREATE TABLE is sound
pub sound_creation : (c : List Item) (who : Who) (s : CreateTable) (edit : Edit) → IsGood c → IsWritten (statements.CreateTable s) → Passes (First (create_table_refusals c who s)) → IsTableCreation c who s edit → IsSound c edit
sound_creation c who s edit good written passed is =
    let table : Object = object_in who.schema s.table in
    let all : List Part = parts_in s.elements in
    sound_table c who table all is.0 edit good (formed_table c who table all passed is.0 is.1 (table_forms s written) (formed_parts s written) edit good is.2) is.2

pub created_soundly : (c : List Item) (who : Who) (s : CreateTable) (result : Result Edit EditError) → IsGood c → IsWritten (statements.CreateTable s) → IsTested (create_table_refusals c who s) (IsTableCreation c who s) result → IfOk result (IsSound c)
created_soundly c who s (Ok edit) good written tested = sound_creation c who s edit good written tested.0 tested.1
created_soundly c who s (Err e) good written tested = tt

pub creation_leaves_users : (c : List Item) (who : Who) (s : CreateTable) (edit : Edit) → IsTableCreation c who s edit → LeavesUsers edit
creation_leaves_users c who s edit is =
    addition_leaves_users c (IsTableMade c who (object_in who.schema s.table) (parts_in s.elements) is.0) edit is.2 (λ name h. h.4)
