-- Whether the system could grant a right can be decided.
use Rattle.std.proofs.Common.{◌≡◌, ◌⊎◌, inl, inr, Bool, true, false, ◌&&◌, ◌||◌, List, [], ◌∷◌, Option, Some, None, ap, sym, refl, subst}
use Rattle.std.specs.Prelude.{ℕ, bytes_eq, Decides}
use Rattle.std.specs.List.{Contains}
use Rattle.std.proofs.lemmas.Bool.Decides.{Decides-and, Decides-or, Decides-like}
use Rattle.std.proofs.lemmas.Slice.Eq.{bytes_eq-Decides}
use denote.Enum.Bare.{sameb, true_same, same_true}
use Rattle.finite_chains.proofs.Members.{Contains-nil, Contains-head, Contains-tail, Contains-cases}
use Rattle.sql_names.specs.declared.object.Object.{Object}
use Rattle.sql_tree.specs.declared.rights.Action.{Action}
use Rattle.sql_tree.specs.declared.rights.Action.TheVariants as action
use Rattle.sql_tree.specs.contracts.rights.Action.{the_type}
use Rattle.cat_items.specs.declared.need.Auth.{Auth}
use Rattle.cat_items.specs.declared.need.Auth.TheVariants.{System, Public, Named}
use Rattle.cat_items.specs.declared.need.Need.{Need}
use Rattle.cat_items.specs.declared.item.Right.{Right}
use Rattle.cat_items.specs.declared.item.Item.{Item}
use Rattle.cat_items.specs.declared.item.Item.TheVariants as item
use Rattle.cat_items.specs.Reach.{Has}
use Rattle.cat_items.specs.Rights.{path_of, IsColumn, HasColumn}
use Rattle.cat_items.specs.SystemRights.{IsTableRow}
use Rattle.cat_items.specs.Survivors.{MayBeViewRow, MayBeSystemRow, MayBeSystemSchema, MayBeSystemRight, IsSystemRight}

-- a test that holds exactly where this does
abbrev pub Decided : Type 0 → Type 0
Decided P = (r : Bool) × Decides r P

yes_to : {P : Type 0} → P → Decided P
yes_to p = (true, (λ _. p, λ _. refl))

no_to : {P : Type 0} → (¬ P) → Decided P
no_to n = (false, (λ e. cc, λ p. absurd (n p)))

both : {P Q : Type 0} → Decided P → Decided Q → Decided (P × Q)
both p q = (p.0 && q.0, Decides-and p.0 q.0 p.1 q.1)

like : {P Q : Type 0} → (P → Q) → (Q → P) → Decided P → Decided Q
like f g p = (p.0, Decides-like p.0 f g p.1)

all_three : {P Q R : Type 0} → Decided P → Decided Q → Decided R → Decided (P × Q × R)
all_three {P} {Q} {R} p q r = like first last (both p (both q r))
  where
    first : P × (Q × R) → P × Q × R
    first h = (h.0, h.1.0, h.1.1)

    last : P × Q × R → P × (Q × R)
    last h = (h.0, (h.1, h.2))

either : {P Q : Type 0} → Decided P → Decided Q → Decided (P ⊎ Q)
either p q = (p.0 || q.0, Decides-or p.0 q.0 p.1 q.1)

has_of : (P : Item → Type 0) (x : Item) (xs : List Item) → P x ⊎ Has xs P → Has (x ∷ xs) P
has_of P x xs (inl p) = (x, Contains-head x xs, p)
has_of P x xs (inr h) = (h.0, Contains-tail x xs h.0 h.1, h.2)

has_split : (P : Item → Type 0) (x y : Item) (xs : List Item) → (x ≡ y) ⊎ Contains xs y → P y → P x ⊎ Has xs P
has_split P x y xs (inl e) p = inl (subst P (sym e) p)
has_split P x y xs (inr h) p = inr (y, h, p)

pub decided_has : (P : Item → Type 0) → ((y : Item) → Decided (P y)) → (s : List Item) → Decided (Has s P)
decided_has P each [] = no_to (λ h. Contains-nil h.0 h.1)
decided_has P each (x ∷ xs) = like (has_of P x xs) (λ h. has_split P x h.0 xs (Contains-cases x xs h.0 h.1) h.2) (either (each x) (decided_has P each xs))

-- ---- equality

name_is : (a b : List ℕ) → Decided (a ≡ b)
name_is a b = (bytes_eq a b, bytes_eq-Decides a b)

cons_is : (a b : List ℕ) (xs ys : List (List ℕ)) → (a ≡ b) × (xs ≡ ys) → (a ∷ xs) ≡ (b ∷ ys)
cons_is a b xs ys e = let f = e.0 in let g = e.1 in cc

cons_parts : (a b : List ℕ) (xs ys : List (List ℕ)) → (a ∷ xs) ≡ (b ∷ ys) → (a ≡ b) × (xs ≡ ys)
cons_parts a b xs ys e = (cc, cc)

path_is : (a b : List (List ℕ)) → Decided (a ≡ b)
path_is [] [] = yes_to refl
path_is [] (b ∷ ys) = no_to (λ e. cc)
path_is (a ∷ xs) [] = no_to (λ e. cc)
path_is (a ∷ xs) (b ∷ ys) = like (cons_is a b xs ys) (cons_parts a b xs ys) (both (name_is a b) (path_is xs ys))

column_is : (a b : Option (List ℕ)) → Decided (a ≡ b)
column_is None None = yes_to refl
column_is None (Some b) = no_to (λ e. cc)
column_is (Some a) None = no_to (λ e. cc)
column_is (Some a) (Some b) = like (λ e. ap Some e) (λ e. cc) (name_is a b)

action_is : (a b : Action) → Decided (a ≡ b)
action_is a b = (sameb the_type a b, (same_true the_type tt a b, true_same the_type a b))

auth_is : (a b : Auth) → Decided (a ≡ b)
auth_is System System = yes_to refl
auth_is Public Public = yes_to refl
auth_is (Named a) (Named b) = like (λ e. ap Named e) (λ e. cc) (name_is a b)
auth_is System Public = no_to (λ e. cc)
auth_is System (Named b) = no_to (λ e. cc)
auth_is Public System = no_to (λ e. cc)
auth_is Public (Named b) = no_to (λ e. cc)
auth_is (Named a) System = no_to (λ e. cc)
auth_is (Named a) Public = no_to (λ e. cc)

need_of_parts : (a b : Need) → (a.action ≡ b.action) × (a.on ≡ b.on) × (a.column ≡ b.column) → a ≡ b
need_of_parts a b e = λ i. record { action = e.0 i; on = e.1 i; column = e.2 i }

need_is : (a b : Need) → Decided (a ≡ b)
need_is a b = like (need_of_parts a b) (λ e. (ap (λ (n : Need). n.action) e, ap (λ (n : Need). n.on) e, ap (λ (n : Need). n.column) e))
    (all_three (action_is a.action b.action) (path_is a.on b.on) (column_is a.column b.column))

-- ---- rights by the system

is_column : (path : List (List ℕ)) (name : List ℕ) (y : Item) → Decided (IsColumn path name y)
is_column path name (item.Column c) = both (path_is path (path_of c.table)) (name_is c.name name)
is_column path name _ = no_to (λ h. h)

has_column : (s : List Item) (path : List (List ℕ)) (column : Option (List ℕ)) → Decided (HasColumn s path column)
has_column s path None = yes_to tt
has_column s path (Some name) = decided_has (IsColumn path name) (is_column path name) s

table_row : (by : Action) (column : Option (List ℕ)) → Decided (IsTableRow by column)
table_row action.Select column = yes_to tt
table_row action.Insert column = yes_to tt
table_row action.Update column = yes_to tt
table_row action.References column = yes_to tt
table_row action.Delete None = yes_to tt
table_row action.Delete (Some name) = no_to (λ h. h)
table_row action.Usage column = no_to (λ h. h)
table_row action.Execute column = no_to (λ h. h)
table_row action.Admin column = no_to (λ h. h)

view_row : (by : Action) (column : Option (List ℕ)) (base : Option Object) → Decided (MayBeViewRow by column base)
view_row action.Select column base = yes_to tt
view_row action.Insert column (Some base) = yes_to tt
view_row action.Insert column None = no_to (λ h. h)
view_row action.Update column (Some base) = yes_to tt
view_row action.Update column None = no_to (λ h. h)
view_row action.Delete None (Some base) = yes_to tt
view_row action.Delete None None = no_to (λ h. h)
view_row action.Delete (Some name) base = no_to (λ h. h)
view_row action.References column base = no_to (λ h. h)
view_row action.Usage column base = no_to (λ h. h)
view_row action.Execute column base = no_to (λ h. h)
view_row action.Admin column base = no_to (λ h. h)

system_row : (schema : List ℕ) (need : Need) (y : Item) → Decided (MayBeSystemRow schema need y)
system_row schema need (item.Table t) = all_three (name_is t.schema schema) (path_is need.on (path_of t)) (table_row need.action need.column)
system_row schema need (item.View v) = all_three (name_is v.view.schema schema) (path_is need.on (path_of v.view)) (view_row need.action need.column v.base)
system_row schema need (item.Domain d) = both (name_is d.domain.schema schema) (need_is need (record { action = action.Usage; on = path_of d.domain; column = None }))
system_row schema need (item.Routine r) = both (name_is r.routine.schema schema) (need_is need (record { action = action.Execute; on = path_of r.routine; column = None }))
system_row schema need _ = no_to (λ h. h)

system_schema : (c : List Item) (r : Right) (y : Item) → Decided (MayBeSystemSchema c r y)
system_schema c r (item.Schema x) = both (auth_is r.grantee (Named x.owner)) (decided_has (MayBeSystemRow x.name r.need) (system_row x.name r.need) c)
system_schema c r _ = no_to (λ h. h)

may_be_system : (c : List Item) (r : Right) → Decided (MayBeSystemRight c r)
may_be_system c r = all_three (auth_is r.grantor System) (has_column c r.need.on r.need.column) (decided_has (MayBeSystemSchema c r) (system_schema c r) c)

pub system_right : (c : List Item) (x : Item) → Decided (IsSystemRight c x)
system_right c (item.Held r) = may_be_system c r
system_right c (item.Grantable r) = may_be_system c r
system_right c _ = no_to (λ h. h)
