-- A privilege to use a domain or to call a routine names no column.
use Rattle.std.proofs.Common.{◌≡◌, inl, inr, sym, ap, subst, ◌∙◌, ℕ, Bool, false, true, List, [], ◌∷◌, Option, None}
use Rattle.std.specs.List.{Contains}
use Rattle.finite_chains.specs.Chains.{IsChain}
use Rattle.finite_chains.proofs.Members.{Contains-nil, Contains-cases}
use Rattle.sql_tree.specs.declared.rights.Action.{Action}
use Rattle.sql_tree.specs.declared.rights.Action.TheVariants as action
use Rattle.cat_items.specs.declared.need.Auth.{Auth}
use Rattle.cat_items.specs.declared.need.Auth.TheVariants as auths
use Rattle.cat_items.specs.declared.need.Need.{Need}
use Rattle.cat_items.specs.declared.item.Right.{Right}
use Rattle.cat_items.specs.declared.item.View.{View}
use Rattle.cat_items.specs.declared.item.Item.{Item}
use Rattle.cat_items.specs.declared.item.Item.TheVariants as item
use Rattle.cat_items.specs.Good.{IsGood}
use Rattle.cat_items.specs.Reach.{Has}
use Rattle.cat_items.specs.Rights.{IsRightFor, MetBy}
use Rattle.cat_items.specs.Supported.{MayGrant, Supported}
use Rattle.cat_items.specs.SystemRights.{IsSystemRow, IsSystemSchema, IsTableRow, IsViewRow}

abbrev pub IsWhole : Action → Type 0
IsWhole action.Usage = Unit {0}
IsWhole action.Execute = Unit {0}
IsWhole other = ⊥

no_table_row : (a : Action) (column : Option (List ℕ)) → IsWhole a → IsTableRow a column → ⊥
no_table_row action.Usage column whole row = row
no_table_row action.Execute column whole row = row
no_table_row _ column whole row = absurd whole

no_view_row : (grantable : Bool) (s : List Item) (owner : Auth) (v : View) (a : Action) (column : Option (List ℕ)) → IsWhole a → IsViewRow grantable s owner v a column → ⊥
no_view_row grantable s owner v action.Usage column whole row = row
no_view_row grantable s owner v action.Execute column whole row = row
no_view_row grantable s owner v _ column whole row = absurd whole

system_row : (grantable : Bool) (s : List Item) (schema : List ℕ) (owner : Auth) (need : Need) (y : Item) → IsWhole need.action → IsSystemRow grantable s schema owner need y → need.column ≡ None
system_row grantable s schema owner need (item.Table t) whole row = absurd (no_table_row need.action need.column whole row.2)
system_row grantable s schema owner need (item.View v) whole row = absurd (no_view_row grantable s owner v need.action need.column whole row.2)
system_row grantable s schema owner need (item.Domain d) whole row = ap (λ (n : Need). n.column) row.1
system_row grantable s schema owner need (item.Routine r) whole row = ap (λ (n : Need). n.column) row.1
system_row grantable s schema owner need _ whole row = absurd row

system_schema : (grantable : Bool) (s : List Item) (r : Right) (y : Item) → IsWhole r.need.action → IsSystemSchema grantable s r y → r.need.column ≡ None
system_schema grantable s r (item.Schema x) whole h = system_row grantable s x.name (auths.Named x.owner) r.need h.1.0 whole h.1.2
system_schema grantable s r _ whole h = absurd h

met_by_right : (s : List Item) (a : Auth) (need : Need) (x : Action) → IsWhole x → MetBy true s a need x → Has s (IsRightFor true s a need)
met_by_right s a need action.Usage whole met = met.1
met_by_right s a need action.Execute whole met = met.1
met_by_right s a need _ whole met = absurd whole

-- the grant options of a list name no column
abbrev NameNone : List Item → Type 0
NameNone s = (r : Right) → Contains s (item.Grantable r) → IsWhole r.need.action → r.need.column ≡ None

by_option : (s : List Item) → NameNone s → (a : Auth) (need : Need) (y : Item) → Contains s y → IsWhole need.action → IsRightFor true s a need y → need.column ≡ None
by_option s options a need (item.Grantable r) here whole h = sym (ap (λ (n : Need). n.column) h.0) ∙ options r here (subst (λ (n : Need). IsWhole n.action) (sym h.0) whole)
by_option s options a need _ here whole h = absurd h

granted : (grantable : Bool) (s : List Item) → NameNone s → (r : Right) (by : Auth) → IsWhole r.need.action → MayGrant grantable s r by → r.need.column ≡ None
granted grantable s options r auths.System whole may = system_schema grantable s r may.0 whole may.2
granted grantable s options r auths.Public whole may = absurd may
granted grantable s options r (auths.Named name) whole may =
    let h = met_by_right s (auths.Named name) r.need r.need.action whole may.1 in
    by_option s options (auths.Named name) r.need h.0 h.1 whole h.2

option_of : (all s : List Item) → NameNone s → (x : Item) → Supported all s x → (r : Right) → x ≡ item.Grantable r → IsWhole r.need.action → r.need.column ≡ None
option_of all s options x rests r e whole = granted true s options r r.grantor whole (subst (Supported all s) e rests).0.3

-- so it is along each chain
in_chain : (all chain : List Item) → IsChain (Supported all) all chain → NameNone chain
in_chain all [] p r here whole = absurd (Contains-nil (item.Grantable r) here)
in_chain all (x ∷ earlier) p r here whole = elim (Contains-cases x earlier (item.Grantable r) here) [
  | inl e ↦ option_of all earlier (in_chain all earlier p.2) x p.1 r e whole
  | inr before ↦ in_chain all earlier p.2 r before whole
]

module _ (c : List Item) (good : IsGood c) where
  options : NameNone c
  options r here whole = let s = (good.survivors.members (item.Grantable r)).0 here in in_chain good.all s.0 s.1 r s.2 whole

  pub no_column_named : (r : Right) → Contains c (item.Held r) → IsWhole r.need.action → MayGrant false c r r.grantor → r.need.column ≡ None
  no_column_named r here whole may = granted false c options r r.grantor whole may
