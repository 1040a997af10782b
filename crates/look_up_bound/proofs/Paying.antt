-- That a view, a column and a routine that stand pay for the rights on them that the system could grant.
use Rattle.std.proofs.Common.{◌≡◌, inl, inr, Bool, true, false, ℕ, ◌+◌, ◌≤◌, List, length, refl, arith}
use Rattle.std.specs.Prelude.{◌≢◌, ◌*◌}
use Rattle.std.specs.List.{AllPairs, Contains, count_by}
use Rattle.std.proofs.lemmas.List.Elements.{All-contains}
use Rattle.finite_chains.specs.Chains.{IsWithin}
use Rattle.sql_tree.specs.declared.rights.Action.{Action}
use Rattle.sql_tree.specs.declared.rights.Action.TheVariants as action
use Rattle.cat_items.specs.declared.need.Auth.{Auth}
use Rattle.cat_items.specs.declared.need.Auth.TheVariants.{Named}
use Rattle.cat_items.specs.declared.need.Need.{Need}
use Rattle.cat_items.specs.declared.item.Column.{Column}
use Rattle.cat_items.specs.declared.item.Routine.{Routine}
use Rattle.cat_items.specs.declared.item.View.{View}
use Rattle.cat_items.specs.declared.item.Item.{Item}
use Rattle.cat_items.specs.declared.item.Item.TheVariants as item
use Rattle.cat_items.specs.Bound.{Lists, square}
use Rattle.cat_items.specs.Good.{IsGood}
use Rattle.cat_items.specs.Reach.{Has}
use Rattle.cat_items.specs.Rights.{path_of, IsAuthorization, IsSchema, IsTable, IsObject, IsRightFor, Stands, MetBy, Met, MeetsAll}
use Rattle.cat_items.specs.Relevant.{Relevant, IsActor, IsNeedOf, named, acting, on_need, right_of}
use Rattle.cat_items.specs.Supported.{Supported}
use Rattle.support_laws.proofs.Monotone.{reaches_more}
use Rattle.support_laws.proofs.Ordinary.{IsOrdinary}
use Rattle.cascade_laws.specs.Topics.{Topic}
use Rattle.cascade_laws.specs.Topics as on
use Rattle.cascade_laws.specs.Asks.{Asks}
use Rattle.look_up_bound.specs.LookUps.{look_ups}
use Rattle.look_up_bound.specs.PossibleRights.{leads_on, right_look_ups}
use Rattle.look_up_bound.specs.TopicParts.{HasParts}
use Rattle.look_up_bound.proofs.Few.{asked_sharply}
use Rattle.look_up_bound.proofs.Survivor.{survivor_supported}
use Rattle.look_up_bound.proofs.OrdinaryNeeds.{tree_needs_ordinary}
use Rattle.look_up_bound.proofs.Parts.{is_part, is_authorization, is_held, all_apart, at_least_one}
use Rattle.look_up_bound.proofs.Squares.{view_pays, column_pays, routine_pays}
use Rattle.look_up_bound.proofs.Standing.{depended_good}

table_is_part : (path : List (List ℕ)) (y : Item) → IsTable path y → is_part y ≡ true
table_is_part path (item.Table o) is = refl
table_is_part path (item.View v) is = refl
table_is_part path _ is = absurd is

object_is_part : (by : Action) (path : List (List ℕ)) (y : Item) → IsObject by path y → is_part y ≡ true
object_is_part action.Usage path (item.Domain d) is = refl
object_is_part action.Usage path _ is = absurd is
object_is_part action.Execute path (item.Routine r) is = refl
object_is_part action.Execute path _ is = absurd is
object_is_part action.Admin path y is = absurd is
object_is_part action.Select path y is = table_is_part path y is
object_is_part action.Insert path y is = table_is_part path y is
object_is_part action.Update path y is = table_is_part path y is
object_is_part action.Delete path y is = table_is_part path y is
object_is_part action.References path y is = table_is_part path y is

authorization_counts : (name : List ℕ) (y : Item) → IsAuthorization name y → is_authorization y ≡ true
authorization_counts name (item.User n) is = refl
authorization_counts name (item.Role n) is = refl
authorization_counts name _ is = absurd is

met_both : (c : List Item) (a : Auth) (need : Need) (by : Action) → by ≢ action.Admin → MetBy false c a need by → Stands c need × Has c (IsRightFor false c a need)
met_both c a need action.Admin other h = absurd (other refl)
met_both c a need _ other h = h

module _ (c u : List Item) (good : IsGood c) (within : IsWithin c u) (p : Item) (xs : List Item) (lists : Lists (λ y. Contains u y × Relevant u y p) xs) where
  counted : (is : Item → Bool) (y : Item) → Contains c y → Relevant u y p → is y ≡ true → 1 ≤ count_by is xs
  counted is y inside relevant e = at_least_one is xs y ((lists.members y).1 (within y inside, relevant)) e

  -- what is met for the owner has an object and a right
  need_counted : (a : Auth) (need : Need) → IsOrdinary need → IsNeedOf u p need → IsActor u p a → Met false c a need → (1 ≤ count_by is_part xs) × (1 ≤ count_by is_held xs)
  need_counted a need ordinary sought acts met =
      let both = met_both c a need need.action ordinary met in
      let object = both.0.0 in
      (counted is_part object.0 object.1 (on_need need sought (inl object.2)) (object_is_part need.action need.on object.0 object.2), by both.1.0 both.1.1 both.1.2)
    where
      by : (y : Item) → Contains c y → IsRightFor false c a need y → 1 ≤ count_by is_held xs
      by (item.Held r) inside is = counted is_held (item.Held r) inside (right_of need a sought acts (is.0, reaches_more c u within a r.grantee is.1)) refl
      by _ inside is = absurd is

module _ (c u part : List Item) (good : IsGood c) (within : IsWithin c u) (part_within : IsWithin part u) (xs : List Item) (topics : List Topic) (differ : AllPairs (λ s t. s ≢ t) topics)
    (asked before after rights : ℕ) (one : asked ≤ length topics + 1) (b : before ≤ asked) (f : after ≤ asked) (r : rights ≤ 20) where
  pub view_pays_for_eight : (v : View) → Contains c (item.View v) → (need : Need) → Contains v.needs need → Lists (λ y. Contains u y × Relevant u y (item.View v)) xs → ((t : Topic) → Contains topics t → Asks part (item.View v) t × HasParts u t)
      → look_ups (length xs) asked before after rights + 8 * right_look_ups (count_by leads_on xs) ≤ 64 * square (length xs)
  view_pays_for_eight v h need needed lists asks = by meets.0 meets.1 meets.2
    where
      meets : Has c (MeetsAll false c v.view.schema v.needs)
      meets = survivor_supported good.all c good.survivors (item.View v) h

      by : (z : Item) → Contains c z → MeetsAll false c v.view.schema v.needs z → look_ups (length xs) asked before after rights + 8 * right_look_ups (count_by leads_on xs) ≤ 64 * square (length xs)
      by (item.Schema z) inside is =
          let few = asked_sharply u part (item.View v) xs lists part_within topics differ asks (λ none. none) refl in
          let acts : IsActor u (item.View v) (Named z.owner) = (item.Schema z, within (item.Schema z) inside, (is.0, refl)) in
          let lead = counted c u good within (item.View v) xs lists leads_on (item.Schema z) inside (named (is.0)) refl in
          let owner = survivor_supported good.all c good.survivors (item.Schema z) inside in
          let authorization = counted c u good within (item.View v) xs lists is_authorization owner.0 owner.1 (acting (Named z.owner) acts owner.2) (authorization_counts z.owner owner.0 owner.2) in
          let met = All-contains (Met false c (Named z.owner)) v.needs need is.1 needed in
          let both = need_counted c u good within (item.View v) xs lists (Named z.owner) need (tree_needs_ordinary (item.View v) (good.shape.derived (item.View v) h) need needed) needed acts met in
          view_pays (length xs) (count_by is_part xs) (count_by leads_on xs) (length topics) asked before after rights few one b f r both.0 lead (omega (arith, all_apart xs, authorization, both.1))
      by _ inside is = absurd is

  pub column_pays_for_six : (k : Column) → Contains c (item.Column k) → Lists (λ y. Contains u y × Relevant u y (item.Column k)) xs → ((t : Topic) → Contains topics t → Asks part (item.Column k) t × HasParts u t)
      → look_ups (length xs) asked before after rights + 6 * right_look_ups (count_by leads_on xs) ≤ 64 * square (length xs)
  column_pays_for_six k h lists asks = by is_there.0.0 is_there.0.1 is_there.0.2
    where
      is_there : Supported good.all c (item.Column k)
      is_there = survivor_supported good.all c good.survivors (item.Column k) h

      by : (z : Item) → Contains c z → IsSchema k.table.schema z → look_ups (length xs) asked before after rights + 6 * right_look_ups (count_by leads_on xs) ≤ 64 * square (length xs)
      by (item.Schema z) inside is =
          let few = asked_sharply u part (item.Column k) xs lists part_within topics differ asks (λ none. none) refl in
          let acts : IsActor u (item.Column k) (Named z.owner) = (item.Schema z, within (item.Schema z) inside, (is, refl)) in
          let lead = counted c u good within (item.Column k) xs lists leads_on (item.Schema z) inside (named (inl is)) refl in
          let owner = survivor_supported good.all c good.survivors (item.Schema z) inside in
          let authorization = counted c u good within (item.Column k) xs lists is_authorization owner.0 owner.1 (acting (Named z.owner) acts owner.2) (authorization_counts z.owner owner.0 owner.2) in
          let table = is_there.1 in
          let object = counted c u good within (item.Column k) xs lists is_part table.0 table.1 (named (inr (inl table.2))) (table_is_part (path_of k.table) table.0 table.2) in
          column_pays (length xs) (count_by is_part xs) (count_by leads_on xs) (length topics) asked before after rights few one b f r object lead (omega (arith, all_apart xs, authorization))
      by _ inside is = absurd is

  pub routine_pays_for_two : (z : Routine) → Contains c (item.Routine z) → Lists (λ y. Contains u y × Relevant u y (item.Routine z)) xs → ((t : Topic) → Contains topics t → Asks part (item.Routine z) t × HasParts u t)
      → look_ups (length xs) asked before after rights + 2 * right_look_ups (count_by leads_on xs) ≤ 64 * square (length xs)
  routine_pays_for_two z h lists asks = by schema.0 schema.1 schema.2
    where
      schema : Has c (IsSchema z.routine.schema)
      schema = depended_good c c good (λ y inside. inside) (item.Routine z) (on.schema z.routine.schema) h (on.by_name refl)

      by : (y : Item) → Contains c y → IsSchema z.routine.schema y → look_ups (length xs) asked before after rights + 2 * right_look_ups (count_by leads_on xs) ≤ 64 * square (length xs)
      by (item.Schema s) inside is =
          let few = asked_sharply u part (item.Routine z) xs lists part_within topics differ asks (λ none. none) refl in
          let acts : IsActor u (item.Routine z) (Named s.owner) = (item.Schema s, within (item.Schema s) inside, (is, refl)) in
          let lead = counted c u good within (item.Routine z) xs lists leads_on (item.Schema s) inside (named is) refl in
          let owner = survivor_supported good.all c good.survivors (item.Schema s) inside in
          let authorization = counted c u good within (item.Routine z) xs lists is_authorization owner.0 owner.1 (acting (Named s.owner) acts owner.2) (authorization_counts s.owner owner.0 owner.2) in
          routine_pays (length xs) (count_by is_part xs) (count_by leads_on xs) (length topics) asked before after rights few one b f r lead (omega (arith, all_apart xs, authorization))
      by _ inside is = absurd is

-- ---- what is relevant to each of them: parts of needs, schemas and role authorizations, and others

module _ (c u : List Item) (good : IsGood c) (within : IsWithin c u) (xs : List Item) where
  abbrev parts : ℕ
  parts = count_by is_part xs

  abbrev leads : ℕ
  leads = count_by leads_on xs

  pub view_counts : (v : View) → Contains c (item.View v) → (need : Need) → Contains v.needs need → Lists (λ y. Contains u y × Relevant u y (item.View v)) xs → (1 ≤ parts) × (1 ≤ leads) × (parts + leads + 2 ≤ length xs)
  view_counts v h need needed lists = by meets.0 meets.1 meets.2
    where
      meets : Has c (MeetsAll false c v.view.schema v.needs)
      meets = survivor_supported good.all c good.survivors (item.View v) h

      by : (z : Item) → Contains c z → MeetsAll false c v.view.schema v.needs z → (1 ≤ parts) × (1 ≤ leads) × (parts + leads + 2 ≤ length xs)
      by (item.Schema z) inside is =
          let acts : IsActor u (item.View v) (Named z.owner) = (item.Schema z, within (item.Schema z) inside, (is.0, refl)) in
          let lead = counted c u good within (item.View v) xs lists leads_on (item.Schema z) inside (named (is.0)) refl in
          let owner = survivor_supported good.all c good.survivors (item.Schema z) inside in
          let authorization = counted c u good within (item.View v) xs lists is_authorization owner.0 owner.1 (acting (Named z.owner) acts owner.2) (authorization_counts z.owner owner.0 owner.2) in
          let met = All-contains (Met false c (Named z.owner)) v.needs need is.1 needed in
          let both = need_counted c u good within (item.View v) xs lists (Named z.owner) need (tree_needs_ordinary (item.View v) (good.shape.derived (item.View v) h) need needed) needed acts met in
          (both.0, lead, omega (arith, all_apart xs, authorization, both.1))
      by _ inside is = absurd is

  pub column_counts : (k : Column) → Contains c (item.Column k) → Lists (λ y. Contains u y × Relevant u y (item.Column k)) xs → (1 ≤ parts) × (1 ≤ leads) × (parts + leads + 1 ≤ length xs)
  column_counts k h lists = by is_there.0.0 is_there.0.1 is_there.0.2
    where
      is_there : Supported good.all c (item.Column k)
      is_there = survivor_supported good.all c good.survivors (item.Column k) h

      by : (z : Item) → Contains c z → IsSchema k.table.schema z → (1 ≤ parts) × (1 ≤ leads) × (parts + leads + 1 ≤ length xs)
      by (item.Schema z) inside is =
          let acts : IsActor u (item.Column k) (Named z.owner) = (item.Schema z, within (item.Schema z) inside, (is, refl)) in
          let lead = counted c u good within (item.Column k) xs lists leads_on (item.Schema z) inside (named (inl is)) refl in
          let owner = survivor_supported good.all c good.survivors (item.Schema z) inside in
          let authorization = counted c u good within (item.Column k) xs lists is_authorization owner.0 owner.1 (acting (Named z.owner) acts owner.2) (authorization_counts z.owner owner.0 owner.2) in
          let table = is_there.1 in
          let object = counted c u good within (item.Column k) xs lists is_part table.0 table.1 (named (inr (inl table.2))) (table_is_part (path_of k.table) table.0 table.2) in
          (object, lead, omega (arith, all_apart xs, authorization))
      by _ inside is = absurd is

  pub routine_counts : (z : Routine) → Contains c (item.Routine z) → Lists (λ y. Contains u y × Relevant u y (item.Routine z)) xs → (1 ≤ leads) × (parts + leads + 1 ≤ length xs)
  routine_counts z h lists = by schema.0 schema.1 schema.2
    where
      schema : Has c (IsSchema z.routine.schema)
      schema = depended_good c c good (λ y inside. inside) (item.Routine z) (on.schema z.routine.schema) h (on.by_name refl)

      by : (y : Item) → Contains c y → IsSchema z.routine.schema y → (1 ≤ leads) × (parts + leads + 1 ≤ length xs)
      by (item.Schema s) inside is =
          let acts : IsActor u (item.Routine z) (Named s.owner) = (item.Schema s, within (item.Schema s) inside, (is, refl)) in
          let lead = counted c u good within (item.Routine z) xs lists leads_on (item.Schema s) inside (named is) refl in
          let owner = survivor_supported good.all c good.survivors (item.Schema s) inside in
          let authorization = counted c u good within (item.Routine z) xs lists is_authorization owner.0 owner.1 (acting (Named s.owner) acts owner.2) (authorization_counts s.owner owner.0 owner.2) in
          (lead, omega (arith, all_apart xs, authorization))
      by _ inside is = absurd is
