-- The suspects are what is touched, and what the system could grant for the part and has no unmarked node.
use Rattle.std.proofs.Common.{◌≡◌, ◌⊎◌, ◌↔◌, inl, inr, ℕ, Bool, true, false, List, [], ◌∷◌, Option, Some, None, nat_eq, refl, sym, ◌∙◌, ap, subst}
use Rattle.std.specs.List.{Contains, list_any}
use Rattle.std.specs.declared.cmp.Ordering.TheVariants.{Equal}
use Rattle.std.proofs.lemmas.Bool.{both_ways, cases_Bool}
use Rattle.std.proofs.lemmas.Bool.Decides.{not_from_Decides}
use Rattle.std.proofs.lemmas.List.{get_or_default}
use Rattle.item_index.specs.Graphs.{Graph, HasKey, IsWhole}
use Rattle.cat_items.specs.declared.edit.Edit.{Edit}
use Rattle.cat_items.specs.declared.need.Auth.TheVariants.{Named, System}
use Rattle.cat_items.specs.declared.need.Need.{Need}
use Rattle.cat_items.specs.declared.item.Right.{Right}
use Rattle.cat_items.specs.declared.item.Schema.{Schema}
use Rattle.cat_items.specs.declared.item.Item.{Item}
use Rattle.cat_items.specs.declared.item.Item.TheVariants as item
use Rattle.cat_items.specs.Fit.{HasNewKey, IsFit}
use Rattle.cat_items.specs.Good.{IsGood}
use Rattle.cat_items.specs.Order.{item_cmp}
use Rattle.cat_items.specs.Reach.{Has}
use Rattle.cat_items.specs.Rights.{HasColumn, IsColumn, IsSchema, IsTable, path_of}
use Rattle.cat_items.specs.Survivors.{IsSystemRight, IsWithSystem, MayBeSystemRight, MayBeSystemRow, MayBeSystemSchema}
use Rattle.cat_items.proofs.KeyLemmas.{same_key}
use Rattle.cascade_laws.specs.Asks.{Asks, IsFirstTopic, by_far}
use Rattle.cascade_laws.specs.Asks as asks
use Rattle.cascade_laws.specs.Topics as on
use Rattle.cascade_laws.specs.Topics.{IsNeedTopic, IsUnder, Topic}
use Rattle.cascade_laws.proofs.Spread.{IsFirst, part_topic, row_object}
use Rattle.cascade_laws.proofs.Stable.{column_of_need}
use Rattle.board_graph.specs.BoardKeys.{IsKeyOf, ghost_key, of_item, of_possible, topic_key}
use Rattle.board_steps.specs.Plans.{HasNoHelper, IsFullBoard}
use Rattle.board_steps.proofs.Edited.{good_apart}
use Rattle.board_marks.specs.Marks.{IsMarked}
use Rattle.board_marks.proofs.Spreads.{by_topic}
use Rattle.edit_suspects.specs.Helpers.{may_be_ghost}
use Rattle.edit_suspects.specs.Seeds.{HaveSpread, of_added, of_changed, of_target, of_topic}
use Rattle.edit_suspects.specs.Suspects.{AreFresh, is_among, is_suspect}
use Rattle.edit_suspects.proofs.Alikes.{right_among}
use Rattle.edit_suspects.proofs.GhostKeys.{possible_is_ghost, possible_is_granted}
use Rattle.edit_suspects.proofs.Spreads.{makes_a_spread, marked_alike, show_number}
use Rattle.edit_suspects.proofs.Standing.{known_key, row_schema}
use Rattle.asked_parts.specs.Parts.{IsKept, IsPartOf}
use Rattle.asked_parts.proofs.AskLaws.{asks_more}
use Rattle.asked_parts.proofs.RoundLaws.{there_or_not}
use Rattle.asked_parts.proofs.UnderLaws.{marked, not_marked}
use Rattle.edit_parts.specs.Parts.{AreBoth, AreTouchedItems, IsLeftOf, IsPossibleSuspect, IsSuspectBy}
use Rattle.edit_parts.specs.Touched.{IsTouchedItem, IsTouchedRight}
use Rattle.edit_parts.proofs.GhostLaws.{ghost_known, may_no_helper, own_item}
use Rattle.edit_parts.proofs.TouchedLaws.{may_is_granted}

-- ---- what rights and their objects ask for

first_topic : (path : List (List ℕ)) (name : List ℕ) → IsFirst path name → IsFirstTopic path (on.schema name)
first_topic [] name is = is
first_topic (first ∷ names) name is = ap on.schema (sym is)

-- a right asks for its object, its column and its schema
record AsksFor (part : List Item) (x : Item) (r : Right) : Type 0 where
  near : (t : Topic) → IsNeedTopic r.need t → Asks part x t
  far : (t : Topic) → IsFirstTopic r.need.on t → Asks part x t

-- an object asks for its schema
object_asks : (part : List Item) (name : List ℕ) (need : Need) (o : Item) → MayBeSystemRow name need o → Asks part o (on.schema name)
object_asks part name need (item.Table t) is = asks.by_name (inl (ap on.schema (sym is.0)))
object_asks part name need (item.View v) is = asks.by_name (ap on.schema (sym is.0))
object_asks part name need (item.Domain d) is = asks.by_name (ap on.schema (sym is.0))
object_asks part name need (item.Routine r) is = asks.by_name (ap on.schema (sym is.0))
object_asks part name need _ is = absurd is

-- an object of a need with a column is a table or a view
column_table : (name : List ℕ) (need : Need) (column : List ℕ) (o : Item) → need.column ≡ Some column → MayBeSystemRow name need o → (path : List (List ℕ)) → need.on ≡ path → IsTable path o
column_table name need column (item.Table t) e is path at = sym at ∙ is.1
column_table name need column (item.View v) e is path at = sym at ∙ is.1
column_table name need column (item.Domain d) e is path at = absurd (let odd : None ≡ Some column = sym (ap (λ (n : Need). n.column) is.1) ∙ e in cc)
column_table name need column (item.Routine r) e is path at = absurd (let odd : None ≡ Some column = sym (ap (λ (n : Need). n.column) is.1) ∙ e in cc)
column_table name need column _ e is path at = absurd is

-- an added schema has a new name
new_name : (c : List Item) (z : Schema) → HasNewKey c (item.Schema z) → Has c (IsSchema z.name) → ⊥
new_name c z new h = by h.0 h.1 h.2
  where
    by : (y : Item) → Contains c y → IsSchema z.name y → ⊥
    by (item.Schema y) there is =
        let same : item_cmp (item.Schema y) (item.Schema z) ≡ Equal = subst (λ n. item_cmp (item.Schema y) (item.Schema (record { name = n; owner = z.owner })) ≡ Equal) is (same_key (item.Schema y)) in
        new there.0 (there.1, λ d. subst (λ w. item_cmp w (item.Schema z) ≡ Equal) (sym there.2 ∙ get_or_default c there.0 (item.Schema y) d there.1) same)
    by _ there is = absurd is

module _ (eq : Item → Item → Bool) (g : Graph Item) (c edited : List Item) (edit : Edit) (marks : List ℕ) (fresh : List Item) (good : IsGood c) (whole : IsWhole eq g) (full : IsFullBoard g c) (fit : IsFit c edit edited)
    (spread : HaveSpread g edit marks) (are_fresh : AreFresh c edited fresh) (itself : (k : Item) → eq k k ≡ true) where
  abbrev suspect : Item → Bool
  suspect = is_suspect g marks edit.added fresh

  no_c : HasNoHelper c
  no_c = good_apart c good

  shown : (x k : Item) (n : ℕ) → IsKeyOf c x k → HasKey g n k → Contains marks n → suspect x ≡ true
  shown = show_number eq g c edited edit marks fresh good whole full fit spread are_fresh

  marks_of : (x k : Item) (n : ℕ) → IsKeyOf c x k → HasKey g n k → suspect x ≡ true → Contains marks n
  marks_of x k n is has = (marked_alike eq g c edited edit marks fresh good whole full fit spread are_fresh itself x k n is has).0

  -- a suspect right by the system has no unmarked node
  no_unmarked : (x : Item) → may_be_ghost x ≡ true → suspect x ≡ true → IsMarked g marks x × IsMarked g marks (ghost_key x)
  no_unmarked x may sx = (
    λ n has. marks_of x x n (of_item (own_item g c no_c full x (may_no_helper x may) n has) refl) has sx,
    λ n has. marks_of x (ghost_key x) n (ghost_known g c no_c full x may n has) has sx,
  )

  -- what stands, or could be granted, and has no unmarked node is a suspect
  shown_by_key : (x k : Item) → IsKeyOf c x k → IsMarked g marks x → IsMarked g marks (ghost_key x) → suspect x ≡ true
  shown_by_key x k (of_item h e) own ghost = let at = full.board.items x k (of_item h e) in shown x k at.0 (of_item h e) at.1 (own at.0 (subst (HasKey g at.0) e at.1))
  shown_by_key x k (of_possible h none e) own ghost = let at = full.board.items x k (of_possible h none e) in shown x k at.0 (of_possible h none e) at.1 (ghost at.0 (subst (HasKey g at.0) e at.1))

  module _ (f : List Item) (with_f : IsWithSystem edited f) where
    by_marks : (x : Item) → Contains f x → IsMarked g marks x → IsMarked g marks (ghost_key x) → (b : Bool) → suspect x ≡ b → suspect x ≡ true
    by_marks x h own ghost true e = e
    by_marks x h own ghost false e =
        let spread_f = makes_a_spread eq g c edited edit marks fresh good whole full fit spread are_fresh f with_f in
        let key = known_key c x ((good.with_system.members x).0 (spread_f.known x h e)) in
        shown_by_key x key.0 key.1 own ghost

  -- ---- a part without the touched rights that are no suspects

  -- no touched right is an unmarked item
  kept_no_right : (y : Item) → IsTouchedRight g marks y → IsKept g c marks y → ⊥
  kept_no_right y right kept = kept.1.2 (marks_of y y kept.1.0 (of_item kept.0 refl) kept.1.1 (elim right.2.1 [
    | inl has ↦ shown y y right.0 (of_item kept.0 refl) has right.1
    | inr has ↦ shown y (ghost_key y) right.0 (ghost_known g c no_c full y right.2.0 right.0 has) has right.1
  ]))

  pub part_left : (suspects rights all part left : List Item) → ((x : Item) → Contains rights x → IsTouchedRight g marks x) → AreBoth suspects rights all → IsPartOf g c marks all part → IsLeftOf suspects all part left → IsPartOf g c marks suspects left
  part_left suspects rights all part left touched both is are = record {
    order = are.0;
    has_suspects = λ x h. (are.1 x).1 (is.has_suspects x ((both x).1 (inl h)), (λ gone. gone.1 h));
    from = λ x h. let p = (are.1 x).0 h in elim (is.from x p.0) [
      | inr kept ↦ inr kept
      | inl there ↦ (elim ((both x).0 there) [
        | inl s ↦ inl s
        | inr r ↦ (elim (there_or_not suspects x (may_is_granted x (touched x r).2.0)) [ inl s ↦ inl s | inr out ↦ absurd (p.1 (there, out)) ])
      ])
    ];
    asked = λ x y t h kept ask by. (are.1 y).1 (
      is.asked x y t ((both x).1 (inl h)) kept (asks_more left part (λ z i. ((are.1 z).0 i).0) x t ask) by,
      (λ gone. elim ((both y).0 gone.0) [ inl s ↦ gone.1 s | inr r ↦ kept_no_right y (touched y r) kept ]),
    );
  }

  module _ (start part : List Item) (are : AreTouchedItems g marks edit start) (is_part : IsPartOf g c marks start part) where
    started : (y : Item) → IsTouchedItem g marks edit y ⊎ IsTouchedRight g marks y → Contains part y
    started y h = is_part.has_suspects y ((are y).1 h)

    -- an item of the edited list is touched, or unmarked
    touched_or_kept : (y : Item) → Contains edited y → Contains start y ⊎ IsKept g c marks y
    touched_or_kept y h = elim ((fit.is_edited.members y).0 h) [
      | inr added ↦ inl ((are y).1 (inl (inr added)))
      | inl old ↦
          let at = full.board.items y y (of_item old.0 refl) in
          elim (cases_Bool (list_any (nat_eq at.0) marks)) [
            | inl e ↦ inl ((are y).1 (inl (inl (at.0, marked marks at.0 e, (at.1, (λ is. no_c y old.0 is), (old.1, old.2))))))
            | inr e ↦ inr (old.0, (at.0, at.1, not_marked marks at.0 e))
          ]
    ]

    -- the part has it, where a suspect asks for it
    in_part : (y : Item) → Contains edited y → (IsKept g c marks y → Contains part y) → Contains part y
    in_part y h ask = elim (touched_or_kept y h) [ inl there ↦ is_part.has_suspects y there | inr kept ↦ ask kept ]

    asked_by : (x y : Item) (t : Topic) → Contains start x → Contains edited y → Asks part x t → IsUnder t y → Contains part y
    asked_by x y t there h ask under = in_part y h (λ kept. is_part.asked x y t there kept ask under)

    -- ---- a right that is touched asks for all that it is possible by

    module _ (r : Right) where
      column_by : (x : Item) → Contains start x → AsksFor part x r → (column : Option (List ℕ)) → r.need.column ≡ column → HasColumn edited r.need.on column → HasColumn part r.need.on column
      column_by x there ask None e h = tt
      column_by x there ask (Some name) e h =
          let t = part_topic r.need h.0 (inr (column_of_need r name e h.0 h.2)) in
          (h.0, asked_by x h.0 t.0 there h.1 (ask.near t.0 t.1) t.2, h.2)

      schema_by : (x : Item) → Contains start x → AsksFor part x r → Has edited (MayBeSystemSchema edited r) → Has part (MayBeSystemSchema part r)
      schema_by x there ask h = by h.0 h.1 h.2
        where
          by : (z : Item) → Contains edited z → MayBeSystemSchema edited r z → Has part (MayBeSystemSchema part r)
          by (item.Schema z) inside is =
              let o = is.1 in
              let row = row_object z.name r.need o.0 o.2 in
              let t = part_topic r.need o.0 (inl row.0) in (
                item.Schema z,
                asked_by x (item.Schema z) (on.schema z.name) there inside (ask.far (on.schema z.name) (first_topic r.need.on z.name row.1)) refl,
                (is.0, (o.0, asked_by x o.0 t.0 there o.1 (ask.near t.0 t.1) t.2, o.2)),
              )
          by _ inside is = absurd is

      possible_by : (x : Item) → Contains start x → AsksFor part x r → MayBeSystemRight edited r → MayBeSystemRight part r
      possible_by x there ask is = (is.0, column_by x there ask r.need.column refl is.1, schema_by x there ask is.2)

      -- ---- a right that is fresh has an added object or column, and that asks for the rest

      module _ (grantor : r.grantor ≡ System) (not_before : MayBeSystemRight c r → ⊥) where
        -- with an added object, what is of a column of it is touched
        column_with : (name : List ℕ) (o : Item) → Contains edit.added o → MayBeSystemRow name r.need o → (column : Option (List ℕ)) → r.need.column ≡ column → HasColumn edited r.need.on column → HasColumn part r.need.on column
        column_with name o added row None e h = tt
        column_with name o added row (Some col) e h = (h.0, in_part h.0 h.1 (λ kept. absurd (by h.0 h.2 kept)), h.2)
          where
            by : (y : Item) → IsColumn r.need.on col y → IsKept g c marks y → ⊥
            by (item.Column k) is kept =
                let t : Topic = on.table (path_of k.table) in
                let under : IsUnder t o = column_table name r.need col o e row (path_of k.table) is.0 in
                let m = by_topic eq g c marks whole full spread.closed (item.Column k) (item.Column k) t (of_item kept.0 refl) (on.by_name (inl refl)) tt
                (spread.begun (topic_key t) (of_added (o, added, of_topic t (under, tt) refl))) in
                kept.1.2 (m kept.1.0 kept.1.1)
            by _ is kept = is

        with_object : (z : Schema) (o : Item) → r.grantee ≡ Named z.owner → Contains edited (item.Schema z) → Contains edit.added o → MayBeSystemRow z.name r.need o → HasColumn edited r.need.on r.need.column → MayBeSystemRight part r
        with_object z o owner inside added row column =
            let there = (are o).1 (inl (inr added)) in (
              grantor,
              column_with z.name o added row r.need.column refl column,
              (item.Schema z, asked_by o (item.Schema z) (on.schema z.name) there inside (object_asks part z.name r.need o row) refl, (owner, (o, is_part.has_suspects o there, row))),
            )

        -- an added column asks for its table and schema
        with_column : (z : Schema) (o y : Item) (name : List ℕ) → r.need.column ≡ Some name → r.grantee ≡ Named z.owner → Contains edited (item.Schema z) → Contains edited o → MayBeSystemRow z.name r.need o → Contains edit.added y → IsColumn r.need.on name y → MayBeSystemRight part r
        with_column z o (item.Column k) name e owner inside o_inside row added is =
            let there = (are (item.Column k)).1 (inl (inr added)) in
            let path = path_of k.table in
            let first : IsFirst path z.name = subst (λ (p : List (List ℕ)). IsFirst p z.name) is.0 (row_object z.name r.need o row).1 in (
              grantor,
              subst (HasColumn part r.need.on) (sym e) (item.Column k, is_part.has_suspects (item.Column k) there, is),
              (
                item.Schema z,
                asked_by (item.Column k) (item.Schema z) (on.schema k.table.schema) there inside (by_far refl) (sym first),
                (owner, (o, asked_by (item.Column k) o (on.table path) there o_inside (asks.by_name (inl refl)) (column_table z.name r.need name o e row path is.0), row)),
              ),
            )
        with_column z o _ name e owner inside o_inside row added is = absurd is

        -- an old object, and no added column: it was possible before
        with_old : (z : Schema) (o : Item) → r.grantee ≡ Named z.owner → Contains edited (item.Schema z) → Contains c o → MayBeSystemRow z.name r.need o → HasColumn c r.need.on r.need.column → ⊥
        with_old z o owner inside old row column = elim ((fit.is_edited.members (item.Schema z)).0 inside) [
          | inl there ↦ not_before (grantor, column, (item.Schema z, there.0, (owner, (o, old, row))))
          | inr added ↦ new_name c z (fit.new_keys (item.Schema z) added) (row_schema c good z.name r.need o old row)
        ]

        with_any : (z : Schema) (o : Item) → r.grantee ≡ Named z.owner → Contains edited (item.Schema z) → Contains edited o → Contains c o → MayBeSystemRow z.name r.need o → (column : Option (List ℕ)) → r.need.column ≡ column → HasColumn edited r.need.on column → MayBeSystemRight part r
        with_any z o owner inside o_inside old row None e h = absurd (with_old z o owner inside old row (subst (HasColumn c r.need.on) (sym e) tt))
        with_any z o owner inside o_inside old row (Some name) e h = elim ((fit.is_edited.members h.0).0 h.1) [
          | inr added ↦ with_column z o h.0 name e owner inside o_inside row added h.2
          | inl there ↦ absurd (with_old z o owner inside old row (subst (HasColumn c r.need.on) (sym e) (h.0, there.0, h.2)))
        ]

        possible_fresh : MayBeSystemRight edited r → MayBeSystemRight part r
        possible_fresh is = by is.2.0 is.2.1 is.2.2
          where
            by : (z : Item) → Contains edited z → MayBeSystemSchema edited r z → MayBeSystemRight part r
            by (item.Schema z) inside at =
                let o = at.1 in
                elim ((fit.is_edited.members o.0).0 o.1) [
                  | inr added ↦ with_object z o.0 at.0 inside added o.2 is.1
                  | inl old ↦ with_any z o.0 at.0 inside o.1 old.0 o.2 r.need.column refl is.1
                ]
            by _ inside at = absurd at

    -- ---- what is possible for the edited list is possible for the part

    held_asks : (r : Right) → AsksFor part (item.Held r) r
    held_asks r = record { near = λ t is. asks.by_name (inl is); far = λ t is. by_far (inl is) }

    grantable_asks : (r : Right) → AsksFor part (item.Grantable r) r
    grantable_asks r = record { near = λ t is. asks.by_name (inl is); far = λ t is. by_far (inl is) }

    part_touched : (x : Item) → Contains start x → IsSystemRight edited x → IsSystemRight part x
    part_touched (item.Held r) there is = possible_by r (item.Held r) there (held_asks r) is
    part_touched (item.Grantable r) there is = possible_by r (item.Grantable r) there (grantable_asks r) is
    part_touched _ there is = absurd is

    part_fresh : (x : Item) → IsSystemRight edited x → (IsSystemRight c x → ⊥) → IsSystemRight part x
    part_fresh (item.Held r) is none = possible_fresh r is.0 none is
    part_fresh (item.Grantable r) is none = possible_fresh r is.0 none is
    part_fresh _ is none = absurd is

    -- a known right that is a suspect is touched
    known_touched : (x k : Item) → may_be_ghost x ≡ true → suspect x ≡ true → IsKeyOf c x k → IsTouchedRight g marks x
    known_touched x k may sx (of_item h e) =
        let at = full.board.items x k (of_item h e) in
        (at.0, marks_of x k at.0 (of_item h e) at.1 sx, (may, inl (subst (HasKey g at.0) e at.1)))
    known_touched x k may sx (of_possible h none e) =
        let at = full.board.items x k (of_possible h none e) in
        (at.0, marks_of x k at.0 (of_possible h none e) at.1 sx, (may, inr (subst (HasKey g at.0) e at.1)))

    possible_in_part : (x : Item) → IsSystemRight edited x → suspect x ≡ true → IsSystemRight part x
    possible_in_part x is sx =
        let test = right_among good.all x (possible_is_granted edited x is) in
        elim (cases_Bool (is_among x good.all)) [
          | inl e ↦
              let key = known_key c x ((good.with_system.members x).0 (test.0 e)) in
              part_touched x ((are x).1 (inr (known_touched x key.0 (possible_is_ghost edited x is) sx key.1))) is
          | inr e ↦ part_fresh x is (λ was. not_from_Decides (is_among x good.all) test e ((good.with_system.members x).1 (inr was)))
        ]

    -- ---- the other way round

    left_here : (y : Item) → IsKept g c marks y → Contains edited y
    left_here y kept =
        (fit.is_edited.members y).1 (inl (kept.0, (λ h. kept.1.2 (spread.begun y (of_target h) kept.1.0 kept.1.1)), (λ h. kept.1.2 (spread.begun y (of_changed h) kept.1.0 kept.1.1))))

    touched_here : (y : Item) → IsTouchedItem g marks edit y → Contains edited y
    touched_here y (inr added) = (fit.is_edited.members y).1 (inr added)
    touched_here y (inl left) = (fit.is_edited.members y).1 (inl (own_item g c no_c full y left.2.1 left.0 left.2.0, left.2.2.0, left.2.2.1))

    -- what the part has and is no right stands in the edited list
    back : (y : Item) → may_be_ghost y ≡ false → Contains part y → Contains edited y
    back y no_right h = elim (is_part.from y h) [
      | inr kept ↦ left_here y kept
      | inl there ↦ (elim ((are y).0 there) [
        | inl touched ↦ touched_here y touched
        | inr right ↦ absurd (both_ways (may_be_ghost y) no_right right.2.0)
      ])
    ]

    column_back : (path : List (List ℕ)) (column : Option (List ℕ)) → HasColumn part path column → HasColumn edited path column
    column_back path None h = tt
    column_back path (Some name) h = by h.0 h.1 h.2
      where
        by : (y : Item) → Contains part y → IsColumn path name y → Has edited (IsColumn path name)
        by (item.Column k) inside is = (item.Column k, back (item.Column k) refl inside, is)
        by _ inside is = absurd is

    row_back : (name : List ℕ) (need : Need) → Has part (MayBeSystemRow name need) → Has edited (MayBeSystemRow name need)
    row_back name need h = by h.0 h.1 h.2
      where
        by : (y : Item) → Contains part y → MayBeSystemRow name need y → Has edited (MayBeSystemRow name need)
        by (item.Table o) inside is = (item.Table o, back (item.Table o) refl inside, is)
        by (item.View v) inside is = (item.View v, back (item.View v) refl inside, is)
        by (item.Domain d) inside is = (item.Domain d, back (item.Domain d) refl inside, is)
        by (item.Routine o) inside is = (item.Routine o, back (item.Routine o) refl inside, is)
        by _ inside is = absurd is

    right_back : (r : Right) → MayBeSystemRight part r → MayBeSystemRight edited r
    right_back r is = (is.0, column_back r.need.on r.need.column is.1, by is.2.0 is.2.1 is.2.2)
      where
        by : (z : Item) → Contains part z → MayBeSystemSchema part r z → Has edited (MayBeSystemSchema edited r)
        by (item.Schema z) inside at = (item.Schema z, back (item.Schema z) refl inside, (at.0, row_back z.name r.need at.1))
        by _ inside at = absurd at

    possible_back : (x : Item) → IsSystemRight part x → IsSystemRight edited x
    possible_back (item.Held r) is = right_back r is
    possible_back (item.Grantable r) is = right_back r is
    possible_back _ is = absurd is

    -- ---- together

    module _ (f : List Item) (with_f : IsWithSystem edited f) (x : Item) where
      from_here : suspect x ≡ true → Contains edited x → IsTouchedItem g marks edit x
      from_here sx h = elim ((fit.is_edited.members x).0 h) [
        | inr added ↦ inr added
        | inl old ↦
            let at = full.board.items x x (of_item old.0 refl) in
            inl (at.0, marks_of x x at.0 (of_item old.0 refl) at.1 sx, (at.1, (λ is. no_c x old.0 is), (old.1, old.2)))
      ]

      from_possible : suspect x ≡ true → IsSystemRight edited x → IsPossibleSuspect g marks part x
      from_possible sx is = let none = no_unmarked x (possible_is_ghost edited x is) sx in (possible_in_part x is sx, none.0, none.1)

      to_touched : IsTouchedItem g marks edit x → suspect x ≡ true
      to_touched (inr added) = (makes_a_spread eq g c edited edit marks fresh good whole full fit spread are_fresh f with_f).added x added
      to_touched (inl left) = shown x x left.0 (of_item (own_item g c no_c full x left.2.1 left.0 left.2.0) refl) left.2.0 left.1

      pub suspects_by_part : (Contains f x × (suspect x ≡ true)) ↔ IsSuspectBy g marks edit part x
      suspects_by_part = (
        λ h. elim ((with_f.members x).0 h.0) [ inl here ↦ inl (from_here h.1 here) | inr possible ↦ inr (from_possible h.1 possible) ],
        λ h. elim h [
          | inl touched ↦ ((with_f.members x).1 (inl (touched_here x touched)), to_touched touched)
          | inr possible ↦
              let here = (with_f.members x).1 (inr (possible_back x possible.0)) in
              (here, by_marks f with_f x here possible.1 possible.2 (suspect x) refl)
        ],
      )
