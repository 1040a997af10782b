use Rattle.std.proofs.Common.{[], ◌∷◌, ◌++◌, ◌≡◌, ◌⊎◌, ◌↔◌, ap, refl, sym, subst, ◌∙◌}
use Rattle.std.specs.List.{Contains}
use Rattle.std.proofs.lemmas.Bool.{both_ways}
use Rattle.cat_items.specs.declared.need.Need.{Need}
use Rattle.grant_edit.specs.Grants.{IsColumnPrivilege, IsToBeGranted}
use Rattle.grant_edit.proofs.GrantLemmas.{with_columns, without_columns}
use Rattle.grant_edit.proofs.Lists.{none_if, on_ok_more, some_if}
use Rattle.grant_edit.proofs.grants.push_granted.Goals as goal
use Rattle.grant_edit.proofs.grants.push_granted.Goals.{else-is_none-via-then-is_none+else-is_on_columns, else-is_none-via-else-is_none}

pub returns-then-is_on_columns-clause-members : goal.returns-then-is_on_columns-clause-members
returns-then-is_on_columns-clause-members c =
    let items = c.args.c.now.items in
    let grantor = c.args.grantor.now in
    let object = c.args.object.now in
    let need = c.args.need.now in
    let old = c.args.needs.now.items in
    let new = c.push_columns.new.needs.items in
    let pushed : c.push.new.self.items ≡ old ++ need ∷ [] = c.in_ok-push.ensures.items ∙ ap (λ (n : Need). old ++ n ∷ []) c.in_ok-copy.ensures in
    on_ok_more c.push_columns.result ((n : Need) → Contains new n ↔ (Contains c.push.new.self.items n ⊎ IsColumnPrivilege items grantor object need.action n)) ((n : Need) → Contains new n ↔ (Contains old n ⊎ IsToBeGranted items grantor object (need ∷ []) n))
    (λ after. with_columns items grantor object old new need c.requires.on (none_if need.column c.if-is_none.ensures) (c.if-is_on_columns.ensures.0 refl) c.requires.can (λ n. subst (λ l. Contains new n ↔ (Contains l n ⊎ IsColumnPrivilege items grantor object need.action n)) pushed (after n)))
    c.push_columns.ensures.members

pub returns-clause-members : goal.returns-clause-members
returns-clause-members c n =
    let items = c.args.c.now.items in
    let grantor = c.args.grantor.now in
    let object = c.args.object.now in
    let need = c.args.need.now in
    let old = c.args.needs.now.items in
    let pushed : c.push.new.self.items ≡ old ++ need ∷ [] = c.in_ok-push.ensures.items ∙ ap (λ (m : Need). old ++ m ∷ []) c.in_ok-copy.ensures in
    subst (λ l. Contains l n ↔ (Contains old n ⊎ IsToBeGranted items grantor object (need ∷ []) n)) (sym pushed)
    (without_columns items grantor object old need
    (λ none columns. elim c.else-is_none.branch [
      | else-is_none-via-then-is_none+else-is_on_columns w ↦ both_ways _ w.if-is_on_columns.false (w.is_on_columns.ensures.1 columns)
      | else-is_none-via-else-is_none w ↦ some_if need.column c.is_none.result c.is_none.ensures w.if-is_none.false none
    ])
    c.requires.can n)
