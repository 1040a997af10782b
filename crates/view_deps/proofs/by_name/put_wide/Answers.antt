use Rattle.std.proofs.Common.{◌≡◌, All, List, [], ◌∷◌, ◌++◌, subst, sym}
use Rattle.std.proofs.lemmas.List.Elements.{All-push}
use Rattle.std.proofs.lemmas.Result.{on_ok_weaker}
use Rattle.cat_items.specs.declared.item.Item.{Item}
use Rattle.view_deps.specs.ByName as spec
use Rattle.view_deps.specs.declared.by_name.Wide.{Wide}
use Rattle.view_deps.proofs.by_name.put_wide.Goals as goal

put_in : (items : List Item) (old new : List Wide) (wide : Wide) → All (spec.IsWide items) old → spec.IsWide items wide → new ≡ old ++ wide ∷ [] → All (spec.IsWide items) new
put_in items old new wide all one put = subst (All (spec.IsWide items)) (sym put) (All-push (spec.IsWide items) old wide all one)

pub returns : goal.returns
returns c =
    let wide : spec.IsWide c.args.c.now.items (record { table = c.in_ok-table.table; sorts = c.in_ok-sorts.sorts }) = subst (λ t. spec.AreSorts c.args.c.now.items t c.in_ok-sorts.sorts) (sym c.in_ok-table.ensures) c.in_ok-sorts.ensures in
    on_ok_weaker c.push.result (put_in c.args.c.now.items _ _ _ c.requires wide) c.push.ensures.ok
