use Rattle.std.proofs.Common.{◌≡◌, ◌∙◌, sym}
use Rattle.std.specs.Prelude.{flat_map, ◌||◌}
use Rattle.std.specs.List.{list_any}
use Rattle.std.proofs.lemmas.List.Elements.{All-contains}
use Rattle.name_scopes.specs.Known.{column_in}
use Rattle.view_deps.specs.ByName.{IsWide}
use Rattle.view_deps.specs.Described.{columns_in, is_base_table, is_view}
use Rattle.view_deps.proofs.Sorts.{of_standing}
use Rattle.view_deps.proofs.catalogue.CatalogueNamesDictionary.sort_of.Goals as goal

pub returns-in-Some : goal.returns-in-Some
returns-in-Some c =
    let wide : IsWide c.args.self.now c.in-Some.wide.now =
    All-contains (IsWide c.args.self.now) c.as_slice.result.now c.in-Some.wide.now (rw (← c.self.view_is, c.as_slice.ensures) c.self.invariant) c.in-Some.ensures.among in
    let found : c.copied.result ≡ column_in c.args.column.now (flat_map (columns_in c.args.table.now) c.args.self.now) =
    c.copied.ensures ∙ (c.get.ensures.value ∙ rw (← c.in-Some.ensures.named) (wide c.args.column.now)) in
    found ∙ of_standing (list_any (is_view c.args.table.now) c.args.self.now || list_any (is_base_table c.args.table.now) c.args.self.now) c.args.column.now
    (flat_map (columns_in c.args.table.now) c.args.self.now) (sym c.is_table.ensures ∙ c.if-not-is_table.false)
