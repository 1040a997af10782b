-- What is selected of one more row.
use Rattle.std.proofs.Common.{◌≡◌, sym, ap, ◌∙◌, ℕ, ◌+◌, ◌<◌, List, [], ◌∷◌, ◌++◌, length, get_or, take, map, filter, add-one}
use Rattle.std.proofs.Math.Seq.{take-suc}
use Rattle.std.proofs.lemmas.List.{map-append}
use Rattle.std.proofs.lemmas.List.Elements.{filter-append}
use Rattle.sql_tree.specs.declared.statement.InfoQuery.{InfoQuery}
use Rattle.schema_tables.specs.Cells.{Row}
use Rattle.information_schema.specs.Queries.{selected, passes_all, chosen}
use Rattle.information_schema.specs.Views.{Column}

module _ (columns : List Column) (q : InfoQuery) where
  of_both : (xs ys : List Row) → selected columns q (xs ++ ys) ≡ selected columns q xs ++ selected columns q ys
  of_both xs ys = ap (map (chosen columns q.columns)) (filter-append (passes_all columns q.tests) xs ys) ∙ map-append (chosen columns q.columns) (filter (passes_all columns q.tests) xs) (filter (passes_all columns q.tests) ys)

  pub selected_more : (rows : List Row) (i : ℕ) (x : Row) (old new : List Row) → i < length rows → x ≡ get_or rows i x → old ≡ selected columns q (take i rows) → new ≡ old ++ selected columns q (x ∷ []) → new ≡ selected columns q (take (i + 1) rows)
  selected_more rows i x old new within is before e =
      let front : take (i + 1) rows ≡ take i rows ++ (get_or rows i x ∷ []) = rw add-one (take-suc rows i x within) in
      let all : selected columns q (take (i + 1) rows) ≡ selected columns q (take i rows) ++ selected columns q (x ∷ []) =
      ap (selected columns q) front ∙ of_both (take i rows) (get_or rows i x ∷ []) ∙ ap (λ y. selected columns q (take i rows) ++ selected columns q (y ∷ [])) (sym is) in
      e ∙ ap (λ l. l ++ selected columns q (x ∷ [])) before ∙ sym all
