use Rattle.std.proofs.Common.{◌≡◌, List, [], ◌∷◌, ◌++◌, ap, ◌∙◌}
use Rattle.std.proofs.lemmas.List.{append-nil}
use Rattle.sql_tree.specs.declared.table.ColumnDefinition.{ColumnDefinition}
use Rattle.sql_tree.specs.declared.table.TableElement.{TableElement}
use Rattle.sql_tree.specs.declared.table.TableElement.TheVariants as elements
use Rattle.table_needs.proofs.NeedLemmas.{if_ok}
use Rattle.table_parts.specs.declared.parts.Part.{Part}
use Rattle.table_parts.specs.Parts as parts
use Rattle.table_additions.proofs.altering.column_parts.Goals as goal

pub returns : goal.returns
returns c =
    let d = c.args.definition.now in
    let only : c.push.new.self ≡ elements.Column d ∷ [] =
    c.in_ok-push.ensures.ok ∙ ap (λ (l : List TableElement). l ++ elements.Column c.in_ok-copy.field-0 ∷ []) c.new-elements.ensures ∙ ap (λ (x : ColumnDefinition). elements.Column x ∷ []) c.in_ok-copy.ensures in
    if_ok c.parts_of.result (λ (all : List Part). all ≡ parts.parts_in c.push.new.self) (λ (all : List Part). all ≡ parts.column_parts d) (λ all is. is ∙ ap parts.parts_in only ∙ append-nil (parts.column_parts d)) c.parts_of.ensures
