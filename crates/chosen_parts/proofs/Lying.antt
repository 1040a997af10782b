-- Lists of parts that grow.
use Rattle.std.proofs.Common.{List, [], ◌∷◌, ◌++◌}
use Rattle.std.proofs.lemmas.List.Elements.{Contains-append_left, Contains-push}
use Rattle.cat_items.specs.declared.item.Item.{Item}
use Rattle.cat_items.specs.declared.ranges.Part.{Part}
use Rattle.cat_items.specs.Ranges.{IsIn}
use Rattle.chosen_parts.specs.Parts.{LiesIn}

pub lies_before : (parts : List Part) (part : Part) (x : Item) → LiesIn parts x → LiesIn (parts ++ part ∷ []) x
lies_before parts part x h = (h.0, Contains-append_left parts (part ∷ []) h.0 h.1, h.2)

pub lies_last : (parts : List Part) (part : Part) (x : Item) → IsIn part x → LiesIn (parts ++ part ∷ []) x
lies_last parts part x is = (part, Contains-push parts part, is)
