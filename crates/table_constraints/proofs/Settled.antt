-- The rules on types and keys tell one refusal each.
use Rattle.std.specs.Prelude.{List}
use Rattle.cat_items.specs.declared.edit.Refusal.TheVariants.{NoSuchKey, TypeMismatch}
use Rattle.cat_items.specs.declared.edit.Who.{Who}
use Rattle.cat_items.specs.declared.item.Item.{Item}
use Rattle.edit_rules.proofs.FirstLaws.{IsSettled}
use Rattle.statement_steps.proofs.Settled.{one_told}
use Rattle.table_parts.specs.declared.parts.Part.{Part}
use Rattle.table_names.specs.declared.named.NamedConstraint.{NamedConstraint}
use Rattle.table_work.specs.declared.work.Work.{Work}
use Rattle.table_constraints.specs.Rules.{no_such_key, type_mismatch}

pub types_settled : (c : List Item) (who : Who) (w : Work) (all : List Part) (named : List NamedConstraint) → IsSettled (type_mismatch c who w all named)
types_settled c who w all named = one_told _ TypeMismatch

pub keys_settled : (c : List Item) (who : Who) (w : Work) (named : List NamedConstraint) → IsSettled (no_such_key c who w named)
keys_settled c who w named = one_told _ NoSuchKey
