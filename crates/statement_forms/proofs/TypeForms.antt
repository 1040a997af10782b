-- The numbers of a data type that words spell are in their ranges.
use Rattle.std.proofs.Common.{ℕ, ◌≤◌, List, arith}
use Rattle.sql_names.specs.declared.sort.SqlType.{SqlType}
use Rattle.sql_words.specs.declared.word.Word.{Word}
use Rattle.sql_phrases.specs.TypeRules as types
use Rattle.cat_items.specs.Pieces.{IsType, ArePrecision}

-- from one bound to the other
abbrev IsBetween : ℕ → ℕ → ℕ → Type 0
IsBetween low high n = (low ≤ n) × (n ≤ high)

number-range : {low high n : ℕ} {ws rest : List Word} → types.SpellsNumber low high n ws rest → IsBetween low high n
number-range (types.number s digits low high) = (low, high)

module _ {m : ℕ} where
  bracketed-range : {low high n : ℕ} {ws rest : List Word} → types.SpellsBracketed m low high n ws rest → IsBetween low high n
  bracketed-range (types.bracketed lt l n r) = number-range n

  -- where it is left out too
  size-range : {without low high n : ℕ} {ws rest : List Word} → IsBetween low high without → types.SpellsSize m without low high n ws rest → IsBetween low high n
  size-range unsaid types.size_unsaid = unsaid
  size-range unsaid (types.size b) = bracketed-range b

  precision-range : {p s : ℕ} {ws rest : List Word} → types.SpellsPrecision m p s ws rest → ArePrecision p s
  precision-range types.precision_unsaid = (omega arith, omega arith, omega arith)
  precision-range (types.precision b) = let between = bracketed-range b in (between.0, between.1, omega arith)
  precision-range (types.with_scale lt l p c s r) = let between = number-range p in (between.0, between.1, (number-range s).1)

  pub type-form : {t : SqlType} {ws rest : List Word} → types.SpellsType m t ws rest → IsType t
  type-form (types.character w n) = size-range (omega arith, omega arith) n
  type-form (types.varchar w n) = bracketed-range n
  type-form (types.varying w v n) = bracketed-range n
  type-form (types.numeric w p) = precision-range p
  type-form (types.decimal w p) = precision-range p
  type-form (types.smallint w) = tt
  type-form (types.integer w) = tt
  type-form (types.int w) = tt
  type-form (types.bigint w) = tt
  type-form (types.boolean w) = tt
  type-form (types.date w) = tt
  type-form (types.time w n) = (size-range (omega arith, omega arith) n).1
  type-form (types.timestamp w n) = (size-range (omega arith, omega arith) n).1
