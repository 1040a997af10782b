-- Aggregates and GROUP BY: where an aggregate may stand, and what stands outside of aggregates.
use Rattle.std.specs.Prelude.{ℕ, ◌-◌, nat_lt, Bool, true, false, not, ◌&&◌, ◌||◌, ◌==◌, if◌then◌else◌, List, [], ◌∷◌, ◌++◌, Option, Some, None, bytes_eq}
use Rattle.sql_names.specs.declared.column.Reference.{Reference}
use Rattle.sql_names.specs.declared.column.Reference.TheVariants as references
use Rattle.query_types.specs.declared.aggregates.Bare.{Bare}
use Rattle.query_types.specs.declared.aggregates.Grouping.{Grouping}

abbrev pub nothing : Grouping
nothing = record { bare = []; own = false; some = false; right = true }

abbrev pub both : Grouping → Grouping → Grouping
both a b = record { bare = a.bare ++ b.bare; own = a.own || b.own; some = a.some || b.some; right = a.right && b.right }

-- parts in order, behind what was before them
abbrev pub join_all : Grouping → List Grouping → Grouping
join_all before [] = before
join_all before (a ∷ as') = join_all (both before a) as'

abbrev pub perhaps : Option Grouping → Grouping
perhaps None = nothing
perhaps (Some a) = a

abbrev pub referred : Reference → Grouping
referred (references.Cell up at q c) = record { bare = record { up = up; at = at; name = c } ∷ []; own = false; some = false; right = true }
referred reference = nothing

-- no aggregate inside another one, at any depth
abbrev pub aggregated : Grouping → Grouping
aggregated a = record { bare = []; own = true; some = true; right = a.right && not a.some }

-- what is outside of a SELECT sees of its references
abbrev pub outer : List Bare → List Bare
outer [] = []
outer (b ∷ bs) = if nat_lt 0 b.up then record { up = b.up - 1; at = b.at; name = b.name } ∷ outer bs else outer bs

abbrev pub is_group : ℕ → List ℕ → Reference → Bool
is_group at c (references.Cell up place q name) = up == 0 && at == place && bytes_eq c name
is_group at c reference = false

abbrev pub any_group : ℕ → List ℕ → List Reference → Bool
any_group at c [] = false
any_group at c (g ∷ gs) = if is_group at c g then true else any_group at c gs

-- a column of the SELECT's own FROM is in GROUP BY
abbrev pub is_grouped : List Reference → Bare → Bool
is_grouped groups b = if b.up == 0 then any_group b.at b.name groups else true

abbrev pub all_grouped : List Reference → List Bare → Bool
all_grouped groups [] = true
all_grouped groups (b ∷ bs) = is_grouped groups b && all_grouped groups bs

abbrev pub is_own : Reference → Bool
is_own (references.Cell up at q c) = up == 0
is_own reference = false

abbrev pub all_own : List Reference → Bool
all_own [] = true
all_own (g ∷ gs) = is_own g && all_own gs

abbrev pub has_groups : List Reference → Bool
has_groups [] = false
has_groups (g ∷ gs) = true

-- a SELECT: aggregates stand in its items alone; GROUP BY names its own columns
abbrev pub settled : Grouping → Grouping → Grouping → List Reference → Grouping
settled from list filter groups = record {
  bare = (outer from.bare ++ outer list.bare) ++ outer filter.bare;
  own = false;
  some = from.some || list.some || filter.some;
  right = (from.right && list.right && filter.right && not from.own && not filter.own) && all_own groups
      && (not (list.own || has_groups groups) || all_grouped groups list.bare);
}
