-- Numbers whose links lead to nothing but given ones.
use Rattle.std.specs.Prelude.{◌+◌, ◌&&◌, ℕ, Bool, nat_eq, List}
use Rattle.std.specs.List.{count_by, list_all, list_any}
use Rattle.item_index.specs.Graphs.{Graph}
use Rattle.item_index.specs.Shelves.{list_at}

abbrev pub is_among : List ℕ → ℕ → Bool
is_among numbers n = list_any (nat_eq n) numbers

module _ {K : Type 0} (goes : ℕ → Bool) where
  -- each number that n is linked with goes
  abbrev pub has_no_other : Graph K → ℕ → Bool
  has_no_other g n = list_all goes (list_at g.rests n) && list_all goes (list_at g.dependents n)

  -- what it costs to tell: each link with a number that goes, and either way the first other one or the end
  abbrev pub links_cost : Graph K → ℕ → ℕ
  links_cost g n = 2 + count_by goes (list_at g.rests n) + count_by goes (list_at g.dependents n)
