-- The script of a sample.
use Rattle.std.specs.Prelude.{ℕ, zero, suc, ◌*◌, ◌%◌, ◌==◌, List, [], ◌++◌, flat_map, length, slice_index_or, take}
use Rattle.sample_texts.specs.Draws.{drawn, later}
use Rattle.sample_texts.specs.Statements.{T, opening, round_texts}
use Rattle.sample_texts.specs.declared.round.Round.{Round}

-- the users that take part
abbrev pub players : List T → List T
players users = take 8 users

abbrev pub player : List T → ℕ → T
player users i = slice_index_or users i []

-- of four numbers behind x, the first two say which users, the last two whether the grant is taken back and the table dropped; owners take turns
abbrev pub round_of : List T → ℕ → ℕ → Round
round_of users number x = record {
  number = number;
  owner = player users (number % length users);
  grantee = player users (drawn (length users) (later 1 x));
  reader = player users (drawn (length users) (later 2 x));
  revoked = drawn 4 (later 3 x) == 0;
  dropped = drawn 8 (later 4 x) == 0;
}

-- the rounds 1 to k
abbrev pub rounds : List T → ℕ → ℕ → List T
rounds users seed zero = []
rounds users seed (suc k) = rounds users seed k ++ round_texts (round_of users (suc k) (later (4 * k) seed))

abbrev pub sample_texts : List T → ℕ → ℕ → List T
sample_texts users seed count = flat_map opening (players users) ++ rounds (players users) seed count
