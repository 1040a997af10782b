-- How many look-ups an edit takes of a suspect. Items that are relevant to it are `relevant` in number; it asks for `asked` topics, and depends on
-- `before` of them in the old catalogue and on `after` in the new.
use Rattle.std.specs.Prelude.{ℕ, ◌+◌, ◌*◌}

-- its node is found, and those of the topics that it stands under
abbrev pub seeding : ℕ
seeding = 4

-- each link by which it depends is read, and that it stands under topics, with the ends of these lists
abbrev pub spreading : (before : ℕ) → ℕ
spreading before = before + 6

-- the keys are read of it and of the topics that it stands under
abbrev pub reading : ℕ
reading = 3

-- each topic that it asks for is found, and its links end; of each item under it a link and the key are read, and an item stands under two at most
abbrev pub asking : (relevant asked : ℕ) → ℕ
asking relevant asked = 2 * asked + 4 * relevant

-- what goes is read with its links from both ends, and what comes is found with its topics
abbrev pub planning : (before after : ℕ) → ℕ
planning before after = (after + 8) + (before + 6) + 3 * (before + 2) + (before + 3)

-- `rights` are those that go for the rights on it that the system could grant
abbrev pub look_ups : (relevant asked before after rights : ℕ) → ℕ
look_ups relevant asked before after rights = seeding + spreading before + reading + asking relevant asked + rights + planning before after
