-- How many replies are want of memory.
use Rattle.std.specs.Prelude.{Bool, true, false, ℕ, List, count_by}
use Rattle.cat_engine.specs.declared.reply.Reply.{Reply}
use Rattle.cat_engine.specs.declared.reply.Reply.TheVariants.{OutOfMemory}

abbrev pub is_out_of_memory : Reply → Bool
is_out_of_memory OutOfMemory = true
is_out_of_memory reply = false

abbrev pub missed : List Reply → ℕ
missed replies = count_by is_out_of_memory replies
