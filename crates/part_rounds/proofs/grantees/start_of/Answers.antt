use Rattle.std.proofs.Common.{rules}
use Rattle.std.specs.Ordering.{is_lt}
use Rattle.std.proofs.lemmas.Fn.{always_returns_same}
use Rattle.part_rounds.specs.Grantees.{title_cmp}
use Rattle.part_rounds.proofs.TitleLaws.{options_parted}
use Rattle.part_rounds.proofs.grantees.start_of.Goals as goal

-- the closure compares with what is sought
pub returns : goal.returns
returns c = c.partition_point.ensures.partitioned (λ o. is_lt (title_cmp o.title c.args.title)) (always_returns_same _ _ _ (λ a r g called. (search rules, search rules))) (options_parted c.args.options.now c.args.title c.requires)
