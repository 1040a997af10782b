use Rattle.std.proofs.Common.{◌≡◌, true, false}
use Rattle.table_names.proofs.PassedLemmas.{target_passed}
use Rattle.table_names.proofs.given.test_target.Goals as goal

pub returns : goal.returns
returns c = target_passed c.args.c.now.items c.args.made.now c.args.table.now c.test_base_table.result (λ same. let both : false ≡ true = c.if-same.ensures.1 same in cc) c.test_base_table.ensures
