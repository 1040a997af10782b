use Rattle.std.proofs.Common.{refl, inl}
use Rattle.std.proofs.lemmas.Bool.{false≢true}
use Rattle.cat_items.specs.declared.edit.Refusal.TheVariants.{UnknownName}
use Rattle.edit_rules.proofs.FirstLaws.{passes_one}
use Rattle.edit_rules.proofs.TestLists.{each_fails_at, each_next, each_pass_all}
use Rattle.table_elements.specs.Names.{unknown_among}
use Rattle.table_elements.proofs.names.test_among.Goals as goal

pub returns-then-not-has_column_called : goal.returns-then-not-has_column_called
returns-then-not-has_column_called c =
    let test = unknown_among c.args.columns.now c.args.table.now in (
      each_fails_at test c.args.names.now c.as_slice-name-items.result.now c.loop-name.name-index c.as_slice-name-items.ensures c.name-item.result (UnknownName c.three-path.result) c.loop-name-test.true c.name-item.is c.loop-name.invariant.before
          (rw (c.three-path.ensures, c.in_ok-copy.ensures, c.in_ok-copy-2.ensures, c.in_ok-copy-3.ensures) (inl ((λ called. false≢true (c.if-not-has_column_called.ensures.1 called)), refl))),
      tt,
    )

pub loop-name-preserved : goal.loop-name-preserved
loop-name-preserved c =
    let test = unknown_among c.args.columns.now c.args.table.now in record {
      before = each_next test c.args.names.now c.as_slice-name-items.result.now c.loop-name.name-index c.as_slice-name-items.ensures c.name-item.result c.loop-name-test.true c.name-item.is c.loop-name.invariant.before
          (passes_one (test c.name-item.result) (λ refusal r. r.0 (c.if-not-has_column_called.ensures.0 refl)));
    }

pub returns : goal.returns
returns c = (each_pass_all (unknown_among c.args.columns.now c.args.table.now) c.args.names.now c.as_slice-name-items.result.now c.loop-name.name-index c.as_slice-name-items.ensures c.loop-name-test.false c.loop-name.invariant.before, tt)
