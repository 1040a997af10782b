use Rattle.std.proofs.Common.{sym, ◌∙◌}
use Rattle.std.specs.Option.{option_copied}
use Rattle.std.proofs.lemmas.Bool.{false≢true}
use Rattle.table_work.proofs.MeantKeys.{found_is, means_all, means_kept, means_new, next_key, none_is}
use Rattle.table_work.proofs.meant.meant_key.Goals as goal
use Rattle.table_work.proofs.meant.meant_key.Goals.{then-fits_columns+then-is_before, else-fits_columns, else-fits_columns-via-then-fits_columns+else-is_before, else-fits_columns-via-else-fits_columns}

pub loop-key-preserved : goal.loop-key-preserved
loop-key-preserved c =
    let is = next_key c.args.keys.now c.loop-key.key-index c.key-item.result c.get-key.result.now (rw c.as_slice-key-items.ensures at c.key-item.is) c.get-key.ensures in
    let within = rw c.as_slice-key-items.ensures at c.loop-key-test.true in
    record {
      means = elim c.if-fits_columns.branch [
        | then-fits_columns+then-is_before w ↦ rw w.first-is (means_new c.args.columns.now c.args.keys.now c.loop-key.key-index c.get-key.result.now
            (option_copied c.loop-key.first) within is c.loop-key.invariant.means
            (c.fits_columns.ensures.0 w.if-fits_columns.true) (w.is_before.ensures.0 w.if-is_before.true))
        | else-fits_columns w ↦ rw w.first-is (elim w.else-fits_columns.branch [
          | else-fits_columns-via-then-fits_columns+else-is_before v ↦ means_kept c.args.columns.now c.args.keys.now c.loop-key.key-index c.get-key.result.now
              (option_copied c.loop-key.first) within is c.loop-key.invariant.means
              (λ fits before. false≢true (sym v.if-is_before.false ∙ v.is_before.ensures.1 before))
          | else-fits_columns-via-else-fits_columns v ↦ means_kept c.args.columns.now c.args.keys.now c.loop-key.key-index c.get-key.result.now (option_copied c.loop-key.first) within
              is c.loop-key.invariant.means
              (λ fits before. false≢true (sym v.if-fits_columns.false ∙ c.fits_columns.ensures.1 fits))
        ])
      ];
    }

pub returns-clause-found : goal.returns-clause-found
returns-clause-found c =
    found_is c.args.keys.now c.args.columns.now (option_copied c.loop-key.first) (means_all c.args.columns.now c.args.keys.now c.loop-key.key-index (option_copied c.loop-key.first) (rw c.as_slice-key-items.ensures at c.loop-key-test.false) c.loop-key.invariant.means)

pub returns-clause-none : goal.returns-clause-none
returns-clause-none c =
    none_is c.args.keys.now c.args.columns.now (option_copied c.loop-key.first) (means_all c.args.columns.now c.args.keys.now c.loop-key.key-index (option_copied c.loop-key.first) (rw c.as_slice-key-items.ensures at c.loop-key-test.false) c.loop-key.invariant.means)
