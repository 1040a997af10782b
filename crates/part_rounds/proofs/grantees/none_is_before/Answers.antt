use Rattle.std.proofs.Common.{◌≡◌, false, not, inl, inr, sym, ap, ◌∙◌}
use Rattle.std.proofs.lemmas.Bool.{cases_Bool, false≢true}
use Rattle.part_rounds.proofs.TitleLaws.{behind_from}
use Rattle.part_rounds.proofs.grantees.none_is_before.Goals as goal

pub returns-else-from-options : goal.returns-else-from-options
returns-else-from-options c =
    λ e.
    let off : c.is_before.result ≡ false =
    elim (cases_Bool c.is_before.result) [
      | inl on ↦ absurd (false≢true (sym (ap not on) ∙ e))
      | inr off ↦ off
    ] in
    behind_from c.args.options.now c.args.title c.requires c.args.from (λ x. sym off ∙ c.is_before.ensures x)
