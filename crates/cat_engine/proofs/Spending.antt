-- What a text takes of look-ups, where its statement takes them by its edit.
use Rattle.std.proofs.Common.{◌≡◌, ℕ, List, Some, subst}
use Rattle.sql_tree.specs.declared.statement.Statement.{Statement}
use Rattle.cat_items.specs.declared.edit.Edit.{Edit}
use Rattle.cat_items.specs.declared.edit.Who.{Who}
use Rattle.catalogue_edits.specs.LookUps.{HasEdit, TakesFew}
use Rattle.cat_engine.specs.Contents.{Content}
use Rattle.cat_engine.specs.LookUps.{HasSessionEdit, HasTextEdit}
use Rattle.cat_engine.specs.Sessions.{who_of}
use Rattle.cat_engine.specs.WordRefusals.{Reads}
use Rattle.cat_engine.proofs.Settled.{reads_settled}

-- by whom the session's current connection is for
pub session_idle : (number : ℕ) (old : Content) (who : Who) (s : Statement) (before after : ℕ) → who_of old.sessions number ≡ Some who → (((edit : Edit) → ¬ (HasEdit old.catalogue who s edit)) → after ≡ before)
    → ((edit : Edit) → ¬ (HasSessionEdit number old s edit)) → after ≡ before
session_idle number old who s before after is idle none = idle (λ edit has. none edit (who, is, has))

pub session_few : (number : ℕ) (old : Content) (who : Who) (s : Statement) (before after : ℕ) → who_of old.sessions number ≡ Some who → ((edit : Edit) → HasEdit old.catalogue who s edit → TakesFew old.catalogue edit before after)
    → (edit : Edit) → HasSessionEdit number old s edit → TakesFew old.catalogue edit before after
session_few number old who s before after is few edit has =
    let same : has.0 ≡ who = let e = has.1 in cc in
    few edit (subst (λ w. HasEdit old.catalogue w s edit) same has.2)

-- by the statement that a text is
pub text_idle : (number : ℕ) (old : Content) (text : List ℕ) (s : Statement) (before after : ℕ) → Reads text s → (((edit : Edit) → ¬ (HasSessionEdit number old s edit)) → after ≡ before)
    → ((edit : Edit) → ¬ (HasTextEdit number old text edit)) → after ≡ before
text_idle number old text s before after reads idle none = idle (λ edit has. none edit (s, reads, has))

pub text_few : (number : ℕ) (old : Content) (text : List ℕ) (s : Statement) (before after : ℕ) → Reads text s → ((edit : Edit) → HasSessionEdit number old s edit → TakesFew old.catalogue edit before after)
    → (edit : Edit) → HasTextEdit number old text edit → TakesFew old.catalogue edit before after
text_few number old text s before after reads few edit has =
    let same : has.0 ≡ s = reads_settled text has.0 s has.1 reads in
    few edit (subst (λ (t : Statement). HasSessionEdit number old t edit) same has.2)
