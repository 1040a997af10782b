-- No statement on connections changes the catalogue, and one of users alone has no tables.
use Rattle.std.proofs.Common.{◌≡◌, ◌↔◌, ℕ, List, None, Some, Result, Ok, Err, ap, subst, sym}
use Rattle.std.specs.List.{Contains}
use Rattle.sql_names.specs.NameBytes.{NameBytes}
use Rattle.cat_items.specs.declared.edit.EditError.{EditError}
use Rattle.cat_items.specs.declared.edit.EditError.TheVariants.{Refused, Memory}
use Rattle.cat_items.specs.declared.edit.Refusal.{Refusal}
use Rattle.cat_items.specs.declared.item.Item.{Item}
use Rattle.cat_items.specs.Catalogues.{IsUserOf}
use Rattle.new_catalogues.specs.Width.{table_name}
use Rattle.edit_rules.specs.First.{Tested}
use Rattle.catalogue_changes.specs.Widths.{IsNarrow}
use Rattle.cat_engine.specs.Contents.{Content}
use Rattle.cat_engine.specs.Effects.{ChangesSession}
use Rattle.cat_engine.specs.declared.outcome.Outcome.{Outcome}
use Rattle.cat_engine.specs.declared.session.Session.{Session}

pub same_catalogue : (Told : Outcome → Type 0) (tests : List (Refusal → Type 0)) (number : ℕ) (change : Session → Session) (old new : Content) (result : Result Outcome EditError)
    → Tested tests (λ outcome. ChangesSession number change old new × Told outcome) (new ≡ old) result → new.catalogue ≡ old.catalogue
same_catalogue Told tests number change old new (Ok outcome) h = ap (λ (c : Content). c.catalogue) h.1.0
same_catalogue Told tests number change old new (Err (Refused r)) h = ap (λ (c : Content). c.catalogue) h.1
same_catalogue Told tests number change old new (Err Memory) h = ap (λ (c : Content). c.catalogue) h

pub still_narrow : (old new : List Item) (most : ℕ) → new ≡ old → IsNarrow old most → IsNarrow new most
still_narrow old new most same = subst (λ c. IsNarrow c most) (sym same)

pub opening_narrow : (users : List NameBytes) (c : List Item) (most : ℕ) → ((x : Item) → Contains c x ↔ IsUserOf users x) → IsNarrow c most
opening_narrow users c most members count x wide =
    let user = (members x).0 wide.within in
    absurd (let none : None ≡ Some wide.table = subst (λ y. table_name y ≡ Some wide.table) user.2 wide.named in cc)
