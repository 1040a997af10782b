-- One turn of the walk over scopes.
use Rattle.std.proofs.Common.{◌≡◌, ℕ, ◌+◌, List, drop, Some, refl}
use Rattle.std.specs.Prelude.{slice_get}
use Rattle.name_scopes.specs.declared.frames.Frame.{Frame}
use Rattle.name_scopes.specs.declared.look.By.{By}
use Rattle.name_scopes.specs.declared.look.Fitting.TheVariants.{Nowhere}
use Rattle.sql_names.specs.NameBytes.{NameBytes}
use Rattle.name_scopes.specs.Known.{Known}
use Rattle.name_scopes.specs.Look.{fitting, seek}
use Rattle.name_scopes.proofs.Turns.{drop_at}

pub seek_passes : (k : Known) (how : By) (n : NameBytes) (s : List Frame) (up : ℕ) (f : Frame) → slice_get s up ≡ Some f → fitting k how n f ≡ Nowhere → seek k how n up (drop up s) ≡ seek k how n (up + 1) (drop (up + 1) s)
seek_passes k how n s up f here none = rw (drop_at s up f here, none) refl
