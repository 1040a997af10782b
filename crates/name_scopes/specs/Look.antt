-- Which table of which FROM a name fits.
use Rattle.std.specs.Prelude.{ℕ, ◌+◌, Bool, true, false, if◌then◌else◌, List, [], ◌∷◌, drop, is_some, bytes_eq}
use Rattle.name_scopes.specs.declared.frames.Tab.{Tab}
use Rattle.name_scopes.specs.declared.frames.Frame.{Frame}
use Rattle.name_scopes.specs.declared.look.By.{By}
use Rattle.name_scopes.specs.declared.look.By.TheVariants as by
use Rattle.name_scopes.specs.declared.look.Fitting.{Fitting}
use Rattle.name_scopes.specs.declared.look.Fitting.TheVariants as fitted
use Rattle.name_scopes.specs.declared.look.Found.{Found}
use Rattle.name_scopes.specs.declared.look.Found.TheVariants as found
use Rattle.sql_names.specs.NameBytes.{NameBytes}
use Rattle.name_scopes.specs.Known.{Known, sort_of}

-- a table that has a column of this name, or is known by it
abbrev pub fits : Known → By → NameBytes → Tab → Bool
fits k by.Column n t = is_some (sort_of k t.table n)
fits k by.Known n t = bytes_eq t.known n

abbrev pub any_fits : Known → By → NameBytes → List Tab → Bool
any_fits k how n [] = false
any_fits k how n (t ∷ ts) = if fits k how n t then true else any_fits k how n ts

abbrev pub fitting_from : Known → By → NameBytes → ℕ → List Tab → Fitting
fitting_from k how n at [] = fitted.Nowhere
fitting_from k how n at (t ∷ ts) =
    if fits k how n t then (if any_fits k how n ts then fitted.Several else fitted.One at) else fitting_from k how n (at + 1) ts

unfoldable pub fitting : Known → By → NameBytes → Frame → Fitting
fitting k how n f = fitting_from k how n f.skip (drop f.skip f.tables)

abbrev pub or_outer : ℕ → Fitting → Found → Found
or_outer up fitted.Nowhere outer = outer
or_outer up (fitted.One at) outer = found.At up at
or_outer up fitted.Several outer = found.Twice

-- in the nearest FROM where a table fits, counted from `up`
abbrev pub seek : Known → By → NameBytes → ℕ → List Frame → Found
seek k how n up [] = found.Missing
seek k how n up (f ∷ fs) = or_outer up (fitting k how n f) (seek k how n (up + 1) fs)
