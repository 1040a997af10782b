use Rattle.std.proofs.Common.{Option, subst}
use Rattle.std.specs.List.{Contains}
use Rattle.std.specs.declared.alloc.Global.{Global}
use Rattle.std.specs.Prelude.{Vec}
use Rattle.finite_chains.proofs.Members.{Contains-nil}
use Rattle.sql_names.specs.NameBytes.{PathNames}
use Rattle.own_places.specs.Places.{listed}
use Rattle.own_places.proofs.Listed.{keeps_by}
use Rattle.own_places.proofs.places.OwnPlaces.begin.Goals as goal

pub returns-clause-kept : goal.returns-clause-kept
returns-clause-kept c = keeps_by c.args.self.now (record { lists = c.insert.new.self }) c.args.auth.now _ (rw c.in_ok-copy-2.ensures at c.in_ok-insert.ensures.updates)
    (λ on h. absurd (Contains-nil on (subst (λ (l : Option (Vec PathNames Global)). Contains (listed l) on) c.requires h)))
