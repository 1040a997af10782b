use Rattle.std.proofs.Common.{◌≡◌, take}
use Rattle.std.specs.List.{flat_map}
use Rattle.sql_tree.specs.declared.rights.Privilege.{Privilege}
use Rattle.grant_edit.specs.Named.{privilege_on}
use Rattle.grant_edit.proofs.named.listed.Given as goal

abbrev pub invariant-loop-privilege : goal.invariant-loop-privilege
invariant-loop-privilege l = l.needs.items ≡ flat_map (λ (p : Privilege). privilege_on l.object p.action p.columns) (take l.privilege-index l.all)
