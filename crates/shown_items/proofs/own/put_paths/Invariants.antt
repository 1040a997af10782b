use Rattle.std.proofs.Common.{take}
use Rattle.finite_chains.specs.Chains.{IsWithin}
use Rattle.shown_items.proofs.own.put_paths.Given as goal

-- the paths that were there, and those so far
abbrev pub invariant-loop-path : goal.invariant-loop-path
invariant-loop-path l = IsWithin l.initial.own.items l.own.items × IsWithin (take l.path-index l.paths) l.own.items
