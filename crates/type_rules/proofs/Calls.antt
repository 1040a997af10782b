-- A routine that is told by its parameters and by what it returns.
use Rattle.std.proofs.Common.{◌≡◌, List, Option, Some, None, map}
use Rattle.std.specs.Prelude.{option_map}
use Rattle.sql_names.specs.declared.sort.Param.{Param}
use Rattle.sql_names.specs.declared.sort.SqlType.{SqlType}
use Rattle.name_scopes.specs.declared.scope.Signature.{Signature}
use Rattle.type_rules.specs.TypeParts.{called, returned}

pub called_parts : (f : Option Signature) (params : List Param) (returns : Option SqlType) (ts : Option (List SqlType)) → option_map (λ (s : Signature). s.params) f ≡ Some params → option_map (λ (s : Signature). s.returns) f ≡ Some returns → called f ts ≡ returned (map (λ (p : Param). p.sort) params) returns ts
called_parts None params returns ts p r = cc
called_parts (Some f) params returns ts p r = cc
