-- The limits of a program.
use Rattle.std.specs.Prelude.{◌≤◌, All, length}
use Rattle.star_program.specs.{Code.code_size, Code.scan_depth, declared.group.GroupDecl.GroupDecl, declared.program.Parts.Parts}

-- a group has at most 6 keys and 8 aggregates
pub record IsSmall (group : GroupDecl) : Type 0 where
  pub keys : length group.keys ≤ 6
  pub aggregates : length group.aggregates ≤ 8

pub record IsWithinLimits (parts : Parts) : Type 0 where
  pub registers : parts.registers ≤ 4096
  pub groups : length parts.groups ≤ 8
  pub each_group : All IsSmall parts.groups
  pub instructions : code_size parts.body ≤ 4096
  pub scans : scan_depth parts.body ≤ 3
  pub shows : length parts.shows ≤ 16
  pub sorts : length parts.sorts ≤ 16
