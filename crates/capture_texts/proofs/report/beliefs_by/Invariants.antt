use Rattle.std.proofs.Common.{◌≡◌, map, take}
use Rattle.std.specs.List.{AllZip}
use Rattle.capture_texts.specs.Captures.{moment_kept}
use Rattle.capture_texts.specs.Reports.{IsBelief, level_believed}
use Rattle.capture_texts.proofs.report.beliefs_by.Given as goal

abbrev pub invariant-loop-index : goal.invariant-loop-index
invariant-loop-index l = record {
  each : AllZip (IsBelief (map moment_kept l.kept) l.chains) (take l.index l.steps) l.beliefs.items;
  levels : map level_believed l.beliefs.items ≡ take l.index l.levels.items;
}
