use Rattle.std.proofs.Common.{◌≡◌, length}
use Rattle.capture_walk.specs.Files.{behind_backslash, share_of}
use Rattle.capture_walk.proofs.files.share_of.Given as goal

-- what is found so far, and what is left, give the whole
abbrev pub invariant-loop-rest : goal.invariant-loop-rest
invariant-loop-rest l = behind_backslash l.share l.rest ≡ share_of l.path

abbrev pub decreases-loop-rest : goal.decreases-loop-rest
decreases-loop-rest l = length l.rest
