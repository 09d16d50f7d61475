use Rattle.clap.specs.Words.{app_of}
use Rattle.leasecheck.proofs.Words.{parses}
use Rattle.leasecheck.proofs.command_line.parse.Goals as goal

pub returns : goal.returns
returns c =
    let is = c.in_ok-program.ensures in
    parses (app_of c.in_ok-program.field-0) is.0 _ c.try_get_matches_from.result is.1 c.try_get_matches_from.ensures.matches
    c.try_get_matches_from.ensures.kinds
