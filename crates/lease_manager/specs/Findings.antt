-- What a look at a request comes to, and how a try of it ends, as the definitions see them.
use Rattle.std.specs.Prelude.{ℕ, Bool, Option, Some, None, List, if◌then◌else◌}
use Rattle.lease_state.specs.declared.status.Status.{Status}
use Rattle.lease_model.specs.server.Attempt as model
use Rattle.lease_model.specs.server.Attempt.{Tried, ended}
use Rattle.lease_model.specs.server.Findings as findings
use Rattle.lease_model.specs.server.Progress.{Progress}
use Rattle.lease_model.specs.server.Wants.{Want}
use Rattle.lease_manager.specs.declared.requests.attempt.Outcome as outcome
use Rattle.lease_manager.specs.declared.requests.finding.Finding as code

-- the request is refused, can be answered, or needs these leases to be broken first
pub data Look : Type 0 where
  Fails : (status : Status) → Look
  Ready : Look
  Needs : (wants : List Want) → Look

abbrev pub look_of : code.Finding → Look
look_of (code.TheVariants.Fails status) = Look.Fails status
look_of (code.TheVariants.Ready file) = Look.Ready
look_of (code.TheVariants.Needs wants) = Look.Needs wants.items

-- the file of a request that can be answered
abbrev pub file_found : code.Finding → Option ℕ
file_found (code.TheVariants.Ready file) = Some file.0
file_found found = None

-- what a finding of the rules comes to, where a request with these wants can be answered or can't
abbrev pub looked : (List Want → Bool) → findings.Finding → Look
looked is_ready (findings.Finding.Fails status) = Look.Fails status
looked is_ready (findings.Finding.Needs wants) = if is_ready wants then Look.Ready else Look.Needs wants

abbrev pub outcome_of : outcome.Outcome → model.Outcome
outcome_of (outcome.TheVariants.Refused status) = model.Outcome.Refused status
outcome_of outcome.TheVariants.Waits = model.Outcome.Waits
outcome_of (outcome.TheVariants.Ready file) = model.Outcome.Ready

-- the file of a request that is to be answered
abbrev pub file_ready : outcome.Outcome → Option ℕ
file_ready (outcome.TheVariants.Ready file) = Some file.0
file_ready how = None

-- a round that ended the try, or else the rounds that follow it
abbrev pub goes_on : Option outcome.Outcome → Progress → Tried → Tried
goes_on None progress again = again
goes_on (Some how) progress again = ended progress (outcome_of how)
