-- A try waits only where the request has to.
use Rattle.lease_laws.proofs.Words.{◌≡◌, FileRequest, HasToWait, IsSound, Outcome, Progress, Tried, ℕ}
use Rattle.lease_laws.proofs.Words.{tried, tried_for}
use Rattle.lease_laws.proofs.Words.{subst}
use Rattle.lease_laws.proofs.server.Blocked.{round_waits}
use Rattle.lease_laws.proofs.server.Breaks.{wants_met-sound}
use Rattle.lease_laws.proofs.server.EnoughTries.{Ends, EndsAfter, tries_settle}
use Rattle.lease_laws.proofs.server.Wants.{needs-fit}
use Rattle.lease_laws.proofs.server.cases.Tries.{any_rounds}

-- where it waits, the request has to wait
abbrev pub IsExcused : ℕ → FileRequest → Tried → Type 0
IsExcused client request tried = tried.outcome ≡ Outcome.Waits → HasToWait tried.progress.server client request

-- a try that ends within so many rounds
tried_for-excused : (rounds client : ℕ) (request : FileRequest) (progress : Progress) → IsSound progress.server
    → Ends rounds client request progress → IsExcused client request (tried_for rounds client request progress)
unfolding Ends
tried_for-excused rounds client request = any_rounds client request
    (λ rounds progress tried. IsSound progress.server → Ends rounds client request progress → IsExcused client request tried)
    (record {
      out = λ progress s ends. absurd ends;
      fails = λ rounds progress status is s ends never. absurd (cc);
      ready = λ rounds progress wants found ready s ends never. absurd (cc);
      waits = λ rounds progress wants needs wait s ends never. round_waits client request progress wants s
          (wants_met-sound wants progress s (needs-fit progress.server client request wants s needs.found)) needs.found wait;
      again = λ rounds progress wants tried needs goes rest s ends.
          rest (wants_met-sound wants progress s (needs-fit progress.server client request wants s needs.found))
          ((subst (EndsAfter (Ends rounds client request) request progress) needs.found ends) needs.unready goes);
    }) rounds

-- every try does
pub tried-waits : (client : ℕ) (request : FileRequest) (progress : Progress) → IsSound progress.server
    → (tried client request progress).outcome ≡ Outcome.Waits
    → HasToWait (tried client request progress).progress.server client request
tried-waits client request progress s = tried_for-excused 3 client request progress s (tries_settle client request progress)
