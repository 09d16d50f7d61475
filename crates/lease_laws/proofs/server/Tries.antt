-- A try keeps a server's laws, and where it ends ready a look at the request finds nothing left to do.
use Rattle.lease_laws.proofs.Words.{◌≡◌, FileRequest, Finding, IsSound, List, Outcome, Progress, Tried, Want, ℕ}
use Rattle.lease_laws.proofs.Words.{finding, is_ready, tried_for, true}
use Rattle.lease_laws.proofs.server.Breaks.{wants_met-sound}
use Rattle.lease_laws.proofs.server.Wants.{needs-fit}
use Rattle.lease_laws.proofs.server.cases.Tries.{any_rounds}

-- a look at the request finds wants that leave it ready
pub record IsFoundReady (client : ℕ) (request : FileRequest) (progress : Progress) : Type 0 where
  pub wants : List Want
  pub found : finding progress.server client request ≡ Finding.Needs wants
  pub ready : is_ready request progress.server.leases wants ≡ true

-- what is known of a try
pub record IsGoodTry (client : ℕ) (request : FileRequest) (tried : Tried) : Type 0 where
  pub sound : IsSound tried.progress.server
  pub found_ready : tried.outcome ≡ Outcome.Ready → IsFoundReady client request tried.progress

-- a try of so many rounds
pub tried_for-good : (rounds client : ℕ) (request : FileRequest) (progress : Progress) → IsSound progress.server
    → IsGoodTry client request (tried_for rounds client request progress)
tried_for-good rounds client request = any_rounds client request
    (λ rounds progress tried. IsSound progress.server → IsGoodTry client request tried) (record {
      out = λ progress s. record { sound = s; found_ready = λ same. absurd (cc) };
      fails = λ rounds progress status is s. record { sound = s; found_ready = λ same. absurd (cc) };
      ready = λ rounds progress wants found ready s.
          record { sound = s; found_ready = λ same. record { wants = wants; found = found; ready = ready } };
      waits = λ rounds progress wants needs wait s. record {
        sound = wants_met-sound wants progress s (needs-fit progress.server client request wants s needs.found);
        found_ready = λ same. absurd (cc);
      };
      again = λ rounds progress wants tried needs goes rest s.
          rest (wants_met-sound wants progress s (needs-fit progress.server client request wants s needs.found));
    }) rounds
