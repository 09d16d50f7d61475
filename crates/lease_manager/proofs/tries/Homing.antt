-- A create that is ready has no open under its key on another file, and a write that is ready ends within the limit of a file.
use Rattle.lease_laws.proofs.Words.{◌∙◌, ◌≡◌, FileRequest, Finding, Key, LeaseOf, List, None, Open, Option, Outcome, Progress}
use Rattle.lease_laws.proofs.Words.{Server, Some, Tried, Want, ℕ, ap, arith, asked_key, ended, false, finding, has_key}
use Rattle.lease_laws.proofs.Words.{is_leased_elsewhere, key_under, list_any, own_key, subst, sym, tried, tried_for}
use Rattle.lease_laws.proofs.server.Tries.{IsFoundReady}
use Rattle.lease_laws.proofs.server.cases.Findings.{any_needs}
use Rattle.lease_laws.proofs.server.cases.Tries.{any_rounds}
use Rattle.lease_manager.specs.Kept.{CanBeAnswered, IsCreateAtHome}
use Rattle.lease_manager.specs.Looks.{is_elsewhere}
use Rattle.lease_manager.specs.OneFile.{IsAbout}
use Rattle.lease_manager.specs.Summaries.{IsAtHome, RecordFits}
use Rattle.lease_manager.specs.declared.tables.summaries.LeaseRecord.{LeaseRecord}

-- where a try ends ready, a look at the request finds it so
abbrev EndsReady : ℕ → FileRequest → Tried → Type 0
EndsReady client request done = done.outcome ≡ Outcome.Ready → IsFoundReady client request done.progress

tried_ready : (rounds client : ℕ) (request : FileRequest) (progress : Progress)
    → EndsReady client request (tried_for rounds client request progress)
tried_ready rounds client request = any_rounds client request (λ rounds progress done. EndsReady client request done) (record {
  out = λ progress same. absurd (cc);
  fails = λ rounds progress status is same. absurd (cc);
  ready = λ rounds progress wants found ready same. record { wants = wants; found = found; ready = ready };
  waits = λ rounds progress wants needs wait same. absurd (cc);
  again = λ rounds progress wants done needs goes rest. rest;
}) rounds

at_home : (server : Server) (client : ℕ) (request : FileRequest) (wants : List Want)
    → finding server client request ≡ Finding.Needs wants → CanBeAnswered client request server
at_home server client = any_needs server client (λ request wants. CanBeAnswered client request server) (record {
  conflicts = λ file access share ask at clash some.
      subst (λ again. IsCreateAtHome (own_key client ask.lease) file again server) (sym at.anew) at.home;
  enters = λ file access share ask at calm.
      subst (λ again. IsCreateAtHome (own_key client ask.lease) file again server) (sym at.anew) at.home;
  awaited = λ file access share ask file_id there again some.
      subst (λ again. IsCreateAtHome (own_key client ask.lease) file again server) (sym again) tt;
  reads = λ file_id one own may. tt;
  writes = λ file_id number patch one own may fits. fits;
  closes = λ file_id one own. tt;
})

pub ready_at_home : (client : ℕ) (request : FileRequest) (before after : Progress) (outcome : Outcome)
    → ended after outcome ≡ tried client request before → outcome ≡ Outcome.Ready → CanBeAnswered client request after.server
ready_at_home client request before after outcome end ready =
    let is : (tried client request before).outcome ≡ Outcome.Ready = ap (λ (t : Tried). t.outcome) (sym end) ∙ ready in
    let looked = tried_ready 3 client request before is in
    subst (λ (p : Progress). CanBeAnswered client request p.server) (ap (λ (t : Tried). t.progress) (sym end))
    (at_home (tried client request before).progress.server client request looked.wants looked.found)

pub elsewhere_same : (a b : Server) (own : Option Key) (file : ℕ) → a.opens ≡ b.opens
    → is_leased_elsewhere a own file ≡ is_leased_elsewhere b own file
elsewhere_same a b own file same = grind arith

-- what is held has no part in it
pub home_kept : (a b : Server) (client : ℕ) (request : FileRequest) → a.opens ≡ b.opens
    → CanBeAnswered client request a → CanBeAnswered client request b
home_kept a b client (FileRequest.Create file access share None) same home = tt
home_kept a b client (FileRequest.Create file access share (Some ask)) same home = contexts ask.reconnect home
  where
    contexts : (again : Option ℕ) → IsCreateAtHome (own_key client ask.lease) file again a
        → IsCreateAtHome (own_key client ask.lease) file again b
    contexts None h = sym (elsewhere_same a b (own_key client ask.lease) file same) ∙ h
    contexts (Some file_id) h = tt
home_kept a b client (FileRequest.Read file_id) same home = tt
home_kept a b client (FileRequest.Write file_id number patch) same home = home
home_kept a b client (FileRequest.Close file_id) same home = tt

pub about_kept : (a b : Server) (file client : ℕ) (request : FileRequest) → a.opens ≡ b.opens
    → IsAbout a file client request → IsAbout b file client request
about_kept a b file client (FileRequest.Create other access share contexts) same about = about
about_kept a b file client (FileRequest.Read file_id) same about = grind arith
about_kept a b file client (FileRequest.Write file_id number patch) same about = grind arith
about_kept a b file client (FileRequest.Close file_id) same about = grind arith

pub home_asked : (server : Server) (client file : ℕ) (asked : Option LeaseOf) (bytes : Option (List ℕ)) → bytes ≡ asked_key asked
    → is_leased_elsewhere server (own_key client asked) file ≡ false → IsAtHome (key_under client bytes) file server.opens
home_asked server client file asked bytes same home = grind arith

-- ---- the file of a key

pub home_known : (key : Key) (opens : List Open) (found : Option LeaseRecord) (known : LeaseRecord)
    → found ≡ Some known → RecordFits key opens found → list_any (is_elsewhere key known.file.0) opens ≡ false
home_known key opens found known is fits = (subst (RecordFits key opens) is fits).one_file

pub home_none : (key : Key) (opens : List Open) (found : Option LeaseRecord)
    → found ≡ None → RecordFits key opens found → list_any (has_key key) opens ≡ false
home_none key opens found is fits = subst (RecordFits key opens) is fits
