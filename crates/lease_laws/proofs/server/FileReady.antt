-- What is known of the file of a request that is ready, and of the open that it is to have again.
use Rattle.lease_laws.proofs.Words.{◌≡◌, Among, CreateAsk, FileRequest, Key}
use Rattle.std.proofs.Common.{arith}
use Rattle.lease_laws.proofs.Words.{None, Open, Option, Progress, Server, Some, ℕ}
use Rattle.lease_laws.proofs.Words.{awaits, has_file, own_key, subst, sym, true}
use Rattle.lease_laws.proofs.server.Lists.{any_has}
use Rattle.lease_laws.proofs.server.Tries.{IsFoundReady}
use Rattle.lease_laws.proofs.server.cases.Findings.{any_needs}

-- a create that is ready names a file of the server; and a reconnect, an open of its client
pub record IsAwaited (server : Server) (client : ℕ) (file_id : ℕ) : Type 0 where
  pub one : Open
  pub is_there : Among one server.opens
  pub has_id : one.file_id ≡ file_id
  pub is_own : one.client ≡ client

-- for a reconnect
abbrev pub AgainReady : Server → ℕ → Option ℕ → Type 0
AgainReady server client None = Unit {0}
AgainReady server client (Some file_id) = IsAwaited server client file_id

-- by its contexts
abbrev pub ContextsReady : Server → ℕ → ℕ → Option CreateAsk → Type 0
ContextsReady server client file None = Unit {0}
ContextsReady server client file (Some ask) = (has_file server file ≡ true) × AgainReady server client ask.reconnect

-- what is known of the file of a request that is ready
abbrev pub FileReady : Server → ℕ → FileRequest → Type 0
FileReady server client (FileRequest.Create file access share contexts) = ContextsReady server client file contexts
FileReady server client request = Unit {0}

-- an open that waits for its client is its own
pub awaits_own : (client file : ℕ) (own : Option Key) (file_id : ℕ) (one : Open) → awaits client file own file_id one ≡ true
    → (one.file_id ≡ file_id) × (one.client ≡ client)
awaits_own client file own file_id one e = grind arith

-- any request that is ready
pub ready-file : (client : ℕ) (request : FileRequest) (progress : Progress) → IsFoundReady client request progress
    → FileReady progress.server client request
ready-file client request progress r = any_needs progress.server client
    (λ request wants. FileReady progress.server client request) (record {
      conflicts = λ file access share ask at clash some. (
        at.there,
        subst (AgainReady progress.server client) (sym at.anew) tt,
      );
      enters = λ file access share ask at calm. (at.there, subst (AgainReady progress.server client) (sym at.anew) tt);
      awaited = λ file access share ask file_id there again some.
          let own = own_key client ask.lease in
          let x = any_has (awaits client file own file_id) progress.server.opens some in
          let y = awaits_own client file own file_id x.0 x.2 in (
            there,
            subst (AgainReady progress.server client) (sym again)
                (record { one = x.0; is_there = x.1; has_id = y.0; is_own = y.1 }),
          );
      reads = λ file_id one own may. tt;
      writes = λ file_id number patch one own may fits. tt;
      closes = λ file_id one own. tt;
    }) request r.wants r.found
