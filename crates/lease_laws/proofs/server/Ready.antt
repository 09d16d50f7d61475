-- What stands once a create is ready: its key is at home on the file, no open there conflicts with it,
-- and no other key there holds W.
use Rattle.lease_laws.proofs.Words.{◌&&◌, ◌==◌, ◌∙◌, ◌≡◌, Access, Among, CreateAsk, Decides-eqb, FileRequest, IsFree}
use Rattle.lease_laws.proofs.Words.{Key, LeaseOf, None, Open, Option, Progress, Server, Share, Some, ℕ}
use Rattle.lease_laws.proofs.Words.{ap, conflict, conflicts_on, false}
use Rattle.lease_laws.proofs.Words.{has_key, has_own_key, is_empty, is_leased_elsewhere, is_other_on, is_ready, lease_of_open}
use Rattle.lease_laws.proofs.Words.{list_any, not, own_key, subst, sym, true, true≢false, without_write, write_wants}
use Rattle.lease_laws.proofs.server.Keys.{lease_by-key}
use Rattle.lease_laws.proofs.server.Lists.{clash, and_both, not_true, not_false, none_has}
use Rattle.lease_laws.proofs.server.Tries.{IsFoundReady}
use Rattle.lease_laws.proofs.server.Wants.{wants_where-none}
use Rattle.lease_laws.proofs.server.cases.Findings.{IsAtHome, any_needs}

-- files that are one are equal
same_file : (one : Open) (file : ℕ) → one.file ≡ file → (one.file == file) ≡ true
same_file one file e = (Decides-eqb one.file file).1 e

-- the key has no open elsewhere
home_at : (server : Server) (own : Option Key) (file : ℕ) → is_leased_elsewhere server own file ≡ false
    → (one : Open) → Among one server.opens → has_own_key own one ≡ true → one.file ≡ file
home_at server None file e one a k = absurd (true≢false (sym k))
home_at server (Some key) file e one a k = (Decides-eqb one.file file).0 (not_false (one.file == file) (λ d.
    clash (has_key key one && not (one.file == file)) (and_both (has_key key one) (not (one.file == file)) k (ap not d))
    (none_has (λ x. has_key key x && not (x.file == file)) one server.opens e a)))

-- no open on the file conflicts
peaceful_at : (server : Server) (file : ℕ) (access : Access) (share : Share)
    → list_any (conflicts_on file access share) server.opens ≡ false
    → (one : Open) → Among one server.opens → one.file ≡ file → conflict access share one.access one.share ≡ false
peaceful_at server file access share e one a f = not_true (conflict access share one.access one.share) (λ c.
    clash (one.file == file && conflict access share one.access one.share)
    (and_both (one.file == file) (conflict access share one.access one.share) (same_file one file f) c)
    (none_has (conflicts_on file access share) one server.opens e a))

-- no other key on the file holds W
unwritten_at : (server : Server) (own : Option Key) (file : ℕ) → is_empty (write_wants server own file) ≡ true
    → (key : Key) (one : Open) → Among one server.opens → one.file ≡ file → has_own_key own one ≡ false
    → has_key key one ≡ true → (server.leases key).state.write ≡ false
unwritten_at server own file none key one a f other k = not_true (server.leases key).state.write (λ w.
    clash (is_other_on own file one && (lease_of_open server one).state.write)
    (and_both (is_other_on own file one) (lease_of_open server one).state.write
    (and_both (one.file == file) (not (has_own_key own one)) (same_file one file f) (ap not other))
    (ap (λ l. l.state.write) (lease_by-key server key one.client one.lease_key k) ∙ w))
    (wants_where-none server (λ x. is_other_on own file x && (lease_of_open server x).state.write)
    without_write none key one a k))

-- what is known of a create with these contexts once it is ready
abbrev pub CreateFree : Server → ℕ → ℕ → Access → Share → Option LeaseOf → Option ℕ → Type 0
CreateFree server client file access share lease None = IsFree server.opens server.leases (own_key client lease) file access share
CreateFree server client file access share lease (Some file_id) = Unit {0}

-- by its contexts
abbrev pub ContextsFree : Server → ℕ → ℕ → Access → Share → Option CreateAsk → Type 0
ContextsFree server client file access share None = Unit {0}
ContextsFree server client file access share (Some ask) = CreateFree server client file access share ask.lease ask.reconnect

-- by the request
abbrev pub RequestFree : Server → ℕ → FileRequest → Type 0
RequestFree server client (FileRequest.Create file access share contexts) = ContextsFree server client file access share contexts
RequestFree server client request = Unit {0}

-- a create that wants nothing is free
pub enters_free : (server : Server) (client file : ℕ) (access : Access) (share : Share) (ask : CreateAsk)
    → IsAtHome server client file ask → list_any (conflicts_on file access share) server.opens ≡ false
    → is_empty (write_wants server (own_key client ask.lease) file) ≡ true
    → IsFree server.opens server.leases (own_key client ask.lease) file access share
enters_free server client file access share ask at calm none =
    let own = own_key client ask.lease in record {
      at_home = home_at server own file at.home;
      peaceful = peaceful_at server file access share calm;
      unwritten = unwritten_at server own file none;
    }

-- what is known of a request once it is ready
pub ready-free : (client : ℕ) (request : FileRequest) (progress : Progress) → IsFoundReady client request progress
    → RequestFree progress.server client request
ready-free client request progress r = any_needs progress.server client
    (λ request wants. is_ready request progress.server.leases wants ≡ true → RequestFree progress.server client request)
    (record {
      conflicts = λ file access share ask at clash some ready.
          absurd (true≢false (sym ready ∙ some));
      enters = λ file access share ask at calm ready.
          subst (CreateFree progress.server client file access share ask.lease) (sym at.anew)
          (enters_free progress.server client file access share ask at calm ready);
      awaited = λ file access share ask file_id there again some ready.
          subst (CreateFree progress.server client file access share ask.lease) (sym again) tt;
      reads = λ file_id one own may ready. tt;
      writes = λ file_id number patch one own may fits ready. tt;
      closes = λ file_id one own ready. tt;
    }) request r.wants r.found r.ready
