-- What the end of a request makes of a call under way: each of the forms, with what is known of it. Whatever holds of
-- each form holds of every end.
use Rattle.lease_laws.proofs.Words.{◌∙◌, ◌&&◌, ◌==◌, ◌≡◌, Access, Among, CreateAsk, FileRequest, None, Open, Option, Outcome}
use Rattle.lease_laws.proofs.Words.{Patch}
use Rattle.lease_laws.proofs.Words.{Progress, Reply, Server, Share, Some, Status, ℕ, answered, changed, closed, concluded}
use Rattle.lease_laws.proofs.Words.{connected_open, created, eqb-true, granted_with, lease_after}
use Rattle.lease_laws.proofs.Words.{last_file_id, opens_dropped, read_done, reconnected, refl, refusal_of, replied, subst, true}
use Rattle.lease_laws.proofs.Words.{false, sym, ⊤}
use Rattle.lease_laws.proofs.server.Lists.{and_parts, either, find_has}

-- an open of a client that is there and connected
pub record IsFoundOpen (server : Server) (client : ℕ) (file_id : ℕ) (one : Open) : Type 0 where
  pub found : connected_open server client file_id ≡ Some one
  pub there : Among one server.opens
  pub id : one.file_id ≡ file_id
  pub by : one.client ≡ client
  pub up : one.connected ≡ true

pub found_open : (server : Server) (client file_id : ℕ) (one : Open) → connected_open server client file_id ≡ Some one
    → IsFoundOpen server client file_id one
found_open server client file_id one e =
    let has = find_has (λ o. o.file_id == file_id && o.client == client && o.connected) one server.opens e in
    let parts = and_parts (one.file_id == file_id && one.client == client) one.connected has.1 in
    let ids = and_parts (one.file_id == file_id) (one.client == client) parts.0 in record {
      found = e;
      there = has.0;
      id = eqb-true one.file_id file_id ids.0;
      by = eqb-true one.client client ids.1;
      up = parts.1;
    }

-- ---- the forms
--   refused: it is refused
--   left: it waits, or names no open or no contexts, and nothing happens
--   full: no FileId is left
--   granted, again: a create makes an open, or connects one again
--   read, changed, closed: by an open of its client

-- why nothing happens
abbrev pub IsLeft : Server → ℕ → FileRequest → Outcome → Type 0
IsLeft server client request (Outcome.Refused status) = ⊥
IsLeft server client request Outcome.Waits = ⊤
IsLeft server client (FileRequest.Create file access share contexts) Outcome.Ready = contexts ≡ None
IsLeft server client (FileRequest.Read file_id) Outcome.Ready = connected_open server client file_id ≡ None
IsLeft server client (FileRequest.Write file_id number patch) Outcome.Ready = connected_open server client file_id ≡ None
IsLeft server client (FileRequest.Close file_id) Outcome.Ready = connected_open server client file_id ≡ None

pub record HasEnds (client : ℕ) (progress : Progress) (P : FileRequest → Outcome → Progress → Type 0) : Type 0 where
  pub refused : (request : FileRequest) (status : Status)
      → P request (Outcome.Refused status) (replied client (refusal_of request status) progress)
  pub left : (request : FileRequest) (outcome : Outcome) → IsLeft progress.server client request outcome
      → P request outcome progress
  pub full : (file : ℕ) (access : Access) (share : Share) (ask : CreateAsk) → ask.reconnect ≡ None
      → (progress.server.last_id == last_file_id) ≡ true → P (FileRequest.Create file access share (Some ask)) Outcome.Ready
      (replied client (Reply.CreateFailed file Status.InsufficientResources) progress)
  pub granted : (file : ℕ) (access : Access) (share : Share) (ask : CreateAsk) → ask.reconnect ≡ None
      → (progress.server.last_id == last_file_id) ≡ false → P (FileRequest.Create file access share (Some ask)) Outcome.Ready
      (granted_with client file access share ask.lease ask.durable (lease_after progress.server client file ask.lease) progress)
  pub again : (file : ℕ) (access : Access) (share : Share) (ask : CreateAsk) (file_id : ℕ) → ask.reconnect ≡ Some file_id
      → P (FileRequest.Create file access share (Some ask)) Outcome.Ready (reconnected client file ask.lease file_id progress)
  pub read : (file_id : ℕ) (one : Open) → IsFoundOpen progress.server client file_id one
      → P (FileRequest.Read file_id) Outcome.Ready (read_done client one.file file_id progress)
  pub changed : (file_id number : ℕ) (patch : Patch) (one : Open) → IsFoundOpen progress.server client file_id one
      → P (FileRequest.Write file_id number patch) Outcome.Ready (changed client one.file file_id number patch progress)
  pub closed : (file_id : ℕ) (one : Open) → IsFoundOpen progress.server client file_id one
      → P (FileRequest.Close file_id) Outcome.Ready
      (replied client (Reply.Closed file_id) (opens_dropped (λ other. other.file_id == file_id) progress))

-- ---- each of them

pub ends_left : (client : ℕ) (request : FileRequest) (progress : Progress) (outcome : Outcome)
    → IsLeft progress.server client request outcome → concluded client request progress outcome ≡ progress
unfolding answered
ends_left client request progress (Outcome.Refused status) why = absurd why
ends_left client request progress Outcome.Waits why = refl
ends_left client (FileRequest.Create file access share contexts) progress Outcome.Ready why = rw (why) refl
ends_left client (FileRequest.Read file_id) progress Outcome.Ready why = rw (why) refl
ends_left client (FileRequest.Write file_id number patch) progress Outcome.Ready why = rw (why) refl
ends_left client (FileRequest.Close file_id) progress Outcome.Ready why = rw (why) refl

pub ends_create : (client file : ℕ) (access : Access) (share : Share) (ask : CreateAsk) (progress : Progress)
    → concluded client (FileRequest.Create file access share (Some ask)) progress Outcome.Ready
    ≡ created client file access share ask.lease ask.durable ask.reconnect progress
unfolding answered
ends_create client file access share ask progress = refl

pub ends_full : (client file : ℕ) (access : Access) (share : Share) (ask : CreateAsk) (progress : Progress)
    → ask.reconnect ≡ None → (progress.server.last_id == last_file_id) ≡ true
    → concluded client (FileRequest.Create file access share (Some ask)) progress Outcome.Ready
    ≡ replied client (Reply.CreateFailed file Status.InsufficientResources) progress
ends_full client file access share ask progress none out =
    ends_create client file access share ask progress ∙ rw (none, out) refl

pub ends_granted : (client file : ℕ) (access : Access) (share : Share) (ask : CreateAsk) (progress : Progress)
    → ask.reconnect ≡ None → (progress.server.last_id == last_file_id) ≡ false
    → concluded client (FileRequest.Create file access share (Some ask)) progress Outcome.Ready
    ≡ granted_with client file access share ask.lease ask.durable (lease_after progress.server client file ask.lease) progress
ends_granted client file access share ask progress none room =
    ends_create client file access share ask progress ∙ rw (none, room) refl

pub ends_again : (client file : ℕ) (access : Access) (share : Share) (ask : CreateAsk) (file_id : ℕ) (progress : Progress)
    → ask.reconnect ≡ Some file_id → concluded client (FileRequest.Create file access share (Some ask)) progress Outcome.Ready
    ≡ reconnected client file ask.lease file_id progress
ends_again client file access share ask file_id progress some =
    ends_create client file access share ask progress ∙ rw (some) refl

pub ends_read : (client file_id : ℕ) (one : Open) (progress : Progress) → connected_open progress.server client file_id ≡ Some one
    → concluded client (FileRequest.Read file_id) progress Outcome.Ready ≡ read_done client one.file file_id progress
unfolding answered
ends_read client file_id one progress found = rw (found) refl

pub ends_changed : (client file_id number : ℕ) (patch : Patch) (one : Open) (progress : Progress)
    → connected_open progress.server client file_id ≡ Some one
    → concluded client (FileRequest.Write file_id number patch) progress Outcome.Ready
    ≡ changed client one.file file_id number patch progress
unfolding answered
ends_changed client file_id number patch one progress found = rw (found) refl

pub ends_closed : (client file_id : ℕ) (one : Open) (progress : Progress)
    → connected_open progress.server client file_id ≡ Some one
    → concluded client (FileRequest.Close file_id) progress Outcome.Ready ≡ closed client file_id progress
unfolding answered
ends_closed client file_id one progress found = rw (found) refl

-- ---- every end has one of them

create_end : (client : ℕ) (progress : Progress) (P : FileRequest → Outcome → Progress → Type 0)
    → HasEnds client progress P → (file : ℕ) (access : Access) (share : Share) (ask : CreateAsk) (again : Option ℕ)
    → ask.reconnect ≡ again → P (FileRequest.Create file access share (Some ask)) Outcome.Ready
    (concluded client (FileRequest.Create file access share (Some ask)) progress Outcome.Ready)
create_end client progress P h file access share ask None none =
    let request = FileRequest.Create file access share (Some ask) in
    either (progress.server.last_id == last_file_id)
    (λ out. subst (P request Outcome.Ready) (sym (ends_full client file access share ask progress none out))
    (h.full file access share ask none out))
    (λ room. subst (P request Outcome.Ready) (sym (ends_granted client file access share ask progress none room))
    (h.granted file access share ask none room))
create_end client progress P h file access share ask (Some file_id) some =
    subst (P (FileRequest.Create file access share (Some ask)) Outcome.Ready)
    (sym (ends_again client file access share ask file_id progress some)) (h.again file access share ask file_id some)

open_end : (client : ℕ) (progress : Progress) (P : FileRequest → Outcome → Progress → Type 0)
    → (request : FileRequest) (file_id : ℕ) (found : Option Open) → connected_open progress.server client file_id ≡ found
    → (connected_open progress.server client file_id ≡ None
    → P request Outcome.Ready (concluded client request progress Outcome.Ready))
    → ((one : Open) → IsFoundOpen progress.server client file_id one
    → P request Outcome.Ready (concluded client request progress Outcome.Ready))
    → P request Outcome.Ready (concluded client request progress Outcome.Ready)
open_end client progress P request file_id None e gone each = gone e
open_end client progress P request file_id (Some one) e gone each = each one (found_open progress.server client file_id one e)

left_so : (client : ℕ) (progress : Progress) (P : FileRequest → Outcome → Progress → Type 0)
    → HasEnds client progress P → (request : FileRequest) → IsLeft progress.server client request Outcome.Ready
    → P request Outcome.Ready (concluded client request progress Outcome.Ready)
left_so client progress P h request why = subst (P request Outcome.Ready)
    (sym (ends_left client request progress Outcome.Ready why)) (h.left request Outcome.Ready why)

pub any_end : (client : ℕ) (progress : Progress) (P : FileRequest → Outcome → Progress → Type 0)
    → HasEnds client progress P → (request : FileRequest) (outcome : Outcome)
    → P request outcome (concluded client request progress outcome)
any_end client progress P h request (Outcome.Refused status) = h.refused request status
any_end client progress P h request Outcome.Waits = h.left request Outcome.Waits tt
any_end client progress P h (FileRequest.Create file access share None) Outcome.Ready = left_so client progress P h
    (FileRequest.Create file access share None) refl
any_end client progress P h (FileRequest.Create file access share (Some ask)) Outcome.Ready =
    create_end client progress P h file access share ask ask.reconnect refl
any_end client progress P h (FileRequest.Read file_id) Outcome.Ready =
    open_end client progress P (FileRequest.Read file_id) file_id (connected_open progress.server client file_id) refl
    (left_so client progress P h (FileRequest.Read file_id))
    (λ one own. subst (P (FileRequest.Read file_id) Outcome.Ready) (sym (ends_read client file_id one progress own.found))
    (h.read file_id one own))
any_end client progress P h (FileRequest.Write file_id number patch) Outcome.Ready =
    open_end client progress P (FileRequest.Write file_id number patch) file_id (connected_open progress.server client file_id)
    refl (left_so client progress P h (FileRequest.Write file_id number patch))
    (λ one own. subst (P (FileRequest.Write file_id number patch) Outcome.Ready)
    (sym (ends_changed client file_id number patch one progress own.found)) (h.changed file_id number patch one own))
any_end client progress P h (FileRequest.Close file_id) Outcome.Ready =
    open_end client progress P (FileRequest.Close file_id) file_id (connected_open progress.server client file_id) refl
    (left_so client progress P h (FileRequest.Close file_id))
    (λ one own. subst (P (FileRequest.Close file_id) Outcome.Ready) (sym (ends_closed client file_id one progress own.found))
    (h.closed file_id one own))
