-- What moves leave alone, in words that every part of the theorem uses.
use Rattle.lease_laws.proofs.Words.{◌++◌, ◌∷◌, ◌≡◌, FileRequest, Held, Lease, LeaseOf, List, None, Note, Option, Server, Some}
use Rattle.lease_laws.proofs.Words.{Step, World, ℕ, [], ⊎_elim, fact_of, happened, lease_put, noted, put, refl, requests_sent}
use Rattle.lease_laws.proofs.Words.{sent_over, stepped_in, subst, sym}
use Rattle.lease_coherence.proofs.moves.Deeds.{IsSource, with_held}
use Rattle.lease_coherence.proofs.moves.Moves.{popped}
use Rattle.lease_coherence.proofs.records.Later.{past_noted}

-- a lease that is put changes no other part of the server
pub lease_put_rest : (server : Server) (client : ℕ) (asked : Option LeaseOf) (lease : Lease) (P : Server → Type 0)
    → ((leases : _) → P (record server { leases = leases })) → P (lease_put server client asked lease)
lease_put_rest server client None lease P each = each server.leases
lease_put_rest server client (Some asked) lease P each = each _

-- the world in which a request is taken off
pub from_source : (world off : World) (client : ℕ) (request : FileRequest) (P : World → Type 0)
    → IsSource world off client request → P (popped world client)
    → ((file : ℕ) (left : List Held) → P (with_held world file left)) → P off
from_source world off client request P source arrived held = ⊎_elim
    (λ a. subst P (sym a.is_off) arrived)
    (λ h. subst P (sym h.is_off) (held h.file (h.before ++ h.behind))) source.from

-- what notes make of the record
noted_past : (world : World) (client : ℕ) (notes : List Note)
    → (noted world client notes).past ≡ past_noted client world.past notes
unfolding noted
noted_past world client [] = refl
noted_past world client (note ∷ notes) = noted_past (happened world (fact_of client note)) client notes

pub stepped_past : (world : World) (client : ℕ) (step : Step)
    → (stepped_in world client step).past ≡ past_noted client world.past step.notes
stepped_past world client step = noted_past
    (requests_sent (record world { clients = put world.clients client step.client }) client step.requests) client step.notes

-- notes change no queue
noted_requests : (world : World) (client : ℕ) (notes : List Note) → (noted world client notes).requests ≡ world.requests
unfolding noted
noted_requests world client [] = refl
noted_requests world client (note ∷ notes) = noted_requests (happened world (fact_of client note)) client notes

noted_replies : (world : World) (client : ℕ) (notes : List Note) → (noted world client notes).replies ≡ world.replies
unfolding noted
noted_replies world client [] = refl
noted_replies world client (note ∷ notes) = noted_replies (happened world (fact_of client note)) client notes

pub stepped_requests : (world : World) (client : ℕ) (step : Step) → (stepped_in world client step).requests
    ≡ put world.requests client (sent_over (world.links client) (world.requests client) step.requests)
stepped_requests world client step = noted_requests
    (requests_sent (record world { clients = put world.clients client step.client }) client step.requests) client step.notes

pub stepped_replies : (world : World) (client : ℕ) (step : Step) → (stepped_in world client step).replies ≡ world.replies
stepped_replies world client step = noted_replies
    (requests_sent (record world { clients = put world.clients client step.client }) client step.requests) client step.notes
