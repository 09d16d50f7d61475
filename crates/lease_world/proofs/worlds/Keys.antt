-- What is found in the bytes of a request names a key of 16 bytes, or none.
use Rattle.lease_laws.proofs.Words.{◌==◌, ◌∷◌, ◌≡◌, Access, Bool, Call, CallHasFullKey, Err, FileRequest, HasFullKey, IfSome}
use Rattle.lease_laws.proofs.Words.{List, Ok, Result, Share, ℕ, ⊤, [], arith, ask_found, bytes_eq}
use Rattle.lease_laws.proofs.Words.{if◌then◌else◌, length, refl, request_of}
use Rattle.lease_state.specs.declared.request.Request as real
use Rattle.lease_wire.specs.Gathering.{no_values, with_meaning, carried, gathered}
use Rattle.lease_wire.specs.Gathering.{value_of}
use Rattle.lease_wire.specs.Chain.{ContextView}
use Rattle.lease_wire.specs.Names.{Meaning, LeaseView, CreateView, meaning_of, durable_meaning, reconnect_meaning, lease_view}
use Rattle.lease_wire.specs.Names.{lease_name, durable_name, reconnect_name}
use Rattle.lease_wire.specs.Reading.{Item, items_of}
use Rattle.lease_wire.specs.declared.create.Direction.{Direction}
use Rattle.lease_wire.specs.declared.fault.WireFault.{WireFault}

abbrev IsFull : LeaseView → Type 0
IsFull lease = length lease.key ≡ 16

abbrev MeansFull : Meaning → Type 0
MeansFull (Meaning.Lease lease) = IsFull lease
MeansFull _ = ⊤

abbrev ViewIsFull : CreateView → Type 0
ViewIsFull v = IfSome v.lease IsFull

abbrev ResultIsFull : Result CreateView WireFault → Type 0
ResultIsFull (Ok v) = ViewIsFull v
ResultIsFull (Err fault) = ⊤

lease_full : (direction : Direction) (body : List ℕ) (b : Bool) → (length body == 32) ≡ b
    → MeansFull (if b then Meaning.Lease (lease_view direction body) else Meaning.Unknown)
lease_full direction body b e = grind arith

durable_full : (direction : Direction) (body : List ℕ) → MeansFull (durable_meaning direction body)
durable_full direction body = grind arith

reconnect_full : (direction : Direction) (body : List ℕ) → MeansFull (reconnect_meaning direction body)
reconnect_full direction body = grind arith

one_of : (b : Bool) (x y : Meaning) → MeansFull x → MeansFull y → MeansFull (if b then x else y)
one_of b x y f g = grind arith

meaning_full : (direction : Direction) (context : ContextView) → MeansFull (meaning_of direction context)
unfolding meaning_of
meaning_full direction context =
    one_of (bytes_eq context.name lease_name) _ _ (lease_full direction context.body (length context.body == 32) refl)
    (one_of (bytes_eq context.name durable_name) _ _ (durable_full direction context.body)
    (one_of (bytes_eq context.name reconnect_name) _ _ (reconnect_full direction context.body) tt))

with_full : (v : CreateView) (place : ℕ) (meaning : Meaning) → ViewIsFull v → MeansFull meaning
    → ResultIsFull (with_meaning v place meaning)
with_full v place meaning h m = grind arith

carried_full : (r : Result CreateView WireFault) (further : CreateView → Result CreateView WireFault) → ResultIsFull r
    → ((v : CreateView) → ViewIsFull v → ResultIsFull (further v)) → ResultIsFull (carried r further)
carried_full r further h f = grind arith

gathered_full : (direction : Direction) (v : CreateView) (items : List Item) → ViewIsFull v
    → ResultIsFull (gathered direction v items)
unfolding gathered
gathered_full direction v [] h = h
gathered_full direction v (Err fault ∷ items) h = tt
gathered_full direction v (Ok context ∷ items) h =
    carried_full (with_meaning v context.place (meaning_of direction context)) (λ further. gathered direction further items)
    (with_full v context.place (meaning_of direction context) h (meaning_full direction context))
    (λ w k. gathered_full direction w items k)

ask_full : (file : ℕ) (access : Access) (share : Share) (r : Result CreateView WireFault) → ResultIsFull r
    → HasFullKey (FileRequest.Create file access share (ask_found r))
ask_full file access share r h = grind arith

pub request_keys : (client : ℕ) (request : real.Request) → CallHasFullKey (Call.Receive client (request_of request))
request_keys client (real.TheVariants.Create file access share contexts) =
    ask_full file.0 access share (value_of Direction.Request contexts)
    (gathered_full Direction.Request no_values (items_of contexts) tt)
request_keys client (real.TheVariants.Read fid) = tt
request_keys client (real.TheVariants.Write fid number patch) = tt
request_keys client (real.TheVariants.Close fid) = tt
request_keys client (real.TheVariants.Ack bytes) = tt
