-- What holds of a world in every run: where it holds of the first one, and calls, steps and facts keep it. For
-- what speaks of the server, the clients and the record, and not of queues and links.
use Rattle.lease_laws.proofs.Words.{◌∙◌, ◌∷◌, ◌≡◌, Call, Client, ClientCall, Event, Fact, Link, List, Out, Progress, Reply}
use Rattle.lease_laws.proofs.Words.{Request, World, ℕ, [], after, all_delivered, called, client_called, delivered, happened}
use Rattle.lease_laws.proofs.Words.{machine_key, put, refl, served, stepped_in, subst}
use Rattle.std.proofs.Common.{arith}
use Rattle.lease_laws.proofs.world.cases.Events.{HasForms, IsTold, Keeps, call_served, kept_by_run}

-- facts that neither start a file, nor are given out by the server or noted by a client
abbrev pub IsOfWorld : Fact → Type 0
IsOfWorld (Fact.Start file bytes) = ⊥
IsOfWorld (Fact.Sent client) = ⊥
IsOfWorld (Fact.Opened file client) = ⊥
IsOfWorld (Fact.Changed file client number patch) = ⊥
IsOfWorld (Fact.Wrote client file number patch buffered) = ⊥
IsOfWorld (Fact.Settled client number outcome) = ⊥
IsOfWorld (Fact.Believes client file state) = ⊥
IsOfWorld (Fact.CachedRead client file bytes) = ⊥
IsOfWorld _ = Unit {0}

pub told_of_world : (client : ℕ) (fact : Fact) → IsTold client fact → IsOfWorld fact
told_of_world client fact is = grind arith

-- what keeps such a statement
pub record IsKept (P : World → Type 0) : Type 0 where
  pub messages : (world : World) (requests : ℕ → List Request) (replies : ℕ → List Reply) (links : ℕ → Link) → P world
      → P (record world { requests = requests; replies = replies; links = links })
  pub fact : (world : World) (fact : Fact) → IsOfWorld fact → P world → P (happened world fact)
  pub call : (world : World) (call : Call) → P world → P (served world (called world.server call))
  pub step : (world : World) (client : ℕ) (call : ClientCall) → P world
      → P (stepped_in world client (client_called (world.clients client) call))

-- outs change no client
delivered_clients : (world : World) (out : Out) → (delivered world out).clients ≡ world.clients
delivered_clients world out = grind arith

all_delivered_clients : (world : World) (outs : List Out) → (all_delivered world outs).clients ≡ world.clients
unfolding all_delivered
all_delivered_clients world [] = refl
all_delivered_clients world (out ∷ outs) = all_delivered_clients (delivered world out) outs ∙ delivered_clients world out

pub served-clients : (world : World) (progress : Progress) → (served world progress).clients ≡ world.clients
served-clients world progress = all_delivered_clients (record world { server = progress.server }) progress.outs

-- nor the server
delivered_server : (world : World) (out : Out) → (delivered world out).server ≡ world.server
delivered_server world out = grind arith

all_delivered_server : (world : World) (outs : List Out) → (all_delivered world outs).server ≡ world.server
unfolding all_delivered
all_delivered_server world [] = refl
all_delivered_server world (out ∷ outs) = all_delivered_server (delivered world out) outs ∙ delivered_server world out

pub served-server : (world : World) (progress : Progress) → (served world progress).server ≡ progress.server
served-server world progress = all_delivered_server (record world { server = progress.server }) progress.outs

-- ---- events

pub kept_forms : (P : World → Type 0) → IsKept P → HasForms (Keeps P)
kept_forms P k = record {
  told = λ world client fact some is p. k.fact world fact (told_of_world client fact is) p;
  command = λ world client command some p. k.step world client (ClientCall.Commanded command) p;
  request = λ world client request queue some first p.
      k.call (record world { requests = put world.requests client queue }) (Call.Receive client request)
      (k.messages world (put world.requests client queue) world.replies world.links p);
  reply = λ world client reply queue some first p.
      let popped : World = record world { replies = put world.replies client queue } in
      k.step (happened popped (Fact.Took client)) client (ClientCall.Taken reply) (k.fact popped (Fact.Took client) tt
      (k.messages world world.requests (put world.replies client queue) world.links p));
  cut = λ world client some up p.
      let lost : World = record world {
        links = put world.links client Link.Cut;
        requests = put world.requests client [];
        replies = put world.replies client [];
      } in
      k.call (happened lost (Fact.Dropped client)) (Call.Cut client) (k.fact lost (Fact.Dropped client) tt
      (k.messages world (put world.requests client []) (put world.replies client []) (put world.links client Link.Cut) p));
  notice = λ world client some cut p. k.step (record world { links = put world.links client Link.Down }) client
      ClientCall.Noticed (k.messages world world.requests world.replies (put world.links client Link.Down) p);
  connect = λ world client some down p.
      let up : World = record world { links = put world.links client Link.Up } in
      let joined : World = call_served (happened up (Fact.Joined client)) (Call.Join client) in
      subst (λ (c : ℕ → Client). P (stepped_in joined client (client_called (c client) ClientCall.Connected)))
      (served-clients (happened up (Fact.Joined client)) (called world.server (Call.Join client)))
      (k.step joined client ClientCall.Connected
      (k.call (happened up (Fact.Joined client)) (Call.Join client) (k.fact up (Fact.Joined client) tt
      (k.messages world world.requests world.replies (put world.links client Link.Up) p))));
  timer = λ world client file some on breaks p. k.call (happened world (Fact.Expired client file))
      (Call.Expire (machine_key world client file)) (k.fact world (Fact.Expired client file) tt p);
  scavenge = λ world file_id p. k.call world (Call.Scavenge file_id) p;
  stray = λ world client request some up has p. k.messages world _ world.replies world.links p;
}

-- any events
pub after-kept : (P : World → Type 0) → IsKept P → (world : World) (events : List Event) → P world → P (after world events)
after-kept P k world events p = kept_by_run P (kept_forms P k) world events p
