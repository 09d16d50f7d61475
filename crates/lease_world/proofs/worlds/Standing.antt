-- What a world of the code stands for after each thing that happens in it.
use Rattle.lease_laws.proofs.Words.{◌++◌, ◌<◌, ◌==◌, ◌∙◌, ◌∷◌, ◌≡◌, ◌≢◌, Call, CallHasFileId, CallHasFullKey, Client}
use Rattle.lease_laws.proofs.Words.{ClientCall, Fact, IsWriting, Link, List, Note, Option, Progress, Reply, Request, Some, Step}
use Rattle.lease_laws.proofs.Words.{World}
use Rattle.lease_laws.proofs.Words.{ℕ, [], all_delivered, ap, arith, called, client_called, false}
use Rattle.lease_laws.proofs.Words.{happened, if◌then◌else◌, length, map, map-append, noted, option_map, put, refl}
use Rattle.lease_laws.proofs.Words.{reply_of, request_of, request_written, requests_sent, reverse, reverse-append, sent_over}
use Rattle.lease_laws.proofs.Words.{served, slice_get, stepped_in, suc, sym, true, unwrap_or, zero}
use Rattle.lease_client.specs.Known.{client_of}
use Rattle.lease_laws.proofs.messages.ClientBytes.{requests_have_bytes}
use Rattle.lease_laws.proofs.client.Forms.{commanded-stays, taken-stays}
use Rattle.lease_laws.proofs.messages.ReadBack as readback
use Rattle.lease_laws.proofs.messages.ServerBytes.{replies_have_bytes}
use Rattle.lease_laws.proofs.server.Calls.{called-sound}
use Rattle.lease_laws.proofs.server.WaitCalls.{called-waits-well}
use Rattle.lease_model.specs.world.World.{fact_of as fact_noted}
use Rattle.lease_state.specs.declared.request.Request as code_request
use Rattle.lease_facts.specs.Facts.{fact_of}
use Rattle.lease_facts.specs.declared.fact.Fact as code_fact
use Rattle.lease_world.specs.declared.world.link.Link as code
use Rattle.lease_world.specs.world.Seats.{Seat, seat_at, seat_in, no_seat, IsPresent, HasReplies, fact_given, replies_to}
use Rattle.lease_world.specs.world.Seats.{with_replies, queued, ChangesSeat, StepsSeat}
use Rattle.lease_world.specs.world.Stands.{CodeWorld, link_of, IsSeat, Stands}
use Rattle.lease_world.proofs.worlds.Delivered.{IsDelivered, delivers, given_told, given_replies, IsNoted, notes_told}
use Rattle.lease_world.proofs.worlds.Delivered.{requests_back}
use Rattle.share_server.specs.Outs.{IsAfter}
use Rattle.share_server.specs.Table.{server_of}
use Rattle.share_server.specs.Written.{out_written}
use Rattle.share_server.specs.declared.values.out.Out as out

-- ---- seats

pub present_seat : (seats : List Seat) (n : ℕ) → IsPresent n seats → seat_at seats n ≡ Some (seat_in seats n)
present_seat seats zero p = absurd (omega (arith, p.0))
present_seat seats (suc n) p = there seats n (omega (arith, p.1))
  where
    there : (xs : List Seat) (k : ℕ) → k < length xs → slice_get xs k ≡ Some (unwrap_or (slice_get xs k) no_seat)
    there [] k lt = absurd (omega arith)
    there (x ∷ xs) zero lt = refl
    there (x ∷ xs) (suc k) lt = there xs k (omega arith)

seat_replied : (old new : List Seat) (outs : List out.Out) (n : ℕ) → HasReplies old new outs → IsPresent n old
    → seat_in new n ≡ with_replies (replies_to n outs) (seat_in old n)
seat_replied old new outs n has p = ap (λ (o : Option Seat). unwrap_or o no_seat)
    (has n ∙ ap (λ (o : Option Seat). option_map (with_replies (replies_to n outs)) o) (present_seat old n p))

-- ---- a fact

pub told_stands : (old : CodeWorld) (fact : code_fact.Fact) (world : World) → Stands old world
    → Stands (record old { facts = old.facts ++ fact ∷ [] }) (happened world (fact_of fact))
told_stands old fact world s = record {
  count = s.count;
  server = s.server;
  seats = λ n p. let q = s.seats n p in record {
    guid = q.guid;
    client = q.client;
    link = q.link;
    requests = q.requests;
    replies = q.replies;
  };
  facts = map-append fact_of old.facts (fact ∷ [])
      ∙ (ap (λ (xs : List Fact). xs ++ fact_of fact ∷ []) s.facts ∙ sym (reverse-append (fact_of fact ∷ []) world.past));
  sound = s.sound;
  waiting = s.waiting;
  keys = s.keys;
  writing = s.writing;
}

-- ---- a call of the server

pub served_stands : (old new : CodeWorld) (call : Call) (outs : List out.Out)
    → IsAfter new.server outs (called (server_of old.server) call)
    → HasReplies old.seats new.seats outs → length new.seats ≡ length old.seats
    → map fact_of new.facts ≡ map fact_of old.facts ++ map fact_given outs
    → CallHasFullKey call → (world : World) → Stands old world → Stands new (served world (called world.server call))
served_stands old new call outs after replies count facts keyed world s =
    let progress : Progress = called world.server call in
    let same : called (server_of old.server) call ≡ progress = ap (λ server. called server call) s.server in
    let given : outs ≡ map out_written progress.outs = after.outs ∙ ap (λ (p : Progress). map out_written p.outs) same in
    let bytes = replies_have_bytes world.server call s.sound s.waiting s.keys keyed in
    let begun : World = record world { server = progress.server } in
    let d : IsDelivered begun (all_delivered begun progress.outs) progress.outs = delivers begun progress.outs in
    record {
      count = d.count ∙ (s.count ∙ sym count);
      server = after.server ∙ (ap (λ (p : Progress). p.server) same ∙ sym d.server);
      seats = λ n p.
          let was : IsPresent n old.seats = (p.0, omega (arith, p.1, count)) in
          let q : IsSeat (seat_in old.seats n) world n = s.seats n was in
          rw (seat_replied old.seats new.seats outs n replies was) (record {
            guid = q.guid ∙ ap (λ (t : ℕ → Client). (t n).guid) (sym d.clients);
            client = q.client ∙ ap (λ (t : ℕ → Client). t n) (sym d.clients);
            link = q.link ∙ ap (λ (t : ℕ → Link). t n) (sym d.links);
            requests = q.requests ∙ ap (λ (t : ℕ → List Request). t n) (sym d.requests);
            replies = map-append reply_of (seat_in old.seats n).replies (replies_to n outs)
                ∙ (ap (λ (rs : List Reply). rs ++ map reply_of (replies_to n outs)) q.replies
                ∙ (ap (λ (os : List out.Out). world.replies n ++ map reply_of (replies_to n os)) given
                ∙ (ap (λ (rs : List Reply). world.replies n ++ rs) (given_replies readback.replies_back n progress.outs bytes.0)
                ∙ sym (d.replies n))));
          });
      facts = facts ∙ (ap (λ (xs : List Fact). xs ++ map fact_given outs) s.facts
          ∙ (ap (λ (os : List out.Out). reverse world.past ++ map fact_given os) given
          ∙ (ap (λ (xs : List Fact). reverse world.past ++ xs) (given_told progress.outs) ∙ sym d.past)));
      sound = rw d.server (called-sound world.server call s.sound);
      waiting = rw d.server (called-waits-well world.server call s.sound s.waiting);
      keys = rw d.server bytes.1;
      writing = λ n p. rw d.clients (s.writing n (p.0, omega (arith, p.1, count)));
    }

-- ---- a step of a client

pub sent_requests : (link : code.Link) (queue sent : List code_request.Request) (requests : List Request)
    → map request_of sent ≡ requests
    → map request_of (queued link queue sent) ≡ sent_over (link_of link) (map request_of queue) requests
sent_requests code.TheVariants.Up queue sent requests e = map-append request_of queue sent
    ∙ ap (λ (rs : List Request). map request_of queue ++ rs) e
sent_requests code.TheVariants.Down queue sent requests e = refl
sent_requests code.TheVariants.Cut queue sent requests e = refl

pub at_place : {X : Type 0} (n : ℕ) (x y : X) → (if n == n then x else y) ≡ x
at_place n x y = let e : (n == n) ≡ true = grind arith in rw e refl

pub off_place : {X : Type 0} (n k : ℕ) (x y : X) → n ≢ k → (if n == k then x else y) ≡ y
off_place n k x y ne = let e : (n == k) ≡ false = grind arith in rw e refl

each_number : (P : ℕ → Type 0) (k : ℕ) → P k → ((n : ℕ) → n ≢ k → P n) → (n : ℕ) → P n
each_number P k here others n = grind arith

-- the seats after one of them changed, in a world that changed at that client alone
pub one_seat : (Changes : Seat → Seat → Type 0) (old new : List Seat) (number : ℕ) (world after : World)
    → ChangesSeat Changes number old new → ((n : ℕ) → IsPresent n old → IsSeat (seat_in old n) world n)
    → (IsPresent number old → IsSeat (seat_in new number) after number)
    → ((n : ℕ) → n ≢ number → after.clients n ≡ world.clients n) → ((n : ℕ) → n ≢ number → after.links n ≡ world.links n)
    → ((n : ℕ) → n ≢ number → after.requests n ≡ world.requests n) → ((n : ℕ) → n ≢ number → after.replies n ≡ world.replies n)
    → (n : ℕ) → IsPresent n new → IsSeat (seat_in new n) after n
one_seat Changes old new number world after is all here clients links requests replies = grind arith

-- a client keeps its ClientGuid
same_guid : (client : Client) (call : ClientCall) → (client_called client call).client.guid ≡ client.guid
same_guid client (ClientCall.Commanded command) = (commanded-stays client command).guid
same_guid client (ClientCall.Taken reply) = (taken-stays client reply).guid
same_guid client ClientCall.Noticed = refl
same_guid client ClientCall.Connected = refl

pub stepped_stands : (old new : CodeWorld) (number : ℕ) (call : ClientCall) (notes : List Note) → new.server ≡ old.server
    → ChangesSeat (StepsSeat call notes) number old.seats new.seats
    → map fact_of new.facts ≡ map fact_of old.facts ++ map (fact_noted number) notes
    → IsPresent number old.seats → CallHasFileId call → (world : World) → Stands old world
    → Stands new (stepped_in world number (client_called (world.clients number) call))
unfolding put
stepped_stands old new number call notes server seats facts there fits world s =
    let (client_is, link_is, requests_are, replies_are, notes_are, guid_is) = seats.0 in
    let step : Step = client_called (world.clients number) call in
    let held : IsSeat (seat_in old.seats number) world number = s.seats number there in
    let same : client_called (client_of (seat_in old.seats number).client) call
    ≡ step = ap (λ c. client_called c call) held.client in
    let bytes = requests_have_bytes (world.clients number) call (s.writing number there) fits in
    let moved : World = requests_sent (record world { clients = put world.clients number step.client }) number step.requests in
    let n : IsNoted moved (noted moved number step.notes) number step.notes = notes_told moved number step.notes in
    rw n.same (record {
      count = s.count ∙ sym seats.2;
      server = ap server_of server ∙ s.server;
      seats = one_seat (StepsSeat call notes) old.seats new.seats number world
          (record moved { past = (noted moved number step.notes).past }) seats s.seats
          (λ p. record {
            guid = guid_is ∙ (held.guid ∙ (sym (same_guid (world.clients number) call)
                ∙ ap (λ (c : Client). c.guid) (sym (at_place number step.client (world.clients number)))));
            client = client_is ∙ (ap (λ (t : Step). t.client) same ∙ sym (at_place number step.client (world.clients number)));
            link = ap link_of link_is ∙ held.link;
            requests = ap (map request_of) requests_are
                ∙ (sent_requests (seat_in old.seats number).link (seat_in old.seats number).requests
                (map request_written (client_called (client_of (seat_in old.seats number).client) call).requests) step.requests
                (ap (λ (t : Step). map request_of (map request_written t.requests)) same
                ∙ requests_back readback.requests_back step.requests bytes.0) ∙ (rw (held.link, held.requests) refl
                ∙ sym (at_place number (sent_over (world.links number) (world.requests number) step.requests)
                (world.requests number))));
            replies = ap (map reply_of) replies_are ∙ held.replies;
          })
          (λ m ne. off_place m number step.client (world.clients m) ne)
          (λ m ne. refl)
          (λ m ne. off_place m number (sent_over (world.links number) (world.requests number) step.requests) (world.requests m)
          ne)
          (λ m ne. refl);
      facts = facts ∙ (ap (λ (xs : List Fact). xs ++ map (fact_noted number) notes) s.facts
          ∙ (ap (λ ns. reverse world.past ++ map (fact_noted number) ns) (notes_are ∙ ap (λ (t : Step). t.notes) same)
          ∙ sym n.past));
      sound = s.sound;
      waiting = s.waiting;
      keys = s.keys;
      writing = each_number (λ m. IsPresent m new.seats → IsWriting (put world.clients number step.client m)) number
          (λ p. rw (at_place number step.client (world.clients number)) bytes.1)
          (λ m ne p. rw (off_place m number step.client (world.clients m) ne) (s.writing m (p.0, omega (arith, p.1, seats.2))));
    })
