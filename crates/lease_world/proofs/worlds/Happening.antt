-- What a world of the code stands for after a link or a queue changed.
use Rattle.lease_laws.proofs.Words.{◌∙◌, ◌∷◌, ◌≡◌, Link, None, Some, World, ℕ, [], ap, arith, map, put}
use Rattle.lease_laws.proofs.Words.{refl, reply_of, request_of, requests_sent, sent_over, sym}
use Rattle.lease_state.specs.declared.request.Request as code_request
use Rattle.lease_state.specs.declared.reply.Reply as code_reply
use Rattle.lease_world.specs.declared.world.link.Link as code
use Rattle.lease_facts.specs.Facts.{fact_of}
use Rattle.share_server.specs.Table.{server_of}
use Rattle.lease_world.specs.world.Seats.{seat_in, IsPresent, ChangesSeat, PopsRequest, PopsReply, with_requests}
use Rattle.lease_world.specs.world.Stands.{CodeWorld, link_of, IsSeat, Stands}
use Rattle.lease_world.proofs.worlds.Standing.{one_seat, at_place, off_place, sent_requests}

-- seats that changed, and nothing else
abbrev pub OnlySeats : CodeWorld → CodeWorld → Type 0
OnlySeats old new = (new.server ≡ old.server) × (new.facts ≡ old.facts) × (new.messages ≡ old.messages)

pub linked_stands : (old new : CodeWorld) (number : ℕ) (link : code.Link) → OnlySeats old new
    → ChangesSeat (λ before after. after ≡ record before { link = link }) number old.seats new.seats
    → (world : World) → Stands old world → Stands new (record world { links = put world.links number (link_of link) })
unfolding put
linked_stands old new number link only seats world s = record {
  count = s.count ∙ sym seats.2;
  server = ap server_of only.0 ∙ s.server;
  seats = one_seat (λ before after. after ≡ record before { link = link }) old.seats new.seats number world
      (record world { links = put world.links number (link_of link) }) seats s.seats
      (λ p. let q : IsSeat (seat_in old.seats number) world number = s.seats number p in
      rw seats.0 (record {
        guid = q.guid;
        client = q.client;
        link = sym (at_place number (link_of link) (world.links number));
        requests = q.requests;
        replies = q.replies;
      }))
      (λ m ne. refl) (λ m ne. off_place m number (link_of link) (world.links m) ne) (λ m ne. refl) (λ m ne. refl);
  facts = ap (map fact_of) only.1 ∙ s.facts;
  sound = s.sound;
  waiting = s.waiting;
  keys = s.keys;
  writing = λ n p. s.writing n (p.0, omega (arith, p.1, seats.2));
}

pub cut_stands : (old new : CodeWorld) (number : ℕ) → OnlySeats old new
    → ChangesSeat (λ before after. after ≡ record before { link = code.TheVariants.Cut; requests = []; replies = [] }) number
    old.seats new.seats → (world : World) → Stands old world → Stands new (record world {
      links = put world.links number Link.Cut;
      requests = put world.requests number [];
      replies = put world.replies number [];
    })
unfolding put
cut_stands old new number only seats world s = grind arith

-- ---- queues

pub no_request : (old new : CodeWorld) (number : ℕ) → ChangesSeat (PopsRequest None) number old.seats new.seats
    → IsPresent number old.seats → (world : World) → Stands old world → world.requests number ≡ []
no_request old new number ((same, none), others, count) p world s = sym (s.seats number p).requests ∙ ap (map request_of) none

-- the oldest request is taken out of its queue
pub popped_request : (old new : CodeWorld) (number : ℕ) (request : code_request.Request) → OnlySeats old new
    → ChangesSeat (PopsRequest (Some request)) number old.seats new.seats
    → IsPresent number old.seats → (world : World) → Stands old world
    → (world.requests number ≡ request_of request ∷ map request_of (seat_in new.seats number).requests)
    × Stands new (record world { requests = put world.requests number (map request_of (seat_in new.seats number).requests) })
unfolding put
popped_request old new number request only seats there world s = grind arith

pub no_reply : (old new : CodeWorld) (number : ℕ) → ChangesSeat (PopsReply None) number old.seats new.seats
    → IsPresent number old.seats → (world : World) → Stands old world → world.replies number ≡ []
no_reply old new number ((same, none), others, count) p world s = sym (s.seats number p).replies ∙ ap (map reply_of) none

pub popped_reply : (old new : CodeWorld) (number : ℕ) (reply : code_reply.Reply) → OnlySeats old new
    → ChangesSeat (PopsReply (Some reply)) number old.seats new.seats
    → IsPresent number old.seats → (world : World) → Stands old world
    → (world.replies number ≡ reply_of reply ∷ map reply_of (seat_in new.seats number).replies)
    × Stands new (record world { replies = put world.replies number (map reply_of (seat_in new.seats number).replies) })
unfolding put
popped_reply old new number reply only seats there world s = grind arith

-- a request is sent in a client's name
pub sent_stands : (old new : CodeWorld) (number : ℕ) (request : code_request.Request) → OnlySeats old new
    → ChangesSeat (λ before after. after ≡ with_requests (request ∷ []) before) number old.seats new.seats
    → (world : World) → Stands old world → Stands new (requests_sent world number (request_of request ∷ []))
unfolding put
sent_stands old new number request only seats world s = record {
  count = s.count ∙ sym seats.2;
  server = ap server_of only.0 ∙ s.server;
  seats = one_seat (λ before after. after ≡ with_requests (request ∷ []) before) old.seats new.seats number world
      (requests_sent world number (request_of request ∷ [])) seats s.seats
      (λ p. let q : IsSeat (seat_in old.seats number) world number = s.seats number p in
      rw seats.0 (record {
        guid = q.guid;
        client = q.client;
        link = q.link;
        requests = sent_requests (seat_in old.seats number).link (seat_in old.seats number).requests (request ∷ [])
            (request_of request ∷ []) refl ∙ (rw (q.link, q.requests) refl
            ∙ sym (at_place number (sent_over (world.links number) (world.requests number) (request_of request ∷ []))
            (world.requests number)));
        replies = q.replies;
      }))
      (λ m ne. refl) (λ m ne. refl)
      (λ m ne. off_place m number (sent_over (world.links number) (world.requests number) (request_of request ∷ []))
      (world.requests m) ne)
      (λ m ne. refl);
  facts = ap (map fact_of) only.1 ∙ s.facts;
  sound = s.sound;
  waiting = s.waiting;
  keys = s.keys;
  writing = λ n p. s.writing n (p.0, omega (arith, p.1, seats.2));
}
