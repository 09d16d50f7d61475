-- What becomes of a world when outs are delivered, notes are told, and requests are sent.
use Rattle.lease_laws.proofs.Words.{◌++◌, ◌==◌, ◌∙◌, ◌∷◌, ◌≡◌, Bool, EachOut, EachRequest, Fact, HasRequestBytes, List, Note, Out}
use Rattle.lease_laws.proofs.Words.{OutHasBytes, Reply, Request, World, ℕ, [], all_delivered, ap, append-nil, append_assoc, arith}
use Rattle.lease_laws.proofs.Words.{delivered, fact_of, false, if◌then◌else◌, map, noted, put, refl, reply_of}
use Rattle.lease_laws.proofs.Words.{request_of, request_written, reverse, reverse-append, sym, true}
use Rattle.lease_laws.specs.messages.Written.{RepliesAreReadBack, RequestsAreReadBack}
use Rattle.lease_world.specs.world.Messages.{sent_among}
use Rattle.lease_world.specs.world.Seats.{fact_given, replies_to, replies_among}
use Rattle.share_server.specs.Written.{out_written}

-- ---- outs

abbrev pub told : Out → Fact
told (Out.Sent client reply) = Fact.Sent client
told (Out.Opened file client) = Fact.Opened file client
told (Out.Changed file client number patch) = Fact.Changed file client number patch

abbrev pub told_to : ℕ → List Out → List Reply
told_to client [] = []
told_to client (Out.Sent other reply ∷ outs) = if other == client then reply ∷ told_to client outs else told_to client outs
told_to client (_ ∷ outs) = told_to client outs

-- the world after the outs is this one but for replies and facts
pub record IsDelivered (world : World) (after : World) (outs : List Out) : Type 0 where
  pub count : after.count ≡ world.count
  pub clients : after.clients ≡ world.clients
  pub server : after.server ≡ world.server
  pub links : after.links ≡ world.links
  pub requests : after.requests ≡ world.requests
  pub replies : (c : ℕ) → after.replies c ≡ world.replies c ++ told_to c outs
  pub past : reverse after.past ≡ reverse world.past ++ map told outs

at_client : (c other : ℕ) (table : ℕ → List Reply) (reply : Reply) (rest : List Reply)
    → put table other (table other ++ reply ∷ []) c ++ rest ≡ table c ++ (if other == c then reply ∷ rest else rest)
unfolding put
at_client c other table reply rest = go (c == other) refl
  where
    go : (b : Bool) → (c == other) ≡ b
        → (if b then table other ++ reply ∷ [] else table c) ++ rest ≡ table c ++ (if other == c then reply ∷ rest else rest)
    go true e = let is : other ≡ c = grind arith in let same : (c == c) ≡ true = grind arith in
        rw (is, same) (append_assoc (table c) (reply ∷ []) rest)
    go false e = let off : (other == c) ≡ false = grind arith in rw off refl

reverse_cons : (fact : Fact) (past rest : List Fact) → reverse (fact ∷ past) ++ rest ≡ reverse past ++ (fact ∷ rest)
reverse_cons fact past rest =
    ap (λ (xs : List Fact). xs ++ rest) (reverse-append (fact ∷ []) past) ∙ append_assoc (reverse past) (fact ∷ []) rest

pub delivers : (world : World) (outs : List Out) → IsDelivered world (all_delivered world outs) outs
unfolding all_delivered
delivers world [] = record {
  count = refl;
  clients = refl;
  server = refl;
  links = refl;
  requests = refl;
  replies = λ c. sym (append-nil (world.replies c));
  past = sym (append-nil (reverse world.past));
}
delivers world (Out.Sent client reply ∷ outs) =
    let next : World = delivered world (Out.Sent client reply) in
    let rest : IsDelivered next (all_delivered next outs) outs = delivers next outs in
    record {
      count = rest.count;
      clients = rest.clients;
      server = rest.server;
      links = rest.links;
      requests = rest.requests;
      replies = λ c. rest.replies c ∙ at_client c client world.replies reply (told_to c outs);
      past = rest.past ∙ reverse_cons (Fact.Sent client) world.past (map told outs);
    }
delivers world (Out.Opened file client ∷ outs) =
    let next : World = delivered world (Out.Opened file client) in
    let rest : IsDelivered next (all_delivered next outs) outs = delivers next outs in
    record {
      count = rest.count;
      clients = rest.clients;
      server = rest.server;
      links = rest.links;
      requests = rest.requests;
      replies = λ c. rest.replies c;
      past = rest.past ∙ reverse_cons (Fact.Opened file client) world.past (map told outs);
    }
delivers world (Out.Changed file client number patch ∷ outs) =
    let next : World = delivered world (Out.Changed file client number patch) in
    let rest : IsDelivered next (all_delivered next outs) outs = delivers next outs in
    record {
      count = rest.count;
      clients = rest.clients;
      server = rest.server;
      links = rest.links;
      requests = rest.requests;
      replies = λ c. rest.replies c;
      past = rest.past ∙ reverse_cons (Fact.Changed file client number patch) world.past (map told outs);
    }

-- ---- outs as they are written

pub given_told : (outs : List Out) → map fact_given (map out_written outs) ≡ map told outs
given_told [] = refl
given_told (Out.Sent client reply ∷ outs) = ap (λ (xs : List Fact). Fact.Sent client ∷ xs) (given_told outs)
given_told (Out.Opened file client ∷ outs) = ap (λ (xs : List Fact). Fact.Opened file client ∷ xs) (given_told outs)
given_told (Out.Changed file client number patch ∷ outs) = let later = given_told outs in grind arith

pub given_replies : RepliesAreReadBack → (client : ℕ) (outs : List Out) → EachOut OutHasBytes outs
    → map reply_of (replies_to client (map out_written outs)) ≡ told_to client outs
given_replies back client [] each = refl
given_replies back client (Out.Sent other reply ∷ outs) each = let later = given_replies back client outs each.1 in grind arith
given_replies back client (Out.Opened file other ∷ outs) each = given_replies back client outs each.1
given_replies back client (Out.Changed file other number patch ∷ outs) each = given_replies back client outs each.1

-- the replies among them, all of them
pub replies_given : RepliesAreReadBack → (outs : List Out) → EachOut OutHasBytes outs
    → map reply_of (replies_among (map out_written outs)) ≡ sent_among outs
replies_given back [] each = refl
replies_given back (Out.Sent client reply ∷ outs) each = rw (back reply each.0, replies_given back outs each.1) refl
replies_given back (Out.Opened file other ∷ outs) each = replies_given back outs each.1
replies_given back (Out.Changed file other number patch ∷ outs) each = replies_given back outs each.1

-- ---- notes

pub record IsNoted (world : World) (after : World) (client : ℕ) (notes : List Note) : Type 0 where
  pub same : after ≡ record world { past = after.past }
  pub past : reverse after.past ≡ reverse world.past ++ map (fact_of client) notes

pub notes_told : (world : World) (client : ℕ) (notes : List Note) → IsNoted world (noted world client notes) client notes
unfolding noted
notes_told world client [] = record { same = refl; past = sym (append-nil (reverse world.past)) }
notes_told world client (note ∷ notes) =
    let next : World = record world { past = fact_of client note ∷ world.past } in
    let rest : IsNoted next (noted next client notes) client notes = notes_told next client notes in
    record {
      same = rest.same;
      past = rest.past ∙ reverse_cons (fact_of client note) world.past (map (fact_of client) notes);
    }

-- ---- requests

pub requests_back : RequestsAreReadBack → (requests : List Request) → EachRequest HasRequestBytes requests
    → map request_of (map request_written requests) ≡ requests
requests_back back [] each = refl
requests_back back (request ∷ requests) each = rw (back request each.0, requests_back back requests each.1) refl
