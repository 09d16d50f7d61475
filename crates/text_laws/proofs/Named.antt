-- In the record of every run the clients that its facts name, but for what the server gives out, are numbered from 1, and so are
-- the files that it starts, none longer than a file may be.
use Rattle.lease_laws.proofs.Words.{◌&&◌, ◌+◌, ◌∷◌, ◌≡◌, Bool, Call, Event, Fact, Link, List, None, Note, Option, Out, Progress}
use Rattle.lease_laws.proofs.Words.{Setup, Some, Step, World, ℕ, [], after, all_delivered, arith, delivered, fact_of}
use Rattle.lease_laws.proofs.Words.{first_world_under, happened, is_allowed_setup, is_content, list_all, nat_le, nat_tests, noted}
use Rattle.lease_laws.proofs.Words.{put, refl, requests_sent, reverse_aux, served, starts_from, stepped_in, true, client_called}
use Rattle.lease_laws.proofs.Words.{ClientCall, Rules}
use Rattle.lease_laws.proofs.server.Lists.{and_parts, and_both}
use Rattle.lease_laws.proofs.world.cases.Events.{HasForms, IsTold, Keeps, call_served, kept_by_run, link_lost, link_made}
use Rattle.lease_laws.proofs.world.cases.Events.{reply_off}
use Rattle.lease_facts.specs.Facts.{client_about}

abbrev pub is_numbered : Option ℕ → Bool
is_numbered None = true
is_numbered (Some client) = nat_le 1 client

-- a fact that the server gives out is looked at elsewhere
unfoldable pub is_named : Fact → Bool
is_named (Fact.Start file bytes) = nat_le 1 file && is_content bytes
is_named (Fact.Sent client) = true
is_named (Fact.Opened file client) = true
is_named (Fact.Changed file client number patch) = true
is_named other = is_numbered (client_about other)

abbrev IsNamed : World → Type 0
IsNamed world = list_all is_named world.past ≡ true

-- ---- what the server gives out, and what a client notes

delivered_named : (world : World) (out : Out) → IsNamed world → IsNamed (delivered world out)
unfolding is_named
delivered_named world out n = grind arith

all_delivered_named : (world : World) (outs : List Out) → IsNamed world → IsNamed (all_delivered world outs)
unfolding all_delivered
all_delivered_named world [] n = n
all_delivered_named world (out ∷ outs) n = all_delivered_named (delivered world out) outs (delivered_named world out n)

served_named : (world : World) (progress : Progress) → IsNamed world → IsNamed (served world progress)
served_named world progress n = all_delivered_named (record world { server = progress.server }) progress.outs n

note_named : (client : ℕ) (note : Note) → nat_le 1 client ≡ true → is_named (fact_of client note) ≡ true
unfolding is_named
note_named client note some = grind arith

noted_named : (world : World) (client : ℕ) (notes : List Note) → nat_le 1 client ≡ true → IsNamed world
    → IsNamed (noted world client notes)
unfolding noted
noted_named world client [] some n = n
noted_named world client (note ∷ notes) some n =
    noted_named (happened world (fact_of client note)) client notes some (and_both _ _ (note_named client note some) n)

stepped_named : (world : World) (client : ℕ) (step : Step) → nat_le 1 client ≡ true → IsNamed world
    → IsNamed (stepped_in world client step)
stepped_named world client step some n = noted_named
    (requests_sent (record world { clients = put world.clients client step.client }) client step.requests) client step.notes
    some n

-- ---- events

told_named : (client : ℕ) (fact : Fact) → nat_le 1 client ≡ true → IsTold client fact → is_named fact ≡ true
unfolding is_named
told_named client fact some is = grind arith

named_forms : HasForms (Keeps IsNamed)
unfolding is_named
named_forms = record {
  told = λ world client fact some is n. and_both _ _ (told_named client fact some is) n;
  command = λ world client command some n.
      stepped_named world client (client_called (world.clients client) (ClientCall.Commanded command)) some n;
  request = λ world client request queue some first n.
      served_named (record world { requests = put world.requests client queue }) _ n;
  reply = λ world client reply queue some first n.
      stepped_named (reply_off world client queue) client (client_called (world.clients client) (ClientCall.Taken reply)) some
      (and_both (nat_le 1 client) _ some n);
  cut = λ world client some up n. served_named (link_lost world client) _ (and_both (nat_le 1 client) _ some n);
  notice = λ world client some cut n. stepped_named (record world { links = put world.links client Link.Down }) client
      (client_called (world.clients client) ClientCall.Noticed) some n;
  connect = λ world client some down n. stepped_named (call_served (link_made world client) (Call.Join client)) client
      (client_called (world.clients client) ClientCall.Connected) some
      (served_named (link_made world client) _ (and_both (nat_le 1 client) _ some n));
  timer = λ world client file some on breaks n.
      served_named (happened world (Fact.Expired client file)) _ (and_both (nat_le 1 client) _ some n);
  scavenge = λ world file_id n. served_named world _ n;
  stray = λ world client request some up has n. n;
}

-- ---- where runs begin

starts_named : (file : ℕ) (files : List (List ℕ)) → nat_le 1 file ≡ true → list_all is_content files ≡ true
    → list_all is_named (starts_from file files) ≡ true
unfolding starts_from is_named
starts_named file [] some fit = refl
starts_named file (bytes ∷ files) some fit =
    let later = starts_named (file + 1) files (grind (arith, nat_tests)) (grind (arith, fit)) in grind (arith, some, fit)

pub all_reversed : (test : Fact → Bool) (facts others : List Fact) → list_all test facts ≡ true → list_all test others ≡ true
    → list_all test (reverse_aux facts others) ≡ true
all_reversed test [] others all more = more
all_reversed test (fact ∷ facts) others all more =
    all_reversed test facts (fact ∷ others) (grind (arith, all)) (grind (arith, all, more))

first_named : (rules : Rules) (setup : Setup) → is_allowed_setup setup ≡ true → IsNamed (first_world_under rules setup)
unfolding first_world_under is_allowed_setup
first_named rules setup allowed =
    let fit = (and_parts _ _ (and_parts _ _ (and_parts _ _ allowed).0).0).1 in
    all_reversed is_named (starts_from 1 setup.files) [] (starts_named 1 setup.files refl fit) refl

pub run_named : (rules : Rules) (setup : Setup) (events : List Event) → is_allowed_setup setup ≡ true
    → list_all is_named (after (first_world_under rules setup) events).past ≡ true
run_named rules setup events allowed = kept_by_run IsNamed named_forms (first_world_under rules setup) events (first_named rules setup allowed)
