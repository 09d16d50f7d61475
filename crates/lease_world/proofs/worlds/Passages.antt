-- What becomes of requests on their way, by worlds of the code.
use Rattle.lease_laws.proofs.Words.{◌&&◌, ◌++◌, ◌+◌, ◌-◌, ◌<◌, ◌≤◌, ◌∙◌, ◌∷◌, ◌≡◌, Bool, Event, List, Progress, Request, Step}
use Rattle.lease_laws.proofs.Words.{T, World, ℕ, [], after, and_parts, ap, append-nil, append_assoc, arith, called, client_called}
use Rattle.lease_laws.proofs.Words.{client_of, drop, false, get_or, happens, if◌then◌else◌, leb→le, length, length-drop}
use Rattle.lease_laws.proofs.Words.{length-map, map, map-append, nat_le, nat_lt, put, refl, request_of, requests_sent, served}
use Rattle.lease_laws.proofs.Words.{stepped_in, subst, suc, sym, take, true, zero}
use Rattle.lease_laws.proofs.world.Kept.{IsKept, kept_forms}
use Rattle.lease_laws.proofs.world.cases.Events.{kept_by_event}
use Rattle.std.proofs.lemmas.List.{get_or-drop}
use Rattle.lease_facts.specs.Setups.{event_client, event_of}
use Rattle.lease_facts.specs.declared.setup.Event as code_event
use Rattle.lease_state.specs.declared.number.ClientNo.{ClientNo}
use Rattle.lease_state.specs.declared.request.Request as code_request
use Rattle.lease_facts.specs.Passages.{Passage, passage_meant}
use Rattle.lease_facts.specs.declared.passage.Passage as code
use Rattle.lease_world.specs.world.Passages.{gone, gone_noted, noted_between, passages_between}
use Rattle.lease_world.specs.world.Passages.{passages_from, passages_in, passages_noted, sent_noted}
use Rattle.lease_world.specs.world.Seats.{seat_in, IsPresent}
use Rattle.lease_world.specs.world.Stands.{CodeWorld, Stands}
use Rattle.lease_world.proofs.worlds.Delivered.{delivers, notes_told}
use Rattle.lease_world.proofs.worlds.First.{next_event, take_all, take_next}
use Rattle.lease_world.proofs.worlds.Obstacles.{facts_counted}

-- ---- a world keeps its clients

served_counts : (world : World) (progress : Progress) → (served world progress).count ≡ world.count
served_counts world progress = (delivers (record world { server = progress.server }) progress.outs).count

stepped_counts : (world : World) (client : ℕ) (step : Step) → (stepped_in world client step).count ≡ world.count
stepped_counts world client step = ap (λ (w : World). w.count) (notes_told
    (requests_sent (record world { clients = put world.clients client step.client }) client step.requests) client step.notes).same

counts_kept : (count : ℕ) → IsKept (λ (w : World). w.count ≡ count)
counts_kept count = record {
  messages = λ w requests replies links same. same;
  fact = λ w fact is same. same;
  call = λ w call same. served_counts w (called w.server call) ∙ same;
  step = λ w client call same. stepped_counts w client (client_called (w.clients client) call) ∙ same;
}

happens_counts : (world : World) (event : Event) → (happens world event).count ≡ world.count
happens_counts world event = kept_by_event (λ (w : World). w.count ≡ world.count)
    (kept_forms (λ (w : World). w.count ≡ world.count) (counts_kept world.count)) world event refl

-- ---- of one event

whose : (event : code_event.Event) → (event_client event).0 ≡ client_of (event_of event)
whose (code_event.TheVariants.App client command) = refl
whose event = refl

gone_meant : (event : code_event.Event) (facts : ℕ) → passage_meant (gone_noted event facts) ≡ gone (event_of event) facts
gone_meant (code_event.TheVariants.ServerTakes client) facts = refl
gone_meant event facts = refl

sent_meant : (client : ClientNo) (facts waiting : ℕ) (queue : List code_request.Request)
    → map passage_meant (sent_noted client facts (drop waiting queue))
    ≡ map (λ request. Passage.Sent client.0 request facts) (drop waiting (map request_of queue))
sent_meant client facts zero [] = refl
sent_meant client facts zero (request ∷ queue) =
    ap (λ (ps : List Passage). Passage.Sent client.0 (request_of request) facts ∷ ps) (sent_meant client facts zero queue)
sent_meant client facts (suc n) [] = refl
sent_meant client facts (suc n) (request ∷ queue) = sent_meant client facts n queue

fewer_meant : (b : Bool) (event : code_event.Event) (facts : ℕ)
    → map passage_meant (if b then gone_noted event facts ∷ [] else []) ≡ (if b then gone (event_of event) facts ∷ [] else [])
fewer_meant true event facts = ap (λ (p : Passage). p ∷ []) (gone_meant event facts)
fewer_meant false event facts = refl

between_meant : (event : code_event.Event) (facts waiting later : ℕ) (queue : List code_request.Request)
    → map passage_meant (noted_between event facts waiting queue later)
    ≡ passages_between (event_of event) facts waiting (map request_of queue) later
between_meant event facts waiting later queue =
    map-append passage_meant (if nat_lt (length queue) waiting then gone_noted event facts ∷ [] else [])
    (sent_noted (event_client event) later (drop waiting queue))
    ∙ (ap (λ (ps : List Passage). ps ++ map passage_meant (sent_noted (event_client event) later (drop waiting queue)))
    (fewer_meant (nat_lt (length queue) waiting) event facts
    ∙ ap (λ (n : ℕ). if nat_lt n waiting then gone (event_of event) facts ∷ [] else []) (sym (length-map queue request_of)))
    ∙ ap (λ (ps : List Passage).
    (if nat_lt (length (map request_of queue)) waiting then gone (event_of event) facts ∷ [] else []) ++ ps)
    (sent_meant (event_client event) later waiting queue
    ∙ ap (λ (n : ℕ). map (λ request. Passage.Sent n request later) (drop waiting (map request_of queue))) (whose event)))

there_from : (n count : ℕ) (old : CodeWorld) → (nat_le 1 n && nat_le n count) ≡ true → count ≡ length old.seats
    → IsPresent n old.seats
there_from n count old e is =
    let parts = and_parts (nat_le 1 n) (nat_le n count) e in
    (leb→le 1 n (subst T (sym parts.0) tt), subst (λ (m : ℕ). n ≤ m) is (leb→le n count (subst T (sym parts.1) tt)))

pub in_meant : (old new : CodeWorld) (world : World) (event : code_event.Event) (facts waiting : ℕ) → Stands old world
    → Stands new (happens world (event_of event)) → facts ≡ length old.facts
    → waiting ≡ length (seat_in old.seats (event_client event).0).requests
    → map passage_meant (passages_noted event facts waiting new) ≡ passages_in world (event_of event)
unfolding passages_in
in_meant old new world event facts waiting s t counted waits =
    let n : ℕ = (event_client event).0 in
    let next : World = happens world (event_of event) in
    let seats : world.count ≡ length new.seats = sym (happens_counts world (event_of event)) ∙ t.count in
    let Told : ℕ → Type 0 = λ m. map passage_meant (passages_noted event facts waiting new)
    ≡ (if nat_le 1 m && nat_le m world.count
    then passages_between (event_of event) (length world.past) (length (world.requests m)) (next.requests m) (length next.past)
    else []) in
    subst Told (whose event) (rw (sym seats) (go (nat_le 1 n && nat_le n world.count) refl seats))
  where
    go : (b : Bool) → (nat_le 1 (event_client event).0 && nat_le (event_client event).0 world.count) ≡ b
        → world.count ≡ length new.seats → map passage_meant
        (if b then noted_between event facts waiting (seat_in new.seats (event_client event).0).requests (length new.facts)
        else [])
        ≡ (if b then passages_between (event_of event) (length world.past) (length (world.requests (event_client event).0))
        ((happens world (event_of event)).requests (event_client event).0) (length (happens world (event_of event)).past) else [])
    go false e seats = refl
    go true e seats =
        let n : ℕ = (event_client event).0 in
        let next : World = happens world (event_of event) in
        let mine = (s.seats n (there_from n world.count old e s.count)).requests in
        let queue = (t.seats n (there_from n world.count new e seats)).requests in
        let before : waiting ≡ length (world.requests n) =
        waits ∙ (sym (length-map (seat_in old.seats n).requests request_of) ∙ ap length mine) in
        between_meant event facts waiting (length new.facts) (seat_in new.seats n).requests
        ∙ (ap (λ (m : ℕ). passages_between (event_of event) m waiting (map request_of (seat_in new.seats n).requests)
        (length new.facts)) (counted ∙ facts_counted old world s)
        ∙ (ap (λ (m : ℕ). passages_between (event_of event) (length world.past) m
        (map request_of (seat_in new.seats n).requests) (length new.facts)) before
        ∙ (ap (λ (q : List Request). passages_between (event_of event) (length world.past) (length (world.requests n)) q
        (length new.facts)) queue
        ∙ ap (λ (m : ℕ). passages_between (event_of event) (length world.past) (length (world.requests n)) (next.requests n) m)
        (facts_counted new next t))))

-- ---- of a run

passages_one_more : (first : World) (events : List Event) (event : Event)
    → passages_from first (events ++ event ∷ []) ≡ passages_from first events ++ passages_in (after first events) event
unfolding passages_from after
passages_one_more first [] event = append-nil (passages_in first event)
passages_one_more first (e ∷ events) event =
    ap (λ ps. passages_in first e ++ ps) (passages_one_more (happens first e) events event)
    ∙ sym (append_assoc (passages_in first e) (passages_from (happens first e) events)
    (passages_in (after (happens first e) events) event))

pub one_more_passed : (old new : CodeWorld) (first : World) (events : List code_event.Event) (n : ℕ) (d : code_event.Event)
    (facts waiting : ℕ) (passages more : List code.Passage) → n < length events
    → Stands old (after first (take n (map event_of events)))
    → Stands new (happens (after first (take n (map event_of events))) (event_of (get_or events n d)))
    → facts ≡ length old.facts → waiting ≡ length (seat_in old.seats (event_client (get_or events n d)).0).requests
    → more ≡ passages ++ passages_noted (get_or events n d) facts waiting new
    → map passage_meant passages ≡ passages_from first (take n (map event_of events))
    → map passage_meant more ≡ passages_from first (take (n + 1) (map event_of events))
one_more_passed old new first events n d facts waiting passages more lt s t counted waits is so_far =
    let event : Event = event_of (get_or events n d) in
    let before : List Event = take n (map event_of events) in
    let next : take (n + 1) (map event_of events) ≡ before ++ event ∷ [] = next_event events n d lt in
    ap (map passage_meant) is
    ∙ (map-append passage_meant passages (passages_noted (get_or events n d) facts waiting new)
    ∙ (ap (λ (ps : List Passage). ps ++ map passage_meant (passages_noted (get_or events n d) facts waiting new)) so_far
    ∙ (ap (λ (ps : List Passage). passages_from first before ++ ps)
    (in_meant old new (after first before) (get_or events n d) facts waiting s t counted waits)
    ∙ (sym (passages_one_more first before event) ∙ ap (λ (es : List Event). passages_from first es) (sym next)))))

pub none_passed : (first : World) (passages : List code.Passage) (events : List Event) → passages ≡ []
    → map passage_meant passages ≡ passages_from first (take 0 events)
unfolding passages_from
none_passed first passages events none = ap (map passage_meant) none

pub all_passed : (first : World) (passages : List code.Passage) (events : List code_event.Event) (index : ℕ)
    → length events ≤ index → map passage_meant passages ≡ passages_from first (take index (map event_of events))
    → map passage_meant passages ≡ passages_from first (map event_of events)
all_passed first passages events index end so =
    so ∙ ap (λ (es : List Event). passages_from first es)
    (take_all (map event_of events) index (omega (arith, end, length-map events event_of)))

-- ---- of one client

pub sent_one_more : (client : ClientNo) (facts waiting place : ℕ) (queue : List code_request.Request)
    (request d : code_request.Request) (old so_far new : List code.Passage) → waiting ≤ place → place < length queue
    → request ≡ get_or queue place d
    → so_far ≡ old ++ sent_noted client facts (take (place - waiting) (drop waiting queue))
    → new ≡ so_far ++ code.TheVariants.Sent client request facts ∷ []
    → new ≡ old ++ sent_noted client facts (take (place + 1 - waiting) (drop waiting queue))
sent_one_more client facts waiting place queue request d old so_far new le lt at held is =
    let n : ℕ = place - waiting in
    let Sent : code_request.Request → code.Passage = λ one. code.TheVariants.Sent client one facts in
    let left : n < length (drop waiting queue) = omega (arith, le, lt, length-drop waiting queue) in
    let there : get_or (drop waiting queue) n d ≡ request =
    get_or-drop waiting queue n d ∙ (ap (λ (m : ℕ). get_or queue m d) (omega (arith, le)) ∙ sym at) in
    let next : take (place + 1 - waiting) (drop waiting queue) ≡ take n (drop waiting queue) ++ request ∷ [] =
    ap (λ (m : ℕ). take m (drop waiting queue)) (omega (arith, le))
    ∙ (take_next (drop waiting queue) n d left
    ∙ ap (λ (one : code_request.Request). take n (drop waiting queue) ++ one ∷ []) there)
    in
    is ∙ (ap (λ (ps : List code.Passage). ps ++ Sent request ∷ []) held
    ∙ (append_assoc old (sent_noted client facts (take n (drop waiting queue))) (Sent request ∷ [])
    ∙ ap (λ (ps : List code.Passage). old ++ ps) (sym (ap (map Sent) next
    ∙ map-append Sent (take n (drop waiting queue)) (request ∷ [])))))

pub noted_after : (old mid new : List code.Passage) (event : code_event.Event) (facts waiting left : ℕ) (world : CodeWorld)
    (client : ClientNo) → client ≡ event_client event → (nat_le 1 client.0 && nat_le client.0 (length world.seats)) ≡ true
    → left ≡ length (seat_in world.seats client.0).requests
    → mid ≡ old ++ (if nat_lt left waiting then gone_noted event facts ∷ [] else [])
    → new ≡ mid ++ sent_noted client (length world.facts) (drop waiting (seat_in world.seats client.0).requests)
    → new ≡ old ++ passages_noted event facts waiting world
noted_after old mid new event facts waiting left world client of there count less sent =
    let n : ClientNo = event_client event in
    let is_there : (nat_le 1 n.0 && nat_le n.0 (length world.seats)) ≡ true =
    subst (λ (m : ClientNo). (nat_le 1 m.0 && nat_le m.0 (length world.seats)) ≡ true) of there in
    let some : List code.Passage = if nat_lt left waiting then gone_noted event facts ∷ [] else [] in
    let more : List code.Passage =
    sent_noted client (length world.facts) (drop waiting (seat_in world.seats client.0).requests) in
    rw is_there (sent ∙ (ap (λ (ps : List code.Passage). ps ++ more) less ∙ (append_assoc old some more
    ∙ (ap (λ (m : ℕ). old ++ ((if nat_lt m waiting then gone_noted event facts ∷ [] else []) ++ more)) count
    ∙ ap (λ (m : ClientNo). old
    ++ ((if nat_lt (length (seat_in world.seats m.0).requests) waiting then gone_noted event facts ∷ [] else [])
    ++ sent_noted m (length world.facts) (drop waiting (seat_in world.seats m.0).requests))) of))))
