-- In every run a good client's cached reads are fresh.
use Rattle.lease_laws.proofs.Words.{◌++◌, ◌∙◌, ◌∷◌, ◌≡◌, Among, Call, Client, ClientCall, EachFact, Event, Fact, FreshRead}
use Rattle.lease_laws.proofs.Words.{IsSoundClient, Link, List, LiveEntry, Note, Out, Phase, Progress, Setup, Some, Step, World}
use Rattle.lease_laws.proofs.Words.{ℕ, [], after, ap, ap₂, arith, client_called, cut, expire, fact_of, false, first_world_under}
use Rattle.lease_laws.proofs.Words.{happened, has_strayed, inl, inr, is_allowed_setup, is_good, is_served, is_start, join}
use Rattle.lease_laws.proofs.Words.{last_of, last_sending, list_all, machine_key, not, patches, patches_of, put, receive, refl}
use Rattle.lease_laws.proofs.Words.{reverse, reverse-reverse, scavenge, sendings, served, slice_get, starts_from, stepped_in}
use Rattle.lease_laws.proofs.Words.{subst, suc, sym, takings, true, unsent_in, view, zero}
use Rattle.lease_laws.proofs.Words.{Rules}
use Rattle.lease_laws.proofs.client.cases.Commands.{IsEntry, sent_of}
use Rattle.lease_laws.proofs.records.Content.{content_when_sent}
use Rattle.lease_laws.proofs.records.Given.{Given, first_given, given_kept}
use Rattle.lease_laws.proofs.records.Runs.{IsBegun, all_reversed, all_starts, begun_kept, first_begun}
use Rattle.lease_laws.proofs.records.Writes.{writes_now}
use Rattle.lease_laws.proofs.server.Lists.{and_parts, not_parts}
use Rattle.lease_laws.proofs.world.FileIds.{IsCountedWorld, all_delivered_past, first_counted, told}
use Rattle.lease_laws.proofs.world.Kept.{kept_forms, served-clients}
use Rattle.lease_laws.proofs.world.Timers.{IsTimely, first_timely, timely_forms, unexpired}
use Rattle.lease_laws.proofs.world.cases.Events.{Both, HasForms, IsTold, Keeps, KeepsWhere, both_forms, call_served}
use Rattle.lease_laws.proofs.world.cases.Events.{kept_by_run, link_lost, link_made, reply_off, two_forms}
use Rattle.lease_coherence.specs.Parts.{InRuns}
use Rattle.lease_coherence.proofs.layers.AllRuns.{first_record, record_carried}
use Rattle.lease_coherence.proofs.layers.Layers.{HasRecord}
use Rattle.lease_coherence.proofs.moves.Events.{Both, carried_forms}
use Rattle.lease_coherence.proofs.moves.Frames.{stepped_past}
use Rattle.lease_coherence.proofs.records.Later.{past_noted}
use Rattle.lease_coherence.proofs.wellformed.Notes.{EachNote}
use Rattle.lease_coherence.proofs.writes.Answered.{ground_of}
use Rattle.lease_coherence.proofs.writes.Noted.{IsPlainNote, LeavesWrites, TellsWrites}
use Rattle.lease_coherence.proofs.writes.Unanswered.{call_tells_writes}

-- ---- a read from the cache

get_among : {X : Type 0} (xs : List X) (n : ℕ) (x : X) → slice_get xs n ≡ Some x → Among x xs
get_among {X} [] n x e = absurd (never n e)
  where
    never : (m : ℕ) → slice_get {X = X} [] m ≡ Some x → ⊥
    never zero e = cc
    never (suc m) e = cc
get_among (y ∷ xs) zero x e = inl (some_same y x e)
  where
    some_same : {X : Type 0} (a b : X) → Some a ≡ Some b → b ≡ a
    some_same a b e = cc
get_among (y ∷ xs) (suc n) x e = inr (get_among xs n x e)

last_among : (count : ℕ) (places : List (List Fact)) (place : List Fact) → last_of count places ≡ Some place → Among place places
last_among zero places place e = let c : ⊥ = cc in absurd c
last_among (suc count) places place e = get_among places count place e

sending_among : (c : ℕ) (past place : List Fact) → last_sending c past ≡ Some place → Among place (sendings c past)
unfolding last_sending
sending_among c past place e = last_among (takings c past) (sendings c past) place e

pub timely : (rules : Rules) (setup : Setup) (events : List Event) (c file : ℕ)
    → is_served c (after (first_world_under rules setup) events).past ≡ true
    → (after (first_world_under rules setup) events).server.expired
    (machine_key (after (first_world_under rules setup) events) c file) ≡ false
timely rules setup events = unexpired (after (first_world_under rules setup) events)
    (kept_by_run IsTimely timely_forms (first_world_under rules setup) events (first_timely rules setup))

-- what is known of the world of every run
abbrev IsReached : World → Type 0
IsReached world = Both (Both IsCountedWorld HasRecord) (Both IsTimely (Both IsBegun Given)) world

reached_forms : HasForms (Keeps IsReached)
reached_forms = two_forms (Both IsCountedWorld HasRecord) (Both IsTimely (Both IsBegun Given))
    (carried_forms HasRecord ground_of record_carried)
    (two_forms IsTimely (Both IsBegun Given) timely_forms
    (two_forms IsBegun Given (kept_forms IsBegun begun_kept) (kept_forms Given given_kept)))

first_reached : (rules : Rules) (setup : Setup) → is_allowed_setup setup ≡ true → IsReached (first_world_under rules setup)
first_reached rules setup allowed = (
  (first_counted rules setup, first_record rules setup allowed),
  (first_timely rules setup, (first_begun rules setup, first_given rules setup)),
)

read_is_fresh : (world : World) → IsReached world → (c at : ℕ) (live : LiveEntry)
    (base : List ℕ) → IsEntry (world.clients c) at (Phase.Live live) → live.base ≡ Some base
    → FreshRead (Fact.CachedRead c at (view base (sent_of (world.clients c) at) live.unsent)) world.past
unfolding is_good
read_is_fresh world ((counted, v), (t, (begun, given))) c at live base is has good =
    let client = world.clients c in
    let parts = and_parts (not (has_strayed c world.past)) (is_served c world.past) good in
    let up = ((ground_of world v).tied c).served parts.1 in
    let f = v.fresh c (not_parts (has_strayed c world.past) parts.0) up at (unexpired world t c at parts.1) in
    let b = f.base live is.is_so base has in
    let place = (b.seen).place in (
      place,
      (b.seen).is_last,
      ap₂ (λ x ws. patches x ws) (b.same ∙ sym (b.seen).content
          ∙ sym (content_when_sent c at world.past place begun.first
          (sending_among c world.past place (b.seen).is_last))) (sym (writes_now c at world.past (given.numbered c).gives
          ∙ ap patches_of (v.writes c at is.known ∙ ap (λ p. sent_of client at ++ unsent_in p) is.is_so))),
    )

-- ---- facts that are no reads

abbrev AllFresh : List Fact → Type 0
AllFresh past = EachFact FreshRead past

told_fresh : (past : List Fact) (outs : List Out) → AllFresh past → AllFresh (told past outs)
told_fresh past [] a = a
told_fresh past (Out.Sent client reply ∷ outs) a = told_fresh (Fact.Sent client ∷ past) outs (tt, a)
told_fresh past (Out.Opened file client ∷ outs) a = told_fresh (Fact.Opened file client ∷ past) outs (tt, a)
told_fresh past (Out.Changed file client number patch ∷ outs) a =
    told_fresh (Fact.Changed file client number patch ∷ past) outs (tt, a)

served_fresh : (world : World) (progress : Progress) → AllFresh world.past → AllFresh (served world progress).past
served_fresh world progress a = subst AllFresh
    (sym (all_delivered_past (record world { server = progress.server }) progress.outs)) (told_fresh world.past progress.outs a)

plain_fresh : (c : ℕ) (past : List Fact) (notes : List Note) → EachNote IsPlainNote notes → AllFresh past
    → AllFresh (past_noted c past notes)
plain_fresh c past [] each a = a
plain_fresh c past (Note.Wrote file number patch buffered ∷ notes) each a = absurd each.0
plain_fresh c past (Note.CachedRead file bytes ∷ notes) each a = absurd each.0
plain_fresh c past (note ∷ notes) each a = plain_fresh c (fact_of c note ∷ past) notes each.1 (tt, a)

starts_fresh : (past : List Fact) → list_all is_start past ≡ true → AllFresh past
starts_fresh [] all = tt
starts_fresh (Fact.Start file bytes ∷ past) all = (tt, starts_fresh past all)
starts_fresh (_ ∷ past) all = let x : ⊥ = cc in absurd x

-- a step that is no command
stepped_fresh : (world : World) (c : ℕ) (step : Step) → LeavesWrites (world.clients c) step → AllFresh world.past
    → AllFresh (stepped_in world c step).past
stepped_fresh world c step l a = subst AllFresh (sym (stepped_past world c step)) (plain_fresh c world.past step.notes l.none a)

-- a command
commanded_fresh : (world : World) (c : ℕ) (step : Step) → TellsWrites (world.clients c) step
    → ((at : ℕ) (live : LiveEntry) (base : List ℕ) → IsEntry (world.clients c) at (Phase.Live live) → live.base ≡ Some base
    → FreshRead (Fact.CachedRead c at (view base (sent_of (world.clients c) at) live.unsent)) world.past)
    → AllFresh world.past → AllFresh (stepped_in world c step).past
commanded_fresh world c step (TellsWrites.Leaves l) reads a = stepped_fresh world c step l a
commanded_fresh world c step (TellsWrites.Adds at number patch buffered notes more) reads a =
    subst AllFresh (sym (stepped_past world c step ∙ ap (past_noted c world.past) notes)) (tt, a)
commanded_fresh world c step (TellsWrites.Reads at live base is has caches same notes) reads a =
    subst AllFresh (sym (stepped_past world c step ∙ ap (past_noted c world.past) notes)) (reads at live base is has, a)

-- ---- events

connect_fresh : (world : World) (client : ℕ) → IsSoundClient (world.clients client) → AllFresh world.past
    → AllFresh (stepped_in (call_served (link_made world client) (Call.Join client)) client
    (client_called (world.clients client) ClientCall.Connected)).past
connect_fresh world client s a =
    let back : World = link_made world client in
    let joins = served back (join world.server client) in
    let same : joins.clients ≡ world.clients = served-clients back (join world.server client) in
    stepped_fresh joins client _
    (subst (λ (t : ℕ → Client). LeavesWrites (t client) (client_called (world.clients client) ClientCall.Connected)) (sym same)
    (call_tells_writes (world.clients client) ClientCall.Connected s)) (served_fresh back (join world.server client) (tt, a))

abbrev FreshIn : World → Type 0
FreshIn world = AllFresh world.past

told_one : (client : ℕ) (fact : Fact) (past : List Fact) → IsTold client fact → FreshRead fact past
told_one client fact past is = grind arith

sound_in : (world : World) → IsReached world → (c : ℕ) → IsSoundClient (world.clients c)
sound_in world r = (ground_of world (r.0).1).clients

fresh_forms : HasForms (KeepsWhere IsReached FreshIn)
fresh_forms = record {
  told = λ world client fact some is r n a. (told_one client fact world.past is, a);
  command = λ world client command some r n a. commanded_fresh world client _
      (call_tells_writes (world.clients client) (ClientCall.Commanded command) (sound_in world r client))
      (λ at live base is has. read_is_fresh world r client at live base is has) a;
  request = λ world client request queue some first r n a.
      served_fresh (record world { requests = put world.requests client queue }) (receive world.server client request) a;
  reply = λ world client reply queue some first r n a. stepped_fresh (reply_off world client queue) client _
      (call_tells_writes (world.clients client) (ClientCall.Taken reply) (sound_in world r client)) (tt, a);
  cut = λ world client some up r n a. served_fresh (link_lost world client) (cut world.server client) (tt, a);
  notice = λ world client some cut r n a. stepped_fresh (record world { links = put world.links client Link.Down })
      client _ (call_tells_writes (world.clients client) ClientCall.Noticed (sound_in world r client)) a;
  connect = λ world client some down r n a. connect_fresh world client (sound_in world r client) a;
  timer = λ world client file some on breaks r n a. served_fresh (happened world (Fact.Expired client file))
      (expire world.server (machine_key world client file)) (tt, a);
  scavenge = λ world file_id r n a. served_fresh world (scavenge world.server file_id) a;
  stray = λ world client request some up has r n a. a;
}

-- ---- runs

pub reads_are_fresh : InRuns FreshRead
unfolding first_world_under
reads_are_fresh rules setup events allowed = subst (EachFact FreshRead)
    (sym (reverse-reverse (after (first_world_under rules setup) events).past))
    (kept_by_run (Both IsReached FreshIn) (both_forms IsReached FreshIn reached_forms fresh_forms)
    (first_world_under rules setup) events (
      first_reached rules setup allowed,
      starts_fresh (reverse (starts_from 1 setup.files))
          (all_reversed (starts_from 1 setup.files) [] (all_starts 1 setup.files) refl),
    )).1
