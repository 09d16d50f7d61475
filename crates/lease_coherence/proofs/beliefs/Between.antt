-- One write cache also between the facts of an event: where a client notes several beliefs, each is what it believes once
-- the event is over, so that of each file all is believed that was believed before it, or all that is believed after it.
use Rattle.lease_laws.proofs.Words.{◌&&◌, ◌==◌, ◌||◌, ◌∙◌, ◌∷◌, ◌≡◌, ◌≢◌, ◌⊎◌, Bool, Call, Client, ClientCall, EachBeginning}
use Rattle.lease_laws.proofs.Words.{Fact, IsSoundClient, IsSoundPhase, Link, List, Note, OneWriteCache, Out, Phase, Progress}
use Rattle.lease_laws.proofs.Words.{Setup, State, World, ℕ, [], ⊎_elim, ⊤, after, ap, arith, belief, belief_in, believed}
use Rattle.lease_laws.proofs.Words.{client_called, cut, eq-eqb, eqb-true, expire, fact_of, false, first_world_under, happened}
use Rattle.lease_laws.proofs.Words.{has_strayed, if◌then◌else◌, inl, inr, is_down, is_good, is_served, is_start, join, list_all}
use Rattle.lease_laws.proofs.Words.{machine_key, not, nothing_cached, put, receive, refl, reverse, reverse-reverse, scavenge}
use Rattle.lease_laws.proofs.Words.{served, starts_from, stepped_in, subst, sym, true, true≢false}
use Rattle.lease_laws.proofs.Words.{Rules}
use Rattle.lease_laws.proofs.client.Thin.{put_same}
use Rattle.lease_laws.proofs.records.Runs.{all_reversed, all_starts}
use Rattle.lease_laws.proofs.server.Lists.{and_both, and_parts, clash, either}
use Rattle.lease_laws.proofs.world.Beliefs.{Agrees, agrees_kept, first_agrees}
use Rattle.lease_laws.proofs.world.FileIds.{IsCountedWorld, all_delivered_past, fact_told, first_counted, told}
use Rattle.lease_laws.proofs.world.Kept.{kept_forms, served-clients}
use Rattle.lease_laws.proofs.world.Links.{by_client}
use Rattle.lease_laws.proofs.world.Runs.{stepped_clients}
use Rattle.lease_laws.proofs.world.Timers.{IsTimely, first_timely, timely_forms}
use Rattle.lease_laws.proofs.world.cases.Events.{Both, HasForms, IsTold, Keeps, KeepsWhere, both_forms, call_served}
use Rattle.lease_laws.proofs.world.cases.Events.{call_stepped, kept_by_run, link_lost, link_made, reply_off, two_forms}
use Rattle.lease_coherence.specs.Parts.{RunsHaveOneWriteCache}
use Rattle.lease_coherence.proofs.beliefs.WriteCaches.{one_write_cache}
use Rattle.lease_coherence.proofs.layers.AllRuns.{first_layers, layers_carried}
use Rattle.lease_coherence.proofs.layers.Layers.{HasLayers}
use Rattle.lease_coherence.proofs.moves.Events.{carried_forms}
use Rattle.lease_coherence.proofs.moves.Frames.{stepped_past}
use Rattle.lease_coherence.proofs.records.Later.{past_noted}
use Rattle.lease_coherence.proofs.wellformed.Notes.{EachNote, IsFineNote, call_fine}

-- ---- facts that say nothing of beliefs, and make no client good

abbrev IsNeutral : Fact → Type 0
IsNeutral (Fact.Joined client) = ⊥
IsNeutral (Fact.Believes client file state) = ⊥
IsNeutral fact = ⊤

right_of : (a b : Bool) → (a && b) ≡ true → b ≡ true
right_of a b e = (and_parts a b e).1

neutral_served : (fact : Fact) (past : List Fact) (c : ℕ) → IsNeutral fact → is_served c (fact ∷ past) ≡ true
    → is_served c past ≡ true
unfolding is_served
neutral_served (Fact.Joined client) past c n e = absurd n
neutral_served (Fact.Believes client file state) past c n e = absurd n
neutral_served (Fact.Dropped client) past c n e = right_of (not (client == c)) (is_served c past) e
neutral_served (Fact.Expired client file) past c n e = right_of (not (client == c)) (is_served c past) e
neutral_served fact past c n e = e

not_strayed : (fact : Fact) (past : List Fact) (c : ℕ) → not (has_strayed c (fact ∷ past)) ≡ true
    → not (has_strayed c past) ≡ true
unfolding has_strayed
not_strayed (Fact.Strayed client) past c e = if_or (client == c) (has_strayed c past) e
  where
    if_or : (a b : Bool) → not (a || b) ≡ true → not b ≡ true
    if_or true b e = let x : ⊥ = cc in absurd x
    if_or false b e = e
not_strayed (_) past c e = e

neutral_good : (fact : Fact) (past : List Fact) (c : ℕ) → IsNeutral fact → is_good c (fact ∷ past) ≡ true → is_good c past ≡ true
unfolding is_good
neutral_good fact past c n e = let p = and_parts (not (has_strayed c (fact ∷ past))) (is_served c (fact ∷ past)) e in
    and_both (not (has_strayed c past)) (is_served c past) (not_strayed fact past c p.0) (neutral_served fact past c n p.1)

neutral_believed : (fact : Fact) (past : List Fact) (c file : ℕ) → IsNeutral fact
    → believed c file (fact ∷ past) ≡ believed c file past
unfolding believed
neutral_believed (Fact.Believes client of_file state) past c file n = absurd n
neutral_believed (_) past c file n = refl

neutral_cache : (fact : Fact) (past : List Fact) → IsNeutral fact → OneWriteCache past → OneWriteCache (fact ∷ past)
neutral_cache fact past n o file c other ne good w fine = neutral_believed fact past other file n
    ∙ o file c other ne (neutral_good fact past c n good)
    (ap (λ (s : State). s.write) (sym (neutral_believed fact past c file n)) ∙ w) (neutral_good fact past other n fine)

-- ---- all beginnings

abbrev Always : List Fact → Type 0
Always past = EachBeginning OneWriteCache past

always_now : (past : List Fact) → Always past → OneWriteCache past
always_now [] a = a
always_now (fact ∷ past) a = a.0

neutral_always : (fact : Fact) (past : List Fact) → IsNeutral fact → Always past → Always (fact ∷ past)
neutral_always fact past n a = (neutral_cache fact past n (always_now past a), a)

told_neutral : (out : Out) → IsNeutral (fact_told out)
told_neutral (Out.Sent client reply) = tt
told_neutral out = tt

told_always : (past : List Fact) (outs : List Out) → Always past → Always (told past outs)
told_always past [] a = a
told_always past (out ∷ outs) a =
    told_always (fact_told out ∷ past) outs (neutral_always (fact_told out) past (told_neutral out) a)

served_always : (world : World) (progress : Progress) → Always world.past → Always (served world progress).past
served_always world progress a = subst Always (sym (all_delivered_past (record world { server = progress.server }) progress.outs))
    (told_always world.past progress.outs a)

starts_always : (past : List Fact) → list_all is_start past ≡ true → Always past
unfolding is_good is_served has_strayed
starts_always [] all = λ file c other ne good. absurd (none (not (has_strayed c [])) good)
  where
    none : (a : Bool) → (a && false) ≡ true → ⊥
    none true e = true≢false (sym e)
    none false e = true≢false (sym e)
starts_always (Fact.Start file bytes ∷ past) all = neutral_always (Fact.Start file bytes) past tt (starts_always past all)
starts_always (_ ∷ past) all = let x : ⊥ = cc in absurd x

-- ---- notes of one client

-- what it notes that it believes it believes at the end
abbrev LastsTo : ℕ → List Fact → Note → Type 0
LastsTo c end (Note.Believes file state) = state ≡ believed c file end
LastsTo c end note = ⊤

-- two pasts say the same of a file
abbrev SameOf : ℕ → List Fact → List Fact → Type 0
SameOf file past other = (c : ℕ) → believed c file past ≡ believed c file other

-- between `start` and `end`
record IsBetween (start end past : List Fact) : Type 0 where
  good : (c : ℕ) → (is_good c past ≡ is_good c start) × (is_good c past ≡ is_good c end)
  files : (file : ℕ) → SameOf file past start ⊎ SameOf file past end

same_cache : (past other : List Fact) (file : ℕ) → SameOf file past other
    → ((c : ℕ) → is_good c past ≡ is_good c other) → OneWriteCache other → (c d : ℕ) → d ≢ c
    → is_good c past ≡ true → (believed c file past).write ≡ true → is_good d past ≡ true → believed d file past ≡ nothing_cached
same_cache past other file same good o c d ne fine w also = same d
    ∙ o file c d ne (sym (good c) ∙ fine) (ap (λ (s : State). s.write) (sym (same c)) ∙ w) (sym (good d) ∙ also)

between_cache : (start end past : List Fact) → IsBetween start end past → OneWriteCache start → OneWriteCache end
    → OneWriteCache past
between_cache start end past b o p file c d ne fine w also = ⊎_elim
    (λ same. same_cache past start file same (λ x. (b.good x).0) o c d ne fine w also)
    (λ same. same_cache past end file same (λ x. (b.good x).1) p c d ne fine w also) (b.files file)

note_good : (client : ℕ) (note : Note) (past : List Fact) (c : ℕ) → is_good c (fact_of client note ∷ past) ≡ is_good c past
unfolding is_good is_served has_strayed
note_good client (Note.Settled number outcome) past c = refl
note_good client note past c = refl

notes_good : (client : ℕ) (past : List Fact) (notes : List Note) (c : ℕ)
    → is_good c (past_noted client past notes) ≡ is_good c past
notes_good client past [] c = refl
notes_good client past (note ∷ notes) c = notes_good client (fact_of client note ∷ past) notes c ∙ note_good client note past c

-- notes say nothing of what others believe
note_others : (client : ℕ) (note : Note) (past : List Fact) (c file : ℕ) → (client == c) ≡ false
    → believed c file (fact_of client note ∷ past) ≡ believed c file past
unfolding believed
note_others client (Note.Believes f state) past c file apart = rw (apart) refl
note_others client note past c file apart = refl

notes_others : (client : ℕ) (past : List Fact) (notes : List Note) (c file : ℕ) → (client == c) ≡ false
    → believed c file (past_noted client past notes) ≡ believed c file past
notes_others client past [] c file apart = refl
notes_others client past (note ∷ notes) c file apart =
    notes_others client (fact_of client note ∷ past) notes c file apart ∙ note_others client note past c file apart

-- one more note
noted_files : (client : ℕ) (end past : List Fact) (note : Note) → LastsTo client end note
    → ((c file : ℕ) → (client == c) ≡ false → believed c file past ≡ believed c file end)
    → (file : ℕ) → SameOf file (fact_of client note ∷ past) past ⊎ SameOf file (fact_of client note ∷ past) end
unfolding believed
noted_files client end past (Note.Settled number outcome) lasts others file = inl (λ c. refl)
noted_files client end past (Note.Wrote f number patch buffered) lasts others file = inl (λ c. refl)
noted_files client end past (Note.Believes f state) lasts others file = either (f == file)
    (λ same. inr (λ c. by_client
    (λ d. (if client == d && f == file then state else believed d file past) ≡ believed d file end) client c
    (rw (eq-eqb client client refl, same) (lasts ∙ ap (λ x. believed client x end) (eqb-true f file same)))
    (λ ne apart. rw (apart) (others c file apart))))
    (λ other. inl (λ c. no_file (client == c) (f == file) state (believed c file past) other))
  where
    no_file : (a b : Bool) (s t : State) → b ≡ false → (if a && b then s else t) ≡ t
    no_file true b s t e = rw (e) refl
    no_file false b s t e = refl
noted_files client end past (Note.CachedRead f bytes) lasts others file = inl (λ c. refl)

noted_between : (client : ℕ) (start end past : List Fact) (note : Note) → LastsTo client end note
    → ((c file : ℕ) → (client == c) ≡ false → believed c file past ≡ believed c file end)
    → IsBetween start end past → IsBetween start end (fact_of client note ∷ past)
noted_between client start end past note lasts others b = record {
  good = λ c. (note_good client note past c ∙ (b.good c).0, note_good client note past c ∙ (b.good c).1);
  files = λ file. ⊎_elim
      (λ same. ⊎_elim (λ before. inl (λ c. same c ∙ before c)) (λ later. inr (λ c. same c ∙ later c)) (b.files file))
      (λ new. inr new) (noted_files client end past note lasts others file);
}

notes_always : (client : ℕ) (start end past : List Fact) (notes : List Note) → OneWriteCache start → OneWriteCache end
    → past_noted client past notes ≡ end → EachNote (LastsTo client end) notes → IsBetween start end past
    → Always past → Always (past_noted client past notes)
notes_always client start end past [] o p e each b a = a
notes_always client start end past (note ∷ notes) o p e each b a =
    let others : (c file : ℕ) → (client == c) ≡ false → believed c file past ≡ believed c file end =
    λ c file apart. sym (note_others client note past c file apart)
    ∙ sym (notes_others client (fact_of client note ∷ past) notes c file apart) ∙ ap (λ x. believed c file x) e in
    let next = noted_between client start end past note each.0 others b in
    notes_always client start end (fact_of client note ∷ past) notes o p e each.1 next
    (between_cache start end (fact_of client note ∷ past) next o p, a)

-- a client steps
lasting : (c : ℕ) (client after : Client) (end : List Fact) (notes : List Note)
    → ((file : ℕ) → believed c file end ≡ belief after file) → EachNote (IsFineNote client after) notes
    → EachNote (LastsTo c end) notes
lasting c client after end [] agrees each = tt
lasting c client after end (Note.Believes file state ∷ notes) agrees each =
    let fine = each.0 in (fine.1 ∙ sym (agrees file), lasting c client after end notes agrees each.1)
lasting c client after end (note ∷ notes) agrees each = (tt, lasting c client after end notes agrees each.1)

stepped_always : (world : World) (c : ℕ) (call : ClientCall) → IsSoundClient (world.clients c) → Always world.past
    → OneWriteCache (stepped_in world c (client_called (world.clients c) call)).past
    → ((file : ℕ) → believed c file (stepped_in world c (client_called (world.clients c) call)).past
    ≡ belief ((stepped_in world c (client_called (world.clients c) call)).clients c) file)
    → Always (stepped_in world c (client_called (world.clients c) call)).past
stepped_always world c call sound a o agrees =
    let step = client_called (world.clients c) call in
    let end = past_noted c world.past step.notes in
    let is = stepped_past world c step in
    subst Always (sym is) (notes_always c world.past end world.past step.notes (always_now world.past a)
    (subst OneWriteCache is o) refl (lasting c (world.clients c) step.client end step.notes
    (λ file. ap (λ x. believed c file x) (sym is) ∙ agrees file
    ∙ ap (λ (t : ℕ → Client). belief (t c) file) (stepped_clients world c step)
    ∙ ap (λ x. belief x file) (put_same world.clients c step.client)) (call_fine (world.clients c) call sound))
    (record { good = λ d. (refl, sym (notes_good c world.past step.notes d)); files = λ file. inl (λ d. refl) }) a)

-- ---- a client that joins believes nothing

joined_cache : (past : List Fact) (client : ℕ) → ((file : ℕ) → believed client file past ≡ nothing_cached)
    → OneWriteCache past → OneWriteCache (Fact.Joined client ∷ past)
unfolding is_good is_served has_strayed believed
joined_cache past client none o file c other ne good w fine = either (client == c)
    (λ same. absurd (true≢false (sym w ∙ ap (λ (s : State). s.write)
    (ap (λ d. believed d file past) (sym (eqb-true client c same)) ∙ none file))))
    (λ apart. either (client == other)
    (λ same. ap (λ d. believed d file past) (sym (eqb-true client other same)) ∙ none file)
    (λ also. o file c other ne (still c apart good) w (still other also fine)))
  where
    still : (d : ℕ) → (client == d) ≡ false → (not (has_strayed d past) && (client == d || is_served d past)) ≡ true
        → (not (has_strayed d past) && is_served d past) ≡ true
    still d apart e = subst (λ b. (not (has_strayed d past) && (b || is_served d past)) ≡ true) apart e

down_nothing : (client : Client) → IsSoundClient client → client.is_online ≡ false → (file : ℕ)
    → belief client file ≡ nothing_cached
down_nothing client s off file = by_phase (client.entries file).phase (s.entries file)
  where
    by_phase : (phase : Phase) → IsSoundPhase client.is_online (client.entries file).sent phase → belief_in phase ≡ nothing_cached
    by_phase (Phase.Live live) p = clash client.is_online p.0 off
    by_phase phase p = refl

-- ---- events

-- what is known of the world of every run, and follows from that
abbrev IsReached : World → Type 0
IsReached world = Both (Both IsCountedWorld HasLayers) (Both IsTimely Agrees) world

reached_forms : HasForms (Keeps IsReached)
reached_forms = two_forms (Both IsCountedWorld HasLayers) (Both IsTimely Agrees)
    (carried_forms HasLayers (λ world v. v.ground) layers_carried)
    (two_forms IsTimely Agrees timely_forms (kept_forms Agrees agrees_kept))

first_reached : (rules : Rules) (setup : Setup) → IsReached (first_world_under rules setup)
first_reached rules setup = (
  (first_counted rules setup, first_layers rules setup),
  (first_timely rules setup, first_agrees rules setup),
)

sound_in : (world : World) → IsReached world → (c : ℕ) → IsSoundClient (world.clients c)
sound_in world r = (r.0).1.ground.clients

cache_in : (world : World) → IsReached world → OneWriteCache world.past
cache_in world r = one_write_cache world (r.0).1 (r.1).0 (r.1).1

agrees_in : (world : World) → IsReached world → (c file : ℕ) → believed c file world.past ≡ belief (world.clients c) file
agrees_in world r = ((r.1).1).agrees

abbrev AlwaysIn : World → Type 0
AlwaysIn world = Always world.past

told_fact : (client : ℕ) (fact : Fact) → IsTold client fact → IsNeutral fact
told_fact client fact is = grind arith

connect_always : (world : World) (client : ℕ) → world.links client ≡ Link.Down → IsReached world
    → IsReached (stepped_in (call_served (link_made world client) (Call.Join client)) client
    (client_called (world.clients client) ClientCall.Connected))
    → Always world.past → AlwaysIn (stepped_in (call_served (link_made world client) (Call.Join client)) client
    (client_called (world.clients client) ClientCall.Connected))
connect_always world client down r n a =
    let back : World = link_made world client in
    let joins = served back (join world.server client) in
    let next : World = stepped_in joins client (client_called (world.clients client) ClientCall.Connected) in
    let nothing : (file : ℕ) → believed client file world.past ≡ nothing_cached =
    λ file. agrees_in world r client file ∙ down_nothing (world.clients client) (sound_in world r client)
    ((r.0).1.ground.online client ∙ ap (λ l. not (is_down l)) down) file in
    let same : joins.clients ≡ world.clients = served-clients back (join world.server client) in
    subst (λ (m : Client). Always (stepped_in joins client (client_called m ClientCall.Connected)).past)
    (ap (λ (t : ℕ → Client). t client) same) (stepped_always joins client ClientCall.Connected
    (subst (λ (t : ℕ → Client). IsSoundClient (t client)) (sym same) (sound_in world r client))
    (served_always back (join world.server client) (joined_cache world.past client nothing (always_now world.past a), a))
    (subst (λ (m : Client). OneWriteCache (stepped_in joins client (client_called m ClientCall.Connected)).past)
    (ap (λ (t : ℕ → Client). t client) (sym same)) (cache_in next n)) (subst (λ (m : Client). (file : ℕ)
    → believed client file (stepped_in joins client (client_called m ClientCall.Connected)).past
    ≡ belief ((stepped_in joins client (client_called m ClientCall.Connected)).clients client) file)
    (ap (λ (t : ℕ → Client). t client) (sym same)) (agrees_in next n client)))

-- a client steps in a world that is as before, but for its queues and its link
step_always : (world middle : World) (client : ℕ) (call : ClientCall) → middle.clients ≡ world.clients
    → IsReached world → IsReached (call_stepped middle client call) → Always middle.past
    → AlwaysIn (call_stepped middle client call)
step_always world middle client call same r n a = stepped_always middle client call
    (subst (λ (t : ℕ → Client). IsSoundClient (t client)) (sym same) (sound_in world r client)) a
    (cache_in (call_stepped middle client call) n) (agrees_in (call_stepped middle client call) n client)

always_forms : HasForms (KeepsWhere IsReached AlwaysIn)
always_forms = record {
  told = λ world client fact some is r n a. neutral_always fact world.past (told_fact client fact is) a;
  command = λ world client command some r n a. step_always world world client (ClientCall.Commanded command) refl r n a;
  request = λ world client request queue some first r n a.
      served_always (record world { requests = put world.requests client queue }) (receive world.server client request) a;
  reply = λ world client reply queue some first r n a.
      step_always world (reply_off world client queue) client (ClientCall.Taken reply) refl r n
      (neutral_always (Fact.Took client) world.past tt a);
  cut = λ world client some up r n a. served_always (link_lost world client) (cut world.server client)
      (neutral_always (Fact.Dropped client) world.past tt a);
  notice = λ world client some cut r n a.
      step_always world (record world { links = put world.links client Link.Down }) client ClientCall.Noticed refl r n a;
  connect = λ world client some down r n a. connect_always world client down r n a;
  timer = λ world client file some on breaks r n a. served_always (happened world (Fact.Expired client file))
      (expire world.server (machine_key world client file)) (neutral_always (Fact.Expired client file) world.past tt a);
  scavenge = λ world file_id r n a. served_always world (scavenge world.server file_id) a;
  stray = λ world client request some up has r n a. a;
}

-- ---- runs

first_always : (rules : Rules) (setup : Setup) → Always (first_world_under rules setup).past
unfolding first_world_under
first_always rules setup = starts_always (reverse (starts_from 1 setup.files))
    (all_reversed (starts_from 1 setup.files) [] (all_starts 1 setup.files) refl)

pub runs_have_one_write_cache : RunsHaveOneWriteCache
runs_have_one_write_cache rules setup events = subst (EachBeginning OneWriteCache)
    (sym (reverse-reverse (after (first_world_under rules setup) events).past))
    (kept_by_run (Both IsReached AlwaysIn) (both_forms IsReached AlwaysIn reached_forms always_forms)
    (first_world_under rules setup) events
    (first_reached rules setup, first_always rules setup)).1
