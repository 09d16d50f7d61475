-- In every run FileIds are counted, and each open is told of in the place of its FileId.
use Rattle.lease_laws.proofs.Words.{◌&&◌, ◌++◌, ◌+◌, ◌==◌, ◌||◌, ◌∙◌, ◌∷◌, ◌≡◌, ◌⊎◌, Among, AreGuarded, Bool, Call, EachOut}
use Rattle.lease_laws.proofs.Words.{Event, Fact, FileIdsAreCounted, IsGuarded, IsSound, List, Note, Open, OpensAreTold, Out}
use Rattle.lease_laws.proofs.Words.{Progress, Server, Setup, SmallStep, Step, WaitsWell, World, ℕ, ⊎_elim, [], after}
use Rattle.lease_laws.proofs.Words.{all_delivered, ap, arith, call_begun, called, client_called}
use Rattle.lease_laws.proofs.Words.{delivered, disconnected, eq-eqb, fact_of, false, first_world_under, happened, has_key}
use Rattle.lease_laws.proofs.Words.{is_left_behind, is_lost, is_start, list_all, map}
use Rattle.lease_laws.proofs.Words.{new_server_under, not, noted, opened_count, refl, requests_sent}
use Rattle.lease_laws.proofs.Words.{reverse, served, starts_from, step_taken, stepped_in, steps_taken, subst, sym, true}
use Rattle.lease_laws.proofs.Words.{was_opened, without}
use Rattle.lease_laws.proofs.Words.{Rules}
use Rattle.lease_laws.proofs.Words.{is_lost_of, is_named, parted}
use Rattle.lease_laws.proofs.records.Runs.{all_starts, all_reversed}
use Rattle.lease_laws.proofs.server.Calls.{new_server-sound, called-sound}
use Rattle.lease_laws.proofs.server.Goes.{IsOld, IsNew}
use Rattle.lease_laws.proofs.server.Lists.{if_cases, among_filter, among_map}
use Rattle.lease_laws.proofs.server.Opened.{IsNoOpened, IsQuiet, IsGrant, step-told}
use Rattle.lease_laws.proofs.server.StepCalls.{called-steps, call_begun-silent, call_begun-up}
use Rattle.lease_laws.proofs.server.StepKeeps.{step-sound, step-goes}
use Rattle.lease_laws.proofs.server.WaitCalls.{first-waits-well, called-waits-well}
use Rattle.lease_laws.proofs.server.cases.Calls.{any_call}
use Rattle.lease_laws.proofs.world.Kept.{IsKept, IsOfWorld, served-server, after-kept}
use Rattle.lease_laws.proofs.world.Runs.{stepped_server}

-- ---- outs as facts

abbrev pub fact_told : Out → Fact
fact_told (Out.Sent client reply) = Fact.Sent client
fact_told (Out.Opened file client) = Fact.Opened file client
fact_told (Out.Changed file client number patch) = Fact.Changed file client number patch

-- the past once outs were delivered
abbrev pub told : List Fact → List Out → List Fact
told past [] = past
told past (out ∷ outs) = told (fact_told out ∷ past) outs

pub told_append : (past : List Fact) (outs more : List Out) → told past (outs ++ more) ≡ told (told past outs) more
told_append past [] more = refl
told_append past (out ∷ outs) more = told_append (fact_told out ∷ past) outs more

delivered_past : (world : World) (out : Out) → (delivered world out).past ≡ fact_told out ∷ world.past
delivered_past world out = grind arith

pub all_delivered_past : (world : World) (outs : List Out) → (all_delivered world outs).past ≡ told world.past outs
unfolding all_delivered
all_delivered_past world [] = refl
all_delivered_past world (out ∷ outs) = all_delivered_past (delivered world out) outs
    ∙ ap (λ p. told p outs) (delivered_past world out)

-- ---- the FileIds of a server, by a past

pub record IsCounted (past : List Fact) (server : Server) : Type 0 where
  pub last : server.last_id ≡ opened_count past
  pub opens : (one : Open) → Among one server.opens → was_opened one.file_id one.file one.client past ≡ true

-- two pasts tell of the same opens
pub record SameOpens (past : List Fact) (new : List Fact) : Type 0 where
  pub count : opened_count new ≡ opened_count past
  pub was : (place file client : ℕ) → was_opened place file client new ≡ was_opened place file client past

pub same_counted : (past new : List Fact) (server : Server) → SameOpens past new → IsCounted past server → IsCounted new server
same_counted past new server same c = grind arith

quiet_told : (past : List Fact) (outs : List Out) → EachOut IsNoOpened outs → SameOpens past (told past outs)
unfolding opened_count was_opened
quiet_told past [] each = record { count = refl; was = λ place file client. refl }
quiet_told past (Out.Sent client reply ∷ outs) each =
    let r = quiet_told (Fact.Sent client ∷ past) outs each.1 in record { count = r.count; was = r.was }
quiet_told past (Out.Opened file client ∷ outs) each = absurd each.0
quiet_told past (Out.Changed file client number patch ∷ outs) each =
    let r = quiet_told (Fact.Changed file client number patch ∷ past) outs each.1 in
    record { count = r.count; was = r.was }

-- of the same FileId, file and client
same_told : (past : List Fact) (one was : Open) → one.file_id ≡ was.file_id → one.file ≡ was.file
    → one.client ≡ was.client → was_opened was.file_id was.file was.client past ≡ true
    → was_opened one.file_id one.file one.client past ≡ true
same_told past one was id file client e = rw (id, file, client) e

-- an open that was there was told of
old_told : (past : List Fact) (server : Server) (one : Open) → IsCounted past server → IsOld server one
    → was_opened one.file_id one.file one.client past ≡ true
old_told past server one c old = grind arith

or_later : (a b : Bool) → b ≡ true → (a || b) ≡ true
or_later a b e = grind arith

-- ---- steps

-- a step that makes no open
quiet_counted : (past : List Fact) (before after : Progress) → IsSound after.server
    → ((one : Open) → Among one after.server.opens → IsOld before.server one ⊎ IsNew before.server one)
    → IsQuiet before after → IsCounted past before.server → IsCounted past after.server
quiet_counted past before after s from q c = record {
  last = q.last ∙ c.last;
  opens = λ one a. ⊎_elim (old_told past before.server one c)
      (λ new. let top = (s.numbered one a).1 in let last = q.last in let low = new.is_new in
      absurd (omega (arith, top, last, low))) (from one a);
}

-- a step that makes one
grant_counted : (past : List Fact) (before after : Progress) → (g : IsGrant before after) → IsCounted past before.server
    → IsCounted (Fact.Sent g.client ∷ Fact.Opened g.file g.client ∷ past) after.server
unfolding opened_count was_opened
grant_counted past before after g c = record {
  last = g.last ∙ ap (λ n. n + 1) c.last;
  opens = λ one a. ⊎_elim
      (λ old. or_later (one.file_id == opened_count past + 1 && (g.file == one.file && g.client == one.client))
      (was_opened one.file_id one.file one.client past) (old_told past before.server one c old))
      (λ made. rw (
        made.id,
        made.on_file,
        made.by_client,
        c.last,
        eq-eqb (opened_count past + 1) (opened_count past + 1) refl,
        eq-eqb g.file g.file refl,
        eq-eqb g.client g.client refl,
      ) refl) (g.from one a);
}

pub step_counted : (base : List Fact) (step : SmallStep) (progress : Progress) → IsSound progress.server
    → IsGuarded step progress.server → IsCounted (told base progress.outs) progress.server
    → IsCounted (told base (step_taken step progress).outs) (step_taken step progress).server
step_counted base step progress s may c = ⊎_elim quiet grant (step-told step progress)
  where
    next : Progress
    next = step_taken step progress

    quiet : IsQuiet progress next → IsCounted (told base next.outs) next.server
    quiet q = subst (λ outs. IsCounted (told base outs) next.server) (sym (q.outs).are_more)
        (subst (λ p. IsCounted p next.server) (sym (told_append base progress.outs (q.outs).more))
        (same_counted (told base progress.outs) (told (told base progress.outs) (q.outs).more) next.server
        (quiet_told (told base progress.outs) (q.outs).more (q.outs).each)
        (quiet_counted (told base progress.outs) progress next (step-sound step progress s may)
        (step-goes step progress s may).from q c)))

    grant : IsGrant progress next → IsCounted (told base next.outs) next.server
    grant g = subst (λ outs. IsCounted (told base outs) next.server) (sym g.outs) (subst (λ p. IsCounted p next.server)
        (sym (told_append base progress.outs (Out.Opened g.file g.client ∷ Out.Sent g.client g.reply ∷ [])))
        (grant_counted (told base progress.outs) progress next g c))

steps_counted : (base : List Fact) (steps : List SmallStep) (progress : Progress) → IsSound progress.server
    → AreGuarded steps progress → IsCounted (told base progress.outs) progress.server
    → IsCounted (told base (steps_taken steps progress).outs) (steps_taken steps progress).server
steps_counted base [] progress s guarded c = c
steps_counted base (step ∷ steps) progress s guarded c =
    steps_counted base steps (step_taken step progress) (step-sound step progress s guarded.0) guarded.1
    (step_counted base step progress s guarded.0 c)

-- ---- what comes before the first step

-- the same open, perhaps without its connection
record IsSame (server : Server) (one : Open) : Type 0 where
  was : Open
  was_there : Among was server.opens
  same_id : one.file_id ≡ was.file_id
  same_file : one.file ≡ was.file
  same_client : one.client ≡ was.client

here : (server : Server) (one : Open) → Among one server.opens → IsSame server one
here server one a = record {
  was = one;
  was_there = a;
  same_id = refl;
  same_file = refl;
  same_client = refl;
}

left_same : (server : Server) (test : Open → Bool) (one : Open) → Among one (without test server.opens) → IsSame server one
left_same server test one a = here server one (among_filter (λ x. not (test x)) one server.opens a).0

disconnected_same : (server : Server) (client : ℕ) (one : Open) → Among one server.opens → IsSame server (disconnected client one)
disconnected_same server client one a = if_cases (IsSame server) (one.client == client) (record one { connected = false }) one
    (λ e. record { was = one; was_there = a; same_id = refl; same_file = refl; same_client = refl })
    (λ e. here server one a)

cut_same : (server : Server) (client : ℕ) (one : Open)
    → Among one (map (disconnected client) (without (is_lost server client) server.opens)) → IsSame server one
cut_same server client one a =
    let x = among_map (disconnected client) one (without (is_lost server client) server.opens) a in
    subst (IsSame server) (sym x.2) (disconnected_same server client x.0
    (among_filter (λ o. not (is_lost server client o)) x.0 server.opens x.1).0)

parted_same : (server : Server) (test : Open → Bool) (one : Open) → Among one server.opens → IsSame server (parted test one)
parted_same server test one a = if_cases (IsSame server) (test one) (record one { connected = false }) one
    (λ e. record { was = one; was_there = a; same_id = refl; same_file = refl; same_client = refl })
    (λ e. here server one a)

leave_same : (server : Server) (test lost : Open → Bool) (one : Open)
    → Among one (map (parted test) (without lost server.opens)) → IsSame server one
leave_same server test lost one a =
    let x = among_map (parted test) one (without lost server.opens) a in
    subst (IsSame server) (sym x.2) (parted_same server test x.0
    (among_filter (λ o. not (lost o)) x.0 server.opens x.1).0)

AllSame : Server → Progress → Type 0
AllSame server progress =
    (progress.server.last_id ≡ server.last_id) × ((one : Open) → Among one progress.server.opens → IsSame server one)

begun_same : (server : Server) (call : Call) → AllSame server (call_begun server call)
unfolding AllSame
begun_same server call = any_call server (λ call start after. AllSame server start) (record {
  idle = λ call why. (refl, here server);
  joins = λ client down. (refl, here server);
  judges = λ client given up. (refl, here server);
  receives = λ client request up. (refl, here server);
  cuts = λ client up. (refl, cut_same server client);
  expires = λ key breaks. (refl, left_same server (has_key key));
  scavenges = λ file_id left. (refl, left_same server (is_left_behind file_id));
  withdraws = λ file marks some. (refl, here server);
  gives_up = λ own file extent. (refl, here server);
  leaves = λ client file_ids marks up. (
    refl,
    leave_same server (is_named client file_ids)
        (is_lost_of server (is_named client file_ids)),
  );
}) call

pub begun_counted : (past : List Fact) (server : Server) (call : Call) → IsCounted past server
    → IsCounted past (call_begun server call).server
unfolding AllSame
begun_counted past server call c = let same = begun_same server call in record {
  last = same.0 ∙ c.last;
  opens = λ one a. let x = same.1 one a in
      same_told past one x.was x.same_id x.same_file x.same_client (c.opens x.was x.was_there);
}

-- any call
pub called_counted : (past : List Fact) (server : Server) (call : Call) → IsSound server → WaitsWell server
    → IsCounted past server → IsCounted (told past (called server call).outs) (called server call).server
called_counted past server call s w c =
    let start = call_begun server call in
    let go = called-steps server call s w in
    subst (λ p. IsCounted (told past p.outs) p.server) (sym go.lead)
    (steps_counted past go.steps start (call_begun-up server call s w).sound go.are_guarded
    (subst (λ outs. IsCounted (told past outs) start.server) (sym (call_begun-silent server call))
    (begun_counted past server call c)))

-- ---- worlds

pub record IsCountedWorld (world : World) : Type 0 where
  pub sound : IsSound world.server
  pub waits : WaitsWell world.server
  pub counted : IsCounted world.past world.server

-- facts of the world tell of no open
pub world_fact_same : (past : List Fact) (fact : Fact) → IsOfWorld fact → SameOpens past (fact ∷ past)
unfolding opened_count was_opened
world_fact_same past fact of = grind arith

-- nor do notes
pub note_same : (past : List Fact) (client : ℕ) (note : Note) → SameOpens past (fact_of client note ∷ past)
unfolding opened_count was_opened
note_same past client note = grind arith

noted_counted : (world : World) (client : ℕ) (notes : List Note) (server : Server) → IsCounted world.past server
    → IsCounted (noted world client notes).past server
unfolding noted
noted_counted world client [] server c = c
noted_counted world client (note ∷ notes) server c = noted_counted (happened world (fact_of client note)) client notes server
    (same_counted world.past (fact_of client note ∷ world.past) server (note_same world.past client note) c)

stepped_counted : (world : World) (client : ℕ) (step : Step) → IsCounted world.past world.server
    → IsCounted (stepped_in world client step).past (stepped_in world client step).server
stepped_counted world client step c =
    subst (λ s. IsCounted (stepped_in world client step).past s) (sym (stepped_server world client step)) (noted_counted
    (requests_sent (record world { clients = _ }) client step.requests) client step.notes world.server c)

served_counted : (world : World) (call : Call) → IsSound world.server → WaitsWell world.server → IsCounted world.past world.server
    → IsCounted (served world (called world.server call)).past (served world (called world.server call)).server
served_counted world call s w c =
    let progress = called world.server call in
    let next : World = record world { server = progress.server } in
    subst (λ p. IsCounted p (all_delivered next progress.outs).server) (sym (all_delivered_past next progress.outs))
    (subst (λ x. IsCounted (told world.past progress.outs) x) (sym (served-server world progress))
    (called_counted world.past world.server call s w c))

pub counted_kept : IsKept IsCountedWorld
counted_kept = record {
  messages = λ world requests replies links p.
      record { sound = p.sound; waits = p.waits; counted = p.counted };
  fact = λ world fact of p. record {
    sound = p.sound;
    waits = p.waits;
    counted = same_counted world.past (fact ∷ world.past) world.server (world_fact_same world.past fact of) p.counted;
  };
  call = λ world call p. let progress = called world.server call in record {
    sound = subst IsSound (sym (served-server world progress)) (called-sound world.server call p.sound);
    waits = subst WaitsWell (sym (served-server world progress)) (called-waits-well world.server call p.sound p.waits);
    counted = served_counted world call p.sound p.waits p.counted;
  };
  step = λ world client call p. let step = client_called (world.clients client) call in record {
    sound = subst IsSound (sym (stepped_server world client step)) p.sound;
    waits = subst WaitsWell (sym (stepped_server world client step)) p.waits;
    counted = stepped_counted world client step p.counted;
  };
}

starts_open : (past : List Fact) → list_all is_start past ≡ true → opened_count past ≡ 0
unfolding opened_count
starts_open [] all = refl
starts_open (Fact.Start file bytes ∷ past) all = starts_open past all
starts_open (_ ∷ past) all = let c : ⊥ = cc in absurd c

pub first_counted : (rules : Rules) (setup : Setup) → IsCountedWorld (first_world_under rules setup)
unfolding first_world_under new_server_under
first_counted rules setup = record {
  sound = new_server-sound rules setup.files;
  waits = first-waits-well rules setup.files;
  counted = record {
    last = sym (starts_open (reverse (starts_from 1 setup.files))
        (all_reversed (starts_from 1 setup.files) [] (all_starts 1 setup.files) refl));
    opens = λ one a. absurd a;
  };
}

pub run_counted : (rules : Rules) (setup : Setup) (events : List Event)
    → IsCountedWorld (after (first_world_under rules setup) events)
run_counted rules setup events = after-kept IsCountedWorld counted_kept (first_world_under rules setup) events
    (first_counted rules setup)

pub file_ids_are_counted : FileIdsAreCounted
file_ids_are_counted rules setup events = (run_counted rules setup events).counted.last

pub opens_are_told : OpensAreTold
opens_are_told rules setup events one a = (run_counted rules setup events).counted.opens one a
