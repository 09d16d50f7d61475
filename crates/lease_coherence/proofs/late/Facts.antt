-- No write is accepted late: each change in a record is of a write that nobody overtook.
use Rattle.lease_laws.proofs.Words.{◌+◌, ◌∙◌, ◌∷◌, ◌≡◌, Among, EachFact, Event, Fact, FileRequest, Link, List, NoLateWrite}
use Rattle.lease_laws.proofs.Words.{Note, Open, Patch, Request, Setup, Some, Step, World, ℕ, [], after, ap, arith, commanded}
use Rattle.lease_laws.proofs.Words.{connected_open, connection_made, fact_of, false, first_world_under, has_strayed, is_allowed_setup}
use Rattle.lease_laws.proofs.Words.{is_touched, noticed, put, refl, reverse-reverse, reverse_aux, starts_from, stepped_in}
use Rattle.lease_laws.proofs.Words.{subst, sym, taken, true}
use Rattle.lease_laws.proofs.Words.{Rules}
use Rattle.lease_laws.proofs.server.cases.Ends.{found_open}
use Rattle.lease_laws.proofs.world.cases.Events.{IsTold}
use Rattle.lease_coherence.specs.Parts.{InRuns}
use Rattle.lease_coherence.proofs.late.SafeWrites.{WriteSafe}
use Rattle.lease_coherence.proofs.late.WritesStaySafe.{ground_in}
use Rattle.lease_coherence.proofs.layers.AllRuns.{first_record, record_carried}
use Rattle.lease_coherence.proofs.layers.Layers.{HasRecord}
use Rattle.lease_coherence.proofs.moves.Deeds.{HasDeeds, IsSource, step_deed}
use Rattle.lease_coherence.proofs.moves.Events.{Both, IsMoved, Move, carried_both, come_back, reply_gone, runs_have}
use Rattle.lease_coherence.proofs.moves.Frames.{from_source, stepped_past}
use Rattle.lease_coherence.proofs.order.Sends.{off_past}
use Rattle.lease_coherence.proofs.records.Later.{past_noted}
use Rattle.lease_coherence.proofs.standing.StandingOpens.{asked_off}

abbrev NoneLate : World → Type 0
NoneLate world = EachFact NoLateWrite world.past

-- ---- a change

off_opens : (world off : World) (c : ℕ) (request : FileRequest) → IsSource world off c request
    → off.server.opens ≡ world.server.opens
off_opens world off c request source = from_source world off c request
    (λ o. o.server.opens ≡ world.server.opens) source refl (λ file left. refl)

off_none : (world off : World) (c : ℕ) (request : FileRequest) → IsSource world off c request → NoneLate world → NoneLate off
off_none world off c request source l = subst (EachFact NoLateWrite) (sym (off_past world off c request source)) l

change_clean : (world off : World) (c file_id number : ℕ) (patch : Patch) (one : Open) → HasRecord world
    → IsSource world off c (FileRequest.Write file_id number patch) → connected_open off.server c file_id ≡ Some one
    → has_strayed c off.past ≡ false → is_touched c one.file number off.past ≡ false
change_clean world off c file_id number patch one v source found good =
    let request = FileRequest.Write file_id number patch in
    let past = off_past world off c request source in
    let own = found_open off.server c file_id one found in
    let a = v.late c (ap (has_strayed c) (sym past) ∙ good) in
    let up = sym (((ground_in world v).tied c).present) ∙ source.up in
    let safe : WriteSafe world c (Request.OnFile request) =
    (asked_off (WriteSafe world c) world off c request source (a.up up).writes).1 in
    ap (is_touched c one.file number) past
    ∙ (safe one (subst (λ (l : List Open). Among one l) (off_opens world off c request source) own.there) own.by own.id).clean

-- ---- steps of the server

deeds_none : (world : World) → HasRecord world → NoneLate world → HasDeeds world NoneLate
deeds_none world v l = record {
  refused = λ off client request status source may. (tt, off_none world off client request source l);
  full = λ off client file access share ask source. (tt, off_none world off client _ source l);
  granted = λ off client file access share ask source none on free. (tt, (tt, off_none world off client _ source l));
  reconnected = λ off client file access share ask file_id source again on waits. (tt, off_none world off client _ source l);
  read = λ off client file_id one source found may. (tt, off_none world off client _ source l);
  changed = λ off client file_id number patch one source found may. (
    tt,
    (change_clean world off client file_id number patch one v source found, off_none world off client _ source l),
  );
  closed = λ off client file_id one source found. (tt, off_none world off client _ source l);
  ack_failed = λ client given status oldest up why. (tt, l);
  ack_done = λ client given lowered oldest up there breaks within. (tt, l);
  hold = λ file one oldest may turn. l;
  drop = λ key. l;
  lower = λ key lowered may light. (tt, l);
  begin = λ key lowered may heavy. (tt, l);
}

-- ---- steps of clients

noted_none : (client : ℕ) (past : List Fact) (notes : List Note) → EachFact NoLateWrite past
    → EachFact NoLateWrite (past_noted client past notes)
noted_none client past [] l = l
noted_none client past (Note.Settled number outcome ∷ notes) l =
    noted_none client (fact_of client (Note.Settled number outcome) ∷ past) notes (tt, l)
noted_none client past (note ∷ notes) l = noted_none client (fact_of client note ∷ past) notes (tt, l)

stepped_none : (world : World) (client : ℕ) (step : Step) → NoneLate world → NoneLate (stepped_in world client step)
stepped_none world client step l = subst (EachFact NoLateWrite) (sym (stepped_past world client step))
    (noted_none client world.past step.notes l)

-- ---- all moves

told_none : (client : ℕ) (fact : Fact) (past : List Fact) → IsTold client fact → NoLateWrite fact past
told_none client fact past is = grind arith

none_moves : IsMoved HasRecord NoneLate
none_moves world (Move.Told client fact) is v l = (told_none client fact world.past is, l)
none_moves world (Move.Step step) next v l = step_deed world NoneLate (deeds_none world v l) step next
none_moves world (Move.Expire client file) (on, breaks) v l = (tt, l)
none_moves world (Move.Scavenge file_id) may v l = l
none_moves world (Move.Connect client) down v l =
    stepped_none (come_back world client) client (connection_made (world.clients client)) (tt, l)
none_moves world (Move.Commanded client command) may v l = stepped_none world client (commanded (world.clients client) command) l
none_moves world (Move.Take client reply queue) first v l =
    stepped_none (reply_gone world client queue) client (taken (world.clients client) reply) (tt, l)
none_moves world (Move.Notice client) cut v l = stepped_none (record world { links = put world.links client Link.Down }) client
    (noticed (world.clients client)) l
none_moves world (Move.Cut client) up v l = (tt, l)
none_moves world (Move.Stray client request) may v l = l

-- ---- runs

starts_none : (first : ℕ) (files : List (List ℕ)) (past : List Fact) → EachFact NoLateWrite past
    → EachFact NoLateWrite (reverse_aux (starts_from first files) past)
unfolding starts_from
starts_none first [] past l = l
starts_none first (bytes ∷ files) past l = starts_none (first + 1) files (Fact.Start first bytes ∷ past) (tt, l)

first_none : (rules : Rules) (setup : Setup) → NoneLate (first_world_under rules setup)
unfolding first_world_under
first_none rules setup = starts_none 1 setup.files [] tt

pub run_late : (rules : Rules) (setup : Setup) (events : List Event) → is_allowed_setup setup ≡ true
    → Both HasRecord NoneLate (after (first_world_under rules setup) events)
run_late rules setup events allowed = runs_have (Both HasRecord NoneLate) (λ world v. ground_in world v.0)
    (carried_both HasRecord NoneLate record_carried none_moves) rules setup
    (first_record rules setup allowed, first_none rules setup) events

pub no_write_is_late : InRuns NoLateWrite
no_write_is_late rules setup events allowed = subst (EachFact NoLateWrite)
    (sym (reverse-reverse (after (first_world_under rules setup) events).past)) (run_late rules setup events allowed).1
