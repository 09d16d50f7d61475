-- In the record of every run what the server gives out names clients that have joined.
use Rattle.lease_laws.proofs.Words.{◌∙◌, ◌∷◌, ◌≡◌, Bool, EachFact, Event, Fact, FileRequest, Key, List, MayLower, Note, Option}
use Rattle.lease_laws.proofs.Words.{Setup, Step, World, ℕ, [], after, arith, first_world_under, has_joined, has_key}
use Rattle.lease_laws.proofs.Words.{is_allowed_setup, is_key, is_start, list_all, refl, reverse_aux, starts_from, stepped_in}
use Rattle.lease_laws.proofs.Words.{subst, connection_made, sym, true, commanded, taken, noticed, Rules}
use Rattle.lease_laws.proofs.{records.Runs.all_starts, server.Lists.any_has, world.cases.Events.IsTold}
use Rattle.lease_coherence.proofs.{moves.Deeds.HasDeeds, moves.Deeds.IsSource, moves.Deeds.step_deed, moves.Frames.stepped_past}
use Rattle.lease_coherence.proofs.{moves.Ground.ground_carried, moves.Ground.first_ground, records.Later.past_noted}
use Rattle.lease_coherence.proofs.moves.Events.{Ground, IsMoved, Move, Both, carried_both, runs_have}
use Rattle.lease_coherence.proofs.wellformed.WellFormed.{IsWell, well_moves, first_well}

unfoldable pub is_joined : Fact → List Fact → Bool
is_joined (Fact.Sent client) past = has_joined client past
is_joined (Fact.Opened file client) past = has_joined client past
is_joined (Fact.Changed file client number patch) past = has_joined client past
is_joined _ past = true

abbrev pub Joined : Fact → List Fact → Type 0
Joined fact past = is_joined fact past ≡ true

abbrev HasJoined : World → Type 0
HasJoined world = EachFact Joined world.past

-- a client that the server has, has joined
came : (world : World) → Both Ground IsWell world → (client : ℕ) → world.server.present client ≡ true
    → has_joined client world.past ≡ true
came world v client up = v.1.joined_so client (sym (v.0.tied client).present ∙ up)

-- and so has the client of a key whose lease is lowered
lowered_came : (world : World) → Both Ground IsWell world → (key : Key) (lowered : _) → MayLower world.server key lowered
    → has_joined key.client world.past ≡ true
lowered_came world v key lowered may =
    let x = any_has (has_key key) world.server.opens may.is_there in
    came world v key.client (own (x.0).client (x.0).lease_key x.2
    (v.0.fine.orderly.opens_up x.0 x.1 (may.are_connected x.0 x.1 x.2)))
  where
    own : (client : ℕ) (bytes : Option (List ℕ)) → is_key key client bytes ≡ true
        → world.server.present client ≡ true → world.server.present key.client ≡ true
    own client bytes k p = grind arith

-- the same holds where a request was taken off
off_joined : (world off : World) (client : ℕ) (request : FileRequest) → Both Ground IsWell world
    → IsSource world off client request → HasJoined world → (has_joined client off.past ≡ true) × HasJoined off
off_joined world off client request v source h = grind arith

deeds_joined : (world : World) → Both Ground IsWell world → HasJoined world → HasDeeds world HasJoined
unfolding is_joined has_joined
deeds_joined world v h = record {
  refused = λ off client request status source may. off_joined world off client request v source h;
  full = λ off client file access share ask source. off_joined world off client _ v source h;
  granted = λ off client file access share ask source none on free.
      let o = off_joined world off client _ v source h in (o.0, o);
  reconnected = λ off client file access share ask file_id source again on waits. off_joined world off client _ v source h;
  read = λ off client file_id one source found may. off_joined world off client _ v source h;
  changed = λ off client file_id number patch one source found may.
      let o = off_joined world off client _ v source h in (o.0, o);
  closed = λ off client file_id one source found. off_joined world off client _ v source h;
  ack_failed = λ client given status oldest up why. (came world v client up, h);
  ack_done = λ client given lowered oldest up there breaks within. (came world v client up, h);
  hold = λ file one oldest may turn. h;
  drop = λ key. h;
  lower = λ key lowered may light. (lowered_came world v key lowered may, h);
  begin = λ key lowered may heavy. (lowered_came world v key lowered may, h);
}

-- ---- steps of a client

noted_joined : (client : ℕ) (past : List Fact) (notes : List Note) → EachFact Joined past
    → EachFact Joined (past_noted client past notes)
unfolding is_joined
noted_joined client past [] h = h
noted_joined client past (note ∷ notes) h = noted_joined client _ notes (grind arith, h)

stepped_joined : (world : World) (client : ℕ) (step : Step) → HasJoined world → HasJoined (stepped_in world client step)
stepped_joined world client step h =
    subst (EachFact Joined) (sym (stepped_past world client step)) (noted_joined client world.past step.notes h)

told_joined : (client : ℕ) (fact : Fact) (past : List Fact) → IsTold client fact → Joined fact past
unfolding is_joined
told_joined client fact past is = grind arith

joined_moves : IsMoved (Both Ground IsWell) HasJoined
unfolding is_joined
joined_moves world (Move.Told client fact) is v h = (told_joined client fact world.past is, h)
joined_moves world (Move.Step step) next v h = step_deed world HasJoined (deeds_joined world v h) step next
joined_moves world (Move.Cut client) up v h = (refl, h)
joined_moves world (Move.Expire client file) (on, breaks) v h = (refl, h)
joined_moves world (Move.Scavenge file_id) may v h = h
joined_moves world (Move.Connect client) down v h =
    stepped_joined _ client (connection_made (world.clients client)) (refl, h)
joined_moves world (Move.Commanded client command) may v h =
    stepped_joined world client (commanded (world.clients client) command) h
joined_moves world (Move.Take client reply queue) first v h =
    stepped_joined _ client (taken (world.clients client) reply) (refl, h)
joined_moves world (Move.Notice client) cut v h = stepped_joined _ client (noticed (world.clients client)) h
joined_moves world (Move.Stray client request) may v h = h

-- ---- every run

starts_joined : (facts others : List Fact) → list_all is_start facts ≡ true → EachFact Joined others
    → EachFact Joined (reverse_aux facts others)
unfolding is_joined
starts_joined [] others all h = h
starts_joined (Fact.Start file bytes ∷ facts) others all h = starts_joined facts (Fact.Start file bytes ∷ others) all (refl, h)
starts_joined (_ ∷ facts) others all h = let c : ⊥ = cc in absurd c

first_joined : (rules : Rules) (setup : Setup) → HasJoined (first_world_under rules setup)
unfolding first_world_under
first_joined rules setup = starts_joined (starts_from 1 setup.files) [] (all_starts 1 setup.files) tt

pub run_joined : (rules : Rules) (setup : Setup) (events : List Event) → is_allowed_setup setup ≡ true
    → EachFact Joined (after (first_world_under rules setup) events).past
run_joined rules setup events allowed = (runs_have (Both (Both Ground IsWell) HasJoined) (λ world (known, joined). known.0)
    (carried_both (Both Ground IsWell) HasJoined (carried_both Ground IsWell ground_carried well_moves) joined_moves) rules setup
    ((first_ground rules setup, first_well rules setup allowed), first_joined rules setup) events).1
