-- In every run the server is sound, contents fit, and the record says what clients believe.
use Rattle.lease_laws.proofs.Words.{◌++◌, ◌+◌, ◌∷◌, ◌≡◌, ◌≤◌, AreGuarded, Call, Event, FILE_LIMIT, FileRequest}
use Rattle.lease_laws.proofs.Words.{IsGuarded, IsSound, Lease, LeaseOf, List, MayServe, Note, Option, Outcome, Patch}
use Rattle.lease_laws.proofs.Words.{Progress, Server, Setup, SmallStep, Step, WaitsWell, World, ℕ, [], acknowledged, after}
use Rattle.lease_laws.proofs.Words.{arith, call_begun, called, client_called}
use Rattle.lease_laws.proofs.Words.{concluded, fact_of, first_world_under, happened, held_left}
use Rattle.lease_laws.proofs.Words.{is_allowed_setup, is_content, is_within_limit}
use Rattle.lease_laws.proofs.Words.{last_file_number, lease_put, length, length-written}
use Rattle.lease_laws.proofs.Words.{list_all, max, nat_le, new_server_under, noted, numbered}
use Rattle.lease_laws.proofs.Words.{patch, patch_at, put, refl, requests_sent, served}
use Rattle.lease_laws.proofs.Words.{slice_get, step_taken, stepped_in, steps_taken, subst, suc, sym, take, true, unwrap_or}
use Rattle.lease_laws.proofs.Words.{with_number, zero}
use Rattle.lease_laws.proofs.Words.{Rules}
use Rattle.lease_laws.proofs.server.Calls.{new_server-sound, called-sound}
use Rattle.lease_laws.proofs.server.Lists.{and_parts}
use Rattle.lease_laws.proofs.server.StepCalls.{called-steps}
use Rattle.lease_laws.proofs.server.StepKeeps.{end_serves}
use Rattle.lease_laws.proofs.server.WaitCalls.{first-waits-well, called-waits-well}
use Rattle.lease_laws.proofs.world.Kept.{IsKept, served-server, after-kept}
use Rattle.lease_laws.proofs.server.cases.Calls.{any_call}
use Rattle.lease_laws.proofs.server.cases.Ends.{HasEnds, any_end}
use Rattle.lease_laws.proofs.server.cases.Judgements.{any_judgement}

-- ---- what a client's step leaves alone

-- notes change no client and no server
noted_clients : (world : World) (client : ℕ) (notes : List Note) → (noted world client notes).clients ≡ world.clients
unfolding noted
noted_clients world client [] = refl
noted_clients world client (note ∷ notes) = noted_clients (happened world (fact_of client note)) client notes

noted_server : (world : World) (client : ℕ) (notes : List Note) → (noted world client notes).server ≡ world.server
unfolding noted
noted_server world client [] = refl
noted_server world client (note ∷ notes) = noted_server (happened world (fact_of client note)) client notes

pub stepped_server : (world : World) (client : ℕ) (step : Step) → (stepped_in world client step).server ≡ world.server
stepped_server world client step = noted_server
    (requests_sent (record world { clients = put world.clients client step.client }) client step.requests) client step.notes

pub stepped_clients : (world : World) (client : ℕ) (step : Step)
    → (stepped_in world client step).clients ≡ put world.clients client step.client
stepped_clients world client step = noted_clients
    (requests_sent (record world { clients = put world.clients client step.client }) client step.requests) client step.notes

-- ---- servers of runs

record IsSoundWorld (world : World) : Type 0 where
  sound : IsSound world.server
  waits : WaitsWell world.server

-- by the server alone
sound_by : (world : World) (server : Server) → world.server ≡ server → IsSound server → WaitsWell server → IsSoundWorld world
sound_by world server same s w = record { sound = subst IsSound (sym same) s; waits = subst WaitsWell (sym same) w }

sound_kept : IsKept IsSoundWorld
sound_kept = record {
  messages = λ world requests replies links p. record { sound = p.sound; waits = p.waits };
  fact = λ world fact of p. record { sound = p.sound; waits = p.waits };
  call = λ world call p. sound_by (served world (called world.server call)) (called world.server call).server
      (served-server world (called world.server call)) (called-sound world.server call p.sound)
      (called-waits-well world.server call p.sound p.waits);
  step = λ world client call p. sound_by (stepped_in world client (client_called (world.clients client) call)) world.server
      (stepped_server world client (client_called (world.clients client) call)) p.sound p.waits;
}

first_sound : (rules : Rules) (setup : Setup) → IsSoundWorld (first_world_under rules setup)
unfolding first_world_under
first_sound rules setup = record { sound = new_server-sound rules setup.files; waits = first-waits-well rules setup.files }

run_sound : (rules : Rules) (setup : Setup) (events : List Event) → IsSoundWorld (after (first_world_under rules setup) events)
run_sound rules setup events = after-kept IsSoundWorld sound_kept (first_world_under rules setup) events (first_sound rules setup)

pub servers_of_runs : (rules : Rules) (setup : Setup) (events : List Event)
    → IsSound (after (first_world_under rules setup) events).server
    × WaitsWell (after (first_world_under rules setup) events).server
servers_of_runs rules setup events = let r = run_sound rules setup events in (r.sound, r.waits)

-- ---- contents fit

abbrev DoFit : (ℕ → List ℕ) → Type 0
DoFit contents = (file : ℕ) → length (contents file) ≤ FILE_LIMIT

-- a patch within the limit
patched_fits : (content : List ℕ) (offset : ℕ) (bytes : List ℕ) → length content ≤ FILE_LIMIT
    → nat_le (offset + length bytes) FILE_LIMIT ≡ true → length (patch_at content offset bytes) ≤ FILE_LIMIT
patched_fits content offset [] fits e = fits
patched_fits content offset (b ∷ bytes) fits e = subst (λ n. n ≤ FILE_LIMIT) (sym (length-written content offset (b ∷ bytes)))
    (both_fit (length content) (offset + length (b ∷ bytes)) FILE_LIMIT fits e)
  where
    both_fit : (a b limit : ℕ) → a ≤ limit → nat_le b limit ≡ true → max a b ≤ limit
    both_fit a b limit h e = grind arith

-- one file that changed
put_fits : (contents : ℕ → List ℕ) (file : ℕ) (content : List ℕ) → DoFit contents → length content ≤ FILE_LIMIT
    → DoFit (put contents file content)
unfolding put
put_fits contents file content fit new other = grind arith

-- a lease that is put leaves them
put_contents : (server : Server) (client : ℕ) (asked : Option LeaseOf) (lease : Lease)
    → (lease_put server client asked lease).contents ≡ server.contents
put_contents server client asked lease = grind arith

-- the end of a request
ends_fit : (client : ℕ) (progress : Progress) → DoFit progress.server.contents
    → HasEnds client progress (λ request outcome after. (outcome ≡ Outcome.Ready → (number : ℕ) (file_id : ℕ)
    (patch : Patch) → request ≡ FileRequest.Write file_id number patch → is_within_limit patch ≡ true)
    → DoFit after.server.contents)
ends_fit client progress fit = record {
  refused = λ request status may. fit;
  left = λ request outcome why may. fit;
  full = λ file access share ask none out may. fit;
  granted = λ file access share ask none room may. subst DoFit (sym (put_contents progress.server client ask.lease _)) fit;
  again = λ file access share ask file_id some may. fit;
  read = λ file_id one own may. fit;
  changed = λ file_id number patch one own may. put_fits progress.server.contents one.file _ fit
      (patched_fits (progress.server.contents one.file) patch.offset patch.bytes (fit one.file)
      (may refl number file_id patch refl));
  closed = λ file_id one own may. fit;
}

concluded_fits : (client : ℕ) (request : FileRequest) (progress : Progress) (outcome : Outcome)
    → (outcome ≡ Outcome.Ready → (number : ℕ) (file_id : ℕ) (patch : Patch)
    → request ≡ FileRequest.Write file_id number patch → is_within_limit patch ≡ true)
    → DoFit progress.server.contents → DoFit (concluded client request progress outcome).server.contents
concluded_fits client request progress outcome may fit =
    any_end client progress _ (ends_fit client progress fit) request outcome may

-- a write that may be served fits
serve_fits : (server : Server) (client : ℕ) (request : FileRequest) → MayServe server client request
    → (number : ℕ) (file_id : ℕ) (patch : Patch) → request ≡ FileRequest.Write file_id number patch → is_within_limit patch ≡ true
serve_fits server client request may number file_id patch e = (subst (λ q. MayServe server client q) e may).allowed.fits

-- an acknowledgment changes no content
acknowledged_contents : (client : ℕ) (given : Option LeaseOf) (progress : Progress)
    → (acknowledged client given progress).server.contents ≡ progress.server.contents
acknowledged_contents client given progress = any_judgement client progress
    (λ given after. after.server.contents ≡ progress.server.contents)
    (record { failed = λ given why. refl; ended = λ g lowered there breaks within. refl }) given

-- each step
step_fits : (step : SmallStep) (progress : Progress) → IsGuarded step progress.server
    → DoFit progress.server.contents → DoFit (step_taken step progress).server.contents
step_fits (SmallStep.Answer client request outcome) progress may fit = concluded_fits client request progress outcome
    (λ ready. serve_fits progress.server client request (end_serves progress.server client request outcome may ready)) fit
step_fits (SmallStep.AnswerHeld file before one behind outcome) progress may fit =
    concluded_fits one.client one.request (held_left file (before ++ behind) progress) outcome
    (λ ready. serve_fits progress.server one.client one.request
    (end_serves progress.server one.client one.request outcome may.1 ready)) fit
step_fits (SmallStep.Acknowledge client given) progress may fit =
    subst DoFit (sym (acknowledged_contents client given progress)) fit
step_fits step progress may fit = fit

steps_fit : (steps : List SmallStep) (progress : Progress) → AreGuarded steps progress
    → DoFit progress.server.contents → DoFit (steps_taken steps progress).server.contents
steps_fit [] progress g fit = fit
steps_fit (step ∷ steps) progress g fit = steps_fit steps (step_taken step progress) g.1 (step_fits step progress g.0 fit)

pub begun_contents : (server : Server) (call : Call) → (call_begun server call).server.contents ≡ server.contents
begun_contents server call = any_call server (λ call start after. start.server.contents ≡ server.contents) (record {
  idle = λ call why. refl;
  joins = λ client down. refl;
  judges = λ client given up. refl;
  receives = λ client request up. refl;
  cuts = λ client up. refl;
  expires = λ key breaks. refl;
  scavenges = λ file_id left. refl;
  withdraws = λ file marks some. refl;
  gives_up = λ own file extent. refl;
  leaves = λ client file_ids marks up. refl;
}) call

called_fits : (server : Server) (call : Call) → IsSound server → WaitsWell server → DoFit server.contents
    → DoFit (called server call).server.contents
called_fits server call s w fit =
    let go = called-steps server call s w in
    subst (λ p. DoFit p.server.contents) (sym go.lead) (steps_fit go.steps (call_begun server call) go.are_guarded
    (subst DoFit (sym (begun_contents server call)) fit))

-- in every run
record IsFitWorld (world : World) : Type 0 where
  sound : IsSoundWorld world
  fit : DoFit world.server.contents

fit_kept : IsKept IsFitWorld
fit_kept = record {
  messages = λ world requests replies links p.
      record { sound = sound_kept.messages world requests replies links p.sound; fit = p.fit };
  fact = λ world fact of p. record { sound = sound_kept.fact world fact of p.sound; fit = p.fit };
  call = λ world call p. record {
    sound = sound_kept.call world call p.sound;
    fit = subst (λ s. DoFit s.contents) (sym (served-server world (called world.server call)))
        (called_fits world.server call (p.sound).sound (p.sound).waits p.fit);
  };
  step = λ world client call p. record {
    sound = sound_kept.step world client call p.sound;
    fit = subst (λ s. DoFit s.contents) (sym (stepped_server world client (client_called (world.clients client) call))) p.fit;
  };
}

-- the contents of a setup that is allowed
taken_fit : (n : ℕ) (files : List (List ℕ)) → list_all is_content files ≡ true → list_all is_content (take n files) ≡ true
taken_fit zero files e = refl
taken_fit (suc n) [] e = refl
taken_fit (suc n) (bytes ∷ files) e =
    let parts = and_parts (is_content bytes) (list_all is_content files) e in
    rw (parts.0, taken_fit n files parts.1) refl

got_fits : (files : List (List ℕ)) (n : ℕ) → list_all is_content files ≡ true
    → length (unwrap_or (slice_get files n) []) ≤ FILE_LIMIT
got_fits [] n e = omega arith
got_fits (bytes ∷ files) zero e = content_fits bytes (and_parts (is_content bytes) (list_all is_content files) e).0
  where
    content_fits : (content : List ℕ) → is_content content ≡ true → length content ≤ FILE_LIMIT
    content_fits content e = grind arith
got_fits (bytes ∷ files) (suc n) e = got_fits files n (and_parts (is_content bytes) (list_all is_content files) e).1

numbered_fit : (files : List (List ℕ)) → list_all is_content files ≡ true → DoFit (numbered [] files)
unfolding numbered
numbered_fit files e zero = omega arith
numbered_fit files e (suc n) = got_fits files n e

first_fit : (rules : Rules) (setup : Setup) → is_allowed_setup setup ≡ true → IsFitWorld (first_world_under rules setup)
unfolding first_world_under new_server_under is_allowed_setup
first_fit rules setup allowed = record {
  sound = first_sound rules setup;
  fit = numbered_fit (with_number setup.files) (taken_fit last_file_number setup.files
      (and_parts _ (list_all is_content setup.files) (and_parts _ _ (and_parts _ _ allowed).0).0).1);
}

pub contents_of_runs_fit : (rules : Rules) (setup : Setup) (events : List Event) → is_allowed_setup setup ≡ true
    → (file : ℕ) → length ((after (first_world_under rules setup) events).server.contents file) ≤ FILE_LIMIT
contents_of_runs_fit rules setup events allowed =
    (after-kept IsFitWorld fit_kept (first_world_under rules setup) events (first_fit rules setup allowed)).fit
