-- What every run has: each layer, from all of them before a move.
use Rattle.lease_laws.proofs.Words.{◌∷◌, ◌≡◌, Event, Fact, List, Setup, World, ℕ, [], after, first_world_under, is_allowed_setup}
use Rattle.lease_laws.proofs.Words.{is_start, list_all, new_client, new_server_under, open_writes, refl, reverse, starts_from, sym}
use Rattle.lease_laws.proofs.Words.{true, true≢false}
use Rattle.lease_laws.proofs.Words.{Rules}
use Rattle.lease_laws.proofs.records.Runs.{all_reversed, all_starts}
use Rattle.lease_laws.proofs.world.InStep.{contents_are_told}
use Rattle.lease_coherence.specs.Creates.{IsCountedAt}
use Rattle.lease_coherence.specs.Parts.{CreatesOfRuns, NamesOfRuns, OpensOfRuns}
use Rattle.lease_coherence.specs.Standing.{IsStandingAt}
use Rattle.lease_coherence.proofs.beliefs.Steps.{connect_trusted}
use Rattle.lease_coherence.proofs.beliefs.Trust.{HasTrust}
use Rattle.lease_coherence.proofs.beliefs.TrustStays.{trust_moves}
use Rattle.lease_coherence.proofs.covered.Moves.{HasCovered}
use Rattle.lease_coherence.proofs.covered.OpensStayCovered.{connect_covered, covered_moves}
use Rattle.lease_coherence.proofs.creates.CreatesStayCounted.{creates_link, creates_move}
use Rattle.lease_coherence.proofs.fresh.BytesStayFresh.{connect_fresh, fresh_moves}
use Rattle.lease_coherence.proofs.fresh.Contents.{contents_moves}
use Rattle.lease_coherence.proofs.fresh.Sent.{HasFresh}
use Rattle.lease_coherence.proofs.late.SafeWrites.{IsNotLate}
use Rattle.lease_coherence.proofs.late.WritesStaySafe.{late_link, late_moves}
use Rattle.lease_coherence.proofs.layers.Layers.{HasLayers, HasRecord}
use Rattle.lease_coherence.proofs.moves.Events.{Ground, IsCarried, runs_have}
use Rattle.lease_coherence.proofs.moves.Ground.{first_ground, ground_carried}
use Rattle.lease_coherence.proofs.moves.Own.{own_moves, up_moves}
use Rattle.lease_coherence.proofs.names.Done.{first_true, true_moves}
use Rattle.lease_coherence.proofs.order.OrderedRequests.{IsInOrder}
use Rattle.lease_coherence.proofs.order.RequestsStayInOrder.{connect_order, order_moves}
use Rattle.lease_coherence.proofs.standing.OpensStayStanding.{connect_standing, standing_moves}
use Rattle.lease_coherence.proofs.told.BreaksStayTold.{connect_told, told_moves}
use Rattle.lease_coherence.proofs.told.Moves.{HasTold}
use Rattle.lease_coherence.proofs.wellformed.WellFormed.{first_well, well_moves}
use Rattle.lease_coherence.proofs.writes.Answered.{ground_of}
use Rattle.lease_coherence.proofs.writes.Steps.{IsSentOnce}
use Rattle.lease_coherence.proofs.writes.Unanswered.{writes_moves}
use Rattle.lease_coherence.proofs.writes.WritesStayUnderWayOnce.{connect_once, once_moves}

grounded : (world : World) → HasLayers world → Ground world
grounded world v = v.ground

pub layers_carried : IsCarried HasLayers
layers_carried world move may v = let names = true_moves world move may v.ground (v.named, v.done) in record {
  ground = ground_carried world move may v.ground;
  named = names.0;
  done = names.1;
  creates = own_moves HasLayers IsCountedAt grounded creates_move creates_link world move may v v.creates;
  opens = up_moves HasLayers IsStandingAt grounded standing_moves connect_standing world move may v v.opens;
  beliefs = up_moves HasLayers HasTrust grounded trust_moves connect_trusted world move may v v.beliefs;
  covered = up_moves HasLayers HasCovered grounded covered_moves connect_covered world move may v v.covered;
  told = up_moves HasLayers HasTold grounded told_moves connect_told world move may v v.told;
}

pub first_layers : (rules : Rules) (setup : Setup) → HasLayers (first_world_under rules setup)
unfolding first_world_under
first_layers rules setup = let names = first_true rules setup in record {
  ground = first_ground rules setup;
  named = names.0;
  done = names.1;
  creates = λ client good up. absurd (true≢false (sym up));
  opens = λ client good up. absurd (true≢false (sym up));
  beliefs = λ client good up. absurd (true≢false (sym up));
  covered = λ client good up. absurd (true≢false (sym up));
  told = λ client good up. absurd (true≢false (sym up));
}

pub run_layers : (rules : Rules) (setup : Setup) (events : List Event) → HasLayers (after (first_world_under rules setup) events)
run_layers rules setup events = runs_have HasLayers grounded layers_carried rules setup (first_layers rules setup) events

pub names_of_runs : NamesOfRuns
names_of_runs rules setup events client good = (run_layers rules setup events).named client good

pub creates_of_runs : CreatesOfRuns
creates_of_runs rules setup events client good = (run_layers rules setup events).creates client good

pub opens_of_runs : OpensOfRuns
opens_of_runs rules setup events client good = (run_layers rules setup events).opens client good

-- ---- where the setup is allowed

pub record_carried : IsCarried HasRecord
record_carried world move may v = let ground = ground_of world v in record {
  layers = layers_carried world move may v.layers;
  well = well_moves world move may ground v.well;
  once = up_moves HasRecord IsSentOnce ground_of once_moves connect_once world move may v v.once;
  contents = contents_moves world move may ground v.contents;
  fresh = up_moves HasRecord HasFresh ground_of fresh_moves (λ was c g down file new. connect_fresh was c g down file)
      world move may v v.fresh;
  writes = writes_moves world move may ground v.writes;
  order = up_moves HasRecord IsInOrder ground_of order_moves connect_order world move may v v.order;
  late = own_moves HasRecord IsNotLate ground_of late_moves late_link world move may v v.late;
}

no_writes : (c file : ℕ) (past : List Fact) → list_all is_start past ≡ true → open_writes c file past ≡ []
unfolding open_writes
no_writes c file [] all = refl
no_writes c file (Fact.Start f bytes ∷ past) all = no_writes c file past all
no_writes c file (_ ∷ past) all = let x : ⊥ = cc in absurd x

pub first_record : (rules : Rules) (setup : Setup) → is_allowed_setup setup ≡ true → HasRecord (first_world_under rules setup)
unfolding first_world_under after new_client new_server_under
first_record rules setup allowed = record {
  layers = first_layers rules setup;
  well = first_well rules setup allowed;
  once = λ c good up. absurd (true≢false (sym up));
  contents = contents_are_told rules setup [] allowed;
  fresh = λ c good up. absurd (true≢false (sym up));
  writes = λ c file known. no_writes c file (reverse (starts_from 1 setup.files))
      (all_reversed (starts_from 1 setup.files) [] (all_starts 1 setup.files) refl);
  order = λ c good up. absurd (true≢false (sym up));
  late = λ c good. record { entries = λ file. tt; up = λ up. absurd (true≢false (sym up)) };
}

pub run_record : (rules : Rules) (setup : Setup) (events : List Event) → is_allowed_setup setup ≡ true
    → HasRecord (after (first_world_under rules setup) events)
run_record rules setup events allowed = runs_have HasRecord ground_of record_carried rules setup
    (first_record rules setup allowed) events
