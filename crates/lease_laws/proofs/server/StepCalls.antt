-- Passes and calls go by guarded small steps.
use Rattle.lease_laws.proofs.Words.{None}
use Rattle.lease_laws.proofs.Words.{◌∙◌, ◌∷◌, ◌≡◌, Among, Call, Err, FileRequest, GoesBySteps, Held}
use Rattle.lease_laws.proofs.Words.{IsSound, List, MayEnd, MayRefuse, Ok, Open, Outcome, Pass, Progress, Request}
use Rattle.lease_laws.proofs.Words.{Result, Server, SmallStep, Status, WaitsWell, ℕ, [], acknowledged, after_first_try}
use Rattle.lease_laws.proofs.Words.{all_passes, ap, arith, arrived_on, begun, call_begun, called}
use Rattle.lease_laws.proofs.Words.{concluded, false, file_asked}
use Rattle.lease_laws.proofs.Words.{file_request_arrived, held_of, inl, inr}
use Rattle.lease_laws.proofs.Words.{is_behind, is_left_behind, joined}
use Rattle.lease_laws.proofs.Words.{length, opens_dropped, own_steps}
use Rattle.lease_laws.proofs.Words.{refl, request_held, subst}
use Rattle.lease_laws.proofs.Words.{LeaseOf, Option, pass_answered, sym, tried, tried_again, true, ◌<◌}
use Rattle.lease_laws.proofs.Words.{Some, as_held, lane_of}
use Rattle.lease_laws.proofs.Words.{arrived_before, connected_open, file_of_open}
use Rattle.lease_laws.proofs.Words.{lane_of_open}
use Rattle.lease_laws.proofs.server.Answers.{acknowledged-sound}
use Rattle.lease_laws.proofs.server.Calls.{joined-sound}
use Rattle.lease_laws.proofs.server.Arrivals.{arrived_on-fine, asked_well, acknowledged-held, fine_goes}
use Rattle.lease_laws.proofs.server.Goes.{acknowledged-goes}
use Rattle.lease_laws.proofs.server.Held.{SameHeld}
use Rattle.lease_laws.proofs.server.Keeps.{Keeps, Anywhere}
use Rattle.lease_laws.proofs.server.Lists.{if_cases, among_behind}
use Rattle.lease_laws.proofs.server.Orderly.{IsFine, IsTry, any_try, held_well}
use Rattle.lease_laws.proofs.server.PassWaits.{FileWaits, PassWaits, last_waits, more_wait, passes-wait}
use Rattle.lease_laws.proofs.Words.{others_broken}
use Rattle.lease_laws.proofs.server.SmallSteps.{others_broken-steps, steps_none, step_one, steps_then, tried-steps, tried-guarded}
use Rattle.lease_laws.proofs.server.WaitCalls.{joined-orderly, cut-fine, expired-fine, dropped-fine, left-fine, withdrawn-fine}
use Rattle.lease_laws.proofs.server.WaitCalls.{others_broken-fine}
use Rattle.lease_laws.proofs.server.cases.Calls.{IsIdle, any_call, lease_lost, links_lost, parts_left, requests_lost}
use Rattle.lease_laws.proofs.server.cases.Passes.{HasPasses, any_passes, any_try_again}
use Rattle.lease_laws.proofs.server.Held.{answered-fewer}

-- a held request's end is guarded
abbrev MayEndAt : Progress → Held → Outcome → Type 0
MayEndAt progress one outcome = MayEnd progress.server one.client one.request outcome

-- ---- passes

-- the try of a held request, and then its answer
answered-steps : (call : Call) (start : Progress) (file count : ℕ) (one : Held) (waiting : List Held) (pass : Pass)
    → PassWaits start file count (one ∷ waiting) pass → is_behind pass.progress.server.rules one pass.passed ≡ false
    → ((tried one.client one.request pass.progress).outcome ≡ Outcome.Waits → ⊥)
    → GoesBySteps call 0 pass.progress
    (pass_answered file one waiting pass (tried one.client one.request pass.progress)).progress
answered-steps call start file count one waiting pass p first ends =
    let done = tried one.client one.request pass.progress in
    let t = any_try one.client one.request pass.progress p.fine.sound in
    let well = held_well pass.progress.server file one p.fine.orderly (subst (λ list. Among one list) (sym p.in_pass.is_held)
    (among_behind one pass.passed (one ∷ waiting) (inl refl))) in
    let may : MayEndAt done.progress one done.outcome =
    tried-guarded one.client one.request pass.progress ends (t.goes.ups one.client ∙ well.up) in
    steps_then call 0 0 pass.progress done.progress _ (tried-steps call one.client one.request pass.progress p.fine.sound)
    (step_one call (SmallStep.AnswerHeld file pass.passed one waiting done.outcome) done.progress
    (ap (λ h. h file) t.held ∙ p.in_pass.is_held, may)
    (subst (λ rules. is_behind rules one pass.passed ≡ false) (sym t.keeps.rules) first) tt)

-- a held request tried again
tried_again-steps : (call : Call) (start : Progress) (file count : ℕ) (one : Held) (waiting : List Held) (pass : Pass)
    → PassWaits start file count (one ∷ waiting) pass
    → GoesBySteps call 0 pass.progress (tried_again file one waiting pass).progress
tried_again-steps call start file count one waiting pass p =
    any_try_again file one waiting pass (λ after. GoesBySteps call 0 pass.progress after.progress) (record {
      behind = λ behind. steps_none call pass.progress;
      waits = λ first waits. tried-steps call one.client one.request pass.progress p.fine.sound;
      answers = answered-steps call start file count one waiting pass p;
    })

-- passes go by steps
pass_by : Call → ℕ → Progress → List Held → Pass → Type 0
pass_by call file start waiting pass = IsFine start.server
    → PassWaits start file (length (start.server.held file)) waiting pass × GoesBySteps call 0 start pass.progress

passes-steps : (call : Call) → HasPasses (pass_by call)
    (λ count file start after. length (start.server.held file) < count → IsFine start.server
    → FileWaits start file after × GoesBySteps call 0 start after)
    (λ files start after. IsFine start.server → GoesBySteps call 0 start after)
unfolding pass_by
passes-steps call = record {
  begins = λ file start f. (passes-wait.begins file start f, steps_none call start);
  goes = λ file start one waiting pass p f. (
    passes-wait.goes file start one waiting pass (λ f. (p f).0) f,
    steps_then call 0 0 start pass.progress (tried_again file one waiting pass).progress (p f).1
        (tried_again-steps call start file (length (start.server.held file)) one waiting pass (p f).0),
  );
  out = λ file start less f. absurd (omega (arith, less));
  again = λ count file start after pass p answered rest less f.
      let fewer = answered-fewer file start pass (p f).0.in_pass answered in
      let later = rest (omega (arith, fewer, less)) (p f).0.fine in (
        more_wait count file start after pass (p f).0 later.0,
        steps_then call 0 0 start pass.progress after (p f).1 later.1,
      );
  last = λ count file start pass p none less f. (last_waits file start pass (p f).0 none, (p f).1);
  none = λ start f. steps_none call start;
  more = λ file files start next after first rest f.
      let here = first (omega arith) f in steps_then call 0 0 start next after here.1 (rest here.0.fine);
}

all_passes-steps : (call : Call) (progress : Progress) → IsFine progress.server
    → GoesBySteps call 0 progress (all_passes progress)
all_passes-steps call progress f = any_passes (pass_by call) _ _ (passes-steps call) progress f

-- ---- arrivals

-- whatever it asks
asked-refuses : (server : Server) (client : ℕ) (request : FileRequest) (status : Status)
    → file_asked server client request ≡ Err status → MayRefuse server client request status
asked-refuses server client request status e = grind arith

asked_stays : (before after : Server) (client : ℕ) (request : FileRequest) (file : ℕ) → Keeps Anywhere before after
    → after.files ≡ before.files → file_asked before client request ≡ Ok file → file_asked after client request ≡ Ok file
asked_stays before after client request at k same e = grind arith

no_file : (asked : Result ℕ Status) (status : Status) (file : ℕ) → asked ≡ Err status → asked ≡ Ok file → ⊥
no_file asked status file e f = cc

one_file : (asked : Result ℕ Status) (file other : ℕ) → asked ≡ Ok file → asked ≡ Ok other → other ≡ file
one_file asked file other e f = cc

-- the lane of a request that finds its open stays
open_lane : (file_id : ℕ) (before after : Option Open) (file : ℕ) → ((one : Open) → before ≡ Some one → after ≡ Some one)
    → file_of_open before ≡ Ok file → lane_of_open file_id after ≡ lane_of_open file_id before
open_lane file_id None after file stays never = absurd (cc)
open_lane file_id (Some one) after file stays e = ap (lane_of_open file_id) (stays one refl)

lane_stays : (before after : Server) (client : ℕ) (request : FileRequest) (file : ℕ) → Keeps Anywhere before after
    → file_asked before client request ≡ Ok file → lane_of after client request ≡ lane_of before client request
lane_stays before after client (FileRequest.Create at access share contexts) file k e = refl
lane_stays before after client (FileRequest.Read file_id) file k e = open_lane file_id
    (connected_open before client file_id) (connected_open after client file_id) file
    (λ one found. k.finds client file_id one found tt) e
lane_stays before after client (FileRequest.Write file_id number patch) file k e = open_lane file_id
    (connected_open before client file_id) (connected_open after client file_id) file
    (λ one found. k.finds client file_id one found tt) e
lane_stays before after client (FileRequest.Close file_id) file k e = open_lane file_id
    (connected_open before client file_id) (connected_open after client file_id) file
    (λ one found. k.finds client file_id one found tt) e

-- no earlier request that it waits behind is held there
still_first : (file : ℕ) (one : Held) (before after : Progress) → Keeps Anywhere before.server after.server
    → SameHeld before after → one.lane ≡ lane_of before.server one.client one.request
    → file_asked before.server one.client one.request ≡ Ok file
    → file_asked after.server one.client one.request ≡ Ok file
    → is_behind before.server.rules one (before.server.held file) ≡ false
    → (other : ℕ) → file_asked after.server one.client one.request ≡ Ok other
    → is_behind after.server.rules (as_held after.server one.client one.request) (after.server.held other) ≡ false
still_first file one before after k same lane was asked first other e =
    let here = one_file (file_asked after.server one.client one.request) file other asked e in
    let same_lane = lane_stays before.server after.server one.client one.request file k was ∙ sym lane in
    ap (λ rules. is_behind rules (as_held after.server one.client one.request) (after.server.held other)) k.rules
    ∙ ap (λ lane. is_behind before.server.rules (held_of one.client one.request lane) (after.server.held other)) same_lane
    ∙ ap (λ (held : ℕ → List Held). is_behind before.server.rules one (held other)) same
    ∙ ap (λ at. is_behind before.server.rules one (before.server.held at)) here ∙ first

-- what follows a first try
first_try-steps : (call : Call) (file : ℕ) (one : Held) (before : Progress) (progress : Progress)
    (outcome : Outcome) → call ≡ Call.Receive one.client (Request.OnFile one.request)
    → before.server.present one.client ≡ true
    → IsTry one.client one.request before (record { progress = progress; outcome = outcome })
    → GoesBySteps call 0 before progress
    → ((outcome ≡ Outcome.Waits → ⊥) → MayEndAt progress one outcome)
    → one.lane ≡ lane_of before.server one.client one.request
    → file_asked before.server one.client one.request ≡ Ok file
    → is_behind before.server.rules one (before.server.held file) ≡ false
    → GoesBySteps call 1 before (after_first_try file one progress outcome)
first_try-steps call file one before progress Outcome.Waits of up t go may lane asked first =
    steps_then call 0 1 before progress (request_held file one progress) go
    (step_one call (SmallStep.Hold file one) progress (t.goes.ups one.client ∙ up, inl (t.waits refl)) (
      asked_stays before.server progress.server one.client one.request file t.keeps t.goes.files asked,
      lane ∙ sym (lane_stays before.server progress.server one.client one.request file t.keeps asked),
    ) of)
first_try-steps call file one before progress outcome of up t go may lane asked first =
    steps_then call 0 1 before progress (concluded one.client one.request progress outcome) go
    (step_one call (SmallStep.Answer one.client one.request outcome) progress (may (λ never. absurd (cc)))
    (still_first file one before progress t.keeps t.held lane asked
    (asked_stays before.server progress.server one.client one.request file t.keeps t.goes.files asked) first) of)

-- a request that comes
arrived_before-steps : (call : Call) (one : Held) (progress : Progress) (asked : Result ℕ Status)
    → call ≡ Call.Receive one.client (Request.OnFile one.request) → IsFine progress.server → WaitsWell progress.server
    → progress.server.present one.client ≡ true → one.lane ≡ lane_of progress.server one.client one.request
    → file_asked progress.server one.client one.request ≡ asked
    → GoesBySteps call 1 progress (arrived_before one progress asked)
arrived_before-steps call one progress (Err status) of f w up lane e =
    step_one call (SmallStep.Answer one.client one.request (Outcome.Refused status)) progress
    (up, asked-refuses progress.server one.client one.request status e) (λ file asked. absurd
    (no_file (file_asked progress.server one.client one.request) status file e asked)) of
arrived_before-steps call one progress (Ok file) of f w up lane e =
    let done = tried one.client one.request progress in
    let t = any_try one.client one.request progress f.sound in
    if_cases (GoesBySteps call 1 progress) (is_behind progress.server.rules one (progress.server.held file))
    (request_held file one progress) (after_first_try file one done.progress done.outcome)
    (λ behind. step_one call (SmallStep.Hold file one) progress (up, inr (w, behind)) (e, lane) of)
    (λ first. first_try-steps call file one progress done.progress done.outcome of up t
    (tried-steps call one.client one.request progress f.sound)
    (λ ends. tried-guarded one.client one.request progress ends (t.goes.ups one.client ∙ up)) lane e first)

arrived_on-steps : (call : Call) (client : ℕ) (request : FileRequest) (progress : Progress) (asked : Result ℕ Status)
    → call ≡ Call.Receive client (Request.OnFile request) → IsFine progress.server → WaitsWell progress.server
    → progress.server.present client ≡ true → file_asked progress.server client request ≡ asked
    → GoesBySteps call 1 progress (arrived_on client request progress asked)
arrived_on-steps call client request progress asked of f w up =
    arrived_before-steps call (as_held progress.server client request) progress asked of f w up refl

-- and finds its own file
asked-steps : (call : Call) (client : ℕ) (request : FileRequest) (progress : Progress)
    → call ≡ Call.Receive client (Request.OnFile request) → IsFine progress.server → WaitsWell progress.server
    → progress.server.present client ≡ true
    → GoesBySteps call 1 progress (arrived_on client request progress (file_asked progress.server client request))
asked-steps call client request progress of f w up =
    arrived_on-steps call client request progress (file_asked progress.server client request) of f w up refl

-- a request about a file
file_request-steps : (call : Call) (client : ℕ) (request : FileRequest) (progress : Progress)
    → call ≡ Call.Receive client (Request.OnFile request) → IsFine progress.server → WaitsWell progress.server
    → progress.server.present client ≡ true → GoesBySteps call 1 progress (file_request_arrived client request progress)
file_request-steps call client (FileRequest.Close file_id) progress of f w up =
    let request = FileRequest.Close file_id in
    let after = arrived_on client request progress (file_asked progress.server client request) in
    steps_then call 1 0 progress after (all_passes after) (asked-steps call client request progress of f w up)
    (all_passes-steps call after (arrived_on-fine client request progress (file_asked progress.server client request) f
    (asked_well client request progress f up)))
file_request-steps call client request progress of f w up = asked-steps call client request progress of f w up

-- an acknowledgment
acknowledged-steps : (call : Call) (client : ℕ) (given : Option LeaseOf) (progress : Progress)
    → call ≡ Call.Receive client (Request.Acknowledge given) → IsFine progress.server
    → progress.server.present client ≡ true → GoesBySteps call 1 progress (all_passes (acknowledged client given progress))
acknowledged-steps call client given progress of f up =
    let after = acknowledged client given progress in
    steps_then call 1 0 progress after (all_passes after) (step_one call (SmallStep.Acknowledge client given) progress up tt of)
    (all_passes-steps call after (fine_goes progress after f (acknowledged-sound client given progress f.sound)
    (acknowledged-goes client given progress) (acknowledged-held client given progress)))

-- ---- calls

-- it has one step of its own where its client is connected
received-steps : (server : Server) (client : ℕ) (request : Request) (after : Progress) → server.present client ≡ true
    → GoesBySteps (Call.Receive client request) 1 (begun server) after
    → GoesBySteps (Call.Receive client request) (own_steps server (Call.Receive client request)) (begun server) after
received-steps server client request after up go =
    rw (up) go

idle-steps : (server : Server) (call : Call) → IsIdle server call
    → GoesBySteps call (own_steps server call) (begun server) (begun server)
idle-steps server (Call.Receive client request) why = rw (why) (steps_none (Call.Receive client request) (begun server))
idle-steps server call why = steps_none call (begun server)

-- every call
pub called-steps : (server : Server) (call : Call) → IsSound server → WaitsWell server
    → GoesBySteps call (own_steps server call) (call_begun server call) (called server call)
called-steps server call s w =
    let fine : IsFine server = record { sound = s; orderly = w.is_orderly } in
    any_call server (λ call. GoesBySteps call (own_steps server call)) (record {
      idle = idle-steps server;
      joins = λ client down. steps_none (Call.Join client) (joined client (begun server));
      judges = λ client given up. received-steps server client (Request.Acknowledge given) _ up
          (acknowledged-steps (Call.Receive client (Request.Acknowledge given)) client given (begun server) refl fine up);
      receives = λ client request up. received-steps server client (Request.OnFile request) _ up
          (file_request-steps (Call.Receive client (Request.OnFile request)) client request (begun server) refl fine w up);
      cuts = λ client up. all_passes-steps (Call.Cut client) (links_lost server client) (cut-fine server client fine);
      expires = λ key breaks. all_passes-steps (Call.Expire key) (lease_lost server key) (expired-fine server key fine);
      scavenges = λ file_id left. all_passes-steps (Call.Scavenge file_id)
          (opens_dropped (is_left_behind file_id) (begun server)) (dropped-fine (is_left_behind file_id) (begun server) fine);
      withdraws = λ file marks some. all_passes-steps (Call.Withdraw file marks) (requests_lost server file marks)
          (withdrawn-fine server file marks fine);
      gives_up = λ own file extent. let call : Call = Call.GiveUp own file extent in
          steps_then call 0 0 (begun server) (others_broken server own file extent)
          (all_passes (others_broken server own file extent)) (others_broken-steps call server own file extent s)
          (all_passes-steps call (others_broken server own file extent) (others_broken-fine server own file extent fine));
      leaves = λ client file_ids marks up. all_passes-steps (Call.Leave client file_ids marks)
          (parts_left server client file_ids marks) (left-fine server client file_ids marks fine);
    }) call

-- ---- the first part of a call gives nothing out

pub call_begun-silent : (server : Server) (call : Call) → (call_begun server call).outs ≡ []
call_begun-silent server call = any_call server (λ call start after. start.outs ≡ []) (record {
  idle = λ call why. refl;
  joins = λ client down. refl;
  judges = λ client given up. refl;
  receives = λ client request up. refl;
  cuts = λ client up. refl;
  expires = λ key breaks. refl;
  scavenges = λ file_id left. refl;
  withdraws = λ file marks some. refl;
  gives_up = λ own file extent. refl;
  leaves = λ client file_ids marks up. refl;
}) call

-- ---- and leaves the laws, and who is connected

pub record IsBegunWell (progress : Progress) : Type 0 where
  pub sound : IsSound progress.server
  pub up : (one : Open) → Among one progress.server.opens → one.connected ≡ true → progress.server.present one.client ≡ true

pub call_begun-up : (server : Server) (call : Call) → IsSound server → WaitsWell server → IsBegunWell (call_begun server call)
call_begun-up server call s w =
    let fine : IsFine server = record { sound = s; orderly = w.is_orderly } in
    let well : (progress : Progress) → IsFine progress.server → IsBegunWell progress =
    λ progress f. record { sound = f.sound; up = f.orderly.opens_up } in
    any_call server (λ call start after. IsBegunWell start) (record {
      idle = λ call why. well (begun server) fine;
      joins = λ client down. well (joined client (begun server)) (record {
        sound = joined-sound client (begun server) s;
        orderly = joined-orderly client (begun server) w.is_orderly;
      });
      judges = λ client given up. well (begun server) fine;
      receives = λ client request up. well (begun server) fine;
      cuts = λ client up. well (links_lost server client) (cut-fine server client fine);
      expires = λ key breaks. well (lease_lost server key) (expired-fine server key fine);
      scavenges = λ file_id left. well (opens_dropped (is_left_behind file_id) (begun server))
          (dropped-fine (is_left_behind file_id) (begun server) fine);
      withdraws = λ file marks some. well (requests_lost server file marks) (withdrawn-fine server file marks fine);
      gives_up = λ own file extent. well (begun server) fine;
      leaves = λ client file_ids marks up. well (parts_left server client file_ids marks)
          (left-fine server client file_ids marks fine);
    }) call
