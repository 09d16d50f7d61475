-- Every call gives out fair outs.
use Rattle.lease_laws.proofs.Words.{◌++◌, ◌≡◌, Call, Err, FileRequest, GoOn, Held, IsBreak, IsNoBreak, Key, List}
use Rattle.lease_laws.proofs.Words.{Ok, Out, Outcome, Pass, Progress, Result, Server, Status, Tried, ℕ, [], acknowledged}
use Rattle.lease_laws.proofs.Words.{after_first_try, all_passes, append-nil, arrived_on, begun, called}
use Rattle.lease_laws.proofs.Words.{client_forgotten, concluded, file_asked, file_request_arrived}
use Rattle.lease_laws.proofs.Words.{has_key, held_left, is_behind, is_left_behind, is_lost, joined}
use Rattle.lease_laws.proofs.Words.{key_expired, opens_disconnected}
use Rattle.lease_laws.proofs.Words.{opens_dropped, pass_answered, refused}
use Rattle.lease_laws.proofs.Words.{request_held, subst, sym, tried, tried_again}
use Rattle.lease_laws.proofs.Words.{arrived_before, as_held}
use Rattle.lease_laws.proofs.server.Lists.{if_cases}
use Rattle.lease_laws.proofs.server.OutLists.{AreFair, IsGoodBreak, breaks_fair, answers_fair, answers_go_on, none_fair}
use Rattle.lease_laws.proofs.server.OutLists.{go_on-weaker}
use Rattle.lease_laws.proofs.server.OutSteps.{opens_dropped-outs, tried_for-broken, concluded-answered, acknowledged-answered}
use Rattle.lease_laws.proofs.server.OutSteps.{refused-answered}
use Rattle.lease_laws.proofs.Words.{others_broken, others_wants}
use Rattle.lease_laws.proofs.server.OutSteps.{Broken, tries_break}
use Rattle.lease_laws.proofs.server.cases.Tries.{any_meeting}
use Rattle.lease_laws.proofs.server.cases.Calls.{any_call, lease_lost, links_lost, parts_left, requests_lost}
use Rattle.lease_laws.proofs.server.cases.Passes.{any_try_again, passes_keep}

-- for calls under way
abbrev pub Fair : Progress → Type 0
Fair progress = AreFair progress.outs

-- what gives nothing out
silent_fair : (before after : List Out) → after ≡ before → AreFair before → AreFair after
silent_fair before after same fair = subst AreFair (sym same) fair

-- to take a request off the held ones gives nothing out
pub held_left-outs : (file : ℕ) (left : List Held) (progress : Progress) → (held_left file left progress).outs ≡ progress.outs
held_left-outs file left progress = append-nil progress.outs

-- to hold a request gives nothing out
pub request_held-outs : (file : ℕ) (one : Held) (progress : Progress) → (request_held file one progress).outs ≡ progress.outs
request_held-outs file one progress = append-nil progress.outs

-- to disconnect opens gives nothing out
opens_disconnected-outs : (client : ℕ) (progress : Progress) → (opens_disconnected client progress).outs ≡ progress.outs
opens_disconnected-outs client progress = append-nil progress.outs

-- to forget a client gives nothing out
client_forgotten-outs : (client : ℕ) (progress : Progress) → (client_forgotten client progress).outs ≡ progress.outs
client_forgotten-outs client progress = append-nil progress.outs

-- to mark a key gives nothing out
key_expired-outs : (key : Key) (progress : Progress) → (key_expired key progress).outs ≡ progress.outs
key_expired-outs key progress = append-nil progress.outs

-- a join that applies gives nothing out
joined-outs : (client : ℕ) (progress : Progress) → (joined client progress).outs ≡ progress.outs
joined-outs client progress = append-nil progress.outs

-- a try
tried-fair : (client : ℕ) (request : FileRequest) (progress : Progress) → Fair progress
    → Fair (tried client request progress).progress
tried-fair client request progress fair = breaks_fair progress.outs (tried client request progress).progress.outs fair
    (tried_for-broken 3 client request progress)

-- the end of a try keeps the outs fair
concluded-fair : (client : ℕ) (request : FileRequest) (progress : Progress) (outcome : Outcome) → Fair progress
    → Fair (concluded client request progress outcome)
concluded-fair client request progress outcome fair = answers_fair progress.outs
    (concluded client request progress outcome).outs fair (concluded-answered client request progress outcome)

-- to answer a held request keeps the outs fair
pass_answered-fair : (file : ℕ) (one : Held) (waiting : List Held) (pass : Pass) (done : Tried) → Fair done.progress
    → Fair (pass_answered file one waiting pass done).progress
pass_answered-fair file one waiting pass done fair = concluded-fair one.client one.request
    (held_left file (pass.passed ++ waiting) done.progress) done.outcome
    (silent_fair done.progress.outs (held_left file (pass.passed ++ waiting) done.progress).outs
    (held_left-outs file (pass.passed ++ waiting) done.progress) fair)

-- a held request tried again keeps the outs fair
tried_again-fair : (file : ℕ) (one : Held) (waiting : List Held) (pass : Pass) → Fair pass.progress
    → Fair (tried_again file one waiting pass).progress
tried_again-fair file one waiting pass fair =
    let done = tried-fair one.client one.request pass.progress fair in
    any_try_again file one waiting pass (λ after. Fair after.progress) (record {
      behind = λ behind. fair;
      waits = λ first waits. done;
      answers = λ first ends.
          pass_answered-fair file one waiting pass (tried one.client one.request pass.progress) done;
    })

-- passes keep the outs fair
all_passes-fair : (progress : Progress) → Fair progress → Fair (all_passes progress)
all_passes-fair = passes_keep Fair tried_again-fair

-- what follows a first try keeps the outs fair
after_first_try-fair : (file : ℕ) (one : Held) (progress : Progress) (outcome : Outcome) → Fair progress
    → Fair (after_first_try file one progress outcome)
after_first_try-fair file one progress Outcome.Waits fair =
    silent_fair progress.outs (request_held file one progress).outs (request_held-outs file one progress) fair
after_first_try-fair file one progress outcome fair = concluded-fair one.client one.request progress outcome fair

-- a request on a file keeps the outs fair
arrived_before-fair : (one : Held) (progress : Progress) (asked : Result ℕ Status)
    → Fair progress → Fair (arrived_before one progress asked)
arrived_before-fair one progress (Err status) fair = answers_fair progress.outs
    (refused one.client one.request status progress).outs fair (refused-answered one.client one.request status progress)
arrived_before-fair one progress (Ok file) fair =
    let done = tried one.client one.request progress in
    if_cases Fair (is_behind progress.server.rules one (progress.server.held file))
    (request_held file one progress) (after_first_try file one done.progress done.outcome)
    (λ e. silent_fair progress.outs (request_held file one progress).outs (request_held-outs file one progress) fair)
    (λ e. after_first_try-fair file one done.progress done.outcome (tried-fair one.client one.request progress fair))

arrived_on-fair : (client : ℕ) (request : FileRequest) (progress : Progress) (asked : Result ℕ Status)
    → Fair progress → Fair (arrived_on client request progress asked)
arrived_on-fair client request progress = arrived_before-fair (as_held progress.server client request) progress

-- a request about a file keeps the outs fair
file_request-fair : (client : ℕ) (request : FileRequest) (progress : Progress) → Fair progress
    → Fair (file_request_arrived client request progress)
file_request-fair client (FileRequest.Close file_id) progress fair = all_passes-fair
    (arrived_on client (FileRequest.Close file_id) progress (file_asked progress.server client (FileRequest.Close file_id)))
    (arrived_on-fair client (FileRequest.Close file_id) progress
    (file_asked progress.server client (FileRequest.Close file_id)) fair)
file_request-fair client request progress fair = arrived_on-fair client request progress
    (file_asked progress.server client request) fair

-- to lose a client's links gives nothing out
links_lost-fair : (server : Server) (client : ℕ) → Fair (links_lost server client)
links_lost-fair server client =
    let dropped = opens_dropped (is_lost server client) (begun server) in
    let apart = opens_disconnected client dropped in
    silent_fair apart.outs (client_forgotten client apart).outs (client_forgotten-outs client apart)
    (silent_fair dropped.outs apart.outs (opens_disconnected-outs client dropped)
    (silent_fair [] dropped.outs (opens_dropped-outs (is_lost server client) (begun server)) none_fair))

-- to lose a lease gives nothing out
lease_lost-fair : (server : Server) (key : Key) → Fair (lease_lost server key)
lease_lost-fair server key =
    let dropped = opens_dropped (has_key key) (begun server) in
    silent_fair dropped.outs (key_expired key dropped).outs (key_expired-outs key dropped)
    (silent_fair [] dropped.outs (opens_dropped-outs (has_key key) (begun server)) none_fair)

-- the outs of a call are fair
pub called-fair : (server : Server) (call : Call) → Fair (called server call)
called-fair server call = any_call server (λ call start after. Fair after) (record {
  idle = λ call why. none_fair;
  joins = λ client down. silent_fair [] (joined client (begun server)).outs (joined-outs client (begun server)) none_fair;
  judges = λ client given up. all_passes-fair (acknowledged client given (begun server)) (answers_fair []
      (acknowledged client given (begun server)).outs none_fair (acknowledged-answered client given (begun server)));
  receives = λ client request up. file_request-fair client request (begun server) none_fair;
  cuts = λ client up. all_passes-fair (links_lost server client) (links_lost-fair server client);
  expires = λ key breaks. all_passes-fair (lease_lost server key) (lease_lost-fair server key);
  scavenges = λ file_id left. all_passes-fair (opens_dropped (is_left_behind file_id) (begun server)) (silent_fair []
      (opens_dropped (is_left_behind file_id) (begun server)).outs
      (opens_dropped-outs (is_left_behind file_id) (begun server)) none_fair);
  withdraws = λ file marks some. all_passes-fair (requests_lost server file marks) none_fair;
  gives_up = λ own file extent. all_passes-fair (others_broken server own file extent) (breaks_fair []
      (others_broken server own file extent).outs none_fair
      (any_meeting Broken tries_break (others_wants server own file extent) (begun server)));
  leaves = λ client file_ids marks up. all_passes-fair (parts_left server client file_ids marks) none_fair;
}) call

-- what a try gives out are breaks
pub tried-breaks : (client : ℕ) (request : FileRequest) (progress : Progress)
    → GoOn IsBreak progress.outs (tried client request progress).progress.outs
tried-breaks client request progress = go_on-weaker IsGoodBreak IsBreak (λ out good. good.0) progress.outs
    (tried client request progress).progress.outs (tried_for-broken 3 client request progress)

-- what the end of a try gives out is no break
pub concluded-answers : (client : ℕ) (request : FileRequest) (progress : Progress) (outcome : Outcome)
    → GoOn IsNoBreak progress.outs (concluded client request progress outcome).outs
concluded-answers client request progress outcome = answers_go_on progress.outs (concluded client request progress outcome).outs
    (concluded-answered client request progress outcome)
