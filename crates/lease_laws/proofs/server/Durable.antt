-- An open is durable only where the answer to its create says so.
use Rattle.lease_laws.proofs.Words.{◌++◌, ◌==◌, ◌∙◌, ◌∷◌, ◌≡◌, ◌⊎◌, Access, Among, Bool, Call, FileRequest, Held, IsToldDurable}
use Rattle.lease_laws.proofs.Words.{Lease, LeaseOf, List, Open, Option, Out, Outcome, Pass, Progress, Server, Share}
use Rattle.lease_laws.proofs.Words.{Tried, WasDurable, ℕ, ⊎_elim, [], acknowledged, all_passes, ap, begun}
use Rattle.lease_laws.proofs.Words.{called, concluded, cond, connected_again, false}
use Rattle.lease_laws.proofs.Words.{granted_with, has_key, held_left, inl, inr, is_left_behind, is_left_open, is_lost}
use Rattle.lease_laws.proofs.Words.{lease_after, new_open, not, opens_dropped, refl, subst, sym}
use Rattle.lease_laws.proofs.Words.{tried, tried_again, true}
use Rattle.lease_laws.proofs.Words.{Err, Ok, Result, Status, after_first_try, arrived_before, arrived_on, as_held, file_asked}
use Rattle.lease_laws.proofs.Words.{file_request_arrived, is_behind, is_lost_of, is_named, map, others_broken, others_wants}
use Rattle.lease_laws.proofs.Words.{parted, request_held, without}
use Rattle.lease_laws.proofs.server.Lists.{among_append, among_before, among_behind, among_filter, among_map, if_cases}
use Rattle.lease_laws.proofs.server.cases.Calls.{any_call, lease_lost, links_lost, parts_left, requests_lost}
use Rattle.lease_laws.proofs.server.cases.Ends.{HasEnds, any_end}
use Rattle.lease_laws.proofs.server.cases.Judgements.{any_judgement}
use Rattle.lease_laws.proofs.server.cases.Passes.{any_try_again, passes_keep}
use Rattle.lease_laws.proofs.server.cases.Tries.{HasTries, any_meeting, any_try}

-- it is as durable as it was
there : (before : Server) (one : Open) → Among one before.opens → one.durable ≡ true → WasDurable before one
there before one a d = record {
  was = one;
  was_there = a;
  same_id = refl;
  same_file = refl;
  same_client = refl;
  was_durable = d;
}

-- A call goes on: what was given out stays, and each open that is durable was, or is told so.
record Carries (before : Progress) (after : Progress) : Type 0 where
  outs : (out : Out) → Among out before.outs → Among out after.outs
  opens : (one : Open) → Among one after.server.opens → one.durable ≡ true
      → WasDurable before.server one ⊎ IsToldDurable one after.outs

same : (progress : Progress) → Carries progress progress
same progress = record { outs = λ out a. a; opens = λ one a d. inl (there progress.server one a d) }

-- what is told of an open is told of it as it is since
told_since : (one was : Open) (outs : List Out) → one.file_id ≡ was.file_id → one.file ≡ was.file → one.client ≡ was.client
    → IsToldDurable was outs → IsToldDurable one outs
told_since one was outs id file client told = record {
  answer = told.answer;
  is_durable = told.is_durable;
  is_sent = rw (id, file, client) told.is_sent;
}

-- and stays told
told_on : (one : Open) (outs more : List Out) → ((out : Out) → Among out outs → Among out more)
    → IsToldDurable one outs → IsToldDurable one more
told_on one outs more go told = record { answer = told.answer; is_durable = told.is_durable; is_sent = go _ told.is_sent }

twice : (a b c : Progress) → Carries a b → Carries b c → Carries a c
twice a b c h k = record {
  outs = λ out x. k.outs out (h.outs out x);
  opens = λ one x d. ⊎_elim
      (λ (was : WasDurable b.server one). ⊎_elim
      (λ (first : WasDurable a.server was.was). inl (record {
        was = first.was;
        was_there = first.was_there;
        same_id = was.same_id ∙ first.same_id;
        same_file = was.same_file ∙ first.same_file;
        same_client = was.same_client ∙ first.same_client;
        was_durable = first.was_durable;
      }))
      (λ told. inr (told_on one b.outs c.outs k.outs
      (told_since one was.was b.outs was.same_id was.same_file was.same_client told)))
      (h.opens was.was was.was_there was.was_durable))
      (λ told. inr told) (k.opens one x d);
}

-- the opens stay, or fewer do
fewer : (progress : Progress) (after : Server) (more : List Out) → ((one : Open) → Among one after.opens
    → Among one progress.server.opens) → Carries progress (record { server = after; outs = progress.outs ++ more })
fewer progress after more less = record {
  outs = λ out a. among_before out progress.outs more a;
  opens = λ one a d. inl (there progress.server one (less one a) d);
}

dropped : (test : Open → Bool) (progress : Progress) → Carries progress (opens_dropped test progress)
dropped test progress = fewer progress (opens_dropped test progress).server []
    (λ one a. (among_filter (λ x. not (test x)) one progress.server.opens a).0)

-- opens that lose or gain their connection are durable as they were
mapped : (f : Open → Open) (progress : Progress) (after : Server) (more : List Out)
    → ((one : Open) → Among (f one) after.opens → (f one).durable ≡ true → Among one progress.server.opens
    → WasDurable progress.server (f one))
    → ((one : Open) → Among one after.opens → (was : Open) × (Among was progress.server.opens) × (one ≡ f was))
    → Carries progress (record { server = after; outs = progress.outs ++ more })
mapped f progress after more keeps from = record {
  outs = λ out a. among_before out progress.outs more a;
  opens = λ one a d. let x = from one a in
      inl (subst (WasDurable progress.server) (sym x.2)
      (keeps x.0 (subst (λ o. Among o after.opens) x.2 a) (ap (λ o. o.durable) (sym x.2) ∙ d) x.1));
}

-- an open whose connection alone changes
connection : (server : Server) (was : Open) (b up : Bool) → Among was server.opens → was.durable ≡ true
    → WasDurable server (cond b (record was { connected = up }) was)
connection server was true up a d = record {
  was = was;
  was_there = a;
  same_id = refl;
  same_file = refl;
  same_client = refl;
  was_durable = d;
}
connection server was false up a d = there server was a d

still_durable : (was : Open) (b up : Bool) → (cond b (record was { connected = up }) was).durable ≡ true → was.durable ≡ true
still_durable was true up d = d
still_durable was false up d = d

connections : (test : Open → Bool) (up : Bool) (progress : Progress) (after : Server) (more : List Out)
    → ((one : Open) → Among one after.opens → (was : Open) × (Among was progress.server.opens)
    × (one ≡ cond (test was) (record was { connected = up }) was))
    → Carries progress (record { server = after; outs = progress.outs ++ more })
connections test up progress after more from = mapped (λ was. cond (test was) (record was { connected = up }) was)
    progress after more
    (λ was a d there. connection progress.server was (test was) up there (still_durable was (test was) up d)) from

-- a try
tries_carry : HasTries Carries
tries_carry = record {
  same = same;
  behind = twice;
  drop = λ key progress. dropped (is_left_open key) progress;
  lower = λ key lowered progress settled. fewer progress _ _ (λ one a. a);
  begin = λ key lowered progress settled. fewer progress _ _ (λ one a. a);
}

-- a new open is durable as its answer says
grant_carries : (client file : ℕ) (access : Access) (share : Share) (asked : Option LeaseOf) (durable : Bool) (lease : Lease)
    (progress : Progress) → Carries progress (granted_with client file access share asked durable lease progress)
grant_carries client file access share asked durable lease progress = record {
  outs = λ out a. among_before out progress.outs _ a;
  opens = λ one a d. ⊎_elim (λ old. inl (there progress.server one old d))
      (λ new. ⊎_elim (λ is. inr (told_new one is d)) (λ never. absurd never) new)
      (among_append one progress.server.opens (new_open progress.server client file access share asked durable lease ∷ []) a);
}
  where
    after : Progress
    after = granted_with client file access share asked durable lease progress

    told_new : (one : Open) → one ≡ new_open progress.server client file access share asked durable lease
        → one.durable ≡ true → IsToldDurable one after.outs
    told_new one is d = subst (λ (o : Open). IsToldDurable o after.outs) (sym is) (record {
      answer = _;
      is_durable = ap (λ (o : Open). o.durable) (sym is) ∙ d;
      is_sent = among_behind _ progress.outs _ (inr (inl refl));
    })

-- the end of a try
ends_carry : (client : ℕ) (progress : Progress) → HasEnds client progress (λ request outcome. Carries progress)
ends_carry client progress = record {
  refused = λ request status. fewer progress _ _ (λ one a. a);
  left = λ request outcome why. same progress;
  full = λ file access share ask none out. fewer progress _ _ (λ one a. a);
  granted = λ file access share ask none room. grant_carries client file access share ask.lease ask.durable
      (lease_after progress.server client file ask.lease) progress;
  again = λ file access share ask file_id some. connections (λ one. one.file_id == file_id) true progress _ _
      (λ one a. among_map (connected_again file_id) one progress.server.opens a);
  read = λ file_id one own. fewer progress _ _ (λ one a. a);
  changed = λ file_id number patch one own. fewer progress _ _ (λ one a. a);
  closed = λ file_id one own. twice progress (opens_dropped (λ other. other.file_id == file_id) progress) _
      (dropped (λ other. other.file_id == file_id) progress)
      (fewer (opens_dropped (λ other. other.file_id == file_id) progress) _ _ (λ one a. a));
}

concluded-carries : (client : ℕ) (request : FileRequest) (progress : Progress) (outcome : Outcome)
    → Carries progress (concluded client request progress outcome)
concluded-carries client request progress = any_end client progress _ (ends_carry client progress) request

tried-carries : (client : ℕ) (request : FileRequest) (progress : Progress)
    → Carries progress (tried client request progress).progress
tried-carries client request progress = any_try Carries tries_carry 3 client request progress

acknowledged-carries : (client : ℕ) (given : Option LeaseOf) (progress : Progress)
    → Carries progress (acknowledged client given progress)
acknowledged-carries client given progress = any_judgement client progress (λ given. Carries progress) (record {
  failed = λ given why. fewer progress _ _ (λ one a. a);
  ended = λ g lowered there breaks within. fewer progress _ _ (λ one a. a);
}) given

-- ---- passes and calls

-- a held request that is tried again
again_carries : (base : Progress) (file : ℕ) (one : Held) (waiting : List Held) (pass : Pass) → Carries base pass.progress
    → Carries base (tried_again file one waiting pass).progress
again_carries base file one waiting pass so_far =
    let done : Tried = tried one.client one.request pass.progress in
    let tries : Carries base done.progress = twice base pass.progress done.progress so_far
    (tried-carries one.client one.request pass.progress) in
    any_try_again file one waiting pass (λ after. Carries base after.progress) (record {
      behind = λ behind. so_far;
      waits = λ first waits. tries;
      answers = λ first ends.
          let left : Progress = held_left file (pass.passed ++ waiting) done.progress in
          twice base left (concluded one.client one.request left done.outcome)
          (twice base done.progress left tries (fewer done.progress left.server [] (λ one a. a)))
          (concluded-carries one.client one.request left done.outcome);
    })

passes_carry : (base progress : Progress) → Carries base progress → Carries base (all_passes progress)
passes_carry base = passes_keep (Carries base) (again_carries base)

-- what follows a first try
first_carries : (file : ℕ) (one : Held) (progress : Progress) (outcome : Outcome)
    → Carries progress (after_first_try file one progress outcome)
first_carries file one progress Outcome.Waits = fewer progress _ [] (λ one a. a)
first_carries file one progress (Outcome.Refused status) =
    concluded-carries one.client one.request progress (Outcome.Refused status)
first_carries file one progress Outcome.Ready = concluded-carries one.client one.request progress Outcome.Ready

arrived_carries : (one : Held) (progress : Progress) (asked : Result ℕ Status)
    → Carries progress (arrived_before one progress asked)
arrived_carries one progress (Err status) = fewer progress _ _ (λ one a. a)
arrived_carries one progress (Ok file) =
    let done = tried one.client one.request progress in
    if_cases (Carries progress) (is_behind progress.server.rules one (progress.server.held file))
    (request_held file one progress) (after_first_try file one done.progress done.outcome)
    (λ e. fewer progress _ [] (λ one a. a))
    (λ e. twice progress done.progress (after_first_try file one done.progress done.outcome)
    (tried-carries one.client one.request progress) (first_carries file one done.progress done.outcome))

request_carries : (client : ℕ) (request : FileRequest) (progress : Progress)
    → Carries progress (file_request_arrived client request progress)
request_carries client (FileRequest.Close file_id) progress = passes_carry progress
    (arrived_on client (FileRequest.Close file_id) progress (file_asked progress.server client (FileRequest.Close file_id)))
    (arrived_carries (as_held progress.server client (FileRequest.Close file_id)) progress
    (file_asked progress.server client (FileRequest.Close file_id)))
request_carries client request progress = arrived_carries (as_held progress.server client request) progress
    (file_asked progress.server client request)

-- opens of a connection that is lost, or that are left
parts_carry : (lost test : Open → Bool) (progress : Progress) (after : Server)
    → after.opens ≡ map (parted test) (without lost progress.server.opens)
    → Carries progress (record { server = after; outs = progress.outs ++ [] })
parts_carry lost test progress after e = connections test false progress after []
    (λ one a. let x = among_map (parted test) one (without lost progress.server.opens) (subst (Among one) e a) in
    (x.0, (among_filter (λ o. not (lost o)) x.0 progress.server.opens x.1).0, x.2))

called-carries : (server : Server) (call : Call) → Carries (begun server) (called server call)
called-carries server call = any_call server (λ call start after. Carries (begun server) after) (record {
  idle = λ call why. same (begun server);
  joins = λ client down. fewer (begun server) _ [] (λ one a. a);
  judges = λ client given up. passes_carry (begun server) (acknowledged client given (begun server))
      (acknowledged-carries client given (begun server));
  receives = λ client request up. request_carries client request (begun server);
  cuts = λ client up. passes_carry (begun server) (links_lost server client)
      (parts_carry (is_lost server client) (λ one. one.client == client) (begun server) _ refl);
  expires = λ key breaks. passes_carry (begun server) (lease_lost server key) (fewer (begun server) _ []
      (λ one a. (among_filter (λ x. not (has_key key x)) one server.opens a).0));
  scavenges = λ file_id left. passes_carry (begun server) (opens_dropped (is_left_behind file_id) (begun server))
      (dropped (is_left_behind file_id) (begun server));
  withdraws = λ file marks some. passes_carry (begun server) (requests_lost server file marks)
      (fewer (begun server) _ [] (λ one a. a));
  gives_up = λ own file extent. passes_carry (begun server) (others_broken server own file extent)
      (any_meeting Carries tries_carry (others_wants server own file extent) (begun server));
  leaves = λ client file_ids marks up. passes_carry (begun server) (parts_left server client file_ids marks)
      (parts_carry (is_lost_of server (is_named client file_ids)) (is_named client file_ids) (begun server) _ refl);
}) call

pub durable-told : (server : Server) (call : Call) (one : Open) → Among one (called server call).server.opens
    → one.durable ≡ true → WasDurable server one ⊎ IsToldDurable one (called server call).outs
durable-told server call = (called-carries server call).opens
