-- Every reply of a server whose keys have 16 bytes has bytes.
use Rattle.lease_laws.proofs.Words.{◌++◌, ◌==◌, ◌∙◌, ◌∷◌, ◌≡◌, Access, Among, AreGuarded, AreOf, Bool, Call, CallHasFullKey}
use Rattle.std.proofs.Common.{arith}
use Rattle.lease_laws.proofs.Words.{EachOut, FileRequest, GoOn, HasFullKey, HasReplyBytes, HaveFullKeys, Held, IfSome, IsGuarded}
use Rattle.lease_laws.proofs.Words.{IsOfCall, IsSound, Key, Lease, LeaseOf, List, None, Open, Option, Out, OutHasBytes, Outcome}
use Rattle.lease_laws.proofs.Words.{Progress, Reply, Server, Share, SmallStep, Some, Status, WaitsWell, ℕ, ⊎_elim, ⊤, []}
use Rattle.lease_laws.proofs.Words.{acknowledged, ap, asked_key, begun, bytes_eq, bytes_eq-Decides}
use Rattle.lease_laws.proofs.Words.{call_begun, called, client_forgotten, concluded, connected_again, disconnected}
use Rattle.lease_laws.proofs.Words.{false, granted_with, has_key, has_lease, held_left, inl, inr}
use Rattle.lease_laws.proofs.Words.{is_key, is_left_behind, is_left_open, is_lost, joined, key_expired, key_of, lease_after}
use Rattle.lease_laws.proofs.Words.{lease_given, lease_put, length, not, opens_disconnected}
use Rattle.lease_laws.proofs.Words.{opens_dropped, put, refl, refusal_of, replied, request_held, standing_lease}
use Rattle.lease_laws.proofs.Words.{step_taken, steps_taken, subst, sym, true}
use Rattle.lease_laws.proofs.server.Lists.{if_cases, clash, and_parts, any_has, among_append, among_filter, among_map}
use Rattle.lease_laws.proofs.Words.{is_lost_of, is_named, opens_parted, parted, requests_left}
use Rattle.lease_laws.proofs.server.Lists.{among_behind, among_unmarked}
use Rattle.lease_laws.proofs.server.OutLists.{each_append, go_on-same}
use Rattle.lease_laws.proofs.server.OutSteps.{opens_dropped-outs}
use Rattle.lease_laws.proofs.server.OutCalls.{request_held-outs, held_left-outs}
use Rattle.lease_laws.proofs.server.Held.{requests_lost-there}
use Rattle.lease_laws.proofs.server.StepCalls.{called-steps, call_begun-silent}
use Rattle.lease_laws.proofs.server.cases.Calls.{any_call}
use Rattle.lease_laws.proofs.server.cases.Ends.{HasEnds, any_end}
use Rattle.lease_laws.proofs.server.cases.Judgements.{any_judgement}

-- what a step comes to: outs with bytes, and full keys
record IsFull (before : Progress) (after : Progress) : Type 0 where
  outs : GoOn OutHasBytes before.outs after.outs
  keys : HaveFullKeys after.server

-- a key with an open has 16 bytes
full_key : (server : Server) (key : Key) → HaveFullKeys server → has_lease server key ≡ true → length key.bytes ≡ 16
full_key server key full there =
    let x = any_has (has_key key) server.opens there in
    own (x.0).client (x.0).lease_key x.2 (λ bytes e. full.opens x.0 bytes x.1 e)
  where
    own : (client : ℕ) (bytes : Option (List ℕ)) → is_key key client bytes ≡ true
        → ((b : List ℕ) → bytes ≡ Some b → length b ≡ 16) → length key.bytes ≡ 16
    own client None k each = clash false k refl
    own client (Some bytes) k each = ap (λ b. length b) ((bytes_eq-Decides key.bytes bytes).0
        (and_parts (key.client == client) (bytes_eq key.bytes bytes) k).1) ∙ each bytes refl

-- one reply that has bytes, where nothing changes
replied_full : (client : ℕ) (reply : Reply) (progress : Progress) → HasReplyBytes reply → HaveFullKeys progress.server
    → IsFull progress (replied client reply progress)
replied_full client reply progress has full = grind arith

-- a refusal has bytes
refusal_bytes : (request : FileRequest) (status : Status) → HasReplyBytes (refusal_of request status)
refusal_bytes request status = grind arith

-- fewer opens
dropped_full : (test : Open → Bool) (progress : Progress) → HaveFullKeys progress.server
    → HaveFullKeys (opens_dropped test progress).server
dropped_full test progress full = record {
  opens = λ one bytes a e. full.opens one bytes (among_filter (λ x. not (test x)) one progress.server.opens a).0 e;
  held = full.held;
}

-- ---- a create

-- the lease context of a reply
given_bytes : (asked : Option LeaseOf) (lease : Lease) → IfSome asked (λ l. length l.key ≡ 16)
    → IfSome (lease_given asked lease) (λ l. length l.key ≡ 16)
given_bytes asked lease h = grind arith

-- the new open's key
new_key : (asked : Option LeaseOf) (bytes : List ℕ) → IfSome asked (λ l. length l.key ≡ 16)
    → asked_key asked ≡ Some bytes → length bytes ≡ 16
new_key asked bytes h e = grind arith

-- a lease that is put changes no open and no held request
put_opens : (server : Server) (client : ℕ) (asked : Option LeaseOf) (lease : Lease)
    → (lease_put server client asked lease).held ≡ server.held
put_opens server client asked lease = grind arith

granted_full : (client file : ℕ) (access : Access) (share : Share) (asked : Option LeaseOf) (durable : Bool)
    (progress : Progress) → IfSome asked (λ l. length l.key ≡ 16) → HaveFullKeys progress.server → IsFull progress
    (granted_with client file access share asked durable (lease_after progress.server client file asked) progress)
granted_full client file access share asked durable progress h full =
    let lease = lease_after progress.server client file asked in
    record {
      outs = record { more = _; are_more = refl; each = (tt, (given_bytes asked lease h, tt)) };
      keys = record {
        opens = λ one bytes a e. ⊎_elim (λ old. full.opens one bytes old e)
            (λ last. ⊎_elim (λ same. new_key asked bytes h (ap (λ o. o.lease_key) (sym same) ∙ e)) (λ never. absurd never) last)
            (among_append one progress.server.opens _ a);
        held = λ f one a. full.held f one (subst (λ held. Among one (held f)) (put_opens progress.server client asked lease) a);
      };
    }

-- an open that is connected again has its key
again_key : (file_id : ℕ) (one : Open) → (connected_again file_id one).lease_key ≡ one.lease_key
again_key file_id one = grind arith

-- ---- the end of a request

ends_full : (client : ℕ) (progress : Progress) → HaveFullKeys progress.server
    → HasEnds client progress (λ request outcome after. HasFullKey request → IsFull progress after)
ends_full client progress full = record {
  refused = λ request status h. replied_full client (refusal_of request status) progress (refusal_bytes request status) full;
  left = λ request outcome why h. record { outs = go_on-same OutHasBytes progress.outs; keys = full };
  full = λ file access share ask none out h. replied_full client _ progress tt full;
  granted = λ file access share ask none room h. granted_full client file access share ask.lease ask.durable progress h full;
  again = λ file access share ask file_id some h. record {
    outs = record {
      more = _;
      are_more = refl;
      each = (given_bytes ask.lease (standing_lease progress.server client ask.lease) h, tt);
    };
    keys = record {
      opens = λ one bytes a e. let x = among_map (connected_again file_id) one progress.server.opens a in
          full.opens x.0 bytes x.1 (sym (again_key file_id x.0) ∙ ap (λ o. o.lease_key) (sym x.2) ∙ e);
      held = full.held;
    };
  };
  read = λ file_id one own h. replied_full client _ progress tt full;
  changed = λ file_id number patch one own h. record {
    outs = record { more = _; are_more = refl; each = (tt, (tt, tt)) };
    keys = record { opens = full.opens; held = full.held };
  };
  closed = λ file_id one own h. let test = λ (other : Open). other.file_id == file_id in record {
    outs = subst
        (λ outs. GoOn OutHasBytes outs (replied client (Reply.Closed file_id) (opens_dropped test progress)).outs)
        (opens_dropped-outs test progress)
        (record { more = Out.Sent client (Reply.Closed file_id) ∷ []; are_more = refl; each = (tt, tt) });
    keys = dropped_full test progress full;
  };
}

concluded_full : (client : ℕ) (request : FileRequest) (progress : Progress) (outcome : Outcome)
    → HasFullKey request → HaveFullKeys progress.server → IsFull progress (concluded client request progress outcome)
concluded_full client request progress outcome h full =
    any_end client progress _ (ends_full client progress full) request outcome h

-- ---- acknowledgments

acknowledged_full : (client : ℕ) (given : Option LeaseOf) (progress : Progress) → HaveFullKeys progress.server
    → IsFull progress (acknowledged client given progress)
acknowledged_full client given progress full = any_judgement client progress (λ given. IsFull progress) (record {
  failed = λ given why. replied_full client _ progress tt full;
  ended = λ g lowered there breaks within. record {
    outs = record {
      more = _;
      are_more = refl;
      each = (full_key progress.server (key_of client g.key) full there, tt);
    };
    keys = record { opens = full.opens; held = full.held };
  };
}) given

-- ---- steps

-- the request that a step answers or holds as it comes
abbrev StepHasFullKey : SmallStep → Type 0
StepHasFullKey (SmallStep.Answer client request outcome) = HasFullKey request
StepHasFullKey (SmallStep.Hold file one) = HasFullKey one.request
StepHasFullKey step = ⊤

-- it is that of the call
of_call : (call : Call) (step : SmallStep) → IsOfCall call step → CallHasFullKey call → StepHasFullKey step
of_call call step of h = grind arith

-- a request less among the held ones
left_full : (file : ℕ) (before : List Held) (one : Held) (behind : List Held) (progress : Progress)
    → progress.server.held file ≡ before ++ one ∷ behind → HaveFullKeys progress.server
    → HaveFullKeys (held_left file (before ++ behind) progress).server
unfolding put
left_full file before one behind progress held full = record {
  opens = full.opens;
  held = λ other x. if_cases (λ list. Among x list → HasFullKey x.request) (other == file) (before ++ behind)
      (progress.server.held other)
      (λ e a. full.held file x (subst (λ list. Among x list) (sym held) (more x before a)))
      (λ e a. full.held other x a);
}
  where
    more : (x : Held) (xs : List Held) → Among x (xs ++ behind) → Among x (xs ++ one ∷ behind)
    more x [] a = inr a
    more x (y ∷ xs) (inl same) = inl same
    more x (y ∷ xs) (inr a) = inr (more x xs a)

-- one more
held_full : (file : ℕ) (one : Held) (progress : Progress) → HasFullKey one.request → HaveFullKeys progress.server
    → HaveFullKeys (request_held file one progress).server
unfolding put
held_full file one progress h full = record {
  opens = full.opens;
  held = λ other x. if_cases (λ list. Among x list → HasFullKey x.request) (other == file)
      (progress.server.held file ++ one ∷ []) (progress.server.held other)
      (λ e a. ⊎_elim (λ old. full.held file x old)
      (λ last. ⊎_elim (λ same. subst (λ y. HasFullKey y.request) (sym same) h) (λ never. absurd never) last)
      (among_append x (progress.server.held file) (one ∷ []) a))
      (λ e a. full.held other x a);
}

step_full : (step : SmallStep) (progress : Progress) → IsGuarded step progress.server → StepHasFullKey step
    → HaveFullKeys progress.server → IsFull progress (step_taken step progress)
step_full (SmallStep.Answer client request outcome) progress may h full = concluded_full client request progress outcome h full
step_full (SmallStep.AnswerHeld file before one behind outcome) progress may h full =
    let left = held_left file (before ++ behind) progress in
    let done = concluded_full one.client one.request left outcome
    (full.held file one (subst (λ list. Among one list) (sym may.0) (among_behind one before (one ∷ behind) (inl refl))))
    (left_full file before one behind progress may.0 full) in
    record {
      outs = subst (λ outs. GoOn OutHasBytes outs (concluded one.client one.request left outcome).outs)
          (held_left-outs file (before ++ behind) progress) done.outs;
      keys = done.keys;
    }
step_full (SmallStep.Acknowledge client given) progress may h full = acknowledged_full client given progress full
step_full (SmallStep.Hold file one) progress may h full = record {
  outs = subst (λ outs. GoOn OutHasBytes progress.outs outs) (sym (request_held-outs file one progress))
      (go_on-same OutHasBytes progress.outs);
  keys = held_full file one progress h full;
}
step_full (SmallStep.Drop key) progress may h full = record {
  outs = subst (λ outs. GoOn OutHasBytes progress.outs outs) (sym (opens_dropped-outs (is_left_open key) progress))
      (go_on-same OutHasBytes progress.outs);
  keys = dropped_full (is_left_open key) progress full;
}
step_full (SmallStep.Lower key lowered) progress may h full = record {
  outs = record { more = _; are_more = refl; each = (full_key progress.server key full (may.0).is_there, tt) };
  keys = record { opens = full.opens; held = full.held };
}
step_full (SmallStep.Begin key lowered) progress may h full = record {
  outs = record { more = _; are_more = refl; each = (full_key progress.server key full (may.0).is_there, tt) };
  keys = record { opens = full.opens; held = full.held };
}

steps_full : (call : Call) (steps : List SmallStep) (progress : Progress) → CallHasFullKey call
    → AreGuarded steps progress → AreOf call steps → HaveFullKeys progress.server → EachOut OutHasBytes progress.outs
    → EachOut OutHasBytes (steps_taken steps progress).outs × HaveFullKeys (steps_taken steps progress).server
steps_full call [] progress h g of full each = (each, full)
steps_full call (step ∷ steps) progress h g of full each =
    let one = step_full step progress g.0 (of_call call step of.0 h) full in
    steps_full call steps (step_taken step progress) h g.1 of.1 one.keys (subst (EachOut OutHasBytes) (sym (one.outs).are_more)
    (each_append OutHasBytes progress.outs (one.outs).more each (one.outs).each))

-- ---- calls

-- a lost connection changes no key
cut_key : (client : ℕ) (one : Open) → (disconnected client one).lease_key ≡ one.lease_key
cut_key client one = grind arith

lost_full : (client : ℕ) (progress : Progress) → HaveFullKeys progress.server
    → HaveFullKeys (client_forgotten client (opens_disconnected client progress)).server
lost_full client progress full = record {
  opens = λ one bytes a e. let x = among_map (disconnected client) one progress.server.opens a in
      full.opens x.0 bytes x.1 (sym (cut_key client x.0) ∙ ap (λ o. o.lease_key) (sym x.2) ∙ e);
  held = λ file one a. full.held file one (among_filter (λ x. not (x.client == client)) one (progress.server.held file) a).0;
}

parted_key : (test : Open → Bool) (one : Open) → (parted test one).lease_key ≡ one.lease_key
parted_key test one = grind arith

-- opens and requests that are left
leave_full : (test : Open → Bool) (marks : ℕ → List Bool) (progress : Progress) → HaveFullKeys progress.server
    → HaveFullKeys (requests_left marks (opens_parted test progress)).server
leave_full test marks progress full = record {
  opens = λ one bytes a e. let x = among_map (parted test) one progress.server.opens a in
      full.opens x.0 bytes x.1 (sym (parted_key test x.0) ∙ ap (λ o. o.lease_key) (sym x.2) ∙ e);
  held = λ file one a. full.held file one (among_unmarked one (marks file) (progress.server.held file) a);
}

timer_full : (key : Key) (progress : Progress) → HaveFullKeys progress.server → HaveFullKeys (key_expired key progress).server
timer_full key progress full = record { opens = full.opens; held = full.held }

joined_full : (client : ℕ) (progress : Progress) → HaveFullKeys progress.server → HaveFullKeys (joined client progress).server
joined_full client progress full = record { opens = full.opens; held = full.held }

begun_full : (server : Server) (call : Call) → HaveFullKeys server → HaveFullKeys (call_begun server call).server
begun_full server call full = any_call server (λ call start after. HaveFullKeys start.server) (record {
  idle = λ call why. full;
  joins = λ client down. joined_full client (begun server) full;
  judges = λ client given up. full;
  receives = λ client request up. full;
  cuts = λ client up. lost_full client (opens_dropped (is_lost server client) (begun server))
      (dropped_full (is_lost server client) (begun server) full);
  expires = λ key breaks. timer_full key (opens_dropped (has_key key) (begun server))
      (dropped_full (has_key key) (begun server) full);
  scavenges = λ file_id left. dropped_full (is_left_behind file_id) (begun server) full;
  withdraws = λ file marks some. record {
    opens = full.opens;
    held = λ other one a. full.held other one (requests_lost-there server file marks other one a);
  };
  gives_up = λ own file extent. full;
  leaves = λ client file_ids marks up. let lost = is_lost_of server (is_named client file_ids) in
      leave_full (is_named client file_ids) marks (opens_dropped lost (begun server)) (dropped_full lost (begun server) full);
}) call

pub replies_have_bytes : (server : Server) (call : Call) → IsSound server → WaitsWell server → HaveFullKeys server
    → CallHasFullKey call → EachOut OutHasBytes (called server call).outs × HaveFullKeys (called server call).server
replies_have_bytes server call s w full h =
    let go = called-steps server call s w in
    subst (λ p. EachOut OutHasBytes p.outs × HaveFullKeys p.server) (sym go.lead)
    (steps_full call go.steps (call_begun server call) h go.are_guarded go.are_of (begun_full server call full)
    (subst (EachOut OutHasBytes) (sym (call_begun-silent server call)) tt))
