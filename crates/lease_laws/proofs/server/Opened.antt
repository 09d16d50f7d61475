-- Small steps tell of each open that they make: its FileId is the next one.
use Rattle.lease_laws.proofs.Words.{◌++◌, ◌+◌, ◌==◌, ◌∷◌, ◌≡◌, ◌⊎◌, Access, Among, Bool, FileRequest, GoOn, Lease, LeaseOf}
use Rattle.std.proofs.Common.{arith}
use Rattle.lease_laws.proofs.Words.{Open, Option, Out, Outcome, Progress, Reply, Server, Share, SmallStep, ℕ, ⊎_elim, ⊤, []}
use Rattle.lease_laws.proofs.Words.{acknowledged, ap, concluded, granted_with, held_left, inl}
use Rattle.lease_laws.proofs.Words.{inr, is_left_open, lease_after, new_open, opens_dropped, refl}
use Rattle.lease_laws.proofs.Words.{replied, request_held, step_taken, subst, sym}
use Rattle.lease_laws.proofs.server.Goes.{IsOld, still_there}
use Rattle.lease_laws.proofs.server.Lists.{among_append}
use Rattle.lease_laws.proofs.server.OutCalls.{held_left-outs, request_held-outs}
use Rattle.lease_laws.proofs.server.OutLists.{go_on-same}
use Rattle.lease_laws.proofs.server.OutSteps.{opens_dropped-outs}
use Rattle.lease_laws.proofs.server.cases.Ends.{HasEnds, any_end}
use Rattle.lease_laws.proofs.server.cases.Judgements.{any_judgement}

abbrev pub IsNoOpened : Out → Type 0
IsNoOpened (Out.Opened file client) = ⊥
IsNoOpened out = ⊤

-- no open is made, and none is told of
pub record IsQuiet (before : Progress) (after : Progress) : Type 0 where
  pub last : after.server.last_id ≡ before.server.last_id
  pub outs : GoOn IsNoOpened before.outs after.outs

-- the open that is made: the next one, on the file and by the client
pub record IsMade (before : Server) (file : ℕ) (client : ℕ) (one : Open) : Type 0 where
  pub id : one.file_id ≡ before.last_id + 1
  pub on_file : one.file ≡ file
  pub by_client : one.client ≡ client

-- one open is made, and told of
pub record IsGrant (before : Progress) (after : Progress) : Type 0 where
  pub file : ℕ
  pub client : ℕ
  pub reply : Reply
  pub last : after.server.last_id ≡ before.server.last_id + 1
  pub outs : after.outs ≡ before.outs ++ Out.Opened file client ∷ Out.Sent client reply ∷ []
  pub from : (one : Open) → Among one after.server.opens → IsOld before.server one ⊎ IsMade before.server file client one

abbrev pub IsTold : Progress → Progress → Type 0
IsTold before after = IsQuiet before after ⊎ IsGrant before after

-- a reply alone
reply_quiet : (client : ℕ) (reply : Reply) (progress : Progress) → IsQuiet progress (replied client reply progress)
reply_quiet client reply progress = record {
  last = refl;
  outs = record { more = _; are_more = refl; each = (tt, tt) };
}

same_quiet : (progress : Progress) → IsQuiet progress progress
same_quiet progress = record { last = refl; outs = go_on-same IsNoOpened progress.outs }

-- a new open
granted_told : (client file : ℕ) (access : Access) (share : Share) (asked : Option LeaseOf) (durable : Bool)
    (lease : Lease) (progress : Progress) → IsGrant progress (granted_with client file access share asked durable lease progress)
granted_told client file access share asked durable lease progress = record {
  file = file;
  client = client;
  reply = _;
  last = refl;
  outs = refl;
  from = λ one a. ⊎_elim (λ old. inl (still_there progress.server one old)) (λ new. inr (made one new))
      (among_append one progress.server.opens (new_open progress.server client file access share asked durable lease ∷ []) a);
}
  where
    made : (one : Open) → Among one (new_open progress.server client file access share asked durable lease ∷ [])
        → IsMade progress.server file client one
    made one x2 = grind arith

-- the end of a request
ends_told : (client : ℕ) (progress : Progress) → HasEnds client progress (λ request outcome. IsTold progress)
ends_told client progress = record {
  refused = λ request status. inl (reply_quiet client _ progress);
  left = λ request outcome why. inl (same_quiet progress);
  full = λ file access share ask none out. inl (reply_quiet client _ progress);
  granted = λ file access share ask none room. inr (granted_told client file access share ask.lease ask.durable
      (lease_after progress.server client file ask.lease) progress);
  again = λ file access share ask file_id some.
      inl (record { last = refl; outs = record { more = _; are_more = refl; each = (tt, tt) } });
  read = λ file_id one own. inl (reply_quiet client _ progress);
  changed = λ file_id number patch one own.
      inl (record { last = refl; outs = record { more = _; are_more = refl; each = (tt, (tt, tt)) } });
  closed = λ file_id one own. inl (record {
    last = refl;
    outs = record {
      more = _;
      are_more = ap (λ outs. outs ++ Out.Sent client (Reply.Closed file_id) ∷ [])
          (opens_dropped-outs (λ other. other.file_id == file_id) progress);
      each = (tt, tt);
    };
  });
}

pub concluded-told : (client : ℕ) (request : FileRequest) (progress : Progress) (outcome : Outcome)
    → IsTold progress (concluded client request progress outcome)
concluded-told client request progress = any_end client progress _ (ends_told client progress) request

-- an acknowledgment
acknowledged_quiet : (client : ℕ) (given : Option LeaseOf) (progress : Progress)
    → IsQuiet progress (acknowledged client given progress)
acknowledged_quiet client given progress = any_judgement client progress (λ given. IsQuiet progress) (record {
  failed = λ given why. reply_quiet client _ progress;
  ended = λ g lowered there breaks within.
      record { last = refl; outs = record { more = _; are_more = refl; each = (tt, tt) } };
}) given

-- nothing is given out
silent_quiet : (before after : Progress) → after.server.last_id ≡ before.server.last_id → after.outs ≡ before.outs
    → IsQuiet before after
silent_quiet before after last outs = record {
  last = last;
  outs = subst (λ o. GoOn IsNoOpened before.outs o) (sym outs) (go_on-same IsNoOpened before.outs);
}

-- behind a step that leaves opens and outs alone
told_behind : (before next after : Progress) → next.server.last_id ≡ before.server.last_id → next.outs ≡ before.outs
    → ((one : Open) → IsOld next.server one → IsOld before.server one) → IsTold next after → IsTold before after
told_behind before next after last outs old x7 = grind arith

-- any step
pub step-told : (step : SmallStep) (progress : Progress) → IsTold progress (step_taken step progress)
step-told (SmallStep.Answer client request outcome) progress = concluded-told client request progress outcome
step-told (SmallStep.AnswerHeld file before one behind outcome) progress =
    let left = held_left file (before ++ behind) progress in
    told_behind progress left (concluded one.client one.request left outcome) refl
    (held_left-outs file (before ++ behind) progress)
    (λ o old. record {
      was = old.was;
      was_there = old.was_there;
      same_id = old.same_id;
      same_file = old.same_file;
      same_client = old.same_client;
      up = old.up;
    }) (concluded-told one.client one.request left outcome)
step-told (SmallStep.Acknowledge client given) progress = inl (acknowledged_quiet client given progress)
step-told (SmallStep.Hold file one) progress = inl (silent_quiet progress (request_held file one progress) refl
    (request_held-outs file one progress))
step-told (SmallStep.Drop key) progress = inl (silent_quiet progress (opens_dropped (is_left_open key) progress) refl
    (opens_dropped-outs (is_left_open key) progress))
step-told step progress = inl (record { last = refl; outs = record { more = _; are_more = refl; each = (tt, tt) } })
