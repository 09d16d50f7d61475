-- What small steps do to contents, and tell of them: a read tells a file's content, a write changes it.
use Rattle.lease_laws.proofs.Words.{◌++◌, ◌==◌, ◌∷◌, ◌≡◌, Access, Among, Bool, FileRequest, GoOn, Lease, LeaseOf, None}
use Rattle.std.proofs.Common.{arith}
use Rattle.lease_laws.proofs.Words.{Open, Option, Out, Outcome, Patch, Progress, Reply, Share, SmallStep, Some, Status, ℕ, ⊤, []}
use Rattle.lease_laws.proofs.Words.{acknowledged, ap, concluded, granted_with, held_left}
use Rattle.lease_laws.proofs.Words.{is_left_open, lease_after, opens_dropped, put, read_done, refl}
use Rattle.lease_laws.proofs.Words.{refusal_of, replied, request_held, step_taken, subst, sym}
use Rattle.lease_state.specs.Content.{patch as patched}
use Rattle.lease_laws.proofs.server.OutCalls.{held_left-outs, request_held-outs}
use Rattle.lease_laws.proofs.server.OutLists.{go_on-same}
use Rattle.lease_laws.proofs.server.OutSteps.{opens_dropped-outs}
use Rattle.lease_laws.proofs.server.cases.Ends.{HasEnds, any_end}
use Rattle.lease_laws.proofs.server.cases.Judgements.{any_judgement}

-- no change, and no content
abbrev pub IsOther : Out → Type 0
IsOther (Out.Changed file client number patch) = ⊥
IsOther (Out.Sent client (Reply.ReadDone file_id bytes)) = ⊥
IsOther out = ⊤

pub record LeavesContents (before : Progress) (after : Progress) : Type 0 where
  pub contents : after.server.contents ≡ before.server.contents
  pub outs : GoOn IsOther before.outs after.outs

-- a read of an open
pub record IsRead (before : Progress) (after : Progress) : Type 0 where
  pub one : Open
  pub is_there : Among one before.server.opens
  pub contents : after.server.contents ≡ before.server.contents
  pub outs : after.outs ≡ before.outs ++ Out.Sent one.client (Reply.ReadDone one.file_id (before.server.contents one.file)) ∷ []

-- a write
pub record IsChange (before : Progress) (after : Progress) : Type 0 where
  pub file : ℕ
  pub client : ℕ
  pub file_id : ℕ
  pub number : ℕ
  pub patch : Patch
  pub contents : after.server.contents ≡ put before.server.contents file (patched (before.server.contents file) patch)
  pub outs : after.outs ≡ before.outs
      ++ Out.Changed file client number patch ∷ Out.Sent client (Reply.WriteDone file_id number) ∷ []

pub data ContentStep (before : Progress) (after : Progress) : Type 0 where
  Leaves : (leaves : LeavesContents before after) → ContentStep before after
  Reads : (is : IsRead before after) → ContentStep before after
  Changes : (is : IsChange before after) → ContentStep before after

reply_leaves : (client : ℕ) (reply : Reply) (progress : Progress) → IsOther (Out.Sent client reply)
    → LeavesContents progress (replied client reply progress)
reply_leaves client reply progress other = grind arith

same_leaves : (progress : Progress) → LeavesContents progress progress
same_leaves progress = record { contents = refl; outs = go_on-same IsOther progress.outs }

granted_leaves : (client file : ℕ) (access : Access) (share : Share) (asked : Option LeaseOf) (durable : Bool)
    (lease : Lease) (progress : Progress)
    → LeavesContents progress (granted_with client file access share asked durable lease progress)
granted_leaves client file access share None durable lease progress =
    record { contents = refl; outs = record { more = _; are_more = refl; each = (tt, (tt, tt)) } }
granted_leaves client file access share (Some asked) durable lease progress =
    record { contents = refl; outs = record { more = _; are_more = refl; each = (tt, (tt, tt)) } }

-- a read by an open
read_step : (client file_id : ℕ) (progress : Progress) (one : Open) → Among one progress.server.opens
    → one.file_id ≡ file_id → one.client ≡ client → ContentStep progress (read_done client one.file file_id progress)
read_step client file_id progress one a id by = grind arith

-- the end of a request
refusal_leaves : (client : ℕ) (request : FileRequest) (status : Status) (progress : Progress)
    → LeavesContents progress (replied client (refusal_of request status) progress)
refusal_leaves client request status progress = grind arith

ends_content : (client : ℕ) (progress : Progress) → HasEnds client progress (λ request outcome. ContentStep progress)
ends_content client progress = record {
  refused = λ request status. ContentStep.Leaves (refusal_leaves client request status progress);
  left = λ request outcome why. ContentStep.Leaves (same_leaves progress);
  full = λ file access share ask none out. ContentStep.Leaves (reply_leaves client _ progress tt);
  granted = λ file access share ask none room. ContentStep.Leaves (granted_leaves client file access share ask.lease
      ask.durable (lease_after progress.server client file ask.lease) progress);
  again = λ file access share ask file_id some. ContentStep.Leaves
      (record { contents = refl; outs = record { more = _; are_more = refl; each = (tt, tt) } });
  read = λ file_id one own. read_step client file_id progress one own.there own.id own.by;
  changed = λ file_id number patch one own. ContentStep.Changes (record {
    file = one.file;
    client = client;
    file_id = file_id;
    number = number;
    patch = patch;
    contents = refl;
    outs = refl;
  });
  closed = λ file_id one own. ContentStep.Leaves (record {
    contents = refl;
    outs = record {
      more = _;
      are_more = ap (λ outs. outs ++ Out.Sent client (Reply.Closed file_id) ∷ [])
          (opens_dropped-outs (λ o. o.file_id == file_id) progress);
      each = (tt, tt);
    };
  });
}

concluded_step : (client : ℕ) (request : FileRequest) (progress : Progress) (outcome : Outcome)
    → ContentStep progress (concluded client request progress outcome)
concluded_step client request progress = any_end client progress _ (ends_content client progress) request

-- an acknowledgment
acknowledged_leaves : (client : ℕ) (given : Option LeaseOf) (progress : Progress)
    → LeavesContents progress (acknowledged client given progress)
acknowledged_leaves client given progress = any_judgement client progress (λ given. LeavesContents progress) (record {
  failed = λ given why. reply_leaves client _ progress tt;
  ended = λ g lowered there breaks within.
      record { contents = refl; outs = record { more = _; are_more = refl; each = (tt, tt) } };
}) given

-- nothing is given out
silent_leaves : (before after : Progress) → after.server.contents ≡ before.server.contents → after.outs ≡ before.outs
    → LeavesContents before after
silent_leaves before after contents outs = record {
  contents = contents;
  outs = subst (λ o. GoOn IsOther before.outs o) (sym outs) (go_on-same IsOther before.outs);
}

-- behind a step that leaves opens, contents and outs alone
step_behind : (before next after : Progress) → next.server.contents ≡ before.server.contents
    → next.server.opens ≡ before.server.opens → next.outs ≡ before.outs → ContentStep next after → ContentStep before after
step_behind before next after contents opens outs x7 = grind arith

-- any step
pub content_step : (step : SmallStep) (progress : Progress) → ContentStep progress (step_taken step progress)
content_step (SmallStep.Answer client request outcome) progress = concluded_step client request progress outcome
content_step (SmallStep.AnswerHeld file before one behind outcome) progress =
    let left = held_left file (before ++ behind) progress in
    step_behind progress left (concluded one.client one.request left outcome) refl refl
    (held_left-outs file (before ++ behind) progress) (concluded_step one.client one.request left outcome)
content_step (SmallStep.Acknowledge client given) progress = ContentStep.Leaves (acknowledged_leaves client given progress)
content_step (SmallStep.Hold file one) progress = ContentStep.Leaves
    (silent_leaves progress (request_held file one progress) refl (request_held-outs file one progress))
content_step (SmallStep.Drop key) progress = ContentStep.Leaves
    (silent_leaves progress (opens_dropped (is_left_open key) progress) refl (opens_dropped-outs (is_left_open key) progress))
content_step step progress = ContentStep.Leaves
    (record { contents = refl; outs = record { more = _; are_more = refl; each = (tt, tt) } })
