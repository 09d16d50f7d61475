-- A try gives out breaks alone, flagged rightly; and the end of a try gives out an answer without one.
use Rattle.lease_laws.proofs.Words.{◌==◌, ◌∷◌, ◌≡◌, Bool, FileRequest, GoOn, LeaseOf, Open, Option, Out}
use Rattle.std.proofs.Common.{arith}
use Rattle.lease_laws.proofs.Words.{Outcome, Progress, Reply, Status, ℕ, [], acknowledged, append-nil}
use Rattle.lease_laws.proofs.Words.{concluded, is_left_open, opens_dropped}
use Rattle.lease_laws.proofs.Words.{refl, refusal_of, refused, replied, subst, sym, tried_for}
use Rattle.lease_laws.proofs.server.OutLists.{IsGoodBreak, AreAnswered, answered_by, answered_nothing, go_on-same}
use Rattle.lease_laws.proofs.server.OutLists.{go_on-twice}
use Rattle.lease_laws.proofs.server.cases.Tries.{HasTries, any_try}
use Rattle.lease_laws.proofs.server.cases.Ends.{HasEnds, any_end}
use Rattle.lease_laws.proofs.server.cases.Judgements.{any_judgement}

-- the outs of a call under way have gone on by breaks
abbrev pub Broken : Progress → Progress → Type 0
Broken before after = GoOn IsGoodBreak before.outs after.outs

-- opens are dropped silently
pub opens_dropped-outs : (test : Open → Bool) (progress : Progress) → (opens_dropped test progress).outs ≡ progress.outs
opens_dropped-outs test progress = append-nil progress.outs

-- to drop opens gives nothing out
dropped_broken : (test : Open → Bool) (progress : Progress) → Broken progress (opens_dropped test progress)
dropped_broken test progress = subst (λ outs. GoOn IsGoodBreak progress.outs outs) (sym (opens_dropped-outs test progress))
    (go_on-same IsGoodBreak progress.outs)

pub tries_break : HasTries Broken
tries_break = record {
  same = λ progress. go_on-same IsGoodBreak progress.outs;
  behind = λ before next after. go_on-twice IsGoodBreak before.outs next.outs after.outs;
  drop = λ key progress. dropped_broken (is_left_open key) progress;
  lower = λ key lowered progress settled. record { more = _; are_more = refl; each = ((tt, refl), tt) };
  begin = λ key lowered progress settled. record { more = _; are_more = refl; each = ((tt, refl), tt) };
}

-- a try
pub tried_for-broken : (rounds client : ℕ) (request : FileRequest) (progress : Progress)
    → Broken progress (tried_for rounds client request progress).progress
tried_for-broken = any_try Broken tries_break

-- the outs of a call under way have gone on by an answer
abbrev pub Answered : Progress → Progress → Type 0
Answered before after = AreAnswered before.outs after.outs

-- a reply that is no break and says nothing of a write that is done
abbrev pub IsPlain : Reply → Type 0
IsPlain (Reply.Break notice) = ⊥
IsPlain (Reply.WriteDone file_id number) = ⊥
IsPlain reply = Unit {0}

-- a plain reply gives out an answer without a break
pub replied-answered : (client : ℕ) (reply : Reply) (progress : Progress) → IsPlain reply
    → Answered progress (replied client reply progress)
replied-answered client reply progress p = grind arith

-- a refusal is a plain reply
refusal_of-plain : (request : FileRequest) (status : Status) → IsPlain (refusal_of request status)
refusal_of-plain request status = grind arith

-- a refusal gives out an answer without a break
pub refused-answered : (client : ℕ) (request : FileRequest) (status : Status) (progress : Progress)
    → Answered progress (refused client request status progress)
refused-answered client request status progress = grind arith

-- the end of a try
ends_answer : (client : ℕ) (progress : Progress) → HasEnds client progress (λ request outcome. Answered progress)
ends_answer client progress = record {
  refused = λ request status. replied-answered client (refusal_of request status) progress (refusal_of-plain request status);
  left = λ request outcome why. answered_nothing progress.outs;
  full = λ file access share ask none out. replied-answered client _ progress tt;
  granted = λ file access share ask none room. record {
    more = _;
    are_more = refl;
    each = (tt, (tt, tt));
    fair = record { flagged = (tt, (tt, tt)); paired = tt };
  };
  again = λ file access share ask file_id some. record {
    more = _;
    are_more = refl;
    each = (tt, tt);
    fair = record { flagged = (tt, tt); paired = tt };
  };
  read = λ file_id one own. replied-answered client _ progress tt;
  changed = λ file_id number patch one own. answered_by progress.outs
      (Out.Changed one.file client number patch ∷ Out.Sent client (Reply.WriteDone file_id number) ∷ [])
      (tt, (tt, tt)) (record { flagged = (tt, (tt, tt)); paired = (refl, refl, tt) });
  closed = λ file_id one own. let test = λ (other : Open). other.file_id == file_id in
      subst (λ outs. AreAnswered outs (replied client (Reply.Closed file_id) (opens_dropped test progress)).outs)
      (opens_dropped-outs test progress) (replied-answered client (Reply.Closed file_id) (opens_dropped test progress) tt);
}

pub concluded-answered : (client : ℕ) (request : FileRequest) (progress : Progress) (outcome : Outcome)
    → Answered progress (concluded client request progress outcome)
concluded-answered client request progress = any_end client progress _ (ends_answer client progress) request

-- any acknowledgment
pub acknowledged-answered : (client : ℕ) (given : Option LeaseOf) (progress : Progress)
    → Answered progress (acknowledged client given progress)
acknowledged-answered client given progress = any_judgement client progress (λ given. Answered progress) (record {
  failed = λ given why. replied-answered client _ progress tt;
  ended = λ g lowered there breaks within. record {
    more = _;
    are_more = refl;
    each = (tt, tt);
    fair = record { flagged = (tt, tt); paired = tt };
  };
}) given
