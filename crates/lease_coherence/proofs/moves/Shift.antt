-- A step of the server doesn't look at what was given out before it: it appends its own outs.
use Rattle.lease_laws.proofs.Words.{◌++◌, ◌∙◌, ◌∷◌, ◌≡◌, FileRequest, LeaseOf, List, Option, Out, Outcome, Progress, Reply}
use Rattle.lease_laws.proofs.Words.{SmallStep, ℕ, [], acknowledged, ap, begun, concluded, held_left, refl, replied, step_taken}
use Rattle.lease_laws.proofs.Words.{subst, sym}
use Rattle.lease_laws.proofs.server.cases.Ends.{any_end, ends_again, ends_changed, ends_closed, ends_full, ends_granted}
use Rattle.lease_laws.proofs.server.cases.Ends.{ends_left, ends_read}
use Rattle.lease_laws.proofs.server.cases.Judgements.{any_judgement, ends_break, is_refused}

-- what comes of a call under way, and what comes of its state alone
pub record Follows (before : List Out) (after : Progress) (fresh : Progress) : Type 0 where
  pub server : after.server ≡ fresh.server
  pub outs : after.outs ≡ before ++ fresh.outs

pub append_none : {X : Type 0} (xs : List X) → xs ++ [] ≡ xs
append_none [] = refl
append_none (x ∷ xs) = ap (λ ys. x ∷ ys) (append_none xs)

same_follows : (progress : Progress) → Follows progress.outs progress (begun progress.server)
same_follows progress = record { server = refl; outs = sym (append_none progress.outs) }

reply_follows : (client : ℕ) (reply : Reply) (progress : Progress)
    → Follows progress.outs (replied client reply progress) (replied client reply (begun progress.server))
reply_follows client reply progress = record { server = refl; outs = refl }

-- what it comes of either is the same form
by_form : (outs : List Out) (after form fresh : Progress) → form ≡ fresh → Follows outs after form → Follows outs after fresh
by_form outs after form fresh same f = subst (Follows outs after) same f

concluded_follows : (client : ℕ) (request : FileRequest) (outcome : Outcome) (progress : Progress)
    → Follows progress.outs (concluded client request progress outcome) (concluded client request (begun progress.server) outcome)
concluded_follows client request outcome progress =
    let fresh = begun progress.server in
    any_end client progress
    (λ request outcome after. Follows progress.outs after (concluded client request fresh outcome)) (record {
      refused = λ request status. reply_follows client _ progress;
      left = λ request outcome why. by_form progress.outs progress fresh _ (sym (ends_left client request fresh outcome why))
          (same_follows progress);
      full = λ file access share ask none out. by_form progress.outs _ _ _
          (sym (ends_full client file access share ask fresh none out)) (reply_follows client _ progress);
      granted = λ file access share ask none room. by_form progress.outs _ _ _
          (sym (ends_granted client file access share ask fresh none room)) (record { server = refl; outs = refl });
      again = λ file access share ask file_id some. by_form progress.outs _ _ _
          (sym (ends_again client file access share ask file_id fresh some)) (record { server = refl; outs = refl });
      read = λ file_id one own. by_form progress.outs _ _ _ (sym (ends_read client file_id one fresh own.found))
          (reply_follows client _ progress);
      changed = λ file_id number patch one own. by_form progress.outs _ _ _
          (sym (ends_changed client file_id number patch one fresh own.found)) (record { server = refl; outs = refl });
      closed = λ file_id one own. by_form progress.outs _ _ _ (sym (ends_closed client file_id one fresh own.found)) (record {
        server = refl;
        outs = ap (λ outs. outs ++ Out.Sent client (Reply.Closed file_id) ∷ []) (append_none progress.outs);
      });
    }) request outcome

acknowledged_follows : (client : ℕ) (given : Option LeaseOf) (progress : Progress)
    → Follows progress.outs (acknowledged client given progress) (acknowledged client given (begun progress.server))
acknowledged_follows client given progress =
    let fresh = begun progress.server in
    any_judgement client progress (λ given after. Follows progress.outs after (acknowledged client given fresh)) (record {
      failed = λ given why. by_form progress.outs _ _ _ (sym (is_refused client given fresh why))
          (reply_follows client _ progress);
      ended = λ given lowered there breaks within. by_form progress.outs _ _ _
          (sym (ends_break client given lowered fresh there breaks within)) (record { server = refl; outs = refl });
    }) given

-- any step
pub step_follows : (step : SmallStep) (progress : Progress)
    → Follows progress.outs (step_taken step progress) (step_taken step (begun progress.server))
step_follows (SmallStep.Answer client request outcome) progress = concluded_follows client request outcome progress
step_follows (SmallStep.AnswerHeld file before one behind outcome) progress =
    let f = concluded_follows one.client one.request outcome (held_left file (before ++ behind) progress) in
    let fresh = step_taken (SmallStep.AnswerHeld file before one behind outcome) (begun progress.server) in
    record { server = f.server; outs = f.outs ∙ ap (λ outs. outs ++ fresh.outs) (append_none progress.outs) }
step_follows (SmallStep.Acknowledge client given) progress = acknowledged_follows client given progress
step_follows step progress = record { server = refl; outs = refl }
