-- A try changes no content, and closes only opens that aren't connected, of keys that it wants.
use Rattle.lease_laws.proofs.Words.{◌++◌, ◌∙◌, ◌∷◌, ◌≡◌, Among, Err, FileRequest, Key, List, Ok, Open}
use Rattle.lease_laws.proofs.Words.{Option, Out, Outcome, Progress, Reply, Server, State, Status, Tried}
use Rattle.lease_laws.proofs.Words.{None, Some, Want, ℕ, ⊎_elim, [], acknowledged, all_passes}
use Rattle.lease_laws.proofs.Words.{ap, arith, arrived_on, begun, concluded}
use Rattle.lease_laws.proofs.Words.{false, file_asked, has_key}
use Rattle.lease_laws.proofs.Words.{as_held, inl, inr, is_behind, is_left_open}
use Rattle.lease_laws.proofs.Words.{lease_broken, must_wait}
use Rattle.lease_laws.proofs.Words.{not, opens_dropped, refl, refusal_of, replied, subst, suc, sym, tried}
use Rattle.lease_laws.proofs.Words.{LeaseOf, file_request_arrived, tried_for, true, want_met, wants_met}
use Rattle.lease_laws.proofs.Words.{connected_open, file_of_open}
use Rattle.lease_laws.proofs.server.Lists.{either, and_parts, not_parts, among_filter, among_filtered}
use Rattle.lease_laws.proofs.server.Met.{lease_broken-opens}
use Rattle.lease_laws.proofs.server.cases.Calls.{judges, receives}
use Rattle.lease_laws.proofs.server.cases.Judgements.{any_judgement}
use Rattle.lease_laws.proofs.server.cases.Tries.{NeedsBreaks, any_break, any_rounds, any_wants, round_ends, round_fails}
use Rattle.lease_laws.proofs.server.cases.Findings.{finds_close, finds_gone}
use Rattle.lease_model.specs.server.Calls.{first_tried}
use Rattle.lease_laws.specs.server.Refusals.{NeedsRound, IsClosedByBreak, IsLeftAlone, RefusedAsTheyCome, RefusedOnceTried}
use Rattle.lease_laws.specs.server.Refusals.{ClosesAreRefusedAsTheyCome, RefusedAcknowledgments, passes_behind, CallsRefusedAsTheyCome}
use Rattle.lease_laws.specs.server.Refusals.{CallsOfRefusedAcknowledgments, CallsRefusedOnceTried}

-- ---- what is met

-- an open that isn't connected, of a key among the wants
pub record IsOfWant (wants : List Want) (one : Open) : Type 0 where
  pub want : Want
  pub is_wanted : Among want wants
  pub has_the_key : has_key want.key one ≡ true
  pub is_left : one.connected ≡ false

dropped_alone : (key : Key) (progress : Progress)
    → IsLeftAlone (λ one. (has_key key one ≡ true) × (one.connected ≡ false)) progress.server
    (opens_dropped (is_left_open key) progress).server
dropped_alone key progress = record {
  contents = refl;
  were = λ one a. (among_filter (λ o. not (is_left_open key o)) one progress.server.opens a).0;
  stay = λ one a. either (is_left_open key one)
      (λ left. let parts = and_parts (has_key key one) (not one.connected) left in
      inr (parts.0, not_parts one.connected parts.1))
      (λ kept. inl (among_filtered (λ o. not (is_left_open key o)) one progress.server.opens a (ap not kept)));
}

broken_contents : (key : Key) (lowered : State) (progress : Progress)
    → (lease_broken key lowered progress).server.contents ≡ progress.server.contents
broken_contents key lowered progress =
    any_break key lowered progress (λ after. after.server.contents ≡ progress.server.contents)
    (record { stays = λ not. refl; begins = λ whole needs. refl; lowers = λ whole light. refl })

met_alone : (want : Want) (progress : Progress)
    → IsLeftAlone (λ one. (has_key want.key one ≡ true) × (one.connected ≡ false)) progress.server (want_met want progress).server
met_alone want progress =
    let dropped = opens_dropped (is_left_open want.key) progress in
    let same = lease_broken-opens want.key want.lowered dropped in
    let d = dropped_alone want.key progress in record {
      contents = broken_contents want.key want.lowered dropped ∙ d.contents;
      were = λ one a. d.were one (subst (λ opens. Among one opens) same a);
      stay = λ one a. ⊎_elim (λ there. inl (subst (λ opens. Among one opens) (sym same) there)) (λ goes. inr goes) (d.stay one a);
    }

all_met_alone : (wants : List Want) (progress : Progress)
    → IsLeftAlone (IsOfWant wants) progress.server (wants_met wants progress).server
all_met_alone = any_wants (λ wants progress after. IsLeftAlone (IsOfWant wants) progress.server after.server)
    (λ progress. record { contents = refl; were = λ one a. a; stay = λ one a. inl a })
    (λ want wants progress after rest. let first = met_alone want progress in record {
      contents = rest.contents ∙ first.contents;
      were = λ one a. first.were one (rest.were one a);
      stay = λ one a. ⊎_elim
          (λ there. ⊎_elim (λ still. inl still) (λ w. inr (record {
            want = w.want;
            is_wanted = inr w.is_wanted;
            has_the_key = w.has_the_key;
            is_left = w.is_left;
          })) (rest.stay one there))
          (λ goes. inr (record { want = want; is_wanted = inl refl; has_the_key = goes.0; is_left = goes.1 })) (first.stay one a);
    })

-- ---- tries

pub same_alone : (MayGo : Open → Type 0) (server : Server) → IsLeftAlone MayGo server server
same_alone MayGo server = record { contents = refl; were = λ one a. a; stay = λ one a. inl a }

-- a round closes what its breaks close
round_alone : (client : ℕ) (request : FileRequest) (progress : Progress) (wants : List Want)
    → NeedsRound client request progress wants
    → IsLeftAlone (IsClosedByBreak client request progress) progress.server (wants_met wants progress).server
round_alone client request progress wants needs = let m = all_met_alone wants progress in record {
  contents = m.contents;
  were = m.were;
  stay = λ one a. ⊎_elim (λ there. inl there) (λ w. inr (record {
    rounds = 0;
    at = progress;
    are_rounds = refl;
    wants = wants;
    needs = needs;
    want = w.want;
    is_wanted = w.is_wanted;
    has_the_key = w.has_the_key;
    is_left = w.is_left;
  })) (m.stay one a);
}

-- and then the rest of the try
then_alone : (client : ℕ) (request : FileRequest) (progress : Progress) (wants : List Want) (after : Server)
    → NeedsRound client request progress wants → must_wait request (wants_met wants progress) wants ≡ false
    → IsLeftAlone (IsClosedByBreak client request (wants_met wants progress)) (wants_met wants progress).server after
    → IsLeftAlone (IsClosedByBreak client request progress) progress.server after
then_alone client request progress wants after needs goes rest =
    let first = round_alone client request progress wants needs in record {
      contents = rest.contents ∙ first.contents;
      were = λ one a. first.were one (rest.were one a);
      stay = λ one a. ⊎_elim
          (λ there. ⊎_elim (λ still. inl still) (λ w. inr (record {
            rounds = suc w.rounds;
            at = w.at;
            are_rounds = (wants, needs, goes, w.are_rounds);
            wants = w.wants;
            needs = w.needs;
            want = w.want;
            is_wanted = w.is_wanted;
            has_the_key = w.has_the_key;
            is_left = w.is_left;
          })) (rest.stay one there))
          (λ w. inr w) (first.stay one a);
    }

needs_round : (client : ℕ) (request : FileRequest) (progress : Progress) (wants : List Want)
    → NeedsBreaks client request progress wants → NeedsRound client request progress wants
needs_round client request progress wants needs = record { found = needs.found; not_ready = needs.unready }

pub tried_alone : (rounds client : ℕ) (request : FileRequest) (progress : Progress)
    → IsLeftAlone (IsClosedByBreak client request progress) progress.server
    (tried_for rounds client request progress).progress.server
tried_alone rounds client request = any_rounds client request
    (λ rounds progress done. IsLeftAlone (IsClosedByBreak client request progress) progress.server done.progress.server)
    (record {
      out = λ progress. same_alone (IsClosedByBreak client request progress) progress.server;
      fails = λ rounds progress status is. same_alone (IsClosedByBreak client request progress) progress.server;
      ready = λ rounds progress wants found ready. same_alone (IsClosedByBreak client request progress) progress.server;
      waits = λ rounds progress wants needs wait.
          round_alone client request progress wants (needs_round client request progress wants needs);
      again = λ rounds progress wants done needs goes rest. then_alone client request progress wants done.progress.server
          (needs_round client request progress wants needs) goes rest;
    }) rounds

pub refused_once_tried : RefusedOnceTried
refused_once_tried client request progress status is = tried_alone 3 client request progress

pub refused_as_they_come : RefusedAsTheyCome
refused_as_they_come client request progress status is = grind arith

-- ---- closes

pub closes_are_refused_as_they_come : ClosesAreRefusedAsTheyCome
closes_are_refused_as_they_come client file_id progress status is = by (connected_open progress.server client file_id) refl
  where
    refused_so : (a b : Status) → Outcome.Refused a ≡ Outcome.Refused b → a ≡ b
    refused_so a b e = cc

    never : Outcome.Ready ≡ Outcome.Refused status → ⊥
    never e = cc

    by : (found : Option Open) → connected_open progress.server client file_id ≡ found → file_of_open found ≡ Err status
    by None none = ap Err (refused_so Status.FileClosed status
        (ap (λ (t : Tried). t.outcome) (sym (round_fails 2 client (FileRequest.Close file_id) progress Status.FileClosed
        (finds_gone progress.server client (FileRequest.Close file_id) file_id refl none))) ∙ is))
    by (Some one) found = absurd (never (ap (λ (t : Tried). t.outcome) (sym (round_ends 2 client (FileRequest.Close file_id)
        progress [] (finds_close progress.server client file_id one found) refl)) ∙ is))

-- ---- acknowledgments

-- what comes last
last_same : {X : Type 0} (xs : List X) (x y : X) → xs ++ x ∷ [] ≡ xs ++ y ∷ [] → x ≡ y
last_same [] x y e = cc
last_same (z ∷ xs) x y e = last_same xs x y (tails e)
  where
    tails : z ∷ (xs ++ x ∷ []) ≡ z ∷ (xs ++ y ∷ []) → xs ++ x ∷ [] ≡ xs ++ y ∷ []
    tails e = cc

-- an acknowledgment that ends a break is answered otherwise
not_both : (xs : List Out) (client : ℕ) (given : Option LeaseOf) (status : Status)
    → xs ++ Out.Sent client (Reply.AckDone given) ∷ [] ≡ xs ++ Out.Sent client (Reply.AckFailed status) ∷ [] → ⊥
not_both xs client given status e = apart (last_same xs _ _ e)
  where
    apart : Out.Sent client (Reply.AckDone given) ≡ Out.Sent client (Reply.AckFailed status) → ⊥
    apart e = cc

pub refused_acknowledgments : RefusedAcknowledgments
refused_acknowledgments client given progress status = any_judgement client progress
    (λ given after. after.outs ≡ progress.outs ++ Out.Sent client (Reply.AckFailed status) ∷ []
    → after.server ≡ progress.server)
    (record {
      failed = λ given why e. refl;
      ended = λ told lowered there breaks within e. absurd (not_both progress.outs client _ status e);
    }) given

-- ---- whole calls

refused_first : (client : ℕ) (request : FileRequest) (progress : Progress) (status : Status)
    → file_asked progress.server client request ≡ Err status
    → first_tried client request progress ≡ replied client (refusal_of request status) progress
refused_first client request progress status is = ap (arrived_on client request progress) is

arrived_refused : (client : ℕ) (request : FileRequest) (progress : Progress) (status : Status)
    → file_asked progress.server client request ≡ Err status → file_request_arrived client request progress
    ≡ passes_behind request (replied client (refusal_of request status) progress)
arrived_refused client (FileRequest.Close file_id) progress status is =
    ap all_passes (refused_first client (FileRequest.Close file_id) progress status is)
arrived_refused client request progress status is = refused_first client request progress status is

pub calls_refused_as_they_come : CallsRefusedAsTheyCome
calls_refused_as_they_come server client request status up is =
    receives server client request up ∙ arrived_refused client request (begun server) status is

progress_same : (one other : Progress) → one.server ≡ other.server → one.outs ≡ other.outs → one ≡ other
progress_same one other e f = grind arith

pub calls_of_refused_acknowledgments : CallsOfRefusedAcknowledgments
calls_of_refused_acknowledgments server client given status up is = judges server client given up
    ∙ ap all_passes (progress_same (acknowledged client given (begun server))
    (replied client (Reply.AckFailed status) (begun server)) (refused_acknowledgments client given (begun server) status is) is)

tried_so : (client file : ℕ) (request : FileRequest) (progress : Progress) (status : Status)
    → file_asked progress.server client request ≡ Ok file
    → is_behind progress.server.rules (as_held progress.server client request) (progress.server.held file) ≡ false
    → (tried client request progress).outcome ≡ Outcome.Refused status → first_tried client request progress
    ≡ concluded client request (tried client request progress).progress (Outcome.Refused status)
tried_so client file request progress status asked first is = grind arith

calls_alone : (client file : ℕ) (request : FileRequest) (server : Server) (status : Status)
    → file_asked server client request ≡ Ok file
    → is_behind server.rules (as_held server client request) (server.held file) ≡ false
    → (tried client request (begun server)).outcome ≡ Outcome.Refused status
    → IsLeftAlone (IsClosedByBreak client request (begun server)) server
    (file_request_arrived client request (begun server)).server
calls_alone client file (FileRequest.Close file_id) server status asked first is =
    absurd (never (sym asked ∙ closes_are_refused_as_they_come client file_id (begun server) status is))
  where
    never : Ok file ≡ Err status → ⊥
    never e = cc
calls_alone client file (FileRequest.Create at access share contexts) server status asked first is =
    subst (λ (p : Progress). IsLeftAlone (IsClosedByBreak client (FileRequest.Create at access share contexts) (begun server))
    server p.server)
    (sym (tried_so client file (FileRequest.Create at access share contexts) (begun server) status asked first is))
    (refused_once_tried client (FileRequest.Create at access share contexts) (begun server) status is)
calls_alone client file request server status asked first is =
    subst (λ (p : Progress). IsLeftAlone (IsClosedByBreak client request (begun server)) server p.server)
    (sym (tried_so client file request (begun server) status asked first is))
    (refused_once_tried client request (begun server) status is)

pub calls_refused_once_tried : CallsRefusedOnceTried
calls_refused_once_tried server client file request status up asked first is =
    subst (λ (p : Progress). IsLeftAlone (IsClosedByBreak client request (begun server)) server p.server)
    (sym (receives server client request up))
    (calls_alone client file request server status asked first is)
