-- A try sends no refusal before its end. So one that is sent comes from the end, and an end that refuses changes nothing.
use Rattle.lease_laws.proofs.Words.{◌++◌, ◌∙◌, ◌∷◌, ◌≡◌, Among, Bool, BreakNotice, CreateAnswer, Err, FileRequest, Held, List}
use Rattle.lease_laws.proofs.Words.{Ok, Open, Option}
use Rattle.lease_laws.proofs.Words.{Out, Outcome, Pass, Patch, Progress, Reply, Result, Server, Status, ℕ, ⊎_elim, []}
use Rattle.lease_laws.proofs.Words.{after_first_try, ap, append-nil, append_assoc, arrived, arrived_before, as_held, begun}
use Rattle.lease_laws.proofs.Words.{concluded}
use Rattle.lease_laws.proofs.Words.{false, file_asked, file_request_arrived, held_left, if◌then◌else◌, inl, inr, is_behind}
use Rattle.lease_laws.proofs.Words.{receive, refl, refusal_of, request_held, subst}
use Rattle.lease_laws.proofs.Words.{sym, tried, true}
use Rattle.lease_laws.proofs.server.Lists.{among_append}
use Rattle.lease_laws.proofs.server.cases.Ends.{any_end}
use Rattle.lease_laws.proofs.server.cases.Passes.{any_try_again}
use Rattle.lease_laws.proofs.server.cases.Tries.{any_try}
use Rattle.lease_model.specs.server.Calls.{first_tried}
use Rattle.lease_laws.proofs.refusals.Refusing.{same_alone, tried_alone}
use Rattle.lease_laws.specs.server.Refusals.{CallsRefusedByReply, HeldAreRefusedByReply, IsClose, IsClosedByBreak, IsLeftAlone}
use Rattle.lease_laws.specs.server.Refusals.{IsRefused, RefusedByReply}

-- ---- outs that are no refusal

abbrev pub IsOther : Out → Type 0
IsOther out = (client : ℕ) (request : FileRequest) (status : Status) → out ≡ Out.Sent client (refusal_of request status) → ⊥

broken_other : (client : ℕ) (notice : Option BreakNotice) → IsOther (Out.Sent client (Reply.Break notice))
broken_other client notice to (FileRequest.Create file access share contexts) status e = cc
broken_other client notice to (FileRequest.Read file_id) status e = cc
broken_other client notice to (FileRequest.Write file_id number patch) status e = cc
broken_other client notice to (FileRequest.Close file_id) status e = cc

-- between these points no refusal was sent
pub record SendsOthers (before after : Progress) : Type 0 where
  pub sent : List Out
  pub are : after.outs ≡ before.outs ++ sent
  pub others : (out : Out) → Among out sent → IsOther out

sends_none : (before after : Progress) → after.outs ≡ before.outs ++ [] → SendsOthers before after
sends_none before after are = record { sent = []; are = are; others = λ out a. absurd a }

sends_one : (before after : Progress) (out : Out) → after.outs ≡ before.outs ++ out ∷ [] → IsOther out
    → SendsOthers before after
sends_one before after out are other = record {
  sent = out ∷ [];
  are = are;
  others = λ x a. ⊎_elim (λ same. subst IsOther (sym same) other) (λ never. absurd never) a;
}

pub sends_then : (before next after : Progress) → SendsOthers before next → SendsOthers next after → SendsOthers before after
sends_then before next after a b = record {
  sent = a.sent ++ b.sent;
  are = b.are ∙ ap (λ outs. outs ++ b.sent) a.are ∙ append_assoc before.outs a.sent b.sent;
  others = λ out there. ⊎_elim (a.others out) (b.others out) (among_append out a.sent b.sent there);
}

tries_send_others : (client : ℕ) (request : FileRequest) (progress : Progress)
    → SendsOthers progress (tried client request progress).progress
tries_send_others client request progress = any_try SendsOthers (record {
  same = λ p. sends_none p p (sym (append-nil p.outs));
  behind = sends_then;
  drop = λ key p. sends_none p _ refl;
  lower = λ key lowered p settled. sends_one p _ _ refl (broken_other key.client _);
  begin = λ key lowered p settled. sends_one p _ _ refl (broken_other key.client _);
}) 3 client request progress

-- ---- the end of a try

same_front : (xs ys zs : List Out) → xs ++ ys ≡ xs ++ zs → ys ≡ zs
same_front [] ys zs e = e
same_front (x ∷ xs) ys zs e = same_front xs ys zs (tails e)
  where
    tails : x ∷ (xs ++ ys) ≡ x ∷ (xs ++ zs) → xs ++ ys ≡ xs ++ zs
    tails e = cc

-- what an end sends, and where a refusal is in it, nothing has changed
pub record EndsSo (client : ℕ) (request : FileRequest) (status : Status) (before after : Progress) : Type 0 where
  pub sent : List Out
  pub are : after.outs ≡ before.outs ++ sent
  pub alone : Among (Out.Sent client (refusal_of request status)) sent
      → (after.server.contents ≡ before.server.contents) × (after.server.opens ≡ before.server.opens)

opened_apart : (client : ℕ) (reply : Reply) (file by : ℕ) → Out.Sent client reply ≡ Out.Opened file by → ⊥
opened_apart client reply file by e = cc

changed_apart : (client : ℕ) (reply : Reply) (file by number : ℕ) (patch : Patch)
    → Out.Sent client reply ≡ Out.Changed file by number patch → ⊥
changed_apart client reply file by number patch e = cc

created_apart : (client file at file_id : ℕ) (status : Status) (answer : Option CreateAnswer)
    → Out.Sent client (Reply.CreateFailed file status) ≡ Out.Sent client (Reply.Created at file_id answer) → ⊥
created_apart client file at file_id status answer e = cc

written_apart : (client file_id number : ℕ) (status : Status)
    → Out.Sent client (Reply.WriteFailed file_id number status) ≡ Out.Sent client (Reply.WriteDone file_id number) → ⊥
written_apart client file_id number status e = cc

closed_apart : (client file_id : ℕ) (status : Status)
    → Out.Sent client (Reply.CloseFailed file_id status) ≡ Out.Sent client (Reply.Closed file_id) → ⊥
closed_apart client file_id status e = cc

ends_so : (client : ℕ) (request : FileRequest) (progress : Progress) (outcome : Outcome) (status : Status)
    → EndsSo client request status progress (concluded client request progress outcome)
ends_so client request progress outcome status = any_end client progress
    (λ request outcome after. EndsSo client request status progress after) (record {
      refused = λ request why. record { sent = _ ∷ []; are = refl; alone = λ a. (refl, refl) };
      left = λ request outcome why. record { sent = []; are = sym (append-nil progress.outs); alone = λ a. (refl, refl) };
      full = λ file access share ask none out. record { sent = _ ∷ []; are = refl; alone = λ a. (refl, refl) };
      granted = λ file access share ask none room. record {
        sent = _ ∷ _ ∷ [];
        are = refl;
        alone = λ a. absurd (⊎_elim (opened_apart client _ _ _)
            (λ b. ⊎_elim (created_apart client _ _ _ status _) (λ never. never) b) a);
      };
      again = λ file access share ask file_id some. record {
        sent = _ ∷ [];
        are = refl;
        alone = λ a. absurd (⊎_elim (created_apart client _ _ _ status _) (λ never. never) a);
      };
      read = λ file_id one own. record { sent = _ ∷ []; are = refl; alone = λ a. (refl, refl) };
      changed = λ file_id number patch one own. record {
        sent = _ ∷ _ ∷ [];
        are = refl;
        alone = λ a. absurd (⊎_elim (changed_apart client _ _ _ _ _)
            (λ b. ⊎_elim (written_apart client file_id number status) (λ never. never) b) a);
      };
      closed = λ file_id one own. record {
        sent = _ ∷ [];
        are = ap (λ outs. outs ++ Out.Sent client (Reply.Closed file_id) ∷ []) (append-nil progress.outs);
        alone = λ a. absurd (⊎_elim (closed_apart client file_id status) (λ never. never) a);
      };
    }) request outcome

-- a refusal comes from the end
from_the_end : (client : ℕ) (request : FileRequest) (status : Status) (before next after : Progress)
    → SendsOthers before next → EndsSo client request status next after → IsRefused client request status before after
    → (after.server.contents ≡ next.server.contents) × (after.server.opens ≡ next.server.opens)
from_the_end client request status before next after others ends (sent, are, there) =
    let same = same_front before.outs sent (others.sent ++ ends.sent)
    (sym are ∙ ends.are ∙ ap (λ outs. outs ++ ends.sent) others.are ∙ append_assoc before.outs others.sent ends.sent) in
    ⊎_elim (λ early. absurd (others.others _ early client request status refl)) ends.alone
    (among_append _ others.sent ends.sent (subst (λ l. Among (Out.Sent client (refusal_of request status)) l) same there))

-- servers of the same contents and opens are alike to a refusal
alone_alike : (MayGo : Open → Type 0) (before next after : Server) → IsLeftAlone MayGo before next
    → after.contents ≡ next.contents → after.opens ≡ next.opens → IsLeftAlone MayGo before after
alone_alike MayGo before next after left contents opens = record {
  contents = contents ∙ left.contents;
  were = λ one a. left.were one (subst (λ (l : List Open). Among one l) opens a);
  stay = λ one a. ⊎_elim (λ there. inl (subst (λ (l : List Open). Among one l) (sym opens) there)) (λ goes. inr goes)
      (left.stay one a);
}

-- ---- tries

choose_so : (P : Progress → Type 0) (b : Bool) (x y : Progress) → P x → P y → P (if b then x else y)
choose_so P true x y p q = p
choose_so P false x y p q = q

-- a try that ends, over what it leaves of the requests that are held
tried_to_end : (client : ℕ) (request : FileRequest) (status : Status) (progress next : Progress) (outcome : Outcome)
    → next.server.contents ≡ (tried client request progress).progress.server.contents
    → next.server.opens ≡ (tried client request progress).progress.server.opens
    → SendsOthers (tried client request progress).progress next
    → IsRefused client request status progress (concluded client request next outcome)
    → IsLeftAlone (IsClosedByBreak client request progress) progress.server (concluded client request next outcome).server
tried_to_end client request status progress next outcome contents opens others is =
    let done = (tried client request progress).progress in
    let after = concluded client request next outcome in
    let same = from_the_end client request status progress next after
    (sends_then progress done next (tries_send_others client request progress) others)
    (ends_so client request next outcome status) is in
    alone_alike (IsClosedByBreak client request progress) progress.server done.server after.server
    (tried_alone 3 client request progress) (same.0 ∙ contents) (same.1 ∙ opens)

first_ends : (file : ℕ) (one : Held) (status : Status) (progress : Progress) (outcome : Outcome)
    → IsRefused one.client one.request status progress
    (after_first_try file one (tried one.client one.request progress).progress outcome)
    → IsLeftAlone (IsClosedByBreak one.client one.request progress) progress.server
    (after_first_try file one (tried one.client one.request progress).progress outcome).server
first_ends file one status progress Outcome.Waits is =
    let done = (tried one.client one.request progress).progress in
    alone_alike (IsClosedByBreak one.client one.request progress) progress.server done.server _
    (tried_alone 3 one.client one.request progress) refl refl
first_ends file one status progress outcome is =
    let done = (tried one.client one.request progress).progress in
    tried_to_end one.client one.request status progress done outcome refl refl
    (sends_none done done (sym (append-nil done.outs))) is

first_comes : (one : Held) (status : Status) (progress : Progress) (found : Result ℕ Status)
    → IsRefused one.client one.request status progress (arrived_before one progress found)
    → IsLeftAlone (IsClosedByBreak one.client one.request progress) progress.server (arrived_before one progress found).server
first_comes one status progress (Err why) = λ is. same_alone (IsClosedByBreak one.client one.request progress) progress.server
first_comes one status progress (Ok file) =
    let done = tried one.client one.request progress in
    choose_so (λ (after : Progress). IsRefused one.client one.request status progress after
    → IsLeftAlone (IsClosedByBreak one.client one.request progress) progress.server after.server)
    (is_behind progress.server.rules one (progress.server.held file)) (request_held file one progress)
    (after_first_try file one done.progress done.outcome)
    (λ is. alone_alike (IsClosedByBreak one.client one.request progress) progress.server progress.server _
    (same_alone (IsClosedByBreak one.client one.request progress) progress.server) refl refl)
    (first_ends file one status progress done.outcome)

pub refused_by_reply : RefusedByReply
refused_by_reply client request progress status =
    first_comes (as_held progress.server client request) status progress (file_asked progress.server client request)

pub held_are_refused_by_reply : HeldAreRefusedByReply
held_are_refused_by_reply file one waiting pass status =
    let done = tried one.client one.request pass.progress in
    any_try_again file one waiting pass
    (λ (after : Pass). IsRefused one.client one.request status pass.progress after.progress
    → IsLeftAlone (IsClosedByBreak one.client one.request pass.progress) pass.progress.server after.progress.server) (record {
      behind = λ behind is. same_alone (IsClosedByBreak one.client one.request pass.progress) pass.progress.server;
      waits = λ first waits is. tried_alone 3 one.client one.request pass.progress;
      answers = λ first ends is.
          let next = held_left file (pass.passed ++ waiting) done.progress in
          tried_to_end one.client one.request status pass.progress next done.outcome refl refl
          (sends_none done.progress next refl) is;
    })

-- ---- whole calls

comes_first : (client : ℕ) (request : FileRequest) (progress : Progress) → (IsClose request → ⊥)
    → file_request_arrived client request progress ≡ first_tried client request progress
comes_first client (FileRequest.Create file access share contexts) progress other = refl
comes_first client (FileRequest.Read file_id) progress other = refl
comes_first client (FileRequest.Write file_id number patch) progress other = refl
comes_first client (FileRequest.Close file_id) progress other = absurd (other tt)

pub calls_refused_by_reply : CallsRefusedByReply
unfolding receive arrived
calls_refused_by_reply server client request status other =
    choose_so (λ (after : Progress). IsRefused client request status (begun server) after
    → IsLeftAlone (IsClosedByBreak client request (begun server)) server after.server) (server.present client) _ (begun server)
    (subst (λ (after : Progress). IsRefused client request status (begun server) after
    → IsLeftAlone (IsClosedByBreak client request (begun server)) server after.server)
    (sym (comes_first client request (begun server) other)) (refused_by_reply client request (begun server) status))
    (λ is. same_alone (IsClosedByBreak client request (begun server)) server)
