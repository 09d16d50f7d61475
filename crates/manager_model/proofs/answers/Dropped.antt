-- No call drops a request.
use Rattle.lease_laws.proofs.Words.{◌&&◌, ◌+◌, ◌++◌, ◌==◌, ◌∙◌, ◌∷◌, ◌≡◌, ◌≤◌, Among, Bool, FileRequest, List, Open}
use Rattle.lease_laws.proofs.Words.{Out, Outcome, Progress, Reply, Result, Server, Status, ℕ, ⊎_elim, [], acknowledged}
use Rattle.lease_laws.proofs.Words.{and_parts, ap, arith, begun, concluded, eq-eqb, eqb-true, false, file_asked, held_left}
use Rattle.lease_laws.proofs.Words.{inl, inr, is_behind, is_breaking, is_left_behind, length, list_any, map, nat_tests, not, put}
use Rattle.lease_laws.proofs.Words.{refl, refused, subst, sym, true, true≢false, without, None, Some, Ok, Err, ⊤}
use Rattle.lease_laws.proofs.server.Lists.{among_append, among_filter, among_filtered, any_has, clash, either, has_any, if_cases}
use Rattle.lease_laws.proofs.server.Lists.{not_parts, not_true, none_has}
use Rattle.manager_model.specs.Answering.{ComesTo, IsAccountedFor, IsOn, IsOnce, NoneIsDropped, WithdrawnAreGone, answers}
use Rattle.manager_model.specs.Answering.{cut_off, is_withdrawal, taken_back, waiting_under, withdrawals}
use Rattle.manager_model.specs.Bare.{bare_request}
use Rattle.manager_model.specs.Decisions.{Decision, told_of, told_of_out}
use Rattle.manager_model.specs.Handling.{Handling, Manager, Pass, Tagged, at_server, ended_between, ends, gone_on, handling}
use Rattle.manager_model.specs.Handling.{held_in, is_left, left_behind}
use Rattle.lease_laws.proofs.Words.{filter, is_named, others_broken, outlives_connection}
use Rattle.manager_model.specs.Handling.{is_of, is_open, is_under, left_to_wait, lost, one_pass, pass_answered, tagged_of}
use Rattle.manager_model.specs.Handling as rules
use Rattle.manager_model.specs.Hosting.{Coming, HasFreeTag, managed}
use Rattle.manager_model.proofs.answers.Calls.{acknowledges_count, counts_none, cuts_count, cuts_nothing, expires_count}
use Rattle.manager_model.proofs.answers.Calls.{joins_count, none_under, receives_count, receives_nothing, scavenges_count}
use Rattle.manager_model.proofs.answers.Calls.{gives_up_count, leaves_count, leaves_nothing, withdraws_count, withdraws_nothing}
use Rattle.manager_model.proofs.answers.Once.{Counts, counts_both, counts_fewer, counts_next, one_if}
use Rattle.manager_model.proofs.passes.Alike.{any_passes}
use Rattle.manager_model.proofs.passes.Enough.{InPass, in_pass}
use Rattle.manager_model.proofs.passes.Tables.{put_apart, put_here}
use Rattle.manager_model.proofs.passes.Ways.{any_pass, any_try, try_of}

-- ---- that a request is taken back is told by withdrawals alone

out_takes_none : (at tag : ℕ) (out : Out) → withdrawals at (told_of_out tag out) ≡ 0
out_takes_none at tag (Out.Sent client (Reply.Created file file_id None)) = refl
out_takes_none at tag (Out.Sent client (Reply.Created file file_id (Some answer))) = refl
out_takes_none at tag (Out.Sent client (Reply.CreateFailed file status)) = refl
out_takes_none at tag (Out.Sent client (Reply.ReadDone file_id bytes)) = refl
out_takes_none at tag (Out.Sent client (Reply.ReadFailed file_id status)) = refl
out_takes_none at tag (Out.Sent client (Reply.WriteDone file_id number)) = refl
out_takes_none at tag (Out.Sent client (Reply.WriteFailed file_id number status)) = refl
out_takes_none at tag (Out.Sent client (Reply.Closed file_id)) = refl
out_takes_none at tag (Out.Sent client (Reply.CloseFailed file_id status)) = refl
out_takes_none at tag (Out.Sent client (Reply.Break None)) = refl
out_takes_none at tag (Out.Sent client (Reply.Break (Some notice))) = refl
out_takes_none at tag (Out.Sent client (Reply.AckDone None)) = refl
out_takes_none at tag (Out.Sent client (Reply.AckDone (Some given))) = refl
out_takes_none at tag (Out.Sent client (Reply.AckFailed status)) = refl
out_takes_none at tag (Out.Opened file client) = refl
out_takes_none at tag (Out.Changed file client number patch) = refl

outs_take_none : (at tag : ℕ) (outs : List Out) → withdrawals at (told_of tag outs) ≡ 0
outs_take_none at tag [] = refl
outs_take_none at tag (out ∷ outs) =
    let both = counts_both (is_withdrawal at) (told_of_out tag out) (told_of tag outs) in
    let first = out_takes_none at tag out in
    let rest = outs_take_none at tag outs in omega (arith, both, first, rest)

opens_take_none : (at : ℕ) (opens : List Open) → withdrawals at (map (λ (one : Open). Decision.Ended one.file_id) opens) ≡ 0
opens_take_none at [] = refl
opens_take_none at (one ∷ opens) = opens_take_none at opens

ends_take_none : (at : ℕ) (before after : Server) → withdrawals at (ended_between before after) ≡ 0
unfolding ended_between
ends_take_none at before after = opens_take_none at (without (is_open after) before.opens)

left_takes_none : (at : ℕ) (opens : List Open)
    → withdrawals at (map (λ (one : Open). Decision.LeftBehind one.file_id) opens) ≡ 0
left_takes_none at [] = refl
left_takes_none at (one ∷ opens) = left_takes_none at opens

parts_take_none : (at : ℕ) (test : Open → Bool) (before after : Server)
    → withdrawals at (ended_between before after ++ left_behind test before) ≡ 0
unfolding left_behind
parts_take_none at test before after =
    let both = counts_both (is_withdrawal at) (ended_between before after) (left_behind test before) in
    let ends = ends_take_none at before after in
    let left = left_takes_none at (filter (λ one. test one && one.connected && outlives_connection before one) before.opens) in
    omega (arith, both, ends, left)

-- ---- a call goes on

-- So often it is told that the request under the tag was taken back, and each that waits on the file passes the test.
record Stays (P : Tagged → Type 0) (at : ℕ) (file : ℕ) (total : ℕ) (now : Handling) : Type 0 where
  told : withdrawals at now.told ≡ total
  left : (one : Tagged) → Among one (now.manager.queues file) → P one

-- the same waits
goes_staying : (P : Tagged → Type 0) (at file total tag : ℕ) (progress : Progress) (now : Handling)
    → Stays P at file total now → Stays P at file total (gone_on tag progress now)
goes_staying P at file total tag progress now s = record {
  told =
      let both = counts_both (is_withdrawal at) now.told (told_of tag progress.outs) in
      let none = outs_take_none at tag progress.outs in
      let was = s.told in omega (arith, both, none, was);
  left = s.left;
}

ends_staying : (P : Tagged → Type 0) (at file total : ℕ) (after : Server) (now : Handling)
    → Stays P at file total now → Stays P at file total (ends after now)
ends_staying P at file total after now s = record {
  told =
      let both = counts_both (is_withdrawal at) now.told (ended_between now.manager.server after) in
      let none = ends_take_none at now.manager.server after in
      let was = s.told in omega (arith, both, none, was);
  left = s.left;
}

-- another queue on a file
put_leaves : (P : Tagged → Type 0) (file place : ℕ) (queues : ℕ → List Tagged) (queue : List Tagged)
    → ((one : Tagged) → Among one (queues file) → P one)
    → ((file == place) ≡ true → (one : Tagged) → Among one queue → P one)
    → (one : Tagged) → Among one (put queues place queue file) → P one
unfolding put
put_leaves P file place queues queue all these =
    if_cases (λ (l : List Tagged). (one : Tagged) → Among one l → P one) (file == place) queue (queues file) these (λ apart. all)

-- one of a list without one of its elements is on the list
pub among_others : (x one : Tagged) (before behind : List Tagged) → Among x (before ++ behind) → Among x (before ++ one ∷ behind)
among_others x one [] behind there = inr there
among_others x one (other ∷ before) behind (inl same) = inl same
among_others x one (other ∷ before) behind (inr later) = inr (among_others x one before behind later)

-- ---- passes

record PassStays (P : Tagged → Type 0) (at : ℕ) (at_file : ℕ) (total : ℕ) (file : ℕ) (count : ℕ) (waiting : List Tagged)
    (pass : Pass) : Type 0 where
  within : InPass file count waiting pass
  stays : Stays P at at_file total pass.now

tries_stay : (P : Tagged → Type 0) (at at_file total file count : ℕ) (one : Tagged) (waiting : List Tagged) (pass : Pass)
    → PassStays P at at_file total file count (one ∷ waiting) pass
    → Stays P at at_file total (rules.tried_again file one waiting pass).now
tries_stay P at at_file total file count one waiting pass p =
    let done = (try_of one pass.now).progress in
    let after = ends_staying P at at_file total done.server pass.now p.stays in
    any_try file one waiting pass (λ after. Stays P at at_file total after.now) (record {
      behind = p.stays;
      waits = goes_staying P at at_file total one.tag done (ends done.server pass.now) after;
      answers = λ outcome is ends. record {
        told = (goes_staying P at at_file total one.tag (concluded one.held.client one.held.request
            (held_left file (held_in (pass.passed ++ waiting)) done) outcome) (rules.ends done.server pass.now) after).told;
        left = put_leaves P at_file file pass.now.manager.queues (pass.passed ++ waiting) p.stays.left (λ here x there.
            p.stays.left x (subst (λ n. Among x (pass.now.manager.queues n)) (sym (eqb-true at_file file here))
            (subst (Among x) (sym p.within.queue) (among_others x one pass.passed waiting there))));
      };
    })

pass_stays : (P : Tagged → Type 0) (at at_file total file : ℕ) (now : Handling) → Stays P at at_file total now
    → Stays P at at_file total (one_pass file now).now
pass_stays P at at_file total file now s =
    let count = length (now.manager.queues file) in
    (any_pass file (PassStays P at at_file total file count)
    (λ one waiting pass p. record {
      within = in_pass file count one waiting pass p.within;
      stays = tries_stay P at at_file total file count one waiting pass p;
    })
    (now.manager.queues file) (record { passed = []; now = now; has_answered = false }) (record {
      within = record { queue = refl; left = omega arith; fewer = λ never. absurd (true≢false (sym never)) };
      stays = s;
    })).stays

passes_stay : (P : Tagged → Type 0) (at file total : ℕ) (now : Handling) → Stays P at file total now
    → Stays P at file total (rules.all_passes now)
passes_stay P at file total = any_passes (Stays P at file total) (pass_stays P at file total)

-- ---- a request comes

waits_staying : (P : Tagged → Type 0) (at file total place : ℕ) (one : Tagged) (now : Handling) → P one
    → Stays P at file total now → Stays P at file total (left_to_wait place one now)
waits_staying P at file total place one now own s = record {
  told =
      let both = counts_both (is_withdrawal at) now.told (Decision.Waits one.held.client one.tag ∷ []) in
      let was = s.told in omega (arith, both, was);
  left = put_leaves P file place now.manager.queues (now.manager.queues place ++ one ∷ []) s.left
      (λ here x there. ⊎_elim
      (λ was. s.left x (subst (λ n. Among x (now.manager.queues n)) (sym (eqb-true file place here)) was))
      (λ last. ⊎_elim (λ same. subst P (sym same) own) (λ never. absurd never) last)
      (among_append x (now.manager.queues place) (one ∷ []) there));
}

first_stays : (P : Tagged → Type 0) (at file place : ℕ) (one : Tagged) (manager : Manager) (outcome : Outcome) → P one
    → Stays P at file 0 (handling manager) → Stays P at file 0
    (rules.after_first_try place one (handling manager) (try_of one (handling manager)).progress outcome)
first_stays P at file place one manager Outcome.Waits own s =
    let done = (try_of one (handling manager)).progress in
    waits_staying P at file 0 place one _ own (goes_staying P at file 0 one.tag done _
    (ends_staying P at file 0 done.server (handling manager) s))
first_stays P at file place one manager outcome own s =
    let done = (try_of one (handling manager)).progress in
    goes_staying P at file 0 one.tag (concluded one.held.client one.held.request done outcome) _
    (ends_staying P at file 0 done.server (handling manager) s)

before_stays : (P : Tagged → Type 0) (at file : ℕ) (one : Tagged) (manager : Manager) (found : Result ℕ Status) → P one
    → Stays P at file 0 (handling manager) → Stays P at file 0 (rules.arrived_before one (handling manager) found)
before_stays P at file one manager (Err status) own s =
    goes_staying P at file 0 one.tag (refused one.held.client one.held.request status (begun manager.server)) (handling manager) s
before_stays P at file one manager (Ok place) own s =
    let done = try_of one (handling manager) in
    if_cases (Stays P at file 0) (is_behind manager.server.rules one.held (manager.server.held place))
    (left_to_wait place one (handling manager)) (rules.after_first_try place one (handling manager) done.progress done.outcome)
    (λ behind. waits_staying P at file 0 place one (handling manager) own s)
    (λ first. first_stays P at file place one manager done.outcome own s)

arrives_staying : (P : Tagged → Type 0) (at file client tag : ℕ) (request : FileRequest) (manager : Manager)
    → P (tagged_of manager.server tag client request) → Stays P at file 0 (handling manager)
    → Stays P at file 0 (rules.arrived tag client request (handling manager))
arrives_staying P at file client tag (FileRequest.Close file_id) manager own s = passes_stay P at file 0 _
    (before_stays P at file (tagged_of manager.server tag client (FileRequest.Close file_id)) manager
    (file_asked manager.server client (FileRequest.Close file_id)) own s)
arrives_staying P at file client tag (FileRequest.Create place access share contexts) manager own s =
    before_stays P at file (tagged_of manager.server tag client (FileRequest.Create place access share contexts)) manager _ own s
arrives_staying P at file client tag (FileRequest.Read file_id) manager own s =
    before_stays P at file (tagged_of manager.server tag client (FileRequest.Read file_id)) manager _ own s
arrives_staying P at file client tag (FileRequest.Write file_id number patch) manager own s =
    before_stays P at file (tagged_of manager.server tag client (FileRequest.Write file_id number patch)) manager _ own s

-- ---- any call that takes none back

abbrev TakesNone : Coming → Type 0
TakesNone (Coming.Withdraws file client tag) = ⊥
TakesNone coming = ⊤

-- what comes passes the test too
abbrev ComesWell : (Tagged → Type 0) → Manager → Coming → Type 0
ComesWell P manager (Coming.Asks client tag request) = P (tagged_of manager.server tag client (bare_request request))
ComesWell P manager coming = ⊤

becomes_staying : (P : Tagged → Type 0) (at file : ℕ) (after : Server) (manager : Manager) → Stays P at file 0 (handling manager)
    → Stays P at file 0 (at_server after (handling manager))
becomes_staying P at file after manager s = record {
  told = (ends_staying P at file 0 after (handling manager) s).told;
  left = s.left;
}

-- opens end, or wait for their client, and some requests wait no longer
parts_staying : (P : Tagged → Type 0) (at file : ℕ) (manager : Manager) (test : Open → Bool) (gone : Tagged → Bool)
    (after : Server) → Stays P at file 0 (handling manager) → Stays P at file 0 (record {
      manager = record { server = after; queues = λ other. without gone (manager.queues other) };
      told = ended_between manager.server after ++ left_behind test manager.server;
    })
parts_staying P at file manager test gone after s = record {
  told = parts_take_none at test manager.server after;
  left = λ one there. s.left one (among_filter (λ (x : Tagged). not (gone x)) one (manager.queues file) there).0;
}

call_stays : (P : Tagged → Type 0) (at file : ℕ) (manager : Manager) (coming : Coming) → TakesNone coming
    → ComesWell P manager coming → Stays P at file 0 (handling manager) → Stays P at file 0 (managed manager coming)
unfolding rules.join rules.receive rules.acknowledge rules.cut rules.expire rules.scavenge rules.give_up rules.leave
call_stays P at file manager (Coming.Joins client) none own s = becomes_staying P at file _ manager s
call_stays P at file manager (Coming.Asks client tag request) none own s = if_cases (Stays P at file 0)
    (manager.server.present client) (rules.arrived tag client (bare_request request) (handling manager)) (handling manager)
    (λ up. arrives_staying P at file client tag (bare_request request) manager own s) (λ down. s)
call_stays P at file manager (Coming.Acknowledges client given) none own s = if_cases (Stays P at file 0)
    (manager.server.present client)
    (rules.all_passes (gone_on 0 (acknowledged client given (begun manager.server)) (handling manager))) (handling manager)
    (λ up. passes_stay P at file 0 _
    (goes_staying P at file 0 0 (acknowledged client given (begun manager.server)) (handling manager) s)) (λ down. s)
call_stays P at file manager (Coming.IsCut client) none own s = if_cases (Stays P at file 0)
    (manager.server.present client) (rules.all_passes (lost client (handling manager))) (handling manager)
    (λ up. passes_stay P at file 0 (lost client (handling manager)) (parts_staying P at file manager
    (λ one. one.client == client) (is_of client) (rules.links_lost manager.server client).server s)) (λ down. s)
call_stays P at file manager (Coming.Leaves client file_ids tags) none own s = if_cases (Stays P at file 0)
    (manager.server.present client) (rules.all_passes (rules.left client file_ids tags (handling manager))) (handling manager)
    (λ up. passes_stay P at file 0 (rules.left client file_ids tags (handling manager)) (parts_staying P at file manager
    (is_named client file_ids) (is_left client tags) _ s)) (λ down. s)
call_stays P at file manager (Coming.GivesUp own place extent) none from s =
    let after = others_broken manager.server own place extent in
    passes_stay P at file 0 _ (goes_staying P at file 0 0 after (rules.ends after.server (handling manager))
    (ends_staying P at file 0 after.server (handling manager) s))
call_stays P at file manager (Coming.Expires key) none own s = if_cases (Stays P at file 0)
    (is_breaking (manager.server.leases key)) _ (handling manager)
    (λ breaking. passes_stay P at file 0 _ (becomes_staying P at file _ manager s)) (λ settled. s)
call_stays P at file manager (Coming.Scavenges file_id) none own s = if_cases (Stays P at file 0)
    (list_any (is_left_behind file_id) manager.server.opens) _ (handling manager)
    (λ left. passes_stay P at file 0 _ (becomes_staying P at file _ manager s)) (λ none. s)
call_stays P at file manager (Coming.Withdraws place client tag) none own s = absurd none

-- ---- a withdrawal

withdraws_stay : (P : Tagged → Type 0) (at file place client tag : ℕ) (manager : Manager)
    → list_any (is_under client tag) (manager.queues place) ≡ true
    → ((one : Tagged) → Among one (put manager.queues place (without (is_under client tag) (manager.queues place)) file) → P one)
    → Stays P at file (one_if (tag == at)) (rules.withdraw manager place client tag)
unfolding rules.withdraw
withdraws_stay P at file place client tag manager some left =
    rw (some) (passes_stay P at file (one_if (tag == at)) (rules.taken_back place client tag (handling manager)) (record {
      told = let one = counts_next (is_withdrawal at) (Decision.Withdrawn client tag) [] in omega (arith, one);
      left = left;
    }))

-- what is left on a file was there
left_there : (file place client tag : ℕ) (manager : Manager) (one : Tagged)
    → Among one (put manager.queues place (without (is_under client tag) (manager.queues place)) file)
    → Among one (manager.queues file)
left_there file place client tag manager =
    put_leaves (λ one. Among one (manager.queues file)) file place manager.queues
    (without (is_under client tag) (manager.queues place)) (λ one there. there)
    (λ here one there. subst (λ n. Among one (manager.queues n)) (sym (eqb-true file place here))
    (among_filter (λ (x : Tagged). not (is_under client tag x)) one (manager.queues place) there).0)

-- and on this one not under the tag
left_apart : (file client tag : ℕ) (manager : Manager) (one : Tagged)
    → Among one (put manager.queues file (without (is_under client tag) (manager.queues file)) file)
    → is_under client tag one ≡ false
left_apart file client tag manager one there = not_parts (is_under client tag one)
    (among_filter (λ (x : Tagged). not (is_under client tag x)) one (manager.queues file)
    (subst (Among one) (put_here manager.queues file (without (is_under client tag) (manager.queues file))) there)).1

pub withdrawn_are_gone : WithdrawnAreGone
withdrawn_are_gone manager file client tag one there = either (list_any (is_under client tag) (manager.queues file))
    (λ some. (withdraws_stay (λ x. is_under client tag x ≡ false) 0 file file client tag manager some
    (left_apart file client tag manager)).left one there)
    (λ none. none_has (is_under client tag) one (manager.queues file) none
    (subst (λ (now : Handling). Among one (now.manager.queues file)) (withdraws_nothing file client tag manager none) there))

-- ---- a request that waits

-- it is counted
some_under : (tag : ℕ) (one : Tagged) (queue : List Tagged) → Among one queue → (one.tag == tag) ≡ true
    → 1 ≤ waiting_under tag queue
some_under tag one [] there is = absurd there
some_under tag one (first ∷ queue) (inl same) is =
    let all = counts_next (λ (o : Tagged). o.tag == tag) first queue in
    let here : one_if (first.tag == tag) ≡ 1 = ap one_if (subst (λ (o : Tagged). (o.tag == tag) ≡ true) same is) in
    omega (arith, all, here)
some_under tag one (first ∷ queue) (inr later) is =
    let all = counts_next (λ (o : Tagged). o.tag == tag) first queue in
    let some = some_under tag one queue later is in omega (arith, all, some)

-- where one waits under a tag, it is the only one
only_one : (tag : ℕ) (x y : Tagged) (queue : List Tagged) → waiting_under tag queue ≤ 1 → Among x queue → Among y queue
    → (x.tag == tag) ≡ true → (y.tag == tag) ≡ true → x ≡ y
only_one tag x y [] most there also its own = absurd there
only_one tag x y (first ∷ queue) most (inl same) (inl also) its own = same ∙ sym also
only_one tag x y (first ∷ queue) most (inl same) (inr also) its own =
    let all = counts_next (λ (o : Tagged). o.tag == tag) first queue in
    let here : one_if (first.tag == tag) ≡ 1 = ap one_if (subst (λ (o : Tagged). (o.tag == tag) ≡ true) same its) in
    let more = some_under tag y queue also own in absurd (omega (arith, all, here, more, most))
only_one tag x y (first ∷ queue) most (inr later) (inl also) its own =
    let all = counts_next (λ (o : Tagged). o.tag == tag) first queue in
    let here : one_if (first.tag == tag) ≡ 1 = ap one_if (subst (λ (o : Tagged). (o.tag == tag) ≡ true) also own) in
    let more = some_under tag x queue later its in absurd (omega (arith, all, here, more, most))
only_one tag x y (first ∷ queue) most (inr later) (inr also) its own =
    let all = counts_next (λ (o : Tagged). o.tag == tag) first queue in
    only_one tag x y queue (omega (arith, all, most)) later also its own

own_tag : (n : ℕ) → (n == n) ≡ true
own_tag n = eq-eqb n n refl

turned : (n m : ℕ) → (n == m) ≡ false → (m == n) ≡ false
turned n m apart = grind (arith, nat_tests)

-- what is under a tag is under one that is the same
under_tag : (client tag other : ℕ) (one : Tagged) → is_under client tag one ≡ true → (tag == other) ≡ true
    → (one.tag == other) ≡ true
under_tag client tag other one is same =
    eq-eqb one.tag other (eqb-true one.tag tag (and_parts (one.held.client == client) (one.tag == tag) is).1
    ∙ eqb-true tag other same)

-- A request that waits on the file, under a tag of its own.
record IsWaiting (manager : Manager) (file : ℕ) (one : Tagged) : Type 0 where
  there : Among one (manager.queues file)
  counts : Counts one.tag file 1 (handling manager)
  most : waiting_under one.tag (manager.queues file) ≤ 1

is_waiting : (manager : Manager) (file : ℕ) (one : Tagged) → Among one (manager.queues file) → IsOnce one.tag (handling manager)
    → IsWaiting manager file one
is_waiting manager file one there once =
    let some = some_under one.tag one (manager.queues file) there (own_tag one.tag) in
    either (file == once.file)
    (λ home.
    let is = eqb-true file once.file home in
    let most : answers one.tag (handling manager).told + waiting_under one.tag (manager.queues file) ≤ 1 =
    subst (λ n. answers one.tag (handling manager).told + waiting_under one.tag (manager.queues n) ≤ 1) (sym is) once.once in
    record {
      there = there;
      counts = record {
        all = omega (arith, some, most);
        others = λ other apart. once.others other (subst (λ n. (other == n) ≡ false) is apart);
      };
      most = omega (arith, most);
    })
    (λ away. let none = once.others file away in absurd (omega (arith, some, none)))

abbrev IsSame : Tagged → Tagged → Type 0
IsSame one other = (other.tag == one.tag) ≡ true → other ≡ one

same_there : (manager : Manager) (file : ℕ) (one other : Tagged) → IsWaiting manager file one
    → Among other (manager.queues file) → IsSame one other
same_there manager file one other w there its =
    only_one one.tag other one (manager.queues file) w.most there w.there its (own_tag one.tag)

first_staying : (manager : Manager) (file : ℕ) (one : Tagged) → IsWaiting manager file one
    → Stays (IsSame one) one.tag file 0 (handling manager)
first_staying manager file one w = record { told = refl; left = λ other there. same_there manager file one other w there }

accounted : (manager : Manager) (coming : Coming) (file total : ℕ) (one : Tagged)
    → Counts one.tag file total (managed manager coming)
    → Stays (IsSame one) one.tag file (taken_back coming file one) (managed manager coming)
    → total + taken_back coming file one + cut_off manager coming one ≡ 1 → IsAccountedFor manager coming file one
accounted manager coming file total one c s is = record {
  once = let all = c.all in omega (arith, all, is);
  told = s.told;
  same = s.left;
}

-- of those that are left the request is one, or isn't
left_one : (test : Tagged → Bool) (one : Tagged) (queue : List Tagged) → waiting_under one.tag queue ≤ 1 → Among one queue
    → test one ≡ false → waiting_under one.tag (without test queue) ≡ 1
left_one test one queue most there stays =
    let fewer = counts_fewer (λ (o : Tagged). o.tag == one.tag) (λ (o : Tagged). not (test o)) queue in
    let some = some_under one.tag one (without test queue)
    (among_filtered (λ (o : Tagged). not (test o)) one queue there (ap not stays)) (own_tag one.tag) in
    omega (arith, fewer, some, most)

left_none : (test : Tagged → Bool) (one : Tagged) (queue : List Tagged) → waiting_under one.tag queue ≤ 1 → Among one queue
    → test one ≡ true → waiting_under one.tag (without test queue) ≡ 0
left_none test one queue most there goes = none_under one.tag (without test queue) (λ other left.
    let was = among_filter (λ (o : Tagged). not (test o)) other queue left in
    not_true (other.tag == one.tag) (λ its.
    let same = only_one one.tag other one queue most was.0 there its (own_tag one.tag) in
    clash (test one) goes (subst (λ (o : Tagged). test o ≡ false) same (not_parts (test other) was.1))))

-- ---- of a request that waits, by what comes

waiting_cut : (manager : Manager) (client file : ℕ) (one : Tagged) → IsWaiting manager file one
    → IsAccountedFor manager (Coming.IsCut client) file one
waiting_cut manager client file one w =
    let stays = call_stays (IsSame one) one.tag file manager (Coming.IsCut client) tt tt (first_staying manager file one w) in
    let queue = manager.queues file in
    either (manager.server.present client)
    (λ up. accounted manager (Coming.IsCut client) file _ one (cuts_count one.tag file 1 client manager up w.counts) stays
    (either (is_of client one)
    (λ its. let none = left_none (is_of client) one queue w.most w.there its in
    let off : cut_off manager (Coming.IsCut client) one ≡ 1 = rw (up, its) refl in omega (arith, none, off))
    (λ other. let one_left = left_one (is_of client) one queue w.most w.there other in
    let off : cut_off manager (Coming.IsCut client) one ≡ 0 = rw (up, other) refl in omega (arith, one_left, off))))
    (λ down. accounted manager (Coming.IsCut client) file 1 one
    (subst (Counts one.tag file 1) (sym (cuts_nothing client manager down)) w.counts) stays
    (let off : cut_off manager (Coming.IsCut client) one ≡ 0 = rw (down) refl in omega (arith, off)))

-- its client leaves it, or other requests,
waiting_left : (manager : Manager) (client : ℕ) (file_ids tags : List ℕ) (file : ℕ) (one : Tagged) → IsWaiting manager file one
    → IsAccountedFor manager (Coming.Leaves client file_ids tags) file one
waiting_left manager client file_ids tags file one w =
    let coming = Coming.Leaves client file_ids tags in
    let stays = call_stays (IsSame one) one.tag file manager coming tt tt (first_staying manager file one w) in
    let queue = manager.queues file in
    either (manager.server.present client)
    (λ up. accounted manager coming file _ one (leaves_count one.tag file 1 client file_ids tags manager up w.counts) stays
    (either (is_left client tags one)
    (λ its. let none = left_none (is_left client tags) one queue w.most w.there its in
    let off : cut_off manager coming one ≡ 1 = rw (up, its) refl in omega (arith, none, off))
    (λ other. let one_left = left_one (is_left client tags) one queue w.most w.there other in
    let off : cut_off manager coming one ≡ 0 = rw (up, other) refl in omega (arith, one_left, off))))
    (λ down. accounted manager coming file 1 one
    (subst (Counts one.tag file 1) (sym (leaves_nothing client file_ids tags manager down)) w.counts) stays
    (let off : cut_off manager coming one ≡ 0 = rw (down) refl in omega (arith, off)))

-- a request is withdrawn from this file,
withdrawn_here : (manager : Manager) (client tag file : ℕ) (one : Tagged) → IsWaiting manager file one
    → list_any (is_under client tag) (manager.queues file) ≡ true
    → IsAccountedFor manager (Coming.Withdraws file client tag) file one
withdrawn_here manager client tag file one w some =
    let coming = Coming.Withdraws file client tag in
    let queue = manager.queues file in
    let counts = withdraws_count one.tag file 1 file client tag manager some w.counts in
    let stays = withdraws_stay (IsSame one) one.tag file file client tag manager some
    (λ other there. same_there manager file one other w (left_there file file client tag manager other there)) in
    let here = ap (waiting_under one.tag) (put_here manager.queues file (without (is_under client tag) queue)) in
    let told : (n : ℕ) → one_if (tag == one.tag) ≡ n → taken_back coming file one ≡ n
    → Stays (IsSame one) one.tag file (taken_back coming file one) (managed manager coming) =
    λ n is taken. subst (λ m. Stays (IsSame one) one.tag file m (managed manager coming)) (is ∙ sym taken) stays in
    either (is_under client tag one)
    (λ its.
    let taken : taken_back coming file one ≡ 1 = rw (own_tag file, its) refl in
    let same = eqb-true one.tag tag (and_parts (one.held.client == client) (one.tag == tag) its).1 in
    let none = left_none (is_under client tag) one queue w.most w.there its in
    accounted manager coming file _ one counts (told 1 (ap one_if (eq-eqb tag one.tag (sym same))) taken)
    (omega (arith, here, none, taken)))
    (λ other.
    let taken : taken_back coming file one ≡ 0 = rw (own_tag file, other) refl in
    let x = any_has (is_under client tag) queue some in
    let apart : (tag == one.tag) ≡ false = not_true (tag == one.tag) (λ its.
    let also = under_tag client tag one.tag x.0 x.2 its in
    let same = only_one one.tag x.0 one queue w.most x.1 w.there also (own_tag one.tag) in
    clash (is_under client tag one) (subst (λ (o : Tagged). is_under client tag o ≡ true) same x.2) other) in
    let left = left_one (is_under client tag) one queue w.most w.there other in
    accounted manager coming file _ one counts (told 0 (ap one_if apart) taken) (omega (arith, here, left, taken)))

-- from another one,
withdrawn_elsewhere : (manager : Manager) (place client tag file : ℕ) (one : Tagged) → IsWaiting manager file one
    → list_any (is_under client tag) (manager.queues place) ≡ true → (place == file) ≡ false
    → IsAccountedFor manager (Coming.Withdraws place client tag) file one
withdrawn_elsewhere manager place client tag file one w some away =
    let coming = Coming.Withdraws place client tag in
    let stays = withdraws_stay (IsSame one) one.tag file place client tag manager some
    (λ other there. same_there manager file one other w (left_there file place client tag manager other there)) in
    let taken : taken_back coming file one ≡ 0 = rw (away) refl in
    let x = any_has (is_under client tag) (manager.queues place) some in
    let apart : (tag == one.tag) ≡ false = not_true (tag == one.tag) (λ its.
    let also = some_under one.tag x.0 (manager.queues place) x.1 (under_tag client tag one.tag x.0 x.2 its) in
    let none = w.counts.others place away in absurd (omega (arith, also, none))) in
    let same = ap (waiting_under one.tag) (put_apart manager.queues place file
    (without (is_under client tag) (manager.queues place)) (turned place file away)) in
    let all = w.counts.all in
    accounted manager coming file _ one (withdraws_count one.tag file 1 place client tag manager some w.counts)
    (subst (λ n. Stays (IsSame one) one.tag file n (managed manager coming)) (ap one_if apart ∙ sym taken) stays)
    (omega (arith, all, same, taken))

-- or doesn't wait there
withdrawn_nowhere : (manager : Manager) (place client tag file : ℕ) (one : Tagged) → IsWaiting manager file one
    → list_any (is_under client tag) (manager.queues place) ≡ false
    → IsAccountedFor manager (Coming.Withdraws place client tag) file one
withdrawn_nowhere manager place client tag file one w none =
    let coming = Coming.Withdraws place client tag in
    let nothing = sym (withdraws_nothing place client tag manager none) in
    let taken : taken_back coming file one ≡ 0 = ap one_if (not_true (place == file && is_under client tag one) (λ both.
    let parts = and_parts (place == file) (is_under client tag one) both in
    let there = subst (λ n. Among one (manager.queues n)) (sym (eqb-true place file parts.0)) w.there in
    clash (list_any (is_under client tag) (manager.queues place))
    (has_any (is_under client tag) one (manager.queues place) there parts.1) none)) in
    accounted manager coming file 1 one (subst (Counts one.tag file 1) nothing w.counts)
    (subst (λ n. Stays (IsSame one) one.tag file n (managed manager coming)) (sym taken)
    (subst (Stays (IsSame one) one.tag file 0) nothing (first_staying manager file one w))) (omega (arith, taken))

waiting_withdrawn : (manager : Manager) (place client tag file : ℕ) (one : Tagged) → IsWaiting manager file one
    → IsAccountedFor manager (Coming.Withdraws place client tag) file one
waiting_withdrawn manager place client tag file one w = either (list_any (is_under client tag) (manager.queues place))
    (λ some. either (place == file)
    (λ here. let is = eqb-true place file here in
    subst (λ n. IsAccountedFor manager (Coming.Withdraws n client tag) file one) (sym is)
    (withdrawn_here manager client tag file one w
    (subst (λ n. list_any (is_under client tag) (manager.queues n) ≡ true) is some)))
    (λ away. withdrawn_elsewhere manager place client tag file one w some away))
    (λ none. withdrawn_nowhere manager place client tag file one w none)

waiting_asked : (manager : Manager) (client tag file : ℕ) (request : FileRequest) (one : Tagged) → IsWaiting manager file one
    → HasFreeTag manager (Coming.Asks client tag request)
    → IsAccountedFor manager (Coming.Asks client tag request) file one
waiting_asked manager client tag file request one w free =
    let coming = Coming.Asks client tag request in
    let bare = bare_request request in
    let apart : (tag == one.tag) ≡ false = turned one.tag tag (free file one w.there) in
    let none : one_if (tag == one.tag) ≡ 0 = ap one_if apart in
    let stays = call_stays (IsSame one) one.tag file manager coming tt (λ its. clash (tag == one.tag) its apart)
    (first_staying manager file one w) in
    either (manager.server.present client)
    (λ up. accounted manager coming file _ one (receives_count one.tag file 1 client tag bare manager up
    (λ its. clash (tag == one.tag) its apart) w.counts) stays (omega (arith, none)))
    (λ down. accounted manager coming file 1 one
    (subst (Counts one.tag file 1) (sym (receives_nothing client tag bare manager down)) w.counts) stays refl)

waiting_accounted : (manager : Manager) (coming : Coming) (file : ℕ) (one : Tagged) → IsWaiting manager file one
    → HasFreeTag manager coming → IsAccountedFor manager coming file one
waiting_accounted manager (Coming.Joins client) file one w free = accounted manager (Coming.Joins client) file 1 one
    (joins_count one.tag file 1 client manager w.counts)
    (call_stays (IsSame one) one.tag file manager (Coming.Joins client) tt tt (first_staying manager file one w)) refl
waiting_accounted manager (Coming.Asks client tag request) file one w free =
    waiting_asked manager client tag file request one w free
waiting_accounted manager (Coming.Acknowledges client given) file one w free =
    accounted manager (Coming.Acknowledges client given) file 1 one
    (acknowledges_count one.tag file 1 client given manager w.counts) (call_stays (IsSame one) one.tag file manager
    (Coming.Acknowledges client given) tt tt (first_staying manager file one w)) refl
waiting_accounted manager (Coming.IsCut client) file one w free = waiting_cut manager client file one w
waiting_accounted manager (Coming.Expires key) file one w free = accounted manager (Coming.Expires key) file 1 one
    (expires_count one.tag file 1 key manager w.counts)
    (call_stays (IsSame one) one.tag file manager (Coming.Expires key) tt tt (first_staying manager file one w)) refl
waiting_accounted manager (Coming.Scavenges file_id) file one w free = accounted manager (Coming.Scavenges file_id) file 1 one
    (scavenges_count one.tag file 1 file_id manager w.counts)
    (call_stays (IsSame one) one.tag file manager (Coming.Scavenges file_id) tt tt (first_staying manager file one w)) refl
waiting_accounted manager (Coming.GivesUp own place extent) file one w free =
    accounted manager (Coming.GivesUp own place extent) file 1 one
    (gives_up_count one.tag file 1 own place extent manager w.counts) (call_stays (IsSame one) one.tag file manager
    (Coming.GivesUp own place extent) tt tt (first_staying manager file one w)) refl
waiting_accounted manager (Coming.Leaves client file_ids tags) file one w free =
    waiting_left manager client file_ids tags file one w
waiting_accounted manager (Coming.Withdraws place client tag) file one w free =
    waiting_withdrawn manager place client tag file one w

-- ---- of a request that comes

asked_accounted : (manager : Manager) (client tag file : ℕ) (request : FileRequest)
    → HasFreeTag manager (Coming.Asks client tag request) → manager.server.present client ≡ true
    → IsOn (file_asked manager.server client (bare_request request)) file
    → IsAccountedFor manager (Coming.Asks client tag request) file
    (tagged_of manager.server tag client (bare_request request))
asked_accounted manager client tag file request free up on =
    let bare = bare_request request in
    let one = tagged_of manager.server tag client bare in
    let coming = Coming.Asks client tag request in
    let its : one_if (tag == tag) ≡ 1 = ap one_if (own_tag tag) in
    accounted manager coming file _ one (receives_count tag file 0 client tag bare manager up (λ e. on)
    (counts_none tag file manager free))
    (call_stays (IsSame one) tag file manager coming tt (λ e. refl) (record {
      told = refl;
      left = λ other there its. clash (other.tag == tag) its (free file other there);
    })) (omega (arith, its))

comes_accounted : (manager : Manager) (coming : Coming) (file : ℕ) (one : Tagged) → HasFreeTag manager coming
    → ComesTo manager coming file one → IsAccountedFor manager coming file one
comes_accounted manager (Coming.Asks client tag request) file one free to =
    subst (IsAccountedFor manager (Coming.Asks client tag request) file) (sym to.1)
    (asked_accounted manager client tag file request free to.0 to.2)
comes_accounted manager (Coming.Joins client) file one free to = absurd to
comes_accounted manager (Coming.Acknowledges client given) file one free to = absurd to
comes_accounted manager (Coming.IsCut client) file one free to = absurd to
comes_accounted manager (Coming.Expires key) file one free to = absurd to
comes_accounted manager (Coming.Scavenges file_id) file one free to = absurd to
comes_accounted manager (Coming.Withdraws place client tag) file one free to = absurd to
comes_accounted manager (Coming.GivesUp own place extent) file one free to = absurd to
comes_accounted manager (Coming.Leaves client file_ids tags) file one free to = absurd to

pub none_is_dropped : NoneIsDropped
none_is_dropped manager coming file one once free there = ⊎_elim
    (λ waits. waiting_accounted manager coming file one (is_waiting manager file one waits (once one.tag)) free)
    (λ comes. comes_accounted manager coming file one free comes) there
