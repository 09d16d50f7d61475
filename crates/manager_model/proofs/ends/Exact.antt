-- Of each open that was there it is told once that it ended or was closed, or it is there.
use Rattle.std.specs.List.{count_by}
use Rattle.lease_laws.proofs.Words.{◌&&◌, ◌||◌, ◌+◌, ◌++◌, ◌<◌, ◌==◌, ◌∙◌, ◌∷◌, ◌≡◌, ◌≤◌, Among, AreInOrder, Bool, FileRequest}
use Rattle.lease_laws.proofs.Words.{LeaseOf, List, None, Open, Option, Out, Outcome, Progress, Reply, Server, Some, ℕ, [], ap}
use Rattle.lease_laws.proofs.Words.{arith, begun, concluded, connected_again, eq-eqb, eqb-true, false, filter, Access, new_open}
use Rattle.lease_laws.proofs.Words.{flat_map-append, inl, is_left_open, list_any, map, nat_tests, not, refl}
use Rattle.lease_laws.proofs.Words.{refusal_of, subst, sym, tried, true, without, ⊎_elim, Key, has_key, Status, if◌then◌else◌}
use Rattle.lease_laws.proofs.Words.{reconnected, replied, append-nil, Share, opens_dropped, CreateAsk, Lease, granted_with, Held}
use Rattle.lease_laws.proofs.Words.{held_left, length, true≢false}
use Rattle.lease_laws.proofs.server.Lists.{among_append, among_behind, among_filter, among_filtered, among_map, any_has, clash}
use Rattle.lease_laws.proofs.server.Lists.{either, has_any}
use Rattle.lease_laws.proofs.server.Lists.{if_cases, not_parts, not_true, none_has}
use Rattle.lease_laws.proofs.server.cases.Ends.{IsFoundOpen, any_end}
use Rattle.lease_laws.proofs.server.cases.Tries.{HasTries, any_meeting, any_try}
use Rattle.lease_laws.proofs.Words.{Extent, others_broken, others_wants, outlives_connection}
use Rattle.manager_model.specs.Bare.{bare_request}
use Rattle.manager_model.specs.Decisions.{Decision, told_of, told_of_out}
use Rattle.manager_model.specs.Ending.{closes_of, ends_of, is_close, is_closed, is_end, opens_of}
use Rattle.manager_model.specs.Handling.{Handling, Manager, Pass, Tagged, ended_between, ends, gone_on, handling, held_in}
use Rattle.manager_model.specs.Handling.{is_of, is_open, is_under, left_behind, left_to_wait, lost, one_pass, tagged_of}
use Rattle.manager_model.specs.Handling as rules
use Rattle.manager_model.proofs.answers.Dropped.{among_others}
use Rattle.manager_model.proofs.ends.Calls.{asked_put}
use Rattle.manager_model.proofs.passes.Alike.{any_passes}
use Rattle.manager_model.proofs.passes.Enough.{InPass, in_pass}
use Rattle.manager_model.proofs.passes.Ways.{any_pass, any_try as any_pass_try, try_of}
use Rattle.manager_model.proofs.answers.Once.{counts_both, counts_fewer, counts_next, one_if}
use Rattle.manager_model.proofs.ends.Told.{has_number}

-- ---- counts and tests

counted_some : {X : Type 0} (test : X → Bool) (xs : List X) → list_any test xs ≡ true → 1 ≤ count_by test xs
counted_some test [] some = absurd (cc)
counted_some test (x ∷ xs) some =
    let all = counts_next test x xs in
    either (test x)
    (λ here. let one : one_if (test x) ≡ 1 = ap one_if here in omega (arith, all, one))
    (λ off. let rest = counted_some test xs (tail (test x) (list_any test xs) off some) in omega (arith, all, rest))
  where
    tail : (a b : Bool) → a ≡ false → (a || b) ≡ true → b ≡ true
    tail a b off some = grind arith

counted_none : {X : Type 0} (test : X → Bool) (xs : List X) → list_any test xs ≡ false → count_by test xs ≡ 0
counted_none test [] none = refl
counted_none test (x ∷ xs) none =
    let all = counts_next test x xs in
    let here : one_if (test x) ≡ 0 = ap one_if (none_has test x (x ∷ xs) none (inl refl)) in
    let rest = counted_none test xs (tail (test x) (list_any test xs) none) in omega (arith, all, here, rest)
  where
    tail : (a b : Bool) → (a || b) ≡ false → b ≡ false
    tail a b none = grind arith

abbrev numbered : ℕ → Open → Bool
numbered n one = one.file_id == n

-- opens in order have a FileId once
pub counted_once : (n : ℕ) (opens : List Open) → AreInOrder opens → count_by (λ (one : Open). one.file_id == n) opens ≤ 1
counted_once n [] order = omega arith
counted_once n (one ∷ opens) order =
    let all = counts_next (λ (o : Open). o.file_id == n) one opens in
    let rest = counted_once n opens order.1 in
    either (one.file_id == n)
    (λ here.
    let none = counted_none (λ (o : Open). o.file_id == n) opens (not_true (list_any (λ (o : Open). o.file_id == n) opens)
    (λ some.
    let x = any_has (λ (o : Open). o.file_id == n) opens some in
    let less = order.0 x.0 x.1 in
    let same = eqb-true one.file_id n here in
    let also = eqb-true x.0.file_id n x.2 in absurd (omega (arith, less, same, also)))) in
    let first : one_if (one.file_id == n) ≡ 1 = ap one_if here in omega (arith, all, none, first))
    (λ off. let first : one_if (one.file_id == n) ≡ 0 = ap one_if off in omega (arith, all, rest, first))

-- ---- what ends between two servers

ended_all : (n : ℕ) (after : Server) (opens : List Open) → has_number after.opens n ≡ false
    → ends_of n (map (λ (one : Open). Decision.Ended one.file_id) (without (is_open after) opens))
    ≡ count_by (λ (one : Open). one.file_id == n) opens
ended_all n after [] gone = refl
ended_all n after (one ∷ opens) gone =
    let all = counts_next (λ (o : Open). o.file_id == n) one opens in
    let rest = ended_all n after opens gone in
    either (is_open after one)
    (λ stays.
    let off : one_if (one.file_id == n) ≡ 0 = ap one_if (not_true (one.file_id == n) (λ its.
    clash (has_number after.opens n) (subst (λ m. has_number after.opens m ≡ true) (eqb-true one.file_id n its) stays) gone)) in
    rw (stays) (omega (arith, all, rest, off)))
    (λ ended.
    let next = counts_next (is_end n) (Decision.Ended one.file_id)
    (map (λ (one : Open). Decision.Ended one.file_id) (without (is_open after) opens)) in
    rw (ended) (omega (arith, all, rest, next)))

ended_none : (n : ℕ) (after : Server) (opens : List Open) → has_number after.opens n ≡ true
    → ends_of n (map (λ (one : Open). Decision.Ended one.file_id) (without (is_open after) opens)) ≡ 0
ended_none n after [] there = refl
ended_none n after (one ∷ opens) there =
    let rest = ended_none n after opens there in
    either (is_open after one)
    (λ stays. rw (stays) rest)
    (λ ended.
    let next = counts_next (is_end n) (Decision.Ended one.file_id)
    (map (λ (one : Open). Decision.Ended one.file_id) (without (is_open after) opens)) in
    let off : one_if (one.file_id == n) ≡ 0 = ap one_if (not_true (one.file_id == n) (λ its.
    clash (has_number after.opens n) there
    (subst (λ m. has_number after.opens m ≡ false) (eqb-true one.file_id n its) ended))) in
    rw (ended) (omega (arith, rest, next, off)))

-- of opens that were there, one at most of each FileId, and none of which came back
pub ended_so : (n : ℕ) (before after : Server) → opens_of n after ≤ opens_of n before → opens_of n before ≤ 1
    → opens_of n after + ends_of n (ended_between before after) ≡ opens_of n before
unfolding ended_between
ended_so n before after fewer most = either (has_number after.opens n)
    (λ there.
    let none = ended_none n after before.opens there in
    let some = counted_some (λ (one : Open). one.file_id == n) after.opens there in omega (arith, none, some, fewer, most))
    (λ gone.
    let all = ended_all n after before.opens gone in
    let none = counted_none (λ (one : Open). one.file_id == n) after.opens gone in omega (arith, all, none))

-- what is there still didn't end
pub ended_not : (n : ℕ) (before after : Server) → (has_number before.opens n ≡ true → has_number after.opens n ≡ true)
    → ends_of n (ended_between before after) ≡ 0
unfolding ended_between
ended_not n before after stays = either (has_number after.opens n)
    (λ there. ended_none n after before.opens there)
    (λ gone. ended_all n after before.opens gone ∙ counted_none (λ (one : Open). one.file_id == n) before.opens
    (not_true (has_number before.opens n) (λ was. clash (has_number after.opens n) (stays was) gone)))

-- ---- what is told

out_ends_none : (n tag : ℕ) (out : Out) → ends_of n (told_of_out tag out) ≡ 0
out_ends_none n tag (Out.Sent client (Reply.Created file file_id None)) = refl
out_ends_none n tag (Out.Sent client (Reply.Created file file_id (Some answer))) = refl
out_ends_none n tag (Out.Sent client (Reply.CreateFailed file status)) = refl
out_ends_none n tag (Out.Sent client (Reply.ReadDone file_id bytes)) = refl
out_ends_none n tag (Out.Sent client (Reply.ReadFailed file_id status)) = refl
out_ends_none n tag (Out.Sent client (Reply.WriteDone file_id number)) = refl
out_ends_none n tag (Out.Sent client (Reply.WriteFailed file_id number status)) = refl
out_ends_none n tag (Out.Sent client (Reply.Closed file_id)) = refl
out_ends_none n tag (Out.Sent client (Reply.CloseFailed file_id status)) = refl
out_ends_none n tag (Out.Sent client (Reply.Break None)) = refl
out_ends_none n tag (Out.Sent client (Reply.Break (Some notice))) = refl
out_ends_none n tag (Out.Sent client (Reply.AckDone None)) = refl
out_ends_none n tag (Out.Sent client (Reply.AckDone (Some given))) = refl
out_ends_none n tag (Out.Sent client (Reply.AckFailed status)) = refl
out_ends_none n tag (Out.Opened file client) = refl
out_ends_none n tag (Out.Changed file client number patch) = refl

pub outs_end_none : (n tag : ℕ) (outs : List Out) → ends_of n (told_of tag outs) ≡ 0
outs_end_none n tag [] = refl
outs_end_none n tag (out ∷ outs) =
    let both = counts_both (is_end n) (told_of_out tag out) (told_of tag outs) in
    let first = out_ends_none n tag out in
    let rest = outs_end_none n tag outs in omega (arith, both, first, rest)

opens_close_none : (requests : ℕ → FileRequest) (n : ℕ) (opens : List Open)
    → closes_of requests n (map (λ (one : Open). Decision.Ended one.file_id) opens) ≡ 0
opens_close_none requests n [] = refl
opens_close_none requests n (one ∷ opens) = opens_close_none requests n opens

pub ends_close_none : (requests : ℕ → FileRequest) (n : ℕ) (before after : Server)
    → closes_of requests n (ended_between before after) ≡ 0
unfolding ended_between
ends_close_none requests n before after = opens_close_none requests n (without (is_open after) before.opens)

closes_more : (requests : ℕ → FileRequest) (n tag : ℕ) (outs more : List Out)
    → closes_of requests n (told_of tag (outs ++ more))
    ≡ closes_of requests n (told_of tag outs) + closes_of requests n (told_of tag more)
closes_more requests n tag outs more = ap (closes_of requests n) (flat_map-append (told_of_out tag) outs more)
    ∙ counts_both (is_closed requests n) (told_of tag outs) (told_of tag more)

closes_silent : (requests : ℕ → FileRequest) (n tag : ℕ) (outs more : List Out) → closes_of requests n (told_of tag more) ≡ 0
    → closes_of requests n (told_of tag (outs ++ more)) ≡ closes_of requests n (told_of tag outs)
closes_silent requests n tag outs more none = let both = closes_more requests n tag outs more in omega (arith, both, none)

-- nothing of this is told by opens that wait for their client
left_end_none : (n : ℕ) (opens : List Open) → ends_of n (map (λ (one : Open). Decision.LeftBehind one.file_id) opens) ≡ 0
left_end_none n [] = refl
left_end_none n (one ∷ opens) = left_end_none n opens

left_close_none : (requests : ℕ → FileRequest) (n : ℕ) (opens : List Open)
    → closes_of requests n (map (λ (one : Open). Decision.LeftBehind one.file_id) opens) ≡ 0
left_close_none requests n [] = refl
left_close_none requests n (one ∷ opens) = left_close_none requests n opens

pub left_tells_none : (requests : ℕ → FileRequest) (n : ℕ) (test : Open → Bool) (server : Server)
    → (ends_of n (left_behind test server) ≡ 0) × (closes_of requests n (left_behind test server) ≡ 0)
unfolding left_behind
left_tells_none requests n test server =
    let opens = filter (λ one. test one && one.connected && outlives_connection server one) server.opens in
    (left_end_none n opens, left_close_none requests n opens)

-- ---- a try: fewer opens are there, and none is closed; those that are connected stay

-- each open of this number is connected
abbrev pub IsUp : ℕ → Server → Type 0
IsUp n server = (one : Open) → Among one server.opens → (one.file_id == n) ≡ true → one.connected ≡ true

pub record HasTried (requests : ℕ → FileRequest) (n : ℕ) (tag : ℕ) (before : Progress) (after : Progress) : Type 0 where
  pub fewer : opens_of n after.server ≤ opens_of n before.server
  pub closes : closes_of requests n (told_of tag after.outs) ≡ closes_of requests n (told_of tag before.outs)
  pub last : after.server.last_id ≡ before.server.last_id
  pub up : IsUp n before.server → IsUp n after.server
  pub stays : IsUp n before.server → has_number before.server.opens n ≡ true → has_number after.server.opens n ≡ true

drop_keeps : (n : ℕ) (key : Key) (server : Server) → IsUp n server → has_number server.opens n ≡ true
    → has_number (without (is_left_open key) server.opens) n ≡ true
drop_keeps n key server up some =
    let x = any_has (numbered n) server.opens some in
    has_any (numbered n) x.0 (without (is_left_open key) server.opens)
    (among_filtered (λ (o : Open). not (is_left_open key o)) x.0 server.opens x.1
    (stays (has_key key x.0) x.0.connected (up x.0 x.1 x.2))) x.2
  where
    stays : (a b : Bool) → b ≡ true → not (a && not b) ≡ true
    stays a b e = grind arith

tries_are_had : (requests : ℕ → FileRequest) (n tag : ℕ) → HasTries (HasTried requests n tag)
tries_are_had requests n tag = record {
  same = λ p. record { fewer = omega arith; closes = refl; last = refl; up = λ up. up; stays = λ up some. some };
  behind = λ before next after one more. record {
    fewer = let a = one.fewer in let b = more.fewer in omega (arith, a, b);
    closes = more.closes ∙ one.closes;
    last = more.last ∙ one.last;
    up = λ up. more.up (one.up up);
    stays = λ up some. more.stays (one.up up) (one.stays up some);
  };
  drop = λ key p. record {
    fewer = counts_fewer (λ (one : Open). one.file_id == n) (λ (o : Open). not (is_left_open key o)) p.server.opens;
    closes = closes_silent requests n tag p.outs [] refl;
    last = refl;
    up = λ up one there its. up one (among_filter (λ (o : Open). not (is_left_open key o)) one p.server.opens there).0 its;
    stays = drop_keeps n key p.server;
  };
  lower = λ key lowered p settled. record {
    fewer = omega arith;
    closes = closes_silent requests n tag p.outs _ refl;
    last = refl;
    up = λ up. up;
    stays = λ up some. some;
  };
  begin = λ key lowered p settled. record {
    fewer = omega arith;
    closes = closes_silent requests n tag p.outs _ refl;
    last = refl;
    up = λ up. up;
    stays = λ up some. some;
  };
}

pub tries_have : (requests : ℕ → FileRequest) (n tag client : ℕ) (request : FileRequest) (server : Server)
    → HasTried requests n tag (begun server) (tried client request (begun server)).progress
tries_have requests n tag client request server =
    any_try (HasTried requests n tag) (tries_are_had requests n tag) 3 client request (begun server)

pub others_have : (requests : ℕ → FileRequest) (n tag : ℕ) (server : Server) (own : Option Key) (file : ℕ) (extent : Extent)
    → HasTried requests n tag (begun server) (others_broken server own file extent)
others_have requests n tag server own file extent = any_meeting (HasTried requests n tag) (tries_are_had requests n tag)
    (others_wants server own file extent) (begun server)

-- ---- a request is answered: what it closes was there, and is told to be closed

pub record HasEnded (requests : ℕ → FileRequest) (n : ℕ) (tag : ℕ) (before : Progress) (after : Progress) : Type 0 where
  pub counts : n ≤ before.server.last_id → opens_of n before.server ≤ 1
      → opens_of n after.server + closes_of requests n (told_of tag after.outs)
      ≡ opens_of n before.server + closes_of requests n (told_of tag before.outs)
  pub last : before.server.last_id ≤ after.server.last_id
  pub up : IsUp n before.server → IsUp n after.server

-- only what is told
only_told : (requests : ℕ → FileRequest) (n tag : ℕ) (before after : Progress) (more : List Out)
    → after.server.opens ≡ before.server.opens → after.server.last_id ≡ before.server.last_id
    → after.outs ≡ before.outs ++ more → closes_of requests n (told_of tag more) ≡ 0 → HasEnded requests n tag before after
only_told requests n tag before after more opens last outs none = record {
  counts = λ less most.
      let same = ap (λ (l : List Open). count_by (λ (one : Open). one.file_id == n) l) opens in
      let silent = ap (λ l. closes_of requests n (told_of tag l)) outs ∙ closes_silent requests n tag before.outs more none in
      omega (arith, same, silent);
  last = omega (arith, last);
  up = λ up one there. up one (subst (Among one) opens there);
}

-- the request under the tag closes the open
close_counts : (request : FileRequest) (n file_id : ℕ) → FileRequest.Close file_id ≡ bare_request request
    → is_close request n ≡ (file_id == n)
close_counts (FileRequest.Close other) n file_id is = ap (λ m. m == n) (sym (closed is))
  where
    closed : FileRequest.Close file_id ≡ FileRequest.Close other → file_id ≡ other
    closed e = cc e
close_counts (FileRequest.Create file access share contexts) n file_id is = absurd (cc)
close_counts (FileRequest.Read other) n file_id is = absurd (cc)
close_counts (FileRequest.Write other number patch) n file_id is = absurd (cc)

pub refusal_closes_none : (requests : ℕ → FileRequest) (n tag client : ℕ) (request : FileRequest) (status : Status)
    → closes_of requests n (told_of tag (Out.Sent client (refusal_of request status) ∷ [])) ≡ 0
refusal_closes_none requests n tag client (FileRequest.Create file access share contexts) status = refl
refusal_closes_none requests n tag client (FileRequest.Read file_id) status = refl
refusal_closes_none requests n tag client (FileRequest.Write file_id number patch) status = refl
refusal_closes_none requests n tag client (FileRequest.Close file_id) status = refl

-- those that count are kept, and only those
counts_kept : {X : Type 0} (test keep : X → Bool) (xs : List X) → ((x : X) → test x ≡ true → keep x ≡ true)
    → count_by test (filter keep xs) ≡ count_by test xs
counts_kept test keep [] all = refl
counts_kept {X} test keep (x ∷ xs) all = go (keep x) refl (counts_kept test keep xs all)
  where
    go : (b : Bool) → keep x ≡ b → count_by test (filter keep xs) ≡ count_by test xs
        → count_by test (if b then x ∷ filter keep xs else filter keep xs) ≡ count_by test (x ∷ xs)
    go true is same =
        let one = counts_next test x (filter keep xs) in let both = counts_next test x xs in omega (arith, one, both, same)
    go false is same =
        let both = counts_next test x xs in
        let off : one_if (test x) ≡ 0 = ap one_if (not_true (test x) (λ its. clash (keep x) (all x its) is)) in
        omega (arith, both, off, same)

pub counts_mapped : {X : Type 0} (test : X → Bool) (f : X → X) (xs : List X) → ((x : X) → test (f x) ≡ test x)
    → count_by test (map f xs) ≡ count_by test xs
counts_mapped test f [] same = refl
counts_mapped test f (x ∷ xs) same =
    let one = counts_next test (f x) (map f xs) in
    let both = counts_next test x xs in
    let rest = counts_mapped test f xs same in
    let here : one_if (test (f x)) ≡ one_if (test x) = ap one_if (same x) in omega (arith, one, both, rest, here)

granted_has : (requests : ℕ → FileRequest) (n tag client file : ℕ) (access : Access) (share : Share) (ask : CreateAsk)
    (lease : Lease) (progress : Progress)
    → HasEnded requests n tag progress (granted_with client file access share ask.lease ask.durable lease progress)
granted_has requests n tag client file access share ask lease progress =
    let new = new_open progress.server client file access share ask.lease ask.durable lease in record {
      counts = λ less most.
          let both = counts_both (λ (one : Open). one.file_id == n) progress.server.opens (new ∷ []) in
          let next = counts_next (λ (one : Open). one.file_id == n) new [] in
          let off : one_if ((progress.server.last_id + 1) == n) ≡ 0 = ap one_if (later progress.server.last_id less) in
          let after = granted_with client file access share ask.lease ask.durable lease progress in
          let silent : closes_of requests n (told_of tag after.outs) ≡ closes_of requests n (told_of tag progress.outs) =
          closes_silent requests n tag progress.outs _ refl in omega (arith, both, next, off, silent);
      last = omega arith;
      up = λ up one there its. ⊎_elim (λ was. up one was its)
          (λ last. ⊎_elim (λ same. ap (λ (o : Open). o.connected) same) (λ never. absurd never) last)
          (among_append one progress.server.opens (new ∷ []) there);
    }
  where
    later : (last : ℕ) → n ≤ last → ((last + 1) == n) ≡ false
    later last less = grind (arith, nat_tests)

again_has : (requests : ℕ → FileRequest) (n tag client file file_id : ℕ) (asked : Option LeaseOf) (progress : Progress)
    → HasEnded requests n tag progress (reconnected client file asked file_id progress)
again_has requests n tag client file file_id asked progress = record {
  counts = λ less most.
      let same = counts_mapped (λ (one : Open). one.file_id == n) (connected_again file_id) progress.server.opens same_number in
      let after = reconnected client file asked file_id progress in
      let silent : closes_of requests n (told_of tag after.outs) ≡ closes_of requests n (told_of tag progress.outs) =
      closes_silent requests n tag progress.outs _ refl in omega (arith, same, silent);
  last = omega arith;
  up = λ up one there its.
      let was = among_map (connected_again file_id) one progress.server.opens there in
      ap (λ (o : Open). o.connected) was.2 ∙ still_up was.0
      (up was.0 was.1 (sym (same_number was.0) ∙ sym (ap (λ (o : Open). o.file_id == n) was.2) ∙ its));
}
  where
    same_number : (one : Open) → ((connected_again file_id one).file_id == n) ≡ (one.file_id == n)
    same_number one = if_cases (λ (o : Open). (o.file_id == n) ≡ (one.file_id == n)) (one.file_id == file_id)
        (record one { connected = true }) one (λ here. refl) (λ apart. refl)

    still_up : (one : Open) → one.connected ≡ true → (connected_again file_id one).connected ≡ true
    still_up one up = if_cases (λ (o : Open). o.connected ≡ true) (one.file_id == file_id)
        (record one { connected = true }) one (λ here. refl) (λ apart. up)

closed_has : (requests : ℕ → FileRequest) (n tag client file_id : ℕ) (one : Open) (progress : Progress)
    → IsFoundOpen progress.server client file_id one → FileRequest.Close file_id ≡ bare_request (requests tag)
    → HasEnded requests n tag progress
    (replied client (Reply.Closed file_id) (opens_dropped (λ (other : Open). other.file_id == file_id) progress))
closed_has requests n tag client file_id one progress own asked =
    let opens = progress.server.opens in
    let test = λ (o : Open). o.file_id == n in
    let keep = λ (o : Open). not (o.file_id == file_id) in
    let silent = closes_silent requests n tag progress.outs [] refl in
    let last = closes_more requests n tag (progress.outs ++ []) (Out.Sent client (Reply.Closed file_id) ∷ []) in
    let told = counts_next (is_closed requests n) (Decision.Closed client tag) [] in
    let so : one_if (is_close (requests tag) n) ≡ one_if (file_id == n) =
    ap one_if (close_counts (requests tag) n file_id asked) in record {
      counts = λ less most. either (file_id == n)
          (λ its.
          let same = eqb-true file_id n its in
          let some = counted_some test opens (has_any test one opens own.there (eq-eqb one.file_id n (own.id ∙ same))) in
          let none = counted_none test (filter keep opens) (not_true (list_any test (filter keep opens)) (λ left.
          let x = any_has test (filter keep opens) left in
          let was = among_filter keep x.0 opens x.1 in
          clash (x.0.file_id == file_id) (eq-eqb x.0.file_id file_id (eqb-true x.0.file_id n x.2 ∙ sym same))
          (not_parts (x.0.file_id == file_id) was.1))) in
          let closes : one_if (file_id == n) ≡ 1 = ap one_if its in
          omega (arith, silent, last, told, so, some, none, closes, most))
          (λ off.
          let same = counts_kept test keep opens (λ o its. ap not (not_true (o.file_id == file_id) (λ here.
          clash (file_id == n) (eq-eqb file_id n (sym (eqb-true o.file_id file_id here) ∙ eqb-true o.file_id n its)) off))) in
          let closes : one_if (file_id == n) ≡ 0 = ap one_if off in omega (arith, silent, last, told, so, same, closes));
      last = omega arith;
      up = λ up other there. up other (among_filter keep other opens there).0;
    }

pub ends_have : (requests : ℕ → FileRequest) (n tag client : ℕ) (request : FileRequest) (progress : Progress) (outcome : Outcome)
    → request ≡ bare_request (requests tag) → HasEnded requests n tag progress (concluded client request progress outcome)
ends_have requests n tag client request progress outcome = any_end client progress
    (λ request outcome after. request ≡ bare_request (requests tag) → HasEnded requests n tag progress after) (record {
      refused = λ request status asked. only_told requests n tag progress _ (Out.Sent client (refusal_of request status) ∷ [])
          refl refl refl (refusal_closes_none requests n tag client request status);
      left = λ request outcome why asked. only_told requests n tag progress progress [] refl refl
          (sym (append-nil progress.outs)) refl;
      full = λ file access share ask none out asked. only_told requests n tag progress _ (_ ∷ []) refl refl refl refl;
      granted = λ file access share ask none room asked. granted_has requests n tag client file access share ask _ progress;
      again = λ file access share ask file_id some asked. again_has requests n tag client file file_id ask.lease progress;
      read = λ file_id one own asked. only_told requests n tag progress _ (_ ∷ []) refl refl refl refl;
      changed = λ file_id number patch one own asked. only_told requests n tag progress _ (_ ∷ _ ∷ []) refl refl refl refl;
      closed = λ file_id one own asked. closed_has requests n tag client file_id one progress own asked;
    }) request outcome

-- ---- a call goes on

-- Since the call began with this server: each that waits was asked under its tag, and the count is exact.
pub record Exact (requests : ℕ → FileRequest) (n : ℕ) (start : Server) (now : Handling) : Type 0 where
  pub asked : (file : ℕ) (one : Tagged) → Among one (now.manager.queues file)
      → one.held.request ≡ bare_request (requests one.tag)
  pub low : start.last_id ≤ now.manager.server.last_id
  pub all : n ≤ start.last_id → opens_of n now.manager.server + ends_of n now.told + closes_of requests n now.told
      ≡ opens_of n start
  pub fresh : start.last_id < n → (ends_of n now.told ≡ 0) × IsUp n now.manager.server

-- what the server comes to by a try, before the request is answered
pub record IsBetween (n : ℕ) (before : Server) (between : Server) : Type 0 where
  pub fewer : opens_of n between ≤ opens_of n before
  pub last : between.last_id ≡ before.last_id
  pub up : IsUp n before → IsUp n between
  pub stays : IsUp n before → has_number before.opens n ≡ true → has_number between.opens n ≡ true

-- and then
pub record IsBehind (requests : ℕ → FileRequest) (n : ℕ) (tag : ℕ) (between : Server) (after : Progress) : Type 0 where
  pub counts : n ≤ between.last_id → opens_of n between ≤ 1
      → opens_of n after.server + closes_of requests n (told_of tag after.outs) ≡ opens_of n between
  pub last : between.last_id ≤ after.server.last_id
  pub up : IsUp n between → IsUp n after.server

pub goes_exactly : (requests : ℕ → FileRequest) (n tag : ℕ) (start between : Server) (after : Progress) (now : Handling)
    → opens_of n start ≤ 1 → IsBetween n now.manager.server between → IsBehind requests n tag between after
    → Exact requests n start now → Exact requests n start (gone_on tag after (ends between now))
goes_exactly requests n tag start between after now most b f e =
    let ended = ended_between now.manager.server between in
    let ends_first = counts_both (is_end n) now.told ended in
    let ends_all = counts_both (is_end n) (now.told ++ ended) (told_of tag after.outs) in
    let ends_none = outs_end_none n tag after.outs in
    let closes_first = counts_both (is_closed requests n) now.told ended in
    let closes_all = counts_both (is_closed requests n) (now.told ++ ended) (told_of tag after.outs) in
    let closes_none = ends_close_none requests n now.manager.server between in record {
      asked = e.asked;
      low = let was = e.low in let last = b.last in let next = f.last in omega (arith, was, last, next);
      all = λ less.
          let was = e.all less in
          let low = e.low in
          let last = b.last in
          let fewer = b.fewer in
          let some = ended_so n now.manager.server between fewer (omega (arith, was, most)) in
          let counts = f.counts (omega (arith, less, low, last)) (omega (arith, was, most, fewer)) in
          omega (arith, was, some, counts, ends_first, ends_all, ends_none, closes_first, closes_all, closes_none);
      fresh = λ later.
          let was = e.fresh later in
          let none = was.0 in
          let stay = ended_not n now.manager.server between (b.stays was.1) in
          (omega (arith, none, stay, ends_first, ends_all, ends_none), f.up (b.up was.1));
    }

pub tried_between : (requests : ℕ → FileRequest) (n : ℕ) (one : Tagged) (now : Handling)
    → IsBetween n now.manager.server (try_of one now).progress.server
tried_between requests n one now =
    let t = tries_have requests n one.tag one.held.client one.held.request now.manager.server in
    record { fewer = t.fewer; last = t.last; up = t.up; stays = t.stays }

pub waits_behind_try : (requests : ℕ → FileRequest) (n : ℕ) (one : Tagged) (now : Handling)
    → IsBehind requests n one.tag (try_of one now).progress.server (try_of one now).progress
waits_behind_try requests n one now =
    let t = tries_have requests n one.tag one.held.client one.held.request now.manager.server in
    let none = t.closes in record { counts = λ less most. omega (arith, none); last = omega arith; up = λ up. up }

-- what is left to wait on a file makes no difference
pub ends_behind : (requests : ℕ → FileRequest) (n file : ℕ) (left : List Held) (one : Tagged) (now : Handling) (outcome : Outcome)
    → one.held.request ≡ bare_request (requests one.tag)
    → IsBehind requests n one.tag (try_of one now).progress.server
    (concluded one.held.client one.held.request (held_left file left (try_of one now).progress) outcome)
ends_behind requests n file left one now outcome asked =
    let done = (try_of one now).progress in
    let none = (tries_have requests n one.tag one.held.client one.held.request now.manager.server).closes in
    let same = closes_silent requests n one.tag done.outs [] refl in
    let h = ends_have requests n one.tag one.held.client one.held.request (held_left file left done) outcome asked in record {
      counts = λ less most. let counts = h.counts less most in omega (arith, counts, same, none);
      last = h.last;
      up = h.up;
    }

pub ended_behind : (requests : ℕ → FileRequest) (n : ℕ) (one : Tagged) (now : Handling) (outcome : Outcome)
    → one.held.request ≡ bare_request (requests one.tag) → IsBehind requests n one.tag (try_of one now).progress.server
    (concluded one.held.client one.held.request (try_of one now).progress outcome)
ended_behind requests n one now outcome asked =
    let done = (try_of one now).progress in
    let none = (tries_have requests n one.tag one.held.client one.held.request now.manager.server).closes in
    let h = ends_have requests n one.tag one.held.client one.held.request done outcome asked in record {
      counts = λ less most. let counts = h.counts less most in omega (arith, counts, none);
      last = h.last;
      up = h.up;
    }

-- ---- passes

record PassExact (requests : ℕ → FileRequest) (n : ℕ) (start : Server) (file : ℕ) (count : ℕ) (waiting : List Tagged)
    (pass : Pass) : Type 0 where
  within : InPass file count waiting pass
  exact : Exact requests n start pass.now

tries_exactly : (requests : ℕ → FileRequest) (n : ℕ) (start : Server) (file count : ℕ) (one : Tagged) (waiting : List Tagged)
    (pass : Pass) → opens_of n start ≤ 1 → PassExact requests n start file count (one ∷ waiting) pass
    → Exact requests n start (rules.tried_again file one waiting pass).now
tries_exactly requests n start file count one waiting pass most p =
    let done = (try_of one pass.now).progress in
    let left = pass.passed ++ waiting in
    let among : (other : Tagged) → Among other (pass.passed ++ one ∷ waiting) → Among other (pass.now.manager.queues file) =
    λ other there. subst (Among other) (sym p.within.queue) there in
    let own = p.exact.asked file one (among one (among_behind one pass.passed (one ∷ waiting) (inl refl))) in
    any_pass_try file one waiting pass (λ after. Exact requests n start after.now) (record {
      behind = p.exact;
      waits = goes_exactly requests n one.tag start done.server done pass.now most (tried_between requests n one pass.now)
          (waits_behind_try requests n one pass.now) p.exact;
      answers = λ outcome is ended.
          let e = goes_exactly requests n one.tag start done.server
          (concluded one.held.client one.held.request (held_left file (held_in left) done) outcome) pass.now most
          (tried_between requests n one pass.now)
          (ends_behind requests n file (held_in left) one pass.now outcome own) p.exact in record {
            asked = asked_put (λ o. o.held.request ≡ bare_request (requests o.tag)) pass.now.manager.queues file left
                p.exact.asked (λ other there. p.exact.asked file other
                (among other (among_others other one pass.passed waiting there)));
            low = e.low;
            all = e.all;
            fresh = e.fresh;
          };
    })

pass_exactly : (requests : ℕ → FileRequest) (n : ℕ) (start : Server) (file : ℕ) (now : Handling) → opens_of n start ≤ 1
    → Exact requests n start now → Exact requests n start (one_pass file now).now
pass_exactly requests n start file now most e =
    let count = length (now.manager.queues file) in
    (any_pass file (PassExact requests n start file count)
    (λ one waiting pass p. record {
      within = in_pass file count one waiting pass p.within;
      exact = tries_exactly requests n start file count one waiting pass most p;
    })
    (now.manager.queues file) (record { passed = []; now = now; has_answered = false }) (record {
      within = record { queue = refl; left = omega arith; fewer = λ never. absurd (true≢false (sym never)) };
      exact = e;
    })).exact

pub passes_exactly : (requests : ℕ → FileRequest) (n : ℕ) (start : Server) (now : Handling) → opens_of n start ≤ 1
    → Exact requests n start now → Exact requests n start (rules.all_passes now)
passes_exactly requests n start now most = any_passes (Exact requests n start)
    (λ file now. pass_exactly requests n start file now most) now
