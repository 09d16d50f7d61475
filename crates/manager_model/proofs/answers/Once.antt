-- Each part of a call answers a request once, and it waits no longer then.
use Rattle.std.specs.List.{count_by}
use Rattle.std.proofs.lemmas.List.Sums.{sum_by-append}
use Rattle.lease_laws.proofs.Words.{◌+◌, ◌++◌, ◌==◌, ◌∙◌, ◌∷◌, ◌≡◌, ◌≤◌, Bool, FileRequest, LeaseOf, List, Open, Option}
use Rattle.lease_laws.proofs.Words.{Out, Outcome, Progress, Reply, Server, Status, ℕ, [], acknowledged, ap, arith, begun}
use Rattle.lease_laws.proofs.Words.{concluded}
use Rattle.lease_laws.proofs.Words.{eqb-true, false, filter, flat_map-append, if◌then◌else◌, map, nat_tests}
use Rattle.lease_laws.proofs.Words.{refl, refusal_of, subst, sym, tried, true, without}
use Rattle.lease_laws.proofs.Words.{Finding, Held, Want, by_open, finding, held_left, read_finding, tried_for, write_finding}
use Rattle.lease_laws.proofs.server.Lists.{either}
use Rattle.lease_laws.proofs.server.cases.Ends.{IsLeft, any_end}
use Rattle.lease_laws.proofs.server.cases.Findings.{finds_malformed, look_for_close, look_for_read, look_for_write}
use Rattle.lease_laws.proofs.server.cases.Judgements.{any_judgement}
use Rattle.lease_laws.proofs.server.cases.Tries.{HasTries, any_meeting, any_rounds, any_try}
use Rattle.lease_laws.proofs.Words.{◌&&◌, Extent, Key, others_broken, others_wants, outlives_connection}
use Rattle.manager_model.specs.Answering.{answers, is_answer, waiting_under}
use Rattle.manager_model.specs.Decisions.{Decision, told_of, told_of_out}
use Rattle.manager_model.specs.Handling.{Handling, ended_between, is_open, left_behind}

abbrev pub one_if : Bool → ℕ
one_if b = if b then 1 else 0

-- ---- how many

pub counts_both : {X : Type 0} (test : X → Bool) (first later : List X)
    → count_by test (first ++ later) ≡ count_by test first + count_by test later
counts_both test first later = sum_by-append (λ x. if test x then 1 else 0) first later

pub counts_next : {X : Type 0} (test : X → Bool) (x : X) (xs : List X)
    → count_by test (x ∷ xs) ≡ one_if (test x) + count_by test xs
counts_next test x xs =
    let both = counts_both test (x ∷ []) xs in
    let one : count_by test (x ∷ []) ≡ one_if (test x) = omega arith in omega (arith, both, one)

-- those that are left are no more
pub counts_fewer : {X : Type 0} (test left : X → Bool) (xs : List X) → count_by test (filter left xs) ≤ count_by test xs
counts_fewer test left [] = omega arith
counts_fewer test left (x ∷ xs) = go (left x) (counts_fewer test left xs)
  where
    go : (b : Bool) → count_by test (filter left xs) ≤ count_by test xs
        → count_by test (if b then x ∷ filter left xs else filter left xs) ≤ count_by test (x ∷ xs)
    go true less = let one = counts_next test x (filter left xs) in let all = counts_next test x xs
        in omega (arith, less, one, all)
    go false less = let all = counts_next test x xs in omega (arith, less, all)

-- ---- what is told

pub answers_more : (at tag : ℕ) (outs more : List Out)
    → answers at (told_of tag (outs ++ more)) ≡ answers at (told_of tag outs) + answers at (told_of tag more)
answers_more at tag outs more = ap (answers at) (flat_map-append (told_of_out tag) outs more)
    ∙ counts_both (is_answer at) (told_of tag outs) (told_of tag more)

ends_answer : (tag : ℕ) (opens : List Open) → answers tag (map (λ (one : Open). Decision.Ended one.file_id) opens) ≡ 0
ends_answer tag [] = refl
ends_answer tag (one ∷ opens) = ends_answer tag opens

pub ends_answer_none : (tag : ℕ) (before after : Server) → answers tag (ended_between before after) ≡ 0
unfolding ended_between
ends_answer_none tag before after = ends_answer tag (without (is_open after) before.opens)

left_answer : (tag : ℕ) (opens : List Open) → answers tag (map (λ (one : Open). Decision.LeftBehind one.file_id) opens) ≡ 0
left_answer tag [] = refl
left_answer tag (one ∷ opens) = left_answer tag opens

-- nor does it answer any that opens end, or wait for their client
pub parts_answer_none : (tag : ℕ) (test : Open → Bool) (before after : Server)
    → answers tag (ended_between before after ++ left_behind test before) ≡ 0
unfolding left_behind
parts_answer_none tag test before after =
    let both = counts_both (is_answer tag) (ended_between before after) (left_behind test before) in
    let ends = ends_answer_none tag before after in
    let left = left_answer tag (filter (λ one. test one && one.connected && outlives_connection before one) before.opens) in
    omega (arith, both, ends, left)

-- a try answers nothing
abbrev AnswersAlike : ℕ → ℕ → Progress → Progress → Type 0
AnswersAlike at tag before after = answers at (told_of tag after.outs) ≡ answers at (told_of tag before.outs)

silent : (at tag : ℕ) (outs more : List Out) → answers at (told_of tag more) ≡ 0
    → answers at (told_of tag (outs ++ more)) ≡ answers at (told_of tag outs)
silent at tag outs more none = let both = answers_more at tag outs more in omega (arith, both, none)

tries_are_silent : (at tag : ℕ) → HasTries (AnswersAlike at tag)
tries_are_silent at tag = record {
  same = λ p. refl;
  behind = λ before next after one more. more ∙ one;
  drop = λ key p. silent at tag p.outs [] refl;
  lower = λ key lowered p settled. silent at tag p.outs _ refl;
  begin = λ key lowered p settled. silent at tag p.outs _ refl;
}

pub tries_answer_none : (at tag client : ℕ) (request : FileRequest) (server : Server)
    → answers at (told_of tag (tried client request (begun server)).progress.outs) ≡ 0
tries_answer_none at tag client request server =
    any_try (AnswersAlike at tag) (tries_are_silent at tag) 3 client request (begun server)

pub others_answer_none : (at tag : ℕ) (server : Server) (own : Option Key) (file : ℕ) (extent : Extent)
    → answers at (told_of tag (others_broken server own file extent).outs) ≡ 0
others_answer_none at tag server own file extent = any_meeting (AnswersAlike at tag) (tries_are_silent at tag)
    (others_wants server own file extent) (begun server)

-- ---- a try that doesn't wait finds what it answers

found_both : (status : Status) (wants : List Want) → Finding.Fails status ≡ Finding.Needs wants → ⊥
found_both status wants both = absurd (cc)

-- what is ready has its contexts, or its open
ready_is_not_left : (server : Server) (client : ℕ) (request : FileRequest) (wants : List Want)
    → finding server client request ≡ Finding.Needs wants → IsLeft server client request Outcome.Ready → ⊥
ready_is_not_left server client (FileRequest.Create file access share contexts) wants is left = found_both
    Status.InvalidParameter wants (sym (finds_malformed server client file access share)
    ∙ ap (λ c. finding server client (FileRequest.Create file access share c)) (sym left) ∙ is)
ready_is_not_left server client (FileRequest.Read file_id) wants is left = found_both Status.FileClosed wants
    (sym (ap (λ o. by_open o read_finding) left) ∙ sym (look_for_read server client file_id) ∙ is)
ready_is_not_left server client (FileRequest.Write file_id number patch) wants is left = found_both Status.FileClosed wants
    (sym (ap (λ o. by_open o (λ one. write_finding server one patch)) left)
    ∙ sym (look_for_write server client file_id number patch) ∙ is)
ready_is_not_left server client (FileRequest.Close file_id) wants is left = found_both Status.FileClosed wants
    (sym (ap (λ o. by_open o (λ one. Finding.Needs [])) left) ∙ sym (look_for_close server client file_id) ∙ is)

pub ends_are_not_left : (rounds client : ℕ) (request : FileRequest) (progress : Progress)
    → ((tried_for rounds client request progress).outcome ≡ Outcome.Waits → ⊥)
    → IsLeft (tried_for rounds client request progress).progress.server client request
    (tried_for rounds client request progress).outcome → ⊥
ends_are_not_left rounds client request progress = any_rounds client request
    (λ rounds before done. (done.outcome ≡ Outcome.Waits → ⊥) → IsLeft done.progress.server client request done.outcome → ⊥)
    (record {
      out = λ before ends left. ends refl;
      fails = λ rounds before status is ends left. left;
      ready = λ rounds before wants is ready ends left. ready_is_not_left before.server client request wants is left;
      waits = λ rounds before wants needs wait ends left. ends refl;
      again = λ rounds before wants done needs goes rest. rest;
    }) rounds progress

-- what waits on a file makes no difference
pub left_alike : (client file : ℕ) (left : List Held) (progress : Progress) (request : FileRequest) (outcome : Outcome)
    → IsLeft (held_left file left progress).server client request outcome → IsLeft progress.server client request outcome
left_alike client file left progress request (Outcome.Refused status) is = is
left_alike client file left progress request Outcome.Waits is = is
left_alike client file left progress (FileRequest.Create at access share contexts) Outcome.Ready is = is
left_alike client file left progress (FileRequest.Read file_id) Outcome.Ready is = is
left_alike client file left progress (FileRequest.Write file_id number patch) Outcome.Ready is = is
left_alike client file left progress (FileRequest.Close file_id) Outcome.Ready is = is

-- the end of such a try answers once, under the tag
abbrev AnswersOne : ℕ → ℕ → Progress → Progress → Type 0
AnswersOne at tag before after =
    answers at (told_of tag after.outs) ≡ answers at (told_of tag before.outs) + one_if (tag == at)

by_one : (at tag : ℕ) (outs more : List Out) → answers at (told_of tag more) ≡ one_if (tag == at)
    → answers at (told_of tag (outs ++ more)) ≡ answers at (told_of tag outs) + one_if (tag == at)
by_one at tag outs more one = let both = answers_more at tag outs more in omega (arith, both, one)

pub refusal_answers : (at tag client : ℕ) (request : FileRequest) (status : Status)
    → answers at (told_of tag (Out.Sent client (refusal_of request status) ∷ [])) ≡ one_if (tag == at)
refusal_answers at tag client (FileRequest.Create file access share contexts) status = omega arith
refusal_answers at tag client (FileRequest.Read file_id) status = omega arith
refusal_answers at tag client (FileRequest.Write file_id number patch) status = omega arith
refusal_answers at tag client (FileRequest.Close file_id) status = omega arith

pub ends_answer_once : (at tag client : ℕ) (request : FileRequest) (progress : Progress) (outcome : Outcome)
    → (IsLeft progress.server client request outcome → ⊥)
    → answers at (told_of tag (concluded client request progress outcome).outs)
    ≡ answers at (told_of tag progress.outs) + one_if (tag == at)
ends_answer_once at tag client request progress outcome = any_end client progress
    (λ request outcome after. (IsLeft progress.server client request outcome → ⊥) → AnswersOne at tag progress after) (record {
      refused = λ request status ends. by_one at tag progress.outs _ (refusal_answers at tag client request status);
      left = λ request outcome why ends. absurd (ends why);
      full = λ file access share ask none out ends. by_one at tag progress.outs _ (omega arith);
      granted = λ file access share ask none room ends. by_one at tag progress.outs _ (omega arith);
      again = λ file access share ask file_id some ends. by_one at tag progress.outs _ (omega arith);
      read = λ file_id one own ends. by_one at tag progress.outs _ (omega arith);
      changed = λ file_id number patch one own ends. by_one at tag progress.outs _ (omega arith);
      closed = λ file_id one own ends.
          let none = silent at tag progress.outs [] refl in
          let last = by_one at tag (progress.outs ++ []) (Out.Sent client (Reply.Closed file_id) ∷ []) (omega arith) in
          omega (arith, none, last);
    }) request outcome

pub acknowledgments_answer_none : (at client : ℕ) (given : Option LeaseOf) (server : Server)
    → answers at (told_of 0 (acknowledged client given (begun server)).outs) ≡ 0
acknowledgments_answer_none at client given server = any_judgement client (begun server)
    (λ given after. answers at (told_of 0 after.outs) ≡ 0)
    (record { failed = λ given why. refl; ended = λ told lowered there breaks within. refl }) given

-- ---- a call goes on

-- So often the request under the tag was answered or waits on the file, and none waits under it on another.
pub record Counts (tag : ℕ) (file : ℕ) (total : ℕ) (now : Handling) : Type 0 where
  pub all : answers tag now.told + waiting_under tag (now.manager.queues file) ≡ total
  pub others : (other : ℕ) → (other == file) ≡ false → waiting_under tag (now.manager.queues other) ≡ 0

-- nothing more is answered, and as many wait
pub counts_still : (tag file total : ℕ) (now after : Handling) → answers tag after.told ≡ answers tag now.told
    → ((other : ℕ) → waiting_under tag (after.manager.queues other) ≡ waiting_under tag (now.manager.queues other))
    → Counts tag file total now → Counts tag file total after
counts_still tag file total now after told here c = record {
  all = let same = here file in let was = c.all in omega (arith, told, same, was);
  others = λ other apart. here other ∙ c.others other apart;
}

-- What is answered more waits less on this file, and all others are as they were.
pub counts_answered : (tag file total place more : ℕ) (now after : Handling)
    → answers tag after.told ≡ answers tag now.told + more
    → waiting_under tag (after.manager.queues place) + more ≡ waiting_under tag (now.manager.queues place)
    → ((other : ℕ) → (other == place) ≡ false → after.manager.queues other ≡ now.manager.queues other)
    → Counts tag file total now → Counts tag file total after
counts_answered tag file total place more now after told here others c = either (file == place)
    (λ home. record {
      all =
          let same : waiting_under tag (after.manager.queues file) + more ≡ waiting_under tag (now.manager.queues file) =
          subst (λ n. waiting_under tag (after.manager.queues n) + more ≡ waiting_under tag (now.manager.queues n))
          (sym (eqb-true file place home)) here in
          let was = c.all in omega (arith, told, same, was);
      others = λ other apart. ap (waiting_under tag) (others other (subst (λ n. (other == n) ≡ false)
          (eqb-true file place home) apart)) ∙ c.others other apart;
    })
    (λ away.
    let none = c.others place (apart_back file place away) in record {
      all = let same = ap (waiting_under tag) (others file away) in let was = c.all in omega (arith, told, same, was, here, none);
      others = λ other apart. either (other == place)
          (λ its. subst (λ n. waiting_under tag (after.manager.queues n) ≡ 0) (sym (eqb-true other place its))
          (omega (arith, here, none)))
          (λ off. ap (waiting_under tag) (others other off) ∙ c.others other apart);
    })
  where
    apart_back : (n m : ℕ) → (n == m) ≡ false → (m == n) ≡ false
    apart_back n m apart = grind (arith, nat_tests)
