-- Decisions that are carried out, one after another.
use Rattle.lease_manager.specs.Outs.{decision_of, decisions}
use Rattle.lease_manager.specs.declared.values.decision.Decision as code
use Rattle.std.proofs.lemmas.List.{map_more, take-append-drop}
use Rattle.lease_laws.proofs.Words.{◌<◌, drop, get_or, map-append, take}
use Rattle.lease_laws.proofs.Words.{◌+◌, ◌++◌, ◌==◌, ◌∙◌, ◌∷◌, ◌≡◌, ◌≤◌, Bool, FileRequest, List, Open, Out, ℕ, [], ap, arith, false}
use Rattle.lease_laws.proofs.Words.{Decides-eqb, if◌then◌else◌, length, list_any, put, refl, subst, sym, true}
use Rattle.lease_laws.proofs.server.Lists.{clash, either, has_any}
use Rattle.std.proofs.lemmas.List.Sums.{sum_by-append}
use Rattle.manager_model.proofs.hosts.Faithful.{does_none, does_one, does_then}
use Rattle.manager_model.proofs.passes.Tables.{put_apart}
use Rattle.manager_model.specs.Answering.{answers, is_answer}
use Rattle.manager_model.specs.Decisions.{Decision}
use Rattle.manager_model.specs.Hosting.{Hosted, closed_as, does, does_all, gone_on_with, notes, opened_as}
use Rattle.lease_model.specs.server.Progress.{refusal_of}
use Rattle.share_server.specs.Table.{HasDone, HasLetGo, Kept, handles_in, hosted_of, requests_in}

abbrev pub one_if : Bool → ℕ
one_if b = if b then 1 else 0

answers_both : (tag : ℕ) (first later : List Decision)
    → answers tag (first ++ later) ≡ answers tag first + answers tag later
answers_both tag first later = sum_by-append (λ decision. if is_answer tag decision then 1 else 0) first later

pub none_done : (kept : Kept) (outs : List Out) → HasDone [] kept kept outs outs
none_done kept outs = record {
  done = sym (does_none (requests_in kept.requests) (hosted_of kept outs));
  left = λ tag none. refl;
  next = refl;
}

-- what is done asks only what was asked under the tag of its answer
does_alike : (one other : ℕ → FileRequest) (decision : Decision) (done : Hosted)
    → ((tag : ℕ) → is_answer tag decision ≡ true → one tag ≡ other tag) → does one decision done ≡ does other decision done
does_alike one other (Decision.Opened client tag file_id answer) done same =
    ap (λ request. opened_as client file_id answer request done) (same tag ((Decides-eqb tag tag).1 refl))
does_alike one other (Decision.GoesOn client tag) done same =
    ap (λ request. gone_on_with client request done) (same tag ((Decides-eqb tag tag).1 refl))
does_alike one other (Decision.Closed client tag) done same =
    ap (λ request. closed_as client request done) (same tag ((Decides-eqb tag tag).1 refl))
does_alike one other (Decision.Refused client tag status) done same =
    ap (λ request. notes (Out.Sent client (refusal_of request status) ∷ []) done) (same tag ((Decides-eqb tag tag).1 refl))
does_alike one other (Decision.Waits client tag) done same = refl
does_alike one other (Decision.Withdrawn client tag) done same = refl
does_alike one other (Decision.Breaks client notice) done same = refl
does_alike one other (Decision.Acknowledged client given) done same = refl
does_alike one other (Decision.NotAcknowledged client status) done same = refl
does_alike one other (Decision.Ended file_id) done same = refl
does_alike one other (Decision.LeftBehind file_id) done same = refl

-- one decision more
pub one_done_more : (told : List Decision) (decision : Decision) (first old new : Kept) (start before after : List Out)
    → ((tag : ℕ) → answers tag (told ++ decision ∷ []) ≤ 1) → HasDone told first old start before
    → HasDone (decision ∷ []) old new before after → HasDone (told ++ decision ∷ []) first new start after
one_done_more told decision first old new start before after once earlier last = record {
  done = last.done ∙ does_one (requests_in old.requests) decision (hosted_of old before)
      ∙ does_alike (requests_in old.requests) (requests_in first.requests) decision (hosted_of old before)
      (λ tag is. earlier.left tag (
      let most = once tag in
      let both = answers_both tag told (decision ∷ []) in
      let own : answers tag (decision ∷ []) ≡ 1 = rw is refl in omega (arith, most, both, own)))
      ∙ ap (does (requests_in first.requests) decision) earlier.done
      ∙ sym (does_then (requests_in first.requests) told (decision ∷ []) (hosted_of first start)
      ∙ does_one (requests_in first.requests) decision (does_all (requests_in first.requests) told (hosted_of first start)));
  left = λ tag none.
      let both = answers_both tag told (decision ∷ []) in
      last.left tag (omega (arith, none, both)) ∙ earlier.left tag (omega (arith, none, both));
  next = last.next ∙ earlier.next;
}

-- the next of a list of decisions, in the code's words
pub next_done : (told : List code.Decision) (i : ℕ) (decision : code.Decision) (first old new : Kept)
    (start before after : List Out)
    → i < length told → decision ≡ get_or told i decision → ((tag : ℕ) → answers tag (decisions told) ≤ 1)
    → HasDone (decisions (take i told)) first old start before → HasDone (decision_of decision ∷ []) old new before after
    → HasDone (decisions (take (i + 1) told)) first new start after
next_done told i decision first old new start before after inside is once earlier last =
    let more : decisions (take (i + 1) told) ≡ decisions (take i told) ++ decision_of decision ∷ [] =
    map_more decision_of told i decision inside ∙ ap (λ d. decisions (take i told) ++ decision_of d ∷ []) (sym is) in
    subst (λ said. HasDone said first new start after) (sym more)
    (one_done_more (decisions (take i told)) (decision_of decision) first old new start before after
    (λ tag. subst (λ said. answers tag said ≤ 1) more (fewer tag)) earlier last)
  where
    fewer : (tag : ℕ) → answers tag (decisions (take (i + 1) told)) ≤ 1
    fewer tag =
        let all = ap (λ l. answers tag (decisions l)) (sym (take-append-drop (i + 1) told))
        ∙ ap (answers tag) (map-append decision_of (take (i + 1) told) (drop (i + 1) told)) in
        let both = answers_both tag (decisions (take (i + 1) told)) (decisions (drop (i + 1) told)) in
        let most = once tag in omega (arith, all, both, most)

-- one decision, that answers what was asked under the tag, or nothing
pub answered : (decision : Decision) (tag : ℕ) (no_request : FileRequest) (old new : Kept) (before after : List Out)
    → ((at : ℕ) → answers at (decision ∷ []) ≡ 0 → (at == tag) ≡ false)
    → requests_in new.requests ≡ put (requests_in old.requests) tag no_request
    → hosted_of new after ≡ does (requests_in old.requests) decision (hosted_of old before)
    → new.next ≡ old.next → HasDone (decision ∷ []) old new before after
answered decision tag no_request old new before after others taken done next = record {
  done = done ∙ sym (does_one (requests_in old.requests) decision (hosted_of old before));
  left = λ at none. ap (λ (r : ℕ → FileRequest). r at) taken
      ∙ put_apart (requests_in old.requests) tag at no_request (others at none);
  next = next;
}

pub other_tag : (tag at : ℕ) → one_if (tag == at) ≡ 0 → (at == tag) ≡ false
other_tag tag at none = either (at == tag)
    (λ its. let same : (tag == at) ≡ true = (Decides-eqb tag at).1 (sym ((Decides-eqb at tag).0 its)) in
    let one : one_if (tag == at) ≡ 1 = rw same refl in absurd (omega (arith, one, none)))
    (λ off. off)

pub noted : (decision : Decision) (kept : Kept) (before after : List Out)
    → hosted_of kept after ≡ does (requests_in kept.requests) decision (hosted_of kept before)
    → HasDone (decision ∷ []) kept kept before after
noted decision kept before after done = record {
  done = done ∙ sym (does_one (requests_in kept.requests) decision (hosted_of kept before));
  left = λ tag none. refl;
  next = refl;
}

-- ---- handles

pub let_go_more : (opens : List Open) (first old new : Kept) → HasLetGo opens first old → HasLetGo opens old new
    → HasLetGo opens first new
let_go_more opens first old new earlier last = record {
  handles = λ one there. last.handles one there ∙ earlier.handles one there;
  contents = last.contents ∙ earlier.contents;
  requests = last.requests ∙ earlier.requests;
  next = last.next ∙ earlier.next;
}

pub let_go_one : (opens : List Open) (old new : Kept) (file_id : ℕ)
    → list_any (λ (one : Open). one.file_id == file_id) opens ≡ false
    → handles_in new.handles ≡ put (handles_in old.handles) file_id 0 → new.contents ≡ old.contents
    → new.requests ≡ old.requests → new.next ≡ old.next → HasLetGo opens old new
let_go_one opens old new file_id none gone contents requests next = record {
  handles = λ one there. ap (λ (h : ℕ → ℕ). h one.file_id) gone
      ∙ put_apart (handles_in old.handles) file_id one.file_id 0 (either (one.file_id == file_id)
      (λ its. absurd (let is = has_any (λ (o : Open). o.file_id == file_id) one opens there its in
      clash (list_any (λ (o : Open). o.file_id == file_id) opens) is none))
      (λ off. off));
  contents = contents;
  requests = requests;
  next = next;
}
