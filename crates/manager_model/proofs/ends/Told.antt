-- What a host has been told of the opens of a server, step by step.
use Rattle.lease_laws.proofs.Words.{◌++◌, ◌==◌, ◌∙◌, ◌∷◌, ◌≡◌, ◌⊎◌, Among, Bool, Decides-eqb, FileRequest, List, Open, Out}
use Rattle.lease_laws.proofs.Words.{Outcome, Progress}
use Rattle.lease_laws.proofs.Words.{Reply, Server, ℕ, ⊎_elim, [], ap, concluded, connected_again, eqb-true, inl, inr, list_any}
use Rattle.lease_laws.proofs.Words.{map}
use Rattle.lease_laws.proofs.Words.{flat_map-append, not, refl, subst, sym, true}
use Rattle.lease_laws.proofs.server.Lists.{among_before, among_behind, among_filtered, any_has, either, has_any, if_cases}
use Rattle.lease_laws.proofs.server.cases.Ends.{any_end}
use Rattle.manager_model.specs.Decisions.{Decision, told_of, told_of_out}
use Rattle.manager_model.specs.Ending.{IsToldOf}
use Rattle.manager_model.specs.Handling.{Tagged, ended_between, is_open}

-- an open of this number
abbrev pub has_number : List Open → ℕ → Bool
has_number opens file_id = list_any (λ (other : Open). other.file_id == file_id) opens

-- Each open of the server that a call began with is there still, or was told of.
abbrev pub AreTold : (Tagged → Type 0) → Server → List Decision → Server → Type 0
AreTold Asked start told server = (one : Open) → Among one start.opens
    → (has_number server.opens one.file_id ≡ true) ⊎ IsToldOf Asked told one.file_id

pub told_more : (Asked : Tagged → Type 0) (told more : List Decision) (file_id : ℕ) → IsToldOf Asked told file_id
    → IsToldOf Asked (told ++ more) file_id
told_more Asked told more file_id = ⊎_elim (λ ended. inl (among_before (Decision.Ended file_id) told more ended))
    (λ closed. inr (
      closed.0,
      closed.1,
      closed.2,
      among_before (Decision.Closed closed.0.held.client closed.0.tag) told more closed.3,
    ))

pub begins_told : (Asked : Tagged → Type 0) (start : Server) → AreTold Asked start [] start
begins_told Asked start one there = inl (has_any (λ (other : Open). other.file_id == one.file_id) one start.opens there
    ((Decides-eqb one.file_id one.file_id).1 refl))

mapped : {X Y : Type 0} (f : X → Y) (x : X) (xs : List X) → Among x xs → Among (f x) (map f xs)
mapped f x [] a = a
mapped f x (y ∷ xs) a = ⊎_elim (λ same. inl (ap f same)) (λ later. inr (mapped f x xs later)) a

-- ---- the server comes to another one, and what ends is told

pub ends_told : (Asked : Tagged → Type 0) (start before after : Server) (told : List Decision)
    → AreTold Asked start told before → AreTold Asked start (told ++ ended_between before after) after
unfolding ended_between
ends_told Asked start before after told t one there = ⊎_elim
    (λ standing.
    let it = any_has (λ (other : Open). other.file_id == one.file_id) before.opens standing in
    let same = eqb-true it.0.file_id one.file_id it.2 in
    either (is_open after it.0)
    (λ still. inl (subst (λ n. has_number after.opens n ≡ true) same still))
    (λ gone. inr (inl (among_behind (Decision.Ended one.file_id) told (ended_between before after)
    (subst (λ n. Among (Decision.Ended n) (ended_between before after)) same
    (mapped (λ (o : Open). Decision.Ended o.file_id) it.0 _
    (among_filtered (λ (o : Open). not (is_open after o)) it.0 before.opens it.1 (ap not gone))))))))
    (λ is. inr (told_more Asked told (ended_between before after) one.file_id is)) (t one there)

-- ---- a request is answered

-- An open stays, or the request closes it and that is told.
abbrev pub StaysOrCloses : ℕ → ℕ → FileRequest → List Open → Progress → Type 0
StaysOrCloses tag client request opens after = (file_id : ℕ) → has_number opens file_id ≡ true
    → (has_number after.server.opens file_id ≡ true)
    ⊎ ((request ≡ FileRequest.Close file_id) × Among (Decision.Closed client tag) (told_of tag after.outs))

told_last : (tag : ℕ) (outs : List Out) (out : Out) (decision : Decision) → Among decision (told_of_out tag out)
    → Among decision (told_of tag (outs ++ out ∷ []))
told_last tag outs out decision there = subst (Among decision) (sym (flat_map-append (told_of_out tag) outs (out ∷ [])))
    (among_behind decision (told_of tag outs) (told_of tag (out ∷ [])) (among_before decision (told_of_out tag out) [] there))

concluded_told : (tag client : ℕ) (request : FileRequest) (progress : Progress) (outcome : Outcome)
    → StaysOrCloses tag client request progress.server.opens (concluded client request progress outcome)
concluded_told tag client request progress outcome = any_end client progress
    (λ request outcome after. StaysOrCloses tag client request progress.server.opens after) (record {
      refused = λ request status id standing. inl standing;
      left = λ request outcome why id standing. inl standing;
      full = λ file access share ask none out id standing. inl standing;
      granted = λ file access share ask none room id standing. let it = found id standing in
          inl (has_any (numbered id) it.0 _ (among_before it.0 progress.server.opens (_ ∷ []) it.1) it.2);
      again = λ file access share ask file_id some id standing. let it = found id standing in
          inl (has_any (numbered id) (connected_again file_id it.0) _
          (mapped (connected_again file_id) it.0 progress.server.opens it.1) (again_numbered file_id id it.0 it.2));
      read = λ file_id one own id standing. inl standing;
      changed = λ file_id number patch one own id standing. inl standing;
      closed = λ file_id one own id standing. let it = found id standing in either (it.0.file_id == file_id)
          (λ here. inr (
            ap FileRequest.Close (sym (eqb-true it.0.file_id file_id here) ∙ eqb-true it.0.file_id id it.2),
            told_last tag (progress.outs ++ []) (Out.Sent client (Reply.Closed file_id)) (Decision.Closed client tag) (inl refl),
          ))
          (λ apart. inl (has_any (numbered id) it.0 _
          (among_filtered (λ (o : Open). not (o.file_id == file_id)) it.0 progress.server.opens it.1 (ap not apart)) it.2));
    }) request outcome
  where
    numbered : ℕ → Open → Bool
    numbered id other = other.file_id == id

    found : (id : ℕ) → has_number progress.server.opens id ≡ true
        → (one : Open) × Among one progress.server.opens × ((one.file_id == id) ≡ true)
    found id standing = any_has (λ (other : Open). other.file_id == id) progress.server.opens standing

    again_numbered : (file_id id : ℕ) (one : Open) → (one.file_id == id) ≡ true
        → ((connected_again file_id one).file_id == id) ≡ true
    again_numbered file_id id one is = if_cases (λ (o : Open). (o.file_id == id) ≡ true) (one.file_id == file_id)
        (record one { connected = true }) one (λ here. is) (λ apart. is)

pub answers_told : (Asked : Tagged → Type 0) (start : Server) (one : Tagged) (request : FileRequest) (told : List Decision)
    (progress : Progress) (outcome : Outcome) → Asked one → one.held.request ≡ request
    → AreTold Asked start told progress.server
    → AreTold Asked start (told ++ told_of one.tag (concluded one.held.client request progress outcome).outs)
    (concluded one.held.client request progress outcome).server
answers_told Asked start one request told progress outcome asked is t standing there =
    let after = concluded one.held.client request progress outcome in ⊎_elim
    (λ still. ⊎_elim (λ stays. inl stays) (λ closes. inr (inr (
      one,
      asked,
      is ∙ closes.0,
      among_behind (Decision.Closed one.held.client one.tag) told (told_of one.tag after.outs) closes.1,
    ))) (concluded_told one.tag one.held.client request progress outcome standing.file_id still))
    (λ was. inr (told_more Asked told (told_of one.tag after.outs) standing.file_id was)) (t standing there)
