-- What a cached read should have given, after one fact more.
use Rattle.lease_laws.proofs.Words.{◌&&◌, ◌++◌, ◌+◌, ◌-◌, ◌==◌, ◌||◌, ◌∙◌, ◌∷◌, ◌≡◌, ◌≤◌, Bool, ClientNo, Fact, List, None}
use Rattle.lease_laws.proofs.Words.{Option, Patch, Some, ℕ, [], ap, arith, changes_of, drop, false, if◌then◌else◌, is_settled}
use Rattle.lease_laws.proofs.Words.{last_of, last_sending, length, length-append, length-drop, map, map-append, not, option_map}
use Rattle.lease_laws.proofs.Words.{patch, patches, refl, reverse, reverse-append, sendings, slice_get, start_of, suc, sym, take}
use Rattle.lease_laws.proofs.Words.{takings, true, unsettled, zero}
use Rattle.std.proofs.lemmas.List.{take-append-drop}
use Rattle.lease_facts.specs.Facts.{fact_of}
use Rattle.lease_facts.specs.declared.fact.Fact as code
use Rattle.lease_state.proofs.PatchLemmas.{patches-append}
use Rattle.lease_facts.proofs.Sendings.{last-part, PartOf}
use Rattle.lease_reasons.specs.Marks.{fits}
use Rattle.lease_reasons.specs.Messages.{mail_of, last_sent, place_behind}
use Rattle.lease_reasons.specs.Places.{past_of, last_place}
use Rattle.lease_reasons.specs.Reads.{AreSettled, settled_told, is_settled_by, is_waiting, with_start, with_change, with_write}
use Rattle.lease_reasons.specs.Reads.{unsettled_places}
use Rattle.lease_reasons.specs.declared.marks.Mark.TheVariants as mark
use Rattle.lease_reasons.proofs.Pasts.{past-length}

-- ---- settled writes

pub settled-none : (client : ℕ) → AreSettled client [] []
unfolding is_settled
settled-none client n = refl

pub settled-more : (client n : ℕ) (fact : Fact) (past : List Fact)
    → is_settled client n (fact ∷ past) ≡ (is_settled_by n (settled_told client fact) || is_settled client n past)
unfolding is_settled
settled-more client n fact past = grind arith

-- ---- bytes

pub start-none : (file : ℕ) → start_of file [] ≡ []
unfolding start_of
start-none file = refl

pub start-more : (file : ℕ) (fact : Fact) (past : List Fact) → start_of file (fact ∷ past) ≡ with_start file fact (start_of file
    past)
unfolding start_of
start-more file fact past = grind arith

pub changes-none : (file : ℕ) (bytes : List ℕ) → patches bytes (changes_of file []) ≡ bytes
unfolding changes_of
changes-none file bytes = refl

patches-if : (b : Bool) (bytes : List ℕ) (ps : List Patch) (p : Patch)
    → patches bytes (if b then ps ++ p ∷ [] else ps) ≡ (if b then patch (patches bytes ps) p else patches bytes ps)
patches-if true bytes ps p = patches-append bytes ps (p ∷ [])
patches-if false bytes ps p = refl

pub changes-more : (file : ℕ) (bytes : List ℕ) (fact : Fact) (past : List Fact)
    → patches bytes (changes_of file (fact ∷ past)) ≡ with_change file fact (patches bytes (changes_of file past))
unfolding changes_of
changes-more file bytes (Fact.Changed other client number change) past = patches-if (other == file) bytes (changes_of file past)
    change
changes-more file bytes _ past = refl

pub writes-none : (client file : ℕ) (whole : List Fact) (bytes : List ℕ) → patches bytes (unsettled client file whole []) ≡ bytes
unfolding unsettled
writes-none client file whole bytes = refl

pub writes-more : (client file : ℕ) (whole : List Fact) (numbers : List ℕ) (bytes : List ℕ) (fact : Fact) (past : List Fact)
    → AreSettled client whole numbers → patches bytes (unsettled client file whole (fact ∷ past))
    ≡ with_write (is_waiting client file numbers fact) fact (patches bytes (unsettled client file whole past))
unfolding unsettled
writes-more client file whole numbers bytes (Fact.Wrote writer other number write buffered) past all =
    rw (all number) (patches-if (writer == client && other == file && not (is_settled client number whole)) bytes (unsettled
    client file whole past) write)
writes-more client file whole numbers bytes _ past all = refl

pub places-none : (client file : ℕ) (whole : List Fact) → unsettled_places client file whole [] ≡ []
unfolding unsettled_places
places-none client file whole = refl

pub places-more : (client file : ℕ) (whole : List Fact) (numbers : List ℕ) (fact : Fact) (past : List Fact)
    → AreSettled client whole numbers → unsettled_places client file whole (fact ∷ past)
    ≡ (if is_waiting client file numbers fact then unsettled_places client file whole past ++ (length past + 1) ∷ []
    else unsettled_places client file whole past)
unfolding unsettled_places
places-more client file whole numbers fact past all = grind arith

-- ---- the message that was taken last

get-map : {X Y : Type 0} (f : X → Y) (xs : List X) (k : ℕ) → slice_get (map f xs) k ≡ option_map f (slice_get xs k)
get-map f [] zero = refl
get-map f [] (suc k) = refl
get-map f (x ∷ xs) zero = refl
get-map f (x ∷ xs) (suc k) = get-map f xs k

last-map : (n : ℕ) (places : List (List Fact)) → last_sent n (map place_behind places) ≡ option_map place_behind (last_of n
    places)
last-map zero places = refl
last-map (suc k) places = get-map place_behind places k

pub last-mail : (client : ℕ) (past : List Fact)
    → last_sent (mail_of client past).taken (mail_of client past).sent ≡ option_map place_behind (last_sending client past)
unfolding mail_of last_sending
last-mail client past = last-map (takings client past) (sendings client past)

-- where a client took no message, no message of its was sent that it took last
none-taken : (client : ClientNo) (past : List Fact) → last_place (fits (mark.Taking client)) past ≡ None → takings client.0 past ≡
    0
unfolding last_place fits takings
none-taken client [] e = refl
none-taken client (Fact.Took other ∷ past) e = go (other == client.0) e (λ n. none-taken client past n)
  where
    go : (b : Bool) → (if b then Some (length past + 1) else last_place (fits (mark.Taking client)) past) ≡ None
        → (last_place (fits (mark.Taking client)) past ≡ None → takings client.0 past ≡ 0)
        → (if b then takings client.0 past + 1 else takings client.0 past) ≡ 0
    go b e before = grind arith
none-taken client (Fact.Joined other ∷ past) e = go (other == client.0) (none-taken client past e)
  where
    go : (b : Bool) → takings client.0 past ≡ 0 → (if b then 0 else takings client.0 past) ≡ 0
    go b z = grind arith
none-taken client (_ ∷ past) e = none-taken client past e

pub unsent-if_none_taken : (client : ClientNo) (past : List Fact) → last_place (fits (mark.Taking client)) past ≡ None
    → last_sending client.0 past ≡ None
unfolding last_sending
unsent-if_none_taken client past e = ap (λ (n : ℕ). last_of n (sendings client.0 past)) (none-taken client past e)

-- ---- a past before a past

drop-front : {X : Type 0} (xs ys : List X) → drop (length xs) (xs ++ ys) ≡ ys
drop-front [] ys = refl
drop-front (x ∷ xs) ys = drop-front xs ys

past-split : (xs : List code.Fact) (k : ℕ) → past_of xs ≡ past_of (drop k xs) ++ past_of (take k xs)
past-split xs k = ap (λ (ys : List code.Fact). past_of ys) (sym (take-append-drop k xs))
    ∙ (ap (λ (ys : List Fact). reverse ys) (map-append fact_of (take k xs) (drop k xs))
    ∙ reverse-append (map fact_of (take k xs)) (map fact_of (drop k xs)))

past-part : (xs : List code.Fact) (newer place : List Fact) → past_of xs ≡ newer ++ place
    → (length place ≤ length xs) × (past_of (take (length place) xs) ≡ place)
past-part xs newer place e =
    let total : length xs ≡ length newer + length place =
    sym (past-length xs) ∙ (ap (λ (ys : List Fact). length ys) e ∙ length-append newer place) in
    let le : length place ≤ length xs = omega arith in
    let front : length (past_of (drop (length place) xs)) ≡ length newer =
    past-length (drop (length place) xs) ∙ (length-drop (length place) xs ∙ omega arith) in (
      le,
      sym (drop-front (past_of (drop (length place) xs)) (past_of (take (length place) xs)))
          ∙ (ap (λ (n : ℕ). drop n (past_of (drop (length place) xs) ++ past_of (take (length place) xs))) front
          ∙ (ap (λ (ys : List Fact). drop (length newer) ys) (sym (past-split xs (length place)) ∙ e) ∙ drop-front newer place)),
    )

-- where a message was sent: behind some past of the record
pub record SentAt (client : ClientNo) (xs : List code.Fact) (sent : ℕ) : Type 0 where
  pub place : List Fact
  pub sending : last_sending client.0 (past_of xs) ≡ Some place
  pub sent_is : sent ≡ length place + 1
  pub inside : length place ≤ length xs
  pub before : past_of (take (sent - 1) xs) ≡ place

pub sent-at : (client : ClientNo) (xs : List code.Fact) (sent : ℕ)
    → last_sent (mail_of client.0 (past_of xs)).taken (mail_of client.0 (past_of xs)).sent ≡ Some sent → SentAt client xs sent
sent-at client xs sent e = go (last_sending client.0 (past_of xs)) refl (sym (last-mail client.0 (past_of xs)) ∙ e)
  where
    go : (o : Option (List Fact)) → last_sending client.0 (past_of xs) ≡ o → option_map place_behind o ≡ Some sent → SentAt client
        xs sent
    go None same f = let no : ⊥ = cc in absurd no
    go (Some place) same f =
        let at : sent ≡ length place + 1 = cc in
        let part : PartOf (past_of xs) place = last-part client.0 (past_of xs) place same in
        let facts : (length place ≤ length xs) × (past_of (take (length place) xs) ≡ place) = past-part xs part.0 place part.1 in
        let less : sent - 1 ≡ length place = omega arith in
        record {
          place = place;
          sending = same;
          sent_is = at;
          inside = facts.0;
          before = ap (λ (n : ℕ). past_of (take n xs)) less ∙ facts.1;
        }

pub unsent-at : (client : ClientNo) (xs : List code.Fact)
    → last_sent (mail_of client.0 (past_of xs)).taken (mail_of client.0 (past_of xs)).sent ≡ None
    → last_sending client.0 (past_of xs) ≡ None
unsent-at client xs e = go (last_sending client.0 (past_of xs)) (sym (last-mail client.0 (past_of xs)) ∙ e)
  where
    go : (o : Option (List Fact)) → option_map place_behind o ≡ None → o ≡ None
    go o f = grind arith
