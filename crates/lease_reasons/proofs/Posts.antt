-- The messages to a client, after one fact more.
use Rattle.lease_laws.proofs.Words.{◌++◌, ◌+◌, ◌<◌, ◌==◌, ◌∙◌, ◌∷◌, ◌≡◌, ◌≤◌, Bool, Fact, List, ℕ, [], ap, arith, false, get_or}
use Rattle.lease_laws.proofs.Words.{if◌then◌else◌, length, map, map-append, refl, sendings, take, takings, true}
use Rattle.lease_facts.specs.Facts.{fact_of}
use Rattle.lease_facts.specs.declared.fact.Fact as code
use Rattle.lease_reasons.specs.Messages.{Mail, mail_of, mail_after, place_behind}
use Rattle.lease_reasons.specs.Places.{past_of}
use Rattle.lease_reasons.proofs.Pasts.{past-next, taken-length}

abbrev mail : List (List Fact) → ℕ → Mail
mail sent taken = record { sent = map place_behind sent; taken = taken }

joins : (b : Bool) (sent : List (List Fact)) (taken : ℕ)
    → mail (if b then [] else sent) (if b then 0 else taken) ≡ (if b then record { sent = []; taken = 0 } else mail sent taken)
joins b sent taken = grind arith

sends : (b : Bool) (sent : List (List Fact)) (taken : ℕ) (past : List Fact) → mail (if b then sent ++ past ∷ [] else sent) taken
    ≡ (if b then record { sent = map place_behind sent ++ (length past + 1) ∷ []; taken = taken } else mail sent taken)
sends true sent taken past = ap (λ (s : List ℕ). record { sent = s; taken = taken }) (map-append place_behind sent (past ∷ []))
sends false sent taken past = refl

takes : (b : Bool) (sent : List (List Fact)) (taken : ℕ) → mail sent (if b then taken + 1 else taken)
    ≡ (if b then record { sent = map place_behind sent; taken = taken + 1 } else mail sent taken)
takes b sent taken = grind arith

mail-more : (client : ℕ) (fact : Fact) (past : List Fact)
    → mail_of client (fact ∷ past) ≡ mail_after client (length past + 1) fact (mail_of client past)
unfolding mail_of sendings takings
mail-more client (Fact.Joined other) past = joins (other == client) (sendings client past) (takings client past)
mail-more client (Fact.Sent other) past = sends (other == client) (sendings client past) (takings client past) past
mail-more client (Fact.Took other) past = takes (other == client) (sendings client past) (takings client past)
mail-more client _ past = refl

pub mail-none : (client : ℕ) → mail_of client [] ≡ record { sent = []; taken = 0 }
unfolding mail_of sendings takings
mail-none client = refl

pub mail-next : (client : ℕ) (xs : List code.Fact) (i : ℕ) (x : code.Fact) → i < length xs → x ≡ get_or xs i x
    → mail_of client (past_of (take (i + 1) xs)) ≡ mail_after client (i + 1) (fact_of x) (mail_of client (past_of (take i xs)))
mail-next client xs i x inside is =
    let e : length (past_of (take i xs)) ≡ i = taken-length xs i (omega arith) in
    ap (λ ys. mail_of client ys) (past-next xs i x inside is) ∙ (mail-more client (fact_of x) (past_of (take i xs))
    ∙ ap (λ (n : ℕ). mail_after client (n + 1) (fact_of x) (mail_of client (past_of (take i xs)))) e)

few : (client : ℕ) (past : List Fact) → takings client past ≤ length past
unfolding takings
few client [] = omega arith
few client (Fact.Joined other ∷ past) = let e : takings client past ≤ length past = few client past in grind arith
few client (Fact.Took other ∷ past) = let e : takings client past ≤ length past = few client past in grind arith
few client (_ ∷ past) = let e : takings client past ≤ length past = few client past in omega arith

pub few-taken : (client : ℕ) (xs : List code.Fact) (i : ℕ) → i ≤ length xs → (mail_of client (past_of (take i xs))).taken ≤ i
unfolding mail_of
few-taken client xs i inside =
    let e : length (past_of (take i xs)) ≡ i = taken-length xs i inside in
    let f : takings client (past_of (take i xs)) ≤ length (past_of (take i xs)) = few client (past_of (take i xs)) in
    omega arith
