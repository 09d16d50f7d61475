-- The pasts before messages were sent are parts of the past.
use Rattle.lease_laws.proofs.Words.{◌++◌, ◌==◌, ◌∷◌, ◌≡◌, Bool, Fact, List, Some, ℕ, [], ap, arith, false, if◌then◌else◌, last_of}
use Rattle.lease_laws.proofs.Words.{last_sending, refl, sendings, slice_get, suc, takings, true, zero}

abbrev pub PartOf : List Fact → List Fact → Type 0
PartOf past place = (newer : List Fact) × (past ≡ newer ++ place)

abbrev AllParts : List Fact → List (List Fact) → Type 0
AllParts past [] = Unit {0}
AllParts past (place ∷ places) = PartOf past place × AllParts past places

parts-more : (past : List Fact) (fact : Fact) (places : List (List Fact)) → AllParts past places → AllParts (fact ∷ past) places
parts-more past fact [] all = tt
parts-more past fact (place ∷ places) ((newer, is), all) =
    ((fact ∷ newer, ap (λ (facts : List Fact). fact ∷ facts) is), parts-more past fact places all)

parts-push : (past : List Fact) (places : List (List Fact)) (place : List Fact) → PartOf past place → AllParts past places
    → AllParts past (places ++ place ∷ [])
parts-push past [] place part all = (part, tt)
parts-push past (x ∷ places) place part all = (all.0, parts-push past places place part all.1)

parts-none : (b : Bool) (past : List Fact) (places : List (List Fact)) → AllParts past places
    → AllParts past (if b then [] else places)
parts-none b past places all = grind arith

parts-one : (b : Bool) (past : List Fact) (places : List (List Fact)) (place : List Fact) → PartOf past place
    → AllParts past places → AllParts past (if b then places ++ place ∷ [] else places)
parts-one true past places place part all = parts-push past places place part all
parts-one false past places place part all = all

sendings-parts : (client : ℕ) (past : List Fact) → AllParts past (sendings client past)
unfolding sendings
sendings-parts client [] = tt
sendings-parts client (Fact.Joined other ∷ past) = parts-none (other == client) (Fact.Joined other ∷ past) (sendings client past)
    (parts-more past (Fact.Joined other) (sendings client past) (sendings-parts client past))
sendings-parts client (Fact.Sent other ∷ past) =
    parts-one (other == client) (Fact.Sent other ∷ past) (sendings client past) past (Fact.Sent other ∷ [], refl)
    (parts-more past (Fact.Sent other) (sendings client past) (sendings-parts client past))
sendings-parts client (fact ∷ past) = parts-more past fact (sendings client past) (sendings-parts client past)

part_at : (past : List Fact) (places : List (List Fact)) (k : ℕ) (place : List Fact) → AllParts past places
    → slice_get places k ≡ Some place → PartOf past place
part_at past [] zero place all e = let c : ⊥ = cc in absurd c
part_at past [] (suc k) place all e = let c : ⊥ = cc in absurd c
part_at past (x ∷ places) zero place ((newer, is), all) e = grind arith
part_at past (x ∷ places) (suc k) place all e = part_at past places k place all.1 e

part_of_last : (past : List Fact) (places : List (List Fact)) (n : ℕ) (place : List Fact) → AllParts past places
    → last_of n places ≡ Some place → PartOf past place
part_of_last past places zero place all e = let c : ⊥ = cc in absurd c
part_of_last past places (suc n) place all e = part_at past places n place all e

pub last-part : (client : ℕ) (past place : List Fact) → last_sending client past ≡ Some place → PartOf past place
unfolding last_sending
last-part client past place e =
    part_of_last past (sendings client past) (takings client past) place (sendings-parts client past) e
