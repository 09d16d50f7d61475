-- How an index comes to be that of all events.
use Rattle.std.proofs.Common.{◌≡◌, ◌∙◌, ◌++◌, ◌∷◌, [], ◌||◌, ℕ, Bool, true, false, List, ap, append-nil, drop, refl, sym}
use Rattle.std.proofs.Common.{if◌then◌else◌}
use Rattle.std.proofs.lemmas.List.{append_assoc, map-append}
use Rattle.std.specs.List.{list_any}
use Rattle.capture_walk.specs.Index.{IsIndex, Leads, from_places, is_about, may_be_gone, may_be_taken, places_at, tails}
use Rattle.capture_walk.specs.declared.event.Event.{Event}
use Rattle.capture_walk.specs.declared.event.Lease.{Lease}
use Rattle.capture_walk.specs.declared.index.Index.{Index}

-- ---- one event more

more_places : (lease : Lease) (events : List Event) (places more : List ℕ) (place : ℕ) (one : Event) (later : List Event)
    (b : Bool) → drop place events ≡ one ∷ later → more ≡ (if b then places ++ place ∷ [] else places)
    → from_places events more ++ tails lease later
    ≡ from_places events places ++ (if b then (one ∷ later) ∷ tails lease later else tails lease later)
more_places lease events places more place one later true at is =
    ap (λ found. from_places events found ++ tails lease later) is
    ∙ ap (λ found. found ++ tails lease later) (map-append (λ n. drop n events) places (place ∷ []))
    ∙ append_assoc (from_places events places) (drop place events ∷ []) (tails lease later)
    ∙ ap (λ from. from_places events places ++ (from ∷ tails lease later)) at
more_places lease events places more place one later false at is =
    ap (λ found. from_places events found ++ tails lease later) is

pub places_more : (lease : Lease) (events : List Event) (places more : List ℕ) (place : ℕ) (one : Event) (later : List Event)
    → drop place events ≡ one ∷ later → more ≡ (if is_about lease one then places ++ place ∷ [] else places)
    → from_places events more ++ tails lease later ≡ from_places events places ++ tails lease (one ∷ later)
places_more lease events places more place one later at is =
    more_places lease events places more place one later (is_about lease one) at is

or_assoc : (a b c : Bool) → ((a || b) || c) ≡ (a || (b || c))
or_assoc true b c = refl
or_assoc false b c = refl

pub any_more : (p : Event → Bool) (before now : Bool) (one : Event) (later : List Event) → now ≡ (before || p one)
    → (now || list_any p later) ≡ (before || list_any p (one ∷ later))
any_more p before now one later is = ap (λ b. b || list_any p later) is ∙ or_assoc before (p one) (list_any p later)

-- ---- all events

or_false : (b : Bool) → (b || false) ≡ b
or_false true = refl
or_false false = refl

pub whole_index : (events : List Event) (index : Index) → Leads [] events index → IsIndex events index
whole_index events index leads = record {
  files = leads.files;
  leases = leads.leases;
  places = λ lease. sym (append-nil (from_places events (places_at index.places lease))) ∙ leads.places lease;
  lost = leads.lost;
  taken = λ sent. sym (or_false (may_be_taken index sent)) ∙ leads.taken sent;
  gone = λ number. sym (or_false (may_be_gone index number)) ∙ leads.gone number;
}
