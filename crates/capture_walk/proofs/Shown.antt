-- What an index has not isn't shown, and what chains say by it.
use Rattle.std.proofs.Common.{◌≡◌, ◌∙◌, ◌∷◌, [], ◌||◌, ℕ, Bool, true, false, List, Option, None, ap, drop, filter, refl, suc, sym, zero}
use Rattle.std.proofs.Common.{if◌then◌else◌}
use Rattle.std.specs.List.{list_any}
use Rattle.capture_walk.specs.Chains.{changes, cut_off, is_gone, is_known, known_changes, leases_on, lost_since, taken}
use Rattle.capture_walk.specs.Index.{Covers, IsIndex, from_places, is_proof_of, leases_at, lost_at, may_be_gone, may_be_taken, places_at}
use Rattle.capture_walk.specs.Tables.{held, known_held}
use Rattle.capture_walk.specs.Tails.{changes_in, held_in, told_in}
use Rattle.capture_walk.specs.Told.{told_until}
use Rattle.capture_walk.specs.declared.event.Event.{Event}
use Rattle.capture_walk.specs.declared.event.Event.TheVariants as event
use Rattle.capture_walk.specs.declared.event.Lease.{Lease}
use Rattle.capture_walk.specs.declared.event.Sent.{Sent}
use Rattle.capture_walk.specs.declared.index.Index.{Index}
use Rattle.capture_walk.proofs.Tails.{changes_tails, held_tails, told_tails}

first_none : (a b : Bool) → (a || b) ≡ false → a ≡ false
first_none false b none = refl
first_none true b none = none

others_none : (a b : Bool) → (a || b) ≡ false → b ≡ false
others_none false b none = none
others_none true false none = refl
others_none true true none = none

none_dropped : (p : Event → Bool) (n : ℕ) (events : List Event) → list_any p events ≡ false → list_any p (drop n events) ≡ false
none_dropped p zero events none = none
none_dropped p (suc n) [] none = none
none_dropped p (suc n) (one ∷ events) none = none_dropped p n events (others_none (p one) (list_any p events) none)

kept_none : (p : Event → Bool) (b : Bool) (one : Event) (rest : List Event) → p one ≡ false → list_any p rest ≡ false
    → list_any p (if b then one ∷ rest else rest) ≡ false
kept_none p true one rest own none = ap (λ found. found || list_any p rest) own ∙ none
kept_none p false one rest own none = none

none_kept : (p k : Event → Bool) (events : List Event) → list_any p events ≡ false → list_any p (filter k events) ≡ false
none_kept p k [] none = refl
none_kept p k (one ∷ events) none = kept_none p (k one) one (filter k events) (first_none (p one) (list_any p events) none)
    (none_kept p k events (others_none (p one) (list_any p events) none))

covers_dropped : (n : ℕ) (events : List Event) (index : Index) → Covers events index → Covers (drop n events) index
covers_dropped n events index covers = record {
  taken = λ sent none. none_dropped (is_proof_of sent) n events (covers.taken sent none);
  gone = λ number none. none_dropped (is_gone number) n events (covers.gone number none);
}

pub covers_later : (n : ℕ) (events : List Event) (index : Index) → Covers events index → Covers (drop n events) index
covers_later = covers_dropped

covers_all : (events : List Event) (index : Index) → IsIndex events index → Covers events index
covers_all events index is = record {
  taken = λ sent none. sym (is.taken sent) ∙ none;
  gone = λ number none. sym (is.gone number) ∙ none;
}

pub covers_from : (n : ℕ) (events : List Event) (index : Index) → IsIndex events index → Covers (drop n events) index
covers_from n events index is = covers_dropped n events index (covers_all events index is)

-- ---- what isn't shown

not_taken : (sent : Sent) (events : List Event) → list_any (is_proof_of sent) events ≡ false → taken sent events ≡ None
not_taken sent [] none = refl
not_taken sent (event.Granted one ∷ events) none = not_taken sent events none
not_taken sent (event.Broken one ∷ events) none = not_taken sent events none
not_taken sent (event.Acknowledged one ∷ events) none = not_taken sent events none
not_taken sent (event.Asked one ∷ events) none = not_taken sent events none
not_taken sent (event.Answered one ∷ events) none = not_taken sent events none
not_taken sent (event.Gone one ∷ events) none = not_taken sent events none
not_taken sent (event.Closed one ∷ events) none = not_taken sent events none
not_taken sent (event.Ended one ∷ events) none = not_taken sent events none
not_taken sent (event.Taken proof ∷ events) none =
    rw (first_none (is_proof_of sent (event.Taken proof)) (list_any (is_proof_of sent) events) none)
    (not_taken sent events (others_none (is_proof_of sent (event.Taken proof)) (list_any (is_proof_of sent) events) none))
not_taken sent (event.Stray one ∷ events) none = not_taken sent events none
not_taken sent (event.Misnumbered one ∷ events) none = not_taken sent events none
not_taken sent (event.Lost one ∷ events) none = not_taken sent events none
not_taken sent (event.Remade one ∷ events) none = not_taken sent events none

pub never_taken : (sent : Sent) (since : Option ℕ) (later : List Event) (index : Index) → Covers later index
    → may_be_taken index sent ≡ false → taken sent (filter (is_known since) later) ≡ None
never_taken sent since later index covers none = not_taken sent (filter (is_known since) later)
    (none_kept (is_proof_of sent) (is_known since) later (covers.taken sent none))

pub never_gone : (number : ℕ) (since : Option ℕ) (later : List Event) (index : Index) → Covers later index
    → may_be_gone index number ≡ false → list_any (is_gone number) (filter (is_known since) later) ≡ false
never_gone number since later index covers none =
    none_kept (is_gone number) (is_known since) later (covers.gone number none)

-- ---- chains

pub known_by_index : (lease : Lease) (events : List Event) (index : Index) → IsIndex events index
    → cut_off (lost_at index.losses lease)
    (changes_in lease (lost_at index.losses lease) (from_places events (places_at index.places lease)))
    ≡ known_changes lease events (lost_since lease None events)
known_by_index lease events index is =
    ap (λ tails. cut_off (lost_at index.losses lease) (changes_in lease (lost_at index.losses lease) tails)) (is.places lease)
    ∙ ap (cut_off (lost_at index.losses lease)) (sym (changes_tails lease (lost_at index.losses lease) events))
    ∙ ap (λ since. cut_off since (changes lease (filter (is_known since) events))) (is.lost lease)

pub held_by_index : (lease : Lease) (events : List Event) (index : Index) → IsIndex events index
    → cut_off (lost_at index.losses lease)
    (held_in lease (lost_at index.losses lease) 0 (from_places events (places_at index.places lease)))
    ≡ known_held lease events (lost_since lease None events)
held_by_index lease events index is =
    ap (λ tails. cut_off (lost_at index.losses lease) (held_in lease (lost_at index.losses lease) 0 tails)) (is.places lease)
    ∙ ap (cut_off (lost_at index.losses lease)) (sym (held_tails lease 0 (lost_at index.losses lease) events))
    ∙ ap (λ since. cut_off since (held lease 0 (filter (is_known since) events))) (is.lost lease)

pub told_by_index : (lease : Lease) (until : ℕ) (events : List Event) (index : Index) → IsIndex events index
    → told_in lease until None (from_places events (places_at index.places lease)) ≡ told_until lease until None events
told_by_index lease until events index is =
    ap (told_in lease until None) (is.places lease) ∙ sym (told_tails lease until None events)

pub leases_by_index : (events : List Event) (index : Index) → IsIndex events index → (file : ℕ)
    → leases_at index.grants file ≡ leases_on file events
leases_by_index events index is file = is.leases file
