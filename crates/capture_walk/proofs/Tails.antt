-- What chains say of a lease they say by the events that are about it alone.
use Rattle.std.proofs.Common.{◌≡◌, ◌∙◌, ◌++◌, ◌∷◌, [], ℕ, Bool, true, false, ◌&&◌, List, Option, None, ap, filter, if◌then◌else◌, refl}
use Rattle.capture_walk.specs.Chains.{acknowledgment, changes, changes_by, changes_by_break, is_known, is_same, last_shown}
use Rattle.capture_walk.specs.Index.{is_about, tails}
use Rattle.capture_walk.specs.Tables.{broken_at, held, held_by, held_by_break}
use Rattle.capture_walk.specs.Tails.{acknowledged_by, acknowledgment_in, changes_with, changes_at, changes_in, held_with, held_at}
use Rattle.capture_walk.specs.Tails.{broken_by, held_in, told_after, told_in}
use Rattle.capture_walk.specs.Told.{told_until}
use Rattle.capture_walk.specs.declared.event.Acknowledged.{Acknowledged}
use Rattle.capture_walk.specs.declared.event.Event.{Event}
use Rattle.capture_walk.specs.declared.event.Event.TheVariants as event
use Rattle.capture_walk.specs.declared.event.Lease.{Lease}
use Rattle.capture_walk.specs.declared.told.LeaseTold.{LeaseTold}
use Rattle.capture_walk.proofs.Leases.{same_lease}

-- whichever way a test goes
either_way : {A B : Type 0} (f : List A → B) (b : Bool) (one : A) (rest : List A) (found : B) → f (one ∷ rest) ≡ found
    → f rest ≡ found
    → f (if b then one ∷ rest else rest) ≡ found
either_way f true one rest found kept dropped = kept
either_way f false one rest found kept dropped = dropped

if_known : {A B : Type 0} (f : List A → B) (b : Bool) (one : A) (rest : List A)
    → f (if b then one ∷ rest else rest) ≡ (if b then f (one ∷ rest) else f rest)
if_known f true one rest = refl
if_known f false one rest = refl

both_tests : {B : Type 0} (a b : Bool) (x y : B) → (if a then (if b then x else y) else y) ≡ (if a && b then x else y)
both_tests true b x y = refl
both_tests false b x y = refl

and_false : {B : Type 0} (a : Bool) (x y : B) → (if a && false then x else y) ≡ y
and_false true x y = refl
and_false false x y = refl

no_second : {B : Type 0} (a b : Bool) (x y : B) → b ≡ false → (if a && b then x else y) ≡ y
no_second a b x y is = rw is (and_false a x y)

if_true : {B : Type 0} (b : Bool) (x y z : B) → (b ≡ true → x ≡ y) → (if b then x else z) ≡ (if b then y else z)
if_true true x y z same = same refl
if_true false x y z same = refl

if_false : {B : Type 0} (b : Bool) (x y : B) → b ≡ false → (if b then x else y) ≡ y
if_false b x y is = rw is refl

-- ---- acknowledgments

other_step : (lease : Lease) (since : Option ℕ) (one : Event) (later : List Event)
    → acknowledgment lease (one ∷ filter (is_known since) later) ≡ acknowledgment lease (filter (is_known since) later)
    → acknowledgment lease (filter (is_known since) (one ∷ later)) ≡ acknowledgment lease (filter (is_known since) later)
other_step lease since one later same =
    either_way (acknowledgment lease) (is_known since one) one (filter (is_known since) later) _ same refl

acknowledged_step : (lease : Lease) (since : Option ℕ) (one : Event) (later : List Event)
    → acknowledgment lease (filter (is_known since) (one ∷ later))
    ≡ acknowledged_by lease since one later (acknowledgment lease (filter (is_known since) later))
acknowledged_step lease since (event.Granted one) later = other_step lease since (event.Granted one) later refl
acknowledged_step lease since (event.Broken one) later =
    if_known (acknowledgment lease) (is_known since (event.Broken one)) (event.Broken one) (filter (is_known since) later)
    ∙ both_tests (is_known since (event.Broken one)) _ _ _
acknowledged_step lease since (event.Acknowledged one) later =
    if_known (acknowledgment lease) (is_known since (event.Acknowledged one)) (event.Acknowledged one)
    (filter (is_known since) later)
    ∙ both_tests (is_known since (event.Acknowledged one)) _ _ _
acknowledged_step lease since (event.Asked one) later = other_step lease since (event.Asked one) later refl
acknowledged_step lease since (event.Answered one) later = other_step lease since (event.Answered one) later refl
acknowledged_step lease since (event.Gone one) later = other_step lease since (event.Gone one) later refl
acknowledged_step lease since (event.Closed one) later = other_step lease since (event.Closed one) later refl
acknowledged_step lease since (event.Ended one) later = other_step lease since (event.Ended one) later refl
acknowledged_step lease since (event.Taken one) later = other_step lease since (event.Taken one) later refl
acknowledged_step lease since (event.Stray one) later = other_step lease since (event.Stray one) later refl
acknowledged_step lease since (event.Misnumbered one) later = other_step lease since (event.Misnumbered one) later refl
acknowledged_step lease since (event.Lost one) later = other_step lease since (event.Lost one) later refl
acknowledged_step lease since (event.Remade one) later = other_step lease since (event.Remade one) later refl

acknowledged_skip : (lease : Lease) (since : Option ℕ) (one : Event) (later : List Event) (behind : Option Acknowledged)
    → is_about lease one ≡ false → acknowledged_by lease since one later behind ≡ behind
acknowledged_skip lease since (event.Granted one) later behind not-about = refl
acknowledged_skip lease since (event.Broken one) later behind not-about =
    no_second (is_known since (event.Broken one)) (is_same one.lease lease) None behind not-about
acknowledged_skip lease since (event.Acknowledged one) later behind not-about =
    rw not-about (no_second (is_known since (event.Acknowledged one)) false _ behind refl)
acknowledged_skip lease since (event.Asked one) later behind not-about = refl
acknowledged_skip lease since (event.Answered one) later behind not-about = refl
acknowledged_skip lease since (event.Gone one) later behind not-about = refl
acknowledged_skip lease since (event.Closed one) later behind not-about = refl
acknowledged_skip lease since (event.Ended one) later behind not-about = refl
acknowledged_skip lease since (event.Taken one) later behind not-about = refl
acknowledged_skip lease since (event.Stray one) later behind not-about = refl
acknowledged_skip lease since (event.Misnumbered one) later behind not-about = refl
acknowledged_skip lease since (event.Lost one) later behind not-about = refl
acknowledged_skip lease since (event.Remade one) later behind not-about = refl

acknowledged_about : (lease : Lease) (since : Option ℕ) (one : Event) (later : List Event) (b : Bool) → is_about lease one ≡ b
    → acknowledged_by lease since one later (acknowledgment_in lease since (tails lease later))
    ≡ acknowledgment_in lease since (if b then (one ∷ later) ∷ tails lease later else tails lease later)
acknowledged_about lease since one later true is = refl
acknowledged_about lease since one later false is =
    acknowledged_skip lease since one later (acknowledgment_in lease since (tails lease later)) is

pub acknowledgment_tails : (lease : Lease) (since : Option ℕ) (events : List Event)
    → acknowledgment lease (filter (is_known since) events) ≡ acknowledgment_in lease since (tails lease events)
acknowledgment_tails lease since [] = refl
acknowledgment_tails lease since (one ∷ later) =
    acknowledged_step lease since one later
    ∙ ap (acknowledged_by lease since one later) (acknowledgment_tails lease since later)
    ∙ acknowledged_about lease since one later (is_about lease one) refl

-- ---- what clients believe

changes_skip : (lease : Lease) (one : Event) (later : List Event) (given : Option Acknowledged) → is_about lease one ≡ false
    → changes_with lease one later given ≡ []
changes_skip lease (event.Granted one) later given not-about = if_false (is_same one.lease lease) _ [] not-about
changes_skip lease (event.Broken one) later given not-about = if_false (is_same one.lease lease) _ [] not-about
changes_skip lease (event.Acknowledged one) later given not-about = refl
changes_skip lease (event.Asked one) later given not-about = refl
changes_skip lease (event.Answered one) later given not-about = refl
changes_skip lease (event.Gone one) later given not-about = refl
changes_skip lease (event.Closed one) later given not-about = refl
changes_skip lease (event.Ended one) later given not-about = if_false (is_same one.lease lease) _ [] not-about
changes_skip lease (event.Taken one) later given not-about = refl
changes_skip lease (event.Stray one) later given not-about = refl
changes_skip lease (event.Misnumbered one) later given not-about = refl
changes_skip lease (event.Lost one) later given not-about = refl
changes_skip lease (event.Remade one) later given not-about = refl

changes_same : (lease : Lease) (one : Event) (later : List Event)
    → changes_by lease one later ≡ changes_with lease one later (acknowledgment lease later)
changes_same lease (event.Granted one) later = refl
changes_same lease (event.Broken one) later = if_true (is_same one.lease lease) _ _ []
    (λ is. ap (λ same. changes_by_break one (acknowledgment same later) later) (same_lease one.lease lease is))
changes_same lease (event.Acknowledged one) later = refl
changes_same lease (event.Asked one) later = refl
changes_same lease (event.Answered one) later = refl
changes_same lease (event.Gone one) later = refl
changes_same lease (event.Closed one) later = refl
changes_same lease (event.Ended one) later = refl
changes_same lease (event.Taken one) later = refl
changes_same lease (event.Stray one) later = refl
changes_same lease (event.Misnumbered one) later = refl
changes_same lease (event.Lost one) later = refl
changes_same lease (event.Remade one) later = refl

changes_step : (lease : Lease) (b : Bool) (one : Event) (rest : List Event) (given : Option Acknowledged)
    → acknowledgment lease rest ≡ given → changes lease (if b then one ∷ rest else rest)
    ≡ (if b then changes_with lease one rest given else []) ++ changes lease rest
changes_step lease true one rest given is =
    ap (λ made. made ++ changes lease rest) (changes_same lease one rest ∙ ap (changes_with lease one rest) is)
changes_step lease false one rest given is = refl

changes_none : (lease : Lease) (since : Option ℕ) (one : Event) (later : List Event) (given : Option Acknowledged) (b : Bool)
    → is_about lease one ≡ false → (if b then changes_with lease one (filter (is_known since) later) given else []) ≡ []
changes_none lease since one later given true is = changes_skip lease one (filter (is_known since) later) given is
changes_none lease since one later given false is = refl

changes_about : (lease : Lease) (since : Option ℕ) (one : Event) (later : List Event) (b : Bool) → is_about lease one ≡ b
    → changes_at lease since one later (acknowledgment_in lease since (tails lease later))
    ++ changes_in lease since (tails lease later)
    ≡ changes_in lease since (if b then (one ∷ later) ∷ tails lease later else tails lease later)
changes_about lease since one later true is = refl
changes_about lease since one later false is = ap (λ made. made ++ changes_in lease since (tails lease later))
    (changes_none lease since one later (acknowledgment_in lease since (tails lease later)) (is_known since one) is)

pub changes_tails : (lease : Lease) (since : Option ℕ) (events : List Event)
    → changes lease (filter (is_known since) events) ≡ changes_in lease since (tails lease events)
changes_tails lease since [] = refl
changes_tails lease since (one ∷ later) =
    changes_step lease (is_known since one) one (filter (is_known since) later) _ (acknowledgment_tails lease since later)
    ∙ ap (λ rest. changes_at lease since one later (acknowledgment_in lease since (tails lease later)) ++ rest)
    (changes_tails lease since later)
    ∙ changes_about lease since one later (is_about lease one) refl

-- ---- what the server holds

held_skip : (lease : Lease) (broken : ℕ) (one : Event) (later : List Event) (given : Option Acknowledged)
    → is_about lease one ≡ false
    → held_with lease broken one later given ≡ []
held_skip lease broken (event.Granted one) later given not-about = if_false (is_same one.lease lease) _ [] not-about
held_skip lease broken (event.Broken one) later given not-about = if_false (is_same one.lease lease) _ [] not-about
held_skip lease broken (event.Acknowledged one) later given not-about = refl
held_skip lease broken (event.Asked one) later given not-about = refl
held_skip lease broken (event.Answered one) later given not-about = refl
held_skip lease broken (event.Gone one) later given not-about = refl
held_skip lease broken (event.Closed one) later given not-about = refl
held_skip lease broken (event.Ended one) later given not-about = if_false (is_same one.lease lease) _ [] not-about
held_skip lease broken (event.Taken one) later given not-about = refl
held_skip lease broken (event.Stray one) later given not-about = refl
held_skip lease broken (event.Misnumbered one) later given not-about = refl
held_skip lease broken (event.Lost one) later given not-about = refl
held_skip lease broken (event.Remade one) later given not-about = refl

broken_skip : (lease : Lease) (broken : ℕ) (one : Event) → is_about lease one ≡ false → broken_at lease broken one ≡ broken
broken_skip lease broken (event.Granted one) not-about = refl
broken_skip lease broken (event.Broken one) not-about = if_false (is_same one.lease lease) one.sent.position broken not-about
broken_skip lease broken (event.Acknowledged one) not-about = refl
broken_skip lease broken (event.Asked one) not-about = refl
broken_skip lease broken (event.Answered one) not-about = refl
broken_skip lease broken (event.Gone one) not-about = refl
broken_skip lease broken (event.Closed one) not-about = refl
broken_skip lease broken (event.Ended one) not-about = refl
broken_skip lease broken (event.Taken one) not-about = refl
broken_skip lease broken (event.Stray one) not-about = refl
broken_skip lease broken (event.Misnumbered one) not-about = refl
broken_skip lease broken (event.Lost one) not-about = refl
broken_skip lease broken (event.Remade one) not-about = refl

held_same : (lease : Lease) (broken : ℕ) (one : Event) (later : List Event)
    → held_by lease broken one later ≡ held_with lease broken one later (acknowledgment lease later)
held_same lease broken (event.Granted one) later = refl
held_same lease broken (event.Broken one) later = if_true (is_same one.lease lease) _ _ []
    (λ is. ap (λ same. held_by_break one (acknowledgment same later) (last_shown one.lease one.sent false None later) later)
    (same_lease one.lease lease is))
held_same lease broken (event.Acknowledged one) later = refl
held_same lease broken (event.Asked one) later = refl
held_same lease broken (event.Answered one) later = refl
held_same lease broken (event.Gone one) later = refl
held_same lease broken (event.Closed one) later = refl
held_same lease broken (event.Ended one) later = refl
held_same lease broken (event.Taken one) later = refl
held_same lease broken (event.Stray one) later = refl
held_same lease broken (event.Misnumbered one) later = refl
held_same lease broken (event.Lost one) later = refl
held_same lease broken (event.Remade one) later = refl

held_step : (lease : Lease) (broken : ℕ) (b : Bool) (one : Event) (rest : List Event) (given : Option Acknowledged)
    → acknowledgment lease rest ≡ given → held lease broken (if b then one ∷ rest else rest)
    ≡ (if b then held_with lease broken one rest given else [])
    ++ held lease (if b then broken_at lease broken one else broken) rest
held_step lease broken true one rest given is = ap (λ made. made ++ held lease (broken_at lease broken one) rest)
    (held_same lease broken one rest ∙ ap (held_with lease broken one rest) is)
held_step lease broken false one rest given is = refl

held_none : (lease : Lease) (broken : ℕ) (since : Option ℕ) (one : Event) (later : List Event) (given : Option Acknowledged)
    (b : Bool) → is_about lease one ≡ false
    → (if b then held_with lease broken one (filter (is_known since) later) given else []) ≡ []
held_none lease broken since one later given true is = held_skip lease broken one (filter (is_known since) later) given is
held_none lease broken since one later given false is = refl

broken_none : (lease : Lease) (broken : ℕ) (one : Event) (b : Bool) → is_about lease one ≡ false
    → (if b then broken_at lease broken one else broken) ≡ broken
broken_none lease broken one true is = broken_skip lease broken one is
broken_none lease broken one false is = refl

held_about : (lease : Lease) (broken : ℕ) (since : Option ℕ) (one : Event) (later : List Event) (b : Bool)
    → is_about lease one ≡ b
    → held_at lease since broken one later (acknowledgment_in lease since (tails lease later))
    ++ held_in lease since (broken_by lease since broken one) (tails lease later)
    ≡ held_in lease since broken (if b then (one ∷ later) ∷ tails lease later else tails lease later)
held_about lease broken since one later true is = refl
held_about lease broken since one later false is =
    ap (λ made. made ++ held_in lease since (broken_by lease since broken one) (tails lease later))
    (held_none lease broken since one later (acknowledgment_in lease since (tails lease later)) (is_known since one) is)
    ∙ ap (λ last. held_in lease since last (tails lease later)) (broken_none lease broken one (is_known since one) is)

pub held_tails : (lease : Lease) (broken : ℕ) (since : Option ℕ) (events : List Event)
    → held lease broken (filter (is_known since) events) ≡ held_in lease since broken (tails lease events)
held_tails lease broken since [] = refl
held_tails lease broken since (one ∷ later) =
    held_step lease broken (is_known since one) one (filter (is_known since) later) _ (acknowledgment_tails lease since later)
    ∙ ap (λ rest. held_at lease since broken one later (acknowledgment_in lease since (tails lease later)) ++ rest)
    (held_tails lease (broken_by lease since broken one) since later)
    ∙ held_about lease broken since one later (is_about lease one) refl

-- ---- what was said last

told_step : (lease : Lease) (until : ℕ) (found : Option LeaseTold) (one : Event) (later : List Event)
    → told_until lease until found (one ∷ later) ≡ told_until lease until (told_after lease until found one) later
told_step lease until found (event.Granted one) later = refl
told_step lease until found (event.Broken one) later = refl
told_step lease until found (event.Acknowledged one) later = refl
told_step lease until found (event.Asked one) later = refl
told_step lease until found (event.Answered one) later = refl
told_step lease until found (event.Gone one) later = refl
told_step lease until found (event.Closed one) later = refl
told_step lease until found (event.Ended one) later = refl
told_step lease until found (event.Taken one) later = refl
told_step lease until found (event.Stray one) later = refl
told_step lease until found (event.Misnumbered one) later = refl
told_step lease until found (event.Lost one) later = refl
told_step lease until found (event.Remade one) later = refl

told_skip : (lease : Lease) (until : ℕ) (found : Option LeaseTold) (one : Event) → is_about lease one ≡ false
    → told_after lease until found one ≡ found
told_skip lease until found (event.Granted one) not-about = rw not-about refl
told_skip lease until found (event.Broken one) not-about = rw not-about refl
told_skip lease until found (event.Acknowledged one) not-about = rw not-about refl
told_skip lease until found (event.Asked one) not-about = refl
told_skip lease until found (event.Answered one) not-about = refl
told_skip lease until found (event.Gone one) not-about = refl
told_skip lease until found (event.Closed one) not-about = refl
told_skip lease until found (event.Ended one) not-about = rw not-about refl
told_skip lease until found (event.Taken one) not-about = refl
told_skip lease until found (event.Stray one) not-about = refl
told_skip lease until found (event.Misnumbered one) not-about = refl
told_skip lease until found (event.Lost one) not-about = refl
told_skip lease until found (event.Remade one) not-about = refl

told_about : (lease : Lease) (until : ℕ) (found : Option LeaseTold) (one : Event) (later : List Event) (b : Bool)
    → is_about lease one ≡ b → told_in lease until (told_after lease until found one) (tails lease later)
    ≡ told_in lease until found (if b then (one ∷ later) ∷ tails lease later else tails lease later)
told_about lease until found one later true is = refl
told_about lease until found one later false is =
    ap (λ told. told_in lease until told (tails lease later)) (told_skip lease until found one is)

pub told_tails : (lease : Lease) (until : ℕ) (found : Option LeaseTold) (events : List Event)
    → told_until lease until found events ≡ told_in lease until found (tails lease events)
told_tails lease until found [] = refl
told_tails lease until found (one ∷ later) =
    told_step lease until found one later ∙ told_tails lease until (told_after lease until found one) later
    ∙ told_about lease until found one later (is_about lease one) refl
