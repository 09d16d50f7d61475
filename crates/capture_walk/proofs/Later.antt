-- What is known of events whatever comes after them is known of them, and of one more.
use Rattle.std.proofs.Common.{◌≡◌, ◌∙◌, ◌++◌, ◌∷◌, [], ◌+◌, ℕ, List, None, ap, length, sym, append-nil}
use Rattle.std.proofs.lemmas.List.{append_assoc, length-append}
use Rattle.std.specs.List.{list_any}
use Rattle.capture_walk.specs.Events.{is_stray_of, last_break, last_said}
use Rattle.capture_walk.specs.Events.{KnowsLatest}
use Rattle.capture_walk.specs.LeaseMaps.{broken_in, said_in}
use Rattle.capture_walk.specs.declared.event.Event.{Event}
use Rattle.capture_walk.specs.declared.event.Lease.{Lease}
use Rattle.capture_walk.specs.declared.latest.Latest.{Latest}

pub said_now : (before : List Event) (latest : Latest) → KnowsLatest before latest → (lease : Lease)
    → said_in latest.said lease ≡ last_said lease None before
said_now before latest knows lease = knows.said lease [] ∙ ap (last_said lease None) (append-nil before)

pub broken_now : (before : List Event) (latest : Latest) → KnowsLatest before latest → (lease : Lease)
    → broken_in latest.broken lease ≡ last_break lease None before
broken_now before latest knows lease = knows.broken lease [] ∙ ap (last_break lease None) (append-nil before)

pub strays_now : (before : List Event) (latest : Latest) → KnowsLatest before latest → (lease : Lease) (connection asked : ℕ)
    → list_any (is_stray_of lease connection asked) latest.strays.items
    ≡ list_any (is_stray_of lease connection asked) before
strays_now before latest knows lease connection asked =
    ap (list_any (is_stray_of lease connection asked)) (sym (append-nil latest.strays.items))
    ∙ knows.strays lease connection asked [] ∙ ap (list_any (is_stray_of lease connection asked)) (append-nil before)

-- one event more, and what comes after it
pub one_more : {A : Type 0} (before : List A) (one : A) (later : List A) → before ++ (one ∷ later) ≡ (before ++ one ∷ []) ++ later
one_more before one later = sym (append_assoc before (one ∷ []) later)

pub one_longer : {A : Type 0} (before : List A) (one : A) → length (before ++ one ∷ []) ≡ length before + 1
one_longer before one = length-append before (one ∷ [])
