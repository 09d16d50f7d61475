-- What one message does to what is known of a lease, and what many do.
use Rattle.std.proofs.Common.{◌&&◌, ◌||◌, ◌+◌, ◌<◌, ◌==◌, ◌∙◌, ◌≡◌, ◌∷◌, ◌⊎◌, [], Bool, List, None, Option, Some, ap, arith}
use Rattle.std.proofs.Common.{false, if◌then◌else◌, inl, inr, not, refl, subst, sym, true, ℕ, ⊎_elim}
use Rattle.std.specs.Prelude.{◌%◌, bytes_eq}
use Rattle.std.proofs.lemmas.Bool.Decides.{Decides-eqb}
use Rattle.std.proofs.lemmas.Slice.Eq.{bytes_eq-Decides}
use Rattle.lease_model.specs.values.Tables.{put}
use Rattle.lease_wire.specs.Names as first
use Rattle.lease_wire_v2.specs.EpochNotice.{EpochNotice}
use Rattle.lease_wire_v2.specs.Names.{CreateView, LeaseView, SecondView}
use Rattle.client_versions.specs.Epochs.{ahead, epoch_known, goes_down, is_newer, is_taken, known_after, known_in_break}
use Rattle.client_versions.specs.Layer.{Known, Layer, put_known}
use Rattle.client_versions.specs.Laws.{AreNumbered, AreWithin, AsksWithNewest, ConnectsUnderItsGuid, EpochStaysOrRises, Event}
use Rattle.client_versions.specs.Laws.{IsMessageWithin, IsNotOlder, IsNumbered, IsWithin, Message, NewestIsKnown, OneTells}
use Rattle.client_versions.specs.Laws.{TellsThis, are_left, climbed, epoch_asked, grant, happened, happened_all, is_left}
use Rattle.client_versions.specs.Laws.{message_at, message_in, message_of}
use Rattle.client_versions.specs.Rows.{again_under, answered, asked, is_second}
use Rattle.client_versions.specs.Rows.{leases_answered, leases_granted, leases_noticed, noted, told_by}
use Rattle.client_versions.proofs.Numbers.{apart, climbs_none, climbs_on, either, newer, none_ahead, not_newer, not_older}

-- ---- one message, seen from one key

abbrev pub known_then : Option Known → Option Message → Option Known
known_then found None = found
known_then found (Some (Message.Grant told)) = Some (known_after found told)
known_then found (Some (Message.InBreak told)) = Some (known_in_break found told)
known_then None (Some (Message.Break told)) = if told.epoch == 0 then None else Some told
known_then (Some known) (Some (Message.Break told)) = Some (known_after (Some known) told)

granted_so : (breaking : Bool) (found : Option Known) (told : Known)
    → Some (if breaking then known_in_break found told else known_after found told)
    ≡ known_then found (Some (grant breaking told))
granted_so true found told = refl
granted_so false found told = refl

granted_at : (key : List ℕ) (leases : List ℕ → Option Known) (lease : LeaseView) (second : Option SecondView)
    → leases_granted lease second leases key
    ≡ known_then (leases key) (if bytes_eq lease.key key then message_of lease second else None)
unfolding put_known
granted_at key leases lease None = either (bytes_eq lease.key key)
    (λ e. rw e refl)
    (λ e. rw e refl)
granted_at key leases lease (Some second) = either (bytes_eq lease.key key)
    (λ e. rw (e, (bytes_eq-Decides lease.key key).0 e) (granted_so lease.breaking (leases key) (told_by lease second)))
    (λ e. rw e refl)

answered_at : (key : List ℕ) (leases : List ℕ → Option Known) (lease : Option LeaseView)
    → leases_answered lease leases key ≡ known_then (leases key) (message_in key lease)
answered_at key leases None = refl
answered_at key leases (Some lease) = granted_at key leases lease lease.second

module _ (key : List ℕ) (leases : List ℕ → Option Known) (notice : EpochNotice) where
  here : (found : Option Known) → leases key ≡ found → (bytes_eq notice.notice.key key) ≡ true
      → leases_noticed notice found leases key ≡ known_then found (Some (Message.Break (noted notice)))
  unfolding put_known
  here None is e = either (notice.new_epoch == 0)
      (λ z. rw z is)
      (λ z. rw (z, e) refl)
  here (Some known) is e = either (is_taken known (noted notice))
      (λ t. rw (t, e) refl)
      (λ t. rw t is)

  there : (found : Option Known) → (bytes_eq notice.notice.key key) ≡ false
      → leases_noticed notice found leases key ≡ leases key
  unfolding put_known
  there None e = either (notice.new_epoch == 0)
      (λ z. rw z refl)
      (λ z. rw (z, e) refl)
  there (Some known) e = either (is_taken known (noted notice))
      (λ t. rw (t, e) refl)
      (λ t. rw t refl)

  noticed_at : leases_noticed notice (leases notice.notice.key) leases key
      ≡ known_then (leases key) (if bytes_eq notice.notice.key key then Some (Message.Break (noted notice)) else None)
  noticed_at = either (bytes_eq notice.notice.key key)
      (λ e. let same = (bytes_eq-Decides notice.notice.key key).0 e in
      ap (λ found. leases_noticed notice found leases key) (ap leases same) ∙ (here (leases key) refl e ∙ rw e refl))
      (λ e. there (leases notice.notice.key) e ∙ rw e refl)

pub step_at : (key : List ℕ) (event : Event) (layer : Layer)
    → (happened event layer).leases key ≡ known_then (layer.leases key) (message_at key event)
step_at key (Event.Answered file_id guid answer) layer = answered_at key layer.leases answer.lease
step_at key (Event.Noticed notice) layer = noticed_at key layer.leases notice
step_at key (Event.Closed file_id) layer = refl

-- ---- the known epoch

pub taken_not_older : (known told : Known) → is_taken known told ≡ true → IsNotOlder known.epoch told.epoch
taken_not_older known told taken = either (is_newer known.epoch told.epoch)
    (λ e. inr e)
    (λ e. inl ((Decides-eqb told.epoch known.epoch).0
    (same_epoch (told.epoch == known.epoch) (goes_down known.state told.state) (rw e at taken))))
  where
    same_epoch : (same down : Bool) → (false || (same && down)) ≡ true → same ≡ true
    same_epoch same down e = grind (arith, e)

abbrev IsKept : Known → Option Known → Type 0
IsKept known now = (later : Known) × (now ≡ Some later) × IsNotOlder known.epoch later.epoch

after_kept : (known told : Known) → IsKept known (Some (known_after (Some known) told))
after_kept known told = either (is_taken known told)
    (λ e. rw e (told, refl, taken_not_older known told e))
    (λ e. rw e (known, refl, inl refl))

in_break_kept : (known told : Known) → IsKept known (Some (known_in_break (Some known) told))
in_break_kept known told = either (is_newer known.epoch told.epoch)
    (λ e. rw e (told, refl, inr e))
    (λ e. rw e (known, refl, inl refl))

kept : (known : Known) (message : Option Message) → IsKept known (known_then (Some known) message)
kept known None = (known, refl, inl refl)
kept known (Some (Message.Grant told)) = after_kept known told
kept known (Some (Message.InBreak told)) = in_break_kept known told
kept known (Some (Message.Break told)) = after_kept known told

pub stays_or_rises : EpochStaysOrRises
stays_or_rises key event layer known is =
    let step : (happened event layer).leases key ≡ known_then (Some known) (message_at key event) =
    step_at key event layer ∙ ap (λ found. known_then found (message_at key event)) is in
    subst (IsKept known) (sym step) (kept known (message_at key event))

-- ---- how far it climbs

after_numbered : (found : Option Known) (told : Known) → epoch_known found < 65536 → told.epoch < 65536
    → (known_after found told).epoch < 65536
after_numbered None told f t = t
after_numbered (Some known) told f t = either (is_taken known told)
    (λ e. rw e t)
    (λ e. rw e f)

in_break_numbered : (found : Option Known) (told : Known) → epoch_known found < 65536 → told.epoch < 65536
    → (known_in_break found told).epoch < 65536
in_break_numbered None told f t = t
in_break_numbered (Some known) told f t = either (is_newer known.epoch told.epoch)
    (λ e. rw e t)
    (λ e. rw e f)

then_numbered : (found : Option Known) (message : Option Message) → epoch_known found < 65536 → IsNumbered message
    → epoch_known (known_then found message) < 65536
then_numbered found None f m = f
then_numbered found (Some (Message.Grant told)) f m = after_numbered found told f m
then_numbered found (Some (Message.InBreak told)) f m = in_break_numbered found told f m
then_numbered None (Some (Message.Break told)) f m = either (told.epoch == 0)
    (λ e. rw e f)
    (λ e. rw e m)
then_numbered (Some known) (Some (Message.Break told)) f m = after_numbered (Some known) told f m

step_numbered : (key : List ℕ) (event : Event) (layer : Layer) → epoch_known (layer.leases key) < 65536
    → IsNumbered (message_at key event) → epoch_known ((happened event layer).leases key) < 65536
step_numbered key event layer f m = subst (λ (found : Option Known). epoch_known found < 65536) (sym (step_at key event layer))
    (then_numbered (layer.leases key) (message_at key event) f m)

climbs : (key : List ℕ) (events : List Event) (layer : Layer) → epoch_known (layer.leases key) < 65536 → AreNumbered key events
    → epoch_known ((happened_all events layer).leases key)
    ≡ (epoch_known (layer.leases key) + climbed key events layer) % 65536
climbs key [] layer f m = climbs_none (epoch_known (layer.leases key)) f
climbs key (event ∷ events) layer f m =
    let next = step_numbered key event layer f m.0 in
    climbs key events (happened event layer) next m.1
    ∙ climbs_on (epoch_known (layer.leases key)) (epoch_known ((happened event layer).leases key))
    (climbed key events (happened event layer)) f next

asked_epoch : (parent : Option (List ℕ)) (guid : List ℕ) (ask : first.CreateView) (lease : first.LeaseView) (layer : Layer)
    → ask.lease ≡ Some lease → epoch_asked (asked parent guid ask layer).lease ≡ epoch_known (layer.leases lease.key)
asked_epoch parent guid ask lease layer is = rw is refl

pub asks_with_newest : AsksWithNewest
asks_with_newest key events layer parent guid ask lease f m few is same =
    let told : epoch_asked (asked parent guid ask (happened_all events layer)).lease
    ≡ (epoch_known (layer.leases key) + climbed key events layer) % 65536 =
    asked_epoch parent guid ask lease (happened_all events layer) is
    ∙ (ap (λ place. epoch_known ((happened_all events layer).leases place)) same ∙ climbs key events layer f m) in
    subst (IsNotOlder (epoch_known (layer.leases key))) (sym told)
    (not_older (epoch_known (layer.leases key)) (climbed key events layer) f few)

-- ---- messages in any order

-- what is known lies behind the newest, or is it
abbrev IsHeld : ℕ → Known → Option Known → Type 0
IsHeld start newest None = start ≡ 0
IsHeld start newest (Some known) = (known.epoch < 65536) × (ahead start known.epoch < 32768)
    × ((ahead start known.epoch < ahead start newest.epoch) ⊎ (known ≡ newest))

module _ (start : ℕ) (newest : Known) (s : start < 65536) (bound : newest.epoch < 65536)
    (window : ahead start newest.epoch < 32768) where
  told_held : (told : Known) → IsWithin start newest told → IsHeld start newest (Some told)
  told_held told w = (w.number, w.window, w.behind)

  taken_when_newer : (known told : Known) → is_newer known.epoch told.epoch ≡ true → is_taken known told ≡ true
  taken_when_newer known told e = rw e refl

  passed_over : (known told : Known) → is_newer known.epoch told.epoch ≡ false → (told.epoch == known.epoch) ≡ false
      → is_taken known told ≡ false
  passed_over known told e f = rw (e, f) refl

  -- the newest replaces what is behind it
  replaces : (known : Known) → IsHeld start newest (Some known) → known_after (Some known) newest ≡ newest
  replaces known held = ⊎_elim
      (λ behind. rw (taken_when_newer known newest
      (newer start known.epoch newest.epoch s held.0 bound window behind)) refl)
      (λ same. rw same (either (is_taken newest newest) (λ e. rw e refl) (λ e. rw e refl)))
      held.2

  -- and is replaced by none
  lasts : (told : Known) → IsWithin start newest told → known_after (Some newest) told ≡ newest
  lasts told w = ⊎_elim
      (λ behind. rw (passed_over newest told (not_newer start newest.epoch told.epoch s bound w.number window behind)
      (apart start newest.epoch told.epoch behind)) refl)
      (λ same. rw same (either (is_taken newest newest) (λ e. rw e refl) (λ e. rw e refl)))
      w.behind

  -- so it is with an answer while a break is in progress
  replaces_in_break : (known : Known) → IsHeld start newest (Some known) → known_in_break (Some known) newest ≡ newest
  replaces_in_break known held = ⊎_elim
      (λ behind. rw (newer start known.epoch newest.epoch s held.0 bound window behind) refl)
      (λ same. rw same (either (is_newer newest.epoch newest.epoch) (λ e. rw e refl) (λ e. rw e refl)))
      held.2

  lasts_in_break : (told : Known) → IsWithin start newest told → known_in_break (Some newest) told ≡ newest
  lasts_in_break told w = ⊎_elim
      (λ behind. rw (not_newer start newest.epoch told.epoch s bound w.number window behind) refl)
      (λ same. rw same (either (is_newer newest.epoch newest.epoch) (λ e. rw e refl) (λ e. rw e refl)))
      w.behind

  held_after : (known told : Known) → IsHeld start newest (Some known) → IsWithin start newest told
      → IsHeld start newest (Some (known_after (Some known) told))
  held_after known told held w = either (is_taken known told)
      (λ e. rw e (told_held told w))
      (λ e. rw e held)

  held_in_break : (known told : Known) → IsHeld start newest (Some known) → IsWithin start newest told
      → IsHeld start newest (Some (known_in_break (Some known) told))
  held_in_break known told held w = either (is_newer known.epoch told.epoch)
      (λ e. rw e (told_held told w))
      (λ e. rw e held)

  not_zero : (told : Known) → start ≡ 0 → IsWithin start newest told → (told.epoch == 0) ≡ false
  not_zero told none w = either (told.epoch == 0)
      (λ e. absurd (zero_ahead told.epoch ((Decides-eqb told.epoch 0).0 e)
      (subst (λ (n : ℕ). 0 < ahead n told.epoch) none w.after)))
      (λ e. e)
    where
      zero_ahead : (epoch : ℕ) → epoch ≡ 0 → 0 < ahead 0 epoch → ⊥
      zero_ahead epoch e h = omega (arith, h, e)

  held_then : (found : Option Known) (message : Option Message) → IsHeld start newest found
      → IsMessageWithin start newest message → IsHeld start newest (known_then found message)
  held_then found None held m = held
  held_then None (Some (Message.Grant told)) held m = told_held told m
  held_then (Some known) (Some (Message.Grant told)) held m = held_after known told held m
  held_then None (Some (Message.InBreak told)) held m = told_held told m
  held_then (Some known) (Some (Message.InBreak told)) held m = held_in_break known told held m
  held_then None (Some (Message.Break told)) held m = rw (not_zero told held m) (told_held told m)
  held_then (Some known) (Some (Message.Break told)) held m = held_after known told held m

  tells_newest : (found : Option Known) (message : Option Message) → IsHeld start newest found
      → IsMessageWithin start newest message → TellsThis newest message → known_then found message ≡ Some newest
  tells_newest found None held m tells = absurd tells
  tells_newest None (Some (Message.Grant told)) held m tells = ap Some tells
  tells_newest (Some known) (Some (Message.Grant told)) held m tells =
      rw tells (ap Some (replaces known held))
  tells_newest None (Some (Message.InBreak told)) held m tells = ap Some tells
  tells_newest (Some known) (Some (Message.InBreak told)) held m tells =
      rw tells (ap Some (replaces_in_break known held))
  tells_newest None (Some (Message.Break told)) held m tells = rw (not_zero told held m) (ap Some tells)
  tells_newest (Some known) (Some (Message.Break told)) held m tells =
      rw tells (ap Some (replaces known held))

  lasts_then : (message : Option Message) → IsMessageWithin start newest message
      → known_then (Some newest) message ≡ Some newest
  lasts_then None m = refl
  lasts_then (Some (Message.Grant told)) m = ap Some (lasts told m)
  lasts_then (Some (Message.InBreak told)) m = ap Some (lasts_in_break told m)
  lasts_then (Some (Message.Break told)) m = ap Some (lasts told m)

  lasts_all : (key : List ℕ) (events : List Event) (layer : Layer) → layer.leases key ≡ Some newest
      → AreWithin key start newest events → (happened_all events layer).leases key ≡ Some newest
  lasts_all key [] layer is within = is
  lasts_all key (event ∷ events) layer is within = lasts_all key events (happened event layer)
      (step_at key event layer ∙ rw is (lasts_then (message_at key event) within.0)) within.1

  in_the_end : (key : List ℕ) (events : List Event) (layer : Layer) → IsHeld start newest (layer.leases key)
      → AreWithin key start newest events → OneTells key newest events
      → (happened_all events layer).leases key ≡ Some newest
  in_the_end key [] layer held within tells = absurd tells
  in_the_end key (event ∷ events) layer held within tells = ⊎_elim
      (λ now. lasts_all key events (happened event layer)
      (step_at key event layer ∙ tells_newest (layer.leases key) (message_at key event) held within.0 now) within.1)
      (λ later. in_the_end key events (happened event layer)
      (subst (IsHeld start newest) (sym (step_at key event layer))
      (held_then (layer.leases key) (message_at key event) held within.0))
      within.1 later)
      tells

-- the newest is among the messages, and so within
found_within : (start : ℕ) (newest : Known) (message : Option Message) → IsMessageWithin start newest message
    → TellsThis newest message → IsWithin start newest newest
found_within start newest None m tells = absurd tells
found_within start newest (Some (Message.Grant told)) m tells = subst (IsWithin start newest) tells m
found_within start newest (Some (Message.InBreak told)) m tells = subst (IsWithin start newest) tells m
found_within start newest (Some (Message.Break told)) m tells = subst (IsWithin start newest) tells m

newest_within : (start : ℕ) (newest : Known) (key : List ℕ) (events : List Event) → AreWithin key start newest events
    → OneTells key newest events → IsWithin start newest newest
newest_within start newest key [] within tells = absurd tells
newest_within start newest key (event ∷ events) within tells = ⊎_elim
    (λ now. found_within start newest (message_at key event) within.0 now)
    (λ later. newest_within start newest key events within.1 later)
    tells

held_first : (newest : Known) (found : Option Known) → epoch_known found < 65536
    → 0 < ahead (epoch_known found) newest.epoch → IsHeld (epoch_known found) newest found
held_first newest None f after = refl
held_first newest (Some known) f after =
    let none = none_ahead known.epoch f in
    (f, omega (arith, none), inl (omega (arith, none, after)))

pub newest_is_known : NewestIsKnown
newest_is_known key events layer newest f within tells =
    let start = epoch_known (layer.leases key) in
    let w = newest_within start newest key events within tells in
    in_the_end start newest f w.number w.window key events layer (held_first newest (layer.leases key) f w.after) within tells

-- ---- guids

guid_left : (file_id : ℕ) (event : Event) (layer : Layer) → is_left file_id event ≡ true
    → (happened event layer).guids file_id ≡ layer.guids file_id
unfolding put
guid_left file_id (Event.Answered other guid answer) layer left = either (is_second answer.durable)
    (λ e. rw (e, apart_from (file_id == other) (rw e at left)) refl)
    (λ e. rw e refl)
  where
    apart_from : (same : Bool) → not (same && true) ≡ true → same ≡ false
    apart_from same e = grind (arith, e)
guid_left file_id (Event.Noticed notice) layer left = refl
guid_left file_id (Event.Closed other) layer left = rw (is_not (file_id == other) left) refl
  where
    is_not : (same : Bool) → not same ≡ true → same ≡ false
    is_not same e = grind (arith, e)

guids_left : (file_id : ℕ) (events : List Event) (layer : Layer) → are_left file_id events ≡ true
    → (happened_all events layer).guids file_id ≡ layer.guids file_id
guids_left file_id [] layer left = refl
guids_left file_id (event ∷ events) layer left =
    guids_left file_id events (happened event layer) (second (is_left file_id event) (are_left file_id events) left)
    ∙ guid_left file_id event layer (one (is_left file_id event) (are_left file_id events) left)
  where
    one : (a b : Bool) → (a && b) ≡ true → a ≡ true
    one a b e = grind (arith, e)

    second : (a b : Bool) → (a && b) ≡ true → b ≡ true
    second a b e = grind (arith, e)

guid_kept : (file_id : ℕ) (guid : List ℕ) (answer : CreateView) (layer : Layer) → is_second answer.durable ≡ true
    → (answered file_id guid answer layer).guids file_id ≡ Some guid
unfolding put
guid_kept file_id guid answer layer second = rw (second, (Decides-eqb file_id file_id).1 refl) refl

pub connects_under_its_guid : ConnectsUnderItsGuid
connects_under_its_guid file_id guid answer events layer second left =
    ap (again_under file_id) (guids_left file_id events (answered file_id guid answer layer) left
    ∙ guid_kept file_id guid answer layer second)
