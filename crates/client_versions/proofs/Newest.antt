-- The newest epoch of messages in any order.
use Rattle.std.proofs.Common.{◌<◌, ◌==◌, ◌∙◌, ◌≡◌, ◌≤◌, ◌∷◌, [], List, None, Option, Some, ap, arith, false, if◌then◌else◌}
use Rattle.std.proofs.Common.{nat_lt, refl, subst, sym, true, true≢false, ℕ, ⊎_elim}
use Rattle.std.specs.Prelude.{⊤}
use Rattle.std.proofs.lemmas.Bool.Decides.{Decides-eqb, nat_tests}
use Rattle.client_versions.specs.Epochs.{ahead, epoch_known, is_newer, is_taken, known_after, known_in_break}
use Rattle.client_versions.specs.Layer.{Known, Layer}
use Rattle.client_versions.specs.Laws.{AreUpTo, Event, HasEpoch, IsMessageUpTo, IsUpTo, Message, NewestEpochIsKnown, OneHasEpoch}
use Rattle.client_versions.specs.Laws.{epoch_told, happened, happened_all, message_at}
use Rattle.client_versions.proofs.Numbers.{either, newer, none_ahead, not_newer}
use Rattle.client_versions.proofs.Steps.{known_then, step_at, taken_not_older}

-- ---- the known epoch after a message

abbrev latest : ℕ → ℕ → ℕ
latest known told = if is_newer known told then told else known

taken_when_newer : (known told : Known) → is_newer known.epoch told.epoch ≡ true → is_taken known told ≡ true
taken_when_newer known told e = rw e refl

after_latest : (known told : Known) → (known_after (Some known) told).epoch ≡ latest known.epoch told.epoch
after_latest known told = either (is_newer known.epoch told.epoch)
    (λ e. rw (taken_when_newer known told e, e) refl)
    (λ e. either (is_taken known told)
    (λ t. rw (t, e) (⊎_elim (λ same. same) (λ now. absurd (true≢false (sym now ∙ e))) (taken_not_older known told t)))
    (λ t. rw (t, e) refl))

in_break_latest : (known told : Known) → (known_in_break (Some known) told).epoch ≡ latest known.epoch told.epoch
in_break_latest known told = either (is_newer known.epoch told.epoch)
    (λ e. rw e refl)
    (λ e. rw e refl)

first_break : (told : Known) → epoch_known (if told.epoch == 0 then None else Some told) ≡ told.epoch
first_break told = either (told.epoch == 0)
    (λ e. rw e (sym ((Decides-eqb told.epoch 0).0 e)))
    (λ e. rw e refl)

first_told : (message : Message) → epoch_known (known_then None (Some message)) ≡ epoch_told message
first_told (Message.Grant told) = refl
first_told (Message.InBreak told) = refl
first_told (Message.Break told) = first_break told

later_told : (known : Known) (message : Message)
    → epoch_known (known_then (Some known) (Some message)) ≡ latest known.epoch (epoch_told message)
later_told known (Message.Grant told) = after_latest known told
later_told known (Message.InBreak told) = in_break_latest known told
later_told known (Message.Break told) = after_latest known told

-- ---- numbers

less_by : (a b : ℕ) → nat_lt a b ≡ true → a < b
less_by a b e = grind (arith, nat_tests, e)

most_by : (a b : ℕ) → nat_lt a b ≡ false → b ≤ a
most_by a b e = grind (arith, nat_tests, e)

same_ahead : (start x y : ℕ) → start < 65536 → x < 65536 → y < 65536 → ahead start x ≤ ahead start y
    → ahead start y ≤ ahead start x → x ≡ y
same_ahead start x y s a b h k = omega (arith, s, a, b, h, k)

module _ (start newest : ℕ) (s : start < 65536) (n : newest < 65536) (window : ahead start newest < 32768) where
  abbrev IsBelow : ℕ → Type 0
  IsBelow epoch = (epoch < 65536) × (ahead start epoch ≤ ahead start newest)

  below_latest : (known told : ℕ) → IsBelow known → IsUpTo start newest told → IsBelow (latest known told)
  below_latest known told below up = either (is_newer known told)
      (λ e. rw e (up.number, up.most))
      (λ e. rw e below)

  -- what isn't behind the newest is the newest
  is_newest : (epoch : ℕ) → IsBelow epoch → nat_lt (ahead start epoch) (ahead start newest) ≡ false → epoch ≡ newest
  is_newest epoch below e =
      same_ahead start epoch newest s below.0 n below.1 (most_by (ahead start epoch) (ahead start newest) e)

  caught_up : (known : ℕ) → IsBelow known → is_newer known newest ≡ false → known ≡ newest
  caught_up known below e = either (nat_lt (ahead start known) (ahead start newest))
      (λ l. absurd (true≢false (sym (newer start known newest s below.0 n window
      (less_by (ahead start known) (ahead start newest) l)) ∙ e)))
      (λ l. is_newest known below l)

  not_passed : (told : ℕ) → IsBelow told → is_newer newest told ≡ true → told ≡ newest
  not_passed told below e = either (nat_lt (ahead start told) (ahead start newest))
      (λ l. absurd (true≢false (sym e ∙ not_newer start newest told s n below.0 window
      (less_by (ahead start told) (ahead start newest) l))))
      (λ l. is_newest told below l)

  reached : (known : ℕ) → IsBelow known → latest known newest ≡ newest
  reached known below = either (is_newer known newest)
      (λ e. rw e refl)
      (λ e. rw e (caught_up known below e))

  kept : (told : ℕ) → IsUpTo start newest told → latest newest told ≡ newest
  kept told up = either (is_newer newest told)
      (λ e. rw e (not_passed told (up.number, up.most) e))
      (λ e. rw e refl)

  -- ---- messages

  abbrev IsFirst : Option Known → Type 0
  IsFirst None = start ≡ 0
  IsFirst (Some known) = ⊤

  first_then : (found : Option Known) (message : Option Message) → IsFirst found → IsFirst (known_then found message)
  first_then found None first = first
  first_then None (Some (Message.Grant told)) first = tt
  first_then (Some known) (Some (Message.Grant told)) first = tt
  first_then None (Some (Message.InBreak told)) first = tt
  first_then (Some known) (Some (Message.InBreak told)) first = tt
  first_then None (Some (Message.Break told)) first = either (told.epoch == 0)
      (λ e. rw e first)
      (λ e. rw e tt)
  first_then (Some known) (Some (Message.Break told)) first = tt

  abbrev epoch_then : ℕ → Option Message → ℕ
  epoch_then known None = known
  epoch_then known (Some message) = latest known (epoch_told message)

  from_none : (told : ℕ) → start ≡ 0 → IsUpTo start newest told → is_newer 0 told ≡ true
  from_none told none up =
      let same = none_ahead start s in
      let below : ahead start start < ahead start told = rw same up.after in
      let most : ahead start told < 32768 = omega (arith, up.most, window) in
      subst (λ (k : ℕ). is_newer k told ≡ true) none (newer start start told s s up.number most below)

  told_then : (found : Option Known) (message : Option Message) → IsFirst found → IsMessageUpTo start newest message
      → epoch_known (known_then found message) ≡ epoch_then (epoch_known found) message
  told_then found None first up = refl
  told_then None (Some message) first up = first_told message ∙ rw (from_none (epoch_told message) first up) refl
  told_then (Some known) (Some message) first up = later_told known message

  below_then : (known : ℕ) (message : Option Message) → IsBelow known → IsMessageUpTo start newest message
      → IsBelow (epoch_then known message)
  below_then known None below up = below
  below_then known (Some message) below up = below_latest known (epoch_told message) below up

  reached_then : (known : ℕ) (message : Option Message) → IsBelow known → HasEpoch newest message
      → epoch_then known message ≡ newest
  reached_then known None below has = absurd has
  reached_then known (Some message) below has = rw has (reached known below)

  kept_then : (message : Option Message) → IsMessageUpTo start newest message → epoch_then newest message ≡ newest
  kept_then None up = refl
  kept_then (Some message) up = kept (epoch_told message) up

  known_next : (key : List ℕ) (event : Event) (layer : Layer) → IsFirst (layer.leases key)
      → IsMessageUpTo start newest (message_at key event)
      → epoch_known ((happened event layer).leases key)
      ≡ epoch_then (epoch_known (layer.leases key)) (message_at key event)
  known_next key event layer first up = ap epoch_known (step_at key event layer)
      ∙ told_then (layer.leases key) (message_at key event) first up

  first_next : (key : List ℕ) (event : Event) (layer : Layer) → IsFirst (layer.leases key)
      → IsFirst ((happened event layer).leases key)
  first_next key event layer first =
      subst IsFirst (sym (step_at key event layer)) (first_then (layer.leases key) (message_at key event) first)

  kept_all : (key : List ℕ) (events : List Event) (layer : Layer) → IsFirst (layer.leases key)
      → epoch_known (layer.leases key) ≡ newest → AreUpTo key start newest events
      → epoch_known ((happened_all events layer).leases key) ≡ newest
  kept_all key [] layer first is up = is
  kept_all key (event ∷ events) layer first is up = kept_all key events (happened event layer) (first_next key event layer first)
      (known_next key event layer first up.0 ∙ rw is (kept_then (message_at key event) up.0)) up.1

  in_the_end : (key : List ℕ) (events : List Event) (layer : Layer) → IsFirst (layer.leases key)
      → IsBelow (epoch_known (layer.leases key)) → AreUpTo key start newest events → OneHasEpoch key newest events
      → epoch_known ((happened_all events layer).leases key) ≡ newest
  in_the_end key [] layer first below up has = absurd has
  in_the_end key (event ∷ events) layer first below up has =
      let next = known_next key event layer first up.0 in
      let known = epoch_known (layer.leases key) in
      ⊎_elim
      (λ now. kept_all key events (happened event layer) (first_next key event layer first)
      (next ∙ reached_then known (message_at key event) below now) up.1)
      (λ later. in_the_end key events (happened event layer) (first_next key event layer first)
      (subst IsBelow (sym next) (below_then known (message_at key event) below up.0)) up.1 later)
      has

-- the newest epoch is among those of the messages
found_up : (start newest : ℕ) (message : Option Message) → IsMessageUpTo start newest message → HasEpoch newest message
    → newest < 65536
found_up start newest None up has = absurd has
found_up start newest (Some message) up has = rw (← has) up.number

newest_up : (start newest : ℕ) (key : List ℕ) (events : List Event) → AreUpTo key start newest events
    → OneHasEpoch key newest events → newest < 65536
newest_up start newest key [] up has = absurd has
newest_up start newest key (event ∷ events) up has = ⊎_elim
    (λ now. found_up start newest (message_at key event) up.0 now)
    (λ later. newest_up start newest key events up.1 later)
    has

at_first : (start newest : ℕ) → start < 65536 → (start < 65536) × (ahead start start ≤ ahead start newest)
at_first start newest s = let none = none_ahead start s in (s, omega (arith, none))

first_found : (start newest : ℕ) (s : start < 65536) (n : newest < 65536) (window : ahead start newest < 32768)
    (found : Option Known) → epoch_known found ≡ start → IsFirst start newest s n window found
first_found start newest s n window None is = sym is
first_found start newest s n window (Some known) is = tt

pub newest_epoch_is_known : NewestEpochIsKnown
newest_epoch_is_known key events layer newest s window up has =
    let start = epoch_known (layer.leases key) in
    let n = newest_up start newest key events up has in
    in_the_end start newest s n window key events layer (first_found start newest s n window (layer.leases key) refl)
    (at_first start newest s) up has
