-- What a decision does to what version 2 adds to a lease that lives on, and what many do.
use Rattle.lease_laws.proofs.Words.{◌+◌, ◌<◌, ◌∙◌, ◌≡◌, ◌∷◌, [], Bool, Key, List, None, Option, Some, ℕ, ap, arith}
use Rattle.lease_laws.proofs.Words.{false, if◌then◌else◌, is_some, key_eq, nat_le, option_map, put_key, refl, sym, true}
use Rattle.lease_laws.proofs.server.Keys.{key_eq-same, key_eq-refl}
use Rattle.lease_laws.proofs.server.Lists.{either}
use Rattle.std.specs.Prelude.{◌%◌}
use Rattle.lease_state.specs.State.{State}
use Rattle.lease_model.specs.messages.Replies.{BreakNotice, LeaseGiven}
use Rattle.lease_model.specs.server.Naming.{key_of}
use Rattle.lease_wire_v2.specs.Names.{SecondView}
use Rattle.manager_model.specs.Decisions.{Decision}
use Rattle.lease_versions.specs.Layer.{Asked, Layer, Lease, Open}
use Rattle.lease_versions.specs.Laws.{EpochCountsRises, EpochRisesThere, FirstVersionCarriesZero, Lives, NoticesDiffer}
use Rattle.lease_versions.specs.Laws.{VersionAndParentStay, is_alive, is_news_to, parent_in, raises, raises_given, rises}
use Rattle.lease_versions.specs.Laws.{AnswerCarriesTheLease, LifeBeginsAbove, NoticeCarriesTheEpoch, second_at, second_in}
use Rattle.lease_versions.specs.Rows.{Carried, acknowledged, broken, carried, closed_by, epoch_of, followed, followed_all}
use Rattle.lease_versions.specs.Rows.{granted, is_news, left_by, left_by_key, lease_given, leases_given, next_epoch}
use Rattle.lease_versions.specs.Rows.{one_open_less, raised, with_open}

-- ---- one lease

second_with : (known : Bool) (lease : Lease) → (with_open known lease).second ≡ lease.second
second_with true lease = refl
second_with false lease = refl

second_granted : (state : State) (lease : Lease)
    → (granted state lease).second ≡ (if is_news state lease then option_map raised lease.second else lease.second)
second_granted state lease = either (is_news state lease) (λ e. rw e refl) (λ e. rw e refl)

second_given_to : (asked : Option SecondView) (given : LeaseGiven) (known : Bool) (found : Option Lease) → is_some found ≡ true
    → (lease_given asked given known found).second
    ≡ (if is_news_to given.state found then option_map raised (second_in found) else second_in found)
second_given_to asked given known None alive = absurd (cc alive)
second_given_to asked given known (Some lease) alive =
    second_with known (granted given.state lease) ∙ second_granted given.state lease

second_broken : (notice : BreakNotice) (found : Option Lease)
    → second_in (option_map (broken notice) found) ≡ option_map raised (second_in found)
second_broken notice None = refl
second_broken notice (Some lease) = refl

second_acknowledged : (state : State) (found : Option Lease)
    → second_in (option_map (acknowledged state) found) ≡ second_in found
second_acknowledged state None = refl
second_acknowledged state (Some lease) = refl

second_left : (found : Option Lease) → is_some (one_open_less found) ≡ true → second_in (one_open_less found) ≡ second_in found
second_left None alive = refl
second_left (Some lease) alive = either (nat_le lease.opens 1)
    (λ e. absurd (cc (rw e at alive)))
    (λ e. rw e refl)

-- ---- the table of leases

module _ (key : Key) (leases : Key → Option Lease) where
  at_given : (client : ℕ) (given : Option LeaseGiven) (asked : Option SecondView) (known : Bool) → is_some (leases key) ≡ true
      → second_in (leases_given client given asked known leases key)
      ≡ (if raises_given key client given (leases key) then option_map raised (second_in (leases key))
      else second_in (leases key))
  unfolding put_key
  at_given client None asked known alive = refl
  at_given client (Some given) asked known alive = either (key_eq key (key_of client given.key))
      (λ e. rw (e, ← key_eq-same key (key_of client given.key) e) (second_given_to asked given known (leases key) alive))
      (λ e. rw e refl)

  at_left_key : (client : ℕ) (left : Option (List ℕ)) → is_some (left_by_key client left leases key) ≡ true
      → second_in (left_by_key client left leases key) ≡ second_in (leases key)
  unfolding put_key
  at_left_key client None alive = refl
  at_left_key client (Some bytes) alive = either (key_eq key (key_of client bytes))
      (λ e. let same = key_eq-same key (key_of client bytes) e in
      rw (e, ← same) (second_left (leases key) (rw (e, ← same) at alive)))
      (λ e. rw e refl)

  at_left : (left : Option Open) → is_some (left_by left leases key) ≡ true
      → second_in (left_by left leases key) ≡ second_in (leases key)
  at_left None alive = refl
  at_left (Some one) alive = at_left_key one.client one.key alive

-- ---- one decision

at_closed : (key : Key) (asked : Option Asked) (layer : Layer) → is_alive key (closed_by asked layer) ≡ true
    → second_at key (closed_by asked layer) ≡ second_at key layer
at_closed key None layer alive = refl
at_closed key (Some (Asked.Create ask)) layer alive = refl
at_closed key (Some (Asked.Close file_id)) layer alive = at_left key layer.leases (layer.opens file_id) alive

at_broken : (key other : Key) (notice : BreakNotice) (leases : Key → Option Lease)
    → second_in (put_key leases other (option_map (broken notice) (leases other)) key)
    ≡ (if key_eq key other then option_map raised (second_in (leases key)) else second_in (leases key))
unfolding put_key
at_broken key other notice leases = either (key_eq key other)
    (λ e. rw (e, ← key_eq-same key other e) (second_broken notice (leases key)))
    (λ e. rw e refl)

at_acknowledged : (key other : Key) (state : State) (leases : Key → Option Lease)
    → second_in (put_key leases other (option_map (acknowledged state) (leases other)) key) ≡ second_in (leases key)
unfolding put_key
at_acknowledged key other state leases = either (key_eq key other)
    (λ e. rw (e, ← key_eq-same key other e) (second_acknowledged state (leases key)))
    (λ e. rw e refl)

pub rises_there : EpochRisesThere
rises_there key (Decision.Opened client tag file_id answer) layer alive still =
    at_given key layer.leases client answer.lease _ _ alive
rises_there key (Decision.GoesOn client tag) layer alive still = refl
rises_there key (Decision.Closed client tag) layer alive still = at_closed key (layer.asked client tag) layer still
rises_there key (Decision.Refused client tag status) layer alive still = refl
rises_there key (Decision.Waits client tag) layer alive still = refl
rises_there key (Decision.Withdrawn client tag) layer alive still = refl
rises_there key (Decision.Breaks client notice) layer alive still =
    at_broken key (key_of client notice.key) notice layer.leases
rises_there key (Decision.Acknowledged client given) layer alive still =
    at_acknowledged key (key_of client given.key) given.state layer.leases
rises_there key (Decision.NotAcknowledged client status) layer alive still = refl
rises_there key (Decision.Ended file_id) layer alive still = at_left key layer.leases (layer.opens file_id) still
rises_there key (Decision.LeftBehind file_id) layer alive still = refl

-- ---- many

alive_first : (key : Key) (decisions : List Decision) (layer : Layer) → Lives key decisions layer → is_alive key layer ≡ true
alive_first key [] layer lives = lives
alive_first key (decision ∷ decisions) layer lives = lives.0

epoch_stays : (epoch : ℕ) → epoch < 65536 → epoch ≡ (epoch + 0) % 65536
epoch_stays epoch fits = omega (arith, fits)

none_more : (epoch more : ℕ) → (epoch + more) % 65536 ≡ (epoch + (0 + more)) % 65536
none_more epoch more = grind arith

epoch_fits : (epoch : ℕ) → next_epoch epoch < 65536
epoch_fits epoch = omega arith

epoch_adds : (epoch more : ℕ) → epoch < 65536 → (next_epoch epoch + more) % 65536 ≡ (epoch + (1 + more)) % 65536
epoch_adds epoch more fits = omega (arith, fits)

epochs_differ : (epoch more : ℕ) → more + 1 < 65536 → next_epoch epoch ≡ next_epoch ((next_epoch epoch + more) % 65536) → ⊥
epochs_differ epoch more few same = omega (arith, few, same)

abbrev view : Option (List ℕ) → ℕ → Option SecondView
view parent epoch = Some (record { parent = parent; epoch = epoch })

pub counts_rises : EpochCountsRises
counts_rises key [] layer parent epoch lives fits is = is ∙ ap (view parent) (epoch_stays epoch fits)
counts_rises key (decision ∷ decisions) layer parent epoch lives fits is =
    let step = rises_there key decision layer lives.0 (alive_first key decisions (followed decision layer) lives.1) in
    either (raises key decision layer)
    (λ e.
    let next : second_at key (followed decision layer) ≡ view parent (next_epoch epoch) = step ∙ rw (e, is) refl in
    rw e (counts_rises key decisions (followed decision layer) parent (next_epoch epoch) lives.1 (epoch_fits epoch) next
    ∙ ap (view parent) (epoch_adds epoch (rises key decisions (followed decision layer)) fits)))
    (λ e.
    let next : second_at key (followed decision layer) ≡ view parent epoch = step ∙ rw (e, is) refl in
    rw e (counts_rises key decisions (followed decision layer) parent epoch lives.1 fits next
    ∙ ap (view parent) (none_more epoch (rises key decisions (followed decision layer)))))

parent_raised : (second : Option SecondView) → option_map parent_in (option_map raised second) ≡ option_map parent_in second
parent_raised None = refl
parent_raised (Some second) = refl

parent_once : (rises : Bool) (second : Option SecondView)
    → option_map parent_in (if rises then option_map raised second else second) ≡ option_map parent_in second
parent_once true second = parent_raised second
parent_once false second = refl

pub parent_stays : VersionAndParentStay
parent_stays key [] layer lives = refl
parent_stays key (decision ∷ decisions) layer lives =
    let step = rises_there key decision layer lives.0 (alive_first key decisions (followed decision layer) lives.1) in
    parent_stays key decisions (followed decision layer) lives.1
    ∙ (ap (option_map parent_in) step ∙ parent_once (raises key decision layer) (second_at key layer))

-- ---- notices

abbrev number : Carried → ℕ
number Carried.Nothing = 0
number (Carried.Answer second durable) = 0
number (Carried.Notice epoch) = epoch

epoch_told : (notice : BreakNotice) (found : Option Lease) (second : SecondView) → second_in found ≡ Some second
    → epoch_of (option_map (broken notice) found) ≡ next_epoch second.epoch
epoch_told notice None second is = absurd (cc is)
epoch_told notice (Some lease) second is = rw is refl

zero_told : (notice : BreakNotice) (found : Option Lease) → second_in found ≡ None
    → epoch_of (option_map (broken notice) found) ≡ 0
zero_told notice None is = refl
zero_told notice (Some lease) is = rw is refl

pub first_carries_zero : FirstVersionCarriesZero
first_carries_zero client notice layer is =
    ap Carried.Notice (zero_told notice (layer.leases (key_of client notice.key)) is)

alive_by : (found : Option Lease) (second : SecondView) → second_in found ≡ Some second → is_some found ≡ true
alive_by None second is = absurd (cc is)
alive_by (Some lease) second is = refl

module _ (client : ℕ) (one other : BreakNotice) (between : List Decision) (layer : Layer) where
  abbrev key : Key
  key = key_of client one.key

  abbrev next : Layer
  next = followed (Decision.Breaks client one) layer

  apart : (found : Option SecondView) → second_at key layer ≡ found → is_some found ≡ true → one.key ≡ other.key
      → Lives key between next → rises key between next + 1 < 65536
      → carried (Decision.Breaks client one) layer ≡ carried (Decision.Breaks client other) (followed_all between next) → ⊥
  apart None is second same lives few eq = absurd (cc second)
  apart (Some second) is some same lives few eq =
      let step = rises_there key (Decision.Breaks client one) layer (alive_by (layer.leases key) second is)
      (alive_first key between next lives) in
      let begins : second_at key next ≡ view second.parent (next_epoch second.epoch) = step ∙ rw (key_eq-refl key, is) refl in
      let later = counts_rises key between next second.parent (next_epoch second.epoch) lives (epoch_fits second.epoch) begins in
      let told = epoch_told one (layer.leases key) second is in
      let again = epoch_told other ((followed_all between next).leases key) _ later in
      epochs_differ second.epoch (rises key between next) few (sym told ∙ (rw (← same) at (ap number eq) ∙ again))

pub notices_differ : NoticesDiffer
notices_differ client one other between layer same second lives few =
    λ eq. apart client one other between layer (second_at (key_of client one.key) layer) refl second same lives few eq

-- ---- what a message carries is what the lease has after it

pub begins_above : LifeBeginsAbove
unfolding put_key
begins_above client tag file_id given durable layer none = rw (key_eq-refl (key_of client given.key), none) refl

pub answer_carries : AnswerCarriesTheLease
unfolding put_key
answer_carries client tag file_id given durable layer = rw (key_eq-refl (key_of client given.key)) refl

pub notice_carries : NoticeCarriesTheEpoch
unfolding put_key
notice_carries client notice layer = rw (key_eq-refl (key_of client notice.key)) refl
