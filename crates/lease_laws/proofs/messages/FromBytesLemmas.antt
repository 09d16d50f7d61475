-- The map from bytes finds what the layouts say.
use Rattle.lease_laws.proofs.Words.{◌&&◌, ◌<◌, ◌==◌, ◌∙◌, ◌≡◌, ◌≢◌, ◌≤◌, AcknowledgmentIsFound, Bool, ContextsAreFound, Direction}
use Rattle.lease_laws.proofs.Words.{FaultyContextsAreNotFound, IsAcknowledgment, IsNotification, KeyAndState, List}
use Rattle.lease_laws.proofs.Words.{NoAcknowledgmentIsFound, NoNotificationIsFound, Notice, NotificationIsFound}
use Rattle.lease_laws.proofs.Words.{WrittenContextsAreFound, WrittenMessagesAreFound, ℕ, acknowledged_in, acknowledgment_bytes}
use Rattle.lease_laws.proofs.Words.{acknowledgment_layout, answer_found, ap, arith, ask_found, bytes_at-taken, false}
use Rattle.lease_laws.proofs.Words.{length, length-take, nat_le, nat_tests, notice_in, notification_bytes, notification_layout}
use Rattle.lease_laws.proofs.Words.{number_at, number_at-taken, refl, subst, sym, take, take-length, true, value_is_read}
use Rattle.lease_laws.proofs.Words.{written_reads_back}

-- bytes whose first ones are so many are as many
reaches : (size : ℕ) (bytes : List ℕ) → length (take size bytes) ≡ size → size ≤ length bytes
reaches size bytes e = omega (arith, length-take size bytes)

within : (m n : ℕ) → m ≤ n → nat_le m n ≡ true
within m n h = grind (arith, nat_tests)

beyond : (m n : ℕ) → n < m → nat_le m n ≡ false
beyond m n h = grind (arith, nat_tests)

apart : (m n : ℕ) → m ≢ n → (m == n) ≡ false
apart m n h = grind (arith, nat_tests)

and_false : (b : Bool) → (b && false) ≡ false
and_false b = grind arith

pub acknowledgment_found : AcknowledgmentIsFound
unfolding acknowledged_in
acknowledgment_found bytes v is =
    let long = reaches 36 bytes is.size in
    let size : number_at 0 2 bytes ≡ 36 = number_at-taken 0 2 36 bytes (omega arith) long ∙ is.structure_size in
    rw (
      within 36 (length bytes) long,
      size,
      bytes_at-taken 8 16 36 bytes (omega arith) long,
      number_at-taken 24 4 36 bytes (omega arith) long,
      ← is.lease_key,
      ← is.lease_state,
    ) refl

pub no_acknowledgment_found : NoAcknowledgmentIsFound
unfolding acknowledged_in
no_acknowledgment_found bytes x2 = grind arith

pub notification_found : NotificationIsFound
unfolding notice_in
notification_found bytes v is =
    let long = reaches 44 bytes is.size in
    let size : number_at 0 2 bytes ≡ 44 = number_at-taken 0 2 44 bytes (omega arith) long ∙ is.structure_size in
    rw (
      within 44 (length bytes) long,
      size,
      number_at-taken 4 4 44 bytes (omega arith) long,
      bytes_at-taken 8 16 44 bytes (omega arith) long,
      number_at-taken 24 4 44 bytes (omega arith) long,
      number_at-taken 28 4 44 bytes (omega arith) long,
      ← is.flags,
      ← is.lease_key,
      ← is.current_lease_state,
      ← is.new_lease_state,
    ) refl

pub no_notification_found : NoNotificationIsFound
unfolding notice_in
no_notification_found bytes x2 = grind arith

take_whole : (size : ℕ) (bytes : List ℕ) → length bytes ≡ size → take size bytes ≡ bytes
take_whole size bytes e = rw (← e) (take-length bytes)

-- a message that is read to its end
acknowledgment_taken : (v : KeyAndState) → length v.key ≡ 16 → IsAcknowledgment (take 36 (acknowledgment_bytes v)) v
acknowledgment_taken v long =
    let is = acknowledgment_layout v long in
    let whole : take 36 (acknowledgment_bytes v) ≡ acknowledgment_bytes v = take_whole 36 (acknowledgment_bytes v) is.size in
    subst (λ (bytes : List ℕ). IsAcknowledgment bytes v) (sym whole) is

notification_taken : (v : Notice) → length v.key ≡ 16 → IsNotification (take 44 (notification_bytes v)) v
notification_taken v long =
    let is = notification_layout v long in
    let whole : take 44 (notification_bytes v) ≡ notification_bytes v = take_whole 44 (notification_bytes v) is.size in
    subst (λ (bytes : List ℕ). IsNotification bytes v) (sym whole) is

pub written_messages_found : WrittenMessagesAreFound
written_messages_found = (
  λ v long. acknowledgment_found (acknowledgment_bytes v) v (acknowledgment_taken v long),
  λ v long. notification_found (notification_bytes v) v (notification_taken v long),
)

pub written_contexts_found : WrittenContextsAreFound
written_contexts_found = (
  λ v is. ap ask_found (written_reads_back Direction.Request v is),
  λ v is. ap answer_found (written_reads_back Direction.Reply v is),
)

pub contexts_found : ContextsAreFound
contexts_found = (
  λ text v holds. ap ask_found (((value_is_read Direction.Request text).value v).1 holds),
  λ text v holds. ap answer_found (((value_is_read Direction.Reply text).value v).1 holds),
)

pub faulty_contexts_not_found : FaultyContextsAreNotFound
faulty_contexts_not_found = (
  λ text fault faulty. ap ask_found (((value_is_read Direction.Request text).fault fault).1 faulty),
  λ text fault faulty. ap answer_found (((value_is_read Direction.Reply text).fault fault).1 faulty),
)
