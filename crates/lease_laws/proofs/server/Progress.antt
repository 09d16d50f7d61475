-- The small steps of a call keep a server's laws.
use Rattle.lease_laws.proofs.Words.{◌≡◌, Among, Bool, Held, IsLowered, IsSound, Key, List, None, Open, Progress, Server, Some}
use Rattle.lease_laws.proofs.Words.{State, ℕ, break_begun, false, granted_form_of, has_key, has_lease, held_left, lease_lowered}
use Rattle.lease_laws.proofs.Words.{needs_acknowledgment, not, opens_dropped, request_held, true}
use Rattle.lease_laws.proofs.server.Leases.{put_sound}
use Rattle.lease_laws.proofs.server.Lists.{clash}
use Rattle.lease_laws.proofs.server.States.{settled-lawful, breaking-lawful}
use Rattle.lease_laws.proofs.server.Steps.{drop_sound}

-- to drop opens keeps the laws
pub opens_dropped-sound : (test : Open → Bool) (progress : Progress) → IsSound progress.server
    → IsSound (opens_dropped test progress).server
opens_dropped-sound test progress s = drop_sound (λ one. not (test one)) progress.server.opens progress.server.leases
    progress.server.expired progress.server.last_id s

-- to hold a request keeps the laws
pub request_held-sound : (file : ℕ) (one : Held) (progress : Progress) → IsSound progress.server
    → IsSound (request_held file one progress).server
request_held-sound file one progress s = s

-- to take a request off the held ones keeps the laws
pub held_left-sound : (file : ℕ) (left : List Held) (progress : Progress) → IsSound progress.server
    → IsSound (held_left file left progress).server
held_left-sound file left progress s = s

-- What a break needs beyond the laws: the key has a lease, its timer didn't run out, and none of its
-- opens is without its connection.
pub record MayBreak (server : Server) (key : Key) : Type 0 where
  pub has_open : has_lease server key ≡ true
  pub is_timely : server.expired key ≡ false
  pub is_present : (one : Open) → Among one server.opens → has_key key one ≡ true → one.connected ≡ true

-- to lower a lease at once keeps the laws
pub lease_lowered-sound : (key : Key) (lowered : State) (progress : Progress) → IsSound progress.server
    → MayBreak progress.server key → granted_form_of lowered ≡ lowered → lowered.write ≡ false
    → IsSound (lease_lowered key lowered progress).server
lease_lowered-sound key lowered progress s may form writeless = put_sound progress.server.opens progress.server.leases
    progress.server.expired progress.server.last_id key (record { state = lowered; broken_to = None }) s may.has_open
    (λ out. clash (progress.server.expired key) out may.is_timely) (record {
      is_lawful = settled-lawful lowered form;
      is_alone = λ one other w a k b f. clash lowered.write w writeless;
      lasts = λ one a k d. clash one.connected (may.is_present one a k) d;
    })

-- to begin a break keeps the laws
pub break_begun-sound : (key : Key) (lowered : State) (progress : Progress) → IsSound progress.server
    → MayBreak progress.server key → needs_acknowledgment (progress.server.leases key).state ≡ true
    → IsLowered (progress.server.leases key).state lowered → IsSound (break_begun key lowered progress).server
break_begun-sound key lowered progress s may needs low = put_sound progress.server.opens progress.server.leases
    progress.server.expired progress.server.last_id key
    (record { state = (progress.server.leases key).state; broken_to = Some lowered }) s may.has_open
    (λ out. clash (progress.server.expired key) out may.is_timely) (record {
      is_lawful = breaking-lawful (progress.server.leases key).state lowered (s.lawful key).is_granted_form needs low;
      is_alone = λ one other w a k b f. s.one_writer key one other w a k b f;
      lasts = λ one a k d. clash one.connected (may.is_present one a k) d;
    })
