-- To meet wants keeps a server's laws.
use Rattle.lease_laws.proofs.Words.{◌∙◌, ◌≡◌, Among, Bool, IsLowered, IsSound, Key, Lease, List, None, Open, Progress}
use Rattle.std.proofs.Common.{arith}
use Rattle.lease_laws.proofs.Words.{Server, Some, State, Want, ap, break_begun, false, filter, has_key}
use Rattle.lease_laws.proofs.Words.{inl, inr, is_breaking, is_left_open, is_state_within, lease_broken}
use Rattle.lease_laws.proofs.Words.{lease_lowered, list_any, needs_acknowledgment, no_lease, not, opens_dropped, refl, subst, sym}
use Rattle.lease_laws.proofs.Words.{true, true≢false, want_met, wants_met}
use Rattle.lease_laws.proofs.server.Keys.{put_key-cases}
use Rattle.lease_laws.proofs.server.Lists.{if_cases, clash, and_both, not_parts, not_false, among_filter}
use Rattle.lease_laws.proofs.server.Lists.{any_has, has_any}
use Rattle.lease_laws.proofs.server.Progress.{MayBreak, opens_dropped-sound, lease_lowered-sound, break_begun-sound}
use Rattle.lease_laws.proofs.server.Wants.{Fits, AllFit}
use Rattle.lease_laws.proofs.server.cases.Tries.{IsWhole, any_break, any_wants}

-- While wants are met, a lease that is there and not breaking is what it was, or needed no
-- acknowledgment and still needs none.
pub record IsTracked (base : Server) (opens : List Open) (key : Key) (lease : Lease) : Type 0 where
  pub is_same : list_any (has_key key) opens ≡ true → is_breaking lease ≡ false
      → needs_acknowledgment lease.state ≡ true → lease ≡ base.leases key
  pub is_light : list_any (has_key key) opens ≡ true → is_breaking lease ≡ false
      → needs_acknowledgment lease.state ≡ false → needs_acknowledgment (base.leases key).state ≡ false

-- a server on the way from another by breaks alone
pub record IsUnder (base : Server) (server : Server) : Type 0 where
  pub tracked : (key : Key) → IsTracked base server.opens key (server.leases key)
  pub timers : (key : Key) → server.expired key ≡ base.expired key

-- a server is on the way from itself
pub under-itself : (server : Server) → IsUnder server server
under-itself server = grind arith

-- to drop opens goes on under it
pub opens_dropped-under : (base : Server) (test : Open → Bool) (progress : Progress) → IsUnder base progress.server
    → IsUnder base (opens_dropped test progress).server
opens_dropped-under base test progress u =
    let kept : List Open = filter (λ one. not (test one)) progress.server.opens in
    let was : (key : Key) → list_any (has_key key) kept ≡ true
    → list_any (has_key key) progress.server.opens ≡ true =
    λ key e. let x = any_has (has_key key) kept e in
    has_any (has_key key) x.0 progress.server.opens (among_filter (λ one. not (test one)) x.0 progress.server.opens x.1).0 x.2 in
    record {
      tracked = λ key. if_cases (λ l. IsTracked base kept key l) (list_any (has_key key) kept)
          (progress.server.leases key) no_lease
          (λ t. record {
            is_same = λ a b c. (u.tracked key).is_same (was key a) b c;
            is_light = λ a b c. (u.tracked key).is_light (was key a) b c;
          })
          (λ t. record {
            is_same = λ a b c. clash (list_any (has_key key) kept) a t;
            is_light = λ a b c. clash (list_any (has_key key) kept) a t;
          });
      timers = u.timers;
    }

-- to begin a break stays on the way by breaks alone
break_begun-under : (base : Server) (key : Key) (lowered : State) (progress : Progress) → IsUnder base progress.server
    → IsUnder base (break_begun key lowered progress).server
break_begun-under base key lowered progress u = record {
  tracked = λ k. put_key-cases (λ l. IsTracked base progress.server.opens k l) progress.server.leases key
      (record { state = (progress.server.leases key).state; broken_to = Some lowered }) k
      (λ same. record { is_same = λ a b c. absurd (true≢false b); is_light = λ a b c. absurd (true≢false b) })
      (λ e. u.tracked k);
  timers = u.timers;
}

-- to lower a lease at once stays on the way by breaks alone
lease_lowered-under : (base : Server) (key : Key) (lowered : State) (progress : Progress) → IsUnder base progress.server
    → needs_acknowledgment lowered ≡ false → needs_acknowledgment (base.leases key).state ≡ false
    → IsUnder base (lease_lowered key lowered progress).server
lease_lowered-under base key lowered progress u light was = record {
  tracked = λ k. put_key-cases (λ l. IsTracked base progress.server.opens k l) progress.server.leases key
      (record { state = lowered; broken_to = None }) k
      (λ same. record {
        is_same = λ a b c. clash (needs_acknowledgment lowered) c light;
        is_light = λ a b c. ap (λ x. needs_acknowledgment (base.leases x).state) same ∙ was;
      })
      (λ e. u.tracked k);
  timers = u.timers;
}

-- a part of what needs no acknowledgment needs none
pub light_part : (part state : State) → is_state_within part state ≡ true → needs_acknowledgment state ≡ false
    → needs_acknowledgment part ≡ false
light_part part state p light = grind arith

-- what needs no acknowledgment doesn't write
pub light_writeless : (state : State) → needs_acknowledgment state ≡ false → state.write ≡ false
light_writeless state light = grind arith

-- a call under way that keeps the laws, on the way from a server by breaks alone
pub record IsAlong (base : Server) (progress : Progress) : Type 0 where
  pub sound : IsSound progress.server
  pub under : IsUnder base progress.server

-- a lease is broken to what fits, once its disconnected opens are gone
lease_broken-along : (base : Server) (want : Want) (progress : Progress) → IsAlong base progress → Fits base want
    → ((one : Open) → Among one progress.server.opens → has_key want.key one ≡ true → one.connected ≡ true)
    → IsAlong base (lease_broken want.key want.lowered progress)
lease_broken-along base want progress i fits present =
    let may : IsWhole progress.server want.key → MayBreak progress.server want.key = λ whole. record {
      has_open = whole.there;
      is_timely = i.under.timers want.key ∙ fits.is_timely;
      is_present = present;
    } in
    let track = i.under.tracked want.key in
    any_break want.key want.lowered progress (IsAlong base) (record {
      stays = λ not. i;
      begins = λ whole needs. record {
        sound = break_begun-sound want.key want.lowered progress i.sound (may whole) needs (subst
            (λ l. IsLowered l.state want.lowered) (sym (track.is_same whole.there whole.settled needs)) fits.can_lower);
        under = break_begun-under base want.key want.lowered progress i.under;
      };
      lowers = λ whole light. let was = track.is_light whole.there whole.settled light in
          let lower = light_part want.lowered (base.leases want.key).state fits.can_lower.is_part was in record {
            sound = lease_lowered-sound want.key want.lowered progress i.sound (may whole) fits.can_lower.is_granted_form
                (light_writeless want.lowered lower);
            under = lease_lowered-under base want.key want.lowered progress i.under lower was;
          };
    })

-- once a key's disconnected opens are dropped, those that it has are connected
pub left_present : (key : Key) (progress : Progress) (one : Open)
    → Among one (opens_dropped (is_left_open key) progress).server.opens → has_key key one ≡ true → one.connected ≡ true
left_present key progress one a k = not_false one.connected (λ d.
    clash (is_left_open key one) (and_both (has_key key one) (not one.connected) k (ap not d))
    (not_parts (is_left_open key one) (among_filter (λ x. not (is_left_open key x)) one progress.server.opens a).1))

-- to meet a want keeps the laws, on the way by breaks alone
pub want_met-along : (base : Server) (want : Want) (progress : Progress) → IsAlong base progress
    → Fits base want → IsAlong base (want_met want progress)
want_met-along base want progress i fits = lease_broken-along base want (opens_dropped (is_left_open want.key) progress) (record {
  sound = opens_dropped-sound (is_left_open want.key) progress i.sound;
  under = opens_dropped-under base (is_left_open want.key) progress i.under;
}) fits (left_present want.key progress)

-- to meet wants keeps the laws, on the way by breaks alone
pub wants_met-along : (base : Server) (wants : List Want) (progress : Progress) → IsAlong base progress
    → AllFit base wants → IsAlong base (wants_met wants progress)
wants_met-along base wants progress i fit = any_wants
    (λ wants progress after. IsAlong base progress → AllFit base wants → IsAlong base after) (λ progress i fit. i)
    (λ want wants progress after rest i fit. rest (want_met-along base want progress i (fit want (inl refl)))
    (λ other a. fit other (inr a))) wants progress i fit

-- to meet wants that fit keeps the laws
pub wants_met-sound : (wants : List Want) (progress : Progress) → IsSound progress.server → AllFit progress.server wants
    → IsSound (wants_met wants progress).server
wants_met-sound wants progress s fit = (wants_met-along progress.server wants progress
    (record { sound = s; under = under-itself progress.server }) fit).sound
