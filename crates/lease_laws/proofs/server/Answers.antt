-- To answer a request that is ready, or an acknowledgment, keeps a server's laws.
use Rattle.lease_laws.proofs.Words.{◌==◌, ◌∙◌, ◌∷◌, ◌≡◌, Among, AreSound, Bool, FileRequest, IsSound, Key, Lease, LeaseOf, List}
use Rattle.std.proofs.Common.{arith}
use Rattle.lease_laws.proofs.Words.{None, Open, Option, Outcome, Progress, Some, State, Status, ℕ, [], acknowledged, ap, ap₂}
use Rattle.lease_laws.proofs.Words.{break_ended, concluded, cond, connected_again, false, granted_form_of, has_key}
use Rattle.lease_laws.proofs.Words.{has_lease, if◌then◌else◌, is_breaking, is_some, is_state_within, key_of, map}
use Rattle.lease_laws.proofs.Words.{reconnected, refl, refused, subst, sym, true, true≢false}
use Rattle.lease_laws.proofs.server.Grants.{granted_with-sound}
use Rattle.lease_laws.proofs.server.Keys.{is_key-one}
use Rattle.lease_laws.proofs.server.Leases.{put_sound}
use Rattle.lease_laws.proofs.server.Lists.{if_cases, clash, not_false}
use Rattle.lease_laws.proofs.server.Progress.{opens_dropped-sound}
use Rattle.lease_laws.proofs.server.Ready.{RequestFree, CreateFree}
use Rattle.lease_laws.proofs.server.States.{settled-lawful, granted_form_of-again, write_of_part}
use Rattle.lease_laws.proofs.server.Steps.{connection_sound, with_connection}
use Rattle.lease_laws.proofs.server.cases.Ends.{HasEnds, any_end}
use Rattle.lease_laws.proofs.server.cases.Judgements.{any_judgement}

-- maps by functions that agree are one
pub map_same : {X Y : Type 0} (f g : X → Y) (xs : List X) → ((x : X) → f x ≡ g x) → map f xs ≡ map g xs
map_same f g [] same = refl
map_same f g (x ∷ xs) same = ap₂ (λ y ys. y ∷ ys) (same x) (map_same f g xs same)

-- to choose between an open with another connection and itself is to choose its connection
pub choose_connection : (b : Bool) (up : Bool) (one : Open)
    → cond b (record one { connected = up }) one ≡ record one { connected = cond b up one.connected }
choose_connection b up one = grind arith

-- an open connected again, as an open with another connection
again_connection : (file_id : ℕ) (one : Open)
    → connected_again file_id one ≡ with_connection (λ x. if x.file_id == file_id then true else x.connected) one
again_connection file_id one = choose_connection (one.file_id == file_id) true one

-- a reconnect keeps the laws
reconnected-sound : (client file : ℕ) (asked : Option LeaseOf) (file_id : ℕ) (progress : Progress) → IsSound progress.server
    → IsSound (reconnected client file asked file_id progress).server
reconnected-sound client file asked file_id progress s =
    let up : Open → Bool = λ x. if x.file_id == file_id then true else x.connected in
    subst (λ opens. AreSound opens progress.server.leases progress.server.expired progress.server.last_id)
    (sym (map_same (connected_again file_id) (with_connection up) progress.server.opens (again_connection file_id)))
    (connection_sound up progress.server.opens progress.server.leases progress.server.expired progress.server.last_id s
    (λ one a d. s.disconnected one a
    (if_cases (λ b. b ≡ false → one.connected ≡ false) (one.file_id == file_id) true one.connected
    (λ e never. absurd (true≢false never)) (λ e same. same) d)))

-- a refusal keeps the laws
pub refused-sound : (client : ℕ) (request : FileRequest) (status : Status) (progress : Progress)
    → IsSound progress.server → IsSound (refused client request status progress).server
refused-sound client request status progress s = s

-- the end of a try
ends_sound : (client : ℕ) (progress : Progress) → IsSound progress.server
    → HasEnds client progress (λ request outcome after. (outcome ≡ Outcome.Ready
    → RequestFree progress.server client request) → IsSound after.server)
ends_sound client progress s = record {
  refused = λ request status free. s;
  left = λ request outcome why free. s;
  full = λ file access share ask none out free. s;
  granted = λ file access share ask none room free. granted_with-sound client file access share ask.lease ask.durable
      progress s (subst (CreateFree progress.server client file access share ask.lease) none (free refl));
  again = λ file access share ask file_id some free. reconnected-sound client file ask.lease file_id progress s;
  read = λ file_id one own free. s;
  changed = λ file_id number patch one own free. s;
  closed = λ file_id one own free. opens_dropped-sound (λ other. other.file_id == file_id) progress s;
}

pub concluded-sound : (client : ℕ) (request : FileRequest) (progress : Progress) (outcome : Outcome)
    → IsSound progress.server → (outcome ≡ Outcome.Ready → RequestFree progress.server client request)
    → IsSound (concluded client request progress outcome).server
concluded-sound client request progress outcome s = any_end client progress _ (ends_sound client progress s) request outcome

-- no open of a breaking lease is without its connection
pub breaking_present : (opens : List Open) (leases : Key → Lease) (expired : Key → Bool) (last_id : ℕ) (key : Key) (one : Open)
    → AreSound opens leases expired last_id → is_breaking (leases key) ≡ true → Among one opens
    → has_key key one ≡ true → one.connected ≡ true
breaking_present opens leases expired last_id key one s b a k = not_false one.connected (λ d.
    let l = s.disconnected one a d in
    clash (is_breaking (leases key)) b (ap (λ x. is_breaking (leases x))
    (is_key-one key l.key one.client one.lease_key k l.has_the_key) ∙ l.is_settled))

-- the granted form of a part writes only where the whole does
part_form_write : (state lowered : State) → is_state_within state lowered ≡ true
    → (granted_form_of state).write ≡ true → lowered.write ≡ true
part_form_write state lowered part w = grind arith

-- an acknowledgment of a part of the state broken to
break_ended-sound : (key : Key) (state lowered : State) (progress : Progress) → IsSound progress.server
    → has_lease progress.server key ≡ true → (progress.server.leases key).broken_to ≡ Some lowered
    → is_state_within state lowered ≡ true → IsSound (break_ended key state progress).server
break_ended-sound key state lowered progress s there broken part =
    let breaking : is_breaking (progress.server.leases key) ≡ true = ap is_some broken in
    let so = (s.lawful key).is_broken_so lowered broken in
    put_sound progress.server.opens progress.server.leases progress.server.expired progress.server.last_id key
    (record { state = granted_form_of state; broken_to = None }) s there
    (λ out. clash (is_breaking (progress.server.leases key)) breaking (ap is_breaking (s.timed_out key out))) (record {
      is_lawful = settled-lawful (granted_form_of state) (granted_form_of-again state);
      is_alone = λ one other w a k b f. s.one_writer key one other
          (write_of_part lowered (progress.server.leases key).state so.is_part (part_form_write state lowered part w)) a k b f;
      lasts = λ one a k d. clash one.connected
          (breaking_present progress.server.opens progress.server.leases progress.server.expired
          progress.server.last_id key one s breaking a k) d;
    })

-- any acknowledgment
pub acknowledged-sound : (client : ℕ) (given : Option LeaseOf) (progress : Progress) → IsSound progress.server
    → IsSound (acknowledged client given progress).server
acknowledged-sound client given progress s = any_judgement client progress (λ given after. IsSound after.server) (record {
  failed = λ given why. s;
  ended = λ g lowered there breaks within. break_ended-sound (key_of client g.key) g.state lowered progress s there breaks within;
}) given
