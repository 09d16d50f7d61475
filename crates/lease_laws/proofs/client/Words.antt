-- Words on tests, tables and writes, and what becomes of one entry of a client.
use Rattle.lease_laws.proofs.Words.{◌++◌, ◌==◌, ◌∷◌, ◌≡◌, ◌≤◌, Bool, Client, IsSoundEntry, IsSoundPhase, List, None}
use Rattle.lease_laws.proofs.Words.{Option, Pending, Phase, Some, State, ℕ, [], are_buffered, arith, base_with, false, filter}
use Rattle.lease_laws.proofs.Words.{gives_up, if◌then◌else◌, nat_lt, one_handle_less, phase_with, put, refl, sent_without}
use Rattle.lease_laws.proofs.Words.{subst, true}
use Rattle.lease_laws.proofs.server.Lists.{if_cases, and_parts, and_both}

-- ---- words on tables, tests and lists

-- what holds of both branches holds of the choice
pub if_either : {X : Type 0} (P : X → Type 0) (b : Bool) (x y : X) → P x → P y → P (if b then x else y)
if_either P b x y p q = grind arith

-- what holds of a table and of a new value holds of the table with the value put in
pub put_each : {X : Type 0} (P : X → Type 0) (table : ℕ → X) (place : ℕ) (x : X) → P x → ((n : ℕ) → P (table n))
    → (n : ℕ) → P (put table place x n)
unfolding put
put_each P table place x new old n = if_either P (n == place) x (table n) new (old n)

-- writes joined from buffered ones are buffered
pub joined_buffered : (xs ys : List Pending) → are_buffered xs ≡ true → are_buffered ys ≡ true → are_buffered (xs ++ ys) ≡ true
joined_buffered [] ys x y = y
joined_buffered (w ∷ xs) ys x y = and_both _ _ (and_parts _ _ x).0 (joined_buffered xs ys (and_parts _ _ x).1 y)

-- the buffered ones of some writes are buffered
pub filter_buffered : (xs : List Pending) → are_buffered (filter (λ write. write.buffered) xs) ≡ true
filter_buffered [] = refl
filter_buffered (w ∷ xs) = if_cases (λ (l : List Pending). are_buffered l ≡ true) w.buffered
    (w ∷ filter (λ write. write.buffered) xs) (filter (λ write. write.buffered) xs)
    (λ b. and_both _ _ b (filter_buffered xs)) (λ b. filter_buffered xs)

-- of no writes, none is taken away
pub sent_without-none : (number : ℕ) (sent : List Pending) → sent ≡ [] → sent_without number sent ≡ []
unfolding sent_without
sent_without-none number sent e = grind arith

-- some handle is at least one
pub some_handle : (handles : ℕ) → (handles == 0) ≡ false → 1 ≤ handles
some_handle handles e = grind arith

-- one less than more than one is at least one
pub one_less_still : (handles : ℕ) → nat_lt 1 handles ≡ true → 1 ≤ one_handle_less handles
one_less_still handles e = grind arith

-- ---- one entry

-- the part of the laws that speaks of one entry
abbrev pub HasSoundEntries : Client → Type 0
HasSoundEntries client = (file : ℕ) → IsSoundEntry client.is_online (client.entries file)

pub sound_as : (client : Client) → HasSoundEntries client → (file : ℕ) (phase : Phase)
    → (client.entries file).phase ≡ phase → IsSoundPhase client.is_online (client.entries file).sent phase
sound_as client sound file phase is = subst (IsSoundPhase client.is_online (client.entries file).sent) is (sound file)

-- no base is patched where there is none
pub base_with-none : (write : Option Pending) (base : Option (List ℕ)) → base ≡ None → base_with write base ≡ None
base_with-none write base e = grind arith

-- a base that is kept only under R is none without R
pub kept_under : (b : Bool) (base : Option (List ℕ)) → b ≡ false → (if b then base else None) ≡ None
kept_under b base e = grind arith

-- bytes become the base only under R
pub read_under : (b : Bool) (bytes : List ℕ) (base : Option (List ℕ)) → (b ≡ false → base ≡ None) → b ≡ false
    → (if b then Some bytes else base) ≡ None
read_under b bytes base old e = grind arith

-- without W, nothing stays unsent at a break
pub unflushed-none : (old new : State) (unsent : List Pending) → (old.write ≡ false → unsent ≡ []) → new.write ≡ false
    → (if gives_up old new then [] else unsent) ≡ []
unflushed-none old new unsent law lowered = grind arith

-- what was kept is unsent again only under W
pub again_under : (b : Bool) (kept : List Pending) → b ≡ false → (if b then kept else []) ≡ []
again_under b kept e = grind arith

-- a write that is answered leaves a sound entry
pub done_sound : (connected : Bool) (number : ℕ) (write : Option Pending) (sent : List Pending) (phase : Phase)
    → IsSoundPhase connected sent phase → IsSoundPhase connected (sent_without number sent) (phase_with write phase)
done_sound connected number write sent Phase.Closed s = λ away. sent_without-none number sent (s away)
done_sound connected number write sent (Phase.Opening access share) s = s
done_sound connected number write sent (Phase.Live live) s = (
  s.0,
  record {
    base_under_reads = λ r. base_with-none write live.base (s.1.base_under_reads r);
    unsent_under_writes = s.1.unsent_under_writes;
    unsent_buffered = s.1.unsent_buffered;
    asking_with_handles = s.1.asking_with_handles;
  },
)
done_sound connected number write sent phase s = (s.0, sent_without-none number sent s.1, s.2)
