-- At every point of a run that its events reach, one client caches writes of a file.
use Rattle.lease_laws.proofs.Words.{◌∙◌, ◌≡◌, ◌≢◌, LiveEntry, OneWriteCache, Phase, State, World, ℕ, ⊎_elim, ap, belief}
use Rattle.lease_laws.proofs.Words.{belief_in, false, has_strayed, is_good, is_served, is_up, machine_key, not, nothing_cached}
use Rattle.lease_laws.proofs.Words.{refl, subst, sym, true, true≢false}
use Rattle.lease_laws.proofs.server.Lists.{and_parts, clash, not_parts}
use Rattle.lease_laws.proofs.world.Beliefs.{Agrees}
use Rattle.lease_laws.proofs.world.Timers.{IsTimely, unexpired}
use Rattle.lease_coherence.specs.Standing.{IsOpenFor, IsStandingAt, PhaseStands}
use Rattle.lease_coherence.proofs.beliefs.Trust.{open_has_key}
use Rattle.lease_coherence.proofs.layers.Layers.{HasLayers}
use Rattle.lease_coherence.proofs.moves.Foreign.{key_client}

-- ---- two clients in one world

-- the open of a live entry
live_open : (world : World) (c file : ℕ) (live : LiveEntry) → ((world.clients c).entries file).phase ≡ Phase.Live live
    → world.server.expired (machine_key world c file) ≡ false → IsStandingAt world c → IsOpenFor world c file live.file_id
live_open world c file live is fresh s = by_parts (subst (PhaseStands world c file) is (s.phases file))
  where
    by_parts : PhaseStands world c file (Phase.Live live) → IsOpenFor world c file live.file_id
    by_parts p = ⊎_elim (λ out. clash (world.server.expired (machine_key world c file)) out fresh) (λ o. o) p.0

writer_live : (phase : Phase) → (belief_in phase).write ≡ true → (live : LiveEntry) × (phase ≡ Phase.Live live)
writer_live (Phase.Live live) w = (live, refl)
writer_live phase w = absurd (true≢false (sym w))

never_live : (phase : Phase) → ((live : LiveEntry) → phase ≡ Phase.Live live → ⊥) → belief_in phase ≡ nothing_cached
never_live (Phase.Live live) never = absurd (never live refl)
never_live phase never = refl

pub one_writer : (world : World) → HasLayers world → (file c other : ℕ) → other ≢ c
    → has_strayed c world.past ≡ false → is_up (world.links c) ≡ true
    → world.server.expired (machine_key world c file) ≡ false → (belief (world.clients c) file).write ≡ true
    → has_strayed other world.past ≡ false → is_up (world.links other) ≡ true
    → world.server.expired (machine_key world other file) ≡ false → belief (world.clients other) file ≡ nothing_cached
one_writer world v file c other ne good up fresh w fine on unexpired =
    let writer = writer_live ((world.clients c).entries file).phase w in
    let mine = live_open world c file writer.0 writer.1 fresh (v.opens c good up) in
    let n = v.named c good in
    let has = open_has_key world c file (writer.0).file_id mine (n.opens mine.one mine.there mine.by) in
    let trusted = (v.beliefs c good up).files file fresh in
    let held = trusted.explained.believed.own writer.0 writer.1 (subst (λ p. (belief_in p).write ≡ true) writer.1 w) in
    never_live ((world.clients other).entries file).phase (λ live is.
    let theirs = live_open world other file live is unexpired (v.opens other fine on) in
    ne (sym theirs.by ∙ sym (key_client (machine_key world c file) theirs.one
    (v.ground.fine.sound.one_writer (machine_key world c file) mine.one theirs.one held.1 mine.there has theirs.there
    (theirs.on_file ∙ sym mine.on_file)))))

-- ---- where no timer of a client that is served ran out, and the record has what clients believe

pub one_write_cache : (world : World) → HasLayers world → IsTimely world → Agrees world → OneWriteCache world.past
unfolding is_good
one_write_cache world v t a file client other ne good w fine =
    let parts = and_parts (not (has_strayed client world.past)) (is_served client world.past) good in
    let others = and_parts (not (has_strayed other world.past)) (is_served other world.past) fine in
    a.agrees other file ∙ one_writer world v file client other ne (not_parts (has_strayed client world.past) parts.0)
    ((v.ground.tied client).served parts.1) (unexpired world t client file parts.1)
    (ap (λ (s : State). s.write) (sym (a.agrees client file)) ∙ w)
    (not_parts (has_strayed other world.past) others.0) ((v.ground.tied other).served others.1)
    (unexpired world t other file others.1)
