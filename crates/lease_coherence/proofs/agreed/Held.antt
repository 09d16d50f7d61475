-- Where a client's lease holds writes, nothing that it asks of the file is held; and no write that is held was buffered.
use Rattle.lease_laws.proofs.Words.{◌==◌, ◌∙◌, ◌≡◌, Among, FileRequest, Held, IsSound, Lease, Open, Patch, Request, WaitsWell}
use Rattle.lease_laws.proofs.Words.{World, ℕ, [], after, ap, eqb-true, first_world_under, has_buffered, has_key, list_any}
use Rattle.lease_laws.proofs.Words.{machine_key, subst, sym, true}
use Rattle.lease_laws.proofs.Words.{HasToWait}
use Rattle.lease_laws.proofs.server.Lists.{among_filter, any_has, clash, either, not_true}
use Rattle.lease_laws.proofs.server.Lists.{has_any}
use Rattle.lease_laws.proofs.world.Runs.{servers_of_runs}
use Rattle.lease_coherence.specs.Agreement.{BelieversAreNotHeld, HeldWritesAreThrough, OfAllowedRuns, Timely, WritersAreNotHeld}
use Rattle.lease_coherence.specs.Agreement.{lease_of_client}
use Rattle.lease_coherence.specs.Creates.{held_by}
use Rattle.lease_coherence.specs.Names.{IsNamedAt, IsNamedOnFile, WasWrittenOn}
use Rattle.lease_coherence.specs.Parts.{OfRuns}
use Rattle.lease_coherence.specs.Standing.{IsOpenFor}
use Rattle.lease_coherence.proofs.agreed.Flushed.{buffered_open, of_held}
use Rattle.lease_coherence.proofs.late.Facts.{run_late}
use Rattle.lease_coherence.proofs.late.Held.{about_asks, none_waits}
use Rattle.lease_coherence.proofs.late.SafeWrites.{HeldPlain}
use Rattle.lease_coherence.proofs.names.NamedInRecord.{none_pass}
use Rattle.lease_coherence.proofs.layers.AllRuns.{run_layers}
use Rattle.lease_coherence.proofs.order.OrderedRequests.{WriteStands, WriteStandsOn, first_among, first_of, first_waits_behind_none}
use Rattle.lease_coherence.proofs.told.Moves.{open_place}
use Rattle.lease_coherence.proofs.writes.Answered.{names_of}

-- a lease that holds writes has an open
writing_open : (server : _) (key : _) → IsSound server → (server.leases key).state.write ≡ true
    → (x : Open) × (Among x server.opens) × (has_key key x ≡ true)
writing_open server key sound writes = either (list_any (has_key key) server.opens)
    (λ some. any_has (has_key key) server.opens some)
    (λ none. clash (server.leases key).state.write writes (ap (λ (l : Lease). l.state.write) (sound.no_open key none)))

none_held : (world : World) (c file : ℕ) → IsSound world.server → WaitsWell world.server → IsNamedAt world c
    → (lease_of_client world c file).state.write ≡ true → held_by c (world.server.held file) ≡ []
none_held world c file sound waits names writes = none_pass (λ x. x.client == c) (world.server.held file)
    (λ x a. not_true (x.client == c) (λ own. never (has_any (λ (y : Held). y.client == c) x (world.server.held file) a own)))
  where
    never : list_any (λ (x : Held). x.client == c) (world.server.held file) ≡ true → ⊥
    never some =
        let x = writing_open world.server (machine_key world c file) sound writes in
        let place = open_place world c file x.0 (names.opens x.0 x.1) x.2 in
        let first = first_of c (world.server.held file) some in
        let y = first.one in
        let there = first_among c (world.server.held file) first in
        none_waits world c sound names file x.0 x.1 place.0 place.1 writes y.request (names.held file y there first.own).named
        (about_asks world file y.request (waits.is_orderly.held_about file y there))
        (subst (λ d. HasToWait world.server d y.request) first.own (waits.all_wait file first.before y first.behind first.split
        (first_waits_behind_none world.server.rules c (world.server.held file) first)))

pub writers_are_not_held : OfRuns WritersAreNotHeld
writers_are_not_held rules setup events c good file writes =
    let world = after (first_world_under rules setup) events in
    let v = run_layers rules setup events in
    let s = servers_of_runs rules setup events in
    none_held world c file s.0 s.1 (v.named c good) writes

pub believers_are_not_held : OfRuns (Timely BelieversAreNotHeld)
believers_are_not_held rules setup events c good up file fresh live is writes =
    let b = (((run_layers rules setup events).beliefs c good up).files file fresh).explained.believed in
    writers_are_not_held rules setup events c good file (b.own live is writes).1

pub held_writes_are_through : OfAllowedRuns (Timely HeldWritesAreThrough)
held_writes_are_through rules setup events c allowed good up file fresh id number patch there =
    let world = after (first_world_under rules setup) events in
    let v = (run_late rules setup events allowed).0 in
    let names = names_of world v c good in
    let held = of_held (FileRequest.Write id number patch) (held_by c (world.server.held file)) there in
    let one = held.0 in
    let in_held = among_filter (λ (x : Held). x.client == c) one (world.server.held file) held.1 in
    let by = eqb-true one.client c in_held.1 in
    let named : WasWrittenOn c id number patch world.past =
    subst (IsNamedOnFile c (world.clients c).guid world.past) held.2 (names.held file one in_held.0 by).named in
    let stands : WriteStandsOn world c id = subst (λ r. WriteStands world c (Request.OnFile r)) held.2
    ((v.order c good up).stands.held file one in_held.0 by) in
    let plain : HeldPlain world c (Request.OnFile (FileRequest.Write id number patch)) =
    subst (λ r. HeldPlain world c (Request.OnFile r)) held.2 (((v.late c good).up up).held file one in_held.0 by) in
    not_true (has_buffered c file number world.past) (λ b. through world c file id number patch plain
    (buffered_open world c file id number patch v.well fresh named stands b) b)
  where
    through : (world : World) (c file id number : ℕ) (patch : Patch)
        → HeldPlain world c (Request.OnFile (FileRequest.Write id number patch)) → IsOpenFor world c file id
        → has_buffered c file number world.past ≡ true → ⊥
    through world c file id number patch plain o b = clash (has_buffered c file number world.past) b
        (ap (λ f. has_buffered c f number world.past) (sym o.on_file) ∙ plain o.one o.there o.by o.id)
