-- An open that is gone never comes back: FileIds are never given again.
use Rattle.lease_laws.proofs.Words.{◌++◌, ◌+◌, ◌==◌, ◌∙◌, ◌∷◌, ◌≡◌, ◌≢◌, ◌≤◌, Among, Bool, List, None, Open, Option, Server}
use Rattle.lease_laws.proofs.Words.{Some, Step, World, ℕ, [], ⊎_elim, after, ap, arith, commanded, connected_again}
use Rattle.lease_laws.proofs.Words.{connected_open, connection_made, disconnected, false, first_world_under, has_key, is_left_behind}
use Rattle.lease_laws.proofs.Words.{is_lost, lease_after, machine_key, map, new_open, not, noticed, refl, stepped_in, subst}
use Rattle.lease_laws.proofs.Words.{sym, taken, true, with_opens, without}
use Rattle.lease_laws.proofs.server.Lists.{among_append, among_filter, among_map, if_cases}
use Rattle.lease_laws.proofs.server.cases.Ends.{found_open}
use Rattle.lease_laws.proofs.world.FileIds.{run_counted}
use Rattle.lease_laws.proofs.world.Runs.{stepped_server}
use Rattle.lease_coherence.specs.Agreement.{ClosedOpensStayClosed}
use Rattle.lease_coherence.proofs.layers.AllRuns.{layers_carried, run_layers}
use Rattle.lease_coherence.proofs.layers.Layers.{HasLayers}
use Rattle.lease_coherence.proofs.moves.Deeds.{HasDeeds, IsSource, step_deed}
use Rattle.lease_coherence.proofs.moves.Events.{Both, IsMoved, Move, after_moves, carried_both, come_back, reply_gone}
use Rattle.lease_coherence.proofs.moves.Frames.{from_source, lease_put_rest}

-- no open has a FileId that was given
pub record IsGoneFrom (id : ℕ) (server : Server) : Type 0 where
  pub given : id ≤ server.last_id
  pub none : (one : Open) → Among one server.opens → one.file_id ≢ id

abbrev IsGone : ℕ → World → Type 0
IsGone id world = IsGoneFrom id world.server

same_gone : (id : ℕ) (server new : Server) → server.last_id ≤ new.last_id
    → ((one : Open) → Among one new.opens → (y : Open) × (Among y server.opens) × (y.file_id ≡ one.file_id))
    → IsGoneFrom id server → IsGoneFrom id new
same_gone id server new low from g = record {
  given = omega (arith, g.given, low);
  none = λ one there e. let y = from one there in g.none y.0 y.1 (y.2 ∙ e);
}

itself : (n : ℕ) → n ≤ n
itself n = omega arith

fewer_gone : (id : ℕ) (server : Server) (test : Open → Bool) → IsGoneFrom id server
    → IsGoneFrom id (with_opens server (without test server.opens))
fewer_gone id server test g = same_gone id server (with_opens server (without test server.opens)) (itself server.last_id)
    (λ one there. (one, (among_filter (λ o. not (test o)) one server.opens there).0, refl)) g

off_gone : (id : ℕ) (world off : World) (c : ℕ) (request : _) → IsSource world off c request → IsGone id world → IsGone id off
off_gone id world off c request source g = from_source world off c request (λ o. IsGone id o) source g
    (λ file left. record { given = g.given; none = g.none })

changed_by : (f : Open → Open) → ((x : Open) → (f x).file_id ≡ x.file_id) → (opens : List Open) (one : Open)
    → Among one (map f opens) → (y : Open) × (Among y opens) × (y.file_id ≡ one.file_id)
changed_by f same opens one there = let m = among_map f one opens there in
    (m.0, m.1, sym (same m.0) ∙ ap (λ (o : Open). o.file_id) (sym m.2))

again_same : (id : ℕ) (x : Open) → (connected_again id x).file_id ≡ x.file_id
again_same id x = if_cases (λ (o : Open). o.file_id ≡ x.file_id) (x.file_id == id) (record x { connected = true }) x
    (λ here. refl) (λ there. refl)

lost_same : (c : ℕ) (x : Open) → (disconnected c x).file_id ≡ x.file_id
lost_same c x = if_cases (λ (o : Open). o.file_id ≡ x.file_id) (x.client == c) (record x { connected = false }) x
    (λ here. refl) (λ there. refl)

deeds_gone : (id : ℕ) (world : World) → IsGone id world → HasDeeds world (IsGone id)
deeds_gone id world g = record {
  refused = λ off c request status source may. off_gone id world off c request source g;
  full = λ off c file access share ask source. off_gone id world off c _ source g;
  granted = λ off c file access share ask source none on free.
      let was = off_gone id world off c _ source g in
      let lease = lease_after off.server c file ask.lease in
      lease_put_rest off.server c ask.lease lease
      (λ s. IsGoneFrom id (record s {
        opens = off.server.opens ++ new_open off.server c file access share ask.lease ask.durable lease ∷ [];
        last_id = off.server.last_id + 1;
      }))
      (λ leases. record {
        given = omega (arith, was.given);
        none = λ one there e. ⊎_elim (λ old. was.none one old e)
            (λ last. ⊎_elim (λ new. omega (arith, was.given, sym e ∙ ap (λ (o : Open). o.file_id) new)) (λ none. none) last)
            (among_append one off.server.opens (new_open off.server c file access share ask.lease ask.durable lease ∷ []) there);
      });
  reconnected = λ off c file access share ask file_id source again on waits.
      let was = off_gone id world off c _ source g in
      same_gone id off.server (record off.server { opens = map (connected_again file_id) off.server.opens })
      (itself off.server.last_id) (λ one there. changed_by (connected_again file_id) (again_same file_id) off.server.opens one
      there) was;
  read = λ off c file_id one source found may. off_gone id world off c _ source g;
  changed = λ off c file_id number patch one source found may. let was = off_gone id world off c _ source g in
      record { given = was.given; none = was.none };
  closed = λ off c file_id one source found.
      fewer_gone id off.server (λ other. other.file_id == file_id) (off_gone id world off c _ source g);
  ack_failed = λ c given status oldest up why. g;
  ack_done = λ c given lowered oldest up there breaks within. record { given = g.given; none = g.none };
  hold = λ file one oldest may turn. record { given = g.given; none = g.none };
  drop = λ key. fewer_gone id world.server _ g;
  lower = λ key lowered may light. record { given = g.given; none = g.none };
  begin = λ key lowered may heavy. record { given = g.given; none = g.none };
}

stepped_gone : (id : ℕ) (world : World) (c : ℕ) (step : Step) → IsGone id world → IsGone id (stepped_in world c step)
stepped_gone id world c step g = subst (IsGoneFrom id) (sym (stepped_server world c step)) g

gone_moves : (id : ℕ) → IsMoved HasLayers (IsGone id)
gone_moves id world (Move.Told c fact) is v g = g
gone_moves id world (Move.Step step) next v g = step_deed world (IsGone id) (deeds_gone id world g) step next
gone_moves id world (Move.Cut c) up v g = let left = fewer_gone id world.server (is_lost world.server c) g in
    same_gone id (with_opens world.server (without (is_lost world.server c) world.server.opens)) _ (itself world.server.last_id)
    (λ one there. changed_by (disconnected c) (lost_same c) (without (is_lost world.server c) world.server.opens) one there) left
gone_moves id world (Move.Expire c file) (on, breaks) v g =
    let left = fewer_gone id world.server (has_key (machine_key world c file)) g in
    record { given = left.given; none = left.none }
gone_moves id world (Move.Scavenge file_id) may v g = fewer_gone id world.server (is_left_behind file_id) g
gone_moves id world (Move.Connect c) down v g = stepped_gone id (come_back world c) c (connection_made (world.clients c))
    (record { given = g.given; none = g.none })
gone_moves id world (Move.Commanded c command) may v g = stepped_gone id world c (commanded (world.clients c) command) g
gone_moves id world (Move.Take c reply queue) first v g =
    stepped_gone id (reply_gone world c queue) c (taken (world.clients c) reply) g
gone_moves id world (Move.Notice c) cut v g = stepped_gone id _ c (noticed (world.clients c)) g
gone_moves id world (Move.Stray c request) up v g = g

pub closed_opens_stay_closed : ClosedOpensStayClosed
closed_opens_stay_closed rules setup events more client id given none =
    let world = after (first_world_under rules setup) events in
    let g = (after_moves (Both HasLayers (IsGone id)) (λ w v. v.0.ground)
    (carried_both HasLayers (IsGone id) layers_carried (gone_moves id)) world more (run_counted rules setup events)
    (run_layers rules setup events, record { given = given; none = none })).1 in
    by_found (after world more).server g (connected_open (after world more).server client id) refl
  where
    by_found : (server : Server) → IsGoneFrom id server → (found : Option Open) → connected_open server client id ≡ found
        → found ≡ None
    by_found server g None e = refl
    by_found server g (Some one) e = let own = found_open server client id one e in
        absurd (g.none one own.there own.id)
