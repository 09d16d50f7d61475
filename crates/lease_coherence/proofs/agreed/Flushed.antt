-- Buffered writes go before what gives them up, and what was kept is untouched.
use Rattle.lease_laws.proofs.Words.{◌++◌, ◌+◌, ◌==◌, ◌∙◌, ◌∷◌, ◌≡◌, ◌⊎◌, Among, FileRequest, Held, IsSoundPhase, Link, List}
use Rattle.lease_laws.proofs.Words.{LiveEntry, None, Patch, Phase, Request, Some, State, World, ℕ, [], ⊎_elim, after, ap, arith}
use Rattle.lease_laws.proofs.Words.{bytes_eq, bytes_eq-Decides, eqb-true, false, first_world_under, has_buffered, has_strayed, inl}
use Rattle.lease_laws.proofs.Words.{inr, is_down, is_up, machine_key, not, refl, subst, sym, true, true≢false, unsent_in}
use Rattle.lease_laws.proofs.server.Lists.{among_append, among_behind, among_filter, clash, either, not_true}
use Rattle.lease_coherence.specs.Agreement.{FlushedBeforeAcknowledgments, FlushedBeforeCloses, KeptIsUntouched, NoneBuffered}
use Rattle.lease_coherence.specs.Agreement.{OfAllowedRuns, Timely, acknowledgment_of, as_requests, asked_of, touched_since_lost}
use Rattle.lease_coherence.specs.Creates.{held_by, one_if}
use Rattle.lease_coherence.specs.Names.{Each, IsNamedAt, IsNamedRequest, WasWrittenOn}
use Rattle.lease_coherence.specs.Parts.{OfRuns}
use Rattle.lease_coherence.specs.Standing.{IsNoClose, IsOpenFor, NotClosed, PhaseStands}
use Rattle.lease_coherence.proofs.agreed.Breaks.{each_one}
use Rattle.lease_coherence.proofs.beliefs.OneLease.{AckKeeps, acks}
use Rattle.lease_coherence.proofs.beliefs.Trust.{file_key}
use Rattle.lease_coherence.proofs.fresh.Clients.{sound_live}
use Rattle.lease_coherence.proofs.late.Facts.{run_late}
use Rattle.lease_coherence.proofs.late.SafeWrites.{AcksKeep, NotBuffered}
use Rattle.lease_coherence.proofs.late.WritesStaySafe.{ground_in}
use Rattle.lease_coherence.proofs.layers.Layers.{HasRecord}
use Rattle.lease_coherence.proofs.names.NamedInRecord.{opened_once}
use Rattle.lease_coherence.proofs.order.OrderedRequests.{AreOrdered, IsInOrder, IsNoWrite, WriteStands, WriteStandsOn}
use Rattle.lease_coherence.proofs.order.OrderedRequests.{ordered_behind}
use Rattle.lease_coherence.proofs.parted.FilesStayUntouched.{run_parted}
use Rattle.lease_coherence.proofs.parted.UntouchedFiles.{PhaseUntouched}
use Rattle.lease_coherence.proofs.records.Once.{buffered_written, written_once}
use Rattle.lease_coherence.proofs.wellformed.WellFormed.{IsWell}
use Rattle.lease_coherence.proofs.writes.Answered.{names_of}

-- ---- writes on their way

-- the open of a buffered write of the file is there, while the file's timer didn't run out
pub buffered_open : (world : World) (c file id number : ℕ) (patch : Patch) → IsWell world
    → world.server.expired (machine_key world c file) ≡ false → WasWrittenOn c id number patch world.past
    → WriteStandsOn world c id → has_buffered c file number world.past ≡ true → IsOpenFor world c file id
buffered_open world c file id number patch well fresh named stands b =
    let w = buffered_written c file number world.past b in
    let same : stands.file ≡ file = opened_once id stands.file c named.file c world.past stands.opened named.opened
    ∙ (written_once c named.file file number patch w.0 world.past well.facts named.written w.1).file_is in
    ⊎_elim (λ out. clash (world.server.expired (machine_key world c file))
    (ap (λ f. world.server.expired (machine_key world c f)) (sym same) ∙ out) fresh)
    (λ o. subst (λ f. IsOpenFor world c f id) same o) stands.stands

-- ---- acknowledgments

keeps_behind : (world : World) (c : ℕ) (before behind : List Request) → AcksKeep world c (before ++ behind)
    → AcksKeep world c behind
keeps_behind world c [] behind k = k
keeps_behind world c (Request.OnFile request ∷ before) behind k = keeps_behind world c before behind k
keeps_behind world c (Request.Acknowledge given ∷ before) behind k = keeps_behind world c before behind k.1

none_buffered : (world : World) (c file : ℕ) (behind : List Request) → Each (NotBuffered world c file) behind
    → ((request : Request) → Among request behind → Among request (world.requests c)) → IsWell world → IsNamedAt world c
    → IsInOrder world c → world.server.expired (machine_key world c file) ≡ false → NoneBuffered world c file behind
none_buffered world c file behind each inside well names order fresh id number patch there =
    let write = Request.OnFile (FileRequest.Write id number patch) in
    not_true (has_buffered c file number world.past) (λ b.
    let o = buffered_open world c file id number patch well fresh
    (named (each_one (IsNamedRequest c (world.clients c).guid world.past) (world.requests c) write names.requests
    (inside write there)))
    (standing (each_one (WriteStands world c) (world.requests c) write order.stands.queued (inside write there))) b in
    clash (has_buffered c file number world.past) b (written (each_one (NotBuffered world c file) behind write each there) o))
  where
    named : IsNamedRequest c (world.clients c).guid world.past (Request.OnFile (FileRequest.Write id number patch))
        → WasWrittenOn c id number patch world.past
    named w = w

    standing : WriteStands world c (Request.OnFile (FileRequest.Write id number patch)) → WriteStandsOn world c id
    standing s = s

    written : NotBuffered world c file (Request.OnFile (FileRequest.Write id number patch)) → IsOpenFor world c file id
        → has_buffered c file number world.past ≡ false
    written n o = n o.one o.there o.by o.id o.on_file

-- an acknowledgment of the key stands in the queue
some_ack : (key : List ℕ) (state : State) (before behind : List Request)
    → Each (AckKeeps key) (before ++ acknowledgment_of key state ∷ behind) → state.write ≡ true
some_ack key state [] behind each = ((each.0) ((bytes_eq-Decides key key).1 refl)).0
some_ack key state (request ∷ before) behind each = some_ack key state before behind each.1

never_zero : (key : List ℕ) (state : State) (before behind : List Request)
    → acks key (before ++ acknowledgment_of key state ∷ behind) ≡ 0 → ⊥
never_zero key state [] behind e = omega (
  arith,
  ap (λ b. one_if b + acks key behind) (sym ((bytes_eq-Decides key key).1 refl)) ∙ e,
)
never_zero key state (Request.OnFile request ∷ before) behind e =
    never_zero key state before behind (right 0 (acks key (before ++ acknowledgment_of key state ∷ behind)) e)
  where
    right : (a b : ℕ) → a + b ≡ 0 → b ≡ 0
    right a b e = omega (arith, e)
never_zero key state (Request.Acknowledge None ∷ before) behind e =
    never_zero key state before behind (right 0 (acks key (before ++ acknowledgment_of key state ∷ behind)) e)
  where
    right : (a b : ℕ) → a + b ≡ 0 → b ≡ 0
    right a b e = omega (arith, e)
never_zero key state (Request.Acknowledge (Some given) ∷ before) behind e = never_zero key state before behind
    (right (one_if (bytes_eq key given.key)) (acks key (before ++ acknowledgment_of key state ∷ behind)) e)
  where
    right : (a b : ℕ) → a + b ≡ 0 → b ≡ 0
    right a b e = omega (arith, e)

-- where one that gives writes up is on its way no write of the entry is unsent, and it keeps none
none_unsent : (world : World) → HasRecord world → (c file : ℕ) (state : State) (before behind : List Request)
    → has_strayed c world.past ≡ false → is_up (world.links c) ≡ true → world.server.expired (machine_key world c file) ≡ false
    → world.requests c ≡ before ++ acknowledgment_of (file_key world c file) state ∷ behind → state.write ≡ false
    → (phase : Phase) → ((world.clients c).entries file).phase ≡ phase → unsent_in phase ≡ []
none_unsent world v c file state before behind good up fresh is gives Phase.Closed at = refl
none_unsent world v c file state before behind good up fresh is gives (Phase.Opening access share) at = refl
none_unsent world v c file state before behind good up fresh is gives (Phase.Live live) at =
    let key = file_key world c file in
    let sound = sound_live (world.clients c) file live ((ground_in world v).clients c) at in
    let b = ((v.layers.beliefs c good up).files file fresh).explained.believed in
    either live.belief.write
    (λ writes. ⊎_elim
    (λ zero. absurd (never_zero key state before behind (ap (acks key) (sym is) ∙ zero)))
    (λ answering. clash state.write
    (some_ack key state before behind (subst (Each (AckKeeps key)) is (answering.bounds live at writes))) gives) b.answers)
    (λ none. sound.unsent_under_writes none)
none_unsent world v c file state before behind good up fresh is gives (Phase.Offline parted) at =
    let g = ground_in world v in
    clash (world.clients c).is_online (g.online c ∙ ap not (not_down (world.links c) up))
    (subst (IsSoundPhase (world.clients c).is_online ((world.clients c).entries file).sent) at ((g.clients c).entries file)).0
  where
    not_down : (link : Link) → is_up link ≡ true → is_down link ≡ false
    not_down Link.Down e = absurd (true≢false (sym e))
    not_down link e = refl
none_unsent world v c file state before behind good up fresh is gives (Phase.Reconnecting parted) at =
    absurd (never_zero (file_key world c file) state before behind
    (ap (acks (file_key world c file)) (sym is) ∙ ((v.late c good).up up).again file parted at))

pub flushed_before_acknowledgments : OfAllowedRuns (Timely FlushedBeforeAcknowledgments)
flushed_before_acknowledgments rules setup events c allowed good up file fresh state before behind is gives =
    let world = after (first_world_under rules setup) events in
    let v = (run_late rules setup events allowed).0 in
    let key = file_key world c file in
    let a = ((v.late c good).up up).acks_keep in
    let first : AcksKeep world c (acknowledgment_of key state ∷ behind) = keeps_behind world c before
    (acknowledgment_of key state ∷ behind) (subst (AcksKeep world c) is a) in record {
      sent = none_buffered world c file behind (⊎_elim
          (λ keeps. clash state.write (keeps ((bytes_eq-Decides key key).1 refl)).0 gives) (λ none. none) (first.0 file))
          (λ request there. subst (Among request) (sym is) (among_behind request before
          (acknowledgment_of key state ∷ behind) (inr there))) v.well (names_of world v c good) (v.order c good up) fresh;
      unsent = none_unsent world v c file state before behind good up fresh is gives ((world.clients c).entries file).phase refl;
    }

-- ---- closes

-- a request among held ones
pub of_held : (request : FileRequest) (xs : List Held) → Among (Request.OnFile request) (as_requests xs)
    → (one : Held) × (Among one xs) × (one.request ≡ request)
of_held request [] a = absurd a
of_held request (x ∷ xs) a = ⊎_elim (λ same. (x, inl refl, sym (request_of same)))
    (λ later. let rest = of_held request xs later in (rest.0, inr rest.1, rest.2)) a
  where
    request_of : Request.OnFile request ≡ Request.OnFile x.request → request ≡ x.request
    request_of e = cc

close_among : (c id : ℕ) (held : List Held) (queue : List Request)
    → Among (Request.OnFile (FileRequest.Close id)) (as_requests (held_by c held) ++ queue)
    → ((one : Held) × (Among one (held_by c held)) × (one.request ≡ FileRequest.Close id))
    ⊎ Among (Request.OnFile (FileRequest.Close id)) queue
close_among c id held queue there = ⊎_elim (λ first. inl (of_held (FileRequest.Close id) (held_by c held) first))
    (λ later. inr later) (among_append (Request.OnFile (FileRequest.Close id)) (as_requests (held_by c held)) queue there)

-- what isn't closed stands in no queue as a Close
never_asked : (world : World) (c file id : ℕ) → NotClosed world c id
    → Among (Request.OnFile (FileRequest.Close id)) (asked_of world c file) → ⊥
never_asked world c file id n there = ⊎_elim
    (λ h. let has = among_filter (λ x. x.client == c) h.0 (world.server.held file) h.1 in
    held (subst (λ r. IsNoClose id (Request.OnFile r)) h.2 (n.held file h.0 has.0 (eqb-true (h.0).client c has.1))))
    (λ queued. held (each_one (IsNoClose id) (world.requests c) (Request.OnFile (FileRequest.Close id)) n.queued queued))
    (close_among c id (world.server.held file) (world.requests c) there)
  where
    held : IsNoClose id (Request.OnFile (FileRequest.Close id)) → ⊥
    held no_close = no_close refl

pub flushed_before_closes : OfAllowedRuns (Timely FlushedBeforeCloses)
flushed_before_closes rules setup events c allowed good up file fresh id before behind is =
    let world = after (first_world_under rules setup) events in
    let v = (run_late rules setup events allowed).0 in
    let o : AreOrdered (Request.OnFile (FileRequest.Close id) ∷ behind) = ordered_behind before
    (Request.OnFile (FileRequest.Close id) ∷ behind) (subst AreOrdered is ((v.order c good up).ordered file)) in record {
      sent = λ number patch there. written number patch
          (each_one (IsNoWrite id) behind (Request.OnFile (FileRequest.Write id number patch)) o.0 there);
      unsent = λ live at same. never_asked world c file id (subst (NotClosed world c) same (not_closed world c file live
          (subst (PhaseStands world c file) at ((v.layers.opens c good up).phases file))))
          (subst (Among (Request.OnFile (FileRequest.Close id))) (sym is)
          (among_behind (Request.OnFile (FileRequest.Close id)) before (Request.OnFile (FileRequest.Close id) ∷ behind)
          (inl refl)));
    }
  where
    written : (number : ℕ) (patch : Patch) → IsNoWrite id (Request.OnFile (FileRequest.Write id number patch)) → ⊥
    written number patch n = n refl

    not_closed : (world : World) (c file : ℕ) (live : LiveEntry) → PhaseStands world c file (Phase.Live live)
        → NotClosed world c live.file_id
    not_closed world c file live p = p.1

-- ---- what was kept

pub kept_is_untouched : OfRuns KeptIsUntouched
kept_is_untouched rules setup events c good file parted is one there by same writes =
    let world = after (first_world_under rules setup) events in
    let p = (run_parted rules setup events).1 c good file in
    ⊎_elim (λ e. offline (subst (PhaseUntouched world c file) e p)) (λ e. again (subst (PhaseUntouched world c file) e p)) is
  where
    offline : PhaseUntouched (after (first_world_under rules setup) events) c file (Phase.Offline parted)
        → touched_since_lost c file (after (first_world_under rules setup) events).past ≡ false
    offline p = p one there by same writes

    again : PhaseUntouched (after (first_world_under rules setup) events) c file (Phase.Reconnecting parted)
        → touched_since_lost c file (after (first_world_under rules setup) events).past ≡ false
    again p = p one there by same writes
