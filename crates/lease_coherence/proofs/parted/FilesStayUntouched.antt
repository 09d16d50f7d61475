-- Every move leaves what entries keep untouched, of each client that hasn't strayed, over any link.
use Rattle.lease_laws.proofs.Words.{◌==◌, ◌||◌, ◌∙◌, ◌∷◌, ◌≡◌, ◌⊎◌, Access, Among, Bool, Client, CreateAsk, Event, Fact}
use Rattle.lease_laws.proofs.Words.{FileRequest, Key, Lease, LeaseOf, Link, List, LiveEntry, None, Open, Parted, Patch, Pending}
use Rattle.lease_laws.proofs.Words.{Phase, Reply, Server, Setup, Share, Some, State, Step, World, ℕ, [], ⊎_elim, after, ap}
use Rattle.lease_laws.proofs.Words.{arith, break_notice, bytes_eq, bytes_eq-Decides, commanded, connect_turn, connected_again}
use Rattle.lease_laws.proofs.Words.{connection_made, eq-eqb, eqb-true, false, first_world_under, granted_form_of, has_key}
use Rattle.lease_laws.proofs.Words.{has_strayed, inl, inr, is_state_within, is_up, key_of, lease_after, lease_key, list_any}
use Rattle.lease_laws.proofs.Words.{machine_key, new_client, new_open, no_lease, not, noticed, put, refl, stepped_in, subst}
use Rattle.lease_laws.proofs.Words.{sym, taken, true, true≢false, was_opened, with_opens, without}
use Rattle.lease_laws.proofs.Words.{Rules}
use Rattle.lease_laws.proofs.client.Forms.{commanded-stays, taken-stays}
use Rattle.lease_laws.proofs.client.Thin.{put_same}
use Rattle.lease_laws.proofs.client.cases.Commands.{any_command}
use Rattle.lease_laws.proofs.client.cases.Links.{HasNotices, any_notice}
use Rattle.lease_laws.proofs.client.cases.Replies.{any_reply}
use Rattle.lease_laws.proofs.server.Keys.{put_key-cases}
use Rattle.lease_laws.proofs.server.Lists.{among_append, among_filter, among_map, and_parts, clash, either, if_cases}
use Rattle.lease_laws.proofs.world.Links.{stepped_links}
use Rattle.lease_laws.proofs.world.Runs.{stepped_server}
use Rattle.lease_coherence.specs.Agreement.{touched_since_lost}
use Rattle.lease_coherence.specs.Creates.{asked_by, has_asked, one_if, under_way}
use Rattle.lease_coherence.specs.Names.{Each, IsNamedAt, IsNamedRequest}
use Rattle.lease_coherence.specs.Standing.{AskFits, IsStandingAt, again_of}
use Rattle.lease_coherence.proofs.beliefs.Closed.{left_there}
use Rattle.lease_coherence.proofs.beliefs.Forms.{keys_apart}
use Rattle.lease_coherence.proofs.beliefs.TrustStays.{own_create}
use Rattle.lease_coherence.proofs.creates.Creates.{source_counts, stepped_machine}
use Rattle.lease_coherence.proofs.late.Likes.{ids_of}
use Rattle.lease_coherence.proofs.late.SafeWrites.{KnowsIds, holds_write}
use Rattle.lease_coherence.proofs.late.Servers.{live_id, own_has_key, parted_id}
use Rattle.lease_coherence.proofs.layers.AllRuns.{first_layers, layers_carried}
use Rattle.lease_coherence.proofs.layers.Layers.{HasLayers}
use Rattle.lease_coherence.proofs.moves.Deeds.{IsSource, changed_in, done_reply, granted_in, leased_in, reconnected_in, told_to}
use Rattle.lease_coherence.proofs.moves.Deeds.{without_opens}
use Rattle.lease_coherence.proofs.moves.Events.{Both, Ground, carried_both, come_back, connected, cut_off, noticed_by}
use Rattle.lease_coherence.proofs.moves.Events.{reply_gone, runs_have, timed_out}
use Rattle.lease_coherence.proofs.moves.Foreign.{IsUnmoved}
use Rattle.lease_coherence.proofs.moves.Frames.{from_source, stepped_past}
use Rattle.lease_coherence.proofs.moves.Moves.{popped, rest_of}
use Rattle.lease_coherence.proofs.moves.Own.{Always, IsLinkMoved, IsOwnMoved, OfGood, own_moves}
use Rattle.lease_coherence.proofs.names.NamedInRecord.{each_rest}
use Rattle.lease_coherence.proofs.names.Names.{off_counted, off_named}
use Rattle.lease_coherence.proofs.parted.UntouchedFiles.{IsUntouched, PartedBy, PhaseUntouched, StepParts, UntouchedUnder}
use Rattle.lease_coherence.proofs.parted.UntouchedFiles.{commands_part, expired_touched, joined_touched, just_lost}
use Rattle.lease_coherence.proofs.parted.UntouchedFiles.{noted_touched, own_changed, own_opened, phase_by, sent_touched}
use Rattle.lease_coherence.proofs.parted.UntouchedFiles.{takes_part, took_touched, under_by}
use Rattle.lease_coherence.proofs.standing.StandingOpens.{asked_off}

-- ---- the same client and link

-- by what holds of each FileId that was given
kept_untouched : (world new : World) (c : ℕ) → new.clients c ≡ world.clients c → new.links c ≡ world.links c → IsNamedAt world c
    → ((file id : ℕ) → was_opened id file c world.past ≡ true → UntouchedUnder world c file id
    → UntouchedUnder new c file id) → IsUntouched world c → IsUntouched new c
kept_untouched world new c machine link n keeps a file = subst
    (λ (m : Client). PhaseUntouched new c file (m.entries file).phase) (sym machine)
    (phase_by world new c file ((world.clients c).entries file).phase
    (λ live is off p. keeps file live.file_id
    (live_id c file world.past ((world.clients c).entries file).phase (n.entries file).phase live is)
    (p (ap is_up (sym link) ∙ off)))
    (λ parted is p. keeps file parted.file_id
    (parted_id c file world.past ((world.clients c).entries file).phase (n.entries file).phase parted is) p) (a file))

-- while the link is up, nothing is said of live entries
up_untouched : (world new : World) (c : ℕ) → new.clients c ≡ world.clients c → is_up (new.links c) ≡ true
    → ((file : ℕ) (parted : Parted) → (((world.clients c).entries file).phase ≡ Phase.Offline parted)
    ⊎ (((world.clients c).entries file).phase ≡ Phase.Reconnecting parted)
    → UntouchedUnder world c file parted.file_id → UntouchedUnder new c file parted.file_id)
    → IsUntouched world c → IsUntouched new c
up_untouched world new c machine up keeps a file = subst
    (λ (m : Client). PhaseUntouched new c file (m.entries file).phase) (sym machine)
    (phase_by world new c file ((world.clients c).entries file).phase
    (λ live is off p. clash (is_up (new.links c)) up off) (λ parted is p. keeps file parted is p) (a file))

-- the same opens
same_from : (world : World) (c id : ℕ) (x : Open) → Among x world.server.opens → x.client ≡ c → x.file_id ≡ id
    → (y : Open) × (Among y world.server.opens) × (y.client ≡ c) × (y.file_id ≡ id)
same_from world c id x there by same = (x, there, by, same)

-- ---- the server

off_untouched : (world off : World) (c : ℕ) (request : FileRequest) → IsSource world off c request
    → IsUntouched world c → IsUntouched off c
off_untouched world off c request source a = from_source world off c request (λ o. IsUntouched o c) source a (λ file left. a)

told_untouched : (off : World) (c : ℕ) (reply : Reply) → IsNamedAt off c → IsUntouched off c → IsUntouched (told_to off c reply) c
told_untouched off c reply n a = kept_untouched off (told_to off c reply) c refl refl n
    (λ file id named u. under_by off (told_to off c reply) c file id
    (λ x there by same. same_from off c id x there by same) (λ w. w)
    (λ y there by same w e. sent_touched c c file off.past ∙ e) u) a

changed_untouched : (off : World) (c file id number : ℕ) (patch : Patch) → IsNamedAt off c → IsUntouched off c
    → IsUntouched (changed_in off c file id number patch) c
changed_untouched off c file id number patch n a = kept_untouched off (changed_in off c file id number patch) c refl refl n
    (λ at i named u. under_by off (changed_in off c file id number patch) c at i
    (λ x there by same. same_from off c i x there by same) (λ w. w)
    (λ y there by same w e. sent_touched c c at (Fact.Changed file c number patch ∷ off.past)
    ∙ own_changed c at file number patch off.past ∙ e) u) a

gone_writes : (server : Server) (opens : List Open) (key : Key)
    → ((with_opens server opens).leases key).state.write ≡ true → (server.leases key).state.write ≡ true
gone_writes server opens key = if_cases (λ (l : Lease). l.state.write ≡ true → (server.leases key).state.write ≡ true)
    (list_any (has_key key) opens) (server.leases key) no_lease (λ there e. e) (λ gone e. absurd (true≢false (sym e)))

dropped_untouched : (world : World) (c : ℕ) (test : Open → Bool) → IsNamedAt world c → IsUntouched world c
    → IsUntouched (without_opens world test) c
dropped_untouched world c test n a = kept_untouched world (without_opens world test) c refl refl n
    (λ file id named u. under_by world (without_opens world test) c file id
    (λ x there by same. (x, left_there world test x there, by, same))
    (λ w. gone_writes world.server (without test world.server.opens) (machine_key world c file) w)
    (λ y there by same w e. e) u) a

timer_untouched : (world : World) (c at : ℕ) → IsNamedAt world c → IsUntouched world c → IsUntouched (timed_out world c at) c
timer_untouched world c at n a =
    let key = machine_key world c at in
    kept_untouched world (timed_out world c at) c refl refl n
    (λ file id named u. under_by world (timed_out world c at) c file id
    (λ x there by same. (x, (among_filter (λ o. not (has_key key o)) x world.server.opens there).0, by, same))
    (λ w. gone_writes world.server (without (has_key key) world.server.opens) (machine_key world c file) w)
    (λ y there by same w e. expired_touched c c at file world.past ∙ e) u) a

-- a lease is put that holds writes only where it did
leased_untouched : (world : World) (key : Key) (lease : Lease) (reply : Reply) → IsNamedAt world key.client
    → (lease.state.write ≡ true → (world.server.leases key).state.write ≡ true) → IsUntouched world key.client
    → IsUntouched (leased_in world key lease reply) key.client
leased_untouched world key lease reply n fewer a =
    let c = key.client in
    kept_untouched world (leased_in world key lease reply) c refl refl n
    (λ file id named u. under_by world (leased_in world key lease reply) c file id
    (λ x there by same. same_from world c id x there by same)
    (put_key-cases (λ (l : Lease). l.state.write ≡ true → holds_write world c file ≡ true)
    world.server.leases key lease (machine_key world c file)
    (λ same w. ap (λ k. (world.server.leases k).state.write) same ∙ fewer w) (λ other w. w))
    (λ y there by same w e. sent_touched c c file world.past ∙ e) u) a

-- an open that is connected again
reconnected_untouched : (off : World) (c file : ℕ) (ask : CreateAsk) (id : ℕ) → IsNamedAt off c → IsUntouched off c
    → IsUntouched (reconnected_in off c file ask id) c
reconnected_untouched off c file ask id n a = kept_untouched off (reconnected_in off c file ask id) c refl refl n
    (λ at i named u. under_by off (reconnected_in off c file ask id) c at i
    (λ x there by same. let m = among_map (connected_again id) x off.server.opens there in
    let eq = again_parts m.0 in (
      m.0,
      m.1,
      sym eq.0 ∙ ap (λ (o : Open). o.client) (sym m.2) ∙ by,
      sym eq.1 ∙ ap (λ (o : Open). o.file_id) (sym m.2) ∙ same,
    ))
    (λ w. w) (λ y there by same w e. sent_touched c c at off.past ∙ e) u) a
  where
    again_parts : (y : Open) → ((connected_again id y).client ≡ y.client) × ((connected_again id y).file_id ≡ y.file_id)
    again_parts y = if_cases (λ x. (x.client ≡ y.client) × (x.file_id ≡ y.file_id)) (y.file_id == id)
        (record y { connected = true }) y (λ here. (refl, refl)) (λ there. (refl, refl))

-- a create that isn't of a parted entry's file, since that asks only to reconnect
none_parted : (world off : World) (c file : ℕ) (access : Access) (share : Share) (ask : CreateAsk) → Ground world
    → IsSource world off c (FileRequest.Create file access share (Some ask)) → ask.reconnect ≡ None
    → under_way world c file ≡ asked_by (world.clients c) file → IsStandingAt world c → (parted : Parted)
    → (((world.clients c).entries file).phase ≡ Phase.Offline parted)
    ⊎ (((world.clients c).entries file).phase ≡ Phase.Reconnecting parted) → ⊥
none_parted world off c file access share ask g source none counted s parted is = ⊎_elim
    (λ offline. omega (
      arith,
      source_counts world off c request g source file,
      ap one_if (eq-eqb file file refl),
      counted ∙ ap one_if (ap has_asked offline),
    ))
    (λ again. never (sym none
    ∙ (asked_off (AskFits (world.clients c)) world off c request source s.asked).1 ∙ ap again_of again)) is
  where
    request : FileRequest
    request = FileRequest.Create file access share (Some ask)

    never : None ≡ Some parted.file_id → ⊥
    never e = cc

granted_untouched : (world off : World) (c file : ℕ) (access : Access) (share : Share) (ask : CreateAsk) (asked : LeaseOf)
    → ask.lease ≡ Some asked → asked.key ≡ lease_key (off.clients c).guid file → is_up (off.links c) ≡ true
    → KnowsIds off c → IsNamedAt off c → ((parted : Parted) → (((off.clients c).entries file).phase ≡ Phase.Offline parted)
    ⊎ (((off.clients c).entries file).phase ≡ Phase.Reconnecting parted) → ⊥)
    → IsUntouched off c → IsUntouched (granted_in off c file access share ask (lease_after off.server c file ask.lease)) c
granted_untouched world off c file access share ask asked e named up ids n never a = subst
    (λ o. IsUntouched (granted_in off c file access share (record ask { lease = o }) (lease_after off.server c file o)) c) (sym e)
    (up_untouched off new c refl up
    (λ at parted is u. under_by off new c at parted.file_id
    (λ x there by same. ⊎_elim (λ old. (x, old, by, same))
    (λ last. ⊎_elim (λ now. absurd (omega (
      arith,
      ap (λ (o : Open). o.file_id) now,
      ids.low x.file_id at (subst (λ i. was_opened i at c off.past ≡ true) (sym same)
          (parted_id c at off.past ((off.clients c).entries at).phase (n.entries at).phase parted is)),
    )))
    (λ none. absurd none) last) (among_append x off.server.opens (one ∷ []) there))
    (put_key-cases (λ (l : Lease). l.state.write ≡ true → holds_write off c at ≡ true) off.server.leases
    (key_of c asked.key) lease (machine_key off c at)
    (λ same w. absurd (apart at parted is same)) (λ other w. w))
    (λ y there by same w clean. sent_touched c c at (Fact.Opened file c ∷ off.past) ∙ own_opened c at file off.past ∙ clean) u) a)
  where
    lease : Lease
    lease = lease_after off.server c file (Some asked)

    told : CreateAsk
    told = record ask { lease = Some asked }

    new : World
    new = granted_in off c file access share told (lease_after off.server c file (Some asked))

    one : Open
    one = new_open off.server c file access share (Some asked) ask.durable (lease_after off.server c file (Some asked))

    -- the key is of the file that is opened, whose entry isn't parted
    apart : (at : ℕ) (parted : Parted) → (((off.clients c).entries at).phase ≡ Phase.Offline parted)
        ⊎ (((off.clients c).entries at).phase ≡ Phase.Reconnecting parted) → machine_key off c at ≡ key_of c asked.key → ⊥
    apart at parted is same = either (at == file)
        (λ here. let e = eqb-true at file here in never parted
        (⊎_elim (λ x. inl (ap (λ f. ((off.clients c).entries f).phase) (sym e) ∙ x))
        (λ x. inr (ap (λ f. ((off.clients c).entries f).phase) (sym e) ∙ x)) is))
        (λ there. clash (bytes_eq (lease_key (off.clients c).guid at) (lease_key (off.clients c).guid file))
        ((bytes_eq-Decides (lease_key (off.clients c).guid at) (lease_key (off.clients c).guid file)).1
        (ap (λ (k : Key). k.bytes) same ∙ named))
        (keys_apart (off.clients c).guid at file (λ x. clash (at == file) (eq-eqb at file x) there)))

-- ---- what others do

unmoved_untouched : (world new : World) (c : ℕ) → IsUnmoved world new c → IsNamedAt world c → KnowsIds world c
    → IsUntouched world c → IsUntouched new c
unmoved_untouched world new c u n ids a = kept_untouched world new c u.machine u.link n
    (λ file id named under. under_by world new c file id
    (λ x there by same. (x, u.from x by there, by, same))
    (λ w. sym (holds_same file) ∙ w)
    (λ y there by same w e. let on = (ids.on id file named y there same).0 in
    subst (λ f. touched_since_lost c f new.past ≡ false) on
    (u.spared.alone (machine_key world c file) y by there (own_has_key world c file y by on (n.opens y there by)) w
    (subst (λ f. touched_since_lost c f world.past ≡ false) (sym on) e))) under) a
  where
    holds_same : (file : ℕ) → holds_write new c file ≡ holds_write world c file
    holds_same file = ap (λ (m : Client). (new.server.leases (key_of c (lease_key m.guid file))).state.write) u.machine
        ∙ ap (λ (l : Lease). l.state.write) (u.leases (machine_key world c file) refl)

-- ---- links

-- nothing was touched since it was lost just now
cut_untouched : (world : World) (c : ℕ) → IsUntouched (cut_off world c) c
cut_untouched world c file = by_phase ((world.clients c).entries file).phase
  where
    by_phase : (phase : Phase) → PhaseUntouched (cut_off world c) c file phase
    by_phase (Phase.Live live) = λ off x there by same w. just_lost c file world.past
    by_phase (Phase.Offline parted) = λ x there by same w. just_lost c file world.past
    by_phase (Phase.Reconnecting parted) = λ x there by same w. just_lost c file world.past
    by_phase phase = tt

-- a step of the client, in a world that has its server
stepped_untouched : (world before : World) (c : ℕ) (step : Step) → before.server.opens ≡ world.server.opens
    → before.server.leases ≡ world.server.leases → step.client.guid ≡ (world.clients c).guid
    → ((file : ℕ) → touched_since_lost c file before.past ≡ touched_since_lost c file world.past)
    → ((file : ℕ) → PhaseUntouched world c file ((world.clients c).entries file).phase
    → PhaseUntouched (record world { links = before.links }) c file (step.client.entries file).phase)
    → IsUntouched world c → IsUntouched (stepped_in before c step) c
stepped_untouched world before c step opens leases guid past phases a file = subst
    (λ (m : Client). PhaseUntouched new c file (m.entries file).phase) (sym (stepped_machine before c step))
    (by_phase (step.client.entries file).phase (phases file (a file)))
  where
    new : World
    new = stepped_in before c step

    under : (id : ℕ) → UntouchedUnder world c file id → UntouchedUnder (stepped_in before c step) c file id
    under id u x there by same w = ap (touched_since_lost c file) (stepped_past before c step)
        ∙ noted_touched c c file before.past step.notes ∙ past file
        ∙ u x (subst (λ (l : List Open). Among x l) (ap (λ (s : Server). s.opens) (stepped_server before c step) ∙ opens) there)
        by same (holds ∙ w)
      where
        holds : holds_write world c file ≡ holds_write (stepped_in before c step) c file
        holds = ap (λ g. (world.server.leases (key_of c (lease_key g file))).state.write) (sym guid)
            ∙ ap (λ (l : Key → Lease). (l (key_of c (lease_key step.client.guid file))).state.write)
            (sym (ap (λ (s : Server). s.leases) (stepped_server before c step) ∙ leases))
            ∙ ap (λ (m : Client). ((stepped_in before c step).server.leases (key_of c (lease_key m.guid file))).state.write)
            (sym (stepped_machine before c step))

    by_phase : (phase : Phase) → PhaseUntouched (record world { links = before.links }) c file phase
        → PhaseUntouched (stepped_in before c step) c file phase
    by_phase (Phase.Live live) p = λ off. under live.file_id
        (p (ap (λ (l : ℕ → Link). is_up (l c)) (sym (stepped_links before c step)) ∙ off))
    by_phase (Phase.Offline parted) p = under parted.file_id p
    by_phase (Phase.Reconnecting parted) p = under parted.file_id p
    by_phase phase p = tt

-- by what a step makes of entries
parts_untouched : (world : World) (links : ℕ → Link) (c file : ℕ) (up : Bool) (old new : Phase)
    → (is_up (links c) ≡ false → (up ≡ false) × (is_up (world.links c) ≡ false))
    → PartedBy up old new → PhaseUntouched world c file old → PhaseUntouched (record world { links = links }) c file new
parts_untouched world links c file up old Phase.Closed down by p = tt
parts_untouched world links c file up old (Phase.Opening access share) down by p = tt
parts_untouched world links c file up old (Phase.Live live) down by p = λ off.
    let d = down off in
    let u = by d.0 in
    subst (UntouchedUnder world c file) u.id (was u.live (subst (PhaseUntouched world c file) u.is p) d.1)
  where
    was : (entry : LiveEntry) → PhaseUntouched world c file (Phase.Live entry) → is_up (world.links c) ≡ false
        → UntouchedUnder world c file entry.file_id
    was entry q off = q off
parts_untouched world links c file up old (Phase.Offline parted) down by p = subst (PhaseUntouched world c file) by p
parts_untouched world links c file up old (Phase.Reconnecting parted) down by p = subst (PhaseUntouched world c file) by p

-- an entry goes offline
notices_untouched : (world : World) (links : ℕ → Link) (c file : ℕ) (sent : List Pending)
    → HasNotices sent (λ phase turn. is_up (world.links c) ≡ false → PhaseUntouched world c file phase
    → PhaseUntouched (record world { links = links }) c file turn.entry.phase)
notices_untouched world links c file sent = record {
  closed = λ off p. tt;
  opening = λ access share off p. tt;
  ended = λ live off p. tt;
  kept = λ live writes off p. p off;
  bare = λ live none off p. p off;
  offline = λ parted off p. p;
  reconnecting = λ parted off p. p;
}

-- and reconnects
connect_phase : (world : World) (links : ℕ → Link) (c file : ℕ) (machine : Client) (sent : List Pending) (phase : Phase)
    → is_up (links c) ≡ true → PhaseUntouched world c file phase
    → PhaseUntouched (record world { links = links }) c file (connect_turn machine file sent phase).entry.phase
connect_phase world links c file machine sent (Phase.Live live) up p = λ off. clash (is_up (links c)) up off
connect_phase world links c file machine sent (Phase.Offline parted) up p = p
connect_phase world links c file machine sent (Phase.Reconnecting parted) up p = p
connect_phase world links c file machine sent phase up p = tt

notice_untouched : (world : World) (c : ℕ) → world.links c ≡ Link.Cut → IsUntouched world c → IsUntouched (noticed_by world c) c
notice_untouched world c cut a =
    let machine = world.clients c in
    stepped_untouched world (record world { links = put world.links c Link.Down }) c (noticed machine) refl refl refl
    (λ file. refl)
    (λ file. any_notice (machine.entries file).sent _ (notices_untouched world (put world.links c Link.Down) c file
    (machine.entries file).sent) (machine.entries file).phase (ap is_up cut)) a

connect_untouched : (world : World) (c : ℕ) → IsUntouched world c → IsUntouched (connected world c) c
connect_untouched world c a =
    let machine = world.clients c in
    stepped_untouched world (come_back world c) c (connection_made machine) refl refl refl
    (λ file. joined_touched c c file world.past)
    (λ file p. connect_phase world (put world.links c Link.Up) c file machine (machine.entries file).sent
    (machine.entries file).phase (ap is_up (put_same world.links c Link.Up)) p) a

-- ---- all moves

ids_in : (world : World) → HasLayers world → (c : ℕ) → KnowsIds world c
ids_in world v c = ids_of world c (record { last = (v.ground).counted.last; opens = (v.ground).counted.opens })

-- a link with something on its way is up
takes_up : (world : World) → Ground world → (c : ℕ) (reply : Reply) (queue : List Reply)
    → world.replies c ≡ reply ∷ queue → is_up (world.links c) ≡ true
takes_up world g c reply queue first = either (is_up (world.links c)) (λ up. up)
    (λ down. absurd (some reply queue (sym first ∙ (g.tied c).replies down)))
  where
    some : (r : Reply) (q : List Reply) → r ∷ q ≡ [] → ⊥
    some r q e = cc

-- the client of a request that is answered is connected
present_up : (world off : World) → HasLayers world → (c : ℕ) (request : FileRequest) → IsSource world off c request
    → (is_up (world.links c) ≡ true) × (is_up (off.links c) ≡ true)
present_up world off v c request source =
    let up = sym ((v.ground).tied c).present ∙ source.up in
    (up, from_source world off c request (λ o. is_up (o.links c) ≡ true) source up (λ file left. up))

same_phase : (world off : World) (c : ℕ) (request : FileRequest) → IsSource world off c request → (file : ℕ)
    (parted : Parted) → (((off.clients c).entries file).phase ≡ Phase.Offline parted)
    ⊎ (((off.clients c).entries file).phase ≡ Phase.Reconnecting parted)
    → (((world.clients c).entries file).phase ≡ Phase.Offline parted)
    ⊎ (((world.clients c).entries file).phase ≡ Phase.Reconnecting parted)
same_phase world off c request source file parted = from_source world off c request
    (λ o. (((o.clients c).entries file).phase ≡ Phase.Offline parted)
    ⊎ (((o.clients c).entries file).phase ≡ Phase.Reconnecting parted)
    → (((world.clients c).entries file).phase ≡ Phase.Offline parted)
    ⊎ (((world.clients c).entries file).phase ≡ Phase.Reconnecting parted)) source (λ x. x) (λ at left x. x)

still_named : (world : World) (c : ℕ) (test : Open → Bool) → IsNamedAt world c → IsNamedAt (without_opens world test) c
still_named world c test n = record {
  requests = n.requests;
  held = n.held;
  opens = λ one there by. n.opens one (left_there world test one there) by;
  replies = n.replies;
  entries = n.entries;
}

popped_named : (world : World) (c : ℕ) → IsNamedAt world c → IsNamedAt (popped world c) c
popped_named world c n = record {
  requests = subst (Each (IsNamedRequest c (world.clients c).guid world.past))
      (sym (put_same world.requests c (rest_of (world.requests c)))) (each_rest _ (world.requests c) n.requests);
  held = n.held;
  opens = n.opens;
  replies = n.replies;
  entries = n.entries;
}

off_named_at : (world off : World) → HasLayers world → (c : ℕ) (request : FileRequest) → has_strayed c world.past ≡ false
    → IsSource world off c request → IsNamedAt off c
off_named_at world off v c request good source = (off_named world off c request c source (v.named c good)).0

-- what is within a state holds writes only where it does
within_writes : (one other : State) → is_state_within one other ≡ true → one.write ≡ true → other.write ≡ true
within_writes one other within w = part one.write other.write (and_parts _ _ (and_parts _ _ within).0).1 w
  where
    part : (p q : Bool) → (not p || q) ≡ true → p ≡ true → q ≡ true
    part true q e h = e
    part false q e h = absurd (true≢false (sym h))

form_writes : (state : State) → (granted_form_of state).write ≡ true → state.write ≡ true
form_writes state = if_cases (λ (s : State). s.write ≡ true → state.write ≡ true) state.read state
    (record { read = false; write = false; handle = false }) (λ reads w. w) (λ none w. absurd (true≢false (sym w)))

pub untouched_moves : IsOwnMoved HasLayers Always IsUntouched
untouched_moves = record {
  unmoved = λ world new c k u a. unmoved_untouched world new c u (k.all.named c k.good) (ids_in world k.all c) a;
  told = λ world off c request reply k source is a. told_untouched off c reply
      (off_named_at world off k.all c request k.good source) (off_untouched world off c request source a);
  granted = λ world off c file access share ask k source none on free a.
      let request = FileRequest.Create file access share (Some ask) in
      let own = own_create world off c file access share ask source (k.all.named c k.good) in
      let up = present_up world off k.all c request source in
      granted_untouched world off c file access share ask own.lease own.asks own.key up.1
      (ids_of off c (off_counted world off c request source k.all.ground)) (off_named_at world off k.all c request k.good source)
      (λ parted is. none_parted world off c file access share ask k.all.ground source none (k.all.creates c k.good up.0 file)
      (k.all.opens c k.good up.0) parted (same_phase world off c request source file parted is))
      (off_untouched world off c request source a);
  reconnected = λ world off c file access share ask file_id k source again on waits a.
      reconnected_untouched off c file ask file_id (off_named_at world off k.all c _ k.good source)
      (off_untouched world off c _ source a);
  changed = λ world off c file_id number patch one k source found may a.
      changed_untouched off c one.file file_id number patch (off_named_at world off k.all c _ k.good source)
      (off_untouched world off c _ source a);
  closed = λ world off c file_id one k source found a.
      let test : Open → Bool = λ other. other.file_id == file_id in
      told_untouched (without_opens off test) c (Reply.Closed file_id)
      (still_named off c test (off_named_at world off k.all c _ k.good source))
      (dropped_untouched off c test (off_named_at world off k.all c _ k.good source) (off_untouched world off c _ source a));
  ack_failed = λ world c given status k oldest why a.
      told_untouched (popped world c) c (Reply.AckFailed status) (popped_named world c (k.all.named c k.good)) a;
  ack_done = λ world c given lowered k oldest there breaks within a.
      leased_untouched (popped world c) (key_of c given.key) _ (done_reply given) (popped_named world c (k.all.named c k.good))
      (λ w. within_writes lowered (world.server.leases (key_of c given.key)).state
      (((k.all.ground).fine.sound.lawful (key_of c given.key)).is_broken_so lowered breaks).is_part
      (within_writes given.state lowered within (form_writes given.state w))) a;
  hold = λ world file one k oldest may turn a. a;
  dropped = λ world c test k away a. dropped_untouched world c test (k.all.named c k.good) a;
  lower = λ world key lowered k may light a. leased_untouched world key _
      (break_notice key (world.server.leases key).state lowered) (k.all.named key.client k.good)
      (λ w. within_writes lowered (world.server.leases key).state may.is_lowered.is_part w) a;
  begin = λ world key lowered k may heavy a. leased_untouched world key _
      (break_notice key (world.server.leases key).state lowered) (k.all.named key.client k.good)
      (λ w. w) a;
  timer = λ world c file k on breaks a. timer_untouched world c file (k.all.named c k.good) a;
  command = λ world c command k a.
      let machine = world.clients c in
      stepped_untouched world world c (commanded machine command) refl refl (commanded-stays machine command).guid
      (λ file. refl)
      (λ file p. parts_untouched world world.links c file false (machine.entries file).phase
      ((commanded machine command).client.entries file).phase (λ off. (refl, off))
      (any_command machine (StepParts false machine) (commands_part machine) command file) p) a;
  take = λ world c reply queue k first a.
      let machine = world.clients c in
      let up = takes_up world k.all.ground c reply queue first in
      stepped_untouched world (reply_gone world c queue) c (taken machine reply) refl refl (taken-stays machine reply).guid
      (λ file. took_touched c c file world.past)
      (λ file p. parts_untouched world world.links c file true (machine.entries file).phase
      ((taken machine reply).client.entries file).phase (λ off. clash (is_up (world.links c)) up off)
      (any_reply machine (λ r s. StepParts true machine s) (takes_part machine) reply file) p) a;
}

pub untouched_link : IsLinkMoved HasLayers IsUntouched
untouched_link = record {
  cut = λ world c v good up a. cut_untouched world c;
  connect = λ world c v good down a. connect_untouched world c a;
  notice = λ world c v good cut a. notice_untouched world c cut a;
}

-- ---- all runs

abbrev pub HasParted : World → Type 0
HasParted = Both HasLayers (OfGood IsUntouched)

pub run_parted : (rules : Rules) (setup : Setup) (events : List Event) → HasParted (after (first_world_under rules setup) events)
unfolding first_world_under new_client
run_parted rules setup events = runs_have HasParted (λ world all. all.0.ground)
    (carried_both HasLayers (OfGood IsUntouched) layers_carried
    (own_moves HasLayers IsUntouched (λ world all. all.ground) untouched_moves untouched_link)) rules setup
    (first_layers rules setup, λ client good file. tt) events
