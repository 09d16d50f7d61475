-- A command, and a reply that is taken, leave a client's writes safe.
use Rattle.lease_laws.proofs.Words.{◌+◌, ◌∙◌, ◌∷◌, ◌≡◌, Client, ClientCall, Command, Fact, IsSoundClient, List, LiveEntry}
use Rattle.lease_laws.proofs.Words.{Parted, Phase, Reply, Step, TellNumbers, World, ℕ, [], ⊎_elim, ap, commanded, false, inl}
use Rattle.lease_laws.proofs.Words.{inr, is_up, knows_file, machine_key, opened_count, refl, stepped_in, subst, sym, taken}
use Rattle.lease_laws.proofs.Words.{true, was_opened}
use Rattle.lease_laws.proofs.client.Forms.{commanded-stays, taken-stays}
use Rattle.lease_laws.proofs.client.Notes.{called_tells}
use Rattle.lease_laws.proofs.client.Thin.{put_same}
use Rattle.lease_laws.proofs.client.cases.Commands.{any_command}
use Rattle.lease_laws.proofs.client.cases.Replies.{any_reply}
use Rattle.lease_laws.proofs.server.Lists.{clash}
use Rattle.lease_coherence.specs.Names.{Each, IsNamedAt, IsNamedReply, IsNamedRequest}
use Rattle.lease_coherence.specs.Standing.{GivenWell, IsOpenFor, IsStandingAt, PhaseStands}
use Rattle.lease_coherence.proofs.beliefs.Anchors.{AnchorsOn, command_anchors, take_anchors}
use Rattle.lease_coherence.proofs.beliefs.OneLease.{HoldsWrites, OnGiven}
use Rattle.lease_coherence.proofs.beliefs.Trust.{HasTrust, file_key}
use Rattle.lease_coherence.proofs.late.Clients.{StepFrom, commands_from, no_settles, takes_from}
use Rattle.lease_coherence.proofs.late.Entries.{IsTakenSafe, StepSafe, TakesSafe, commands_safe, takes_safe}
use Rattle.lease_coherence.proofs.late.Likes.{acks_like, grants_like, held_up, ids_of, named_asked, took_past, writes_up}
use Rattle.lease_coherence.proofs.late.SafeWrites.{GrantsSafe, IsLike, IsNotLate, IsSafeAt, IsSafeUp, KnowsIds}
use Rattle.lease_coherence.proofs.late.Servers.{all_hold, entries_like, itself, live_id}
use Rattle.lease_coherence.proofs.late.Steps.{IsOnWay, IsStepWell, new_number, stepped_entries, stepped_up}
use Rattle.lease_coherence.proofs.moves.Events.{Ground, reply_gone, reply_taken}
use Rattle.lease_coherence.proofs.moves.Ground.{called_sound}
use Rattle.lease_coherence.proofs.moves.Own.{was_up}
use Rattle.lease_coherence.proofs.names.NamedInRecord.{request_later}
use Rattle.lease_coherence.proofs.names.Names.{IsCountedOff}
use Rattle.lease_coherence.proofs.records.Later.{later_fact}
use Rattle.lease_coherence.proofs.records.Once.{unbuffered_clean}
use Rattle.lease_coherence.proofs.standing.StandingOpens.{asked_weaker}
use Rattle.lease_coherence.proofs.writes.Counts.{settles_of}
use Rattle.lease_coherence.proofs.writes.Steps.{IsKnownBy}
use Rattle.lease_coherence.proofs.writes.WritesStayUnderWayOnce.{known_took}

-- what is known of the client where its link is up
pub record IsKnownUp (world : World) (c : ℕ) : Type 0 where
  pub ground : Ground world
  pub names : IsNamedAt world c
  pub known : IsKnownBy c (world.clients c) world.past
  pub ids : KnowsIds world c
  pub stands : IsStandingAt world c
  pub trust : HasTrust world c

live_open : (world : World) (c : ℕ) → IsStandingAt world c → (file : ℕ) (live : LiveEntry)
    → ((world.clients c).entries file).phase ≡ Phase.Live live → world.server.expired (machine_key world c file) ≡ false
    → IsOpenFor world c file live.file_id
live_open world c s file live is fresh =
    let p : PhaseStands world c file (Phase.Live live) = subst (PhaseStands world c file) is (s.phases file) in
    ⊎_elim (λ out. clash (world.server.expired (machine_key world c file)) out fresh) (λ o. o) p.0

no_reconnect : (client : Client) (step : Step) → step.client.files ≡ client.files → IsSoundClient step.client
    → (file : ℕ) (parted : Parted) → knows_file client file ≡ false
    → (step.client.entries file).phase ≡ Phase.Reconnecting parted → ⊥
no_reconnect client step files s file parted unknown is = again_closed parted (sym is ∙ s.in_files file
    (ap (λ n. knows_file (record client { files = n }) file) files ∙ unknown))
  where
    again_closed : (p : Parted) → Phase.Reconnecting p ≡ Phase.Closed → ⊥
    again_closed p e = cc

step_well : (world : World) (c : ℕ) (settles : ℕ → ℕ) (step : Step) → is_up (world.links c) ≡ true
    → IsKnownUp world c → step.client.guid ≡ (world.clients c).guid → step.client.files ≡ (world.clients c).files
    → IsSoundClient step.client → TellNumbers (world.clients c).last_number step.notes step.client.last_number
    → StepFrom (world.clients c) settles step → AnchorsOn (world.clients c) step → IsStepWell world c settles step
step_well world c settles step up k guid files sound tells from anchors = record {
  up = up;
  guid = guid;
  files = files;
  client_sound = k.ground.clients c;
  server_sound = k.ground.fine.sound;
  ids = k.ids;
  known = k.known;
  named = named_asked world c k.names;
  tells = tells;
  from = from;
  anchors = anchors;
  answers = λ file fresh. ⊎_elim (λ zero. inl zero) (λ a. inr a.bounds) (k.trust.files file fresh).explained.believed.answers;
  stands = λ file live is fresh. live_open world c k.stands file live is fresh;
  unknown = no_reconnect (world.clients c) step files sound;
  live_ids = λ file live is. live_id c file world.past ((world.clients c).entries file).phase
      (k.names.entries file).phase live is;
}

-- ---- a command

-- while the link isn't up, a command still leaves the entries safe
pub command_entries : (world : World) (c : ℕ) (command : Command) → IsKnownBy c (world.clients c) world.past
    → IsSafeAt world c → IsSafeAt (stepped_in world c (commanded (world.clients c) command)) c
command_entries world c command k e = let machine = world.clients c in
    stepped_entries world c (commanded machine command) (commanded-stays machine command).guid
    (any_command machine (StepSafe world c machine) (commands_safe world c machine
    (λ file. unbuffered_clean c file (machine.last_number + 1) world.past (new_number c machine world.past k file))) command) e

pub command_late : (world : World) (c : ℕ) (command : Command) → IsKnownBy c (world.clients c) world.past
    → (is_up (world.links c) ≡ true → IsKnownUp world c) → IsNotLate world c
    → IsNotLate (stepped_in world c (commanded (world.clients c) command)) c
command_late world c command known k a = let machine = world.clients c in
    let step = commanded machine command in record {
      entries = command_entries world c command known a.entries;
      up = λ up. let was = was_up world c step up in let u = a.up was in
          stepped_up world c no_settles step []
          (step_well world c no_settles step was (k was) (commanded-stays machine command).guid
          (commanded-stays machine command).files (called_sound machine (ClientCall.Commanded command) ((k was).ground.clients c))
          (called_tells machine (ClientCall.Commanded command) ((k was).ground.clients c))
          (any_command machine (StepFrom machine no_settles) (commands_from machine) command)
          (command_anchors machine command))
          (λ n. refl) a.entries
          (record { writes = u.writes; held = u.held; acks_keep = u.acks_keep; again = u.again; given = u.given });
    }

-- ---- a reply

gone_like : (world : World) (c : ℕ) (queue : List Reply) → IsLike world (reply_gone world c queue) c
gone_like world c queue = record {
  machine = refl;
  past = took_past c c world.past;
  from = λ x there by low. itself world x there;
  timely = λ file x there by on e. e;
}

taken_safe : (world : World) (c : ℕ) (reply : Reply) (queue : List Reply) → world.replies c ≡ reply ∷ queue
    → IsKnownUp world c → IsSafeUp world c → IsTakenSafe (reply_gone world c queue) c (world.clients c) reply
taken_safe world c reply queue first k u = let gone = reply_gone world c queue in record {
  grant = λ file known. let sent = ((world.clients c).entries file).sent in
      let all : GrantsSafe gone c file sent [] (reply ∷ queue) =
      grants_like world gone c file (gone_like world c queue) k.ids sent [] (reply ∷ queue)
      (subst (Each (IsNamedReply c world.past)) first k.names.replies)
      (subst (GrantsSafe world c file sent []) first (u.given file known)) in all.0;
  given = λ file fresh. let all : Each (OnGiven (HoldsWrites (world.server.leases (machine_key world c file)).state)
      (file_key world c file) file) (reply ∷ queue) =
      subst (Each (OnGiven (HoldsWrites (world.server.leases (machine_key world c file)).state) (file_key world c file) file))
      first (k.trust.files file fresh).explained.believed.given in all.0;
  own = λ file live is fresh. (k.trust.files file fresh).explained.believed.own live is;
  stands = λ file live is fresh. let o = live_open world c k.stands file live is fresh in record {
    one = o.one;
    there = o.there;
    id = o.id;
    by = o.by;
    on_file = o.on_file;
    up = o.up;
  };
  fits = λ file file_id answer is. let all : Each (GivenWell world c) (reply ∷ queue) =
      subst (Each (GivenWell world c)) first k.stands.given in
      let mine : GivenWell world c (Reply.Created file file_id answer) = subst (GivenWell world c) is all.0 in mine.fits;
}

gone_counted : (world : World) (c : ℕ) (queue : List Reply) → Ground world → IsCountedOff (reply_gone world c queue)
unfolding opened_count was_opened
gone_counted world c queue g = record { last = g.counted.last; opens = g.counted.opens }

gone_well : (world : World) (c : ℕ) (reply : Reply) (queue : List Reply) → is_up (world.links c) ≡ true → IsKnownUp world c
    → IsStepWell (reply_gone world c queue) c (λ n. settles_of n reply) (taken (world.clients c) reply)
gone_well world c reply queue was k =
    let machine = world.clients c in
    let step = taken machine reply in
    let gone = reply_gone world c queue in
    let later = later_fact world.past (Fact.Took c) in record {
      up = was;
      guid = (taken-stays machine reply).guid;
      files = (taken-stays machine reply).files;
      client_sound = k.ground.clients c;
      server_sound = k.ground.fine.sound;
      ids = ids_of gone c (gone_counted world c queue k.ground);
      known = known_took c machine world.past k.known;
      named = asked_weaker (IsNamedRequest c machine.guid world.past) (IsNamedRequest c machine.guid gone.past) gone c
          (λ r. request_later c machine.guid world.past gone.past later r)
          (record { queued = k.names.requests; held = λ file one a own. (k.names.held file one a own).named });
      tells = called_tells machine (ClientCall.Taken reply) (k.ground.clients c);
      from = any_reply machine (λ r s. StepFrom machine (λ n. settles_of n r) s) (takes_from machine (k.ground.clients c)) reply;
      anchors = take_anchors machine reply;
      answers = λ file fresh. ⊎_elim (λ zero. inl zero) (λ a. inr a.bounds) (k.trust.files file fresh).explained.believed.answers;
      stands = λ file live is fresh. let o = live_open world c k.stands file live is fresh in record {
        one = o.one;
        there = o.there;
        id = o.id;
        by = o.by;
        on_file = o.on_file;
        up = o.up;
      };
      unknown = no_reconnect machine step (taken-stays machine reply).files
          (called_sound machine (ClientCall.Taken reply) (k.ground.clients c));
      live_ids = λ file live is. later.opened live.file_id file c
          (live_id c file world.past (machine.entries file).phase (k.names.entries file).phase live is);
    }

gone_way : (world : World) (c : ℕ) (reply : Reply) (queue : List Reply) → world.replies c ≡ reply ∷ queue
    → IsKnownUp world c → IsSafeUp world c → IsOnWay (reply_gone world c queue) c (reply ∷ [])
gone_way world c reply queue first k u =
    let gone = reply_gone world c queue in
    let like = gone_like world c queue in record {
      writes = writes_up world gone c like k.ids (λ file x there by on h. h) refl refl k.names u.writes;
      held = held_up world gone c like k.ids refl k.names u.held;
      acks_keep = acks_like world gone c like k.ids (world.requests c) k.names.requests u.acks_keep;
      again = u.again;
      given = λ file known. let sent = ((world.clients c).entries file).sent in
          let all : GrantsSafe gone c file sent [] (reply ∷ queue) =
          grants_like world gone c file like k.ids sent [] (reply ∷ queue)
          (subst (Each (IsNamedReply c world.past)) first k.names.replies)
          (subst (GrantsSafe world c file sent []) first (u.given file known)) in
          subst (GrantsSafe gone c file sent (reply ∷ [])) (sym (put_same world.replies c queue)) all.1;
    }

pub take_late : (world : World) (c : ℕ) (reply : Reply) (queue : List Reply) → world.replies c ≡ reply ∷ queue
    → is_up (world.links c) ≡ true → IsKnownUp world c → IsNotLate world c → IsNotLate (reply_taken world c reply queue) c
take_late world c reply queue first was k a =
    let machine = world.clients c in
    let step = taken machine reply in
    let gone = reply_gone world c queue in
    let u = a.up was in
    let entries : IsSafeAt gone c = entries_like world gone c (gone_like world c queue) k.ids k.names
    (all_hold world gone c (λ file x there by on h. h)) a.entries in record {
      entries = stepped_entries gone c step (taken-stays machine reply).guid
          (any_reply machine (TakesSafe gone c machine) (takes_safe gone c machine (k.ground.clients c) refl) reply
          (taken_safe world c reply queue first k u)) entries;
      up = λ up. stepped_up gone c (λ n. settles_of n reply) step (reply ∷ []) (gone_well world c reply queue was k)
          (λ n. refl) entries (gone_way world c reply queue first k u);
    }
