-- The laws of the entries of a client hold of a new one, and every call keeps them.
use Rattle.lease_laws.proofs.Words.{◌++◌, ◌+◌, ◌≡◌, ◌≤◌, Asked, Bool, Client, ClientCall, IsSoundEntry, IsSoundLive, IsSoundPhase}
use Rattle.lease_laws.proofs.Words.{List, LiveEntry, None, Option, Pending, Phase, Some, Step, Turn, ℕ, []}
use Rattle.lease_laws.proofs.Words.{are_buffered, arith, client_called}
use Rattle.lease_laws.proofs.Words.{connect_turn, false, first_belief, gives_up, if◌then◌else◌}
use Rattle.lease_laws.proofs.Words.{is_asking, lease_key, meet, new_client, one_handle_less, one_read_less}
use Rattle.lease_laws.proofs.Words.{promoted_belief, refl}
use Rattle.lease_laws.proofs.Words.{sent_without, true, turned, without_open}
use Rattle.lease_laws.proofs.client.Words.{some_handle, one_less_still, if_either, put_each, joined_buffered, filter_buffered}
use Rattle.lease_laws.proofs.client.Words.{sent_without-none, HasSoundEntries, sound_as, kept_under, read_under, unflushed-none}
use Rattle.lease_laws.proofs.client.Words.{again_under, done_sound}
use Rattle.lease_laws.proofs.client.cases.Commands.{HasCommands, any_command, sent_of}
use Rattle.lease_laws.proofs.client.cases.Links.{HasNotices, any_notice}
use Rattle.lease_laws.proofs.client.cases.Replies.{HasTakes, any_reply}
use Rattle.lease_laws.proofs.server.Lists.{clash}
use Rattle.lease_laws.proofs.client.cases.Turns.{by_turn}

-- the entries are sound after the step
abbrev Sound : Step → Type 0
Sound step = HasSoundEntries step.client

-- a turn that leaves its entry sound leaves the client sound
turned_sound : (client : Client) (file : ℕ) (turn : Turn) → HasSoundEntries client
    → IsSoundEntry client.is_online turn.entry → Sound (turned client file turn)
turned_sound client file turn sound entry = by_turn Sound client file turn
    (put_each (IsSoundEntry client.is_online) client.entries file turn.entry entry sound)

-- only handles, unanswered Reads and what is asked for change
counted : (live : LiveEntry) (handles reads : ℕ) (asking : Option Asked) → IsSoundLive live
    → (is_asking (record live { asking = asking }) ≡ true → 1 ≤ handles)
    → IsSoundLive (record live { handles = handles; reads = reads; asking = asking })
counted live handles reads asking s some = grind arith

-- ---- commands

commands_sound : (client : Client) → HasSoundEntries client → HasCommands client Sound
commands_sound client sound = record {
  refused = λ refusal. sound;
  opening = λ file terms is on. turned_sound client file _ sound on;
  added = λ file live is. let s = sound_as client sound file (Phase.Live live) is.is_so in
      turned_sound client file _ sound (s.0, counted live (live.handles + 1) live.reads live.asking s.1 (λ asks. omega arith));
  asked = λ file live terms is idle some. let s = sound_as client sound file (Phase.Live live) is.is_so in
      turned_sound client file _ sound
      (s.0, counted live live.handles live.reads (Some _) s.1 (λ asks. some_handle live.handles some));
  anew = λ file live terms is idle none. let s = sound_as client sound file (Phase.Live live) is.is_so in
      turned_sound client file _ sound s.0;
  fewer = λ file live is more. let s = sound_as client sound file (Phase.Live live) is.is_so in
      turned_sound client file _ sound (
        s.0,
        counted live (one_handle_less live.handles) live.reads live.asking s.1
            (λ asks. one_less_still live.handles more),
      );
  parked = λ file live is idle done stays. let s = sound_as client sound file (Phase.Live live) is.is_so in
      turned_sound client file _ sound
      (s.0, counted live 0 live.reads live.asking s.1 (λ asks. clash (is_asking live) asks idle));
  closed = λ file live is idle done goes. let s = sound_as client sound file (Phase.Live live) is.is_so in
      turned_sound client file _ sound (λ away. clash client.is_online s.0 away);
  cached = λ file live base is reads has. sound;
  read = λ file live is idle. let s = sound_as client sound file (Phase.Live live) is.is_so in
      turned_sound client file _ sound (s.0, counted live live.handles (live.reads + 1) live.asking s.1 s.1.asking_with_handles);
  buffered = λ file live patch is fits caches. let s = sound_as client sound file (Phase.Live live) is.is_so in
      put_each (IsSoundEntry client.is_online) client.entries file _ (
        s.0,
        record {
          base_under_reads = s.1.base_under_reads;
          unsent_under_writes = λ w. clash live.belief.write caches w;
          unsent_buffered = joined_buffered live.unsent _ s.1.unsent_buffered refl;
          asking_with_handles = s.1.asking_with_handles;
        },
      ) sound;
  written = λ file live patch is fits sends. let s = sound_as client sound file (Phase.Live live) is.is_so in
      put_each (IsSoundEntry client.is_online) client.entries file _ s sound;
  flushed = λ file live is. let s = sound_as client sound file (Phase.Live live) is.is_so in
      turned_sound client file _ sound (
        s.0,
        record {
          base_under_reads = s.1.base_under_reads;
          unsent_under_writes = λ w. refl;
          unsent_buffered = refl;
          asking_with_handles = s.1.asking_with_handles;
        },
      );
}

-- ---- messages

-- what is kept under W, and else given up, is buffered
kept_buffered : (writes : Bool) (kept : List Pending) → are_buffered kept ≡ true
    → are_buffered (if writes then kept else []) ≡ true
kept_buffered writes kept b = if_either (λ (l : List Pending). are_buffered l ≡ true) writes kept [] b refl

-- an entry without its open
without_open_sound : (online : Bool) (asking : Option Asked) (sent : List Pending) → online ≡ true
    → IsSoundEntry online (without_open asking sent)
without_open_sound online asking sent on = grind arith

-- a write that failed leaves a sound entry
failed_sound : (connected : Bool) (number : ℕ) (sent : List Pending) (phase : Phase)
    → IsSoundPhase connected sent phase → IsSoundPhase connected (sent_without number sent) phase
failed_sound connected number sent Phase.Closed s = λ away. sent_without-none number sent (s away)
failed_sound connected number sent (Phase.Offline parted) s = (s.0, sent_without-none number sent s.1, s.2)
failed_sound connected number sent (Phase.Reconnecting parted) s = (s.0, sent_without-none number sent s.1, s.2)
failed_sound connected number sent phase s = s

takes_sound : (client : Client) → HasSoundEntries client → HasTakes client (λ reply step. Sound step)
takes_sound client sound = record {
  passed = λ reply why. sound;
  parked_closes = λ file notice live at is parked. let s = sound_as client sound file (Phase.Live live) is in
      turned_sound client file _ sound (λ away. clash client.is_online s.0 away);
  lowered = λ file notice live at is stays. let s = sound_as client sound file (Phase.Live live) is in
      let new = meet live.belief notice.lowered in
      turned_sound client file _ sound (
        s.0,
        record {
          base_under_reads = kept_under new.read live.base;
          unsent_under_writes = unflushed-none live.belief new live.unsent s.1.unsent_under_writes;
          unsent_buffered = if_either (λ (l : List Pending). are_buffered l ≡ true) (gives_up live.belief new) []
              live.unsent refl s.1.unsent_buffered;
          asking_with_handles = s.1.asking_with_handles;
        },
      );
  opened = λ file file_id answer access share is. turned_sound client file _ sound (
    sound_as client sound file (Phase.Opening access share) is,
    record {
      base_under_reads = λ r. refl;
      unsent_under_writes = λ w. refl;
      unsent_buffered = refl;
      asking_with_handles = λ asks. clash false asks refl;
    },
  );
  reconnected = λ file file_id answer parted is.
      let s = sound_as client sound file (Phase.Reconnecting parted) is in
      let writes = (first_belief client file answer).write in
      turned_sound client file _ sound (
        s.0,
        record {
          base_under_reads = λ r. refl;
          unsent_under_writes = again_under writes parted.writes;
          unsent_buffered = kept_buffered writes parted.writes s.2;
          asking_with_handles = λ asks. clash false asks refl;
        },
      );
  promoted = λ file file_id answer live asked is asks.
      let s = sound_as client sound file (Phase.Live live) is in
      let belief = promoted_belief (lease_key client.guid file) live.belief answer.lease in
      turned_sound client file _ sound (
        s.0,
        record {
          base_under_reads = kept_under belief.read live.base;
          unsent_under_writes = again_under belief.write live.unsent;
          unsent_buffered = kept_buffered belief.write live.unsent s.1.unsent_buffered;
          asking_with_handles = λ asks. clash false asks refl;
        },
      );
  not_opened = λ file status access share is. turned_sound client file _ sound
      (λ away. clash client.is_online (sound_as client sound file (Phase.Opening access share) is) away);
  not_reconnected = λ file status parted is. turned_sound client file _ sound
      (λ away. clash client.is_online (sound_as client sound file (Phase.Reconnecting parted) is).0 away);
  not_promoted = λ file status live asked is asks. let s = sound_as client sound file (Phase.Live live) is in
      turned_sound client file _ sound (s.0, counted live live.handles live.reads None s.1 (λ asks. clash false asks refl));
  read = λ file file_id bytes live is id some. let s = sound_as client sound file (Phase.Live live) is in
      turned_sound client file _ sound (
        s.0,
        record {
          base_under_reads = read_under live.belief.read bytes live.base s.1.base_under_reads;
          unsent_under_writes = s.1.unsent_under_writes;
          unsent_buffered = s.1.unsent_buffered;
          asking_with_handles = s.1.asking_with_handles;
        },
      );
  read_closed = λ file file_id status live is id gone. turned_sound client file _ sound
      (without_open_sound client.is_online live.asking _ (sound_as client sound file (Phase.Live live) is).0);
  not_read = λ file file_id status live is id some. let s = sound_as client sound file (Phase.Live live) is in
      turned_sound client file _ sound
      (s.0, counted live live.handles (one_read_less live.reads) live.asking s.1 s.1.asking_with_handles);
  written = λ file file_id number at known. turned_sound client file _ sound
      (done_sound client.is_online number _ (sent_of client file) (client.entries file).phase (sound file));
  write_closed = λ file file_id number status live at known is id gone. turned_sound client file _ sound
      (without_open_sound client.is_online live.asking _ (sound_as client sound file (Phase.Live live) is).0);
  not_written = λ file file_id number status at known. turned_sound client file _ sound
      (failed_sound client.is_online number (sent_of client file) (client.entries file).phase (sound file));
}

-- ---- connections

notices_sound : (connected : Bool) (sent : List Pending)
    → HasNotices sent (λ phase turn. IsSoundPhase connected sent phase → IsSoundEntry false turn.entry)
notices_sound connected sent = record {
  closed = λ s away. refl;
  opening = λ access share s away. refl;
  ended = λ live s away. refl;
  kept = λ live writes s. (refl, refl, filter_buffered (sent ++ live.unsent));
  bare = λ live none s. (refl, refl, refl);
  offline = λ parted s. (refl, refl, s.2);
  reconnecting = λ parted s. (refl, refl, s.2);
}

-- an entry, in any phase, of a client that connects
connect_sound : (client : Client) (file : ℕ) (sent : List Pending) (phase : Phase)
    → IsSoundPhase client.is_online sent phase → IsSoundEntry true (connect_turn client file sent phase).entry
connect_sound client file sent phase s = grind arith

-- ---- the laws

-- the entries of a new client are sound
pub first_entries : (guid : List ℕ) (files : ℕ) → HasSoundEntries (new_client guid files)
unfolding new_client
first_entries guid files file = λ away. refl

-- and stay so with every call
pub called_entries : (client : Client) (call : ClientCall) → HasSoundEntries client
    → HasSoundEntries (client_called client call).client
called_entries client (ClientCall.Commanded command) sound = any_command client Sound (commands_sound client sound) command
called_entries client (ClientCall.Taken reply) sound = any_reply client _ (takes_sound client sound) reply
called_entries client ClientCall.Noticed sound = λ file. any_notice (client.entries file).sent _
    (notices_sound client.is_online (client.entries file).sent) (client.entries file).phase (sound file)
called_entries client ClientCall.Connected sound = λ file.
    connect_sound client file (client.entries file).sent (client.entries file).phase (sound file)
