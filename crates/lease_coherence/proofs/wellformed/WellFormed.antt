-- Every record of a run is well formed.
use Rattle.lease_laws.proofs.Words.{◌&&◌, ◌+◌, ◌<◌, ◌==◌, ◌||◌, ◌∙◌, ◌∷◌, ◌≡◌, ◌≢◌, ◌≤◌, ◌⊎◌, Among, Bool, Client, ClientCall}
use Rattle.lease_laws.proofs.Words.{EachFact, Event, Fact, FileRequest, IsSoundClient, Link, List, Note, Reply, Server, Setup}
use Rattle.lease_laws.proofs.Words.{TellNumbers, WellFormed, World, ℕ, [], ⊎_elim, after, ap, arith, client_called, eq-eqb}
use Rattle.lease_laws.proofs.Words.{eqb-true, false, first_world_under, has_file, has_joined, inl, inr, is_allowed_setup, is_started}
use Rattle.lease_laws.proofs.Words.{is_up, is_well_formed, is_within_limit, knows_file, last_file_number, lease_after}
use Rattle.lease_laws.proofs.Words.{lease_put, length, nat_le, nat_lt, new_client, new_server_under, not, put, refl, reverse-reverse}
use Rattle.lease_laws.proofs.Words.{reverse_aux, sendings, starts_from, stepped_in, subst, suc, sym, takings, true, true≢false}
use Rattle.lease_laws.proofs.Words.{Rules}
use Rattle.lease_model.specs.records.Past.{has_number}
use Rattle.lease_laws.proofs.client.Forms.{commanded-stays, taken-stays}
use Rattle.lease_laws.proofs.client.Notes.{called_tells}
use Rattle.lease_laws.proofs.client.Thin.{put_other, put_same}
use Rattle.lease_laws.proofs.server.Lists.{and_both, and_parts, clash, either, find_has, not_false, not_true, or_true, true_or}
use Rattle.lease_laws.proofs.world.InStep.{few_files, take_all}
use Rattle.lease_laws.proofs.world.Links.{by_client, stepped_links}
use Rattle.lease_laws.proofs.world.Runs.{stepped_clients, stepped_server}
use Rattle.lease_laws.proofs.world.cases.Events.{IsTold}
use Rattle.lease_coherence.specs.Parts.{RunsAreWellFormed}
use Rattle.lease_coherence.proofs.moves.Deeds.{HasDeeds, IsSource, step_deed}
use Rattle.lease_coherence.proofs.moves.Events.{Both, Ground, IsMoved, Move, carried_both, come_back, reply_gone, runs_have}
use Rattle.lease_coherence.proofs.moves.Frames.{from_source, lease_put_rest, stepped_past}
use Rattle.lease_coherence.proofs.moves.Ground.{first_ground, ground_carried}
use Rattle.lease_coherence.proofs.records.Later.{later_fact, later_noted, past_noted}
use Rattle.lease_coherence.proofs.wellformed.Notes.{EachNote, IsFineNote, call_fine}

-- The record is well formed; what the server and the clients know as files was started; a client whose link is up has
-- joined; the numbers of a client's writes are those that it gave.
pub record IsWellIn (past : List Fact) (clients : ℕ → Client) (links : ℕ → Link) (server : Server) : Type 0 where
  pub facts : EachFact WellFormed past
  pub started : (file : ℕ) → has_file server file ≡ true → is_started file past ≡ true
  pub files : (client : ℕ) → (clients client).files ≡ server.files
  pub joined_so : (client : ℕ) → is_up (links client) ≡ true → has_joined client past ≡ true
  pub numbers : (client number : ℕ) → has_number client number past ≡ true → number ≤ (clients client).last_number

abbrev pub IsWell : World → Type 0
IsWell world = IsWellIn world.past world.clients world.links world.server

-- one more fact of the server
more_well : (past : List Fact) (fact : Fact) (clients : ℕ → Client) (links : ℕ → Link) (server after : Server)
    → after.files ≡ server.files → WellFormed fact past
    → ((client number : ℕ) → has_number client number (fact ∷ past) ≡ has_number client number past)
    → IsWellIn past clients links server → IsWellIn (fact ∷ past) clients links after
more_well past fact clients links server after same well none w = record {
  facts = (well, w.facts);
  started = λ file has. (later_fact past fact).started file
      (w.started file (ap (λ n. has_file (record server { files = n }) file) (sym same) ∙ has));
  files = λ client. w.files client ∙ sym same;
  joined_so = λ client up. (later_fact past fact).joined client (w.joined_so client up);
  numbers = λ client number used. w.numbers client number (sym (none client number) ∙ used);
}

server_well : (past : List Fact) (clients : ℕ → Client) (links : ℕ → Link) (server after : Server)
    → after.files ≡ server.files → IsWellIn past clients links server → IsWellIn past clients links after
server_well past clients links server after same w = record {
  facts = w.facts;
  started = λ file has. w.started file (ap (λ n. has_file (record server { files = n }) file) (sym same) ∙ has);
  files = λ client. w.files client ∙ sym same;
  joined_so = w.joined_so;
  numbers = w.numbers;
}

sent_well : (past : List Fact) (client : ℕ) (clients : ℕ → Client) (links : ℕ → Link) (server after : Server)
    → after.files ≡ server.files → IsWellIn past clients links server → IsWellIn (Fact.Sent client ∷ past) clients links after
unfolding is_well_formed has_number
sent_well past client clients links server after same w =
    more_well past (Fact.Sent client) clients links server after same refl (λ c n. refl) w

opened_well : (past : List Fact) (file client : ℕ) (clients : ℕ → Client) (links : ℕ → Link) (server after : Server)
    → after.files ≡ server.files → has_file server file ≡ true → IsWellIn past clients links server
    → IsWellIn (Fact.Opened file client ∷ past) clients links after
unfolding is_well_formed has_number
opened_well past file client clients links server after same has w =
    more_well past (Fact.Opened file client) clients links server after same (w.started file has) (λ c n. refl) w

changed_well : (past : List Fact) (file client number : ℕ) (patch : _) (clients : ℕ → Client) (links : ℕ → Link)
    (server after : Server) → after.files ≡ server.files → has_file server file ≡ true
    → is_within_limit patch ≡ true → IsWellIn past clients links server
    → IsWellIn (Fact.Changed file client number patch ∷ past) clients links after
unfolding is_well_formed has_number
changed_well past file client number patch clients links server after same has fits w =
    more_well past (Fact.Changed file client number patch) clients links server after same
    (and_both _ _ (w.started file has) fits) (λ c n. refl) w

-- ---- steps of the server

off_well : (world off : World) (client : ℕ) (request : FileRequest) → IsSource world off client request → IsWell world
    → IsWell off
off_well world off client request source w = from_source world off client request IsWell source w
    (λ file left. server_well world.past world.clients world.links world.server _ refl w)

-- the server's files are the same, and an open is on one of them
off_files : (world off : World) (client : ℕ) (request : FileRequest) → IsSource world off client request
    → (off.server.files ≡ world.server.files) × (off.server.opens ≡ world.server.opens)
off_files world off client request source = from_source world off client request
    (λ o. (o.server.files ≡ world.server.files) × (o.server.opens ≡ world.server.opens)) source (refl, refl)
    (λ file left. (refl, refl))

deeds_well : (world : World) → Ground world → IsWell world → HasDeeds world IsWell
deeds_well world g w = record {
  refused = λ off client request status source may. sent_well off.past client off.clients off.links off.server off.server refl
      (off_well world off client request source w);
  full = λ off client file access share ask source. sent_well off.past client off.clients off.links off.server off.server refl
      (off_well world off client _ source w);
  granted = λ off client file access share ask source none on free.
      let lease = lease_after off.server client file ask.lease in
      let same : (lease_put off.server client ask.lease lease).files ≡ off.server.files =
      lease_put_rest off.server client ask.lease lease (λ s. s.files ≡ off.server.files) (λ l. refl) in
      sent_well _ client off.clients off.links off.server _ same
      (opened_well off.past file client off.clients off.links off.server off.server refl on
      (off_well world off client _ source w));
  reconnected = λ off client file access share ask file_id source again on waits.
      sent_well off.past client off.clients off.links off.server _ refl (off_well world off client _ source w);
  read = λ off client file_id one source found may. sent_well off.past client off.clients off.links off.server off.server refl
      (off_well world off client _ source w);
  changed = λ off client file_id number patch one source found may.
      let same = off_files world off client (FileRequest.Write file_id number patch) source in
      let there = (find_has _ one off.server.opens found).0 in
      sent_well _ client off.clients off.links off.server _ refl
      (changed_well off.past one.file client number patch off.clients off.links off.server off.server refl
      (ap (λ n. has_file (record world.server { files = n }) one.file) same.0
      ∙ g.fine.orderly.open_files one (subst (λ (l : List _). Among one l) same.1 there))
      may.fits (off_well world off client _ source w));
  closed = λ off client file_id one source found.
      sent_well off.past client off.clients off.links off.server _ refl (off_well world off client _ source w);
  ack_failed = λ client given status oldest up why.
      sent_well world.past client world.clients world.links world.server world.server refl w;
  ack_done = λ client given lowered oldest up there breaks within.
      sent_well world.past client world.clients world.links world.server _ refl w;
  hold = λ file one oldest may turn. server_well world.past world.clients world.links world.server _ refl w;
  drop = λ key. server_well world.past world.clients world.links world.server _ refl w;
  lower = λ key lowered may light. sent_well world.past key.client world.clients world.links world.server _ refl w;
  begin = λ key lowered may heavy. sent_well world.past key.client world.clients world.links world.server _ refl w;
}

-- ---- steps of a client

other_writer : (client writer number used : ℕ) (more : Bool) → writer ≢ client
    → ((writer == client && used == number) || more) ≡ more
other_writer client writer number used more ne = rw (apart) refl
  where
    apart : (writer == client) ≡ false
    apart = not_true (writer == client) (λ e. ne (eqb-true writer client e))

-- notes keep the record well formed
noted_well : (client : ℕ) (machine after : Client) (last new : ℕ) (past : List Fact) (notes : List Note)
    → ((file : ℕ) → knows_file machine file ≡ true → is_started file past ≡ true)
    → EachNote (IsFineNote machine after) notes → TellNumbers last notes new
    → ((number : ℕ) → has_number client number past ≡ true → number ≤ last) → EachFact WellFormed past
    → EachFact WellFormed (past_noted client past notes)
    × ((number : ℕ) → has_number client number (past_noted client past notes) ≡ true → number ≤ new)
unfolding is_well_formed has_number
noted_well client machine after last new past [] started fine tells low facts =
    (facts, λ number used. subst (λ n. number ≤ n) tells (low number used))
noted_well client machine after last new past (Note.Settled number outcome ∷ notes) started fine tells low facts =
    noted_well client machine after last new (Fact.Settled client number outcome ∷ past) notes
    (λ file k. (later_fact past (Fact.Settled client number outcome)).started file (started file k))
    fine.1 tells.1 low (refl, facts)
noted_well client machine after last new past (Note.Wrote file number patch buffered ∷ notes) started fine tells low facts =
    noted_well client machine after number new (Fact.Wrote client file number patch buffered ∷ past) notes
    (λ f k. (later_fact past (Fact.Wrote client file number patch buffered)).started f (started f k)) fine.1 tells.1 used_low (
      let first = fine.0 in and_both _ _ (and_both _ _ (started file first.0) first.1) (not_of (has_number client number past)
          (λ used. omega (arith, tells.0, low number used))),
      facts,
    )
  where
    not_of : (b : Bool) → (b ≡ true → ⊥) → not b ≡ true
    not_of true never = absurd (never refl)
    not_of false never = refl

    used_low : (n : ℕ) → ((client == client && number == n) || has_number client n past) ≡ true → n ≤ number
    used_low n used = ⊎_elim
        (λ now. same_number n (eqb-true number n (and_parts (client == client) (number == n) now).1))
        (λ before. omega (arith, tells.0, low n before))
        (or_true (client == client && number == n) (has_number client n past) used)
      where
        same_number : (m : ℕ) → number ≡ m → m ≤ number
        same_number m e = omega (arith, e)
noted_well client machine after last new past (Note.Believes file state ∷ notes) started fine tells low facts =
    noted_well client machine after last new (Fact.Believes client file state ∷ past) notes
    (λ f k. (later_fact past (Fact.Believes client file state)).started f (started f k))
    fine.1 tells low (let first = fine.0 in (started file first.0, facts))
noted_well client machine after last new past (Note.CachedRead file bytes ∷ notes) started fine tells low facts =
    noted_well client machine after last new (Fact.CachedRead client file bytes ∷ past) notes
    (λ f k. (later_fact past (Fact.CachedRead client file bytes)).started f (started f k))
    fine.1 tells low (started file fine.0, facts)

-- notes of one client use no number of another
others_numbers : (client other number : ℕ) (past : List Fact) (notes : List Note) → client ≢ other
    → has_number other number (past_noted client past notes) ≡ has_number other number past
unfolding has_number
others_numbers client other number past [] ne = refl
others_numbers client other number past (Note.Settled n outcome ∷ notes) ne =
    others_numbers client other number (Fact.Settled client n outcome ∷ past) notes ne
others_numbers client other number past (Note.Wrote file n patch buffered ∷ notes) ne =
    others_numbers client other number (Fact.Wrote client file n patch buffered ∷ past) notes ne
    ∙ other_writer other client number n (has_number other number past) ne
others_numbers client other number past (Note.Believes file state ∷ notes) ne =
    others_numbers client other number (Fact.Believes client file state ∷ past) notes ne
others_numbers client other number past (Note.CachedRead file bytes ∷ notes) ne =
    others_numbers client other number (Fact.CachedRead client file bytes ∷ past) notes ne

stepped_well : (world : World) (client : ℕ) (call : ClientCall) → ((c : ℕ) → IsSoundClient (world.clients c))
    → (client_called (world.clients client) call).client.files ≡ (world.clients client).files → IsWell world
    → IsWell (stepped_in world client (client_called (world.clients client) call))
stepped_well world client call sound same w =
    let machine = world.clients client in
    let step = client_called machine call in
    let next = stepped_in world client step in
    let new = past_noted client world.past step.notes in
    let noted = noted_well client machine step.client machine.last_number step.client.last_number world.past step.notes
    (λ file k. w.started file (known file k)) (call_fine machine call (sound client))
    (called_tells machine call (sound client)) (w.numbers client) w.facts in
    let whole : IsWellIn new (put world.clients client step.client) world.links world.server = record {
      facts = noted.0;
      started = λ file has. (later_noted client world.past step.notes).started file (w.started file has);
      files = λ c. by_client (λ d. (put world.clients client step.client d).files ≡ world.server.files) client c
          (ap (λ (m : Client). m.files) (put_same world.clients client step.client) ∙ same ∙ w.files client)
          (λ ne apart. ap (λ (m : Client). m.files) (put_other world.clients client step.client c ne) ∙ w.files c);
      joined_so = λ c up. (later_noted client world.past step.notes).joined c (w.joined_so c up);
      numbers = λ c number used. by_client
          (λ d. has_number d number new ≡ true → number ≤ (put world.clients client step.client d).last_number) client c
          (λ u. subst (λ (m : Client). number ≤ m.last_number) (sym (put_same world.clients client step.client))
          (noted.1 number u))
          (λ ne apart u. subst (λ (m : Client). number ≤ m.last_number) (sym (put_other world.clients client step.client c ne))
          (w.numbers c number (sym (others_numbers client c number world.past step.notes (λ e. ne (sym e))) ∙ u))) used;
    } in
    subst (λ past. IsWellIn past next.clients next.links next.server) (sym (stepped_past world client step))
    (subst (λ (t : ℕ → Client). IsWellIn new t next.links next.server) (sym (stepped_clients world client step))
    (subst (λ (l : ℕ → Link). IsWellIn new (put world.clients client step.client) l next.server)
    (sym (stepped_links world client step)) (subst (IsWellIn new (put world.clients client step.client) world.links)
    (sym (stepped_server world client step)) whole)))
  where
    known : (file : ℕ) → knows_file (world.clients client) file ≡ true → has_file world.server file ≡ true
    known file k = ap (λ n. nat_le 1 file && nat_le file n) (sym (w.files client)) ∙ k

-- ---- the other moves

plain_well : (past : List Fact) (fact : Fact) (clients : ℕ → Client) (links new : ℕ → Link) (server after : Server)
    → after.files ≡ server.files → WellFormed fact past
    → ((client number : ℕ) → has_number client number (fact ∷ past) ≡ has_number client number past)
    → ((client : ℕ) → is_up (new client) ≡ true → (is_up (links client) ≡ true) ⊎ (has_joined client (fact ∷ past) ≡ true))
    → IsWellIn past clients links server → IsWellIn (fact ∷ past) clients new after
plain_well past fact clients links new server after same well none from w =
    let v = more_well past fact clients links server after same well none w in record {
      facts = v.facts;
      started = v.started;
      files = v.files;
      joined_so = λ client up. ⊎_elim (λ was. v.joined_so client was) (λ now. now) (from client up);
      numbers = v.numbers;
    }

-- a message that is taken was sent before
took_formed : (world : World) (client : ℕ) (reply : Reply) (queue : List Reply) → Ground world
    → world.replies client ≡ reply ∷ queue → IsWell world → WellFormed (Fact.Took client) world.past
unfolding is_well_formed
took_formed world client reply queue g first w =
    let t = g.tied client in
    let up : is_up (world.links client) ≡ true = not_false (is_up (world.links client))
    (λ down. not_empty reply queue (sym first ∙ t.replies down)) in
    and_both _ _ (w.joined_so client up)
    (lower (takings client world.past) (length (sendings client world.past)) (length (world.replies client))
    (length queue) (t.counted up) (ap (λ (q : List Reply). length q) first))
  where
    not_empty : {X : Type 0} (x : X) (xs : List X) → (x ∷ xs) ≡ [] → ⊥
    not_empty x xs e = cc

    lower : (a b m n : ℕ) → b ≡ a + m → m ≡ suc n → nat_lt a b ≡ true
    lower a b m n e f = below a b (omega (arith, e, f))
      where
        below : (x y : ℕ) → x < y → nat_lt x y ≡ true
        below x y h = grind arith

-- a link that was put
put_up : (links : ℕ → Link) (client : ℕ) (link : Link) (c : ℕ) → is_up (put links client link c) ≡ true
    → (is_up (links c) ≡ true) ⊎ ((c ≡ client) × (is_up link ≡ true))
put_up links client link c up = by_client
    (λ d. is_up (put links client link d) ≡ true → (is_up (links d) ≡ true) ⊎ ((d ≡ client) × (is_up link ≡ true)))
    client c (λ u. inr (refl, sym (ap is_up (put_same links client link)) ∙ u))
    (λ ne apart u. inl (sym (ap is_up (put_other links client link c ne)) ∙ u)) up

told_well : (client : ℕ) (fact : Fact) (past : List Fact) → IsTold client fact → WellFormed fact past
unfolding is_well_formed
told_well client fact past is = grind arith

told_numbers : (client : ℕ) (fact : Fact) (past : List Fact) (c number : ℕ) → IsTold client fact
    → has_number c number (fact ∷ past) ≡ has_number c number past
unfolding has_number
told_numbers client fact past c number is = grind arith

pub well_moves : IsMoved Ground IsWell
unfolding is_well_formed has_number has_joined
well_moves world (Move.Told client fact) is g w = more_well world.past fact world.clients world.links world.server world.server
    refl (told_well client fact world.past is) (λ c n. told_numbers client fact world.past c n is) w
well_moves world (Move.Step step) next g w = step_deed world IsWell (deeds_well world g w) step next
well_moves world (Move.Cut client) up g w = plain_well world.past (Fact.Dropped client) world.clients world.links
    (put world.links client Link.Cut) world.server _ refl refl (λ c n. refl)
    (λ c u. ⊎_elim (λ was. inl was) (λ now. absurd (true≢false (sym now.1))) (put_up world.links client Link.Cut c u)) w
well_moves world (Move.Expire client file) (on, breaks) g w =
    more_well world.past (Fact.Expired client file) world.clients world.links
    world.server _ refl (w.started file on) (λ c n. refl) w
well_moves world (Move.Scavenge file_id) may g w = server_well world.past world.clients world.links world.server _ refl w
well_moves world (Move.Connect client) down g w = stepped_well (come_back world client) client ClientCall.Connected g.clients refl
    (plain_well world.past (Fact.Joined client) world.clients world.links (put world.links client Link.Up)
    world.server _ refl refl (λ c n. refl)
    (λ c u. ⊎_elim (λ was. inl was)
    (λ now. inr (true_or (client == c) (has_joined c world.past) (eq-eqb client c (sym now.0))))
    (put_up world.links client Link.Up c u)) w)
well_moves world (Move.Commanded client command) may g w = stepped_well world client (ClientCall.Commanded command) g.clients
    (commanded-stays (world.clients client) command).files w
well_moves world (Move.Take client reply queue) first g w = stepped_well (reply_gone world client queue) client
    (ClientCall.Taken reply) g.clients (taken-stays (world.clients client) reply).files
    (more_well world.past (Fact.Took client) world.clients world.links world.server world.server refl
    (took_formed world client reply queue g first w) (λ c n. refl) w)
well_moves world (Move.Notice client) cut g w = stepped_well (record world { links = put world.links client Link.Down }) client
    ClientCall.Noticed g.clients refl (record {
      facts = w.facts;
      started = w.started;
      files = w.files;
      joined_so = λ c u. ⊎_elim (λ was. w.joined_so c was) (λ now. absurd (true≢false (sym now.1)))
          (put_up world.links client Link.Down c u);
      numbers = w.numbers;
    })
well_moves world (Move.Stray client request) may g w = record {
  facts = w.facts;
  started = w.started;
  files = w.files;
  joined_so = w.joined_so;
  numbers = w.numbers;
}

-- ---- where runs begin

record HasStarts (first : ℕ) (past : List Fact) : Type 0 where
  facts : EachFact WellFormed past
  below : (file : ℕ) → is_started file past ≡ true → file < first
  started : (file : ℕ) → 1 ≤ file → file < first → is_started file past ≡ true
  unused : (client number : ℕ) → has_number client number past ≡ false

one_start : (first : ℕ) (bytes : List ℕ) (past : List Fact) → HasStarts first past
    → HasStarts (first + 1) (Fact.Start first bytes ∷ past)
unfolding is_well_formed is_started has_number
one_start first bytes past h = record {
  facts = (new (is_started first past) (λ there. omega (arith, h.below first there)), h.facts);
  below = λ file there. ⊎_elim (λ now. omega (arith, eqb-true first file now)) (λ before. omega (arith, h.below file before))
      (or_true (first == file) (is_started file past) there);
  started = λ file up low. either (first == file) (λ same. rw (same) refl)
      (λ apart. rw (apart) (h.started file up (lower file low (λ e. clash (first == file) (eq-eqb first file e) apart))));
  unused = h.unused;
}
  where
    new : (b : Bool) → (b ≡ true → ⊥) → not b ≡ true
    new true never = absurd (never refl)
    new false never = refl

    lower : (file : ℕ) → file < first + 1 → first ≢ file → file < first
    lower file low ne = ⊎_elim (λ l. l) (λ e. absurd (ne (sym e))) (split file first low)
      where
        split : (a b : ℕ) → a < b + 1 → (a < b) ⊎ (a ≡ b)
        split a b l = either (nat_lt a b) (λ e. inl (is_below a b e)) (λ e. inr (is_top a b l e))
          where
            is_below : (x y : ℕ) → nat_lt x y ≡ true → x < y
            is_below x y e = grind arith

            is_top : (x y : ℕ) → x < y + 1 → nat_lt x y ≡ false → x ≡ y
            is_top x y l e = grind arith

all_starts_well : (first : ℕ) (files : List (List ℕ)) (past : List Fact) → HasStarts first past
    → HasStarts (first + length files) (reverse_aux (starts_from first files) past)
unfolding starts_from
all_starts_well first [] past h = subst (λ n. HasStarts n past) (more first) h
  where
    more : (n : ℕ) → n ≡ n + 0
    more n = omega arith
all_starts_well first (bytes ∷ files) past h =
    subst (λ n. HasStarts n (reverse_aux (starts_from (first + 1) files) (Fact.Start first bytes ∷ past)))
    (more first (length files)) (all_starts_well (first + 1) files (Fact.Start first bytes ∷ past) (one_start first bytes past h))
  where
    more : (n m : ℕ) → n + 1 + m ≡ n + suc m
    more n m = omega arith

no_starts : HasStarts 1 []
unfolding is_started has_number
no_starts = record {
  facts = tt;
  below = λ file never. absurd (true≢false (sym never));
  started = λ file up low. absurd (omega (arith, up, low));
  unused = λ client number. refl;
}

pub first_well : (rules : Rules) (setup : Setup) → is_allowed_setup setup ≡ true → IsWell (first_world_under rules setup)
unfolding first_world_under new_server_under is_allowed_setup new_client
first_well rules setup allowed =
    let h = all_starts_well 1 setup.files [] no_starts in
    let few = (and_parts _ _ (and_parts _ _ (and_parts _ _ allowed).0).0).0 in
    let all = take_all last_file_number setup.files (few_files setup.files few) in record {
      facts = h.facts;
      started = λ file has. h.started file (at_least file (and_parts _ _ has).0) (at_most file (length setup.files)
          (ap (λ (l : List (List ℕ)). nat_le file (length l)) (sym all) ∙ (and_parts _ _ has).1));
      files = λ client. ap (λ (l : List (List ℕ)). length l) (sym all);
      joined_so = λ client up. absurd (true≢false (sym up));
      numbers = λ client number used. absurd (true≢false (sym used ∙ h.unused client number));
    }
  where
    at_least : (n : ℕ) → nat_le 1 n ≡ true → 1 ≤ n
    at_least n e = grind arith

    at_most : (n m : ℕ) → nat_le n m ≡ true → n < 1 + m
    at_most n m e = grind arith

-- ---- every run

run_well : (rules : Rules) (setup : Setup) (events : List Event) → is_allowed_setup setup ≡ true
    → Both Ground IsWell (after (first_world_under rules setup) events)
run_well rules setup events allowed = runs_have (Both Ground IsWell) (λ world both. both.0)
    (carried_both Ground IsWell ground_carried well_moves) rules setup
    (first_ground rules setup, first_well rules setup allowed) events

pub runs_are_well_formed : RunsAreWellFormed
runs_are_well_formed rules setup events allowed = subst (EachFact WellFormed)
    (sym (reverse-reverse (after (first_world_under rules setup) events).past)) (run_well rules setup events allowed).1.facts
