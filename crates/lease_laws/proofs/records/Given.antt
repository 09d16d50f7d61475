-- In the record of a run every client is sound, and no write is settled before it is given.
use Rattle.lease_laws.proofs.Words.{◌<◌, ◌==◌, ◌∷◌, ◌≡◌, ◌≢◌, ◌≤◌, Bool, Client, ClientCall, ClientsOfRunsAreSound, Event, Fact}
use Rattle.lease_laws.proofs.Words.{IsSoundClient, List, Note, Out, Patch, Progress, RunsGiveFirst, Settlement, Setup, Step}
use Rattle.lease_laws.proofs.Words.{TellNumbers, World, ℕ, [], after, all_delivered, arith, called, client_called, delivered}
use Rattle.lease_laws.proofs.Words.{eq-eqb, eqb-true, fact_of, false, first_world_under, gives_first, happened, is_settled, is_start}
use Rattle.lease_laws.proofs.Words.{length, list_all, new_client, noted, put, refl, requests_sent, reverse, served, starts_from}
use Rattle.lease_laws.proofs.Words.{stepped_in, subst, sym, true}
use Rattle.lease_laws.proofs.Words.{Rules}
use Rattle.lease_laws.proofs.client.Words.{put_each}
use Rattle.lease_laws.proofs.records.Runs.{all_starts, all_reversed}
use Rattle.lease_laws.proofs.client.Entries.{first_entries, called_entries}
use Rattle.lease_laws.proofs.client.InFiles.{first_in_files, called_in_files}
use Rattle.lease_laws.proofs.client.Notes.{called_tells}
use Rattle.lease_laws.proofs.client.Numbers.{first_numbers, called_numbers}
use Rattle.lease_laws.proofs.client.Thin.{put_same, put_other}
use Rattle.lease_laws.proofs.server.Lists.{either, clash}
use Rattle.lease_laws.proofs.world.Kept.{IsKept, IsOfWorld, after-kept}

-- a new client is sound
new_sound : (guid : List ℕ) (files : ℕ) → IsSoundClient (new_client guid files)
new_sound guid files = record {
  entries = first_entries guid files;
  in_files = first_in_files guid files;
  numbers = first_numbers guid files;
}

-- and every call keeps it so
called_sound : (client : Client) (call : ClientCall) → IsSoundClient client → IsSoundClient (client_called client call).client
called_sound client call sound = record {
  entries = called_entries client call sound.entries;
  in_files = called_in_files client call sound.in_files;
  numbers = called_numbers client call sound.entries sound.numbers;
}

-- ---- the writes of one client in a record

-- no write is settled before it is given, and those settled have numbers up to the last
pub record IsNumbered (client : ℕ) (last : ℕ) (past : List Fact) : Type 0 where
  pub gives : gives_first client past ≡ true
  pub old : (number : ℕ) → is_settled client number past ≡ true → number ≤ last

-- a fact that gives no write and settles none
abbrev is_plain : Fact → Bool
is_plain (Fact.Wrote client file number patch buffered) = false
is_plain (Fact.Settled client number outcome) = false
is_plain _ = true

-- such a fact changes nothing of this
plain_numbered : (client last : ℕ) (fact : Fact) (past : List Fact) → is_plain fact ≡ true → IsNumbered client last past
    → IsNumbered client last (fact ∷ past)
unfolding gives_first is_settled
plain_numbered client last fact past plain n = grind arith

-- a write that was given is settled
settled_numbered : (client last other number : ℕ) (outcome : Settlement) (past : List Fact)
    → (other ≡ client → number ≤ last) → IsNumbered client last past
    → IsNumbered client last (Fact.Settled other number outcome ∷ past)
unfolding gives_first is_settled
settled_numbered client last other number outcome past given n = grind arith

-- a write of the client is given, with a new number
given_numbered : (client last file number : ℕ) (patch : Patch) (buffered : Bool) (past : List Fact) → last < number
    → IsNumbered client last past → IsNumbered client number (Fact.Wrote client file number patch buffered ∷ past)
unfolding gives_first is_settled
given_numbered client last file number patch buffered past lt n = grind arith

-- a write of another client is given
other_numbered : (client last other file number : ℕ) (patch : Patch) (buffered : Bool) (past : List Fact) → other ≢ client
    → IsNumbered client last past → IsNumbered client last (Fact.Wrote other file number patch buffered ∷ past)
unfolding gives_first is_settled
other_numbered client last other file number patch buffered past ne n = grind arith

-- ---- what is noted

-- notes change no client
noted_clients : (world : World) (client : ℕ) (notes : List Note) → (noted world client notes).clients ≡ world.clients
unfolding noted
noted_clients world client [] = refl
noted_clients world client (note ∷ notes) = noted_clients (happened world (fact_of client note)) client notes

-- the notes of the client itself
own_notes : (world : World) (client : ℕ) (notes : List Note) (last new : ℕ) → TellNumbers last notes new
    → IsNumbered client last world.past → IsNumbered client new (noted world client notes).past
unfolding noted
own_notes world client [] last new tells n = subst (λ (m : ℕ). IsNumbered client m world.past) tells n
own_notes world client (Note.Settled number outcome ∷ notes) last new tells n =
    own_notes (happened world (Fact.Settled client number outcome)) client notes last new tells.1
    (settled_numbered client last client number outcome world.past (λ same. tells.0) n)
own_notes world client (Note.Wrote file number patch buffered ∷ notes) last new tells n =
    own_notes (happened world (Fact.Wrote client file number patch buffered)) client notes number new tells.1
    (given_numbered client last file number patch buffered world.past tells.0 n)
own_notes world client (Note.Believes file state ∷ notes) last new tells n =
    own_notes (happened world (Fact.Believes client file state)) client notes last new tells
    (plain_numbered client last (Fact.Believes client file state) world.past refl n)
own_notes world client (Note.CachedRead file bytes ∷ notes) last new tells n =
    own_notes (happened world (Fact.CachedRead client file bytes)) client notes last new tells
    (plain_numbered client last (Fact.CachedRead client file bytes) world.past refl n)

-- the notes of another client
other_notes : (world : World) (other client : ℕ) (notes : List Note) (last : ℕ) → other ≢ client
    → IsNumbered client last world.past → IsNumbered client last (noted world other notes).past
unfolding noted
other_notes world other client [] last ne n = n
other_notes world other client (Note.Settled number outcome ∷ notes) last ne n =
    other_notes (happened world (Fact.Settled other number outcome)) other client notes last ne
    (settled_numbered client last other number outcome world.past (λ same. absurd (ne same)) n)
other_notes world other client (Note.Wrote file number patch buffered ∷ notes) last ne n =
    other_notes (happened world (Fact.Wrote other file number patch buffered)) other client notes last ne
    (other_numbered client last other file number patch buffered world.past ne n)
other_notes world other client (Note.Believes file state ∷ notes) last ne n =
    other_notes (happened world (Fact.Believes other file state)) other client notes last ne
    (plain_numbered client last (Fact.Believes other file state) world.past refl n)
other_notes world other client (Note.CachedRead file bytes ∷ notes) last ne n =
    other_notes (happened world (Fact.CachedRead other file bytes)) other client notes last ne
    (plain_numbered client last (Fact.CachedRead other file bytes) world.past refl n)

-- ---- worlds

-- every client is sound, and its writes are numbered so in the record
pub record IsGiven (clients : ℕ → Client) (past : List Fact) : Type 0 where
  pub sound : (client : ℕ) → IsSoundClient (clients client)
  pub numbered : (client : ℕ) → IsNumbered client (clients client).last_number past

-- the same of a world
abbrev pub Given : World → Type 0
Given world = IsGiven world.clients world.past

-- a plain fact happens
happened_given : (clients : ℕ → Client) (past : List Fact) (fact : Fact) → is_plain fact ≡ true → IsGiven clients past
    → IsGiven clients (fact ∷ past)
happened_given clients past fact plain g = record {
  sound = g.sound;
  numbered = λ client. plain_numbered client (clients client).last_number fact past plain (g.numbered client);
}

-- what the server gives out is plain
delivered_given : (world : World) (out : Out) → Given world → Given (delivered world out)
delivered_given world (Out.Sent client reply) g = happened_given world.clients world.past (Fact.Sent client) refl g
delivered_given world (Out.Opened file client) g = happened_given world.clients world.past (Fact.Opened file client) refl g
delivered_given world (Out.Changed file client number patch) g =
    happened_given world.clients world.past (Fact.Changed file client number patch) refl g

-- all that it gives out
all_delivered_given : (world : World) (outs : List Out) → Given world → Given (all_delivered world outs)
unfolding all_delivered
all_delivered_given world [] g = g
all_delivered_given world (out ∷ outs) g = all_delivered_given (delivered world out) outs (delivered_given world out g)

-- a call of the server
served_given : (world : World) (progress : Progress) → Given world → Given (served world progress)
served_given world progress g = all_delivered_given (record world { server = progress.server }) progress.outs g

-- a step of a client
stepped_given : (world : World) (client : ℕ) (step : Step) → Given world → IsSoundClient step.client
    → TellNumbers (world.clients client).last_number step.notes step.client.last_number → Given (stepped_in world client step)
stepped_given world client step g sound tells =
    let middle : World = requests_sent (record world { clients = put world.clients client step.client }) client step.requests in
    let past : List Fact = (noted middle client step.notes).past in
    let clients : ℕ → Client = put world.clients client step.client in
    subst (λ (c : ℕ → Client). IsGiven c past) (sym (noted_clients middle client step.notes)) (record {
      sound = put_each IsSoundClient world.clients client step.client sound g.sound;
      numbered = λ d. either (d == client)
          (λ e. let same : d ≡ client = eqb-true d client e in
          subst (λ (m : ℕ). IsNumbered m (clients m).last_number past) (sym same)
          (subst (λ (c : Client). IsNumbered client c.last_number past) (sym (put_same world.clients client step.client))
          (own_notes middle client step.notes (world.clients client).last_number step.client.last_number tells
          (g.numbered client))))
          (λ e. let apart : d ≢ client = λ same. clash (d == client) (eq-eqb d client same) e in
          subst (λ (c : Client). IsNumbered d c.last_number past) (sym (put_other world.clients client step.client d apart))
          (other_notes middle client d step.notes (world.clients d).last_number (λ same. apart (sym same)) (g.numbered d)));
    })

-- a call of a client
call_given : (world : World) (client : ℕ) (call : ClientCall) → Given world
    → Given (stepped_in world client (client_called (world.clients client) call))
call_given world client call g = stepped_given world client (client_called (world.clients client) call) g
    (called_sound (world.clients client) call (g.sound client)) (called_tells (world.clients client) call (g.sound client))

-- ---- events

world_plain : (fact : Fact) → IsOfWorld fact → is_plain fact ≡ true
world_plain fact of = grind arith

pub given_kept : IsKept Given
given_kept = record {
  messages = λ world requests replies links g. g;
  fact = λ world fact of g. happened_given world.clients world.past fact (world_plain fact of) g;
  call = λ world call g. served_given world (called world.server call) g;
  step = call_given;
}

-- ---- where a run begins

-- where files are only started, no write is given or settled
started_numbered : (client last : ℕ) (past : List Fact) → list_all is_start past ≡ true → IsNumbered client last past
unfolding gives_first is_settled
started_numbered client last [] all = record { gives = refl; old = λ number e. clash false e refl }
started_numbered client last (Fact.Start file bytes ∷ past) all =
    let rest : IsNumbered client last past = started_numbered client last past all in
    record { gives = rest.gives; old = rest.old }
started_numbered client last (_ ∷ past) all = clash false all refl

-- where a run begins, every client is new
pub first_given : (rules : Rules) (setup : Setup) → Given (first_world_under rules setup)
unfolding first_world_under
first_given rules setup = record {
  sound = λ client. new_sound _ (length setup.files);
  numbered = λ client. started_numbered client _ (reverse (starts_from 1 setup.files))
      (all_reversed (starts_from 1 setup.files) [] (all_starts 1 setup.files) refl);
}

-- the world after any run
run_given : (rules : Rules) (setup : Setup) (events : List Event) → Given (after (first_world_under rules setup) events)
run_given rules setup events = after-kept Given given_kept (first_world_under rules setup) events (first_given rules setup)

-- so no write is settled before it is given
pub runs_give_first : RunsGiveFirst
runs_give_first rules setup events client = ((run_given rules setup events).numbered client).gives

-- and every client is sound
pub clients_of_runs : ClientsOfRunsAreSound
clients_of_runs rules setup events client = (run_given rules setup events).sound client
