-- What an entry keeps over a lost connection: where the lease of its open still holds writes, no other client opened or changed
-- the file since.
use Rattle.lease_laws.proofs.Words.{◌&&◌, ◌==◌, ◌||◌, ◌∷◌, ◌≡◌, ◌⊎◌, Among, Asked, Bool, Client, Entry, Fact, List, LiveEntry}
use Rattle.lease_laws.proofs.Words.{None, Note, Open, Option, Parted, Patch, Pending, Phase, Some, Step, Turn, World, ℕ, [], ⊤}
use Rattle.lease_laws.proofs.Words.{eq-eqb, fact_of, false, inl, inr, is_up, not, phase_with, put, refl, sent_without, subst}
use Rattle.lease_laws.proofs.Words.{sym, true, true≢false, turned, without_open}
use Rattle.lease_laws.proofs.client.Thin.{put_other, put_same}
use Rattle.lease_laws.proofs.client.cases.Commands.{HasCommands, sent_of}
use Rattle.lease_laws.proofs.client.cases.Replies.{HasTakes}
use Rattle.lease_laws.proofs.client.cases.Turns.{by_turn}
use Rattle.lease_laws.proofs.world.Links.{by_client}
use Rattle.lease_coherence.specs.Agreement.{touched_since_lost}
use Rattle.lease_coherence.proofs.covered.CoveredOpens.{IsLiveUnder}
use Rattle.lease_coherence.proofs.late.SafeWrites.{holds_write}
use Rattle.lease_coherence.proofs.records.Later.{past_noted}

-- ---- one entry

-- of an open of the client, while its lease holds writes
abbrev pub UntouchedUnder : World → ℕ → ℕ → ℕ → Type 0
UntouchedUnder world c file id = (x : Open) → Among x world.server.opens → x.client ≡ c → x.file_id ≡ id
    → holds_write world c file ≡ true → touched_since_lost c file world.past ≡ false

abbrev pub PhaseUntouched : World → ℕ → ℕ → Phase → Type 0
PhaseUntouched world c file (Phase.Live live) = is_up (world.links c) ≡ false → UntouchedUnder world c file live.file_id
PhaseUntouched world c file (Phase.Offline parted) = UntouchedUnder world c file parted.file_id
PhaseUntouched world c file (Phase.Reconnecting parted) = UntouchedUnder world c file parted.file_id
PhaseUntouched world c file phase = ⊤

abbrev pub IsUntouched : World → ℕ → Type 0
IsUntouched world c = (file : ℕ) → PhaseUntouched world c file ((world.clients c).entries file).phase

-- ---- own facts

own_first : (c : ℕ) (here : Bool) (rest : Bool) → ((here && not (c == c)) || rest) ≡ rest
own_first c true rest = rw (eq-eqb c c refl) refl
own_first c false rest = refl

pub own_changed : (c file at number : ℕ) (patch : Patch) (past : List Fact)
    → touched_since_lost c file (Fact.Changed at c number patch ∷ past) ≡ touched_since_lost c file past
unfolding touched_since_lost
own_changed c file at number patch past = own_first c (at == file) (touched_since_lost c file past)

pub own_opened : (c file at : ℕ) (past : List Fact)
    → touched_since_lost c file (Fact.Opened at c ∷ past) ≡ touched_since_lost c file past
unfolding touched_since_lost
own_opened c file at past = own_first c (at == file) (touched_since_lost c file past)

pub sent_touched : (c client file : ℕ) (past : List Fact)
    → touched_since_lost c file (Fact.Sent client ∷ past) ≡ touched_since_lost c file past
unfolding touched_since_lost
sent_touched c client file past = refl

pub expired_touched : (c client at file : ℕ) (past : List Fact)
    → touched_since_lost c file (Fact.Expired client at ∷ past) ≡ touched_since_lost c file past
unfolding touched_since_lost
expired_touched c client at file past = refl

pub joined_touched : (c client file : ℕ) (past : List Fact)
    → touched_since_lost c file (Fact.Joined client ∷ past) ≡ touched_since_lost c file past
unfolding touched_since_lost
joined_touched c client file past = refl

pub took_touched : (c client file : ℕ) (past : List Fact)
    → touched_since_lost c file (Fact.Took client ∷ past) ≡ touched_since_lost c file past
unfolding touched_since_lost
took_touched c client file past = refl

pub just_lost : (c file : ℕ) (past : List Fact) → touched_since_lost c file (Fact.Dropped c ∷ past) ≡ false
unfolding touched_since_lost
just_lost c file past = rw (eq-eqb c c refl) refl

pub noted_touched : (c client file : ℕ) (past : List Fact) (notes : List Note)
    → touched_since_lost c file (past_noted client past notes) ≡ touched_since_lost c file past
unfolding touched_since_lost
noted_touched c client file past [] = refl
noted_touched c client file past (Note.Settled number outcome ∷ notes) =
    noted_touched c client file (fact_of client (Note.Settled number outcome) ∷ past) notes
noted_touched c client file past (note ∷ notes) = noted_touched c client file (fact_of client note ∷ past) notes

-- ---- in another world

pub under_by : (world new : World) (c file id : ℕ) → ((x : Open) → Among x new.server.opens → x.client ≡ c → x.file_id ≡ id
    → (y : Open) × (Among y world.server.opens) × (y.client ≡ c) × (y.file_id ≡ id))
    → (holds_write new c file ≡ true → holds_write world c file ≡ true)
    → ((y : Open) → Among y world.server.opens → y.client ≡ c → y.file_id ≡ id → holds_write world c file ≡ true
    → touched_since_lost c file world.past ≡ false → touched_since_lost c file new.past ≡ false)
    → UntouchedUnder world c file id → UntouchedUnder new c file id
under_by world new c file id from holds touched u x there by same writes =
    let y = from x there by same in
    let was = holds writes in
    touched y.0 y.1 y.2 y.3 was (u y.0 y.1 y.2 y.3 was)

pub phase_by : (world new : World) (c file : ℕ) (phase : Phase)
    → ((live : LiveEntry) → phase ≡ Phase.Live live → is_up (new.links c) ≡ false
    → (is_up (world.links c) ≡ false → UntouchedUnder world c file live.file_id) → UntouchedUnder new c file live.file_id)
    → ((parted : Parted) → (phase ≡ Phase.Offline parted) ⊎ (phase ≡ Phase.Reconnecting parted)
    → UntouchedUnder world c file parted.file_id → UntouchedUnder new c file parted.file_id)
    → PhaseUntouched world c file phase → PhaseUntouched new c file phase
phase_by world new c file (Phase.Live entry) live parted p = λ off. live entry refl off p
phase_by world new c file (Phase.Offline kept) live parted p = parted kept (inl refl) p
phase_by world new c file (Phase.Reconnecting kept) live parted p = parted kept (inr refl) p
phase_by world new c file phase live parted p = tt

-- ---- what steps of the client make of entries

-- an entry that is parted was so; one that is live was under the same FileId, or may be of any
abbrev pub PartedBy : Bool → Phase → Phase → Type 0
PartedBy up old (Phase.Live live) = (up ≡ false) → IsLiveUnder old live.file_id
PartedBy up old (Phase.Offline parted) = old ≡ Phase.Offline parted
PartedBy up old (Phase.Reconnecting parted) = old ≡ Phase.Reconnecting parted
PartedBy up old phase = ⊤

abbrev pub StepParts : Bool → Client → Step → Type 0
StepParts up machine step = (file : ℕ) → PartedBy up (machine.entries file).phase (step.client.entries file).phase

pub same_parts : (up : Bool) (phase : Phase) → PartedBy up phase phase
same_parts up (Phase.Live live) = λ off. record { live = live; is = refl; id = refl }
same_parts up (Phase.Offline parted) = refl
same_parts up (Phase.Reconnecting parted) = refl
same_parts up phase = tt

put_parts : (up : Bool) (machine : Client) (at : ℕ) (entry : Entry)
    → PartedBy up (machine.entries at).phase entry.phase → (file : ℕ)
    → PartedBy up (machine.entries file).phase (put machine.entries at entry file).phase
put_parts up machine at entry here file = by_client
    (λ f. PartedBy up (machine.entries f).phase (put machine.entries at entry f).phase) at file
    (subst (λ (e : Entry). PartedBy up (machine.entries at).phase e.phase) (sym (put_same machine.entries at entry)) here)
    (λ ne off. subst (λ (e : Entry). PartedBy up (machine.entries file).phase e.phase)
    (sym (put_other machine.entries at entry file ne)) (same_parts up (machine.entries file).phase))

turn_parts : (up : Bool) (machine : Client) (at : ℕ) (turn : Turn)
    → PartedBy up (machine.entries at).phase turn.entry.phase → StepParts up machine (turned machine at turn)
turn_parts up machine at turn here = by_turn (StepParts up machine) machine at turn (put_parts up machine at turn.entry here)

pub commands_part : (machine : Client) → HasCommands machine (StepParts false machine)
commands_part machine = record {
  refused = λ refusal file. same_parts false (machine.entries file).phase;
  opening = λ file terms is on. turn_parts false machine file _ tt;
  added = λ file live is. turn_parts false machine file _ (λ off. record { live = live; is = is.is_so; id = refl });
  asked = λ file live terms is idle some. turn_parts false machine file _
      (λ off. record { live = live; is = is.is_so; id = refl });
  anew = λ file live terms is idle none. turn_parts false machine file _ tt;
  fewer = λ file live is more. turn_parts false machine file _ (λ off. record { live = live; is = is.is_so; id = refl });
  parked = λ file live is idle done stays. turn_parts false machine file _
      (λ off. record { live = live; is = is.is_so; id = refl });
  closed = λ file live is idle done goes. turn_parts false machine file _ tt;
  cached = λ file live base is reads has f. same_parts false (machine.entries f).phase;
  read = λ file live is idle. turn_parts false machine file _ (λ off. record { live = live; is = is.is_so; id = refl });
  buffered = λ file live patch is fits caches. put_parts false machine file _
      (λ off. record { live = live; is = is.is_so; id = refl });
  written = λ file live patch is fits sends. put_parts false machine file _
      (λ off. record { live = live; is = is.is_so; id = refl });
  flushed = λ file live is. turn_parts false machine file _ (λ off. record { live = live; is = is.is_so; id = refl });
}

gone_parts : (up : Bool) (old : Phase) (asking : Option Asked) (sent : List Pending)
    → PartedBy up old (without_open asking sent).phase
gone_parts up old None sent = tt
gone_parts up old (Some asked) sent = tt

with_parts : (old : Phase) (write : Option Pending) (phase : Phase) → old ≡ phase → PartedBy true old (phase_with write phase)
with_parts old write (Phase.Live live) is = λ off. absurd (true≢false off)
with_parts old write (Phase.Offline parted) is = is
with_parts old write (Phase.Reconnecting parted) is = is
with_parts old write phase is = tt

pub takes_part : (machine : Client) → HasTakes machine (λ reply step. StepParts true machine step)
takes_part machine = record {
  passed = λ reply why file. same_parts true (machine.entries file).phase;
  parked_closes = λ file notice live at is parked. turn_parts true machine file _ tt;
  lowered = λ file notice live at is stays. turn_parts true machine file _ (λ off. absurd (true≢false off));
  opened = λ file id answer access share is. turn_parts true machine file _ (λ off. absurd (true≢false off));
  reconnected = λ file id answer parted is. turn_parts true machine file _ (λ off. absurd (true≢false off));
  promoted = λ file id answer live asked is asks. turn_parts true machine file _ (λ off. absurd (true≢false off));
  not_opened = λ file status access share is. turn_parts true machine file _ tt;
  not_reconnected = λ file status parted is. turn_parts true machine file _ tt;
  not_promoted = λ file status live asked is asks. turn_parts true machine file _ (λ off. absurd (true≢false off));
  read = λ file id bytes live is same some. turn_parts true machine file _ (λ off. absurd (true≢false off));
  read_closed = λ file id status live is same gone. turn_parts true machine file _
      (gone_parts true _ live.asking (sent_of machine file));
  not_read = λ file id status live is same some. turn_parts true machine file _ (λ off. absurd (true≢false off));
  written = λ file id number has known. turn_parts true machine file _ (with_parts _ _ (machine.entries file).phase refl);
  write_closed = λ file id number status live has known is same gone. turn_parts true machine file _
      (gone_parts true _ live.asking (sent_without number (sent_of machine file)));
  not_written = λ file id number status has known. turn_parts true machine file _ (same_parts true (machine.entries file).phase);
}
