-- Which steps of a client send an acknowledgment, and what stands before it.
use Rattle.lease_laws.proofs.Words.{◌==◌, ◌∙◌, ◌∷◌, ◌≡◌, ◌⊎◌, BreakNotice, Client, Command, List, LiveEntry, Phase, Reply}
use Rattle.lease_laws.proofs.Words.{Request, Some, State, Step, Turn, ℕ, [], acknowledgment, ap, belief_lowered, bytes_eq}
use Rattle.lease_laws.proofs.Words.{commanded, eq-eqb, eqb-true, flushed, inl, inr, is_key_of, lease_key, meet, refl, taken}
use Rattle.lease_laws.proofs.Words.{true, turned}
use Rattle.lease_laws.proofs.client.cases.Commands.{any_command, sent_of}
use Rattle.lease_laws.proofs.client.cases.Replies.{any_reply}
use Rattle.lease_laws.proofs.client.cases.Turns.{by_turn}
use Rattle.lease_laws.proofs.server.Lists.{clash, either, if_cases}
use Rattle.lease_coherence.specs.Names.{Each}
use Rattle.lease_coherence.proofs.beliefs.Forms.{HasBeliefTakes, IsAboutFile, IsStill, commands_still, file_no_acks}
use Rattle.lease_coherence.proofs.beliefs.Forms.{lowered_elsewhere, parked_still, takes_by_belief}
use Rattle.lease_coherence.proofs.beliefs.OneLease.{OpenTillAck, acks, open_before}
use Rattle.lease_coherence.proofs.standing.Clients.{writes_close}

-- a step sends none of the file's key, or one behind no Close of the live open
pub record AnchorsLive (machine : Client) (file : ℕ) (step : Step) : Type 0 where
  pub live : LiveEntry
  pub was : (machine.entries file).phase ≡ Phase.Live live
  pub till : OpenTillAck (lease_key machine.guid file) live.file_id step.requests

abbrev pub AnchorsOn : Client → Step → Type 0
AnchorsOn machine step = (file : ℕ) → (acks (lease_key machine.guid file) step.requests ≡ 0) ⊎ AnchorsLive machine file step

about_none : (machine : Client) (step : Step) → Each IsAboutFile step.requests → AnchorsOn machine step
about_none machine step about file = inl (file_no_acks (lease_key machine.guid file) step.requests about)

turn_none : (machine : Client) (at : ℕ) (turn : Turn) → Each IsAboutFile turn.requests → AnchorsOn machine
    (turned machine at turn)
turn_none machine at turn about = about_none machine (turned machine at turn)
    (by_turn (λ step. Each IsAboutFile step.requests) machine at turn about)

pub command_anchors : (machine : Client) (command : Command) → AnchorsOn machine (commanded machine command)
command_anchors machine command = about_none machine (commanded machine command)
    (any_command machine (IsStill machine) (commands_still machine) command).about

-- a break
ack_till : (key : List ℕ) (file_id : ℕ) (notice : BreakNotice) (state : State) → bytes_eq key notice.key ≡ true
    → OpenTillAck key file_id (acknowledgment notice state)
ack_till key file_id notice state own = if_cases (OpenTillAck key file_id) notice.ack_required
    (Request.Acknowledge (Some (record { key = notice.key; state = state })) ∷ []) []
    (λ asked other. clash (bytes_eq key notice.key) own other) (λ plain. tt)

lowered_anchors : (machine : Client) (at : ℕ) (notice : BreakNotice) (live : LiveEntry)
    → is_key_of machine notice.key at ≡ true → (machine.entries at).phase ≡ Phase.Live live → AnchorsOn machine (turned machine at
    (belief_lowered live (sent_of machine at) notice (meet live.belief notice.lowered)))
lowered_anchors machine at notice live own is = by_turn (AnchorsOn machine) machine at _ (λ file.
    let new = meet live.belief notice.lowered in
    either (file == at)
    (λ same. let e = eqb-true file at same in inr (record {
      live = live;
      was = ap (λ f. (machine.entries f).phase) e ∙ is;
      till = open_before (lease_key machine.guid file) live.file_id _ (acknowledgment notice new)
          (writes_close live.file_id live.file_id (flushed live.belief new live.unsent))
          (ack_till (lease_key machine.guid file) live.file_id notice new
          (ap (λ f. bytes_eq (lease_key machine.guid f) notice.key) e ∙ own));
    }))
    (λ other. inl (lowered_elsewhere machine at notice live own file (λ e. clash (file == at) (eq-eqb file at e) other))))

anchoring : (machine : Client) → HasBeliefTakes machine (λ reply step. AnchorsOn machine step)
anchoring machine = record {
  passed = λ reply why file. inl refl;
  parked = λ at notice live own. about_none machine _ (parked_still machine at live).about;
  lowered = lowered_anchors machine;
  granted = λ at file_id answer turn next is about from. turn_none machine at turn about;
  still = λ reply step none still. about_none machine step still.about;
}

pub take_anchors : (machine : Client) (reply : Reply) → AnchorsOn machine (taken machine reply)
take_anchors machine reply = any_reply machine (λ reply step. AnchorsOn machine step)
    (takes_by_belief machine (λ reply step. AnchorsOn machine step) (anchoring machine)) reply
