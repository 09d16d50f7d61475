-- Every step of a client keeps what it believes of each of its files.
use Rattle.lease_laws.proofs.Words.{◌++◌, ◌∙◌, ◌∷◌, ◌≡◌, ◌≢◌, ◌⊎◌, Answer, BreakNotice, Client, Command, CreateAnswer, Entry}
use Rattle.lease_laws.proofs.Words.{IsSoundClient, Lease, List, LiveEntry, Phase, Reply, Request, Some, State, Step, Turn, ℕ}
use Rattle.lease_laws.proofs.Words.{[], ⊎_elim, acknowledgment, ap, belief_lowered, bytes_eq, bytes_eq-Decides, commanded}
use Rattle.lease_laws.proofs.Words.{false, flushed, given_state, inl, inr, is_key_of, lease_key, meet, nothing_cached}
use Rattle.lease_laws.proofs.Words.{parked_closed, put, quiet_step, refl, subst, sym, taken, true, turned, write_requests}
use Rattle.lease_laws.proofs.client.Thin.{put_other, put_same}
use Rattle.lease_laws.proofs.client.cases.Commands.{any_command, sent_of}
use Rattle.lease_laws.proofs.client.cases.Replies.{PassesOver, any_reply, is_live}
use Rattle.lease_laws.proofs.client.cases.Turns.{by_turn}
use Rattle.lease_laws.proofs.server.Lists.{clash, if_cases}
use Rattle.lease_laws.proofs.world.Links.{by_client}
use Rattle.lease_coherence.specs.Agreement.{lone_break, reads_alone}
use Rattle.lease_coherence.specs.Names.{Each}
use Rattle.lease_coherence.proofs.beliefs.Entries.{WasLive}
use Rattle.lease_coherence.proofs.beliefs.Forms.{HadBelief, HasBeliefTakes, IsAboutFile, IsNoBreak, IsStill, as_it_was}
use Rattle.lease_coherence.proofs.beliefs.Forms.{commands_still, file_no_acks, idle_still, keys_apart, lowered_elsewhere}
use Rattle.lease_coherence.proofs.beliefs.Forms.{never_live, takes_by_belief, writes_about, writes_close_about}
use Rattle.lease_coherence.proofs.beliefs.OneFile.{IsExplained, created_explained, met_explained, quiet_explained}
use Rattle.lease_coherence.proofs.beliefs.OneFile.{reply_explained, step_explained}
use Rattle.lease_coherence.proofs.beliefs.OneLease.{LowersWell, acks}
use Rattle.lease_coherence.proofs.fresh.Clients.{never_passed}
use Rattle.lease_coherence.proofs.names.NamedInRecord.{each_append}

-- ---- steps

abbrev pub BelievesOn : Client → Step → Type 0
BelievesOn machine step = (file : ℕ) (lease : Lease) (asked : List Request) (queue : List Reply)
    → IsExplained (lease_key machine.guid file) file lease (machine.entries file).phase asked queue
    → IsExplained (lease_key machine.guid file) file lease (step.client.entries file).phase (asked ++ step.requests) queue

had_live : (phase : Phase) (belief : State) → HadBelief phase belief → WasLive phase belief
had_live phase belief h = subst (WasLive phase) (sym h.same)
    (record {
      live = h.live;
      was = h.was;
      writes = λ w. w;
      reads = λ r. r;
      handles = λ h. h;
      writes_read = λ w r. r;
      handles_read = λ h r. r;
    })

still_believes : (machine : Client) (step : Step) → IsStill machine step → BelievesOn machine step
still_believes machine step still file lease asked queue e = step_explained (lease_key machine.guid file) file lease
    (machine.entries file).phase (step.client.entries file).phase asked step.requests queue
    (λ now is. had_live (machine.entries file).phase now.belief (still.beliefs file now is))
    (file_no_acks (lease_key machine.guid file) step.requests still.about) e

pub command_believes : (machine : Client) (command : Command) → BelievesOn machine (commanded machine command)
command_believes machine command = still_believes machine (commanded machine command)
    (any_command machine (IsStill machine) (commands_still machine) command)

-- ---- replies

abbrev pub TakesBelief : Client → Reply → Step → Type 0
TakesBelief machine reply step = LowersWell reply → (file : ℕ) (lease : Lease) (asked : List Request) (queue : List Reply)
    → IsExplained (lease_key machine.guid file) file lease (machine.entries file).phase asked (reply ∷ queue)
    → IsExplained (lease_key machine.guid file) file lease (step.client.entries file).phase (asked ++ step.requests) queue

-- a reply that is a break of reads alone is met by no live entry of its key
abbrev NotLone : Client → Reply → Type 0
NotLone machine reply = (file : ℕ) (live : LiveEntry) → (machine.entries file).phase ≡ Phase.Live live
    → lone_break (lease_key machine.guid file) ≡ reply → ⊥

-- a step that believes as commands do
plain_takes : (machine : Client) (reply : Reply) (step : Step) → NotLone machine reply → BelievesOn machine step
    → TakesBelief machine reply step
plain_takes machine reply step other on formed file lease asked queue e = on file lease asked queue
    (reply_explained (lease_key machine.guid file) file lease (machine.entries file).phase asked reply queue (other file) e)

-- a turn by its file, and the others
turn_takes : (machine : Client) (reply : Reply) (at : ℕ) (turn : Turn)
    → ((file : ℕ) → file ≢ at → lone_break (lease_key machine.guid file) ≡ reply → ⊥)
    → ((file : ℕ) → file ≢ at → acks (lease_key machine.guid file) turn.requests ≡ 0)
    → ((lease : Lease) (asked : List Request) (queue : List Reply)
    → IsExplained (lease_key machine.guid at) at lease (machine.entries at).phase asked (reply ∷ queue)
    → IsExplained (lease_key machine.guid at) at lease turn.entry.phase (asked ++ turn.requests) queue)
    → TakesBelief machine reply (turned machine at turn)
turn_takes machine reply at turn apart others here = by_turn (TakesBelief machine reply) machine at turn
    (λ formed file lease asked queue e. by_client
    (λ f. IsExplained (lease_key machine.guid f) f lease (machine.entries f).phase asked (reply ∷ queue)
    → IsExplained (lease_key machine.guid f) f lease (put machine.entries at turn.entry f).phase
    (asked ++ turn.requests) queue) at file
    (λ own. subst (λ (e : Entry). IsExplained (lease_key machine.guid at) at lease e.phase (asked ++ turn.requests) queue)
    (sym (put_same machine.entries at turn.entry)) (here lease asked queue own))
    (λ ne off own. subst
    (λ (e : Entry). IsExplained (lease_key machine.guid file) file lease e.phase (asked ++ turn.requests) queue)
    (sym (put_other machine.entries at turn.entry file ne))
    (step_explained (lease_key machine.guid file) file lease (machine.entries file).phase (machine.entries file).phase asked
    turn.requests queue (λ live is. had_live (machine.entries file).phase live.belief
    (as_it_was (machine.entries file).phase live is)) (others file ne)
    (reply_explained (lease_key machine.guid file) file lease (machine.entries file).phase asked reply queue
    (λ live is. apart file ne) own))) e)

-- ---- breaks

-- what an entry sends and believes after a break
lowered_believes : (key : List ℕ) (file : ℕ) (notice : BreakNotice) (lease : Lease) (old : Phase) (live next : LiveEntry)
    (asked writes : List Request) (queue : List Reply) → old ≡ Phase.Live live → bytes_eq key notice.key ≡ true
    → LowersWell (Reply.Break (Some notice)) → next.belief ≡ meet live.belief notice.lowered
    → Each IsAboutFile writes → IsExplained key file lease old asked (Reply.Break (Some notice) ∷ queue)
    → IsExplained key file lease (Phase.Live next)
    (asked ++ (writes ++ acknowledgment notice (meet live.belief notice.lowered))) queue
lowered_believes key file notice lease old live next asked writes queue is own formed same about e =
    if_cases (λ q. IsExplained key file lease (Phase.Live next) (asked ++ (writes ++ q)) queue) notice.ack_required
    (Request.Acknowledge (Some (record { key = notice.key; state = meet live.belief notice.lowered })) ∷ []) []
    (λ required. met_explained key file notice lease live next asked writes queue required own formed same
    (file_no_acks key writes about)
    (subst (λ p. IsExplained key file lease p asked (Reply.Break (Some notice) ∷ queue)) is e))
    (λ plain. quiet_explained key file notice lease old live next asked (writes ++ []) queue is formed same
    (file_no_acks key (writes ++ []) (each_append IsAboutFile writes [] about tt)) e)

key_of_break : (key : List ℕ) (notice : BreakNotice) → lone_break key ≡ Reply.Break (Some notice) → key ≡ notice.key
key_of_break key notice e = ap (λ (n : BreakNotice). n.key) (whole e)
  where
    whole : lone_break key ≡ Reply.Break (Some notice)
        → record { ack_required = false; key = key; current = reads_alone; lowered = nothing_cached } ≡ notice
    whole e = cc

-- a break of another key
break_apart : (machine : Client) (at : ℕ) (notice : BreakNotice) → is_key_of machine notice.key at ≡ true
    → (file : ℕ) → file ≢ at → lone_break (lease_key machine.guid file) ≡ Reply.Break (Some notice) → ⊥
break_apart machine at notice own file ne same = clash (bytes_eq (lease_key machine.guid file) (lease_key machine.guid at))
    ((bytes_eq-Decides (lease_key machine.guid file) (lease_key machine.guid at)).1
    (key_of_break (lease_key machine.guid file) notice same
    ∙ sym ((bytes_eq-Decides (lease_key machine.guid at) notice.key).0 own))) (keys_apart machine.guid file at ne)

parked_takes : (machine : Client) (at : ℕ) (notice : BreakNotice) (live : LiveEntry) → is_key_of machine notice.key at ≡ true
    → TakesBelief machine (Reply.Break (Some notice)) (turned machine at (parked_closed live (sent_of machine at)))
parked_takes machine at notice live own = turn_takes machine (Reply.Break (Some notice)) at _
    (λ file ne. break_apart machine at notice own file ne)
    (λ file ne. file_no_acks (lease_key machine.guid file) _ (writes_close_about live.file_id live.unsent [] tt))
    (λ lease asked queue e. reply_explained (lease_key machine.guid at) at lease Phase.Closed _ (Reply.Break (Some notice))
    queue (λ now is. clash (is_live Phase.Closed) (ap is_live is) refl)
    (step_explained (lease_key machine.guid at) at lease (machine.entries at).phase Phase.Closed asked _
    (Reply.Break (Some notice) ∷ queue) (λ now is. had_live (machine.entries at).phase now.belief
    (never_live (machine.entries at).phase Phase.Closed refl now is))
    (file_no_acks (lease_key machine.guid at) _ (writes_close_about live.file_id live.unsent [] tt)) e))

lowered_takes : (machine : Client) (at : ℕ) (notice : BreakNotice) (live : LiveEntry)
    → is_key_of machine notice.key at ≡ true → (machine.entries at).phase ≡ Phase.Live live
    → TakesBelief machine (Reply.Break (Some notice))
    (turned machine at (belief_lowered live (sent_of machine at) notice (meet live.belief notice.lowered)))
lowered_takes machine at notice live own is formed =
    let unsent = flushed live.belief (meet live.belief notice.lowered) live.unsent in
    turn_takes machine (Reply.Break (Some notice)) at _ (λ file ne. break_apart machine at notice own file ne)
    (lowered_elsewhere machine at notice live own)
    (λ lease asked queue e. lowered_believes (lease_key machine.guid at) at notice lease (machine.entries at).phase live
    _ asked (write_requests live.file_id unsent) queue is own formed refl (writes_about live.file_id unsent) e) formed

-- ---- grants

-- an entry that becomes live by a grant
granted_takes : (machine : Client) (at file_id : ℕ) (answer : CreateAnswer) (turn : Turn) (next : LiveEntry)
    → turn.entry.phase ≡ Phase.Live next → Each IsAboutFile turn.requests
    → (next.belief ≡ given_state (lease_key machine.guid at) answer.lease) ⊎ HadBelief (machine.entries at).phase next.belief
    → TakesBelief machine (Reply.Created at file_id (Some answer)) (turned machine at turn)
granted_takes machine at file_id answer turn next is about from =
    turn_takes machine (Reply.Created at file_id (Some answer)) at turn (λ file ne. no_grant)
    (λ file ne. file_no_acks (lease_key machine.guid file) turn.requests about)
    (λ lease asked queue e. subst
    (λ p. IsExplained (lease_key machine.guid at) at lease p (asked ++ turn.requests) queue) (sym is)
    (created_explained (lease_key machine.guid at) at file_id answer lease (machine.entries at).phase next asked turn.requests
    queue (⊎_elim inl (λ h. inr (had_live (machine.entries at).phase next.belief h)) from)
    (file_no_acks (lease_key machine.guid at) turn.requests about) e))
  where
    no_grant : {key : List ℕ} → lone_break key ≡ Reply.Created at file_id (Some answer) → ⊥
    no_grant e = cc

-- ---- other replies

passed_lone : (machine : Client) (reply : Reply) → IsSoundClient machine → PassesOver machine reply → NotLone machine reply
passed_lone machine (Reply.Break (Some notice)) s why file live is same = never_passed machine notice s why file live is
    ((bytes_eq-Decides (lease_key machine.guid file) notice.key).1 (key_of_break (lease_key machine.guid file) notice same))
passed_lone machine reply s why file live is same = cc

no_lone : (machine : Client) (reply : Reply) → IsNoBreak reply → NotLone machine reply
no_lone machine (Reply.Break notice) none file live is e = absurd none
no_lone machine reply none file live is e = cc

believing : (machine : Client) → IsSoundClient machine → HasBeliefTakes machine (TakesBelief machine)
believing machine s = record {
  passed = λ reply why. plain_takes machine reply (quiet_step machine) (passed_lone machine reply s why)
      (still_believes machine (quiet_step machine) (idle_still machine Answer.Quiet));
  parked = parked_takes machine;
  lowered = lowered_takes machine;
  granted = granted_takes machine;
  still = λ reply step none still. plain_takes machine reply step (no_lone machine reply none)
      (still_believes machine step still);
}

pub take_believes : (machine : Client) → IsSoundClient machine → (reply : Reply) → TakesBelief machine reply (taken machine reply)
take_believes machine s reply =
    any_reply machine (TakesBelief machine) (takes_by_belief machine (TakesBelief machine) (believing machine s)) reply
