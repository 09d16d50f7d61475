-- What a client does keeps what it believes of a file's lease within it.
use Rattle.lease_laws.proofs.Words.{◌&&◌, ◌++◌, ◌||◌, ◌∙◌, ◌∷◌, ◌≡◌, ◌⊎◌, Bool, BreakNotice, CreateAnswer, Lease, List}
use Rattle.lease_laws.proofs.Words.{LiveEntry, Phase, Reply, Request, Some, State, ℕ, [], ⊎_elim, ap, bytes_eq, eq-eqb, false}
use Rattle.lease_laws.proofs.Words.{given_state, inl, inr, is_state_within, meet, not, nothing_cached, refl, subst, sym, true}
use Rattle.lease_laws.proofs.client.cases.Replies.{is_live}
use Rattle.lease_laws.proofs.server.Lists.{and_both, and_parts, clash}
use Rattle.lease_coherence.specs.Agreement.{lone_break}
use Rattle.lease_coherence.specs.Names.{Each}
use Rattle.lease_coherence.proofs.beliefs.Entries.{WasLive, was_live}
use Rattle.lease_coherence.proofs.beliefs.OneLease.{IsBelieved, LowersWell, acks, is_created}
use Rattle.lease_coherence.proofs.names.NamedInRecord.{each_append, each_weaker}
use Rattle.lease_coherence.proofs.within.BeliefsWithin.{AckFit, IsAckFit, IsWithin, IsWithinFor, fit_less, no_acks_fit}
use Rattle.lease_coherence.proofs.within.BeliefsWithin.{tell_fewer, within_rest}

less_within : (key : List ℕ) (held : State) (queue : List Reply) (old : Phase) (belief : State) → WasLive old belief
    → ((live : LiveEntry) → old ≡ Phase.Live live → IsWithin key held queue live.belief) → IsWithin key held queue belief
less_within key held queue old belief x own = let w = own x.live x.was in (
  λ h. let held_so = w.0 (x.handles h) in (x.handles_read h held_so.0, held_so.1),
  λ r. w.1 (x.reads r),
)

less_fits : (lease : Lease) (old new : Phase) → ((live : LiveEntry) → new ≡ Phase.Live live → WasLive old live.belief)
    → (state : State) → IsAckFit lease old state → IsAckFit lease new state
less_fits lease old new less state a = record {
  lowered = a.lowered;
  breaks = a.breaks;
  within = a.within;
  formed = a.formed;
  bounds = λ live is. let x = less live is in let b = a.bounds x.live x.was in
      (λ r. b.0 (x.reads r), λ h. b.1 (x.handles h));
}

more_acks : (key : List ℕ) (lease : Lease) (old new : Phase) (asked more : List Request)
    → ((live : LiveEntry) → new ≡ Phase.Live live → WasLive old live.belief) → acks key more ≡ 0
    → Each (AckFit key lease old) asked → Each (AckFit key lease new) (asked ++ more)
more_acks key lease old new asked more less none each = each_append (AckFit key lease new) asked more
    (each_weaker (AckFit key lease old) (AckFit key lease new) asked
    (λ request a. fit_less key lease old new request (less_fits lease old new less) a) each) (no_acks_fit key lease new more none)

-- a step that sends no acknowledgment of the key
pub step_within : (key : List ℕ) (file : ℕ) (lease : Lease) (old new : Phase) (asked more : List Request)
    (queue : List Reply) → ((live : LiveEntry) → new ≡ Phase.Live live → WasLive old live.belief)
    → acks key more ≡ 0 → IsWithinFor key file lease old asked queue → IsWithinFor key file lease new (asked ++ more) queue
step_within key file lease old new asked more queue less none w = record {
  own = λ live is. less_within key lease.state queue old live.belief (less live is) w.own;
  given = w.given;
  breaks = tell_fewer key file lease.broken_to (is_live old) (is_live new) queue (was_live old new less) w.breaks;
  acks = more_acks key lease old new asked more less none w.acks;
}

-- a reply leaves its queue that is no break of reads alone, or that no live entry meets
pub reply_within : (key : List ℕ) (file : ℕ) (lease : Lease) (phase : Phase) (asked : List Request) (reply : Reply)
    (queue : List Reply) → ((live : LiveEntry) → phase ≡ Phase.Live live → lone_break key ≡ reply → ⊥)
    → IsWithinFor key file lease phase asked (reply ∷ queue) → IsWithinFor key file lease phase asked queue
reply_within key file lease phase asked reply queue other w = record {
  own = λ live is. within_rest key lease.state reply queue live.belief (other live is) (w.own live is);
  given = w.given.1;
  breaks = tell_fewer key file lease.broken_to (is_live phase || is_created file reply) (is_live phase) queue
      (λ e. rw (e) refl) w.breaks.1;
  acks = w.acks;
}

-- ---- grants

no_created : (key : List ℕ) (file file_id : ℕ) (answer : CreateAnswer)
    → lone_break key ≡ Reply.Created file file_id (Some answer) → ⊥
no_created key file file_id answer e = cc

one_live : (live other : LiveEntry) → Phase.Live other ≡ Phase.Live live → other ≡ live
one_live live other e = cc

-- the belief after a grant is what it gives, or no more than before
pub created_within : (key : List ℕ) (file file_id : ℕ) (answer : CreateAnswer) (lease : Lease) (old : Phase)
    (new : LiveEntry) (asked more : List Request) (queue : List Reply)
    → (new.belief ≡ given_state key answer.lease) ⊎ WasLive old new.belief
    → acks key more ≡ 0 → IsBelieved key file lease old asked (Reply.Created file file_id (Some answer) ∷ queue)
    → IsWithinFor key file lease old asked (Reply.Created file file_id (Some answer) ∷ queue)
    → IsWithinFor key file lease (Phase.Live new) (asked ++ more) queue
created_within key file file_id answer lease old new asked more queue from none b w = record {
  own = λ live is. subst (λ (l : LiveEntry). IsWithin key lease.state queue l.belief) (one_live live new is) own_new;
  given = w.given.1;
  breaks = tell_fewer key file lease.broken_to (is_live old || is_created file reply) true queue
      (λ e. either_true (is_live old) (is_created file reply) made) w.breaks.1;
  acks = each_append (AckFit key lease (Phase.Live new)) asked more kept (no_acks_fit key lease (Phase.Live new) more none);
}
  where
    reply : Reply
    reply = Reply.Created file file_id (Some answer)

    made : is_created file (Reply.Created file file_id (Some answer)) ≡ true
    made = eq-eqb file file refl

    either_true : (x y : Bool) → y ≡ true → (x || y) ≡ true
    either_true true y e = refl
    either_true false y e = e

    own_new : IsWithin key lease.state queue new.belief
    own_new = ⊎_elim (λ given. subst (IsWithin key lease.state queue) (sym given) ((w.given.0) refl))
        (λ x. within_rest key lease.state (Reply.Created file file_id (Some answer)) queue new.belief
        (no_created key file file_id answer)
        (less_within key lease.state (Reply.Created file file_id (Some answer) ∷ queue) old new.belief x w.own)) from

    kept : Each (AckFit key lease (Phase.Live new)) asked
    kept = ⊎_elim (λ zero. no_acks_fit key lease (Phase.Live new) asked zero)
        (λ a. each_weaker (AckFit key lease old) (AckFit key lease (Phase.Live new)) asked
        (λ request fit. fit_less key lease old (Phase.Live new) request
        (λ state f. record {
          lowered = f.lowered;
          breaks = f.breaks;
          within = f.within;
          formed = f.formed;
          bounds = λ live is. subst (λ (l : LiveEntry). (l.belief.read ≡ true → state.read ≡ true)
              × (l.belief.handle ≡ true → state.handle ≡ true)) (one_live live new is) (⊎_elim
              (λ given. let nothing = (a.no_grant.0) refl in
              let unread : new.belief.read ≡ false = ap (λ (s : State). s.read) given ∙ nothing.1 in (
                λ r. clash new.belief.read r unread,
                λ h. clash new.belief.read ((own_new.0 h).0) unread,
              ))
              (λ x. let bound = f.bounds x.live x.was in (λ r. bound.0 (x.reads r), λ h. bound.1 (x.handles h))) from);
        }) fit) w.acks) b.answers

-- ---- breaks

meet_within : (a b : State) → is_state_within (meet a b) b ≡ true
meet_within a b = and_both _ _ (and_both _ _ (part a.read b.read) (part a.write b.write)) (part a.handle b.handle)
  where
    part : (x y : Bool) → (not (x && y) || y) ≡ true
    part true true = refl
    part true false = refl
    part false true = refl
    part false false = refl

-- what is left of a belief
pub met_within : (key : List ℕ) (held : State) (notice : BreakNotice) (belief : State) (queue : List Reply)
    → LowersWell (Reply.Break (Some notice)) → IsWithin key held (Reply.Break (Some notice) ∷ queue) belief
    → IsWithin key held queue (meet belief notice.lowered)
met_within key held notice belief queue formed w = (
  λ h. let parts = and_parts belief.handle notice.lowered.handle h in
      let was = w.0 parts.0 in (and_both belief.read notice.lowered.read was.0 (formed.1 parts.1), was.1),
  λ r. let parts = and_parts belief.read notice.lowered.read r in
      ⊎_elim (λ h. inl h) (λ a. ⊎_elim
      (λ same. clash notice.lowered.read parts.1 (ap (λ (s : State). s.read) (lowered_of same))) (λ later. inr later) a)
      (w.1 parts.0),
)
  where
    lowered_of : lone_break key ≡ Reply.Break (Some notice) → notice.lowered ≡ nothing_cached
    lowered_of e = cc

pub less_meet : (old : Phase) (live : LiveEntry) (notice : BreakNotice) → old ≡ Phase.Live live
    → LowersWell (Reply.Break (Some notice)) → WasLive old (meet live.belief notice.lowered)
less_meet old live notice is formed = record {
  live = live;
  was = is;
  writes = λ w. (and_parts live.belief.write notice.lowered.write w).0;
  reads = λ r. (and_parts live.belief.read notice.lowered.read r).0;
  handles = λ h. (and_parts live.belief.handle notice.lowered.handle h).0;
  writes_read = λ w r. and_both live.belief.read notice.lowered.read r
      (formed.0 (and_parts live.belief.write notice.lowered.write w).1);
  handles_read = λ h r. and_both live.belief.read notice.lowered.read r
      (formed.1 (and_parts live.belief.handle notice.lowered.handle h).1);
}

-- an entry that is live after a break believes no more than before
pub now_less : (old : Phase) (live new : LiveEntry) (notice : BreakNotice) → old ≡ Phase.Live live
    → LowersWell (Reply.Break (Some notice)) → new.belief ≡ meet live.belief notice.lowered
    → (now : LiveEntry) → Phase.Live new ≡ Phase.Live now → WasLive old now.belief
now_less old live new notice is formed believes now e = subst (λ (l : LiveEntry). WasLive old l.belief) (one_live now new e)
    (subst (WasLive old) (sym believes) (less_meet old live notice is formed))

-- one that asks for no acknowledgment
pub quiet_within : (key : List ℕ) (file : ℕ) (notice : BreakNotice) (lease : Lease) (old : Phase) (live new : LiveEntry)
    (asked more : List Request) (queue : List Reply) → old ≡ Phase.Live live → LowersWell (Reply.Break (Some notice))
    → new.belief ≡ meet live.belief notice.lowered → acks key more ≡ 0
    → IsWithinFor key file lease old asked (Reply.Break (Some notice) ∷ queue)
    → IsWithinFor key file lease (Phase.Live new) (asked ++ more) queue
quiet_within key file notice lease old live new asked more queue is formed believes none w = record {
  own = λ next e. subst (λ (l : LiveEntry). IsWithin key lease.state queue l.belief) (one_live next new e)
      (subst (IsWithin key lease.state queue) (sym believes)
      (met_within key lease.state notice live.belief queue formed (w.own live is)));
  given = w.given.1;
  breaks = tell_fewer key file lease.broken_to (is_live old || false) true queue
      (λ e. rw (ap is_live is) refl) w.breaks.1;
  acks = more_acks key lease old (Phase.Live new) asked more (now_less old live new notice is formed believes) none w.acks;
}

-- one that asks for an acknowledgment, which is sent with what is then believed
pub break_within : (key : List ℕ) (file : ℕ) (notice : BreakNotice) (lease : Lease) (old new : LiveEntry)
    (asked writes : List Request) (queue : List Reply) → notice.ack_required ≡ true → bytes_eq key notice.key ≡ true
    → LowersWell (Reply.Break (Some notice)) → new.belief ≡ meet old.belief notice.lowered → acks key writes ≡ 0
    → IsBelieved key file lease (Phase.Live old) asked (Reply.Break (Some notice) ∷ queue)
    → IsWithinFor key file lease (Phase.Live old) asked (Reply.Break (Some notice) ∷ queue)
    → IsWithinFor key file lease (Phase.Live new)
    (asked ++ (writes ++ Request.Acknowledge (Some (record { key = notice.key; state = meet old.belief notice.lowered })) ∷ []))
    queue
break_within key file notice lease old new asked writes queue required own_it formed believes none b w =
    let asks = and_both notice.ack_required (bytes_eq key notice.key) required own_it in
    let met = b.breaks.0 refl asks in
    let left : IsWithin key lease.state queue new.belief = subst (IsWithin key lease.state queue) (sym believes)
    (met_within key lease.state notice old.belief queue formed (w.own old refl)) in
    let ack = Request.Acknowledge (Some (record { key = notice.key; state = meet old.belief notice.lowered })) in
    let Fits : List Request → Type 0 = Each (AckFit key lease (Phase.Live new)) in record {
      own = λ next e. subst (λ (l : LiveEntry). IsWithin key lease.state queue l.belief) (one_live next new e) left;
      given = w.given.1;
      breaks = w.breaks.1;
      acks = each_append (AckFit key lease (Phase.Live new)) asked (writes ++ ack ∷ [])
          (no_acks_fit key lease (Phase.Live new) asked met.none_answered)
          (each_append (AckFit key lease (Phase.Live new)) writes (ack ∷ [])
          (no_acks_fit key lease (Phase.Live new) writes none) (
            (λ same. record {
              lowered = notice.lowered;
              breaks = (w.breaks.0) refl asks;
              within = meet_within old.belief notice.lowered;
              formed = λ h. ap (λ (s : State). s.read) (sym believes) ∙ (left.0 (ap (λ (s : State). s.handle) believes ∙ h)).0;
              bounds = λ next e. subst (λ (l : LiveEntry). (l.belief.read ≡ true → (meet old.belief notice.lowered).read ≡ true)
                  × (l.belief.handle ≡ true → (meet old.belief notice.lowered).handle ≡ true)) (one_live next new e)
                  (λ r. ap (λ (s : State). s.read) (sym believes) ∙ r, λ h. ap (λ (s : State). s.handle) (sym believes) ∙ h);
            }),
            tt,
          ));
    }
