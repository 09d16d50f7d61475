-- What a client does keeps what is believed of each file's lease.
use Rattle.lease_laws.proofs.Words.{◌&&◌, ◌++◌, ◌+◌, ◌==◌, ◌||◌, ◌∙◌, ◌∷◌, ◌≡◌, ◌⊎◌, Bool, BreakNotice, CreateAnswer, Lease}
use Rattle.lease_laws.proofs.Words.{List, LiveEntry, None, Phase, Reply, Request, Some, State, ℕ, [], ⊎_elim, ap, ap₂, arith}
use Rattle.lease_laws.proofs.Words.{bytes_eq, eq-eqb, false, given_state, inl, inr, is_breaking, meet, refl, subst, sym, true}
use Rattle.lease_laws.proofs.Words.{true≢false}
use Rattle.lease_laws.proofs.client.cases.Replies.{is_live}
use Rattle.lease_laws.proofs.server.Lists.{and_both, and_parts, clash}
use Rattle.lease_coherence.specs.Creates.{one_if}
use Rattle.lease_coherence.specs.Names.{Each}
use Rattle.lease_coherence.proofs.beliefs.OneLease.{AckKeeps, IsAnswering, IsBelieved, LowersWell, acks, acks_append}
use Rattle.lease_coherence.proofs.beliefs.OneLease.{is_created, met_fewer, met_mapped, met_none}
use Rattle.lease_coherence.proofs.names.NamedInRecord.{each_append}

-- ---- requests that are no acknowledgments

pub no_acks_keep : (key : List ℕ) (queue : List Request) → acks key queue ≡ 0 → Each (AckKeeps key) queue
no_acks_keep key [] e = tt
no_acks_keep key (Request.OnFile request ∷ queue) e = (tt, no_acks_keep key queue (right (acks key queue) e))
  where
    right : (n : ℕ) → 0 + n ≡ 0 → n ≡ 0
    right n e = omega (arith, e)
no_acks_keep key (Request.Acknowledge None ∷ queue) e = (tt, no_acks_keep key queue (right (acks key queue) e))
  where
    right : (n : ℕ) → 0 + n ≡ 0 → n ≡ 0
    right n e = omega (arith, e)
no_acks_keep key (Request.Acknowledge (Some lease) ∷ queue) e = (
  λ own. absurd (omega (arith, ap (λ b. one_if b + acks key queue) (sym own) ∙ e)),
  no_acks_keep key queue (right (one_if (bytes_eq key lease.key)) (acks key queue) e),
)
  where
    right : (a b : ℕ) → a + b ≡ 0 → b ≡ 0
    right a b e = omega (arith, e)

same_count : (a b : ℕ) → b ≡ 0 → a + b ≡ a
same_count a b e = omega (arith, e)

-- ---- one file

-- an entry that is live was, and believes no more; while it believes what it did of reads, they come with the rest
pub record WasLive (phase : Phase) (belief : State) : Type 0 where
  pub live : LiveEntry
  pub was : phase ≡ Phase.Live live
  pub writes : belief.write ≡ true → live.belief.write ≡ true
  pub reads : belief.read ≡ true → live.belief.read ≡ true
  pub handles : belief.handle ≡ true → live.belief.handle ≡ true
  pub writes_read : belief.write ≡ true → live.belief.read ≡ true → belief.read ≡ true
  pub handles_read : belief.handle ≡ true → live.belief.read ≡ true → belief.read ≡ true

live_phase : (phase : Phase) (P : Type 0) → is_live phase ≡ true → ((live : LiveEntry) → phase ≡ Phase.Live live → P) → P
live_phase (Phase.Live live) P e k = k live refl
live_phase phase P e k = absurd (true≢false (sym e))

pub was_live : (old new : Phase) → ((live : LiveEntry) → new ≡ Phase.Live live → WasLive old live.belief)
    → is_live new ≡ true → is_live old ≡ true
was_live old new less e = live_phase new (is_live old ≡ true) e (λ live is. ap is_live (less live is).was)

-- a step that sends no acknowledgment of the key
pub step_kept : (key : List ℕ) (file : ℕ) (lease : Lease) (old new : Phase) (asked more : List Request)
    (queue : List Reply) → ((live : LiveEntry) → new ≡ Phase.Live live → WasLive old live.belief)
    → acks key more ≡ 0 → IsBelieved key file lease old asked queue → IsBelieved key file lease new (asked ++ more) queue
step_kept key file lease old new asked more queue less none b =
    let same : acks key (asked ++ more) ≡ acks key asked =
    acks_append key asked more ∙ same_count (acks key asked) (acks key more) none in record {
      own = λ live is w. let x = less live is in let h = b.own x.live x.was (x.writes w) in (x.writes_read w h.0, h.1);
      given = b.given;
      breaks = met_mapped key file (is_breaking lease) (is_breaking lease) (acks key asked) (acks key (asked ++ more))
          (is_live new) queue
          (λ rest m. record {
            is_so = m.is_so;
            none_answered = same ∙ m.none_answered;
            no_grant = m.no_grant;
            no_break = m.no_break;
          }) (met_fewer key file (is_breaking lease) (acks key asked) (is_live old) (is_live new) queue
          (was_live old new less) b.breaks);
      answers = ⊎_elim (λ zero. inl (same ∙ zero)) (λ a. inr (record {
        one = same ∙ a.one;
        breaking = a.breaking;
        bounds = λ live is w. let x = less live is in each_append (AckKeeps key) asked more
            (a.bounds x.live x.was (x.writes w)) (no_acks_keep key more none);
        no_grant = a.no_grant;
      })) b.answers;
    }

-- a reply leaves its queue, and the entry stays live only as it was
pub reply_kept : (key : List ℕ) (file : ℕ) (lease : Lease) (phase : Phase) (asked : List Request) (reply : Reply)
    (queue : List Reply) → IsBelieved key file lease phase asked (reply ∷ queue) → IsBelieved key file lease phase asked queue
reply_kept key file lease phase asked reply queue b = record {
  own = b.own;
  given = b.given.1;
  breaks = met_fewer key file (is_breaking lease) (acks key asked) (is_live phase || is_created file reply) (is_live phase)
      queue (λ e. rw (e) refl) b.breaks.1;
  answers = ⊎_elim (λ zero. inl zero) (λ a. inr (record {
    one = a.one;
    breaking = a.breaking;
    bounds = a.bounds;
    no_grant = a.no_grant.1;
  })) b.answers;
}

-- the belief after a grant is what it gives, or no more than before
pub created_kept : (key : List ℕ) (file file_id : ℕ) (answer : CreateAnswer) (lease : Lease) (old : Phase)
    (new : LiveEntry) (asked more : List Request) (queue : List Reply)
    → (new.belief.write ≡ true → (new.belief ≡ given_state key answer.lease) ⊎ WasLive old new.belief)
    → acks key more ≡ 0 → IsBelieved key file lease old asked (Reply.Created file file_id (Some answer) ∷ queue)
    → IsBelieved key file lease (Phase.Live new) (asked ++ more) queue
created_kept key file file_id answer lease old new asked more queue from none b =
    let same : acks key (asked ++ more) ≡ acks key asked =
    acks_append key asked more ∙ same_count (acks key asked) (acks key more) none in record {
      own = λ live is w. let e = one_live live new is in
          subst (λ (l : LiveEntry). (l.belief.read ≡ true) × (lease.state.write ≡ true)) e
          (own_new (subst (λ (l : LiveEntry). l.belief.write ≡ true) (sym e) w));
      given = b.given.1;
      breaks = met_mapped key file (is_breaking lease) (is_breaking lease) (acks key asked) (acks key (asked ++ more)) true queue
          (λ rest m. record {
            is_so = m.is_so;
            none_answered = same ∙ m.none_answered;
            no_grant = m.no_grant;
            no_break = m.no_break;
          }) (met_fewer key file (is_breaking lease) (acks key asked) (is_live old || (file == file)) true queue
          (λ e. either_true (is_live old) (file == file) (eq-eqb file file refl)) b.breaks.1);
      answers = ⊎_elim (λ zero. inl (same ∙ zero)) (λ a. inr (record {
        one = same ∙ a.one;
        breaking = a.breaking;
        bounds = λ live is w. let e = one_live live new is in each_append (AckKeeps key) asked more
            (bound_new a (subst (λ (l : LiveEntry). l.belief.write ≡ true) (sym e) w)) (no_acks_keep key more none);
        no_grant = a.no_grant.1;
      })) b.answers;
    }
  where
    one_live : (live other : LiveEntry) → Phase.Live other ≡ Phase.Live live → other ≡ live
    one_live live other e = cc

    either_true : (x y : Bool) → y ≡ true → (x || y) ≡ true
    either_true true y e = refl
    either_true false y e = e

    own_new : new.belief.write ≡ true → (new.belief.read ≡ true) × (lease.state.write ≡ true)
    own_new w = ⊎_elim
        (λ given. let h = (b.given.0) refl (ap (λ (s : State). s.write) (sym given) ∙ w) in
        (ap (λ (s : State). s.read) given ∙ h.0, h.1))
        (λ x. let h = b.own x.live x.was (x.writes w) in (x.writes_read w h.0, h.1)) (from w)

    bound_new : IsAnswering key file lease old asked (Reply.Created file file_id (Some answer) ∷ queue)
        → new.belief.write ≡ true → Each (AckKeeps key) asked
    bound_new a w = ⊎_elim
        (λ given. clash (given_state key answer.lease).write (ap (λ (s : State). s.write) (sym given) ∙ w)
        ((a.no_grant.0) refl).0)
        (λ x. a.bounds x.live x.was (x.writes w)) (from w)

-- a break that asks for an acknowledgment, which is sent with what is then believed
pub break_kept : (key : List ℕ) (file : ℕ) (notice : BreakNotice) (lease : Lease) (old new : LiveEntry)
    (asked writes : List Request) (queue : List Reply) → notice.ack_required ≡ true → bytes_eq key notice.key ≡ true
    → LowersWell (Reply.Break (Some notice)) → new.belief ≡ meet old.belief notice.lowered → acks key writes ≡ 0
    → IsBelieved key file lease (Phase.Live old) asked (Reply.Break (Some notice) ∷ queue)
    → IsBelieved key file lease (Phase.Live new)
    (asked ++ (writes ++ Request.Acknowledge (Some (record { key = notice.key; state = meet old.belief notice.lowered })) ∷ []))
    queue
break_kept key file notice lease old new asked writes queue required own_it formed believes none b =
    let met = b.breaks.0 refl (and_both notice.ack_required (bytes_eq key notice.key) required own_it) in
    let ack = Request.Acknowledge (Some (record { key = notice.key; state = meet old.belief notice.lowered })) in
    record {
      own = λ live is w. let e = one_live live new is in
          subst (λ (l : LiveEntry). (l.belief.read ≡ true) × (lease.state.write ≡ true)) e
          (let w1 = subst (λ (l : LiveEntry). l.belief.write ≡ true) (sym e) w in
          (reads_new w1, (b.own old refl (was_written w1)).1));
      given = b.given.1;
      breaks = met_none key file (is_breaking lease) (acks key (asked ++ (writes ++ ack ∷ []))) true queue met.no_break;
      answers = inr (record {
        one = acks_append key asked (writes ++ ack ∷ []) ∙ ap₂ (λ x y. x + y) met.none_answered
            (acks_append key writes (ack ∷ []) ∙ ap₂ (λ x y. x + y) none (ap (λ x. one_if x + 0) own_it)) ∙ (omega arith);
        breaking = met.is_so;
        bounds = λ live is w. let e = one_live live new is in
            let w1 = subst (λ (l : LiveEntry). l.belief.write ≡ true) (sym e) w in
            each_append (AckKeeps key) asked (writes ++ ack ∷ []) (no_acks_keep key asked met.none_answered)
            (each_append (AckKeeps key) writes (ack ∷ []) (no_acks_keep key writes none) (
              (λ same. (
                ap (λ (s : State). s.write) (sym believes) ∙ w1,
                ap (λ (s : State). s.read) (sym believes) ∙ reads_new w1,
              )),
              tt,
            ));
        no_grant = met.no_grant;
      });
    }
  where
    one_live : (live other : LiveEntry) → Phase.Live other ≡ Phase.Live live → other ≡ live
    one_live live other e = cc

    written : new.belief.write ≡ true → (old.belief.write && notice.lowered.write) ≡ true
    written w = ap (λ (s : State). s.write) (sym believes) ∙ w

    was_written : new.belief.write ≡ true → old.belief.write ≡ true
    was_written w = (and_parts old.belief.write notice.lowered.write (written w)).0

    reads_new : new.belief.write ≡ true → new.belief.read ≡ true
    reads_new w = ap (λ (s : State). s.read) believes ∙ and_both old.belief.read notice.lowered.read
        (b.own old refl (was_written w)).0 (formed.0 (and_parts old.belief.write notice.lowered.write (written w)).1)
