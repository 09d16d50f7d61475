-- In every run, while a client's link is up, the opens that it names and doesn't close stand.
use Rattle.lease_laws.proofs.Words.{◌++◌, ◌==◌, ◌∙◌, ◌∷◌, ◌≡◌, ◌≢◌, Among, Client, Entry, FileRequest, List, LiveEntry, None}
use Rattle.lease_laws.proofs.Words.{Parted, Phase, Reply, Request, Server, Some, Step, World, ℕ, [], ⊎_elim, ⊤, ap, ap₂, eq-eqb}
use Rattle.lease_laws.proofs.Words.{eqb-true, inl, inr, is_up, key_of, lease_key, put, refl, sent_over, stepped_in, subst, sym}
use Rattle.lease_laws.proofs.Words.{true, was_opened}
use Rattle.lease_laws.proofs.client.Thin.{put_other, put_same}
use Rattle.lease_laws.proofs.server.Lists.{clash, either}
use Rattle.lease_laws.proofs.world.Links.{by_client}
use Rattle.lease_laws.proofs.world.Runs.{stepped_server}
use Rattle.lease_coherence.specs.Names.{Each, IsNamedAt, IsNamedPhase, IsNamedReply}
use Rattle.lease_coherence.specs.Standing.{AllAsked, AskFits, FitsPhase, GivenWell, IsNoClose, IsStandingAt, PhaseStands}
use Rattle.lease_coherence.specs.Standing.{Stands, again_of}
use Rattle.lease_coherence.proofs.creates.Creates.{stepped_machine, up_link}
use Rattle.lease_coherence.proofs.moves.Frames.{stepped_replies, stepped_requests}
use Rattle.lease_coherence.proofs.names.NamedInRecord.{each_append, each_weaker, opened_once}
use Rattle.lease_coherence.proofs.standing.Clients.{ClosesOld, FitsGiven, IsNoCreate, IsNotGiven, IsNotUnder, StepStands}
use Rattle.lease_coherence.proofs.standing.Clients.{TurnAsks, TurnStands}
use Rattle.lease_coherence.proofs.standing.StandingOpens.{asked_weaker}

-- ---- what a step leaves

-- the step of a client whose link is up, seen from its world
pub record IsStepped (world : World) (new : World) (client : ℕ) (machine : Client) (requests : List Request) : Type 0 where
  pub server : new.server ≡ world.server
  pub clients : new.clients client ≡ machine
  pub guid : machine.guid ≡ (world.clients client).guid
  pub queued : new.requests client ≡ world.requests client ++ requests

pub step_of : (world : World) (client : ℕ) (step : Step) → is_up (world.links client) ≡ true
    → step.client.guid ≡ (world.clients client).guid
    → IsStepped world (stepped_in world client step) client step.client step.requests
step_of world client step up guid = record {
  server = stepped_server world client step;
  clients = stepped_machine world client step;
  guid = guid;
  queued = ap (λ (q : ℕ → List Request). q client) (stepped_requests world client step) ∙ put_same world.requests client _
      ∙ ap (λ link. sent_over link (world.requests client) step.requests) (up_link (world.links client) up);
}

-- what stands, stands after it
pub stands_after : (world new : World) (c : ℕ) (machine : Client) (requests : List Request)
    → IsStepped world new c machine requests → (file file_id : ℕ) → Stands world c file file_id → Stands new c file file_id
stands_after world new c machine requests is file file_id s = ⊎_elim
    (λ out. inl (ap₂ (λ (x : Server) (m : Client). x.expired (key_of c (lease_key m.guid file))) is.server is.clients
    ∙ ap (λ g. world.server.expired (key_of c (lease_key g file))) is.guid ∙ out))
    (λ o. inr (record {
      one = o.one;
      there = subst (λ (x : Server). Among o.one x.opens) (sym is.server) o.there;
      id = o.id;
      by = o.by;
      on_file = o.on_file;
      up = o.up;
    })) s

-- all that is asked after it
asked_after : (P : Request → Type 0) (world new : World) (c : ℕ) (machine : Client) (requests : List Request)
    → IsStepped world new c machine requests → AllAsked P world c → Each P requests → AllAsked P new c
asked_after P world new c machine requests is a more = record {
  queued = subst (Each P) (sym is.queued) (each_append P (world.requests c) requests a.queued more);
  held = λ file one x own. a.held file one (subst (λ (y : Server). Among one (y.held file)) is.server x) own;
}

-- ---- a step that changes no entry

idle_standing : (world new : World) (c : ℕ) (machine : Client) → IsStepped world new c machine []
    → machine ≡ world.clients c → new.replies c ≡ world.replies c → IsStandingAt world c → IsStandingAt new c
idle_standing world new c machine is same replies s =
    let mine : new.clients c ≡ world.clients c = is.clients ∙ same in record {
      phases = λ file. subst (λ (m : Client). PhaseStands new c file (m.entries file).phase) (sym mine)
          (phase_after file ((world.clients c).entries file).phase (s.phases file));
      given = subst (Each (GivenWell new c)) (sym replies)
          (each_weaker (GivenWell world c) (GivenWell new c) (world.replies c) (given_after mine) s.given);
      asked = subst (λ (m : Client). AllAsked (AskFits m) new c) (sym mine)
          (asked_after (AskFits (world.clients c)) world new c machine [] is s.asked tt);
    }
  where
    phase_after : (file : ℕ) (phase : Phase) → PhaseStands world c file phase → PhaseStands new c file phase
    phase_after file (Phase.Live live) p = (
      stands_after world new c machine [] is file live.file_id p.0,
      asked_after (IsNoClose live.file_id) world new c machine [] is p.1 tt,
    )
    phase_after file (Phase.Reconnecting parted) p = asked_after (IsNoClose parted.file_id) world new c machine [] is p tt
    phase_after file phase p = tt

    given_after : new.clients c ≡ world.clients c → (reply : Reply) → GivenWell world c reply → GivenWell new c reply
    given_after mine (Reply.Created file file_id contexts) w = record {
      stands = stands_after world new c machine [] is file file_id w.stands;
      not_closed = asked_after (IsNoClose file_id) world new c machine [] is w.not_closed tt;
      fits = subst (λ (m : Client). FitsPhase (m.entries file).phase file_id) (sym mine) w.fits;
    }
    given_after mine reply w = tt

-- ---- a step that changes one

each_two : {X : Type 0} (P Q R : X → Type 0) (xs : List X) → ((x : X) → P x → Q x → R x) → Each P xs → Each Q xs → Each R xs
each_two P Q R [] both p q = tt
each_two P Q R (x ∷ xs) both p q = (both x p.0 q.0, each_two P Q R xs both p.1 q.1)

each_three : {X : Type 0} (P Q R S : X → Type 0) (xs : List X) → ((x : X) → P x → Q x → R x → S x) → Each P xs
    → Each Q xs → Each R xs → Each S xs
each_three P Q R S [] all p q r = tt
each_three P Q R S (x ∷ xs) all p q r = (all x p.0 q.0 r.0, each_three P Q R S xs all p.1 q.1 r.1)

asked_two : (P Q R : Request → Type 0) (world : World) (c : ℕ) → ((r : Request) → P r → Q r → R r) → AllAsked P world c
    → AllAsked Q world c → AllAsked R world c
asked_two P Q R world c both a b = record {
  queued = each_two P Q R (world.requests c) both a.queued b.queued;
  held = λ file one x own. both (Request.OnFile one.request) (a.held file one x own) (b.held file one x own);
}

-- no grant on its way is of an open that the step closes
abbrev GivenOpen : List Request → Reply → Type 0
GivenOpen requests (Reply.Created file file_id contexts) = Each (IsNoClose file_id) requests
GivenOpen requests reply = ⊤

-- what stays named isn't closed by the step
kept_open : (world : World) (c file : ℕ) (queue : List Reply) (entry : Entry) (requests : List Request)
    → TurnStands world c file ((world.clients c).entries file).phase queue entry.phase requests → IsNamedAt world c
    → (other file_id : ℕ) → was_opened file_id other c world.past ≡ true
    → ((live : LiveEntry) → ((world.clients c).entries file).phase ≡ Phase.Live live → other ≡ file
    → IsNotUnder live.file_id entry.phase → Each (IsNotGiven file live.file_id) queue → live.file_id ≢ file_id)
    → Each (IsNoClose file_id) requests
kept_open world c file queue entry requests t n other file_id opened here = ⊎_elim
    (λ none. none file_id)
    (λ old. old.only file_id (λ same. apart old.live old.was old.left old.not_given same)) t.closes
  where
    apart : (live : LiveEntry) → ((world.clients c).entries file).phase ≡ Phase.Live live
        → IsNotUnder live.file_id entry.phase → Each (IsNotGiven file live.file_id) queue → live.file_id ≡ file_id → ⊥
    apart live was left given same =
        let named : IsNamedPhase c file world.past (Phase.Live live) =
        subst (IsNamedPhase c file world.past) was (n.entries file).phase in
        here live was (sym (opened_once file_id file c other c world.past
        (subst (λ i. was_opened i file c world.past ≡ true) same named.0) opened)) left given same

turn_standing : (world new : World) (c file : ℕ) (queue : List Reply) (machine : Client) (entry : Entry)
    (requests : List Request) → IsStepped world new c machine requests
    → machine.entries ≡ put (world.clients c).entries file entry → world.replies c ≡ queue
    → new.replies c ≡ world.replies c → IsNamedAt world c
    → TurnStands world c file ((world.clients c).entries file).phase queue entry.phase requests
    → IsStandingAt world c → IsStandingAt new c
turn_standing world new c file queue machine entry requests is entries here replies n t s = record {
  phases = λ f. subst (λ (m : Client). PhaseStands new c f (m.entries f).phase) (sym is.clients)
      (subst (λ (e : ℕ → Entry). PhaseStands new c f (e f).phase) (sym entries)
      (by_client (λ g. PhaseStands new c g (put (world.clients c).entries file entry g).phase) file f
      (subst (λ (e : Entry). PhaseStands new c file e.phase) (sym (put_same (world.clients c).entries file entry))
      (own_phase entry.phase refl t.phase))
      (λ ne apart. subst (λ (e : Entry). PhaseStands new c f e.phase) (sym (put_other (world.clients c).entries file entry f ne))
      (other_phase f ne ((world.clients c).entries f).phase refl (s.phases f)))));
  given = subst (Each (GivenWell new c)) (sym (replies ∙ here))
      (each_three (GivenWell world c) (GivenOpen requests) (FitsGiven file entry.phase) (GivenWell new c) queue
      given_after (subst (Each (GivenWell world c)) here s.given) given_open t.given);
  asked = subst (λ (m : Client). AllAsked (AskFits m) new c) (sym is.clients) (record {
    queued = subst (Each (AskFits machine)) (sym is.queued)
        (each_append (AskFits machine) (world.requests c) requests (old_asks.queued)
        (each_weaker (TurnAsks file entry.phase) (AskFits machine) requests new_ask t.asks));
    held = λ at one x own. old_asks.held at one (subst (λ (y : Server). Among one (y.held at)) is.server x) own;
  });
}
  where
    entry_at : (f : ℕ) → f ≢ file → (machine.entries f) ≡ (world.clients c).entries f
    entry_at f ne = ap (λ (e : ℕ → Entry). e f) entries ∙ put_other (world.clients c).entries file entry f ne

    entry_here : machine.entries file ≡ entry
    entry_here = ap (λ (e : ℕ → Entry). e file) entries ∙ put_same (world.clients c).entries file entry

    closes : (other id : ℕ) → was_opened id other c world.past ≡ true
        → ((live : LiveEntry) → ((world.clients c).entries file).phase ≡ Phase.Live live → other ≡ file
        → IsNotUnder live.file_id entry.phase → Each (IsNotGiven file live.file_id) queue → live.file_id ≢ id)
        → Each (IsNoClose id) requests
    closes other id opened away = kept_open world c file queue entry requests t n other id opened away

    own_phase : (phase : Phase) → entry.phase ≡ phase → PhaseStands world c file phase → PhaseStands new c file phase
    own_phase (Phase.Live live) e p = (
      stands_after world new c machine requests is file live.file_id p.0,
      asked_after (IsNoClose live.file_id) world new c machine requests is p.1 (⊎_elim (λ none. none live.file_id)
          (λ old. old.only live.file_id (λ same. subst (IsNotUnder old.live.file_id) e old.left (sym same))) t.closes),
    )
    own_phase (Phase.Reconnecting parted) e p = asked_after (IsNoClose parted.file_id) world new c machine requests is p
        (⊎_elim (λ none. none parted.file_id)
        (λ old. old.only parted.file_id (λ same. subst (IsNotUnder old.live.file_id) e old.left (sym same))) t.closes)
    own_phase phase e p = tt

    named_live_at : (f : ℕ) (live : LiveEntry) → ((world.clients c).entries f).phase ≡ Phase.Live live
        → was_opened live.file_id f c world.past ≡ true
    named_live_at f live e = let named : IsNamedPhase c f world.past (Phase.Live live) =
        subst (IsNamedPhase c f world.past) e (n.entries f).phase in named.0

    named_parted_at : (f : ℕ) (parted : Parted) → ((world.clients c).entries f).phase ≡ Phase.Reconnecting parted
        → was_opened parted.file_id f c world.past ≡ true
    named_parted_at f parted e = let named : IsNamedPhase c f world.past (Phase.Reconnecting parted) =
        subst (IsNamedPhase c f world.past) e (n.entries f).phase in named.0

    other_phase : (f : ℕ) → f ≢ file → (phase : Phase) → ((world.clients c).entries f).phase ≡ phase
        → PhaseStands world c f phase → PhaseStands new c f phase
    other_phase f ne (Phase.Live live) e p = (
      stands_after world new c machine requests is f live.file_id p.0,
      asked_after (IsNoClose live.file_id) world new c machine requests is p.1
          (closes f live.file_id (named_live_at f live e) (λ old was same left given x. ne same)),
    )
    other_phase f ne (Phase.Reconnecting parted) e p = asked_after (IsNoClose parted.file_id) world new c machine requests is p
        (closes f parted.file_id (named_parted_at f parted e) (λ old was same left given x. ne same))
    other_phase f ne phase e p = tt

    open_alone : ((id : ℕ) → Each (IsNoClose id) requests) → (reply : Reply) → GivenOpen requests reply
    open_alone none (Reply.Created g id contexts) = none id
    open_alone none reply = tt

    open_beside : (old : ClosesOld file ((world.clients c).entries file).phase entry.phase queue requests)
        → (reply : Reply) → IsNamedReply c world.past reply → IsNotGiven file old.live.file_id reply → GivenOpen requests reply
    open_beside old (Reply.Created g id None) named away = absurd named
    open_beside old (Reply.Created g id (Some answer)) named away = old.only id (λ same.
        let mine : IsNamedPhase c file world.past (Phase.Live old.live) =
        subst (IsNamedPhase c file world.past) old.was (n.entries file).phase in
        away (sym (opened_once id file c g c world.past
        (subst (λ i. was_opened i file c world.past ≡ true) same mine.0) named)) (sym same))
    open_beside old reply named away = tt

    names_here : Each (IsNamedReply c world.past) queue
    names_here = subst (Each (IsNamedReply c world.past)) here n.replies

    given_open : Each (GivenOpen requests) queue
    given_open = ⊎_elim
        (λ none. each_weaker (IsNamedReply c world.past) (GivenOpen requests) queue
        (λ reply named. open_alone none reply) names_here)
        (λ old. each_two (IsNamedReply c world.past) (IsNotGiven file old.live.file_id) (GivenOpen requests) queue
        (open_beside old) names_here old.not_given) t.closes

    fits_after : (g id : ℕ) → FitsPhase ((world.clients c).entries g).phase id → (g ≡ file → FitsPhase entry.phase id)
        → FitsPhase (machine.entries g).phase id
    fits_after g id old own = either (g == file)
        (λ same. let e = eqb-true g file same in
        subst (λ (x : Entry). FitsPhase x.phase id) (sym (ap machine.entries e ∙ entry_here)) (own e))
        (λ other. subst (λ (x : Entry). FitsPhase x.phase id)
        (sym (entry_at g (λ e. clash (g == file) (eq-eqb g file e) other))) old)

    given_after : (reply : Reply) → GivenWell world c reply → GivenOpen requests reply
        → FitsGiven file entry.phase reply → GivenWell new c reply
    given_after (Reply.Created g id contexts) w open_so own = record {
      stands = stands_after world new c machine requests is g id w.stands;
      not_closed = asked_after (IsNoClose id) world new c machine requests is w.not_closed open_so;
      fits = subst (λ (m : Client). FitsPhase (m.entries g).phase id) (sym is.clients) (fits_after g id w.fits own);
    }
    given_after reply w open_so own = tt

    again_other : (g : ℕ) → g ≢ file → again_of ((world.clients c).entries g).phase ≡ again_of (machine.entries g).phase
    again_other g ne = ap (λ (x : Entry). again_of x.phase) (sym (entry_at g ne))

    ask_same : again_of entry.phase ≡ again_of ((world.clients c).entries file).phase → (r : Request)
        → AskFits (world.clients c) r → AskFits machine r
    ask_same same (Request.OnFile (FileRequest.Create g access share (Some ask))) fits = fits ∙ either (g == file)
        (λ e. let own = eqb-true g file e in
        ap (λ f. again_of ((world.clients c).entries f).phase) own ∙ sym same
        ∙ sym (ap (λ (x : Entry). again_of x.phase) entry_here) ∙ ap (λ f. again_of (machine.entries f).phase) (sym own))
        (λ e. again_other g (λ x. clash (g == file) (eq-eqb g file x) e))
    ask_same same request fits = tt

    ask_none : (r : Request) → AskFits (world.clients c) r → IsNoCreate file r → AskFits machine r
    ask_none (Request.OnFile (FileRequest.Create g access share (Some ask))) fits none = fits ∙ again_other g none
    ask_none request fits none = tt

    old_asks : AllAsked (AskFits machine) world c
    old_asks = ⊎_elim
        (λ same. asked_weaker (AskFits (world.clients c)) (AskFits machine) world c (ask_same same) s.asked)
        (λ none. asked_two (AskFits (world.clients c)) (IsNoCreate file) (AskFits machine) world c ask_none s.asked none) t.again

    new_ask : (r : Request) → TurnAsks file entry.phase r → AskFits machine r
    new_ask (Request.OnFile (FileRequest.Create g access share (Some ask))) asks =
        asks.1 ∙ ap (λ (x : Entry). again_of x.phase) (sym (ap machine.entries asks.0 ∙ entry_here))
    new_ask request asks = tt

-- ---- any step of one

pub step_standing : (world : World) (c : ℕ) (step : Step) → is_up (world.links c) ≡ true
    → step.client.guid ≡ (world.clients c).guid → IsNamedAt world c → StepStands world c (world.replies c) step
    → IsStandingAt world c → IsStandingAt (stepped_in world c step) c
step_standing world c step up guid n (StepStands.Idle same none) s =
    let is = step_of world c step up guid in
    idle_standing world (stepped_in world c step) c step.client
    (subst (λ r. IsStepped world (stepped_in world c step) c step.client r) none is) same
    (ap (λ (r : ℕ → List Reply). r c) (stepped_replies world c step)) s
step_standing world c step up guid n (StepStands.Turns file entry entries own t) s =
    turn_standing world (stepped_in world c step) c file (world.replies c) step.client entry step.requests
    (step_of world c step up guid) entries refl (ap (λ (r : ℕ → List Reply). r c) (stepped_replies world c step)) n t s
