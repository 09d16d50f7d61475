-- A host that does what it is told sends what the server sends, and has the bytes that the server has.
use Rattle.lease_laws.proofs.Words.{◌++◌, ◌∙◌, ◌∷◌, ◌≡◌, ◌≤◌, Among, Bool, FileRequest, List}
use Rattle.lease_laws.proofs.Words.{Open, Out, Progress, Server, ℕ, [], ap, append-nil}
use Rattle.lease_laws.proofs.Words.{append_assoc, break_begun, break_notice}
use Rattle.lease_laws.proofs.Words.{flat_map-append, is_left_open, lease_lowered, map, map-append}
use Rattle.lease_laws.proofs.Words.{not, opens_dropped, refl, subst, sym, tried}
use Rattle.lease_laws.proofs.server.Lists.{among_filter}
use Rattle.lease_laws.proofs.server.cases.Tries.{HasTries, any_meeting, any_try}
use Rattle.lease_laws.proofs.Words.{Extent, Key, Option, begun, others_broken, others_wants}
use Rattle.manager_model.specs.Bare.{bare_out}
use Rattle.manager_model.specs.Decisions.{Decision, told_of, told_of_out}
use Rattle.manager_model.specs.Hosting.{Host, Hosted, IsHostOf, does, does_all}

-- ---- what is done in order

pub does_then : (requests : ℕ → FileRequest) (first later : List Decision) (done : Hosted)
    → does_all requests (first ++ later) done ≡ does_all requests later (does_all requests first done)
unfolding does_all
does_then requests [] later done = refl
does_then requests (decision ∷ first) later done = does_then requests first later (does requests decision done)

pub does_none : (requests : ℕ → FileRequest) (done : Hosted) → does_all requests [] done ≡ done
unfolding does_all
does_none requests done = refl

pub does_one : (requests : ℕ → FileRequest) (decision : Decision) (done : Hosted)
    → does_all requests (decision ∷ []) done ≡ does requests decision done
unfolding does_all
does_one requests decision done = refl

-- what is told of these outs, once their bytes are forgotten
abbrev pub told_bare : ℕ → List Out → List Decision
told_bare tag outs = told_of tag (map bare_out outs)

pub told_then : (tag : ℕ) (first later : List Out) → told_bare tag (first ++ later) ≡ told_bare tag first ++ told_bare tag later
told_then tag first later = ap (told_of tag) (map-append bare_out first later)
    ∙ flat_map-append (told_of_out tag) (map bare_out first) (map bare_out later)

-- ---- a part of a call

-- what a host comes to that does what it is told of these outs
abbrev pub done_for : (ℕ → FileRequest) → ℕ → List Out → Host → List Out → Hosted
done_for requests tag more host outs = does_all requests (told_bare tag more) (record { host = host; outs = outs })

-- of a host of the server before it
pub record IsDone (requests : ℕ → FileRequest) (tag : ℕ) (more : List Out) (after : Server) (host : Host) (outs : List Out)
    : Type 0 where
  pub sends : (done_for requests tag more host outs).outs ≡ outs ++ more
  pub hosts : IsHostOf (done_for requests tag more host outs).host after

pub record GoesFaithfully (requests : ℕ → FileRequest) (tag : ℕ) (before : Progress) (after : Progress) : Type 0 where
  pub more : List Out
  pub are_more : after.outs ≡ before.outs ++ more
  pub does : (host : Host) (outs : List Out) → IsHostOf host before.server → IsDone requests tag more after.server host outs

pub nothing_done : (requests : ℕ → FileRequest) (tag : ℕ) (before after : Progress) → after.outs ≡ before.outs ++ []
    → ((host : Host) → IsHostOf host before.server → IsHostOf host after.server) → GoesFaithfully requests tag before after
nothing_done requests tag before after same hosts = record {
  more = [];
  are_more = same;
  does = λ host outs is.
      let none = does_none requests (record { host = host; outs = outs }) in record {
        sends = ap (λ (d : Hosted). d.outs) none ∙ sym (append-nil outs);
        hosts = subst (λ (d : Hosted). IsHostOf d.host after.server) (sym none) (hosts host is);
      };
}

pub stays_faithful : (requests : ℕ → FileRequest) (tag : ℕ) (progress : Progress) → GoesFaithfully requests tag progress progress
stays_faithful requests tag progress =
    nothing_done requests tag progress progress (sym (append-nil progress.outs)) (λ host is. is)

pub faithful_then : (requests : ℕ → FileRequest) (tag : ℕ) (before next after : Progress)
    → GoesFaithfully requests tag before next
    → GoesFaithfully requests tag next after → GoesFaithfully requests tag before after
faithful_then requests tag before next after first later = record {
  more = first.more ++ later.more;
  are_more = later.are_more ∙ ap (λ o. o ++ later.more) first.are_more ∙ append_assoc before.outs first.more later.more;
  does = λ host outs is.
      let one = first.does host outs is in
      let mid = done_for requests tag first.more host outs in
      let two = later.does mid.host mid.outs one.hosts in
      let split : done_for requests tag
      (first.more ++ later.more) host outs ≡ done_for requests tag later.more mid.host mid.outs =
      ap (λ told. does_all requests told (record { host = host; outs = outs })) (told_then tag first.more later.more)
      ∙ does_then requests (told_bare tag first.more) (told_bare tag later.more) (record { host = host; outs = outs }) in record {
        sends = ap (λ (d : Hosted). d.outs) split ∙ two.sends ∙ ap (λ o. o ++ later.more) one.sends
            ∙ append_assoc outs first.more later.more;
        hosts = subst (λ (d : Hosted). IsHostOf d.host after.server) (sym split) two.hosts;
      };
}

-- one decision is told of what is given out
pub one_done : (requests : ℕ → FileRequest) (tag : ℕ) (before after : Progress) (more : List Out) (decision : Decision)
    → after.outs ≡ before.outs ++ more → told_bare tag more ≡ decision ∷ []
    → ((host : Host) (outs : List Out) → IsHostOf host before.server
    → ((does requests decision (record { host = host; outs = outs })).outs ≡ outs ++ more)
    × IsHostOf (does requests decision (record { host = host; outs = outs })).host after.server)
    → GoesFaithfully requests tag before after
one_done requests tag before after more decision same told each = record {
  more = more;
  are_more = same;
  does = λ host outs is.
      let done = each host outs is in
      let single : done_for requests tag more host outs ≡ does requests decision (record { host = host; outs = outs }) =
      ap (λ told. does_all requests told (record { host = host; outs = outs })) told
      ∙ does_one requests decision (record { host = host; outs = outs }) in record {
        sends = ap (λ (d : Hosted). d.outs) single ∙ done.0;
        hosts = subst (λ (d : Hosted). IsHostOf d.host after.server) (sym single) done.1;
      };
}

-- ---- tries

pub host_of_fewer : (test : Open → Bool) (progress : Progress) (host : Host) → IsHostOf host progress.server
    → IsHostOf host (opens_dropped test progress).server
host_of_fewer test progress host is = record {
  contents = is.contents;
  handles = λ one among. is.handles one (among_filter (λ o. not (test o)) one progress.server.opens among).0;
  numbered = λ one among. is.numbered one (among_filter (λ o. not (test o)) one progress.server.opens among).0;
}

pub same_host : (host : Host) (before after : Server) → IsHostOf host before → after.contents ≡ before.contents
    → after.opens ≡ before.opens → after.last_id ≡ before.last_id → IsHostOf host after
same_host host before after is contents opens last = record {
  contents = is.contents ∙ sym contents;
  handles = λ one among. is.handles one (subst (λ xs. Among one xs) opens among);
  numbered = λ one among. subst (λ n. one.file_id ≤ n) (sym last) (is.numbered one (subst (λ xs. Among one xs) opens among));
}

tries_are_faithful : (requests : ℕ → FileRequest) (tag : ℕ) → HasTries (GoesFaithfully requests tag)
tries_are_faithful requests tag = record {
  same = stays_faithful requests tag;
  behind = faithful_then requests tag;
  drop = λ key p. nothing_done requests tag p (opens_dropped (is_left_open key) p) refl
      (λ host is. host_of_fewer (is_left_open key) p host is);
  lower = λ key lowered p settled. one_done requests tag p (lease_lowered key lowered p)
      (Out.Sent key.client (break_notice key (p.server.leases key).state lowered) ∷ []) _ refl refl
      (λ host outs is. (refl, same_host host p.server (lease_lowered key lowered p).server is refl refl refl));
  begin = λ key lowered p settled. one_done requests tag p (break_begun key lowered p)
      (Out.Sent key.client (break_notice key (p.server.leases key).state lowered) ∷ []) _ refl refl
      (λ host outs is. (refl, same_host host p.server (break_begun key lowered p).server is refl refl refl));
}

pub tries_faithfully : (requests : ℕ → FileRequest) (tag client : ℕ) (request : FileRequest) (progress : Progress)
    → GoesFaithfully requests tag progress (tried client request progress).progress
tries_faithfully requests tag client request progress =
    any_try (GoesFaithfully requests tag) (tries_are_faithful requests tag) 3 client request progress

-- breaks for what other keys are to give up
pub others_faithfully : (requests : ℕ → FileRequest) (tag : ℕ) (server : Server) (own : Option Key) (file : ℕ) (extent : Extent)
    → GoesFaithfully requests tag (begun server) (others_broken server own file extent)
others_faithfully requests tag server own file extent = any_meeting (GoesFaithfully requests tag)
    (tries_are_faithful requests tag) (others_wants server own file extent) (begun server)
