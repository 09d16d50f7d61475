-- The rounds of a try, one after another.
use Rattle.lease_laws.proofs.Words.{◌+◌, ◌-◌, ◌<◌, ◌∙◌, ◌≡◌, ◌≤◌, Bool, FileRequest, Finding, List, Outcome, Progress, Tried}
use Rattle.lease_laws.proofs.Words.{Want, ℕ, after_breaks, after_finding, ap, arith, ended, false, finding, if◌then◌else◌}
use Rattle.lease_laws.proofs.Words.{is_ready, must_wait, refl, suc, sym, tried_for, true, wants_met}
use Rattle.lease_laws.proofs.server.cases.Tries.{no_round, one_round}
use Rattle.lease_manager.specs.Findings.{Look, looked}

-- a round by what the look at its start comes to
abbrev after_look : (Progress → Tried) → FileRequest → Progress → Look → Tried
after_look again request progress (Look.Fails status) = ended progress (Outcome.Refused status)
after_look again request progress Look.Ready = ended progress Outcome.Ready
after_look again request progress (Look.Needs wants) = after_breaks again request wants (wants_met wants progress)

abbrev look_at : ℕ → FileRequest → Progress → Look
look_at client request progress =
    looked (λ wants. is_ready request progress.server.leases wants) (finding progress.server client request)

pub looks : (rounds client : ℕ) (request : FileRequest) (progress : Progress) (look : Look)
    → look ≡ look_at client request progress → tried_for (suc rounds) client request progress
    ≡ after_look (tried_for rounds client request) request progress look
looks rounds client request progress look is = one_round rounds client request progress
    ∙ by_look (finding progress.server client request) look is
  where
    by_look : (found : Finding) (look : Look) → look ≡ looked (λ wants. is_ready request progress.server.leases wants) found
        → after_finding (tried_for rounds client request) request progress found
        ≡ after_look (tried_for rounds client request) request progress look
    by_look found look is = grind arith

breaks : (rounds client : ℕ) (request : FileRequest) (progress after : Progress) (wants : List Want)
    → Look.Needs wants ≡ look_at client request progress → after ≡ wants_met wants progress
    → tried_for (suc rounds) client request progress ≡ after_breaks (tried_for rounds client request) request wants after
breaks rounds client request progress after wants is met = looks rounds client request progress (Look.Needs wants) is
    ∙ ap (after_breaks (tried_for rounds client request) request wants) (sym met)

pub waits : (rounds client : ℕ) (request : FileRequest) (progress after : Progress) (wants : List Want)
    → Look.Needs wants ≡ look_at client request progress → after ≡ wants_met wants progress → must_wait request after wants ≡ true
    → tried_for (suc rounds) client request progress ≡ ended after Outcome.Waits
waits rounds client request progress after wants is met must = breaks rounds client request progress after wants is met
    ∙ ap (λ b. if b then ended after Outcome.Waits else tried_for rounds client request after) must

pub again : (rounds client : ℕ) (request : FileRequest) (progress after : Progress) (wants : List Want)
    → Look.Needs wants ≡ look_at client request progress → after ≡ wants_met wants progress
    → must_wait request after wants ≡ false
    → tried_for (suc rounds) client request progress ≡ tried_for rounds client request after
again rounds client request progress after wants is met must = breaks rounds client request progress after wants is met
    ∙ ap (λ b. if b then ended after Outcome.Waits else tried_for rounds client request after) must

-- ---- at most three

pub one_more : (i client : ℕ) (request : FileRequest) (before now : Progress) (whole : Tried) → i < 3
    → ((rounds : ℕ) → tried_for (suc rounds) client request before ≡ tried_for rounds client request now)
    → tried_for (3 - i) client request before ≡ whole → tried_for (3 - (i + 1)) client request now ≡ whole
one_more i client request before now whole less step so_far = grind arith

pub none_left : (i client : ℕ) (request : FileRequest) (now : Progress) (whole : Tried) → 3 ≤ i
    → tried_for (3 - i) client request now ≡ whole → ended now Outcome.Waits ≡ whole
none_left i client request now whole over so_far =
    let e : 3 - i ≡ 0 = omega arith in
    sym (no_round client request now) ∙ ap (λ n. tried_for n client request now) (sym e) ∙ so_far

-- where a look finds wants, these are the finding's, and the request can't be answered
pub needs_unready : (is_ready : List Want → Bool) (found : Finding) (wants : List Want) → Look.Needs wants ≡ looked is_ready found
    → (found ≡ Finding.Needs wants) × (is_ready wants ≡ false)
needs_unready is_ready found wants is = grind arith

pub unready_needs : (is_ready : List Want → Bool) (found : Finding) (wants : List Want) → found ≡ Finding.Needs wants
    → is_ready wants ≡ false → Look.Needs wants ≡ looked is_ready found
unready_needs is_ready found wants is unready = rw (is, unready) refl
