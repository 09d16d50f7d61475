-- What calls of the server tell of contents: the record has the contents of the server, and a read's reply has
-- what the record says where it is sent.
use Rattle.lease_laws.proofs.Words.{◌++◌, ◌==◌, ◌∙◌, ◌∷◌, ◌≡◌, AreGuarded, Call, EachOut, Fact, IsOfPlace, IsSound, List, Out}
use Rattle.std.proofs.Common.{arith}
use Rattle.lease_laws.proofs.Words.{Patch, Progress, Reply, Server, SmallStep, WaitsWell, ℕ, ⊤, [], ap, call_begun, called}
use Rattle.lease_laws.proofs.Words.{content_of, eq-eqb, eqb-true, if◌then◌else◌, put, refl, step_taken, steps_taken, subst, sym}
use Rattle.lease_state.specs.Content.{patch as patched}
use Rattle.lease_laws.proofs.client.Thin.{put_same, put_other}
use Rattle.lease_laws.proofs.server.ContentSteps.{IsOther, LeavesContents, IsRead, IsChange, ContentStep, content_step}
use Rattle.lease_laws.proofs.server.Lists.{either, clash}
use Rattle.lease_laws.proofs.server.StepCalls.{called-steps, call_begun-silent, call_begun-up}
use Rattle.lease_laws.proofs.server.StepKeeps.{step-sound}
use Rattle.lease_laws.proofs.world.FileIds.{told, fact_told, told_append, IsCounted, step_counted, begun_counted}
use Rattle.lease_laws.proofs.world.Runs.{begun_contents}

abbrev pub HasContents : List Fact → Server → Type 0
HasContents past server = (file : ℕ) → server.contents file ≡ content_of file past

-- each out is right for the place where it is told
abbrev pub FitsThere : List Fact → Out → Type 0
FitsThere past (Out.Sent client reply) = IsOfPlace client past reply
FitsThere past out = ⊤

abbrev pub EachFits : List Fact → List Out → Type 0
EachFits past [] = ⊤
EachFits past (out ∷ outs) = FitsThere past out × EachFits (fact_told out ∷ past) outs

fits_append : (past : List Fact) (outs more : List Out) → EachFits past outs → EachFits (told past outs) more
    → EachFits past (outs ++ more)
fits_append past [] more each other = other
fits_append past (out ∷ outs) more each other = (each.0, fits_append (fact_told out ∷ past) outs more each.1 other)

-- a reply that tells no content is right everywhere
other_fits : (client : ℕ) (place : List Fact) (reply : Reply) → IsOther (Out.Sent client reply) → IsOfPlace client place reply
other_fits client place reply other = grind arith

others_fit : (past : List Fact) (outs : List Out) → EachOut IsOther outs → EachFits past outs
others_fit past [] each = tt
others_fit past (Out.Sent client reply ∷ outs) each =
    (other_fits client past reply each.0, others_fit (Fact.Sent client ∷ past) outs each.1)
others_fit past (Out.Opened file client ∷ outs) each = (tt, others_fit (Fact.Opened file client ∷ past) outs each.1)
others_fit past (Out.Changed file client number patch ∷ outs) each = absurd each.0

others_same : (past : List Fact) (outs : List Out) → EachOut IsOther outs → (file : ℕ)
    → content_of file (told past outs) ≡ content_of file past
unfolding content_of
others_same past [] each file = refl
others_same past (Out.Sent client reply ∷ outs) each file = others_same (Fact.Sent client ∷ past) outs each.1 file
others_same past (Out.Opened at client ∷ outs) each file = others_same (Fact.Opened at client ∷ past) outs each.1 file
others_same past (Out.Changed at client number patch ∷ outs) each file = absurd each.0

-- a file that is changed
changed_contents : (contents : ℕ → List ℕ) (past : List Fact) (at client number : ℕ) (patch : Patch)
    → ((file : ℕ) → contents file ≡ content_of file past) → (file : ℕ) → put contents at (patched (contents at) patch) file
    ≡ content_of file (Fact.Sent client ∷ Fact.Changed at client number patch ∷ past)
unfolding content_of
changed_contents contents past at client number patch has file = either (at == file)
    (λ same. subst (λ f. put contents at (patched (contents at) patch) f
    ≡ (if at == f then patched (content_of f past) patch else content_of f past)) (eqb-true at file same)
    (rw (eq-eqb at at refl, put_same contents at (patched (contents at) patch)) (ap (λ c. patched c patch) (has at))))
    (λ apart. rw (apart) (put_other contents at (patched (contents at) patch) file
    (λ e. clash (at == file) (eq-eqb at file (sym e)) apart) ∙ has file))

-- ---- steps

record IsToldSo (base : List Fact) (progress : Progress) : Type 0 where
  each : EachFits base progress.outs
  contents : HasContents (told base progress.outs) progress.server

leaves_told : (base : List Fact) (before after : Progress) → LeavesContents before after → IsToldSo base before
    → IsToldSo base after
leaves_told base before after l t =
    let more = (l.outs).more in
    let place = told base before.outs in record {
      each = subst (EachFits base) (sym (l.outs).are_more)
          (fits_append base before.outs more t.each (others_fit place more (l.outs).each));
      contents = λ file. ap (λ (c : ℕ → List ℕ). c file) l.contents ∙ t.contents file
          ∙ sym (others_same place more (l.outs).each file) ∙ ap (λ p. content_of file p) (sym (ap (told base) (l.outs).are_more
          ∙ told_append base before.outs more));
    }

read_told : (base : List Fact) (before after : Progress) → IsCounted (told base before.outs) before.server
    → IsRead before after → IsToldSo base before → IsToldSo base after
unfolding content_of
read_told base before after c r t =
    let one = r.one in
    let place = told base before.outs in record {
      each = subst (EachFits base) (sym r.outs) (fits_append base before.outs _ t.each
          ((one.file, c.opens one r.is_there, sym (t.contents one.file)), tt));
      contents = λ file. ap (λ (x : ℕ → List ℕ). x file) r.contents ∙ t.contents file
          ∙ ap (λ p. content_of file p) (sym (ap (told base) r.outs ∙ told_append base before.outs _));
    }

change_told : (base : List Fact) (before after : Progress) → IsChange before after → IsToldSo base before → IsToldSo base after
change_told base before after g t = record {
  each = subst (EachFits base) (sym g.outs) (fits_append base before.outs _ t.each (tt, (tt, tt)));
  contents = λ file. ap (λ (x : ℕ → List ℕ). x file) g.contents
      ∙ changed_contents before.server.contents (told base before.outs) g.file g.client g.number g.patch t.contents file
      ∙ ap (λ p. content_of file p) (sym (ap (told base) g.outs ∙ told_append base before.outs _));
}

steps_told : (base : List Fact) (steps : List SmallStep) (progress : Progress) → IsSound progress.server
    → AreGuarded steps progress → IsCounted (told base progress.outs) progress.server → IsToldSo base progress
    → IsToldSo base (steps_taken steps progress)
steps_told base [] progress s guarded c t = t
steps_told base (step ∷ steps) progress s guarded c t =
    let next = step_taken step progress in
    steps_told base steps next (step-sound step progress s guarded.0) guarded.1
    (step_counted base step progress s guarded.0 c) (by_step (content_step step progress))
  where
    by_step : ContentStep progress (step_taken step progress) → IsToldSo base (step_taken step progress)
    by_step (ContentStep.Leaves l) = leaves_told base progress (step_taken step progress) l t
    by_step (ContentStep.Reads r) = read_told base progress (step_taken step progress) c r t
    by_step (ContentStep.Changes g) = change_told base progress (step_taken step progress) g t

-- ---- calls

called_told : (past : List Fact) (server : Server) (call : Call) → IsSound server → WaitsWell server
    → IsCounted past server → HasContents past server → IsToldSo past (called server call)
called_told past server call s w c has =
    let start = call_begun server call in
    let go = called-steps server call s w in
    let quiet = sym (call_begun-silent server call) in
    subst (IsToldSo past) (sym go.lead) (steps_told past go.steps start (call_begun-up server call s w).sound go.are_guarded
    (subst (λ outs. IsCounted (told past outs) start.server) quiet (begun_counted past server call c)) (record {
      each = subst (EachFits past) quiet tt;
      contents = λ file. ap (λ (x : ℕ → List ℕ). x file) (begun_contents server call) ∙ has file
          ∙ ap (λ outs. content_of file (told past outs)) quiet;
    }))

pub called-fits : (past : List Fact) (server : Server) (call : Call) → IsSound server → WaitsWell server
    → IsCounted past server → HasContents past server → EachFits past (called server call).outs
called-fits past server call s w c has = (called_told past server call s w c has).each

pub called-contents : (past : List Fact) (server : Server) (call : Call) → IsSound server → WaitsWell server
    → IsCounted past server → HasContents past server
    → HasContents (told past (called server call).outs) (called server call).server
called-contents past server call s w c has = (called_told past server call s w c has).contents
