-- Walking back along the trail.
use Rattle.std.proofs.Common.{◌≡◌, ◌-◌, ◌<◌, ℕ, List, ◌∷◌, [], ◌++◌, Some, refl, sym, ap, ◌∙◌, arith, subst, slice_get, length}
use Rattle.std.proofs.Common.{append_assoc}
use Rattle.std.proofs.lemmas.List.{append-nil}
use Rattle.std.proofs.lemmas.Option.{same_Some, slice_get_within}
use Rattle.capture_judge.specs.Searching.{Leads}
use Rattle.capture_judge.specs.declared.values.Step.{Step}
use Rattle.capture_judge.specs.declared.ways.Link.{Link}

-- The steps that led to the first link are these, and then those that led to the other.
pub record Traced (trail : List Link) (first count : ℕ) (steps : List Step) : Type 0 where
  pub leads : (rest : List Step) × Leads trail count rest
  pub whole : (past : List Step) → Leads trail first past → (rest : List Step) × Leads trail count rest × (past ≡ steps ++ rest)

pub traced-start : (trail : List Link) (count : ℕ) (past : List Step) → Leads trail count past → Traced trail count count []
traced-start trail count past leads = record {
  leads = (past, leads);
  whole = λ other also. (other, also, refl);
}

-- what leads to a link that isn't the start
record Last (trail : List Link) (count : ℕ) (rest : List Step) (link : Link) : Type 0 where
  pub earlier : List Step
  pub is : rest ≡ link.step ∷ earlier
  pub leads : Leads trail link.before earlier
  pub smaller : link.before < count

last-link : (trail : List Link) (count : ℕ) (rest : List Step) (link : Link) → 0 < count → slice_get trail (count - 1) ≡ Some link
    → Leads trail count rest → Last trail count rest link
last-link trail count [] link some at leads = absurd (omega (arith, some, leads))
last-link trail count (step ∷ rest) link some at leads =
    let is = leads.2
    in let place : leads.0 ≡ count - 1 = omega (arith, is)
    in let same : leads.1 ≡ link = same_Some leads.1 link (sym leads.3 ∙ (ap (slice_get trail) place ∙ at))
    in let below = leads.5
    in record {
      earlier = rest;
      is = ap (λ (s : Step). s ∷ rest) (sym leads.4 ∙ ap (λ (l : Link). l.step) same);
      leads = subst (λ (l : Link). Leads trail l.before rest) same leads.6;
      smaller = let before = ap (λ (l : Link). l.before) same in omega (arith, is, below, before);
    }

pub traced-inside : (trail : List Link) (first count : ℕ) (steps : List Step) → 0 < count → Traced trail first count steps
    → count - 1 < length trail
traced-inside trail first count steps some traced = inside-by trail count traced.leads.0 some traced.leads.1 where
  inside-by : (trail : List Link) (count : ℕ) (rest : List Step) → 0 < count → Leads trail count rest → count - 1 < length trail
  inside-by trail count [] some leads = absurd (omega (arith, some, leads))
  inside-by trail count (step ∷ rest) some leads =
      let within = slice_get_within trail leads.0 leads.1 leads.3 in let is = leads.2 in omega (arith, within, is)

pub traced-smaller : (trail : List Link) (first count : ℕ) (steps : List Step) (link : Link) → 0 < count
    → slice_get trail (count - 1) ≡ Some link → Traced trail first count steps → link.before < count
traced-smaller trail first count steps link some at traced =
    (last-link trail count traced.leads.0 link some at traced.leads.1).smaller

pub traced-more : (trail : List Link) (first count : ℕ) (steps : List Step) (link : Link) → 0 < count
    → slice_get trail (count - 1) ≡ Some link → Traced trail first count steps
    → Traced trail first link.before (steps ++ link.step ∷ [])
traced-more trail first count steps link some at traced =
    let last = last-link trail count traced.leads.0 link some at traced.leads.1
    in record {
      leads = (last.earlier, last.leads);
      whole = λ past also.
          let all = traced.whole past also
          in let one = last-link trail count all.0 link some at all.1
          in (
            one.earlier,
            one.leads,
            all.2 ∙ ap (λ rest. steps ++ rest) one.is
                ∙ sym (append_assoc steps (link.step ∷ []) one.earlier),
          );
    }

pub traced-end : (trail : List Link) (first : ℕ) (steps past : List Step) → Traced trail first 0 steps → Leads trail first past
    → past ≡ steps
traced-end trail first steps past traced leads =
    let all = traced.whole past leads in none-left steps past all.0 all.1 all.2 where
      none-left : (steps past rest : List Step) → Leads trail 0 rest → past ≡ steps ++ rest → past ≡ steps
      none-left steps past [] leads is = is ∙ append-nil steps
      none-left steps past (step ∷ rest) leads is = let never = leads.2 in absurd (omega (arith, never))
