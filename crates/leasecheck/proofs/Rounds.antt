-- A text that is judged block by block, round after round.
use Rattle.lease_laws.proofs.Words.{◌++◌, ◌+◌, ◌-◌, ◌<◌, ◌^◌, ◌∙◌, ◌≡◌, ◌≤◌, Err, IfSome, List, None, Ok, Option, Result, Some, ℕ}
use Rattle.lease_laws.proofs.Words.{[], ap, append-nil, append_assoc, arith, inl, inr, length, length-append, map, refl, subst}
use Rattle.lease_laws.proofs.Words.{sym}
use Rattle.std.specs.Io.KnownBytes.{Consumes, IsAtEnd}
use Rattle.lease_facts.specs.declared.verdict.Verdict.{Verdict}
use Rattle.lease_facts.specs.Facts.{fact_of}
use Rattle.lease_model.specs.records.Facts as told
use Rattle.lease_model.specs.records.Verdict as model
use Rattle.lease_facts.specs.Verdicts.{verdict_of}
use Rattle.lease_world.specs.judge.Judged.{HasJudged}
use Rattle.lease_texts.specs.Pieces.{lines_of, pieces}
use Rattle.lease_texts.specs.Reading.{reads_on}
use Rattle.lease_texts.specs.Records.{with_line}
use Rattle.leasecheck.specs.Judging.{EndsLine, HasRead, HasReadText, ReadsMore, ReadsBlock, RefusesLine, JudgesText, Judges, bare}
use Rattle.leasecheck.specs.Known.{MayHave, OfBytes}
use Rattle.leasecheck.specs.declared.judging.Progress.{Progress}
use Rattle.leasecheck.specs.declared.failure.Failure.TheVariants as failure
use Rattle.leasecheck.specs.declared.refusal.Refusal.{Refusal}
use Rattle.leasecheck.proofs.Blocks.{lines_behind, lines_count}

-- What was read, the line that has begun and what is left are the whole text, and each round took some of it.
pub record IsSoFar (whole left : Option (List ℕ)) (progress : Progress) (begun : List ℕ) (round : ℕ) : Type 0 where
  pub text : List ℕ
  pub read : HasReadText progress text
  pub rounds : round ≤ length text + length begun
  pub known : IfSome whole (λ all. (rest : List ℕ) × (left ≡ Some rest) × (text ++ (begun ++ rest) ≡ all))

all_left : (whole : Option (List ℕ)) (begun : List ℕ) → begun ≡ []
    → IfSome whole (λ all. (rest : List ℕ) × (whole ≡ Some rest) × ([] ++ (begun ++ rest) ≡ all))
all_left None begun none = tt
all_left (Some all) begun none = (all, refl, rw none refl)

pub begins : (whole : Option (List ℕ)) (progress : Progress) (begun : List ℕ) → HasRead progress [] → begun ≡ []
    → IsSoFar whole whole progress begun 0
unfolding pieces
begins whole progress begun has none = record {
  text = [];
  read = record { whole = inl refl; read = has };
  rounds = omega arith;
  known = all_left whole begun none;
}

-- a block of what was left was taken
rejoin : (text more begun new block rest left all : List ℕ) → more ++ new ≡ begun ++ block → rest ≡ block ++ left
    → text ++ (begun ++ rest) ≡ all → (text ++ more) ++ (new ++ left) ≡ all
rejoin text more begun new block rest left all same is whole =
    append_assoc text more (new ++ left) ∙ (ap (λ t. text ++ t) (sym (append_assoc more new left)
    ∙ (ap (λ t. t ++ left) same ∙ (append_assoc begun block left ∙ ap (λ t. begun ++ t) (sym is)))) ∙ whole)

-- What is left after a block was taken.
less_left : (whole old new : Option (List ℕ)) (text begun block : List ℕ) → Consumes old new block
    → IfSome whole (λ all. (rest : List ℕ) × (old ≡ Some rest) × (text ++ (begun ++ rest) ≡ all))
    → IfSome whole (λ all. (left : List ℕ) × (new ≡ Some left) × (text ++ (begun ++ (block ++ left)) ≡ all))
less_left None old new text begun block consumes known = tt
less_left (Some all) None new text begun block consumes known = absurd (let e = known.1 in cc)
less_left (Some all) (Some rest) None text begun block consumes known = absurd consumes
less_left (Some all) (Some rest) (Some left) text begun block consumes known =
    let same : known.0 ≡ rest = let e = known.1 in cc in
    (left, refl, subst (λ t. text ++ (begun ++ t) ≡ all) (same ∙ consumes) known.2)

joined : (whole new : Option (List ℕ)) (text more begun after block : List ℕ) → more ++ after ≡ begun ++ block
    → IfSome whole (λ all. (left : List ℕ) × (new ≡ Some left) × (text ++ (begun ++ (block ++ left)) ≡ all))
    → IfSome whole (λ all. (left : List ℕ) × (new ≡ Some left) × ((text ++ more) ++ (after ++ left) ≡ all))
joined None new text more begun after block same known = tt
joined (Some all) new text more begun after block same (left, is, whole) =
    (left, is, rejoin text more begun after block (block ++ left) left all same refl whole)

pub goes_on : (whole old new : Option (List ℕ)) (progress next : Progress) (begun more block : List ℕ) (round : ℕ)
    → IsSoFar whole old progress begun round → Consumes old new block → 0 < length block
    → ((text : List ℕ) → HasReadText progress text → ReadsBlock text begun more block (Ok next))
    → IsSoFar whole new next more (round + 1)
goes_on whole old new progress next begun more block round so_far consumes some reads =
    let taken = reads so_far.text so_far.read in
    record {
      text = so_far.text ++ taken.0;
      read = taken.1;
      rounds = omega (arith, so_far.rounds, some, ap length taken.2, length-append {A = ℕ});
      known = joined whole new so_far.text taken.0 begun more block taken.2
          (less_left whole old new so_far.text begun block consumes so_far.known);
    }

-- a refusal in a block is that of the text, whatever follows the block
refuses : (told : Refusal) (text begun more block rest : List ℕ) → ReadsBlock text begun more block (Err told)
    → JudgesText (text ++ (begun ++ (block ++ rest))) (Err told)
refuses told text begun more block rest (inl memory) = inl memory
refuses told text begun more block rest (inr (inl out)) =
    inr (inr (inl (out.0, omega (arith, out.1, length-append {A = ℕ}))))
refuses told text begun more block rest (inr (inr refused)) =
    inr (inr (inr (subst (λ t. RefusesLine (lines_of (text ++ t)) told) (append_assoc begun block rest) (refused rest))))

-- what is known of a text is so of a text that it may be
of_known : (whole new : Option (List ℕ)) (text : List ℕ) (P : List ℕ → Type 0) → ((rest : List ℕ) → P (text ++ rest))
    → IfSome whole (λ all. (left : List ℕ) × (new ≡ Some left) × (text ++ left ≡ all)) → OfBytes whole P
of_known None new text P every known = (text ++ [], tt, every [])
of_known (Some all) new text P every (left, is, whole) = (text ++ left, whole, every left)

spread : (whole new : Option (List ℕ)) (text begun block : List ℕ)
    → IfSome whole (λ all. (left : List ℕ) × (new ≡ Some left) × (text ++ (begun ++ (block ++ left)) ≡ all))
    → IfSome whole (λ all. (left : List ℕ) × (new ≡ Some left) × ((text ++ (begun ++ block)) ++ left ≡ all))
spread None new text begun block known = tt
spread (Some all) new text begun block (left, is, whole) = (
  left,
  is,
  append_assoc text (begun ++ block) left ∙ (ap (λ t. text ++ t) (append_assoc begun block left) ∙ whole),
)

together : (text begun block rest : List ℕ) → text ++ (begun ++ (block ++ rest)) ≡ (text ++ (begun ++ block)) ++ rest
together text begun block rest =
    sym (append_assoc text (begun ++ block) rest ∙ ap (λ t. text ++ t) (append_assoc begun block rest))

pub stops : (whole old new : Option (List ℕ)) (progress : Progress) (told : Refusal) (begun more block : List ℕ) (round : ℕ)
    → IsSoFar whole old progress begun round → Consumes old new block
    → ((text : List ℕ) → HasReadText progress text → ReadsBlock text begun more block (Err told)) → Judges whole (Err told)
stops whole old new progress told begun more block round so_far consumes reads =
    of_known whole new (so_far.text ++ (begun ++ block)) (λ text. JudgesText text (Err told))
    (λ rest. subst (λ t. JudgesText t (Err told)) (together so_far.text begun block rest)
    (refuses told so_far.text begun more block rest (reads so_far.text so_far.read)))
    (spread whole new so_far.text begun block (less_left whole old new so_far.text begun block consumes so_far.known))

-- at the end what has begun is the last line
at_end : (whole new : Option (List ℕ)) (text begun : List ℕ) → IsAtEnd new
    → IfSome whole (λ all. (left : List ℕ) × (new ≡ Some left) × (text ++ (begun ++ ([] ++ left)) ≡ all))
    → MayHave whole (text ++ begun)
at_end None new text begun done known = tt
at_end (Some all) None text begun done known = absurd (let e = known.1 in cc)
at_end (Some all) (Some left) text begun done known =
    let same : known.0 ≡ left = let e = known.1 in cc in
    ap (λ t. text ++ t) (sym (append-nil begun) ∙ ap (λ t. begun ++ t) (sym (same ∙ done))) ∙ known.2

pub ends : (whole old new : Option (List ℕ)) (progress : Progress) (begun : List ℕ) (round : ℕ) (answer : Result Verdict Refusal)
    → IsSoFar whole old progress begun round → Consumes old new [] → IsAtEnd new
    → ((text : List ℕ) → HasReadText progress text → JudgesText (text ++ begun) answer) → Judges whole answer
ends whole old new progress begun round answer so_far consumes done judges = (
  so_far.text ++ begun,
  at_end whole new so_far.text begun done (less_left whole old new so_far.text begun [] consumes so_far.known),
  judges so_far.text so_far.read,
)

-- rounds run out only in a text of as many bytes
too_long : (text begun rest : List ℕ) (round : ℕ) → round ≤ length text + length begun → round ≡ 2 ^ 64 - 1
    → JudgesText (text ++ (begun ++ rest)) (Err (bare failure.Lines))
too_long text begun rest round rounds last = inr (inr (inl (refl, omega (arith, rounds, last, length-append {A = ℕ}))))

pub runs_out : (whole left : Option (List ℕ)) (progress : Progress) (begun : List ℕ) (round : ℕ)
    → IsSoFar whole left progress begun round → round ≡ 2 ^ 64 - 1 → Judges whole (Err (bare failure.Lines))
runs_out None left progress begun round so_far last =
    (so_far.text ++ (begun ++ []), tt, too_long so_far.text begun [] round so_far.rounds last)
runs_out (Some all) left progress begun round so_far last =
    let rest = so_far.known.0 in
    (so_far.text ++ (begun ++ rest), so_far.known.2, too_long so_far.text begun rest round so_far.rounds last)

-- ---- the last lines

-- the record of all lines that were read
all_lines : (next : Progress) (lines : List (List ℕ)) → (has : HasRead next lines) → reads_on with_line 1 [] lines ≡ Ok has.facts
unfolding reads_on
all_lines next lines has = ap (λ all. reads_on with_line 1 [] all) (sym (append-nil lines)) ∙ has.read []

pub judged_whole : (next : Progress) (verdict : Verdict) (text begun : List ℕ) → EndsLine text
    → HasRead next (lines_of text ++ lines_of begun)
    → ((facts : List told.Fact) → HasJudged next.judge facts → verdict_of verdict ≡ model.verdict facts)
    → JudgesText (text ++ begun) (Ok verdict)
judged_whole next verdict text begun whole has tells = (
  has.facts,
  ap (λ lines. reads_on with_line 1 [] lines) (lines_behind text begun whole)
      ∙ all_lines next (lines_of text ++ lines_of begun) has,
  tells (map fact_of has.facts) has.judged,
)

pub refused_whole : (told : Refusal) (text begun : List ℕ) → EndsLine text
    → ReadsMore (lines_of text) (lines_of begun) (Err told) → JudgesText (text ++ begun) (Err told)
refused_whole told text begun whole (inl memory) = inl memory
refused_whole told text begun whole (inr (inl out)) = inr (inr (inl (
  out.0,
  omega (
    arith,
    out.1,
    lines_count text,
    lines_count begun,
    length-append {A = List ℕ},
    length-append {A = ℕ},
  ),
)))
refused_whole told text begun whole (inr (inr refused)) = inr (inr (inr (subst (λ lines. RefusesLine lines told)
    (ap (λ lines. lines_of text ++ lines) (append-nil (lines_of begun)) ∙ sym (lines_behind text begun whole)) (refused []))))
