-- The file that a verdict is of.
use Rattle.std.proofs.Common.{◌≡◌, ◌≢◌, ◌⊎◌, inl, inr, ◌∙◌, sym, ap, ℕ, Bool, true, false, ◌||◌, if◌then◌else◌, List, [], ◌∷◌, refl, reverse}
use Rattle.std.specs.List.{AllZip, list_any}
use Rattle.capture_judge.specs.Placing.{IsPlacement, IsClean}
use Rattle.capture_judge.specs.Verdicts.{IsUnsafe}
use Rattle.capture_judge.specs.declared.values.Chain.{Chain}
use Rattle.capture_judge.specs.declared.values.Step.{Step}
use Rattle.capture_walk.specs.Chains.{chains_on, files_in}
use Rattle.capture_walk.specs.Events.{events}
use Rattle.capture_walk.specs.Tables.{tables_on}
use Rattle.capture_walk.specs.declared.note.Seen.{Seen}
use Rattle.capture_texts.specs.Captures.{moments}
use Rattle.capture_texts.specs.Laws.{IsAmong, HasChains, UnsafeIsOfAFile, SafeIsOfAFile}
use Rattle.capture_texts.specs.Reports.{IsFound, IsJudged, IsReport, is_unsafe, is_safe, joined, with_held}
use Rattle.capture_texts.specs.declared.finding.Belief.{Belief}
use Rattle.capture_texts.specs.declared.finding.CaptureVerdict.TheVariants as verdict
use Rattle.capture_texts.specs.declared.finding.FileFinding.{FileFinding}
use Rattle.capture_texts.specs.declared.finding.Judged.{Judged}
use Rattle.capture_texts.specs.declared.finding.Judged.TheVariants as judged
use Rattle.capture_texts.specs.declared.finding.Report.{Report}
use Rattle.capture_texts.specs.declared.line.Line.{Line}
use Rattle.capture_texts.specs.declared.line.Moment.{Moment}
use Rattle.capture_texts.specs.declared.line.Side.{Side}

-- Among findings of which one passes a test, one is of a file.
record Passes (test : Judged → Bool) (past : List Line) (seen : List Seen) (files : List ℕ) : Type 0 where
  file : ℕ
  finding : FileFinding
  among : IsAmong file files
  found : IsFound past seen file finding
  passed : test finding.judged ≡ true

later : (test : Judged → Bool) (past : List Line) (seen : List Seen) (file : ℕ) (files : List ℕ)
    → Passes test past seen files → Passes test past seen (file ∷ files)
later test past seen file files one = record {
  file = one.file;
  finding = one.finding;
  among = inr one.among;
  found = one.found;
  passed = one.passed;
}

first_or_later : (test : Judged → Bool) (past : List Line) (seen : List Seen) (file : ℕ) (files : List ℕ)
    (finding : FileFinding) (findings : List FileFinding) → IsFound past seen file finding
    → (list_any (λ one. test one.judged) findings ≡ true → Passes test past seen files)
    → (b : Bool) → test finding.judged ≡ b → (b || list_any (λ one. test one.judged) findings) ≡ true
    → Passes test past seen (file ∷ files)
first_or_later test past seen file files finding findings found others true is some =
    record { file = file; finding = finding; among = inl refl; found = found; passed = is }
first_or_later test past seen file files finding findings found others false is some =
    later test past seen file files (others some)

passes : (test : Judged → Bool) (past : List Line) (seen : List Seen) (files : List ℕ) (findings : List FileFinding)
    → AllZip (IsFound past seen) files findings → list_any (λ one. test one.judged) findings ≡ true
    → Passes test past seen files
passes test past seen [] [] all some = absurd (cc some)
passes test past seen [] (finding ∷ findings) all some = absurd all
passes test past seen (file ∷ files) [] all some = absurd all
passes test past seen (file ∷ files) (finding ∷ findings) all some =
    first_or_later test past seen file files finding findings all.0
    (λ others. passes test past seen files findings all.1 others) (test finding.judged) refl some

-- ---- what is decided of it

charge : (known : List Moment) (chains : List Chain) (beliefs : List Belief) (decided : Judged) → is_unsafe decided ≡ true
    → IsJudged known chains beliefs decided → (position : ℕ) × IsUnsafe chains position
charge known chains beliefs judged.NoClient is judged = absurd (cc is)
charge known chains beliefs judged.Safe is judged = absurd (cc is)
charge known chains beliefs (judged.Unsafe clash) is judged = (clash.position, judged.0)
charge known chains beliefs (judged.Granted clash) is judged = absurd judged
charge known chains beliefs judged.Contradictory is judged = absurd (cc is)
charge known chains beliefs judged.TooMany is judged = absurd (cc is)

cleared : (known : List Moment) (chains : List Chain) (beliefs : List Belief) (decided : Judged) → is_safe decided ≡ true
    → IsJudged known chains beliefs decided
    → (chains ≢ []) × (steps : List Step) × IsPlacement chains steps × IsClean chains steps
cleared known chains beliefs judged.NoClient is judged = absurd (cc is)
cleared known chains beliefs judged.Safe is judged = (judged.0, reverse judged.1, judged.2.placed, judged.3)
cleared known chains beliefs (judged.Unsafe clash) is judged = absurd (cc is)
cleared known chains beliefs (judged.Granted clash) is judged = absurd judged
cleared known chains beliefs judged.Contradictory is judged = absurd (cc is)
cleared known chains beliefs judged.TooMany is judged = absurd (cc is)

-- ---- of which chains that is

neither : (b : Bool) (one other : Judged) → is_unsafe one ≡ false → is_unsafe other ≡ false
    → is_unsafe (if b then one else other) ≡ true → ⊥
neither true one other first second is = cc (sym first ∙ is)
neither false one other first second is = cc (sym second ∙ is)

by-held : (believed held : Judged) → is_unsafe believed ≡ false → is_unsafe (with_held believed held) ≡ true
    → is_unsafe held ≡ true
by-held believed (judged.Unsafe clash) so is = refl
by-held believed (judged.Granted clash) so is = refl
by-held believed judged.NoClient so is = absurd (neither (is_safe believed) judged.NoClient believed refl so is)
by-held believed judged.Safe so is = absurd (neither (is_safe believed) judged.Safe believed refl so is)
by-held believed judged.Contradictory so is = absurd (neither (is_safe believed) judged.Contradictory believed refl so is)
by-held believed judged.TooMany so is = absurd (neither (is_safe believed) judged.TooMany believed refl so is)

either : (believed held : Judged) → is_unsafe (joined believed held) ≡ true
    → (is_unsafe believed ≡ true) ⊎ (is_unsafe held ≡ true)
either (judged.Unsafe clash) held is = inl refl
either (judged.Granted clash) held is = inl refl
either judged.NoClient held is = inr (by-held judged.NoClient held refl is)
either judged.Safe held is = inr (by-held judged.Safe held refl is)
either judged.Contradictory held is = inr (by-held judged.Contradictory held refl is)
either judged.TooMany held is = inr (by-held judged.TooMany held refl is)

picked : (b : Bool) (believed held : Judged) → is_safe believed ≡ b → is_safe (if b then held else believed) ≡ true
    → (is_safe believed ≡ true) × (is_safe held ≡ true)
picked true believed held same is = (same, is)
picked false believed held same is = absurd (cc (sym same ∙ is))

safe-held : (believed held : Judged) → is_safe (with_held believed held) ≡ true
    → (is_safe believed ≡ true) × (is_safe held ≡ true)
safe-held believed (judged.Unsafe clash) is = absurd (cc is)
safe-held believed (judged.Granted clash) is = picked (is_safe believed) believed (judged.Granted clash) refl is
safe-held believed judged.NoClient is = picked (is_safe believed) believed judged.NoClient refl is
safe-held believed judged.Safe is = picked (is_safe believed) believed judged.Safe refl is
safe-held believed judged.Contradictory is = picked (is_safe believed) believed judged.Contradictory refl is
safe-held believed judged.TooMany is = picked (is_safe believed) believed judged.TooMany refl is

both : (believed held : Judged) → is_safe (joined believed held) ≡ true → (is_safe believed ≡ true) × (is_safe held ≡ true)
both (judged.Unsafe clash) held is = absurd (cc is)
both (judged.Granted clash) held is = absurd (cc is)
both judged.NoClient held is = safe-held judged.NoClient held is
both judged.Safe held is = safe-held judged.Safe held is
both judged.Contradictory held is = safe-held judged.Contradictory held is
both judged.TooMany held is = safe-held judged.TooMany held is

-- ---- the verdict

first_said : (a b : Bool) → (if a then verdict.Unsafe else if b then verdict.Safe else verdict.NothingJudged) ≡ verdict.Unsafe
    → a ≡ true
first_said true b is = refl
first_said false true is = absurd (cc is)
first_said false false is = absurd (cc is)

second_said : (a b : Bool) → (if a then verdict.Unsafe else if b then verdict.Safe else verdict.NothingJudged) ≡ verdict.Safe
    → b ≡ true
second_said true b is = absurd (cc is)
second_said false true is = refl
second_said false false is = absurd (cc is)

charged-by : (at : Side) (past : List Line) (report : Report) (is : IsReport at past report)
    (one : Passes is_unsafe past is.seen (files_in (events is.seen)))
    → (is_unsafe one.found.judged_is.believed ≡ true) ⊎ (is_unsafe one.found.judged_is.held ≡ true)
    → (file : ℕ) × (chains : List Chain) × (position : ℕ)
    × (HasChains chains_on at past file chains ⊎ HasChains tables_on at past file chains) × IsUnsafe chains position
charged-by at past report is one (inl believed) =
    let by = one.found.judged_is in
    let charged = charge (moments past) one.found.chains by.cached by.believed believed by.by-clients in (
      one.file,
      one.found.chains,
      charged.0,
      inl (record { seen = is.seen; unread = is.unread; shows = is.shows; among = one.among; are = one.found.shows }),
      charged.1,
    )
charged-by at past report is one (inr held) =
    let by = one.found.judged_is in
    let charged = charge (moments past) one.found.tables by.granted by.held held by.by-server in (
      one.file,
      one.found.tables,
      charged.0,
      inr (record { seen = is.seen; unread = is.unread; shows = is.shows; among = one.among; are = one.found.holds }),
      charged.1,
    )

pub unsafe_of_a_file : UnsafeIsOfAFile
unsafe_of_a_file at past report is said =
    let some = first_said (list_any (λ one. is_unsafe one.judged) report.files.items)
    (list_any (λ one. is_safe one.judged) report.files.items) said in
    let one = passes is_unsafe past is.seen (files_in (events is.seen)) report.files.items is.files some in
    let by = one.found.judged_is in
    charged-by at past report is one (either by.believed by.held (sym (ap is_unsafe by.decided-is) ∙ one.passed))

pub safe_of_a_file : SafeIsOfAFile
safe_of_a_file at past report is said =
    let some = second_said (list_any (λ one. is_unsafe one.judged) report.files.items)
    (list_any (λ one. is_safe one.judged) report.files.items) said in
    let one = passes is_safe past is.seen (files_in (events is.seen)) report.files.items is.files some in
    let by = one.found.judged_is in
    let safe = both by.believed by.held (sym (ap is_safe by.decided-is) ∙ one.passed) in
    let cached = cleared (moments past) one.found.chains by.cached by.believed safe.0 by.by-clients in
    let granted = cleared (moments past) one.found.tables by.granted by.held safe.1 by.by-server in (
      one.file,
      one.found.chains,
      one.found.tables,
      record { seen = is.seen; unread = is.unread; shows = is.shows; among = one.among; are = one.found.shows },
      record { seen = is.seen; unread = is.unread; shows = is.shows; among = one.among; are = one.found.holds },
      cached.0,
      (cached.1, cached.2, cached.3),
      (granted.1, granted.2, granted.3),
    )
