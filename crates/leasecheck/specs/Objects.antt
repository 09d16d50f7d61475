-- What `--json` prints: one object in a line (RFC 8259). Its tokens stand here, and what a reader finds in its text is these, by the
-- crate that writes it.
use Rattle.std.specs.Prelude.{◌++◌, ◌∷◌, [], ℕ, List, codes, map}
use Rattle.std.specs.Fmt.{decimal}
use Rattle.capture_texts.specs.declared.finding.CaptureVerdict.{CaptureVerdict}
use Rattle.capture_texts.specs.declared.finding.CaptureVerdict.TheVariants as capture
use Rattle.json.specs.Print.{print}
use Rattle.json.specs.Token.{Token, begin_array, begin_object, end_array, end_object, key, number, string}
use Rattle.lease_facts.specs.Verdicts.{rule_number}
use Rattle.lease_facts.specs.declared.verdict.Verdict.{Verdict}
use Rattle.lease_facts.specs.declared.verdict.Verdict.TheVariants as verdict

-- the word of a verdict
abbrev pub word_member : List ℕ → List Token
word_member word = key (codes "verdict") ∷ string word ∷ []

abbrev pub number_member : List ℕ → ℕ → List Token
number_member name value = key name ∷ number (decimal value) ∷ []

-- the verdict on a record
abbrev pub verdict_members : Verdict → List Token
verdict_members verdict.Safe = word_member (codes "safe")
verdict_members (verdict.Unsafe place rule) =
    word_member (codes "unsafe") ++ (number_member (codes "place") place ++ number_member (codes "rule") (rule_number rule))
verdict_members (verdict.Malformed place) = word_member (codes "malformed") ++ number_member (codes "place") place

-- the verdict on a capture
abbrev pub capture_word : CaptureVerdict → List ℕ
capture_word capture.Safe = codes "safe"
capture_word capture.Unsafe = codes "unsafe"
capture_word capture.NothingJudged = codes "nothing judged"

abbrev pub capture_members : CaptureVerdict → List Token
capture_members told = word_member (capture_word told)

-- lines, without their line feeds, as an array of strings
abbrev pub lines_member : List ℕ → List (List ℕ) → List Token
lines_member name lines =
    key name ∷ begin_array ∷ map (λ line. string line) lines ++ (end_array ∷ end_object ∷ [])

-- an object with these members, the last of which is of lines, and its line feed
abbrev pub object_text : List Token → List ℕ → List (List ℕ) → List ℕ
object_text members name lines = print ((begin_object ∷ members) ++ lines_member name lines) ++ 10 ∷ []
