-- Reasons in words: a line for each fact that a rule speaks of.
use Rattle.std.specs.Prelude.{ℕ, ◌++◌, ◌-◌, ◌==◌, List, [], ◌∷◌, codes, if◌then◌else◌, Option, Some, None, slice_get}
use Rattle.std.specs.Fmt.{decimal}
use Rattle.std.specs.List.{flat_map}
use Rattle.lease_facts.specs.declared.fact.Fact.{Fact}
use Rattle.lease_reasons.specs.declared.reason.Expected.{Expected}
use Rattle.lease_reasons.specs.declared.reason.Reason.{Reason}
use Rattle.lease_reasons.specs.declared.reason.Reason.TheVariants as reason
use Rattle.record_words.specs.words.FactWords.{fact_words, shown_bytes}
use Rattle.record_words.specs.words.Placed.{line_number}
use Rattle.record_words.specs.declared.words.placed.Placed.{Placed}

abbrev pub words_of : Option Fact → List ℕ
words_of None = []
words_of (Some fact) = fact_words fact

abbrev pub line_words : ℕ → List ℕ
line_words number = codes "line " ++ (decimal number ++ codes ": ")

abbrev pub no_message_words : ℕ → List ℕ
no_message_words client = codes "client " ++ (decimal client ++ (codes " has taken no message since it joined" ++ (10 ∷ [])))

abbrev pub fresh_reads : List ℕ
fresh_reads =
    codes "rule 2: a cached read gives the file as it stood when the message that the client took last was sent" ++ (10 ∷ [])

-- the line of the fact at a place: its number, the fact, and what it is to the rule
unfoldable pub place_line : Placed → ℕ → List ℕ → List ℕ
place_line placed place role =
    line_words (line_number placed.lines.items place)
    ++ (words_of (slice_get placed.facts.items (place - 1)) ++ (role ++ (10 ∷ [])))

abbrev pub place_line_if : Placed → Option ℕ → List ℕ → List ℕ
place_line_if placed None role = []
place_line_if placed (Some place) role = place_line placed place role

-- the line of a place that isn't told already
abbrev pub other_line : Placed → ℕ → ℕ → List ℕ → List ℕ
other_line placed told place role = if place == told then [] else place_line placed place role

abbrev pub unanswered_line : Placed → ℕ → List ℕ
unanswered_line placed place = place_line placed place (codes ", not answered before the read")

unfoldable pub waiting_lines : Placed → List ℕ → List ℕ
waiting_lines placed places = flat_map (unanswered_line placed) places

abbrev pub expected_lines : Placed → Expected → List ℕ
expected_lines placed expected =
    codes "it should read " ++ (shown_bytes expected.bytes ++ ((10 ∷ []) ++ (place_line placed expected.taken (codes
    ", its last before the read") ++ (place_line placed expected.sent (codes ", the one that it takes last") ++ (place_line_if
    placed expected.started (codes ", as it begins") ++ (place_line_if placed expected.changed (codes
    ", its last change before that message is sent") ++ waiting_lines placed expected.unanswered.items))))))

-- the lines after that of the fact itself
abbrev pub reason_lines : Placed → ℕ → Reason → List ℕ
reason_lines placed told (reason.NotStarted file) =
    codes "file " ++ (decimal file.0 ++ (codes " isn't started before that" ++ (10 ∷ [])))
reason_lines placed told (reason.StartedAgain file before) = place_line placed before (codes ", before that")
reason_lines placed told (reason.PastLimit end) =
    codes "that ends at " ++ (decimal end ++ (codes ", and a file holds at most 1048576 bytes" ++ (10 ∷ [])))
reason_lines placed told (reason.NumberUsed client number before) = place_line placed before (codes ", which has the number")
reason_lines placed told (reason.NotJoined client) =
    codes "client " ++ (decimal client.0 ++ (codes " hasn't joined before that" ++ (10 ∷ [])))
reason_lines placed told (reason.NothingToTake client joined sent) =
    place_line placed joined (codes ", for the last time before that")
    ++ (codes "messages sent to it since, all of them taken: " ++ (decimal sent ++ (10 ∷ [])))
reason_lines placed told (reason.TwoCaches file writer other) =
    other_line placed told writer.place (codes ", since here") ++ (other_line placed told other.place (codes ", since here")
    ++ (codes "rule 1: while one client may cache writes of a file, no other caches anything of it" ++ (10 ∷ [])))
reason_lines placed told (reason.NoMessage client file) = no_message_words client.0 ++ fresh_reads
reason_lines placed told (reason.StaleRead client file expected) = expected_lines placed expected ++ fresh_reads
reason_lines placed told (reason.LateWrite client file number wrote touched) =
    place_line placed wrote (codes ", the write") ++ (place_line placed touched (codes ", before that write changes it") ++
    (codes "rule 3: a buffered write changes its file before another client opens or changes it" ++ (10 ∷ [])))
reason_lines placed told (reason.FalseDone client number wrote changed) =
    place_line_if placed wrote (codes ", the write") ++ (place_line_if placed changed (codes
    ", which isn't that write after its line") ++ (codes
    "rule 4: a write is settled as done only if it changed its file" ++ (10 ∷ [])))
