-- Records as texts: a row for each kind of fact, the line of each fact, and what a line tells.
use Rattle.std.specs.Prelude.{ℕ, ◌++◌, List, [], ◌∷◌, codes, if◌then◌else◌, Option, Some, None, Result}
use Rattle.lease_texts.specs.{Kinds.Kind, Kinds.Line, Kinds.kind, Kinds.line, Kinds.say, Lines.line_text, Lines.told_in}
use Rattle.lease_texts.specs.{Pieces.lines_of, Reading.reads_on, Reading.is_passed_over, declared.kinds.Field.Field}
use Rattle.{std.specs.List.flat_map, lease_facts.specs.declared.fact.Fact.Fact}

abbrev pub fact_kinds : List (Kind Fact)
fact_kinds =
    kind (codes "start") (Field.File ∷ Field.Content ∷ []) Fact.Start
    ∷ kind (codes "joined") (Field.Client ∷ []) Fact.Joined
    ∷ kind (codes "dropped") (Field.Client ∷ []) Fact.Dropped
    ∷ kind (codes "expired") (Field.Client ∷ Field.File ∷ []) Fact.Expired
    ∷ kind (codes "sent") (Field.Client ∷ []) Fact.Sent
    ∷ kind (codes "took") (Field.Client ∷ []) Fact.Took
    ∷ kind (codes "opened") (Field.File ∷ Field.Client ∷ []) Fact.Opened
    ∷ kind (codes "changed") (Field.File ∷ Field.Client ∷ Field.Number ∷ Field.Offset ∷ Field.Bytes ∷ [])
    (λ file client number offset bytes. Fact.Changed file client number (record { offset = offset; bytes = bytes }))
    ∷ kind (codes "wrote") (Field.Client ∷ Field.File ∷ Field.Number ∷ Field.Offset ∷ Field.Bytes ∷ Field.Way ∷ [])
    (λ client file number offset bytes buffered.
    Fact.Wrote client file number (record { offset = offset; bytes = bytes }) buffered)
    ∷ kind (codes "settled") (Field.Client ∷ Field.Number ∷ Field.Outcome ∷ []) Fact.Settled
    ∷ kind (codes "believes") (Field.Client ∷ Field.File ∷ Field.State ∷ []) Fact.Believes
    ∷ kind (codes "cachedread") (Field.Client ∷ Field.File ∷ Field.Bytes ∷ []) Fact.CachedRead
    ∷ kind (codes "strayed") (Field.Client ∷ []) Fact.Strayed
    ∷ []

abbrev pub fact_said : Fact → Line
fact_said (Fact.Start file bytes) = line (codes "start") (say Field.File file ∷ say Field.Content bytes ∷ [])
fact_said (Fact.Joined client) = line (codes "joined") (say Field.Client client ∷ [])
fact_said (Fact.Dropped client) = line (codes "dropped") (say Field.Client client ∷ [])
fact_said (Fact.Expired client file) = line (codes "expired") (say Field.Client client ∷ say Field.File file ∷ [])
fact_said (Fact.Sent client) = line (codes "sent") (say Field.Client client ∷ [])
fact_said (Fact.Took client) = line (codes "took") (say Field.Client client ∷ [])
fact_said (Fact.Opened file client) = line (codes "opened") (say Field.File file ∷ say Field.Client client ∷ [])
fact_said (Fact.Changed file client number patch) = line (codes "changed") (say Field.File file ∷ say Field.Client client
    ∷ say Field.Number number ∷ say Field.Offset patch.offset ∷ say Field.Bytes patch.bytes ∷ [])
fact_said (Fact.Wrote client file number patch buffered) = line (codes "wrote") (say Field.Client client ∷ say Field.File file
    ∷ say Field.Number number ∷ say Field.Offset patch.offset ∷ say Field.Bytes patch.bytes ∷ say Field.Way buffered ∷ [])
fact_said (Fact.Settled client number outcome) =
    line (codes "settled") (say Field.Client client ∷ say Field.Number number ∷ say Field.Outcome outcome ∷ [])
fact_said (Fact.Believes client file state) =
    line (codes "believes") (say Field.Client client ∷ say Field.File file ∷ say Field.State state ∷ [])
fact_said (Fact.CachedRead client file bytes) =
    line (codes "cachedread") (say Field.Client client ∷ say Field.File file ∷ say Field.Bytes bytes ∷ [])
fact_said (Fact.Strayed client) = line (codes "strayed") (say Field.Client client ∷ [])

-- the line of a fact, with its line feed
abbrev pub fact_line : Fact → List ℕ
fact_line told = line_text (fact_said told)

-- the text of a record
abbrev pub record_text : List Fact → List ℕ
record_text facts = flat_map fact_line facts

-- the fact that a line tells
unfoldable pub fact_in : List ℕ → Option Fact
fact_in line = told_in fact_kinds line

unfoldable pub with_fact : List Fact → Option Fact → Option (List Fact)
with_fact facts None = None
with_fact facts (Some told) = Some (facts ++ told ∷ [])

unfoldable pub with_line : List Fact → List ℕ → Option (List Fact)
with_line facts line = if is_passed_over line then Some facts else with_fact facts (fact_in line)

-- the record that a text is, or the number of its first line that is refused
abbrev pub record_in : List ℕ → Result (List Fact) ℕ
record_in text = reads_on with_line 1 [] (lines_of text)
