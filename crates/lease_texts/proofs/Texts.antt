-- The text of a record and that of a schedule are read back as them.
use Rattle.std.proofs.Common.{◌++◌, ◌+◌, ◌∙◌, ◌∷◌, ◌≡◌, List, Option, Some, ℕ, [], ap, append-nil, append_assoc, arith, flat_map}
use Rattle.std.proofs.Common.{false, length, map, refl, subst, sym}
use Rattle.std.proofs.lemmas.{Grind.flat_map-append, List.Folds.flat_map-map}
use Rattle.lease_facts.specs.declared.{fact.Fact.Fact, setup.Event.Event}
use Rattle.lease_texts.specs.{Pieces.pieces, Pieces.lines_of, Reading.is_passed_over, Reading.reads_on, declared.parts.Part.Part}
use Rattle.lease_texts.specs.Records.{fact_in, fact_line, fact_said, record_in, record_text, with_fact}
use Rattle.lease_texts.specs.Schedules.{Draft, part_in, part_line, schedule_in, schedule_text, with_part}
use Rattle.lease_texts.specs.Laws.{CanBeScheduled, RecordsAreReadBack, SchedulesAreReadBack, TextsGoOn}
use Rattle.lease_texts.specs.Tables.{CanBeWritten, Each, IsReadAs}
use Rattle.lease_texts.proofs.Rows.{facts_back, parts_back}
use Rattle.lease_texts.specs.Records as records
use Rattle.lease_texts.specs.Schedules as schedules

-- ---- lines one after the other

-- each of them is added, from one state to another
abbrev Adds : {A S : Type 0} → (S → Option A → Option S) → S → List A → S → Type 0
Adds add state [] last = state ≡ last
Adds {A} {S} add state (one ∷ others) last = (next : S) × (add state (Some one) ≡ Some next) × Adds add next others last

-- a line that counts adds what it tells
abbrev Counts : {A S : Type 0} → (S → List ℕ → Option S) → (S → Option A → Option S) → (List ℕ → Option A) → Type 0
Counts {A} {S} with_line add read =
    (state : S) (line : List ℕ) → is_passed_over line ≡ false → with_line state line ≡ add state (read line)

lines_add : {A S : Type 0} (with_line : S → List ℕ → Option S) (add : S → Option A → Option S) (read : List ℕ → Option A)
    → Counts with_line add read → (text : A → List ℕ) (all : List A) → Each (λ one. IsReadAs read (text one) one) all
    → (state last : S) → Adds add state all last → (number : ℕ) (rest : List ℕ)
    → reads_on with_line number state (lines_of (flat_map text all ++ rest))
    ≡ reads_on with_line (number + length all) last (lines_of rest)
unfolding reads_on
lines_add with_line add read counts text [] each state last same number rest = grind arith
lines_add with_line add read counts text (one ∷ others) (is, each) state last (next, added, more) number rest =
    let here : with_line state is.line ≡ Some next = counts state is.line is.counts ∙ rw is.says added in
    let parts = append_assoc (text one) (flat_map text others) rest in
    let cut = is.is_line (flat_map text others ++ rest) in
    let later = lines_add with_line add read counts text others each next last more (number + 1) rest in grind arith

-- ---- records

facts_count : Counts records.with_line with_fact fact_in
unfolding records.with_line
facts_count facts line counts = rw counts refl

facts_add : (facts more : List Fact) → Adds with_fact facts more (facts ++ more)
unfolding with_fact
facts_add facts [] = sym (append-nil facts)
facts_add facts (one ∷ more) = (
  facts ++ one ∷ [],
  refl,
  subst (λ (last : List Fact). Adds with_fact (facts ++ one ∷ []) more last) (append_assoc facts (one ∷ []) more)
      (facts_add (facts ++ one ∷ []) more),
)

each_fact_back : (facts : List Fact) → Each (λ told. CanBeWritten (fact_said told)) facts
    → Each (λ told. IsReadAs fact_in (fact_line told) told) facts
each_fact_back [] can = tt
each_fact_back (told ∷ facts) (here, can) = (facts_back told here, each_fact_back facts can)

pub records_go_on : (facts more : List Fact) → Each (λ told. CanBeWritten (fact_said told)) more → (number : ℕ) (rest : List ℕ)
    → reads_on records.with_line number facts (lines_of (record_text more ++ rest))
    ≡ reads_on records.with_line (number + length more) (facts ++ more) (lines_of rest)
records_go_on facts more can number rest =
    lines_add records.with_line with_fact fact_in facts_count fact_line more (each_fact_back more can) facts (facts ++ more)
    (facts_add facts more) number rest

pub texts_go_on : TextsGoOn
texts_go_on facts rest can = records_go_on [] facts can 1 rest
    ∙ ap (λ (n : ℕ). reads_on records.with_line n facts (lines_of rest)) (omega arith)

pub records_back : RecordsAreReadBack
unfolding reads_on pieces
records_back facts can = ap (λ (text : List ℕ). record_in text) (sym (append-nil (record_text facts))) ∙ texts_go_on facts [] can

-- ---- schedules

parts_count : Counts schedules.with_line with_part part_in
unfolding schedules.with_line
parts_count draft line counts = rw counts refl

abbrev drafted : List (List ℕ) → List (List ℕ) → List Event → Draft
drafted files clients events = record { files = files; clients = clients; events = events }

adds_both : (first second : List Part) (state middle last : Draft) → Adds with_part state first middle
    → Adds with_part middle second last → Adds with_part state (first ++ second) last
adds_both [] second state middle last same more = subst (λ (s : Draft). Adds with_part s second last) (sym same) more
adds_both (one ∷ first) second state middle last (next, added, others) more =
    (next, added, adds_both first second next middle last others more)

-- what is wrapped is added to its list
list_adds : {X : Type 0} (wrap : X → Part) (draft : List X → Draft)
    → ((before : List X) (one : X) → with_part (draft before) (Some (wrap one)) ≡ Some (draft (before ++ one ∷ [])))
    → (before xs : List X) → Adds with_part (draft before) (map wrap xs) (draft (before ++ xs))
list_adds wrap draft adds before [] = ap draft (sym (append-nil before))
list_adds {X} wrap draft adds before (one ∷ xs) = (
  draft (before ++ one ∷ []),
  adds before one,
  subst (λ (all : List X). Adds with_part (draft (before ++ one ∷ [])) (map wrap xs) (draft all))
      (append_assoc before (one ∷ []) xs) (list_adds wrap draft adds (before ++ one ∷ []) xs),
)

-- the parts of a schedule
abbrev parts_of : Draft → List Part
parts_of draft = (map Part.File draft.files ++ map Part.Client draft.clients) ++ map Part.Happens draft.events

parts_add : (draft : Draft) → Adds with_part (drafted [] [] []) (parts_of draft) draft
unfolding with_part
parts_add draft =
    let files = list_adds Part.File (λ all. drafted all [] []) (λ before one. refl) [] draft.files in
    let clients = list_adds Part.Client (λ all. drafted draft.files all []) (λ before one. refl) [] draft.clients in
    let events = list_adds Part.Happens (λ all. drafted draft.files draft.clients all) (λ before one. refl) [] draft.events in
    adds_both (map Part.File draft.files ++ map Part.Client draft.clients) (map Part.Happens draft.events) _ _ draft
    (adds_both (map Part.File draft.files) (map Part.Client draft.clients) _ _ _ files clients) events

text_of_parts : (draft : Draft) → schedule_text draft ≡ flat_map part_line (parts_of draft)
text_of_parts draft = grind (arith, flat_map-append, flat_map-map)

each_back : {X : Type 0} (P : X → Type 0) (wrap : X → Part) (xs : List X) → Each P xs
    → ((x : X) → P x → IsReadAs part_in (part_line (wrap x)) (wrap x))
    → Each (λ (one : Part). IsReadAs part_in (part_line one) one) (map wrap xs)
each_back P wrap [] each back = tt
each_back P wrap (x ∷ xs) (here, each) back = (back x here, each_back P wrap xs each back)

each_join : {X : Type 0} (P : X → Type 0) (first second : List X) → Each P first → Each P second → Each P (first ++ second)
each_join P [] second each also = also
each_join P (x ∷ first) second (here, each) also = (here, each_join P first second each also)

parts_are_back : (draft : Draft) → CanBeScheduled draft
    → Each (λ (one : Part). IsReadAs part_in (part_line one) one) (parts_of draft)
parts_are_back draft can = each_join _ _ _
    (each_join _ _ _ (each_back _ Part.File draft.files can.files (λ content may. parts_back (Part.File content) may))
    (each_back _ Part.Client draft.clients can.clients (λ guid may. parts_back (Part.Client guid) may)))
    (each_back _ Part.Happens draft.events can.events (λ one may. parts_back (Part.Happens one) may))

pub schedules_back : SchedulesAreReadBack
unfolding reads_on pieces
schedules_back draft can = ap (λ (text : List ℕ). schedule_in text)
    (text_of_parts draft ∙ sym (append-nil (flat_map part_line (parts_of draft))))
    ∙ lines_add schedules.with_line with_part part_in parts_count part_line (parts_of draft) (parts_are_back draft can)
    (drafted [] [] []) draft (parts_add draft) 1 []
