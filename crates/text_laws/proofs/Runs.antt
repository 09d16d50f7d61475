-- The record of a run can be written as lines, and is read back as a record that is safe.
use Rattle.lease_laws.proofs.Words.{◌&&◌, ◌++◌, ◌+◌, ◌<◌, ◌∙◌, ◌∷◌, ◌≡◌, Bool, EachFact, Event, List, Ok, Safe, Setup, State}
use Rattle.lease_laws.proofs.Words.{Verdict, WellFormed, ℕ, [], after, ap, append-nil, arith, codes, decimal, first_world_under}
use Rattle.lease_laws.proofs.Words.{has_joined, is_allowed_setup, is_content, is_started, is_well_formed, length, list_all, map}
use Rattle.lease_laws.proofs.Words.{nat_le, nat_tests, refl, reverse-reverse, subst, sym, true, verdict, Rules}
use Rattle.lease_state.specs.State.{bits_of_state, state_of, state_of_bits}
use Rattle.lease_state.specs.declared.{state.LeaseState.LeaseState, rules.Order.Order, rules.Rise.Rise}
use Rattle.lease_facts.specs.{Facts.client_about, Facts.fact_of, declared.fact.Fact.Fact}
use Rattle.lease_texts.specs.{Requests.spaced, Lines.line_text, Pieces.pieces, Pieces.longer, Pieces.lines_of, Reading.reads_on}
use Rattle.lease_texts.specs.{Remarks.rules_remark, Remarks.safe_end, Laws.CanBeTold, Tables.Each, Words.state_word}
use Rattle.lease_texts.specs.Records.{fact_line, with_line, record_text, record_in}
use Rattle.text_laws.specs.Runs.{IsTyped, AreOfRun, RunsAreReadBack, RunsAreJudgedSafe, ReplaysAreJudgedSafe}
use Rattle.text_laws.proofs.Joined.{is_joined, Joined, run_joined}
use Rattle.text_laws.proofs.Named.{all_reversed, is_named, is_numbered, run_named}
use Rattle.lease_coherence.proofs.wellformed.WellFormed.{runs_are_well_formed}
use Rattle.{lease_laws.proofs.records.VerdictLemmas.safe-verdict, lease_texts.proofs.Texts.records_go_on}
use Rattle.{lease_model.specs.world.Events.recorded_under, lease_coherence.specs.Parts.EveryRunIsSafe}
use Rattle.lease_model.specs.records.Facts as model

-- ---- clients and files of a run's facts are numbered from 1

is_placed : model.Fact → Bool
is_placed (model.Fact.Start file bytes) = nat_le 1 file && is_content bytes
is_placed (model.Fact.Expired client file) = nat_le 1 client && nat_le 1 file
is_placed (model.Fact.Opened file client) = nat_le 1 file && nat_le 1 client
is_placed (model.Fact.Changed file client number patch) = nat_le 1 file && nat_le 1 client
is_placed (model.Fact.Wrote client file number patch buffered) = nat_le 1 client && nat_le 1 file
is_placed (model.Fact.Believes client file state) = nat_le 1 client && nat_le 1 file
is_placed (model.Fact.CachedRead client file bytes) = nat_le 1 client && nat_le 1 file
is_placed other = is_numbered (client_about other)

started_placed : (file : ℕ) (past : List model.Fact) → list_all is_named past ≡ true → is_started file past ≡ true
    → nat_le 1 file ≡ true
unfolding is_started is_named
started_placed file [] named started = grind arith
started_placed file (one ∷ past) named started =
    let before = started_placed file past in grind (arith, nat_tests, named, started)

joined_placed : (client : ℕ) (past : List model.Fact) → list_all is_named past ≡ true → has_joined client past ≡ true
    → nat_le 1 client ≡ true
unfolding has_joined is_named
joined_placed client [] named came = grind arith
joined_placed client (one ∷ past) named came =
    let before = joined_placed client past in grind (arith, nat_tests, named, came)

placed : (one : model.Fact) (past : List model.Fact) → is_named one ≡ true → list_all is_named past ≡ true
    → Joined one past → WellFormed one past → is_placed one ≡ true
unfolding is_named is_joined is_well_formed is_placed
placed one past own named came well = grind (arith, started_placed, joined_placed)

all_placed : (past : List model.Fact) → list_all is_named past ≡ true → EachFact Joined past → EachFact WellFormed past
    → list_all is_placed past ≡ true
all_placed [] named came well = refl
all_placed (one ∷ past) named came well =
    let first = placed one past (grind (arith, named)) (grind (arith, named)) came.0 well.0 in
    let others = all_placed past (grind (arith, named)) came.1 well.1 in grind (arith, first, others)

run_placed : (rules : Rules) (setup : Setup) (events : List Event) → is_allowed_setup setup ≡ true
    → list_all is_placed (recorded_under rules setup events) ≡ true
run_placed rules setup events allowed =
    let past = (after (first_world_under rules setup) events).past in
    let well = subst (EachFact WellFormed) (reverse-reverse past) (runs_are_well_formed rules setup events allowed) in
    all_reversed is_placed past []
    (all_placed past (run_named rules setup events allowed) (run_joined rules setup events allowed) well) refl

-- ---- so they can be told

-- A line tells no bits of a state but those with a letter.
abbrev lettered : LeaseState → LeaseState
lettered state = record { 0 = bits_of_state (state_of state) }

abbrev pub as_lettered : Fact → Fact
as_lettered (Fact.Believes client file state) = Fact.Believes client file (lettered state)
as_lettered other = other

few_letters : (s : State) → bits_of_state s < 8
few_letters s = grind arith

can_be_told : (told : Fact) → is_placed (fact_of told) ≡ true → IsTyped told → CanBeTold (as_lettered told)
unfolding is_placed
can_be_told (Fact.Believes client file state) is typed =
    let few = few_letters (state_of state) in grind (arith, nat_tests)
can_be_told told is typed = grind (arith, nat_tests)

all_can : (facts : List Fact) → list_all is_placed (map fact_of facts) ≡ true → Each IsTyped facts
    → Each CanBeTold (map as_lettered facts)
all_can [] all typed = tt
all_can (told ∷ facts) all typed =
    (can_be_told told (grind (arith, all)) typed.0, all_can facts (grind (arith, all)) typed.1)

pub run_can : (rules : Rules) (setup : Setup) (events : List Event) (facts : List Fact) → AreOfRun rules setup events facts
    → Each CanBeTold (map as_lettered facts)
run_can rules setup events facts of =
    all_can facts (ap (λ (all : List model.Fact). list_all is_placed all) of.are_recorded ∙ run_placed rules setup events of.is_allowed)
    of.are_typed

-- ---- and what is read has the same states, and the same lines

letters_same : (s : State) → state_of_bits (bits_of_state s) ≡ s
letters_same s = grind arith

same_fact : (told : Fact) → fact_of (as_lettered told) ≡ fact_of told
same_fact (Fact.Believes client file state) =
    ap (λ (same : State). model.Fact.Believes client.0 file.0 same) (letters_same (state_of state))
same_fact told = refl

pub same_facts : (facts : List Fact) → map fact_of (map as_lettered facts) ≡ map fact_of facts
same_facts [] = refl
same_facts (told ∷ facts) = rw (same_fact told, same_facts facts) refl

pub same_line : (told : Fact) → fact_line (as_lettered told) ≡ fact_line told
unfolding line_text
same_line (Fact.Believes client file state) =
    ap (λ (same : State). codes "believes" ++ spaced (decimal client.0 ∷ decimal file.0 ∷ state_word same ∷ []) ++ 10 ∷ [])
    (letters_same (state_of state))
same_line told = refl

same_text : (facts : List Fact) → record_text (map as_lettered facts) ≡ record_text facts
same_text [] = refl
same_text (told ∷ facts) = ap (λ (line : List ℕ). line ++ record_text (map as_lettered facts)) (same_line told)
    ∙ ap (λ (text : List ℕ). fact_line told ++ text) (same_text facts)

-- ---- the laws

-- the record of a run is read with what stands behind it
run_read : (rules : Rules) (setup : Setup) (events : List Event) (facts : List Fact) → AreOfRun rules setup events facts → (rest : List ℕ)
    → record_in (record_text facts ++ rest)
    ≡ reads_on with_line (1 + length (map as_lettered facts)) (map as_lettered facts) (lines_of rest)
run_read rules setup events facts of rest =
    ap (λ (text : List ℕ). record_in (text ++ rest)) (sym (same_text facts))
    ∙ records_go_on [] (map as_lettered facts) (run_can rules setup events facts of) 1 rest

pub runs_back : RunsAreReadBack
unfolding reads_on pieces
runs_back rules setup events facts of = (
  map as_lettered facts,
  ap (λ (text : List ℕ). record_in text) (sym (append-nil (record_text facts))) ∙ run_read rules setup events facts of [],
  same_facts facts ∙ of.are_recorded,
)

pub safe_record : (rules : Rules) (setup : Setup) (events : List Event) (facts : List Fact) → AreOfRun rules setup events facts
    → (Safe (recorded_under rules setup events)) → Verdict.Safe ≡ verdict (map fact_of (map as_lettered facts))
safe_record rules setup events facts of safe = sym (ap (λ (all : List model.Fact). verdict all) (same_facts facts ∙ of.are_recorded)
    ∙ safe-verdict (recorded_under rules setup events) safe)

pub runs_safe : EveryRunIsSafe → RunsAreJudgedSafe
unfolding runs_back
runs_safe safe rules setup events facts of =
    let back = runs_back rules setup events facts of in (
      map as_lettered facts,
      back.1,
      safe_record rules setup events facts of (safe rules setup events of.is_allowed),
    )

-- what stands behind a record is passed over
passed_over : (by : Order) (how : Rise) (number : ℕ) (facts : List Fact)
    → reads_on with_line number facts (lines_of (rules_remark by how ++ (codes "# safe" ++ 10 ∷ []))) ≡ Ok facts
unfolding reads_on pieces longer with_line line_text
passed_over Order.ByClient Rise.AsFree number facts = refl
passed_over Order.ByClient Rise.Whole number facts = refl
passed_over Order.ByKey Rise.AsFree number facts = refl
passed_over Order.ByKey Rise.Whole number facts = refl

pub replays_safe : EveryRunIsSafe → ReplaysAreJudgedSafe
replays_safe safe rules setup events facts of = (
  map as_lettered facts,
  run_read rules setup events facts of (safe_end rules)
      ∙ passed_over rules.order rules.rise (1 + length (map as_lettered facts)) (map as_lettered facts),
  safe_record rules setup events facts of (safe rules setup events of.is_allowed),
)
