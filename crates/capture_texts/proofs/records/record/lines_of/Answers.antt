use Rattle.std.proofs.Common.{◌≡◌, ◌++◌, ◌-◌, [], List, ℕ, sym, ap, ◌∙◌, subst, length, arith}
use Rattle.std.proofs.lemmas.List.{append_assoc}
use Rattle.std.specs.List.{AllZip}
use Rattle.std.specs.Vec.{vec_len}
use Rattle.capture_texts.specs.records.Casts.{recorded, clients_of, IsAt}
use Rattle.capture_texts.specs.records.Changes.{changes_of}
use Rattle.capture_texts.specs.records.Records.{Told, facts_in, starts, joins, beliefs, tells}
use Rattle.capture_texts.specs.records.Records.{starts_told, joins_told, left_told, beliefs_told}
use Rattle.capture_texts.specs.records.Remarks.{wanted}
use Rattle.capture_texts.specs.declared.records.change.Change.{Change}
use Rattle.capture_texts.specs.declared.records.record.RecordLine.{RecordLine}
use Rattle.capture_texts.proofs.Changing.{same-length}
use Rattle.capture_texts.proofs.records.record.lines_of.Goals as goal

-- what is added one after the other
added : (none starts joins left beliefs one two three four : List Told) → none ≡ [] → one ≡ none ++ starts → two ≡ one ++ joins
    → three ≡ two ++ left → four ≡ three ++ beliefs → four ≡ starts ++ (joins ++ (left ++ beliefs))
added none starts joins left beliefs one two three four empty first second third fourth =
    fourth ∙ (ap (λ told. told ++ beliefs) (third ∙ ap (λ told. told ++ left) (second ∙ ap (λ told. told ++ joins) (first
    ∙ ap (λ told. told ++ starts) empty)))
    ∙ (append_assoc (starts ++ joins) left beliefs ∙ append_assoc starts joins (left ++ beliefs)))

pub returns-clause-record : goal.returns-clause-record
returns-clause-record c =
    let files = recorded c.args.files.now
    in let places = subst (λ (ps : List ℕ). AllZip (IsAt c.args.files.now) ps files) (sym c.as_slice-2.ensures.value)
    c.requires.places
    in let count = ap length c.as_slice-3.ensures.value ∙ sym (same-length c.args.files.now c.args.cast.now.findings.items files
    c.requires.places)
    in let clients = ap length (c.as_slice-4.ensures.value ∙ c.requires.clients)
    in let many : vec_len c.args.cast.now.findings ≡ length c.args.cast.now.findings.items = omega arith
    in record {
      places = c.as_slice-2.result.now;
      changes = c.in_ok-changes.changes.items;
      ordered = c.sort.new.changes.items;
      of = places;
      are = c.in_ok-changes.ensures files places ∙ ap (λ (cs : List ℕ). changes_of cs c.as_slice-2.result.now files)
          (c.as_slice.ensures.value ∙ c.requires.clients);
      in-order = c.in_ok-sort.ensures;
      told = c.in_ok-push_beliefs.ensures.facts
          ∙ (ap (λ facts. facts ++ beliefs c.as_slice-5.result.now) (c.in_ok-push_left_out.ensures.facts
          ∙ c.in_ok-push_joins.ensures.facts
          ∙ (ap (λ facts. facts ++ joins (length c.as_slice-4.result.now)) (c.in_ok-push_starts.ensures.facts
          ∙ ap (λ (lines : List RecordLine). facts_in lines ++ starts (length c.as_slice-3.result.now)) c.new-lines.ensures.items)
          ∙ (ap (λ n. starts n ++ joins (length c.as_slice-4.result.now)) count
          ∙ ap (λ n. starts (length files) ++ joins n) clients)))
          ∙ ap (λ (cs : List Change). starts (length files) ++ joins (length (clients_of files)) ++ beliefs cs)
          c.as_slice-5.ensures.value);
      remarks = added _ _ _ _ _ _ _ _ _ (ap tells c.new-lines.ensures.items) c.in_ok-push_starts.ensures.told
          c.in_ok-push_joins.ensures.told c.in_ok-push_left_out.ensures.told c.in_ok-push_beliefs.ensures.told
          ∙ (ap (λ (ps : List ℕ). starts_told c.args.files.now 0 ps ++ (joins_told c.args.files.now 0 c.as_slice-4.result.now
          ++ (left_told c.saturating_sub-left_out.result ++ beliefs_told c.args.files.now c.as_slice-5.result.now)))
          (c.as_slice-3.ensures.value ∙ sym c.as_slice-2.ensures.value)
          ∙ (ap (λ (cs : List ℕ). starts_told c.args.files.now 0 c.as_slice-2.result.now ++ (joins_told c.args.files.now 0 cs
          ++ (left_told c.saturating_sub-left_out.result ++ beliefs_told c.args.files.now c.as_slice-5.result.now)))
          (c.as_slice-4.ensures.value ∙ c.requires.clients)
          ∙ (ap (λ (n : ℕ). starts_told c.args.files.now 0 c.as_slice-2.result.now
          ++ (joins_told c.args.files.now 0 (clients_of files)
          ++ (left_told n ++ beliefs_told c.args.files.now c.as_slice-5.result.now)))
          (c.saturating_sub-left_out.ensures ∙ (ap (λ (n : ℕ). n - c.len.result) c.count_wanted.ensures
          ∙ ap (λ (n : ℕ). wanted c.args.files.now - n) (c.len.ensures ∙ (many ∙ ap length (sym c.as_slice-2.ensures.value)))))
          ∙ ap (λ (cs : List Change). starts_told c.args.files.now 0 c.as_slice-2.result.now
          ++ (joins_told c.args.files.now 0 (clients_of files)
          ++ (left_told (wanted c.args.files.now - length c.as_slice-2.result.now) ++ beliefs_told c.args.files.now cs)))
          c.as_slice-5.ensures.value)));
    }
