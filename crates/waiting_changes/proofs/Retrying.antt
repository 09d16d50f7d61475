-- Loops over the changes that wait, and over files.
use Rattle.lease_laws.proofs.Words.{◌+◌, ◌++◌, ◌<◌, ◌∙◌, ◌∷◌, ◌≡◌, ◌≤◌, List, Option, ap, ap₂, arith, drop, false, filter}
use Rattle.lease_laws.proofs.Words.{get_or, length}
use Rattle.lease_laws.proofs.Words.{list_any, map, map-append, subst, suc, sym, true, without, ℕ}
use Rattle.std.proofs.Math.Seq.{drop-cons}
use Rattle.std.proofs.lemmas.List.{drop_all}
use Rattle.lease_manager.specs.GivingUp.{extent_of}
use Rattle.lease_manager.specs.Outs.{IsAfter, decision_of, decisions, handling_of}
use Rattle.lease_manager.specs.Queues.{file_numbers}
use Rattle.lease_manager.specs.Table.{Table, manager_of, server_of}
use Rattle.lease_manager.specs.declared.values.decision.Decision.{Decision}
use Rattle.lease_manager.specs.declared.values.number.FileNo.{FileNo}
use Rattle.manager_model.specs.Handling.{Handling, give_up}
use Rattle.waiting_changes.specs.Changes.{Going, asked_for, asked_for_all, freed_on, goes, goes_on, going_of, going_with}
use Rattle.waiting_changes.specs.Changes.{closes_another}
use Rattle.waiting_changes.specs.Changes.{is_on, own_of, tried_after, tried_on, tried_on_all}
use Rattle.waiting_changes.specs.declared.change.Change.{Change}

-- ---- over changes

pub given_up : (before after : Table) (had told now : List Decision) (one : Change)
    → IsAfter after told (give_up (manager_of before) (own_of one) one.file.0 (extent_of one.extent)) → now ≡ had ++ told
    → handling_of after (decisions now) ≡ asked_for one (handling_of before (decisions had))
given_up before after had told now one is more = ap₂ (λ m t. record { manager = m; told = t }) is.manager
    (ap decisions more ∙ (map-append decision_of had told ∙ ap (λ t. decisions had ++ t) is.told))

next_of : (changes : List Change) (i : ℕ) (other : Change) → i < length changes
    → drop i changes ≡ get_or changes i other ∷ drop (i + 1) changes
next_of changes i other inside =
    let e : suc i ≡ i + 1 = omega arith in
    drop-cons changes i other inside ∙ ap (λ n. get_or changes i other ∷ drop n changes) e

pub next_asked : (changes : List Change) (i file : ℕ) (other : Change) (now after whole : Handling) → i < length changes
    → is_on file (get_or changes i other) ≡ true → after ≡ asked_for (get_or changes i other) now
    → asked_for_all (filter (is_on file) (drop i changes)) now ≡ whole
    → asked_for_all (filter (is_on file) (drop (i + 1) changes)) after ≡ whole
unfolding asked_for_all
next_asked changes i file other now after whole inside on asked so_on =
    ap (asked_for_all (filter (is_on file) (drop (i + 1) changes))) asked
    ∙ (rw on at (rw (next_of changes i other inside) at so_on))

pub next_passed : (changes : List Change) (i file : ℕ) (other : Change) (now whole : Handling) → i < length changes
    → is_on file (get_or changes i other) ≡ false
    → asked_for_all (filter (is_on file) (drop i changes)) now ≡ whole
    → asked_for_all (filter (is_on file) (drop (i + 1) changes)) now ≡ whole
unfolding asked_for_all
next_passed changes i file other now whole inside off so_on =
    rw off at (rw (next_of changes i other inside) at so_on)

pub none_left : (changes : List Change) (i file : ℕ) (now whole : Handling) → length changes ≤ i
    → asked_for_all (filter (is_on file) (drop i changes)) now ≡ whole → now ≡ whole
unfolding asked_for_all
none_left changes i file now whole over so_on = rw (drop_all i changes over) at so_on

-- ---- a try, and a change that is asked for

pub tried : (file : ℕ) (waiting left : List Change) (before after : Table) (had asked told : List Decision)
    → handling_of after (decisions asked)
    ≡ asked_for_all (filter (is_on file) waiting) (handling_of before (decisions had))
    → decisions told ≡ decisions asked ++ map goes_on (filter (goes file (server_of after)) waiting)
    → left ≡ without (goes file (server_of after)) waiting
    → going_of left after told ≡ tried_on file (going_of waiting before had)
tried file waiting left before after had asked told same is less =
    ap₂ (λ w t. record { manager = manager_of after; waiting = w; told = t }) less is
    ∙ ap (λ h. freed_on file (going_with waiting h)) same

pub after_of : (waiting : List Change) (table : Table) (given : List Decision) (now : Handling) → IsAfter table given now
    → going_of waiting table given ≡ going_with waiting now
after_of waiting table given now is =
    ap₂ (λ m t. record { manager = m; waiting = waiting; told = t }) is.manager is.told

pub where_closed : (own : Option (ℕ × ℕ)) (files about : List ℕ) (before after : Going)
    → list_any (closes_another own) before.told ≡ true → files ≡ map (λ one. one.file.0) before.waiting
    → after ≡ tried_on_all files before → after ≡ tried_after own about before
where_closed own files about before after closed are is =
    rw closed (subst (λ fs. after ≡ tried_on_all fs before) are is)

pub where_none_closed : (own : Option (ℕ × ℕ)) (about : List ℕ) (before after : Going)
    → list_any (closes_another own) before.told ≡ false → after ≡ tried_on_all about before → after ≡ tried_after own about before
where_none_closed own about before after none is = rw none is

-- ---- over files

pub next_file : (files : List FileNo) (i : ℕ) (file other : FileNo) (now after whole : Going) → i < length files
    → file ≡ get_or files i other → after ≡ tried_on file.0 now
    → tried_on_all (file_numbers (drop i files)) now ≡ whole → tried_on_all (file_numbers (drop (i + 1) files)) after ≡ whole
unfolding tried_on_all
next_file files i file other now after whole inside is tried so_on =
    let e : suc i ≡ i + 1 = omega arith in
    let rest : drop i files ≡ file ∷ drop (i + 1) files =
    drop-cons files i other inside ∙ (ap (λ x. x ∷ drop (suc i) files) (sym is) ∙ ap (λ n. file ∷ drop n files) e) in
    ap (tried_on_all (file_numbers (drop (i + 1) files))) tried
    ∙ (ap (λ (fs : List FileNo). tried_on_all (file_numbers fs) now) (sym rest) ∙ so_on)

pub no_more_files : (files : List FileNo) (i : ℕ) (now whole : Going) → length files ≤ i
    → tried_on_all (file_numbers (drop i files)) now ≡ whole → now ≡ whole
unfolding tried_on_all
no_more_files files i now whole over so_on =
    sym (ap (λ (fs : List FileNo). tried_on_all (file_numbers fs) now) (drop_all i files over)) ∙ so_on
