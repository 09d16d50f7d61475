-- What is kept of a file for a client, over facts that change the file or the client.
use Rattle.lease_laws.proofs.Words.{◌++◌, ◌∙◌, ◌∷◌, ◌≡◌, ◌≤◌, Bool, List, None, Option, Some, ℕ, [], ap, arith}
use Rattle.lease_laws.proofs.Words.{false, if◌then◌else◌, is_some, length, patches, suc, sym, unwrap_or}
use Rattle.std.proofs.lemmas.List.{take-append-le}
use Rattle.lease_world.specs.judge.Before.{before, patches_of}
use Rattle.lease_world.specs.judge.Clients.{HasCache}
use Rattle.lease_world.specs.judge.Knows.{IsBase, HasContents}
use Rattle.lease_world.specs.judge.Seen.{Change, Snapshot, SeenFile, SeenCache, Touches, cache_in}
use Rattle.lease_world.proofs.records.Contents.{before-push}

-- ---- a later place

before-longer : (place later : ℕ) (changes : List Change) → place ≤ later
    → length (before place changes) ≤ length (before later changes)
before-longer place later [] le = omega arith
before-longer place later (change ∷ changes) le = let later = before-longer place later changes le in grind arith

base-later : (file : SeenFile) (taken later : ℕ) (base : Option Snapshot) → taken ≤ later → IsBase file taken base
    → IsBase file later base
base-later file taken later None le is = tt
base-later file taken later (Some base) le is =
    let longer = before-longer taken later file.changes le in (is.0, (is.1.0, omega (arith, is.1.1, longer)))

pub contents-later : (file : SeenFile) (taken later : ℕ) (cache : SeenCache) → taken ≤ later → HasContents file taken cache
    → HasContents file later cache
contents-later file taken later cache le h = base-later file taken later cache.base le h

-- ---- a write more

-- ---- one cache of a client

pub contents-each : (files : ℕ → SeenFile) (taken file : ℕ) (old new : List SeenCache) (cache : SeenCache)
    → HasCache old new file cache
    → HasContents (files file) taken cache → ((f : ℕ) → HasContents (files f) taken (cache_in old f))
    → (f : ℕ) → HasContents (files f) taken (cache_in new f)
contents-each files taken file old new cache has here all f = grind arith

-- ---- a change more of the file

base-change : (file : SeenFile) (touches : Touches) (change : Change) (taken : ℕ) (base : Option Snapshot) → taken ≤ change.place
    → IsBase file taken base → IsBase (record file { changes = file.changes ++ change ∷ []; touches = touches }) taken base
base-change file touches change taken None le is = tt
base-change file touches change taken (Some base) le is =
    let within : base.applied ≤ length file.changes = let e = before-within taken file.changes in omega (arith, is.1.1, e) in (
      is.0,
      (
        is.1.0 ∙ ap (λ (cs : List Change). patches (unwrap_or file.start []) (patches_of cs))
            (sym (take-append-le base.applied file.changes (change ∷ []) within)),
        rw (before-push taken file.changes change le) is.1.1,
      ),
    )
  where
    shorter : (b : Bool) (x : Change) (xs : List Change) (n : ℕ) → length xs ≤ n → length (if b then x ∷ xs else []) ≤ suc n
    shorter b x xs n le = grind arith

    before-within : (place : ℕ) (changes : List Change) → length (before place changes) ≤ length changes
    before-within place [] = omega arith
    before-within place (x ∷ changes) = let later = before-within place changes in grind arith

pub contents-change : (file : SeenFile) (touches : Touches) (change : Change) (taken : ℕ) (cache : SeenCache)
    → taken ≤ change.place → HasContents file taken cache
    → HasContents (record file { changes = file.changes ++ change ∷ []; touches = touches }) taken cache
contents-change file touches change taken cache le h = base-change file touches change taken cache.base le h

-- ---- a file is started

base-none : (file : SeenFile) (bytes : List ℕ) (taken : ℕ) (base : Option Snapshot) → is_some file.start ≡ false
    → IsBase file taken base → IsBase (record file { start = Some bytes }) taken base
base-none file bytes taken base off is = grind arith

pub contents-start : (file : SeenFile) (bytes : List ℕ) (taken : ℕ) (cache : SeenCache) → is_some file.start ≡ false
    → HasContents file taken cache → HasContents (record file { start = Some bytes }) taken cache
contents-start file bytes taken cache off h = base-none file bytes taken cache.base off h
