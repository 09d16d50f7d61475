-- The small steps of a call, with and without bytes.
use Rattle.lease_laws.proofs.Words.{◌++◌, ◌==◌, ◌∙◌, ◌∷◌, ◌≡◌, Bool, FileRequest, Held, Key, List, Open, Out, Progress, Reply}
use Rattle.lease_laws.proofs.Words.{Server, State, Status, ℕ, [], ap, break_begun, false, filter, fun_ext, held_left}
use Rattle.lease_laws.proofs.Words.{if◌then◌else◌}
use Rattle.lease_laws.proofs.Words.{is_behind, lease_lowered, list_any, map, map-append, opens_dropped, put, refl, refusal_of}
use Rattle.lease_laws.proofs.Words.{begun, not}
use Rattle.lease_laws.proofs.Words.{refused, replied, request_held, sym, true, waits_behind, ◌||◌, has_marked, unmarked, without}
use Rattle.lease_model.specs.server.Progress.{stepped}
use Rattle.lease_state.specs.declared.rules.Rules.{Rules}
use Rattle.manager_model.specs.Bare.{bare, bare_held, bare_out, bare_progress, bare_reply, bare_request}

-- ---- lists and tables

pub map_put : {X Y : Type 0} (f : X → Y) (table : ℕ → X) (place : ℕ) (new : X)
    → put (λ n. f (table n)) place (f new) ≡ (λ n. f (put table place new n))
unfolding put
map_put f table place new = fun_ext (λ n. chosen f (n == place) new (table n))
  where
    chosen : {X Y : Type 0} (f : X → Y) (b : Bool) (x y : X) → (if b then f x else f y) ≡ f (if b then x else y)
    chosen f true x y = refl
    chosen f false x y = refl

-- to choose by a test after each was done, or before
pub choose_so : {X Y : Type 0} (f : X → Y) (b : Bool) (x y : X) (u v : Y) → u ≡ f x → v ≡ f y
    → (if b then u else v) ≡ f (if b then x else y)
choose_so f true x y u v e g = e
choose_so f false x y u v e g = g

pub any_map : {X Y : Type 0} (test : Y → Bool) (f : X → Y) (xs : List X)
    → list_any test (map f xs) ≡ list_any (λ x. test (f x)) xs
any_map test f [] = refl
any_map test f (x ∷ xs) = ap (λ b. test (f x) || b) (any_map test f xs)

pub filter_map : {X Y : Type 0} (test : Y → Bool) (f : X → Y) (xs : List X)
    → filter test (map f xs) ≡ map f (filter (λ x. test (f x)) xs)
filter_map test f [] = refl
filter_map {X} {Y} test f (x ∷ xs) = chosen (test (f x)) (filter_map test f xs)
  where
    chosen : (b : Bool) → filter test (map f xs) ≡ map f (filter (λ x. test (f x)) xs)
        → (if b then f x ∷ filter test (map f xs) else filter test (map f xs))
        ≡ map f (if b then x ∷ filter (λ x. test (f x)) xs else filter (λ x. test (f x)) xs)
    chosen true same = ap (λ l. f x ∷ l) same
    chosen false same = same

-- ---- marks

pub marked_map : {X Y : Type 0} (marks : List Bool) (f : X → Y) (xs : List X) → has_marked marks (map f xs) ≡ has_marked marks xs
marked_map [] f xs = refl
marked_map (mark ∷ marks) f [] = refl
marked_map (mark ∷ marks) f (x ∷ xs) = ap (λ b. mark || b) (marked_map marks f xs)

pub unmarked_map : {X Y : Type 0} (marks : List Bool) (f : X → Y) (xs : List X)
    → unmarked marks (map f xs) ≡ map f (unmarked marks xs)
unmarked_map [] f xs = refl
unmarked_map (mark ∷ marks) f [] = refl
unmarked_map (mark ∷ marks) f (x ∷ xs) = choose_so (map f) mark (unmarked marks xs) (x ∷ unmarked marks xs) _ _
    (unmarked_map marks f xs) (ap (λ l. f x ∷ l) (unmarked_map marks f xs))

-- where the marks are those that a test makes
pub marks_find : {X : Type 0} (test : X → Bool) (xs : List X) → has_marked (map test xs) xs ≡ list_any test xs
marks_find test [] = refl
marks_find test (x ∷ xs) = ap (λ b. test x || b) (marks_find test xs)

pub marks_leave : {X : Type 0} (test : X → Bool) (xs : List X) → unmarked (map test xs) xs ≡ without test xs
marks_leave test [] = refl
marks_leave {X} test (x ∷ xs) = chosen (test x) (marks_leave test xs)
  where
    chosen : (b : Bool) → unmarked (map test xs) xs ≡ without test xs
        → (if b then unmarked (map test xs) xs else x ∷ unmarked (map test xs) xs)
        ≡ (if not b then x ∷ without test xs else without test xs)
    chosen true same = same
    chosen false same = ap (λ l. x ∷ l) same

-- ---- small steps

-- a step of a server without bytes is the step without bytes
pub stepped_so : (progress : Progress) (server : Server) (outs : List Out)
    → stepped (bare_progress progress) (bare server) (map bare_out outs) ≡ bare_progress (stepped progress server outs)
stepped_so progress server outs =
    ap (λ (o : List Out). record { server = bare server; outs = o }) (sym (map-append bare_out progress.outs outs))

pub dropped_so : (test : Open → Bool) (progress : Progress)
    → opens_dropped test (bare_progress progress) ≡ bare_progress (opens_dropped test progress)
dropped_so test progress = stepped_so progress (opens_dropped test progress).server []

pub lowered_so : (key : Key) (lowered : State) (progress : Progress)
    → lease_lowered key lowered (bare_progress progress) ≡ bare_progress (lease_lowered key lowered progress)
lowered_so key lowered progress = stepped_so progress (lease_lowered key lowered progress).server
    (lease_lowered key lowered (begun progress.server)).outs

pub begun_so : (key : Key) (lowered : State) (progress : Progress)
    → break_begun key lowered (bare_progress progress) ≡ bare_progress (break_begun key lowered progress)
begun_so key lowered progress = stepped_so progress (break_begun key lowered progress).server
    (break_begun key lowered (begun progress.server)).outs

pub replied_so : (client : ℕ) (reply : Reply) (progress : Progress)
    → replied client (bare_reply reply) (bare_progress progress) ≡ bare_progress (replied client reply progress)
replied_so client reply progress = stepped_so progress progress.server (Out.Sent client reply ∷ [])

refusal_so : (request : FileRequest) (status : Status)
    → refusal_of (bare_request request) status ≡ bare_reply (refusal_of request status)
refusal_so (FileRequest.Create file access share contexts) status = refl
refusal_so (FileRequest.Read file_id) status = refl
refusal_so (FileRequest.Write file_id number patch) status = refl
refusal_so (FileRequest.Close file_id) status = refl

pub refused_so : (client : ℕ) (request : FileRequest) (status : Status) (progress : Progress)
    → refused client (bare_request request) status (bare_progress progress)
    ≡ bare_progress (refused client request status progress)
refused_so client request status progress =
    ap (λ reply. replied client reply (bare_progress progress)) (refusal_so request status)
    ∙ replied_so client (refusal_of request status) progress

-- ---- what waits

-- the server whose requests on a file are these
put_held : Server → ℕ → List Held → Server
put_held server file held = record server { held = put server.held file held }

held_so : (server : Server) (file : ℕ) (held : List Held)
    → put (λ n. map bare_held (server.held n)) file (map bare_held held) ≡ (λ n. map bare_held (put server.held file held n))
held_so server file held = map_put (map bare_held) server.held file held

pub left_so : (file : ℕ) (left : List Held) (progress : Progress)
    → held_left file (map bare_held left) (bare_progress progress) ≡ bare_progress (held_left file left progress)
left_so file left progress =
    ap (λ (held : ℕ → List Held). stepped (bare_progress progress) (record (bare progress.server) { held = held }) [])
    (held_so progress.server file left)
    ∙ stepped_so progress (held_left file left progress).server []

pub hold_so : (file : ℕ) (one : Held) (progress : Progress)
    → request_held file (bare_held one) (bare_progress progress) ≡ bare_progress (request_held file one progress)
hold_so file one progress =
    ap (λ held. held_left file held (bare_progress progress))
    (sym (map-append bare_held (progress.server.held file) (one ∷ [])))
    ∙ left_so file (progress.server.held file ++ one ∷ []) progress

pub behind_so : (rules : Rules) (one : Held) (held : List Held)
    → is_behind rules (bare_held one) (map bare_held held) ≡ is_behind rules one held
behind_so rules one held = any_map (waits_behind rules (bare_held one)) bare_held held
