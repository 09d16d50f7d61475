-- What is left once wants are met and none of their leases is breaking: no open passes the test any more.
use Rattle.lease_laws.proofs.Words.{◌&&◌, ◌==◌, ◌∙◌, ◌∷◌, ◌≡◌, Among, Bool, Key, List, Open, Progress, Some, State, Want, ℕ, []}
use Rattle.lease_laws.proofs.Words.{ap, connected_open, filter, find, has_key, if◌then◌else◌}
use Rattle.lease_laws.proofs.Words.{is_left_open, lease_broken, not, opens_dropped, refl}
use Rattle.lease_laws.proofs.Words.{subst, true, want_met, wants_met}
use Rattle.lease_laws.proofs.server.Lists.{if_cases, clash, and_parts, not_parts, not_true, among_filter}
use Rattle.lease_laws.proofs.server.cases.Tries.{any_break, any_wants}

-- opens are only dropped
pub lease_broken-opens : (key : Key) (lowered : State) (progress : Progress)
    → (lease_broken key lowered progress).server.opens ≡ progress.server.opens
lease_broken-opens key lowered progress =
    any_break key lowered progress (λ after. after.server.opens ≡ progress.server.opens)
    (record { stays = λ not. refl; begins = λ whole needs. refl; lowers = λ whole light. refl })

-- the opens that are left
dropped-opens : (test : Open → Bool) (progress : Progress)
    → (opens_dropped test progress).server.opens ≡ filter (λ one. not (test one)) progress.server.opens
dropped-opens test progress = refl

-- the opens that are left once a want is met
want_met-opens : (want : Want) (progress : Progress)
    → (want_met want progress).server.opens ≡ filter (λ one. not (is_left_open want.key one)) progress.server.opens
want_met-opens want progress = lease_broken-opens want.key want.lowered (opens_dropped (is_left_open want.key) progress)
    ∙ dropped-opens (is_left_open want.key) progress

-- an open that is there once wants are met was there before
pub wants_met-were : (wants : List Want) (progress : Progress) (one : Open)
    → Among one (wants_met wants progress).server.opens → Among one progress.server.opens
wants_met-were wants progress one =
    any_wants (λ wants progress after. Among one after.server.opens → Among one progress.server.opens) (λ progress a. a)
    (λ want wants progress after rest a. (among_filter (λ x. not (is_left_open want.key x)) one progress.server.opens
    (subst (λ opens. Among one opens) (want_met-opens want progress) (rest a))).0) wants progress

-- what is found is still found where all that pass are kept
pub find_kept : {X : Type 0} (test keep : X → Bool) (xs : List X) → ((x : X) → test x ≡ true → keep x ≡ true)
    → find test (filter keep xs) ≡ find test xs
find_kept test keep [] safe = refl
find_kept test keep (x ∷ xs) safe =
    let later = find_kept test keep xs safe in
    if_cases (λ l. find test l ≡ find test (x ∷ xs)) (keep x) (x ∷ filter keep xs) (filter keep xs)
    (λ e. ap (λ o. if test x then Some x else o) later)
    (λ e. later ∙ if_cases (λ o. find test xs ≡ o) (test x) (Some x) (find test xs)
    (λ t. clash (keep x) (safe x t) e) (λ t. refl))

-- a connected open stays while a want is met
want_met-found : (want : Want) (progress : Progress) (client file_id : ℕ)
    → connected_open (want_met want progress).server client file_id ≡ connected_open progress.server client file_id
want_met-found want progress client file_id =
    ap (λ opens. find (λ one. one.file_id == file_id && one.client == client && one.connected) opens)
    (want_met-opens want progress) ∙ find_kept (λ one. one.file_id == file_id && one.client == client && one.connected)
    (λ one. not (is_left_open want.key one)) progress.server.opens
    (λ one t. let up = (and_parts (one.file_id == file_id && one.client == client) one.connected t).1 in
    ap not (not_true (is_left_open want.key one) (λ left. clash one.connected up (not_parts one.connected
    (and_parts (has_key want.key one) (not one.connected) left).1))))

-- a connected open stays while wants are met
pub wants_met-found : (wants : List Want) (progress : Progress) (client file_id : ℕ)
    → connected_open (wants_met wants progress).server client file_id ≡ connected_open progress.server client file_id
wants_met-found wants progress client file_id = any_wants
    (λ wants progress after. connected_open after.server client file_id ≡ connected_open progress.server client file_id)
    (λ progress. refl)
    (λ want wants progress after rest. rest ∙ want_met-found want progress client file_id) wants progress
