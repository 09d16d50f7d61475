-- Where files are started first, a file's content is found fact by fact.
use Rattle.lease_laws.proofs.Words.{◌++◌, ◌==◌, ◌∙◌, ◌∷◌, ◌≡◌, Among, ContentNow, ContentWhenSent, Fact, List, Patch, ℕ, ⊎_elim}
use Rattle.lease_laws.proofs.Words.{[], ap, changes_of, content_at, content_of, false, is_start, list_all, patches, refl}
use Rattle.lease_laws.proofs.Words.{sendings, start_of, starts_first, subst, sym, true}
use Rattle.lease_state.specs.Content.{patch as patched}
use Rattle.lease_laws.proofs.server.Lists.{if_cases, either, clash, among_append}

-- a last patch is put into what the others give
patches_more : (content : List ℕ) (before : List Patch) (patch : Patch)
    → patches content (before ++ patch ∷ []) ≡ patched (patches content before) patch
patches_more content [] patch = refl
patches_more content (first ∷ before) patch = patches_more (patched content first) before patch

-- where all facts are starts, the starts stand first
pub all_first : (past : List Fact) → list_all is_start past ≡ true → starts_first past ≡ true
unfolding starts_first
all_first [] all = refl
all_first (Fact.Start file bytes ∷ past) all = all
all_first (_ ∷ past) all = clash false all refl

-- and no file is changed
all_unchanged : (file : ℕ) (past : List Fact) → list_all is_start past ≡ true → changes_of file past ≡ []
unfolding changes_of
all_unchanged file [] all = refl
all_unchanged file (Fact.Start other bytes ∷ past) all = all_unchanged file past all
all_unchanged file (_ ∷ past) all = clash false all refl

-- and no message is sent
all_unsent : (client : ℕ) (past : List Fact) → list_all is_start past ≡ true → sendings client past ≡ []
unfolding sendings
all_unsent client [] all = refl
all_unsent client (Fact.Start other bytes ∷ past) all = all_unsent client past all
all_unsent client (_ ∷ past) all = clash false all refl

-- the content now
pub content_now : ContentNow
unfolding content_at content_of start_of changes_of starts_first
content_now file [] first = refl
content_now file (Fact.Start other bytes ∷ past) first = either (other == file)
    (λ e. rw (e, all_unchanged file past first) refl)
    (λ e. rw e (content_now file past (all_first past first)))
content_now file (Fact.Changed other client number patch ∷ past) first = either (other == file)
    (λ e. rw e (patches_more (start_of file past) (changes_of file past) patch
    ∙ ap (λ (content : List ℕ). patched content patch) (content_now file past first)))
    (λ e. rw e (content_now file past first))
content_now file (_ ∷ past) first = content_now file past first

-- the content where a message was sent
pub content_when_sent : ContentWhenSent
unfolding content_at start_of starts_first sendings
content_when_sent client file [] place first a = absurd a
content_when_sent client file (Fact.Start other bytes ∷ past) place first a =
    absurd (subst (λ (places : List (List Fact)). Among place places) (all_unsent client past first) a)
content_when_sent client file (Fact.Joined other ∷ past) place first a =
    if_cases (λ (places : List (List Fact)). Among place places → content_at file past place ≡ content_of file place)
    (other == client) [] (sendings client past)
    (λ e b. absurd b) (λ e b. content_when_sent client file past place first b) a
content_when_sent client file (Fact.Sent other ∷ past) place first a =
    if_cases (λ (places : List (List Fact)). Among place places → content_at file past place ≡ content_of file place)
    (other == client) (sendings client past ++ past ∷ []) (sendings client past)
    (λ e b. ⊎_elim
    (λ before. content_when_sent client file past place first before)
    (λ last. ⊎_elim
    (λ same. subst (λ (p : List Fact). content_at file past p ≡ content_of file p) (sym same) (content_now file past first))
    (λ never. absurd never) last) (among_append place (sendings client past) (past ∷ []) b))
    (λ e b. content_when_sent client file past place first b) a
content_when_sent client file (_ ∷ past) place first a = content_when_sent client file past place first a
