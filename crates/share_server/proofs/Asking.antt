-- The request asked last, and the others.
use Rattle.lease_laws.proofs.Words.{◌==◌, ◌∙◌, ◌≡◌, ◌≢◌, Decides-eqb, FileRequest, List, Some, ℕ, ap, false, fun_ext, put, refl, true}
use Rattle.lease_laws.proofs.server.Lists.{either}
use Rattle.share_server.specs.Requests.{file_request_of, with_last}
use Rattle.share_server.specs.Table.{no_request, requests_in}
use Rattle.share_server.specs.declared.values.request.FileRequest as code

pub filed : (before after : List (ℕ × FileRequest)) (tag : ℕ) (request : code.FileRequest)
    → requests_in after ≡ put (requests_in before) tag (file_request_of request)
    → requests_in after ≡ requests_in (with_last (Some (tag, request)) before)
unfolding put
filed before after tag request is = is

pub other_number : (n m : ℕ) → n ≢ m → (n == m) ≡ false
other_number n m apart = either (n == m) (λ its. absurd (apart ((Decides-eqb n m).0 its))) (λ off. off)

pub asked_last : (before : List (ℕ × FileRequest)) (tag : ℕ) (request : code.FileRequest)
    → requests_in (with_last (Some (tag, request)) before) ≡ put (requests_in before) tag (file_request_of request)
unfolding put
asked_last before tag request = refl

pub last_taken : (before after : List (ℕ × FileRequest)) (last tag : ℕ) (request : code.FileRequest) → (last == tag) ≡ true
    → requests_in after ≡ put (requests_in before) tag no_request
    → requests_in after ≡ put (requests_in (with_last (Some (last, request)) before)) tag no_request
unfolding put
last_taken before after last tag request its is = fun_ext (λ n. ap (λ (r : ℕ → FileRequest). r n) is
    ∙ either (n == tag) (λ t. rw (t) refl)
    (λ f. let off = ap (λ m. n == m) ((Decides-eqb last tag).0 its) ∙ f in rw (f, off) refl))

pub last_stays : (before after : List (ℕ × FileRequest)) (last tag : ℕ) (request : code.FileRequest) → (last == tag) ≡ false
    → requests_in after ≡ put (requests_in before) tag no_request
    → requests_in (with_last (Some (last, request)) after)
    ≡ put (requests_in (with_last (Some (last, request)) before)) tag no_request
unfolding put
last_stays before after last tag request off is = fun_ext (λ n. either (n == last)
    (λ t. let apart = ap (λ m. m == tag) ((Decides-eqb n last).0 t) ∙ off in rw (t, apart) refl)
    (λ f. rw (f) (ap (λ (r : ℕ → FileRequest). r n) is)))
