-- Writes that go on, and requests that are refused, as they are told.
use Rattle.lease_laws.proofs.Words.{◌++◌, ◌==◌, ◌∙◌, ◌∷◌, ◌≡◌, Bool, List, None, Open, Option, Out, Reply, Server, Some, ℕ}
use Rattle.lease_laws.proofs.Words.{[], ap, append_assoc, arith, changed, fun_ext, is_within_limit, on_open, option_map, put}
use Rattle.lease_laws.proofs.Words.{refl, sym, true}
use Rattle.lease_laws.proofs.server.Lists.{either}
use Rattle.lease_manager.specs.Outs.{progress_of}
use Rattle.lease_manager.specs.Requests.{patch_like}
use Rattle.lease_manager.specs.Table.{Table, server_of}

limit_like : (fits : Bool) → is_within_limit (patch_like fits) ≡ fits
limit_like fits = grind arith

same_contents : (file : ℕ) → (let none : ℕ → List ℕ = λ file. [] in none) ≡ put (λ file. []) file []
unfolding put
same_contents file = fun_ext (λ n. either (n == file) (λ t. rw t refl) (λ t. rw t refl))

abbrev with_contents : Table → (ℕ → List ℕ) → Server
with_contents table contents = record (server_of table) { contents = contents }

pub writes_on : (table : Table) (outs more last : List Out) (found : Option Open) (client file file_id : ℕ) (fits : Bool)
    → is_within_limit (patch_like fits) ≡ true → option_map (λ one. one.file) found ≡ Some file
    → more ≡ outs ++ Out.Changed file client 0 (patch_like true) ∷ []
    → last ≡ more ++ Out.Sent client (Reply.WriteDone file_id 0) ∷ [] → progress_of table last
    ≡ on_open found (λ file. changed client file file_id 0 (patch_like fits)) (progress_of table outs)
writes_on table outs more last None client file file_id fits limit there one two = absurd (cc there)
writes_on table outs more last (Some found) client file file_id fits limit there one two =
    let is : found.file ≡ file = cc there in
    let within : fits ≡ true = sym (limit_like fits) ∙ limit in
    let given : last ≡ outs ++ Out.Changed found.file client 0 (patch_like fits) ∷ Out.Sent client (Reply.WriteDone file_id 0)
    ∷ [] =
    two ∙ (ap (λ l. l ++ Out.Sent client (Reply.WriteDone file_id 0) ∷ []) one
    ∙ (append_assoc outs (Out.Changed file client 0 (patch_like true) ∷ []) (Out.Sent client (Reply.WriteDone file_id 0) ∷ [])
    ∙ (ap (λ n. outs ++ Out.Changed n client 0 (patch_like true) ∷ Out.Sent client (Reply.WriteDone file_id 0) ∷ []) (sym is)
    ∙ ap (λ b. outs ++ Out.Changed found.file client 0 (patch_like b) ∷ Out.Sent client (Reply.WriteDone file_id 0) ∷ [])
    (sym within)))) in
    ap (progress_of table) given
    ∙ ap (λ contents. record {
      server = with_contents table contents;
      outs = outs ++ Out.Changed found.file client 0 (patch_like fits) ∷ Out.Sent client (Reply.WriteDone file_id 0) ∷ [];
    }) (same_contents found.file)
