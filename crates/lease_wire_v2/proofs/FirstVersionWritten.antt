-- What is of version 1 is written as `lease_wire` writes it.
use Rattle.std.proofs.Common.{◌≡◌, ℕ, ◌+◌, ◌%◌, List, [], ◌++◌, length, Bool, true, false, Option, Some, None}
use Rattle.std.proofs.Common.{IfSome, refl, arith}
use Rattle.std.specs.Option.{option_map}
use Rattle.std.proofs.lemmas.List.{append-nil}
use Rattle.lease_wire.specs.Names as first
use Rattle.lease_wire.specs.Canonical as first_text
use Rattle.lease_wire.specs.Canonical.{canonical_text as first_canonical_text}
use Rattle.lease_wire.specs.declared.create.Direction.{Direction}
use Rattle.lease_wire.specs.declared.create.Direction.TheVariants.{Request, Reply}
use Rattle.lease_wire.proofs.WrittenContexts.{length-lease_body}
use Rattle.lease_wire_v2.specs.Names.{first_lease}
use Rattle.lease_wire_v2.specs.Names.DurableView.{First}
use Rattle.lease_wire_v2.specs.Names.ReconnectView.{FirstId}
use Rattle.lease_wire_v2.specs.Canonical.{padding, context_bytes, lease_text, durable_text, reconnect_text, canonical_text}
use Rattle.lease_wire_v2.specs.FirstVersion.{of_first, FirstVersionIsWritten}

no_padding : (count : ℕ) → count % 8 ≡ 0 → padding count ≡ []
no_padding count whole = rw whole refl

-- data of a multiple of 8 are not padded
unpadded : (followed : Bool) (name body : List ℕ) → length body % 8 ≡ 0
    → context_bytes followed name body ≡ first_text.context_bytes followed name body
unpadded false name body whole = refl
unpadded true name body whole =
    let none = no_padding (length body) whole in
    let size : 24 + length body + 0 ≡ 24 + length body = omega arith in
    rw (none, size, append-nil body) refl

lease_same : (direction : Direction) (followed : Bool) (held : Option first.LeaseView)
    → IfSome held (λ lease. length lease.key ≡ 16)
    → lease_text direction followed (option_map first_lease held) ≡ first_text.lease_bytes followed held
lease_same direction followed None long = refl
lease_same direction followed (Some lease) long =
    let size = length-lease_body lease long in
    unpadded followed first.lease_name (first_text.lease_body lease) (rw size refl)

durable_same : (direction : Direction) (followed : Bool)
    → durable_text direction followed (Some First) ≡ first_text.durable_bytes direction followed true
durable_same Request followed = unpadded followed first.durable_name (first_text.durable_body Request) refl
durable_same Reply followed = unpadded followed first.durable_name (first_text.durable_body Reply) refl

three_texts : (a a' b b' c c' : List ℕ) → a ≡ a' → b ≡ b' → c ≡ c' → a ++ (b ++ c) ≡ a' ++ (b' ++ c')
three_texts a a' b b' c c' ea eb ec = rw (ea, eb, ec) refl

written : (direction : Direction) (lease : Option first.LeaseView) (durable : Bool) (reconnect : Option ℕ)
    → IfSome lease (λ lease. length lease.key ≡ 16)
    → canonical_text direction (of_first (record { lease = lease; durable = durable; reconnect = reconnect }))
    ≡ first_canonical_text direction (record { lease = lease; durable = durable; reconnect = reconnect })
unfolding canonical_text first_canonical_text
written direction lease false None long =
    three_texts _ _ [] [] [] [] (lease_same direction false lease long) refl refl
written direction lease true None long =
    three_texts _ _ _ _ [] [] (lease_same direction true lease long) (durable_same direction false) refl
written direction lease false (Some file_id) long =
    three_texts _ _ [] [] (reconnect_text (Some (FirstId file_id))) _ (lease_same direction true lease long) refl refl
written direction lease true (Some file_id) long =
    three_texts _ _ _ _ (reconnect_text (Some (FirstId file_id))) _ (lease_same direction true lease long)
    (durable_same direction true) refl

pub first_version_is_written : FirstVersionIsWritten
first_version_is_written direction v long = written direction v.lease v.durable v.reconnect long
