-- The canonical text of a value holds that value.
use Rattle.std.proofs.Common.{◌≡◌, ◌<◌, ◌^◌, ℕ, ◌+◌, List, [], ◌∷◌, length, Bool, true, false, Option, Some, None, refl, arith}
use Rattle.std.proofs.Common.{IfSome}
use Rattle.std.proofs.lemmas.List.{append-nil}
use Rattle.lease_wire.specs.Chain.{ContextView, IsContext, LeadsOn, next_of}
use Rattle.lease_wire.specs.Names.{LeaseView, CreateView, HoldsValue, lease_name, durable_name, reconnect_name}
use Rattle.lease_wire.specs.Canonical.{canonical_text, context_bytes, lease_body, durable_body, reconnect_body, IsDirected}
use Rattle.lease_wire.specs.Create.{WrittenHoldsValue, WrittenReadsBack}
use Rattle.lease_wire.specs.declared.create.Direction.{Direction}
use Rattle.lease_wire.specs.declared.create.Direction.TheVariants.{Request, Reply}
use Rattle.lease_wire.proofs.WrittenContexts.{written, Calm, is_written, leads_on, leads_nowhere, lease_is, length-lease_body}
use Rattle.lease_wire.proofs.WrittenContexts.{durable_is, length-durable_body, reconnect_is}
use Rattle.lease_wire.proofs.ReadingLaws.{value_is_read}

-- the three kinds of pieces, and the contexts that they are
abbrev lease_piece : Bool → LeaseView → List ℕ
lease_piece followed lease = context_bytes followed lease_name (lease_body lease)

abbrev lease_context : ℕ → LeaseView → ContextView
lease_context start lease = written start lease_name (lease_body lease)

abbrev durable_piece : Direction → Bool → List ℕ
durable_piece direction followed = context_bytes followed durable_name (durable_body direction)

abbrev durable_context : Direction → ℕ → ContextView
durable_context direction start = written start durable_name (durable_body direction)

abbrev reconnect_piece : ℕ → List ℕ
reconnect_piece file_id = context_bytes false reconnect_name (reconnect_body file_id)

abbrev reconnect_context : ℕ → ℕ → ContextView
reconnect_context start file_id = written start reconnect_name (reconnect_body file_id)

is_lease : (followed : Bool) (start : ℕ) (lease : LeaseView) → length lease.key ≡ 16
    → IsContext start (lease_piece followed lease) (lease_context start lease)
is_lease followed start lease long =
    let size = length-lease_body lease long in
    is_written followed 82 113 76 115 (lease_body lease) (omega arith) start (omega arith)

lease_leads : (lease : LeaseView) → length lease.key ≡ 16 → LeadsOn (lease_piece true lease)
lease_leads lease long =
    let size = length-lease_body lease long in
    leads_on true 82 113 76 115 (lease_body lease) (omega arith) refl (omega arith)

lease_ends : (lease : LeaseView) → length lease.key ≡ 16 → next_of (lease_piece false lease) ≡ 0
lease_ends lease long =
    let size = length-lease_body lease long in
    leads_nowhere false 82 113 76 115 (lease_body lease) (omega arith) refl

is_durable : (direction : Direction) (followed : Bool) (start : ℕ)
    → IsContext start (durable_piece direction followed) (durable_context direction start)
is_durable direction followed start =
    let size = length-durable_body direction in
    is_written followed 68 72 110 81 (durable_body direction) size.1 start size.0

durable_leads : (direction : Direction) → LeadsOn (durable_piece direction true)
durable_leads direction =
    let size = length-durable_body direction in
    leads_on true 68 72 110 81 (durable_body direction) size.1 refl size.2

durable_ends : (direction : Direction) → next_of (durable_piece direction false) ≡ 0
durable_ends direction = leads_nowhere false 68 72 110 81 (durable_body direction) (length-durable_body direction).1 refl

is_reconnect : (start file_id : ℕ) → IsContext start (reconnect_piece file_id) (reconnect_context start file_id)
is_reconnect start file_id = is_written false 68 72 110 67 (reconnect_body file_id) (omega arith) start (omega arith)

reconnect_ends : (file_id : ℕ) → next_of (reconnect_piece file_id) ≡ 0
reconnect_ends file_id = leads_nowhere false 68 72 110 67 (reconnect_body file_id) (omega arith) refl

-- a value without a reconnect, by its parts
without_reconnect : (direction : Direction) (lease : Option LeaseView) (durable : Bool)
    → IfSome lease (λ lease. length lease.key ≡ 16) → IfSome lease (λ lease. Calm direction lease)
    → HoldsValue direction (canonical_text direction (record { lease = lease; durable = durable; reconnect = None }))
    (record { lease = lease; durable = durable; reconnect = None })
unfolding canonical_text
without_reconnect direction None false long calm = (
  [],
  refl,
  record {
    lengths = refl;
    lease = refl;
    durable = refl;
    reconnect = refl;
  },
)
without_reconnect direction (Some lease) false long calm = (
  lease_context (0) lease ∷ [],
  (lease_piece false lease ∷ [], refl, (is_lease false (0) lease long, lease_ends lease long, refl)),
  record {
    lengths = rw (lease_is direction (0) lease long calm) refl;
    lease = rw (lease_is direction (0) lease long calm) refl;
    durable = rw (lease_is direction (0) lease long calm) refl;
    reconnect = rw (lease_is direction (0) lease long calm) refl;
  },
)
without_reconnect direction None true long calm = (
  durable_context direction (0) ∷ [],
  (durable_piece direction false ∷ [], refl, (is_durable direction false (0), durable_ends direction, refl)),
  record {
    lengths = rw (durable_is direction (0)) refl;
    lease = rw (durable_is direction (0)) refl;
    durable = rw (durable_is direction (0)) refl;
    reconnect = rw (durable_is direction (0)) refl;
  },
)
without_reconnect direction (Some lease) true long calm = (
  lease_context (0) lease ∷ durable_context direction (0 + length (lease_piece true lease)) ∷ [],
  (
    lease_piece true lease ∷ durable_piece direction false ∷ [],
    refl,
    (
      is_lease true (0) lease long,
      lease_leads lease long,
      (
        is_durable direction false (0 + length (lease_piece true lease)),
        durable_ends direction,
        refl,
      ),
    ),
  ),
  record {
    lengths = rw (lease_is direction (0) lease long calm, durable_is direction (0 + length (lease_piece true lease))) refl;
    lease = rw (lease_is direction (0) lease long calm, durable_is direction (0 + length (lease_piece true lease))) refl;
    durable = rw (lease_is direction (0) lease long calm, durable_is direction (0 + length (lease_piece true lease))) refl;
    reconnect = rw (lease_is direction (0) lease long calm, durable_is direction (0 + length (lease_piece true lease))) refl;
  },
)

-- a request with a reconnect, by its parts
with_reconnect : (lease : Option LeaseView) (durable : Bool) (file_id : ℕ) → IfSome lease (λ lease. length lease.key ≡ 16)
    → IfSome lease (λ lease. Calm Request lease) → file_id < 2 ^ 64
    → HoldsValue Request (canonical_text Request (record { lease = lease; durable = durable; reconnect = Some file_id }))
    (record { lease = lease; durable = durable; reconnect = Some file_id })
unfolding canonical_text
with_reconnect None false file_id long calm fits = (
  reconnect_context (0) file_id ∷ [],
  (
    reconnect_piece file_id ∷ [],
    rw (append-nil (reconnect_piece file_id)) refl,
    (is_reconnect (0) file_id, reconnect_ends file_id, refl),
  ),
  record {
    lengths = rw (reconnect_is (0) file_id fits) refl;
    lease = rw (reconnect_is (0) file_id fits) refl;
    durable = rw (reconnect_is (0) file_id fits) refl;
    reconnect = rw (reconnect_is (0) file_id fits) refl;
  },
)
with_reconnect (Some lease) false file_id long calm fits = (
  lease_context (0) lease ∷ reconnect_context (0 + length (lease_piece true lease)) file_id ∷ [],
  (
    lease_piece true lease ∷ reconnect_piece file_id ∷ [],
    rw (append-nil (reconnect_piece file_id)) refl,
    (
      is_lease true (0) lease long,
      lease_leads lease long,
      (is_reconnect (0 + length (lease_piece true lease)) file_id, reconnect_ends file_id, refl),
    ),
  ),
  record {
    lengths = rw (lease_is Request (0) lease long calm, reconnect_is (0 + length (lease_piece true lease)) file_id fits) refl;
    lease = rw (lease_is Request (0) lease long calm, reconnect_is (0 + length (lease_piece true lease)) file_id fits) refl;
    durable = rw (lease_is Request (0) lease long calm, reconnect_is (0 + length (lease_piece true lease)) file_id fits) refl;
    reconnect = rw (lease_is Request (0) lease long calm, reconnect_is (0 + length (lease_piece true lease)) file_id fits) refl;
  },
)
with_reconnect None true file_id long calm fits = (
  durable_context Request (0) ∷ reconnect_context (0 + length (durable_piece Request true)) file_id ∷ [],
  (
    durable_piece Request true ∷ reconnect_piece file_id ∷ [],
    rw (append-nil (reconnect_piece file_id)) refl,
    (
      is_durable Request true (0),
      durable_leads Request,
      (is_reconnect (0 + length (durable_piece Request true)) file_id, reconnect_ends file_id, refl),
    ),
  ),
  record {
    lengths = rw (durable_is Request (0), reconnect_is (0 + length (durable_piece Request true)) file_id fits) refl;
    lease = rw (durable_is Request (0), reconnect_is (0 + length (durable_piece Request true)) file_id fits) refl;
    durable = rw (durable_is Request (0), reconnect_is (0 + length (durable_piece Request true)) file_id fits) refl;
    reconnect = rw (durable_is Request (0), reconnect_is (0 + length (durable_piece Request true)) file_id fits) refl;
  },
)
with_reconnect (Some lease) true file_id long calm fits = (
  lease_context (0) lease ∷ durable_context Request (0 + length (lease_piece true lease))
      ∷ reconnect_context (0 + length (lease_piece true lease) + length (durable_piece Request true)) file_id ∷ [],
  (
    lease_piece true lease ∷ durable_piece Request true ∷ reconnect_piece file_id ∷ [],
    rw (append-nil (reconnect_piece file_id)) refl,
    (
      is_lease true (0) lease long,
      lease_leads lease long,
      (
        is_durable Request true (0 + length (lease_piece true lease)),
        durable_leads Request,
        (
          is_reconnect (0 + length (lease_piece true lease) + length (durable_piece Request true)) file_id,
          reconnect_ends file_id,
          refl,
        ),
      ),
    ),
  ),
  record {
    lengths = rw (
      lease_is Request (0) lease long calm,
      durable_is Request (0 + length (lease_piece true lease)),
      reconnect_is (0 + length (lease_piece true lease) + length (durable_piece Request true)) file_id fits,
    ) refl;
    lease = rw (
      lease_is Request (0) lease long calm,
      durable_is Request (0 + length (lease_piece true lease)),
      reconnect_is (0 + length (lease_piece true lease) + length (durable_piece Request true)) file_id fits,
    ) refl;
    durable = rw (
      lease_is Request (0) lease long calm,
      durable_is Request (0 + length (lease_piece true lease)),
      reconnect_is (0 + length (lease_piece true lease) + length (durable_piece Request true)) file_id fits,
    ) refl;
    reconnect = rw (
      lease_is Request (0) lease long calm,
      durable_is Request (0 + length (lease_piece true lease)),
      reconnect_is (0 + length (lease_piece true lease) + length (durable_piece Request true)) file_id fits,
    ) refl;
  },
)

calm_of : (direction : Direction) (v : CreateView) → IsDirected direction v → IfSome v.lease (λ lease. Calm direction lease)
calm_of direction v is = grind arith

pub written_holds_value : WrittenHoldsValue
written_holds_value direction v is = by_reconnect direction v.reconnect is.file_id is.directed
  where
    by_reconnect : (direction : Direction) (reconnect : Option ℕ) → IfSome reconnect (λ file_id. file_id < 2 ^ 64)
        → IsDirected direction (record v { reconnect = reconnect })
        → HoldsValue direction (canonical_text direction (record v { reconnect = reconnect }))
        (record v { reconnect = reconnect })
    by_reconnect direction None fits directed = without_reconnect direction v.lease v.durable is.key
        (calm_of direction (record v { reconnect = None }) directed)
    by_reconnect Request (Some file_id) fits directed = with_reconnect v.lease v.durable file_id is.key directed fits
    by_reconnect Reply (Some file_id) fits directed = cc

pub written_reads_back : WrittenReadsBack
written_reads_back direction v is = ((value_is_read direction (canonical_text direction v)).value v).1
    (written_holds_value direction v is)
