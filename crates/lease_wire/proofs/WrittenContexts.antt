-- What is written of create contexts is laid out as they are, and means what was written.
use Rattle.std.proofs.Common.{◌≡◌, ◌<◌, ◌^◌, ℕ, ◌+◌, ◌%◌, ◌==◌, List, [], ◌∷◌, length, Bool, true, false}
use Rattle.std.proofs.Common.{if◌then◌else◌, refl, arith, sym, ◌∙◌}
use Rattle.std.proofs.Math.Seq.{take-length}
use Rattle.std.specs.Int.RustNames.{bit_and}
use Rattle.lease_state.specs.State.{State}
use Rattle.byteorder.specs.Endian.{little_number, little_bytes}
use Rattle.lease_wire.specs.Chain.{ContextView, IsPart, IsData, IsContext, LeadsOn, next_of, name_offset_of, name_length_of}
use Rattle.lease_wire.specs.Chain.{data_offset_of, data_length_of}
use Rattle.lease_wire.specs.Names.{Meaning, LeaseView, meaning_of, lease_name, durable_name, reconnect_name}
use Rattle.lease_wire.specs.Names.Meaning.{Lease, Durable, Reconnect}
use Rattle.lease_wire.specs.Canonical.{context_bytes, lease_body, durable_body, reconnect_body}
use Rattle.lease_wire.specs.declared.create.Direction.{Direction}
use Rattle.lease_wire.specs.declared.create.Direction.TheVariants.{Request, Reply}
use Rattle.lease_wire.proofs.Cells.{sixteen_cells}
use Rattle.lease_wire.proofs.Fields.{state_of_bits-written}

-- a name of four bytes
abbrev pub name_of : ℕ → ℕ → ℕ → ℕ → List ℕ
name_of a b c d = a ∷ b ∷ c ∷ d ∷ []

abbrev pub written : ℕ → List ℕ → List ℕ → ContextView
written start name body = record { place = start; name = name; body = body }

data_of : (piece : List ℕ) (offset count : ℕ) (part : List ℕ) → 0 < count → IsPart piece offset count part
    → IsData piece offset count part
data_of piece offset x3 part some is = grind arith

module _ (followed : Bool) (a b c d : ℕ) (body : List ℕ) (small : length body < 1000) where
  pub next_of-written : next_of (context_bytes followed (name_of a b c d) body) ≡ (if followed then 24 + length body else 0)
  unfolding next_of
  next_of-written = grind arith

  data_length_of-written : data_length_of (context_bytes followed (name_of a b c d) body) ≡ length body
  unfolding data_length_of
  data_length_of-written = grind arith

  pub length-written : length (context_bytes followed (name_of a b c d) body) ≡ 24 + length body
  length-written = omega arith

  pub is_written : (start : ℕ) → 0 < length body
      → IsContext start (context_bytes followed (name_of a b c d) body) (written start (name_of a b c d) body)
  unfolding name_offset_of name_length_of data_offset_of
  is_written start some =
      let part : IsPart (context_bytes followed (name_of a b c d) body) 24 (length body) body = record {
        behind_the_header = omega arith;
        within = omega arith;
        bytes = sym (take-length body);
      } in
      record {
        place = refl;
        header = omega arith;
        name = record { behind_the_header = omega arith; within = omega arith; bytes = refl };
        body = rw (data_length_of-written) (data_of (context_bytes followed (name_of a b c d) body) 24 (length body) body some
            part);
      }

  pub leads_on : followed ≡ true → length body % 8 ≡ 0 → LeadsOn (context_bytes followed (name_of a b c d) body)
  leads_on is aligned = record {
    next = next_of-written ∙ rw is (sym length-written);
    aligned = omega arith;
  }

  pub leads_nowhere : followed ≡ false → next_of (context_bytes followed (name_of a b c d) body) ≡ 0
  leads_nowhere is = next_of-written ∙ rw is refl

-- what is written of a lease context is that lease
abbrev pub Calm : Direction → LeaseView → Type 0
Calm Request lease = lease.breaking ≡ false
Calm Reply lease = Unit {0}

same_lease : (direction : Direction) (key : List ℕ) (read : State) (lease : LeaseView) (values_of_kind : Bool)
    → read ≡ lease.state → values_of_kind ≡ lease.breaking
    → ◌≡◌ {A = Meaning} (Lease (record { key = key; state = read; breaking = values_of_kind }))
    (Lease (record lease { key = key }))
same_lease direction key read lease values_of_kind state breaking = rw (state, breaking) refl

breaking-written : (b : Bool) → (bit_and (little_number 4 (little_bytes 4 (if b then 2 else 0))) 2 == 2) ≡ b
breaking-written b = grind arith

pub lease_is : (direction : Direction) (start : ℕ) (lease : LeaseView) → length lease.key ≡ 16 → Calm direction lease
    → meaning_of direction (written start lease_name (lease_body lease)) ≡ Lease lease
unfolding meaning_of
lease_is Request start lease = sixteen_cells (λ cells. Calm Request lease
    → meaning_of Request (written start lease_name (lease_body (record lease { key = cells })))
    ≡ Lease (record lease { key = cells }))
    (λ a b c d e f g h i j k l m n o p calm. same_lease Request _ _ lease false (state_of_bits-written lease.state) (sym calm))
    lease.key
lease_is Reply start lease = sixteen_cells (λ cells. Calm Reply lease
    → meaning_of Reply (written start lease_name (lease_body (record lease { key = cells })))
    ≡ Lease (record lease { key = cells }))
    (λ a b c d e f g h i j k l m n o p calm. same_lease Reply _ _ lease _ (state_of_bits-written lease.state)
    (breaking-written lease.breaking)) lease.key

pub length-lease_body : (lease : LeaseView) → length lease.key ≡ 16 → length (lease_body lease) ≡ 32
length-lease_body lease = sixteen_cells (λ cells. length (lease_body (record lease { key = cells })) ≡ 32)
    (λ a b c d e f g h i j k l m n o p. refl) lease.key

pub durable_is : (direction : Direction) (start : ℕ)
    → meaning_of direction (written start durable_name (durable_body direction)) ≡ Durable
unfolding meaning_of
durable_is direction start = grind arith

pub length-durable_body : (direction : Direction)
    → (0 < length (durable_body direction)) × (length (durable_body direction) < 1000) × (length (durable_body direction) % 8 ≡ 0)
length-durable_body direction = grind arith

pub reconnect_is : (start file_id : ℕ) → file_id < 2 ^ 64
    → meaning_of Request (written start reconnect_name (reconnect_body file_id)) ≡ Reconnect file_id
unfolding meaning_of
reconnect_is start file_id fits = grind arith
