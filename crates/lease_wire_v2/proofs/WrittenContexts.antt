-- What is written of create contexts is laid out as they are, and means what was written.
use Rattle.std.proofs.Common.{◌≡◌, ◌<◌, ◌≤◌, ℕ, ◌+◌, ◌%◌, List, length, true, false}
use Rattle.std.proofs.Common.{refl, arith, sym, ◌∙◌, length-append}
use Rattle.std.proofs.lemmas.List.{take-append-le}
use Rattle.std.proofs.Math.Seq.{take-length}
use Rattle.lease_wire.specs.Chain.{IsPart, IsData, IsContext, LeadsOn, next_of, name_offset_of, name_length_of}
use Rattle.lease_wire.specs.Chain.{data_offset_of, data_length_of}
use Rattle.lease_wire.proofs.WrittenContexts.{name_of, written}
use Rattle.lease_wire_v2.specs.Canonical.{padding, context_bytes}

data_of : (piece : List ℕ) (offset count : ℕ) (part : List ℕ) → 0 < count → IsPart piece offset count part
    → IsData piece offset count part
data_of piece offset x3 part some is = grind arith

padding_few : (count : ℕ) → length (padding count) ≤ 4
padding_few count = grind arith

padding_fills : (count : ℕ) → count % 4 ≡ 0 → (24 + count + length (padding count)) % 8 ≡ 0
padding_fills count whole = grind arith

-- a context that is followed
module _ (a b c d : ℕ) (body : List ℕ) (small : length body < 1000) (some : 0 < length body) where
  next_of-followed : next_of (context_bytes true (name_of a b c d) body) ≡ 24 + length body + length (padding (length body))
  unfolding next_of
  next_of-followed = let few = padding_few (length body) in grind arith

  data_length_of-followed : data_length_of (context_bytes true (name_of a b c d) body) ≡ length body
  unfolding data_length_of
  data_length_of-followed = grind arith

  length-followed : length (context_bytes true (name_of a b c d) body) ≡ 24 + length body + length (padding (length body))
  length-followed = let whole = length-append body (padding (length body)) in omega arith

  pub is_followed : (start : ℕ)
      → IsContext start (context_bytes true (name_of a b c d) body) (written start (name_of a b c d) body)
  unfolding name_offset_of name_length_of data_offset_of
  is_followed start =
      let whole = length-append body (padding (length body)) in
      let part : IsPart (context_bytes true (name_of a b c d) body) 24 (length body) body = record {
        behind_the_header = omega arith;
        within = omega arith;
        bytes = sym (take-append-le (length body) body (padding (length body)) (omega arith) ∙ take-length body);
      } in
      record {
        place = refl;
        header = omega arith;
        name = record { behind_the_header = omega arith; within = omega arith; bytes = refl };
        body = rw (data_length_of-followed) (data_of (context_bytes true (name_of a b c d) body) 24 (length body) body some part);
      }

  pub leads_on : length body % 4 ≡ 0 → LeadsOn (context_bytes true (name_of a b c d) body)
  leads_on whole = record {
    next = next_of-followed ∙ sym length-followed;
    aligned = rw (length-followed) (padding_fills (length body) whole);
  }

  -- and the last one
  next_of-last : next_of (context_bytes false (name_of a b c d) body) ≡ 0
  unfolding next_of
  next_of-last = grind arith

  data_length_of-last : data_length_of (context_bytes false (name_of a b c d) body) ≡ length body
  unfolding data_length_of
  data_length_of-last = grind arith

  pub is_last : (start : ℕ)
      → IsContext start (context_bytes false (name_of a b c d) body) (written start (name_of a b c d) body)
  unfolding name_offset_of name_length_of data_offset_of
  is_last start =
      let part : IsPart (context_bytes false (name_of a b c d) body) 24 (length body) body = record {
        behind_the_header = omega arith;
        within = omega arith;
        bytes = sym (take-length body);
      } in
      record {
        place = refl;
        header = omega arith;
        name = record { behind_the_header = omega arith; within = omega arith; bytes = refl };
        body = rw (data_length_of-last) (data_of (context_bytes false (name_of a b c d) body) 24 (length body) body some part);
      }

  pub ends : next_of (context_bytes false (name_of a b c d) body) ≡ 0
  ends = next_of-last
