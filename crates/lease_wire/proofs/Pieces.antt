-- A piece that stands at the front of some bytes is read as the context that it is, and what is read
-- there is the context that stands there.
use Rattle.std.proofs.Common.{◌≡◌, ◌≢◌, ◌≤◌, ℕ, zero, suc, ◌+◌, List, [], ◌++◌, length, take, drop, None, refl}
use Rattle.std.proofs.Common.{arith, sym, ◌∙◌, ap, length-append, length-drop, rules}
use Rattle.std.proofs.lemmas.List.{drop-append-le, take-append-le, take-append-drop, length-take-le, append-nil}
use Rattle.byteorder.specs.Numbers.{little_from-append}
use Rattle.lease_wire.specs.Field.{number_at, bytes_at}
use Rattle.lease_wire.specs.Chain.{ContextView, IsData, IsContext, LeadsOn, next_of, name_offset_of, name_length_of}
use Rattle.lease_wire.specs.Chain.{data_offset_of, data_length_of}
use Rattle.lease_wire.specs.Reading.{layout_fault, header_of, context_at, size_of}
use Rattle.lease_wire.proofs.HeaderFacts.{HeaderFits, header_fits, fitting_header}

-- a field within the front is read from the front
number_at-front : (place count : ℕ) (front others : List ℕ) → place + count ≤ length front
    → number_at place count (front ++ others) ≡ number_at place count front
number_at-front place count front others within =
    let cut = drop-append-le place front others (omega arith) in
    let long : count ≤ length (drop place front) = omega (arith, length-drop {A = ℕ}) in
    rw cut (little_from-append count (drop place front) others long)

bytes_at-front : (place count : ℕ) (front others : List ℕ) → place + count ≤ length front
    → bytes_at place count (front ++ others) ≡ bytes_at place count front
bytes_at-front place count front others within =
    let cut = drop-append-le place front others (omega arith) in
    let long : count ≤ length (drop place front) = omega (arith, length-drop {A = ℕ}) in
    rw cut (take-append-le count (drop place front) others long)

pub next_of-front : (piece others : List ℕ) → 16 ≤ length piece → next_of (piece ++ others) ≡ next_of piece
unfolding next_of
next_of-front piece others long = number_at-front 0 4 piece others (omega arith)

name_offset_of-front : (piece others : List ℕ) → 16 ≤ length piece → name_offset_of (piece ++ others) ≡ name_offset_of piece
unfolding name_offset_of
name_offset_of-front piece others long = number_at-front 4 2 piece others (omega arith)

name_length_of-front : (piece others : List ℕ) → 16 ≤ length piece → name_length_of (piece ++ others) ≡ name_length_of piece
unfolding name_length_of
name_length_of-front piece others long = number_at-front 6 2 piece others (omega arith)

data_offset_of-front : (piece others : List ℕ) → 16 ≤ length piece → data_offset_of (piece ++ others) ≡ data_offset_of piece
unfolding data_offset_of
data_offset_of-front piece others long = number_at-front 10 2 piece others (omega arith)

data_length_of-front : (piece others : List ℕ) → 16 ≤ length piece → data_length_of (piece ++ others) ≡ data_length_of piece
unfolding data_length_of
data_length_of-front piece others long = number_at-front 12 4 piece others (omega arith)

-- the header of the bytes is that of the piece at their front
header_of-front : (piece others : List ℕ) → 16 ≤ length piece → header_of (piece ++ others) ≡ header_of piece
header_of-front piece others long = rw (
  next_of-front piece others long,
  name_offset_of-front piece others long,
  name_length_of-front piece others long,
  data_offset_of-front piece others long,
  data_length_of-front piece others long,
) refl

-- what the parts of a context say of its header
data_is : (piece : List ℕ) (offset count : ℕ) (part : List ℕ) → IsData piece offset count part
    → (part ≡ bytes_at offset count piece) × (count ≢ 0 → 16 ≤ offset) × (count ≢ 0 → offset + count ≤ length piece)
data_is piece offset x3 part is = grind arith

is_data : (piece : List ℕ) (offset count : ℕ) → (count ≢ 0 → 16 ≤ offset) → (count ≢ 0 → offset + count ≤ length piece)
    → IsData piece offset count (bytes_at offset count piece)
is_data piece offset count behind within = grind arith

data_at-front : (place count : ℕ) (front others : List ℕ) → (count ≢ 0 → place + count ≤ length front)
    → bytes_at place count (front ++ others) ≡ bytes_at place count front
data_at-front place zero front others within = refl
data_at-front place (suc count) front others within = bytes_at-front place (suc count) front others
    (within (λ e. absurd (omega arith)))

-- where Next is 0 there is nothing behind the piece; else it is the piece's length, a multiple of 8
pub record Ends (piece others : List ℕ) : Type 0 where
  pub size : size_of (length (piece ++ others)) (header_of piece) ≡ length piece
  pub leads : next_of piece ≢ 0 → LeadsOn piece

pub ends_last : (piece : List ℕ) → next_of piece ≡ 0 → Ends piece []
ends_last piece last = search rules

pub ends_on : (piece others : List ℕ) → 16 ≤ length piece → LeadsOn piece → Ends piece others
ends_on piece others long on = grind arith

-- a context at the front passes the tests
front_fits : (start : ℕ) (piece others : List ℕ) (context : ContextView) → IsContext start piece context → Ends piece others
    → HeaderFits (length (piece ++ others)) (header_of piece)
front_fits start piece others context is ends =
    let long = is.header in
    let body = data_is piece (data_offset_of piece) (data_length_of piece) context.body is.body in
    let whole = length-append piece others in
    record {
      header = omega arith;
      next = λ more.
          let on = ends.leads more in
          (rw (on.next) long, rw (on.next) on.aligned, rw (on.next) (omega arith));
      name_behind = is.name.behind_the_header;
      name_within = rw (ends.size) is.name.within;
      data_behind = body.1;
      data_within = λ more. rw (ends.size) (body.2 more);
    }

pub front_reads : (start : ℕ) (piece others : List ℕ) (context : ContextView) → IsContext start piece context → Ends piece others
    → (layout_fault start (piece ++ others) ≡ None) × (context_at start (piece ++ others) ≡ context)
unfolding layout_fault context_at
front_reads start piece others context is ends =
    let long = is.header in
    let head = header_of-front piece others long in
    let body = data_is piece (data_offset_of piece) (data_length_of piece) context.body is.body in
    let name = bytes_at-front (name_offset_of piece) (name_length_of piece) piece others is.name.within in
    let text = data_at-front (data_offset_of piece) (data_length_of piece) piece others body.2 in (
      rw head (fitting_header start _ (header_of piece) (front_fits start piece others context is ends)),
      rw (
        name_offset_of-front piece others long,
        name_length_of-front piece others long,
        data_offset_of-front piece others long,
        data_length_of-front piece others long,
        name,
        text,
        ← is.name.bytes,
        ← body.0,
        ← is.place,
      ) refl,
    )

-- where no test fails, the piece at the front is the context that is read
pub front_is : (start : ℕ) (piece others : List ℕ) → 16 ≤ length piece → layout_fault start (piece ++ others) ≡ None
    → size_of (length (piece ++ others)) (header_of piece) ≡ length piece
    → IsContext start piece (context_at start (piece ++ others))
unfolding layout_fault context_at
front_is start piece others long none size =
    let head = header_of-front piece others long in
    let fits = rw head at (header_fits start _ _ none) in
    let name_inside : name_offset_of piece + name_length_of piece ≤ length piece = rw size at fits.name_within in
    let data_inside : data_length_of piece ≢ 0
    → data_offset_of piece + data_length_of piece ≤ length piece = rw size at fits.data_within in
    let name = bytes_at-front (name_offset_of piece) (name_length_of piece) piece others name_inside in
    let text = data_at-front (data_offset_of piece) (data_length_of piece) piece others data_inside in
    record {
      place = refl;
      header = long;
      name = record {
        behind_the_header = fits.name_behind;
        within = name_inside;
        bytes = rw (name_offset_of-front piece others long, name_length_of-front piece others long) name;
      };
      body = rw (data_offset_of-front piece others long, data_length_of-front piece others long, text)
          (is_data piece (data_offset_of piece) (data_length_of piece) fits.data_behind data_inside);
    }

-- bytes that are a context to their end
pub whole_is : (start : ℕ) (bytes : List ℕ) → layout_fault start bytes ≡ None → next_of bytes ≡ 0
    → IsContext start bytes (context_at start bytes)
unfolding layout_fault
whole_is start bytes none last =
    let fits = header_fits start (length bytes) (header_of bytes) none in
    let same = append-nil bytes in
    let long = fits.header in
    rw same at (front_is start bytes [] long (rw same none) (rw (same, last) refl))

-- bytes that a context with another one behind it begins
pub record LeadingIs (start : ℕ) (bytes : List ℕ) : Type 0 where
  pub is : IsContext start (take (next_of bytes) bytes) (context_at start bytes)
  pub on : LeadsOn (take (next_of bytes) bytes)
  pub long : length (take (next_of bytes) bytes) ≡ next_of bytes
  pub less : length (drop (next_of bytes) bytes) + 16 ≤ length bytes

pub leading_is : (start : ℕ) (bytes : List ℕ) → layout_fault start bytes ≡ None → next_of bytes ≢ 0 → LeadingIs start bytes
unfolding layout_fault
leading_is start bytes none more =
    let fits = header_fits start (length bytes) (header_of bytes) none in
    let next = fits.next more in
    let piece : List ℕ = take (next_of bytes) bytes in
    let others : List ℕ = drop (next_of bytes) bytes in
    let whole : piece ++ others ≡ bytes = take-append-drop (next_of bytes) bytes in
    let long : length piece ≡ next_of bytes = length-take-le (next_of bytes) bytes next.2 in
    let header : 16 ≤ length piece = omega arith in
    let same : next_of (piece ++ others) ≡ next_of piece = next_of-front piece others header in
    let values_of_kind : next_of piece ≡ length piece = sym same ∙ ap next_of whole ∙ sym long in
    let on : LeadsOn piece = record { next = values_of_kind; aligned = rw long next.1 } in
    let ends = ends_on piece others header on in
    let is = front_is start piece others header (rw whole none) ends.size in
    record {
      is = rw whole at is;
      on = on;
      long = long;
      less = omega (arith, length-drop {A = ℕ});
    }

-- a field of the first bytes is a field of them all
pub number_at-taken : (place count size : ℕ) (bytes : List ℕ) → place + count ≤ size → size ≤ length bytes
    → number_at place count bytes ≡ number_at place count (take size bytes)
number_at-taken place count size bytes within long =
    let whole = take-append-drop size bytes in
    let taken = length-take-le size bytes long in
    rw whole at (number_at-front place count (take size bytes) (drop size bytes) (omega arith))

pub bytes_at-taken : (place count size : ℕ) (bytes : List ℕ) → place + count ≤ size → size ≤ length bytes
    → bytes_at place count bytes ≡ bytes_at place count (take size bytes)
bytes_at-taken place count size bytes within long =
    let whole = take-append-drop size bytes in
    let taken = length-take-le size bytes long in
    rw whole at (bytes_at-front place count (take size bytes) (drop size bytes) (omega arith))
