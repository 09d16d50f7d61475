-- Of a text that has a value, `lease_wire` reads what is of version 1.
use Rattle.std.proofs.Common.{◌≡◌, ℕ, ◌==◌, Bool, true, false, if◌then◌else◌, List, [], ◌∷◌, length, Option, Some, None}
use Rattle.std.proofs.Common.{option_to_list, is_some, refl, sym, ◌∙◌, arith}
use Rattle.std.specs.List.{filter_map, cons_option}
use Rattle.std.specs.Str.{bytes_eq}
use Rattle.std.specs.Option.{option_and_then}
use Rattle.std.proofs.lemmas.Slice.Eq.{bytes_eq-Decides}
use Rattle.lease_wire.specs.Chain.{ContextView}
use Rattle.lease_wire.specs.Names as first
use Rattle.lease_wire.specs.Names.{meaning_of as first_meaning_of, lease_in, durable_in, reconnect_in, wrong_length_in}
use Rattle.lease_wire.specs.declared.create.Direction.{Direction}
use Rattle.lease_wire.specs.declared.create.Direction.TheVariants.{Request, Reply}
use Rattle.lease_wire.proofs.ReadingLaws as first_laws
use Rattle.lease_wire_v2.specs.Names.{Meaning, CreateView, HaveValue, meaning_of, lease_part, durable_part, reconnect_part}
use Rattle.lease_wire_v2.specs.Names.{wrong_part, values_of_kind, first_meaning, lease_meaning, durable_meaning, reconnect_meaning}
use Rattle.lease_wire_v2.specs.Names.{durable_name, reconnect_name, DurableView}
use Rattle.lease_wire_v2.specs.Names.Meaning.{WrongLength, Lease, Durable, Reconnect}
use Rattle.lease_wire_v2.specs.Names.{second_lease}
use Rattle.lease_wire_v2.specs.Names.DurableView.{First, Asked, Granted}
use Rattle.lease_wire_v2.specs.Names.ReconnectView.{SecondId}
use Rattle.lease_wire_v2.specs.LeaseData.{lease_in as lease_in_v2}
use Rattle.lease_wire_v2.specs.DurableData.{durable_in as durable_in_v2, grant_in, reconnect_in as reconnect_in_v2}
use Rattle.lease_wire_v2.specs.FirstVersion.{first_lease_in, first_durable_in, first_id_in, first_part, FirstVersionIsRead}
use Rattle.lease_wire_v2.proofs.ReadingLaws.{value_held_of}

-- what one context says in version 1, given what it says in either
record IsPartOf (one : first.Meaning) (other : Meaning) : Type 0 where
  lengths : wrong_part other ≡ None → wrong_length_in one ≡ None
  lease : lease_in one ≡ option_and_then first_lease_in (lease_part other)
  durable : durable_in one ≡ option_and_then first_durable_in (durable_part other)
  reconnect : reconnect_in one ≡ option_and_then first_id_in (reconnect_part other)

-- a meaning of version 1 is its own part
its_own_part : (one : first.Meaning) → IsPartOf one (first_meaning one)
its_own_part first.Meaning.Unknown = record { lengths = λ e. refl; lease = refl; durable = refl; reconnect = refl }
its_own_part first.Meaning.WrongLength = record { lengths = λ e. cc; lease = refl; durable = refl; reconnect = refl }
its_own_part (first.Meaning.Lease lease) = record { lengths = λ e. refl; lease = refl; durable = refl; reconnect = refl }
its_own_part first.Meaning.Durable = record { lengths = λ e. refl; lease = refl; durable = refl; reconnect = refl }
its_own_part (first.Meaning.Reconnect file_id) = record { lengths = λ e. refl; lease = refl; durable = refl; reconnect = refl }

-- what version 1 doesn't know has no part of it
record HasNoPart (other : Meaning) : Type 0 where
  lease : option_and_then first_lease_in (lease_part other) ≡ None
  durable : option_and_then first_durable_in (durable_part other) ≡ None
  reconnect : option_and_then first_id_in (reconnect_part other) ≡ None

passed_over : (one : first.Meaning) (other : Meaning) → one ≡ first.Meaning.Unknown → HasNoPart other → IsPartOf one other
passed_over one other none has = record {
  lengths = λ e. rw none refl;
  lease = rw none (sym has.lease);
  durable = rw none (sym has.durable);
  reconnect = rw none (sym has.reconnect);
}

no_part : (b : Bool) (other : Meaning) → HasNoPart other → HasNoPart (if b then other else WrongLength)
no_part true other has = has
no_part false other has = record { lease = refl; durable = refl; reconnect = refl }

durable_has_none : (direction : Direction) (body : List ℕ) → HasNoPart (durable_meaning direction body)
durable_has_none Request body = no_part (length body == 32) (Durable (Asked (durable_in_v2 body)))
    (record { lease = refl; durable = refl; reconnect = refl })
durable_has_none Reply body = no_part (length body == 8) (Durable (Granted (grant_in body)))
    (record { lease = refl; durable = refl; reconnect = refl })

reconnect_has_none : (direction : Direction) (body : List ℕ) → HasNoPart (reconnect_meaning direction body)
reconnect_has_none Request body = no_part (length body == 36) (Reconnect (SecondId (reconnect_in_v2 body)))
    (record { lease = refl; durable = refl; reconnect = refl })
reconnect_has_none Reply body = record { lease = refl; durable = refl; reconnect = refl }

module _ (direction : Direction) (context : ContextView) where
  -- what version 1 makes of the names
  first_lease_meaning : bytes_eq context.name first.lease_name ≡ true
      → first_meaning_of direction context ≡ first.lease_meaning direction context.body
  unfolding first_meaning_of
  first_lease_meaning is = rw is refl

  unknown_durable : bytes_eq context.name durable_name ≡ true → first_meaning_of direction context ≡ first.Meaning.Unknown
  unfolding first_meaning_of
  unknown_durable is = rw ((bytes_eq-Decides context.name durable_name).0 is) refl

  unknown_reconnect : bytes_eq context.name reconnect_name ≡ true → first_meaning_of direction context ≡ first.Meaning.Unknown
  unfolding first_meaning_of
  unknown_reconnect is = rw ((bytes_eq-Decides context.name reconnect_name).0 is) refl

  -- a lease context by its length
  of_52 : bytes_eq context.name first.lease_name ≡ true → (length context.body == 52) ≡ true
      → first_meaning_of direction context ≡ first.Meaning.Unknown
  of_52 is long =
      let not : (length context.body == 32) ≡ false = grind arith in
      first_lease_meaning is ∙ rw not refl

  of_other : bytes_eq context.name first.lease_name ≡ true → (length context.body == 32) ≡ false
      → first_meaning_of direction context ≡ first.Meaning.Unknown
  of_other is not = first_lease_meaning is ∙ rw not refl

  lease_part_of : bytes_eq context.name first.lease_name ≡ true
      → IsPartOf (first_meaning_of direction context) (lease_meaning direction context)
  lease_part_of is = by_52 (length context.body == 52) refl
    where
      by_32 : (b : Bool) → (length context.body == 32) ≡ b
          → IsPartOf (first_meaning_of direction context)
          (if b then first_meaning (first_meaning_of direction context) else WrongLength)
      by_32 true long = its_own_part (first_meaning_of direction context)
      by_32 false other = passed_over (first_meaning_of direction context) WrongLength (of_other is other)
          (record { lease = refl; durable = refl; reconnect = refl })

      by_52 : (b : Bool) → (length context.body == 52) ≡ b
          → IsPartOf (first_meaning_of direction context) (if b then Lease (second_lease (lease_in_v2 direction context.body))
          else if length context.body == 32 then first_meaning (first_meaning_of direction context) else WrongLength)
      by_52 true long = passed_over (first_meaning_of direction context)
          (Lease (second_lease (lease_in_v2 direction context.body)))
          (of_52 is long) (record { lease = refl; durable = refl; reconnect = refl })
      by_52 false other = by_32 (length context.body == 32) refl

  context_part : IsPartOf (first_meaning_of direction context) (meaning_of direction context)
  unfolding meaning_of
  context_part = by_lease (bytes_eq context.name first.lease_name) refl
    where
      by_reconnect : (b : Bool) → bytes_eq context.name reconnect_name ≡ b
          → IsPartOf (first_meaning_of direction context) (if b then reconnect_meaning direction context.body
          else first_meaning (first_meaning_of direction context))
      by_reconnect true is = passed_over (first_meaning_of direction context) (reconnect_meaning direction context.body)
          (unknown_reconnect is) (reconnect_has_none direction context.body)
      by_reconnect false other = its_own_part (first_meaning_of direction context)

      by_durable : (b : Bool) → bytes_eq context.name durable_name ≡ b
          → IsPartOf (first_meaning_of direction context) (if b then durable_meaning direction context.body
          else if bytes_eq context.name reconnect_name then reconnect_meaning direction context.body
          else first_meaning (first_meaning_of direction context))
      by_durable true is = passed_over (first_meaning_of direction context) (durable_meaning direction context.body)
          (unknown_durable is) (durable_has_none direction context.body)
      by_durable false other = by_reconnect (bytes_eq context.name reconnect_name) refl

      by_lease : (b : Bool) → bytes_eq context.name first.lease_name ≡ b
          → IsPartOf (first_meaning_of direction context) (if b then lease_meaning direction context
          else if bytes_eq context.name durable_name then durable_meaning direction context.body
          else if bytes_eq context.name reconnect_name then reconnect_meaning direction context.body
          else first_meaning (first_meaning_of direction context))
      by_lease true is = lease_part_of is
      by_lease false other = by_durable (bytes_eq context.name durable_name) refl

-- ---- what all contexts say

-- a part of each is the part of all
module _ {X Y : Type 0} (all : ContextView → Option X) (some : ContextView → Option Y) (part : X → Option Y)
    (each : (context : ContextView) → some context ≡ option_and_then part (all context)) where
  by_all : (said : Option X) (contexts : List ContextView)
      → filter_map some contexts ≡ filter_map part (filter_map all contexts)
      → cons_option (option_and_then part said) (filter_map some contexts)
      ≡ filter_map part (cons_option said (filter_map all contexts))
  by_all None contexts further = further
  by_all (Some x) contexts further = rw further refl

  parts_said : (contexts : List ContextView) → filter_map some contexts ≡ filter_map part (filter_map all contexts)
  parts_said [] = refl
  parts_said (context ∷ contexts) = rw (each context) (by_all (all context) contexts (parts_said contexts))

  of_held : (held : Option X) → filter_map part (option_to_list held) ≡ option_to_list (option_and_then part held)
  of_held None = refl
  of_held (Some x) = by_part (part x)
    where
      by_part : (said : Option Y) → cons_option said [] ≡ option_to_list said
      by_part None = refl
      by_part (Some y) = refl

  part_held : (contexts : List ContextView) (held : Option X) → filter_map all contexts ≡ option_to_list held
      → filter_map some contexts ≡ option_to_list (option_and_then part held)
  part_held contexts held e = parts_said contexts ∙ rw e (of_held held)

no_wrong : (direction : Direction) (contexts : List ContextView) → values_of_kind direction wrong_part contexts ≡ []
    → first.values_of_kind direction wrong_length_in contexts ≡ []
no_wrong direction [] none = refl
no_wrong direction (context ∷ contexts) none = by_part (wrong_part (meaning_of direction context)) refl none
    (no_wrong direction contexts)
  where
    by_part : (said : Option Bool) → wrong_part (meaning_of direction context) ≡ said
        → cons_option said (values_of_kind direction wrong_part contexts) ≡ []
        → (values_of_kind direction wrong_part contexts ≡ [] → first.values_of_kind direction wrong_length_in contexts ≡ [])
        → cons_option (wrong_length_in (first_meaning_of direction context))
        (first.values_of_kind direction wrong_length_in contexts)
        ≡ []
    by_part None is e further = rw ((context_part direction context).lengths is) (further e)
    by_part (Some said) is e further = cc e

durable_held : (held : Option DurableView)
    → option_to_list (option_and_then first_durable_in held)
    ≡ (if is_some (option_and_then first_durable_in held) then true ∷ [] else [])
durable_held None = refl
durable_held (Some First) = refl
durable_held (Some (Asked durable)) = refl
durable_held (Some (Granted grant)) = refl

first_held : (direction : Direction) (contexts : List ContextView) (v : CreateView) → HaveValue direction contexts v
    → first.HaveValue direction contexts (first_part v)
first_held direction contexts v have = record {
  lengths = no_wrong direction contexts have.lengths;
  lease = part_held (λ context. lease_part (meaning_of direction context))
      (λ context. lease_in (first_meaning_of direction context))
      first_lease_in (λ context. (context_part direction context).lease) contexts v.lease have.lease;
  durable = part_held (λ context. durable_part (meaning_of direction context))
      (λ context. durable_in (first_meaning_of direction context)) first_durable_in
      (λ context. (context_part direction context).durable) contexts v.durable have.durable ∙ durable_held v.durable;
  reconnect = part_held (λ context. reconnect_part (meaning_of direction context))
      (λ context. reconnect_in (first_meaning_of direction context)) first_id_in
      (λ context. (context_part direction context).reconnect) contexts v.reconnect have.reconnect;
}

pub first_version_is_read : FirstVersionIsRead
first_version_is_read direction text v e =
    let (contexts, holds, have) = value_held_of direction text v e in
    ((first_laws.value_is_read direction text).value (first_part v)).1
    (contexts, holds, first_held direction contexts v have)
