-- A request reports no break in progress and grants nothing; a response asks for nothing, and has no reconnect.
use Rattle.std.proofs.Common.{◌≡◌, ℕ, Bool, true, false, if◌then◌else◌, List, [], ◌∷◌, Option, Some, None, ◌==◌, length}
use Rattle.std.proofs.Common.{refl, arith, subst, IfSome, option_to_list}
use Rattle.std.specs.List.{filter_map, cons_option}
use Rattle.std.specs.Str.{bytes_eq}
use Rattle.lease_wire.specs.Chain.{ContextView}
use Rattle.lease_wire.specs.Names as first
use Rattle.lease_wire.specs.Names.{meaning_of as first_meaning_of}
use Rattle.lease_wire.specs.declared.create.Direction.{Direction}
use Rattle.lease_wire.specs.declared.create.Direction.TheVariants.{Request, Reply}
use Rattle.lease_wire_v2.specs.LeaseData.{lease_in}
use Rattle.lease_wire_v2.specs.DurableData.{durable_in, grant_in, reconnect_in}
use Rattle.lease_wire_v2.specs.Names.{Meaning, CreateView, HaveValue, meaning_of, is_directed}
use Rattle.lease_wire_v2.specs.Names.{first_meaning, second_lease, lease_meaning, durable_meaning, reconnect_meaning}
use Rattle.lease_wire_v2.specs.Names.{lease_part, durable_part, reconnect_part, durable_name, reconnect_name}
use Rattle.lease_wire_v2.specs.Names.DurableView.{Asked, Granted}
use Rattle.lease_wire_v2.specs.Names.ReconnectView.{SecondId}
use Rattle.lease_wire_v2.specs.Names.Meaning.{WrongLength, Lease, Durable, Reconnect}

abbrev MeansDirected : Direction → Meaning → Type 0
MeansDirected Request (Lease lease) = lease.breaking ≡ false
MeansDirected direction (Durable durable) = is_directed direction durable ≡ true
MeansDirected Reply (Reconnect reconnect) = ⊥
MeansDirected _ _ = Unit {0}

if_either : {X : Type 0} (P : X → Type 0) (b : Bool) (x y : X) → P x → P y → P (if b then x else y)
if_either P true x y first second = first
if_either P false x y first second = second

first_directed : (direction : Direction) (context : ContextView)
    → MeansDirected direction (first_meaning (first_meaning_of direction context))
unfolding first_meaning_of
first_directed direction context = grind arith

-- the three meanings that a length chooses from
either_length : (direction : Direction) (n m : ℕ) (x y : Meaning) → MeansDirected direction x → MeansDirected direction y
    → MeansDirected direction (if n == m then x else if n == 32 then y else WrongLength)
either_length direction n m x y first second = if_either (MeansDirected direction) (n == m) x
    (if n == 32 then y else WrongLength) first (if_either (MeansDirected direction) (n == 32) y WrongLength second
    (wrong direction))
  where
    wrong : (direction : Direction) → MeansDirected direction WrongLength
    wrong Request = tt
    wrong Reply = tt

lease_directed : (direction : Direction) (context : ContextView) → MeansDirected direction (lease_meaning direction context)
lease_directed Request context = either_length Request (length context.body) 52
    (Lease (second_lease (lease_in Request context.body)))
    (first_meaning (first_meaning_of Request context)) refl (first_directed Request context)
lease_directed Reply context = either_length Reply (length context.body) 52 (Lease (second_lease (lease_in Reply context.body)))
    (first_meaning (first_meaning_of Reply context)) tt (first_directed Reply context)

durable_directed : (direction : Direction) (body : List ℕ) → MeansDirected direction (durable_meaning direction body)
durable_directed Request body =
    if_either (MeansDirected Request) (length body == 32) (Durable (Asked (durable_in body))) WrongLength refl tt
durable_directed Reply body =
    if_either (MeansDirected Reply) (length body == 8) (Durable (Granted (grant_in body))) WrongLength refl tt

reconnect_directed : (direction : Direction) (body : List ℕ) → MeansDirected direction (reconnect_meaning direction body)
reconnect_directed Request body =
    if_either (MeansDirected Request) (length body == 36) (Reconnect (SecondId (reconnect_in body))) WrongLength tt tt
reconnect_directed Reply body = tt

meaning_directed : (direction : Direction) (context : ContextView) → MeansDirected direction (meaning_of direction context)
unfolding meaning_of
meaning_directed direction context =
    let known : Meaning = first_meaning (first_meaning_of direction context) in
    let reconnect : Meaning = if bytes_eq context.name reconnect_name then reconnect_meaning direction context.body else known in
    let durable : Meaning = if bytes_eq context.name durable_name then durable_meaning direction context.body else reconnect in
    let P : Meaning → Type 0 = MeansDirected direction in
    let is_reconnect : P reconnect = if_either P (bytes_eq context.name reconnect_name) (reconnect_meaning direction context.body)
    known (reconnect_directed direction context.body) (first_directed direction context) in
    let is_durable : P durable = if_either P (bytes_eq context.name durable_name) (durable_meaning direction context.body)
    reconnect
    (durable_directed direction context.body) is_reconnect in
    if_either P (bytes_eq context.name first.lease_name) (lease_meaning direction context) durable
    (lease_directed direction context)
    is_durable

-- what holds of what each context says holds of the first of all that they say
module _ {X : Type 0} (part : ContextView → Option X) (P : X → Type 0)
    (each : (context : ContextView) → IfSome (part context) P) where
  by_part : (said : Option X) → IfSome said P → (contexts : List ContextView) (x : X) (xs : List X)
      → ((ys : List X) → filter_map part contexts ≡ x ∷ ys → P x)
      → cons_option said (filter_map part contexts) ≡ x ∷ xs → P x
  by_part None is contexts x xs further e = further xs e
  by_part (Some y) is contexts x xs further e = let same : y ≡ x = cc in subst P same is

  of_first : (contexts : List ContextView) (x : X) (xs : List X) → filter_map part contexts ≡ x ∷ xs → P x
  of_first [] x xs e = cc
  of_first (context ∷ contexts) x xs e = by_part (part context) (each context) contexts x xs
      (λ ys is. of_first contexts x ys is) e

  pub of_held : (contexts : List ContextView) (held : Option X) → filter_map part contexts ≡ option_to_list held → IfSome held P
  of_held contexts None e = tt
  of_held contexts (Some x) e = of_first contexts x [] e

calm_part : (meaning : Meaning) → MeansDirected Request meaning → IfSome (lease_part meaning) (λ lease. lease.breaking ≡ false)
calm_part meaning is = grind arith

durable_is : (direction : Direction) (meaning : Meaning) → MeansDirected direction meaning
    → IfSome (durable_part meaning) (λ durable. is_directed direction durable ≡ true)
durable_is direction meaning is = grind arith

no_reconnect : (meaning : Meaning) → MeansDirected Reply meaning → IfSome (reconnect_part meaning) (λ reconnect. ⊥)
no_reconnect meaning is = grind arith

pub calm_lease : (contexts : List ContextView) (v : CreateView) → HaveValue Request contexts v
    → IfSome v.lease (λ lease. lease.breaking ≡ false)
calm_lease contexts v have = of_held (λ context. lease_part (meaning_of Request context)) (λ lease. lease.breaking ≡ false)
    (λ context. calm_part (meaning_of Request context) (meaning_directed Request context)) contexts v.lease have.lease

pub directed_durable : (direction : Direction) (contexts : List ContextView) (v : CreateView) → HaveValue direction contexts v
    → IfSome v.durable (λ durable. is_directed direction durable ≡ true)
directed_durable direction contexts v have = of_held (λ context. durable_part (meaning_of direction context))
    (λ durable. is_directed direction durable ≡ true)
    (λ context. durable_is direction (meaning_of direction context) (meaning_directed direction context)) contexts v.durable
    have.durable

never : {X : Type 0} (held : Option X) → IfSome held (λ x. ⊥) → held ≡ None
never None is = refl
never (Some x) is = absurd is

pub without_reconnect : (contexts : List ContextView) (v : CreateView) → HaveValue Reply contexts v → v.reconnect ≡ None
without_reconnect contexts v have = never v.reconnect
    (of_held (λ context. reconnect_part (meaning_of Reply context)) (λ reconnect. ⊥)
    (λ context. no_reconnect (meaning_of Reply context) (meaning_directed Reply context)) contexts v.reconnect have.reconnect)
