-- The leases that a request wants broken: those of the opens that pass its test, each once, in order.
use Rattle.std.specs.Prelude.{◌≡◌, ⊤, true, Bool, List, [], ◌∷◌}
use Rattle.lease_state.specs.State.{State}
use Rattle.lease_model.specs.server.State.{Server, Open, has_key}
use Rattle.lease_model.specs.server.Wants.{Want, wants_where}
use Rattle.lease_model.specs.values.Keys.{key_before}
use Rattle.lease_laws.specs.server.Laws.{Among}

-- strictly in order: the key of each want stands before those of all wants after it
abbrev pub AreInKeyOrder : List Want → Type 0
AreInKeyOrder [] = ⊤
AreInKeyOrder (want ∷ wants) =
    ((other : Want) → Among other wants → key_before want.key other.key ≡ true) × AreInKeyOrder wants

-- an open that passes the test has the want's key, whose state is to be so lowered
pub record IsWantedFor (server : Server) (test : Open → Bool) (lowering : State → State) (want : Want) : Type 0
  where
    pub one : Open
    pub is_there : Among one server.opens
    pub passes : test one ≡ true
    pub has_the_key : has_key want.key one ≡ true
    pub is_lowered_so : want.lowered ≡ lowering (server.leases want.key).state

-- The wants of a test.
pub record AreWanted (server : Server) (test : Open → Bool) (lowering : State → State) (wants : List Want) : Type 0
  where
    pub in_order : AreInKeyOrder wants
    pub only : (want : Want) → Among want wants → IsWantedFor server test lowering want
    pub all : (want : Want) → IsWantedFor server test lowering want → Among want wants

abbrev pub WantsAreExact : Type 0
WantsAreExact = (server : Server) (test : Open → Bool) (lowering : State → State)
    → AreWanted server test lowering (wants_where server test lowering)
