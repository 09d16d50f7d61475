use Rattle.lease_laws.proofs.Words.{has_key, inl, refl}
use Rattle.lease_manager.proofs.waits.Counted.{forgotten_home, forgotten_none}
use Rattle.lease_manager.proofs.tables.still.forget_home.Goals as goal

pub returns-then-is_empty : goal.returns-then-is_empty
returns-then-is_empty c = λ opens agree file. inl (c.is_empty.ensures c.if-is_empty.true file)

pub returns-in-Some : goal.returns-in-Some
returns-in-Some c = λ opens agree.
    forgotten_home c.args.key opens c.args.waiting.now c.forget.new.self c.in-Some.file.0 c.forget.ensures
    (c.in-Some.ensures opens agree)

pub returns-in-None : goal.returns-in-None
returns-in-None c = λ opens agree.
    forgotten_none (has_key c.args.key) opens c.args.waiting.now c.args.waiting.now refl (c.in-None.ensures opens agree)
