-- Comment lines behind the record of a run.
use Rattle.std.specs.Prelude.{ℕ, ◌++◌, List, [], ◌∷◌, codes}
use Rattle.lease_state.specs.declared.rules.{Order.Order, Rise.Rise, Rules.Rules}
use Rattle.lease_texts.specs.{Kinds.line, Kinds.say, Lines.line_text, declared.kinds.Field.Field}

-- the rules of a server, where they aren't the profile's
abbrev pub rules_remark : Order → Rise → List ℕ
rules_remark Order.ByClient Rise.AsFree = []
rules_remark by how = line_text (line (codes "# rules") (say Field.Rules (record { order = by; rise = how }) ∷ []))

-- what stands behind the record of a run that is safe
abbrev pub safe_end : Rules → List ℕ
safe_end rules = rules_remark rules.order rules.rise ++ (codes "# safe" ++ 10 ∷ [])
