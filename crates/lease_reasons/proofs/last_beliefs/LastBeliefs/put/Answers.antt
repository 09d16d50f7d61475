use Rattle.lease_laws.proofs.Words.{◌++◌, ◌∙◌, ◌∷◌, Bool, ℕ, [], ap, arith, get_or, if◌then◌else◌, slice_set, sym}
use Rattle.lease_reasons.proofs.Tables.{belief-put}
use Rattle.lease_reasons.proofs.last_beliefs.LastBeliefs.put.Goals as goal

pub returns-in_ok-push : goal.returns-in_ok-push
returns-in_ok-push c =
    let there = c.in_ok-reach_file.ensures.there in
    belief-put c.args.file c.args.belief c.args.self.now _ c.reach_file.new.rows.items c.index_mut-row.result.now c.put.new.self
    c.reach_file.ensures.same (omega (arith, there, c.reach_file.new.rows.ok))
    (c.index_mut-row.ensures.value ∙ ap (λ (n : ℕ). get_or c.reach_file.new.rows.items n c.index_mut-row.result.now)
    c.from.ensures) c.in_ok-put.ensures
    (ap (λ (n : ℕ). slice_set c.reach_file.new.rows.items n c.put.new.self) c.from.ensures)
    (c.in_ok-push.ensures.items ∙ ap (λ (b : Bool). if b then c.args.self.now.files.items ++ c.args.file ∷ []
    else c.args.self.now.files.items) (sym c.if-is_first.true ∙ c.is_empty-is_first.ensures))

pub returns-else-is_first : goal.returns-else-is_first
returns-else-is_first c =
    let there = c.in_ok-reach_file.ensures.there in
    belief-put c.args.file c.args.belief c.args.self.now _ c.reach_file.new.rows.items c.index_mut-row.result.now c.put.new.self
    c.reach_file.ensures.same (omega (arith, there, c.reach_file.new.rows.ok))
    (c.index_mut-row.ensures.value ∙ ap (λ (n : ℕ). get_or c.reach_file.new.rows.items n c.index_mut-row.result.now)
    c.from.ensures) c.in_ok-put.ensures
    (ap (λ (n : ℕ). slice_set c.reach_file.new.rows.items n c.put.new.self) c.from.ensures)
    (ap (λ (b : Bool). if b then c.args.self.now.files.items ++ c.args.file ∷ []
    else c.args.self.now.files.items) (sym c.if-is_first.false ∙ c.is_empty-is_first.ensures))
