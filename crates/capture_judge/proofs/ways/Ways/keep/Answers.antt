use Rattle.std.proofs.Common.{◌≡◌, refl, ap, ◌∙◌, arith}
use Rattle.std.proofs.lemmas.Option.{slice_get_within, get_or_from_slice_get}
use Rattle.capture_judge.specs.declared.ways.Way.{Way}
use Rattle.capture_judge.proofs.calm.Keeping.{keeps, crowded}
use Rattle.capture_judge.proofs.ways.Ways.keep.Goals as goal

pub returns-then-len-ge-WAY_LIMIT : goal.returns-then-len-ge-WAY_LIMIT
returns-then-len-ge-WAY_LIMIT c = crowded c.args.chains.now c.args.self.now c.args.way c.args.step c.args.came.items
    c.requires.search c.requires.may (let size = c.args.self.now.ways.ok.0 in let is = c.len.ensures
    in let full = c.if-len-ge-WAY_LIMIT.true in omega (arith, size, is, full))

pub index-requires : goal.index-requires
index-requires c =
    let inside = slice_get_within c.args.self.now.ways.items c.args.way c.requires.may.from c.requires.may.at
    in let size = c.args.self.now.ways.ok.0 in omega (arith, size, inside)

pub returns : goal.returns
returns c =
    let link : c.index.result.now ≡ c.requires.may.from =
    c.index.ensures ∙ get_or_from_slice_get c.args.self.now.ways.items c.args.way c.requires.may.from _ c.requires.may.at
    in keeps c.args.chains.now c.args.self.now
    (record { ways = c.push-2.new.self; trail = c.push.new.self }) c.args.way c.args.step
    c.args.came.items (record { came = c.args.came; link = c.len-link.result }) c.index.result.now.link c.requires.search
    c.requires.may
    (let size = c.args.self.now.ways.ok.0 in let is = c.len.ensures in let room = c.if-len-ge-WAY_LIMIT.false in omega (
      arith,
      size,
      is,
      room,
    ))
    (ap (λ (w : Way). w.link) link) c.in_ok-push.ensures.items c.in_ok-push-2.ensures.items refl
    (let size = c.args.self.now.trail.ok.0 in let is = c.len-link.ensures in let more = c.in_ok-push.ensures.len
    in omega (arith, size, is, more))
