-- `plans::put_bytes`: the definition's two cases.
use mathlib.Core.Path.{◌≡◌}
use native.Mathlib.Omega.{arith}
use Rattle.arena.specs.Fields.{file}
use Rattle.files_laws.proofs.Views.{present-at}
use Rattle.plans.proofs.Plans.{block-there}
use Rattle.plans.proofs.Puts.{write-old, write_new}
use Rattle.plans.proofs.put_bytes.Goals as goal

pub edit-requires : goal.edit-requires
edit-requires c =
    let b = block-there c.args.arena.now (file c.args.which c.args.name.now) c.args.q c.args.found c.requires.found_value.0 c.if-found-gt0.true in
    (omega (arith, present-at c.args.arena.now (file c.args.which c.args.name.now) c.args.q b.0, b.1), c.requires.src_bound.0)

pub returns-then-found-gt0 : goal.returns-then-found-gt0
returns-then-found-gt0 c =
    let t = c.if-found-gt0.true in
    (write-old c.args.arena.now (file c.args.which c.args.name.now) c.args.q c.args.off c.args.src.now c.args.found c.requires.found_value.0 _ t c.edit.ensures, (c.requires.found_value.1.0, λ z. absurd (omega (arith, t))))

pub write_new-requires : goal.write_new-requires
write_new-requires c =
    (omega (arith, c.next_free-k.ensures, c.requires.found_value.1.1 (omega (arith, c.if-found-gt0.false))), c.requires.src_bound.0)

pub returns : goal.returns
returns c =
    let k = c.next_free-k in
    let z : c.args.found ≡ 0 = omega (arith, c.if-found-gt0.false) in
    (write_new c.args.arena.now (file c.args.which c.args.name.now) c.args.q c.args.off c.args.src.now c.args.found c.requires.found_value.0 _ k.result z k.ensures (omega (arith, k.ensures, c.requires.found_value.1.1 z)) c.write_new.ensures, (omega (arith, k.ensures), λ _. k.ensures))
