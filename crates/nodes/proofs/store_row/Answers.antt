-- `nodes::store_row`: the record's bytes in memory are those that are stored.
use Rattle.std.proofs.lemmas.Result.{err_from_is_err_and}
use Rattle.base.proofs.Tells.{number-ne}
use Rattle.base.specs.Told.{number}
use mathlib.Core.Path.{refl}
use Prim.Native.Nat.{◌+◌, ◌*◌}
use native.Mathlib.Omega.{arith}
use lib.ListN.{length}
use borrow.Author.Rules.{rules}
use Rattle.base.specs.Parts.{part}
use Rattle.base.proofs.Lists.{length_part}
use Rattle.files.proofs.Puts.{touched-few}
use Rattle.nodes.proofs.Nodes.{store-stop, store-done}
use Rattle.nodes.proofs.store_row.Goals as goal

pub put-requires : goal.put-requires
put-requires c =
    let l = 117 * c.args.i + 5 in
    let n = length_part c.args.mem.now l (l + 112) (omega arith) (omega (arith, c.requires.0.whole.size)) in
    let k = touched-few (128 * c.index-at.result) (length (part c.args.mem.now l (l + 112))) (omega (arith, n)) in record { fine = (c.requires.0.fine, omega (arith, k)); name_len = (refl, omega (arith, n)) }

pub returns-in_err-put : goal.returns-in_err-put
returns-in_err-put c =
    let p = err_from_is_err_and c.from_residual.result c.from_residual.ensures.1 in
    rw (p.1, p.2) (store-stop c.args.arena.now c.args.work.now c.put.new.work c.args.mem.now c.args.i (number c.in_err-put.field-0.0) (λ j. search rules) c.requires.0.whole.size c.requires.1.1 (rw (c.index-at.ensures, c.id_at.ensures) at c.in_err-put.ensures) c.args.mem.now (number-ne c.in_err-put.field-0.0))

pub returns : goal.returns
returns c =
    store-done c.args.arena.now c.args.work.now c.put.new.work c.args.mem.now c.args.i 0 (λ j. search rules) c.requires.0.whole.size c.requires.1.1 (rw (c.index-at.ensures, c.id_at.ensures) at c.in_ok-put.ensures) c.put_dirty.new.mem refl c.put_dirty.ensures
