-- `nodes_read::record_of`: the stored bytes.
use Rattle.std.proofs.lemmas.Result.{err_from_is_err_and}
use Rattle.base.proofs.Tells.{number-ne}
use mathlib.Core.Path.{refl}
use mathlib.Core.Path.{◌≡◌, ap, ◌∙◌}
use Rattle.base.proofs.Parts.{part-whole}
use Rattle.structs.specs.Layout.{record_of}
use Rattle.nodes_read.proofs.Records.{noted-stop, noted-done}
use borrow.Author.Rules.{rules}
use Rattle.nodes_read.proofs.record_of.Goals as goal

pub returns-in_err-read_meta : goal.returns-in_err-read_meta
returns-in_err-read_meta c =
    let p = err_from_is_err_and c.from_residual.result c.from_residual.ensures.1 in
    rw (p.1, p.2) (let g = rw c.index.ensures at c.in_err-read_meta.ensures in
    noted-stop c.args.arena.now c.args.id g _ (number-ne c.in_err-read_meta.field-0.0))

pub returns : goal.returns
returns c =
    let l = c.read_meta.new.out in
    let g = rw c.index.ensures at c.in_ok-read_meta.ensures in
    let e : c.disk_inode_at.result ≡ record_of l = c.disk_inode_at.ensures ∙ ap record_of (part-whole l 112 (search rules)) in
    noted-done c.args.arena.now c.args.id g _ refl e
