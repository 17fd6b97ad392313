-- `nodes_read::load_node`: the record is read, then the definition's rest.
use Rattle.std.proofs.lemmas.Result.{err_from_is_err_and}
use Rattle.base.proofs.Tells.{number-ne}
use Rattle.base.specs.Told.{number}
use mathlib.Core.Path.{refl}
use mathlib.Core.Path.{◌≡◌, ap, ◌∙◌}
use Rattle.base.proofs.Outs.{went-weaken}
use Rattle.base.proofs.Parts.{part-whole}
use Rattle.structs.specs.Layout.{record_of}
use Rattle.nodes.proofs.Nodes.{load-stop, load_is}
use borrow.Author.Rules.{rules}
use Rattle.nodes_read.proofs.load_node.Goals as goal

pub returns-in_err-read_meta : goal.returns-in_err-read_meta
returns-in_err-read_meta c =
    let p = err_from_is_err_and c.from_residual.result c.from_residual.ensures.1 in
    rw (p.1, p.2) (let l = c.read_meta.new.out in
    let g = went-weaken {Q = Unit} (λ _. tt) (rw c.index.ensures at c.in_err-read_meta.ensures) in
    load-stop c.args.arena.now c.args.mem.now c.args.id (number c.in_err-read_meta.field-0.0) l g _ _ (number-ne c.in_err-read_meta.field-0.0))

pub returns : goal.returns
returns c =
    let l = c.read_meta.new.out in
    let g = went-weaken {Q = Unit} (λ _. tt) (rw c.index.ensures at c.in_ok-read_meta.ensures) in
    let e : c.disk_inode_at.result ≡ record_of l = c.disk_inode_at.ensures ∙ ap record_of (part-whole l 112 (search rules)) in
    rw (load_is c.args.arena.now c.args.mem.now c.args.id 0 l g refl, ← e) c.open_read.ensures
