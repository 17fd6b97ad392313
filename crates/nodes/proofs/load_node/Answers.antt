-- `nodes::load_node`: the record is read, then the definition's rest.
use Rattle.std.proofs.lemmas.Result.{err_from_is_err_and}
use Rattle.base.proofs.Tells.{number-ne}
use Rattle.base.specs.Told.{number}
use mathlib.Core.Path.{refl}
use mathlib.Core.Path.{◌≡◌, ap, ◌∙◌}
use Prim.Native.Nat.{◌*◌}
use native.Mathlib.Omega.{arith}
use lib.ListN.{replicate}
use borrow.Author.Rules.{rules}
use Rattle.base.proofs.Parts.{part-whole}
use Rattle.structs.specs.Layout.{record_of}
use Rattle.overlay.specs.View.{view}
use Rattle.files.specs.Read.{read_file}
use Rattle.sefs.specs.Meta.{meta_file}
use Rattle.mem.specs.State.{fs_of}
use Rattle.nodes.proofs.Common.{ok-refused, went-answer, read_ok}
use Rattle.nodes.proofs.Nodes.{load-stop, load_is}
use Rattle.nodes.proofs.load_node.Goals as goal

pub returns-in_err-read : goal.returns-in_err-read
unfolding fs_of
returns-in_err-read c =
    let p = err_from_is_err_and c.from_residual.result c.from_residual.ensures.1 in
    rw (p.1, p.2) (let l = c.read.new.out in
    let g = went-answer (read_file (view c.args.arena.now c.args.work.now) meta_file (128 * c.args.id) 112) l (replicate 112 0) Unit (number c.in_err-read.field-0.0) (λ n q. omega (arith, ok-refused (read_ok (view c.args.arena.now c.args.work.now) meta_file (128 * c.args.id) 112) n q)) (rw c.index.ensures at c.in_err-read.ensures.value) (rw c.index.ensures at c.in_err-read.ensures.out_after) tt in
    load-stop (view c.args.arena.now c.args.work.now) c.args.mem.now c.args.id (number c.in_err-read.field-0.0) l g _ _ (number-ne c.in_err-read.field-0.0))

pub returns : goal.returns
unfolding fs_of
returns c =
    let l = c.read.new.out in
    let g = went-answer (read_file (view c.args.arena.now c.args.work.now) meta_file (128 * c.args.id) 112) l (replicate 112 0) Unit 0 (λ n q. omega (arith, ok-refused (read_ok (view c.args.arena.now c.args.work.now) meta_file (128 * c.args.id) 112) n q)) (rw c.index.ensures at c.in_ok-read.ensures.value) (rw c.index.ensures at c.in_ok-read.ensures.out_after) tt in
    let e : c.disk_inode_at.result ≡ record_of l = c.disk_inode_at.ensures ∙ ap record_of (part-whole l 112 (search rules)) in
    rw (load_is (view c.args.arena.now c.args.work.now) c.args.mem.now c.args.id 0 l g refl, ← e) c.open_read.ensures
