-- `files::store::zero_tail`: the definition's two cases.
use mathlib.Core.Path.{sym, ap, ◌∙◌}
use mathlib.Core.List.{List}
use Prim.Native.Nat.{ℕ, ◌+◌, ◌-◌, ◌%◌}
use lib.ListN.{length, replicate}
use Rattle.base.specs.Parts.{paste}
use Rattle.arena.specs.Fields.{file}
use Rattle.overlay.proofs.Views.{length-blk_of}
use Rattle.files.proofs.Blocks.{changed-no-tail, changed-tail}
use Rattle.files.proofs.store.zero_tail.Goals as goal

pub returns-then-k-arena : goal.returns-then-k-arena
returns-then-k-arena c =
    changed-no-tail _ _ c.requires.fine.0 (file c.args.which c.args.name.now) _ _ c.find_data-k.ensures c.if-k-arena.true

pub copy-requires : goal.copy-requires
copy-requires c =
    sym (ap length c.block.ensures ∙ length-blk_of _ _ c.requires.fine.0 _ c.if-k-arena.false)

pub returns : goal.returns
returns c =
    let len = c.args.len in
    changed-tail _ _ c.requires.fine.0 (file c.args.which c.args.name.now) len _ _ _ c.find_data-k.ensures c.if-k-arena.false c.requires.fine.1
    (c.clear_from.ensures ∙ ap (λ (x : List ℕ). paste x (24 + len % 480) (replicate (480 - len % 480) 0)) (c.copy.ensures ∙ c.block.ensures))
    c.store.ensures
