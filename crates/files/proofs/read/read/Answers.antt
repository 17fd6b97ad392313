-- `files::read::read`: the definition's cases.
use mathlib.Core.Path.{◌≡◌, ap, ◌∙◌}
use native.Mathlib.Omega.{arith}
use lib.ListN.{length}
use Rattle.base.specs.Parts.{tab}
use Rattle.base.proofs.Outs.{refused_says, done-says}
use Rattle.arena.specs.Fields.{file, number_of}
use Rattle.overlay.specs.View.{view}
use Rattle.overlay.proofs.Views.{length-blk_of}
use Rattle.files.specs.Read.{length_of, byte_at}
use Rattle.files.proofs.Finds.{there-yes, there-no, length-here}
use Rattle.files.proofs.Runs.{read-missing, read_short, read_done}
use Rattle.files.proofs.read.read.Goals as goal
use Rattle.files.proofs.read.read.Goals.{After-index-len}

pub returns-then-k-arena : goal.returns-then-k-arena
returns-then-k-arena c =
    let d = refused_says c.args.out.now (read-missing (view c.args.arena.now c.args.work.now) (file c.args.which c.args.name.now) c.args.pos (length c.args.out.now) (there-no _ _ c.requires.0 (file c.args.which c.args.name.now) _ c.find_head-k.ensures c.if-k-arena.true)) in
    record { value = d.0; out_after = d.1 }

pub u32_at-requires : goal.u32_at-requires
u32_at-requires c =
    omega (arith, ap length c.block.ensures, length-blk_of _ _ c.requires.0 _ c.if-k-arena.false)

length-is : (c : After-index-len) → c.index-len.result ≡ length_of (view c.args.arena.now c.args.work.now) (file c.args.which c.args.name.now)
length-is c = length-here _ _ c.requires.0 (file c.args.which c.args.name.now) _ _ c.find_head-k.ensures c.if-k-arena.false (c.index-len.ensures ∙ c.u32_at.ensures ∙ ap number_of c.block.ensures)

pub returns-then-len-pos : goal.returns-then-len-pos
returns-then-len-pos c =
    let y = there-yes _ _ c.requires.0 (file c.args.which c.args.name.now) _ c.find_head-k.ensures c.if-k-arena.false in
    let d = refused_says c.args.out.now (read_short (view c.args.arena.now c.args.work.now) (file c.args.which c.args.name.now) c.args.pos (length c.args.out.now) y (omega (arith, length-is (goal.at.returns-then-len-pos c).After-index-len))) in
    record { value = d.0; out_after = d.1 }

pub returns-then-len-pos-2 : goal.returns-then-len-pos-2
returns-then-len-pos-2 c =
    let y = there-yes _ _ c.requires.0 (file c.args.which c.args.name.now) _ c.find_head-k.ensures c.if-k-arena.false in
    let d = refused_says c.args.out.now (read_short (view c.args.arena.now c.args.work.now) (file c.args.which c.args.name.now) c.args.pos (length c.args.out.now) y (omega (arith, length-is (goal.at.returns-then-len-pos-2 c).After-index-len))) in
    record { value = d.0; out_after = d.1 }

pub returns : goal.returns
returns c =
    let y = there-yes _ _ c.requires.0 (file c.args.which c.args.name.now) _ c.find_head-k.ensures c.if-k-arena.false in
    let v = view c.args.arena.now c.args.work.now in
    let f = file c.args.which c.args.name.now in
    let n = length c.args.out.now in
    let d = done-says c.args.out.now (read_done v f c.args.pos n y (omega (arith, length-is (goal.at.returns c).After-index-len))) in record { value = d.0; out_after = ◌∙◌ {b = tab (byte_at v f) c.args.pos n} c.read_run.ensures d.1 }
