-- `nodes_read::meta::read_all`: the superblock, its groups, the maps.
use Rattle.std.proofs.lemmas.Result.{err_from_is_err_and}
use Rattle.base.proofs.Tells.{number-ne}
use mathlib.Core.Path.{refl}
use mathlib.Core.Path.{ap, ◌∙◌, sym}
use native.Mathlib.Omega.{arith}
use Rattle.base.proofs.Outs.{went-is}
use Rattle.structs.specs.declared.SuperBlock.{SuperBlock}
use Rattle.nodes.proofs.Common.{part-agree}
use Rattle.nodes_read.proofs.Loads.{super-is, meta-stop, meta-few, meta-many, meta-read}
use Rattle.nodes_read.proofs.meta.read_all.Goals as goal

pub returns-in_err-load_super : goal.returns-in_err-load_super
returns-in_err-load_super c =
    let p = err_from_is_err_and c.from_residual.result c.from_residual.ensures.1 in
    rw (p.1, p.2) (record { went = meta-stop c.args.arena.now _ _ c.in_err-load_super.ensures.went _ _ (number-ne c.in_err-load_super.field-0.0); mem_unchanged = c.in_err-load_super.ensures.mem_unchanged })

pub returns-then-groups-eq0 : goal.returns-then-groups-eq0
returns-then-groups-eq0 c =
    let m = c.load_super.new.mem in
    let e = ap (λ (b : SuperBlock). b.groups) (c.super_block_at-groups.ensures ∙ super-is m) in record { went = meta-few c.args.arena.now m (went-is c.in_ok-load_super.ensures.went refl) _ _ (sym e ∙ c.if-groups-eq0.true); mem_unchanged = c.in_ok-load_super.ensures.mem_unchanged }

pub returns-then-groups-gt4 : goal.returns-then-groups-gt4
returns-then-groups-gt4 c =
    let m = c.load_super.new.mem in
    let e = ap (λ (b : SuperBlock). b.groups) (c.super_block_at-groups.ensures ∙ super-is m) in record { went = meta-many c.args.arena.now m (went-is c.in_ok-load_super.ensures.went refl) _ _ (omega (arith, c.if-groups-gt4.true)); mem_unchanged = c.in_ok-load_super.ensures.mem_unchanged }

pub returns : goal.returns
returns c =
    let n = c.load_maps.new.mem in
    let m = c.load_super.new.mem in
    let e = ap (λ (b : SuperBlock). b.groups) (c.super_block_at-groups.ensures ∙ super-is m) in record { went = meta-read c.args.arena.now m (went-is c.in_ok-load_super.ensures.went refl) n (λ z. c.if-groups-eq0.false (e ∙ z)) (omega (arith, c.if-groups-gt4.false)) c.load_maps.ensures.mem_unchanged (rw (c.index.ensures ∙ e) at c.load_maps.ensures.went); mem_unchanged = part-agree n m 4419 0 4403 (omega arith) c.load_maps.ensures.mem_unchanged ∙ c.in_ok-load_super.ensures.mem_unchanged }
