-- `range_stores::make_blocks`: after k turns the blocks of the first k pieces.
use mathlib.Core.Path.{◌≡◌, subst}
use Prim.Native.Nat.{ℕ, ◌<◌}
use native.Mathlib.Omega.{arith}
use Rattle.base.specs.Out.{done}
use Rattle.arena.specs.Fields.{file}
use Rattle.pieces.specs.Made.{made_to}
use Rattle.pieces.specs.Pieces.{pieces}
use Rattle.range_stores.proofs.Makes.{made-starts, made_more, piece-goes, piece-makable, piece-stays, piece-ends}
use Rattle.range_stores.proofs.make_blocks.Goals as goal

pub loop-k-init : goal.loop-k-init
loop-k-init c =
    (c.requires.exists, made-starts c.args.arena.now (file 1 c.args.name.now) c.args.dst c.args.n c.requires.long, c.requires.places, omega arith)

pub make_piece-from-requires : goal.make_piece-from-requires
make_piece-from-requires c =
    let f = file 1 c.args.name.now in
    let r = piece-ends c.args.dst c.args.n c.loop-k.k _ (omega arith) c.falling-s.ensures in
    piece-makable c.loop-k.arena f c.args.dst c.args.n c.loop-k.plan (omega (arith, c.requires.most, c.loop-k.auto.arena)) c.loop-k.invariant.0 c.requires.range
    (omega (arith, c.requires.few, c.loop-k.auto.plan)) c.loop-k.invariant.2 c.loop-k.k c.loop-k.from _ _ r.0 r.1 c.loop-k.invariant.3
    (omega arith)
    (piece-goes c.args.arena.now f c.args.dst c.args.n c.requires.goes c.loop-k.k c.loop-k.arena (omega arith)
    c.loop-k.invariant.1)

pub loop-k-preserved : goal.loop-k-preserved
loop-k-preserved c =
    let f = file 1 c.args.name.now in
    let t : c.loop-k.k < pieces c.args.n = omega arith in
    let r = piece-ends c.args.dst c.args.n c.loop-k.k _ t c.falling-s.ensures in (
      piece-stays c.loop-k.arena f c.args.dst c.args.n c.loop-k.k _ _ _ c.loop-k.invariant.0 c.requires.range t r.0 r.1 c.make_piece-from.ensures.0,
      made_more c.args.arena.now f c.args.dst c.args.n c.loop-k.k c.loop-k.arena _ _ _ r.0 r.1 c.loop-k.invariant.1 c.make_piece-from.ensures.0,
      λ i h. c.make_piece-from.ensures.1.1 i (c.loop-k.invariant.2 i h),
      c.make_piece-from.ensures.1.0,
    )

pub returns : goal.returns
returns c =
    let e : c.loop-k.k ≡ pieces c.args.n = omega arith in
    (subst (λ (x : ℕ). made_to c.args.arena.now (file 1 c.args.name.now) c.args.dst c.args.n x ≡ done c.loop-k.arena) e c.loop-k.invariant.1, c.loop-k.invariant.2)
