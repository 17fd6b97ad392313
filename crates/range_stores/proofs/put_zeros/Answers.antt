-- `range_stores::put_zeros`: the length first; after i turns the first i blocks.
use mathlib.Core.Path.{◌≡◌}
use Prim.Native.Nat.{ℕ}
use native.Mathlib.Omega.{arith}
use lib.ListN.{length, replicate, length-replicate}
use Rattle.arena.specs.Fields.{file}
use Rattle.files_laws.proofs.Views.{there-at}
use Rattle.plans.proofs.Plans.{touched-lies}
use Rattle.range_stores.proofs.Runs.{zero-zeros, zeros-first, run_holds, run-turn, zeros-whole}
use Rattle.range_stores.proofs.put_zeros.Goals as goal

pub returns-then-n-eq0 : goal.returns-then-n-eq0
returns-then-n-eq0 c = zero-zeros c.args.arena.now (file 1 c.args.name.now) c.args.pos c.args.n c.if-n-eq0.true

pub raise-requires : goal.raise-requires
raise-requires c = omega (arith, there-at c.args.arena.now (file 1 c.args.name.now) c.requires.n_bound.1.0, c.requires.n_bound.1.1)

pub zero_block-from-requires : goal.zero_block-from-requires
zero_block-from-requires c =
    let f = file 1 c.args.name.now in
    let a = c.args.arena.now in
    let z : length {A = ℕ} (replicate c.args.n 0) ≡ c.args.n = length-replicate {A = ℕ} c.args.n 0 in
    let so = c.loop-i.invariant a c.requires.n_bound.1.0 c.requires.planned
    (zeros-first a f c.args.pos c.args.n c.args.k _ c.requires.n_bound.1.0 c.requires.n_bound.1.1 c.raise.ensures) in
    let t = touched-lies c.args.pos c.args.n c.loop-i.i (omega (arith, c.touched-t.ensures)) in
    let h = run_holds a f c.args.pos c.args.n (replicate c.args.n 0) z c.requires.n_bound.1.0 c.requires.n_bound.0 c.args.plan.now c.requires.planned c.loop-i.i c.loop-i.arena
    (omega (arith, c.touched-t.ensures)) so.0 _ c.from.ensures in record { n_bound = (c.requires.n_bound.0, (t.0, t.1)); found_value = (h.0, (so.1, h.1)) }

pub loop-i-preserved : goal.loop-i-preserved
loop-i-preserved c =
    let f = file 1 c.args.name.now in
    let z : length {A = ℕ} (replicate c.args.n 0) ≡ c.args.n = length-replicate {A = ℕ} c.args.n 0 in
    λ a w P e. run-turn a f c.args.pos c.args.n (replicate c.args.n 0) z w c.requires.n_bound.0 c.args.plan.now P c.loop-i.i c.loop-i.arena
    (omega (arith, c.touched-t.ensures)) (c.loop-i.invariant a w P e).0 _ _ c.zero_block-from.ensures.0 c.zero_block-from.ensures.1

pub returns : goal.returns
returns c =
    let f = file 1 c.args.name.now in
    let a = c.args.arena.now in
    let z : length {A = ℕ} (replicate c.args.n 0) ≡ c.args.n = length-replicate {A = ℕ} c.args.n 0 in
    let so = c.loop-i.invariant a c.requires.n_bound.1.0 c.requires.planned
    (zeros-first a f c.args.pos c.args.n c.args.k _ c.requires.n_bound.1.0 c.requires.n_bound.1.1 c.raise.ensures) in
    zeros-whole a f c.args.pos c.args.n c.args.plan.now c.requires.n_bound.1.0 c.requires.n_bound.0 c.if-n-eq0.false c.requires.planned
    c.loop-i.i c.loop-i.arena (omega (arith, c.touched-t.ensures)) so.0
