-- `range_stores::fill_down`: the blocks from block i on are one write of the last bytes.
use mathlib.Core.Path.{◌≡◌, sym, subst}
use Prim.Native.Nat.{ℕ, ◌+◌, ◌-◌}
use native.Mathlib.Omega.{arith}
use Rattle.le.specs.Le.{Bytes}
use Rattle.arena.specs.Fields.{file}
use Rattle.files_laws.proofs.Bounds.{length-fits}
use Rattle.plans.proofs.Plans.{touched-lies}
use Rattle.std.proofs.Common.{rules}
use Rattle.range_stores.proofs.Falls.{falls_to, FilledFrom, fill_none, fill-found, fill-turn, fill-whole}
use Rattle.range_stores.proofs.Sources.{source-long, source-covers, source_in}
use Rattle.range_stores.proofs.fill_down.Goals as goal

pub touched-m-requires : goal.touched-m-requires
touched-m-requires c =
    omega (arith, c.requires.long, c.requires.back, length-fits c.args.arena.now (file 1 c.args.name.now) (λ j. search rules))

pub touched-t-requires : goal.touched-t-requires
touched-t-requires c =
    omega (arith, c.requires.long, length-fits c.args.arena.now (file 1 c.args.name.now) (λ j. search rules))

pub loop-i-init : goal.loop-i-init
loop-i-init c = fill_none c.requires (λ j. search rules) _ c.touched-t.ensures

pub slice_bounds-move_block-end : goal.slice_bounds-move_block-end
slice_bounds-move_block-end c =
    sym (source-long c.requires.read c.touched-m.ensures)

pub move_block-requires : goal.move_block-requires
move_block-requires c =
    let f = file 1 c.args.name.now in
    let i : c.loop-i.i ≡ c.loop-i.i - 1 + 1 = omega arith in
    let e = subst (λ (x : ℕ). FilledFrom c.args.arena.now f c.args.src c.args.dst c.args.n (falls_to c.args.dst c.args.n x) c.loop-i.arena) i
    c.loop-i.invariant in
    let t = touched-lies c.args.dst c.args.n (c.loop-i.i - 1) (omega (arith, c.touched-t.ensures)) in
    let bytes : Bytes c.args.arena.now = λ j. search rules in
    let h = fill-found c.requires bytes (c.loop-i.i - 1) c.loop-i.arena (omega (arith, c.touched-t.ensures)) e _ c.from.ensures in
    let fits = length-fits c.args.arena.now f bytes in record {
      n_bound = (
        (omega (arith, c.requires.long, c.requires.back), omega (arith, c.requires.long)),
        (t.0, (t.1, source-covers c.requires.read c.touched-m.ensures c.requires.some)),
      );
      in_arena = source_in c.requires.read c.touched-m.ensures c.loop-i.arena c.loop-i.auto.arena;
      found_value = (h.0, (omega arith, h.1));
    }

pub loop-i-preserved : goal.loop-i-preserved
loop-i-preserved c =
    let f = file 1 c.args.name.now in
    let bytes : Bytes c.args.arena.now = λ j. search rules in
    let i : c.loop-i.i ≡ c.loop-i.i - 1 + 1 = omega arith in
    let e = subst (λ (x : ℕ). FilledFrom c.args.arena.now f c.args.src c.args.dst c.args.n (falls_to c.args.dst c.args.n x) c.loop-i.arena) i
    c.loop-i.invariant in
    fill-turn c.requires bytes (c.loop-i.i - 1) c.loop-i.arena (omega (arith, c.touched-t.ensures)) e c.touched-m.result c.touched-m.ensures _ c.move_block.ensures.0

pub returns : goal.returns
returns c =
    let f = file 1 c.args.name.now in
    let i : c.loop-i.i ≡ 0 = omega arith in
    fill-whole c.requires (λ j. search rules) c.loop-i.arena
    (subst (λ (x : ℕ). FilledFrom c.args.arena.now f c.args.src c.args.dst c.args.n (falls_to c.args.dst c.args.n x) c.loop-i.arena) i c.loop-i.invariant)
