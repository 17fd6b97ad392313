-- `nodes_read::meta::load_maps`: after g turns the maps of the first g groups stand in memory.
use Rattle.std.proofs.lemmas.Result.{err_from_is_err_and}
use Rattle.base.proofs.Tells.{number-ne}
use mathlib.Core.Path.{◌≡◌, refl, ◌∙◌}
use Prim.Native.Nat.{◌+◌, ◌*◌}
use native.Mathlib.Omega.{arith}
use Rattle.base.specs.Out.{well}
use Rattle.nodes.proofs.Common.{part-agree}
use Rattle.nodes_read.proofs.Loads.{maps_none, maps-turn, maps-stop}
use Rattle.nodes_read.proofs.meta.load_maps.Goals as goal

pub loop-g-init : goal.loop-g-init
loop-g-init c = (omega arith, (maps_none c.args.arena.now c.args.mem.now, refl))

pub load_map-requires : goal.load_map-requires
load_map-requires c = record { led = c.requires.led; mem_len = (omega arith, omega arith) }

pub shape_of-mem-in_err-load_map : goal.shape_of-mem-in_err-load_map
shape_of-mem-in_err-load_map c = omega (arith, c.load_map.auto.mem)

pub returns-in_err-load_map : goal.returns-in_err-load_map
returns-in_err-load_map c =
    let p = err_from_is_err_and c.from_residual.result c.from_residual.ensures.1 in
    rw (p.1, p.2) (record { went = maps-stop c.args.arena.now c.loop-g.mem c.load_map.new.mem c.loop-g.g _ c.loop-g.invariant.1.0 c.in_err-load_map.ensures.went c.args.n c.loop-g-test.true (number-ne c.in_err-load_map.field-0.0) _; mem_unchanged = part-agree c.load_map.new.mem c.loop-g.mem (4419 + 128 * c.loop-g.g) 0 4419 (omega arith) c.in_err-load_map.ensures.g_unchanged ∙ c.loop-g.invariant.1.1 })

pub loop-g-preserved : goal.loop-g-preserved
loop-g-preserved c = (
  omega (arith, c.load_map.auto.mem),
  (
    maps-turn c.args.arena.now c.loop-g.mem c.load_map.new.mem c.loop-g.g _ c.loop-g.invariant.1.0 c.in_ok-load_map.ensures.went refl c.in_ok-load_map.ensures.g_unchanged,
    part-agree c.load_map.new.mem c.loop-g.mem (4419 + 128 * c.loop-g.g) 0 4419 (omega arith) c.in_ok-load_map.ensures.g_unchanged ∙ c.loop-g.invariant.1.1,
  ),
)

pub returns : goal.returns
returns c =
    let e : c.loop-g.g ≡ c.args.n = omega arith in record { went = well (rw (← e) c.loop-g.invariant.1.0) tt; mem_unchanged = c.loop-g.invariant.1.1 }
