-- `nodes::meta::store_maps`: after g turns the maps of the first g groups are stored.
use Rattle.std.proofs.lemmas.Result.{err_from_is_err_and}
use Rattle.base.proofs.Tells.{number-ne}
use mathlib.Core.Path.{◌≡◌, refl}
use Prim.Native.Nat.{◌*◌}
use native.Mathlib.Omega.{arith}
use Rattle.mem.specs.Mem.{maps_in}
use Rattle.nodes.proofs.Steps.{stores-none, stores-turn, stores-stop, well-did}
use Rattle.nodes.proofs.meta.store_maps.Goals as goal

pub loop-g-init : goal.loop-g-init
loop-g-init c = (refl, stores-none c.args.arena.now c.args.work.now (maps_in c.args.mem.now) c.requires.ready.0.fine)

pub store_map-requires : goal.store_map-requires
store_map-requires c = record { ready = (record { fine = c.loop-g.invariant.1.fine; whole = c.requires.ready.0.whole }, omega (arith, c.loop-g.invariant.1.room, c.requires.ready.1)); mem_value = (c.requires.mem_value.0, omega arith) }

pub shape_of-work-in_err-store_map : goal.shape_of-work-in_err-store_map
shape_of-work-in_err-store_map c = omega (arith, c.store_map.auto.work)

pub returns-in_err-store_map : goal.returns-in_err-store_map
returns-in_err-store_map c =
    let p = err_from_is_err_and c.from_residual.result c.from_residual.ensures.1 in
    rw (p.1, p.2) (stores-stop c.args.arena.now c.args.work.now c.loop-g.work c.store_map.new.work (maps_in c.args.mem.now) c.loop-g.g _ c.loop-g.invariant.1 c.in_err-store_map.ensures c.args.n (2 * c.args.n) c.loop-g-test.true (number-ne c.in_err-store_map.field-0.0))

pub loop-g-preserved : goal.loop-g-preserved
loop-g-preserved c =
    (omega (arith, c.store_map.auto.work), stores-turn c.args.arena.now c.args.work.now c.loop-g.work c.store_map.new.work (maps_in c.args.mem.now) c.loop-g.g _ c.loop-g.invariant.1 c.in_ok-store_map.ensures refl)

pub returns : goal.returns
returns c =
    let e : c.loop-g.g ≡ c.args.n = omega arith in
    rw (← e) (well-did c.loop-g.invariant.1)
