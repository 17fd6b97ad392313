-- `mend_stores::store_maps`: after g turns the maps of the first g groups are stored.
use mathlib.Core.Path.{◌≡◌, sym, ap, ◌∙◌, subst}
use Prim.Native.Nat.{ℕ, ◌+◌, ◌*◌}
use native.Mathlib.Omega.{arith}
use lib.ListN.{length}
use Rattle.base.proofs.Lists.{length_part}
use Rattle.sefs.specs.Meta.{store_maps}
use Rattle.mem.specs.Mem.{maps_in}
use Rattle.mend_stores.specs.Stores.{Storable}
use Rattle.mend_stores.proofs.Syncs.{map-storable, backed-next, maps_none, maps-more}
use Rattle.mend_stores.proofs.store_maps.Goals as goal
use Rattle.mend_stores.proofs.store_maps.Goals.{After-map_bytes}

pub loop-g-init : goal.loop-g-init
loop-g-init c = (maps_none c.args.arena.now (maps_in c.args.mem.now), c.requires.0)

pub map_at-requires : goal.map_at-requires
map_at-requires c = omega (arith, c.requires.1, c.loop-g.invariant.1.loaded.whole.few c.loop-g.invariant.1.loaded.read)

pub map_bytes-requires : goal.map_bytes-requires
map_bytes-requires c = (c.loop-g.invariant.1.loaded.whole, omega (arith, c.requires.1, c.loop-g.invariant.1.loaded.whole.few c.loop-g.invariant.1.loaded.read))

-- the map that is next can be stored
next : (c : After-map_bytes) → Storable c.loop-g.arena c.loop-g.places c.map_at.result (length c.map_bytes.result.now) c.loop-g.at
next c =
    let g = c.loop-g.g in
    let d = c.loop-g.arena in
    let L = c.loop-g.invariant.1.loaded in
    let n : 128 ≡ length c.map_bytes.result.now = sym (ap length c.map_bytes.ensures ∙ length_part c.args.mem.now (4419 + 128 * g) (4419 + 128 * g + 128) (omega arith) (omega (arith, c.requires.1, L.whole.size, L.whole.few L.read)) ∙ omega arith) in
    subst (λ (k : ℕ). Storable d c.loop-g.places c.map_at.result k c.loop-g.at) n
    (subst (λ (k : ℕ). Storable d c.loop-g.places k 128 c.loop-g.at) (sym c.map_at.ensures) (map-storable d c.args.mem.now c.loop-g.places c.loop-g.at c.loop-g.invariant.1 g (omega (arith, c.requires.1))))

pub put_meta-at-requires : goal.put_meta-at-requires
put_meta-at-requires c = next (goal.at.put_meta-at-requires c).After-map_bytes

pub loop-g-preserved : goal.loop-g-preserved
loop-g-preserved c = (
  maps-more c.args.arena.now c.loop-g.arena _ c.args.mem.now c.loop-g.g _ _ (omega (arith, c.requires.1)) c.map_at.ensures c.map_bytes.ensures c.loop-g.invariant.0 c.put_meta-at.ensures.put,
  backed-next c.loop-g.arena c.args.mem.now c.loop-g.places c.loop-g.at c.loop-g.invariant.1 _ _ _ _ _ (next (goal.at.loop-g-preserved c).After-map_bytes).below c.put_meta-at.ensures,
)

pub returns : goal.returns
returns c =
    let e : c.loop-g.g ≡ c.args.groups = omega arith in
    ap (store_maps c.args.arena.now (maps_in c.args.mem.now)) (sym e) ∙ c.loop-g.invariant.0
