-- `nodes::meta::store_map`: a group's map among the maps joined is its bytes in memory.
use mathlib.Core.Path.{refl, ap, ◌∙◌}
use Prim.Native.Nat.{◌+◌, ◌*◌, ◌<◌}
use native.Mathlib.Omega.{arith}
use lib.ListN.{length}
use Rattle.base.proofs.Lists.{length_part}
use Rattle.overlay.proofs.Chains.{did_more}
use Rattle.nodes.proofs.Bytes.{map-part}
use Rattle.nodes.proofs.Steps.{map-touches}
use Rattle.nodes.proofs.meta.store_map.Goals as goal

pub map_at-requires : goal.map_at-requires
map_at-requires c = omega (arith, c.requires.ready.0.whole.few c.requires.mem_value.0)

pub map_bytes-requires : goal.map_bytes-requires
map_bytes-requires c = (c.requires.ready.0.whole, omega (arith, c.requires.ready.0.whole.few c.requires.mem_value.0))

pub put-requires : goal.put-requires
put-requires c =
    let m = c.args.mem.now in
    let l : c.args.g < 4 = omega (arith, c.requires.ready.0.whole.few c.requires.mem_value.0) in
    let n = ap length c.map_bytes.ensures ∙ length_part m (4419 + 128 * c.args.g) (4419 + 128 * c.args.g + 128) (omega arith) (omega (arith, c.requires.ready.0.whole.size)) in
    let k = map-touches c.args.g c.map_at.result (length c.map_bytes.result.now) l c.map_at.ensures (n ∙ omega arith) in record { fine = (c.requires.ready.0.fine, omega (arith, k)); name_len = (refl, omega arith) }

pub returns : goal.returns
returns c =
    let m = c.args.mem.now in
    let l : c.args.g < 4 = omega (arith, c.requires.ready.0.whole.few c.requires.mem_value.0) in
    let n = ap length c.map_bytes.ensures ∙ length_part m (4419 + 128 * c.args.g) (4419 + 128 * c.args.g + 128) (omega arith) (omega (arith, c.requires.ready.0.whole.size)) in
    let k = map-touches c.args.g c.map_at.result (length c.map_bytes.result.now) l c.map_at.ensures (n ∙ omega arith) in
    rw (map-part c.args.mem.now c.args.g c.requires.mem_value.1, ← c.map_bytes.ensures, ← c.map_at.ensures) (did_more 2 (omega (arith, k)) c.put.ensures)
