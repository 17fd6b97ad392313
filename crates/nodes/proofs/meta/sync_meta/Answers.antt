-- `nodes::meta::sync_meta`: the superblock, whose bytes stand in memory, then the maps.
use Rattle.std.proofs.lemmas.Result.{err_from_is_err_and}
use Rattle.base.proofs.Tells.{number-ne}
use Rattle.base.specs.Told.{number}
use mathlib.Core.Path.{◌≡◌, refl, ap, ◌∙◌, sym}
use native.Mathlib.Omega.{arith}
use lib.ListN.{length, get_or}
use borrow.Author.Tests.{eqb-true}
use Rattle.base.specs.Out.{ill}
use Rattle.base.proofs.Lists.{length_part}
use Rattle.structs.specs.declared.SuperBlock.{SuperBlock}
use Rattle.overlay.proofs.Chains.{did-well}
use Rattle.files.proofs.Puts.{touched-within}
use Rattle.mem.specs.Mem.{super_in}
use Rattle.nodes.proofs.Steps.{sync-none, sync-stop, sync-done}
use Rattle.nodes.proofs.meta.sync_meta.Goals as goal

pub returns-then-not-has_meta : goal.returns-then-not-has_meta
returns-then-not-has_meta c = ill {r = 19} (omega arith) (sync-none c.args.arena.now c.args.work.now c.args.mem.now (sym c.has_meta.ensures ∙ c.if-not-has_meta.true))

pub put-requires : goal.put-requires
put-requires c =
    let n = ap length c.super_bytes.ensures ∙ length_part c.args.mem.now 4403 4419 (omega arith) (omega (arith, c.requires.0.whole.size)) in
    let k = touched-within 0 (length c.super_bytes.result.now) (omega arith) in record { fine = (c.requires.0.fine, omega (arith, c.requires.1, k)); name_len = (refl, omega arith) }

pub returns-in_err-put : goal.returns-in_err-put
returns-in_err-put c =
    let p = err_from_is_err_and c.from_residual.result c.from_residual.ensures.1 in
    rw (p.1, p.2) (let m = c.args.mem.now in
    sync-stop c.args.arena.now c.args.work.now c.put.new.work m (number c.in_err-put.field-0.0) (λ j. (c.type_inv.mem j).fits) c.requires.0.whole (eqb-true (get_or m 4402 0) 1 (sym c.has_meta.ensures ∙ c.if-not-has_meta.false)) (rw c.super_bytes.ensures at c.in_err-put.ensures) (number-ne c.in_err-put.field-0.0))

pub store_maps-requires : goal.store_maps-requires
store_maps-requires c =
    let m = c.args.mem.now in
    let k = eqb-true (get_or m 4402 0) 1 (sym c.has_meta.ensures ∙ c.if-not-has_meta.false) in
    let e = did-well c.in_ok-put.ensures refl in
    let n : c.index.result ≡ (super_in m).groups = c.index.ensures ∙ ap (λ (b : SuperBlock). b.groups) c.super_at-groups.ensures in
    let b = ap length c.super_bytes.ensures ∙ length_part m 4403 4419 (omega arith) (omega (arith, c.requires.0.whole.size)) in
    let l = touched-within 0 (length c.super_bytes.result.now) (omega (arith, b)) in record { ready = (record { fine = e.fine; whole = c.requires.0.whole }, omega (arith, e.room, c.requires.1, c.requires.0.whole.few k, l)); mem_value = (k, omega arith) }

pub returns : goal.returns
returns c =
    let m = c.args.mem.now in
    let n : c.index.result ≡ (super_in m).groups = c.index.ensures ∙ ap (λ (b : SuperBlock). b.groups) c.super_at-groups.ensures in
    sync-done c.args.arena.now c.args.work.now c.put.new.work m 0 (λ j. (c.type_inv.mem j).fits) c.requires.0.whole (eqb-true (get_or m 4402 0) 1 (sym c.has_meta.ensures ∙ c.if-not-has_meta.false)) (rw c.super_bytes.ensures at c.in_ok-put.ensures) c.store_maps.new.work _ refl (rw n at c.store_maps.ensures)
