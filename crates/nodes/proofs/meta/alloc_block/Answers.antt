-- `nodes::meta::alloc_block`: a group where one is wanted, then the bit.
use Rattle.std.proofs.lemmas.Result.{err_from_is_err_and}
use Rattle.base.proofs.Tells.{number-ne}
use mathlib.Core.Path.{refl}
use mathlib.Core.Path.{◌∙◌, sym}
use native.Mathlib.Omega.{arith}
use lib.ListN.{get_or}
use borrow.Author.Tests.{eqb-true}
use Rattle.base.specs.Out.{bind, ill}
use Rattle.base.proofs.Outs.{went-is, went-has, went-stop, went-weaken}
use Rattle.sefs.specs.State.{Fs}
use Rattle.sefs.specs.Meta.{take_bit}
use Rattle.nodes.proofs.Bytes.{length-maps}
use Rattle.nodes.proofs.Ids.{spare-room, alloc-none, alloc-is, take-is}
use Rattle.nodes.proofs.meta.alloc_block.Goals as goal

pub returns-then-not-has_meta : goal.returns-then-not-has_meta
returns-then-not-has_meta c = ill {r = 19} (omega arith) (alloc-none c.args.arena.now c.args.work.now c.args.mem.now (sym c.has_meta.ensures ∙ c.if-not-has_meta.true))

pub ensure_bit-requires : goal.ensure_bit-requires
ensure_bit-requires c = record { ready = c.requires; mem_value = eqb-true (get_or c.args.mem.now 4402 0) 1 (sym c.has_meta.ensures ∙ c.if-not-has_meta.false) }

pub returns-in_err-ensure_bit : goal.returns-in_err-ensure_bit
returns-in_err-ensure_bit c =
    let p = err_from_is_err_and c.from_residual.result c.from_residual.ensures.1 in
    rw (p.1, p.2) (let m = c.args.mem.now in
    rw (alloc-is c.args.arena.now c.args.work.now m (eqb-true (get_or m 4402 0) 1 (sym c.has_meta.ensures ∙ c.if-not-has_meta.false)))
    (went-stop (λ (s : Fs). bind s.meta (take_bit s)) _ (number-ne c.in_err-ensure_bit.field-0.0) c.in_err-ensure_bit.ensures))

pub take_bit-requires : goal.take_bit-requires
take_bit-requires c =
    let m = c.args.mem.now in
    let k = eqb-true (get_or m 4402 0) 1 (sym c.has_meta.ensures ∙ c.if-not-has_meta.false) in
    let h = spare-room c.args.arena.now c.args.work.now c.ensure_bit.new.work m c.ensure_bit.new.mem (length-maps m c.requires.0.whole k) k (went-is c.in_ok-ensure_bit.ensures refl) in record { whole = ((went-has c.in_ok-ensure_bit.ensures refl).whole, h.mark); mem_bound = h.below }

pub returns : goal.returns
returns c =
    let a = c.args.arena.now in
    let m = c.args.mem.now in
    let u = c.ensure_bit.new.work in
    let n = c.ensure_bit.new.mem in
    let k = eqb-true (get_or m 4402 0) 1 (sym c.has_meta.ensures ∙ c.if-not-has_meta.false) in
    let e = went-is c.in_ok-ensure_bit.ensures refl in
    let h = spare-room a c.args.work.now u m n (length-maps m c.requires.0.whole k) k e in
    let q = went-has c.in_ok-ensure_bit.ensures refl in
    rw (alloc-is a c.args.work.now m k, e, take-is a u n h.mark)
    (went-weaken (λ x. record { fine = q.fine; whole = x; room = q.room }) (c.take_bit.ensures a u))
