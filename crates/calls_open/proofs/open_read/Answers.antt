-- `calls_open::open_read`: the superblock, whether it is SEFS's, the maps.
use Rattle.std.proofs.lemmas.Result.{err_from_is_err_and}
use Rattle.base.proofs.Tells.{number-ne}
use mathlib.Core.Path.{refl}
use mathlib.Core.Path.{ap, sym, ◌∙◌}
use native.Mathlib.Omega.{arith}
use Rattle.base.specs.Parts.{part}
use Rattle.base.proofs.Outs.{went-is}
use Rattle.structs.specs.declared.SuperBlock.{SuperBlock}
use Rattle.calls_open.specs.Opens.{is_sefs}
use Rattle.calls_open.proofs.Opens.{few-groups, read-stop, read-other, read-maps}
use Rattle.calls_open.proofs.open_read.Goals as goal

pub returns-in_err-load_super : goal.returns-in_err-load_super
returns-in_err-load_super c =
    let p = err_from_is_err_and c.from_residual.result c.from_residual.ensures.1 in
    rw (p.1, p.2) (read-stop c.args.arena.now _ _ c.in_err-load_super.ensures.went (number-ne c.in_err-load_super.field-0.0))

pub returns-then-not-is_sefs : goal.returns-then-not-is_sefs
returns-then-not-is_sefs c = read-other c.args.arena.now (part c.load_super.new.mem 4403 4419) (went-is c.in_ok-load_super.ensures.went refl) (ap (λ (b : SuperBlock). is_sefs b) (sym c.super_block_at-b.ensures) ∙ (sym c.is_sefs.ensures ∙ c.if-not-is_sefs.true))

pub load_maps-requires : goal.load_maps-requires
load_maps-requires c =
    let f = few-groups c.super_block_at-b.result (sym c.is_sefs.ensures ∙ c.if-not-is_sefs.false) in record { led = c.requires.led; mem_len = (c.load_super.auto.mem ∙ c.requires.mem_len, omega (arith, f, c.index.ensures)) }

pub returns : goal.returns
returns c = read-maps c.args.arena.now (part c.load_super.new.mem 4403 4419) (went-is c.in_ok-load_super.ensures.went refl) _ c.index.result _ (ap (λ (b : SuperBlock). is_sefs b) (sym c.super_block_at-b.ensures) ∙ (sym c.is_sefs.ensures ∙ c.if-not-is_sefs.false)) (c.index.ensures ∙ ap (λ (b : SuperBlock). b.groups) c.super_block_at-b.ensures) c.load_maps.ensures.went
