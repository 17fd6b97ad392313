-- `finds::id_in`: the id is the slot's first field.
use mathlib.Core.Path.{refl, ◌∙◌}
use Rattle.std.proofs.lemmas.Result.{err_from_is_err_and}
use Rattle.base.specs.Out.{ill}
use Rattle.base.proofs.Outs.{went-not}
use Rattle.base.proofs.Tells.{number-ne, number-pos}
use Rattle.finds.proofs.Parts.{entry-id, id-went}
use Rattle.finds.proofs.id_in.Goals as goal

pub returns-in_err-find_slot : goal.returns-in_err-find_slot
returns-in_err-find_slot c =
    let s = c.args in
    let e = c.in_err-find_slot.field-0.0 in
    let p = err_from_is_err_and c.from_residual.result c.from_residual.ensures.1 in
    rw (p.1, p.2) (ill (number-pos e) (went-not (id-went s.arena.now s.rec s.name.now c.find_slot.new.slot _ _ _ _ refl c.in_err-find_slot.ensures) (number-ne e)))

pub returns : goal.returns
returns c =
    let s = c.args in
    let l = c.find_slot.new.slot in
    id-went s.arena.now s.rec s.name.now l _ _ _ _ (c.u32_at.ensures ∙ entry-id l) c.in_ok-find_slot.ensures
