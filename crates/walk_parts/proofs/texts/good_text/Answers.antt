-- `walk_parts::texts::good_text`: the name's verdict, a lone slash, then the parts.
use Rattle.std.proofs.lemmas.Result.{err_from_is_err_and}
use Rattle.base.proofs.Tells.{number-ne}
use mathlib.Core.Path.{refl}
use Rattle.walk_parts.proofs.Splits.{text-name, text-lone, text-parts, text-bad}
use Rattle.walk_parts.proofs.texts.good_text.Goals as goal

pub returns-in_err-good_name : goal.returns-in_err-good_name
returns-in_err-good_name c =
    let p = err_from_is_err_and c.from_residual.result c.from_residual.ensures.1 in
    rw (p.1, p.2) (text-name c.args.text.now _ c.in_err-good_name.ensures (number-ne c.in_err-good_name.field-0.0))

pub returns-then-equal : goal.returns-then-equal
returns-then-equal c = text-lone c.args.text.now _ c.in_ok-good_name.ensures c.equal.ensures refl c.if-equal.true

pub returns-then-split : goal.returns-then-split
returns-then-split c = text-parts c.args.text.now _ c.in_ok-good_name.ensures c.equal.ensures c.split.ensures c.skip-s.ensures.0 refl c.if-split.true

pub returns : goal.returns
returns c = text-bad c.args.text.now _ c.in_ok-good_name.ensures c.equal.ensures c.split.ensures c.skip-s.ensures.0 c.if-equal.false c.if-split.false
