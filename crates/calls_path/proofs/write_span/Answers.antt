-- `calls_path::write_span`: from the folder that was asked for, or from one that is noted.
use Rattle.calls_path.proofs.Names.{ok-zero}
use Rattle.calls_path.proofs.Spans.{first_fits, first-written, noted-there, noted-fits, noted-written}
use Rattle.calls_path.proofs.write_span.Goals as goal

pub write_names-requires : goal.write_names-requires
write_names-requires c = let p = c.requires in record { led = p.led; whole = p.whole; names_fit = first_fits p.span_fits c.if-k-eq0.true }

pub returns-then-k-eq0 : goal.returns-then-k-eq0
returns-then-k-eq0 c = let p = c.requires in first-written p.span_fits c.if-k-eq0.true c.write_names.ensures

pub unwrap-top-requires : goal.unwrap-top-requires
unwrap-top-requires c = ok-zero _ (noted-there c.requires.span_fits c.if-k-eq0.false c.record_on.ensures)

pub write_names-requires-2 : goal.write_names-requires-2
write_names-requires-2 c =
    let p = c.requires in
    let g = rw c.unwrap-top.ensures at c.record_on.ensures in record { led = p.led; whole = p.whole; names_fit = noted-fits p.span_fits c.if-k-eq0.false g }

pub returns : goal.returns
returns c =
    let g = rw c.unwrap-top.ensures at c.record_on.ensures in
    noted-written c.requires.span_fits c.if-k-eq0.false g c.write_names-2.ensures
