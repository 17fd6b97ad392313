-- `calls_path::path_led`: the handle, what is asked of its record, superblock and maps, and then the path.
use mathlib.Core.Path.{refl}
use Rattle.std.proofs.lemmas.Result.{err_from_is_err_and}
use Rattle.base.proofs.Outs.{went-has}
use Rattle.mem.specs.Mem.{table_in}
use Rattle.calls.proofs.Asks.{admitted}
use Rattle.calls_path.proofs.Answers.{path-refused, path-not-asked, path-goes}
use Rattle.calls_path.proofs.path_led.Goals as goal

pub returns-in_err-row : goal.returns-in_err-row
returns-in_err-row c =
    let s = c.args in
    let p = err_from_is_err_and c.from_residual.result c.from_residual.ensures.1 in
    rw (p.1, p.2) (record {
      lays = path-refused s.arena.now (table_in s.mem.now) s.who s.h (admitted c.requires) _ _ c.in_err-row.ensures s.out.now c.in_err-row.field-0.0 refl;
      mem_unchanged = (refl, c.requires.whole);
    })

pub rec_at-rec-requires : goal.rec_at-rec-requires
rec_at-rec-requires c = (c.requires.whole, went-has c.in_ok-row.ensures refl)

pub returns-in_err-path_ask : goal.returns-in_err-path_ask
returns-in_err-path_ask c =
    let s = c.args in
    let p = err_from_is_err_and c.from_residual-in_err-path_ask.result c.from_residual-in_err-path_ask.ensures.1 in
    rw (p.1, p.2) (record {
      lays = path-not-asked s.arena.now (table_in s.mem.now) s.who s.h (admitted c.requires) _ _ c.in_ok-row.ensures s.out.now
          refl c.rec_at-rec.result c.rec_at-rec.ensures _ c.in_err-path_ask.ensures c.in_err-path_ask.field-0.0 refl;
      mem_unchanged = (refl, c.requires.whole);
    })

pub id_at-x-requires : goal.id_at-x-requires
id_at-x-requires c = (c.requires.whole, went-has c.in_ok-row.ensures refl)

pub path_in-requires : goal.path_in-requires
path_in-requires c = record { led = c.requires.led; whole = c.load_meta.ensures.1.1 }

pub returns : goal.returns
returns c =
    let s = c.args in record {
      lays = path-goes s.arena.now (table_in s.mem.now) s.who s.h (admitted c.requires) _ _ c.in_ok-row.ensures s.out.now
          refl c.rec_at-rec.result c.rec_at-rec.ensures _ c.in_ok-path_ask.ensures refl
          c.load_meta.new.mem c.load_meta.ensures.1.0 c.load_meta.ensures.0 c.id_at-x.result c.id_at-x.ensures _ c.path_in.ensures;
      mem_unchanged = c.load_meta.ensures.1;
    }
