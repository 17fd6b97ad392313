-- `nodes_read::meta::load_meta`: the mark says whether they could be read.
use Rattle.base.proofs.Tells.{done-is}
use Rattle.base.specs.Told.{code}
use mathlib.Core.Path.{◌∙◌}
use Rattle.nodes_read.proofs.Loads.{loaded}
use Rattle.nodes_read.proofs.meta.load_meta.Goals as goal

pub returns : goal.returns
returns c =
    let l = loaded c.args.arena.now c.args.mem.now c.read_all-r.new.mem (code c.read_all-r.result) (c.read_all-r.auto.mem ∙ c.requires.mem_len) c.read_all-r.ensures.mem_unchanged c.read_all-r.ensures.went in
    rw (c.put_flag.ensures, c.is_ok.ensures.value ∙ done-is c.read_all-r.result) (l.meta, (l.table, l.whole))
