-- The call open, once the arena is admitted.
use Rattle.std.specs.Prelude.{Bool, ◌&&◌, List, ℕ, eqb, ltb}
use Rattle.base.specs.Out.{Out, done, ensure, ◌>>=◌}
use Rattle.base.specs.Reasons.{wrong_fs}
use Rattle.structs.specs.Constants.{sefs_magic}
use Rattle.structs.specs.Layout.{super_of}
use Rattle.structs.specs.declared.SuperBlock.{SuperBlock}
use Rattle.table.specs.declared.Table.{Table}
use Rattle.table.specs.Table.{empty_table}
use Rattle.files.specs.Read.{read_file}
use Rattle.sefs.specs.Meta.{meta_file, load_maps}

-- 18 where it does not hold: the magic, and 1 to 4 groups
abbrev pub is_sefs : SuperBlock → Bool
is_sefs b = eqb b.magic sefs_magic && (ltb 0 b.groups && ltb b.groups 5)

unfoldable pub open_read : List ℕ → Out Table
open_read a = do
  l ← read_file a meta_file 0 16
  _ ← ensure (is_sefs (super_of l)) wrong_fs
  m ← load_maps a (super_of l).groups
  done empty_table
