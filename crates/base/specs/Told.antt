-- What a function of the code answers: a result, whose refusal is one of the numbered reasons.
use Rattle.std.specs.Prelude.{ℕ, Result, Ok, Err}
use Rattle.base.specs.Reasons.{bad_arena, damaged, bad_table, bad_handle, bad_name, invalid_param, not_dir, dir_removed, is_dir, name_too_long, entry_not_found, entry_exist, dir_not_empty, file_taken, too_many_links, table_full, no_device_space, wrong_fs, stuck, out_full, not_file, file_too_big, sym_loop, in_use}
use Rattle.base.specs.declared.reasons.Reason.{Reason}
use Rattle.base.specs.declared.reasons.Reason.TheVariants as reasons

-- a reason's number
abbrev pub number : Reason → ℕ
number reasons.BadArena = bad_arena
number reasons.Damaged = damaged
number reasons.BadTable = bad_table
number reasons.BadHandle = bad_handle
number reasons.BadName = bad_name
number reasons.InvalidParam = invalid_param
number reasons.NotDir = not_dir
number reasons.DirRemoved = dir_removed
number reasons.IsDir = is_dir
number reasons.NameTooLong = name_too_long
number reasons.EntryNotFound = entry_not_found
number reasons.EntryExist = entry_exist
number reasons.DirNotEmpty = dir_not_empty
number reasons.FileTaken = file_taken
number reasons.TooManyLinks = too_many_links
number reasons.TableFull = table_full
number reasons.NoDeviceSpace = no_device_space
number reasons.WrongFs = wrong_fs
number reasons.Stuck = stuck
number reasons.OutFull = out_full
number reasons.NotFile = not_file
number reasons.FileTooBig = file_too_big
number reasons.SymLoop = sym_loop
number reasons.InUse = in_use

-- 0 where it was done, or the reason's number
abbrev pub code : {A : Type 0} → Result A Reason → ℕ
code (Ok x) = 0
code (Err e) = number e
