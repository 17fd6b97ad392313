-- The definitions at work: an insert in the middle of a file of 300 bytes, computed by the calls. 172 bytes move up, over 128 and no multiple of it:
-- the case that 000 has wrong.
use mathlib.Core.Path.{◌≡◌, refl}
use mathlib.Core.Bool.{false}
use mathlib.Core.List.{List, ◌++◌}
use Prim.Native.Nat.{ℕ, ◌+◌, ◌%◌}
use lib.ListN.{replicate}
use Rattle.base.specs.Out.{Out, done, ◌>>=◌}
use Rattle.base.specs.Count.{sum_to, all_to, count_to}
use Rattle.base.specs.Decides.{same, every}
use Rattle.base.specs.Parts.{paste, tab}
use Rattle.base.specs.Search.{lowest, found_below}
use Rattle.le.specs.Le.{le_at, le_of, le_bytes, le_put}
use Rattle.table.specs.Zero.{zero_time, bytes_zero, time_zero, numbers_zero, record_zero}
use Rattle.table.specs.Table.{empty_table, take_row, add_hold, can_hold, own_holds, row_of, hold_of, live_row, row_used}
use Rattle.table.specs.Formed.{live_ok, hold_ok, owners_ok, row_ok, holds_ok, rows_ok, shaped, well_formed}
use Rattle.table.specs.declared.Table.{Table}
use Rattle.table.specs.declared.Handle.{Handle}
use Rattle.arena.specs.Blocks.{blk, put_blk, legal}
use Rattle.arena.specs.Fields.{File, file, check_of, seal, same_file, is_free, is_head, is_data, zeros, fresh}
use Rattle.arena.specs.Places.{free_of, head_of, data_of}
use Rattle.sound.specs.Sound.{all_zero, layout, block_sound, head_once, data_once, within, under, sound_at, sound}
use Rattle.files.specs.Read.{there, length_of, present, byte_at, read_file}
use Rattle.files.specs.Store.{claim, write_blk, set_length, raise, put_block, put_to, touched, put_file, make_file, clear_to, clear_all, is_past, zero_tail, cut_file}
use Rattle.sefs.specs.Records.{new_record, with_size}
use Rattle.sefs.specs.Ask.{admit_arena, admit, by_handle}
use Rattle.sefs.specs.Contents.{has_contents, read_bytes, resize_steps, call_read}
use Rattle.pieces.specs.Pieces.{zeros_to, write_zeros, copy_piece, up_to, copy_up}
use Rattle.ranges.specs.Ranges.{plain_file, zero_steps, insert_steps, call_fallocate}
use Rattle.ranges.specs.declared.FallocateMode.TheVariants.{InsertRange}

abbrev outline : File
outline = file 1 (replicate 16 7)

-- byte p of the file is p % 251 + 1
abbrev drawn : ℕ → ℕ
drawn p = p % 251 + 1

-- 16 blocks with this file alone
unfoldable drawing : Out (List ℕ)
drawing = do
  a ← make_file (replicate 8192 0) outline
  put_file a outline 0 (tab drawn 0 300)

-- owner 1 has it open, as node 3 in row 0
unfoldable held : Table
held = (add_hold (take_row empty_table 0 3 (with_size (new_record 1 420 zero_time (replicate 16 7)) 300) false) 1 0).table

abbrev mine : Handle
mine = record { hold = 0; stamp = 1 }

-- 128 bytes come in at 128; all that is read then
unfoldable after_insert : Out (List ℕ)
after_insert = do
  a ← drawing
  x ← call_fallocate a held 1 mine InsertRange 128 128
  call_read x.arena x.table 1 mine 0 1000

insert-computed : after_insert ≡ done (tab drawn 0 128 ++ (replicate 128 0 ++ tab drawn 128 172))
unfolding after_insert drawing held call_fallocate call_read read_bytes plain_file has_contents insert_steps zero_steps resize_steps zeros_to write_zeros copy_piece up_to copy_up admit admit_arena by_handle legal sound sound_at under within data_once head_once block_sound layout all_zero every all_to count_to bytes_zero time_zero numbers_zero record_zero row_of row_used live_ok hold_ok owners_ok row_ok holds_ok rows_ok shaped well_formed live_row found_below add_hold can_hold own_holds hold_of claim write_blk set_length raise put_block put_to touched put_file make_file clear_to clear_all is_past zero_tail cut_file there length_of present byte_at read_file free_of head_of data_of check_of seal same_file is_free is_head is_data zeros fresh blk put_blk le_at le_of le_bytes le_put lowest paste tab same sum_to
insert-computed = refl
