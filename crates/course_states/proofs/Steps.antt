-- Each call of the examples, computed: from the state that the call before left, written down, to the next one.
use mathlib.Core.Path.{◌≡◌, refl, ◌∙◌}
use mathlib.Core.Bool.{true, false}
use mathlib.Core.List.{List, [], ◌∷◌}
use Prim.Native.Nat.{ℕ}
use Rattle.base.specs.Count.{count_to, sum_to, all_to}
use Rattle.base.specs.Decides.{same, every}
use Rattle.base.specs.Out.{done}
use Rattle.base.specs.Parts.{paste, tab}
use Rattle.base.specs.Search.{lowest, found_below}
use Rattle.le.specs.Le.{le_at, le_of, le_bytes, le_put}
use Rattle.le.specs.Signed.{signed, bits_of}
use Rattle.structs.specs.Constants.{type_file}
use Rattle.structs.specs.Layout.{super_of, super_bytes, record_of, join, super_fields, record_fields, record_bytes, time_of, time_fields, time_bytes, entry_of, entry_fields, entry_bytes}
use Rattle.maps.specs.Maps.{bit_of, put_bit, bit_at, with_bit}
use Rattle.utf8.specs.Names.{zero_at, has_zero, has_slash, name_verdict, is_dot, is_dots, is_special, stored_name, is_named, name_bytes}
use Rattle.utf8.specs.Utf8.{within, lead, tail, step, after, utf8}
use Rattle.table.specs.Formed.{live_ok, hold_ok, row_ok, holds_ok, owners_ok, rows_ok, shaped, well_formed}
use Rattle.table.specs.Table.{empty_table, row_of, hold_of, live_row, own_holds, can_hold, add_hold, row_used, is_next, next_row}
use Rattle.table.specs.Zero.{bytes_zero, numbers_zero, time_zero, record_zero}
use Rattle.arena.specs.Blocks.{blk, put_blk, legal}
use Rattle.arena.specs.Fields.{zeros, check_of, is_free, seal, same_file, is_head, is_data, fresh as fresh_block}
use Rattle.arena.specs.Places.{free_count, free_of, head_of, data_of}
use Rattle.sound.specs.Sound.{all_zero, head_once, data_once, within as within_length, under}
use Rattle.files.specs.Read.{byte_at, length_of, read_file, there, present}
use Rattle.files.specs.Store.{put_file, claim, write_blk, set_length, raise, put_block, put_to, touched, make_file, clear_to, clear_all, is_past, zero_tail, cut_file, is_of, drop_file}
use Rattle.sefs.specs.Meta.{store_maps, sync_meta, first_bit, is_used, add_group, take_bit, alloc_block, free_block}
use Rattle.sefs.specs.Nodes.{new_node, store_row, sync_row, free_node, drop_node, release}
use Rattle.sefs.specs.Folders.{put_slot, dirent_init, dirent_append, nlinks_inc, nlinks_dec, unlink_folder}
use Rattle.sefs.specs.Ask.{admit, by_handle, live_folder}
use Rattle.sefs.specs.Open.{call_root}
use Rattle.sefs.specs.Create.{create_steps, call_format, format_steps, birth, name_folder, named, link_steps}
use Rattle.sefs.specs.Remove.{call_remove_file, removable}
use Rattle.sefs.specs.Move.{move_within}
use Rattle.sefs.specs.Contents.{has_contents, write_steps, call_write, resize_steps}
use Rattle.sefs.specs.Close.{sync_from}
use Rattle.course_states.specs.Worlds.{epoch, uuid, editor, fresh, opened, begun, made, filed, full, stored}
use Rattle.course_states.proofs.Near.{byte_of, near, byte_near, run_near, read_near, maps_near, meta_near, slot_bytes_near, slot_near, look_to_near, look_near, find_near, weigh, layout_by, sound_by, check_near, admitted}
use Rattle.course_states.proofs.Calls.{start_near, load_near, open_near, get_near, hold_near, root_near, root-near, create_near, create-near, remove_near, remove_steps_near, remove_call_near, remove-call-near, write_near, write-near, move_steps_near, move_free_near, move_to_near}
use Rattle.course_states.proofs.States.{head_blk, data_blk, free_blks, records_of, meta_bytes, folder_bytes, rows_of, holds_of, handle, root_table, fresh_arena, fresh_world, a_meta, a_arena, a_world, b_slots, b_meta, b_arena, b_world, c_slots, c_meta, c_arena, c_world, full_arena, full_world, x_arena, x_world}

-- what is opened so that a call is computed: below the calls, and the states
unfoldable pub computed : ℕ
unfolding count_to sum_to all_to lowest found_below paste tab same every le_of le_bytes le_at le_put signed bits_of join super_of super_fields super_bytes record_of record_fields record_bytes time_of time_fields time_bytes entry_of entry_fields entry_bytes bit_of put_bit bit_at with_bit within lead tail step after utf8 zero_at has_zero has_slash name_verdict is_dot is_dots is_special stored_name is_named name_bytes row_of hold_of live_row own_holds can_hold add_hold row_used is_next next_row live_ok hold_ok row_ok holds_ok owners_ok rows_ok shaped well_formed bytes_zero numbers_zero time_zero record_zero blk put_blk legal check_of seal same_file is_free is_head is_data zeros fresh_block free_of head_of data_of free_count all_zero head_once data_once within_length under there length_of present byte_at read_file claim write_blk set_length raise put_block put_to touched put_file make_file clear_to clear_all is_past zero_tail cut_file is_of drop_file store_maps sync_meta first_bit is_used add_group take_bit alloc_block free_block new_node store_row sync_row free_node drop_node release put_slot dirent_init dirent_append nlinks_inc nlinks_dec unlink_folder live_folder by_handle format_steps birth name_folder named create_steps removable link_steps move_within has_contents write_steps resize_steps sync_from byte_of near byte_near run_near read_near maps_near meta_near slot_bytes_near slot_near look_to_near look_near find_near weigh layout_by sound_by start_near load_near open_near get_near hold_near remove_near remove_steps_near move_steps_near move_free_near move_to_near head_blk data_blk free_blks records_of meta_bytes folder_bytes rows_of holds_of
computed = 0

-- ---- the fresh image

pub fresh-is : fresh ≡ done fresh_arena
unfolding computed fresh call_format fresh_arena
fresh-is = refl

-- ---- it is admitted, with the empty table and with the root open

fresh-legal : legal fresh_arena ≡ true
unfolding computed fresh_arena
fresh-legal = refl

fresh-sound : sound_by check_near fresh_arena ≡ true
unfolding computed fresh_arena
fresh-sound = refl

empty-formed : well_formed empty_table ≡ true
unfolding computed
empty-formed = refl

root-formed : well_formed root_table ≡ true
unfolding computed root_table
root-formed = refl

pub fresh-admitted : admit fresh_arena root_table ≡ done tt
fresh-admitted = admitted fresh_arena root_table fresh-legal fresh-sound root-formed

-- ---- the root opened

root-fresh : root_near fresh_arena empty_table editor ≡ done (record { handle = handle 0 1; table = root_table })
unfolding computed root_near root_table fresh_arena
root-fresh = refl

pub root_is : call_root fresh_arena empty_table editor ≡ done (record { handle = handle 0 1; table = root_table })
root_is = root-near fresh_arena empty_table editor (admitted fresh_arena empty_table fresh-legal fresh-sound empty-formed) ∙ root-fresh

pub opened-fresh : opened fresh_arena ≡ done fresh_world
unfolding opened fresh_world
opened-fresh = rw root_is

pub begun-is : begun ≡ done fresh_world
unfolding begun
begun-is = rw (fresh-is, opened-fresh)

-- ---- a node made in it, as it is computed

pub fresh-made : (name : List ℕ) (kind n : ℕ) → made fresh_world name kind n ≡ create_near fresh_arena root_table editor (handle 0 1) name kind 420 epoch (uuid n)
unfolding made fresh_world
fresh-made name kind n = create-near fresh_arena root_table editor (handle 0 1) name kind 420 epoch (uuid n) fresh-admitted

-- ---- `a`, `b` and `c`, one after another

a-near : create_near fresh_arena root_table editor (handle 0 1) (97 ∷ []) type_file 420 epoch (uuid 2)
    ≡ done (record { arena = a_world.arena; table = a_world.table; handle = handle 1 2 })
unfolding computed create_near root_table fresh_arena a_meta a_arena a_world
a-near = refl

pub a-made : made fresh_world (97 ∷ []) type_file 2 ≡ done (record { arena = a_world.arena; table = a_world.table; handle = handle 1 2 })
a-made = fresh-made (97 ∷ []) type_file 2 ∙ a-near

a-legal : legal a_world.arena ≡ true
unfolding computed a_meta a_arena a_world
a-legal = refl

a-sound : sound_by check_near a_world.arena ≡ true
unfolding computed a_meta a_arena a_world
a-sound = refl

a-formed : well_formed a_world.table ≡ true
unfolding computed a_world
a-formed = refl

pub a-admitted : admit a_world.arena a_world.table ≡ done tt
a-admitted = admitted a_world.arena a_world.table a-legal a-sound a-formed

b-near : create_near a_world.arena a_world.table editor (handle 0 1) (98 ∷ []) type_file 420 epoch (uuid 3)
    ≡ done (record { arena = b_world.arena; table = b_world.table; handle = handle 2 3 })
unfolding computed create_near a_meta a_arena a_world b_slots b_meta b_arena b_world
b-near = refl

root-of-a : a_world.root ≡ handle 0 1
unfolding a_world
root-of-a = refl

pub b-made : made a_world (98 ∷ []) type_file 3 ≡ done (record { arena = b_world.arena; table = b_world.table; handle = handle 2 3 })
unfolding made
b-made = rw root-of-a (create-near a_world.arena a_world.table editor (handle 0 1) (98 ∷ []) type_file 420 epoch (uuid 3) a-admitted ∙ b-near)

b-legal : legal b_world.arena ≡ true
unfolding computed b_slots b_meta b_arena b_world
b-legal = refl

b-sound : sound_by check_near b_world.arena ≡ true
unfolding computed b_slots b_meta b_arena b_world
b-sound = refl

b-formed : well_formed b_world.table ≡ true
unfolding computed b_world
b-formed = refl

pub b-admitted : admit b_world.arena b_world.table ≡ done tt
b-admitted = admitted b_world.arena b_world.table b-legal b-sound b-formed

c-near : create_near b_world.arena b_world.table editor (handle 0 1) (99 ∷ []) type_file 420 epoch (uuid 4)
    ≡ done (record { arena = c_world.arena; table = c_world.table; handle = handle 3 4 })
unfolding computed create_near b_slots b_meta b_arena b_world c_slots c_meta c_arena c_world
c-near = refl

root-of-b : b_world.root ≡ handle 0 1
unfolding b_world
root-of-b = refl

pub c-made : made b_world (99 ∷ []) type_file 4 ≡ done (record { arena = c_world.arena; table = c_world.table; handle = handle 3 4 })
unfolding made
c-made = rw root-of-b (create-near b_world.arena b_world.table editor (handle 0 1) (99 ∷ []) type_file 420 epoch (uuid 4) b-admitted ∙ c-near)

c-legal : legal c_world.arena ≡ true
unfolding computed c_slots c_meta c_arena c_world
c-legal = refl

c-sound : sound_by check_near c_world.arena ≡ true
unfolding computed c_slots c_meta c_arena c_world
c-sound = refl

c-formed : well_formed c_world.table ≡ true
unfolding computed c_world
c-formed = refl

pub c-admitted : admit c_world.arena c_world.table ≡ done tt
c-admitted = admitted c_world.arena c_world.table c-legal c-sound c-formed

root-of-c : c_world.root ≡ handle 0 1
unfolding c_world
root-of-c = refl

-- on from each
pub a-filed : filed fresh_world (97 ∷ []) 2 ≡ done a_world
unfolding filed fresh_world a_world
a-filed = rw a-made

pub b-filed : filed a_world (98 ∷ []) 3 ≡ done b_world
unfolding filed
b-filed = rw (b-made, root-of-a, ← root-of-b)

pub c-filed : filed b_world (99 ∷ []) 4 ≡ done c_world
unfolding filed
c-filed = rw (c-made, root-of-b, ← root-of-c)

-- ---- `a` removed, as it is computed

pub gone-near : call_remove_file c_world.arena c_world.table editor c_world.root (97 ∷ []) ≡ remove_call_near false c_world.arena c_world.table editor (handle 0 1) (97 ∷ [])
gone-near = rw root-of-c (remove-call-near false c_world.arena c_world.table editor (handle 0 1) (97 ∷ []) c-admitted)

-- ---- no bit set

pub full_is : full fresh_arena ≡ done full_arena
unfolding computed full stored fresh_arena full_arena
full_is = refl

full-legal : legal full_arena ≡ true
unfolding computed full_arena
full-legal = refl

full-sound : sound_by check_near full_arena ≡ true
unfolding computed full_arena
full-sound = refl

root-full : root_near full_arena empty_table editor ≡ done (record { handle = handle 0 1; table = root_table })
unfolding computed root_near root_table full_arena
root-full = refl

pub opened-full : opened full_arena ≡ done full_world
unfolding opened full_world
opened-full = rw (root-near full_arena empty_table editor (admitted full_arena empty_table full-legal full-sound empty-formed), root-full)

pub full-made : (name : List ℕ) (kind n : ℕ) → made full_world name kind n ≡ create_near full_arena root_table editor (handle 0 1) name kind 420 epoch (uuid n)
unfolding made full_world
full-made name kind n = create-near full_arena root_table editor (handle 0 1) name kind 420 epoch (uuid n) (admitted full_arena root_table full-legal full-sound root-formed)

-- ---- `x` written into `a`, for `cheats`

x-near : write_near a_world.arena a_world.table editor (handle 1 2) 0 (120 ∷ []) ≡ done (record { arena = x_world.arena; table = x_world.table })
unfolding computed write_near a_meta a_arena a_world x_arena x_world
x-near = refl

pub x-written : call_write a_world.arena a_world.table editor (handle 1 2) 0 (120 ∷ []) ≡ done (record { arena = x_world.arena; table = x_world.table })
x-written = write-near a_world.arena a_world.table editor (handle 1 2) 0 (120 ∷ []) a-admitted ∙ x-near

x-legal : legal x_world.arena ≡ true
unfolding computed a_meta x_arena x_world
x-legal = refl

x-sound : sound_by check_near x_world.arena ≡ true
unfolding computed a_meta x_arena x_world
x-sound = refl

x-formed : well_formed x_world.table ≡ true
unfolding computed x_world
x-formed = refl

pub x-admitted : admit x_world.arena x_world.table ≡ done tt
x-admitted = admitted x_world.arena x_world.table x-legal x-sound x-formed
