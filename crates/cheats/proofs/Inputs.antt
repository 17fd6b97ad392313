-- The inputs at which the cheats are caught, and what the calls do there, from the course's computed states.
use mathlib.Core.Path.{◌≡◌, refl, ap, ◌∙◌}
use mathlib.Core.Bool.{false}
use mathlib.Core.List.{List, [], ◌∷◌}
use Prim.Native.Nat.{ℕ}
use lib.ListN.{get_or}
use Rattle.base.specs.Out.{done, refused}
use Rattle.structs.specs.Constants.{type_file}
use Rattle.sefs.specs.Create.{call_create, call_link}
use Rattle.sefs.specs.Open.{call_find}
use Rattle.sefs.specs.Remove.{call_remove_file}
use Rattle.sefs.specs.Move.{call_move}
use Rattle.sefs.specs.Contents.{call_write, call_resize}
use Rattle.sefs.specs.Close.{call_sync}
use Rattle.calls.specs.Answers.{got_of}
use Rattle.steps.specs.Ends.{after_as, arena_after}
use Rattle.course_states.specs.Worlds.{epoch, uuid, editor, made}
use Rattle.course_states.proofs.Calls.{create_near, find_call_near, find-call-near, remove_call_near, remove-call-near, resize_near, resize-near, link_near, link_near_lem, move_near, move-near, sync_near, sync-near}
use Rattle.course_states.proofs.States.{handle, root_table, fresh_arena, fresh_world, a_meta, a_arena, a_world, b_slots, b_meta, b_arena, b_world, c_slots, c_meta, c_arena, c_world, x_arena, x_world}
use Rattle.course_states.proofs.Steps.{computed, fresh-admitted, fresh-made, a-made, a-admitted, b-made, c-admitted, x-written, x-admitted}
use Rattle.cheats.specs.Cheats.{CreateInput, RemoveInput, WriteInput, ResizeInput, LinkInput, MoveInput, SyncInput}

-- a byte of an arena
unfoldable pub byte : ℕ → List ℕ → ℕ
byte k a = get_or a k 0

-- ---- create

-- `a`, in the fresh image
unfoldable pub create_a : CreateInput
create_a = record {
  arena = fresh_arena;
  table = root_table;
  who = editor;
  handle = handle 0 1;
  name = 97 ∷ [];
  kind = type_file;
  mode = 420;
  time = epoch;
  file = uuid 2;
}

pub a-done : call_create fresh_arena root_table editor (handle 0 1) (97 ∷ []) type_file 420 epoch (uuid 2)
    ≡ done (record { arena = a_world.arena; table = a_world.table; handle = handle 1 2 })
unfolding made fresh_world
a-done = a-made

-- the empty name, in the fresh image
unfoldable pub create_empty : CreateInput
create_empty = record {
  arena = fresh_arena;
  table = root_table;
  who = editor;
  handle = handle 0 1;
  name = [];
  kind = type_file;
  mode = 420;
  time = epoch;
  file = uuid 2;
}

empty-near : create_near fresh_arena root_table editor (handle 0 1) [] type_file 420 epoch (uuid 2) ≡ refused 12
unfolding computed create_near root_table fresh_arena
empty-near = refl

pub empty-refused : call_create fresh_arena root_table editor (handle 0 1) [] type_file 420 epoch (uuid 2) ≡ refused 12
unfolding made fresh_world
empty-refused = fresh-made [] type_file 2 ∙ empty-near

-- `b`, after `a`
pub b-done : call_create a_world.arena a_world.table editor (handle 0 1) (98 ∷ []) type_file 420 epoch (uuid 3)
    ≡ done (record { arena = b_world.arena; table = b_world.table; handle = handle 2 3 })
unfolding made a_world
b-done = b-made

-- block 5 is free in the fresh image and used with `a`; block 7 is free with `a` and used with `b`
pub fresh-five : byte 2560 fresh_arena ≡ 0
unfolding computed byte fresh_arena
fresh-five = refl

pub a_five : byte 2560 a_world.arena ≡ 1
unfolding computed byte a_meta a_arena a_world
a_five = refl

pub a_seven : byte 3584 a_world.arena ≡ 0
unfolding computed byte a_meta a_arena a_world
a_seven = refl

pub b-seven : byte 3584 b_world.arena ≡ 1
unfolding computed byte b_slots b_meta b_arena b_world
b-seven = refl

-- ---- find `a`, before it is made and after

before-near : find_call_near fresh_arena root_table editor (handle 0 1) (97 ∷ []) ≡ refused 11
unfolding computed find_call_near root_table fresh_arena
before-near = refl

pub find-before : got_of (call_find fresh_arena root_table editor (handle 0 1) (97 ∷ [])) ≡ refused 11
find-before = ap got_of (find-call-near fresh_arena root_table editor (handle 0 1) (97 ∷ []) fresh-admitted ∙ before-near)

after-near : got_of (find_call_near a_world.arena a_world.table editor (handle 0 1) (97 ∷ [])) ≡ done (handle 2 3)
unfolding computed find_call_near a_meta a_arena a_world
after-near = refl

pub find-after : got_of (call_find a_world.arena a_world.table editor (handle 0 1) (97 ∷ [])) ≡ done (handle 2 3)
find-after = ap got_of (find-call-near a_world.arena a_world.table editor (handle 0 1) (97 ∷ []) a-admitted) ∙ after-near

-- ---- remove-file: `a`, with `a`, `b` and `c` there, and the empty name

unfoldable pub remove_a : RemoveInput
remove_a = record { arena = c_world.arena; table = c_world.table; who = editor; handle = handle 0 1; name = 97 ∷ [] }

unfoldable pub remove_empty : RemoveInput
remove_empty = record { arena = c_world.arena; table = c_world.table; who = editor; handle = handle 0 1; name = [] }

gone-answer-near : (after_as c_world.table (remove_call_near false c_world.arena c_world.table editor (handle 0 1) (97 ∷ []))).0 ≡ done tt
unfolding computed remove_call_near c_slots c_meta c_arena c_world
gone-answer-near = refl

pub gone-answer : (after_as c_world.table (call_remove_file c_world.arena c_world.table editor (handle 0 1) (97 ∷ []))).0 ≡ done tt
gone-answer = rw (remove-call-near false c_world.arena c_world.table editor (handle 0 1) (97 ∷ []) c-admitted) gone-answer-near

-- byte 20 of the root's head, in block 1: the lowest byte of the folder's length, 1320 and then 1056
pub c-length : byte 532 c_world.arena ≡ 40
unfolding computed byte c_slots c_meta c_arena c_world
c-length = refl

gone-length-near : byte 532 (arena_after c_world.arena (remove_call_near false c_world.arena c_world.table editor (handle 0 1) (97 ∷ []))) ≡ 32
unfolding computed byte remove_call_near c_slots c_meta c_arena c_world
gone-length-near = refl

pub gone-length : byte 532 (arena_after c_world.arena (call_remove_file c_world.arena c_world.table editor (handle 0 1) (97 ∷ []))) ≡ 32
gone-length = rw (remove-call-near false c_world.arena c_world.table editor (handle 0 1) (97 ∷ []) c-admitted) gone-length-near

remove-empty-near : remove_call_near false c_world.arena c_world.table editor (handle 0 1) [] ≡ refused 9
unfolding computed remove_call_near c_slots c_meta c_arena c_world
remove-empty-near = refl

pub remove-empty : call_remove_file c_world.arena c_world.table editor (handle 0 1) [] ≡ refused 9
remove-empty = remove-call-near false c_world.arena c_world.table editor (handle 0 1) [] c-admitted ∙ remove-empty-near

-- ---- write: `x` into `a`, which has no block yet. Block 7 is free with `a`, and the block of its contents then

unfoldable pub write_x : WriteInput
write_x = record { arena = a_world.arena; table = a_world.table; who = editor; handle = handle 1 2; place = 0; bytes = 120 ∷ [] }

pub x-seven : byte 3584 x_world.arena ≡ 2
unfolding computed byte a_meta x_arena x_world
x-seven = refl

pub written-seven : byte 3584 (arena_after a_world.arena (call_write a_world.arena a_world.table editor (handle 1 2) 0 (120 ∷ []))) ≡ 2
written-seven = rw x-written x-seven

-- ---- resize: `a` with `x` in it, to nothing. Block 7 becomes free

unfoldable pub resize_x : ResizeInput
resize_x = record { arena = x_world.arena; table = x_world.table; who = editor; handle = handle 1 2; size = 0 }

resized-near : byte 3584 (arena_after x_world.arena (resize_near x_world.arena x_world.table editor (handle 1 2) 0)) ≡ 0
unfolding computed byte resize_near a_meta x_arena x_world
resized-near = refl

pub resized-seven : byte 3584 (arena_after x_world.arena (call_resize x_world.arena x_world.table editor (handle 1 2) 0)) ≡ 0
resized-seven = rw (resize-near x_world.arena x_world.table editor (handle 1 2) 0 x-admitted) resized-near

-- ---- link: `b` names `a` too. Byte 14 of `a`'s record, in block 4: the lower byte of its links

unfoldable pub link_b : LinkInput
link_b = record { arena = a_world.arena; table = a_world.table; who = editor; handle = handle 0 1; name = 98 ∷ []; child = handle 1 2 }

pub a-links : byte 2470 a_world.arena ≡ 1
unfolding computed byte a_meta a_arena a_world
a-links = refl

linked-near : byte 2470 (arena_after a_world.arena (link_near a_world.arena a_world.table editor (handle 0 1) (98 ∷ []) (handle 1 2))) ≡ 2
unfolding computed byte link_near a_meta a_arena a_world
linked-near = refl

pub linked-links : byte 2470 (arena_after a_world.arena (call_link a_world.arena a_world.table editor (handle 0 1) (98 ∷ []) (handle 1 2))) ≡ 2
linked-links = rw (link_near_lem a_world.arena a_world.table editor (handle 0 1) (98 ∷ []) (handle 1 2) a-admitted) linked-near

-- ---- move: `a` becomes `b`. The first byte of the name in slot 2 of the root, in block 3

unfoldable pub move_b : MoveInput
move_b = record { arena = a_world.arena; table = a_world.table; who = editor; handle = handle 0 1; old = 97 ∷ []; target = handle 0 1; name = 98 ∷ [] }

pub a-name : byte 1612 a_world.arena ≡ 97
unfolding computed byte a_meta a_arena a_world
a-name = refl

moved-near : byte 1612 (arena_after a_world.arena (move_near a_world.arena a_world.table editor (handle 0 1) (97 ∷ []) (handle 0 1) (98 ∷ []))) ≡ 98
unfolding computed byte move_near a_meta a_arena a_world
moved-near = refl

pub moved-name : byte 1612 (arena_after a_world.arena (call_move a_world.arena a_world.table editor (handle 0 1) (97 ∷ []) (handle 0 1) (98 ∷ []))) ≡ 98
moved-name = rw (move-near a_world.arena a_world.table editor (handle 0 1) (97 ∷ []) (handle 0 1) (98 ∷ []) a-admitted) moved-near

-- ---- sync: `a` with `x` in it, whose row is dirty. Byte 0 of its record, in block 4: the lowest byte of the size

unfoldable pub sync_x : SyncInput
sync_x = record { arena = x_world.arena; table = x_world.table }

pub x-size : byte 2456 x_world.arena ≡ 0
unfolding computed byte a_meta x_arena x_world
x-size = refl

synced-near : byte 2456 (arena_after x_world.arena (sync_near x_world.arena x_world.table)) ≡ 1
unfolding computed byte sync_near a_meta x_arena x_world
synced-near = refl

pub synced-size : byte 2456 (arena_after x_world.arena (call_sync x_world.arena x_world.table)) ≡ 1
synced-size = rw (sync-near x_world.arena x_world.table x-admitted) synced-near
