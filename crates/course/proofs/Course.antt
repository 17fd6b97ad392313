-- The course examples: a row each, from the states that the calls were computed to leave, and the table.
use mathlib.Core.Path.{◌≡◌, refl, ap, sym, ◌∙◌}
use mathlib.Core.Bool.{false}
use mathlib.Core.List.{List, [], ◌∷◌, ◌++◌}
use Prim.Native.Nat.{ℕ, zero, suc, ◌*◌}
use native.Mathlib.Omega.{arith}
use lib.IntN.{negsuc}
use lib.ListN.{replicate}
use Rattle.base.specs.Out.{Out, done, answer, bind, ◌>>=◌}
use Rattle.base.proofs.Outs.{bind_assoc}
use Rattle.structs.specs.Constants.{type_file, type_dir}
use Rattle.structs.specs.Layout.{record_of, entry_of}
use Rattle.utf8.specs.Names.{name_of}
use Rattle.files.specs.Read.{length_of}
use Rattle.sefs.specs.Meta.{meta_file}
use Rattle.sefs.specs.Create.{After, Given}
use Rattle.sefs.specs.Remove.{call_remove_file}
use Rattle.course.specs.Course.{Fact, id, unused, map_byte, used, links, slot, root_length, meta_length, check, answers, number, facts, used_to, used_in, id_of, image_facts, links_of, slots_from, file_read, folder_read, gone_read, group_read, fresh_row, file_row, folder_row, remove_row, group_row, check_row, long_row, empty_row, minus_row, table, expected}
use Rattle.course_states.specs.Worlds.{epoch, uuid, root_file, editor, stored}
use Rattle.course_states.proofs.Near.{read_near, read-near}
use Rattle.course_states.proofs.Calls.{create_near, remove_call_near}
use Rattle.course_states.proofs.States.{handle, root_table, fresh_arena, c_slots, c_meta, c_arena, c_world, full_arena}
use Rattle.course_states.proofs.Steps.{computed, fresh-is, begun-is, fresh-made, a-filed, b-filed, c-filed, gone-near, full_is, opened-full, full-made}

-- ---- records and slots, read with less work

unfoldable links_near : List ℕ → ℕ → Out Fact
links_near a n = do
  l ← read_near a meta_file (128 * n) 112
  done (links n (record_of l).nlinks)

links-near : (a : List ℕ) (n : ℕ) → links_of a n ≡ links_near a n
unfolding links_of links_near
links-near a n = λ j. bind (read-near a meta_file (128 * n) 112 (omega arith) j) (λ l. done (links n (record_of l).nlinks))

unfoldable slots_near : List ℕ → ℕ → ℕ → Out (List Fact)
slots_near a k zero = done []
slots_near a k (suc n) = do
  l ← read_near a root_file (264 * k) 264
  r ← slots_near a (suc k) n
  done (slot k (name_of (entry_of l).name) ∷ r)

slots-near : (a : List ℕ) (k n : ℕ) → slots_from a k n ≡ slots_near a k n
unfolding slots_from slots_near
slots-near a k zero = refl
slots-near a k (suc n) =
    λ j. bind (read-near a root_file (264 * k) 264 (omega arith) j) (λ l. bind (slots-near a (suc k) n j) (λ r. done (slot k (name_of (entry_of l).name) ∷ r)))

unfoldable folder_near : Given → Out (List Fact)
folder_near g = do
  r ← links_near g.arena 2
  b ← links_near g.arena 3
  done (id_of g ∷ r ∷ b ∷ used_in g.arena ∷ [])

folder-near : folder_read ≡ folder_near
unfolding folder_read folder_near
folder-near = λ j g. bind (links-near g.arena 2 j) (λ r. bind (links-near g.arena 3 j) (λ b. done (id_of g ∷ r ∷ b ∷ used_in g.arena ∷ [])))

unfoldable gone_near : After → Out (List Fact)
gone_near u = do
  r ← slots_near u.arena 2 2
  done (r ++ (root_length (length_of u.arena root_file) ∷ []))

gone-read-near : gone_read ≡ gone_near
unfolding gone_read gone_near
gone-read-near = λ j u. bind (slots-near u.arena 2 2 j) (λ r. done (r ++ (root_length (length_of u.arena root_file) ∷ [])))

-- ---- the facts of each state

fresh-facts : image_facts fresh_arena ≡ done (unused 1021 ∷ map_byte 0 248 ∷ used (0 ∷ 1 ∷ 2 ∷ 3 ∷ 4 ∷ []) ∷ [])
unfolding computed image_facts stored used_to fresh_arena
fresh-facts = refl

file-facts : bind (create_near fresh_arena root_table editor (handle 0 1) (65 ∷ []) type_file 420 epoch (uuid 2)) file_read
    ≡ done (id 3 ∷ unused 1020 ∷ map_byte 0 240 ∷ used (0 ∷ 1 ∷ 2 ∷ 3 ∷ 4 ∷ 5 ∷ 6 ∷ []) ∷ [])
unfolding computed create_near root_table fresh_arena file_read image_facts stored used_to
file-facts = refl

folder-facts : bind (create_near fresh_arena root_table editor (handle 0 1) (66 ∷ []) type_dir 420 epoch (uuid 2)) folder_near
    ≡ done (id 3 ∷ links 2 3 ∷ links 3 2 ∷ used (0 ∷ 1 ∷ 2 ∷ 3 ∷ 4 ∷ 5 ∷ 6 ∷ 7 ∷ 8 ∷ []) ∷ [])
unfolding computed create_near root_table fresh_arena links_near folder_near used_to
folder-facts = refl

before-facts : slots_near c_world.arena 2 3 ≡ done (slot 2 (97 ∷ []) ∷ slot 3 (98 ∷ []) ∷ slot 4 (99 ∷ []) ∷ [])
unfolding computed slots_near c_slots c_meta c_arena c_world
before-facts = refl

gone-facts : bind (remove_call_near false c_world.arena c_world.table editor (handle 0 1) (97 ∷ [])) gone_near
    ≡ done (slot 2 (99 ∷ []) ∷ slot 3 (98 ∷ []) ∷ root_length 1056 ∷ [])
unfolding computed remove_call_near slots_near gone_near c_slots c_meta c_arena c_world
gone-facts = refl

-- the removal, and what it leaves
gone-is : (before : List Fact) → bind (call_remove_file c_world.arena c_world.table editor c_world.root (97 ∷ [])) (λ u. bind (gone_read u) (λ now. done (before ++ now)))
    ≡ done (before ++ (slot 2 (99 ∷ []) ∷ slot 3 (98 ∷ []) ∷ root_length 1056 ∷ []))
gone-is before =
    rw (gone-near, gone-read-near)
    (sym (bind_assoc (remove_call_near false c_world.arena c_world.table editor (handle 0 1) (97 ∷ [])) gone_near (λ now. done (before ++ now)))
    ∙ ap (λ (o : Out (List Fact)). bind o (λ now. done (before ++ now))) gone-facts)

group-facts : bind (create_near full_arena root_table editor (handle 0 1) (65 ∷ []) type_file 420 epoch (uuid 2)) group_read
    ≡ done (id 1024 ∷ unused 1022 ∷ map_byte 1 252 ∷ meta_length 262144 ∷ [])
unfolding computed create_near root_table full_arena group_read stored
group-facts = refl

long-facts : answer (create_near fresh_arena root_table editor (handle 0 1) (replicate 255 97) type_file 420 epoch (uuid 2)) ≡ 0
unfolding computed create_near root_table fresh_arena
long-facts = refl

longer-facts : answer (create_near fresh_arena root_table editor (handle 0 1) (replicate 256 97) type_file 420 epoch (uuid 2)) ≡ 10
unfolding computed create_near root_table fresh_arena
longer-facts = refl

empty-facts : answer (create_near fresh_arena root_table editor (handle 0 1) [] type_file 420 epoch (uuid 2)) ≡ 12
unfolding computed create_near root_table fresh_arena
empty-facts = refl

-- ---- the rows

fresh-row : facts fresh_row ≡ unused 1021 ∷ map_byte 0 248 ∷ used (0 ∷ 1 ∷ 2 ∷ 3 ∷ 4 ∷ []) ∷ []
unfolding facts fresh_row
fresh-row = rw (fresh-is, fresh-facts)

file-row : facts file_row ≡ id 3 ∷ unused 1020 ∷ map_byte 0 240 ∷ used (0 ∷ 1 ∷ 2 ∷ 3 ∷ 4 ∷ 5 ∷ 6 ∷ []) ∷ []
unfolding facts file_row
file-row = rw (begun-is, fresh-made) (ap facts file-facts)

folder-row : facts folder_row ≡ id 3 ∷ links 2 3 ∷ links 3 2 ∷ used (0 ∷ 1 ∷ 2 ∷ 3 ∷ 4 ∷ 5 ∷ 6 ∷ 7 ∷ 8 ∷ []) ∷ []
unfolding facts folder_row
folder-row = rw (begun-is, fresh-made, folder-near) (ap facts folder-facts)

remove-row : facts remove_row ≡ slot 2 (97 ∷ []) ∷ slot 3 (98 ∷ []) ∷ slot 4 (99 ∷ []) ∷ slot 2 (99 ∷ []) ∷ slot 3 (98 ∷ []) ∷ root_length 1056 ∷ []
unfolding facts remove_row
remove-row = rw (begun-is, a-filed, b-filed, c-filed, slots-near c_world.arena 2 3, before-facts)
    (ap facts (gone-is (slot 2 (97 ∷ []) ∷ slot 3 (98 ∷ []) ∷ slot 4 (99 ∷ []) ∷ [])))

group-row : facts group_row ≡ id 1024 ∷ unused 1022 ∷ map_byte 1 252 ∷ meta_length 262144 ∷ []
unfolding facts group_row
group-row = rw (fresh-is, full_is, opened-full, full-made) (ap facts group-facts)

check-row : facts check_row ≡ check 2 ∷ []
unfolding computed facts check_row
check-row = refl

long-row : facts long_row ≡ answers 0 ∷ answers 10 ∷ []
unfolding facts long_row
long-row = rw (begun-is, fresh-made (replicate 255 97) type_file 2, long-facts, fresh-made (replicate 256 97) type_file 2, longer-facts)

empty-row : facts empty_row ≡ answers 12 ∷ []
unfolding facts empty_row
empty-row = rw (begun-is, fresh-made, empty-facts)

minus-row : facts minus_row ≡ number (negsuc 0) ∷ []
unfolding computed facts minus_row
minus-row = refl

-- the marked examples of document 01
pub course : table ≡ expected
unfolding table
course =
    λ x. fresh-row x ∷ file-row x ∷ folder-row x ∷ remove-row x ∷ group-row x ∷ check-row x ∷ long-row x ∷ empty-row x ∷ minus-row x ∷ []
