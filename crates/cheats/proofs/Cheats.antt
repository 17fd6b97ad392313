-- None of the cheats keeps the contracts.
use mathlib.Core.Path.{◌≡◌, ap, sym, ◌∙◌}
use mathlib.Core.Logic.{◌≢◌}
use mathlib.Core.List.{List, [], ◌∷◌}
use Prim.Native.Nat.{ℕ}
use native.Mathlib.Decide.{ℕ_discrete}
use native.Mathlib.Omega.{arith}
use Rattle.base.specs.Out.{Out, done, refused}
use Rattle.structs.specs.Constants.{type_file}
use Rattle.table.specs.Table.{empty_table}
use Rattle.table.specs.declared.Handle.{Handle}
use Rattle.table.specs.declared.Table.{Table}
use Rattle.sefs.specs.Create as sefs
use Rattle.sefs.specs.Create.{call_create}
use Rattle.sefs.specs.Open.{call_find}
use Rattle.std.specs.Prelude.{Result, Ok, Err}
use Rattle.base.specs.Told.{number}
use Rattle.base.specs.declared.reasons.Reason.{Reason}
use Rattle.calls.specs.Answers.{out_of, got_of}
use Rattle.calls.specs.declared.HeldReply.{HeldReply}
use Rattle.steps.specs.Ends.{after_as}
use Rattle.calls_create.specs.Held.{ReturnedHeld, held_as, arena_held}
use Rattle.fsck.specs.declared.Verdict.{Verdict}
use Rattle.fsck.specs.declared.Verdict.TheVariants as verdicts
use Rattle.course_states.specs.Worlds.{epoch, uuid, editor}
use Rattle.course_states.proofs.States.{handle, root_table, fresh_arena, a_world, b_world, c_world}
use Rattle.cheats.specs.Cheats.{Broken, StoresNothing, CreateHolds, CreateRefuses, CreateConstant, CreateStoresNothing, RemoveHolds, RemoveRefuses, RemoveConstant, RemoveStoresNothing, WriteHolds, WriteStoresNothing, ResizeHolds, ResizeStoresNothing, LinkHolds, LinkStoresNothing, MoveHolds, MoveStoresNothing, SyncHolds, SyncStoresNothing, onward, TwoHold, OnlyFirst, FindHolds, FindBroken, FindRefuses, FindConstant, CreateFindHolds, BlindFind, CheckBroken, PassesAll, FailsAll, InventsNodes, InventsUnused, InventsFree}
use Rattle.cheats.proofs.Inputs.{byte, create_a, a-done, create_empty, empty-refused, b-done, fresh-five, a_five, a_seven, b-seven, find-before, find-after, remove_a, remove_empty, gone-answer, c-length, gone-length, remove-empty, write_x, x-seven, written-seven, resize_x, resized-seven, link_b, a-links, linked-links, move_b, a-name, moved-name, sync_x, x-size, synced-size}
use Rattle.cheats.proofs.Counts.{empty-fails, fresh-verdict, a-verdict}

-- ---- what create's contract says where the definition is done, and where it is refused

module _ {t : Table} {o : Out sefs.Given} {a b : List ℕ} {r : HeldReply} (c : ReturnedHeld t o a b r) where
  held-answer : (g : sefs.Given) → o ≡ done g → out_of r.answer ≡ done g.handle
  held-answer g e = ap (λ (x : Out Handle × Table). x.0) (c.answer ∙ ap (held_as t) e)

  held-table : (g : sefs.Given) → o ≡ done g → r.table ≡ g.table
  held-table g e = ap (λ (x : Out Handle × Table). x.1) (c.answer ∙ ap (held_as t) e)

  held-arena : (g : sefs.Given) → o ≡ done g → b ≡ g.arena
  held-arena g e = c.arena ∙ ap (arena_held a) e

  held-refused : (n : ℕ) → o ≡ refused n → out_of r.answer ≡ refused n
  held-refused n e = ap (λ (x : Out Handle × Table). x.0) (c.answer ∙ ap (held_as t) e)

not-both : (x : Result Handle Reason) (h : Handle) (n : ℕ) → out_of x ≡ done h → out_of x ≡ refused n → ⊥
not-both x h n p q = let z : ◌≡◌ {A = ℕ} 0 1 = cc in omega arith

-- ---- what stores nothing is caught at the input x by byte k, which is another one afterwards, by the contract

stores-caught : {X Y : Type 0} (before : X → List ℕ) (after : Y → List ℕ) (Holds : X → Y → Type 0) (x : X) (k : ℕ)
    → ((y : Y) → Holds x y → byte k (after y) ≢ byte k (before x)) → StoresNothing before after Holds
unfolding StoresNothing Broken
stores-caught before after Holds x k other port h = (x, λ c. other (port x) c (ap (byte k) (h x)))

-- ---- create

pub create-refuses : CreateRefuses
unfolding CreateRefuses Broken CreateHolds create_a
create-refuses port h = (create_a, λ c. not-both (port create_a).given.answer (handle 1 2) (number (h create_a).0) (held-answer c _ a-done) (ap out_of (h create_a).1))

pub create-constant : CreateConstant
unfolding CreateConstant Broken CreateHolds create_a create_empty
create-constant port (Ok k) h = (create_empty, λ c. not-both (port create_empty).given.answer k 12 (ap out_of (h create_empty)) (held-refused c 12 empty-refused))
create-constant port (Err e) h = (create_a, λ c. not-both (port create_a).given.answer (handle 1 2) (number e) (held-answer c _ a-done) (ap out_of (h create_a)))

-- block 5 comes into use
pub create-stores : CreateStoresNothing
unfolding CreateStoresNothing CreateHolds create_a
create-stores = stores-caught (λ x. x.arena) (λ y. y.arena) CreateHolds create_a 2560 (λ y c e. omega (arith, e, fresh-five, ap (byte 2560) (held-arena c _ a-done), a_five))

-- ---- remove-file

not_done : (x : Result Unit Reason) (n : ℕ) → out_of x ≡ done tt → out_of x ≡ refused n → ⊥
not_done x n p q = let z : ◌≡◌ {A = ℕ} 0 1 = cc in omega arith

pub remove-refuses : RemoveRefuses
unfolding RemoveRefuses Broken RemoveHolds remove_a
remove-refuses port h = (remove_a, λ c. not_done (port remove_a).after.answer (number (h remove_a).0) (ap (λ (x : Out Unit × Table). x.0) c.answer ∙ gone-answer) (ap out_of (h remove_a).1))

pub remove-constant : RemoveConstant
unfolding RemoveConstant Broken RemoveHolds remove_a remove_empty
remove-constant port (Ok tt) h =
    (remove_empty, λ c. not_done (port remove_empty).after.answer 9 (ap out_of (h remove_empty)) (ap (λ (x : Out Unit × Table). x.0) (c.answer ∙ ap (after_as c_world.table) remove-empty)))
remove-constant port (Err e) h =
    (remove_a, λ c. not_done (port remove_a).after.answer (number e) (ap (λ (x : Out Unit × Table). x.0) c.answer ∙ gone-answer) (ap out_of (h remove_a)))

-- the folder's length falls
pub remove-stores : RemoveStoresNothing
unfolding RemoveStoresNothing RemoveHolds remove_a
remove-stores = stores-caught (λ x. x.arena) (λ y. y.arena) RemoveHolds remove_a 532 (λ y c e. omega (arith, e, c-length, ap (byte 532) c.arena, gone-length))

-- ---- write, resize, link, move and sync

-- block 7 comes into use
pub write-stores : WriteStoresNothing
unfolding WriteStoresNothing WriteHolds write_x
write-stores = stores-caught (λ x. x.arena) (λ y. y.arena) WriteHolds write_x 3584 (λ y c e. omega (arith, e, a_seven, ap (byte 3584) c.arena, written-seven))

-- block 7 becomes free
pub resize-stores : ResizeStoresNothing
unfolding ResizeStoresNothing ResizeHolds resize_x
resize-stores = stores-caught (λ x. x.arena) (λ y. y.arena) ResizeHolds resize_x 3584 (λ y c e. omega (arith, e, x-seven, ap (byte 3584) c.arena, resized-seven))

-- the stored count of links rises
pub link-stores : LinkStoresNothing
unfolding LinkStoresNothing LinkHolds link_b
link-stores = stores-caught (λ x. x.arena) (λ y. y.arena) LinkHolds link_b 2470 (λ y c e. omega (arith, e, a-links, ap (byte 2470) c.arena, linked-links))

-- the slot has another name
pub move-stores : MoveStoresNothing
unfolding MoveStoresNothing MoveHolds move_b
move-stores = stores-caught (λ x. x.arena) (λ y. y.arena) MoveHolds move_b 1612 (λ y c e. omega (arith, e, a-name, ap (byte 1612) c.arena, moved-name))

-- the stored size rises
pub sync-stores : SyncStoresNothing
unfolding SyncStoresNothing SyncHolds sync_x
sync-stores = stores-caught (λ x. x.arena) (λ y. y.arena) SyncHolds sync_x 2456 (λ y c e. omega (arith, e, x-size, ap (byte 2456) c.arena, synced-size))

-- ---- find

pub find-refuses : FindRefuses
unfolding FindRefuses FindBroken FindHolds
find-refuses port h =
    let x : (e : Reason) × ((port a_world.arena a_world.table editor (handle 0 1) (97 ∷ [])).answer ≡ Err e) = h a_world.arena a_world.table editor (handle 0 1) (97 ∷ []) in
    (a_world.arena, a_world.table, editor, handle 0 1, 97 ∷ [], λ c. not-both (port a_world.arena a_world.table editor (handle 0 1) (97 ∷ [])).answer (handle 2 3) (number x.0) (c.0 ∙ find-after) (ap out_of x.1))

pub find-constant : FindConstant
unfolding FindConstant FindBroken FindHolds
find-constant port (Ok k) h =
    (fresh_arena, root_table, editor, handle 0 1, 97 ∷ [], λ c. not-both (port fresh_arena root_table editor (handle 0 1) (97 ∷ [])).answer k 11 (ap out_of (h fresh_arena root_table editor (handle 0 1) (97 ∷ []))) (c.0 ∙ find-before))
find-constant port (Err e) h =
    (a_world.arena, a_world.table, editor, handle 0 1, 97 ∷ [], λ c. not-both (port a_world.arena a_world.table editor (handle 0 1) (97 ∷ [])).answer (handle 2 3) (number e) (c.0 ∙ find-after) (ap out_of (h a_world.arena a_world.table editor (handle 0 1) (97 ∷ []))))

-- ---- a sequence

pub only-first : OnlyFirst
unfolding OnlyFirst TwoHold CreateHolds onward create_a
only-first port h =
    (create_a, 98 ∷ [], uuid 3, λ c. omega (arith, ap (byte 3584) (second c), ap (byte 3584) (h create_a (98 ∷ []) (uuid 3)), ap (byte 3584) (held-arena c.0 _ a-done), a_seven, b-seven))
  where
    second : TwoHold create_a (98 ∷ []) (uuid 3) (port create_a (98 ∷ []) (uuid 3)) → (port create_a (98 ∷ []) (uuid 3)).second.arena ≡ b_world.arena
    second c =
        held-arena c.1 _
        ((λ j. call_create (held-arena c.0 _ a-done j) (held-table c.0 _ a-done j) editor (handle 0 1) (98 ∷ []) type_file 420 epoch (uuid 3)) ∙ b-done)

pub blind-find : BlindFind
unfolding BlindFind CreateFindHolds CreateHolds FindHolds create_a
blind-find port h = (
  create_a,
  λ c. not-both (port create_a).found.answer (handle 2 3) 11
      (c.1.0 ∙ (λ j. got_of (call_find (held-arena c.0 _ a-done j) (held-table c.0 _ a-done j) editor (handle 0 1) (97 ∷ []))) ∙ find-after)
      ((h create_a).0 ∙ find-before),
)

-- ---- the checker

not-pass : (v : Verdict) (n u f r : ℕ) → v ≡ verdicts.Pass n u f → v ≡ verdicts.Fail r → ⊥
not-pass v n u f r p q = let z : ◌≡◌ {A = ℕ} 0 1 = cc in omega arith

pub passes-all : PassesAll
unfolding PassesAll CheckBroken
passes-all port h =
    let x : (n : ℕ) × (u : ℕ) × (f : ℕ) × (port [] empty_table ≡ verdicts.Pass n u f) = h [] empty_table in
    ([], empty_table, λ c. not-pass (port [] empty_table) x.0 x.1 x.2 1 x.3 (c ∙ empty-fails))

-- from here on with demand 3: a fresh image passes
pub fails-all : FailsAll
unfolding FailsAll CheckBroken
fails-all port h = (fresh_arena, empty_table, λ c. not-pass (port fresh_arena empty_table) 1 1021 11 (h fresh_arena empty_table).0 (c ∙ fresh-verdict) (h fresh_arena empty_table).1)

-- and a call keeps a pair that passes: the fresh image has 1 node, 1021 unused ids and 11 free blocks, the one with `a` 2, 1020 and 9
pub invents-nodes : InventsNodes
unfolding InventsNodes CheckBroken
invents-nodes port m h = elim (ℕ_discrete m 1) [
  | yes e ↦ (a_world.arena, a_world.table, λ c. omega (arith, h a_world.arena a_world.table 2 1020 9 (c ∙ a-verdict)))
  | no d ↦ (fresh_arena, empty_table, λ c. d (sym (h fresh_arena empty_table 1 1021 11 (c ∙ fresh-verdict))))
]

pub invents-unused : InventsUnused
unfolding InventsUnused CheckBroken
invents-unused port m h = elim (ℕ_discrete m 1021) [
  | yes e ↦ (a_world.arena, a_world.table, λ c. omega (arith, h a_world.arena a_world.table 2 1020 9 (c ∙ a-verdict)))
  | no d ↦ (fresh_arena, empty_table, λ c. d (sym (h fresh_arena empty_table 1 1021 11 (c ∙ fresh-verdict))))
]

pub invents-free : InventsFree
unfolding InventsFree CheckBroken
invents-free port m h = elim (ℕ_discrete m 11) [
  | yes e ↦ (a_world.arena, a_world.table, λ c. omega (arith, h a_world.arena a_world.table 2 1020 9 (c ∙ a-verdict)))
  | no d ↦ (fresh_arena, empty_table, λ c. d (sym (h fresh_arena empty_table 1 1021 11 (c ∙ fresh-verdict))))
]
