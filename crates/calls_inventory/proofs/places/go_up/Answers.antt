-- `calls_inventory::places::go_up`: slot 1 names the folder above, and one slot of that one names the folder.
use mathlib.Core.Path.{◌≡◌, refl, ap, ◌∙◌}
use mathlib.Core.List.{List}
use Prim.Native.Nat.{ℕ, ◌+◌, ◌<◌}
use native.Mathlib.Omega.{arith}
use lib.ListN.{length}
use mir.Syntax.{w32}
use mir.Val.{Fits}
use Rattle.std.proofs.Common.{rules}
use Rattle.structs.specs.declared.DiskINode.{DiskINode}
use Rattle.utf8.specs.Names.{name_of}
use Rattle.table.specs.Table.{empty_table}
use Rattle.rules.specs.Image.{rec_of, slot_in}
use Rattle.inventory.specs.Text.{escape}
use Rattle.calls_inventory.proofs.Stands.{slot-size, name-read, name-most, stored_is, Above, above, above-only, up-long, went_up}
use Rattle.calls_inventory.proofs.places.go_up.Goals as goal
use Rattle.calls_inventory.proofs.places.go_up.Goals.{After-escaped_size, After-name_of, After-slot_of-k}

-- ---- once the slot is found

-- one path and one rest for which the place stands are enough for what the code needs
up_from : (c : After-slot_of-k) → Above c.args.arena.now c.args.p c.requires.somewhere.0.path c.requires.somewhere.0.rest c.id_in-above.result
up_from c =
    let w = c.requires.somewhere in
    above c.args.arena.now c.args.p w.0.path w.0.rest c.requires.empty_table_value.0 w.0.stands w.1.0 w.1.1 c.id_in-above.result (c.id_in-above.ensures c.args.p.rec refl)

rec-is : (c : After-slot_of-k) → c.stored_rec-rec.result ≡ rec_of c.args.arena.now empty_table c.id_in-above.result
rec-is c = stored_is _ c.id_in-above.result c.stored_rec-rec.result (up_from c).some c.stored_rec-rec.ensures

slot_is : (c : After-slot_of-k) → c.slot_of-k.result ≡ (up_from c).at
slot_is c =
    let w = c.requires.somewhere.0 in
    let A = up_from c in
    c.slot_of-k.ensures A.at (above-only c.args.arena.now c.args.p w.path w.rest w.stands c.id_in-above.result A c.stored_rec-rec.result (rec-is c))

slot-low : (c : After-slot_of-k) → c.slot_of-k.result < 4294967296
slot-low c =
    let b : Fits w32 c.stored_rec-rec.result.blocks = search rules in
    omega (arith, slot_is c, (up_from c).only.inside, ap (λ (r : DiskINode). r.blocks) (rec-is c), b)

abbrev name-there : List ℕ → DiskINode → ℕ → List ℕ
name-there a r k = name_of (slot_in a r k).name

-- the path is no shorter than a slash and the name
path-is : (c : After-slot_of-k) (n : ℕ) → n ≡ length (escape (name-there c.args.arena.now c.stored_rec-rec.result c.slot_of-k.result)) → c.args.p.path ≡ length (up_from c).short + (1 + n)
path-is c n e =
    let w = c.requires.somewhere.0 in
    up-long c.args.arena.now c.args.p w.path w.rest w.stands c.id_in-above.result (up_from c) c.stored_rec-rec.result (rec-is c)
    c.slot_of-k.result n (slot_is c) e

-- ---- once its name is read
name-is : (c : After-name_of) → c.name_of.result.now ≡ name-there c.args.arena.now c.stored_rec-rec.result c.slot_of-k.result
name-is c = c.name_of.ensures ∙ name-read c.args.arena.now _ c.stored_rec-rec.result c.slot_of-k.result c.read_slot.ensures

size_is : (c : After-escaped_size) → c.escaped_size.result ≡ length (escape (name-there c.args.arena.now c.stored_rec-rec.result c.slot_of-k.result))
size_is c =
    let n = c.name_of.ensures ∙ name-read c.args.arena.now _ c.stored_rec-rec.result c.slot_of-k.result c.read_slot.ensures in
    c.escaped_size.ensures.0 ∙ ap (λ (x : List ℕ). length (escape x)) n

pub stored_rec-rec-requires : goal.stored_rec-rec-requires
stored_rec-rec-requires c =
    let w = c.requires.somewhere in
    let A = above c.args.arena.now c.args.p w.0.path w.0.rest c.requires.empty_table_value.0 w.0.stands w.1.0 w.1.1 c.id_in-above.result (c.id_in-above.ensures c.args.p.rec refl) in
    record { led = c.requires.led; id_bound = A.low }

pub read_slot-requires : goal.read_slot-requires
read_slot-requires c = record { led = c.requires.led; k_bound = (slot-low (goal.at.read_slot-requires c).After-slot_of-k, c.requires.empty_table_value.1) }

pub overflow_add-result : goal.overflow_add-result
overflow_add-result c = omega (arith, slot-low (goal.at.overflow_add-result c).After-slot_of-k)

pub overflow_sub-result : goal.overflow_sub-result
overflow_sub-result c = omega (arith, path-is (goal.at.overflow_sub-result c).After-slot_of-k _ refl)

pub name_of-requires : goal.name_of-requires
name_of-requires c = slot-size c.args.arena.now _ c.stored_rec-rec.result c.slot_of-k.result c.read_slot.ensures

pub escaped_size-requires : goal.escaped_size-requires
escaped_size-requires c =
    omega (arith, ap length (name-is (goal.at.escaped_size-requires c).After-name_of), name-most c.args.arena.now c.stored_rec-rec.result c.slot_of-k.result)

pub overflow_sub-result-2 : goal.overflow_sub-result-2
overflow_sub-result-2 c =
    omega (arith, path-is (goal.at.overflow_sub-result-2 c).After-slot_of-k _ (size_is (goal.at.overflow_sub-result-2 c).After-escaped_size))

pub returns : goal.returns
returns c =
    let a = c.args.arena.now in
    let p = c.args.p in
    let w = c.requires.somewhere in
    let i = c.id_in-above in
    let r = c.stored_rec-rec.result in
    let q = rec-is (goal.at.returns c).After-slot_of-k in
    λ path rest S.
    let A = above a p path rest c.requires.empty_table_value.0 S w.1.0 w.1.1 i.result (i.ensures p.rec refl) in
    went_up a p path rest S i.result A r q c.slot_of-k.result c.escaped_size.result
    (c.slot_of-k.ensures A.at (above-only a p path rest S i.result A r q)) (size_is (goal.at.returns c).After-escaped_size)
