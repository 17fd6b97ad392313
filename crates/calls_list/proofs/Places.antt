-- How far a listing moves its place: as many slots as were written, and no further than the folder has.
use mathlib.Core.Path.{◌≡◌, refl, sym, ◌∙◌, ap}
use mathlib.Core.Bool.{Bool, true, false, not, ◌&&◌}
use mathlib.Core.List.{List, [], ◌++◌}
use Prim.Native.Nat.{ℕ, zero, suc, ◌+◌, ◌*◌, ◌-◌, ◌/◌, ◌<◌, ◌≤◌, min}
use native.Mathlib.Omega.{arith}
use lib.ListN.{length, length-append}
use lib.Dec.{ltb, leb}
use Rattle.base.specs.Out.{Out, done, refused, bind, guard, ensure}
use Rattle.base.specs.Parts.{tab}
use Rattle.base.proofs.Lists.{length-tab}
use Rattle.base.proofs.Outs.{bind-is-done}
use Rattle.structs.specs.Layout.{entry_of}
use Rattle.structs.specs.declared.DiskINode.{DiskINode}
use Rattle.table.specs.declared.Table.{Table}
use Rattle.table.specs.declared.Handle.{Handle}
use Rattle.table.specs.Table.{row_at}
use Rattle.arena.specs.Fields.{File}
use Rattle.files.specs.Read.{there, length_of, byte_at, read_file}
use Rattle.sefs.specs.Ask.{admit, by_handle}
use Rattle.sefs.specs.Nodes.{node_file}
use Rattle.sefs.specs.Slots.{slot_bytes}
use Rattle.sefs.specs.Read.{readable, list_slot, list_to, call_listing}
use Rattle.calls.specs.Answers.{listed_of}
use Rattle.calls.proofs.Asks.{handle-below}
use Rattle.list_slots.proofs.Turns.{list-bytes}
use Rattle.verdicts.specs.Starts.{start_of}
use Rattle.calls_list.specs.Place.{next_after}

-- ---- the bytes of slots

read_length : (a : List ℕ) (f : File) (pos n : ℕ) (l : List ℕ) → read_file a f pos n ≡ done l → length l ≡ n
unfolding read_file
read_length a f pos n l = go (there a f) (leb (pos + n) (length_of a f))
  where
    go : (b c : Bool) → guard b 19 (guard c 19 (done (tab (byte_at a f) pos n))) ≡ done l → length l ≡ n
    go true true e = let q : tab (byte_at a f) pos n ≡ l = cc in sym (ap length q) ∙ length-tab (byte_at a f) pos n
    go true false e = absurd (let z : ◌≡◌ {A = ℕ} 0 1 = cc in omega arith)
    go false c e = absurd (let z : ◌≡◌ {A = ℕ} 0 1 = cc in omega arith)

slot-length : (a : List ℕ) (r : DiskINode) (k : ℕ) (l : List ℕ) → slot_bytes a r k ≡ done l → length l ≡ 264
unfolding slot_bytes
slot-length a r k l e =
    let m = bind-is-done (read_file a (node_file r) (264 * k) 264) (λ x. guard (leb (entry_of x).kind 4) 19 (done x)) l e in
    go m.0 (leb (entry_of m.0).kind 4) (read_length a (node_file r) (264 * k) 264 m.0 m.1) m.2
  where
    go : (x : List ℕ) (b : Bool) → length x ≡ 264 → guard b 19 (done x) ≡ done l → length l ≡ 264
    go x true h e = let q : x ≡ l = cc in sym (ap length q) ∙ h
    go x false h e = absurd (let z : ◌≡◌ {A = ℕ} 0 1 = cc in omega arith)

list_length : (a : List ℕ) (r : DiskINode) (next n : ℕ) (l : List ℕ) → list_to a r next n ≡ done l → length l ≡ 264 * n
unfolding list_to
list_length a r next zero l e = let q : ◌≡◌ {A = List ℕ} [] l = cc in sym (ap length q)
list_length a r next (suc n) l e =
    let m = bind-is-done (list_to a r next n) (λ x. bind (list_slot a r (next + n)) (λ b. done (x ++ b))) l e in
    let s = bind-is-done (list_slot a r (next + n)) (λ b. done (m.0 ++ b)) l m.2 in
    let q : m.0 ++ s.0 ≡ l = cc in
    sym (ap length q) ∙ length-append m.0 s.0 ∙ omega (arith, list_length a r next n m.0 m.1, slot-length a r (next + n) s.0 (list-bytes a r (next + n) s.0 s.1))

-- ---- the place

-- slots are written as far as the folder of the handle's row has them
pub listing-left : (a : List ℕ) (t : Table) (who : ℕ) (h : Handle) (next room : ℕ) (l : List ℕ) → call_listing a t who h next room ≡ done l → (i : ℕ) × (i < 34) × (length l / 264 ≤ (row_at t i).rec.blocks - next)
unfolding call_listing
listing-left a t who h next room l e =
    let f : ℕ → Out (List ℕ) = λ i. bind (readable (row_at t i).rec) (λ _. bind (ensure (not (ltb next (row_at t i).rec.blocks && ltb room 264)) 20) (λ _. list_to a (row_at t i).rec next (min ((row_at t i).rec.blocks - next) (room / 264)))) in
    let p = bind-is-done (admit a t) (λ _. bind (by_handle t who h) f) l e in
    let i = bind-is-done (by_handle t who h) f l p.2 in
    let r = (row_at t i.0).rec in
    let g = bind-is-done (readable r) (λ _. bind (ensure (not (ltb next r.blocks && ltb room 264)) 20) (λ _. list_to a r next (min (r.blocks - next) (room / 264)))) l i.2 in
    let s = bind-is-done (ensure (not (ltb next r.blocks && ltb room 264)) 20) (λ _. list_to a r next (min (r.blocks - next) (room / 264))) l g.2 in
    (i.0, handle-below t who h i.0 i.1, omega (arith, list_length a r next (min (r.blocks - next) (room / 264)) l s.2))

-- slots that were written were listed
pub listed-slots : (n : ℕ) (o : Out (List ℕ)) → done n ≡ listed_of o → (l : List ℕ) × (o ≡ done l) × (length l / 264 ≡ n)
listed-slots n (done l) q = (l, refl, let e : length l / 264 ≡ n = cc in e)
listed-slots n (refused m) q = absurd (let z : ◌≡◌ {A = ℕ} 0 1 = cc in omega arith)

pub slots-moved : (dots : Bool) (next from n : ℕ) (o : Out (List ℕ)) → from ≡ start_of dots next → done n ≡ listed_of o → from + n ≡ next_after dots next o
slots-moved dots next from n o f q =
    let m = listed-slots n o q in
    ap (λ (k : ℕ). from + k) (sym m.2) ∙ ap (λ (k : ℕ). k + length m.0 / 264) f ∙ sym (ap (next_after dots next) m.1)

pub refused-moved : (dots : Bool) (next n : ℕ) (o : Out (List ℕ)) → refused n ≡ listed_of o → next ≡ next_after dots next o
refused-moved dots next n (done l) q = absurd (let z : ◌≡◌ {A = ℕ} 0 1 = cc in omega arith)
refused-moved dots next n (refused m) q = refl
