-- Reading and judging an arena with less work: a run of bytes lies in two blocks at the most, so each is looked for once, and a block's
-- check is one pass over its bytes. Each definition here is proved equal to the one that it stands in for.
use mathlib.Core.Path.{◌≡◌, refl, ap, ◌∙◌}
use mathlib.Core.Bool.{Bool, true, not, ◌&&◌, ◌||◌}
use mathlib.Core.Logic.{◌≢◌}
use mathlib.Core.List.{List, [], ◌∷◌, ◌++◌}
use Prim.Native.Nat.{ℕ, zero, suc, ◌+◌, ◌*◌, ◌-◌, ◌/◌, ◌%◌, ◌≤◌, ◌<◌}
use native.Mathlib.Omega.{arith}
use native.Mathlib.Decide.{ℕ_discrete}
use lib.ListN.{get_or}
use lib.Dec.{eqb, ltb, leb}
use Rattle.base.specs.Out.{Out, done, bind, guard, ◌>>=◌}
use Rattle.base.specs.Count.{sum_to, all_to}
use Rattle.base.specs.Parts.{part, tab}
use Rattle.base.specs.Reasons.{stuck}
use Rattle.base.specs.Search.{pick, found_below}
use Rattle.std.specs.Prelude.{Option}
use Rattle.base.proofs.Counts.{sum_to-suc, sum_to-cong, sum_to-zero}
use Rattle.base.proofs.Lists.{tab-cong}
use Rattle.base.proofs.Sames.{decided-yes, decided-no}
use Rattle.base.proofs.Tests.{decides_eqb}
use Rattle.structs.specs.Layout.{super_of, entry_of}
use Rattle.structs.specs.declared.DiskEntry.{DiskEntry}
use Rattle.structs.specs.declared.DiskINode.{DiskINode}
use Rattle.utf8.specs.Names.{stored_name, is_named}
use Rattle.table.specs.Formed.{well_formed}
use Rattle.table.specs.declared.Table.{Table}
use Rattle.arena.specs.Blocks.{blk, blocks, legal}
use Rattle.arena.specs.Fields.{File, tag_of, which_of, name_of, is_free, check_of, stored_check}
use Rattle.sound.specs.Sound.{all_zero, layout, block_sound, head_once, data_once, under, sound_at, sound}
use Rattle.arena.specs.Places.{data_of}
use Rattle.files.specs.Read.{byte_at, length_of, read_file, there, present}
use Rattle.sefs.specs.State.{Meta}
use Rattle.sefs.specs.Meta.{meta_file, map_at, load_maps, load_meta}
use Rattle.sefs.specs.Nodes.{node_file}
use Rattle.sefs.specs.Slots.{is_ended, slot_bytes, slot_at, look_to, lookup, Slot, or_not_found, find_slot}
use Rattle.sefs.specs.Ask.{admit_arena, admit}

-- ---- bytes

-- byte p of a file, in the block b; zero where there is none
unfoldable pub byte_of : Bool → List ℕ → ℕ → ℕ
byte_of here b p = pick here (get_or b (24 + p % 480) 0) 0

-- byte p, in block q of the file or in the one after it
unfoldable pub near : ℕ → Bool → List ℕ → Bool → List ℕ → ℕ → ℕ
near q first b next c p = pick (eqb (p / 480) q) (byte_of first b p) (byte_of next c p)

unfoldable pub byte_near : List ℕ → File → ℕ → ℕ → ℕ
byte_near a f q = near q (present a f q) (blk a (data_of a f q)) (present a f (q + 1)) (blk a (data_of a f (q + 1)))

byte-first : (a : List ℕ) (f : File) (q p : ℕ) → p / 480 ≡ q → byte_at a f p ≡ byte_near a f q p
unfolding byte_at byte_near near byte_of
byte-first a f q p e = rw (decided-yes (decides_eqb (p / 480) q) e) (rw e)

byte_next : (a : List ℕ) (f : File) (q p : ℕ) → p / 480 ≡ q + 1 → byte_at a f p ≡ byte_near a f q p
unfolding byte_at byte_near near byte_of
byte_next a f q p e =
    let d : p / 480 ≢ q = λ x. omega arith in
    rw (decided-no (eqb (p / 480) q) (decides_eqb (p / 480) q) d) (rw e)

unfoldable pub run_near : List ℕ → File → ℕ → ℕ → List ℕ
run_near a f pos n = tab (byte_near a f (pos / 480)) pos n

pub run-near : (a : List ℕ) (f : File) (pos n : ℕ) → n ≤ 480 → tab (byte_at a f) pos n ≡ run_near a f pos n
unfolding run_near
run-near a f pos n h =
    tab-cong (byte_at a f) (byte_near a f (pos / 480)) pos pos n (λ i l. elim (ℕ_discrete ((pos + i) / 480) (pos / 480)) [
      | yes e ↦ byte-first a f (pos / 480) (pos + i) e
      | no d ↦ byte_next a f (pos / 480) (pos + i) (omega arith)
    ])

unfoldable pub read_near : List ℕ → File → ℕ → ℕ → Out (List ℕ)
read_near a f pos n = guard (there a f) stuck (guard (leb (pos + n) (length_of a f)) stuck (done (run_near a f pos n)))

pub read-near : (a : List ℕ) (f : File) (pos n : ℕ) → n ≤ 480 → read_file a f pos n ≡ read_near a f pos n
unfolding read_file read_near
read-near a f pos n h =
    ap (λ (l : List ℕ). guard (there a f) stuck (guard (leb (pos + n) (length_of a f)) stuck (done l))) (run-near a f pos n h)

-- ---- superblock and maps

unfoldable pub maps_near : List ℕ → ℕ → Out (List ℕ)
maps_near a zero = done []
maps_near a (suc n) = do
  m ← maps_near a n
  l ← read_near a meta_file (map_at n) 128
  done (m ++ l)

maps-near : (a : List ℕ) (n : ℕ) → load_maps a n ≡ maps_near a n
unfolding load_maps maps_near
maps-near a zero = refl
maps-near a (suc n) = λ j. bind (maps-near a n j) (λ m. bind (read-near a meta_file (map_at n) 128 (omega arith) j) (λ l. done (m ++ l)))

unfoldable pub meta_near : List ℕ → Out Meta
meta_near a = do
  l ← read_near a meta_file 0 16
  guard (ltb 0 (super_of l).groups && ltb (super_of l).groups 5) stuck (do
    m ← maps_near a (super_of l).groups
    done (record { super = super_of l; maps = m }))

pub meta-near : (a : List ℕ) → load_meta a ≡ meta_near a
unfolding load_meta meta_near
meta-near a =
    λ j. bind (read-near a meta_file 0 16 (omega arith) j)
    (λ l. guard (ltb 0 (super_of l).groups && ltb (super_of l).groups 5) stuck
    (bind (maps-near a (super_of l).groups j) (λ m. done (record { super = super_of l; maps = m }))))

-- ---- slots

unfoldable pub slot_bytes_near : List ℕ → DiskINode → ℕ → Out (List ℕ)
slot_bytes_near a r k = do
  l ← read_near a (node_file r) (264 * k) 264
  guard (leb (entry_of l).kind 4) stuck (done l)

pub slot-bytes-near : (a : List ℕ) (r : DiskINode) (k : ℕ) → slot_bytes a r k ≡ slot_bytes_near a r k
unfolding slot_bytes slot_bytes_near
slot-bytes-near a r k = λ j. bind (read-near a (node_file r) (264 * k) 264 (omega arith) j) (λ l. guard (leb (entry_of l).kind 4) stuck (done l))

unfoldable pub slot_near : List ℕ → DiskINode → ℕ → Out DiskEntry
slot_near a r k = do
  l ← slot_bytes_near a r k
  guard (is_ended (stored_name (entry_of l).name)) stuck (done (entry_of l))

slot-near : (a : List ℕ) (r : DiskINode) (k : ℕ) → slot_at a r k ≡ slot_near a r k
unfolding slot_at slot_near
slot-near a r k = λ j. bind (slot-bytes-near a r k j) (λ l. guard (is_ended (stored_name (entry_of l).name)) stuck (done (entry_of l)))

unfoldable pub look_to_near : List ℕ → DiskINode → List ℕ → ℕ → Out ℕ
look_to_near a r name zero = done 0
look_to_near a r name (suc n) = do
  k ← look_to_near a r name n
  pick (ltb k n) (done k) (do
    e ← slot_near a r n
    done (pick (is_named e.name name) n (suc n)))

look-to-near : (a : List ℕ) (r : DiskINode) (name : List ℕ) (n : ℕ) → look_to a r name n ≡ look_to_near a r name n
unfolding look_to look_to_near
look-to-near a r name zero = refl
look-to-near a r name (suc n) =
    λ j. bind (look-to-near a r name n j)
    (λ k. pick (ltb k n) (done k) (bind (slot-near a r n j) (λ e. done (pick (is_named e.name name) n (suc n)))))

unfoldable pub look_near : List ℕ → DiskINode → List ℕ → Out (Option ℕ)
look_near a r name = do
  k ← look_to_near a r name r.blocks
  done (found_below k r.blocks)

pub look-near : (a : List ℕ) (r : DiskINode) (name : List ℕ) → lookup a r name ≡ look_near a r name
unfolding lookup look_near
look-near a r name = λ j. bind (look-to-near a r name r.blocks j) (λ k. done (found_below k r.blocks))

unfoldable pub find_near : List ℕ → DiskINode → List ℕ → Out Slot
find_near a r name = do
  f ← look_near a r name
  k ← or_not_found f
  e ← slot_near a r k
  done (record { place = k; entry = e })

pub find-near : (a : List ℕ) (r : DiskINode) (name : List ℕ) → find_slot a r name ≡ find_near a r name
unfolding find_slot find_near
find-near a r name = λ j. bind (look-near a r name j) (λ f. bind (or_not_found f) (λ k. bind (slot-near a r k j) (λ e. done (record { place = k; entry = e }))))

-- ---- the check of a block, and a sound arena

-- the first n bytes of the list, the first with weight k + 1
unfoldable pub weigh : List ℕ → ℕ → ℕ → ℕ
weigh l k zero = 0
weigh [] k (suc n) = 0
weigh (x ∷ l) k (suc n) = (k + 1) * x + weigh l (k + 1) n

sum_to-none : (f : ℕ → ℕ) → sum_to f 0 ≡ 0
unfolding sum_to
sum_to-none f = refl

sum-front : (f : ℕ → ℕ) (n : ℕ) → sum_to f (suc n) ≡ f 0 + sum_to (λ i. f (suc i)) n
sum-front f zero = omega (arith, sum_to-suc f 0, sum_to-none f, sum_to-none (λ i. f (suc i)))
sum-front f (suc n) = omega (arith, sum_to-suc f (suc n), sum_to-suc (λ i. f (suc i)) n, sum-front f n)

weigh-is : (l : List ℕ) (k n : ℕ) → sum_to (λ i. (k + i + 1) * get_or l i 0) n ≡ weigh l k n
unfolding weigh
weigh-is l k zero = sum_to-none (λ i. (k + i + 1) * get_or l i 0)
weigh-is [] k (suc n) = sum_to-cong (λ i. (k + i + 1) * get_or [] i 0) (λ i. 0) (suc n) (λ i h. omega arith) ∙ sum_to-zero (suc n)
weigh-is (x ∷ l) k (suc n) =
    sum-front (λ i. (k + i + 1) * get_or (x ∷ l) i 0) n
    ∙ (λ j. at_zero j + (sum_to-cong (λ i. (k + suc i + 1) * get_or l i 0) (λ i. (k + 1 + i + 1) * get_or l i 0) n same-weight ∙ weigh-is l (k + 1) n) j)
  where
    at_zero : (k + 0 + 1) * x ≡ (k + 1) * x
    at_zero = ap (λ (m : ℕ). m * x) (omega arith)

    same-weight : (i : ℕ) → i < n → (k + suc i + 1) * get_or l i 0 ≡ (k + 1 + i + 1) * get_or l i 0
    same-weight i h = ap (λ (m : ℕ). m * get_or l i 0) (omega arith)

abbrev pub check_near : List ℕ → ℕ
check_near b = weigh b 0 508

check-near : check_of ≡ check_near
unfolding check_of
check-near = λ j b. (sum_to-cong (λ i. (i + 1) * get_or b i 0) (λ i. (0 + i + 1) * get_or b i 0) 508 (λ i h. ap (λ (m : ℕ). m * get_or b i 0) (omega arith)) ∙ weigh-is b 0 508) j

unfoldable pub layout_by : (List ℕ → ℕ) → List ℕ → Bool
layout_by check b =
    ltb (tag_of b) 3
    && (ltb (which_of b) 2
    && (all_zero (part b 2 4)
    && ((eqb (which_of b) 1 || all_zero (name_of b))
    && ((eqb (tag_of b) 2 || all_zero (part b 24 504)) && (all_zero (part b 504 508) && eqb (stored_check b) (check b))))))

unfoldable pub sound_by : (List ℕ → ℕ) → List ℕ → Bool
sound_by check a =
    all_to (λ k. (layout_by check (blk a k) && (not (is_free (blk a k)) || all_zero (blk a k))) && (head_once a k && (data_once a k && under a k))) (blocks a)

sound-by : (a : List ℕ) → sound a ≡ sound_by check_of a
unfolding sound sound_at block_sound layout sound_by layout_by
sound-by a = refl

pub sound-near : (a : List ℕ) → sound a ≡ sound_by check_near a
sound-near a = sound-by a ∙ ap (λ (c : List ℕ → ℕ). sound_by c a) check-near

-- reasons 1 to 3 are not given
pub admitted : (a : List ℕ) (t : Table) → legal a ≡ true → sound_by check_near a ≡ true → well_formed t ≡ true → admit a t ≡ done tt
unfolding admit admit_arena
admitted a t l s w = rw (l, sound-near, s, w)
