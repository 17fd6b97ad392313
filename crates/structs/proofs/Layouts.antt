-- The laws of the three layouts: both round trips, lengths, that they are bytes, and that what was read fits.
use mathlib.Core.Path.{◌≡◌, refl, sym, ap, ap₂, ◌∙◌}
use mathlib.Core.List.{List, [], ◌∷◌, ◌++◌, map}
use Prim.Native.Nat.{ℕ, ◌+◌, ◌^◌, ◌≤◌, ◌<◌}
use native.Mathlib.Omega.{arith}
use lib.ListN.{length, get_or, take, drop, length-append}
use Rattle.base.proofs.Parts.{part-part, part-all, part-whole}
use Rattle.base.specs.Parts.{part, paste}
use Rattle.base.proofs.Lists.{length_part, paste-paste}
use Rattle.le.specs.Le.{Bytes, le_of, le_bytes, le_at}
use Rattle.le.specs.Signed.{signed, bits_of}
use Rattle.le.proofs.Laws.{length-le_bytes, le_bytes-bytes, le_of-fits, le_at-part, le_at-below}
use Rattle.le.proofs.Signs.{signed-bits_of, bits_of-signed, bits_of-fits, signed-fits}
use Rattle.structs.specs.declared.SuperBlock.{SuperBlock}
use Rattle.structs.specs.declared.Timespec.{Timespec}
use Rattle.structs.specs.declared.DiskINode.{DiskINode}
use Rattle.structs.specs.declared.DiskEntry.{DiskEntry}
use Rattle.structs.specs.Layout.{join, super_of, super_fields, super_bytes, time_of, time_fields, time_bytes, record_of, record_fields, record_bytes, entry_of, entry_fields, entry_bytes}
use Rattle.structs.specs.Fits.{SuperFits, TimeFits, RecordFits, EntryFits}
use Rattle.structs.proofs.Joins.{total, field, field_of, cut, join-cut, join-split, bytes-at, length-join, bytes-append, bytes-nil}

-- ---- what the code reads k bytes after a place is what stands at k of the part there

pub read_number : (l : List ℕ) (at m k n r : ℕ) → k + n ≤ m → r ≡ le_at l (at + k) n → r ≡ le_at (part l at (at + m)) k n
read_number l at m k n r h f = f ∙ sym (le_at-part l at (at + m) k n (omega arith))

-- the first field
pub read_first : (l : List ℕ) (at m n r : ℕ) → n ≤ m → r ≡ le_at l at n → r ≡ le_at (part l at (at + m)) 0 n
read_first l at m n r h f = read_number l at m 0 n r (omega arith) (f ∙ ap (λ (i : ℕ). le_at l i n) (let q : at ≡ at + 0 = omega arith in q))

pub read-bytes : (l : List ℕ) (at m k n : ℕ) (r : List ℕ) → k + n ≤ m → r ≡ part l (at + k) (at + k + n) → r ≡ part (part l at (at + m)) k (k + n)
read-bytes l at m k n r h f =
    f ∙ ap (part l (at + k)) (let q : at + k + n ≡ at + (k + n) = omega arith in q) ∙ sym (part-part l at (at + m) k (k + n) (omega arith))

pub read-time : (l : List ℕ) (at m k : ℕ) (r : Timespec) → k + 16 ≤ m → r ≡ time_of l (at + k) → r ≡ time_of (part l at (at + m)) k
unfolding time_of
read-time l at m k r h f =
    let a = read_number l at m k 8 (le_at l (at + k) 8) (omega arith) refl in
    let b = read_number l at m (k + 8) 8 (le_at l (at + k + 8) 8) (omega arith) (ap (λ (i : ℕ). le_at l i 8) (let q : at + k + 8 ≡ at + (k + 8) = omega arith in q)) in
    f ∙ (λ x. record { sec = signed (a x); nsec = signed (b x) })

-- ---- one field

-- a number, in its own bytes
pub number-back : (l : List ℕ) (s n v : ℕ) → v < 256 ^ n → part l s (s + n) ≡ le_bytes n v → le_at l s n ≡ v
unfolding le_at
number-back l s n v h e = ap le_of e ∙ le_of-fits n v h

-- a list of bytes of known length, cut into fields
pub whole : (l : List ℕ) (ws : List ℕ) → length l ≡ total ws → join (cut l 0 ws) ≡ l
whole l ws e = join-cut l 0 ws ∙ part-whole l (0 + total ws) (omega arith)

-- ---- the superblock

pub length-super_bytes : (b : SuperBlock) → length (super_bytes b) ≡ 16
unfolding super_bytes super_fields le_bytes
length-super_bytes b = length-join (super_fields b)

-- what was written is read
pub super_of-super_bytes : (b : SuperBlock) → SuperFits b → super_of (super_bytes b) ≡ b
unfolding super_of super_bytes super_fields le_bytes
super_of-super_bytes b F =
    let at : (k : ℕ) → _ = field (super_fields b) in
    λ x. record {
      magic = number-back (super_bytes b) 0 4 b.magic F.magic (at 0) x;
      blocks = number-back (super_bytes b) 4 4 b.blocks F.blocks (at 1) x;
      unused = number-back (super_bytes b) 8 4 b.unused F.unused (at 2) x;
      groups = number-back (super_bytes b) 12 4 b.groups F.groups (at 3) x;
    }

-- what was read is written
pub super_bytes-super_of : (l : List ℕ) → Bytes l → length l ≡ 16 → super_bytes (super_of l) ≡ l
unfolding super_of super_bytes super_fields
super_bytes-super_of l h e =
    let num : (s n : ℕ) → s + n ≤ 16 → le_bytes n (le_at l s n) ≡ part l s (s + n) = λ s n k. bytes-at l s n h (omega arith) in
    let a = num 0 4 (omega arith) in
    let b = num 4 4 (omega arith) in
    let c = num 8 4 (omega arith) in
    let d = num 12 4 (omega arith) in
    ap join (λ x. a x ∷ b x ∷ c x ∷ d x ∷ []) ∙ whole l (4 ∷ 4 ∷ 4 ∷ 4 ∷ []) e

pub super_bytes-bytes : (b : SuperBlock) → Bytes (super_bytes b)
unfolding super_bytes super_fields join
super_bytes-bytes b =
    bytes-append (le_bytes 4 b.magic) _ (le_bytes-bytes 4 _)
    (bytes-append (le_bytes 4 b.blocks) _ (le_bytes-bytes 4 _) (bytes-append (le_bytes 4 b.unused) _ (le_bytes-bytes 4 _) (bytes-append (le_bytes 4 b.groups) [] (le_bytes-bytes 4 _) bytes-nil)))

pub super_of-fits : (l : List ℕ) → Bytes l → SuperFits (super_of l)
unfolding super_of
super_of-fits l h = record { magic = le_at-below l 0 4 h; blocks = le_at-below l 4 4 h; unused = le_at-below l 8 4 h; groups = le_at-below l 12 4 h }

-- ---- times

pub length-time_bytes : (t : Timespec) → length (time_bytes t) ≡ 16
unfolding time_bytes time_fields le_bytes
length-time_bytes t = length-join (time_fields t)

time-alone : (t : Timespec) → TimeFits t → time_of (time_bytes t) 0 ≡ t
unfolding time_of time_bytes time_fields le_bytes
time-alone t F =
    let a = number-back (time_bytes t) 0 8 (bits_of t.sec) (bits_of-fits t.sec F.sec) (field (time_fields t) 0) in
    let b = number-back (time_bytes t) 8 8 (bits_of t.nsec) (bits_of-fits t.nsec F.nsec) (field (time_fields t) 1) in
    λ x. record { sec = (ap signed a ∙ signed-bits_of t.sec F.sec) x; nsec = (ap signed b ∙ signed-bits_of t.nsec F.nsec) x }

-- the time whose bytes stand at s
time-back : (l : List ℕ) (s : ℕ) (t : Timespec) → TimeFits t → part l s (s + 16) ≡ time_bytes t → time_of l s ≡ t
time-back l s t F e =
    read-time l s 16 0 (time_of l s) (omega arith) (ap (time_of l) (let q : s ≡ s + 0 = omega arith in q)) ∙ ap (λ (m : List ℕ). time_of m 0) e ∙ time-alone t F

-- the bytes of the time that stands at s
time-at : (l : List ℕ) (s : ℕ) → Bytes l → s + 16 ≤ length l → time_bytes (time_of l s) ≡ part l s (s + 16)
unfolding time_of time_bytes time_fields
time-at l s h k =
    let num : (i : ℕ) → i + 8 ≤ length l → le_bytes 8 (bits_of (signed (le_at l i 8))) ≡ part l i (i + 8) = λ i j. ap (le_bytes 8) (bits_of-signed (le_at l i 8) (le_at-below l i 8 h)) ∙ bytes-at l i 8 h j in
    let a = num s (omega arith) in
    let b = num (s + 8) (omega arith) in
    ap join (λ x. a x ∷ b x ∷ []) ∙ join-cut l s (8 ∷ 8 ∷ [])

time_bytes-bytes : (t : Timespec) → Bytes (time_bytes t)
unfolding time_bytes time_fields join
time_bytes-bytes t = bytes-append (le_bytes 8 (bits_of t.sec)) _ (le_bytes-bytes 8 _) (bytes-append (le_bytes 8 (bits_of t.nsec)) [] (le_bytes-bytes 8 _) bytes-nil)

time_of-fits : (l : List ℕ) (s : ℕ) → Bytes l → TimeFits (time_of l s)
unfolding time_of
time_of-fits l s h = record { sec = signed-fits (le_at l s 8) (le_at-below l s 8 h); nsec = signed-fits (le_at l (s + 8) 8) (le_at-below l (s + 8) 8 h) }

-- ---- the record

abbrev record-ws : List ℕ
record-ws = 8 ∷ 4 ∷ 2 ∷ 2 ∷ 4 ∷ 4 ∷ 4 ∷ 4 ∷ 16 ∷ 16 ∷ 16 ∷ 16 ∷ 16 ∷ []

record-widths : (r : DiskINode) → length r.file ≡ 16 → length r.mac ≡ 16 → map length (record_fields r) ≡ record-ws
unfolding record_fields
record-widths r f m =
    let num : (n v : ℕ) → length (le_bytes n v) ≡ n = length-le_bytes in
    let t : (t : Timespec) → length (time_bytes t) ≡ 16 = length-time_bytes in
    λ x.
    num 8 r.size x
    ∷ num 4 r.kind x
    ∷ num 2 r.mode x
    ∷ num 2 r.nlinks x
    ∷ num 4 r.blocks x
    ∷ num 4 r.uid x
    ∷ num 4 r.gid x
    ∷ num 4 r.pad x
    ∷ t r.atime x
    ∷ t r.mtime x
    ∷ t r.ctime x
    ∷ f x
    ∷ m x
    ∷ []

numbers-size : (r : DiskINode) → total (map length (take 8 (record_fields r))) ≡ 32
unfolding record_fields le_bytes
numbers-size r = refl

pub length-record_bytes : (r : DiskINode) → length r.file ≡ 16 → length r.mac ≡ 16 → length (record_bytes r) ≡ 112
unfolding record_bytes
length-record_bytes r f m = length-join (record_fields r) ∙ ap total (record-widths r f m)

-- the eight numbers first, and then the rest
pub record-in-two :
    (l a w : List ℕ) (s : ℕ) (r : DiskINode) → length r.file ≡ 16 → length r.mac ≡ 16 → s + 112 ≤ length l → a ≡ paste l s (join (take 8 (record_fields r))) → w ≡ paste a (s + 32) (join (drop 8 (record_fields r))) → w ≡ paste l s (record_bytes r)
unfolding record_bytes
record-in-two l a w s r hf hm room e f =
    let p : List ℕ = join (take 8 (record_fields r)) in
    let q : List ℕ = join (drop 8 (record_fields r)) in
    let n : length p ≡ 32 = length-join (take 8 (record_fields r)) ∙ numbers-size r in
    let b : p ++ q ≡ record_bytes r = join-split 8 (record_fields r) in
    let m : length p + length q ≡ 112 = sym (length-append p q) ∙ ap length b ∙ length-record_bytes r hf hm in
    f
    ∙ ap₂ (λ (d : List ℕ) (i : ℕ). paste d (s + i) q) e (sym n)
    ∙ paste-paste l s p q (omega arith)
    ∙ ap (paste l s) b

-- what was written is read
pub record_of-record_bytes : (r : DiskINode) → RecordFits r → record_of (record_bytes r) ≡ r
unfolding record_of record_bytes record_fields
record_of-record_bytes r F =
    let l : List ℕ = record_bytes r in
    let at : (k : ℕ) → part l (total (take k record-ws)) (total (take k record-ws) + get_or record-ws k 0) ≡ get_or (record_fields r) k [] = field_of (record_fields r) record-ws (record-widths r F.file F.mac) in
    λ x. record {
      size = number-back l 0 8 r.size F.size (at 0) x;
      kind = number-back l 8 4 r.kind F.kind (at 1) x;
      mode = number-back l 12 2 r.mode F.mode (at 2) x;
      nlinks = number-back l 14 2 r.nlinks F.nlinks (at 3) x;
      blocks = number-back l 16 4 r.blocks F.blocks (at 4) x;
      uid = number-back l 20 4 r.uid F.uid (at 5) x;
      gid = number-back l 24 4 r.gid F.gid (at 6) x;
      pad = number-back l 28 4 r.pad F.pad (at 7) x;
      atime = time-back l 32 r.atime F.atime (at 8) x;
      mtime = time-back l 48 r.mtime F.mtime (at 9) x;
      ctime = time-back l 64 r.ctime F.ctime (at 10) x;
      file = at 11 x;
      mac = at 12 x;
    }

-- what was read is written
pub record_bytes-record_of : (l : List ℕ) → Bytes l → length l ≡ 112 → record_bytes (record_of l) ≡ l
unfolding record_of record_bytes record_fields
record_bytes-record_of l h e =
    let num : (s n : ℕ) → s + n ≤ 112 → le_bytes n (le_at l s n) ≡ part l s (s + n) = λ s n k. bytes-at l s n h (omega arith) in
    let t : (s : ℕ) → s + 16 ≤ 112 → time_bytes (time_of l s) ≡ part l s (s + 16) = λ s k. time-at l s h (omega arith) in
    ap join
    (λ x.
    num 0 8 (omega arith) x
    ∷ num 8 4 (omega arith) x
    ∷ num 12 2 (omega arith) x
    ∷ num 14 2 (omega arith) x
    ∷ num 16 4 (omega arith) x
    ∷ num 20 4 (omega arith) x
    ∷ num 24 4 (omega arith) x
    ∷ num 28 4 (omega arith) x
    ∷ t 32 (omega arith) x
    ∷ t 48 (omega arith) x
    ∷ t 64 (omega arith) x
    ∷ part l 80 96
    ∷ part l 96 112
    ∷ [])
    ∙ whole l record-ws e

pub record_bytes-bytes : (r : DiskINode) → Bytes r.file → Bytes r.mac → Bytes (record_bytes r)
unfolding record_bytes record_fields join
record_bytes-bytes r f m =
    let num : (n v : ℕ) (b : List ℕ) → Bytes b → Bytes (le_bytes n v ++ b) = λ n v b. bytes-append (le_bytes n v) b (le_bytes-bytes n v) in
    let t : (t : Timespec) (b : List ℕ) → Bytes b → Bytes (time_bytes t ++ b) = λ t b. bytes-append (time_bytes t) b (time_bytes-bytes t) in
    num 8 _ _
    (num 4 _ _
    (num 2 _ _
    (num 2 _ _
    (num 4 _ _
    (num 4 _ _
    (num 4 _ _
    (num 4 _ _
    (t _ _ (t _ _ (t _ _ (bytes-append r.file _ f (bytes-append r.mac [] m bytes-nil))))))))))))

pub record_of-fits : (l : List ℕ) → Bytes l → length l ≡ 112 → RecordFits (record_of l)
unfolding record_of
record_of-fits l h e = record {
  size = le_at-below l 0 8 h;
  kind = le_at-below l 8 4 h;
  mode = le_at-below l 12 2 h;
  nlinks = le_at-below l 14 2 h;
  blocks = le_at-below l 16 4 h;
  uid = le_at-below l 20 4 h;
  gid = le_at-below l 24 4 h;
  pad = le_at-below l 28 4 h;
  atime = time_of-fits l 32 h;
  mtime = time_of-fits l 48 h;
  ctime = time_of-fits l 64 h;
  file = length_part l 80 96 (omega arith) (omega arith);
  mac = length_part l 96 112 (omega arith) (omega arith);
  file_bytes = part-all (λ x. x < 256) l (omega arith) h 80 96;
  mac_bytes = part-all (λ x. x < 256) l (omega arith) h 96 112;
}

-- ---- the slot

entry-widths : (e : DiskEntry) → length e.name ≡ 256 → map length (entry_fields e) ≡ 4 ∷ 256 ∷ 4 ∷ []
unfolding entry_fields
entry-widths e n = λ x. length-le_bytes 4 e.id x ∷ n x ∷ length-le_bytes 4 e.kind x ∷ []

pub length-entry_bytes : (e : DiskEntry) → length e.name ≡ 256 → length (entry_bytes e) ≡ 264
unfolding entry_bytes
length-entry_bytes e n = length-join (entry_fields e) ∙ ap total (entry-widths e n)

-- what was written is read
pub entry_of-entry_bytes : (e : DiskEntry) → EntryFits e → entry_of (entry_bytes e) ≡ e
unfolding entry_of entry_bytes entry_fields
entry_of-entry_bytes e F =
    let l : List ℕ = entry_bytes e in
    let ws : List ℕ = 4 ∷ 256 ∷ 4 ∷ [] in
    let at : (k : ℕ) → part l (total (take k ws)) (total (take k ws) + get_or ws k 0) ≡ get_or (entry_fields e) k [] = field_of (entry_fields e) ws (entry-widths e F.name) in
    λ x. record { id = number-back l 0 4 e.id F.id (at 0) x; name = at 1 x; kind = number-back l 260 4 e.kind F.kind (at 2) x }

-- what was read is written
pub entry_bytes-entry_of : (l : List ℕ) → Bytes l → length l ≡ 264 → entry_bytes (entry_of l) ≡ l
unfolding entry_of entry_bytes entry_fields
entry_bytes-entry_of l h e =
    let a = bytes-at l 0 4 h (omega arith) in
    let b = bytes-at l 260 4 h (omega arith) in
    ap join (λ x. a x ∷ part l 4 260 ∷ b x ∷ []) ∙ whole l (4 ∷ 256 ∷ 4 ∷ []) e

pub entry_bytes-bytes : (e : DiskEntry) → Bytes e.name → Bytes (entry_bytes e)
unfolding entry_bytes entry_fields join
entry_bytes-bytes e n = bytes-append (le_bytes 4 e.id) _ (le_bytes-bytes 4 _) (bytes-append e.name _ n (bytes-append (le_bytes 4 e.kind) [] (le_bytes-bytes 4 _) bytes-nil))

pub entry_of-fits : (l : List ℕ) → Bytes l → length l ≡ 264 → EntryFits (entry_of l)
unfolding entry_of
entry_of-fits l h e = record {
  id = le_at-below l 0 4 h;
  kind = le_at-below l 260 4 h;
  name = length_part l 4 260 (omega arith) (omega arith);
  name_bytes = part-all (λ x. x < 256) l (omega arith) h 4 260;
}
