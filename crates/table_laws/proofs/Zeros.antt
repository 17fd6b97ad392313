-- What the tests for all zero say.
use Prim.Native.Nat.{ℕ}
use native.Mathlib.Omega.{arith}
use mathlib.Core.Path.{◌≡◌, refl, sym, ◌∙◌, ap}
use mathlib.Core.Bool.{true}
use mathlib.Core.List.{List}
use lib.ListN.{length, get_or, replicate, get_or-replicate}
use lib.Seq.{ext_get_or}
use lib.Dec.{eqb}
use lib.IntN.{ℤ, pos, negsuc}
use borrow.Author.Tests.{eqb-true}
use Rattle.base.specs.Count.{all_to}
use Rattle.base.proofs.Bools.{true-false, and_parts}
use Rattle.base.proofs.Counts.{all_to-true}
use Rattle.structs.specs.declared.Timespec.{Timespec}
use Rattle.structs.specs.declared.DiskINode.{DiskINode}
use Rattle.table.specs.Zero.{zero_time, zero_record, is_zero_at, bytes_zero, is_zero_z, time_zero, numbers_zero, record_zero}

bytes-zero : (l : List ℕ) → bytes_zero l ≡ true → l ≡ replicate 16 0
unfolding bytes_zero
bytes-zero l e =
    let p = and_parts (eqb (length l) 16) (all_to (is_zero_at l) 16) e in
    let n : length l ≡ 16 = eqb-true (length l) 16 p.0 in
    ext_get_or 0 l (replicate 16 0) n
    (λ i h. eqb-true (get_or l i 0) 0 (all_to-true (is_zero_at l) 16 p.1 i (omega arith)) ∙ sym (get_or-replicate 16 i 0 0 (omega arith)))

zero_is : (z : ℤ) → is_zero_z z ≡ true → z ≡ pos 0
zero_is (pos n) e = ap pos (eqb-true n 0 e)
zero_is (negsuc n) e = absurd (true-false e refl)

time-zero : (s : Timespec) → time_zero s ≡ true → s ≡ zero_time
unfolding time_zero
time-zero s e =
    let p = and_parts (is_zero_z s.sec) (is_zero_z s.nsec) e in
    let a = zero_is s.sec p.0 in
    let b = zero_is s.nsec p.1 in
    λ x. record { sec = a x; nsec = b x }

-- a record passes the test where it is all zero
pub record-zero : (r : DiskINode) → record_zero r ≡ true → r ≡ zero_record
unfolding record_zero numbers_zero
record-zero r e =
    let e0 = and_parts (numbers_zero r) _ e in
    let e1 = and_parts (time_zero r.atime) _ e0.1 in
    let e2 = and_parts (time_zero r.mtime) _ e1.1 in
    let e3 = and_parts (time_zero r.ctime) _ e2.1 in
    let e4 = and_parts (bytes_zero r.file) (bytes_zero r.mac) e3.1 in
    let n0 = and_parts _ _ e0.0 in
    let n1 = and_parts _ _ n0.1 in
    let n2 = and_parts _ _ n1.1 in
    let n3 = and_parts _ _ n2.1 in
    let n4 = and_parts _ _ n3.1 in
    let n5 = and_parts _ _ n4.1 in
    let n6 = and_parts _ _ n5.1 in
    let a = eqb-true r.size 0 n0.0 in
    let b = eqb-true r.kind 0 n1.0 in
    let c = eqb-true r.mode 0 n2.0 in
    let d = eqb-true r.nlinks 0 n3.0 in
    let f = eqb-true r.blocks 0 n4.0 in
    let g = eqb-true r.uid 0 n5.0 in
    let h = eqb-true r.gid 0 n6.0 in
    let i = eqb-true r.pad 0 n6.1 in
    let j = time-zero r.atime e1.0 in
    let k = time-zero r.mtime e2.0 in
    let l = time-zero r.ctime e3.0 in
    let m = bytes-zero r.file e4.0 in
    let o = bytes-zero r.mac e4.1 in
    λ x. record {
      size = a x;
      kind = b x;
      mode = c x;
      nlinks = d x;
      blocks = f x;
      uid = g x;
      gid = h x;
      pad = i x;
      atime = j x;
      mtime = k x;
      ctime = l x;
      file = m x;
      mac = o x;
    }

pub zero-passes : record_zero zero_record ≡ true
unfolding record_zero bytes_zero time_zero numbers_zero all_to
zero-passes = refl
