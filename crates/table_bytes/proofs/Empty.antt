-- The empty table: it fits, and its bytes.
use mathlib.Core.Path.{◌≡◌, refl, sym, ap, ◌∙◌, subst}
use mathlib.Core.List.{List, ◌++◌}
use Prim.Native.Nat.{ℕ, ◌+◌, ◌≤◌}
use native.Mathlib.Omega.{arith}
use lib.ListN.{length, replicate, get_or-replicate, length-replicate}
use mir.Facts.{sfits_lit}
use Rattle.base.specs.Parts.{part, back, paste}
use Rattle.base.proofs.Lists.{paste-paste}
use Rattle.base.proofs.Parts.{back-zeros, get_or-zero-list}
use Rattle.le.specs.Le.{Bytes, le_bytes, le_put}
use Rattle.le.specs.Signed.{bits_of}
use Rattle.le.proofs.Laws.{length-le_bytes}
use Rattle.structs.specs.Fits.{RecordFits, TimeFits}
use Rattle.structs.specs.Layout.{join, time_bytes, time_fields, record_bytes, record_fields}
use Rattle.table.specs.Zero.{zero_time, zero_record, zero_row, zero_hold}
use Rattle.table.specs.Table.{off_row, empty_table}
use Rattle.table_bytes.specs.Fits.{RowFits, HoldFits, TableFits}
use Rattle.table_bytes.specs.Runs.{run_to}
use Rattle.table_bytes.specs.Layout.{row_fields, row_bytes, hold_fields, hold_bytes, table_fields, bytes_of_table}

-- a free row fits
pub zero-fits : RecordFits zero_record
zero-fits = record {
  size = omega arith;
  kind = omega arith;
  mode = omega arith;
  nlinks = omega arith;
  blocks = omega arith;
  uid = omega arith;
  gid = omega arith;
  pad = omega arith;
  atime = time;
  mtime = time;
  ctime = time;
  file = refl;
  mac = refl;
  file_bytes = zeros;
  mac_bytes = zeros;
}
  where
    time : TimeFits zero_time
    time = record { sec = sfits_lit tt; nsec = sfits_lit tt }

    zeros : Bytes (replicate 16 0)
    zeros i = rw (get_or-zero-list 16 i) (omega arith)

pub empty-fits : TableFits empty_table
empty-fits = record {
  rows-34 = refl;
  holds-32 = refl;
  rows = λ i l. subst RowFits (sym (get_or-replicate 34 i zero_row off_row l)) (record { id = omega arith; rec = zero-fits });
  holds = λ i l. subst HoldFits (sym (get_or-replicate 32 i zero_hold zero_hold l)) (record { row = omega arith; stamp = omega arith; owner = omega arith });
  next = omega arith;
}

-- zeros up to the next stamp, which is 1

empty-bytes : bytes_of_table empty_table ≡ replicate 4394 0 ++ le_bytes 8 1
unfolding join le_bytes bits_of time_bytes time_fields record_bytes record_fields row_bytes row_fields hold_bytes hold_fields run_to bytes_of_table table_fields
empty-bytes = refl

-- the two, laid over one after the other
pub empty-put : (l a c d : List ℕ) → 4402 ≤ length l → c ≡ replicate (length (part l 0 4394)) 0 → a ≡ back l 0 4394 c → d ≡ le_put a 4394 8 1 → d ≡ paste l 0 (bytes_of_table empty_table)
unfolding le_put
empty-put l a c d long ec ea ed =
    let z : List ℕ = replicate 4394 0 in
    let n : length z ≡ 4394 = length-replicate {A = ℕ} 4394 0 in
    let b : a ≡ paste l 0 z = ea ∙ back-zeros l c 0 4394 4394 refl (omega arith) ec in
    ed
    ∙ ap (λ (k : List ℕ). paste k 4394 (le_bytes 8 1)) b
    ∙ ap (λ (k : ℕ). paste (paste l 0 z) k (le_bytes 8 1)) (let q : 4394 ≡ 0 + length z = omega (arith, n) in q)
    ∙ paste-paste l 0 z (le_bytes 8 1) (omega (arith, n, length-le_bytes 8 1))
    ∙ ap (paste l 0) (sym empty-bytes)
