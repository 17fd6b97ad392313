-- What owning a row, a hold or an array of them says: their fields' ranges.
use Prim.Native.Nat.{ℕ, zero, suc, ◌<◌}
use mathlib.Core.List.{List, [], ◌∷◌}
use native.Mathlib.Omega.{arith}
use lib.ListN.{length, get_or}
use mir.Syntax.{w8}
use mir.Val.{Val, Fits}
use denote.Array.{each}
use denote.Shadow.{shadow}
use denote.RattleType.{RattleType}
use borrow.Author.Rules.{rules}
use Rattle.table.specs.declared.Row.{Row}
use Rattle.table.specs.declared.Hold.{Hold}
use Rattle.table.specs.contracts.Row as row
use Rattle.table.specs.contracts.Hold as hold
use Rattle.table_bytes.specs.Fits.{RowFits, HoldFits}

-- an element of an array is owned as the array is
pub each_at : (R : RattleType) (xs : List R.Denot) (us : List Val) (d : R.Denot) (i : ℕ) → i < length xs → shadow (each R.Denot R.own_val xs us) → (u : Val) × shadow (R.own_val (get_or xs i d) (u ∷ []))
each_at R [] us d i l p = absurd (omega arith)
each_at R (x ∷ xs) [] d i l p = absurd p
each_at R (x ∷ xs) (u ∷ us) d zero l p = (u, p.0)
each_at R (x ∷ xs) (u ∷ us) d (suc i) l p = each_at R xs us d i (omega arith) p.1

pub row_fits : (r : Row) (u : Val) → shadow ((row.the_row).own_val r (u ∷ [])) → RowFits r
row_fits r u p = record {
  id = search rules;
  rec = record {
    size = search rules;
    kind = search rules;
    mode = search rules;
    nlinks = search rules;
    blocks = search rules;
    uid = search rules;
    gid = search rules;
    pad = search rules;
    atime = record { sec = search rules; nsec = search rules };
    mtime = record { sec = search rules; nsec = search rules };
    ctime = record { sec = search rules; nsec = search rules };
    file = search rules;
    mac = search rules;
    file_bytes = λ i. let h : Fits w8 (get_or r.rec.file i 0) = search rules in h.fits;
    mac_bytes = λ i. let h : Fits w8 (get_or r.rec.mac i 0) = search rules in h.fits;
  };
}

pub hold-fits : (h : Hold) (u : Val) → shadow ((hold.the_row).own_val h (u ∷ [])) → HoldFits h
hold-fits h u p = record { row = search rules; stamp = search rules; owner = search rules }
