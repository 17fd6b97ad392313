-- After any calls, and after any number of deaths: what is promised of one pair, one call and one mending, one after the other.
use mathlib.Core.Path.{refl, subst}
use mathlib.Core.List.{List, [], ◌∷◌}
use Prim.Native.Nat.{ℕ}
use Rattle.base.specs.Out.{Ok}
use Rattle.base.proofs.Outs.{ok-done, ok-does}
use Rattle.table.specs.Table.{empty_table}
use Rattle.sequences.specs.Pairs.{Pair, pair, Passed}
use Rattle.sequences.specs.Calls.{Call, Fits, next}
use Rattle.sequences.specs.Promises.{Fresh, Keeps, Along, ends, goes}
use Rattle.sequences.proofs.Fresh.{fresh}
use Rattle.sequences.proofs.Sequences.{keeps}
use Rattle.mending.specs.Lasts.{Lasting}
use Rattle.deaths.specs.Deaths.{Stocked, Recovered, Recovers, Dies, StockedBacked, KeepsLasting, KeepsStocked, FreshStocked, MendStocked, AfterDeathFrom, AfterDeathStocked, AfterDeath, Lived, formats, calls, deaths, AlwaysRecovers}
use Rattle.deaths.proofs.Upheld.{lasts-is}
use Rattle.deaths.proofs.Recoveries.{dies}
use Rattle.deaths.proofs.Keeps.{keeps-lasting, keeps-stocked, stocked-backed}
use Rattle.deaths.proofs.Fresh.{fresh-stocked}
use Rattle.deaths.proofs.Mends.{mend-stocked}

-- an empty table has nothing that waits in memory
pub empty-lasting : (a : List ℕ) → Lasting a empty_table
empty-lasting a id n = lasts-is refl

pub after-death-from : AfterDeathFrom
unfolding KeepsLasting AfterDeathFrom Keeps Dies
after-death-from p [] h L ends = ends
after-death-from p (c ∷ l) h L (goes f rest) =
    let q = (keeps p c h f).passes in
    let M = keeps-lasting p c h f L in
    goes (dies (next c p) q M) (after-death-from (next c p) l q M rest)

-- ---- where the records have their blocks

record Sturdy (p : Pair) : Type 0 where
  passes : Passed p
  lasting : Lasting p.arena p.table
  stocked : Stocked p.arena

sturdy-recovers : (p : Pair) → Sturdy p → Recovers p
unfolding Dies StockedBacked
sturdy-recovers p S = ok-does (dies p S.passes S.lasting).mends (λ n r. r.1 (stocked-backed p S.passes S.lasting S.stocked))

sturdy-next : (p : Pair) (c : Call) → Sturdy p → Fits c → Sturdy (next c p)
unfolding Keeps KeepsLasting KeepsStocked
sturdy-next p c S f = record {
  passes = (keeps p c S.passes f).passes;
  lasting = keeps-lasting p c S.passes f S.lasting;
  stocked = keeps-stocked p c S.passes f S.stocked;
}

sturdy-along : (p : Pair) (l : List Call) → Sturdy p → Along (λ c q. Fits c) p l → Along (λ c q. Recovers (next c q)) p l
sturdy-along p l S ends = ends
sturdy-along p l S (goes {c = c} {l = m} f rest) =
    let N = sturdy-next p c S f in
    goes (sturdy-recovers (next c p) N) (sturdy-along (next c p) m N rest)

pub after-death-stocked : AfterDeathStocked
unfolding AfterDeathStocked
after-death-stocked p l h L S = sturdy-along p l (record { passes = h; lasting = L; stocked = S })

pub after-death : AfterDeath
unfolding FreshStocked AfterDeath Fresh
after-death a time file B T s F b e l =
    sturdy-along (pair b empty_table) l (record { passes = fresh a time file B T s F b e; lasting = empty-lasting b; stocked = fresh-stocked a time file B T s F b e })

-- ---- any number of deaths

sturdy : {p : Pair} → Lived p → Sturdy p
unfolding Fresh FreshStocked Dies MendStocked
sturdy (formats a time file b B T s F e) =
    record { passes = fresh a time file B T s F b e; lasting = empty-lasting b; stocked = fresh-stocked a time file B T s F b e }
sturdy (calls {p = p} c l f) = sturdy-next p c (sturdy l) f
sturdy (deaths {p = p} {b = b} l e) =
    let S = sturdy l in
    record {
      passes = (ok-done (subst (Ok (Recovered p) _) e (dies p S.passes S.lasting).mends)).passes;
      lasting = empty-lasting b;
      stocked = mend-stocked p.arena b empty_table S.stocked e;
    }

pub always-recovers : AlwaysRecovers
unfolding AlwaysRecovers
always-recovers p l = let S = sturdy l in (S.passes, sturdy-recovers p S)
