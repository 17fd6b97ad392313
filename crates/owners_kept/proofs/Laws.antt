-- From an owner's promise to what the calls ask for, and the chains after them.
use mathlib.Core.Path.{◌≡◌, refl, sym, ◌∙◌, ap, subst}
use mathlib.Core.Bool.{Bool, true, false, not, ◌&&◌}
use mathlib.Core.List.{List}
use Prim.Native.Nat.{ℕ, ◌/◌, ◌≤◌}
use native.Mathlib.Omega.{arith}
use lib.ListN.{length}
use lib.Dec.{ltb}
use borrow.Author.Tests.{ne_eqb, ltb-true}
use Rattle.base.specs.Out.{Out, done}
use Rattle.base.proofs.Bools.{and_parts}
use Rattle.table.specs.declared.Table.{Table}
use Rattle.table.specs.Table.{row_at, free_row_at}
use Rattle.table.specs.Formed.{well_formed}
use Rattle.table_bytes.specs.Layout.{table_of}
use Rattle.arena.specs.Blocks.{blocks, legal}
use Rattle.arena.proofs.Blocks.{legal-is}
use Rattle.sound.specs.Chain.{Chains, firsts, nexts}
use Rattle.sound.proofs.Chains.{length-firsts, length-nexts}
use Rattle.mem.specs.Mem.{table_in, Whole}
use Rattle.calls.specs.Asked.{Admitted}
use Rattle.calls.proofs.Asks as asks
use Rattle.sefs.specs.Ask.{admit}
use Rattle.sefs.specs.Nodes.{drop_node, sync_row}
use Rattle.sefs.specs.Close.{close_steps}
use Rattle.sefs.specs.Create.{After}
use Rattle.mem.specs.State.{fs_at}
use Rattle.steps.specs.Ends.{arena_after, ending, Ended, went, stopped}
use Rattle.calls_close.proofs.Closes.{steps-last, steps-kept}
use Rattle.owners_kept.specs.Owned.{Chained, Owned, Kept}

-- ---- the promise

-- with the table in memory: arena and table were tested
pub admitted : {a c t m : List ℕ} → Owned a c t → table_in m ≡ table_of t → Whole m → Admitted a (firsts c) (nexts c) m
admitted {a = a} {c = c} o e w = record {
  led = record {
    whole = o.whole;
    most = (legal-is a o.whole).most;
    starts = length-firsts c o.chained.size;
    links = length-nexts c o.chained.size;
    chains = o.chained.chains;
    fine = o.fine;
  };
  whole = w;
  formed = ap well_formed e ∙ o.formed;
}

-- so nothing of 1, 2 and 3 comes
pub not-refused : {a c t m : List ℕ} → Owned a c t → table_in m ≡ table_of t → Whole m → admit a (table_in m) ≡ done tt
not-refused o e w = asks.admitted (admitted o e w)

pub keeps : {a c t m : List ℕ} → Owned a c t → table_in m ≡ table_of t → Whole m → Kept a c m
keeps o e w = record { chained = o.chained; admitted = admitted o e w }

-- ---- the chains afterwards

pub rechained : {a c d : List ℕ} → Chained a c → {b : List ℕ} → length d ≡ length c → Chains b (firsts d) (nexts d) (blocks b) → Chained b d
rechained k e n = record { size = e ∙ k.size; chains = n }

-- an arena that is as long as it was has as many blocks
pub as_many : (a b : List ℕ) → legal a ≡ true → length b ≡ length a → blocks b ≤ 4096
as_many a b l e = subst (λ (n : ℕ). n / 512 ≤ 4096) (sym e) (legal-is a l).most

-- ---- a close that stores nothing

ended_same : {o : Out After} {x : After} {a b : List ℕ} {u : Table} {r : ℕ} → o ≡ done x → x.arena ≡ a → Ended o a b u r → b ≡ a
ended_same {a = a} e k (went f) = ap (arena_after a) (sym f ∙ e) ∙ k
ended_same e k (stopped l f q) = q

-- a clean row that has a link is only cleared
abbrev stored : List ℕ → ℕ → Bool
stored m i = not (row_at (table_in m) i).dirty && ltb 0 (row_at (table_in m) i).rec.nlinks

off : (b : Bool) → not b ≡ true → b ≡ false
off true e = sym e
off false e = refl

on : (b : Bool) → not b ≡ false → b ≡ true
on true e = refl
on false e = sym e

drop-clean : (a m : List ℕ) (i : ℕ) → stored m i ≡ true → ending (drop_node (fs_at a m) i) ≡ done (record { arena = a; table = free_row_at (table_in m) i })
unfolding drop_node sync_row
drop-clean a m i e =
    let p = and_parts (not (row_at (table_in m) i).dirty) (ltb 0 (row_at (table_in m) i).rec.nlinks) e in
    let n = ne_eqb (row_at (table_in m) i).rec.nlinks 0 (λ z. let l = ltb-true 0 (row_at (table_in m) i).rec.nlinks p.1 in omega (arith, l, z)) in
    rw (off (row_at (table_in m) i).dirty p.0, n)

pub close-same : (a b m : List ℕ) (last : Bool) (i : ℕ) {u : Table} {r : ℕ} → (last && not (stored m i)) ≡ false → Ended (ending (close_steps (fs_at a m) last i)) a b u r → b ≡ a
close-same a b m true i e E = ended_same (steps-last (fs_at a m) true i refl ∙ drop-clean a m i (on (stored m i) e)) refl E
close-same a b m false i e E = ended_same (steps-kept (fs_at a m) false i refl) refl E
