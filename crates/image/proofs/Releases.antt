-- A call's own opening of a node with links ends, where the node is held by others too, or its row is as stored: the row goes at most.
use mathlib.Core.Path.{refl, ◌≡◌}
use Rattle.sefs_laws.proofs.Clear.{Clear}
use mathlib.Core.Bool.{Bool, true, false}
use mathlib.Core.Logic.{◌≢◌, ◌⊎◌, ⊎_elim}
use Prim.Native.Nat.{ℕ}
use borrow.Author.Tests.{ne_eqb}
use Rattle.base.specs.Out.{done, Ok, went}
use Rattle.base.proofs.Bools.{true-false}
use Rattle.base.specs.Search.{pick}
use Rattle.table.specs.declared.Table.{Table}
use Rattle.table.specs.Zero.{zero_row}
use Rattle.table.specs.Table.{row_at, row_used, free_row_at}
use Rattle.table_laws.specs.Rules.{Holder, also}
use Rattle.table_laws.proofs.Rules.{holder-of, of-holder}
use Rattle.table_laws.proofs.Rows.{row_apart, formed-held}
use Rattle.sefs.specs.State.{Fs, with_table}
use Rattle.sefs.specs.Nodes.{sync_row, drop_node, release}
use Rattle.rules.specs.Image.{is_node, rec_of}
use Rattle.tree.specs.Tree.{Spelling}
use Rattle.image.specs.Midway.{Used, Midway}
use Rattle.image.proofs.Drops.{Unheld, row-recs, row-dropped}

-- the arena is as it was, and so are all other rows; also this one, where it is held
pub record LetGo (style : Spelling) (own : ℕ → Type 0) (s : Fs) (i : ℕ) (d : Fs) : Type 0 where
  pub table : Table
  pub is : d ≡ with_table s table
  pub mid : Midway style own s.arena table
  pub rows : (j : ℕ) → Holder s.table i ⊎ (j ≢ i) → row_at table j ≡ row_at s.table j
  pub recs : (k : ℕ) → is_node s.arena k ≡ true → rec_of s.arena table k ≡ rec_of s.arena s.table k

pub let_go : {style : Spelling} {own : ℕ → Type 0} (s : Fs) (i : ℕ) → Midway style (also own i) s.arena s.table → Used s.table i → Holder s.table i ⊎ ((row_at s.table i).dirty ≡ false)
    → (row_at s.table i).rec.nlinks ≢ 0 → Ok (LetGo style own s i) Clear (release s i)
unfolding release drop_node sync_row
let_go {style = style} {own = own} s i M u how links = go (row_used s.table i) refl
  where
    go : (b : Bool) → row_used s.table i ≡ b → Ok (LetGo style own s i) Clear (pick b (done s) (drop_node s i))
    go true q = went (record {
      table = s.table;
      is = refl;
      mid = record { fair = M.fair; formed = formed-held s.table i (holder-of s.table i q) M.formed; bytes = M.bytes; fits = M.fits };
      rows = λ j n. refl;
      recs = λ k n. refl;
    })
    go false q =
        let clean : (row_at s.table i).dirty ≡ false = ⊎_elim (λ (h : Holder s.table i). absurd (true-false (of-holder s.table i h) q)) (λ c. c) how in
        let free : Unheld s.table i = λ n l v z. true-false (of-holder s.table i (record { hold = n; is-hold = l; live = v; names = z })) q in
        rw (clean, ne_eqb (row_at s.table i).rec.nlinks 0 links)
        (went (record {
          table = free_row_at s.table i;
          is = refl;
          mid = row-dropped s.arena s.table i M u clean free (λ v. refl) links;
          rows = λ j n. row_apart s.table i zero_row j (⊎_elim (λ h. absurd (true-false (of-holder s.table i h) q)) (λ m. m) n);
          recs = row-recs s.arena s.table i M u clean free;
        }))
