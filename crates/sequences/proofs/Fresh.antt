-- A fresh image passes: node 2 alone, a folder with its own two slots, and an empty table. And format is done or refused with 1.
use mathlib.Core.Path.{◌≡◌, refl, sym, ap, ◌∙◌, subst}
use mathlib.Core.Bool.{true, false}
use mathlib.Core.List.{List}
use mathlib.Core.Logic.{◌⊎◌, inl, inr, ⊎_elim}
use Prim.Native.Nat.{ℕ}
use lib.ListN.{length, get_or-replicate}
use Rattle.base.specs.Out.{Out, done, refused, answer, Ok, went, said}
use Rattle.base.proofs.Bools.{bool_cases}
use Rattle.base.proofs.Outs.{ok-done}
use Rattle.le.specs.Le.{Bytes}
use Rattle.structs.specs.Fits.{TimeFits}
use Rattle.structs.specs.declared.Timespec.{Timespec}
use Rattle.table.specs.declared.Row.{Row}
use Rattle.table.specs.Zero.{zero_row}
use Rattle.table.specs.Table.{empty_table, off_row}
use Rattle.table_laws.proofs.Keeps.{empty-formed}
use Rattle.table_laws.proofs.Rules.{well-formed}
use Rattle.arena.specs.Blocks.{legal}
use Rattle.arena.specs.Fields.{file}
use Rattle.arena.proofs.Blocks.{legal-is}
use Rattle.files_laws.specs.Laws.{Named}
use Rattle.files_laws.proofs.Bounds.{named-node, legal-same}
use Rattle.sefs.specs.Create.{call_format}
use Rattle.sequences.specs.Pairs.{pair}
use Rattle.sequences.specs.Promises.{Fresh, FreshSlashless}
use Rattle.sequences.specs.Reasons.{Formats}
use Rattle.sequences.proofs.Passing.{Spelled, midway-spelled, slashless-spells}
use Rattle.sefs_laws.proofs.Says.{is-done}
use Rattle.tree.specs.Tree.{slashless}
use Rattle.image.proofs.Formats.{format-done}
use Rattle.table_bytes.proofs.Empty.{empty-fits}
use Rattle.image.proofs.Fresh.{made-fair}

-- ---- format

module _ (a : List ℕ) (time : Timespec) (name : List ℕ) (times : TimeFits time) (N : Named (file 1 name)) where
  -- in an arena of legal length it is done, and the pair passes
  pub format-goes : legal a ≡ true → (b : List ℕ) × (call_format a time name ≡ done b) × Spelled slashless (pair b empty_table)
  unfolding call_format
  format-goes l =
      let x = format-done (length a) (legal-is a l).least time name N in (
        x.0,
        rw l x.1,
        midway-spelled x.0 empty_table (record {
          fair = made-fair (length a) time name x.0 (legal-same a x.0 x.2.size ∙ l) times N x.2 empty_table (λ i m. ap (λ (w : Row). w.id) (get_or-replicate 34 i zero_row off_row m));
          formed = (well-formed empty_table).0 empty-formed;
          bytes = x.2.bytes;
          fits = empty-fits;
        }),
      )

  -- in any other it is refused with 1
  format-not : legal a ≡ false → call_format a time name ≡ refused 1
  unfolding call_format
  format-not e = rw e

  format-law : Ok (λ (b : List ℕ). Spelled slashless (pair b empty_table)) (λ r. r ≡ 1) (call_format a time name)
  format-law =
      ⊎_elim
      (λ l. let x = format-goes l in is-done x.1 x.2)
      (λ e. subst (Ok (λ (b : List ℕ). Spelled slashless (pair b empty_table)) (λ r. r ≡ 1)) (sym (format-not e)) (said refl))
      (bool_cases (legal a))

formatted : (a : List ℕ) (time : Timespec) (name : List ℕ) → TimeFits time → length name ≡ 16 → Bytes name → (b : List ℕ) → call_format a time name ≡ done b → Spelled slashless (pair b empty_table)
formatted a time name times long bytes b e =
    ok-done (subst (Ok (λ (b : List ℕ). Spelled slashless (pair b empty_table)) (λ r. r ≡ 1)) e (format-law a time name times (named-node name long bytes)))

pub fresh : Fresh
unfolding Fresh
fresh a time name bytes times long name-bytes b e = (formatted a time name times long name-bytes b e).passes

pub fresh-slashless : FreshSlashless
unfolding FreshSlashless
fresh-slashless a time name bytes times long name-bytes b e = slashless-spells (pair b empty_table) (formatted a time name times long name-bytes b e).spells

pub formats : Formats
unfolding Formats
formats a time name bytes times long name-bytes = go (format-law a time name times (named-node name long name-bytes))
  where
    go : {A : Type 0} {Q : A → Type 0} {o : Out A} → Ok Q (λ r. r ≡ 1) o → (answer o ≡ 0) ⊎ (answer o ≡ 1)
    go (went q) = inl refl
    go (said e) = inr e
