-- A fresh image is stocked: its metadata file has no block before the stores of superblock, map and root's record.
use mathlib.Core.Path.{◌≡◌, refl, sym, ap, ◌∙◌, subst}
use mathlib.Core.Bool.{Bool, true, false, ◌&&◌}
use mathlib.Core.List.{List}
use mathlib.Core.Logic.{⊎_elim}
use Prim.Native.Nat.{ℕ, ◌+◌, ◌*◌, ◌/◌, ◌%◌, ◌≤◌, ◌<◌}
use lib.Dec.{ltb}
use lib.ListN.{length, replicate, length-replicate}
use Rattle.base.specs.Out.{ensure, Ok, went}
use Rattle.base.proofs.Bools.{bool_cases, true-false}
use Rattle.base.proofs.Lists.{tab-cong, tab-zeros}
use Rattle.base.proofs.Numbers.{lt-or-le}
use Rattle.base.proofs.Outs.{ok-bind, ok-weaken, ok-done}
use Rattle.structs.specs.Constants.{type_dir}
use Rattle.structs.specs.Layout.{record_of}
use Rattle.structs.specs.declared.DiskINode.{DiskINode}
use Rattle.structs.specs.declared.Timespec.{Timespec}
use Rattle.table.specs.Zero.{zero_row}
use Rattle.table.specs.Table.{empty_table}
use Rattle.table_laws.proofs.Keeps.{empty-formed}
use Rattle.arena.specs.Blocks.{legal}
use Rattle.arena.specs.Fields.{file}
use Rattle.files.specs.Read.{present, byte_at}
use Rattle.files_laws.specs.Laws.{Named, Make, Cut}
use Rattle.files_laws.proofs.Bounds.{named-meta, named-node}
use Rattle.files_laws.proofs.Cut.{cut-law}
use Rattle.files_laws.proofs.Make.{make-law}
use Rattle.files_laws.proofs.Parts.{sound-inside}
use Rattle.files_laws.proofs.Views.{byte-in, byte-none}
use Rattle.sefs.specs.State.{Fs}
use Rattle.sefs.specs.Create.{fresh_meta, format_steps, call_format}
use Rattle.sefs.specs.Meta.{meta_file}
use Rattle.sefs_laws.proofs.Rows.{Any, any}
use Rattle.rules.specs.Image.{stored_bytes}
use Rattle.image.proofs.Zeros.{zero_arena, zero-sound, zero-none}
use Rattle.sequences.specs.Pairs.{Pair, pair}
use Rattle.mending.proofs.Tables.{empty_holds, row-free, empty-id, rec-stored}
use Rattle.mending.proofs.Backs.{no_kind}
use Rattle.deaths.specs.Deaths.{Stocked, FreshStocked}
use Rattle.deaths.proofs.Upheld.{RecordsStay, stay-bytes, since-same, By, RowUpheld, zero-upheld, Upheld, upheld-more, upheld-meta, upheld-new}
use Rattle.deaths.proofs.UpheldCalls.{Nobody, Sole, inits, inc, settles-sole}
use Rattle.deaths.proofs.Keeps.{since-stocked}

-- an arena whose metadata file has no block
module _ (c : List ℕ) (none : (q : ℕ) → present c meta_file q ≡ false) where
  blank : (k : ℕ) → byte_at c meta_file k ≡ 0
  blank k = byte-in c meta_file k ∙ byte-none c meta_file (k / 480) (none (k / 480)) (k % 480)

  blank-grows : (n : ℕ) (b : List ℕ) → Cut c meta_file n b → RecordsStay c b
  blank-grows n b C =
      stay-bytes c b (λ q e. absurd (true-false e (none q)))
      (λ k. ⊎_elim (λ (l : k < n). C.below k l) (λ (l : n ≤ k). C.beyond k l ∙ sym (blank k)) (lt-or-le k n))

  -- it has no record with a type
  blank-stocked : Stocked c
  unfolding Stocked stored_bytes
  blank-stocked id z m k = absurd (k (ap (λ (r : DiskINode). r.kind) (rec-stored c id z) ∙ ap (λ (l : List ℕ). (record_of l).kind) zeros ∙ no_kind))
    where
      zeros : stored_bytes c id ≡ replicate 112 0
      zeros = tab-cong (byte_at c meta_file) (λ i. 0) (128 * id) 0 112 (λ i l. blank (128 * id + i)) ∙ tab-zeros 0 112

  begins : Upheld (pair c empty_table) (By Nobody) c empty_table
  begins = record {
    rows = length-replicate 34 zero_row;
    each = λ i l. subst (RowUpheld (pair c empty_table) (By Nobody) c i) (sym (row-free empty_table empty-formed empty_holds i l)) zero-upheld;
    one = λ i j l m z. absurd (z (empty-id i l));
    since = since-same c;
  }

-- what format starts from
module _ (n : ℕ) (a c : List ℕ) (M : Make (zero_arena n) meta_file a) (C : Cut a meta_file 131072 c) where
  no_block : (q : ℕ) → present c meta_file q ≡ false
  no_block q = C.block q ∙ ap (λ (b : Bool). b && ltb (480 * q) 131072) (M.block q ∙ zero-block)
    where
      zero-block : present (zero_arena n) meta_file q ≡ false
      zero-block =
          ⊎_elim (λ (e : present (zero_arena n) meta_file q ≡ true). absurd (true-false ((sound-inside (zero_arena n) (zero-sound n) meta_file).under q e).0 (zero-none n meta_file))) (λ e. e)
          (bool_cases (present (zero_arena n) meta_file q))

steps : (n : ℕ) (time : Timespec) (name : List ℕ) → Named (file 1 name) → Ok (λ (s : Fs). Stocked s.arena) Any (format_steps (zero_arena n) time name)
unfolding format_steps
steps n time name N =
    ok-bind (ok-weaken (λ a M. M) (λ r e. tt) (make-law (zero_arena n) meta_file named-meta)) λ a M.
    ok-bind (ok-weaken (λ c C. C) (λ r e. tt) (cut-law a meta_file 131072)) λ c C.
    let none = no_block n a c M C in
    let p : Pair = pair c empty_table in
    ok-bind (upheld-new c empty_table fresh_meta (λ b D. blank-grows c none _ b D) type_dir 493 time name N (begins c none)) λ o H.
    ok-bind (inits p (Sole o.row) o.row refl o.state _ (upheld-more (λ k x. ⊎_elim (λ y. absurd y) (λ e. e) x) H)) λ s H.
    ok-bind (inc p (Sole o.row) s o.row H) λ s H.
    ok-bind (inc p (Sole o.row) s o.row H) λ s H.
    ok-bind (upheld-meta s H) λ s H.
    ok-weaken (λ u K. since-stocked K.since (blank-stocked c none)) (λ r e. e) (settles-sole p s o.row H)

pub fresh-stocked : FreshStocked
unfolding FreshStocked call_format
fresh-stocked a time name B T long NB b e = ok-done (subst (Ok Stocked Any) e law)
  where
    law : Ok Stocked Any (call_format a time name)
    law = ok-bind (any (ensure (legal a) 1)) λ _ _. ok-bind (steps (length a) time name (named-node name long NB)) λ s S. went S
