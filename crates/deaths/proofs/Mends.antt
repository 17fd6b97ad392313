-- The mender keeps the records' blocks, so the host of a mended arena may die again.
use mathlib.Core.Path.{sym, subst}
use mathlib.Core.List.{List}
use Prim.Native.Nat.{ℕ, zero, suc, ◌+◌, ◌*◌}
use lib.Dec.{ltb}
use Rattle.base.specs.Out.{done, ensure, Ok, went}
use Rattle.base.specs.Reasons.{wrong_fs, in_use}
use Rattle.base.proofs.Outs.{ok-bind, ok-weaken, ok-done}
use Rattle.structs.specs.Layout.{record_bytes}
use Rattle.table.specs.Table.{no_holds}
use Rattle.files_laws.proofs.Drop.{drop-law}
use Rattle.sefs.specs.State.{Fs}
use Rattle.sefs.specs.Meta.{meta_file, is_used, free_block}
use Rattle.sefs.specs.Nodes.{node_file}
use Rattle.sefs.specs.Ask.{admit, start}
use Rattle.sefs_laws.proofs.Rows.{Any, any, any-guard, any-pick, put-any}
use Rattle.rules.specs.Image.{ids_in}
use Rattle.image.proofs.Metas.{node-other}
use Rattle.mending.specs.Mendable.{rec_in, mendable}
use Rattle.mending.specs.Mend.{lost, mended, changed, free_one, store_one, free_to, store_to, mend_steps, call_mend}
use Rattle.mending.proofs.Fates.{stays-node}
use Rattle.mending.proofs.Stores.{src-long, changed-stays}
use Rattle.deaths.specs.Deaths.{MendStocked}
use Rattle.deaths.proofs.Upheld.{stay-kept, stay-meta, Since, since-same, since-stay, since-put}
use Rattle.deaths.proofs.Keeps.{since-stocked}

module _ (a : List ℕ) where
  frees : (s : Fs) (n : ℕ) → Since a s.arena → Ok (λ (d : Fs). Since a d.arena) Any (free_to a s n)
  unfolding free_to free_one free_block
  frees s zero S = went S
  frees s (suc n) S =
      ok-bind (frees s n S) λ d D.
      any-pick (lost a n) (free_one a d n) (done d)
      (λ _. ok-bind {P = λ (u : Fs). Since a u.arena}
      (ok-bind (any d.meta) λ m _. any-guard (is_used m n) 19 (λ _. any-guard (ltb (m.super.unused + 1) 4294967296) 19 (λ _. went D))) λ u U.
      ok-bind (ok-weaken (λ b X. since-stay (stay-kept u.arena b (X.others meta_file (λ e. node-other (rec_in a n).file (sym e)))) U) (λ r e. tt) (drop-law u.arena (node_file (rec_in a n)))) λ b B. went B)
      (λ _. went D)

  stores : (s : Fs) (n : ℕ) → Since a s.arena → Ok (λ (d : Fs). Since a d.arena) Any (store_to a s n)
  unfolding store_to store_one
  stores s zero S = went S
  stores s (suc n) S =
      ok-bind (stores s n S) λ d D.
      any-pick (changed a n) (store_one a d n) (done d)
      (λ e.
      let long = src-long a n (stays-node a n (changed-stays a n e)) in
      ok-bind (ok-weaken (λ b P. since-put n (record_bytes (mended a n)) P long D) (λ r e. e) (put-any d.arena meta_file (128 * n) (record_bytes (mended a n)))) λ b B. went B)
      (λ _. went D)

pub mend-stocked : MendStocked
unfolding MendStocked call_mend mend_steps
mend-stocked a b t K e = since-stocked (ok-done (subst (Ok (Since a) Any) e law)) K
  where
    law : Ok (Since a) Any (call_mend a t)
    law =
        ok-bind (any (admit a t)) λ _ _. ok-bind (any (ensure (no_holds t) in_use)) λ _ _. ok-bind (any (ensure (mendable a) wrong_fs)) λ _ _.
        ok-bind {P = λ (s : Fs). Since a s.arena}
        (ok-bind (frees a (start a t) (ids_in a) (since-same a)) λ s S. ok-bind (stores a s (ids_in a) S) λ u U. ok-weaken (λ d C. since-stay C.1 U) (λ r e. e) (stay-meta u)) λ s S. went S
