-- What `dz_open`, `dz_check` and `dz_mend` answer on the arena that a cut of create leaves.
use mathlib.Core.Path.{◌≡◌, sym, ap, ap₂, ◌∙◌, subst}
use mathlib.Core.List.{List}
use Prim.Native.Nat.{ℕ}
use lib.ListN.{length}
use Rattle.base.specs.Out.{Out, done, refused, answer}
use Rattle.base.specs.Reasons.{wrong_fs}
use Rattle.base.proofs.Outs.{bind-is-done}
use Rattle.table.specs.Table.{empty_table}
use Rattle.table_bytes.proofs.Empty.{empty-fits}
use Rattle.table_bytes.proofs.Layouts.{length-fits}
use Rattle.sefs.specs.Create.{call_create}
use Rattle.sefs.specs.Open.{call_open}
use Rattle.rules.specs.Tests.{checked}
use Rattle.mending.specs.Mend.{call_mend}
use Rattle.edge.specs.Edge.{Answers, mended_of}
use Rattle.sequences.specs.Pairs.{Pair, pair}
use Rattle.sequences.specs.Calls.{Call, create, sync, does, next}
use Rattle.cuts.specs.Premise.{NoneDirty, AfterSync, EveryCreate}
use Rattle.cuts.specs.Answers.{CutOpens, CutFails, MenderRefuses}
use Rattle.cuts.proofs.Orders.{every-create}
use Rattle.cuts.proofs.Syncs.{after-sync}
use Rattle.cuts.proofs.Maps.{cut-opens}
use Rattle.cuts.proofs.SameCheck.{cut-fails}
use Rattle.cuts.proofs.Mends.{mender-refuses}
use Rattle.linked.specs.Images.{Image, pair_of, Passes, Ready}
use Rattle.linked.specs.Tested.{Ran}
use Rattle.linked.specs.Owning.{Owns}
use Rattle.linked.specs.Linked.{Functions, Transports, Mixed, Linked, OwnLinked, MixedLinked, CheckSays, OpenDoes}
use Rattle.linked.specs.Cuts.{RunSyncs, RunCreates, RunCutOpens, RunCutFails, RunCutRefused}
use Rattle.linked.proofs.Runs.{one}
use Rattle.linked.proofs.Starts.{check-says, open-does}
use Rattle.linked.proofs.Transport.{zero-done, not_255}
use Rattle.linked.proofs.Linked.{linked, own-linked, mixed-linked}
use Rattle.linked.proofs.Mends.{mend-ran, empty_back}

-- ---- a sync, and a create after it

module _ {R : Functions} {I : Image → Type 0} (T : Transports R I) (trusted : (s : Image) → I s → Passes s) where
  syncs : RunSyncs R I
  unfolding RunSyncs AfterSync
  syncs s u x y i r =
      let g = one T i tt r not_255 in
      subst (λ (q : Pair). NoneDirty q.table) (sym g.left)
      (after-sync (pair_of s) (next sync (pair_of s)) (trusted s i).passes (zero-done sync (pair_of s) g.number)).1

  creates : RunCreates R I
  unfolding RunCreates EveryCreate does
  creates s u x y w h name kind mode time uuid i z F r =
      let p : Pair = pair_of s in
      let c : Call = create w h name kind mode time uuid in
      let g = one T i F r not_255 in
      let d = bind-is-done (call_create p.arena p.table w h name kind mode time uuid) (λ v. done (pair v.arena v.table)) (next c p) (zero-done c p g.number) in
      let e = every-create p (trusted s i).passes z w h name kind mode time uuid F d.0 d.1 in
      (e.0, d.0, e.1, e.2, ap (λ (q : Pair). q.arena) g.left ∙ ap (λ (o : Out Pair). arena_of o) (sym d.2))
    where
      arena_of : Out Pair → List ℕ
      arena_of (done q) = q.arena
      arena_of (refused n) = s.arena

pub tested-syncs : RunSyncs Ran Passes
unfolding Linked
tested-syncs = syncs linked (λ s y. y)

pub own-syncs : RunSyncs Owns Ready
unfolding OwnLinked
own-syncs = syncs own-linked (λ s y. y.trusted)

pub mixed-syncs : RunSyncs Mixed Passes
unfolding MixedLinked
mixed-syncs = syncs mixed-linked (λ s y. y)

pub tested-creates : RunCreates Ran Passes
unfolding Linked
tested-creates = creates linked (λ s y. y)

pub own-creates : RunCreates Owns Ready
unfolding OwnLinked
own-creates = creates own-linked (λ s y. y.trusted)

pub mixed-creates : RunCreates Mixed Passes
unfolding MixedLinked
mixed-creates = creates mixed-linked (λ s y. y)

-- ---- a cut

pub run-cut-opens : RunCutOpens
unfolding RunCutOpens OpenDoes CutOpens
run-cut-opens p c g B n b h κs s t t' r e L k =
    let d = open-does κs s t t' r L k in
    let z : r ≡ 0 = d.0 ∙ ap answer (ap call_open e ∙ cut-opens p c g B n b h) in
    (z, d.1 z)

pub run-cut-fails : RunCutFails
unfolding RunCutFails CheckSays CutFails
run-cut-fails p c g B n b h κs s t out out' r e f L k v at =
    check-says κs s t out out' r L k ∙ ap₂ checked e (empty_back f) ∙ cut-fails p c g B n b h v at

pub run-cut-refused : RunCutRefused
unfolding RunCutRefused MenderRefuses
run-cut-refused p c g B n b h o l s u x y r e f R =
    let A = mend-ran R (ap length f ∙ length-fits empty_table empty-fits) in
    let K : Answers (refused wrong_fs) mended_of s.arena u.arena r =
    subst (λ (m : Out (List ℕ)). Answers m mended_of s.arena u.arena r) (ap₂ call_mend e (empty_back f) ∙ mender-refuses p c g B n b h o l) A.0 in
    (K.number, record { arena = K.places; table = A.1 })
