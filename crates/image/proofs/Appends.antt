-- A slot is put at a folder's end: its slots are as before, and that one. Every other node's are as before.
use mathlib.Core.Path.{◌≡◌, refl, sym, ap, ◌∙◌}
use mathlib.Core.Bool.{true, false}
use mathlib.Core.List.{List}
use mathlib.Core.Logic.{◌≢◌, ⊎_elim}
use Prim.Native.Nat.{ℕ, ◌+◌, ◌*◌, ◌-◌, ◌<◌}
use native.Mathlib.Omega.{arith}
use lib.ListN.{length, get_or}
use Rattle.base.specs.Out.{Ok, went}
use Rattle.base.proofs.Outs.{ok-bind, ok-weaken}
use Rattle.base.proofs.Bools.{bool_cases, true-false}
use Rattle.base.specs.Parts.{tab}
use Rattle.base.proofs.Lists.{tab-cong, tab-get_or}
use Rattle.base.proofs.Sames.{decided-yes, same_true}
use Rattle.base.proofs.Tests.{decides-same}
use Rattle.base.specs.Decides.{same}
use Rattle.le.specs.Le.{Bytes}
use Rattle.structs.specs.Fits.{EntryFits}
use Rattle.structs.specs.Layout.{entry_of, entry_bytes}
use Rattle.structs.proofs.Layouts.{length-entry_bytes, entry_of-entry_bytes, entry_bytes-bytes}
use Rattle.structs.specs.declared.DiskEntry.{DiskEntry}
use Rattle.structs.specs.declared.DiskINode.{DiskINode}
use Rattle.arena.specs.Fields.{File, file}
use Rattle.files.specs.Read.{there, length_of, byte_at}
use Rattle.files.specs.Store.{put_file}
use Rattle.files_laws.specs.Laws.{Put, PutRefused, Kept}
use Rattle.files_laws.proofs.Put.{put-law}
use Rattle.sefs.specs.Meta.{meta_file}
use Rattle.sefs.specs.State.{Fs, with_arena}
use Rattle.sefs.specs.Records.{with_blocks}
use Rattle.sefs.specs.Nodes.{node_file, rec_at, set_rec}
use Rattle.sefs.specs.Folders.{put_slot, dirent_append}
use Rattle.rules.specs.Image.{run, slot_in}
use Rattle.image.proofs.Metas.{node-other}
use Rattle.files_laws.specs.Laws as laws

pub file-apart : (f g : List ℕ) → f ≢ g → file 1 f ≢ file 1 g
file-apart f g d e = d (ap (λ (x : File). x.name) e)

-- slots of a kept file
pub slot_kept : (a b : List ℕ) (r s : DiskINode) → r.file ≡ s.file → Kept a b (node_file s) → (k : ℕ) → slot_in b r k ≡ slot_in a s k
unfolding slot_in
slot_kept a b r s q K k =
    ap (λ (f : List ℕ). entry_of (run b (file 1 f) (264 * k) 264)) q
    ∙ ap entry_of (tab-cong (byte_at b (node_file s)) (byte_at a (node_file s)) (264 * k) (264 * k) 264 (λ i l. K.byte (264 * k + i)))

module _ (a : List ℕ) (f : List ℕ) (n : ℕ) (e : DiskEntry) (F : EntryFits e) (is : there a (file 1 f) ≡ true) where
  pub slot-put : Ok (Put a (file 1 f) (264 * n) (entry_bytes e)) (λ r. r ≡ 17) (put_file a (file 1 f) (264 * n) (entry_bytes e))
  slot-put = ok-weaken (λ b P. P) (λ r q. why q) (put-law a (file 1 f) (264 * n) (entry_bytes e))
    where
      why : {r : ℕ} → PutRefused a (file 1 f) (264 * n) (length (entry_bytes e)) r → r ≡ 17
      why (laws.missing q) = absurd (true-false is q)
      why (laws.far _ _) = refl
      why (laws.full _ _ _) = refl

  pub entry-long : length (entry_bytes e) ≡ 264
  entry-long = length-entry_bytes e F.name

  pub entry-bytes : Bytes (entry_bytes e)
  entry-bytes = entry_bytes-bytes e F.name_bytes

  module _ (b : List ℕ) (P : Put a (file 1 f) (264 * n) (entry_bytes e) b) where
    pub put-meta : Kept a b meta_file
    put-meta = P.others meta_file (λ q. node-other f (sym q))

    pub put-there : (g : List ℕ) → there b (file 1 g) ≡ there a (file 1 g)
    put-there g =
        ⊎_elim
        (λ (q : same f g ≡ true). ap (λ (x : List ℕ). there b (file 1 x)) (sym (is_same q)) ∙ P.exists ∙ sym is ∙ ap (λ (x : List ℕ). there a (file 1 x)) (is_same q))
        (λ (q : same f g ≡ false). (P.others (file 1 g) (file-apart f g (λ z. true-false (decided-yes (decides-same f g) z) q))).exists)
        (bool_cases (same f g))
      where
        is_same : same f g ≡ true → f ≡ g
        is_same q = same_true f g q

    -- slots before it, and itself
    pub slot-before : (r s : DiskINode) → r.file ≡ f → s.file ≡ f → (k : ℕ) → k < n → slot_in b r k ≡ slot_in a s k
    unfolding slot_in
    slot-before r s q z k l =
        ap (λ (x : List ℕ). entry_of (run b (file 1 x) (264 * k) 264)) q
        ∙ ap entry_of (tab-cong (byte_at b (file 1 f)) (byte_at a (file 1 f)) (264 * k) (264 * k) 264 (λ i m. P.outside (264 * k + i) (λ g. absurd (omega arith))))
        ∙ ap (λ (x : List ℕ). entry_of (run a (file 1 x) (264 * k) 264)) (sym z)

    pub slot-new : (r : DiskINode) → r.file ≡ f → slot_in b r n ≡ e
    unfolding slot_in
    slot-new r q =
        ap (λ (x : List ℕ). entry_of (run b (file 1 x) (264 * n) 264)) q
        ∙ ap entry_of
        (tab-cong (byte_at b (file 1 f)) (λ i. get_or (entry_bytes e) i 0) (264 * n) 0 264
        (λ i l. P.inside (264 * n + i) (omega arith) (omega (arith, entry-long)) ∙ ap (λ (j : ℕ). get_or (entry_bytes e) j 0) (let z : 264 * n + i - 264 * n ≡ 0 + i = omega arith in z))
        ∙ ap (tab (λ i. get_or (entry_bytes e) i 0) 0) (sym entry-long) ∙ tab-get_or (entry_bytes e))
        ∙ entry_of-entry_bytes e F

    pub put-long : length_of a (file 1 f) ≡ 264 * n → length_of b (file 1 f) ≡ 264 * (n + 1)
    put-long q = P.long ∙ omega (arith, entry-long)

    pub put_small : n + 1 < 4294967296
    put_small = omega (arith, P.range, entry-long)

-- ---- the step

pub record Appended (s : Fs) (i : ℕ) (e : DiskEntry) (d : Fs) : Type 0 where
  pub arena : List ℕ
  pub put : Put s.arena (node_file (rec_at s i)) (264 * (rec_at s i).blocks) (entry_bytes e) arena
  pub is : d ≡ set_rec (with_arena s arena) i (with_blocks (rec_at s i) ((rec_at s i).blocks + 1))

pub append-law : (s : Fs) (i : ℕ) (e : DiskEntry) → EntryFits e → there s.arena (node_file (rec_at s i)) ≡ true → Ok (Appended s i e) (λ r. r ≡ 17) (dirent_append s i e)
unfolding dirent_append put_slot
append-law s i e F h =
    ok-bind {P = λ (x : Fs). (b : List ℕ) × (Put s.arena (node_file (rec_at s i)) (264 * (rec_at s i).blocks) (entry_bytes e) b) × (x ≡ with_arena s b)}
    (ok-bind (slot-put s.arena (rec_at s i).file (rec_at s i).blocks e F h) λ b P. went (b, P, refl))
    λ x q. went (record { arena = q.0; put = q.1; is = ap (λ (y : Fs). set_rec y i (with_blocks (rec_at y i) ((rec_at y i).blocks + 1))) q.2 })
