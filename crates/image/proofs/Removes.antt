-- A folder's slot is removed: the last is copied over it, and the file is one slot shorter. And a node is opened for the call alone, and let go.
use mathlib.Core.Path.{◌≡◌, refl, sym, ap, ◌∙◌, subst}
use mathlib.Core.Bool.{Bool, true, false}
use mathlib.Core.List.{List}
use mathlib.Core.Logic.{◌≢◌, ⊎_elim}
use Prim.Native.Nat.{ℕ, ◌+◌, ◌*◌, ◌-◌, ◌≤◌, ◌<◌}
use native.Mathlib.Omega.{arith}
use lib.Dec.{eqb}
use lib.ListN.{length, get_or}
use borrow.Author.Tests.{lt-ltb, eqb-true}
use Rattle.base.specs.Out.{done, bind, Ok, went}
use Rattle.base.proofs.Outs.{ok-bind, ok-weaken}
use Rattle.base.proofs.Bools.{bool_cases, true-false}
use Rattle.base.proofs.Numbers.{lt-or-le}
use Rattle.base.proofs.Lists.{length-tab, get_or-tab, tab-cong}
use Rattle.base.proofs.Sames.{decided-yes, same_true}
use Rattle.base.proofs.Tests.{decides-same}
use Rattle.base.specs.Decides.{same}
use Rattle.base.specs.Search.{pick}
use Rattle.le.specs.Le.{Bytes}
use Rattle.structs.specs.Layout.{entry_of}
use Rattle.structs.specs.declared.DiskINode.{DiskINode}
use Rattle.arena.specs.Fields.{File, file}
use Rattle.sound.specs.Sound.{sound}
use Rattle.files.specs.Read.{there, length_of, byte_at}
use Rattle.files.specs.Store.{put_file, cut_file}
use Rattle.files_laws.specs.Laws.{Put, PutRefused, Cut, CutRefused, Kept}
use Rattle.files_laws.proofs.Put.{put-law}
use Rattle.files_laws.proofs.Cut.{cut-law}
use Rattle.sefs.specs.State.{Fs, with_arena}
use Rattle.sefs.specs.Meta.{meta_file}
use Rattle.sefs.specs.Records.{with_blocks}
use Rattle.sefs.specs.Nodes.{node_file, rec_at, set_rec}
use Rattle.sefs.specs.Slots.{slot_bytes}
use Rattle.sefs.specs.Folders.{put_slot, dirent_remove}
use Rattle.rules.specs.Image.{run, slot_in}
use Rattle.image.proofs.Slots.{run-bytes}
use Rattle.image.proofs.Metas.{kept_then, node-other}
use Rattle.image.proofs.Appends.{file-apart}
use Rattle.files_laws.specs.Laws as laws

-- file f had n + 1 slots; slot k went
pub record Gone (a f : List ℕ) (n k : ℕ) (b : List ℕ) : Type 0 where
  pub size : length b ≡ length a
  pub bytes : Bytes b
  pub sound : sound b ≡ true
  pub exists : there b (file 1 f) ≡ true
  pub long : length_of b (file 1 f) ≡ 264 * n
  pub still : (p : ℕ) → p < 264 * n → (264 * k ≤ p → 264 * k + 264 ≤ p) → byte_at b (file 1 f) p ≡ byte_at a (file 1 f) p
  pub moved : k < n → (x : ℕ) → x < 264 → byte_at b (file 1 f) (264 * k + x) ≡ byte_at a (file 1 f) (264 * n + x)
  pub others : (g : File) → file 1 f ≢ g → Kept a b g

module _ (a f : List ℕ) (n k : ℕ) (below : k ≤ n) (y : Bytes a) (so : sound a ≡ true) (is : there a (file 1 f) ≡ true) where
  cut-it : (b : List ℕ) → there b (file 1 f) ≡ true → Ok (Cut b (file 1 f) (264 * n)) (λ r. r ≡ 17) (cut_file b (file 1 f) (264 * n))
  cut-it b h = ok-weaken (λ c C. C) (λ r q. why q) (cut-law b (file 1 f) (264 * n))
    where
      why : {r : ℕ} → CutRefused b (file 1 f) (264 * n) r → r ≡ 17
      why (laws.missing q) = absurd (true-false h q)
      why (laws.far _ _) = refl

  abbrev src : List ℕ
  src = run a (file 1 f) (264 * n) 264

  src-long : length src ≡ 264
  src-long = length-tab (byte_at a (file 1 f)) (264 * n) 264

  src-bytes : Bytes src
  src-bytes = run-bytes a (file 1 f) (264 * n) 264 y

  put-it : Ok (Put a (file 1 f) (264 * k) (run a (file 1 f) (264 * n) 264)) (λ r. r ≡ 17) (put_file a (file 1 f) (264 * k) (run a (file 1 f) (264 * n) 264))
  put-it = ok-weaken (λ b P. P) (λ r q. why q) (put-law a (file 1 f) (264 * k) src)
    where
      why : {r : ℕ} → PutRefused a (file 1 f) (264 * k) (length (run a (file 1 f) (264 * n) 264)) r → r ≡ 17
      why (laws.missing q) = absurd (true-false is q)
      why (laws.far _ _) = refl
      why (laws.full _ _ _) = refl

  gone-last : k ≡ n → (b : List ℕ) → Cut a (file 1 f) (264 * n) b → Gone a f n k b
  gone-last e b C = record {
    size = C.size;
    bytes = C.bytes y;
    sound = C.keeps y so;
    exists = C.exists;
    long = C.long;
    still = λ p l h. C.below p l;
    moved = λ l. absurd (omega arith);
    others = C.others;
  }

  gone-copied : (b : List ℕ) → Put a (file 1 f) (264 * k) (run a (file 1 f) (264 * n) 264) b → (c : List ℕ) → Cut b (file 1 f) (264 * n) c → Gone a f n k c
  gone-copied b P c C = record {
    size = C.size ∙ P.size;
    bytes = C.bytes (P.bytes y src-bytes);
    sound = C.keeps (P.bytes y src-bytes) (P.keeps y src-bytes so);
    exists = C.exists;
    long = C.long;
    still = λ p l h. C.below p l ∙ P.outside p (λ g. omega (arith, h g, src-long));
    moved = λ l x m. C.below (264 * k + x) (omega arith) ∙ P.inside (264 * k + x) (omega arith) (omega (arith, src-long))
        ∙ ap (λ (j : ℕ). get_or src j 0) (let z : 264 * k + x - 264 * k ≡ x = omega arith in z) ∙ get_or-tab (byte_at a (file 1 f)) (264 * n) 264 x m;
    others = λ g d. kept_then a b c g (P.others g d) (C.others g d);
  }

  module _ (b : List ℕ) (G : Gone a f n k b) where
    pub gone-meta : Kept a b meta_file
    gone-meta = G.others meta_file (λ q. node-other f (sym q))

    pub gone-there : (g : List ℕ) → there b (file 1 g) ≡ there a (file 1 g)
    gone-there g =
        ⊎_elim
        (λ (q : same f g ≡ true). ap (λ (x : List ℕ). there b (file 1 x)) (sym (same_true f g q)) ∙ G.exists ∙ sym is ∙ ap (λ (x : List ℕ). there a (file 1 x)) (same_true f g q))
        (λ (q : same f g ≡ false). (G.others (file 1 g) (file-apart f g (λ z. true-false (decided-yes (decides-same f g) z) q))).exists)
        (bool_cases (same f g))

    pub gone-still : (r s : DiskINode) → r.file ≡ f → s.file ≡ f → (j : ℕ) → j < n → j ≢ k → slot_in b r j ≡ slot_in a s j
    unfolding slot_in
    gone-still r s q z j l d =
        ap (λ (x : List ℕ). entry_of (run b (file 1 x) (264 * j) 264)) q
        ∙ ap entry_of (tab-cong (byte_at b (file 1 f)) (byte_at a (file 1 f)) (264 * j) (264 * j) 264 (λ i m. G.still (264 * j + i) (omega arith) (λ g. omega (arith, apart j d i m g))))
        ∙ ap (λ (x : List ℕ). entry_of (run a (file 1 x) (264 * j) 264)) (sym z)
      where
        apart : (j : ℕ) → j ≢ k → (i : ℕ) → i < 264 → 264 * k ≤ 264 * j + i → k < j
        apart j d i m g = ⊎_elim (λ w. w) (λ w. absurd (d (omega arith))) (lt-or-le k j)

    pub gone-moved : (r s : DiskINode) → r.file ≡ f → s.file ≡ f → k < n → slot_in b r k ≡ slot_in a s n
    unfolding slot_in
    gone-moved r s q z l =
        ap (λ (x : List ℕ). entry_of (run b (file 1 x) (264 * k) 264)) q
        ∙ ap entry_of (tab-cong (byte_at b (file 1 f)) (byte_at a (file 1 f)) (264 * k) (264 * n) 264 (λ i m. G.moved l i m))
        ∙ ap (λ (x : List ℕ). entry_of (run a (file 1 x) (264 * n) 264)) (sym z)

-- ---- the step

pub record RemovedAt (s : Fs) (i k : ℕ) (d : Fs) : Type 0 where
  pub arena : List ℕ
  pub gone : Gone s.arena (rec_at s i).file ((rec_at s i).blocks - 1) k arena
  pub is : d ≡ set_rec (with_arena s arena) i (with_blocks (rec_at s i) ((rec_at s i).blocks - 1))

pub remove-law : (s : Fs) (i k : ℕ) → k < (rec_at s i).blocks → Bytes s.arena → sound s.arena ≡ true → there s.arena (node_file (rec_at s i)) ≡ true
    → slot_bytes s.arena (rec_at s i) ((rec_at s i).blocks - 1) ≡ done (run s.arena (node_file (rec_at s i)) (264 * ((rec_at s i).blocks - 1)) 264)
    → Ok (RemovedAt s i k) (λ r. r ≡ 17) (dirent_remove s i k)
unfolding dirent_remove put_slot
remove-law s i k l y so h e =
    rw (lt-ltb 0 (rec_at s i).blocks (omega arith), e)
    (go (eqb k ((rec_at s i).blocks - 1)) refl)
  where
    n : ℕ
    n = (rec_at s i).blocks - 1

    f : List ℕ
    f = (rec_at s i).file

    below : k ≤ (rec_at s i).blocks - 1
    below = omega arith

    go : (b : Bool) → eqb k ((rec_at s i).blocks - 1) ≡ b
        → Ok (RemovedAt s i k) (λ r. r ≡ 17)
        (bind (pick b (done s) (bind (put_file s.arena (node_file (rec_at s i)) (264 * k) (run s.arena (node_file (rec_at s i)) (264 * ((rec_at s i).blocks - 1)) 264)) (λ a. done (with_arena s a))))
        (λ s. bind (cut_file s.arena (node_file (rec_at s i)) (264 * ((rec_at s i).blocks - 1))) (λ a. done (set_rec (with_arena s a) i (with_blocks (rec_at s i) ((rec_at s i).blocks - 1))))))
    go true q =
        ok-bind (cut-it s.arena (rec_at s i).file ((rec_at s i).blocks - 1) k below y so h s.arena h) λ b C.
        went (record { arena = b; gone = gone-last s.arena (rec_at s i).file ((rec_at s i).blocks - 1) k below y so h (eqb-true k ((rec_at s i).blocks - 1) q) b C; is = refl })
    go false q =
        ok-bind {P = λ (x : Fs). (b : List ℕ) × (Put s.arena (node_file (rec_at s i)) (264 * k) (run s.arena (node_file (rec_at s i)) (264 * ((rec_at s i).blocks - 1)) 264) b) × (x ≡ with_arena s b)}
        (ok-bind (put-it s.arena (rec_at s i).file ((rec_at s i).blocks - 1) k below y so h) λ b P. went (b, P, refl)) λ x z.
        subst (λ (w : Fs). Ok (RemovedAt s i k) (λ r. r ≡ 17) (bind (cut_file w.arena (node_file (rec_at w i)) (264 * ((rec_at w i).blocks - 1))) (λ a. done (set_rec (with_arena w a) i (with_blocks (rec_at w i) ((rec_at w i).blocks - 1)))))) (sym z.2)
        (ok-bind (cut-it s.arena (rec_at s i).file ((rec_at s i).blocks - 1) k below y so h z.0 z.1.exists) λ c C.
        went (record { arena = c; gone = gone-copied s.arena (rec_at s i).file ((rec_at s i).blocks - 1) k below y so h z.0 z.1 c C; is = refl }))
