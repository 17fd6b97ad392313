-- A slot is put at the end of one folder's file, and a slot of another folder's goes: every other file stays. Then a slot of the first may go,
-- over which the new one is copied.
use mathlib.Core.Path.{◌≡◌, sym, ◌∙◌, subst}
use mathlib.Core.Bool.{true}
use mathlib.Core.List.{List}
use mathlib.Core.Logic.{◌≢◌}
use Prim.Native.Nat.{ℕ, ◌+◌, ◌*◌, ◌≤◌, ◌<◌}
use native.Mathlib.Omega.{arith}
use lib.ListN.{length}
use Rattle.le.specs.Le.{Bytes}
use Rattle.structs.specs.Fits.{EntryFits}
use Rattle.structs.specs.Layout.{entry_bytes}
use Rattle.structs.specs.declared.DiskEntry.{DiskEntry}
use Rattle.structs.specs.declared.DiskINode.{DiskINode}
use Rattle.arena.specs.Fields.{file}
use Rattle.sound.specs.Sound.{sound}
use Rattle.files.specs.Read.{there, length_of}
use Rattle.files_laws.specs.Laws.{Put, Kept}
use Rattle.sefs.specs.Meta.{meta_file}
use Rattle.rules.specs.Image.{slot_in}
use Rattle.image.proofs.Metas.{kept_then}
use Rattle.image.proofs.Appends.{file-apart, slot_kept, entry-bytes, put-meta, put-there, slot-before, slot-new, put-long}
use Rattle.image.proofs.Removes.{Gone, gone-meta, gone-there, gone-still, gone-moved}

-- file f had n + 1 slots, and slot p went; file g had m slots, has l, and slot k is e
pub record Carried (a f : List ℕ) (n p : ℕ) (g : List ℕ) (m k l : ℕ) (e : DiskEntry) (b : List ℕ) : Type 0 where
  pub size : length b ≡ length a
  pub bytes : Bytes b
  pub sound : sound b ≡ true
  pub meta : Kept a b meta_file
  pub exists : (h : List ℕ) → there b (file 1 h) ≡ there a (file 1 h)
  pub others : (h : List ℕ) → f ≢ h → g ≢ h → Kept a b (file 1 h)
  pub from-long : length_of b (file 1 f) ≡ 264 * n
  pub from-still : (r s : DiskINode) → r.file ≡ f → s.file ≡ f → (x : ℕ) → x < n → x ≢ p → slot_in b r x ≡ slot_in a s x
  pub from-moved : (r s : DiskINode) → r.file ≡ f → s.file ≡ f → p < n → slot_in b r p ≡ slot_in a s n
  pub to-long : length_of b (file 1 g) ≡ 264 * l
  pub to-still : (r s : DiskINode) → r.file ≡ g → s.file ≡ g → (x : ℕ) → x < m → x ≢ k → slot_in b r x ≡ slot_in a s x
  pub to-new : (r : DiskINode) → r.file ≡ g → slot_in b r k ≡ e

module _ (a f : List ℕ) (n p : ℕ) (g : List ℕ) (m : ℕ) (e : DiskEntry) (apart : f ≢ g) (y : Bytes a) (so : sound a ≡ true)
    (is_f : there a (file 1 f) ≡ true) (is-g : there a (file 1 g) ≡ true) where
  -- a record of a file with that name
  slot-other : (b c h : List ℕ) → Kept b c (file 1 h) → (r s : DiskINode) → r.file ≡ h → s.file ≡ h → (x : ℕ) → slot_in c r x ≡ slot_in b s x
  slot-other b c h K r s q z x = slot_kept b c r s (q ∙ sym z) (subst (λ (i : List ℕ). Kept b c (file 1 i)) (sym z) K) x

  module _ (E : EntryFits e) (long : length_of a (file 1 g) ≡ 264 * m) (below : p ≤ n) (b : List ℕ) (P : Put a (file 1 g) (264 * m) (entry_bytes e) b) where
    pub put-bytes : Bytes b
    put-bytes = P.bytes y (entry-bytes a g m e E is-g)

    pub put-sound : sound b ≡ true
    put-sound = P.keeps y (entry-bytes a g m e E is-g) so

    pub put-from : Kept a b (file 1 f)
    put-from = P.others (file 1 f) (file-apart g f (λ z. apart (sym z)))

    is_b : there b (file 1 f) ≡ true
    is_b = put-from.exists ∙ is_f

    pub carried-slot : (c : List ℕ) → Gone b f n p c → Carried a f n p g m m (m + 1) e c
    carried-slot c G =
        let K : Kept b c (file 1 g) = G.others (file 1 g) (file-apart f g apart) in
        record {
          size = G.size ∙ P.size;
          bytes = G.bytes;
          sound = G.sound;
          meta = kept_then a b c meta_file (put-meta a g m e E is-g b P) (gone-meta b f n p below put-bytes put-sound is_b c G);
          exists = λ h. gone-there b f n p below put-bytes put-sound is_b c G h ∙ put-there a g m e E is-g b P h;
          others = λ h d z. kept_then a b c (file 1 h) (P.others (file 1 h) (file-apart g h z)) (G.others (file 1 h) (file-apart f h d));
          from-long = G.long;
          from-still = λ r s q z x l d. gone-still b f n p below put-bytes put-sound is_b c G r s q z x l d ∙ slot-other a b f put-from s s z z x;
          from-moved = λ r s q z l. gone-moved b f n p below put-bytes put-sound is_b c G r s q z l ∙ slot-other a b f put-from s s z z n;
          to-long = K.long ∙ put-long a g m e E is-g b P long;
          to-still = λ r s q z x l d. slot-other b c g K r r q q x ∙ slot-before a g m e E is-g b P r s q z x l;
          to-new = λ r q. slot-other b c g K r r q q m ∙ slot-new a g m e E is-g b P r q;
        }

  -- slot k of the second goes
  module _ (b : List ℕ) (C : Carried a f n p g m m (m + 1) e b) (k : ℕ) (below : k < m) (c : List ℕ) (G : Gone b g m k c) where
    is-then : there b (file 1 g) ≡ true
    is-then = C.exists g ∙ is-g

    le : k ≤ m
    le = omega arith

    pub carried-over : Carried a f n p g m k m e c
    carried-over =
        let K : Kept b c (file 1 f) = G.others (file 1 f) (file-apart g f (λ z. apart (sym z))) in
        record {
          size = G.size ∙ C.size;
          bytes = G.bytes;
          sound = G.sound;
          meta = kept_then a b c meta_file C.meta (gone-meta b g m k le C.bytes C.sound is-then c G);
          exists = λ h. gone-there b g m k le C.bytes C.sound is-then c G h ∙ C.exists h;
          others = λ h d z. kept_then a b c (file 1 h) (C.others h d z) (G.others (file 1 h) (file-apart g h z));
          from-long = K.long ∙ C.from-long;
          from-still = λ r s q z x l d. slot-other b c f K r r q q x ∙ C.from-still r s q z x l d;
          from-moved = λ r s q z l. slot-other b c f K r r q q p ∙ C.from-moved r s q z l;
          to-long = G.long;
          to-still = λ r s q z x l d. gone-still b g m k le C.bytes C.sound is-then c G r r q q x l d ∙ C.to-still r s q z x l (λ w. omega arith);
          to-new = λ r q. gone-moved b g m k le C.bytes C.sound is-then c G r r q q below ∙ C.to-new r q;
        }
