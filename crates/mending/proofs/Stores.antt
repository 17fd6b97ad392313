-- "then changed records are stored by rising id": what the first n turns leave. 17 is the one reason, and comes only where all records lack more
-- blocks than are free.
use mathlib.Core.Path.{◌≡◌, refl, sym, ap, ◌∙◌, subst}
use mathlib.Core.Bool.{Bool, true, false, not}
use mathlib.Core.List.{List}
use mathlib.Core.Logic.{◌≢◌, ⊎_elim}
use Prim.Native.Nat.{ℕ, zero, suc, ◌+◌, ◌*◌, ◌-◌, ◌/◌, ◌%◌, ◌≤◌, ◌<◌}
use native.Mathlib.Omega.{arith}
use lib.ListN.{length, replicate, get_or-replicate}
use lib.Seq.{ext_get_or}
use borrow.Author.Tests.{ltb-true}
use Rattle.base.specs.Count.{bit, sum_to, count_to}
use Rattle.base.specs.Decides.{same}
use Rattle.base.specs.Out.{Out, done, Ok, went}
use Rattle.base.specs.Parts.{part}
use Rattle.base.specs.Search.{pick}
use Rattle.base.proofs.Outs.{ok-bind, ok-weaken}
use Rattle.base.proofs.Bools.{bool_cases, true-false, and_both, and_parts, or-first, or_cases}
use Rattle.base.proofs.Counts.{sum_to-suc, sum_to-le, sum_to-cong, sum_to-zero, sum_to-join, count_to-none, count_to-cong}
use Rattle.base.proofs.Lists.{length_part, get_d_part, length-tab, get_or-tab, tab-cong}
use Rattle.base.proofs.Numbers.{lt-or-le, below_suc}
use Rattle.base.proofs.Parts.{part-all}
use Rattle.base.proofs.Sames.{same_true, test-fails}
use Rattle.le.specs.Le.{Bytes, le_at, le_of}
use Rattle.structs.specs.Layout.{record_of, record_bytes}
use Rattle.structs.specs.declared.DiskINode.{DiskINode}
use Rattle.structs.proofs.Layouts.{length-record_bytes, record_bytes-bytes}
use Rattle.arena.specs.Fields.{File, file}
use Rattle.arena.specs.Places.{free_count}
use Rattle.sound.specs.Sound.{sound}
use Rattle.files.specs.Read.{there, length_of, present, byte_at}
use Rattle.files.specs.Store.{lo, hi, touched, put_file}
use Rattle.files_laws.specs.Laws.{Kept, Put, PutRefused, touches, lacking}
use Rattle.files_laws.specs.Laws as laws
use Rattle.files_laws.proofs.Put.{touched-is, put-law}
use Rattle.files_laws.proofs.Views.{byte_in, byte-in, byte-none, length_none}
use Rattle.sefs.specs.State.{Fs, Meta}
use Rattle.sefs.specs.Meta.{meta_file}
use Rattle.rules.specs.Image.{run, ids_in, is_node, stored_bytes}
use Rattle.image.proofs.Metas.{kept_same, kept_then, node-other, put-run}
use Rattle.image.proofs.Slots.{run-bytes}
use Rattle.mending.specs.Mendable.{rec_in, Mendable}
use Rattle.mending.specs.Mend.{stays, mended, changed, store_one, store_to}
use Rattle.mending.specs.Room.{wanted_to, wanted}
use Rattle.mending.proofs.Tables.{rec-stored}
use Rattle.mending.proofs.Fates.{node-zero, stays-node, mended-file, mended-mac}
use Rattle.mending.proofs.Frees.{Freed}

-- ---- blocks that are there stay, and so no more are lacking

bit-less : (b c : Bool) → (b ≡ true → c ≡ true) → bit (not c) ≤ bit (not b)
bit-less true c h = rw (h refl) (omega arith)
bit-less false true h = omega arith
bit-less false false h = omega arith

pub lacking-less : (a b : List ℕ) (f : File) (pos n : ℕ) → ((q : ℕ) → present a f q ≡ true → present b f q ≡ true) → lacking b f pos n ≤ lacking a f pos n
unfolding lacking count_to
lacking-less a b f pos n h =
    sum_to-le (λ i. bit (not (present b f (pos / 480 + i)))) (λ i. bit (not (present a f (pos / 480 + i)))) (touched pos n)
    (λ i l. bit-less (present a f (pos / 480 + i)) (present b f (pos / 480 + i)) (h (pos / 480 + i)))

pub lacking-none : (a : List ℕ) (f : File) (pos n : ℕ) → ((q : ℕ) → touches pos n q ≡ true → present a f q ≡ true) → lacking a f pos n ≡ 0
unfolding lacking
lacking-none a f pos n h = count_to-none (λ i. not (present a f (pos / 480 + i))) (touched pos n) (λ i l. ap not (h (pos / 480 + i) (touched-is pos n i l)))

pub put-here : (a : List ℕ) (f : File) (pos : ℕ) (src b : List ℕ) → Put a f pos src b → (q : ℕ) → present a f q ≡ true → present b f q ≡ true
put-here a f pos src b P q e = P.block q ∙ or-first (touches pos (length src) q) e

-- ---- a record as it is stored: 112 bytes

module _ (a : List ℕ) (id : ℕ) (n : is_node a id ≡ true) where
  abbrev l : List ℕ
  l = run a meta_file (128 * id) 112

  long : length (run a meta_file (128 * id) 112) ≡ 112
  long = length-tab (byte_at a meta_file) (128 * id) 112

  file-is : (mended a id).file ≡ part (run a meta_file (128 * id) 112) 80 96
  unfolding stored_bytes record_of
  file-is = mended-file a id ∙ ap (λ (r : DiskINode). r.file) (rec-stored a id (node-zero a id n))

  mac-is : (mended a id).mac ≡ part (run a meta_file (128 * id) 112) 96 112
  unfolding stored_bytes record_of
  mac-is = mended-mac a id ∙ ap (λ (r : DiskINode). r.mac) (rec-stored a id (node-zero a id n))

  pub src-long : length (record_bytes (mended a id)) ≡ 112
  src-long =
      length-record_bytes (mended a id)
      (ap length file-is ∙ length_part l 80 96 (omega arith) (omega (arith, long)) ∙ omega arith)
      (ap length mac-is ∙ length_part l 96 112 (omega arith) (omega (arith, long)) ∙ omega arith)

  pub src-bytes : Bytes a → Bytes (record_bytes (mended a id))
  src-bytes B =
      record_bytes-bytes (mended a id)
      (subst Bytes (sym file-is) (part-all (λ x. x < 256) l (omega arith) (run-bytes a meta_file (128 * id) 112 B) 80 96))
      (subst Bytes (sym mac-is) (part-all (λ x. x < 256) l (omega arith) (run-bytes a meta_file (128 * id) 112 B) 96 112))

-- ---- blocks that are wanted

-- of record id
abbrev want : List ℕ → ℕ → ℕ
want a id = pick (changed a id) (lacking a meta_file (128 * id) 112) 0

want-none : (a : List ℕ) → wanted_to a 0 ≡ 0
unfolding wanted_to sum_to
want-none a = refl

pub want-more : (a : List ℕ) (n : ℕ) (b : Bool) → changed a n ≡ b → wanted_to a (suc n) ≡ wanted_to a n + pick b (lacking a meta_file (128 * n) 112) 0
unfolding wanted_to
want-more a n b e = sum_to-suc (want a) n ∙ ap (λ (c : Bool). wanted_to a n + pick c (lacking a meta_file (128 * n) 112) 0) e

want-grows : (a : List ℕ) (n m : ℕ) → n ≤ m → wanted_to a n ≤ wanted_to a m
unfolding wanted_to
want-grows a n m l = let e = sum_to-join (want a) n (m - n) in omega (arith, e, ap (sum_to (want a)) (let z : n + (m - n) ≡ m = omega arith in z))

pub changed-stays : (a : List ℕ) (id : ℕ) → changed a id ≡ true → stays a id ≡ true
unfolding changed
changed-stays a id e = (and_parts (stays a id) (not (same (record_bytes (mended a id)) (stored_bytes a id))) e).0

-- none, where the records that stay have their blocks
pub want-nothing : (a : List ℕ) → ((id : ℕ) → stays a id ≡ true → lacking a meta_file (128 * id) 112 ≡ 0) → wanted a ≡ 0
unfolding wanted_to
want-nothing a h = sum_to-cong (want a) (λ id. 0) (ids_in a) (λ id l. each id (changed a id) refl) ∙ sum_to-zero (ids_in a)
  where
    each : (id : ℕ) (b : Bool) → changed a id ≡ b → pick b (lacking a meta_file (128 * id) 112) 0 ≡ 0
    each id true e = h id (changed-stays a id e)
    each id false e = refl

-- the block that a node's record begins in holds its type, which isn't 0: it is there
module _ (a : List ℕ) (M : Mendable a) (id : ℕ) (n : is_node a id ≡ true) where
  low_end : 128 * id % 480 + 12 ≤ 480
  low_end =
      let q : ℕ = 128 * id / 480 in
      let r : ℕ = 128 * id % 480 in
      let e : r ≡ 32 * (4 * id - 15 * q) = omega arith in
      omega arith

  type-zero : present a meta_file (128 * id / 480) ≡ false → (rec_in a id).kind ≡ 0
  unfolding stored_bytes record_of le_at le_of
  type-zero e =
      let bytes : List ℕ = run a meta_file (128 * id) 112 in
      let four = length_part bytes 8 12 (omega arith) (omega (arith, length-tab (byte_at a meta_file) (128 * id) 112)) in
      ap (λ (r : DiskINode). r.kind) (rec-stored a id (node-zero a id n))
      ∙ ap le_of (ext_get_or 0 (part bytes 8 12) (replicate 4 0) (four ∙ omega arith)
      (λ i l.
      let k : i < 4 = omega (arith, four) in
      get_d_part bytes 8 12 i (omega arith) ∙ get_or-tab (byte_at a meta_file) (128 * id) 112 (8 + i) (omega arith) ∙ byte-in a meta_file (128 * id + (8 + i))
      ∙ ap (λ (q : ℕ). byte_in a meta_file q ((128 * id + (8 + i)) % 480)) (let z : (128 * id + (8 + i)) / 480 ≡ 128 * id / 480 = omega (arith, low_end) in z)
      ∙ byte-none a meta_file (128 * id / 480) e ((128 * id + (8 + i)) % 480) ∙ sym (get_or-replicate 4 i 0 0 k)))

  type-here : present a meta_file (128 * id / 480) ≡ true
  type-here =
      ⊎_elim (λ e. e) (λ (e : present a meta_file (128 * id / 480) ≡ false). absurd (omega (arith, type-zero e, M.rule5.least id n)))
      (bool_cases (present a meta_file (128 * id / 480)))

  -- so a block that it lacks is none of a lower record's
  alone : (j q : ℕ) → j < id → present a meta_file q ≡ false → touches (128 * id) 112 q ≡ true → touches (128 * j) 112 q ≡ true → ⊥
  alone j q l none x y =
      let u : lo (128 * id) q < hi (128 * id) 112 q = ltb-true (lo (128 * id) q) (hi (128 * id) 112 q) x in
      let v : lo (128 * j) q < hi (128 * j) 112 q = ltb-true (lo (128 * j) q) (hi (128 * j) 112 q) y in
      ⊎_elim
      (λ (z : q < 128 * id / 480). omega arith)
      (λ (z : 128 * id / 480 ≤ q).
      ⊎_elim
      (λ (k : 128 * id / 480 < q). omega arith)
      (λ (k : q ≤ 128 * id / 480). true-false type-here (ap (present a meta_file) (let w : 128 * id / 480 ≡ q = omega arith in w) ∙ none))
      (lt-or-le (128 * id / 480) q))
      (lt-or-le q (128 * id / 480))

-- ---- the first n turns: c is the arena once the files are gone, o what is in memory

pub record Stored (a c : List ℕ) (o : Out Meta) (n : ℕ) (s : Fs) : Type 0 where
  pub meta : s.meta ≡ o
  -- the arena
  pub size : length s.arena ≡ length a
  pub bytes : Bytes a → Bytes s.arena
  pub keeps : Bytes a → sound s.arena ≡ true
  pub free : free_count s.arena + wanted_to a n ≡ free_count c
  -- the metadata file: blocks that came are of a record below n
  pub there : there s.arena meta_file ≡ true
  pub long : length_of s.arena meta_file ≡ length_of a meta_file
  pub here : (q : ℕ) → present a meta_file q ≡ true → present s.arena meta_file q ≡ true
  pub taken : (q : ℕ) → present a meta_file q ≡ false → present s.arena meta_file q ≡ true → (id : ℕ) × (id < n) × (touches (128 * id) 112 q ≡ true)
  pub new : (id : ℕ) → id < n → stays a id ≡ true → stored_bytes s.arena id ≡ record_bytes (mended a id)
  pub old : (id : ℕ) → n ≤ id → stored_bytes s.arena id ≡ stored_bytes a id
  -- the others
  pub files : (f : List ℕ) → Kept c s.arena (file 1 f)

-- 17: all that the changed records lack are more than there are
abbrev pub Short : List ℕ → List ℕ → ℕ → Type 0
Short a c r = (r ≡ 17) × (free_count c < wanted a)

module _ (a : List ℕ) (M : Mendable a) where
  pub meta-there : there a meta_file ≡ true
  meta-there = ⊎_elim (λ e. e) (λ e. absurd (omega (arith, M.rule3.some, M.rule3.length, length_none a meta_file e))) (bool_cases (there a meta_file))

  begins : (s : Fs) → Freed a (ids_in a) s → Stored a s.arena s.meta 0 s
  unfolding stored_bytes
  begins s F = record {
    meta = refl;
    size = F.size;
    bytes = F.bytes;
    keeps = λ B. F.keeps;
    free = omega (arith, want-none a);
    there = F.metas.exists ∙ meta-there;
    long = F.metas.long;
    here = λ q e. F.metas.block q ∙ e;
    taken = λ q e f. absurd (true-false (sym (F.metas.block q) ∙ f) e);
    new = λ id l. absurd (omega arith);
    old = λ id l. tab-cong (byte_at s.arena meta_file) (byte_at a meta_file) (128 * id) (128 * id) 112 (λ i h. F.metas.byte (128 * id + i));
    files = λ f. kept_same s.arena (file 1 f);
  }

  module _ (c : List ℕ) (o : Out Meta) (n : ℕ) (below : n < ids_in a) (s : Fs) (S : Stored a c o n s) where
    earlier : (q : ℕ) → (id : ℕ) × (id < n) × (touches (128 * id) 112 q ≡ true) → (id : ℕ) × (id < suc n) × (touches (128 * id) 112 q ≡ true)
    earlier q x = (x.0, (let l = x.1 in omega arith), x.2)

    -- ---- record n needs no store

    same-record : stays a n ≡ true → changed a n ≡ false → record_bytes (mended a n) ≡ stored_bytes a n
    unfolding changed
    same-record e f =
        same_true (record_bytes (mended a n)) (stored_bytes a n)
        (⊎_elim (λ y. y) (λ (y : same (record_bytes (mended a n)) (stored_bytes a n) ≡ false). absurd (true-false (and_both e (ap not y)) f))
        (bool_cases (same (record_bytes (mended a n)) (stored_bytes a n))))

    skips : changed a n ≡ false → Stored a c o (suc n) s
    skips f = record {
      meta = S.meta;
      size = S.size;
      bytes = S.bytes;
      keeps = S.keeps;
      free = omega (arith, S.free, want-more a n false f);
      there = S.there;
      long = S.long;
      here = S.here;
      taken = λ q e g. earlier q (S.taken q e g);
      new = below_suc (λ id. stays a id ≡ true → stored_bytes s.arena id ≡ record_bytes (mended a id)) n S.new
          (λ y. S.old n (omega arith) ∙ sym (same-record y f));
      old = λ id l. S.old id (omega arith);
      files = S.files;
    }

    -- ---- or is stored

    module _ (e : changed a n ≡ true) where
      node : is_node a n ≡ true
      node = stays-node a n (changed-stays a n e)

      abbrev src : List ℕ
      src = record_bytes (mended a n)

      len : length (record_bytes (mended a n)) ≡ 112
      len = src-long a n node

      -- it lacks what it lacked: no lower record has taken its block
      same_here : (q : ℕ) → touches (128 * n) 112 q ≡ true → present s.arena meta_file q ≡ present a meta_file q
      same_here q x =
          ⊎_elim
          (λ (y : present a meta_file q ≡ true). S.here q y ∙ sym y)
          (λ (y : present a meta_file q ≡ false).
          test-fails (present s.arena meta_file q) (λ z. let w = S.taken q y z in alone a M n node w.0 q w.1 y x w.2) ∙ sym y)
          (bool_cases (present a meta_file q))

      same-lack : lacking s.arena meta_file (128 * n) 112 ≡ lacking a meta_file (128 * n) 112
      unfolding lacking
      same-lack =
          count_to-cong (λ i. not (present s.arena meta_file (128 * n / 480 + i))) (λ i. not (present a meta_file (128 * n / 480 + i))) (touched (128 * n) 112)
          (λ i l. ap not (same_here (128 * n / 480 + i) (touched-is (128 * n) 112 i l)))

      puts : Ok (Put s.arena meta_file (128 * n) (record_bytes (mended a n))) (Short a c) (put_file s.arena meta_file (128 * n) (record_bytes (mended a n)))
      puts = ok-weaken (λ d P. P) (λ r y. why y) (put-law s.arena meta_file (128 * n) src)
        where
          why : {r : ℕ} → PutRefused s.arena meta_file (128 * n) (length (record_bytes (mended a n))) r → Short a c r
          why (laws.missing y) = absurd (true-false S.there y)
          why (laws.far _ y) = absurd (omega (arith, len, M.rule3.few))
          why (laws.full _ _ y) =
              let x : free_count s.arena < lacking s.arena meta_file (128 * n) 112 = subst (λ (m : ℕ). free_count s.arena < lacking s.arena meta_file (128 * n) m) len y in
              (refl, omega (arith, x, same-lack, S.free, want-more a n true e, want-grows a (suc n) (ids_in a) below))

      module _ (d : List ℕ) (P : Put s.arena meta_file (128 * n) (record_bytes (mended a n)) d) where
        elsewhere : (id : ℕ) → id ≢ n → stored_bytes d id ≡ stored_bytes s.arena id
        unfolding stored_bytes
        elsewhere id x =
            tab-cong (byte_at d meta_file) (byte_at s.arena meta_file) (128 * id) (128 * id) 112
            (λ i l. P.outside (128 * id + i) (λ g.
            ⊎_elim (λ (y : id < n). omega (arith, len))
            (λ (y : n ≤ id). ⊎_elim (λ (w : n < id). omega (arith, len)) (λ (w : id ≤ n). absurd (x (omega arith))) (lt-or-le n id))
            (lt-or-le id n)))

        own : stored_bytes d n ≡ record_bytes (mended a n)
        unfolding stored_bytes
        own = put-run s.arena d meta_file (128 * n) 112 src len P

        stored : Stored a c o (suc n) (record { arena = d; table = s.table; meta = s.meta })
        stored = record {
          meta = S.meta;
          size = P.size ∙ S.size;
          bytes = λ B. P.bytes (S.bytes B) (src-bytes a n node B);
          keeps = λ B. P.keeps (S.bytes B) (src-bytes a n node B) (S.keeps B);
          free =
              let x : free_count d + lacking s.arena meta_file (128 * n) 112 ≡ free_count s.arena =
              subst (λ (m : ℕ). free_count d + lacking s.arena meta_file (128 * n) m ≡ free_count s.arena) len P.free in
              omega (arith, x, same-lack, S.free, want-more a n true e);
          there = P.exists;
          long = P.long ∙ (let x = S.long in omega (arith, x, len, M.rule3.length));
          here = λ q y. put-here s.arena meta_file (128 * n) src d P q (S.here q y);
          taken = λ q y z. ⊎_elim
              (λ (w : present s.arena meta_file q ≡ true). earlier q (S.taken q y w))
              (λ (w : touches (128 * n) (length (record_bytes (mended a n))) q ≡ true). (n, omega arith, subst (λ (m : ℕ). touches (128 * n) m q ≡ true) len w))
              (or_cases (present s.arena meta_file q) (touches (128 * n) (length src) q) (sym (P.block q) ∙ z));
          new = below_suc (λ id. stays a id ≡ true → stored_bytes d id ≡ record_bytes (mended a id)) n
              (λ id l y. elsewhere id (λ q. omega arith) ∙ S.new id l y) (λ y. own);
          old = λ id l. elsewhere id (λ q. omega arith) ∙ S.old id (omega arith);
          files = λ f. kept_then c s.arena d (file 1 f) (S.files f) (P.others (file 1 f) (node-other f));
        }

      goes : Ok (Stored a c o (suc n)) (Short a c) (store_one a s n)
      unfolding store_one
      goes = ok-bind puts λ d P. went (stored d P)

    turn : (b : Bool) → changed a n ≡ b → Ok (Stored a c o (suc n)) (Short a c) (pick b (store_one a s n) (done s))
    turn true e = goes e
    turn false e = went (skips e)

  pub store-law : (s : Fs) → Freed a (ids_in a) s → (n : ℕ) → n ≤ ids_in a → Ok (Stored a s.arena s.meta n) (Short a s.arena) (store_to a s n)
  unfolding store_to
  store-law s F zero l = went (begins s F)
  store-law s F (suc n) l = ok-bind (store-law s F n (omega arith)) λ d S. turn s.arena s.meta n (omega arith) d S (changed a n) refl
