-- What put does: the length is raised, and then each block that is touched is written, in rising order. Every step keeps the blocks tidy.
use mathlib.Core.Path.{◌≡◌, refl, sym, ap, ◌∙◌, subst}
use mathlib.Core.Bool.{Bool, true, false, not, ◌||◌}
use mathlib.Core.List.{List}
use mathlib.Core.Logic.{⊎_elim, ◌≢◌}
use Prim.Native.Nat.{ℕ, zero, suc, ◌+◌, ◌*◌, ◌-◌, ◌/◌, ◌%◌, ◌≤◌, ◌<◌, max}
use native.Mathlib.Nat.{le_refl}
use native.Mathlib.Numerals.{add-one}
use native.Mathlib.Decide.{ℕ_discrete}
use native.Mathlib.Omega.{arith}
use lib.ListN.{length, get_or}
use lib.Dec.{ltb, leb}
use borrow.Author.Tests.{lt-ltb, le-ltb, ltb-true, ltb-false, le-leb, lt-leb, leb-true, leb-false}
use Rattle.base.proofs.Sames.{or_no}
use Rattle.base.proofs.Finds.{count_to-suc, count_to-first}
use Rattle.base.proofs.Parts.{part-all}
use Rattle.base.specs.Count.{sum_to, count_to, bit}
use Rattle.base.specs.Out.{Out, done, refused, Ok, went, said}
use Rattle.base.specs.Parts.{part}
use Rattle.base.proofs.Bools.{bool_cases, true-false, or_cases, or-second}
use Rattle.base.proofs.Lists.{length_part, get_d_part}
use Rattle.base.proofs.Numbers.{lt-or-le}
use Rattle.base.proofs.Outs.{ok-bind, ok-weaken, ok-done, ok-does, ok-test}
use Rattle.le.specs.Le.{Bytes}
use Rattle.arena.specs.Blocks.{blocks}
use Rattle.arena.specs.Fields.{File}
use Rattle.arena.specs.Places.{free_of, head_of, data_of, free_count}
use Rattle.sound.specs.Sound.{sound}
use Rattle.files.specs.Read.{there, length_of, present, byte_at}
use Rattle.files.specs.Store.{longest, claim, write_blk, raise, lo, hi, put_block, put_to, touched, put_file}
use Rattle.files_laws.specs.Laws.{Kept, touches, lacking, Put, PutRefused, missing, far, full}
use Rattle.files_laws.proofs.Views.{byte_in, byte-in, kept_refl, kept_next}
use Rattle.files_laws.proofs.Parts.{Tidy, sound-tidy, sound-inside, sound-after}
use Rattle.files_laws.proofs.Lengths.{Lengthened, lengthened}
use Rattle.files_laws.proofs.Writes.{Wrote, wrote-there}
use Rattle.files_laws.proofs.Claims.{none_free, wrote-new}

-- ---- one block

pub write-law : (d : List ℕ) (f : File) (q off : ℕ) (src : List ℕ) → there d f ≡ true → off + length src ≤ 480 → q < 4294967296
    → Ok (λ d'. Wrote d d' f q off src) (λ r. (r ≡ 17) × (present d f q ≡ false) × (free_count d ≡ 0)) (write_blk d f q off src)
unfolding write_blk claim
write-law d f q off src was fits small =
    ⊎_elim
    (λ e. rw e (went (wrote-there d f q off src e fits)))
    (λ e. rw e (ok-test (ltb (free_of d) (blocks d)) 17
    (λ n. (refl, refl, none_free d (ltb-false (free_of d) (blocks d) n)))
    (λ y. went (wrote-new d f q off src was e (ltb-true (free_of d) (blocks d) y) fits small))))
    (bool_cases (present d f q))

-- ---- the part of a block that n bytes from pos on cover

-- it goes from l up to h
record Span (pos n q l h : ℕ) : Type 0 where
  from : pos ≤ l
  start : 480 * q ≤ l
  some : l < h
  to : h ≤ pos + n
  end : h ≤ 480 * q + 480
  low : (p : ℕ) → pos ≤ p → 480 * q ≤ p → l ≤ p
  high : (p : ℕ) → p < pos + n → p < 480 * q + 480 → p < h

span_of : (pos n q : ℕ) → 480 * q < pos + n → pos < 480 * q + 480 → 0 < n → Span pos n q (lo pos q) (hi pos n q)
span_of pos n q b e s = record {
  from = omega arith;
  start = omega arith;
  some = omega arith;
  to = omega arith;
  end = omega arith;
  low = λ p x y. omega arith;
  high = λ p x y. omega arith;
}

span : (pos n i : ℕ) → i < touched pos n → Span pos n (pos / 480 + i) (lo pos (pos / 480 + i)) (hi pos n (pos / 480 + i))
unfolding touched
span pos zero i l = absurd (omega arith)
span pos (suc n) i l = span_of pos (suc n) (pos / 480 + i) (omega arith) (omega arith) (omega arith)

-- the touched blocks, counted from the first
pub touched-is : (pos n i : ℕ) → i < touched pos n → touches pos n (pos / 480 + i) ≡ true
touched-is pos n i l = lt-ltb (lo pos (pos / 480 + i)) (hi pos n (pos / 480 + i)) (span pos n i l).some

-- a block that is touched is one of those
touched-of : (pos n q : ℕ) → lo pos q < hi pos n q → (pos / 480 ≤ q) × (q < pos / 480 + touched pos n)
unfolding touched
touched-of pos zero q l = absurd (omega arith)
touched-of pos (suc n) q l =
    let b : 480 * q < pos + suc n = omega arith in
    let e : pos < 480 * q + 480 = omega arith in
    (omega arith, omega arith)

-- and one that is not, is not
touched-not : (pos n q : ℕ) → hi pos n q ≤ lo pos q → pos / 480 ≤ q → pos / 480 + touched pos n ≤ q
touched-not pos n q g l =
    ⊎_elim
    (λ m.
    let e : pos / 480 + (q - pos / 480) ≡ q = omega arith in
    let S : Span pos n q (lo pos q) (hi pos n q) = subst (λ (x : ℕ). Span pos n x (lo pos x) (hi pos n x)) e (span pos n (q - pos / 480) (omega arith)) in
    absurd (omega (arith, S.some)))
    (λ h. h)
    (lt-or-le q (pos / 480 + touched pos n))

-- a byte of the run is in one of them
touched-byte : (pos n p : ℕ) → pos ≤ p → p < pos + n → p / 480 < pos / 480 + touched pos n
unfolding touched
touched-byte pos zero p g l = absurd (omega arith)
touched-byte pos (suc n) p g l = omega arith

-- ---- the first i blocks

-- block j of those that are touched is absent
abbrev pub absent : List ℕ → File → ℕ → ℕ → Bool
absent a f pos j = not (present a f (pos / 480 + j))

-- src is being written from pos on, and the first i blocks are done
pub record Upto (a : List ℕ) (f : File) (pos : ℕ) (src : List ℕ) (i : ℕ) (d : List ℕ) : Type 0 where
  pub size : length d ≡ length a
  pub bytes : Bytes a → Bytes src → Bytes d
  pub tidy : Bytes a → Bytes src → Tidy a → Tidy d
  pub free : free_count d + count_to (absent a f pos) i ≡ free_count a
  pub exists : there d f ≡ true
  pub long : length_of d f ≡ max (length_of a f) (pos + length src)
  pub here : (j : ℕ) → j < i → present d f (pos / 480 + j) ≡ true
  pub rest : (q : ℕ) → (pos / 480 ≤ q → pos / 480 + i ≤ q) → present d f q ≡ present a f q
  pub inside : (p : ℕ) → pos ≤ p → p < pos + length src → p / 480 < pos / 480 + i → byte_at d f p ≡ get_or src (p - pos) 0
  pub outside : (p : ℕ) → (pos ≤ p → pos + length src ≤ p) → byte_at d f p ≡ byte_at a f p
  pub others : (g : File) → f ≢ g → Kept a d g
  -- the head and the other blocks stay in their places, and what lies below the lowest free block stays in use
  pub head : head_of d f ≡ head_of a f
  pub place : (q : ℕ) → (pos / 480 ≤ q → pos / 480 + i ≤ q) → data_of d f q ≡ data_of a f q
  pub used : free_of a ≤ free_of d

module _ (a : List ℕ) (f : File) (pos : ℕ) (src : List ℕ) (was : there a f ≡ true) (range : pos + length src ≤ longest) where
  start : Upto a f pos src 0 (raise a f (pos + length src))
  unfolding raise count_to sum_to
  start =
      ⊎_elim
      (λ l. rw (lt-ltb (length_of a f) (pos + length src) l) (up l (lengthened a f (pos + length src) was range)))
      (λ g. rw (le-ltb (length_of a f) (pos + length src) g) (record {
        size = refl;
        bytes = λ h s. h;
        tidy = λ h s T. T;
        free = omega arith;
        exists = was;
        long = omega arith;
        here = λ j l. absurd (omega arith);
        rest = λ q h. refl;
        inside = λ p x y z. absurd (omega arith);
        outside = λ p h. refl;
        others = λ h n. kept_refl a h;
        head = refl;
        place = λ q h. refl;
        used = omega arith;
      }))
      (lt-or-le (length_of a f) (pos + length src))
    where
      up : {d : List ℕ} → length_of a f < pos + length src → Lengthened a d f (pos + length src) → Upto a f pos src 0 d
      up {d} l L = record {
        size = L.size;
        bytes = λ h s. L.bytes h;
        tidy = λ h s T. L.tidy h T;
        free = omega (arith, L.free);
        exists = L.exists;
        long = L.long ∙ omega arith;
        here = λ j m. absurd (omega arith);
        rest = λ q h. L.block q;
        inside = λ p x y z. absurd (omega arith);
        outside = λ p h. byte-in d f p ∙ L.byte (p / 480) (p % 480) (omega arith) ∙ sym (byte-in a f p);
        others = L.others;
        head = L.head;
        place = λ q h. L.place q;
        used = omega (arith, L.used);
      }

  -- one block more
  module _ (i l h : ℕ) (S : Span pos (length src) (pos / 480 + i) l h) where
    length-s : length (part src (l - pos) (h - pos)) ≡ h - l
    length-s = length_part src (l - pos) (h - pos) (omega (arith, S.from, S.some)) (omega (arith, S.to)) ∙ omega (arith, S.from, S.some)

    get_or-s : (j : ℕ) → j < h - l → get_or (part src (l - pos) (h - pos)) j 0 ≡ get_or src (l - pos + j) 0
    get_or-s j m = get_d_part src (l - pos) (h - pos) j (omega (arith, S.from))

    fits : l - 480 * (pos / 480 + i) + length (part src (l - pos) (h - pos)) ≤ 480
    fits = omega (arith, length-s, S.start, S.some, S.end)

    small : pos / 480 + i < 4294967296
    small = omega (arith, S.start, S.some, S.to)

    more : (d d' : List ℕ) → Upto a f pos src i d → Wrote d d' f (pos / 480 + i) (l - 480 * (pos / 480 + i)) (part src (l - pos) (h - pos)) → Upto a f pos src (suc i) d'
    more d d' U W = record {
      size = W.size ∙ U.size;
      bytes = λ x s. W.bytes (U.bytes x s) (bytes-s s);
      tidy = λ x s T. W.tidy (U.bytes x s) (bytes-s s) (U.tidy x s T);
      free = omega (arith, W.free, U.free, count_to-suc (absent a f pos) i, ap (λ (t : Bool). bit (not t)) (U.rest (pos / 480 + i) (λ _. omega arith)));
      exists = W.exists ∙ U.exists;
      long = W.long ∙ U.long;
      here = λ j m. elim (ℕ_discrete j i) [
        | yes e ↦ ap (λ (x : ℕ). present d' f (pos / 480 + x)) e ∙ W.here
        | no e ↦ W.rest (pos / 480 + j) (omega arith) ∙ U.here j (omega arith)
      ];
      rest = λ q x. W.rest q (λ e. absurd (omega (arith, x (omega arith)))) ∙ U.rest q (λ g. omega (arith, x g));
      inside = λ p g m k. elim (ℕ_discrete (p / 480) (pos / 480 + i)) [
        | yes e ↦ byte-in d' f p ∙ subst (λ (x : ℕ). byte_in d' f x (p % 480) ≡ get_or src (p - pos) 0) (sym e) (into p g m e)
        | no e ↦ byte-in d' f p ∙ W.apart (p / 480) (p % 480) e (omega arith) ∙ sym (byte-in d f p) ∙ U.inside p g m (omega arith)
      ];
      outside = λ p x. elim (ℕ_discrete (p / 480) (pos / 480 + i)) [
        | yes e ↦ byte-in d' f p ∙ beside p x e ∙ sym (byte-in d f p) ∙ U.outside p x
        | no e ↦ byte-in d' f p ∙ W.apart (p / 480) (p % 480) e (omega arith) ∙ sym (byte-in d f p) ∙ U.outside p x
      ];
      others = λ g n. kept_next (U.others g n) (W.others g n);
      head = W.head ∙ U.head;
      place = λ q x. W.place q (λ e. absurd (omega (arith, x (omega arith)))) ∙ U.place q (λ g. omega (arith, x g));
      used = omega (arith, W.used, U.used);
    }
      where
        bytes-s : Bytes src → Bytes (part src (l - pos) (h - pos))
        bytes-s s = part-all (λ x. x < 256) src (omega arith) s (l - pos) (h - pos)

        into : (p : ℕ) → pos ≤ p → p < pos + length src → p / 480 ≡ pos / 480 + i → byte_in d' f (pos / 480 + i) (p % 480) ≡ get_or src (p - pos) 0
        into p g m e =
            let x : l ≤ p = S.low p g (omega arith) in
            let y : p < h = S.high p m (omega arith) in
            let z : l - pos + (p % 480 - (l - 480 * (pos / 480 + i))) ≡ p - pos = omega (arith, S.from, S.start) in
            W.inside (p % 480) (omega (arith, S.start)) (omega (arith, length-s, S.start, S.some))
            ∙ get_or-s (p % 480 - (l - 480 * (pos / 480 + i))) (omega (arith, S.start))
            ∙ ap (λ (n : ℕ). get_or src n 0) z

        beside : (p : ℕ) → (pos ≤ p → pos + length src ≤ p) → p / 480 ≡ pos / 480 + i → byte_in d' f (p / 480) (p % 480) ≡ byte_in d f (p / 480) (p % 480)
        beside p x e =
            subst (λ (n : ℕ). byte_in d' f n (p % 480) ≡ byte_in d f n (p % 480)) (sym e)
            (W.outside (p % 480) (omega arith)
            (λ g. let y : l ≤ p = omega (arith, S.start) in let z : pos + length src ≤ p = x (omega (arith, S.from)) in omega (arith, length-s, S.start, S.some, S.to)))

  R : ℕ → Type 0
  R r = (r ≡ 17) × (free_count a < count_to (absent a f pos) (touched pos (length src)))

  to-law : (i : ℕ) → i ≤ touched pos (length src) → Ok (Upto a f pos src i) R (put_to a f pos src i)
  unfolding put_to put_block R
  to-law zero l = went start
  to-law (suc i) l =
      let S : Span pos (length src) (pos / 480 + i) (lo pos (pos / 480 + i)) (hi pos (length src) (pos / 480 + i)) = span pos (length src) i (omega arith) in
      ok-bind (to-law i (omega arith)) (λ d U.
      ok-weaken
      (λ d' W. more i (lo pos (pos / 480 + i)) (hi pos (length src) (pos / 480 + i)) S d d' U W)
      (λ r h. (h.0, short i d l U h.1 h.2))
      (write-law d f (pos / 480 + i) (lo pos (pos / 480 + i) - 480 * (pos / 480 + i)) (part src (lo pos (pos / 480 + i) - pos) (hi pos (length src) (pos / 480 + i) - pos)) U.exists
      (fits i (lo pos (pos / 480 + i)) (hi pos (length src) (pos / 480 + i)) S) (small i (lo pos (pos / 480 + i)) (hi pos (length src) (pos / 480 + i)) S)))
    where
      short : (j : ℕ) (d : List ℕ) → suc j ≤ touched pos (length src) → Upto a f pos src j d → present d f (pos / 480 + j) ≡ false → free_count d ≡ 0 → free_count a < count_to (absent a f pos) (touched pos (length src))
      short j d m U e z =
          omega (
            arith,
            U.free,
            count_to-suc (absent a f pos) j,
            ap (λ (t : Bool). bit (not t)) (sym (U.rest (pos / 480 + j) (λ _. omega arith)) ∙ e),
            count_to-first (absent a f pos) (suc j) (touched pos (length src)) m,
          )

  -- all of them
  whole : (d : List ℕ) → Upto a f pos src (touched pos (length src)) d → Put a f pos src d
  unfolding lacking
  whole d U = record {
    was = was;
    range = range;
    room = omega (arith, U.free);
    size = U.size;
    bytes = U.bytes;
    keeps = λ h s ok.
        sound-after a d f ok (U.tidy h s (sound-tidy a ok))
        (record {
          under = λ q e. (U.exists, subst (λ (n : ℕ). 480 * q < n) (sym U.long) (below ok q (sym (block q) ∙ e)));
          past = λ p l. U.outside p (λ _. omega (arith, U.long)) ∙ (sound-inside a ok f).past p (omega (arith, U.long));
        })
        U.others;
    free = U.free;
    exists = U.exists;
    long = U.long;
    block = block;
    inside = λ p g l. U.inside p g l (touched-byte pos (length src) p g l);
    outside = U.outside;
    others = U.others;
  }
    where
      block : (q : ℕ) → present d f q ≡ (present a f q || touches pos (length src) q)
      block q =
          ⊎_elim
          (λ l.
          let t = touched-of pos (length src) q l in
          let e : pos / 480 + (q - pos / 480) ≡ q = omega arith in
          subst (λ (x : ℕ). present d f x ≡ true) e (U.here (q - pos / 480) (omega arith)) ∙ sym (or-second (present a f q) (lt-ltb (lo pos q) (hi pos (length src) q) l)))
          (λ g.
          U.rest q (touched-not pos (length src) q g)
          ∙ sym (ap (λ (t : Bool). present a f q || t) (le-ltb (lo pos q) (hi pos (length src) q) g) ∙ or_no (present a f q)))
          (lt-or-le (lo pos q) (hi pos (length src) q))

      below : sound a ≡ true → (q : ℕ) → (present a f q || touches pos (length src) q) ≡ true → 480 * q < max (length_of a f) (pos + length src)
      below ok q e =
          ⊎_elim
          (λ y. let u = (sound-inside a ok f).under q y in omega arith)
          (λ y. let l : lo pos q < hi pos (length src) q = ltb-true (lo pos q) (hi pos (length src) q) y in omega arith)
          (or_cases (present a f q) (touches pos (length src) q) e)

  -- ---- for code that writes block by block

  -- what is left after the first i blocks
  pub put-upto : (i : ℕ) (d : List ℕ) → i ≤ touched pos (length src) → put_to a f pos src i ≡ done d → Upto a f pos src i d
  put-upto i d l e = ok-done (subst (Ok (Upto a f pos src i) R) e (to-law i l))

  -- one block more
  pub put_next : (i : ℕ) (d d' : List ℕ) → i < touched pos (length src) → put_to a f pos src i ≡ done d → put_block d f pos src (pos / 480 + i) ≡ done d'
      → Wrote d d' f (pos / 480 + i) (lo pos (pos / 480 + i) - 480 * (pos / 480 + i)) (part src (lo pos (pos / 480 + i) - pos) (hi pos (length src) (pos / 480 + i) - pos))
  unfolding put_block
  put_next i d d' l e e' =
      let S = span pos (length src) i l in
      let b = lo pos (pos / 480 + i) in
      let t = hi pos (length src) (pos / 480 + i) in
      ok-done (subst (Ok _ _) e' (write-law d f (pos / 480 + i) _ _ (put-upto i d (omega arith) e).exists (fits i b t S) (small i b t S)))

  -- where the free blocks are enough for all, one that is absent finds a free one
  pub put-finds : (i : ℕ) (d : List ℕ) → lacking a f pos (length src) ≤ free_count a → i < touched pos (length src) → Upto a f pos src i d → present d f (pos / 480 + i) ≡ false
      → free_of d < blocks d
  unfolding lacking
  put-finds i d room l U e =
      ⊎_elim
      (λ h. h)
      (λ g.
      absurd (omega (
        arith,
        none_free d g,
        U.free,
        count_to-suc (absent a f pos) i,
        ap (λ (t : Bool). bit (not t)) (sym (U.rest (pos / 480 + i) (λ _. omega arith)) ∙ e),
        count_to-first (absent a f pos) (suc i) (touched pos (length src)) (omega arith),
      )))
      (lt-or-le (free_of d) (blocks d))

  pub put_all : put_file a f pos src ≡ put_to a f pos src (touched pos (length src))
  unfolding put_file
  put_all = rw (was, le-leb (pos + length src) longest range)

-- block by block: the length first, then each of the touched blocks
pub put-starts : (a : List ℕ) (f : File) (pos : ℕ) (src : List ℕ) → put_to a f pos src 0 ≡ done (raise a f (pos + length src))
unfolding put_to
put-starts a f pos src = refl

pub put-more : (a : List ℕ) (f : File) (pos : ℕ) (src : List ℕ) (i : ℕ) (d : List ℕ) → put_to a f pos src i ≡ done d → put_to a f pos src (i + 1) ≡ put_block d f pos src (pos / 480 + i)
unfolding put_to
put-more a f pos src i d e = rw (add-one, e)

module _ (a : List ℕ) (f : File) (pos : ℕ) (src : List ℕ) where
  -- put does what it says, or it is refused for one of three reasons
  pub put-law : Ok (Put a f pos src) (PutRefused a f pos (length src)) (put_file a f pos src)
  unfolding put_file R lacking
  put-law =
      ok-test (there a f) 19 (λ n. missing n)
      (λ y. ok-test (leb (pos + length src) longest) 17 (λ n. far y (leb-false (pos + length src) longest n))
      (λ t. let l : pos + length src ≤ longest = leb-true (pos + length src) longest t in
      ok-weaken (λ d U. whole a f pos src y l d U) (λ r h. subst (PutRefused a f pos (length src)) (sym h.0) (full y l h.1))
      (to-law a f pos src y l (touched pos (length src)) (le_refl (touched pos (length src))))))

  -- it can be done where the file is there, the end in range, and enough blocks are free
  pub put-done : there a f ≡ true → pos + length src ≤ longest → lacking a f pos (length src) ≤ free_count a
      → (a' : List ℕ) × (put_file a f pos src ≡ done a') × Put a f pos src a'
  put-done y l room = ok-does put-law (λ n r. go r)
    where
      go : {n : ℕ} → PutRefused a f pos (length src) n → ⊥
      go (missing n) = true-false y n
      go (far _ g) = omega arith
      go (full _ _ g) = omega arith

  -- and is refused where not
  pub put-missing : there a f ≡ false → put_file a f pos src ≡ refused 19
  unfolding put_file
  put-missing n = rw n

  pub put-far : there a f ≡ true → longest < pos + length src → put_file a f pos src ≡ refused 17
  unfolding put_file
  put-far y g = rw (y, lt-leb (pos + length src) longest g)

  pub put_full : there a f ≡ true → free_count a < lacking a f pos (length src) → put_file a f pos src ≡ refused 17
  put_full y g = refuses put-law
    where
      refuses : {o : Out (List ℕ)} → Ok (Put a f pos src) (PutRefused a f pos (length src)) o → o ≡ refused 17
      refuses (went P) = absurd (omega (arith, P.room))
      refuses (said r) = seventeen r
        where
          seventeen : {n : ℕ} → PutRefused a f pos (length src) n → ◌≡◌ {A = Out (List ℕ)} (refused n) (refused 17)
          seventeen (missing n) = absurd (true-false y n)
          seventeen (far _ _) = refl
          seventeen (full _ _ _) = refl

  -- whatever it left, it did that
  pub put_is : (a' : List ℕ) → put_file a f pos src ≡ done a' → Put a f pos src a'
  put_is a' e = ok-done (subst (Ok (Put a f pos src) (PutRefused a f pos (length src))) e put-law)
