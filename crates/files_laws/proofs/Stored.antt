-- Two stores that are one: into the same block, and of a head's length before or after another block.
use mathlib.Core.Path.{◌≡◌, refl, sym, ap, ◌∙◌, subst}
use mathlib.Core.Bool.{Bool, true, false}
use mathlib.Core.List.{List, ◌++◌}
use mathlib.Core.Logic.{⊎_elim, ◌≢◌}
use Prim.Native.Nat.{ℕ, ◌+◌, ◌*◌, ◌-◌, ◌/◌, ◌%◌, ◌≤◌, ◌<◌}
use native.Mathlib.Decide.{ℕ_discrete}
use native.Mathlib.Omega.{arith}
use lib.ListN.{length, get_or}
use lib.Dec.{eqb}
use lib.Seq.{ext_get_or}
use borrow.Author.Tests.{eq-eqb, ne_eqb, lt-ltb, le-ltb}
use Rattle.base.specs.Out.{Out, done, refused, bind, Ok}
use Rattle.base.specs.Parts.{paste}
use Rattle.base.specs.Search.{pick}
use Rattle.base.proofs.Bools.{bool_cases}
use Rattle.base.proofs.Lists.{length-paste, get_or-paste-in, get_or-paste-out, paste-paste}
use Rattle.base.proofs.Numbers.{lt-or-le}
use Rattle.base.proofs.Outs.{ok-done, bind_done}
use Rattle.le.specs.Le.{le_put, le_bytes}
use Rattle.le.proofs.Laws.{length-le_bytes}
use Rattle.arena.specs.Blocks.{blk, put_blk, blocks}
use Rattle.arena.specs.Fields.{File, tag_of, seal, fresh, is_data}
use Rattle.arena.specs.Places.{free_of, head_of, data_of}
use Rattle.arena.proofs.Blocks.{length-blk, get_or-blk, length-put_blk, blocks-put_blk, blk-put_blk-same, blk-put_blk-other, get_or-put_blk}
use Rattle.arena.proofs.Fields.{head-is, data_is, data-cong}
use Rattle.arena.proofs.Fresh.{length-fresh, fresh-data}
use Rattle.arena.proofs.Places.{data-first}
use Rattle.arena.proofs.Seals.{length-seal, get_or-seal, seal-cong}
use Rattle.files.specs.Read.{there, length_of, present}
use Rattle.files.specs.Store.{longest, claim, write_blk, set_length, raise}
use Rattle.files_laws.proofs.Claims.{tag_free, wrote-new}
use Rattle.files_laws.proofs.Lengths.{Lengthened, lengthened}
use Rattle.files_laws.proofs.Put.{write-law}
use Rattle.files_laws.proofs.Shapes.{length-head, head-out, length-written, written-24}
use Rattle.files_laws.proofs.Steps.{name-size}
use Rattle.files_laws.proofs.Views.{there-at, there-hit, present-at, present-hit, present-of, present-not, data-at}
use Rattle.files_laws.proofs.Writes.{Wrote, wrote-there}

-- what follows a step matters where the step is done
pub bind-where : {A B : Type 0} {f g : A → Out B} (o : Out A) → ((x : A) → o ≡ done x → f x ≡ g x) → bind o f ≡ bind o g
bind-where (done x) h = h x refl
bind-where (refused n) h = refl

-- ---- blocks of the flat list

-- byte p after block k was replaced
byte_put : (a : List ℕ) (k : ℕ) (b : List ℕ) → k < blocks a → length b ≡ 512 → (p : ℕ) → get_or (put_blk a k b) p 0 ≡ pick (eqb (p / 512) k) (get_or b (p % 512) 0) (get_or a p 0)
byte_put a k b l s p = elim (ℕ_discrete (p / 512) k) [
  | yes e ↦
      let q : p ≡ 512 * k + p % 512 = omega arith in
      rw (eq-eqb (p / 512) k e)
      (ap (λ (x : ℕ). get_or (put_blk a k b) x 0) q ∙ sym (get_or-blk (put_blk a k b) k (p % 512) (omega arith)) ∙ ap (λ (x : List ℕ). get_or x (p % 512) 0) (blk-put_blk-same a k b l s))
  | no n ↦ rw (ne_eqb (p / 512) k n) (get_or-put_blk a k b l s p (λ g. omega arith))
]

-- the second store into a block is what stays
put-over : (a : List ℕ) (k : ℕ) (b c : List ℕ) → k < blocks a → length b ≡ 512 → length c ≡ 512 → put_blk (put_blk a k b) k c ≡ put_blk a k c
put-over a k b c l s t =
    let m : k < blocks (put_blk a k b) = omega (arith, blocks-put_blk a k b l s) in
    ext_get_or 0 _ _ (length-put_blk (put_blk a k b) k c m t ∙ length-put_blk a k b l s ∙ sym (length-put_blk a k c l t))
    (λ p _. byte_put (put_blk a k b) k c m t p ∙ elim (ℕ_discrete (p / 512) k) [
      | yes e ↦ rw (eq-eqb (p / 512) k e) (sym (byte_put a k c l t p ∙ rw (eq-eqb (p / 512) k e)))
      | no n ↦ rw (ne_eqb (p / 512) k n) (byte_put a k b l s p ∙ rw (ne_eqb (p / 512) k n) (sym (byte_put a k c l t p ∙ rw (ne_eqb (p / 512) k n))))
    ])

-- two blocks, in either order
put-swap : (a : List ℕ) (j k : ℕ) (b c : List ℕ) → j ≢ k → j < blocks a → k < blocks a → length b ≡ 512 → length c ≡ 512 → put_blk (put_blk a j b) k c ≡ put_blk (put_blk a k c) j b
put-swap a j k b c ne l m s t =
    let m' : k < blocks (put_blk a j b) = omega (arith, blocks-put_blk a j b l s) in
    let l' : j < blocks (put_blk a k c) = omega (arith, blocks-put_blk a k c m t) in
    ext_get_or 0 _ _ (length-put_blk (put_blk a j b) k c m' t ∙ length-put_blk a j b l s ∙ sym (length-put_blk (put_blk a k c) j b l' s ∙ length-put_blk a k c m t))
    (λ p _.
    byte_put (put_blk a j b) k c m' t p
    ∙ ap (pick (eqb (p / 512) k) (get_or c (p % 512) 0)) (byte_put a j b l s p)
    ∙ apart p
    ∙ sym (ap (pick (eqb (p / 512) j) (get_or b (p % 512) 0)) (byte_put a k c m t p))
    ∙ sym (byte_put (put_blk a k c) j b l' s p))
  where
    apart : (p : ℕ) → pick (eqb (p / 512) k) (get_or c (p % 512) 0) (pick (eqb (p / 512) j) (get_or b (p % 512) 0) (get_or a p 0))
        ≡ pick (eqb (p / 512) j) (get_or b (p % 512) 0) (pick (eqb (p / 512) k) (get_or c (p % 512) 0) (get_or a p 0))
    apart p = elim (ℕ_discrete (p / 512) k) [
      | yes e ↦ rw (eq-eqb (p / 512) k e, ne_eqb (p / 512) j (λ (x : p / 512 ≡ j). ne (sym x ∙ e)))
      | no n ↦ rw (ne_eqb (p / 512) k n)
    ]

-- ---- one block, stored twice

-- bytes laid over a block, which is then sealed: of what was there, neither the bytes under them nor the check is looked at
over-like : (b c : List ℕ) (i : ℕ) (y : List ℕ) → length b ≡ 512 → length c ≡ 512 → i + length y ≤ 508 → ((j : ℕ) → j < 508 → (i ≤ j → i + length y ≤ j) → get_or b j 0 ≡ get_or c j 0)
    → seal (paste b i y) ≡ seal (paste c i y)
over-like b c i y s t l same =
    seal-cong (paste b i y) (paste c i y) (length-paste b i y (omega arith) ∙ s) (length-paste c i y (omega arith) ∙ t) (λ j h. ⊎_elim
    (λ (low : j < i). outside j (λ g. absurd (omega arith)) h)
    (λ (g : i ≤ j). ⊎_elim
    (λ inside. let q : i + (j - i) ≡ j = omega arith in
    ap (λ (x : ℕ). get_or (paste b i y) x 0) (sym q)
    ∙ get_or-paste-in b i y (omega arith) (j - i) (omega arith)
    ∙ sym (get_or-paste-in c i y (omega arith) (j - i) (omega arith))
    ∙ ap (λ (x : ℕ). get_or (paste c i y) x 0) q)
    (λ past. outside j (λ _. past) h)
    (lt-or-le j (i + length y)))
    (lt-or-le j i))
  where
    outside : (j : ℕ) → (i ≤ j → i + length y ≤ j) → j < 508 → get_or (paste b i y) j 0 ≡ get_or (paste c i y) j 0
    outside j o h = get_or-paste-out b i y (omega arith) j o ∙ same j h o ∙ sym (get_or-paste-out c i y (omega arith) j o)

-- x, and then y after it
over-block : (b : List ℕ) (off : ℕ) (x y : List ℕ) → length b ≡ 512 → off + length x + length y ≤ 480
    → seal (paste (seal (paste b (24 + off) x)) (24 + (off + length x)) y) ≡ seal (paste b (24 + off) (x ++ y))
over-block b off x y s fits =
    let e : 24 + (off + length x) ≡ 24 + off + length x = omega arith in
    let n : length (paste b (24 + off) x) ≡ 512 = length-paste b (24 + off) x (omega arith) ∙ s in
    ap (λ (i : ℕ). seal (paste (seal (paste b (24 + off) x)) i y)) e
    ∙ over-like (seal (paste b (24 + off) x)) (paste b (24 + off) x) (24 + off + length x) y (length-seal (paste b (24 + off) x) n) n (omega arith)
    (λ j l _. get_or-seal (paste b (24 + off) x) n j l)
    ∙ ap seal (paste-paste b (24 + off) x y (omega arith))

-- a length, and then another
over-length : (b : List ℕ) (len more : ℕ) → length b ≡ 512 → seal (le_put (seal (le_put b 20 4 len)) 20 4 more) ≡ seal (le_put b 20 4 more)
unfolding le_put
over-length b len more s =
    let n : length (le_bytes 4 more) ≡ 4 = length-le_bytes 4 more in
    let m : length (seal (le_put b 20 4 len)) ≡ 512 = length-head b len s in
    over-like (seal (le_put b 20 4 len)) b 20 (le_bytes 4 more) m s (omega arith) (λ j l o. head-out b len s j l (λ g. omega (arith, o g)))

-- ---- a file's block, stored twice

-- block q, just stored at k, is found there
write_again : (a : List ℕ) (f : File) (q k : ℕ) (b : List ℕ) (off : ℕ) (y : List ℕ) → k < blocks a → length b ≡ 512 → is_data f q b ≡ true → ((j : ℕ) → j < k → is_data f q (blk a j) ≡ false)
    → off + length y ≤ 480 → write_blk (put_blk a k b) f q off y ≡ done (put_blk a k (seal (paste b (24 + off) y)))
unfolding write_blk
write_again a f q k b off y l s hit before fits =
    let m : k < blocks (put_blk a k b) = omega (arith, blocks-put_blk a k b l s) in
    let h : is_data f q (blk (put_blk a k b) k) ≡ true = ap (is_data f q) (blk-put_blk-same a k b l s) ∙ hit in
    let at : data_of (put_blk a k b) f q ≡ k = data-at (put_blk a k b) f q k m (λ j x. ap (is_data f q) (blk-put_blk-other a k b l s j (omega arith)) ∙ before j x) h in
    rw (present-of (put_blk a k b) f q k m h)
    (ap done
    (ap (λ (i : ℕ). put_blk (put_blk a k b) i (seal (paste (blk (put_blk a k b) i) (24 + off) y))) at
    ∙ ap (λ (c : List ℕ). put_blk (put_blk a k b) k (seal (paste c (24 + off) y))) (blk-put_blk-same a k b l s)
    ∙ put-over a k b (seal (paste b (24 + off) y)) l s (length-written b off y s fits)))

module _ (a : List ℕ) (f : File) (q off : ℕ) (was : there a f ≡ true) (small : q < 4294967296) where
  -- x, and then y after it
  pub write-write : (x y : List ℕ) → off + length x + length y ≤ 480 → bind (write_blk a f q off x) (λ d. write_blk d f q (off + length x) y) ≡ write_blk a f q off (x ++ y)
  unfolding write_blk claim
  write-write x y fits = ⊎_elim old new (bool_cases (present a f q))
    where
      next : (k : ℕ) (b : List ℕ) → k < blocks a → length b ≡ 512 → is_data f q b ≡ true → ((j : ℕ) → j < k → is_data f q (blk a j) ≡ false)
          → write_blk (put_blk a k (seal (paste b (24 + off) x))) f q (off + length x) y ≡ done (put_blk a k (seal (paste b (24 + off) (x ++ y))))
      next k b l s hit before =
          let n : length (seal (paste b (24 + off) x)) ≡ 512 = length-written b off x s (omega arith) in
          write_again a f q k (seal (paste b (24 + off) x)) (off + length x) y l n
          (data-cong (seal (paste b (24 + off) x)) b n s (written-24 b off x s (omega arith)) f q ∙ hit) before (omega arith)
          ∙ ap (λ (c : List ℕ). done (put_blk a k c)) (over-block b off x y s fits)

      old : present a f q ≡ true → bind (write_blk a f q off x) (λ d. write_blk d f q (off + length x) y) ≡ write_blk a f q off (x ++ y)
      old e =
          let l : data_of a f q < blocks a = present-at a f q e in
          rw e (next (data_of a f q) (blk a (data_of a f q)) l (length-blk a (data_of a f q) l) (present-hit a f q e) (λ j m. (data-first a f q).before j m))

      new : present a f q ≡ false → bind (write_blk a f q off x) (λ d. write_blk d f q (off + length x) y) ≡ write_blk a f q off (x ++ y)
      new e =
          rw e (⊎_elim
          (λ (l : free_of a < blocks a).
          rw (lt-ltb (free_of a) (blocks a) l)
          (next (free_of a) (fresh 2 f q) l (length-fresh 2 f q (name-size a f was)) (fresh-data f q (name-size a f was) small) (λ j m. present-not a f q e j (omega arith))))
          (λ g. rw (le-ltb (free_of a) (blocks a) g))
          (lt-or-le (free_of a) (blocks a)))

-- ---- the length, before and after

module _ (a : List ℕ) (f : File) (was : there a f ≡ true) where
  in-a : head_of a f < blocks a
  in-a = there-at a f was

  size-h : length (blk a (head_of a f)) ≡ 512
  size-h = length-blk a (head_of a f) in-a

  -- set twice
  set-set : (len more : ℕ) → len ≤ longest → set_length (set_length a f len) f more ≡ set_length a f more
  unfolding set_length
  set-set len more range =
      let n : length (seal (le_put (blk a (head_of a f)) 20 4 len)) ≡ 512 = length-head (blk a (head_of a f)) len size-h in
      ap (λ (k : ℕ). put_blk (set_length a f len) k (seal (le_put (blk (set_length a f len) k) 20 4 more))) (lengthened a f len was range).head
      ∙ ap (λ (c : List ℕ). put_blk (set_length a f len) (head_of a f) (seal (le_put c 20 4 more))) (blk-put_blk-same a (head_of a f) (seal (le_put (blk a (head_of a f)) 20 4 len)) in-a n)
      ∙ put-over a (head_of a f) _ _ in-a n (length-head _ more n)
      ∙ ap (put_blk a (head_of a f)) (over-length (blk a (head_of a f)) len more size-h)

  -- raised twice
  pub raise-raise : (len more : ℕ) → len < more → more ≤ longest → raise (raise a f len) f more ≡ raise a f more
  unfolding raise
  raise-raise len more l range = ⊎_elim
      (λ (g : length_of a f < len).
      rw (lt-ltb (length_of a f) len g, lt-ltb (length_of a f) more (omega arith), lt-ltb (length_of (set_length a f len) f) more (omega (arith, (lengthened a f len was (omega arith)).long)))
      (set-set len more (omega arith)))
      (λ g. rw (le-ltb (length_of a f) len g))
      (lt-or-le (length_of a f) len)

  -- set before or after another block is stored
  set-blk : (len k : ℕ) → head_of a f ≢ k → blk (set_length a f len) k ≡ blk a k
  unfolding set_length
  set-blk len k ne = blk-put_blk-other a (head_of a f) (seal (le_put (blk a (head_of a f)) 20 4 len)) in-a (length-head (blk a (head_of a f)) len size-h) k (λ e. ne (sym e))

  set-put : (len k : ℕ) (b : List ℕ) → head_of a f ≢ k → k < blocks a → length b ≡ 512 → head_of (put_blk a k b) f ≡ head_of a f → put_blk (set_length a f len) k b ≡ set_length (put_blk a k b) f len
  unfolding set_length
  set-put len k b ne l s stays =
      put-swap a (head_of a f) k (seal (le_put (blk a (head_of a f)) 20 4 len)) b ne in-a l (length-head (blk a (head_of a f)) len size-h) s
      ∙ ap (λ (c : List ℕ). put_blk (put_blk a k b) (head_of a f) (seal (le_put c 20 4 len))) (sym (blk-put_blk-other a k b l s (head_of a f) ne))
      ∙ ap (λ (j : ℕ). put_blk (put_blk a k b) j (seal (le_put (blk (put_blk a k b) j) 20 4 len))) (sym stays)

  module _ (q off : ℕ) (src : List ℕ) (fits : off + length src ≤ 480) (small : q < 4294967296) where
    wrote : (d : List ℕ) → write_blk a f q off src ≡ done d → Wrote a d f q off src
    wrote d e = ok-done (subst (Ok _ _) e (write-law a f q off src was fits small))

    set-write : (len : ℕ) → len ≤ longest → write_blk (set_length a f len) f q off src ≡ bind (write_blk a f q off src) (λ d. done (set_length d f len))
    unfolding write_blk claim
    set-write len range = ⊎_elim old new (bool_cases (present a f q))
      where
        L : Lengthened a (set_length a f len) f len
        L = lengthened a f len was range

        tag : tag_of (blk a (head_of a f)) ≡ 1
        tag = (head-is f (blk a (head_of a f)) (there-hit a f was)).tag

        old : present a f q ≡ true → write_blk (set_length a f len) f q off src ≡ bind (write_blk a f q off src) (λ d. done (set_length d f len))
        old e =
            let l : data_of a f q < blocks a = present-at a f q e in
            let t : tag_of (blk a (data_of a f q)) ≡ 2 = (data_is f q (blk a (data_of a f q)) (present-hit a f q e)).tag in
            let ne : head_of a f ≢ data_of a f q = λ x. absurd (omega (arith, tag, ap (λ (j : ℕ). tag_of (blk a j)) x)) in
            rw (L.block q ∙ e, e, L.place q)
            (ap done
            (ap (λ (b : List ℕ). put_blk (set_length a f len) (data_of a f q) (seal (paste b (24 + off) src))) (set-blk len (data_of a f q) ne)
            ∙ set-put len (data_of a f q) (seal (paste (blk a (data_of a f q)) (24 + off) src)) ne l
            (length-written (blk a (data_of a f q)) off src (length-blk a (data_of a f q) l) fits) (wrote-there a f q off src e fits).head))

        new : present a f q ≡ false → write_blk (set_length a f len) f q off src ≡ bind (write_blk a f q off src) (λ d. done (set_length d f len))
        new e =
            rw (L.block q ∙ e, e, L.used, L.size) (⊎_elim
            (λ (l : free_of a < blocks a).
            let ne : head_of a f ≢ free_of a = λ x. absurd (omega (arith, tag, tag_free a l, ap (λ (j : ℕ). tag_of (blk a j)) x)) in
            rw (lt-ltb (free_of a) (blocks a) l)
            (ap done (set-put len (free_of a) (seal (paste (fresh 2 f q) (24 + off) src)) ne l
            (length-written (fresh 2 f q) off src (length-fresh 2 f q (name-size a f was)) fits) (wrote-new a f q off src was e l fits small).head)))
            (λ g. rw (le-ltb (free_of a) (blocks a) g))
            (lt-or-le (free_of a) (blocks a)))

    -- the length raised before or after
    pub raise-write : (len : ℕ) → len ≤ longest → write_blk (raise a f len) f q off src ≡ bind (write_blk a f q off src) (λ d. done (raise d f len))
    unfolding raise
    raise-write len range = ⊎_elim
        (λ (l : length_of a f < len).
        rw (lt-ltb (length_of a f) len l)
        (set-write len range
        ∙ bind-where (write_blk a f q off src) (λ d e. ap done (sym (ap (λ (t : Bool). pick t (set_length d f len) d) (lt-ltb (length_of d f) len (omega (arith, (wrote d e).long))))))))
        (λ g.
        rw (le-ltb (length_of a f) len g)
        (sym (bind_done (write_blk a f q off src))
        ∙ bind-where (write_blk a f q off src) (λ d e. ap done (sym (ap (λ (t : Bool). pick t (set_length d f len) d) (le-ltb (length_of d f) len (omega (arith, (wrote d e).long))))))))
        (lt-or-le (length_of a f) len)
