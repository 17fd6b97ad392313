-- Many blocks freed at once: all that pass a test.
use mathlib.Core.Path.{◌≡◌, refl, sym, ap, ◌∙◌, subst}
use mathlib.Core.Bool.{Bool, true, false}
use mathlib.Core.List.{List}
use mathlib.Core.Logic.{⊎_elim}
use Prim.Native.Nat.{ℕ, zero, suc, ◌+◌, ◌/◌, ◌≤◌, ◌<◌}
use native.Mathlib.Nat.{le_refl}
use native.Mathlib.Decide.{ℕ_discrete}
use native.Mathlib.Omega.{arith}
use lib.ListN.{length}
use Rattle.base.specs.Count.{sum_to, count_to, bit}
use Rattle.base.specs.Search.{pick}
use Rattle.base.proofs.Bools.{bool_cases, true-false}
use Rattle.base.proofs.Counts.{sum_to-cong, sum_to-add}
use Rattle.le.specs.Le.{Bytes}
use Rattle.arena.specs.Blocks.{blk, put_blk, blocks}
use Rattle.arena.specs.Fields.{File, is_free, is_head, is_data, zeros}
use Rattle.arena.specs.Places.{free_count}
use Rattle.arena.proofs.Blocks.{length-put_blk, blk-put_blk-same, blk-put_blk-other, put_blk-bytes}
use Rattle.arena.proofs.Fields.{free_own}
use Rattle.arena.proofs.Fresh.{length-zeros, get_or-zeros, zeros-bytes}
use Rattle.sound.proofs.Sounds.{BlockSound, zeros-sound}
use Rattle.files.specs.Store.{clear_to, clear_all}
use Rattle.files_laws.specs.Laws.{Kept}
use Rattle.files_laws.proofs.Views.{Alike, alike-own, kept_of}
use Rattle.files_laws.proofs.Parts.{Once, Tidy}
use Rattle.files_laws.proofs.Steps.{Stranger, zeros-stranger, strangers-alike}

module _ (p : List ℕ → Bool) (a : List ℕ) where
  -- the first n are done
  record Upto (n : ℕ) (d : List ℕ) : Type 0 where
    pub size : length d ≡ length a
    pub hit : (k : ℕ) → k < n → p (blk a k) ≡ true → blk d k ≡ zeros
    pub miss : (k : ℕ) → (k < n → p (blk a k) ≡ false) → blk d k ≡ blk a k
    pub bytes : Bytes a → Bytes d

  more : (n : ℕ) (d : List ℕ) → n < blocks a → Upto n d → Upto (suc n) (pick (p (blk a n)) (put_blk d n zeros) d)
  more n d l U = ⊎_elim (λ e. rw e (take e)) (λ e. rw e (leave e)) (bool_cases (p (blk a n)))
    where
      in-d : n < blocks d
      in-d = omega (arith, U.size)

      take : p (blk a n) ≡ true → Upto (suc n) (put_blk d n zeros)
      take e = record {
        size = length-put_blk d n zeros in-d length-zeros ∙ U.size;
        hit = λ k m h. elim (ℕ_discrete k n) [
          | yes x ↦ ap (blk (put_blk d n zeros)) x ∙ blk-put_blk-same d n zeros in-d length-zeros
          | no x ↦ blk-put_blk-other d n zeros in-d length-zeros k x ∙ U.hit k (omega arith) h
        ];
        miss = λ k h. elim (ℕ_discrete k n) [
          | yes x ↦ absurd (true-false e (subst (λ (i : ℕ). p (blk a i) ≡ false) x (h (omega arith))))
          | no x ↦ blk-put_blk-other d n zeros in-d length-zeros k x ∙ U.miss k (λ m. h (omega arith))
        ];
        bytes = λ h. put_blk-bytes d n zeros in-d length-zeros (U.bytes h) zeros-bytes;
      }

      leave : p (blk a n) ≡ false → Upto (suc n) d
      leave e = record {
        size = U.size;
        hit = λ k m h. elim (ℕ_discrete k n) [
          | yes x ↦ absurd (true-false (subst (λ (i : ℕ). p (blk a i) ≡ true) x h) e)
          | no x ↦ U.hit k (omega arith) h
        ];
        miss = λ k h. U.miss k (λ m. h (omega arith));
        bytes = U.bytes;
      }

  upto : (n : ℕ) → n ≤ blocks a → Upto n (clear_to p a n)
  unfolding clear_to
  upto zero l = record { size = refl; hit = λ k m. absurd (omega arith); miss = λ k h. refl; bytes = λ h. h }
  upto (suc n) l = more n (clear_to p a n) (omega arith) (upto n (omega arith))

  all : Upto (blocks a) (clear_all p a)
  unfolding clear_all
  all = upto (blocks a) (le_refl (blocks a))

  pub clear-size : length (clear_all p a) ≡ length a
  clear-size = all.size

  pub clear-bytes : Bytes a → Bytes (clear_all p a)
  clear-bytes = all.bytes

  clear-blocks : blocks (clear_all p a) ≡ blocks a
  clear-blocks = ap (λ (n : ℕ). n / 512) clear-size

  -- a block that passes is zero now, and one that doesn't is as it was
  pub clear-each : (P : List ℕ → List ℕ → Type 0) → ((c : List ℕ) → p c ≡ true → P zeros c) → ((c : List ℕ) → p c ≡ false → P c c)
      → (k : ℕ) → k < blocks a → P (blk (clear_all p a) k) (blk a k)
  clear-each P t f k l =
      ⊎_elim
      (λ e. subst (λ (x : List ℕ). P x (blk a k)) (sym (all.hit k l e)) (t (blk a k) e))
      (λ e. subst (λ (x : List ℕ). P x (blk a k)) (sym (all.miss k (λ _. e))) (f (blk a k) e))
      (bool_cases (p (blk a k)))

  -- a file of which no block passes
  pub clear_kept : (g : File) → ((c : List ℕ) → p c ≡ true → Stranger g c) → Kept a (clear_all p a) g
  clear_kept g h = kept_of a (clear_all p a) clear-blocks g (clear-each (Alike g) (λ c e. strangers-alike (zeros-stranger g) (h c e)) (λ c e. alike-own g c))

  clear-once : (P : List ℕ → Bool) → P zeros ≡ false → Once P a → Once P (clear_all p a)
  clear-once P z O j k lj lk pj pk =
      let b : blocks (clear_all p a) ≡ blocks a = clear-blocks in
      O j k (omega arith) (omega arith) (old j (omega arith) pj) (old k (omega arith) pk)
    where
      old : (i : ℕ) → i < blocks a → P (blk (clear_all p a) i) ≡ true → P (blk a i) ≡ true
      old i l = clear-each (λ x c. P x ≡ true → P c ≡ true) (λ c e h. absurd (true-false h z)) (λ c e h. h) i l

  pub clear-tidy : Tidy a → Tidy (clear_all p a)
  clear-tidy T = record {
    each = λ k l. let m : k < blocks a = omega (arith, clear-blocks) in clear-each (λ x c. BlockSound c → BlockSound x) (λ c e B. zeros-sound) (λ c e B. B) k m (T.each k m);
    head = λ g. clear-once (is_head g) (zeros-stranger g).head (T.head g);
    block = λ g q. clear-once (is_data g q) ((zeros-stranger g).block q) (T.block g q);
  }

  -- used blocks are freed: that many more are free
  pub clear-free : ((c : List ℕ) → p c ≡ true → is_free c ≡ false) → free_count (clear_all p a) ≡ free_count a + count_to (λ k. p (blk a k)) (blocks a)
  unfolding free_count count_to
  clear-free h =
      ap (sum_to (λ k. bit (is_free (blk (clear_all p a) k)))) clear-blocks
      ∙ sum_to-cong (λ k. bit (is_free (blk (clear_all p a) k))) (λ k. bit (is_free (blk a k)) + bit (p (blk a k))) (blocks a)
      (clear-each (λ x c. bit (is_free x) ≡ bit (is_free c) + bit (p c))
      (λ c e. omega (arith, ap bit (free_own zeros (get_or-zeros 0)), ap bit (h c e), ap bit e))
      (λ c e. omega (arith, ap bit e)))
      ∙ sum_to-add (λ k. bit (is_free (blk a k))) (λ k. bit (p (blk a k))) (blocks a)

  -- no block is a head of g, or block q of it, any more
  pub clear-no : (P : List ℕ → Bool) → P zeros ≡ false → ((c : List ℕ) → P c ≡ true → p c ≡ true) → (k : ℕ) → k < blocks a → P (blk (clear_all p a) k) ≡ false
  clear-no P z h = clear-each (λ x c. P x ≡ false) (λ c e. z) (λ c e. ⊎_elim (λ t. absurd (true-false (h c t) e)) (λ n. n) (bool_cases (P c)))
