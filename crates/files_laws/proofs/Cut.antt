-- What cut does: the head's length, then the blocks wholly past it, then the tail of the block that it falls into.
use mathlib.Core.Path.{◌≡◌, refl, sym, ap, ◌∙◌, subst}
use mathlib.Core.Bool.{Bool, true, false, not, ◌&&◌}
use mathlib.Core.List.{List}
use mathlib.Core.Logic.{⊎_elim, ◌≢◌}
use Prim.Native.Nat.{ℕ, ◌+◌, ◌*◌, ◌-◌, ◌/◌, ◌%◌, ◌≤◌, ◌<◌}
use native.Mathlib.Decide.{ℕ_discrete}
use native.Mathlib.Omega.{arith}
use lib.ListN.{length, get_or, replicate, length-replicate, get_or-replicate, get_or-eq_default}
use lib.Dec.{ltb, leb}
use borrow.Author.Tests.{lt-ltb, le-ltb, ltb-true, le-leb, lt-leb, leb-true, leb-false}
use Rattle.base.proofs.Sames.{and-true, test-fails}
use Rattle.base.specs.Count.{bit}
use Rattle.base.specs.Out.{done, refused, Ok, went}
use Rattle.base.specs.Parts.{paste}
use Rattle.base.proofs.Bools.{bool_cases, true-false, and_both, and_parts, and-false}
use Rattle.base.proofs.Numbers.{lt-or-le}
use Rattle.base.proofs.Outs.{ok-does, ok-test}
use Rattle.le.specs.Le.{Bytes}
use Rattle.arena.specs.Blocks.{blk, put_blk, blocks}
use Rattle.arena.specs.Fields.{File, tag_of, number_of, is_free, is_head, is_data, seal}
use Rattle.arena.specs.Places.{data_of, free_count}
use Rattle.arena.proofs.Fields.{data_is, head-not, free-not}
use Rattle.files.specs.Read.{there, length_of, present, byte_at}
use Rattle.files.specs.Store.{longest, set_length, clear_all, is_past, zero_tail, cut_file}
use Rattle.files_laws.specs.Laws.{Inside, Kept, past_count, Cut, CutRefused, missing, far}
use Rattle.files_laws.proofs.Views.{alike-own, byte_in, AlikeHead, AlikeData, byte-in, byte-none, present-none, there-same, length-same, present-same, byte-same, kept_refl, kept_next}
use Rattle.files_laws.proofs.Parts.{Tidy, sound-tidy, sound-after}
use Rattle.files_laws.proofs.Steps.{other-stranger, zeros-stranger}
use Rattle.files_laws.proofs.Lengths.{Lengthened, lengthened}
use Rattle.files_laws.proofs.Writes.{Wrote, wrote-there}
use Rattle.files_laws.proofs.Clears.{clear-size, clear-bytes, clear-each, clear_kept, clear-tidy, clear-free, clear-no}

-- ---- the blocks wholly past the end

module _ (f : File) (len : ℕ) (b : List ℕ) where
  pub past-own : (q : ℕ) → is_data f q b ≡ true → len ≤ 480 * q → is_past f len b ≡ true
  unfolding is_past
  past-own q e l =
      let n : number_of b ≡ q = (data_is f q b e).number in
      and_both (subst (λ (x : ℕ). is_data f x b ≡ true) (sym n) e) (le-leb len (480 * number_of b) (subst (λ (x : ℕ). len ≤ 480 * x) (sym n) l))

  pub past-data : is_past f len b ≡ true → is_data f (number_of b) b ≡ true
  unfolding is_past
  past-data e = (and_parts (is_data f (number_of b) b) (leb len (480 * number_of b)) e).0

  pub past-number : is_past f len b ≡ true → len ≤ 480 * number_of b
  unfolding is_past
  past-number e = leb-true len (480 * number_of b) (and_parts (is_data f (number_of b) b) (leb len (480 * number_of b)) e).1

  past-tag : is_past f len b ≡ true → tag_of b ≡ 2
  past-tag e = (data_is f (number_of b) b (past-data e)).tag

  past_head : is_past f len b ≡ true → is_head f b ≡ false
  past_head e = head-not f b (λ z. absurd (omega (arith, past-tag e)))

  past-used : is_past f len b ≡ true → is_free b ≡ false
  past-used e = free-not b (λ z. absurd (omega (arith, past-tag e)))

  -- a block below the end is not one of them
  past-below : (q : ℕ) → 480 * q < len → is_past f len b ≡ true → is_data f q b ≡ false
  past-below q l e = test-fails (is_data f q b) (λ h. absurd (omega (arith, past-number e, (data_is f q b h).number)))

record Cleared (c d : List ℕ) (f : File) (len : ℕ) : Type 0 where
  size : length d ≡ length c
  bytes : Bytes c → Bytes d
  tidy : Tidy c → Tidy d
  free : free_count d ≡ free_count c + past_count c f len
  exists : there d f ≡ there c f
  long : length_of d f ≡ length_of c f
  gone : (q : ℕ) → len ≤ 480 * q → present d f q ≡ false
  block : (q : ℕ) → 480 * q < len → present d f q ≡ present c f q
  byte : (q i : ℕ) → 480 * q < len → i < 480 → byte_in d f q i ≡ byte_in c f q i
  others : (g : File) → f ≢ g → Kept c d g

module _ (c : List ℕ) (f : File) (len : ℕ) where
  n-blocks : blocks (clear_all (is_past f len) c) ≡ blocks c
  n-blocks = ap (λ (n : ℕ). n / 512) (clear-size (is_past f len) c)

  head-each : (k : ℕ) → k < blocks c → AlikeHead f (blk (clear_all (is_past f len) c) k) (blk c k)
  head-each =
      clear-each (is_past f len) c (AlikeHead f)
      (λ x e. record { head = (zeros-stranger f).head ∙ sym (past_head f len x e); number = λ h. absurd (true-false h (past_head f len x e)) })
      (λ x e. (alike-own f x).head)

  data-each : (q : ℕ) → 480 * q < len → (k : ℕ) → k < blocks c → AlikeData f q (blk (clear_all (is_past f len) c) k) (blk c k)
  data-each q l =
      clear-each (is_past f len) c (AlikeData f q)
      (λ x e. record { block = (zeros-stranger f).block q ∙ sym (past-below f len x q l e); payload = λ h. absurd (true-false h (past-below f len x q l e)) })
      (λ x e. (alike-own f x).block q)

  cleared : Cleared c (clear_all (is_past f len) c) f len
  unfolding past_count
  cleared = record {
    size = clear-size (is_past f len) c;
    bytes = clear-bytes (is_past f len) c;
    tidy = clear-tidy (is_past f len) c;
    free = clear-free (is_past f len) c (λ x e. past-used f len x e);
    exists = there-same c (clear_all (is_past f len) c) n-blocks f (λ k l. (head-each k l).head);
    long = length-same c (clear_all (is_past f len) c) n-blocks f head-each;
    gone = λ q l.
        present-none (clear_all (is_past f len) c) f q
        (λ k m. clear-no (is_past f len) c (is_data f q) ((zeros-stranger f).block q) (λ x e. past-own f len x q e l) k (omega (arith, n-blocks)));
    block = λ q l. present-same c (clear_all (is_past f len) c) n-blocks f q (λ k m. (data-each q l k m).block);
    byte = λ q i l m. byte-same c (clear_all (is_past f len) c) n-blocks f q (data-each q l) i m;
    others = λ g n. clear_kept (is_past f len) c g (λ x e. other-stranger f g x (data_is f (number_of x) x (past-data f len x e)).of n);
  }

-- ---- the tail

record Tailed (d e : List ℕ) (f : File) (len : ℕ) : Type 0 where
  size : length e ≡ length d
  bytes : Bytes d → Bytes e
  tidy : Bytes d → Tidy d → Tidy e
  free : free_count e ≡ free_count d
  exists : there e f ≡ there d f
  long : length_of e f ≡ length_of d f
  block : (q : ℕ) → present e f q ≡ present d f q
  below : (i : ℕ) → i < len % 480 → byte_in e f (len / 480) i ≡ byte_in d f (len / 480) i
  tail : (i : ℕ) → len % 480 ≤ i → i < 480 → byte_in e f (len / 480) i ≡ 0
  apart : (q i : ℕ) → q ≢ len / 480 → i < 480 → byte_in e f q i ≡ byte_in d f q i
  others : (g : File) → f ≢ g → Kept d e g

module _ (d : List ℕ) (f : File) (len : ℕ) where
  none : List ℕ
  none = replicate (480 - len % 480) 0

  length_none : length none ≡ 480 - len % 480
  unfolding none
  length_none = length-replicate {A = ℕ} (480 - len % 480) 0

  none-zero : (i : ℕ) → i < 480 - len % 480 → get_or none i 0 ≡ 0
  unfolding none
  none-zero i l = get_or-replicate (480 - len % 480) i 0 0 l

  none-bytes : Bytes none
  unfolding none
  none-bytes i =
      ⊎_elim
      (λ l. rw (get_or-replicate {A = ℕ} (480 - len % 480) i 0 0 l) (omega arith))
      (λ g. rw (get_or-eq_default {A = ℕ} (replicate (480 - len % 480) 0) 0 {n = i} (omega (arith, length-replicate {A = ℕ} (480 - len % 480) 0))) (omega arith))
      (lt-or-le i (480 - len % 480))

  written : (e : List ℕ) → present d f (len / 480) ≡ true → Wrote d e f (len / 480) (len % 480) none → Tailed d e f len
  written e was W = record {
    size = W.size;
    bytes = λ h. W.bytes h none-bytes;
    tidy = λ h T. W.tidy h none-bytes T;
    free = let z : bit (not (present d f (len / 480))) ≡ 0 = ap (λ (t : Bool). bit (not t)) was in omega (arith, W.free);
    exists = W.exists;
    long = W.long;
    block = λ q. elim (ℕ_discrete q (len / 480)) [
      | yes x ↦ ap (present e f) x ∙ W.here ∙ sym (ap (present d f) x ∙ was)
      | no x ↦ W.rest q x
    ];
    below = λ i l. W.outside i (omega arith) (λ g. absurd (omega arith));
    tail = λ i g l. W.inside i g (omega (arith, length_none)) ∙ none-zero (i - len % 480) (omega arith);
    apart = W.apart;
    others = W.others;
  }

  left : present d f (len / 480) ≡ false → Tailed d d f len
  left gone = record {
    size = refl;
    bytes = λ h. h;
    tidy = λ h T. T;
    free = refl;
    exists = refl;
    long = refl;
    block = λ q. refl;
    below = λ i l. refl;
    tail = λ i g l. byte-none d f (len / 480) gone i;
    apart = λ q i x l. refl;
    others = λ g n. kept_refl d g;
  }

  tailed : Tailed d (zero_tail d f len) f len
  unfolding zero_tail none
  tailed =
      ⊎_elim
      (λ e. rw e (written (put_blk d (data_of d f (len / 480)) (seal (paste (blk d (data_of d f (len / 480))) (24 + len % 480) none))) e (wrote-there d f (len / 480) (len % 480) none e (omega (arith, length_none)))))
      (λ e. rw e (left e))
      (bool_cases (present d f (len / 480)))

-- ---- the whole

module _ (a : List ℕ) (f : File) (len : ℕ) (was : there a f ≡ true) (range : len ≤ longest) where
  c : List ℕ
  c = set_length a f len

  d : List ℕ
  d = clear_all (is_past f len) (set_length a f len)

  e : List ℕ
  e = zero_tail (clear_all (is_past f len) (set_length a f len)) f len

  L : Lengthened a c f len
  unfolding c
  L = lengthened a f len was range

  C : Cleared c d f len
  unfolding c d
  C = cleared (set_length a f len) f len

  Z : Tailed d e f len
  unfolding d e
  Z = tailed (clear_all (is_past f len) (set_length a f len)) f len

  block-f : (q : ℕ) → present e f q ≡ (present a f q && ltb (480 * q) len)
  block-f q =
      ⊎_elim
      (λ l. Z.block q ∙ C.block q l ∙ L.block q ∙ sym (ap (λ (t : Bool). present a f q && t) (lt-ltb (480 * q) len l) ∙ and-true (present a f q)))
      (λ g. Z.block q ∙ C.gone q g ∙ sym (ap (λ (t : Bool). present a f q && t) (le-ltb (480 * q) len g) ∙ and-false (present a f q)))
      (lt-or-le (480 * q) len)

  below-f : (p : ℕ) → p < len → byte_at e f p ≡ byte_at a f p
  below-f p l =
      byte-in e f p ∙ tail-kept ∙ C.byte (p / 480) (p % 480) (omega arith) (omega arith) ∙ L.byte (p / 480) (p % 480) (omega arith) ∙ sym (byte-in a f p)
    where
      tail-kept : byte_in e f (p / 480) (p % 480) ≡ byte_in d f (p / 480) (p % 480)
      tail-kept = elim (ℕ_discrete (p / 480) (len / 480)) [
        | yes x ↦ subst (λ (q : ℕ). byte_in e f q (p % 480) ≡ byte_in d f q (p % 480)) (sym x) (Z.below (p % 480) (omega arith))
        | no x ↦ Z.apart (p / 480) (p % 480) x (omega arith)
      ]

  beyond-f : (p : ℕ) → len ≤ p → byte_at e f p ≡ 0
  beyond-f p l = byte-in e f p ∙ zero-there
    where
      zero-there : byte_in e f (p / 480) (p % 480) ≡ 0
      zero-there = elim (ℕ_discrete (p / 480) (len / 480)) [
        | yes x ↦ subst (λ (q : ℕ). byte_in e f q (p % 480) ≡ 0) (sym x) (Z.tail (p % 480) (omega arith) (omega arith))
        | no x ↦ Z.apart (p / 480) (p % 480) x (omega arith) ∙ byte-none d f (p / 480) (C.gone (p / 480) (omega arith)) (p % 480)
      ]

  exists-f : there e f ≡ true
  exists-f = Z.exists ∙ C.exists ∙ L.exists

  long-f : length_of e f ≡ len
  long-f = Z.long ∙ C.long ∙ L.long

  others-f : (g : File) → f ≢ g → Kept a e g
  others-f g n = kept_next (kept_next (L.others g n) (C.others g n)) (Z.others g n)

  inside-f : Inside e f
  inside-f = record {
    under = λ q t. (exists-f, subst (λ (n : ℕ). 480 * q < n) (sym long-f) (ltb-true (480 * q) len (and_parts (present a f q) (ltb (480 * q) len) (sym (block-f q) ∙ t)).1));
    past = λ p l. beyond-f p (subst (λ (n : ℕ). n ≤ p) long-f l);
  }

  done-f : Cut a f len (zero_tail (clear_all (is_past f len) (set_length a f len)) f len)
  unfolding e
  done-f = record {
    was = was;
    range = range;
    size = Z.size ∙ C.size ∙ L.size;
    bytes = λ h. Z.bytes (C.bytes (L.bytes h));
    keeps = λ h ok. sound-after a e f ok (Z.tidy (C.bytes (L.bytes h)) (C.tidy (L.tidy h (sound-tidy a ok)))) inside-f others-f;
    free = omega (arith, Z.free, C.free, L.free, L.past len);
    exists = exists-f;
    long = long-f;
    block = block-f;
    below = below-f;
    beyond = beyond-f;
    others = others-f;
  }

module _ (a : List ℕ) (f : File) (len : ℕ) where
  -- cut does what it says, or the file is missing, or the length is too long
  pub cut-law : Ok (Cut a f len) (CutRefused a f len) (cut_file a f len)
  unfolding cut_file
  cut-law =
      ok-test (there a f) 19 (λ n. missing n)
      (λ y. ok-test (leb len longest) 17 (λ n. far y (leb-false len longest n)) (λ l. went (done-f a f len y (leb-true len longest l))))

  -- it can be done where the file is there and the length in range
  pub cut-done : there a f ≡ true → len ≤ longest → (a' : List ℕ) × (cut_file a f len ≡ done a') × Cut a f len a'
  cut-done y l = ok-does cut-law (λ n r. go r)
    where
      go : {n : ℕ} → CutRefused a f len n → ⊥
      go (missing n) = true-false y n
      go (far _ g) = omega arith

  -- and is refused where not
  pub cut-missing : there a f ≡ false → cut_file a f len ≡ refused 19
  unfolding cut_file
  cut-missing n = rw n

  pub cut-far : there a f ≡ true → longest < len → cut_file a f len ≡ refused 17
  unfolding cut_file
  cut-far y g = rw (y, lt-leb len longest g)
