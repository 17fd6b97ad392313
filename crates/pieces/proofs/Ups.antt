-- How bytes are moved up: the blocks are made first, of zeros and in the pieces' order, and then the whole part is one write. What making them does,
-- and that the pieces come to the same.
use mathlib.Core.Path.{◌≡◌, refl, sym, ap, ◌∙◌, subst}
use mathlib.Core.Bool.{Bool, true, false, not, ◌||◌}
use mathlib.Core.List.{List, []}
use mathlib.Core.Logic.{⊎_elim, ◌≢◌}
use Prim.Native.Nat.{ℕ, zero, suc, ◌+◌, ◌*◌, ◌-◌, ◌/◌, ◌%◌, ◌≤◌, ◌<◌, min, max}
use native.Mathlib.Decide.{ℕ_discrete}
use native.Mathlib.Numerals.{add-one}
use native.Mathlib.Omega.{arith}
use lib.ListN.{length, replicate, length-replicate}
use lib.Dec.{ltb}
use borrow.Author.Tests.{lt-ltb, le-ltb, ltb-true, ltb-false}
use Rattle.base.specs.Count.{bit, count_to, sum_to}
use Rattle.base.specs.Out.{Out, done, refused, bind, Ok, went, said}
use Rattle.base.specs.Parts.{part, tab}
use Rattle.base.proofs.Bools.{bool_cases, true-false, or_cases, or-first, or-second}
use Rattle.base.proofs.Finds.{eq-cases}
use Rattle.base.proofs.Sames.{or_no}
use Rattle.base.proofs.Lists.{length-tab, get_or-tab, paste-own}
use Rattle.base.proofs.Numbers.{lt-or-le}
use Rattle.base.proofs.Outs.{ok-bind, ok-weaken, ok-done, ok-does, ok-test, bind_done, bind-is-done}
use Rattle.le.specs.Le.{Bytes}
use Rattle.arena.specs.Blocks.{put_blk, blocks}
use Rattle.arena.specs.Fields.{File, is_data, seal, fresh}
use Rattle.arena.specs.Places.{free_of, head_of, data_of, free_count}
use Rattle.arena.proofs.Blocks.{blocks-put_blk, blk-put_blk-same, blk-put_blk-other}
use Rattle.arena.proofs.Fields.{data-cong}
use Rattle.arena.proofs.Fresh.{length-fresh, fresh-data}
use Rattle.arena.proofs.Seals.{length-seal, get_or-seal}
use Rattle.sound.specs.Sound.{sound}
use Rattle.files.specs.Read.{there, length_of, present, byte_at}
use Rattle.files.specs.Store.{longest, claim, raise, lo, hi, put_block, put_to, touched, put_file}
use Rattle.files_laws.specs.Laws.{Kept, touches, lacking, Put, PutRefused}
use Rattle.files.proofs.Runs.{read_done}
use Rattle.files_laws.proofs.Bounds.{read-bytes}
use Rattle.files_laws.proofs.Claims.{none_free, wrote-new}
use Rattle.files_laws.proofs.Parts.{Tidy, sound-tidy, sound-inside, sound-after, file-cases}
use Rattle.files_laws.proofs.Put.{Upto, put-upto, put-starts, put_all, put-law}
use Rattle.files_laws.proofs.Steps.{name-size}
use Rattle.files_laws.proofs.Views.{byte_in, byte-in, kept_refl, kept_next, present-not, data-at}
use Rattle.files_laws.proofs.Writes.{Wrote}
use Rattle.pieces.specs.Made.{made_blk, made_piece, made_to, MadeUpto, Made, UpPut}
use Rattle.pieces.specs.Pieces.{pieces, piece_len, falling, copy_piece, up_to, copy_up}
use Rattle.pieces.proofs.Fronts.{SameFronts, fronts-refl, fronts-sym, fronts-next, fronts-there, fronts-present, fronts-length, fronts-count, Likewise, both, neither, like-bind, like-done}
use Rattle.pieces.proofs.Fronts.{made-write, made_again, run_fits, run-meets, touched-one, put-over, fronts-same}
use Rattle.files_laws.proofs.Lacking.{Beside, beside-before, Gained, gained-next, lacking-zero, lacking-beside, lacking-part}
use Rattle.pieces.proofs.Pieces.{piece-in, pieces-all, Copied, up-law}
use Rattle.files_laws.specs.Laws as laws

-- ---- one block

-- one that is there is not touched
wrote-own : (d : List ℕ) (f : File) (q : ℕ) → present d f q ≡ true → Wrote d d f q 0 []
wrote-own d f q e = record {
  size = refl;
  bytes = λ h _. h;
  tidy = λ _ _ T. T;
  free = let z : bit (not (present d f q)) ≡ 0 = ap (λ (t : Bool). bit (not t)) e in omega arith;
  exists = refl;
  long = refl;
  here = e;
  rest = λ r _. refl;
  inside = λ i g l. absurd (omega arith);
  outside = λ i l h. refl;
  apart = λ r i ne l. refl;
  others = λ g _. kept_refl d g;
  head = refl;
  place = λ r _. refl;
  used = let z : bit (not (present d f q)) ≡ 0 = ap (λ (t : Bool). bit (not t)) e in omega arith;
}

module _ (d : List ℕ) (f : File) (q : ℕ) (was : there d f ≡ true) (small : q < 4294967296) where
  size-new : length (fresh 2 f q) ≡ 512
  size-new = length-fresh 2 f q (name-size d f was)

  made-law : Ok (λ c. Wrote d c f q 0 []) (λ r. (r ≡ 17) × (present d f q ≡ false) × (free_count d ≡ 0)) (made_blk d f q)
  unfolding made_blk claim
  made-law = ⊎_elim
      (λ e. rw e (went (wrote-own d f q e)))
      (λ e. rw e (ok-test (ltb (free_of d) (blocks d)) 17
      (λ n. (refl, refl, none_free d (ltb-false (free_of d) (blocks d) n)))
      (λ y. went (subst (λ (b : List ℕ). Wrote d (put_blk d (free_of d) (seal b)) f q 0 []) (paste-own (fresh 2 f q) 24 24 (omega arith) (omega (arith, size-new)))
      (wrote-new d f q 0 [] was e (ltb-true (free_of d) (blocks d) y) (omega arith) small)))))
      (bool_cases (present d f q))

  -- what it leaves
  pub made-wrote : (c : List ℕ) → made_blk d f q ≡ done c → Wrote d c f q 0 []
  made-wrote c e = ok-done (subst (Ok (λ c. Wrote d c f q 0 []) (λ r. (r ≡ 17) × (present d f q ≡ false) × (free_count d ≡ 0))) e made-law)

-- where it is absent, the lowest free block becomes it
pub made-new : (d : List ℕ) (f : File) (q k : ℕ) (c : List ℕ) → present d f q ≡ false → k ≡ free_of d → k < blocks d → c ≡ put_blk d k (seal (fresh 2 f q)) → made_blk d f q ≡ done c
unfolding made_blk claim
made-new d f q k c n at l e = rw (n, ← at, lt-ltb k (blocks d) l) (ap done (sym e))

-- where it was absent there was a free block
pub made-finds : (d : List ℕ) (f : File) (q : ℕ) (c : List ℕ) → made_blk d f q ≡ done c → present d f q ≡ false → free_of d < blocks d
unfolding made_blk claim
made-finds d f q c e n = ⊎_elim
    (λ h. h)
    (λ g.
    let z : made_blk d f q ≡ refused 17 = rw (n, le-ltb (free_of d) (blocks d) g) in
    absurd (let x : ◌≡◌ {A = ℕ} 0 1 = cc in omega arith))
    (lt-or-le (free_of d) (blocks d))

-- and it is now where that was
pub made_at : (d : List ℕ) (f : File) (q : ℕ) → there d f ≡ true → q < 4294967296 → (c : List ℕ) → made_blk d f q ≡ done c → present d f q ≡ false → data_of c f q ≡ free_of d
unfolding made_blk claim
made_at d f q was small c e n =
    let l : free_of d < blocks d = made-finds d f q c e n in
    let s : length (fresh 2 f q) ≡ 512 = size-new d f q was small in
    let s' : length (seal (fresh 2 f q)) ≡ 512 = length-seal (fresh 2 f q) s in
    let z : made_blk d f q ≡ done (put_blk d (free_of d) (seal (fresh 2 f q))) = rw (n, lt-ltb (free_of d) (blocks d) l) in
    let is : put_blk d (free_of d) (seal (fresh 2 f q)) ≡ c = cc in
    let hit : is_data f q (seal (fresh 2 f q)) ≡ true =
    data-cong (seal (fresh 2 f q)) (fresh 2 f q) s' s (λ j h. get_or-seal (fresh 2 f q) s j (omega arith)) f q ∙ fresh-data f q (name-size d f was) small in
    subst (λ (x : List ℕ). data_of x f q ≡ free_of d) is
    (data-at (put_blk d (free_of d) (seal (fresh 2 f q))) f q (free_of d) (omega (arith, blocks-put_blk d (free_of d) (seal (fresh 2 f q)) l s'))
    (λ j h. ap (is_data f q) (blk-put_blk-other d (free_of d) (seal (fresh 2 f q)) l s' j (omega arith)) ∙ present-not d f q n j (omega arith))
    (ap (is_data f q) (blk-put_blk-same d (free_of d) (seal (fresh 2 f q)) l s') ∙ hit))

-- ---- piece by piece

-- the length first
pub made-starts : (a : List ℕ) (f : File) (dst n : ℕ) → made_to a f dst n 0 ≡ done (raise a f (dst + n))
unfolding made_to
made-starts a f dst n = refl

-- one piece more
pub made_more : (a : List ℕ) (f : File) (dst n k : ℕ) (d : List ℕ) → made_to a f dst n k ≡ done d → made_to a f dst n (k + 1) ≡ made_piece d f (dst + falling n k) (piece_len n k)
unfolding made_to
made_more a f dst n k d e = rw (add-one, e)

-- its one or two blocks
pub made-both : (d c : List ℕ) (f : File) (pos n : ℕ) → made_blk d f (pos / 480) ≡ done c → made_piece d f pos n ≡ made_blk c f ((pos + n - 1) / 480)
unfolding made_piece
made-both d c f pos n e = rw e

-- ---- a piece's blocks, and a write of as many bytes

touched-two : (pos n : ℕ) → 0 < n → (pos + n - 1) / 480 ≡ pos / 480 + 1 → touched pos n ≡ 2
unfolding touched
touched-two pos zero l e = absurd (omega arith)
touched-two pos (suc n) l e = let z : pos + suc n - 1 ≡ pos + n = omega arith in omega (arith, ap (λ (x : ℕ). x / 480) z)

module _ (d e : List ℕ) (f : File) (pos : ℕ) (src : List ℕ) (was : there e f ≡ true) (some : 0 < length src) (range : pos + length src ≤ longest)
    (A : SameFronts d (raise e f (pos + length src))) where
  there-d : there d f ≡ true
  there-d = fronts-there d (raise e f (pos + length src)) A f ∙ (put-upto e f pos src was range 0 (raise e f (pos + length src)) (omega arith) (put-starts e f pos src)).exists

  one_block : (x y : List ℕ) → SameFronts x y → there x f ≡ true → (i q : ℕ) → i < touched pos (length src) → pos / 480 + i ≡ q → Likewise (made_blk x f q) (put_block y f pos src (pos / 480 + i))
  unfolding put_block
  one_block x y B t i q l e =
      subst (λ (z : ℕ). Likewise (made_blk x f z) (put_block y f pos src (pos / 480 + i))) e
      (made-write x y B f t (pos / 480 + i) (lo pos (pos / 480 + i) - 480 * (pos / 480 + i)) (part src (lo pos (pos / 480 + i) - pos) (hi pos (length src) (pos / 480 + i) - pos))
      (run_fits pos src (pos / 480 + i) (run-meets pos (length src) i l)))

  first : 0 < touched pos (length src) → Likewise (made_blk d f (pos / 480)) (put_to e f pos src 1)
  unfolding put_to
  first l = one_block d (raise e f (pos + length src)) A there-d 0 (pos / 480) l (omega arith)

  after : (x : List ℕ) → made_blk d f (pos / 480) ≡ done x → Wrote d x f (pos / 480) 0 []
  after x h = made-wrote d f (pos / 480) there-d (omega arith) x h

  -- all bytes in one block
  within-one : (pos + length src - 1) / 480 ≡ pos / 480 → Likewise (made_piece d f pos (length src)) (put_to e f pos src 1)
  unfolding made_piece
  within-one h =
      subst (Likewise (made_piece d f pos (length src))) (bind_done (put_to e f pos src 1))
      (like-bind (first (omega (arith, touched-one pos (length src) some h))) (λ x y m _ B.
      let t : present x f ((pos + length src - 1) / 480) ≡ true = ap (present x f) h ∙ (after x m).here in
      rw (made_again x f ((pos + length src - 1) / 480) t) (both B)))

  -- or in two beside each other
  over-two : (pos + length src - 1) / 480 ≡ pos / 480 + 1 → Likewise (made_piece d f pos (length src)) (put_to e f pos src 2)
  unfolding made_piece put_to
  over-two h =
      let t : touched pos (length src) ≡ 2 = touched-two pos (length src) some h in
      like-bind (first (omega arith)) (λ x y m _ B. one_block x y B ((after x m).exists ∙ there-d) 1 ((pos + length src - 1) / 480) (omega arith) (sym h))

  -- the piece's blocks made, and as many bytes written: where d begins as e with its length raised
  pub piece-fronts : length src ≤ 480 → Likewise (made_piece d f pos (length src)) (put_file e f pos src)
  piece-fronts short =
      rw (put_all e f pos src was range) (⊎_elim
      (λ h. rw (touched-one pos (length src) some h) (within-one h))
      (λ n. let h : (pos + length src - 1) / 480 ≡ pos / 480 + 1 = omega arith in rw (touched-two pos (length src) some h) (over-two h))
      (eq-cases ((pos + length src - 1) / 480) (pos / 480)))

-- ---- what making blocks leaves as it was

record Stays (d : List ℕ) (f : File) (c : List ℕ) : Type 0 where
  size : length c ≡ length d
  bytes : Bytes d → Bytes c
  tidy : Bytes d → Tidy d → Tidy c
  here : (q : ℕ) → present d f q ≡ true → present c f q ≡ true
  byte : (p : ℕ) → byte_at c f p ≡ byte_at d f p
  head : head_of c f ≡ head_of d f
  place : (q : ℕ) → present d f q ≡ true → data_of c f q ≡ data_of d f q
  used : free_of d ≤ free_of c
  others : (g : File) → f ≢ g → Kept d c g

stays-next : {d c b : List ℕ} {f : File} → Stays d f c → Stays c f b → Stays d f b
stays-next S T = record {
  size = T.size ∙ S.size;
  bytes = λ h. T.bytes (S.bytes h);
  tidy = λ h t. T.tidy (S.bytes h) (S.tidy h t);
  here = λ q e. T.here q (S.here q e);
  byte = λ p. T.byte p ∙ S.byte p;
  head = T.head ∙ S.head;
  place = λ q e. T.place q (S.here q e) ∙ S.place q e;
  used = omega (arith, S.used, T.used);
  others = λ g n. kept_next (S.others g n) (T.others g n);
}

bytes-nil : Bytes []
bytes-nil i = omega arith

-- the length raised
raised : (a : List ℕ) (f : File) (top : ℕ) → there a f ≡ true → top ≤ longest → Upto a f top [] 0 (raise a f top)
raised a f top was range =
    let z : top + length {A = ℕ} [] ≡ top = omega arith in
    put-upto a f top [] was (omega arith) 0 (raise a f top) (omega arith) (put-starts a f top [] ∙ ap (λ (n : ℕ). done (raise a f n)) z)

stays-raise : (a : List ℕ) (f : File) (top : ℕ) → there a f ≡ true → top ≤ longest → Stays a f (raise a f top)
stays-raise a f top was range = let U = raised a f top was range in record {
  size = U.size;
  bytes = λ h. U.bytes h bytes-nil;
  tidy = λ h t. U.tidy h bytes-nil t;
  here = λ q e. U.rest q (λ g. omega arith) ∙ e;
  byte = λ p. U.outside p (λ g. omega arith);
  head = U.head;
  place = λ q e. U.place q (λ g. omega arith);
  used = U.used;
  others = U.others;
}

-- a block made
stays-made : (d : List ℕ) (f : File) (q : ℕ) → there d f ≡ true → q < 4294967296 → (c : List ℕ) → made_blk d f q ≡ done c → Stays d f c
stays-made d f q was small c e = let W = made-wrote d f q was small c e in record {
  size = W.size;
  bytes = λ h. W.bytes h bytes-nil;
  tidy = λ h t. W.tidy h bytes-nil t;
  here = λ r y. elim (ℕ_discrete r q) [ yes z ↦ ap (present c f) z ∙ W.here | no n ↦ W.rest r n ∙ y ];
  byte = λ p. byte-in c f p ∙ elim (ℕ_discrete (p / 480) q) [
    | yes z ↦ subst (λ (r : ℕ). byte_in c f r (p % 480) ≡ byte_in d f r (p % 480)) (sym z) (W.outside (p % 480) (omega arith) (λ _. omega arith))
    | no n ↦ W.apart (p / 480) (p % 480) n (omega arith)
  ] ∙ sym (byte-in d f p);
  head = W.head;
  place = λ r y. elim (ℕ_discrete r q) [
    | yes z ↦ ap (λ (x : List ℕ). data_of x f r) (let s : c ≡ d = cc (made_again d f q (ap (present d f) (sym z) ∙ y)) in s)
    | no n ↦ W.place r n
  ];
  used = omega (arith, W.used);
  others = W.others;
}

-- ---- pieces

-- the length is raised to top, and the blocks of n bytes from pos on are made
record Making (a : List ℕ) (f : File) (top pos n : ℕ) (d : List ℕ) : Type 0 where
  stays : Stays a f d
  exists : there d f ≡ true
  long : length_of d f ≡ max (length_of a f) top
  block : Gained a f pos n d
  free : free_count d + lacking a f pos n ≡ free_count a

-- none yet
making-none : (a : List ℕ) (f : File) (top pos n : ℕ) → n ≡ 0 → there a f ≡ true → top ≤ longest → Making a f top pos n (raise a f top)
unfolding count_to sum_to
making-none a f top pos n z was range = let U = raised a f top was range in record {
  stays = stays-raise a f top was range;
  exists = U.exists;
  long = U.long ∙ omega arith;
  block = λ q. U.rest q (λ g. omega arith) ∙ sym (ap (λ (x : Bool). present a f q || x) (le-ltb (lo pos q) (hi pos n q) (omega arith)) ∙ or_no (present a f q));
  free = omega (arith, U.free, ap (lacking a f pos) z, lacking-zero a f pos);
}

-- the blocks of one piece
record OnePiece (d : List ℕ) (f : File) (pos n : ℕ) (c : List ℕ) : Type 0 where
  stays : Stays d f c
  exists : there c f ≡ true
  long : length_of c f ≡ length_of d f
  block : Gained d f pos n c
  free : free_count c + lacking d f pos n ≡ free_count d

module _ (d : List ℕ) (f : File) (pos n : ℕ) (was : there d f ≡ true) (some : 0 < n) (short : n ≤ 480) (end : pos + n ≤ length_of d f) (range : pos + n ≤ longest) where
  piece-stays : (c : List ℕ) → made_piece d f pos n ≡ done c → Stays d f c
  unfolding made_piece
  piece-stays c e =
      let B = bind-is-done (made_blk d f (pos / 480)) (λ x. made_blk x f ((pos + n - 1) / 480)) c e in
      let W = made-wrote d f (pos / 480) was (omega arith) B.0 B.1 in
      stays-next (stays-made d f (pos / 480) was (omega arith) B.0 B.1) (stays-made B.0 f ((pos + n - 1) / 480) (W.exists ∙ was) (omega arith) c B.2)

  -- a write of n zeros takes the same blocks
  zeros-n : length {A = ℕ} (replicate n 0) ≡ n
  zeros-n = length-replicate {A = ℕ} n 0

  like-zeros : Likewise (made_piece d f pos n) (put_file d f pos (replicate n 0))
  unfolding raise
  like-zeros =
      subst (λ (m : ℕ). Likewise (made_piece d f pos m) (put_file d f pos (replicate n 0))) zeros-n
      (piece-fronts d d f pos (replicate n 0) was (omega (arith, zeros-n)) (omega (arith, zeros-n))
      (rw (le-ltb (length_of d f) (pos + length {A = ℕ} (replicate n 0)) (omega (arith, zeros-n))) (fronts-refl d)) (omega (arith, zeros-n)))

  piece-law : Ok (OnePiece d f pos n) (λ r. (r ≡ 17) × (free_count d < lacking d f pos n)) (made_piece d f pos n)
  piece-law = go like-zeros (put-law d f pos (replicate n 0)) piece-stays
    where
      why : {r : ℕ} → PutRefused d f pos (length {A = ℕ} (replicate n 0)) r → (r ≡ 17) × (free_count d < lacking d f pos n)
      why (laws.missing e) = absurd (true-false was e)
      why (laws.far _ g) = absurd (omega (arith, zeros-n))
      why (laws.full _ _ g) = (refl, subst (λ (m : ℕ). free_count d < lacking d f pos m) zeros-n g)

      go : {o p : Out (List ℕ)} → Likewise o p → Ok (Put d f pos (replicate n 0)) (PutRefused d f pos (length {A = ℕ} (replicate n 0))) p → ((c : List ℕ) → o ≡ done c → Stays d f c)
          → Ok (OnePiece d f pos n) (λ r. (r ≡ 17) × (free_count d < lacking d f pos n)) o
      go (both {d = c} {e = e} A) (went P) S =
          went (record {
            stays = S c refl;
            exists = fronts-there c e A f ∙ P.exists;
            long = fronts-length c e A f ∙ P.long ∙ omega (arith, zeros-n);
            block = λ q. fronts-present c e A f q ∙ P.block q ∙ ap (λ (m : ℕ). present d f q || touches pos m q) zeros-n;
            free = omega (arith, fronts-count c e A, P.free, ap (lacking d f pos) zeros-n);
          })
      go neither (said q) S = said (why q)

-- beside those that are made already, below them
making-next : (a d c : List ℕ) (f : File) (top pos m p n at k : ℕ) → Beside pos m p n at k → Making a f top pos m d → OnePiece d f p n c → Making a f top at k c
making-next a d c f top pos m p n at k B M O = record {
  stays = stays-next M.stays O.stays;
  exists = O.exists;
  long = O.long ∙ M.long;
  block = gained-next a d c f pos m p n at k B M.block O.block;
  free = omega (arith, O.free, M.free, lacking-beside a d f pos m p n at k B M.block);
}

module _ (a : List ℕ) (f : File) (dst n : ℕ) (was : there a f ≡ true) (range : dst + n ≤ longest) where
  -- the piece that is taken after k others lies just below them
  below : (k : ℕ) → 128 * k < n → Beside (dst + (n - 128 * k)) (min n (128 * k)) (dst + falling n k) (piece_len n k) (dst + (n - 128 * suc k)) (min n (128 * suc k))
  below k w = beside-before (dst + (n - 128 * k)) (min n (128 * k)) (dst + falling n k) (piece_len n k) (min n (128 * suc k)) (omega arith) (omega arith)

  to_made : (k : ℕ) → k ≤ pieces n → Ok (Making a f (dst + n) (dst + (n - 128 * k)) (min n (128 * k))) (λ r. (r ≡ 17) × (free_count a < lacking a f dst n)) (made_to a f dst n k)
  unfolding made_to
  to_made zero l = went (making-none a f (dst + n) (dst + (n - 128 * 0)) (min n (128 * 0)) (omega arith) was range)
  to_made (suc k) l =
      let w : 128 * k < n = piece-in n k l in
      ok-bind (to_made k (omega arith)) λ d M.
      ok-weaken
      (λ c O. making-next a d c f (dst + n) (dst + (n - 128 * k)) (min n (128 * k)) (dst + falling n k) (piece_len n k) (dst + (n - 128 * suc k)) (min n (128 * suc k)) (below k w) M O)
      (λ r F. (
        F.0,
        omega (
          arith,
          F.1,
          M.free,
          lacking-beside a d f (dst + (n - 128 * k)) (min n (128 * k)) (dst + falling n k) (piece_len n k) (dst + (n - 128 * suc k)) (min n (128 * suc k)) (below k w) M.block,
          lacking-part a f (dst + (n - 128 * suc k)) (min n (128 * suc k)) dst n (omega arith) (omega arith),
        ),
      ))
      (piece-law d f (dst + falling n k) (piece_len n k) M.exists (omega arith) (omega arith) (omega (arith, M.long)) (omega arith))

  -- where the free blocks are enough for all, every step of it is done
  pub made-goes : lacking a f dst n ≤ free_count a → (k : ℕ) → k ≤ pieces n → (d : List ℕ) × (made_to a f dst n k ≡ done d)
  made-goes room k l = let M = ok-does (to_made k l) (λ r F. omega (arith, F.1)) in (M.0, M.1)

  making : (k : ℕ) (d : List ℕ) → k ≤ pieces n → made_to a f dst n k ≡ done d → Making a f (dst + n) (dst + (n - 128 * k)) (min n (128 * k)) d
  making k d l e = ok-done (subst (Ok (Making a f (dst + n) (dst + (n - 128 * k)) (min n (128 * k))) (λ r. (r ≡ 17) × (free_count a < lacking a f dst n))) e (to_made k l))

  -- while pieces are left
  module _ (k : ℕ) (d : List ℕ) (l : k < pieces n) (e : made_to a f dst n k ≡ done d) where
    pub made-there : there d f ≡ true
    made-there = (making k d (omega arith) e).exists

    next-done : lacking a f dst n ≤ free_count a → (c : List ℕ) × (made_piece d f (dst + falling n k) (piece_len n k) ≡ done c)
    unfolding made_to
    next-done room =
        let N = made-goes room (suc k) l in
        (N.0, sym (ap (λ (o : Out (List ℕ)). bind o (λ x. made_piece x f (dst + falling n k) (piece_len n k))) e) ∙ N.1)

    -- a block of the next piece that is absent finds a free one
    pub made-room : lacking a f dst n ≤ free_count a → present d f ((dst + falling n k) / 480) ≡ false → free_of d < blocks d
    unfolding made_piece
    made-room room =
        let N = next-done room in
        let B = bind-is-done (made_blk d f ((dst + falling n k) / 480)) (λ x. made_blk x f ((dst + falling n k + piece_len n k - 1) / 480)) N.0 N.1 in
        made-finds d f ((dst + falling n k) / 480) B.0 B.1

    -- and so does its second one, once the first is made
    pub made-room-next : lacking a f dst n ≤ free_count a → (c : List ℕ) → made_blk d f ((dst + falling n k) / 480) ≡ done c
        → present c f ((dst + falling n k + piece_len n k - 1) / 480) ≡ false → free_of c < blocks c
    unfolding made_piece
    made-room-next room c h =
        let N = next-done room in
        let z : made_blk c f ((dst + falling n k + piece_len n k - 1) / 480) ≡ done N.0 =
        sym (ap (λ (o : Out (List ℕ)). bind o (λ x. made_blk x f ((dst + falling n k + piece_len n k - 1) / 480))) h) ∙ N.1 in
        made-finds c f ((dst + falling n k + piece_len n k - 1) / 480) N.0 z

  -- ---- in a sound arena

  module _ (ok : sound a ≡ true) (B : Bytes a) where
    -- what is left after k pieces
    pub made-upto : (k : ℕ) (d : List ℕ) → k ≤ pieces n → made_to a f dst n k ≡ done d → MadeUpto a f (dst + n) (dst + (n - 128 * k)) (min n (128 * k)) d
    made-upto k d l e = let M = making k d l e in let S : Stays a f d = M.stays in record {
      size = S.size;
      bytes = S.bytes B;
      keeps = sound-after a d f ok (S.tidy B (sound-tidy a ok)) (record {
        under = λ q y. (
          M.exists,
          ⊎_elim
              (λ x. let u = (sound-inside a ok f).under q x in omega (arith, M.long, u.1))
              (λ x.
              let w : lo (dst + (n - 128 * k)) q < hi (dst + (n - 128 * k)) (min n (128 * k)) q = ltb-true (lo (dst + (n - 128 * k)) q) (hi (dst + (n - 128 * k)) (min n (128 * k)) q) x in
              omega (arith, M.long))
              (or_cases (present a f q) (touches (dst + (n - 128 * k)) (min n (128 * k)) q) (sym (M.block q) ∙ y)),
        );
        past = λ p g. S.byte p ∙ (sound-inside a ok f).past p (omega (arith, M.long));
      }) S.others;
      free = M.free;
      exists = M.exists;
      long = M.long;
      block = M.block;
      byte = S.byte;
      head = S.head;
      place = S.place;
      used = S.used;
      others = S.others;
    }

    -- and after all
    pub made-is : (m : List ℕ) → made_to a f dst n (pieces n) ≡ done m → Made a f dst n m
    made-is m e =
        let x : dst + (n - 128 * pieces n) ≡ dst = omega (arith, pieces-all n) in
        let y : min n (128 * pieces n) ≡ n = omega (arith, pieces-all n) in
        subst (λ (p : ℕ). MadeUpto a f (dst + n) p n m) x (subst (λ (k : ℕ). MadeUpto a f (dst + n) (dst + (n - 128 * pieces n)) k m) y (made-upto (pieces n) m (omega arith) e))

-- every block that n bytes from dst on touch is there then
pub made-here : (a : List ℕ) (f : File) (dst n : ℕ) (m : List ℕ) → Made a f dst n m → (q : ℕ) → touches dst n q ≡ true → present m f q ≡ true
made-here a f dst n m M q t = M.block q ∙ or-second (present a f q) t

-- and so is every block that was
pub made_kept : (a : List ℕ) (f : File) (top pos n : ℕ) (d : List ℕ) → MadeUpto a f top pos n d → (q : ℕ) → present a f q ≡ true → present d f q ≡ true
made_kept a f top pos n d M q y = M.block q ∙ or-first (touches pos n q) y

-- ---- pieces that move up, and the blocks that they make

module _ (a : List ℕ) (f : File) (src dst n : ℕ) (was : there a f ≡ true) (range : dst + n ≤ longest) (long : src + n ≤ length_of a f) where
  -- one piece
  piece-moves : (k : ℕ) → 128 * k < n → (m u : List ℕ) → there u f ≡ true → length_of a f ≤ length_of u f → SameFronts m (raise u f (dst + falling n k + piece_len n k))
      → Likewise (made_piece m f (dst + falling n k) (piece_len n k)) (copy_piece u f (src + falling n k) (dst + falling n k) (piece_len n k))
  unfolding copy_piece
  piece-moves k w m u y g A =
      let z : length (tab (byte_at u f) (src + falling n k) (piece_len n k)) ≡ piece_len n k = length-tab (byte_at u f) (src + falling n k) (piece_len n k) in
      rw (read_done u f (src + falling n k) (piece_len n k) y (omega arith))
      (subst (λ (i : ℕ). Likewise (made_piece m f (dst + falling n k) i) (put_file u f (dst + falling n k) (tab (byte_at u f) (src + falling n k) (piece_len n k)))) z
      (piece-fronts m u f (dst + falling n k) (tab (byte_at u f) (src + falling n k) (piece_len n k)) y (omega arith) (omega arith)
      (subst (λ (i : ℕ). SameFronts m (raise u f (dst + falling n k + i))) (sym z) A) (omega arith)))

  up-fronts : (k : ℕ) → suc k ≤ pieces n → Likewise (made_to a f dst n (suc k)) (up_to a f src dst n (suc k))
  unfolding made_to up_to raise
  up-fronts zero l =
      let w : 128 * 0 < n = piece-in n 0 l in
      let z : dst + n ≡ dst + falling n 0 + piece_len n 0 = omega arith in
      piece-moves 0 w (raise a f (dst + n)) a was (omega arith) (subst (λ (i : ℕ). SameFronts (raise a f (dst + n)) (raise a f i)) z (fronts-refl (raise a f (dst + n))))
  up-fronts (suc k) l =
      let w : 128 * suc k < n = piece-in n (suc k) l in
      like-bind (up-fronts k (omega arith)) λ m u h _ A.
      let M = making a f dst n was range (suc k) m (omega arith) h in
      let g : length_of m f ≡ length_of u f = fronts-length m u A f in
      piece-moves (suc k) w m u (sym (fronts-there m u A f) ∙ M.exists) (omega (arith, M.long))
      (rw (le-ltb (length_of u f) (dst + falling n (suc k) + piece_len n (suc k)) (omega (arith, M.long))) A)

  all-fronts : 0 < n → Likewise (made_to a f dst n (pieces n)) (copy_up a f src dst n)
  unfolding copy_up
  all-fronts some =
      let z : suc (pieces n - 1) ≡ pieces n = omega arith in
      subst (λ (k : ℕ). Likewise (made_to a f dst n k) (up_to a f src dst n k)) z (up-fronts (pieces n - 1) (omega arith))

-- ---- the same bytes, and so the same arena

module _ (a : List ℕ) (f : File) (src dst n : ℕ) (B : Bytes a) (was : there a f ≡ true) (long : src + n ≤ length_of a f) where
  -- the bytes that are moved
  size-moved : length (tab (byte_at a f) src n) ≡ n
  size-moved = length-tab (byte_at a f) src n

  bytes-moved : Bytes (tab (byte_at a f) src n)
  bytes-moved = read-bytes a f src n (tab (byte_at a f) src n) B (record { was = was; range = long; size = size-moved; byte = λ i m. get_or-tab (byte_at a f) src n i m })

  module _ (m u c : List ℕ) (M : Made a f dst n m) (C : Copied a f src dst 0 n (dst + n) u) (P : Put m f dst (tab (byte_at a f) src n) c) where
    own : (p : ℕ) → byte_at u f p ≡ byte_at c f p
    own p =
        ⊎_elim
        (λ low. C.outside p (λ g. absurd (omega arith)) ∙ sym (M.byte p) ∙ sym (P.outside p (λ g. absurd (omega arith))))
        (λ (g : dst ≤ p). ⊎_elim
        (λ inside.
        ap (byte_at u f) (let z : p ≡ dst + (p - dst) = omega arith in z)
        ∙ C.inside (p - dst) (omega arith) (omega arith)
        ∙ sym (P.inside p g (omega (arith, size-moved)) ∙ get_or-tab (byte_at a f) src n (p - dst) (omega arith)))
        (λ past. C.outside p (λ _. omega arith) ∙ sym (M.byte p) ∙ sym (P.outside p (λ _. omega (arith, size-moved))))
        (lt-or-le p (dst + n)))
        (lt-or-le p dst)

    every : (g : File) (p : ℕ) → byte_at u g p ≡ byte_at c g p
    every g p = ⊎_elim
        (λ (e : f ≡ g). subst (λ (h : File). byte_at u h p ≡ byte_at c h p) e (own p))
        (λ x. (C.filled.files g x).byte p ∙ sym ((M.others g x).byte p) ∙ sym ((P.others g x).byte p))
        (file-cases f g)

    moved_same : SameFronts m u → SameFronts m c → u ≡ c
    moved_same A D =
        fronts-same u c (fronts-next (fronts-sym A) D) C.filled.keeps (P.keeps M.bytes bytes-moved M.keeps) C.filled.bytes (P.bytes M.bytes bytes-moved) every

-- the pieces come to the same as their blocks made, and then one write of the whole part
pub up-put : UpPut
unfolding UpPut
up-put a f src dst n ok B was ahead some range long room =
    let N = made-goes a f dst n was range room (pieces n) (omega arith) in
    let U = like-done (all-fronts a f src dst n was range long some) N.0 N.1 in
    let M = made-is a f dst n was range ok B N.0 N.1 in
    let C = ok-done (subst (Ok (Copied a f src dst 0 n (dst + n)) (λ _. Unit)) U.1 (up-law a f src dst n B ok (λ _. Unit) tt (λ _. tt) (λ _. tt) ahead)) in
    U.1 ∙ last N.0 U.0 M C U.2 ∙ sym (ap (λ (o : Out (List ℕ)). bind o (λ m. put_file m f dst (tab (byte_at a f) src n))) N.1)
  where
    last : (m u : List ℕ) → Made a f dst n m → Copied a f src dst 0 n (dst + n) u → SameFronts m u → done u ≡ put_file m f dst (tab (byte_at a f) src n)
    last m u M C A =
        let z : length (tab (byte_at a f) src n) ≡ n = length-tab (byte_at a f) src n in
        let W = put-over m f dst (tab (byte_at a f) src n) M.exists (omega (arith, M.long)) (omega arith) (λ q t. made-here a f dst n m M q (subst (λ (i : ℕ). touches dst i q ≡ true) z t)) in
        ap done (moved_same a f src dst n B was long m u W.0 M C W.2 A W.3) ∙ sym W.1
