-- Bytes written in two runs, the second where the first ends, are written in one: arena for arena, whatever else the arena holds.
use mathlib.Core.Path.{◌≡◌, refl, sym, ap, ap₂, ◌∙◌, subst}
use mathlib.Core.Bool.{true}
use mathlib.Core.List.{List, ◌++◌}
use mathlib.Core.Logic.{⊎_elim}
use Prim.Native.Nat.{ℕ, zero, suc, ◌+◌, ◌*◌, ◌-◌, ◌/◌, ◌≤◌, ◌<◌}
use native.Mathlib.Nat.{eq-or-lt_of_le, le_of_suc-le-suc}
use native.Mathlib.Omega.{arith}
use lib.ListN.{length, take, drop, length-append, length-drop}
use lib.Seq.{take-append-le, drop-append-le, drop_at, drop-drop}
use borrow.Author.Tests.{ltb-true}
use Rattle.base.specs.Out.{Out, done, bind}
use Rattle.base.specs.Parts.{part}
use Rattle.base.proofs.Bools.{bool_cases}
use Rattle.base.proofs.Lists.{length_part}
use Rattle.base.proofs.Outs.{bind_assoc}
use Rattle.base.proofs.Parts.{part_join}
use Rattle.arena.specs.Fields.{File}
use Rattle.files.specs.Read.{there}
use Rattle.files.specs.Store.{longest, write_blk, raise, lo, hi, put_block, put_to, touched, put_file}
use Rattle.files_laws.proofs.Put.{touched-is, put-upto, put_next, put_all, put-missing}
use Rattle.files_laws.proofs.Stored.{bind-where, write-write, raise-raise, raise-write}

-- ---- parts of two lists

part_left : (l m : List ℕ) (s e : ℕ) → s ≤ e → e ≤ length l → part (l ++ m) s e ≡ part l s e
part_left l m s e a b = ap (take (e - s)) (drop-append-le s l m (omega arith)) ∙ take-append-le (e - s) (drop s l) m (omega (arith, length-drop s l))

part_right : (l m : List ℕ) (s e : ℕ) → part (l ++ m) (length l + s) (length l + e) ≡ part m s e
part_right l m s e =
    ap₂ (λ (n : ℕ) (b : List ℕ). take n b) (let q : length l + e - (length l + s) ≡ e - s = omega arith in q)
    (sym (drop-drop s (length l) (l ++ m)) ∙ ap (drop s) (drop_at l m (length l) refl))

part-both : (l m : List ℕ) (s e : ℕ) → s ≤ length l → part (l ++ m) s (length l + e) ≡ part l s (length l) ++ part m 0 e
part-both l m s e h =
    let x : s + (length l - s + e) ≡ length l + e = omega arith in
    let y : s + (length l - s) ≡ length l = omega arith in
    let z : length l ≡ length l + 0 = omega arith in
    ap (part (l ++ m) s) (sym x)
    ∙ part_join (l ++ m) s (length l - s) e
    ∙ ap (λ (n : ℕ). part (l ++ m) s n ++ part (l ++ m) n (n + e)) y
    ∙ ap₂ (λ (b c : List ℕ). b ++ c) (part_left l m s (length l) h (omega arith)) (ap (λ (n : ℕ). part (l ++ m) n (length l + e)) z ∙ part_right l m 0 e)

-- ---- one block

-- the part of a run that block q has fits into it
run_fits : (pos : ℕ) (src : List ℕ) (q : ℕ) → lo pos q < hi pos (length src) q → lo pos q - 480 * q + length (part src (lo pos q - pos) (hi pos (length src) q - pos)) ≤ 480
run_fits pos src q l = omega (arith, length_part src (lo pos q - pos) (hi pos (length src) q - pos) (omega arith) (omega arith))

-- the length raised before or after a block is written
block-raise : (d : List ℕ) (f : File) (pos : ℕ) (src : List ℕ) (q len : ℕ) → there d f ≡ true → lo pos q < hi pos (length src) q → pos + length src ≤ longest → len ≤ longest
    → put_block (raise d f len) f pos src q ≡ bind (put_block d f pos src q) (λ e. done (raise e f len))
unfolding put_block
block-raise d f pos src q len y l r g = raise-write d f y q (lo pos q - 480 * q) (part src (lo pos q - pos) (hi pos (length src) q - pos)) (run_fits pos src q l) (omega arith) len g

module _ (d : List ℕ) (f : File) (pos : ℕ) (l m : List ℕ) (q : ℕ) where
  -- a block of the first run alone
  block-left : lo pos q < hi pos (length l) q → 480 * q + 480 ≤ pos + length l → put_block d f pos (l ++ m) q ≡ put_block d f pos l q
  unfolding put_block
  block-left b h =
      let e : hi pos (length (l ++ m)) q - pos ≡ hi pos (length l) q - pos = omega (arith, length-append l m) in
      ap (λ (n : ℕ). write_blk d f q (lo pos q - 480 * q) (part (l ++ m) (lo pos q - pos) n)) e
      ∙ ap (write_blk d f q (lo pos q - 480 * q)) (part_left l m (lo pos q - pos) (hi pos (length l) q - pos) (omega arith) (omega arith))

  -- where the second run ends in block q, counted from the first's start
  end-right : pos + length l ≤ 480 * q + 480 → hi pos (length (l ++ m)) q - pos ≡ length l + (hi (pos + length l) (length m) q - (pos + length l))
  end-right h = omega (arith, length-append l m)

  -- of the second alone
  block-right : pos + length l ≤ 480 * q → put_block d f pos (l ++ m) q ≡ put_block d f (pos + length l) m q
  unfolding put_block
  block-right h =
      ap₂ (λ (i : ℕ) (b : List ℕ). write_blk d f q i b) (let x : lo pos q - 480 * q ≡ lo (pos + length l) q - 480 * q = omega arith in x)
      (ap₂ (part (l ++ m)) (let x : lo pos q - pos ≡ length l + (lo (pos + length l) q - (pos + length l)) = omega arith in x) (end-right (omega arith))
      ∙ part_right l m (lo (pos + length l) q - (pos + length l)) (hi (pos + length l) (length m) q - (pos + length l)))

  -- of both: where the first's part begins, how much of the second it has
  abbrev off : ℕ
  off = lo pos q - 480 * q

  abbrev from : ℕ
  from = lo pos q - pos

  abbrev rest : ℕ
  rest = hi (pos + length l) (length m) q - (pos + length l)

  module _ (some : 0 < length l) (low : 480 * q < pos + length l) (high : pos + length l < 480 * q + 480) where
    within : from ≤ length l
    within = omega arith

    upto : off + (length l - from) ≡ pos + length l - 480 * q
    upto = omega arith

    rest-fits : pos + length l - 480 * q + rest ≤ 480
    rest-fits = omega arith

    length-first : length (part l from (length l)) ≡ length l - from
    length-first = length_part l from (length l) within (omega arith)

    length_rest : length (part m 0 rest) ≡ rest
    length_rest = length_part m 0 rest (omega arith) (omega arith) ∙ omega arith

    second : off + length (part l from (length l)) ≡ pos + length l - 480 * q
    second = ap (λ (n : ℕ). off + n) length-first ∙ upto

    both-fit : off + length (part l from (length l)) + length (part m 0 rest) ≤ 480
    both-fit = rw (second, length_rest) rest-fits

    block-both : there d f ≡ true → pos + length l ≤ longest → put_block d f pos (l ++ m) q ≡ bind (put_block d f pos l q) (λ e. put_block e f (pos + length l) m q)
    unfolding put_block
    block-both y range =
        ap (λ (i : ℕ). write_blk d f q off (part (l ++ m) from i)) (end-right (omega arith))
        ∙ ap (write_blk d f q off) (part-both l m from rest within)
        ∙ sym (write-write d f q off y (omega arith) (part l from (length l)) (part m 0 rest) both-fit)
        ∙ ap₂ (λ (i j : ℕ). bind (write_blk d f q off (part l from i)) (λ e. write_blk e f q j (part m 0 rest)))
        (let x : length l ≡ hi pos (length l) q - pos = omega arith in x)
        (second ∙ (let x : pos + length l - 480 * q ≡ lo (pos + length l) q - 480 * q = omega arith in x))
        ∙ ap (λ (i : ℕ). bind (write_blk d f q off (part l from (hi pos (length l) q - pos))) (λ e. write_blk e f q (lo (pos + length l) q - 480 * q) (part m i rest)))
        (let x : 0 ≡ lo (pos + length l) q - (pos + length l) = omega arith in x)

-- ---- block by block

touched-some : (pos n : ℕ) → 0 < n → pos / 480 + touched pos n ≡ (pos + n - 1) / 480 + 1
unfolding touched
touched-some pos zero l = absurd (omega arith)
touched-some pos (suc n) l = let e : pos + suc n - 1 ≡ pos + n = omega arith in rw e (omega arith)

module _ (a : List ℕ) (f : File) (pos : ℕ) (l m : List ℕ) (some : 0 < length l) (more : 0 < length m) (range : pos + length l + length m ≤ longest) (was : there a f ≡ true) where
  -- where the first run ends, where the second does, and how many blocks the first touches
  abbrev mid : ℕ
  mid = pos + length l

  abbrev end : ℕ
  end = mid + length m

  abbrev firsts : ℕ
  firsts = touched pos (length l)

  last : pos / 480 + firsts ≡ (mid - 1) / 480 + 1
  last = touched-some pos (length l) some

  meets : (i : ℕ) → i < firsts → lo pos (pos / 480 + i) < hi pos (length l) (pos / 480 + i)
  meets i h = ltb-true _ _ (touched-is pos (length l) i h)

  is-there : (i : ℕ) (d : List ℕ) → i ≤ firsts → put_to a f pos l i ≡ done d → there d f ≡ true
  is-there i d h e = (put-upto a f pos l was (omega arith) i d h e).exists

  -- blocks that the first run fills to their end
  first_run : (i : ℕ) → i ≤ firsts → 480 * (pos / 480 + i) ≤ mid → put_to a f pos (l ++ m) i ≡ bind (put_to a f pos l i) (λ d. done (raise d f end))
  unfolding put_to
  first_run zero h g = ap done (ap (raise a f) (let e : pos + length (l ++ m) ≡ end = omega (arith, length-append l m) in e) ∙ sym (raise-raise a f was mid end (omega arith) range))
  first_run (suc i) h g =
      let q : ℕ = pos / 480 + i in
      ap (λ (o : Out (List ℕ)). bind o (λ d. put_block d f pos (l ++ m) q)) (first_run i (omega arith) (omega arith))
      ∙ bind_assoc (put_to a f pos l i) _ _
      ∙ bind-where (put_to a f pos l i) (λ d e.
      block-left (raise d f end) f pos l m q (meets i (omega arith)) (omega arith)
      ∙ block-raise d f pos l q end (is-there i d (omega arith) e) (meets i (omega arith)) (omega arith) range)
      ∙ sym (bind_assoc (put_to a f pos l i) _ _)

  -- a block that both touch
  shared : (i : ℕ) → i < firsts → 480 * (pos / 480 + i) < mid → mid < 480 * (pos / 480 + i) + 480
      → put_to a f pos (l ++ m) (suc i) ≡ bind (put_to a f pos l (suc i)) (λ d. put_block (raise d f end) f mid m (pos / 480 + i))
  unfolding put_to
  shared i h low high =
      let q : ℕ = pos / 480 + i in
      ap (λ (o : Out (List ℕ)). bind o (λ d. put_block d f pos (l ++ m) q)) (first_run i (omega arith) (omega arith))
      ∙ bind_assoc (put_to a f pos l i) _ _
      ∙ bind-where (put_to a f pos l i) (λ d e.
      let y : there d f ≡ true = is-there i d (omega arith) e in
      block-raise d f pos (l ++ m) q end y (omega (arith, length-append l m, meets i h)) (omega (arith, length-append l m)) range
      ∙ ap (λ (o : Out (List ℕ)). bind o (λ c. done (raise c f end))) (block-both d f pos l m q some low high y (omega arith))
      ∙ bind_assoc (put_block d f pos l q) _ _
      ∙ bind-where (put_block d f pos l q) (λ c g.
      sym (block-raise c f mid m q end ((put_next a f pos l was (omega arith) i d c h e g).exists ∙ y) (omega arith) range range)))
      ∙ sym (bind_assoc (put_to a f pos l i) _ _)

  -- i blocks of both, where the first has all its own, are j of the second after them
  abbrev Both : ℕ → ℕ → Type 0
  Both i j = put_to a f pos (l ++ m) i ≡ bind (put_to a f pos l firsts) (λ d. put_to d f mid m j)

  -- at the first's last block; where that is shared, one of the second
  crossed : (j : ℕ) → pos / 480 + firsts ≡ mid / 480 + j → Both firsts j
  unfolding put_to
  crossed zero e = first_run firsts (omega arith) (omega arith)
  crossed (suc zero) e =
      let z : firsts ≡ suc (firsts - 1) = omega (arith, last) in
      let w : pos / 480 + (firsts - 1) ≡ mid / 480 + 0 = omega (arith, last) in
      subst (λ (n : ℕ). put_to a f pos (l ++ m) n ≡ bind (put_to a f pos l n) (λ d. put_block (raise d f end) f mid m (mid / 480 + 0))) (sym z)
      (subst (λ (q : ℕ). put_to a f pos (l ++ m) (suc (firsts - 1)) ≡ bind (put_to a f pos l (suc (firsts - 1))) (λ d. put_block (raise d f end) f mid m q)) w
      (shared (firsts - 1) (omega arith) (omega (arith, last)) (omega (arith, last))))
  crossed (suc (suc j)) e = absurd (omega (arith, last))

  -- one block more, of the second alone
  one_more_lem : (i j : ℕ) → pos / 480 + i ≡ mid / 480 + j → mid ≤ 480 * (pos / 480 + i) → Both i j → Both (suc i) (suc j)
  unfolding put_to
  one_more_lem i j e g both =
      ap (λ (o : Out (List ℕ)). bind o (λ d. put_block d f pos (l ++ m) (pos / 480 + i))) both
      ∙ bind_assoc (put_to a f pos l firsts) _ _
      ∙ bind-where (put_to a f pos l firsts) (λ d _. bind-where (put_to d f mid m j) (λ c _. block-right c f pos l m (pos / 480 + i) g ∙ ap (put_block c f mid m) e))

  second_run : (i j : ℕ) → firsts ≤ i → pos / 480 + i ≡ mid / 480 + j → Both i j
  second_run zero j h e = absurd (omega (arith, last))
  second_run (suc i) zero h e = subst (λ (n : ℕ). Both n 0) (let z : firsts ≡ suc i = omega (arith, last) in z) (crossed 0 (omega (arith, last)))
  second_run (suc i) (suc j) h e =
      ⊎_elim
      (λ (z : firsts ≡ suc i). subst (λ (n : ℕ). Both n (suc j)) z (crossed (suc j) (omega arith)))
      (λ g. one_more_lem i j (omega arith) (omega (arith, last)) (second_run i j (le_of_suc-le-suc g) (omega arith)))
      (eq-or-lt_of_le h)

  both_runs : put_file a f pos (l ++ m) ≡ bind (put_file a f pos l) (λ d. put_file d f mid m)
  both_runs =
      let n : length (l ++ m) ≡ length l + length m = length-append l m in
      let x : pos / 480 + touched pos (length (l ++ m)) ≡ (pos + length (l ++ m) - 1) / 480 + 1 = touched-some pos (length (l ++ m)) (omega arith) in
      let y : mid / 480 + touched mid (length m) ≡ (mid + length m - 1) / 480 + 1 = touched-some mid (length m) more in
      put_all a f pos (l ++ m) was (omega arith)
      ∙ second_run (touched pos (length (l ++ m))) (touched mid (length m)) (omega (arith, last)) (omega arith)
      ∙ bind-where (put_to a f pos l firsts) (λ d e. sym (put_all d f mid m (is-there firsts d (omega arith) e) range))
      ∙ ap (λ (o : Out (List ℕ)). bind o (λ d. put_file d f mid m)) (sym (put_all a f pos l was (omega arith)))

-- two runs are one
pub put-join : (a : List ℕ) (f : File) (pos : ℕ) (l m : List ℕ) → 0 < length l → 0 < length m → pos + length l + length m ≤ longest
    → put_file a f pos (l ++ m) ≡ bind (put_file a f pos l) (λ d. put_file d f (pos + length l) m)
put-join a f pos l m some more range = ⊎_elim
    (λ y. both_runs a f pos l m some more range y)
    (λ n. put-missing a f pos (l ++ m) n ∙ sym (ap (λ (o : Out (List ℕ)). bind o (λ d. put_file d f (pos + length l) m)) (put-missing a f pos l n)))
    (bool_cases (there a f))
