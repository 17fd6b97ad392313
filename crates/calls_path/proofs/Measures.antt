-- The first pass: what is known after n turns, and what it says at its end.
use mathlib.Core.Path.{◌≡◌, refl, sym, ap, ◌∙◌, subst}
use mathlib.Core.Bool.{Bool, true, false}
use mathlib.Core.List.{List, [], ◌∷◌, ◌++◌, append-nil, append_assoc}
use mathlib.Core.Logic.{◌≢◌, ⊎_elim}
use Prim.Native.Nat.{ℕ, suc, ◌+◌, ◌-◌, ◌*◌, ◌/◌, ◌%◌, ◌≤◌, ◌<◌}
use native.Mathlib.Nat.{eq-or-lt_of_le}
use native.Mathlib.Omega.{arith}
use lib.Dec.{eqb}
use lib.ListN.{length, get_or, set, length-set, length-append}
use lib.Seq.{get_or-set_same, get_or-set_other}
use borrow.Author.Tests.{eq-eqb, ne_eqb, eqb-true}
use Rattle.base.specs.Out.{Out, done, refused, bind, said}
use Rattle.base.specs.Search.{pick}
use Rattle.base.proofs.Finds.{eq-cases}
use Rattle.structs.specs.declared.DiskINode.{DiskINode}
use Rattle.sefs.specs.State.{Fs}
use Rattle.sefs_laws.proofs.Says.{Says, says-done, says-pick}
use Rattle.walk.specs.Walk.{spot}
use Rattle.paths.specs.Path.{most_folders, names_to, slashed}
use Rattle.paths.specs.Spans.{reached, step_up, up_by}
use Rattle.paths.proofs.Paths.{names-root}
use Rattle.paths.proofs.Turns.{step-was, step-goes, step-sticks, up_more}
use Rattle.mem.specs.Mem.{super_in, maps_in, meta_in}
use Rattle.calls_path.specs.Path.{marked, Marks, Measures, MeasuredAt}

-- what is in memory of superblock and maps has no other reason
pub meta-says : (m : List ℕ) → Says (λ k. k ≡ 19) (meta_in m)
unfolding meta_in
meta-says m = says-pick (eqb (get_or m 4402 0) 1) (done (record { super = super_in m; maps = maps_in m })) (refused 19) says-done (said refl)

-- ---- marks

module _ (m : List ℕ) (n id : ℕ) where
  pub mark-sets : n % 32 ≡ 0 → set m (n / 32) id ≡ marked m n id
  unfolding marked
  mark-sets e = ap (λ (b : Bool). pick b (set m (n / 32) id) m) (sym (eq-eqb (n % 32) 0 e))

  pub mark-leaves : (n % 32 ≡ 0 → ⊥) → m ≡ marked m n id
  unfolding marked
  mark-leaves e = ap (λ (b : Bool). pick b (set m (n / 32) id) m) (sym (ne_eqb (n % 32) 0 e))

  length_marked : length (marked m n id) ≡ length m
  unfolding marked
  length_marked = go (eqb (n % 32) 0)
    where
      go : (b : Bool) → length (pick b (set m (n / 32) id) m) ≡ length m
      go true = length-set m (n / 32) id
      go false = refl

  -- those that were there stay
  mark-kept : (k : ℕ) → 32 * k < n → get_or (marked m n id) k 0 ≡ get_or m k 0
  unfolding marked
  mark-kept k h = go (eqb (n % 32) 0) refl
    where
      go : (b : Bool) → eqb (n % 32) 0 ≡ b → get_or (pick b (set m (n / 32) id) m) k 0 ≡ get_or m k 0
      go true e = get_or-set_other m (n / 32) k id 0 (let z : n % 32 ≡ 0 = eqb-true (n % 32) 0 e in omega arith)
      go false e = refl

  -- and the folder where a span begins is there
  mark-there : length m ≡ 128 → n < 4096 → (k : ℕ) → 32 * k ≡ n → get_or (marked m n id) k 0 ≡ id
  unfolding marked
  mark-there l h k e =
      let q : n / 32 ≡ k = omega arith in
      ap (λ (b : Bool). get_or (pick b (set m (n / 32) id) m) k 0) (eq-eqb (n % 32) 0 (omega arith))
      ∙ ap (λ (j : ℕ). get_or (set m j id) k 0) q
      ∙ get_or-set_same m k id 0 (omega arith)

module _ (s : Fs) (x : ℕ) (r : DiskINode) where
  marks-more : (m : List ℕ) (n id : ℕ) (d : DiskINode) → length m ≡ 128 → n < 4096 → up_by s n x r ≡ done (spot id d) → Marks s x r m n → Marks s x r (marked m n id) (n + 1)
  marks-more m n id d l h e M k p q =
      ⊎_elim
      (λ (z : 32 * k ≡ n). (d, ap (λ (i : ℕ). up_by s i x r) z ∙ e ∙ ap (λ (i : ℕ). done (spot i d)) (sym (mark-there m n id l h k z))))
      (λ (z : 32 * k < n). let u = M k p z in (u.0, u.1 ∙ ap (λ (i : ℕ). done (spot i u.0)) (sym (mark-kept m n id k z))))
      (eq-or-lt_of_le (let y : 32 * k ≤ n = omega arith in y))

  -- ---- after n turns: `tail` are the names of the n folders that were passed

  pub record Climbing (m : List ℕ) (at : ℕ) (dir : DiskINode) (bytes n : ℕ) : Type 0 where
    pub few : n ≤ 4096
    pub up : up_by s n x r ≡ done (spot at dir)
    pub tail : List (List ℕ)
    pub long : length tail ≡ n
    pub size : length (slashed tail) ≡ bytes
    pub small : bytes ≤ 256 * n
    pub names : names_to s 4096 x r ≡ bind (names_to s (4096 - n) at dir) (λ l. done (l ++ tail))
    pub room : length m ≡ 128
    pub marks : Marks s x r m n

  no-tail : (o : Out (List (List ℕ))) → o ≡ bind o (λ l. done (l ++ []))
  no-tail (done l) = ap done (sym (append-nil l))
  no-tail (refused n) = refl

  pub climb-starts : (m : List ℕ) → length m ≡ 128 → Climbing m x r 0 0
  unfolding up_by slashed
  climb-starts m l =
      record { few = omega arith; up = refl; tail = []; long = refl; size = refl; small = omega arith; names = no-tail (names_to s 4096 x r); room = l; marks = λ k p q. absurd (omega arith) }

  more-tail : (o : Out (List (List ℕ))) (p : List ℕ) (tail : List (List ℕ)) → bind (bind o (λ l. done (l ++ (p ∷ [])))) (λ l. done (l ++ tail)) ≡ bind o (λ l. done (l ++ (p ∷ tail)))
  more-tail (done l) p tail = ap done (append_assoc l (p ∷ []) tail)
  more-tail (refused n) p tail = refl

  module _ {m : List ℕ} {at : ℕ} {dir : DiskINode} {bytes n : ℕ} (C : Climbing m at dir bytes n) where
    -- a folder that is not root's may still be climbed from
    left : n < 4096 → names_to s (4096 - n) at dir ≡ names_to s (suc (4096 - (n + 1))) at dir
    left h = ap (λ (i : ℕ). names_to s i at dir) (let q : 4096 - n ≡ suc (4096 - (n + 1)) = omega arith in q)

    pub climb-on : {w : List ℕ} → w ≡ marked m n at → (id : ℕ) (d : DiskINode) (long : ℕ) → n < 4096 → at ≢ 2 → step_up s at dir ≡ done (reached (spot id d) long) → long ≤ 255
        → Climbing w id d (bytes + (1 + long)) (n + 1)
    unfolding slashed
    climb-on q id d long h z e few =
        let S = step-was s at dir (reached (spot id d) long) e in
        record {
          few = omega arith;
          up = ap (λ (i : ℕ). up_by s i x r) (let q : n + 1 ≡ suc n = omega arith in q) ∙ up_more s n x r (spot at dir) (spot id d) C.up S.above;
          tail = S.name ∷ C.tail;
          long = omega (arith, C.long);
          size = omega (arith, C.size, S.long, length-append S.name (slashed C.tail));
          small = omega (arith, C.small);
          names =
              C.names
              ∙ ap (λ (o : Out (List (List ℕ))). bind o (λ l. done (l ++ C.tail))) (left h ∙ step-goes s (4096 - (n + 1)) at dir z (reached (spot id d) long) S)
              ∙ more-tail (names_to s (4096 - (n + 1)) id d) S.name C.tail;
          room = ap length q ∙ length_marked m n at ∙ C.room;
          marks = subst (λ (l : List ℕ). Marks s x r l (n + 1)) (sym q) (marks-more m n at dir C.room h C.up C.marks);
        }

    -- what the climb from there is refused by, the whole is
    stuck-by : (k : ℕ) → names_to s (4096 - n) at dir ≡ refused k → names_to s most_folders x r ≡ refused k
    stuck-by k e = C.names ∙ ap (λ (o : Out (List (List ℕ))). bind o (λ l. done (l ++ C.tail))) e

    pub climb-stuck : Says (λ k. k ≡ 19) s.meta → (k : ℕ) (w : List ℕ) (f b : ℕ) → n < 4096 → at ≢ 2 → step_up s at dir ≡ refused k → k ≢ 0 → Measures s x r w f b k
    climb-stuck q k w f b h z e o =
        record { sticks = λ _. stuck-by k (left h ∙ step-sticks s (4096 - (n + 1)) at dir z q k e); counts = λ y. absurd (o y) }

    -- at root
    root : at ≡ 2 → names_to s most_folders x r ≡ done C.tail
    root e =
        C.names
        ∙ ap (λ (i : ℕ). bind (names_to s (4096 - n) i dir) (λ l. done (l ++ C.tail))) e
        ∙ ap (λ (o : Out (List (List ℕ))). bind o (λ l. done (l ++ C.tail))) (names-root s (4096 - n) dir)

    lost : at ≢ 2 → n ≡ 4096 → names_to s (4096 - n) at dir ≡ refused 19
    unfolding names_to
    lost z e = ap (λ (i : ℕ). names_to s i at dir) (let q : 4096 - n ≡ 0 = omega arith in q) ∙ rw (ne_eqb at 2 z)

    pub climb-ends : {f b k : ℕ} → (at ≢ 2 → n ≡ 4096) → MeasuredAt at n bytes f b k → Measures s x r m f b k
    climb-ends {f = f} {b = b} {k = k} h M =
        ⊎_elim
        (λ e.
        let q = M.root e in
        record {
          sticks = λ z. absurd (z q.0);
          counts = λ _. record {
            names = C.tail;
            climbed = root e;
            long = C.long ∙ sym q.1;
            most = omega (arith, C.few, q.1);
            size = C.size ∙ sym q.2;
            room = C.room;
            marks = subst (Marks s x r m) (sym q.1) C.marks;
          };
        })
        (λ z.
        let q = M.other z in
        record { sticks = λ _. stuck-by k (lost z (h z) ∙ ap refused (sym q)); counts = λ y. absurd (omega (arith, q)) })
        (eq-cases at 2)
