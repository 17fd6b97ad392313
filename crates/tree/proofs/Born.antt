-- A node more, at links 0 and open: a file, or a folder with its two slots. A tidy tree stays so.
use mathlib.Core.Path.{◌≡◌, refl, sym, ap, ◌∙◌, subst}
use mathlib.Core.Bool.{Bool, true, false, ◌&&◌}
use mathlib.Core.List.{[], ◌∷◌}
use mathlib.Core.Logic.{◌≢◌, ◌⊎◌, inl, inr, ⊎_elim}
use Prim.Native.Nat.{ℕ, zero, suc, ◌+◌, ◌*◌, ◌-◌, ◌≤◌, ◌<◌}
use native.Mathlib.Omega.{arith}
use lib.Dec.{eqb}
use borrow.Author.Tests.{ne_eqb}
use Rattle.base.specs.Count.{sum_to, count_to}
use Rattle.base.specs.Search.{pick}
use Rattle.base.proofs.Bools.{bool_cases, true-false}
use Rattle.base.proofs.Counts.{sum_to-cong, sum_to-join, sum_to-zero, count_to-cong, count_to-none}
use Rattle.base.proofs.Finds.{eq-cases}
use Rattle.structs.specs.Constants.{type_dir}
use Rattle.structs.specs.Types.{is_folder}
use Rattle.structs.specs.declared.DiskEntry.{DiskEntry}
use Rattle.utf8.specs.Names.{name_of}
use Rattle.tree.proofs.Trees.{pick-like, folder-is, parent-lives}
use Rattle.tree.specs.Tree.{Spelling, Tree, folder_at, names_of, all_names, subs_of, parent, up, LaterIn, FolderIn, LinkedIn, RemovedIn, Lives, NamedBy, Tidy}

-- w is v, with node c too; there may be more ids
pub record Born (v w : Tree) (c : ℕ) : Type 0 where
  pub ids : v.ids ≤ w.ids
  pub new : v.node c ≡ false
  pub inside : c < w.ids
  pub apart : c ≢ 2
  pub is : w.node c ≡ true
  pub node : (i : ℕ) → i ≢ c → w.node i ≡ v.node i
  pub kind : (i : ℕ) → v.node i ≡ true → w.kind i ≡ v.kind i
  pub links : (i : ℕ) → v.node i ≡ true → w.links i ≡ v.links i
  pub blocks : (i : ℕ) → v.node i ≡ true → w.blocks i ≡ v.blocks i
  pub size : (i : ℕ) → v.node i ≡ true → w.size i ≡ v.size i
  pub long : (i : ℕ) → v.node i ≡ true → w.long i ≡ v.long i
  pub slots : (i : ℕ) → folder_at v i ≡ true → (k : ℕ) → k < v.blocks i → w.slot i k ≡ v.slot i k
  pub opened : (i : ℕ) → v.node i ≡ true → v.opened i ≡ true → w.opened i ≡ true
  pub none : w.links c ≡ 0
  pub held : w.opened c ≡ true
  pub two : is_folder (w.kind c) ≡ true → w.blocks c ≡ 2
  pub empty : is_folder (w.kind c) ≡ false → w.long c ≡ w.size c
  pub filled : is_folder (w.kind c) ≡ true → w.long c ≡ 528
  pub dot : is_folder (w.kind c) ≡ true → name_of (w.slot c 0).name ≡ 46 ∷ []
  pub own : is_folder (w.kind c) ≡ true → (w.slot c 0).id ≡ c
  pub dot-kind : is_folder (w.kind c) ≡ true → (w.slot c 0).kind ≡ type_dir
  pub dots : is_folder (w.kind c) ≡ true → name_of (w.slot c 1).name ≡ 46 ∷ 46 ∷ []
  pub dots-kind : is_folder (w.kind c) ≡ true → (w.slot c 1).kind ≡ type_dir

module _ (v w : Tree) (c : ℕ) {style : Spelling} (I : Tidy style v) (R : Born v w c) where
  other : (i : ℕ) → v.node i ≡ true → i ≢ c
  other i n e = true-false (ap v.node (sym e) ∙ n) R.new

  stays : (i : ℕ) → v.node i ≡ true → w.node i ≡ true
  stays i n = R.node i (other i n) ∙ n

  was : (i : ℕ) → w.node i ≡ true → i ≢ c → v.node i ≡ true
  was i n d = sym (R.node i d) ∙ n

  folder-same : (i : ℕ) → i ≢ c → folder_at w i ≡ folder_at v i
  folder-same i d =
      ap (λ (b : Bool). b && is_folder (w.kind i)) (R.node i d)
      ∙ ⊎_elim
      (λ (n : v.node i ≡ true). ap (λ (k : ℕ). v.node i && is_folder k) (R.kind i n))
      (λ (n : v.node i ≡ false). rw n refl)
      (bool_cases (v.node i))

  keeps : (i : ℕ) → folder_at v i ≡ true → folder_at w i ≡ true
  keeps i f = folder-same i (other i (folder-is v i f)) ∙ f

  dir-is : folder_at w c ≡ true → is_folder (w.kind c) ≡ true
  dir-is f = sym (ap (λ (b : Bool). b && is_folder (w.kind c)) R.is) ∙ f

  file-is : folder_at w c ≡ false → is_folder (w.kind c) ≡ false
  file-is f = sym (ap (λ (b : Bool). b && is_folder (w.kind c)) R.is) ∙ f

  count_same : (q : DiskEntry → Bool) (i : ℕ) → folder_at v i ≡ true → count_to (λ j. q (w.slot i (2 + j))) (w.blocks i - 2) ≡ count_to (λ j. q (v.slot i (2 + j))) (v.blocks i - 2)
  count_same q i f =
      ap (λ (m : ℕ). count_to (λ j. q (w.slot i (2 + j))) (m - 2)) (R.blocks i (folder-is v i f))
      ∙ count_to-cong (λ j. q (w.slot i (2 + j))) (λ j. q (v.slot i (2 + j))) (v.blocks i - 2) (λ j l. ap q (R.slots i f (2 + j) (omega arith)))

  names_same : (i x : ℕ) → folder_at v i ≡ true → names_of w i x ≡ names_of v i x
  unfolding names_of
  names_same i x f = count_same (λ s. eqb s.id x) i f

  subs-same : (i : ℕ) → folder_at v i ≡ true → subs_of w i ≡ subs_of v i
  unfolding subs_of
  subs-same i f = count_same (λ s. is_folder s.kind) i f

  names-none : (x : ℕ) → is_folder (w.kind c) ≡ true → names_of w c x ≡ 0
  unfolding names_of count_to sum_to
  names-none x f = ap (λ (m : ℕ). count_to (λ j. eqb (w.slot c (2 + j)).id x) (m - 2)) (R.two f)

  times-same : (x i : ℕ) → pick (folder_at w i) (names_of w i x) 0 ≡ pick (folder_at v i) (names_of v i x) 0
  times-same x i =
      ⊎_elim
      (λ (e : i ≡ c). subst (λ (j : ℕ). pick (folder_at w j) (names_of w j x) 0 ≡ pick (folder_at v j) (names_of v j x) 0) (sym e)
      (zeroes (folder_at w c) refl ∙ sym (ap (λ (b : Bool). pick (b && is_folder (v.kind c)) (names_of v c x) 0) R.new)))
      (λ d. ap (λ (b : Bool). pick b (names_of w i x) 0) (folder-same i d) ∙ pick-like (folder_at v i) (λ f. names_same i x f))
      (eq-cases i c)
    where
      zeroes : (b : Bool) → folder_at w c ≡ b → pick b (names_of w c x) 0 ≡ 0
      zeroes true e = names-none x (dir-is e)
      zeroes false e = refl

  -- ids past v's are no folders of v
  past : (x i : ℕ) → v.ids ≤ i → pick (folder_at v i) (names_of v i x) 0 ≡ 0
  past x i l = go (folder_at v i) refl
    where
      go : (b : Bool) → folder_at v i ≡ b → pick b (names_of v i x) 0 ≡ 0
      go true e = absurd (omega (arith, I.below i (folder-is v i e)))
      go false e = refl

  all_same : (x : ℕ) → all_names w x ≡ all_names v x
  unfolding all_names
  all_same x =
      let f : ℕ → ℕ = λ i. pick (folder_at v i) (names_of v i x) 0 in
      let m : ℕ = w.ids - v.ids in
      sum_to-cong (λ i. pick (folder_at w i) (names_of w i x) 0) (λ i. pick (folder_at v i) (names_of v i x) 0) w.ids (λ i l. times-same x i)
      ∙ ap (sum_to (λ i. pick (folder_at v i) (names_of v i x) 0)) (let z : w.ids ≡ v.ids + (w.ids - v.ids) = omega (arith, R.ids) in z)
      ∙ sum_to-join (λ i. pick (folder_at v i) (names_of v i x) 0) v.ids (w.ids - v.ids)
      ∙ ap (λ (n : ℕ). sum_to (λ i. pick (folder_at v i) (names_of v i x) 0) v.ids + n)
      (sum_to-cong (λ i. pick (folder_at v (v.ids + i)) (names_of v (v.ids + i) x) 0) (λ i. 0) (w.ids - v.ids) (λ i l. past x (v.ids + i) (omega arith)) ∙ sum_to-zero (w.ids - v.ids))
      ∙ omega arith

  -- nobody names what was no node
  nobody : (i k : ℕ) → folder_at v i ≡ true → 2 ≤ k → k < v.blocks i → (v.slot i k).id ≢ c
  nobody i k f l m e = other (v.slot i k).id ((I.folder i f).later k l m).node e

  unnamed : all_names v c ≡ 0
  unfolding all_names names_of
  unnamed = sum_to-cong (λ i. pick (folder_at v i) (names_of v i c) 0) (λ i. 0) v.ids (λ i l. go i (folder_at v i) refl) ∙ sum_to-zero v.ids
    where
      go : (i : ℕ) (b : Bool) → folder_at v i ≡ b → pick b (names_of v i c) 0 ≡ 0
      go i true e = count_to-none (λ j. eqb (v.slot i (2 + j)).id c) (v.blocks i - 2) (λ j l. ne_eqb (v.slot i (2 + j)).id c (nobody i (2 + j) e (omega arith) (omega arith)))
      go i false e = refl

  later_same : (s : DiskEntry) → LaterIn style v s → LaterIn style w s
  later_same s L = record { ended = L.ended; some = L.some; no-dot = L.no-dot; no-dots = L.no-dots; spelt = L.spelt; node = stays s.id L.node; kind = R.kind s.id L.node ∙ L.kind }

  folder-else : (i : ℕ) → folder_at v i ≡ true → FolderIn style w i
  folder-else i f =
      let F = I.folder i f in
      let b = R.blocks i (folder-is v i f) in
      let s : (k : ℕ) → k < v.blocks i → w.slot i k ≡ v.slot i k = R.slots i f in
      record {
        blocks = omega (arith, F.blocks, b);
        length = R.long i (folder-is v i f) ∙ F.length ∙ ap (λ (m : ℕ). 264 * m) (sym b);
        dot = rw (s 0 (omega (arith, F.blocks))) F.dot;
        own = rw (s 0 (omega (arith, F.blocks))) F.own;
        dot-kind = rw (s 0 (omega (arith, F.blocks))) F.dot-kind;
        dots = rw (s 1 (omega (arith, F.blocks))) F.dots;
        dots-kind = rw (s 1 (omega (arith, F.blocks))) F.dots-kind;
        later = λ k x y. let l : k < v.blocks i = omega (arith, b) in rw (s k l) (later_same (v.slot i k) (F.later k x l));
        distinct = λ j k x y z. let l : k < v.blocks i = omega (arith, b) in rw (s j (omega arith), s k l) (F.distinct j k x y l);
      }

  folder-new : is_folder (w.kind c) ≡ true → FolderIn style w c
  folder-new f = record {
    blocks = omega (arith, R.two f);
    length = R.filled f ∙ omega (arith, R.two f);
    dot = R.dot f;
    own = R.own f;
    dot-kind = R.dot-kind f;
    dots = R.dots f;
    dots-kind = R.dots-kind f;
    later = λ k x y. absurd (omega (arith, R.two f));
    distinct = λ j k x y z. absurd (omega (arith, R.two f));
  }

  lived : (i : ℕ) → Lives w i → Lives v i
  lived i l =
      let d : i ≢ c = λ e. l.links (ap w.links e ∙ R.none) in
      let f : folder_at v i ≡ true = sym (folder-same i d) ∙ l.folder in
      record { folder = f; links = λ z. l.links (R.links i (folder-is v i f) ∙ z) }

  parent-same : (i : ℕ) → folder_at v i ≡ true → parent w i ≡ parent v i
  parent-same i f = ap (λ (s : DiskEntry). s.id) (R.slots i f 1 (omega (arith, (I.folder i f).blocks)))

  up_same : (i : ℕ) → Lives v i → (n : ℕ) → (up w i n ≡ up v i n) × Lives v (up v i n)
  unfolding up
  up_same i l zero = (refl, l)
  up_same i l (suc n) =
      let q = up_same i l n in
      (ap (parent w) q.0 ∙ parent-same (up v i n) q.1.folder, parent-lives v I (up v i n) q.1)

  either-old : (i : ℕ) → folder_at v i ≡ true → LinkedIn w i ⊎ RemovedIn w i
  either-old i f =
      let n = folder-is v i f in
      ⊎_elim
      (λ (h : LinkedIn v i). inl (record { links = R.links i n ∙ h.links ∙ ap (λ (z : ℕ). 2 + z) (sym (subs-same i f)); root = λ z. all_same i ∙ h.root z; once = λ z. all_same i ∙ h.once z }))
      (λ (h : RemovedIn v i). inr (record { apart = h.apart; opened = R.opened i n h.opened; links = R.links i n ∙ h.links; unnamed = all_same i ∙ h.unnamed; slots = R.blocks i n ∙ h.slots }))
      (I.either i f)

  pub born-tidy : Tidy style w
  born-tidy = record {
    below = λ i n. ⊎_elim (λ (e : i ≡ c). subst (λ (j : ℕ). j < w.ids) (sym e) R.inside) (λ d. omega (arith, I.below i (was i n d), R.ids)) (eq-cases i c);
    two = record { folder = keeps 2 I.two.folder; links = λ z. I.two.links (sym (R.links 2 (folder-is v 2 I.two.folder)) ∙ z) };
    folder = λ i f. ⊎_elim
        (λ (e : i ≡ c). subst (FolderIn style w) (sym e) (folder-new (dir-is (ap (folder_at w) (sym e) ∙ f))))
        (λ d. folder-else i (sym (folder-same i d) ∙ f))
        (eq-cases i c);
    sized = λ i n f. ⊎_elim
        (λ (e : i ≡ c). subst (λ (j : ℕ). w.long j ≡ w.size j) (sym e) (R.empty (file-is (ap (folder_at w) (sym e) ∙ f))))
        (λ d. R.long i (was i n d) ∙ I.sized i (was i n d) (sym (folder-same i d) ∙ f) ∙ sym (R.size i (was i n d)))
        (eq-cases i c);
    other = λ i n f. ⊎_elim
        (λ (e : i ≡ c). subst (λ (j : ℕ). w.links j ≡ all_names w j) (sym e) (R.none ∙ sym unnamed ∙ sym (all_same c)))
        (λ d. R.links i (was i n d) ∙ I.other i (was i n d) (sym (folder-same i d) ∙ f) ∙ sym (all_same i))
        (eq-cases i c);
    unnamed = λ i n f z. ⊎_elim
        (λ (e : i ≡ c). ap w.opened e ∙ R.held)
        (λ d. R.opened i (was i n d) (I.unnamed i (was i n d) (sym (folder-same i d) ∙ f) (sym (R.links i (was i n d)) ∙ z)))
        (eq-cases i c);
    either = λ i f. ⊎_elim
        (λ (e : i ≡ c). inr (subst (RemovedIn w) (sym e)
        (record { apart = R.apart; opened = R.held; links = R.none; unnamed = all_same c ∙ unnamed; slots = R.two (dir-is (ap (folder_at w) (sym e) ∙ f)) })))
        (λ d. either-old i (sym (folder-same i d) ∙ f))
        (eq-cases i c);
    root = parent-same 2 I.two.folder ∙ I.root;
    parents = λ i l n. let o = lived i l in ap (folder_at w) (parent-same i o.folder) ∙ keeps (parent v i) (I.parents i o n);
    names = λ i l n. let o = lived i l in
        let k = I.names i o n in
        let f : folder_at v (parent v i) ≡ true = I.parents i o n in
        subst (λ (p : ℕ). NamedBy w p i) (sym (parent-same i o.folder))
        (record { at = k.at; later = k.later; inside = omega (arith, k.inside, R.blocks (parent v i) (folder-is v (parent v i) f)); is = ap (λ (s : DiskEntry). s.id) (R.slots (parent v i) f k.at k.inside) ∙ k.is });
    climbs = λ i l. let o = lived i l in let q = I.climbs i o in (q.0, (up_same i o q.0).0 ∙ q.1);
  }
