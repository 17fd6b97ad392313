-- "Files go first": one turn, for a node that goes and for one that doesn't.
use mathlib.Core.Path.{◌≡◌, refl, sym, ap, ◌∙◌, subst}
use mathlib.Core.Bool.{Bool, true, false}
use mathlib.Core.List.{List}
use mathlib.Core.Logic.{◌≢◌}
use Prim.Native.Nat.{ℕ, suc, ◌+◌, ◌*◌, ◌-◌, ◌≤◌, ◌<◌}
use native.Mathlib.Numerals.{add-one}
use native.Mathlib.Omega.{arith}
use lib.Dec.{ltb}
use lib.ListN.{get_or}
use borrow.Author.Tests.{lt-ltb, ltb-true}
use Rattle.base.specs.Out.{Out, done, bind, guard, Ok}
use Rattle.base.specs.Search.{pick}
use Rattle.base.proofs.Outs.{ok-done, ok-does}
use Rattle.base.proofs.Sames.{test-fails}
use Rattle.structs.specs.declared.SuperBlock.{SuperBlock}
use Rattle.table.specs.declared.Table.{Table}
use Rattle.table.specs.Table.{empty_table}
use Rattle.arena.specs.Blocks.{blk, blocks}
use Rattle.arena.specs.Fields.{File, file, name_of}
use Rattle.arena.specs.Places.{head_of}
use Rattle.arena.proofs.Fields.{head-is}
use Rattle.files.specs.Read.{there}
use Rattle.files.specs.Store.{drop_file, is_of, clear_all}
use Rattle.files_laws.proofs.Views.{there-hit}
use Rattle.sefs.specs.State.{Fs, Meta, with_arena, with_meta}
use Rattle.sefs.specs.Meta.{meta_file, is_used, free_block}
use Rattle.sefs.specs.Nodes.{node_file}
use Rattle.sefs.specs.Ask.{start}
use Rattle.rules.specs.Image.{ids_in, is_node}
use Rattle.chains.specs.Led.{head_at, block_at}
use Rattle.mem.specs.Mem.{super_in, Mapped}
use Rattle.nodes.specs.Steps.{meta_of}
use Rattle.nodes.proofs.Bytes.{meta-is, meta-has}
use Rattle.fsck_read.specs.Loaded.{Loaded, Of}
use Rattle.image.proofs.Metas.{node-other}
use Rattle.mending.specs.Mendable.{rec_in, Mendable}
use Rattle.mending.specs.Mend.{lost, free_one, free_to}
use Rattle.mending.proofs.Fates.{lost-says}
use Rattle.mending.proofs.Frees.{Freed, file-apart, free_law}
use Rattle.mending.proofs.Steps.{meta-loaded}
use Rattle.mend_plan.specs.Plan.{gone, Fated}
use Rattle.mend_plan.proofs.Fates.{lost-fate, fate-lost}
use Rattle.mend_stores.specs.Stores.{state_of, freed_in, FreedTo}
use Rattle.mend_stores.proofs.Places.{head-some, head-number, head-below, drop-heads, drop-blocks}

-- ---- what the plan says

pub ids-few : (a : List ℕ) (n : ℕ) → Mendable a → n ≡ ids_in a → n ≤ 4096
ids-few a n M e = omega (arith, M.rule3.few)

module _ (a work : List ℕ) (n id : ℕ) (M : Mendable a) (T : Fated a work n) (l : id < n) where
  pub plan-goes : get_or work id 0 ≡ gone → lost a id ≡ true
  plan-goes e = fate-lost a M id (sym (T.fate id l) ∙ e)

  pub plan-stays : (get_or work id 0 ≡ gone → ⊥) → lost a id ≡ false
  plan-stays h = test-fails (lost a id) (λ e. h (T.fate id l ∙ lost-fate a id e))

-- ---- a step

free-suc : (a : List ℕ) (s : Fs) (n : ℕ) (d : Fs) → free_to a s n ≡ done d → free_to a s (suc n) ≡ pick (lost a n) (free_one a d n) (done d)
unfolding free_to
free-suc a s n d e = rw e refl

-- two tests that a step has passed
guards : {A B : Type 0} (p q : Bool) (x : A) (k : A → Out B) (y : B) → bind (guard p 19 (guard q 19 (done x))) k ≡ done y → (p ≡ true) × ((q ≡ true) × (k x ≡ done y))
guards true true x k y e = (refl, (refl, e))
guards true false x k y e = absurd (let z : ◌≡◌ {A = ℕ} 0 1 = cc in omega arith)
guards false q x k y e = absurd (let z : ◌≡◌ {A = ℕ} 0 1 = cc in omega arith)

-- what it asks of the memory to free id
pub record Frees (m : List ℕ) (id : ℕ) : Type 0 where
  pub used : is_used (meta_of m) id ≡ true
  pub room : (super_in m).unused + 1 < 4294967296

module _ (a d m : List ℕ) (id : ℕ) (t : Table) (L : Loaded m) where
  split : free_one a (state_of d t m) id
      ≡ bind (guard (is_used (meta_of m) id) 19 (guard (ltb ((super_in m).unused + 1) 4294967296) 19 (done (with_meta (state_of d t m) (freed_in m id)))))
      (λ s. bind (drop_file s.arena (node_file (rec_in a id))) (λ d. done (with_arena s d)))
  unfolding free_one free_block
  split = rw (meta-is m L.read) refl

  free-asks : (s : Fs) → free_one a (state_of d t m) id ≡ done s → Frees m id
  free-asks s e =
      let g = guards (is_used (meta_of m) id) (ltb ((super_in m).unused + 1) 4294967296) (with_meta (state_of d t m) (freed_in m id)) (λ s. bind (drop_file s.arena (node_file (rec_in a id))) (λ d. done (with_arena s d))) s (sym split ∙ e) in
      record { used = g.0; room = ltb-true ((super_in m).unused + 1) 4294967296 g.1.0 }

  free-does : (F : Frees m id) → there d (node_file (rec_in a id)) ≡ true → (n : List ℕ) → Mapped m n (freed_in m id) → free_one a (state_of d t m) id ≡ done (state_of (clear_all (is_of (node_file (rec_in a id))) d) t n)
  unfolding drop_file
  free-does F h n M = split ∙ rw (F.used, lt-ltb ((super_in m).unused + 1) 4294967296 F.room, h, M.meta) refl

module _ (a : List ℕ) (M : Mendable a) where
  -- ---- before the first turn

  pub freed-none : (m : List ℕ) → Loaded m → Of a m → FreedTo a a m 0
  unfolding free_to
  freed-none m L O = record {
    steps = λ t z. done (record { arena = a; table = t; meta = (meta-loaded a M ∙ (λ x. done (record { super = sym O.super x; maps = sym O.maps x })) ∙ sym (meta-is m L.read)) z });
    loaded = L;
    heads = λ id n h. refl;
    blocks = λ q. refl;
  }

  -- ---- turn n: d is the arena, m the memory

  module _ (n : ℕ) (d m : List ℕ) (F : FreedTo a d m n) where
    pub freed-is : n ≤ ids_in a → (t : Table) → Freed a n (state_of d t m)
    freed-is l t = ok-done (subst (Ok (Freed a n) (λ r. ⊥)) (F.steps t) (free_law a M (start a t) (meta-loaded a M) refl n l))

    pub groups-same : n ≤ ids_in a → 1024 * (super_in m).groups ≡ ids_in a
    groups-same l =
        let G = freed-is l empty_table in
        let e : meta_of m ≡ G.m = (meta-has m G.m G.meta).1 in
        ap (λ (x : Meta). 1024 * x.super.groups) e ∙ ap (λ (b : SuperBlock). 1024 * b.groups) G.super

    -- it doesn't go
    pub freed-skip : lost a n ≡ false → FreedTo a d m (n + 1)
    freed-skip e = record {
      steps = λ t. rw add-one (free-suc a (start a t) n (state_of d t m) (F.steps t) ∙ rw e refl);
      loaded = F.loaded;
      heads = λ id x h. F.heads id x (λ y. let l = h y in omega arith);
      blocks = F.blocks;
    }

    -- it goes
    module _ (l : n < ids_in a) (e : lost a n ≡ true) where
      node : is_node a n ≡ true
      node = (lost-says a n e).0

      there-still : there d (node_file (rec_in a n)) ≡ true
      there-still = ((freed-is (omega arith) empty_table).kept n node (λ _. omega arith)).exists ∙ M.rule5.own n node

      pub frees : Frees m n
      frees =
          let r = ok-does (free_law a M (start a empty_table) (meta-loaded a M) refl (suc n) (omega arith)) (λ r x. x) in
          free-asks a d m n empty_table F.loaded r.0 (sym (free-suc a (start a empty_table) n (state_of d empty_table m) (F.steps empty_table) ∙ rw e refl) ∙ r.1)

      -- where the head of its file is
      module _ (c : ℕ) (is : c ≡ head_at a (node_file (rec_in a n))) where
        at : c ≡ head_at d (node_file (rec_in a n))
        at = is ∙ sym (F.heads n node (λ _. omega arith))

        pub gone-some : 0 < c
        gone-some = head-some d (node_file (rec_in a n)) there-still c at

        pub gone-below : c - 1 < blocks d
        gone-below = head-below d (node_file (rec_in a n)) there-still c at

        head-names : file 1 (name_of (blk d (c - 1))) ≡ node_file (rec_in a n)
        head-names =
            ap (λ (j : ℕ). file 1 (name_of (blk d j))) (head-number d (node_file (rec_in a n)) there-still c at)
            ∙ ap (λ (f : File). file 1 f.name) (head-is (node_file (rec_in a n)) (blk d (head_of d (node_file (rec_in a n)))) (there-hit d (node_file (rec_in a n)) there-still)).of

        pub freed-more : (x y : List ℕ) → x ≡ clear_all (is_of (file 1 (name_of (blk d (c - 1))))) d → Mapped m y (freed_in m n) → FreedTo a x y (n + 1)
        freed-more x y ex P =
            let X : x ≡ clear_all (is_of (node_file (rec_in a n))) d = ex ∙ ap (λ (f : File). clear_all (is_of f) d) head-names in
            let has = meta-has y (freed_in m n) P.meta in
            record {
              steps = λ t. rw add-one (free-suc a (start a t) n (state_of d t m) (F.steps t) ∙ rw e (free-does a d m n t F.loaded frees there-still y P ∙ ap (λ (v : List ℕ). done (state_of v t y)) (sym X)));
              loaded = record { whole = P.whole; read = has.0 };
              heads = λ id z h.
                  let apart : n ≢ id = λ q. let k = h (ap (lost a) (sym q) ∙ e) in omega arith in
                  ap (λ (v : List ℕ). head_at v (node_file (rec_in a id))) X ∙ drop-heads d (node_file (rec_in a n)) (node_file (rec_in a id)) (file-apart a M n id node z apart) ∙ F.heads id z (λ k. let j = h k in omega arith);
              blocks = λ q.
                  ap (λ (v : List ℕ). block_at v meta_file q) X ∙ drop-blocks d (node_file (rec_in a n)) meta_file (λ k. node-other (rec_in a n).file (sym k)) q ∙ F.blocks q;
            }
