-- "then changed records are stored by rising id": one turn, for a record that changes and for one that doesn't.
use mathlib.Core.Path.{◌≡◌, refl, sym, ap, ◌∙◌, subst}
use mathlib.Core.Bool.{Bool, true, false, not, ◌&&◌}
use mathlib.Core.List.{List}
use mathlib.Core.Logic.{⊎_elim}
use Prim.Native.Nat.{ℕ, suc, ◌+◌, ◌*◌, ◌-◌, ◌≤◌, ◌<◌}
use native.Mathlib.Numerals.{add-one}
use native.Mathlib.Omega.{arith}
use lib.Dec.{eqb}
use lib.ListN.{get_or}
use Rattle.base.specs.Out.{Out, done, bind, Ok}
use Rattle.base.specs.Search.{pick}
use Rattle.base.proofs.Bools.{bool_cases, true-false}
use Rattle.base.proofs.Outs.{ok-done, ok-does, bind-is-done}
use Rattle.structs.specs.Layout.{record_of, record_bytes}
use Rattle.structs.specs.Types.{is_folder}
use Rattle.structs.specs.declared.DiskINode.{DiskINode}
use Rattle.table.specs.declared.Table.{Table}
use Rattle.table.specs.Table.{empty_table}
use Rattle.arena.specs.Blocks.{blk, blocks}
use Rattle.arena.specs.Fields.{number_of}
use Rattle.arena.specs.Places.{free_count}
use Rattle.arena.proofs.Blocks.{legal-is}
use Rattle.files.specs.Read.{there, length_of}
use Rattle.files.specs.Store.{put_file}
use Rattle.files_laws.specs.Laws.{lacking}
use Rattle.files_laws.proofs.Put.{put_is}
use Rattle.files_laws.proofs.Views.{length-here}
use Rattle.sefs.specs.State.{Fs, with_arena}
use Rattle.sefs.specs.Meta.{meta_file}
use Rattle.sefs.specs.Nodes.{node_file}
use Rattle.sefs.specs.Records.{with_links, with_size}
use Rattle.sefs.specs.Ask.{start}
use Rattle.rules.specs.Image.{ids_in, is_node, stored_bytes}
use Rattle.chains.specs.Led.{head_at}
use Rattle.mem.specs.Mem.{meta_in}
use Rattle.mending.specs.Mendable.{rec_in, Mendable}
use Rattle.mending.specs.Mend.{stays, mended, changed, free_to, store_one, store_to}
use Rattle.mending.proofs.Fates.{node-zero, stays-node, not-lost, mended-folder, mended-other}
use Rattle.mending.proofs.Tables.{rec-stored}
use Rattle.mending.proofs.Frees.{Freed}
use Rattle.mending.proofs.Stores.{Stored, Short, src-long, changed-stays, store-law}
use Rattle.mend_plan.specs.Plan.{gone}
use Rattle.mend_plan.proofs.Records.{can-mend}
use Rattle.mend_plan.proofs.Fates.{changed-is, changed-fate}
use Rattle.mend_plan.proofs.Rooms.{stored_yes, stored_no}
use Rattle.mend_stores.specs.Stores.{state_of, Storable, PutInMeta, renewed_by, FreedTo, Begun, StoredTo}
use Rattle.mend_stores.proofs.Places.{head-some, head-number, head-below}
use Rattle.mend_stores.proofs.Frees.{freed-is}

store-suc : (a : List ℕ) (s : Fs) (n : ℕ) (d : Fs) → store_to a s n ≡ done d → store_to a s (suc n) ≡ pick (changed a n) (store_one a d n) (done d)
unfolding store_to
store-suc a s n d e = rw e refl

-- a node's record with the links and the size that it has to have
renewed-mended : (a : List ℕ) (id : ℕ) → renewed_by (rec_in a id) (mended a id).nlinks (length_of a (node_file (rec_in a id))) ≡ mended a id
unfolding renewed_by
renewed-mended a id =
    ⊎_elim
    (λ (f : is_folder (rec_in a id).kind ≡ true). rw f (ap (λ (r : DiskINode). with_links (rec_in a id) r.nlinks) (mended-folder a id f) ∙ sym (mended-folder a id f)))
    (λ (f : is_folder (rec_in a id).kind ≡ false). rw f (ap (λ (r : DiskINode). with_size (with_links (rec_in a id) r.nlinks) (length_of a (node_file (rec_in a id)))) (mended-other a id f) ∙ sym (mended-other a id f)))
    (bool_cases (is_folder (rec_in a id).kind))

-- c is the arena once the files are gone
module _ (a m c work : List ℕ) (n : ℕ) (first : List ℕ) (B : Begun a m c work first n) where
  pub begun-mendable : Mendable a
  begun-mendable = can-mend a B.can

  gone-all : FreedTo a c m (ids_in a)
  gone-all = subst (FreedTo a c m) B.all B.freed

  pub begun-freed : (t : Table) → Freed a (ids_in a) (state_of c t m)
  begun-freed = freed-is a begun-mendable (ids_in a) c m gone-all (omega arith)

  -- ---- before the first turn

  pub stored-none : StoredTo a c m first 0 0
  unfolding store_to
  stored-none = record {
    steps = λ t. ap (λ (o : Out Fs). bind o (λ s. store_to a s 0)) (gone-all.steps t);
    heads = λ id s. gone-all.heads id (stays-node a id s) (λ e. absurd (true-false e (not-lost a id s)));
    placed = B.placed;
    used = omega arith;
  }

  -- ---- turn id: d is the arena

  module _ (id : ℕ) (d places : List ℕ) (from : ℕ) (S : StoredTo a d m places id from) where
    steps-are : (t : Table) → store_to a (state_of c t m) id ≡ done (state_of d t m)
    steps-are t = sym (ap (λ (o : Out Fs). bind o (λ s. store_to a s id)) (gone-all.steps t)) ∙ S.steps t

    pub stored_is : id ≤ ids_in a → Stored a c (meta_in m) id (state_of d empty_table m)
    stored_is l = ok-done (subst (Ok (Stored a c (meta_in m) id) (Short a c)) (steps-are empty_table) (store-law a begun-mendable (state_of c empty_table m) (begun-freed empty_table) id l))

    module _ (l : id < n) where
      -- as the code asks whether the record changes
      told : (b : Bool) → (not (eqb (get_or work id 0) 0) && not (eqb (get_or work id 0) gone)) ≡ b → changed a id ≡ b
      told b e = sym (changed-is a begun-mendable id) ∙ ap (λ (v : ℕ). not (eqb v 0) && not (eqb v gone)) (sym (B.fated.fate id l)) ∙ e

      pub plan-changed : (get_or work id 0 ≡ 0 → ⊥) → (get_or work id 0 ≡ gone → ⊥) → changed a id ≡ true
      plan-changed d e = told true (stored_yes _ d e)

      pub plan-same : ((get_or work id 0 ≡ 0 → ⊥) → (get_or work id 0 ≡ gone → ⊥) → ⊥) → changed a id ≡ false
      plan-same e = told false (stored_no _ e)

      below : id < ids_in a
      below = omega (arith, B.all)

      next : (t : Table) (e : List ℕ) → pick (changed a id) (store_one a (state_of d t m) id) (done (state_of d t m)) ≡ done (state_of e t m) → bind (free_to a (start a t) (ids_in a)) (λ s. store_to a s (id + 1)) ≡ done (state_of e t m)
      next t e h = rw add-one (ap (λ (o : Out Fs). bind o (λ s. store_to a s (suc id))) (gone-all.steps t) ∙ store-suc a (state_of c t m) id (state_of d t m) (steps-are t) ∙ h)

      -- it doesn't change
      pub stored-skip : changed a id ≡ false → StoredTo a d m places (id + 1) from
      stored-skip e = record { steps = λ t. next t d (rw e refl); heads = S.heads; placed = S.placed; used = S.used }

      -- it changes
      module _ (e : changed a id ≡ true) where
        stay : stays a id ≡ true
        stay = changed-stays a id e

        node : is_node a id ≡ true
        node = stays-node a id stay

        is : Stored a c (meta_in m) id (state_of d empty_table m)
        is = stored_is (omega (arith, below))

        -- the blocks are enough for it
        enough : lacking d meta_file (128 * id) 112 ≤ free_count d
        unfolding store_one
        enough =
            let r = ok-does (store-law a begun-mendable (state_of c empty_table m) (begun-freed empty_table) (suc id) (omega (arith, below))) (λ k x. absurd (omega (arith, x.1, (begun-freed empty_table).free, B.room))) in
            let o : store_one a (state_of d empty_table m) id ≡ done r.0 = sym (store-suc a (state_of c empty_table m) id (state_of d empty_table m) (steps-are empty_table) ∙ ap (λ (b : Bool). pick b (store_one a (state_of d empty_table m) id) (done (state_of d empty_table m))) e) ∙ r.1 in
            let p = bind-is-done (put_file d meta_file (128 * id) (record_bytes (mended a id))) (λ x. done (with_arena (state_of d empty_table m) x)) r.0 o in
            subst (λ (k : ℕ). lacking d meta_file (128 * id) k ≤ free_count d) (src-long a id node) (put_is d meta_file (128 * id) (record_bytes (mended a id)) p.0 p.1).room

        pub storable : Storable d places (128 * id) 112 from
        storable = record {
          most = omega (arith, is.size, (legal-is a begun-mendable.rule1.length).most);
          exists = is.there;
          long = omega (arith, is.long, begun-mendable.rule3.length, begun-mendable.rule3.few);
          below = omega (arith, is.long, begun-mendable.rule3.length, below);
          room = enough;
          placed = S.placed;
          used = S.used;
        }

        -- the head of its file
        there-still : there d (node_file (rec_in a id)) ≡ true
        there-still = (is.files (rec_in a id).file).exists ∙ ((begun-freed empty_table).kept id node (λ x. absurd (true-false x (not-lost a id stay)))).exists ∙ begun-mendable.rule5.own id node

        module _ (k : ℕ) (place : k ≡ get_or work (4096 + id) 0) where
          at : k ≡ head_at d (node_file (rec_in a id))
          at = place ∙ B.fated.head id l node ∙ sym (S.heads id stay)

          pub place-some : 0 < k
          place-some = head-some d (node_file (rec_in a id)) there-still k at

          pub place-below : k - 1 < blocks d
          place-below = head-below d (node_file (rec_in a id)) there-still k at

          head-long : number_of (blk d (k - 1)) ≡ length_of a (node_file (rec_in a id))
          head-long =
              ap (λ (x : ℕ). number_of (blk d x)) (head-number d (node_file (rec_in a id)) there-still k at)
              ∙ sym (length-here d (node_file (rec_in a id)) there-still)
              ∙ (is.files (rec_in a id).file).long
              ∙ ((begun-freed empty_table).kept id node (λ x. absurd (true-false x (not-lost a id stay)))).long

          record_is : (links : ℕ) → links ≡ get_or work id 0 → renewed_by (record_of (stored_bytes d id)) links (number_of (blk d (k - 1))) ≡ mended a id
          record_is links is-links =
              let r : record_of (stored_bytes d id) ≡ rec_in a id = ap record_of (is.old id (omega arith)) ∙ sym (rec-stored a id (node-zero a id node)) in
              let v : links ≡ (mended a id).nlinks = is-links ∙ B.fated.fate id l ∙ changed-fate a id e in
              (λ x. renewed_by (r x) (v x) (head-long x)) ∙ renewed-mended a id

          pub stored_more : (links : ℕ) → links ≡ get_or work id 0 → (x after : List ℕ) (at : ℕ)
              → PutInMeta d x after (128 * id) (record_bytes (renewed_by (record_of (stored_bytes d id)) links (number_of (blk d (k - 1))))) at → StoredTo a x m after (id + 1) at
          unfolding store_one
          stored_more links is-links x after at W =
              let p : put_file d meta_file (128 * id) (record_bytes (mended a id)) ≡ done x = ap (λ (r : DiskINode). put_file d meta_file (128 * id) (record_bytes r)) (sym (record_is links is-links)) ∙ W.put in
              record {
                steps = λ t. next t x (rw (e, p) refl);
                heads = λ i s. W.heads (node_file (rec_in a i)) ∙ S.heads i s;
                placed = W.placed;
                used = W.used;
              }
