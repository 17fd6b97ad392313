-- What a move asks of the two nodes, where the new name is there: their types are known, a folder goes onto an empty folder alone, and onto nothing
-- else; and the opening of the moved node ends with nothing changed but its row.
use mathlib.Core.Path.{refl, ◌≡◌, sym, ap, ◌∙◌, subst}
use Rattle.sefs_laws.proofs.Clear.{Clear, clear}
use mathlib.Core.Bool.{Bool, true, false}
use mathlib.Core.List.{List}
use mathlib.Core.Logic.{◌≢◌, ◌⊎◌, inl, inr, ⊎_elim}
use Prim.Native.Nat.{ℕ, zero, suc, ◌≤◌}
use native.Mathlib.Omega.{arith}
use lib.Dec.{leb}
use borrow.Author.Tests.{lt-ltb}
use Rattle.base.specs.Out.{done, Ok, went, said}
use Rattle.base.proofs.Outs.{ok-guard, ok-weaken}
use Rattle.base.proofs.Bools.{and_both, true-false, true-T}
use Rattle.base.proofs.Sames.{decided-yes}
use Rattle.base.proofs.Tests.{decides-leb}
use Rattle.base.specs.Search.{pick}
use Rattle.le.specs.Le.{Bytes}
use Rattle.structs.specs.Types.{is_folder, is_type, move_verdict_of}
use Rattle.structs.specs.declared.MoveVerdict.TheVariants.{Allowed, NotDir, IsDir, IfEmpty}
use Rattle.structs.specs.declared.DiskINode.{DiskINode}
use Rattle.table.specs.declared.Table.{Table}
use Rattle.table.specs.declared.Row.{Row}
use Rattle.table.specs.Table.{row_at}
use Rattle.table_laws.specs.Rules.{Holder, also, none}
use Rattle.sefs.specs.State.{Fs}
use Rattle.sefs.specs.Nodes.{Opened, rec_at, release}
use Rattle.sefs.specs.Slots.{slot_at}
use Rattle.sefs.specs.Ask.{start}
use Rattle.sefs.specs.Move.{read_slots, judge}
use Rattle.rules.specs.Image.{is_node, rec_of, is_folder_at, slot_in}
use Rattle.tree.specs.Tree.{Spelling}
use Rattle.image.specs.Midway.{Used, plain, Midway}
use Rattle.image.proofs.Slots.{slot_is}
use Rattle.image.proofs.Drops.{mid-rec}
use Rattle.image.proofs.Takes.{Gets, Got}
use Rattle.image.proofs.Releases.{LetGo, let_go}
use Rattle.rules.specs.Rules as rules

-- the type of a row in use
pub mid-type : {style : Spelling} {own : ℕ → Type 0} (a : List ℕ) (t : Table) → Midway style own a t → (i : ℕ) → Used t i → is_type (row_at t i).rec.kind ≡ true
mid-type a t M i u =
    let n : is_node a (row_at t i).id ≡ true = M.fair.rule4.node i u.below u.node in
    subst (λ (r : DiskINode). is_type r.kind ≡ true) (mid-rec a t M.formed i u)
    (and_both (lt-ltb 0 (rec_of a t (row_at t i).id).kind (M.fair.rule5.least (row_at t i).id n)) (decided-yes (decides-leb (rec_of a t (row_at t i).id).kind 4) (M.fair.rule5.most (row_at t i).id n)))

-- ---- the type rules

-- node d may be replaced by one of the type kc, and nothing was changed
pub record Judged (s : Fs) (kc d : ℕ) (x : Fs) : Type 0 where
  pub is : x ≡ s
  pub kinds : is_folder kc ≡ is_folder (rec_at s d).kind
  pub small : is_folder (rec_at s d).kind ≡ true → (rec_at s d).blocks ≤ 2

module _ (a : List ℕ) (t : Table) (A : rules.Allowed a t) (y : Bytes a) (u : Table) (d id : ℕ) (same : (row_at u d).rec ≡ rec_of a t id) (n : is_node a id ≡ true) where
  abbrev s : Fs
  s = start a u

  -- a folder's slots can be read
  reads : is_folder_at a t id ≡ true → (m : ℕ) → m ≤ (rec_of a t id).blocks → read_slots (start a u) d m ≡ done (start a u)
  unfolding read_slots
  reads f zero l = refl
  reads f (suc m) l =
      let e : slot_at a (row_at u d).rec m ≡ done (slot_in a (rec_of a t id) m) = ap (λ (r : DiskINode). slot_at a r m) same ∙ slot_is a t A y id f m (omega arith) in
      rw (reads f m (omega arith), e)

  pub judge-law : (kc : ℕ) → Ok (Judged (start a u) kc d) Clear (judge (move_verdict_of kc (row_at u d).rec.kind) (start a u) d)
  unfolding move_verdict_of is_folder_at
  judge-law kc = go (is_folder kc) (is_folder (row_at u d).rec.kind) refl refl
    where
      go : (p q : Bool) → is_folder kc ≡ p → is_folder (row_at u d).rec.kind ≡ q → Ok (Judged (start a u) kc d) Clear (judge (pick p (pick q IfEmpty NotDir) (pick q IsDir Allowed)) (start a u) d)
      go true true e f =
          ok-guard (leb (row_at u d).rec.blocks 2) 13 (clear 13 refl) λ l.
          let g : is_folder_at a t id ≡ true = and_both n (ap (λ (r : DiskINode). is_folder r.kind) (sym same) ∙ f) in
          rw (reads g (row_at u d).rec.blocks (omega (arith, ap (λ (r : DiskINode). r.blocks) same)))
          (went (record { is = refl; kinds = e ∙ sym f; small = λ z. (decides-leb (row_at u d).rec.blocks 2).right (true-T (leb (row_at u d).rec.blocks 2) l) }))
      go true false e f = said (clear 7 refl)
      go false true e f = said (clear 9 refl)
      go false false e f = went (record { is = refl; kinds = e ∙ sym f; small = λ z. absurd (true-false z f) })

-- ---- two nodes are opened, and the second opening ends

-- the table has the rows of t, row d for node id as well, and every node's record
pub record Ended (style : Spelling) (a : List ℕ) (t : Table) (d id : ℕ) (x : Fs) : Type 0 where
  pub table : Table
  pub is : x ≡ start a table
  pub mid : Midway style (also none d) a table
  pub rows : (j : ℕ) → Used t j → row_at table j ≡ row_at t j
  pub recs : (k : ℕ) → is_node a k ≡ true → rec_of a table k ≡ rec_of a t k
  pub used : Used table d
  pub same : (row_at table d).id ≡ id

module _ {style : Spelling} (a : List ℕ) (t : Table) (idd idc : ℕ) (o : Opened) (D : Got style a t idd o) (w : Opened) (C : Gets (plain style) (also none D.row) a D.table idc w) (apart : idc ≢ idd)
    (links : (row_at C.table C.row).rec.nlinks ≢ 0) where
  -- the row is held, or is new
  held : Holder C.table C.row ⊎ (((row_at C.table C.row).dirty ≡ false) × ((row_at D.table C.row).id ≡ 0))
  held = ⊎_elim (λ (e : C.table ≡ D.table). inl (subst (λ (v : Table). Holder v C.row) (sym e) (old e))) (λ h. inr h) C.how
    where
      old : C.table ≡ D.table → Holder D.table C.row
      old e =
          let q : (row_at D.table C.row).id ≡ idc = ap (λ (v : Table). (row_at v C.row).id) (sym e) ∙ C.same in
          ⊎_elim
          (λ (m : also none D.row C.row). ⊎_elim (λ z. absurd z) (λ (z : C.row ≡ D.row). absurd (apart (sym q ∙ ap (λ (x : ℕ). (row_at D.table x).id) z ∙ D.same))) m)
          (λ h. h)
          (D.mid.formed.held C.row C.used.below (λ z. C.used.node (ap (λ (v : Table). (row_at v C.row).id) e ∙ z)))

  kept : (x : Fs) (G : LetGo style (also none D.row) (start a C.table) C.row x) → (j : ℕ) → Used D.table j → row_at G.table j ≡ row_at D.table j
  kept x G j u =
      G.rows j (⊎_elim (λ h. inl h) (λ (h : ((row_at C.table C.row).dirty ≡ false) × ((row_at D.table C.row).id ≡ 0)). inr (λ q. u.node (ap (λ (m : ℕ). (row_at D.table m).id) q ∙ h.1))) held)
      ∙ C.rows j u

  still : (j : ℕ) → Used t j → Used D.table j
  still j u = record { below = u.below; node = λ z. u.node (ap (λ (x : Row). x.id) (sym (D.rows j u)) ∙ z) }

  pub ends-law : Ok (Ended style a t D.row idd) Clear (release (start a C.table) C.row)
  ends-law =
      ok-weaken
      (λ x G.
      let row : row_at G.table D.row ≡ row_at D.table D.row = kept x G D.row D.used in
      record {
        table = G.table;
        is = G.is;
        mid = G.mid;
        rows = λ j u. kept x G j (still j u) ∙ D.rows j u;
        recs = λ k n. G.recs k n ∙ C.recs k n ∙ D.recs k n;
        used = record { below = D.used.below; node = λ z. D.used.node (ap (λ (y : Row). y.id) (sym row) ∙ z) };
        same = ap (λ (y : Row). y.id) row ∙ D.same;
      })
      (λ n q. q)
      (let_go (start a C.table) C.row C.mid C.used (⊎_elim (λ h. inl h) (λ (h : ((row_at C.table C.row).dirty ≡ false) × ((row_at D.table C.row).id ≡ 0)). inr h.0) held) links)
