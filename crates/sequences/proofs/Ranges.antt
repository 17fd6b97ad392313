-- Order 13's call on a pair that passes: it finds nothing stuck, the pair passes afterwards, and what it answers, exactly. And its reasons, by mode.
use mathlib.Core.Path.{◌≡◌, refl, sym, ap, ◌∙◌, subst}
use mathlib.Core.Bool.{true, false}
use mathlib.Core.List.{List}
use Prim.Native.Nat.{ℕ, ◌+◌}
use lib.Dec.{eqb}
use borrow.Author.Tests.{eqb-true}
use Rattle.base.specs.Out.{Out, done, refused, Ok, went, said}
use Rattle.base.proofs.Outs.{ok-done, ok-bind, ok-weaken}
use Rattle.base.proofs.Tests.{decides-leb}
use Rattle.base.proofs.Sames.{decided-yes}
use Rattle.structs.specs.Constants.{type_file}
use Rattle.structs.specs.Types.{is_folder}
use Rattle.structs.specs.declared.DiskINode.{DiskINode}
use Rattle.table.specs.declared.Table.{Table}
use Rattle.table.specs.declared.Handle.{Handle}
use Rattle.table.specs.Table.{row_at}
use Rattle.files.specs.Read.{there}
use Rattle.sefs.specs.Ask.{start}
use Rattle.sefs.specs.Create.{After}
use Rattle.rules.specs.Image.{rec_of}
use Rattle.rules.specs.Rules.{Allowed}
use Rattle.sefs_laws.specs.Contents.{file_at, Exact}
use Rattle.sefs_laws.proofs.Clear.{Clear, clear, clear-17}
use Rattle.sefs_laws.proofs.Says.{Says, says-done, says_then, says_is, says-end, ensure-yes, ensure-asks}
use Rattle.sefs_laws.proofs.Rows.{Any}
use Rattle.ranges.specs.Ranges.{plain_file, fits_mode, call_fallocate}
use Rattle.ranges.specs.Says.{BlocksDecide}
use Rattle.ranges.specs.declared.FallocateMode.{FallocateMode}
use Rattle.ranges.proofs.Asks.{AskedFile, kind-one, asked-law}
use Rattle.ranges.proofs.Answers.{blocks-decide}
use Rattle.tree.specs.Tree.{Spelling}
use Rattle.image.specs.Midway.{Used}
use Rattle.image.proofs.Handles.{admitted, handle-law, row-rec, row-most}
use Rattle.sequences.specs.Pairs.{Pair, pair, Passed}
use Rattle.sequences.specs.Calls.{fallocate, does}
use Rattle.sequences.specs.Promises.{On}
use Rattle.sequences.specs.Ranges.{ReasonsRanges, RangesFull}
use Rattle.sequences.proofs.Passing.{Spelled, allowed, midway-spelled, spelled-midway}
use Rattle.sequences.proofs.Corner.{on-used}
use Rattle.sequences.proofs.Reading.{long-is, there-is}
use Rattle.sequences.proofs.Reasons.{by_answer}
use Rattle.sequences.proofs.RangeReasons.{ModeGives, says-mode, says-fits}
use Rattle.sequences.proofs.RangeImages.{mode-mid}

-- ---- the pair passes

pub one-no-folder : (k : ℕ) → k ≡ 1 → is_folder k ≡ false
one-no-folder k e = subst (λ (x : ℕ). is_folder x ≡ false) (sym e) refl

-- a plain file is no folder, or the reason is 21
plain-law : (a : List ℕ) (t : Table) (A : Allowed a t) (i : ℕ) (u : Used t i) → Ok (λ _. is_folder (row_at t i).rec.kind ≡ false) Clear (plain_file (row_at t i).rec)
unfolding plain_file
plain-law a t A i u =
    ok-bind (ensure-yes 19 (decided-yes (decides-leb (row_at t i).rec.kind 4) (row-most a t A i u))) λ _ _.
    ok-weaken (λ _ e. one-no-folder (row_at t i).rec.kind (eqb-true (row_at t i).rec.kind 1 e)) (λ n r. r)
    (ensure-asks (eqb (row_at t i).rec.kind type_file) 21 (clear 21 refl))

-- what is asked and answered is so
asks-says : {R : ℕ → Type 0} (o : Out Unit) → Says R o → Ok (λ _. o ≡ done tt) R o
asks-says (done x) s = went refl
asks-says (refused n) (said r) = said r

pub keeps-fallocate : {style : Spelling} (p : Pair) (w : ℕ) (h : Handle) (mode : FallocateMode) (from len : ℕ) → Spelled style p → Ok (Spelled style) Clear (does (fallocate w h mode from len) p)
unfolding does call_fallocate
keeps-fallocate {style} p w h mode from len y =
    let A : Allowed p.arena p.table = allowed p y.passes in
    ok-bind {P = λ (x : After). Spelled style (pair x.arena x.table)}
    (ok-bind (says_is (admitted p.arena p.table A)) λ _ _.
    ok-bind (handle-law p.arena p.table A w h) λ i u.
    ok-bind (plain-law p.arena p.table A i u.used) λ _ f.
    ok-bind (says-end (clear 22 refl) (from + len)) λ _ l.
    ok-bind (asks-says (fits_mode mode (row_at p.table i).rec.size from len) (says-fits (clear 6 refl) (clear 22 refl) mode (row_at p.table i).rec.size from len)) λ _ fit.
    ok-bind (ok-weaken (λ s m. m) clear-17 (mode-mid (start p.arena p.table) (spelled-midway p.arena p.table y) i u.used f mode from len fit)) λ s m.
    went (midway-spelled s.arena s.table m)) λ x q. went q

-- ---- what it answers

pub reasons-ranges : ReasonsRanges
unfolding ReasonsRanges does
reasons-ranges w h mode from len p = by_answer {R = ModeGives mode} (says_then (says-mode mode p.arena p.table w h from len) λ x. says-done)

-- the row that was asked for is on a file, which is there and as long as its size
pub record OnFile (p : Pair) (w : ℕ) (h : Handle) (i : ℕ) : Type 0 where
  pub asked : AskedFile p.arena p.table w h i
  pub no-dir : is_folder (rec_of p.arena p.table (row_at p.table i).id).kind ≡ false
  pub exists : there p.arena (file_at p.table i) ≡ true
  pub exact : Exact p.arena p.table i

pub on-file : (p : Pair) → Passed p → (w : ℕ) (h : Handle) (i : ℕ) → AskedFile p.arena p.table w h i → OnFile p w h i
on-file p y w h i Q =
    let A : Allowed p.arena p.table = allowed p y in
    let o : On p.table w h (row_at p.table i).id (row_at p.table i).rec.file = record { row = i; live = Q.asked.owns.live; node = refl; file = refl } in
    let u = on-used p.arena p.table A w h _ _ o in
    let d = ap (λ (r : DiskINode). is_folder r.kind) (row-rec p.arena p.table A i u) ∙ one-no-folder (row_at p.table i).rec.kind (kind-one (row_at p.table i).rec Q.plain) in
    record { asked = Q; no-dir = d; exists = there-is p y o d; exact = long-is p y o d }

pub ranges-full : RangesFull
unfolding RangesFull BlocksDecide does
ranges-full p w h mode from len i y e =
    let Q = ok-done (subst (Ok _ Any) e (asked-law p.arena p.table w h mode from len)) in
    let F = on-file p y w h i Q.0 in
    ok-bind (blocks-decide p.arena p.table w h mode from len i y.typed.bytes e F.exists F.exact) λ x l. went l
