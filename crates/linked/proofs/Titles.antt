-- What a title bar shows, of runs: a run of path gives what its definition gives, and a walk's run along that opens the same folder.
use mathlib.Core.Path.{◌≡◌, refl, sym, ap, ◌∙◌, subst}
use mathlib.Core.Bool.{Bool, true, false}
use mathlib.Core.List.{List}
use mathlib.Core.Logic.{◌⊎◌, inl, inr}
use Prim.Native.Nat.{ℕ}
use lib.Dec.{leb}
use lib.ListN.{length}
use Rattle.base.specs.Out.{Out, done, refused, guard, answer}
use Rattle.base.specs.Reasons.{out_full}
use Rattle.std.specs.Prelude.{Some}
use Rattle.base.proofs.Outs.{bind-is-done}
use Rattle.table.specs.declared.Handle.{Handle}
use Rattle.table.specs.Table.{row_at, live_row}
use Rattle.paths.specs.Path.{path_of, call_path}
use Rattle.sequences.specs.Pairs.{Pair}
use Rattle.sequences.specs.Calls.{Call, full_path, does, reason_of, next}
use Rattle.sequences.specs.Promises.{On}
use Rattle.titles.specs.Titles.{PathAnswers, Slashfree, WalksBack}
use Rattle.titles.proofs.Walks.{path-answers, walks-back}
use Rattle.linked.specs.Images.{Image, pair_of, Passes, Ready, Places, handed}
use Rattle.linked.specs.Tested.{Ran}
use Rattle.linked.specs.Owning.{Owns}
use Rattle.linked.specs.Linked.{Functions, Runs, none, ran, Goes, Transports, Linked, OwnLinked, Mixed, MixedLinked}
use Rattle.linked.specs.Drawings.{GaveBytes}
use Rattle.linked.specs.Titles.{RunPathAnswers, LeadsBack, RunWalksBack, Titles}
use Rattle.linked.proofs.Transport.{zero-done, not_255}
use Rattle.linked.proofs.Runs.{Free, one, goes_after, passes-after}
use Rattle.linked.proofs.Linked.{linked, own-linked, mixed-linked}
use Rattle.linked.proofs.Symlinks.{did-walk}

module _ (p : Pair) (w : ℕ) (h : Handle) (room : ℕ) where
  path-reason : (o : Out (List ℕ)) → call_path p.arena p.table w h room ≡ o → reason_of (full_path w h room) p ≡ answer o
  unfolding does
  path-reason (done l) d = rw d refl
  path-reason (refused n) d = rw d refl

  -- a path that is given: it changes nothing, and leaves these bytes and how many they are
  module _ (l : List ℕ) (d : call_path p.arena p.table w h room ≡ done l) where
    path-next : next (full_path w h room) p ≡ p
    unfolding does
    path-next = rw d refl

    path-gives : {x y : Places} → y ≡ handed (full_path w h room) p x → GaveBytes l x y 0
    unfolding handed
    path-gives e = record { number = refl; output = ap (λ (a : Places). a.output) e ∙ rw d refl; count = ap (λ (a : Places). a.words) e ∙ rw d refl }

-- it fits the output, or not
given-or-full : (b : Bool) (l : List ℕ) → (answer (guard b out_full (done l)) ≡ 0) ⊎ (answer (guard b out_full (done l)) ≡ out_full)
given-or-full true l = inl refl
given-or-full false l = inr refl

module _ {R : Functions} {I : Image → Type 0} (T : Transports R I) (trusted : (s : Image) → I s → Passes s) where
  run-path-answers : RunPathAnswers R I
  unfolding RunPathAnswers PathAnswers
  run-path-answers s u x y n w h k room i live F r z =
      let p : Pair = pair_of s in
      let A = path-answers p w h k (trusted s i).passes live in
      let number : (o : Out (List ℕ)) → call_path p.arena p.table w h room ≡ o → n ≡ answer o = λ o e. (one T i F r z).number ∙ path-reason p w h room o e in
      record {
        not-folder = λ f. number _ (A.not-folder f room);
        removed = λ f e. number _ (A.removed f e room);
        else-given = λ f e.
            let H = A.has-path f e in
            let l : List ℕ = path_of H.0 in
            subst (λ (m : ℕ). (m ≡ 0) ⊎ (m ≡ out_full)) (sym (number _ (H.2 room))) (given-or-full (leb (length l) room) l);
      }

  -- after a list of runs: where l is the path of row k, a walk's run along l opens that row's node
  leads-back : {s u : Image} {c : List Call} → I s → Runs R s c u → (w : ℕ) (h : Handle) (k room : ℕ) (l : List ℕ) → live_row (pair_of u).table w h ≡ Some k
      → call_path u.arena (pair_of u).table w h room ≡ done l → Slashfree (pair_of u) k → LeadsBack R I u w k l
  unfolding WalksBack
  leads-back {s} {u} i m w h k room l live d free v x y n g j buffer on can F r z =
      let W = walks-back (pair_of u) w h g k j l room buffer (passes-after T i (trusted s i) m).passes live on d free can in
      let D = did-walk (goes_after T i m F r z) W.walks in
      record {
        number = D.number;
        handle = W.given.handle;
        words = D.words;
        on = subst (λ (q : Pair). On q.table w W.given.handle (row_at (pair_of u).table k).id (row_at (pair_of u).table k).rec.file) (sym D.left) W.on;
      }

  run-walks-back : RunWalksBack R I
  unfolding RunWalksBack does
  run-walks-back s u x y w h k room i live F r =
      let c : Call = full_path w h room in
      let p : Pair = pair_of s in
      let G : Goes Free c s x u y 0 = one T i F r not_255 in
      let d = bind-is-done (call_path p.arena p.table w h room) (λ _. done p) (next c p) (zero-done c p G.number) in
      let same : pair_of u ≡ pair_of s = G.left ∙ path-next p w h room d.0 d.1 in
      let there : (live_row (pair_of u).table w h ≡ Some k) × (call_path u.arena (pair_of u).table w h room ≡ done d.0) =
      subst (λ (q : Pair). (live_row q.table w h ≡ Some k) × (call_path q.arena q.table w h room ≡ done d.0)) (sym same) (live, d.1) in (
        same,
        d.0,
        path-gives p w h room d.0 d.1 G.given,
        λ free. leads-back i (ran F r not_255 none) w h k room d.0 there.0 there.1 (subst (λ (q : Pair). Slashfree q k) (sym same) free),
      )

  titles : Titles R I
  titles = record { answers = run-path-answers; back = run-walks-back }

-- of `dz_path` and `dz_walk`, of `dz_own_path` and `dz_own_walk`, of both
pub tested-titles : Titles Ran Passes
unfolding Linked
tested-titles = titles linked (λ s y. y)

pub own-titles : Titles Owns Ready
unfolding OwnLinked
own-titles = titles own-linked (λ s y. y.trusted)

pub mixed-titles : Titles Mixed Passes
unfolding MixedLinked
mixed-titles = titles mixed-linked (λ s y. y)
