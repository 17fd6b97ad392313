-- A symlink that is followed, and the ninth, of runs: a run of walk did the walk that its definition is.
use mathlib.Core.Path.{◌≡◌, refl, sym, ap, ◌∙◌, subst}
use mathlib.Core.List.{List}
use Prim.Native.Nat.{ℕ}
use native.Mathlib.Omega.{arith}
use Rattle.base.specs.Out.{Out, done, refused, bind, answer, kept}
use Rattle.base.specs.Reasons.{sym_loop}
use Rattle.table.specs.declared.Handle.{Handle}
use Rattle.table.specs.declared.Added.{Added}
use Rattle.walk.specs.Walk.{Walked, call_walk}
use Rattle.edge.specs.Edge.{lent}
use Rattle.sequences.specs.Pairs.{Pair, pair}
use Rattle.sequences.specs.Calls.{walk, does}
use Rattle.sequences.specs.Symlinks.{FollowsCall, FollowsRootCall, FollowsNameCall, NinthLinkCall}
use Rattle.sequences.proofs.Symlinks.{follows-call, follows-root-call, follows-name-call, ninth-link-call}
use Rattle.linked.specs.Images.{Image, pair_of, Passes, Ready, Places, handed}
use Rattle.linked.specs.Tested.{Ran}
use Rattle.linked.specs.Owning.{Owns}
use Rattle.linked.specs.Linked.{Functions, Goes, Transports, Linked, OwnLinked, Mixed, MixedLinked}
use Rattle.linked.specs.Symlinks.{WalkedAs, RunFollows, RunFollowsRoot, RunFollowsName, RunNinth, Symlinks}
use Rattle.linked.proofs.Runs.{Free, one}
use Rattle.linked.proofs.Linked.{walk-reason, linked, own-linked, mixed-linked}

-- the pair that a walk leaves
walk-left : (p : Pair) (o : Out Added) → kept p (bind o (λ g. done (pair p.arena g.table))) ≡ lent (λ g. pair p.arena g.table) p o
walk-left p (done g) = refl
walk-left p (refused n) = refl

pub did-walk : {s u : Image} {x y : Places} {n w : ℕ} {h : Handle} {path : List ℕ} {room : ℕ} {o : Walked Added} → Goes Free (walk w h path room) s x u y n
    → call_walk s.arena (pair_of s).table w h path room ≡ o → WalkedAs o s x u y n
unfolding does handed
did-walk {s} {u} {x} {y} {n} {w} {h} {path} {room} G e =
    let c : Walked Added = call_walk s.arena (pair_of s).table w h path room in
    subst (λ (o : Walked Added). WalkedAs o s x u y n) e (record {
      number = G.number ∙ walk-reason (pair_of s) w h path room c.end refl;
      words = ap (λ (a : Places). a.words) G.given;
      links = ap (λ (a : Places). a.links) G.given;
      left = G.left ∙ walk-left (pair_of s) c.end;
    })

-- a refusal is known by its number
refusal : {A : Type 0} (o : Out A) → answer o ≡ sym_loop → o ≡ refused sym_loop
refusal (done x) e = absurd (omega (arith, e))
refusal (refused n) e = ap refused e

module _ {R : Functions} {I : Image → Type 0} (T : Transports R I) (trusted : (s : Image) → I s → Passes s) where
  run-follows : RunFollows R I
  unfolding RunFollows FollowsCall
  run-follows s u x y n w h room at p l q target i M g good lone F r z =
      did-walk (one T i F r z) (follows-call (pair_of s) w h M.row room at p l q target (trusted s i).passes M.live M.front M.link M.part g good lone)

  run-follows-root : RunFollowsRoot R I
  unfolding RunFollowsRoot FollowsRootCall
  run-follows-root s u x y n w h room at p l q i M g F r z =
      did-walk (one T i F r z) (follows-root-call (pair_of s) w h M.row room at p l q (trusted s i).passes M.live M.front M.link M.part g)

  run-follows-name : RunFollowsName R I
  unfolding RunFollowsName FollowsNameCall
  run-follows-name s u x y n w h room at p l target i M g F r z =
      did-walk (one T i F r z) (follows-name-call (pair_of s) w h M.row room at p l target (trusted s i).passes M.live M.front M.link M.part g)

  run-ninth : RunNinth R I
  unfolding RunNinth NinthLinkCall
  run-ninth s u x y n w h k path room i live F r z =
      let e = (did-walk (one T i F r z) refl).number in
      let N = ninth-link-call (pair_of s) w h k path room (trusted s i).passes live in
      (λ q. N.0 (refusal (call_walk s.arena (pair_of s).table w h path room).end (sym e ∙ q)), λ m. e ∙ ap answer (N.1 m))

  symlinks : Symlinks R I
  symlinks = record { follows = run-follows; follows-root = run-follows-root; follows-name = run-follows-name; ninth = run-ninth }

-- of `dz_walk`, of `dz_own_walk`, of both
pub tested-symlinks : Symlinks Ran Passes
unfolding Linked
tested-symlinks = symlinks linked (λ s y. y)

pub own-symlinks : Symlinks Owns Ready
unfolding OwnLinked
own-symlinks = symlinks own-linked (λ s y. y.trusted)

pub mixed-symlinks : Symlinks Mixed Passes
unfolding MixedLinked
mixed-symlinks = symlinks mixed-linked (λ s y. y)
