-- On a pair that passes: the call is done unless 7, 8 or 20; walking the answer opens the same folder; paths of two folders differ.
use mathlib.Core.Path.{◌≡◌, refl, sym, ap, ◌∙◌, subst}
use mathlib.Core.Bool.{true}
use mathlib.Core.List.{List, []}
use mathlib.Core.Logic.{◌≢◌}
use Prim.Native.Nat.{ℕ}
use lib.Dec.{leb}
use lib.ListN.{length}
use Rattle.base.specs.Out.{Out, done, guard, kept, Ok}
use Rattle.base.specs.Reasons.{out_full}
use Rattle.std.specs.Prelude.{Some}
use Rattle.base.proofs.Outs.{ensure-guard, ok-weaken, ok-done, ok-does}
use Rattle.base.proofs.Sames.{decided-yes}
use Rattle.base.proofs.Tests.{decides-leb}
use Rattle.structs.specs.Types.{is_folder}
use Rattle.structs.specs.declared.DiskINode.{DiskINode}
use Rattle.utf8.specs.Names.{NoSlash}
use Rattle.table.specs.declared.Table.{Table}
use Rattle.table.specs.declared.Handle.{Handle}
use Rattle.table.specs.Table.{row_at, live_row, can_hold}
use Rattle.table_laws.proofs.Handles.{live-means}
use Rattle.sefs.specs.State.{Fs}
use Rattle.sefs.specs.Ask.{by_handle, start}
use Rattle.sefs.specs.Read.{readable}
use Rattle.sefs.specs.Open.{hold_node}
use Rattle.sefs_laws.proofs.Clear.{Clear}
use Rattle.sefs_laws.proofs.Handles.{live-owns, handle-done}
use Rattle.rules.specs.Image.{rec_of}
use Rattle.rules.specs.Rules.{Allowed}
use Rattle.walk.specs.Walk.{Spot, spot, at_root, look_at, enter, good_text, from_root, parts_of, Walked, walked, most_links, walk_on, walk_in, hold_end, call_walk}
use Rattle.walk.specs.Laws.{Leads, Chain}
use Rattle.walk.proofs.Chains.{leads}
use Rattle.paths.specs.Path.{path_of, call_path}
use Rattle.paths.proofs.Texts.{Each, each_at, path-good, path-root, path-parts}
use Rattle.paths.proofs.Paths.{linked, Shown, path-shows}
use Rattle.image.specs.Midway.{Used}
use Rattle.image.proofs.Handles.{admitted, formed, handle-law, row-node, row-rec, row-most}
use Rattle.image.proofs.Images.{fair, root-node}
use Rattle.sequences.specs.Pairs.{Pair, Passed}
use Rattle.sequences.proofs.Passing.{allowed, spelled-any}
use Rattle.sequences.proofs.Bytes.{live-row}
use Rattle.sequences.proofs.Walks.{look-law}
use Rattle.sequences.proofs.Chains.{Gives, hold-gives, begins}
use Rattle.sequences.proofs.PathWays.{Way}
use Rattle.sequences.proofs.Paths.{some-links, row-way}
use Rattle.titles.specs.Titles.{names_at, PathAnswered, PathAnswers, WayDown, NamedWay, Slashfree, OpensSame, WalksBack, PathsApart}

one-done : {A : Type 0} {x y : A} → done x ≡ done y → x ≡ y
one-done {x = x} e = ap (kept x) e

-- a good text with a leading slash is walked from root, wherever the walk stands
text-root : (s : Fs) (at to : Spot) (l : List ℕ) (room : ℕ) → good_text l ≡ true → from_root l ≡ true → at_root s ≡ done to → walk_in s at l room ≡ walk_on s room most_links [] to (parts_of l)
unfolding walk_in enter
text-root s at to l room g f e = rw (g, f, e) refl

module _ (p : Pair) (y : Passed p) where
  abbrev a : List ℕ
  a = p.arena

  abbrev t : Table
  t = p.table

  A : Allowed p.arena p.table
  A = allowed p y

  by_row : (w : ℕ) (h : Handle) (i : ℕ) → live_row t w h ≡ Some i → by_handle t w h ≡ done i
  by_row w h i e = handle-done t w h i (live-owns t w h i (formed a t A) e)

  -- ---- the call's answers

  module _ (w : ℕ) (h : Handle) (i : ℕ) (live : live_row p.table w h ≡ Some i) where
    used : Used t i
    used = live-row p y w h i ((live-means t w h i).0 live)

    most : leb (row_at t i).rec.kind 4 ≡ true
    most = decided-yes (decides-leb (row_at t i).rec.kind 4) (row-most a t A i used)

    -- "20 if it doesn't fit"
    by-room : is_folder (row_at t i).rec.kind ≡ true → (row_at t i).rec.nlinks ≢ 0 → (names : List (List ℕ)) → names_at p i ≡ done names
        → (room : ℕ) → call_path a t w h room ≡ guard (leb (length (path_of names)) room) out_full (done (path_of names))
    unfolding call_path readable
    by-room f n names e room =
        rw (admitted a t A, by_row w h i live, most, f, linked (row_at t i).rec.nlinks n, e)
        (ensure-guard (leb (length (path_of names)) room) out_full (done (path_of names)))

    answered : PathAnswered p w h i
    unfolding call_path readable
    answered = record {
      not-folder = λ f room. rw (admitted a t A, by_row w h i live, most, f) refl;
      removed = λ f z room. rw (admitted a t A, by_row w h i live, most, f, z) refl;
      has-path = λ f n. let W = row-way p y i used f n in (W.names, W.is, by-room f n W.names W.is);
    }

  -- ---- the walk along the answer

  at-root : at_root (start a t) ≡ done (spot 2 (rec_of a t 2))
  unfolding at_root
  at-root =
      let L = ok-does (look-law p (spelled-any p y) {R = λ _. ⊥} 2 (root-node a t (fair a t A))) (λ _ z. z) in
      let e : look_at (start a t) 2 ≡ done (rec_of a t 2) = L.1 ∙ ap done (sym L.2) in
      rw e refl

  -- from anywhere, whatever the link buffer's room: no link is met
  leads-back : (at : Spot) (x room : ℕ) (o : Out (List (List ℕ))) (W : Way p y x o) → Each NoSlash W.names
      → walk_in (start a t) at (path_of W.names) room ≡ walked [] most_links (done (spot x (rec_of a t x)))
  unfolding Leads
  leads-back at x room o W n =
      let root : Spot = spot 2 (rec_of a t 2) in
      text-root (start a t) at root (path_of W.names) room (path-good W.sorts n) (path-root W.names) at-root
      ∙ ap (walk_on (start a t) room most_links [] root) (path-parts W.sorts n)
      ∙ leads (start a t) room most_links [] root (spot x (rec_of a t x)) W.names W.chain

  -- ---- a path that was given

  -- a handle that was found is on a row in use
  pub found-used : (w : ℕ) (h : Handle) (i : ℕ) → by_handle p.table w h ≡ done i → Used p.table i
  found-used w h i e = ok-done (subst (Ok (Used t) Clear) e (ok-weaken (λ i u. u.used) (λ n r. r) (handle-law a t A w h)))

  -- it is the path of its row's way
  pub shown-way : (w : ℕ) (h : Handle) (room : ℕ) (l : List ℕ) (S : Shown p.arena p.table w h room l) → Way p y (row_at p.table S.row).id (names_at p S.row)
  shown-way w h room l S = row-way p y S.row (found-used w h S.row S.by) S.folder (some-links (row_at t S.row).rec.nlinks S.links)

  module _ (w : ℕ) (h : Handle) (i out : ℕ) (l : List ℕ) (live : live_row p.table w h ≡ Some i) (e : call_path p.arena p.table w h out ≡ done l) where
    S : Shown a t w h out l
    S = path-shows a t w h out l e

    row_is : S.row ≡ i
    row_is = one-done (sym S.by ∙ by_row w h i live)

    W : Way p y (row_at t i).id (names_at p i)
    W = subst (λ (k : ℕ). Way p y (row_at t k).id (names_at p k)) row_is (shown-way w h out l S)

    path-is : l ≡ path_of W.names
    path-is = S.is ∙ ap path_of (one-done (sym S.climbed ∙ ap (names_at p) row_is ∙ W.is))

    -- the names lead from root to the folder of row i
    leads-down : WayDown p i l
    leads-down = record {
      names = W.names;
      path = path-is;
      chain = subst (λ (r : DiskINode). Chain (start a t) (spot 2 (rec_of a t 2)) W.names (spot (row_at t i).id r)) (row-rec a t A i (used w h i live)) W.chain;
    }

    module _ (bare : Slashfree p i) where
      -- the walk leads to the folder of row i
      back : (at : Spot) (room : ℕ) → walk_in (start a t) at l room ≡ walked [] most_links (done (spot (row_at t i).id (rec_of a t (row_at t i).id)))
      back at room = ap (λ (x : List ℕ). walk_in (start a t) at x room) path-is ∙ leads-back at (row_at t i).id room (names_at p i) W (each_at W.names (bare W.names W.is))

      -- and the call gives a hold on its node, as root and find give one
      held : (g : Handle) (j room : ℕ) → live_row t w g ≡ Some j → can_hold t w ≡ true → call_walk a t w g l room ≡ walked [] most_links (hold_node (start a t) w (row_at t i).id)
      unfolding call_walk hold_end
      held g j room at can = rw (admitted a t A, by_row w g j at, back (spot (row_at t j).id (row_at t j).rec) room, can) refl

      opens : (g : Handle) (j room : ℕ) → live_row t w g ≡ Some j → can_hold t w ≡ true → OpensSame p w g l room (row_at t i).id (row_at t i).rec.file
      opens g j room at can =
          let u = used w h i live in
          let H = ok-does (hold-gives a t w t (begins a t w y) (live-owns t w g j (formed a t A) at).owner can (row_at t i).id (row-node a t A i u)) (λ _ z. z) in
          let G : Gives a t w H.0 (spot (row_at t i).id (rec_of a t (row_at t i).id)) = H.2 in
          record {
            given = H.0;
            walks = held g j room at can ∙ ap (walked [] most_links) H.1;
            on = record {
              row = G.row;
              live = G.live;
              node = ap (λ (x : Spot). x.id) G.is;
              file = ap (λ (x : Spot). x.rec.file) G.is ∙ ap (λ (r : DiskINode). r.file) (row-rec a t A i u);
            };
          }

pub path-answers : PathAnswers
unfolding PathAnswers
path-answers p w h i y live = answered p y w h i live

pub named-way : NamedWay
unfolding NamedWay
named-way p w h i l room y live e = leads-down p y w h i room l live e

pub walks-back : WalksBack
unfolding WalksBack
walks-back p w h g i j l out room y live at e bare can = opens p y w h i out l live e bare g j room at can

-- one walk has one end
pub paths-apart : PathsApart
unfolding PathsApart
paths-apart p w v h g i j l m n y live at e f bare bald =
    let from : Spot = spot 2 (row_at p.table i).rec in
    let q = sym (back p y w h i m l live e bare from 0) ∙ back p y v g j n l at f bald from 0 in
    ap (λ (x : Spot). x.id) (one-done (ap (λ (x : Walked Spot). x.end) q))
