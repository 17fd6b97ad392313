-- What a title bar shows (crates/titles), said of runs of `dz_path` and `dz_own_path`, and of the walks along what they gave. A run that answers 255 was made
-- with a slice of a wrong size, and made no call.
use Rattle.std.specs.Prelude.{◌≡◌, true, false, List, ◌≢◌, ◌⊎◌, ℕ, Some}
use Rattle.base.specs.Reasons.{not_dir, dir_removed, out_full}
use Rattle.structs.specs.Types.{is_folder}
use Rattle.table.specs.declared.Handle.{Handle}
use Rattle.table.specs.Table.{row_at, live_row, can_hold}
use Rattle.edge_words.specs.Words.{handle_words}
use Rattle.sequences.specs.Calls.{walk, full_path, Fits}
use Rattle.sequences.specs.Promises.{On}
use Rattle.titles.specs.Titles.{Slashfree}
use Rattle.linked.specs.Images.{Image, pair_of, Places}
use Rattle.linked.specs.Linked.{Functions}
use Rattle.linked.specs.Drawings.{GaveBytes}

-- a walk's run that left the image u and y and returned n: it answers 0, and its words are a handle of w's on that node and file
pub record OpensNode (w node : ℕ) (file : List ℕ) (u : Image) (y : Places) (n : ℕ) : Type 0 where
  pub number : n ≡ 0
  pub handle : Handle
  pub words : y.words ≡ handle_words handle
  pub on : On (pair_of u).table w handle node file

-- which number a path's run returns by a handle on row i: 7, 8, or else 0 or 20
pub record PathNumber (s : Image) (i n : ℕ) : Type 0 where
  pub not-folder : is_folder (row_at (pair_of s).table i).rec.kind ≡ false → n ≡ not_dir
  pub removed : is_folder (row_at (pair_of s).table i).rec.kind ≡ true → (row_at (pair_of s).table i).rec.nlinks ≡ 0 → n ≡ dir_removed
  pub else-given : is_folder (row_at (pair_of s).table i).rec.kind ≡ true → (row_at (pair_of s).table i).rec.nlinks ≢ 0 → (n ≡ 0) ⊎ (n ≡ out_full)

module _ (R : Functions) (I : Image → Type 0) where
  -- `path-answers`: by a live handle a path is given unless 7, 8 or 20
  unfoldable pub RunPathAnswers : Type 0
  RunPathAnswers = (s u : Image) (x y : Places) (n w : ℕ) (h : Handle) (i room : ℕ) → I s → live_row (pair_of s).table w h ≡ Some i
      → Fits (full_path w h room) → R (full_path w h room) s x u y n → n ≢ 255 → PathNumber s i n

  -- from u a walk along l by any of w's live handles opens the node of row i, where w has a hold and a stamp free
  abbrev pub LeadsBack : Image → ℕ → ℕ → List ℕ → Type 0
  LeadsBack u w i l = (v : Image) (x y : Places) (n : ℕ) (g : Handle) (j room : ℕ) → live_row (pair_of u).table w g ≡ Some j → can_hold (pair_of u).table w ≡ true
      → Fits (walk w g l room) → R (walk w g l room) u x v y n → n ≢ 255
      → OpensNode w (row_at (pair_of u).table i).id (row_at (pair_of u).table i).rec.file v y n

  -- `walks-back`: a path's run that answers 0 wrote the path and its length; arena and table are as they were; and if no name on the path has a slash, a walk
  -- along what it wrote opens the same folder
  unfoldable pub RunWalksBack : Type 0
  RunWalksBack = (s u : Image) (x y : Places) (w : ℕ) (h : Handle) (i room : ℕ) → I s → live_row (pair_of s).table w h ≡ Some i
      → Fits (full_path w h room) → R (full_path w h room) s x u y 0
      → (pair_of u ≡ pair_of s) × (l : List ℕ) × GaveBytes l x y 0 × (Slashfree (pair_of s) i → LeadsBack u w i l)

  pub record Titles : Type 0 where
    pub answers : RunPathAnswers
    pub back : RunWalksBack
