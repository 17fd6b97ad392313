-- What drop does: every block of the file becomes free, and nothing else changes.
use mathlib.Core.Path.{◌≡◌, sym, ◌∙◌, subst}
use mathlib.Core.Bool.{true, false}
use mathlib.Core.List.{List}
use mathlib.Core.Logic.{⊎_elim, ◌≢◌}
use Prim.Native.Nat.{ℕ, ◌/◌, ◌%◌}
use native.Mathlib.Omega.{arith}
use Rattle.base.specs.Out.{done, refused, Ok, went}
use Rattle.base.proofs.Bools.{or_cases, or-first, or-second, true-false}
use Rattle.base.proofs.Outs.{ok-done, ok-does, ok-test}
use Rattle.arena.specs.Fields.{File, number_of, file_of, is_free, is_head, is_data}
use Rattle.arena.proofs.Fields.{head-is, data_is, free-not}
use Rattle.files.specs.Read.{there, present, byte_at}
use Rattle.files.specs.Store.{clear_all, is_of, drop_file}
use Rattle.files_laws.specs.Laws.{Kept, own_count, Drop, DropRefused, missing}
use Rattle.files_laws.proofs.Views.{byte-in, byte-none, there-none, length_none, present-none}
use Rattle.files_laws.proofs.Parts.{sound-tidy, sound-after}
use Rattle.files_laws.proofs.Steps.{other-stranger, zeros-stranger}
use Rattle.files_laws.proofs.Clears.{clear-size, clear-bytes, clear_kept, clear-tidy, clear-free, clear-no}

-- ---- the test of a file's blocks

pub of-head : (f : File) (b : List ℕ) → is_head f b ≡ true → is_of f b ≡ true
unfolding is_of
of-head f b e = or-first (is_data f (number_of b) b) e

pub of-data : (f : File) (q : ℕ) (b : List ℕ) → is_data f q b ≡ true → is_of f b ≡ true
unfolding is_of
of-data f q b e = or-second (is_head f b) (subst (λ (n : ℕ). is_data f n b ≡ true) (sym (data_is f q b e).number) e)

pub of-file : (f : File) (b : List ℕ) → is_of f b ≡ true → file_of b ≡ f
unfolding is_of
of-file f b e = ⊎_elim (λ h. (head-is f b h).of) (λ h. (data_is f (number_of b) b h).of) (or_cases (is_head f b) (is_data f (number_of b) b) e)

pub of-used : (f : File) (b : List ℕ) → is_of f b ≡ true → is_free b ≡ false
unfolding is_of
of-used f b e =
    ⊎_elim
    (λ h. free-not b (λ z. absurd (omega (arith, (head-is f b h).tag))))
    (λ h. free-not b (λ z. absurd (omega (arith, (data_is f (number_of b) b h).tag))))
    (or_cases (is_head f b) (is_data f (number_of b) b) e)

module _ (a : List ℕ) (f : File) where
  gone-f : there (clear_all (is_of f) a) f ≡ false
  gone-f =
      there-none (clear_all (is_of f) a) f
      (λ k l. clear-no (is_of f) a (is_head f) (zeros-stranger f).head (of-head f) k (omega (arith, clear-size (is_of f) a)))

  block-f : (q : ℕ) → present (clear_all (is_of f) a) f q ≡ false
  block-f q =
      present-none (clear_all (is_of f) a) f q
      (λ k l. clear-no (is_of f) a (is_data f q) ((zeros-stranger f).block q) (of-data f q) k (omega (arith, clear-size (is_of f) a)))

  byte-f : (p : ℕ) → byte_at (clear_all (is_of f) a) f p ≡ 0
  byte-f p = byte-in (clear_all (is_of f) a) f p ∙ byte-none (clear_all (is_of f) a) f (p / 480) (block-f (p / 480)) (p % 480)

  others-f : (g : File) → f ≢ g → Kept a (clear_all (is_of f) a) g
  others-f g n = clear_kept (is_of f) a g (λ c e. other-stranger f g c (of-file f c e) n)

  dropped : there a f ≡ true → Drop a f (clear_all (is_of f) a)
  unfolding own_count
  dropped was = record {
    was = was;
    size = clear-size (is_of f) a;
    bytes = clear-bytes (is_of f) a;
    keeps = λ ok.
        sound-after a (clear_all (is_of f) a) f ok (clear-tidy (is_of f) a (sound-tidy a ok))
        (record { under = λ q e. absurd (true-false e (block-f q)); past = λ p l. byte-f p })
        others-f;
    free = clear-free (is_of f) a (of-used f);
    gone = gone-f;
    long = length_none (clear_all (is_of f) a) f gone-f;
    block = block-f;
    byte = byte-f;
    others = others-f;
  }

  -- drop does what it says, or the file is missing
  pub drop-law : Ok (Drop a f) (DropRefused a f) (drop_file a f)
  unfolding drop_file
  drop-law = ok-test (there a f) 19 (λ e. missing e) (λ e. went (dropped e))

  -- it can be done where the file is there
  pub drop-done : there a f ≡ true → (a' : List ℕ) × (drop_file a f ≡ done a') × Drop a f a'
  drop-done was = ok-does drop-law (λ n r. go r)
    where
      go : {n : ℕ} → DropRefused a f n → ⊥
      go (missing e) = true-false was e

  -- and is refused where it is not
  pub drop-missing : there a f ≡ false → drop_file a f ≡ refused 19
  unfolding drop_file
  drop-missing e = rw e

  -- whatever it left, it did that
  pub drop-is : (a' : List ℕ) → drop_file a f ≡ done a' → Drop a f a'
  drop-is a' e = ok-done (subst (Ok (Drop a f) (DropRefused a f)) e drop-law)
