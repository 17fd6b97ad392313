-- The words that a C function leaves, by what the call's function returns: w as they were.
use Rattle.std.specs.Prelude.{List, [], ◌∷◌, ℕ, ◌+◌, Result, Ok, Err}
use Rattle.sefs.specs.declared.Metadata.{Metadata}
use Rattle.edge_words.specs.Words.{metadata_words}

abbrev pub told_words_by : {E : Type 0} → List ℕ → Result Metadata E → List ℕ
told_words_by w (Ok m) = metadata_words m
told_words_by w (Err e) = w

-- (the listing began at slot `from`)
abbrev pub listed_words_by : {E : Type 0} → List ℕ → ℕ → Result ℕ E → List ℕ
listed_words_by w from (Ok n) = (from + n) ∷ []
listed_words_by w from (Err e) = w

abbrev pub taken_words_by : {E : Type 0} → List ℕ → Result ℕ E → List ℕ
taken_words_by w (Ok n) = n ∷ []
taken_words_by w (Err e) = w
