-- Order 11, ".. then 17": the blocks that the changed records lack, and those that the files give back.
use Rattle.std.specs.Prelude.{List, ℕ, ◌*◌}
use Rattle.base.specs.Count.{sum_to}
use Rattle.base.specs.Search.{pick}
use Rattle.files_laws.specs.Laws.{lacking, own_count}
use Rattle.sefs.specs.Meta.{meta_file}
use Rattle.sefs.specs.Nodes.{node_file}
use Rattle.rules.specs.Image.{ids_in}
use Rattle.mending.specs.Mendable.{rec_in}
use Rattle.mending.specs.Mend.{lost, changed}

-- of the first n ids
unfoldable pub wanted_to : List ℕ → ℕ → ℕ
wanted_to a n = sum_to (λ id. pick (changed a id) (lacking a meta_file (128 * id) 112) 0) n

unfoldable pub given_back_to : List ℕ → ℕ → ℕ
given_back_to a n = sum_to (λ id. pick (lost a id) (own_count a (node_file (rec_in a id))) 0) n

-- of all
abbrev pub wanted : List ℕ → ℕ
wanted a = wanted_to a (ids_in a)

abbrev pub given_back : List ℕ → ℕ
given_back a = given_back_to a (ids_in a)
