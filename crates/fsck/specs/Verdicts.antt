-- What the check answers: "pass or the lowest failing number", and of a pass the three counts.
use Rattle.std.specs.Prelude.{List, ℕ, eqb}
use Rattle.base.specs.Search.{pick}
use Rattle.table.specs.declared.Table.{Table}
use Rattle.arena.specs.Places.{free_count}
use Rattle.rules.specs.Image.{stored_super, node_count}
use Rattle.rules.specs.Tests.{test3, test4, test5, test6, test7, test8, checked}
use Rattle.fsck.specs.declared.Verdict.{Verdict}
use Rattle.fsck.specs.declared.Verdict.TheVariants.{Pass, Fail}

-- nodes: ids that are nodes; unused: as stored; free: free arena blocks
unfoldable pub pass_of : List ℕ → Verdict
pass_of a = Pass (node_count a) (stored_super a).unused (free_count a)

unfoldable pub verdict_of : List ℕ → Table → Verdict
verdict_of a t = pick (eqb (checked a t) 0) (pass_of a) (Fail (checked a t))

-- ---- the same from rule 7 on, from rule 5 on, from rule 3 on, as the code's functions have it

unfoldable pub links_verdict : List ℕ → Table → Verdict
links_verdict a t = pick (test7 a t) (pick (test8 a t) (pass_of a) (Fail 8)) (Fail 7)

unfoldable pub files_verdict : List ℕ → Table → Verdict
files_verdict a t = pick (test5 a t) (pick (test6 a t) (links_verdict a t) (Fail 6)) (Fail 5)

unfoldable pub meta_verdict : List ℕ → Table → Verdict
meta_verdict a t = pick (test3 a) (pick (test4 a t) (files_verdict a t) (Fail 4)) (Fail 3)
