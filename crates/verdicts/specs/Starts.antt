-- Where a listing starts.
use Rattle.std.specs.Prelude.{Bool, not, ◌&&◌, ℕ, ltb}
use Rattle.base.specs.Search.{pick}

-- order 6: "A listing now starts at slot 2 unless the lent place asks for the dots"; "A place below slot 2 without that request is read as slot 2"
abbrev pub start_of : Bool → ℕ → ℕ
start_of dots next = pick (not dots && ltb next 2) 2 next
