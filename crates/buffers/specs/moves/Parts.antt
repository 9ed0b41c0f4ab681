-- A part of a list, and a part of a list replaced.
use Rattle.std.specs.Prelude.{ℕ, ◌+◌, List, ◌++◌, take, drop}

-- the n words from index a on
abbrev pub part : ℕ → ℕ → List ℕ → List ℕ
part a n ws = take n (drop a ws)

-- ws with xs in the place of the m words from index a on
abbrev pub splice : List ℕ → ℕ → ℕ → List ℕ → List ℕ
splice ws a m xs = take a ws ++ xs ++ drop (a + m) ws
