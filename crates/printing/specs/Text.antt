-- The text that the programs print, byte by byte in ASCII. Assumes nothing.
use Rattle.std.specs.Prelude.{ℕ, zero, suc, ◌+◌, ◌/◌, ◌%◌, cond, List, [], ◌∷◌, ◌++◌, ltb}
use Prim.Native.Char.{code}
use Prim.Native.String.{String, [] as empty, ◌∷◌ as ◌then◌}
use Rattle.system.specs.declared.Answer.{Answer}

-- the bytes of a text
abbrev pub ascii : String → List ℕ
ascii empty = []
ascii (c then s) = code c ∷ ascii s

-- the byte of a digit from 0 to 9
abbrev pub digit : ℕ → ℕ
digit d = 48 + d

-- the decimal digits of n in at most k places: those of n / 10, none where that is 0, and then n % 10
unfoldable pub decimal_in : ℕ → ℕ → List ℕ
decimal_in zero n = []
decimal_in (suc k) n = elim (n / 10) [ zero ↦ [] | suc m ↦ decimal_in k (suc m) ] ++ (digit (n % 10) ∷ [])

-- all decimal digits of n, which has no more than n + 1 of them (without the places: `decimal-law` in proofs/Decimals.antt)
unfoldable pub decimal : ℕ → List ℕ
decimal n = decimal_in (suc n) n

-- a line: its bytes, and the line's end
abbrev pub line : List ℕ → List ℕ
line bytes = bytes ++ (10 ∷ [])

-- the heading of an answer
unfoldable pub heading : List ℕ
heading = line (ascii "number place steps")

-- the three numbers of an answer, on a line
unfoldable pub numbers_line : Answer → List ℕ
numbers_line a = line (decimal a.number ++ ascii " " ++ decimal a.place ++ ascii " " ++ decimal a.steps)

-- "a word a line"
unfoldable pub word_lines : List ℕ → List ℕ
word_lines [] = []
word_lines (w ∷ ws) = line (decimal w) ++ word_lines ws

-- the text where there is room for so many bytes: none at all where that is below the least that has room for every text
abbrev pub in_room : ℕ → ℕ → List ℕ → List ℕ
in_room least room text = cond (ltb room least) [] text
