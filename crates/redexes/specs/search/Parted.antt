-- Words of the term, and the gap among them.
use Rattle.std.specs.Prelude.{ℕ, ◌+◌, Bool, ◌&&◌, ltb}
use Rattle.rows.specs.declared.gap.Gap.{Gap}

-- some of the n words from number p on stand before the gap, and some behind it
unfoldable pub parted : Gap → ℕ → ℕ → Bool
parted g p n = ltb p g.front && ltb g.front (p + n)
