-- Words written before others of the term, with their lengths: those stand from `to` on, before a gap and behind it.
use Rattle.std.specs.Prelude.{ℕ, ◌+◌, ◌≡◌, List, ◌++◌, length, take, drop}
use Rattle.buffers.specs.moves.Parts.{part}
use Rattle.system.specs.Limits.{term_words}
use Rattle.system.specs.Signature.{Signature}
use Rattle.system.specs.Spans.{spans}
use Rattle.system.specs.Terms.{Whole}
use Rattle.rows.specs.declared.gap.Gap.{Gap}
use Rattle.rows.specs.Rows.{counts_at, word_row, length_row, term_in}
use Rattle.rows.specs.Measured.{Measured}
use Rattle.rows.specs.lengths.Later.{Onward}

-- the words `new` stand before those from `to` on, from `to'` on, and the lengths are true of them; nothing else has changed, in the gap neither
pub record Written (g : Signature) (ws : List ℕ) (gap : Gap) (to : ℕ) (ws' : List ℕ) (to' : ℕ) (new : List ℕ) : Type 0 where
  pub size : to' + length new ≡ to
  pub onward : Onward g ws' gap to'
  pub words : drop to' (term_in ws' gap) ≡ new ++ drop to (term_in ws gap)
  pub front : take to' (word_row ws') ≡ take to' (word_row ws)
  pub front-lengths : take to' (length_row ws') ≡ take to' (length_row ws)
  pub behind : drop to (word_row ws') ≡ drop to (word_row ws)
  pub behind-lengths : drop to (length_row ws') ≡ drop to (length_row ws)
  pub total : length ws' ≡ length ws
  pub counts : drop counts_at ws' ≡ drop counts_at ws

-- a whole subterm whose lengths are true, to be written there
pub record Copyable (g : Signature) (ws : List ℕ) (gap : Gap) (to from n : ℕ) : Type 0 where
  pub onward : Onward g ws gap to
  pub whole : Whole g (part from n ws)
  pub lengths : part (term_words + from) n ws ≡ spans g (part from n ws)

-- a term laid into an area of n words
pub record Laid (g : Signature) (t : List ℕ) (n : ℕ) (ws : List ℕ) (gap : Gap) : Type 0 where
  pub measured : Measured g ws gap
  pub words : term_in ws gap ≡ t
  pub front : gap.front ≡ 0
  pub total : length ws ≡ n
