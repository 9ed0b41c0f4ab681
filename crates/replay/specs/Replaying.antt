-- What the replay answers and leaves in the lent buffers, for every input.
use Rattle.std.specs.Prelude.{ℕ, ◌≤◌, ◌≡◌, List, [], ◌∷◌, length}
use Rattle.buffers.specs.Words.{over, zeros}
use Rattle.system.specs.declared.Answer.{Answer}
use Rattle.system.specs.Numbers.{number_of}
use Rattle.system.specs.declared.numbers.Limit.TheVariants.{Overlong}
use Rattle.system.specs.declared.numbers.Verdict.TheVariants.{Taken, Stopping, Untrue}
use Rattle.system.specs.Limits.{area_words, term_words}
use Rattle.reader.specs.Answers.{term_answer}
use Rattle.system.specs.System.{System}
use Rattle.reader.specs.Book.{system_of}
use Rattle.rewriting.specs.Trace.{Trace, in_order}
use Rattle.rewriting.specs.Evaluation.{start, steps}
use Rattle.rewriting.specs.Rewriting.{Step, Path}
use Rattle.evaluation.specs.Expansion.{Expansion, answer_and_buffers, after_checks, handed_back}
use Rattle.replay.specs.declared.Replayed.{Replayed}
use Rattle.replay.specs.Replay.{Replay, followed, mistold, exceeded, replay}

-- the same three numbers
abbrev pub as_answer : Replayed → Answer
as_answer a = record { number = a.number; place = a.place; steps = a.steps }

-- "It gives the final cue, its three numbers and buffers as the expander's, steps being the pairs." "17, place the pair's number from 0", which
-- is how many steps are completed; 17 and 12 "leave the buffers as 11 does"
abbrev pub replay_of : List ℕ → List ℕ → Replay → Expansion
replay_of out work (followed r) =
    answer_and_buffers (record { number = number_of Taken; place = length r.term; steps = steps r }) (over out 0 r.term)
    (over work 0 (zeros area_words))
replay_of out work (mistold h) =
    answer_and_buffers (record { number = number_of Untrue; place = length h; steps = length h }) out (over work 0 (zeros area_words))
replay_of out work (exceeded h) =
    answer_and_buffers (record { number = number_of (Stopping Overlong); place = 0; steps = length h }) out (over work 0 (zeros area_words))

-- "It checks 10, book and cue first"
abbrev pub replaying : List ℕ → List ℕ → List ℕ → List ℕ → List ℕ → Expansion
replaying book term words out work = after_checks book term out work (replay_of out work (replay (system_of book) words (start term)))

-- ---- what 02 says of a replay x of a record, in the words of steps alone

-- "accepts exactly if each pair is whole, its index an active place then, its rule the lowest that fits there, and no step meets 12"
pub record AcceptsExactly (book term words out work : List ℕ) (x : Expansion) : Type 0 where
  -- on 0 the record tells of a list of steps that leads from the first term to the one that is handed back, "steps being the pairs"
  pub sound : x.numbers.number ≡ 0 →
      (h : Trace) × (words ≡ in_order h []) × Path (system_of book) term_words term h (handed_back x) × (x.numbers.steps ≡ length h)
  -- and where the checks pass, each record that tells of one is accepted and ends in its last term
  pub complete : term_words ≤ length out → area_words ≤ length work → (term_answer book term).number ≡ 0 →
      (h : Trace) (t : List ℕ) → words ≡ in_order h [] → Path (system_of book) term_words term h t →
      (x.numbers ≡ record { number = 0; place = length t; steps = length h }) × (handed_back x ≡ t)

-- behind the pairs of h stands half a pair, or one that tells of no step from t
pub data NoStep (s : System) (t : List ℕ) (h : Trace) (words : List ℕ) : Type 0 where
  half : (p : ℕ) → words ≡ in_order h (p ∷ []) → NoStep s t h words
  wrong : (p k : ℕ) (rest : List ℕ) → words ≡ in_order h (p ∷ k ∷ rest) →
      ((t' : List ℕ) (d : Step s t t') → d.at ≡ p → d.number ≡ k → ⊥) → NoStep s t h words

-- "17, place the pair's number from 0, at the first pair that is wrong or half": the pairs before it tell of a list of steps, and no step
-- leads on from there at that position by that rule
abbrev pub IsMistold : List ℕ → List ℕ → List ℕ → Expansion → Type 0
IsMistold book term words x =
    x.numbers.number ≡ number_of Untrue →
    (h : Trace) × (t : List ℕ) × Path (system_of book) term_words term h t × (x.numbers.place ≡ length h) × (x.numbers.steps ≡ length h)
    × NoStep (system_of book) t h words
