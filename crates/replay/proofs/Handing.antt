-- What the replay hands back, after its checks and its record: what stands in the lent buffers then.
use Prim.Native.Nat.{ℕ, ◌≤◌}
use mathlib.Core.Path.{◌≡◌, refl, ap}
use mathlib.Core.List.{List, ◌++◌}
use lib.ListN.{length, drop}
use Rattle.std.specs.Prelude.{Ok, Err}
use Rattle.buffers.specs.Words.{over, zeros}
use Rattle.system.specs.Limits.{area_words}
use Rattle.rows.specs.Rows.{Lies, term_in}
use Rattle.rows.specs.gap.Gaps.{words_in}
use Rattle.evaluation.specs.Expansion.{answer_and_buffers}
use Rattle.evaluation.proofs.Expanding.{whole_words, whole-zeroed, same-result}
use Rattle.replay.specs.declared.retrace.Halted.{Halted}
use Rattle.replay.specs.declared.retrace.Retraced.{Retraced}
use Rattle.replay.specs.Replay.{Replay}
use Rattle.replay.specs.Replaying.{replay_of}
use Rattle.replay.specs.retrace.Retraces.{halt_answer, Retraces, ends, mistaken, exceeding}

-- the numbers, the answer buffer and the work buffer
module _ (work ws : List ℕ) (room : area_words ≤ length work) (size : length ws ≡ area_words) where
  pub replayed-lies : (o : Replay) (e : Retraced) → Retraces ws o (Ok e) → Lies e.gap
  replayed-lies _ _ (ends _ s l) = l.lies

  pub replayed : (o : Replay) (e : Retraced) (out : List ℕ) → Retraces ws o (Ok e) →
      answer_and_buffers (record { number = 0; place = words_in e.gap; steps = e.steps }) (over out 0 (term_in (ws ++ drop area_words work) e.gap))
      (over (ws ++ drop area_words work) 0 (zeros area_words)) ≡ replay_of out work o
  replayed _ _ out (ends e s l) =
      let w = whole_words work ws room size l.lies l.equal in
      same-result (λ i. record { number = 0; place = w.0 i; steps = s i }) (ap (over out 0) w.1) (whole-zeroed work ws room size)

  pub halted : (o : Replay) (e : Halted) (out : List ℕ) → Retraces ws o (Err e) →
      answer_and_buffers (halt_answer e) out (over (ws ++ drop area_words work) 0 (zeros area_words)) ≡ replay_of out work o
  halted _ _ out (mistaken e q) = same-result (ap halt_answer q) refl (whole-zeroed work ws room size)
  halted _ _ out (exceeding e q) = same-result (ap halt_answer q) refl (whole-zeroed work ws room size)
