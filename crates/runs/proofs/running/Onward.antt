-- A round of a run's loop after `step`: stopped by the term's length, or the next round starts as this one did.
use Prim.Native.Nat.{ℕ, ◌+◌, ◌-◌, ◌≤◌, ◌<◌}
use native.Mathlib.Omega.{arith}
use mathlib.Core.Path.{◌≡◌, refl, sym, ap, ◌∙◌, subst, subst₂}
use mathlib.Core.Bool.{Bool, true, false}
use mathlib.Core.List.{List, [], ◌∷◌, ◌++◌}
use lib.ListN.{length, get_or, take, drop, length-set}
use Rattle.std.specs.Prelude.{None}
use lib.Seq.{get_or-drop}
use Rattle.reader.specs.Book.{system_of}
use Rattle.system.specs.Limits.{term_words}
use Rattle.system.specs.declared.numbers.Limit.TheVariants.{Overlong}
use Rattle.system.proofs.Rules.{rule-bound}
use Rattle.redexes.specs.declared.search.Redex.{Redex}
use Rattle.redexes.specs.search.Redexes.{number_of}
use Rattle.redexes.proofs.search.Found.{redex-number}
use Rattle.rows.specs.declared.gap.Gap.{Gap}
use Rattle.rows.specs.Rows.{counts_at, term_in}
use Rattle.reducts.specs.declared.putting.Reduced.{Reduced}
use Rattle.reducts.specs.putting.Replaced.{Kept}
use Rattle.rewriting.specs.Trace.{Pair}
use Rattle.rewriting.specs.Machine.{position}
use Rattle.rewriting.specs.Runs.{run}
use Rattle.rewriting.specs.Ways.{Way, every_argument}
use Rattle.rewriting.proofs.Laws.{position-le}
use Rattle.rewriting.proofs.Runs.{fitting-long, fitting-goes}
use Rattle.rewriting.proofs.Ways.{way-kept}
use Rattle.machine.specs.advance.Area.{outer_in, count_in, last_words, Stands, Valid}
use Rattle.machine.proofs.advance.Areas.{held-outer, held-count, holds, tracks-base}
use Rattle.machine.proofs.advance.States.{valid-fire, valid-first, valid-within}
use Rattle.steps.specs.steps.Raised.{way_in}
use Rattle.steps.specs.steps.Stepped.{here, subterm_here, Stepped, done, long, Steps}
use Rattle.steps.proofs.steps.Kept.{way_same}
use Rattle.records.specs.recording.Kept.{met, paired}
use Rattle.records.proofs.Records.{kept_next}
use Rattle.runs.specs.declared.running.End.TheVariants.{Stopped}
use Rattle.runs.specs.declared.running.Reached.{Reached}
use Rattle.runs.proofs.running.Running.{limits, steps_left, Earlier, goal, Running, positions-kept}
use Rattle.runs.proofs.running.Rounds.{Round, Answers, there, told, formed, so_far, few, keeps, Before}
use Rattle.runs.proofs.running.Moved.{tracks-kept}
use Rattle.runs.proofs.running.Steps.{s, b, t, outer, c, p, x, r, valid, place, after, after_is, stops, stepping}

-- a pair leaves the record as long as it was
paired-length : (b : Bool) (words : List ℕ) (k at number : ℕ) → length (paired b words k at number) ≡ length words
paired-length true words k at number = simp length-set
paired-length false words k at number = refl

-- by whether the term would be too long: the run is stopped, or goes on with its pair told
abbrev pub Goes : Round → Redex → List ℕ → Gap → Bool → Type 0
Goes k m ws gap true = (e : Reached) → e ≡ told k (Stopped Overlong) (record { gap = gap; level = k.d.level }) → Answers k e ws k.positions'
Goes k m ws gap false =
    (words : List ℕ) → words ≡ paired k.a.from.bounds.recorded k.words k.steps (here k.positions' (there k)) (number_of m) →
    Running (system_of k.book) k.a ws k.positions' words gap k.d.level (k.steps + 1)

module _ (k : Round) {redex : Redex} (y : Before k redex) where
  -- the number that was found is the rule's, and fits a word of the record
  found_number : number_of redex ≡ (x k y).number
  found_number =
      redex-number k.book k.shape k.accepted (subterm_here k.ws' k.positions' (there k)) y.steppable.match (x k y) y.steppable.contracts

  pub number_fits : number_of redex ≤ 65535
  number_fits =
      let f = valid-first (s k y) (formed k) (t k y) (b k y) (outer k y) (c k y) (valid k y) (x k y) (rw (← place k y) y.steppable.contracts) in
      omega (arith, found_number, rule-bound (s k y) (formed k) f.known)

  module _ (free : met (limits k.a) k.steps ≡ None) (more : k.steps - k.a.from.steps < k.a.from.most) where
    -- the area holds the state as it did
    long-goes : (gap : Gap) (ws : List ℕ) → term_words < length (after k y) → Kept (s k y).arities k.ws' (t k y) gap ws → Goes k redex ws gap true
    long-goes gap ws m w =
        let level = k.d.level in
        stops k y Overlong gap ws (keeps k gap ws (w.term ∙ y.term) (ap (drop (term_words - b k y)) w.counts ∙ k.came.1))
        (record {
          tracks = tracks-kept y.tracks w;
          term = w.term;
          around = ap (take level) w.counts;
          begun = sym (get_or-drop counts_at ws level 0) ∙ ap (λ z. get_or z level 0) w.counts ∙ get_or-drop counts_at k.ws' level 0;
        })
        (λ h. stepping k y free more h
        ∙ fitting-long (s k y) (limits k.a) (outer k y) (c k y) (x k y) (r k y h) (position (s k y) (t k y) (outer k y) (b k y)) (omega (arith, ap length (after_is k y h))) _)

    -- the step was taken
    module _ (gap : Gap) (ws : List ℕ) (m : length (after k y) ≤ term_words) (w : Stands (s k y).arities ws gap (after k y) (outer k y ++ 0 ∷ []))
        (last : last_words (b k y) ws ≡ last_words (b k y) k.ws') where
      abbrev levels-are : length (outer k y) ≡ k.d.level
      levels-are = y.tracks.represents.levels

      valid-after : Valid (s k y) (after k y) (b k y) (outer k y) 0
      valid-after =
          rw (place k y) (valid-fire (s k y) (formed k) (t k y) (b k y) (outer k y) (c k y) (valid k y) (x k y) (rw (← place k y) y.steppable.contracts) (rw (← place k y) m))

      -- the way to the base is still there
      way-after : Way (every_argument (s k y)) (term_in ws gap) (way_in ws k.a.from.way) (b k y)
      way-after =
          let z = position-le (s k y) (t k y) (outer k y) (b k y) in
          let inside = valid-within (s k y) (formed k) (t k y) (b k y) (outer k y) (c k y) (valid k y) in
          subst₂ (λ u ps. Way (every_argument (s k y)) u ps (b k y)) (sym w.term) (sym (way_same (b k y) k.ws' ws last (few k).1 k.a.from.way (few k).0))
          (way-kept (p k y) (x k y).reduct (omega (arith, place k y)) (omega (arith, place k y)) y.kept.way)

      abbrev d : Pair
      d = record { at = p k y; number = (x k y).number }

      -- what is left to run is what was
      same_after : (h : Earlier k.a) →
          run (s k y) (limits k.a) (b k y) (steps_left k.a (k.steps + 1)) (outer_in ws k.d.level ++ count_in ws k.d.level ∷ [])
          (record { term = term_in ws gap; trace = d ∷ (so_far k h).trace }) ≡ goal (s k y) k.a h
      same_after h =
          let eo = held-outer (outer k y) 0 w levels-are in
          let ec = held-count (outer k y) 0 w levels-are in
          let et = w.term ∙ sym (after_is k y h) in
          (λ i. run (s k y) (limits k.a) (b k y) (steps_left k.a (k.steps + 1)) (eo i ++ ec i ∷ [])
          (record { term = et i; trace = record { at = place k y i; number = (x k y).number } ∷ (so_far k h).trace }))
          ∙ sym (stepping k y free more h
          ∙ fitting-goes (s k y) (limits k.a) (outer k y) (c k y) (x k y) (r k y h) (position (s k y) (t k y) (outer k y) (b k y)) (omega (arith, ap length (after_is k y h))) _)

      done-goes : Goes k redex ws gap false
      done-goes words told =
          let flag = k.a.from.bounds.recorded in
          record {
            holds = holds (outer k y) 0 w levels-are valid-after k.positions' y.tracks.slots
                (rw (place k y) (positions-kept (s k y) (formed k) (t k y) (b k y) (outer k y) (c k y) (valid k y) (x k y).reduct k.positions' y.tracks.positioned));
            way = way-after;
            last = last ∙ y.kept.last;
            since = (let z = k.running.since in omega arith);
            room = ap length told ∙ paired-length flag k.words k.steps (p k y) (number_of redex) ∙ k.running.room;
            follows = λ h. record {
              trace = d ∷ (so_far k h).trace;
              counted = omega (arith, (so_far k h).counted);
              told = told ∙ ap (λ z. paired flag k.words k.steps (p k y) z) found_number
                  ∙ ap (λ z. paired flag z k.steps (p k y) (x k y).number) (so_far k h).told ∙ kept_next flag h.lent d (so_far k h).trace k.steps (so_far k h).counted;
              same = same_after h;
            };
          }

    pub goes : (q : Reduced) (ws : List ℕ) → Steps k.book k.ws' k.positions' (there k) q ws → Goes k redex ws q.gap q.long
    goes q ws h = go (h (x k y) y.steppable.contracts)
      where
        go : Stepped (s k y) k.ws' k.positions' (there k) (x k y) q ws → Goes k redex ws q.gap q.long
        go (long m gap e w) = rw e (long-goes gap ws m w)
        go (done m gap e w last) = rw e (done-goes gap ws m w (subst (λ z. last_words z ws ≡ last_words z k.ws') (tracks-base y.tracks) last))
