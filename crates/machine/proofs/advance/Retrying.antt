-- A round of `machine::advance` in which the rules were tried: the frame then has the bindings that the search left.
use Prim.Native.Nat.{ℕ, ◌-◌}
use native.Mathlib.Omega.{arith}
use mathlib.Core.Path.{◌≡◌, sym, ap, ◌∙◌, subst}
use mathlib.Core.List.{List}
use lib.ListN.{length, get_or, take, drop, length-drop}
use lib.Seq.{length-take-le}
use Rattle.std.specs.Prelude.{Some, None}
use Rattle.system.specs.Limits.{levels}
use Rattle.rows.specs.Rows.{term_in}
use Rattle.rows.specs.Measured.{Measured}
use Rattle.matching.specs.Bindings.{match_of}
use Rattle.redexes.specs.declared.search.Redex.{Redex}
use Rattle.redexes.specs.search.Redexes.{binding_words, redex_of, Bound}
use Rattle.machine.specs.declared.advance.Event.TheVariants.{Rules}
use Rattle.machine.specs.declared.advance.Stop.TheVariants.{Ready}
use Rattle.machine.specs.advance.Area.{frame_words}
use Rattle.machine.specs.advance.Arrivals.{Advances}
use Rattle.reader.specs.Book.{system_of}
use Rattle.machine.proofs.advance.Areas.{rebound, rebound-positions, rebound-bindings}
use Rattle.machine.proofs.advance.Arriving.{arrives-ready}
use Rattle.machine.proofs.advance.Rounds.{Round, Goes}
use Rattle.machine.proofs.advance.Advancing.{goes-rules, rules-bounds}

-- the bindings' part of a frame
pub bindings-part : (frame : List ℕ) → length frame ≡ frame_words → length (take (length frame - levels) (drop levels frame)) ≡ binding_words
bindings-part frame e = length-take-le (length frame - levels) (drop levels frame) (let z = length-drop levels frame in omega arith) ∙ omega arith

module _ (τ : Round) (e : τ.event ≡ Rules) where
  pub slots : length τ.positions' ≡ frame_words
  slots = (rules-bounds τ e).slots

  -- the subterm that the search looks at
  abbrev looked : ℕ → List ℕ
  looked p = drop p (term_in τ.ws' τ.state.gap)

  module _ (bs : List ℕ) (kept : length bs ≡ length (take (length τ.positions' - levels) (drop levels τ.positions'))) where
    pub many : length bs ≡ binding_words
    many = kept ∙ bindings-part τ.positions' slots

    abbrev pub retried : Round
    retried = record τ {
      frame = rebound τ.positions' bs slots many;
      framed = rebound-positions τ.positions' bs slots many;
    }

    pub retried-size : length retried.frame ≡ length τ.positions'
    retried-size = retried.framed.size

    -- it is that of the innermost level
    module _ {at : ℕ} (read : at ≡ get_or τ.positions' τ.level 0) where
      pub none-matches : redex_of (system_of τ.book) (looked at) ≡ None → Goes retried τ.level τ.floor τ.since
      none-matches is = goes-rules retried e (sym (ap (λ p. redex_of (system_of τ.book) (looked p)) read) ∙ is)

      pub one-matches : {m : Redex} → redex_of (system_of τ.book) (looked at) ≡ Some m → Bound (match_of (system_of τ.book) (looked at)) bs →
          Advances (system_of τ.book) τ.state τ.base τ.ws₀ (record { stop = Ready m; level = τ.level }) τ.ws' retried.frame × Measured (system_of τ.book).arities τ.ws' τ.state.gap
      one-matches is bound =
          let b = subst (λ p. Bound (match_of (system_of τ.book) (looked p)) bs) read bound in
          arrives-ready retried e (sym (ap (λ p. redex_of (system_of τ.book) (looked p)) read) ∙ is)
          (subst (Bound (match_of (system_of τ.book) (looked (get_or τ.positions' τ.level 0)))) (sym (rebound-bindings τ.positions' bs slots many)) b)
