-- The view of a transition: what each event tells of the entry that was taken, and where it leads.
use Prim.Native.Nat.{ℕ, suc, ◌≤◌, ◌<◌}
use native.Mathlib.Omega.{arith}
use native.Mathlib.Decide.{dec_lt}
use mathlib.Core.Path.{◌≡◌, sym, subst}
use mathlib.Core.Bool.{true, false}
use mathlib.Core.List.{List, [], ◌∷◌, ◌++◌}
use lib.ListN.{length, get_or}
use borrow.Author.Tests.{le-leb, lt-leb}
use Rattle.system.specs.Limits.{levels}
use Rattle.system.specs.System.{System}
use Rattle.layout.specs.declared.entries.Entry.{Entry}
use Rattle.machine.specs.declared.advance.Event.{Event}
use Rattle.machine.specs.declared.advance.Event.TheVariants.{End, Repeated, Rules, Argument, TooDeep}
use Rattle.rewriting.specs.Machine.{strategy_at, position}
use Rattle.machine.specs.advance.Transition as to
use Rattle.machine.specs.advance.Transition.{transition, event_of}
use Rattle.layout.proofs.entries.Asks.{stood, entry_past, entry-again, entry-rules, entry-argument, Asks, again, opens, asks, end, rules}

module _ (s : System) (t : List ℕ) (base : ℕ) (outer : List ℕ) (f c : ℕ) where
  abbrev entries : List ℕ
  entries = strategy_at s t (position s t outer base)

  abbrev next : to.Transition
  next = transition s t base outer f c

  -- ---- where it leads, by the entry

  pub leads-end : length entries ≤ c → next ≡ to.end outer
  unfolding transition
  leads-end h = rw (entry_past entries f c h, transition)

  module _ (more : c < length entries) where
    pub leads-repeated : stood entries f c ≡ true → next ≡ to.repeated outer (suc c)
    unfolding transition
    leads-repeated b = rw (entry-again entries f c more b, transition)

    module _ (b : stood entries f c ≡ false) where
      pub leads-rules : get_or entries c 0 ≡ 0 → next ≡ to.rules outer (suc c)
      unfolding transition
      leads-rules e = rw (entry-rules entries f c more b e, transition)

      module _ (i : ℕ) (e : get_or entries c 0 ≡ suc i) where
        pub leads-argument : length outer < 63 → next ≡ to.argument (outer ++ suc c ∷ [])
        unfolding transition
        leads-argument h = rw (entry-argument entries f c more b i e, transition) (rw (lt-leb levels (suc (length outer)) (omega (arith, h))))

        pub leads-deep : 63 ≤ length outer → next ≡ to.too_deep
        unfolding transition
        leads-deep h = rw (entry-argument entries f c more b i e, transition) (rw (le-leb levels (suc (length outer)) (omega (arith, h))))

  -- ---- what the event tells

  abbrev pub Entered : Event → Type 0
  Entered End = (length entries ≤ c) × (next ≡ to.end outer)
  Entered Repeated = (c < length entries) × (stood entries f c ≡ true) × (next ≡ to.repeated outer (suc c))
  Entered Rules = (c < length entries) × (get_or entries c 0 ≡ 0) × (next ≡ to.rules outer (suc c))
  Entered Argument = (i : ℕ) × (c < length entries) × (get_or entries c 0 ≡ suc i) × (next ≡ to.argument (outer ++ suc c ∷ []))
  Entered TooDeep = (i : ℕ) × (c < length entries) × (get_or entries c 0 ≡ suc i) × (63 ≤ length outer) × (next ≡ to.too_deep)

  entered : Entered (event_of next)
  entered = go (asks entries f c)
    where
      by : (o : to.Transition) → next ≡ o → Entered (event_of o) → Entered (event_of next)
      by o q h = subst (λ y. Entered (event_of y)) (sym q) h

      go : {e : Entry} → Asks entries f c e → Entered (event_of next)
      go (end h) = by (to.end outer) (leads-end h) (h, leads-end h)
      go (again h b) = by (to.repeated outer (suc c)) (leads-repeated h b) (h, b, leads-repeated h b)
      go (rules h b q) = by (to.rules outer (suc c)) (leads-rules h b q) (h, q, leads-rules h b q)
      go (opens i h b q) = elim (dec_lt (length outer) 63) [
        | yes l ↦ by (to.argument (outer ++ suc c ∷ [])) (leads-argument h b i q l) (i, h, q, leads-argument h b i q l)
        | no l ↦
            let l' : 63 ≤ length outer = omega arith in
            by to.too_deep (leads-deep h b i q l') (i, h, q, l', leads-deep h b i q l')
      ]

  -- of an event that is known
  pub entered_by : (e : Event) → event_of next ≡ e → Entered e
  entered_by e q = subst Entered q entered
