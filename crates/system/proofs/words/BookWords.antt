-- The symbols as the words of any book list them, in the terms of the code.
use Prim.Native.Nat.{ℕ, ◌+◌, ◌-◌, ◌≤◌, ◌<◌, min}
use native.Mathlib.Omega.{arith}
use mathlib.Core.Path.{◌≡◌, ap, ◌∙◌}
use mathlib.Core.List.{List}
use lib.ListN.{length, get_or, drop, length-take, length-drop}
use lib.Seq.{get_or-take, get_or-drop}
use Rattle.system.specs.Signature.{arity}
use Rattle.system.specs.Signature.{signature_of}
use Rattle.system.proofs.Signatures.{arity-listed}

module _ (ws : List ℕ) where
  pub signature-length : length (signature_of ws) ≡ min (get_or ws 0 0) (length ws - 1)
  unfolding signature_of
  signature-length = simp (length-take, length-drop)

  pub signature-within : length (signature_of ws) ≤ length ws
  signature-within = omega (arith, signature-length)

  pub signature-room : (i : ℕ) → i < length (signature_of ws) → i + 1 < length ws
  signature-room i h = omega (arith, signature-length)

  -- symbol i has its arity at index i + 1
  pub signature-word : (i : ℕ) → i < length (signature_of ws) → get_or (signature_of ws) i 0 ≡ get_or ws (i + 1) 0
  unfolding signature_of
  signature-word i h =
      let e : 1 + i ≡ i + 1 = omega arith in
      get_or-take (get_or ws 0 0) (drop 1 ws) i 0 (omega (arith, signature-length)) ∙ get_or-drop 1 ws i 0 ∙ ap (λ n. get_or ws n 0) e

  pub signature-arity : (i : ℕ) → i < length (signature_of ws) → arity (signature_of ws) i ≡ get_or ws (i + 1) 0
  signature-arity i h = arity-listed (signature_of ws) i h ∙ signature-word i h
