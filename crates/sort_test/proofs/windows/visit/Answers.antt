-- `windows::visit` meets its contract.
use native.Mathlib.Omega.{arith}
use Rattle.system.specs.Signature.{signature_of}
use Rattle.sort_test.proofs.windows.Putting.{visit-high, visit-low, visit-differs, visit-same, visit-below, visit-puts}
use Rattle.sort_test.proofs.windows.visit.Goals as goal
use Rattle.sort_test.proofs.windows.visit.Goals.{then-low-h-via-then-low-h, then-low-h-via-else-low-h+then-h-a, else-low-h-2-via-then-low-h-2+else-listed-window, else-low-h-2-via-else-low-h-2}

pub returns-then-low-h : goal.returns-then-low-h
returns-then-low-h c =
    let a = c.args in
    let g = signature_of a.book.now in
    elim c.then-low-h.branch [
      | then-low-h-via-then-low-h w ↦
          let told = visit-high g a.kinds.now a.low a.h a.w a.window.now c.told-window w.if-low-h.true in
          record { compared = told.0; put = told.1 }
      | then-low-h-via-else-low-h+then-h-a w ↦
          let told = visit-low g a.kinds.now a.low a.h a.w a.window.now c.told-window c.arity-a.ensures.0 w.if-h-a.true in
          record { compared = told.0; put = told.1 }
    ]

pub returns-then-listed-window : goal.returns-then-listed-window
returns-then-listed-window c =
    let a = c.args in
    let m = c.if-low-h.false in
    let told = visit-differs (signature_of a.book.now) a.kinds.now a.low a.h a.w a.window.now c.told-window c.offset-o.ensures.0 c.listed.ensures
    c.if-low-h-2.true (omega arith) c.if-listed-window.true _ in
    record { compared = told.0; put = told.1 }

pub returns : goal.returns
returns c =
    let a = c.args in
    let g = signature_of a.book.now in
    let m = c.if-low-h.false in record {
      compared = elim c.else-low-h-2.branch [
        | else-low-h-2-via-then-low-h-2+else-listed-window w ↦
            visit-same g a.kinds.now a.low a.h a.w a.window.now c.told-window c.offset-o.ensures.0 w.listed.ensures w.if-low-h-2.true (omega arith) w.if-listed-window.false
        | else-low-h-2-via-else-low-h-2 w ↦ visit-below g a.kinds.now a.low a.h a.w a.window.now c.told-window (let z = w.if-low-h-2.false in omega arith)
      ];
      put = visit-puts g a.kinds.now a.low a.h a.w a.window.now c.told-window c.offset-o.ensures.0 c.arity-a.ensures.0 _ c.put.ensures;
    }
