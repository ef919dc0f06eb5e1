use Rattle.std.proofs.Common.{length, take, drop, get_or, ◌≡◌, ◌+◌, ◌-◌, ◌<◌, ◌∙◌, sym, false, rules, tests, arith}
use borrow.Author.Tests.{ne_eqb}
use Rattle.format.proofs.Columns.{pushed-small}
use Rattle.format.proofs.Scan.{no-blank-first, scan-starts, scan-stops, scan-goes, scan-ends, middle-long, middle-at, last-at, column_stops, column_goes}
use Rattle.format.proofs.cursor.plain_number.Goals as goal

pub returns-in_default-2 : goal.returns-in_default-2
returns-in_default-2 c = no-blank-first c.args.columns.now (omega arith) (search (rules, tests))

pub loop-column-init : goal.loop-column-init
loop-column-init c = (omega arith, scan-starts c.args.columns.now (omega arith) (search (rules, tests)))

pub returns-in_err-number : goal.returns-in_err-number
returns-in_err-number c =
    let l = c.loop-column in
    let all = c.args.columns.now in
    let h : l.column-index < 6 = omega (arith, middle-long all (omega arith) _ c.as_slice.ensures) in
    c.from_residual.ensures
    ∙ scan-stops all (omega arith) (l.column-index + 1) l.number _ false _ (omega arith) (middle-at all (omega arith) _ c.as_slice.ensures l.column-index h) (ne_eqb _ _ (λ e. omega arith)) l.invariant.1 (column_stops _ _ (sym c.with_column.ensures ∙ c.in_err-number.was))

pub loop-column-preserved : goal.loop-column-preserved
loop-column-preserved c =
    let l = c.loop-column in
    let all = c.args.columns.now in
    let s = c.as_slice.result.now in
    let h : l.column-index < 6 = omega (arith, middle-long all (omega arith) _ c.as_slice.ensures) in
    let g = column_goes _ _ _ (sym c.with_column.ensures ∙ c.in_ok-number.was) in (
      rw g.1 (pushed-small l.number (get_or (take (length s - 1 - 1) (drop 1 s)) l.column-index 0) (l.column-index + 1) l.invariant.0),
      rw g.1 (scan-goes all (omega arith) (l.column-index + 1) l.number _ false _ (omega arith) (middle-at all (omega arith) _ c.as_slice.ensures l.column-index h) (ne_eqb _ _ (λ e. omega arith)) l.invariant.1 g.0),
    )

pub returns : goal.returns
returns c =
    let l = c.loop-column in
    let all = c.args.columns.now in
    let s = c.as_slice.result.now in
    let i : l.column-index + 1 ≡ 7 = omega (arith, middle-long all (omega arith) _ c.as_slice.ensures) in
    c.with_column-2.ensures ∙ scan-ends all (omega arith) l.number (get_or s (length s - 1) 0) _ (last-at all (omega arith) s c.as_slice.ensures) (rw i at l.invariant.1)
