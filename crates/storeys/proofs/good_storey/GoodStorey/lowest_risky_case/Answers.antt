use Rattle.std.proofs.Common.{◌≡◌, rules, None, Some, true, false, sym, ap, arith}
use Rattle.std.proofs.lemmas.Iterator.{YieldsList-from_range, IsFirst-from_position}
use Rattle.storeys.specs.Storey.{storey_finding, lowest_risky_case}
use Rattle.storeys.specs.Place.{case_numbered}
use Rattle.storeys.proofs.Called.{risky-in}
use Rattle.storeys.proofs.FirstRisky.{listed-none, listed-one, case-next}
use Rattle.storeys.proofs.good_storey.GoodStorey.lowest_risky_case.Goals as goal

pub returns-in_err-c : goal.returns-in_err-c
unfolding lowest_risky_case storey_finding
returns-in_err-c c =
    let s = c.args.self.now in
    let risky = risky-in s.level.hundredths s.storey.now s.members.now in
    let e : c.from_residual.result ≡ None = search rules in
    let n : c.position.result ≡ None = search rules in
    let found = IsFirst-from_position _ _ _ (λ l. risky l ≡ true) (λ l. risky l ≡ false) c.position.ensures.ran (YieldsList-from_range 0 c.case_count.result c.case_count.result (cc) (omega arith)) (λ x q k. search rules) (λ x q k. search rules) in
    let none = listed-none risky c.case_count.result (rw n at found) in
    rw e (sym (ap case_numbered (rw c.case_count.ensures at none)))

pub returns : goal.returns
unfolding lowest_risky_case storey_finding
returns c =
    let s = c.args.self.now in
    let risky = risky-in s.level.hundredths s.storey.now s.members.now in
    let n : c.position.result ≡ Some c.in_ok-c.c = search rules in
    let found = IsFirst-from_position _ _ _ (λ l. risky l ≡ true) (λ l. risky l ≡ false) c.position.ensures.ran (YieldsList-from_range 0 c.case_count.result c.case_count.result (cc) (omega arith)) (λ x q k. search rules) (λ x q k. search rules) in
    let one = listed-one risky c.case_count.result c.in_ok-c.c (rw n at found) in
    case-next _ _ (rw c.case_count.ensures at one)
