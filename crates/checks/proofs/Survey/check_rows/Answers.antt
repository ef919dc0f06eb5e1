use Rattle.std.proofs.Common.{◌≡◌, ap, sym, ◌∙◌, rules, Err, refl}
use Rattle.std.specs.Iterator.Adapters.{enumerate_source, enumerate_count}
use Rattle.records.specs.Forms.{form_number}
use Rattle.records.specs.Refusals.{fault_of}
use Rattle.records.proofs.Refusals.{number-positive}
use Rattle.records.proofs.Firsts.{first_fault, first-none}
use Rattle.checks.specs.Rows.{storey_rows_fault}
use Rattle.checks.specs.RowsInTurn.{storeys_left, members_left}
use Rattle.checks.proofs.RowLoops.{storey-stops, members-stop-rows, storey-passes}
use Rattle.checks.proofs.RowsInTurn.{IsStorey, numbered-turn, numbered-all}
use Rattle.checks.proofs.Survey.check_rows.Goals as goal
use Rattle.checks.proofs.Survey.check_rows.Goals.{In-Some}

given : (c : In-Some) → IsStorey c.args.self.now.storeys.now c.args.self.now.members.now c.in-Some.i (c.in-Some.storey, c.in-Some.own)
given c =
    let from = c.into_iter-i-iterator.result in
    let none : enumerate_count from ≡ 0 = cc in
    let ss : storeys_left (enumerate_source from) ≡ c.args.self.now.storeys.now = cc in
    let ms : members_left (enumerate_source from) ≡ c.args.self.now.members.now = cc in
    rw (ss, ms) at (numbered-turn c.loop-i.yielded from c.loop-i.i-iterator c.next.new.self c.loop-i.yielded_by none (c.in-Some.i, (c.in-Some.storey, c.in-Some.own)) c.in-Some.ensures.steps)

none-before : (c : In-Some) → first_fault (storey_rows_fault (form_number c.args.form) c.args.self.now.storeys.now c.args.self.now.members.now) c.in-Some.i ≡ 0
none-before c = rw c.in-Some.ensures.steps.1 c.loop-i.invariant

pub loop-i-init : goal.loop-i-init
loop-i-init c =
    let none : enumerate_count c.into_iter-i-iterator.result ≡ 0 = cc in
    rw none (first-none _ _ _)

pub slice_bounds-check_among-end : goal.slice_bounds-check_among-end
slice_bounds-check_among-end c = let g = given (goal.at.slice_bounds-check_among-end c).In-Some in search (rules, g.within)

pub returns-in_err-check_among : goal.returns-in_err-check_among
returns-in_err-check_among c =
    let at = (goal.at.returns-in_err-check_among c).In-Some in
    let r = c.in_err-check_among.field-0.0 in
    let e : c.from_residual.result ≡ Err r = search rules in
    ap fault_of e ∙ storey-stops _ (given at) (none-before at) _ c.in_err-check_among.ensures (number-positive r)

pub returns-in_err-check_members : goal.returns-in_err-check_members
returns-in_err-check_members c =
    let at = (goal.at.returns-in_err-check_members c).In-Some in
    let r = c.in_err-check_members.field-0.0 in
    let e : c.from_residual-in_err-check_members.result ≡ Err r = search rules in
    ap fault_of e ∙ members-stop-rows _ (given at) (none-before at) _ c.in_ok-check_among.ensures refl _ c.in_err-check_members.ensures (number-positive r)

pub loop-i-preserved : goal.loop-i-preserved
loop-i-preserved c =
    let at = (goal.at.loop-i-preserved c).In-Some in
    let next = storey-passes _ (given at) (none-before at) _ c.in_ok-check_among.ensures refl _ c.in_ok-check_members.ensures refl in
    rw (c.in-Some.ensures.steps.2, ← c.in-Some.ensures.steps.1) next

pub returns : goal.returns
returns c =
    let from = c.into_iter-i-iterator.result in
    let none : enumerate_count from ≡ 0 = cc in
    let ss : storeys_left (enumerate_source from) ≡ c.args.self.now.storeys.now = cc in
    let all = rw ss at (numbered-all c.loop-i.yielded from c.loop-i.i-iterator c.next.new.self c.loop-i.yielded_by none c.in-None.ensures.steps) in
    sym (rw all at c.loop-i.invariant)
