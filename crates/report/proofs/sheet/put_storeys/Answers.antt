use Rattle.std.proofs.Common.{arith, sym, ◌∙◌, ◌≡◌, ◌+◌, ◌-◌, ◌∷◌, [], ◌++◌, length, length-append}
use Rattle.records.specs.Forms.{form_number}
use Rattle.records.proofs.Below.{any_none}
use Rattle.checks.specs.RowChecks.{records_of}
use Rattle.checks.specs.RowsInTurn.{storeys_left, members_left}
use Rattle.storeys.specs.Building.{some_risky}
use Rattle.storeys.specs.Storey.{published_rules}
use Rattle.storeys.specs.FirstRisky.{risky_in}
use Rattle.storeys.specs.GoodStoreys.{rows_left, form_of, level_of}
use Rattle.storeys.proofs.GoodStoreys.{IsGiven, good-turn, good-all, given-risky}
use Rattle.columns.proofs.Written.{Remaining, all-left, part-put, none-left, first-fits}
use Rattle.report.specs.Sheet.{storey_lines, storeys_lines}
use Rattle.report.specs.Printing.{sheet_storeys}
use Rattle.report.proofs.Cases.{any-next}
use Rattle.report.proofs.Survey.{storeys-left, storeys-end}
use Rattle.report.proofs.sheet.put_storeys.Goals as goal
use Rattle.report.proofs.sheet.put_storeys.Goals.{In-Some, In-None}

given : (c : In-Some) → IsGiven c.args.good.now (length c.loop-storey.yielded) c.in-Some.storey
given c =
    let from = c.into_iter-storey-iterator.result in
    let ss : storeys_left (rows_left from) ≡ c.args.good.now.survey.storeys.now = cc in
    let ms : members_left (rows_left from) ≡ c.args.good.now.survey.members.now = cc in
    let form : form_of from ≡ c.args.good.now.form = cc in
    let level : level_of from ≡ c.args.good.now.level = cc in
    good-turn c.loop-storey.yielded from c.loop-storey.storey-iterator c.next.new.self c.loop-storey.yielded_by c.args.good.now ss ms form level c.in-Some.storey c.in-Some.ensures.steps

all : (c : In-None) → length c.loop-storey.yielded ≡ length c.args.good.now.survey.storeys.now
all c =
    let from = c.into_iter-storey-iterator.result in
    let ss : storeys_left (rows_left from) ≡ c.args.good.now.survey.storeys.now = cc in
    rw ss at (good-all c.loop-storey.yielded from c.loop-storey.storey-iterator c.next.new.self c.loop-storey.yielded_by c.in-None.ensures.steps)

-- the lines that are left begin with the storey's
left : (c : In-Some) → let a = records_of c.args.good.now.survey in let x = c.in-Some.storey in let i = length c.loop-storey.yielded in
    Remaining (storey_lines (form_number x.form) x.level.hundredths x.storey.now x.members.now ++ storeys_lines a.header.form a.header.knowledge a.storeys a.members (i + 1) (length a.storeys - (i + 1)))
    (sheet_storeys a) c.args.writer.now c.loop-storey.writer
left c =
    let a = records_of c.args.good.now.survey in
    let g = given c in
    rw (storeys-left a.header.form a.header.knowledge a.storeys a.members _ _ g.at _ _ g.form g.level) at c.loop-storey.invariant.left

pub loop-storey-init : goal.loop-storey-init
loop-storey-init c =
    let n = length c.args.good.now.survey.storeys.now in
    let e : n - 0 ≡ n = omega arith in
    record { goes = tt; ends = tt; risky = sym (any_none _); left = rw e (all-left _ c.args.writer.now) }

pub put_storey-risky-requires : goal.put_storey-risky-requires
put_storey-risky-requires c = first-fits _ _ _ _ c.loop-storey.writer c.requires (left (goal.at.put_storey-risky-requires c).In-Some)

pub loop-storey-preserved : goal.loop-storey-preserved
loop-storey-preserved c =
    let a = records_of c.args.good.now.survey in
    let at = (goal.at.loop-storey-preserved c).In-Some in
    let more = length-append c.loop-storey.yielded (c.in-Some.storey ∷ []) in
    let here = c.put_storey-risky.ensures.risky ∙ given-risky c.args.good.now _ c.in-Some.storey (given at) in
    rw more
    (record {
      goes = tt;
      ends = tt;
      risky = any-next (risky_in published_rules a) _ _ _ c.loop-storey.invariant.risky here;
      left = part-put _ _ _ _ c.loop-storey.writer _ (left at) c.put_storey-risky.ensures.written;
    })

pub returns-clause-risky : goal.returns-clause-risky
unfolding some_risky
returns-clause-risky c = rw (all (goal.at.returns-clause-risky c).In-None) at c.loop-storey.invariant.risky

pub returns-clause-written : goal.returns-clause-written
returns-clause-written c =
    let a = records_of c.args.good.now.survey in
    let n = all (goal.at.returns-clause-written c).In-None in
    let end = storeys-end a.header.form a.header.knowledge a.storeys a.members (length c.loop-storey.yielded) (omega (arith, n)) in
    none-left _ _ c.loop-storey.writer (rw end at c.loop-storey.invariant.left)
