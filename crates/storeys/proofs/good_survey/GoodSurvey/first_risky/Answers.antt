use Rattle.std.proofs.Common.{◌≡◌, ◌+◌, ◌∙◌, sym, rules, None, Some, ℕ}
use Rattle.std.specs.Iterator.Adapters.{enumerate_source, enumerate_count}
use Rattle.records.specs.Forms.{form_number}
use Rattle.records.proofs.Firsts.{first-none}
use Rattle.checks.specs.RowChecks.{records_of}
use Rattle.checks.specs.RowsInTurn.{storeys_left, members_left}
use Rattle.storeys.specs.Storey.{published_rules, lowest_risky_case}
use Rattle.storeys.specs.Building.{first_risky, first_risky_case}
use Rattle.storeys.specs.FirstRisky.{risky_in}
use Rattle.storeys.specs.Place.{case_numbered}
use Rattle.storeys.specs.GoodStoreys.{rows_left, form_of, level_of}
use Rattle.storeys.proofs.GoodStoreys.{IsGiven, numbered-turn, numbered-all, given-case}
use Rattle.storeys.proofs.FirstRisky.{first_of, case-is, case-none, named-here, passed-here, none-named-yet, case-of-first, no-case}
use Rattle.storeys.proofs.good_survey.GoodSurvey.first_risky.Goals as goal
use Rattle.storeys.proofs.good_survey.GoodSurvey.first_risky.Goals.{In-Some, In-None}

given : (c : In-Some) → IsGiven c.args.self.now c.in-Some.i c.in-Some.storey
given c =
    let from = c.into_iter-i-iterator.result in
    let none : enumerate_count from ≡ 0 = cc in
    let ss : storeys_left (rows_left (enumerate_source from)) ≡ c.args.self.now.survey.storeys.now = cc in
    let ms : members_left (rows_left (enumerate_source from)) ≡ c.args.self.now.survey.members.now = cc in
    let form : form_of (enumerate_source from) ≡ c.args.self.now.form = cc in
    let level : level_of (enumerate_source from) ≡ c.args.self.now.level = cc in
    numbered-turn c.loop-i.yielded from c.loop-i.i-iterator c.next.new.self c.loop-i.yielded_by none c.args.self.now ss ms form level (c.in-Some.i, c.in-Some.storey) c.in-Some.ensures.steps

none-before : (c : In-Some) → first_of (risky_in published_rules (records_of c.args.self.now.survey)) c.in-Some.i ≡ 0
none-before c = rw c.in-Some.ensures.steps.1 c.loop-i.invariant

-- the storey that is given has a Risky case: it is named, with its lowest
named : (c : In-Some) (case : ℕ) → let a = records_of c.args.self.now.survey in let x = c.in-Some.storey in
    Some case ≡ case_numbered (lowest_risky_case published_rules (form_number x.form) x.level.hundredths x.storey.now x.members.now)
    → (first_risky published_rules a ≡ c.in-Some.i + 1) × (case ≡ first_risky_case published_rules a)
named c case e =
    let a = records_of c.args.self.now.survey in
    let g = given c in
    let k = case-is _ case e in
    let own = k.0 ∙ given-case c.args.self.now _ _ g in
    let first = named-here published_rules a _ _ g.at.within (none-before c) own k.1 in
    (first, own ∙ sym (case-of-first published_rules a _ first))

pub loop-i-init : goal.loop-i-init
loop-i-init c =
    let none : enumerate_count c.into_iter-i-iterator.result ≡ 0 = cc in
    rw none (first-none _ _ _)

pub returns-in-Some-lowest_risky_case-clause-place : goal.returns-in-Some-lowest_risky_case-clause-place
returns-in-Some-lowest_risky_case-clause-place c =
    let r : c.lowest_risky_case.result ≡ Some c.in-Some-lowest_risky_case.case = search rules in
    sym (named (goal.at.returns-in-Some-lowest_risky_case-clause-place c).In-Some _ (sym r ∙ c.lowest_risky_case.ensures)).0

pub returns-in-Some-lowest_risky_case-clause-case_number : goal.returns-in-Some-lowest_risky_case-clause-case_number
returns-in-Some-lowest_risky_case-clause-case_number c =
    let r : c.lowest_risky_case.result ≡ Some c.in-Some-lowest_risky_case.case = search rules in
    (named (goal.at.returns-in-Some-lowest_risky_case-clause-case_number c).In-Some _ (sym r ∙ c.lowest_risky_case.ensures)).1

pub loop-i-preserved : goal.loop-i-preserved
loop-i-preserved c =
    let at = (goal.at.loop-i-preserved c).In-Some in
    let a = records_of c.args.self.now.survey in
    let r : c.lowest_risky_case.result ≡ None = search rules in
    let e = case-none _ (sym r ∙ c.lowest_risky_case.ensures) ∙ given-case c.args.self.now _ _ (given at) in
    rw (c.in-Some.ensures.steps.2, ← c.in-Some.ensures.steps.1) (passed-here published_rules a _ (none-before at) e)

none : (c : In-None) → first_risky published_rules (records_of c.args.self.now.survey) ≡ 0
none c =
    let from = c.into_iter-i-iterator.result in
    let none : enumerate_count from ≡ 0 = cc in
    let ss : storeys_left (rows_left (enumerate_source from)) ≡ c.args.self.now.survey.storeys.now = cc in
    let all = rw ss at (numbered-all c.loop-i.yielded from c.loop-i.i-iterator c.next.new.self c.loop-i.yielded_by none c.in-None.ensures.steps) in
    none-named-yet published_rules (records_of c.args.self.now.survey) (rw all at c.loop-i.invariant)

pub returns-clause-place : goal.returns-clause-place
returns-clause-place c = sym (none (goal.at.returns-clause-place c).In-None)

pub returns-clause-case_number : goal.returns-clause-case_number
returns-clause-case_number c = sym (no-case published_rules _ (none (goal.at.returns-clause-case_number c).In-None))
