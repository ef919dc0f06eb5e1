use Rattle.std.proofs.Common.{ℕ, ◌+◌, ◌≡◌, ◌∙◌, ap, rules, tests, arith}
use Rattle.std.specs.List.{enumerate_from}
use Rattle.std.proofs.lemmas.Iterator.{YieldsList-from_slice}
use Rattle.std.proofs.lemmas.Iterator.Consumers.{YieldsList-from_enumerate}
use Rattle.std.proofs.lemmas.Iterator.Search.{all_from_yields_List}
use Rattle.std.proofs.lemmas.List.FromFn.{length-enumerate_from, get_or-enumerate_from}
use Rattle.records.specs.declared.LoadCase.{LoadCase}
use Rattle.records.specs.Forms.{form_number}
use Rattle.records.specs.Records.{no_case}
use Rattle.records.proofs.Below.{every-element}
use Rattle.validity.specs.Cases.{case_good, case_alone}
use Rattle.validity.proofs.cases_fit.Goals as goal

pub returns-clause-value : goal.returns-clause-value
returns-clause-value c =
    let cases = c.args.cases.now in
    let good : ℕ × LoadCase → _ = λ p. case_good (form_number c.args.form) p.0 p.1 in
    all_from_yields_List good _ _ c.all.result c.all.ensures.ran (YieldsList-from_enumerate (YieldsList-from_slice cases (cc)) (cc)) (λ x b q k. search (rules, tests))
    ∙ every-element (case_alone (form_number c.args.form) cases) good (enumerate_from 0 cases) (0, no_case) 4 (length-enumerate_from 0 cases ∙ omega arith) (λ j h. let z : 0 + j ≡ j = omega arith in ap good (rw z at (get_or-enumerate_from 0 cases j (0, no_case) (omega arith))))
