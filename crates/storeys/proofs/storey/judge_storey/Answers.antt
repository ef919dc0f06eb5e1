use Rattle.std.proofs.Common.{◌≡◌, ap, sym, refl, ◌∙◌, rules, Err, Ok, true, false, ◌&&◌}
use Rattle.records.specs.Refusals.{numbered, refusal_number}
use Rattle.records.specs.Records.{known_form, storey_fault}
use Rattle.records.proofs.Refusals.{number-positive}
use Rattle.records.proofs.Forms.{form-known}
use Rattle.checks.specs.Rows.{member_rows_fault}
use Rattle.members.specs.Finding.{knowledge}
use Rattle.storeys.specs.Storey.{returned_storey}
use Rattle.storeys.proofs.Called.{uncounted, unknown, storey-refused, members-refused, judged, good-rows}
use Rattle.storeys.proofs.storey.judge_storey.Goals as goal

pub returns-then-s-rows : goal.returns-then-s-rows
returns-then-s-rows c =
    let q = uncounted c.args.k c.args.form c.args.s.now c.args.rows.now c.if-s-rows.true in
    record { answer = q; returned = ap returned_storey q }

pub returns-in_err-level : goal.returns-in_err-level
returns-in_err-level c =
    let a = c.args in
    let r = c.in_err-level.field-0.0 in
    let e : c.from_residual.result ≡ Err r = search rules in
    let three : refusal_number r ≡ 3 = ap refusal_number c.in_err-level.ensures.0 in
    let off : (knowledge a.k && known_form a.form) ≡ false = rw c.in_err-level.ensures.1 refl in
    let q = ap numbered e ∙ (ap Err three ∙ unknown a.k a.form a.s.now a.rows.now c.if-s-rows.false off) in
    record { answer = q; returned = ap returned_storey q }

pub returns-in_err-form : goal.returns-in_err-form
returns-in_err-form c =
    let a = c.args in
    let r = c.in_err-form.field-0.0 in
    let e : c.from_residual-in_err-form.result ≡ Err r = search rules in
    let three : refusal_number r ≡ 3 = ap refusal_number c.in_err-form.ensures.0 in
    let level : knowledge a.k ≡ true = ap knowledge (sym c.in_ok-level.ensures) ∙ c.in_ok-level.level.known in
    let off : (knowledge a.k && known_form a.form) ≡ false = rw (level, c.in_err-form.ensures.1) refl in
    let q = ap numbered e ∙ (ap Err three ∙ unknown a.k a.form a.s.now a.rows.now c.if-s-rows.false off) in
    record { answer = q; returned = ap returned_storey q }

pub returns-in_err-check_storey : goal.returns-in_err-check_storey
returns-in_err-check_storey c =
    let a = c.args in
    let r = c.in_err-check_storey.field-0.0 in
    let e : c.from_residual-in_err-check_storey.result ≡ Err r = search rules in
    let level : knowledge a.k ≡ true = ap knowledge (sym c.in_ok-level.ensures) ∙ c.in_ok-level.level.known in
    let known : known_form a.form ≡ true = ap known_form (sym c.in_ok-form.ensures) ∙ form-known c.in_ok-form.form in
    let fault = c.in_err-check_storey.ensures ∙ ap (λ f. storey_fault f a.s.now) c.in_ok-form.ensures in
    let q = ap numbered e ∙ storey-refused a.k a.form a.s.now a.rows.now c.if-s-rows.false level known (refusal_number r) (number-positive r) fault in
    record { answer = q; returned = ap returned_storey q }

pub returns-in_err-check_members : goal.returns-in_err-check_members
returns-in_err-check_members c =
    let a = c.args in
    let r = c.in_err-check_members.field-0.0 in
    let e : c.from_residual-in_err-check_members.result ≡ Err r = search rules in
    let level : knowledge a.k ≡ true = ap knowledge (sym c.in_ok-level.ensures) ∙ c.in_ok-level.level.known in
    let known : known_form a.form ≡ true = ap known_form (sym c.in_ok-form.ensures) ∙ form-known c.in_ok-form.form in
    let good = c.in_ok-check_storey.ensures ∙ ap (λ f. storey_fault f a.s.now) c.in_ok-form.ensures in
    let fault = c.in_err-check_members.ensures ∙ ap (λ f. member_rows_fault f a.rows.now) c.in_ok-form.ensures in
    let q = ap numbered e ∙ members-refused a.k a.form a.s.now a.rows.now c.if-s-rows.false level known good (refusal_number r) (number-positive r) fault in
    record { answer = q; returned = ap returned_storey q }

pub invariant_of-storey : goal.invariant_of-storey
invariant_of-storey c =
    let a = c.args in
    let level : knowledge a.k ≡ true = ap knowledge (sym c.in_ok-level.ensures) ∙ c.in_ok-level.level.known in
    let known : known_form a.form ≡ true = ap known_form (sym c.in_ok-form.ensures) ∙ form-known c.in_ok-form.form in
    let good = c.in_ok-check_storey.ensures ∙ ap (λ f. storey_fault f a.s.now) c.in_ok-form.ensures in
    let rows = c.in_ok-check_members.ensures ∙ ap (λ f. member_rows_fault f a.rows.now) c.in_ok-form.ensures in
    record {
      good = sym c.in_ok-check_storey.ensures;
      rows = rw c.in_ok-form.ensures (good-rows a.k a.form a.s.now a.rows.now c.if-s-rows.false level known good rows);
    }

pub returns : goal.returns
returns c =
    let a = c.args in
    let level : knowledge a.k ≡ true = ap knowledge (sym c.in_ok-level.ensures) ∙ c.in_ok-level.level.known in
    let known : known_form a.form ≡ true = ap known_form (sym c.in_ok-form.ensures) ∙ form-known c.in_ok-form.form in
    let good = c.in_ok-check_storey.ensures ∙ ap (λ f. storey_fault f a.s.now) c.in_ok-form.ensures in
    let rows = c.in_ok-check_members.ensures ∙ ap (λ f. member_rows_fault f a.rows.now) c.in_ok-form.ensures in
    let q = ap Ok (rw (c.in_ok-level.ensures, c.in_ok-form.ensures) at c.judgment.ensures) ∙ judged a.k a.form a.s.now a.rows.now c.if-s-rows.false level known good rows in
    record { answer = q; returned = ap returned_storey q }
