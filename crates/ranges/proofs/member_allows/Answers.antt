use Rattle.std.proofs.Common.{◌∷◌, ◌++◌, ◌-◌, [], ap, sym, refl, ◌∙◌, arith}
use Rattle.std.proofs.Math.ListN.{get_or-append}
use Rattle.records.specs.Records.{allows, never, member_ranges, case_ranges, annex_e_range}
use Rattle.ranges.proofs.Fields.{after-list}
use Rattle.ranges.proofs.member_allows.Goals as goal

pub returns-then-j : goal.returns-then-j
returns-then-j c =
    let j = c.args.j in
    let k = sym (get_or-append case_ranges (annex_e_range ∷ []) never (j - 18) (omega arith)) ∙ after-list member_ranges (case_ranges ++ (annex_e_range ∷ [])) j 18 never refl c.if-j-lt-CASE_AT.false in
    c.field_allows-then-j.ensures ∙ ap (λ r. allows r c.args.v) k

pub returns : goal.returns
returns c = c.field_allows-2.ensures ∙ ap (λ r. allows r c.args.v) (after-list (member_ranges ++ case_ranges) (annex_e_range ∷ []) c.args.j 26 never refl c.if-j.false)
