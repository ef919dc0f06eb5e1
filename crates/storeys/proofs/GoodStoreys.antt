-- The storeys of a good survey in turn: each is good, and which are given.
use Prim.Native.Nat.{ℕ, suc, ◌<◌}
use native.Mathlib.Omega.{arith}
use mathlib.Core.List.{List, [], ◌∷◌, map}
use mathlib.Core.Path.{◌≡◌, refl, ap, sym, ◌∙◌}
use lib.ListN.{length, drop, take}
use Rattle.std.specs.Prelude.{None, Some}
use Rattle.std.specs.Iterator.{Yields}
use Rattle.std.specs.Iterator.Adapters.{enumerate_source, enumerate_count, enumerate_steps}
use Rattle.std.specs.declared.iter.Enumerate.{Enumerate}
use Rattle.std.proofs.lemmas.List.{length-map}
use Rattle.records.specs.Forms.{form_number}
use Rattle.records.specs.Records.{storey_fault, repeated, survey_of}
use Rattle.records.specs.declared.{Header.Header, Storey.Storey, Member.Member}
use Rattle.records.proofs.Validity.{count_most}
use Rattle.checks.specs.Rows.{member_rows_fault, storey_in, members_of, members_before, records_fault}
use Rattle.checks.specs.RowChecks.{records_of}
use Rattle.checks.specs.RowsInTurn.{storeys_left, members_left, GivesStorey}
use Rattle.checks.specs.declared.storey_rows.StoreyRows.{StoreyRows}
use Rattle.checks.proofs.Refusals.{None as NoneOf, one, rest}
use Rattle.checks.proofs.RowLaws.{members-counted, total-counted, rows}
use Rattle.checks.proofs.Numbered.{numbered-next, numbered-end}
use Rattle.checks.proofs.RowsInTurn.{Given, IsStorey, members-later, turn, all-given}
use Rattle.members.specs.declared.knowledge.Knowledge.{Knowledge}
use Rattle.storeys.specs.Rows.{Rows, GoodRows}
use Rattle.storeys.specs.Storey.{published_rules, storey_risky, lowest_risky_case}
use Rattle.storeys.specs.Building.{risky_at, lowest_case_at}
use Rattle.storeys.specs.FirstRisky.{risky_in}
use Rattle.storeys.specs.GoodStoreys.{rows_left, form_of, level_of, GivesGoodStorey}
use Rattle.storeys.specs.declared.good_storey.GoodStorey.{GoodStorey}
use Rattle.storeys.specs.declared.good_survey.GoodSurvey.{GoodSurvey}
use Rattle.storeys.specs.declared.good_storeys.GoodStoreys.{GoodStoreys}

-- ---- the rows are good: those of a survey, and those that are left
pub rows_good : (h : Header) (ss : List Storey) (ms : List Member) (form : ℕ) → form ≡ h.form → records_fault (survey_of h ss ms) ≡ 0 → GoodRows form ss ms
rows_good h ss ms form e clear =
    rw e
    (record {
      storeys = λ i l. one (own i l);
      members = λ i l. record {
        good = one (rest (rest (own i l)));
        most = omega (arith, members-counted ss ms i (total-counted h ss ms clear), count_most h.form (storey_in ss i) (one (own i l)));
      };
    })
  where
    own : (i : ℕ) → i < length ss → NoneOf (storey_fault h.form (storey_in ss i) ∷ repeated (λ j. (storey_in ss j).number) i ∷ member_rows_fault h.form (members_of ss ms i) ∷ [])
    own i l = rows h ss ms clear i l

later : (form : ℕ) (s : Storey) (ss : List Storey) (ms : List Member) → GoodRows form (s ∷ ss) ms → GoodRows form ss (drop s.count ms)
later form s ss ms r = record {
  storeys = λ i l. r.storeys (suc i) (omega arith);
  members = λ i l. rw (members-later s ss ms i) (r.members (suc i) (omega arith));
}

first : (form : ℕ) (s : Storey) (ss : List Storey) (ms : List Member) → GoodRows form (s ∷ ss) ms → (storey_fault form s ≡ 0) × Rows form (take s.count ms)
unfolding members_of members_before
first form s ss ms r = (r.storeys 0 (omega arith), r.members 0 (omega arith))

module _ (form : ℕ) (s t : StoreyRows) where
  pub given-good : (x : Given) → GivesStorey s (Some x) t → GoodRows form (storeys_left s) (members_left s) → (storey_fault form x.0.now ≡ 0) × Rows form x.1.now
  given-good x g r = rw g.1 (first form x.0.now (storeys_left t) (members_left s) (rw g.0 at r))

  pub later-good : (x : Given) → GivesStorey s (Some x) t → GoodRows form (storeys_left s) (members_left s) → GoodRows form (storeys_left t) (members_left t)
  later-good x g r = rw g.2 (later form x.0.now (storeys_left t) (members_left s) (rw g.0 at r))

  pub none-good : GivesStorey s None t → GoodRows form (storeys_left t) (members_left t)
  none-good g = rw g.1 (record { storeys = λ i l. absurd (omega arith); members = λ i l. absurd (omega arith) })

pub ruleset left_good = (later-good, none-good)

-- ---- the storeys that are given
abbrev given-rows : GoodStorey → Given
given-rows good = (good.storey, good.members)

rows-given : (given : List GoodStorey) (s t : GoodStoreys) → Yields GivesGoodStorey s given t
    → Yields GivesStorey (rows_left s) (map given-rows given) (rows_left t) × (form_of t ≡ form_of s) × (level_of t ≡ level_of s)
rows-given [] s t y = (ap rows_left y, sym (ap form_of y), sym (ap level_of y))
rows-given (x ∷ given) s t y =
    let r = rows-given given y.0 t y.2 in
    ((rows_left y.0, y.1.0, r.0), r.1 ∙ y.1.3, r.2 ∙ y.1.4)

-- what is given is storey i of a survey with its members, in the survey's form and at its level
pub record IsGiven (g : GoodSurvey) (i : ℕ) (x : GoodStorey) : Type 0 where
  pub at : IsStorey g.survey.storeys.now g.survey.members.now i (given-rows x)
  pub form : form_number x.form ≡ g.survey.header.form
  pub level : x.level.hundredths ≡ g.survey.header.knowledge

-- it is Risky, and in which case first, as storey i of the records is
pub given-risky : (g : GoodSurvey) (i : ℕ) (x : GoodStorey) → IsGiven g i x → storey_risky published_rules (form_number x.form) x.level.hundredths x.storey.now x.members.now ≡ risky_in published_rules (records_of g.survey) i
unfolding risky_at
given-risky g i x given = rw (given.form, given.level, given.at.storey, given.at.own) refl

pub given-case : (g : GoodSurvey) (i : ℕ) (x : GoodStorey) → IsGiven g i x → let a = records_of g.survey in
    lowest_risky_case published_rules (form_number x.form) x.level.hundredths x.storey.now x.members.now ≡ lowest_case_at published_rules a.header.form a.header.knowledge a.storeys a.members i
unfolding lowest_case_at
given-case g i x given = rw (given.form, given.level, given.at.storey, given.at.own) refl

same-storey : (ss ss' : List Storey) (ms ms' : List Member) (i j : ℕ) (x : Given) → ss ≡ ss' → ms ≡ ms' → i ≡ j → IsStorey ss ms i x → IsStorey ss' ms' j x
same-storey ss ss' ms ms' i j x a b c at = rw (a, b, c) at at

module _ (given : List GoodStorey) (s t u : GoodStoreys) (y : Yields GivesGoodStorey s given t) where
  -- after calls that gave so many, the next gives the storey of that place
  pub good-turn : (g : GoodSurvey) → storeys_left (rows_left s) ≡ g.survey.storeys.now → members_left (rows_left s) ≡ g.survey.members.now → form_of s ≡ g.form → level_of s ≡ g.level
      → (x : GoodStorey) → GivesGoodStorey t (Some x) u → IsGiven g (length given) x
  good-turn g ss ms form level x k =
      let r = rows-given given s t y in
      let at = turn (map given-rows given) (rows_left s) (rows_left t) (rows_left u) (given-rows x) r.0 k.0 in
      record {
        at = same-storey _ _ _ _ _ _ (given-rows x) ss ms (length-map given given-rows) at;
        form = ap form_number (k.1 ∙ r.1 ∙ form) ∙ g.in_form;
        level = ap (λ (l : Knowledge). l.hundredths) (k.2 ∙ r.2 ∙ level) ∙ g.in_level;
      }

  -- where none is given any more, all were given
  pub good-all : GivesGoodStorey t None u → length given ≡ length (storeys_left (rows_left s))
  good-all k = sym (length-map given given-rows) ∙ all-given (map given-rows given) (rows_left s) (rows_left t) (rows_left u) (rows-given given s t y).0 k

-- ---- the same with numbers from 0
abbrev pub Numbered : Type 0
Numbered = ℕ × GoodStorey

module _ (given : List Numbered) (s t u : Enumerate GoodStoreys) (y : Yields (enumerate_steps GivesGoodStorey) s given t) (e : enumerate_count s ≡ 0) where
  pub numbered-turn : (g : GoodSurvey) → storeys_left (rows_left (enumerate_source s)) ≡ g.survey.storeys.now → members_left (rows_left (enumerate_source s)) ≡ g.survey.members.now → form_of (enumerate_source s) ≡ g.form → level_of (enumerate_source s) ≡ g.level
      → (x : Numbered) → enumerate_steps GivesGoodStorey t (Some x) u → IsGiven g x.0 x.1
  numbered-turn g ss ms form level =
      numbered-next GivesGoodStorey given s t u y e (IsGiven g) (λ given' t' u' x' y' k. good-turn given' (enumerate_source s) t' u' y' g ss ms form level x' k)

  pub numbered-all : enumerate_steps GivesGoodStorey t None u → enumerate_count t ≡ length (storeys_left (rows_left (enumerate_source s)))
  numbered-all =
      numbered-end GivesGoodStorey given s t u y e (length (storeys_left (rows_left (enumerate_source s)))) (λ given' t' u' y'. good-all given' (enumerate_source s) t' u' y')
