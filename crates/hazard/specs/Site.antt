-- The coefficients of a site (document 001, 2.7 and 3.8; document 02, N8).
use Rattle.std.specs.Prelude.{◌+◌, ◌-◌, ◌*◌, ◌/◌, ◌%◌, ◌∷◌, Result, Ok, Err}
use Rattle.records.specs.Notation.{ℕ, [], get_or, ltb, eqb, pick}
use Rattle.members.specs.Limits.{row, interp}
use Rattle.members.specs.declared.limits.Fraction.{Fraction}
use Rattle.hazard.specs.Tables.{Six, six, Published, short_period, one_second}
use Rattle.members.specs.Finding.{Returned, found, refused}
use Rattle.hazard.specs.Refusals.{site_fault}
pub use Rattle.hazard.specs.declared.site.{Motion.Motion, Site.Site}

-- "the linear value between the published columns. Outside those ranges the end columns hold": the linear rule of every table
unfoldable pub between : Six → Six → ℕ → Fraction
between at f x =
    interp (row at.c1 f.c1)
    (row at.c2 f.c2 ∷ row at.c3 f.c3 ∷ row at.c4 f.c4 ∷ row at.c5 f.c5 ∷ row at.c6 f.c6 ∷ [])
    x

-- row j of a table, counted from 0 for ZA
abbrev pub row_at : Published → ℕ → Six
row_at t j = get_or t.rows j (six 0 0 0 0 0 0)

-- its value at the map coefficient x, in tenths, exact
abbrev pub exactly : Published → ℕ → ℕ → Fraction
exactly t j x = between t.columns (row_at t j) x

-- from tenths to "F in thousandths"
abbrev pub thousandths : Fraction → ℕ
thousandths f = f.num * 100 / f.den

unfoldable pub factor : Published → ℕ → ℕ → ℕ
factor t j x = thousandths (exactly t j x)

-- number k of the printed ones, counted from 0: "class by class from ZA to ZE, at each hundredth of S_S from 0.25 to 1.50, then likewise from ZA again for S_1 from 0.10 to 0.60, 885 numbers"
unfoldable pub entry_exact : ℕ → Fraction
entry_exact k =
    pick (ltb k 630) (exactly short_period (k / 126) (25 + k % 126)) (exactly one_second ((k - 630) / 51) (10 + (k - 630) % 51))

abbrev pub entry_of : ℕ → ℕ
entry_of k = thousandths (entry_exact k)

-- "ZF in a low-rise building takes ZE" (3.8): the row of a site class, 1 to 6 for ZA to ZF
abbrev pub row_of : ℕ → ℕ
row_of class = pick (eqb class 6) 4 (class - 1)

-- equation 2.2: S_DS = S_S F_S, S_D1 = S_1 F_1, of hundredths and thousandths, so "exact in hundred-thousandths"
unfoldable pub site_of : ℕ → Motion → Site
site_of class m =
    let fs = factor short_period (row_of class) m.ss in
    let f1 = factor one_second (row_of class) m.s1 in
    record { fs = fs; f1 = f1; sds = m.ss * fs; sd1 = m.s1 * f1 }

-- the map coefficients of one level of ground motion
abbrev pub motion : ℕ → ℕ → Motion
motion ss s1 = record { ss = ss; s1 = s1 }

unfoldable pub site_answer : ℕ → Motion → Result Site ℕ
site_answer class m = pick (eqb (site_fault class m) 0) (Ok (site_of class m)) (Err (site_fault class m))

-- what each case of the answer says: F_S, F_1, S_DS, S_D1
abbrev pub returned_site : Result Site ℕ → Returned
returned_site (Ok s) = found (s.fs ∷ s.f1 ∷ s.sds ∷ s.sd1 ∷ [])
returned_site (Err n) = refused n

abbrev pub site_returned : ℕ → ℕ → ℕ → Returned
site_returned class ss s1 = returned_site (site_answer class (motion ss s1))
