-- What is refused (document 02, N8): "Refused: 14, a map coefficient outside 0.01 to 9.99 or a period above 99,999 milliseconds, before anything else; a site class or use that docs don't
-- list is 3, after it".
use Rattle.std.specs.Prelude.{◌&&◌, ◌∷◌}
use Rattle.records.specs.Notation.{ℕ, Bool, [], leb, pick, in_order}
use Rattle.hazard.specs.declared.site.Motion.{Motion}

-- "outside 0.01 to 9.99", in hundredths
abbrev pub in_map : Motion → Bool
in_map m = (leb 1 m.ss && leb m.ss 999) && (leb 1 m.s1 && leb m.s1 999)

abbrev pub period_taken : ℕ → Bool
period_taken t = leb t 99_999

-- docs/SPECTRUM.md lists the site classes 1 to 6 and the uses 1 and 2
abbrev pub class_listed : ℕ → Bool
class_listed class = leb 1 class && leb class 6

abbrev pub use_listed : ℕ → Bool
use_listed usage = leb 1 usage && leb usage 2

-- 14 first, then 3
abbrev pub call_fault : Bool → Bool → ℕ
call_fault taken listed = in_order (pick taken 0 14 ∷ pick listed 0 3 ∷ [])

unfoldable pub site_fault : ℕ → Motion → ℕ
site_fault class m = call_fault (in_map m) (class_listed class)

unfoldable pub spectrum_fault : ℕ → ℕ → Motion → Motion → ℕ → ℕ
spectrum_fault class usage dd1 dd2 t = call_fault (in_map dd1 && (in_map dd2 && period_taken t)) (class_listed class && use_listed usage)
