-- How many values the calls on a site and on a spectrum put to the front of `out`.
use Rattle.std.specs.Prelude.{ℕ}

abbrev pub site_count : ℕ
site_count = 4

abbrev pub spectrum_count : ℕ
spectrum_count = 1
